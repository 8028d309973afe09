-- `kiss_put::decimal` meets its contract: the digits of a tenth, and the last one. The measure is the number.
-- Assumes nothing.
use Rattle.kiss_put.proofs.+decimal.Given as goal

abbrev pub decreases-decimal : goal.decreases-decimal
decreases-decimal l = l.n
