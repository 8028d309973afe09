-- Which words are operators between two operands, by the number of their kind: | != == > < & + - * / %.
-- Assumes nothing.
use Rattle.std.specs.Prelude.{Bool, true, false, cond, ℕ, eqb, leb, ltb}

unfoldable pub operator_kind : ℕ → Bool
operator_kind k = cond (eqb k 3) true (cond (eqb k 4) true (cond (eqb k 6) true (cond (ltb k 18) false (leb k 25))))
