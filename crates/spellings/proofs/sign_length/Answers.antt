-- `spellings::sign_length` meets its contract: one byte from LONG_SIGNS on, and before it by the table, which passes its test.
-- Assumes nothing.
use mathlib.Core.Path.{refl}
use Rattle.file_law.specs.Answer.{every}
use Rattle.language.specs.Words.{bytes, signs, reserved}
use Rattle.spellings.specs.Spelled.{spellings, spelling}
use Rattle.spellings.specs.Search.{second}
use Rattle.spellings.proofs.Entries.{listed}
use Rattle.spellings.proofs.Fitting.{no_second, one_byte}
use Rattle.spellings.proofs.sign_length.Goals as goal

pub returns-then-k-ge-LONG_SIGNS : goal.returns-then-k-ge-LONG_SIGNS
returns-then-k-ge-LONG_SIGNS c = one_byte c.args.k c.requires 0 (no_second c.args.k c.if-k-ge-LONG_SIGNS.true c.requires) refl

pub length_in-requires : goal.length_in-requires
unfolding every bytes signs reserved spellings spelling second
length_in-requires c = (listed refl refl, c.if-k-ge-LONG_SIGNS.false)
