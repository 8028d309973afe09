-- What a reader of the tables says of a whole program, in the terms of its code: w are the numbers of the words' kinds, e a place in w.
-- Assumes nothing.
use mathlib.Core.List.{List}
use Prim.Native.Nat.{ℕ, ◌≤◌, ◌<◌}
use lib.ListN.{length}
use Rattle.ll1.specs.Grammar.{sentence, refused, Answers}
use Rattle.ll1.specs.Rows.{words, ReadTo, StopsAt}
use Rattle.ll1.proofs.Reading as reading
use Rattle.language.specs.Grammar.{csml, most_levels, whole_program}
use Rattle.language.proofs.Claims.{claims, passes, program-good}
use Rattle.grammar_law.specs.Codes.{codes, choice}

module _ (w : List ℕ) (e : ℕ) where
  pub all_read : ReadTo codes choice whole_program w 0 most_levels e → length w ≤ e → Answers csml most_levels whole_program (words codes w) sentence
  all_read = reading.all_read claims csml passes codes most_levels whole_program program-good w e

  pub some_read : ReadTo codes choice whole_program w 0 most_levels e → e < length w → Answers csml most_levels whole_program (words codes w) (refused e)
  some_read = reading.some_read claims csml passes codes most_levels whole_program program-good w e

  pub stops_there : StopsAt codes choice whole_program w 0 most_levels e → Answers csml most_levels whole_program (words codes w) (refused e)
  stops_there = reading.stops_there claims csml passes codes most_levels whole_program program-good w e
