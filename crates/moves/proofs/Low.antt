-- A step by the low byte of the next state: each outcome of the tests, in the order in which the code makes them.
-- Assumes nothing.
use mathlib.Core.Path.{◌≡◌, refl, sym, ap, ◌∙◌}
use Prim.Native.Nat.{ℕ, ◌^◌, ◌%◌, ◌≤◌, ◌<◌}
use native.Mathlib.Omega.{arith}
use mathlib.Core.Bool.{Bool, true, false}
use lib.Dec.{ltb}
use borrow.Author.Tests.{ltb-true, ltb-false}
use Rattle.file_law.specs.Answer.{refuses, gives, bad_content, unless}
use Rattle.file_law.specs.Table.{most_states}
use Rattle.file_law.specs.Reading.{next_at, clear_at}
use Rattle.file_law.specs.Stepping.{stands_in, stand_answer, move_answer}
use Rattle.file_law.proofs.Answers.{never}
use Rattle.file_law.proofs.Steps.{move_beyond, move_on}

-- the state and the input are in the table, and the next state's low byte is read
pub record Low (b : ℕ → ℕ) (k n state input next : ℕ) : Type 0 where
  pub few : n ≤ most_states
  pub state_in : state < n
  pub input_in : input < 2 ^ k
  pub low : next ≡ next_at b k state input % 256

-- a state that is refused is refused as bad content
content_only : (b : ℕ → ℕ) (k o state : ℕ) {number at : ℕ} → refuses number at ≡ stand_answer b k o state → refuses bad_content 0 ≡ stand_answer b k o state
unfolding stand_answer
content_only b k o state {number} {at} = by_test (clear_at b k o state)
  where
    by_test : (t : Bool) → refuses number at ≡ unless t (refuses bad_content 0) (gives (stands_in b k state)) → refuses bad_content 0 ≡ unless t (refuses bad_content 0) (gives (stands_in b k state))
    by_test true e = absurd (never (sym e))
    by_test false e = refl

module _ {b : ℕ → ℕ} {k n state input next : ℕ} (l : Low b k n state input next) (o : ℕ) where
  out : n ≤ next_at b k state input → refuses bad_content 0 ≡ move_answer b k o n state input
  out h = sym (move_beyond b k o state n input l.state_in l.input_in h)

  pub on : next_at b k state input ≡ next → next < n → stand_answer b k o next ≡ move_answer b k o n state input
  on e h = ap (stand_answer b k o) (sym e) ∙ sym (move_on b k o state n input l.state_in l.input_in (omega arith))

  pub beyond : n ≤ next → refuses bad_content 0 ≡ move_answer b k o n state input
  beyond h = out (omega arith)

  pub high : (next_at b k state input ≡ next → ⊥) → refuses bad_content 0 ≡ move_answer b k o n state input
  high h = out (omega arith)

  pub spare : {number at : ℕ} → refuses number at ≡ stand_answer b k o next → refuses number at ≡ move_answer b k o n state input
  spare e = e ∙ sym (content_only b k o next e) ∙ by_test (ltb (next_at b k state input) n) refl
    where
      by_test : (t : Bool) → ltb (next_at b k state input) n ≡ t → refuses bad_content 0 ≡ move_answer b k o n state input
      by_test true t = let h : next_at b k state input < n = ltb-true _ _ t in content_only b k o next e ∙ on (omega arith) (omega arith)
      by_test false t = out (ltb-false _ _ t)
