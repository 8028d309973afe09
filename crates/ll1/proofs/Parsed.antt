-- Words are read, with as many steps as that takes: the derivation of a sentence, or where they are refused and that they are. It computes.
-- Assumes nothing.
use mathlib.Core.Logic.{◌⊎◌, inl, inr}
use mathlib.Core.List.{List}
use mathlib.Core.Option.{Option, none, some}
use Prim.Native.Nat.{ℕ, ◌-◌}
use lib.ListN.{length}
use Rattle.ll1.specs.Grammar.{Row, Grammar, Sentence, Refused, Answers}
use Rattle.ll1.proofs.Tests.{Claims, Passes}
use Rattle.ll1.proofs.Forced.{Good}
use Rattle.ll1.proofs.Parser.{Answer, ok, bad, deep, tired, run}
use Rattle.ll1.proofs.Ends.{Done, finds}
use Rattle.ll1.proofs.Answered.{answer_of, computed}
use Rattle.ll1.proofs.Derived.{derived, Accepts, Agrees, agrees}

module _ {K P : Type 0} (C : Claims K P) (G : Grammar K P) (test : Passes C G) (most : ℕ) (a : Row K P) (w : List K) where
  -- a sentence, or the number of the word where the words are refused
  abbrev pub Parsed : Type 0
  Parsed = Sentence G most a w ⊎ ((e : ℕ) × Refused G most a w e)

  -- as many steps as the parser takes
  abbrev pub steps : ℕ
  steps = (finds C G test w a most).0

  unfoldable pub refused_by : (o : Answer K) → Done o → ¬ Accepts C G test o → Answers G most a w (answer_of C G test most a w o) → (e : ℕ) × Refused G most a w e
  refused_by (ok d) f n x = absurd (n tt)
  refused_by (bad rest) f n x = (length w - length rest, x)
  refused_by (deep rest) f n x = (length w - length rest, x)
  refused_by tired f n x = absurd f

  unfoldable pub parsed_by : Good C a → (o : Option (Sentence G most a w)) → Agrees C G test (run C G steps most a w) o → Parsed
  parsed_by g (some d) h = inl d
  parsed_by g none h =
      let done : Done (run C G steps most a w) = (finds C G test w a most).1 in
      inr (refused_by (run C G steps most a w) done h (computed C G test most a steps w g done))

  unfoldable pub parsed : Good C a → Parsed
  parsed g = parsed_by g (derived C G test steps most a w) (agrees C G test steps most a w)
