-- What a reader of tables says of a whole list of words, in the terms of its code.
-- Assumes nothing.
use mathlib.Core.Path.{◌≡◌, refl, sym, ◌∙◌, ap, subst}
use mathlib.Core.List.{List, [], ◌∷◌}
use Prim.Native.Nat.{ℕ, suc, ◌-◌, ◌≤◌, ◌<◌}
use native.Mathlib.Omega.{arith}
use lib.ListN.{length, drop, length-drop}
use Rattle.ll1.specs.Grammar.{Row, Grammar, sentence, refused, Answers}
use Rattle.ll1.specs.Goes.{done, stopped}
use Rattle.ll1.specs.Rows.{Codes, words, ReadTo, StopsAt}
use Rattle.ll1.proofs.Tests.{Claims, Passes}
use Rattle.ll1.proofs.Forced.{Good}
use Rattle.ll1.proofs.Then.{picks, read_of, goes-answers}

module _ {K P : Type 0} (C : Claims K P) (G : Grammar K P) (test : Passes C G) (D : Codes K P) (k : ℕ) (a : Row K P) (good : Good C a) (w : List ℕ) where
  length-words : (w : List ℕ) → length (words D w) ≡ length w
  length-words [] = refl
  length-words (x ∷ w) = ap suc (length-words w)

  place : (e : ℕ) → e ≤ length w → length (words D w) - length (drop e (words D w)) ≡ e
  place e h = omega (arith, length-drop e (words D w), length-words w)

  refused_at_lem : (e j : ℕ) (d : List ℕ) (v : List K) → e < length w → drop e (words D w) ≡ v → Answers G k a (words D w) (read_of C G (words D w) (done j d v)) → Answers G k a (words D w) (refused e)
  refused_at_lem e j d [] h q x = absurd (omega (arith, ap length q, length-drop e (words D w), length-words w))
  refused_at_lem e j d (t ∷ v) h q x = subst (λ (p : ℕ). Answers G k a (words D w) (refused p)) (ap (λ (l : List K). length (words D w) - length l) (sym q) ∙ place e (omega arith)) x

  pub all_read : (e : ℕ) → ReadTo D (picks C G) a w 0 k e → length w ≤ e → Answers G k a (words D w) sentence
  all_read e x h = go (drop e (words D w)) refl (goes-answers C G test k a (words D w) (done k x.rules (drop e (words D w))) good x.goes)
    where
      go : (v : List K) → drop e (words D w) ≡ v → Answers G k a (words D w) (read_of C G (words D w) (done k x.rules v)) → Answers G k a (words D w) sentence
      go [] q y = y
      go (t ∷ v) q y = absurd (omega (arith, ap length q, length-drop e (words D w), length-words w))

  pub some_read : (e : ℕ) → ReadTo D (picks C G) a w 0 k e → e < length w → Answers G k a (words D w) (refused e)
  some_read e x h = refused_at_lem e k x.rules (drop e (words D w)) h refl (goes-answers C G test k a (words D w) (done k x.rules (drop e (words D w))) good x.goes)

  pub stops_there : (e : ℕ) → StopsAt D (picks C G) a w 0 k e → Answers G k a (words D w) (refused e)
  stops_there e x = subst (λ (p : ℕ). Answers G k a (words D w) (refused p)) (place e x.fits) (goes-answers C G test k a (words D w) (stopped (drop e (words D w))) good x.goes)
