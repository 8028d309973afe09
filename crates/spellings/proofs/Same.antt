-- The laws of the same bytes.
-- Assumes nothing.
use mathlib.Core.Bool.{Bool, true, false, ◌&&◌}
use mathlib.Core.Path.{◌≡◌, refl, sym, ◌∙◌, ap, ap₂}
use mathlib.Core.List.{List, [], ◌∷◌}
use Prim.Native.Nat.{ℕ, zero, suc}
use native.Mathlib.Decide.{ℕ_discrete}
use native.Mathlib.Omega.{arith}
use lib.ListN.{length, take}
use lib.Dec.{eqb}
use borrow.Author.Tests.{eq-eqb, ne_eqb, eqb-true}
use Rattle.std.specs.Cmp.Lexicographic.{pointwise}
use Rattle.ll1.proofs.Sets.{clash}
use Rattle.language.specs.Words.{same}
use Rattle.language.specs.Scan.{begins}

pub same_self : (w : List ℕ) → same w w ≡ true
unfolding same
same_self [] = refl
same_self (x ∷ w) = rw (eq-eqb x x refl) (same_self w)

pub same_true : (v w : List ℕ) → same v w ≡ true → v ≡ w
unfolding same
same_true [] [] e = refl
same_true [] (y ∷ w) e = clash (sym e)
same_true (x ∷ v) [] e = clash (sym e)
same_true (x ∷ v) (y ∷ w) e = go (eqb x y) refl (same_true v w) e
  where
    go : (b : Bool) → eqb x y ≡ b → (same v w ≡ true → v ≡ w) → b && same v w ≡ true → x ∷ v ≡ y ∷ w
    go true f more g = ap₂ ◌∷◌ (eqb-true x y f) (more g)
    go false f more g = clash (sym g)

eqb_swap : (x y : ℕ) → eqb x y ≡ eqb y x
eqb_swap x y = go (ℕ_discrete x y)
  where
    go : Dec (x ≡ y) → eqb x y ≡ eqb y x
    go (yes e) = eq-eqb x y e ∙ sym (eq-eqb y x (sym e))
    go (no e) = ne_eqb x y e ∙ sym (ne_eqb y x (λ f. e (sym f)))

-- as many bytes are the same exactly if the text goes on with them
pub same-begins : (n : ℕ) (l w : List ℕ) → length (take n l) ≡ length w → same (take n l) w ≡ begins l w
unfolding same begins
same-begins zero l [] h = refl
same-begins zero l (x ∷ w) h = absurd (omega arith)
same-begins (suc n) [] [] h = refl
same-begins (suc n) [] (x ∷ w) h = absurd (omega arith)
same-begins (suc n) (y ∷ l) [] h = absurd (omega arith)
same-begins (suc n) (y ∷ l) (x ∷ w) h = ap₂ ◌&&◌ (eqb_swap y x) (same-begins n l w (omega arith))

-- bytes of different counts differ
pub same_not : (v w : List ℕ) → ¬ (length v ≡ length w) → same v w ≡ false
unfolding same
same_not [] [] h = absurd (h refl)
same_not [] (y ∷ w) h = refl
same_not (x ∷ v) [] h = refl
same_not (x ∷ v) (y ∷ w) h = go (eqb x y) (same_not v w (λ e. h (ap suc e)))
  where
    go : (b : Bool) → same v w ≡ false → b && same v w ≡ false
    go true q = q
    go false q = refl

-- the library compares so
pub same-pointwise : (v w : List ℕ) → pointwise eqb v w ≡ same v w
unfolding same
same-pointwise [] [] = refl
same-pointwise [] (y ∷ w) = refl
same-pointwise (x ∷ v) [] = refl
same-pointwise (x ∷ v) (y ∷ w) = ap (λ (b : Bool). eqb x y && b) (same-pointwise v w)
