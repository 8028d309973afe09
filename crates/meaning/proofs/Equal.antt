-- Whether two states are one can be decided: "Two states are one exactly when all of this is equal".
-- Assumes nothing.
use mathlib.Core.Path.{◌≡◌, refl, sym, ap, ap₂}
use mathlib.Core.List.{List, [], ◌∷◌, cons≢nil}
use Prim.Native.Nat.{ℕ}
use mathlib.Core.Bool.{Bool, true, false}
use lib.Dec.{eqb}
use borrow.Author.Tests.{eqb-true, eqb-false}
use native.Mathlib.Omega.{arith}
use Rattle.meaning.specs.Clock.{Entry, nowhere, at}
use Rattle.meaning.specs.States.{State}

abbrev pub both : {A B C : Type 0} (f : A → B → C) (a a' : A) (b b' : B) → (f a b ≡ f a' b' → (a ≡ a') × (b ≡ b')) → Dec (a ≡ a') → Dec (b ≡ b') → Dec (f a b ≡ f a' b')
both f a a' b b' inj (yes p) (yes q) = yes (ap₂ f p q)
both f a a' b b' inj (yes p) (no q) = no (λ e. q (inj e).1)
both f a a' b b' inj (no p) d = no (λ e. p (inj e).0)

-- by the native test, which is answered at once on numerals
unfoldable pub dec_eq : (m n : ℕ) → Dec (m ≡ n)
dec_eq m n = go (eqb m n) refl
  where
    go : (t : Bool) → eqb m n ≡ t → Dec (m ≡ n)
    go true e = yes (eqb-true m n e)
    go false e = no (eqb-false m n e)

pub apart : {m n : ℕ} → nowhere ≡ at m n → ⊥
apart e = let z : ◌≡◌ {A = ℕ} 0 1 = cc in omega arith

unfoldable pub same_entry : (a b : Entry) → Dec (a ≡ b)
same_entry nowhere nowhere = yes refl
same_entry nowhere (at m l) = no apart
same_entry (at m l) nowhere = no (λ e. apart (sym e))
same_entry (at m l) (at n k) = both at m n l k (λ e. (cc, cc)) (dec_eq m n) (dec_eq l k)

unfoldable pub same_entries : (a b : List Entry) → Dec (a ≡ b)
same_entries [] [] = yes refl
same_entries [] (y ∷ t) = no (λ e. cons≢nil (sym e))
same_entries (x ∷ s) [] = no cons≢nil
same_entries (x ∷ s) (y ∷ t) = both (λ (a : Entry) (l : List Entry). a ∷ l) x y s t (λ e. (cc, cc)) (same_entry x y) (same_entries s t)

unfoldable pub same_state : (a b : State) → Dec (a ≡ b)
same_state a b =
    both (λ (es : List Entry) (w : ℕ). let s : State = record { entries = es; word = w } in s) a.entries b.entries a.word b.word
    (λ e. (ap (λ (s : State). s.entries) e, ap (λ (s : State). s.word) e))
    (same_entries a.entries b.entries) (dec_eq a.word b.word)
