-- `number_of`: a state of the list stands at its number, and any other has the list's length.
-- Assumes nothing.
use mathlib.Core.Path.{◌≡◌, sym}
use mathlib.Core.Logic.{◌⊎◌, inl, inr}
use mathlib.Core.List.Memᴰ
use mathlib.Core.List.{List, [], ◌∷◌, Memᴰ}
use Prim.Native.Nat.{ℕ, suc, ◌<◌, ◌≤◌}
use lib.ListN.{length, get_or}
use native.Mathlib.Omega.{arith}
use Rattle.reach_law.specs.Count.{Apart}
use Rattle.reach_law.specs.Search.{number_of}
use Rattle.reach_law.proofs.Lists.{get_or_mem, one_place}

module _ {S : Type 0} (dec : (a b : S) → Dec (a ≡ b)) where
  pub number-below : (L : List S) (s : S) → Memᴰ s L → number_of dec L s < length L
  unfolding number_of
  number-below [] s h = absurd (Memᴰ.not-nil h)
  number-below (a ∷ L) s h = go (dec a s) (Memᴰ.cases_cons h) (number-below L s)
    where
      go : (d : Dec (a ≡ s)) → (s ≡ a) ⊎ Memᴰ s L → (Memᴰ s L → number_of dec L s < length L)
          → elim d [ yes e ↦ 0 | no n ↦ suc (number_of dec L s) ] < suc (length L)
      go (yes e) c ih = omega arith
      go (no n) (inl e) ih = absurd (n (sym e))
      go (no n) (inr k) ih = omega (arith, ih k)

  pub number-new : (L : List S) (s : S) → length L ≤ number_of dec L s → ¬ Memᴰ s L
  number-new L s h k = omega (arith, number-below L s k)

  pub number_is : (L : List S) (s d : S) → number_of dec L s < length L → get_or L (number_of dec L s) d ≡ s
  unfolding number_of
  number_is [] s d h = absurd (omega arith)
  number_is (a ∷ L) s d h = go (dec a s) (number_is L s d) h
    where
      at : Dec (a ≡ s) → ℕ
      at c = elim c [ yes e ↦ 0 | no n ↦ suc (number_of dec L s) ]

      go : (c : Dec (a ≡ s)) → (number_of dec L s < length L → get_or L (number_of dec L s) d ≡ s) → at c < suc (length L) → get_or (a ∷ L) (at c) d ≡ s
      go (yes e) ih k = e
      go (no n) ih k = ih (omega arith)

  -- a place of a list without repetition is its state's number
  pub number_at : (L : List S) (i : ℕ) (d : S) → Apart L → i < length L → number_of dec L (get_or L i d) ≡ i
  number_at L i d uniq h =
      let k : number_of dec L (get_or L i d) < length L = number-below L (get_or L i d) (get_or_mem L i d h) in
      one_place L (number_of dec L (get_or L i d)) i d uniq k h (number_is L (get_or L i d) d k)
