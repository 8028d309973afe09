-- Bytes listed: a list is what its places list, and a word's bytes are the bytes that it was made of.
-- Assumes nothing.
use mathlib.Core.Path.{◌≡◌, refl, sym, ap, ap₂, ◌∙◌}
use Prim.Native.Nat.{ℕ, zero, suc, ◌+◌, ◌*◌, ◌/◌, ◌%◌, ◌≤◌, ◌<◌}
use native.Mathlib.Omega.{arith}
use native.Mathlib.Numerals.{add-one, add-two, add-three}
use mathlib.Core.List.{List, [], ◌∷◌, ◌++◌}
use lib.ListN.{length, get_or, take, drop}
use lib.Seq.{drop-cons, take-length}
use Rattle.file_law.specs.Answer.{listed}
use Rattle.file_law.specs.Bytes.{low2, low4, word2, word4, bytes_of}
use Rattle.file_law.proofs.Every.{get_or-listed}

pub listed-none : {A : Type 0} (g : ℕ → A) (i : ℕ) → listed g 0 i ≡ []
unfolding listed
listed-none g i = refl

pub listed_at : {A : Type 0} (g : ℕ → A) (n : ℕ) (d : A) (j : ℕ) → j < n → get_or (listed g n 0) j d ≡ g j
listed_at g n d j h = let e : 0 + j ≡ j = omega arith in get_or-listed g n 0 d j h ∙ ap g e

pub listed-append : {A : Type 0} (g : ℕ → A) (n m i : ℕ) → listed g (n + m) i ≡ listed g n i ++ listed g m (i + n)
unfolding listed
listed-append g zero m i =
    let e : 0 + m ≡ m = omega arith in
    let z : i ≡ i + 0 = omega arith in
    ap₂ (λ (x y : ℕ). listed g x y) e z
listed-append g (suc n) m i =
    let e : suc n + m ≡ suc (n + m) = omega arith in
    let z : suc i + n ≡ i + suc n = omega arith in
    ap (λ (x : ℕ). listed g x i) e ∙ ap (λ l. g i ∷ l) (listed-append g n m (suc i) ∙ ap (λ (x : ℕ). listed g n (suc i) ++ listed g m x) z)

pub take-listed : (l : List ℕ) (n at : ℕ) → at + n ≤ length l → take n (drop at l) ≡ listed (bytes_of l) n at
unfolding listed
take-listed l zero at h = refl
take-listed l (suc n) at h =
    ap (take (suc n)) (drop-cons l at 0 (omega arith)) ∙ ap (λ (x : List ℕ). get_or l at 0 ∷ x) (take-listed l n (suc at) (omega arith))

pub all_listed : (l : List ℕ) → l ≡ listed (bytes_of l) (length l) 0
all_listed l = sym (take-length l) ∙ take-listed l (length l) 0 (omega arith)

-- ---- a word of bytes

digits2 : {x y : ℕ} → x < 256 → y < 256 → low2 (x + 256 * y) ≡ x ∷ y ∷ []
digits2 {x} {y} hx hy = ap₂ (λ (a b : ℕ). a ∷ b ∷ []) (omega arith) (omega arith)

low : (x y : ℕ) → x < 256 → (x + 256 * y) % 256 ≡ x
low x y h = omega arith

digits4 : {x y z u : ℕ} → x < 256 → y < 256 → z < 256 → u < 256 → low4 (x + 256 * y + 65536 * z + 16777216 * u) ≡ x ∷ y ∷ z ∷ u ∷ []
digits4 {x} {y} {z} {u} hx hy hz hu =
    let n = x + 256 * y + 65536 * z + 16777216 * u in
    let p : n ≡ x + 256 * (y + 256 * (z + 256 * u)) = omega arith in
    let q : n / 256 ≡ y + 256 * (z + 256 * u) = omega arith in
    let r : n / 65536 ≡ z + 256 * u = omega arith in
    let h : n / 16777216 % 256 ≡ u = omega arith in
    let e = ap (λ (m : ℕ). m % 256) p ∙ low x (y + 256 * (z + 256 * u)) hx in
    let f = ap (λ (m : ℕ). m % 256) q ∙ low y (z + 256 * u) hy in
    let g = ap (λ (m : ℕ). m % 256) r ∙ low z u hz in
    λ i. e i ∷ f i ∷ g i ∷ h i ∷ []

module _ (b : ℕ → ℕ) (bytes : (j : ℕ) → b j < 256) (at : ℕ) where
  pub low2-word : low2 (word2 b at) ≡ listed b 2 at
  unfolding word2 listed
  low2-word = digits2 (bytes at) (bytes (at + 1)) ∙ simp add-one

  pub low4-word : low4 (word4 b at) ≡ listed b 4 at
  unfolding word4 listed
  low4-word = digits4 (bytes at) (bytes (at + 1)) (bytes (at + 2)) (bytes (at + 3)) ∙ simp (add-one, add-two, add-three)
