-- Numbers as bytes and back: two bytes hold a number below 65536, four one below 2 ^ 32.
-- Assumes nothing.
use mathlib.Core.Path.{◌≡◌, sym, ap, ap₂, ◌∙◌}
use Prim.Native.Nat.{ℕ, ◌+◌, ◌*◌, ◌/◌, ◌%◌, ◌^◌, ◌<◌}
use native.Mathlib.Omega.{arith}
use mathlib.Core.List.{List, ◌++◌}
use lib.ListN.{get_or, drop}
use lib.Seq.{get_or-drop}
use lib.Pow.{shr-shr}
use Rattle.file_law.specs.Bytes.{low2, low4, word2, word4, bytes_of}

back2 : (n : ℕ) → n < 65536 → n % 256 + 256 * (n / 256 % 256) ≡ n
back2 n h = omega arith

-- the same with each digit a number of its own
join4 : {n x y z u d : ℕ} (r₁ r₂ r₃ : ℕ) → 256 * x + r₁ ≡ n → 256 * y + r₂ ≡ x → 256 * u + r₃ ≡ z → d ≡ u → y ≡ z → r₁ + 256 * r₂ + 65536 * r₃ + 16777216 * d ≡ n
join4 r₁ r₂ r₃ a b c m p = omega arith

back4 : (n : ℕ) → n < 2 ^ 32 → n % 256 + 256 * (n / 256 % 256) + 65536 * (n / 65536 % 256) + 16777216 * (n / 16777216 % 256) ≡ n
back4 n h =
    let p : n / 256 / 256 ≡ n / 65536 = shr-shr n 8 8 in
    let q : n / 65536 / 256 ≡ n / 16777216 = shr-shr n 16 8 in
    let small : n / 16777216 < 256 = omega arith in
    let m : n / 16777216 % 256 ≡ n / 16777216 = omega arith in
    let a : 256 * (n / 256) + n % 256 ≡ n = omega arith in
    let b : 256 * (n / 256 / 256) + n / 256 % 256 ≡ n / 256 = omega arith in
    let c : 256 * (n / 65536 / 256) + n / 65536 % 256 ≡ n / 65536 = omega arith in
    join4 (n % 256) (n / 256 % 256) (n / 65536 % 256) a b c (m ∙ sym q) p

-- ---- a word where a list goes on with its bytes

module _ (l : List ℕ) (at n : ℕ) (rest : List ℕ) where
  ahead : (v : List ℕ) → drop at l ≡ v → (j : ℕ) → get_or l (at + j) 0 ≡ get_or v j 0
  ahead v e j = sym (get_or-drop at l j 0) ∙ ap (λ (x : List ℕ). get_or x j 0) e

  here : at + 0 ≡ at
  here = omega arith

  pub word2-ahead : drop at l ≡ low2 n ++ rest → n < 65536 → word2 (bytes_of l) at ≡ n
  unfolding word2
  word2-ahead e h =
      ap₂ (λ (x y : ℕ). x + 256 * y) (ap (bytes_of l) (sym here) ∙ ahead (low2 n ++ rest) e 0) (ahead (low2 n ++ rest) e 1) ∙ back2 n h

  pub word4-ahead : drop at l ≡ low4 n ++ rest → n < 2 ^ 32 → word4 (bytes_of l) at ≡ n
  unfolding word4
  word4-ahead e h =
      let v = low4 n ++ rest in
      simp (ap (bytes_of l) (sym here) ∙ ahead v e 0, ahead v e 1, ahead v e 2, ahead v e 3) (back4 n h)
