-- A part that was written is read back, and every other byte stays.
-- Assumes nothing.
use mathlib.Core.Bool.{Bool, true, false, cond}
use mathlib.Core.Path.{◌≡◌, refl, ◌∙◌, ap}
use mathlib.Core.List.{List, [], ◌∷◌}
use Prim.Native.Nat.{ℕ, zero, suc, ◌+◌, ◌*◌, ◌/◌, ◌%◌, ◌≤◌, ◌<◌}
use native.Mathlib.Omega.{arith}
use lib.Dec.{ltb, leb}
use lib.ListN.{length, get_or, set, length-set}
use lib.Seq.{get_or-set_same, get_or-set_other}
use borrow.Author.Tests.{lt-ltb, le-leb}
use Rattle.nodes.specs.Layout.{half_at, part_base, kind_at, kind_of}
use Rattle.parts.specs.Sum.{part_at, put_part}

-- q is not among the bytes from lo on and below hi
abbrev pub Off : ℕ → ℕ → ℕ → Type 0
Off q lo hi = lo ≤ q → hi ≤ q

-- u has the bytes from lo on and below hi as v has them
abbrev pub Agree : List ℕ → List ℕ → ℕ → ℕ → Type 0
Agree u v lo hi = (q : ℕ) → lo ≤ q → q < hi → get_or u q 0 ≡ get_or v q 0

-- ---- bytes written one behind the other, the first at o + j

unfoldable puts : List ℕ → ℕ → ℕ → List ℕ → List ℕ
puts t o j [] = t
puts t o j (x ∷ xs) = puts (set t (o + j) x) o (suc j) xs

puts_off : (t : List ℕ) (o j : ℕ) (xs : List ℕ) (q : ℕ) → Off q (o + j) (o + j + length xs) → get_or (puts t o j xs) q 0 ≡ get_or t q 0
unfolding puts
puts_off t o j [] q f = refl
puts_off t o j (x ∷ xs) q f = puts_off (set t (o + j) x) o (suc j) xs q (λ h. omega (arith, f (omega arith))) ∙ get_or-set_other t (o + j) q x 0 (λ e. omega (arith, f (omega arith)))

puts_at : (t : List ℕ) (o j : ℕ) (xs : List ℕ) (m q : ℕ) → m < length xs → o + j + length xs ≤ length t → q ≡ o + (j + m) → get_or (puts t o j xs) q 0 ≡ get_or xs m 0
unfolding puts
puts_at t o j [] m q h l e = absurd (omega arith)
puts_at t o j (x ∷ xs) zero q h l e = let g : q ≡ o + j = omega arith in puts_off (set t (o + j) x) o (suc j) xs q (λ k. absurd (omega arith)) ∙ rw g (get_or-set_same t (o + j) x 0 (omega arith))
puts_at t o j (x ∷ xs) (suc m) q h l e = puts_at (set t (o + j) x) o (suc j) xs m q (omega arith) (simp length-set (omega arith)) (omega arith)

-- ---- one part

module _ (t : List ℕ) (i k c p a b : ℕ) where
  -- the bytes behind the kind
  abbrev rest : List ℕ
  rest = c ∷ (p % 256) ∷ (p / 256) ∷ (a % 256) ∷ (a / 256) ∷ (b % 256) ∷ (b / 256) ∷ []

  abbrev all : List ℕ
  all = puts (set t (part_at i) k) (part_at i) 1 rest

  -- a part changes its own eight bytes or none
  pub put-off : (q : ℕ) → Off q (part_at i) (part_at i + 8) → get_or (put_part t i k c p a b) q 0 ≡ get_or t q 0
  unfolding put_part puts
  put-off q f = go (ltb i 1024) (leb (part_at i + 8) (length t))
    where
      go : (x y : Bool) → get_or (cond x (cond y all t) t) q 0 ≡ get_or t q 0
      go true true = puts_off (set t (part_at i) k) (part_at i) 1 rest q (λ h. omega (arith, f (omega arith))) ∙ get_or-set_other t (part_at i) q k 0 (λ e. omega (arith, f (omega arith)))
      go true false = refl
      go false y = refl

  module _ (low : i < 1024) (fits : part_at i + 8 ≤ length t) where
    written : put_part t i k c p a b ≡ all
    unfolding put_part puts
    written = rw (lt-ltb i 1024 low, le-leb (part_at i + 8) (length t) fits) refl

    module _ (u : List ℕ) (agree : Agree u (put_part t i k c p a b) (part_at i) (part_at i + 8)) where
      first : get_or u (part_at i) 0 ≡ k
      first =
          agree (part_at i) (omega arith) (omega arith) ∙ ap (λ (v : List ℕ). get_or v (part_at i) 0) written
          ∙ puts_off (set t (part_at i) k) (part_at i) 1 rest (part_at i) (λ h. absurd (omega arith)) ∙ get_or-set_same t (part_at i) k 0 (omega arith)

      later : (m q : ℕ) → m < 7 → q ≡ part_at i + (1 + m) → get_or u q 0 ≡ get_or rest m 0
      later m q h e = agree q (omega arith) (omega arith) ∙ ap (λ (v : List ℕ). get_or v q 0) written ∙ puts_at (set t (part_at i) k) (part_at i) 1 rest m q h (simp length-set (omega arith)) e

      same : i % 1024 ≡ i
      same = omega arith

      pub read-place : half_at u (part_base i + 2) ≡ p
      unfolding half_at
      read-place = rw same (omega (arith, later 1 (part_at i + 2) (omega arith) (omega arith), later 2 (part_at i + 2 + 1) (omega arith) (omega arith)))

      pub read-kind : kind_at u i ≡ kind_of k c a b
      unfolding kind_at half_at
      read-kind =
          let x : get_or u (part_at i + 4) 0 + get_or u (part_at i + 4 + 1) 0 * 256 ≡ a = omega (arith, later 3 (part_at i + 4) (omega arith) (omega arith), later 4 (part_at i + 4 + 1) (omega arith) (omega arith)) in
          let y : get_or u (part_at i + 6) 0 + get_or u (part_at i + 6 + 1) 0 * 256 ≡ b = omega (arith, later 5 (part_at i + 6) (omega arith) (omega arith), later 6 (part_at i + 6 + 1) (omega arith) (omega arith)) in
          rw same (rw (first, later 0 (part_at i + 1) (omega arith) (omega arith), x, y) refl)
