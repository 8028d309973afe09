-- Laws on the order of pairs, a state's number and an input.
-- Assumes nothing.
use mathlib.Core.Path.{◌≡◌, sym}
use mathlib.Core.Logic.{◌⊎◌, inl, inr}
use Prim.Native.Nat.{ℕ, ◌+◌, ◌<◌, ◌≤◌}
use native.Mathlib.Nat.{eq-or-lt_of_le}
use native.Mathlib.Decide.{dec_lt}
use native.Mathlib.Omega.{arith}
use Rattle.reach_law.specs.Numbering.{Before}

-- of two pairs one comes before the other, or they are one pair
pub data Compared (i x j y : ℕ) : Type 0 where
  earlier : Before i x j y → Compared i x j y
  later : Before j y i x → Compared i x j y
  one : i ≡ j → x ≡ y → Compared i x j y

pub compared : (i x j y : ℕ) → Compared i x j y
compared i x j y = by_state (dec_lt i j) (dec_lt j i)
  where
    by_input : i ≡ j → Dec (x < y) → Dec (y < x) → Compared i x j y
    by_input e (yes h) k = earlier (inr (e, h))
    by_input e (no h) (yes k) = later (inr (sym e, k))
    by_input e (no h) (no k) = one e (omega arith)

    by_state : Dec (i < j) → Dec (j < i) → Compared i x j y
    by_state (yes h) k = earlier (inl h)
    by_state (no h) (yes k) = later (inl k)
    by_state (no h) (no k) = by_input (omega arith) (dec_lt x y) (dec_lt y x)

pub before-low : {i x j y : ℕ} → Before i x j y → i ≤ j
before-low (inl h) = omega arith
before-low (inr h) = omega arith

pub none_before : {i x : ℕ} → Before i x 0 0 → ⊥
none_before (inl h) = omega arith
none_before (inr h) = omega arith

-- before the next input: at this one, or before it
pub before-next : {i x j y : ℕ} → Before i x j (y + 1) → ((i ≡ j) × (x ≡ y)) ⊎ Before i x j y
before-next (inl h) = inr (inl h)
before-next {i} {x} {j} {y} (inr (e, h)) = go (eq-or-lt_of_le {n = x} {m = y} (omega arith))
  where
    go : (x ≡ y) ⊎ (x < y) → ((i ≡ j) × (x ≡ y)) ⊎ Before i x j y
    go (inl d) = inl (e, d)
    go (inr d) = inr (inr (e, d))

-- before the next state: before the end of this one's inputs
pub before-row : {i x j y : ℕ} → x < y → Before i x (j + 1) 0 → Before i x j y
before-row {i} {x} {j} {y} h (inl k) = go (eq-or-lt_of_le {n = i} {m = j} (omega arith))
  where
    go : (i ≡ j) ⊎ (i < j) → Before i x j y
    go (inl d) = inr (d, h)
    go (inr d) = inl d
before-row h (inr k) = absurd (omega arith)
