-- The index: each state is found from its hash on, and the walk to it meets no empty slot.
-- Assumes nothing.
use Rattle.std.specs.Prelude.{◌≡◌, List, ℕ, ◌+◌, ◌<◌, ◌≤◌, length, Result, Ok, Err}
use Rattle.rows.specs.Area.{homes, slots, most_rows, nexts_at, slot_in, row_in, next_in, hash_of}
use Rattle.clock.specs.declared.State.{State}

-- state i stands in a slot from h on, with no empty slot between
pub record Stands (l : List ℕ) (h i : ℕ) : Type 0 where
  pub at : ℕ
  pub from : h ≤ at
  pub inside : at < slots
  pub here : slot_in l at ≡ i + 1
  pub filled : (j : ℕ) → h ≤ j → j < at → ¬ (slot_in l j ≡ 0)

-- the index of the first n rows
pub record Indexed (l : List ℕ) (n : ℕ) : Type 0 where
  pub long : nexts_at ≤ length l
  pub few : n ≤ most_rows
  -- a walk ends: each state that was put in moved the first slot that is empty for good by one at most
  pub clear : (j : ℕ) → homes + n ≤ j + 1 → j < slots → slot_in l j ≡ 0
  pub sound : (j : ℕ) → j < slots → slot_in l j ≤ n
  pub whole : (i : ℕ) → i < n → Stands l (hash_of (row_in l i)) i

-- s is none of the first n, and slot j is the first empty one from its hash on
pub record Free (l : List ℕ) (n : ℕ) (s : State) (j : ℕ) : Type 0 where
  pub absent : (i : ℕ) → i < n → ¬ (row_in l i ≡ s)
  pub from : hash_of s ≤ j
  pub below : j < homes + n
  pub free : slot_in l j ≡ 0
  pub filled : (e : ℕ) → hash_of s ≤ e → e < j → ¬ (slot_in l e ≡ 0)

-- "found exactly if present"
abbrev pub Looked : List ℕ → ℕ → State → Result ℕ ℕ → Type 0
Looked l n s (Ok i) = (i < n) × (row_in l i ≡ s)
Looked l n s (Err j) = Free l n s j

-- s is row n now, the rows before it and the next numbers are as they were
pub record Added (l : List ℕ) (n : ℕ) (s : State) (k : List ℕ) : Type 0 where
  pub indexed : Indexed k (n + 1)
  pub long : length k ≡ length l
  pub new : row_in k n ≡ s
  pub old : (i : ℕ) → i < n → row_in k i ≡ row_in l i
  pub nexts : (i y : ℕ) → next_in k i y ≡ next_in l i y
