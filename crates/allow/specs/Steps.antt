-- The walk of uses_law by numbers: sorts, states, and what is asked of a name.
-- Assumes nothing.
use Rattle.std.specs.Prelude.{Bool, true, cond, List, ℕ, zero, suc, ◌+◌, ◌-◌, eqb, ltb}
use Rattle.uses_law.specs.Uses.{Sort, a_name, changes, becomes, index, opens, closes, last, other, State, calm, named, changing, opened, changed, passing}
use Rattle.allow.specs.declared.Sort as coded
use Rattle.allow.specs.declared.Sort.TheVariants as sort
use Rattle.allow.specs.declared.State as behind
use Rattle.allow.specs.declared.State.TheVariants as state
use Rattle.allow.specs.declared.Asked.{Asked}
use Rattle.allow.specs.declared.Asked.TheVariants as ask

-- the numbers of what the code has
abbrev pub sort_number : coded.Sort → ℕ
sort_number sort.Other = 0
sort_number sort.Name = 1
sort_number sort.Changes = 2
sort_number sort.Becomes = 3
sort_number sort.Index = 4
sort_number sort.Opens = 5
sort_number sort.Closes = 6
sort_number sort.Last = 7

abbrev pub ask_number : Asked → ℕ
ask_number ask.Nothing = 0
ask_number ask.Name = 1
ask_number ask.NameOrBit = 2

abbrev pub state_number : behind.State → ℕ
state_number state.Nothing = 0
state_number state.Named = 1
state_number state.Changing = 2
state_number state.Opened = 3
state_number state.Changed = 4
state_number (state.Call inner) = suc (suc (suc (suc (suc inner))))

-- the number of a word's sort, by that of its kind
unfoldable pub sort_code : ℕ → ℕ
sort_code k =
    cond (eqb k 0) 1
    (cond (eqb k 37) 2 (cond (eqb k 38) 2 (cond (eqb k 39) 2
    (cond (eqb k 8) 3
    (cond (eqb k 16) 4
    (cond (eqb k 14) 5
    (cond (eqb k 15) 6
    (cond (eqb k 57) 7 0))))))))

-- the sort with a number
unfoldable pub sort_at : ℕ → Sort
sort_at zero = other
sort_at (suc zero) = a_name
sort_at (suc (suc zero)) = changes
sort_at (suc (suc (suc zero))) = becomes
sort_at (suc (suc (suc (suc zero)))) = index
sort_at (suc (suc (suc (suc (suc zero))))) = opens
sort_at (suc (suc (suc (suc (suc (suc zero)))))) = closes
sort_at (suc (suc (suc (suc (suc (suc (suc c))))))) = last

-- the state with a number, where the word before has these bytes
unfoldable pub state_at : ℕ → List ℕ → State
state_at zero x = calm
state_at (suc zero) x = named x
state_at (suc (suc zero)) x = changing
state_at (suc (suc (suc zero))) x = opened
state_at (suc (suc (suc (suc zero)))) x = changed x
state_at (suc (suc (suc (suc (suc d))))) x = passing d

-- what is asked of the word before: 0 nothing, 1 a name, 2 a name or a bit
unfoldable pub ask_code : ℕ → ℕ → ℕ
ask_code m c = cond (eqb m 1) (cond (eqb c 3) 1 (cond (eqb c 4) 1 0)) (cond (eqb m 4) (cond (eqb c 4) 1 2) 0)

-- the state behind a word in the parentheses of a call
unfoldable pub passed_code : ℕ → ℕ → ℕ
passed_code m c = cond (eqb c 5) (m + 1) (cond (eqb c 6) (cond (eqb m 5) 0 (m - 1)) m)

-- .. behind any word
unfoldable pub next_code : ℕ → ℕ → ℕ
next_code m c =
    cond (ltb 4 m) (passed_code m c)
    (cond (eqb m 2) 3
    (cond (eqb m 3) 4
    (cond (eqb c 1) 1
    (cond (eqb c 2) 2
    (cond (eqb m 1) (cond (eqb c 5) 5 0) 0)))))

module _ (indexable raisable : List ℕ → Bool) where
  -- whether these bytes are what was asked
  unfoldable pub asks : ℕ → List ℕ → Bool
  asks zero x = true
  asks (suc zero) x = indexable x
  asks (suc (suc n)) x = raisable x
