-- What a call answers, and the tests that its answer is made of.
-- Assumes nothing.
use Rattle.std.specs.Prelude.{ℕ, zero, suc, Bool, true, false, List, [], ◌∷◌}

-- what a call answers: a value, or a refusal's number and place
pub data Answer (A : Type 0) : Type 0 where
  gives : A → Answer A
  refuses : ℕ → ℕ → Answer A

-- F5: what is broken in a table file: its length
abbrev pub bad_length : ℕ
bad_length = 21

-- .. the number or the total of a block
abbrev pub bad_number : ℕ
bad_number = 22

-- .. the check of a block
abbrev pub bad_check : ℕ
bad_check = 23

-- .. or all else
abbrev pub bad_content : ℕ
bad_content = 24

-- F7: a state or an input that the table does not have
abbrev pub not_in_table : ℕ
not_in_table = 14

-- unless the test holds, the refusal; else what comes next
abbrev pub unless : {A : Type 0} → Bool → A → A → A
unless true refusal next = next
unless false refusal next = refusal

abbrev pub both : Bool → Bool → Bool
both true b = b
both false b = false

-- the test holds of each of the n numbers from i on
unfoldable pub every : (ℕ → Bool) → ℕ → ℕ → Bool
every p zero i = true
every p (suc n) i = both (p i) (every p n (suc i))

-- the first of the n numbers from i on of which the test does not hold, or the number after them
unfoldable pub first_not : (ℕ → Bool) → ℕ → ℕ → ℕ
first_not p zero i = i
first_not p (suc n) i = unless (p i) i (first_not p n (suc i))

-- the values of g at the n numbers from i on
unfoldable pub listed : {A : Type 0} → (ℕ → A) → ℕ → ℕ → List A
listed g zero i = []
listed g (suc n) i = g i ∷ listed g n (suc i)
