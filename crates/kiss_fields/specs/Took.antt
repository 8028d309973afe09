-- What taking a field of a text says.
-- Assumes nothing.
use Rattle.std.specs.Prelude.{◌≡◌, List, ◌++◌, ℕ, suc, ◌+◌, ◌-◌, ◌≤◌, ◌<◌, Option, Some, None, Result, Ok, Err, length, get_or, take, drop}
use Rattle.kiss_law.specs.Text.{decimal}
use Rattle.kiss_law.specs.Fields.{FieldStops}
use Rattle.kiss_fields.specs.declared.Taken.{Taken}

-- the text has the first r bytes of w from `at` on, and not one more
pub record Agrees (x : List ℕ) (at : ℕ) (w : List ℕ) (r : ℕ) : Type 0 where
  pub within : r ≤ length w
  pub inside : at + r ≤ length x
  pub same : take r (drop at x) ≡ take r w
  pub ends : r < length w → at + r < length x → ¬ (get_or x (at + r) 0 ≡ get_or w r 0)

-- text v of a field stands from `at` on, up to `end`
pub record Stood (m : ℕ) (enc : ℕ → List ℕ) (x : List ℕ) (at v end : ℕ) : Type 0 where
  pub one : v < m
  pub is : drop at x ≡ enc v ++ drop end x
  pub behind : end ≡ at + length (enc v)
  pub inside : end ≤ length x

-- .. or the text leaves the field's texts at a place
pub record Left (m : ℕ) (enc : ℕ → List ℕ) (x : List ℕ) (at place : ℕ) : Type 0 where
  pub from : at ≤ place
  pub stops : FieldStops m enc (drop at x) (place - at)

abbrev pub Took : ℕ → (ℕ → List ℕ) → List ℕ → ℕ → Result Taken ℕ → Type 0
Took m enc x at (Ok taken) = Stood m enc x at taken.value taken.end
Took m enc x at (Err place) = Left m enc x at place

-- the best of the first a texts of a field, none of which stands from the start of y on
pub record Nearest (a m : ℕ) (enc : ℕ → List ℕ) (y : List ℕ) (e : ℕ) : Type 0 where
  pub inside : e ≤ length y
  pub near : ℕ
  pub one : near < m
  pub more : List ℕ
  pub begins : enc near ≡ take e y ++ more
  pub short : 1 ≤ length more
  pub first : e < length y → (b : ℕ) → b < a → (z : List ℕ) → ¬ (enc b ≡ take (suc e) y ++ z)

-- the digit that b is
abbrev pub Digit : ℕ → Option ℕ → Type 0
Digit b (Some d) = (d < 10) × (b ≡ 48 + d)
Digit b None = 48 ≤ b → 57 < b

-- the digits of v stand from `at` on, up to `end`
pub record ReadSo (x : List ℕ) (at v end : ℕ) : Type 0 where
  pub behind : end ≡ at + length (decimal v)
  pub inside : end ≤ length x
  pub is : drop at x ≡ decimal v ++ drop end x
