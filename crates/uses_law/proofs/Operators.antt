-- Operators are no words that matter to a walk: one equation for each strength, so in whatever order the strengths stand.
-- Assumes nothing.
use mathlib.Core.Path.{◌≡◌, ap}
use mathlib.Core.List.{List, [], ◌∷◌, map}
use mathlib.Core.Option.{Option, none, some}
use Prim.Native.Nat.{ℕ, zero, suc}
use Prim.Native.String.{String}
use lib.ListN.{length, get_or, get_elem?, drop, replicate}
use Rattle.language.specs.Words.{Kind, the}
use Rattle.language.specs.Grammar.{Strength, between, before}

-- what the walk takes a word for, and what it takes those for that do not matter
module _ (Sort : Type 0) (sort_of : Kind → Sort) (other : Sort) where
  abbrev pub AllOther : List String → Type 0
  AllOther ops = map (λ op. sort_of (the op)) ops ≡ replicate (length ops) other

  pub first-other : (op : String) (ops : List String) → AllOther (op ∷ ops) → sort_of (the op) ≡ other
  first-other op ops o = ap (λ (l : List Sort). get_or l 0 other) o

  pub later-other : (op : String) (ops : List String) → AllOther (op ∷ ops) → AllOther ops
  later-other op ops o = ap (λ (l : List Sort). drop 1 l) o

  abbrev pub Quiet : Option Strength → Type 0
  Quiet none = Unit
  Quiet (some (between ops)) = AllOther ops
  Quiet (some (before op)) = sort_of (the op) ≡ other

  abbrev pub AllQuiet : List Strength → Type 0
  AllQuiet [] = Unit
  AllQuiet (b ∷ bs) = Quiet (some b) × AllQuiet bs

  pub quiet_at : (l : List Strength) (n : ℕ) → AllQuiet l → Quiet (get_elem? l n)
  quiet_at [] n x = tt
  quiet_at (b ∷ l) zero x = x.0
  quiet_at (b ∷ l) (suc n) x = quiet_at l n x.1
