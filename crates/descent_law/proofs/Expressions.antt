-- What an expression's words come to, row by row: for every list of strengths.
-- Assumes nothing.
use mathlib.Core.Path.{◌≡◌, subst}
use mathlib.Core.List.{List, [], ◌∷◌, map}
use mathlib.Core.Option.{Option, none, some}
use Prim.Native.Nat.{ℕ, zero, suc, ◌<◌}
use Prim.Native.String.{String}
use native.Mathlib.Nat.{le_of_suc-le-suc}
use native.Mathlib.Omega.{arith}
use lib.ListN.{length, get_or, get_elem?}
use Rattle.meaning.specs.Unexpanded.{Term}
use Rattle.ll1.specs.Values.{Values, make}
use Rattle.language.specs.Words.{Word}
use Rattle.language.specs.Grammar.{Tier, Further, Index, ◌▸◌, ◌▹◌, ε, Line, Strength, between, before, binding, tier, further, csml}
use Rattle.language.specs.Trees.{Val, makes_operators, makes_further, makes_tier, makes}
use Rattle.descent_law.specs.Gives.{RowGives, Gives}
use Rattle.descent_law.specs.Told.{kind_of, Told, Called, OperandRow, TierRow, FurtherRow, IndexRow}

module _ (f : ℕ) where
  abbrev Rows : (a : Line) → ℕ → List Word → Values Word Val a → List Word → Type 0
  Rows = RowGives Word Val kind_of (Told f)

  operand_row : (n k : ℕ) (ws : List Word) (v : Term) (rest : List Word) (i : ℕ) (h : i < length (tier n none)) (vs : Values Word Val (get_or (tier n none) i []))
      → v ≡ make Word Val (Term) (tier n none) i h (makes_tier n none) vs → Rows (get_or (tier n none) i []) k ws vs rest → OperandRow f k ws v rest i
  unfolding make
  operand_row n k ws v rest zero h vs e (tail, a, b, (mid, y, z)) = (vs.0, tail, vs.1.0, a, subst (λ (l : List Word). Told f Index k tail vs.1.0 l) z y, e)
  operand_row n k ws v rest (suc zero) h vs e (tail, a, b, z) = (vs.0, rw (← z) a, b, e)
  operand_row n k ws v rest (suc (suc zero)) h vs e (tail, a, b, z) = (vs.0, rw (← z) a, e)
  operand_row n k ws v rest (suc (suc (suc zero))) h vs e (tail, a, b, z) = (vs.0, rw (← z) a, e)
  operand_row n k ws v rest (suc (suc (suc (suc zero)))) h vs e (tail, a, b, (m, q, (t₁, a₁, b₁, (mid, y, (t₂, a₂, b₂, z))))) =
      (vs.0, vs.1.0, vs.1.1.1.0, m, t₁, vs.1.1.0, rw a₁ at a, q, rw (a₂, z) at y, e)
  operand_row n k ws v rest (suc (suc (suc (suc (suc zero))))) h vs e (m, q, (t₁, a₁, b₁, (mid, y, (t₂, a₂, b₂, z)))) =
      (vs.0, vs.1.1.0, m, t₁, vs.1.0, a₁, q, rw (a₂, z) at y, e)
  operand_row n k ws v rest (suc (suc (suc (suc (suc (suc i)))))) h vs e x = absurd (omega arith)

  tier-row : (n k : ℕ) (ws : List Word) (v : Term) (rest : List Word) (o : Option Strength) (i : ℕ) (h : i < length (tier n o)) (vs : Values Word Val (get_or (tier n o) i []))
      → v ≡ make Word Val (Term) (tier n o) i h (makes_tier n o) vs → Rows (get_or (tier n o) i []) k ws vs rest → TierRow f n k ws v rest o i
  unfolding make
  tier-row n k ws v rest none i h vs e x = operand_row n k ws v rest i h vs e x
  tier-row n k ws v rest (some (between ops)) zero h vs e (mid, y, (m₁, y₁, z)) = (mid, vs.0, vs.1.0, y, rw z at y₁, e)
  tier-row n k ws v rest (some (between ops)) (suc i) h vs e x = absurd (omega arith)
  tier-row n k ws v rest (some (before op)) zero h vs e (m, q, (tail, a, b, (mid, y, z))) = (vs.0, m, tail, vs.1.0, a, q, rw z at y, e)
  tier-row n k ws v rest (some (before op)) (suc zero) h vs e (mid, y, z) = rw (e, ← z) y
  tier-row n k ws v rest (some (before op)) (suc (suc i)) h vs e x = absurd (omega arith)

  abbrev op_row : ℕ → String → Line
  op_row n op = op ▸ Tier (suc n) ▹ Further n ▹ ε

  ops_row : (n k : ℕ) (ws : List Word) (g : Term → Term) (rest : List Word) (ops : List String) (c : ℕ) (h : c < length (map (op_row n) ops)) (vs : Values Word Val (get_or (map (op_row n) ops) c []))
      → g ≡ make Word Val (Term → Term) (map (op_row n) ops) c h (makes_operators n ops) vs → Rows (get_or (map (op_row n) ops) c []) k ws vs rest → FurtherRow f n k ws g rest (suc c)
  unfolding make makes_operators
  ops_row n k ws g rest [] c h vs e x = absurd (omega arith)
  ops_row n k ws g rest (op ∷ ops) zero h vs e (tail, a, b, (mid, y, (m₁, y₁, z))) = (op, vs.0, tail, mid, vs.1.0, vs.1.1.0, a, b, y, rw z at y₁, e)
  ops_row n k ws g rest (op ∷ ops) (suc c) h vs e x = ops_row n k ws g rest ops c (le_of_suc-le-suc h) vs e x

  further-row : (n k : ℕ) (ws : List Word) (g : Term → Term) (rest : List Word) (o : Option Strength) (i : ℕ) (h : i < length (further n o)) (vs : Values Word Val (get_or (further n o) i []))
      → g ≡ make Word Val (Term → Term) (further n o) i h (makes_further n o) vs → Rows (get_or (further n o) i []) k ws vs rest → FurtherRow f n k ws g rest i
  unfolding make
  further-row n k ws g rest none zero h vs e x = (e, x)
  further-row n k ws g rest none (suc i) h vs e x = absurd (omega arith)
  further-row n k ws g rest (some (between ops)) zero h vs e x = (e, x)
  further-row n k ws g rest (some (between ops)) (suc c) h vs e x = ops_row n k ws g rest ops c (le_of_suc-le-suc h) vs e x
  further-row n k ws g rest (some (before op)) zero h vs e x = (e, x)
  further-row n k ws g rest (some (before op)) (suc i) h vs e x = absurd (omega arith)

-- ---- the three parts

pub tier-told : (f n k : ℕ) (ws : List Word) (v : Term) (rest : List Word) → Told f (Tier n) k ws v rest → (e : ℕ) × (i : ℕ) × Called (Tier n) ws i × TierRow e n k ws v rest (get_elem? binding n) i
unfolding Gives csml makes
tier-told zero n k ws v rest x = absurd x
tier-told (suc f) n k ws v rest (i, h, p, vs, e, x) = (f, i, p, tier-row f n k ws v rest (get_elem? binding n) i h vs e x)

pub further-told : (f n k : ℕ) (ws : List Word) (g : Term → Term) (rest : List Word) → Told f (Further n) k ws g rest → (e : ℕ) × (i : ℕ) × Called (Further n) ws i × FurtherRow e n k ws g rest i
unfolding Gives csml makes
further-told zero n k ws g rest x = absurd x
further-told (suc f) n k ws g rest (i, h, p, vs, e, x) = (f, i, p, further-row f n k ws g rest (get_elem? binding n) i h vs e x)

index_row : (f k : ℕ) (ws : List Word) (j : Option ℕ) (rest : List Word) (i : ℕ) (h : i < length (csml Index)) (vs : Values Word Val (get_or (csml Index) i []))
    → j ≡ make Word Val (Option ℕ) (csml Index) i h (makes Index) vs → Rows f (get_or (csml Index) i []) k ws vs rest → IndexRow ws j rest i
unfolding make csml makes
index_row f k ws j rest zero h vs e x = (e, x)
index_row f k ws j rest (suc zero) h vs e (t₁, a₁, b₁, (t₂, a₂, b₂, (t₃, a₃, b₃, z))) = (vs.0, vs.1.0, vs.1.1.0, rw (a₂, a₃, z) at a₁, b₂, e)
index_row f k ws j rest (suc (suc i)) h vs e x = absurd (omega arith)

pub index_told : (f k : ℕ) (ws : List Word) (j : Option ℕ) (rest : List Word) → Told f Index k ws j rest → (i : ℕ) × Called Index ws i × IndexRow ws j rest i
unfolding Gives
index_told zero k ws j rest x = absurd x
index_told (suc f) k ws j rest (i, h, p, vs, e, x) = (i, p, index_row f k ws j rest i h vs e x)
