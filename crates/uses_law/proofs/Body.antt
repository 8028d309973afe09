-- The words of a procedure, with the `endproc` behind its body.
-- Assumes nothing.
use mathlib.Core.Path.{◌≡◌}
use mathlib.Core.List.{List, ◌∷◌}
use Prim.Native.Nat.{ℕ, zero, suc}
use native.Mathlib.Omega.{arith}
use Rattle.meaning.specs.Unexpanded as unexpanded
use Rattle.meaning.specs.Unexpanded.{Commands}
use Rattle.ll1.specs.Values.{make}
use Rattle.language.specs.Words.{name, the, Word}
use Rattle.language.specs.Grammar.{Procedure, Formals, Statements, csml}
use Rattle.language.specs.Trees.{Name, name_at, makes}
use Rattle.descent_law.specs.Told.{Told, Called}
use Rattle.descent_law.proofs.Statements.{Row, by_rows}

abbrev Text : Type 0
Text = List Word

-- a name, the formals, the statements, `endproc`
abbrev pub ProcedureEnds : ℕ → ℕ → Text → unexpanded.Procedure → Text → Type 0
ProcedureEnds f k ws v rest =
    (n : Word) × (x : Word) × (tail : Text) × (mid : Text) × (fs : List Name) × (b : Commands)
    × (ws ≡ n ∷ tail) × (n.kind ≡ name) × Told f Formals k tail fs mid × Told f Statements k mid b (x ∷ rest) × (x.kind ≡ the "endproc") × (v ≡ record { name = name_at n; formals = fs; body = b })

ends-row : Row Procedure (λ f k ws v rest i. ProcedureEnds f k ws v rest)
unfolding make csml makes
ends-row f k ws v rest zero h vs e (tail, a, b, (m₁, y₁, (m₂, y₂, (t₃, a₃, b₃, z)))) = (vs.0, vs.1.1.1.0, tail, m₁, vs.1.0, vs.1.1.0, a, b, y₁, rw (a₃, z) at y₂, b₃, e)
ends-row f k ws v rest (suc i) h vs e x = absurd (omega arith)

pub procedure-ends : (f k : ℕ) (ws : Text) (v : unexpanded.Procedure) (rest : Text) → Told f Procedure k ws v rest → (e : ℕ) × (i : ℕ) × Called Procedure ws i × ProcedureEnds e k ws v rest
procedure-ends = by_rows Procedure (λ f k ws v rest i. ProcedureEnds f k ws v rest) ends-row
