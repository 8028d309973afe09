-- What the words of a statement come to, row by row.
-- Assumes nothing.
use mathlib.Core.Path.{◌≡◌}
use mathlib.Core.List.{List, []}
use Prim.Native.Nat.{ℕ, zero, suc, ◌<◌}
use native.Mathlib.Omega.{arith}
use lib.ListN.{length, get_or}
use Rattle.meaning.specs.Tree as tree
use Rattle.meaning.specs.Unexpanded.{Term, Command, Commands, Tests, Strands}
use Rattle.ll1.specs.Values.{Values, make}
use Rattle.language.specs.Words.{Word}
use Rattle.language.specs.Grammar.{Part, Statements, AfterStatement, NextStatement, Statement, Else, Cases, Branches, Target, AfterName, Actuals, MoreActuals, csml}
use Rattle.language.specs.Trees.{Name, Val, makes}
use Rattle.descent_law.specs.Gives.{RowGives, Gives}
use Rattle.descent_law.specs.Told.{kind_of, Told, Called}
use Rattle.descent_law.specs.Rows.{StatementsRow, AfterRow, NextRow, ElseRow, CasesRow, BranchesRow, TargetRow, AfterNameRow, ActualsRow, MoreActualsRow, StatementRow}

abbrev Text : Type 0
Text = List Word

-- row i of the part n, with what its values make
abbrev pub Row : (n : Part) → (ℕ → ℕ → Text → Val n → Text → ℕ → Type 0) → Type 0
Row n R = (f k : ℕ) (ws : Text) (v : Val n) (rest : Text) (i : ℕ) (h : i < length (csml n)) (vs : Values Word Val (get_or (csml n) i []))
    → v ≡ make Word Val (Val n) (csml n) i h (makes n) vs → RowGives Word Val kind_of (Told f) (get_or (csml n) i []) k ws vs rest → R f k ws v rest i

-- every part by its rows
pub by_rows : (n : Part) (R : ℕ → ℕ → Text → Val n → Text → ℕ → Type 0) → Row n R → (f k : ℕ) (ws : Text) (v : Val n) (rest : Text) → Told f n k ws v rest → (e : ℕ) × (i : ℕ) × Called n ws i × R e k ws v rest i
unfolding Gives
by_rows n R row zero k ws v rest x = absurd x
by_rows n R row (suc f) k ws v rest (i, h, p, vs, e, x) = (f, i, p, row f k ws v rest i h vs e x)

statements-row : Row Statements (λ f k ws v rest i. StatementsRow f k ws v rest)
unfolding make csml makes
statements-row f k ws v rest zero h vs e (mid, y, (m₁, y₁, z)) = (mid, vs.0, vs.1.0, y, rw z at y₁, e)
statements-row f k ws v rest (suc i) h vs e x = absurd (omega arith)

after-row : Row AfterStatement AfterRow
unfolding make csml makes
after-row f k ws v rest zero h vs e x = (e, x)
after-row f k ws v rest (suc zero) h vs e (tail, a, b, (mid, y, z)) = (vs.0, tail, a, rw (e, ← z) y)
after-row f k ws v rest (suc (suc i)) h vs e x = absurd (omega arith)

next_row_lem : Row NextStatement NextRow
unfolding make csml makes
next_row_lem f k ws v rest zero h vs e x = (e, x)
next_row_lem f k ws v rest (suc zero) h vs e (mid, y, z) = rw (e, ← z) y
next_row_lem f k ws v rest (suc (suc i)) h vs e x = absurd (omega arith)

else_row : Row Else ElseRow
unfolding make csml makes
else_row f k ws v rest zero h vs e x = (e, x)
else_row f k ws v rest (suc zero) h vs e (tail, a, b, (mid, y, z)) = (vs.0, tail, a, rw (e, ← z) y)
else_row f k ws v rest (suc (suc i)) h vs e x = absurd (omega arith)

cases_row : Row Cases CasesRow
unfolding make csml makes
cases_row f k ws v rest zero h vs e x = (e, x)
cases_row f k ws v rest (suc zero) h vs e (tail, a, b, (m₁, y₁, (t₂, a₂, b₂, (m₃, y₃, (m₄, y₄, z))))) =
    (vs.0, vs.1.1.0, tail, t₂, m₃, vs.1.0, vs.1.1.1.0, vs.1.1.1.1.0, a, rw a₂ at y₁, y₃, rw z at y₄, e)
cases_row f k ws v rest (suc (suc i)) h vs e x = absurd (omega arith)

branches_row : Row Branches BranchesRow
unfolding make csml makes
branches_row f k ws v rest zero h vs e x = (e, x)
branches_row f k ws v rest (suc zero) h vs e (tail, a, b, (m₁, y₁, (m₂, y₂, z))) = (vs.0, tail, m₁, vs.1.0, vs.1.1.0, a, y₁, rw z at y₂, e)
branches_row f k ws v rest (suc (suc i)) h vs e x = absurd (omega arith)

target_row : Row Target (λ f k ws v rest i. TargetRow f k ws v rest)
unfolding make csml makes
target_row f k ws v rest zero h vs e (tail, a, b, (mid, y, z)) = (vs.0, tail, vs.1.0, a, rw z at y, e)
target_row f k ws v rest (suc i) h vs e x = absurd (omega arith)

after-name-row : Row AfterName AfterNameRow
unfolding make csml makes
after-name-row f k ws v rest zero h vs e (tail, a, b, (mid, y, z)) = (vs.0, tail, vs.1.0, a, rw z at y, e)
after-name-row f k ws v rest (suc zero) h vs e (m, q, (tail, a, b, (mid, y, (t₁, a₁, b₁, z)))) = (vs.0, vs.1.1.0, m, tail, vs.1.0, a, q, rw (a₁, z) at y, e)
after-name-row f k ws v rest (suc (suc i)) h vs e x = absurd (omega arith)

actuals-row : Row Actuals ActualsRow
unfolding make csml makes
actuals-row f k ws v rest zero h vs e x = (e, x)
actuals-row f k ws v rest (suc zero) h vs e (mid, y, (m₁, y₁, z)) = (mid, vs.0, vs.1.0, y, rw z at y₁, e)
actuals-row f k ws v rest (suc (suc i)) h vs e x = absurd (omega arith)

more-actuals-row : Row MoreActuals MoreActualsRow
unfolding make csml makes
more-actuals-row f k ws v rest zero h vs e x = (e, x)
more-actuals-row f k ws v rest (suc zero) h vs e (tail, a, b, (m₁, y₁, (m₂, y₂, z))) = (vs.0, tail, m₁, vs.1.0, vs.1.1.0, a, y₁, rw z at y₂, e)
more-actuals-row f k ws v rest (suc (suc i)) h vs e x = absurd (omega arith)

statement-row : Row Statement StatementRow
unfolding make csml makes
statement-row f k ws v rest zero h vs e (tail, a, b, z) = (vs.0, rw (← z) a, e)
statement-row f k ws v rest (suc zero) h vs e (tail, a, b, (t₁, a₁, b₁, z)) = (vs.0, vs.1.0, rw (a₁, z) at a, b₁, e)
statement-row f k ws v rest (suc (suc zero)) h vs e (tail, a, b, (m, q, (t₁, a₁, b₁, (mid, y, (t₂, a₂, b₂, z))))) = (vs.0, vs.1.0, vs.1.1.1.0, m, t₁, vs.1.1.0, rw a₁ at a, q, rw (a₂, z) at y, e)
statement-row f k ws v rest (suc (suc (suc zero))) h vs e (tail, a, b, (m, q, (t₁, a₁, b₁, (mid, y, (t₂, a₂, b₂, z))))) = (vs.0, vs.1.0, vs.1.1.1.0, m, t₁, vs.1.1.0, rw a₁ at a, q, rw (a₂, z) at y, e)
statement-row f k ws v rest (suc (suc (suc (suc zero)))) h vs e (tail, a, b, (m, q, (t₁, a₁, b₁, (mid, y, (t₂, a₂, b₂, z))))) = (vs.0, vs.1.0, vs.1.1.1.0, m, t₁, vs.1.1.0, rw a₁ at a, q, rw (a₂, z) at y, e)
statement-row f k ws v rest (suc (suc (suc (suc (suc zero))))) h vs e (tail, a, b, (mid, y, z)) = (vs.0, tail, vs.1.0, a, rw z at y, e)
statement-row f k ws v rest (suc (suc (suc (suc (suc (suc zero)))))) h vs e (m, q, (tail, a, b, (m₁, y₁, (t₂, a₂, b₂, (m₃, y₃, (m₄, y₄, (t₅, a₅, b₅, z))))))) =
    (vs.0, vs.1.1.0, vs.1.1.1.1.1.0, m, tail, t₂, m₃, vs.1.0, vs.1.1.1.0, vs.1.1.1.1.0, a, q, rw a₂ at y₁, y₃, rw (a₅, z) at y₄, e)
statement-row f k ws v rest (suc (suc (suc (suc (suc (suc (suc zero))))))) h vs e (m, q, (tail, a, b, (m₁, y₁, (t₂, a₂, b₂, (t₃, a₃, b₃, (m₄, y₄, (t₅, a₅, b₅, z))))))) =
    (vs.0, vs.1.1.0, vs.1.1.1.0, vs.1.1.1.1.1.0, m, tail, t₃, vs.1.0, vs.1.1.1.1.0, a, q, rw (a₂, a₃) at y₁, rw (a₅, z) at y₄, e)
statement-row f k ws v rest (suc (suc (suc (suc (suc (suc (suc (suc zero)))))))) h vs e (m, q, (tail, a, b, (m₁, y₁, (t₂, a₂, b₂, z)))) = (vs.0, vs.1.1.0, m, tail, vs.1.0, a, q, rw (a₂, z) at y₁, e)
statement-row f k ws v rest (suc (suc (suc (suc (suc (suc (suc (suc (suc zero))))))))) h vs e (tail, a, b, z) = (vs.0, rw (← z) a, e)
statement-row f k ws v rest (suc (suc (suc (suc (suc (suc (suc (suc (suc (suc zero)))))))))) h vs e (m, q, (tail, a, b, (t₁, a₁, b₁, (m₂, y₂, (t₃, a₃, b₃, (m₄, y₄, (m₅, y₅, (t₆, a₆, b₆, (t₇, a₇, b₇, (m₈, y₈, (t₉, a₉, b₉, z))))))))))) =
    (vs.0, vs.1.0, vs.1.1.1.0, vs.1.1.1.1.1.1.0, vs.1.1.1.1.1.1.1.0, vs.1.1.1.1.1.1.1.1.1.0, m, t₁, t₃, m₄, t₇, vs.1.1.0, vs.1.1.1.1.0, vs.1.1.1.1.1.0, vs.1.1.1.1.1.1.1.1.0, rw a₁ at a, q, rw a₃ at y₂, y₄, rw (a₆, a₇) at y₅, rw (a₉, z) at y₈, e)
statement-row f k ws v rest (suc (suc (suc (suc (suc (suc (suc (suc (suc (suc (suc zero))))))))))) h vs e (tail, a, b, z) = (vs.0, rw (← z) a, e)
statement-row f k ws v rest (suc (suc (suc (suc (suc (suc (suc (suc (suc (suc (suc (suc zero)))))))))))) h vs e (m, q, (tail, a, b, (m₁, y₁, (t₂, a₂, b₂, (m₃, y₃, (m₄, y₄, (t₅, a₅, b₅, z))))))) =
    (vs.0, vs.1.1.0, vs.1.1.1.1.1.0, m, tail, t₂, m₃, vs.1.0, vs.1.1.1.0, vs.1.1.1.1.0, a, q, rw a₂ at y₁, y₃, rw (a₅, z) at y₄, e)
statement-row f k ws v rest (suc (suc (suc (suc (suc (suc (suc (suc (suc (suc (suc (suc (suc i))))))))))))) h vs e x = absurd (omega arith)

pub statements-told : (f k : ℕ) (ws : Text) (v : Commands) (rest : Text) → Told f Statements k ws v rest → (e : ℕ) × (i : ℕ) × Called Statements ws i × StatementsRow e k ws v rest
statements-told = by_rows Statements (λ f k ws v rest i. StatementsRow f k ws v rest) statements-row

pub after-told : (f k : ℕ) (ws : Text) (v : Commands) (rest : Text) → Told f AfterStatement k ws v rest → (e : ℕ) × (i : ℕ) × Called AfterStatement ws i × AfterRow e k ws v rest i
after-told = by_rows AfterStatement AfterRow after-row

pub next-told : (f k : ℕ) (ws : Text) (v : Commands) (rest : Text) → Told f NextStatement k ws v rest → (e : ℕ) × (i : ℕ) × Called NextStatement ws i × NextRow e k ws v rest i
next-told = by_rows NextStatement NextRow next_row_lem

pub else_told : (f k : ℕ) (ws : Text) (v : Commands) (rest : Text) → Told f Else k ws v rest → (e : ℕ) × (i : ℕ) × Called Else ws i × ElseRow e k ws v rest i
else_told = by_rows Else ElseRow else_row

pub cases_told : (f k : ℕ) (ws : Text) (v : Commands → Tests) (rest : Text) → Told f Cases k ws v rest → (e : ℕ) × (i : ℕ) × Called Cases ws i × CasesRow e k ws v rest i
cases_told = by_rows Cases CasesRow cases_row

pub branches_told : (f k : ℕ) (ws : Text) (v : Strands) (rest : Text) → Told f Branches k ws v rest → (e : ℕ) × (i : ℕ) × Called Branches ws i × BranchesRow e k ws v rest i
branches_told = by_rows Branches BranchesRow branches_row

pub target_told : (f k : ℕ) (ws : Text) (v : tree.Target Name) (rest : Text) → Told f Target k ws v rest → (e : ℕ) × (i : ℕ) × Called Target ws i × TargetRow e k ws v rest
target_told = by_rows Target (λ f k ws v rest i. TargetRow f k ws v rest) target_row

pub after-name-told : (f k : ℕ) (ws : Text) (v : Name → Command) (rest : Text) → Told f AfterName k ws v rest → (e : ℕ) × (i : ℕ) × Called AfterName ws i × AfterNameRow e k ws v rest i
after-name-told = by_rows AfterName AfterNameRow after-name-row

pub actuals-told : (f k : ℕ) (ws : Text) (v : List Term) (rest : Text) → Told f Actuals k ws v rest → (e : ℕ) × (i : ℕ) × Called Actuals ws i × ActualsRow e k ws v rest i
actuals-told = by_rows Actuals ActualsRow actuals-row

pub more-actuals-told : (f k : ℕ) (ws : Text) (v : List Term) (rest : Text) → Told f MoreActuals k ws v rest → (e : ℕ) × (i : ℕ) × Called MoreActuals ws i × MoreActualsRow e k ws v rest i
more-actuals-told = by_rows MoreActuals MoreActualsRow more-actuals-row

pub statement-told : (f k : ℕ) (ws : Text) (v : Command) (rest : Text) → Told f Statement k ws v rest → (e : ℕ) × (i : ℕ) × Called Statement ws i × StatementRow e k ws v rest i
statement-told = by_rows Statement StatementRow statement-row
