-- What the words of declarations come to, row by row.
-- Assumes nothing.
use mathlib.Core.Bool.{Bool}
use mathlib.Core.List.{List}
use Prim.Native.Nat.{ℕ, zero, suc}
use native.Mathlib.Omega.{arith}
use Rattle.meaning.specs.Declared as declared
use Rattle.meaning.specs.Unexpanded as unexpanded
use Rattle.meaning.specs.Unexpanded.{DeclaredName, Unexpanded}
use Rattle.ll1.specs.Values.{make}
use Rattle.language.specs.Words.{Word}
use Rattle.language.specs.Grammar.{Program, Declarations, Declaration, Inputs, MoreInputs, Ending, Booleans, MoreBooleans, BooleanStart, BooleanValue, Integers, MoreIntegers, IntegerStart, Procedure, Formals, FormalNames, MoreFormals, AfterProcedure, csml}
use Rattle.language.specs.Trees.{Name, makes}
use Rattle.descent_law.specs.Told.{Told, Called}
use Rattle.descent_law.specs.Declarations.{Declared, Maker, ProgramRow, DeclarationsRow, ProcedureRow, FormalsRow, FormalNamesRow, MoreFormalsRow, AfterProcedureRow, DeclarationRow, InputsRow, MoreInputsRow, EndingRow, BooleansRow, MoreBooleansRow, BooleanStartRow, BooleanValueRow, IntegersRow, MoreIntegersRow, IntegerStartRow}
use Rattle.descent_law.proofs.Statements.{Row, by_rows}

abbrev Text : Type 0
Text = List Word

program-row : Row Program (λ f k ws v rest i. ProgramRow f k ws v rest)
unfolding make csml makes
program-row f k ws v rest zero h vs e (t₁, a₁, b₁, (t₂, a₂, b₂, (t₃, a₃, b₃, (m₄, y₄, (m₅, y₅, (t₆, a₆, b₆, z)))))) = (vs.0, vs.1.0, vs.1.1.0, vs.1.1.1.1.1.0, t₃, m₄, vs.1.1.1.0, vs.1.1.1.1.0, rw (a₂, a₃) at a₁, y₄, rw (a₆, z) at y₅, e)
program-row f k ws v rest (suc i) h vs e x = absurd (omega arith)

pub program-told : (f k : ℕ) (ws : Text) (v : Unexpanded) (rest : Text) → Told f Program k ws v rest → (e : ℕ) × (i : ℕ) × Called Program ws i × ProgramRow e k ws v rest
program-told = by_rows Program (λ f k ws v rest i. ProgramRow f k ws v rest) program-row

declarations_row : Row Declarations DeclarationsRow
unfolding make csml makes
declarations_row f k ws v rest zero h vs e x = (e, x)
declarations_row f k ws v rest (suc zero) h vs e (m₁, y₁, (t₂, a₂, b₂, (m₃, y₃, z))) = (vs.1.0, t₂, vs.0, vs.1.1.0, rw a₂ at y₁, rw z at y₃, e)
declarations_row f k ws v rest (suc (suc zero)) h vs e (t₁, a₁, b₁, (m₂, y₂, (m₃, y₃, (m₄, y₄, z)))) = (vs.0, t₁, m₂, m₃, vs.1.0, vs.1.1.1.0, a₁, y₂, y₃, rw z at y₄, e)
declarations_row f k ws v rest (suc (suc (suc i))) h vs e x = absurd (omega arith)

pub declarations_told : (f k : ℕ) (ws : Text) (v : List DeclaredName) (rest : Text) → Told f Declarations k ws v rest → (e : ℕ) × (i : ℕ) × Called Declarations ws i × DeclarationsRow e k ws v rest i
declarations_told = by_rows Declarations DeclarationsRow declarations_row

procedure-row : Row Procedure (λ f k ws v rest i. ProcedureRow f k ws v rest)
unfolding make csml makes
procedure-row f k ws v rest zero h vs e (tail, a, b, (m₁, y₁, (m₂, y₂, (t₃, a₃, b₃, z)))) = (vs.0, vs.1.1.1.0, tail, m₁, vs.1.0, vs.1.1.0, a, b, y₁, rw (a₃, z) at y₂, e)
procedure-row f k ws v rest (suc i) h vs e x = absurd (omega arith)

pub procedure-told : (f k : ℕ) (ws : Text) (v : unexpanded.Procedure) (rest : Text) → Told f Procedure k ws v rest → (e : ℕ) × (i : ℕ) × Called Procedure ws i × ProcedureRow e k ws v rest
procedure-told = by_rows Procedure (λ f k ws v rest i. ProcedureRow f k ws v rest) procedure-row

formals-row : Row Formals (λ f k ws v rest i. FormalsRow f k ws v rest)
unfolding make csml makes
formals-row f k ws v rest zero h vs e (m, q, (tail, a, b, (mid, y, (t₁, a₁, b₁, z)))) = (vs.0, vs.1.1.0, m, tail, a, q, rw e (rw (a₁, z) at y))
formals-row f k ws v rest (suc i) h vs e x = absurd (omega arith)

pub formals-told : (f k : ℕ) (ws : Text) (v : List Name) (rest : Text) → Told f Formals k ws v rest → (e : ℕ) × (i : ℕ) × Called Formals ws i × FormalsRow e k ws v rest
formals-told = by_rows Formals (λ f k ws v rest i. FormalsRow f k ws v rest) formals-row

formal-names-row : Row FormalNames FormalNamesRow
unfolding make csml makes
formal-names-row f k ws v rest zero h vs e x = (e, x)
formal-names-row f k ws v rest (suc zero) h vs e (tail, a, b, (mid, y, z)) = (vs.0, tail, vs.1.0, a, b, rw z at y, e)
formal-names-row f k ws v rest (suc (suc i)) h vs e x = absurd (omega arith)

pub formal-names-told : (f k : ℕ) (ws : Text) (v : List Name) (rest : Text) → Told f FormalNames k ws v rest → (e : ℕ) × (i : ℕ) × Called FormalNames ws i × FormalNamesRow e k ws v rest i
formal-names-told = by_rows FormalNames FormalNamesRow formal-names-row

more-formals-row : Row MoreFormals MoreFormalsRow
unfolding make csml makes
more-formals-row f k ws v rest zero h vs e x = (e, x)
more-formals-row f k ws v rest (suc zero) h vs e (tail, a, b, (t₁, a₁, b₁, (mid, y, z))) = (vs.0, vs.1.0, t₁, vs.1.1.0, rw a₁ at a, b₁, rw z at y, e)
more-formals-row f k ws v rest (suc (suc i)) h vs e x = absurd (omega arith)

pub more-formals-told : (f k : ℕ) (ws : Text) (v : List Name) (rest : Text) → Told f MoreFormals k ws v rest → (e : ℕ) × (i : ℕ) × Called MoreFormals ws i × MoreFormalsRow e k ws v rest i
more-formals-told = by_rows MoreFormals MoreFormalsRow more-formals-row

after-procedure-row : Row AfterProcedure (λ f k ws v rest i. AfterProcedureRow ws rest i)
unfolding make csml makes
after-procedure-row f k ws v rest zero h vs e x = x
after-procedure-row f k ws v rest (suc zero) h vs e (tail, a, b, z) = (vs.0, rw (← z) a)
after-procedure-row f k ws v rest (suc (suc i)) h vs e x = absurd (omega arith)

pub after-procedure-told : (f k : ℕ) (ws : Text) (v : Unit) (rest : Text) → Told f AfterProcedure k ws v rest → (e : ℕ) × (i : ℕ) × Called AfterProcedure ws i × AfterProcedureRow ws rest i
after-procedure-told = by_rows AfterProcedure (λ f k ws v rest i. AfterProcedureRow ws rest i) after-procedure-row

declaration_row : Row Declaration DeclarationRow
unfolding make csml makes
declaration_row f k ws v rest zero h vs e (tail, a, b, (mid, y, z)) = (vs.0, tail, a, rw (e, ← z) y)
declaration_row f k ws v rest (suc zero) h vs e (tail, a, b, (mid, y, z)) = (vs.0, tail, vs.1.0, a, rw z at y, e)
declaration_row f k ws v rest (suc (suc zero)) h vs e (tail, a, b, (mid, y, z)) = (vs.0, tail, vs.1.0, a, rw z at y, e)
declaration_row f k ws v rest (suc (suc (suc zero))) h vs e (tail, a, b, (mid, y, z)) = (vs.0, tail, a, rw (e, ← z) y)
declaration_row f k ws v rest (suc (suc (suc (suc i)))) h vs e x = absurd (omega arith)

pub declaration_told : (f k : ℕ) (ws : Text) (v : Declared) (rest : Text) → Told f Declaration k ws v rest → (e : ℕ) × (i : ℕ) × Called Declaration ws i × DeclarationRow e k ws v rest i
declaration_told = by_rows Declaration DeclarationRow declaration_row

inputs-row : Row Inputs (λ f k ws v rest i. InputsRow f k ws v rest)
unfolding make csml makes
inputs-row f k ws v rest zero h vs e (tail, a, b, (mid, y, (m₁, y₁, z))) = (vs.0, tail, mid, vs.1.0, vs.1.1.0, a, b, y, rw z at y₁, e)
inputs-row f k ws v rest (suc i) h vs e x = absurd (omega arith)

pub inputs-told : (f k : ℕ) (ws : Text) (v : Declared) (rest : Text) → Told f Inputs k ws v rest → (e : ℕ) × (i : ℕ) × Called Inputs ws i × InputsRow e k ws v rest
inputs-told = by_rows Inputs (λ f k ws v rest i. InputsRow f k ws v rest) inputs-row

more-inputs-row : Row MoreInputs MoreInputsRow
unfolding make csml makes
more-inputs-row f k ws v rest zero h vs e x = (e, x)
more-inputs-row f k ws v rest (suc zero) h vs e (tail, a, b, (mid, y, z)) = (vs.0, tail, a, rw (e, ← z) y)
more-inputs-row f k ws v rest (suc (suc i)) h vs e x = absurd (omega arith)

pub more-inputs-told : (f k : ℕ) (ws : Text) (v : Declared) (rest : Text) → Told f MoreInputs k ws v rest → (e : ℕ) × (i : ℕ) × Called MoreInputs ws i × MoreInputsRow e k ws v rest i
more-inputs-told = by_rows MoreInputs MoreInputsRow more-inputs-row

ending_row_lem : Row Ending (λ f k ws v rest i. EndingRow ws v rest i)
unfolding make csml makes
ending_row_lem f k ws v rest zero h vs e x = (e, x)
ending_row_lem f k ws v rest (suc zero) h vs e (tail, a, b, z) = (vs.0, rw (← z) a, e)
ending_row_lem f k ws v rest (suc (suc zero)) h vs e (tail, a, b, z) = (vs.0, rw (← z) a, e)
ending_row_lem f k ws v rest (suc (suc (suc i))) h vs e x = absurd (omega arith)

pub ending_told : (f k : ℕ) (ws : Text) (v : declared.Ending) (rest : Text) → Told f Ending k ws v rest → (e : ℕ) × (i : ℕ) × Called Ending ws i × EndingRow ws v rest i
ending_told = by_rows Ending (λ f k ws v rest i. EndingRow ws v rest i) ending_row_lem

booleans_row : Row Booleans (λ f k ws v rest i. BooleansRow f k ws v rest)
unfolding make csml makes
booleans_row f k ws v rest zero h vs e (tail, a, b, (m₁, y₁, (m₂, y₂, (m₃, y₃, z)))) = (vs.0, tail, m₁, m₂, vs.1.0, vs.1.1.0, vs.1.1.1.0, a, b, y₁, y₂, rw z at y₃, e)
booleans_row f k ws v rest (suc i) h vs e x = absurd (omega arith)

pub booleans_told : (f k : ℕ) (ws : Text) (v : (Maker → Declared)) (rest : Text) → Told f Booleans k ws v rest → (e : ℕ) × (i : ℕ) × Called Booleans ws i × BooleansRow e k ws v rest
booleans_told = by_rows Booleans (λ f k ws v rest i. BooleansRow f k ws v rest) booleans_row

more_booleans_row : Row MoreBooleans MoreBooleansRow
unfolding make csml makes
more_booleans_row f k ws v rest zero h vs e x = (e, x)
more_booleans_row f k ws v rest (suc zero) h vs e (tail, a, b, (mid, y, z)) = (vs.0, tail, a, rw (e, ← z) y)
more_booleans_row f k ws v rest (suc (suc i)) h vs e x = absurd (omega arith)

pub more_booleans_told : (f k : ℕ) (ws : Text) (v : (Maker → Declared)) (rest : Text) → Told f MoreBooleans k ws v rest → (e : ℕ) × (i : ℕ) × Called MoreBooleans ws i × MoreBooleansRow e k ws v rest i
more_booleans_told = by_rows MoreBooleans MoreBooleansRow more_booleans_row

boolean-start-row : Row BooleanStart BooleanStartRow
unfolding make csml makes
boolean-start-row f k ws v rest zero h vs e x = (e, x)
boolean-start-row f k ws v rest (suc zero) h vs e (tail, a, b, (mid, y, z)) = (vs.0, tail, a, rw (e, ← z) y)
boolean-start-row f k ws v rest (suc (suc i)) h vs e x = absurd (omega arith)

pub boolean-start-told : (f k : ℕ) (ws : Text) (v : Bool) (rest : Text) → Told f BooleanStart k ws v rest → (e : ℕ) × (i : ℕ) × Called BooleanStart ws i × BooleanStartRow e k ws v rest i
boolean-start-told = by_rows BooleanStart BooleanStartRow boolean-start-row

boolean-value-row : Row BooleanValue (λ f k ws v rest i. BooleanValueRow ws v rest i)
unfolding make csml makes
boolean-value-row f k ws v rest zero h vs e (tail, a, b, z) = (vs.0, rw (← z) a, e)
boolean-value-row f k ws v rest (suc zero) h vs e (tail, a, b, z) = (vs.0, rw (← z) a, e)
boolean-value-row f k ws v rest (suc (suc i)) h vs e x = absurd (omega arith)

pub boolean-value-told : (f k : ℕ) (ws : Text) (v : Bool) (rest : Text) → Told f BooleanValue k ws v rest → (e : ℕ) × (i : ℕ) × Called BooleanValue ws i × BooleanValueRow ws v rest i
boolean-value-told = by_rows BooleanValue (λ f k ws v rest i. BooleanValueRow ws v rest i) boolean-value-row

integers-row : Row Integers (λ f k ws v rest i. IntegersRow f k ws v rest)
unfolding make csml makes
integers-row f k ws v rest zero h vs e (t₁, a₁, b₁, (t₂, a₂, b₂, (t₃, a₃, b₃, (t₄, a₄, b₄, (m₅, y₅, (m₆, y₆, z)))))) = (vs.0, vs.1.0, vs.1.1.0, vs.1.1.1.0, t₄, m₅, vs.1.1.1.1.0, vs.1.1.1.1.1.0, rw (a₂, a₃, a₄) at a₁, b₁, b₃, y₅, rw z at y₆, e)
integers-row f k ws v rest (suc i) h vs e x = absurd (omega arith)

pub integers-told : (f k : ℕ) (ws : Text) (v : Declared) (rest : Text) → Told f Integers k ws v rest → (e : ℕ) × (i : ℕ) × Called Integers ws i × IntegersRow e k ws v rest
integers-told = by_rows Integers (λ f k ws v rest i. IntegersRow f k ws v rest) integers-row

more-integers-row : Row MoreIntegers MoreIntegersRow
unfolding make csml makes
more-integers-row f k ws v rest zero h vs e x = (e, x)
more-integers-row f k ws v rest (suc zero) h vs e (tail, a, b, (mid, y, z)) = (vs.0, tail, a, rw (e, ← z) y)
more-integers-row f k ws v rest (suc (suc i)) h vs e x = absurd (omega arith)

pub more-integers-told : (f k : ℕ) (ws : Text) (v : Declared) (rest : Text) → Told f MoreIntegers k ws v rest → (e : ℕ) × (i : ℕ) × Called MoreIntegers ws i × MoreIntegersRow e k ws v rest i
more-integers-told = by_rows MoreIntegers MoreIntegersRow more-integers-row

integer-start-row : Row IntegerStart (λ f k ws v rest i. IntegerStartRow ws v rest i)
unfolding make csml makes
integer-start-row f k ws v rest zero h vs e x = (e, x)
integer-start-row f k ws v rest (suc zero) h vs e (tail, a, b, (t₁, a₁, b₁, z)) = (vs.0, vs.1.0, rw (a₁, z) at a, b₁, e)
integer-start-row f k ws v rest (suc (suc i)) h vs e x = absurd (omega arith)

pub integer-start-told : (f k : ℕ) (ws : Text) (v : ℕ) (rest : Text) → Told f IntegerStart k ws v rest → (e : ℕ) × (i : ℕ) × Called IntegerStart ws i × IntegerStartRow ws v rest i
integer-start-told = by_rows IntegerStart (λ f k ws v rest i. IntegerStartRow ws v rest i) integer-start-row
