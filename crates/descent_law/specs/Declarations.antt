-- What each row of the declarations says of what its words come to.
-- Assumes nothing.
use Rattle.std.specs.Prelude.{Bool, true, false, ◌≡◌, List, [], ◌∷◌, ◌++◌, map, ℕ, zero, suc}
use Rattle.meaning.specs.Declared as declared
use Rattle.meaning.specs.Declared.{high, low, inputs, outputs, internals, integers}
use Rattle.meaning.specs.Unexpanded as unexpanded
use Rattle.meaning.specs.Unexpanded.{Commands, DeclaredName, a_variable, a_procedure, Unexpanded}
use Rattle.language.specs.Words.{name, number, Word}
use Rattle.language.specs.Grammar.{Declarations, Declaration, Inputs, MoreInputs, Ending, Booleans, MoreBooleans, BooleanStart, BooleanValue, Integers, MoreIntegers, IntegerStart, Statements, Procedure, Formals, FormalNames, MoreFormals, AfterProcedure}
use Rattle.language.specs.Trees.{Name, name_at, number_at}
use Rattle.descent_law.specs.Told.{Told}

abbrev Text : Type 0
Text = List Word

-- what declarations of variables come to
abbrev pub Declared : Type 0
Declared = List declared.Declaration

-- a boolean by its name, ending and initial value
abbrev pub Maker : Type 0
Maker = Name → declared.Ending → Bool → declared.Declaration

-- `program name;`, the declarations, the statements, `endprog`
abbrev pub ProgramRow : ℕ → ℕ → Text → Unexpanded → Text → Type 0
ProgramRow f k ws v rest =
    (a : Word) × (n : Word) × (c : Word) × (e : Word) × (tail : Text) × (mid : Text) × (ds : List DeclaredName) × (b : Commands)
    × (ws ≡ a ∷ n ∷ c ∷ tail) × Told f Declarations k tail ds mid × Told f Statements k mid b (e ∷ rest) × (v ≡ record { name = n.bytes; declared = ds; body = b })

-- no declaration more; or one, its `;` and those behind it; or `procedure`, one and those behind it
abbrev pub DeclarationsRow : ℕ → ℕ → Text → List DeclaredName → Text → ℕ → Type 0
DeclarationsRow f k ws v rest zero = (v ≡ []) × (ws ≡ rest)
DeclarationsRow f k ws v rest (suc zero) =
    (c : Word) × (mid : Text) × (ds : Declared) × (es : List DeclaredName) × Told f Declaration k ws ds (c ∷ mid) × Told f Declarations k mid es rest × (v ≡ map a_variable ds ++ es)
DeclarationsRow f k ws v rest (suc (suc i)) =
    (w : Word) × (tail : Text) × (mid : Text) × (on : Text) × (p : unexpanded.Procedure) × (es : List DeclaredName)
    × (ws ≡ w ∷ tail) × Told f Procedure k tail p mid × Told f AfterProcedure k mid tt on × Told f Declarations k on es rest × (v ≡ a_procedure p ∷ es)

-- a name, the formals, the statements, `endproc`
abbrev pub ProcedureRow : ℕ → ℕ → Text → unexpanded.Procedure → Text → Type 0
ProcedureRow f k ws v rest =
    (n : Word) × (x : Word) × (tail : Text) × (mid : Text) × (fs : List Name) × (b : Commands)
    × (ws ≡ n ∷ tail) × (n.kind ≡ name) × Told f Formals k tail fs mid × Told f Statements k mid b (x ∷ rest) × (v ≡ record { name = name_at n; formals = fs; body = b })

-- in parentheses, one level down, the formals
abbrev pub FormalsRow : ℕ → ℕ → Text → List Name → Text → Type 0
FormalsRow f k ws v rest = (o : Word) × (c : Word) × (m : ℕ) × (tail : Text) × (ws ≡ o ∷ tail) × (k ≡ suc m) × Told f FormalNames m tail v (c ∷ rest)

-- no formal; or a name, and those behind it
abbrev pub FormalNamesRow : ℕ → ℕ → Text → List Name → Text → ℕ → Type 0
FormalNamesRow f k ws v rest zero = (v ≡ []) × (ws ≡ rest)
FormalNamesRow f k ws v rest (suc i) = (w : Word) × (tail : Text) × (ns : List Name) × (ws ≡ w ∷ tail) × (w.kind ≡ name) × Told f MoreFormals k tail ns rest × (v ≡ name_at w ∷ ns)

-- no formal more; or a `,`, a name, and those behind it
abbrev pub MoreFormalsRow : ℕ → ℕ → Text → List Name → Text → ℕ → Type 0
MoreFormalsRow f k ws v rest zero = (v ≡ []) × (ws ≡ rest)
MoreFormalsRow f k ws v rest (suc i) =
    (c : Word) × (w : Word) × (tail : Text) × (ns : List Name) × (ws ≡ c ∷ w ∷ tail) × (w.kind ≡ name) × Told f MoreFormals k tail ns rest × (v ≡ name_at w ∷ ns)

-- no `;`; or one
abbrev pub AfterProcedureRow : Text → Text → ℕ → Type 0
AfterProcedureRow ws rest zero = ws ≡ rest
AfterProcedureRow ws rest (suc i) = (w : Word) × (ws ≡ w ∷ rest)

-- `input`, `output`, `internal` or `integer`, and its list
abbrev pub DeclarationRow : ℕ → ℕ → Text → Declared → Text → ℕ → Type 0
DeclarationRow f k ws v rest zero = (w : Word) × (tail : Text) × (ws ≡ w ∷ tail) × Told f Inputs k tail v rest
DeclarationRow f k ws v rest (suc zero) = (w : Word) × (tail : Text) × (g : Maker → Declared) × (ws ≡ w ∷ tail) × Told f Booleans k tail g rest × (v ≡ g outputs)
DeclarationRow f k ws v rest (suc (suc zero)) = (w : Word) × (tail : Text) × (g : Maker → Declared) × (ws ≡ w ∷ tail) × Told f Booleans k tail g rest × (v ≡ g internals)
DeclarationRow f k ws v rest (suc (suc (suc zero))) = (w : Word) × (tail : Text) × (ws ≡ w ∷ tail) × Told f Integers k tail v rest
DeclarationRow f k ws v rest (suc (suc (suc (suc i)))) = ⊥

-- a name, its ending, and further inputs
abbrev pub InputsRow : ℕ → ℕ → Text → Declared → Text → Type 0
InputsRow f k ws v rest =
    (w : Word) × (tail : Text) × (mid : Text) × (e : declared.Ending) × (ds : Declared)
    × (ws ≡ w ∷ tail) × (w.kind ≡ name) × Told f Ending k tail e mid × Told f MoreInputs k mid ds rest × (v ≡ inputs (name_at w) e ∷ ds)

-- no input more; or a `,` and inputs
abbrev pub MoreInputsRow : ℕ → ℕ → Text → Declared → Text → ℕ → Type 0
MoreInputsRow f k ws v rest zero = (v ≡ []) × (ws ≡ rest)
MoreInputsRow f k ws v rest (suc i) = (w : Word) × (tail : Text) × (ws ≡ w ∷ tail) × Told f Inputs k tail v rest

-- no ending, `.H` or `.L`
abbrev pub EndingRow : Text → declared.Ending → Text → ℕ → Type 0
EndingRow ws v rest zero = (v ≡ high) × (ws ≡ rest)
EndingRow ws v rest (suc zero) = (w : Word) × (ws ≡ w ∷ rest) × (v ≡ high)
EndingRow ws v rest (suc (suc i)) = (w : Word) × (ws ≡ w ∷ rest) × (v ≡ low)

-- a name, its ending, its initial value, and further booleans; output or internal is told later
abbrev pub BooleansRow : ℕ → ℕ → Text → (Maker → Declared) → Text → Type 0
BooleansRow f k ws v rest =
    (w : Word) × (tail : Text) × (mid : Text) × (on : Text) × (e : declared.Ending) × (b : Bool) × (g : Maker → Declared)
    × (ws ≡ w ∷ tail) × (w.kind ≡ name) × Told f Ending k tail e mid × Told f BooleanStart k mid b on × Told f MoreBooleans k on g rest × (v ≡ (λ kind. kind (name_at w) e b ∷ g kind))

-- no boolean more; or a `,` and booleans
abbrev pub MoreBooleansRow : ℕ → ℕ → Text → (Maker → Declared) → Text → ℕ → Type 0
MoreBooleansRow f k ws v rest zero = (v ≡ (λ kind. [])) × (ws ≡ rest)
MoreBooleansRow f k ws v rest (suc i) = (w : Word) × (tail : Text) × (ws ≡ w ∷ tail) × Told f Booleans k tail v rest

-- no initial value; or `=` and one
abbrev pub BooleanStartRow : ℕ → ℕ → Text → Bool → Text → ℕ → Type 0
BooleanStartRow f k ws v rest zero = (v ≡ false) × (ws ≡ rest)
BooleanStartRow f k ws v rest (suc i) = (w : Word) × (tail : Text) × (ws ≡ w ∷ tail) × Told f BooleanValue k tail v rest

-- `true` or `false`
abbrev pub BooleanValueRow : Text → Bool → Text → ℕ → Type 0
BooleanValueRow ws v rest zero = (w : Word) × (ws ≡ w ∷ rest) × (v ≡ true)
BooleanValueRow ws v rest (suc i) = (w : Word) × (ws ≡ w ∷ rest) × (v ≡ false)

-- a name, `[`, its width, `]`, its initial value, and further integers
abbrev pub IntegersRow : ℕ → ℕ → Text → Declared → Text → Type 0
IntegersRow f k ws v rest =
    (w : Word) × (o : Word) × (n : Word) × (c : Word) × (tail : Text) × (mid : Text) × (i : ℕ) × (ds : Declared)
    × (ws ≡ w ∷ o ∷ n ∷ c ∷ tail) × (w.kind ≡ name) × (n.kind ≡ number) × Told f IntegerStart k tail i mid × Told f MoreIntegers k mid ds rest
    × (v ≡ integers (name_at w) n.place (number_at n) i ∷ ds)

-- no integer more; or a `,` and integers
abbrev pub MoreIntegersRow : ℕ → ℕ → Text → Declared → Text → ℕ → Type 0
MoreIntegersRow f k ws v rest zero = (v ≡ []) × (ws ≡ rest)
MoreIntegersRow f k ws v rest (suc i) = (w : Word) × (tail : Text) × (ws ≡ w ∷ tail) × Told f Integers k tail v rest

-- no initial value; or `=` and a number
abbrev pub IntegerStartRow : Text → ℕ → Text → ℕ → Type 0
IntegerStartRow ws v rest zero = (v ≡ 0) × (ws ≡ rest)
IntegerStartRow ws v rest (suc i) = (w : Word) × (n : Word) × (ws ≡ w ∷ n ∷ rest) × (n.kind ≡ number) × (v ≡ number_at n)
