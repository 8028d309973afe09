-- G1 to G10, P1 and P2: the grammar with its levels, and fault 5.
-- A row reads from left to right: ▸ stands behind a word that is spelled, ▪ behind a name or a number, ▹ behind a part, and ε ends it; ∣ parts the rows of a part, and ∎ ends them.
-- Assumes nothing.
use Rattle.std.specs.Prelude.{List, [], ◌∷◌, ◌++◌, map, ℕ, suc, length, get_or}
use Rattle.std.proofs.Math.Option.{Option, none, some}
use Prim.Native.String.{String}
use Rattle.std.proofs.Math.ListN.{get_elem?}
use Rattle.meaning.specs.Levels as levels
use Rattle.ll1.specs.Grammar.{word, part, In, Out, Row, Grammar, sentence, refused, Answers}
use Rattle.language.specs.Words.{Kind, name, number, the, Word, words, Cut}
use Rattle.language.specs.Words as cut

-- the parts of a program; Tier n is an expression of the operators that bind at n or higher, and Further n is what can follow an operand of those at n
pub data Part : Type 0 where
  Program Declarations Declaration Inputs MoreInputs Ending Booleans MoreBooleans BooleanStart BooleanValue Integers MoreIntegers IntegerStart : Part
  Statements AfterStatement NextStatement Statement Else Cases Branches Target Index : Part
  Procedure Formals FormalNames MoreFormals AfterProcedure AfterName Actuals MoreActuals : Part
  Tier Further : ℕ → Part

-- an expression may have every operator
abbrev pub Expression : Part
Expression = Tier 0

-- a row of this grammar, and how it is written
abbrev pub Line : Type 0
Line = Row Kind Part

abbrev pub ε : Line
ε = []

abbrev pub ◌▸◌ : String → Line → Line
s ▸ r = word (the s) ∷ r

abbrev pub ◌▪◌ : Kind → Line → Line
k ▪ r = word k ∷ r

abbrev pub ◌▹◌ : Part → Line → Line
p ▹ r = part p ∷ r

abbrev pub ∎ : List Line
∎ = []

abbrev pub ◌∣◌ : Line → List Line → List Line
r ∣ rows = r ∷ rows

infixr 60 ◌▸◌
infixr 60 ◌▪◌
infixr 60 ◌▹◌
infixr 50 ◌∣◌
-- one level is open over the row
abbrev pub level : Line → Line
level r = In ∷ (r ++ (Out ∷ []))

-- ---- expressions

-- operators that stand between their operands, all of one strength; or one that stands before its operand
pub data Strength : Type 0 where
  between : List String → Strength
  before : String → Strength

-- G7: from the loosest to the tightest
unfoldable pub binding : List Strength
binding =
    between ("&" ∷ []) ∷ between ("|" ∷ []) ∷ between ("==" ∷ "!=" ∷ ">" ∷ "<" ∷ [])
    ∷ before "!"
    ∷ between ("+" ∷ "-" ∷ []) ∷ between ("*" ∷ "/" ∷ "%" ∷ [])
    ∷ []

-- G8: operands; G9: each `(` is a level
abbrev pub operand : List Line
operand =
    name ▪ Index ▹ ε
    ∣ number ▪ ε
    ∣ "true" ▸ ε
    ∣ "false" ▸ ε
    ∣ "int" ▸ level ("(" ▸ Expression ▹ ")" ▸ ε)
    ∣ level ("(" ▸ Expression ▹ ")" ▸ ε)
    ∣ ∎

-- G7: from the left, so an operand that binds higher, then what follows it. G9: each `!` with its operand is a level. Past the highest stand the operands, so that none of an arithmetic operator begins with `!` (G8)
abbrev pub tier : ℕ → Option Strength → List Line
tier n (some (between ops)) = Tier (suc n) ▹ Further n ▹ ε ∣ ∎
tier n (some (before op)) = level (op ▸ Tier n ▹ ε) ∣ Tier (suc n) ▹ ε ∣ ∎
tier n none = operand

-- no operator, or one of these with its right operand, and so on
abbrev pub further : ℕ → Option Strength → List Line
further n (some (between ops)) = ε ∣ map (λ op. op ▸ Tier (suc n) ▹ Further n ▹ ε) ops
further n (some (before op)) = ε ∣ ∎
further n none = ε ∣ ∎

-- ---- the whole

-- each part, and the rows that it can be written as
unfoldable pub csml : Grammar Kind Part
-- G1
csml Program = "program" ▸ name ▪ ";" ▸ Declarations ▹ Statements ▹ "endprog" ▸ ε ∣ ∎
csml Declarations = ε ∣ Declaration ▹ ";" ▸ Declarations ▹ ε ∣ "procedure" ▸ Procedure ▹ AfterProcedure ▹ Declarations ▹ ε ∣ ∎
-- P1
csml Procedure = name ▪ Formals ▹ Statements ▹ "endproc" ▸ ε ∣ ∎
csml Formals = level ("(" ▸ FormalNames ▹ ")" ▸ ε) ∣ ∎
csml FormalNames = ε ∣ name ▪ MoreFormals ▹ ε ∣ ∎
csml MoreFormals = ε ∣ "," ▸ name ▪ MoreFormals ▹ ε ∣ ∎
csml AfterProcedure = ε ∣ ";" ▸ ε ∣ ∎
-- G2, G3, G4
csml Declaration = "input" ▸ Inputs ▹ ε ∣ "output" ▸ Booleans ▹ ε ∣ "internal" ▸ Booleans ▹ ε ∣ "integer" ▸ Integers ▹ ε ∣ ∎
csml Inputs = name ▪ Ending ▹ MoreInputs ▹ ε ∣ ∎
csml MoreInputs = ε ∣ "," ▸ Inputs ▹ ε ∣ ∎
csml Ending = ε ∣ ".H" ▸ ε ∣ ".L" ▸ ε ∣ ∎
csml Booleans = name ▪ Ending ▹ BooleanStart ▹ MoreBooleans ▹ ε ∣ ∎
csml MoreBooleans = ε ∣ "," ▸ Booleans ▹ ε ∣ ∎
csml BooleanStart = ε ∣ "=" ▸ BooleanValue ▹ ε ∣ ∎
csml BooleanValue = "true" ▸ ε ∣ "false" ▸ ε ∣ ∎
csml Integers = name ▪ "[" ▸ number ▪ "]" ▸ IntegerStart ▹ MoreIntegers ▹ ε ∣ ∎
csml MoreIntegers = ε ∣ "," ▸ Integers ▹ ε ∣ ∎
csml IntegerStart = ε ∣ "=" ▸ number ▪ ε ∣ ∎
-- G5
csml Statements = Statement ▹ AfterStatement ▹ ε ∣ ∎
csml AfterStatement = ε ∣ ";" ▸ NextStatement ▹ ε ∣ ∎
csml NextStatement = ε ∣ Statements ▹ ε ∣ ∎
-- G6; G9: a compound statement is a level from its first word on
csml Statement =
    "skip" ▸ ε
    ∣ "delay" ▸ number ▪ ε
    ∣ "raise" ▸ level ("(" ▸ Target ▹ ")" ▸ ε)
    ∣ "lower" ▸ level ("(" ▸ Target ▹ ")" ▸ ε)
    ∣ "invert" ▸ level ("(" ▸ Target ▹ ")" ▸ ε)
    ∣ name ▪ AfterName ▹ ε
    ∣ level ("if" ▸ Expression ▹ "then" ▸ Statements ▹ Else ▹ "endif" ▸ ε)
    ∣ level ("while" ▸ Expression ▹ "do" ▸ "loop" ▸ Statements ▹ "endloop" ▸ ε)
    ∣ level ("loop" ▸ Statements ▹ "endloop" ▸ ε)
    ∣ "exit" ▸ ε
    ∣ level ("switch" ▸ "case" ▸ Expression ▹ ":" ▸ Statements ▹ Cases ▹ "default" ▸ ":" ▸ Statements ▹ "endswitch" ▸ ε)
    ∣ "break" ▸ ε
    ∣ level ("parallel" ▸ Statements ▹ "||" ▸ Statements ▹ Branches ▹ "endparallel" ▸ ε)
    ∣ ∎
-- G6: an assignment or, P2, a call
csml AfterName = ":=" ▸ Expression ▹ ε ∣ level ("(" ▸ Actuals ▹ ")" ▸ ε) ∣ ∎
csml Actuals = ε ∣ Expression ▹ MoreActuals ▹ ε ∣ ∎
csml MoreActuals = ε ∣ "," ▸ Expression ▹ MoreActuals ▹ ε ∣ ∎
csml Else = ε ∣ "else" ▸ Statements ▹ ε ∣ ∎
-- G6: one case or more, and the default
csml Cases = ε ∣ "case" ▸ Expression ▹ ":" ▸ Statements ▹ Cases ▹ ε ∣ ∎
-- G6: two branches or more
csml Branches = ε ∣ "||" ▸ Statements ▹ Branches ▹ ε ∣ ∎
csml Target = name ▪ Index ▹ ε ∣ ∎
csml Index = ε ∣ "[" ▸ number ▪ "]" ▸ ε ∣ ∎
csml (Tier n) = tier n (get_elem? binding n)
csml (Further n) = further n (get_elem? binding n)

-- Z9
abbrev pub most_levels : ℕ
most_levels = levels.most_levels

-- where reading starts
abbrev pub whole_program : Line
whole_program = Program ▹ ε

-- ---- what is said of a text

-- the grammar looks at the kinds of words alone
abbrev pub kinds : List Word → List Kind
kinds ws = map (λ w. w.kind) ws

-- G10: the place of word number e; that of the end is the length
abbrev pub place_of : List ℕ → List Word → ℕ → ℕ
place_of s ws e = get_or (map (λ w. w.place) ws) e (length s)

-- a text is a program, with its words; or it is refused, with a number and a place
pub data Outcome : Type 0 where
  program : List Word → Outcome
  refuses : ℕ → ℕ → Outcome

-- R1: 4 (W7) comes before 5 (G10)
pub data Checks (s : List ℕ) : Outcome → Type 0 where
  four : {e : ℕ} → Cut 0 s (cut.refused e) → Checks s (refuses 4 e)
  five : {ws : List Word} {e : ℕ} → Cut 0 s (words ws) → Answers csml most_levels whole_program (kinds ws) (refused e) → Checks s (refuses 5 (place_of s ws e))
  fine : {ws : List Word} → Cut 0 s (words ws) → Answers csml most_levels whole_program (kinds ws) sentence → Checks s (program ws)
