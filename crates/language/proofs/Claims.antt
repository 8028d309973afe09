-- What is claimed of the grammar's parts, and that the grammar passes the tests of the theory by it, by computation.
-- Assumes nothing.
use mathlib.Core.Bool.{Bool, true, false}
use mathlib.Core.Path.{◌≡◌, refl, sym, ap, subst}
use mathlib.Core.List.{List, [], ◌∷◌, ◌++◌, map}
use mathlib.Core.Option.{Option, none, some}
use Prim.Native.Nat.{ℕ, zero, suc}
use Prim.Native.String.{String}
use lib.Dec.{T}
use lib.ListN.{length}
use lib.Text.{eqt, eqt→eq, eqt_refl}
use Rattle.ll1.proofs.Sets.{clash}
use Rattle.ll1.proofs.Tests.{Claims, has, within, apart, empty_row, begin_row, follows, falls, keeps, differs, all_differ, smaller, some_small, Passes}
use Rattle.ll1.proofs.Forced.{Good}
use Rattle.language.specs.Words.{Kind, name, number, the}
use Rattle.language.specs.Grammar.{Part, Program, Declarations, Declaration, Inputs, MoreInputs, Ending, Booleans, MoreBooleans, BooleanStart, BooleanValue, Integers, MoreIntegers, IntegerStart, Statements, AfterStatement, NextStatement, Statement, Else, Cases, Branches, Target, Index, Procedure, Formals, FormalNames, MoreFormals, AfterProcedure, AfterName, Actuals, MoreActuals, Tier, Further, Strength, between, before, binding, csml, whole_program}
use Rattle.language.proofs.EveryPart.{every-part}

-- ---- kinds are told apart

abbrev pub same_kind : Kind → Kind → Bool
same_kind name name = true
same_kind name number = false
same_kind name (the t) = false
same_kind number name = false
same_kind number number = true
same_kind number (the t) = false
same_kind (the s) name = false
same_kind (the s) number = false
same_kind (the s) (the t) = eqt s t

holds : (b : Bool) → T b → b ≡ true
holds true t = refl
holds false t = absurd t

pub same_true : (x y : Kind) → same_kind x y ≡ true → x ≡ y
same_true name name e = refl
same_true name number e = clash (sym e)
same_true name (the t) e = clash (sym e)
same_true number name e = clash (sym e)
same_true number number e = refl
same_true number (the t) e = clash (sym e)
same_true (the s) name e = clash (sym e)
same_true (the s) number e = clash (sym e)
same_true (the s) (the t) e = ap the (eqt→eq s t (subst T (sym e) tt))

pub same_self : (x : Kind) → same_kind x x ≡ true
same_self name = refl
same_self number = refl
same_self (the s) = holds (eqt s s) (eqt_refl s)

-- ---- the claims

abbrev pub these : List String → List Kind
these ss = map the ss

abbrev pub declarations : List Kind
declarations = these ("input" ∷ "output" ∷ "internal" ∷ "integer" ∷ [])

-- what a declaration or a procedure begins with
abbrev pub declared : List Kind
declared = the "procedure" ∷ declarations

abbrev pub statements : List Kind
statements = name ∷ these ("skip" ∷ "delay" ∷ "raise" ∷ "lower" ∷ "invert" ∷ "if" ∷ "while" ∷ "loop" ∷ "exit" ∷ "switch" ∷ "break" ∷ "parallel" ∷ [])

abbrev pub operands : List Kind
operands = name ∷ number ∷ these ("true" ∷ "false" ∷ "int" ∷ "(" ∷ [])

-- what a statement list ends at, and what an expression ends at
abbrev pub list_ends : List Kind
list_ends = these ("endprog" ∷ "endproc" ∷ "else" ∷ "endif" ∷ "endloop" ∷ "case" ∷ "default" ∷ "endswitch" ∷ "||" ∷ "endparallel" ∷ [])

abbrev pub expression_ends : List Kind
expression_ends = these (";" ∷ ")" ∷ "," ∷ "then" ∷ "do" ∷ ":" ∷ []) ++ list_ends

-- what an expression begins with, of operators that bind at n or higher
abbrev pub begun_at : ℕ → List Strength → List Kind
begun_at n [] = operands
begun_at zero (between ops ∷ bs) = begun_at zero bs
begun_at zero (before op ∷ bs) = the op ∷ begun_at zero bs
begun_at (suc n) (b ∷ bs) = begun_at n bs

-- the operators between operands, of those at n, and of those below n
abbrev pub between_at : ℕ → List Strength → List Kind
between_at n [] = []
between_at zero (between ops ∷ bs) = these ops
between_at zero (before op ∷ bs) = []
between_at (suc n) (b ∷ bs) = between_at n bs

abbrev pub between_below : ℕ → List Strength → List Kind
between_below n [] = []
between_below zero (b ∷ bs) = []
between_below (suc n) (between ops ∷ bs) = these ops ++ between_below n bs
between_below (suc n) (before op ∷ bs) = between_below n bs

-- how many strengths from n on
abbrev pub height_at : ℕ → List Strength → ℕ
height_at n [] = 0
height_at zero (b ∷ bs) = suc (height_at zero bs)
height_at (suc n) (b ∷ bs) = height_at n bs

unfoldable pub first : Part → List Kind
unfolding binding
first Program = these ("program" ∷ [])
first Declarations = declared
first Declaration = declarations
first Inputs = name ∷ []
first MoreInputs = these ("," ∷ [])
first Ending = these (".H" ∷ ".L" ∷ [])
first Booleans = name ∷ []
first MoreBooleans = these ("," ∷ [])
first BooleanStart = these ("=" ∷ [])
first BooleanValue = these ("true" ∷ "false" ∷ [])
first Integers = name ∷ []
first MoreIntegers = these ("," ∷ [])
first IntegerStart = these ("=" ∷ [])
first Statements = statements
first AfterStatement = these (";" ∷ [])
first NextStatement = statements
first Statement = statements
first Else = these ("else" ∷ [])
first Cases = these ("case" ∷ [])
first Branches = these ("||" ∷ [])
first Target = name ∷ []
first Index = these ("[" ∷ [])
first Procedure = name ∷ []
first Formals = these ("(" ∷ [])
first FormalNames = name ∷ []
first MoreFormals = these ("," ∷ [])
first AfterProcedure = these (";" ∷ [])
first AfterName = these (":=" ∷ "(" ∷ [])
first Actuals = begun_at 0 binding
first MoreActuals = these ("," ∷ [])
first (Tier n) = begun_at n binding
first (Further n) = between_at n binding

unfoldable pub empty : Part → Bool
empty Program = false
empty Declarations = true
empty Declaration = false
empty Inputs = false
empty MoreInputs = true
empty Ending = true
empty Booleans = false
empty MoreBooleans = true
empty BooleanStart = true
empty BooleanValue = false
empty Integers = false
empty MoreIntegers = true
empty IntegerStart = true
empty Statements = false
empty AfterStatement = true
empty NextStatement = true
empty Statement = false
empty Else = true
empty Cases = true
empty Branches = true
empty Target = false
empty Index = true
empty Procedure = false
empty Formals = false
empty FormalNames = true
empty MoreFormals = true
empty AfterProcedure = true
empty AfterName = false
empty Actuals = true
empty MoreActuals = true
empty (Tier n) = false
empty (Further n) = true

-- what can come after it; after the program, the end of the text
unfoldable pub follow : Part → List (Option Kind)
unfolding binding
follow Program = none ∷ []
follow Declarations = map some statements
follow Declaration = map some (these (";" ∷ []))
follow Inputs = map some (these (";" ∷ []))
follow MoreInputs = map some (these (";" ∷ []))
follow Ending = map some (these ("=" ∷ "," ∷ ";" ∷ []))
follow Booleans = map some (these (";" ∷ []))
follow MoreBooleans = map some (these (";" ∷ []))
follow BooleanStart = map some (these ("," ∷ ";" ∷ []))
follow BooleanValue = map some (these ("," ∷ ";" ∷ []))
follow Integers = map some (these (";" ∷ []))
follow MoreIntegers = map some (these (";" ∷ []))
follow IntegerStart = map some (these ("," ∷ ";" ∷ []))
follow Statements = map some list_ends
follow AfterStatement = map some list_ends
follow NextStatement = map some list_ends
follow Statement = map some (the ";" ∷ list_ends)
follow Else = map some (these ("endif" ∷ []))
follow Cases = map some (these ("default" ∷ []))
follow Branches = map some (these ("endparallel" ∷ []))
follow Target = map some (these (")" ∷ []))
follow Index = map some (expression_ends ++ between_below (length binding) binding)
follow Procedure = map some (the ";" ∷ (declared ++ statements))
follow Formals = map some statements
follow FormalNames = map some (these (")" ∷ []))
follow MoreFormals = map some (these (")" ∷ []))
follow AfterProcedure = map some (declared ++ statements)
follow AfterName = map some (the ";" ∷ list_ends)
follow Actuals = map some (these (")" ∷ []))
follow MoreActuals = map some (these (")" ∷ []))
follow (Tier n) = map some (expression_ends ++ between_below n binding)
follow (Further n) = map some (expression_ends ++ between_below n binding)

-- it falls where a part stands first in a row of another
unfoldable pub rank : Part → ℕ
unfolding binding
rank Program = 0
rank Declarations = 1
rank Declaration = 0
rank Inputs = 0
rank MoreInputs = 0
rank Ending = 0
rank Booleans = 0
rank MoreBooleans = 0
rank BooleanStart = 0
rank BooleanValue = 0
rank Integers = 0
rank MoreIntegers = 0
rank IntegerStart = 0
rank Statements = 1
rank AfterStatement = 0
rank NextStatement = 2
rank Statement = 0
rank Else = 0
rank Cases = 0
rank Branches = 0
rank Target = 0
rank Index = 0
rank Procedure = 0
rank Formals = 0
rank FormalNames = 0
rank MoreFormals = 0
rank AfterProcedure = 0
rank AfterName = 0
rank Actuals = suc (height_at 0 binding)
rank MoreActuals = 0
rank (Tier n) = height_at n binding
rank (Further n) = 0

-- it falls along some row of each part
unfoldable pub size : Part → ℕ
unfolding binding
size Program = 2
size Declarations = 0
size Declaration = 2
size Inputs = 1
size MoreInputs = 0
size Ending = 0
size Booleans = 1
size MoreBooleans = 0
size BooleanStart = 0
size BooleanValue = 0
size Integers = 1
size MoreIntegers = 0
size IntegerStart = 0
size Statements = 1
size AfterStatement = 0
size NextStatement = 2
size Statement = 0
size Else = 0
size Cases = 0
size Branches = 0
size Target = 1
size Index = 0
size Procedure = 2
size Formals = 1
size FormalNames = 0
size MoreFormals = 0
size AfterProcedure = 0
size AfterName = 1
size Actuals = 0
size MoreActuals = 0
size (Tier n) = suc (height_at n binding)
size (Further n) = 0

unfoldable pub claims : Claims Kind Part
claims = record { same = same_kind; same_true = same_true; same_self = same_self; first = first; empty = empty; follow = follow; rank = rank; size = size }

-- ---- the tests

parted : (n : Part) → all_differ claims n (csml n) ≡ true
unfolding claims first empty follow rank csml binding has within apart empty_row begin_row follows falls keeps differs all_differ
parted = every-part (λ n. all_differ claims n (csml n)) refl (λ n. refl) (λ n. refl)

finite : (n : Part) → some_small claims n (csml n) ≡ true
unfolding claims size csml binding smaller some_small
finite = every-part (λ n. some_small claims n (csml n)) refl (λ n. refl) (λ n. refl)

pub passes : Passes claims csml
passes = record { parted = parted; finite = finite }

pub program-good : Good claims whole_program
unfolding claims follow has begin_row
program-good = (λ x h. h, tt)
