-- What is tested of each part by computation holds of every part.
-- Assumes nothing.
use mathlib.Core.Bool.{Bool, true, ◌&&◌}
use mathlib.Core.Path.{◌≡◌}
use mathlib.Core.List.{List, [], ◌∷◌}
use Prim.Native.Nat.{ℕ, zero, suc, ◌<◌}
use native.Mathlib.Omega.{arith}
use lib.ListN.{length, get_or}
use Rattle.ll1.proofs.Sets.{and_left, and_right}
use Rattle.language.specs.Grammar.{Part, Program, Declarations, Declaration, Inputs, MoreInputs, Ending, Booleans, MoreBooleans, BooleanStart, BooleanValue, Integers, MoreIntegers, IntegerStart, Statements, AfterStatement, NextStatement, Statement, Else, Cases, Branches, Target, Index, Procedure, Formals, FormalNames, MoreFormals, AfterProcedure, AfterName, Actuals, MoreActuals, Tier, Further}

-- the parts, with the strengths that `binding` has
abbrev pub all_parts : List Part
all_parts = Program ∷ Declarations ∷ Declaration ∷ Inputs ∷ MoreInputs ∷ Ending ∷ Booleans ∷ MoreBooleans ∷ BooleanStart ∷ BooleanValue ∷ Integers ∷ MoreIntegers ∷ IntegerStart ∷ Statements ∷ AfterStatement ∷ NextStatement ∷ Statement ∷ Else ∷ Cases ∷ Branches ∷ Target ∷ Index ∷ Procedure ∷ Formals ∷ FormalNames ∷ MoreFormals ∷ AfterProcedure ∷ AfterName ∷ Actuals ∷ MoreActuals ∷ Tier 0 ∷ Tier 1 ∷ Tier 2 ∷ Tier 3 ∷ Tier 4 ∷ Tier 5 ∷ Further 0 ∷ Further 1 ∷ Further 2 ∷ Further 3 ∷ Further 4 ∷ Further 5 ∷ []

abbrev pub all : (Part → Bool) → List Part → Bool
all t [] = true
all t (n ∷ ns) = t n && all t ns

listed : (t : Part → Bool) (l : List Part) → all t l ≡ true → (i : ℕ) → i < length l → t (get_or l i Program) ≡ true
listed t [] e i h = absurd (omega arith)
listed t (n ∷ l) e zero h = and_left (t n) (all t l) e
listed t (n ∷ l) e (suc i) h = listed t l (and_right (t n) (all t l) e) i (omega arith)

-- a strength past those of `binding`
abbrev pub past : ℕ → ℕ
past n = suc (suc (suc (suc (suc (suc n)))))

pub every-part : (t : Part → Bool) → all t all_parts ≡ true → ((n : ℕ) → t (Tier (past n)) ≡ true) → ((n : ℕ) → t (Further (past n)) ≡ true) → (n : Part) → t n ≡ true
every-part t e f g Program = listed t all_parts e 0 (omega arith)
every-part t e f g Declarations = listed t all_parts e 1 (omega arith)
every-part t e f g Declaration = listed t all_parts e 2 (omega arith)
every-part t e f g Inputs = listed t all_parts e 3 (omega arith)
every-part t e f g MoreInputs = listed t all_parts e 4 (omega arith)
every-part t e f g Ending = listed t all_parts e 5 (omega arith)
every-part t e f g Booleans = listed t all_parts e 6 (omega arith)
every-part t e f g MoreBooleans = listed t all_parts e 7 (omega arith)
every-part t e f g BooleanStart = listed t all_parts e 8 (omega arith)
every-part t e f g BooleanValue = listed t all_parts e 9 (omega arith)
every-part t e f g Integers = listed t all_parts e 10 (omega arith)
every-part t e f g MoreIntegers = listed t all_parts e 11 (omega arith)
every-part t e f g IntegerStart = listed t all_parts e 12 (omega arith)
every-part t e f g Statements = listed t all_parts e 13 (omega arith)
every-part t e f g AfterStatement = listed t all_parts e 14 (omega arith)
every-part t e f g NextStatement = listed t all_parts e 15 (omega arith)
every-part t e f g Statement = listed t all_parts e 16 (omega arith)
every-part t e f g Else = listed t all_parts e 17 (omega arith)
every-part t e f g Cases = listed t all_parts e 18 (omega arith)
every-part t e f g Branches = listed t all_parts e 19 (omega arith)
every-part t e f g Target = listed t all_parts e 20 (omega arith)
every-part t e f g Index = listed t all_parts e 21 (omega arith)
every-part t e f g Procedure = listed t all_parts e 22 (omega arith)
every-part t e f g Formals = listed t all_parts e 23 (omega arith)
every-part t e f g FormalNames = listed t all_parts e 24 (omega arith)
every-part t e f g MoreFormals = listed t all_parts e 25 (omega arith)
every-part t e f g AfterProcedure = listed t all_parts e 26 (omega arith)
every-part t e f g AfterName = listed t all_parts e 27 (omega arith)
every-part t e f g Actuals = listed t all_parts e 28 (omega arith)
every-part t e f g MoreActuals = listed t all_parts e 29 (omega arith)
every-part t e f g (Tier zero) = listed t all_parts e 30 (omega arith)
every-part t e f g (Tier (suc zero)) = listed t all_parts e 31 (omega arith)
every-part t e f g (Tier (suc (suc zero))) = listed t all_parts e 32 (omega arith)
every-part t e f g (Tier (suc (suc (suc zero)))) = listed t all_parts e 33 (omega arith)
every-part t e f g (Tier (suc (suc (suc (suc zero))))) = listed t all_parts e 34 (omega arith)
every-part t e f g (Tier (suc (suc (suc (suc (suc zero)))))) = listed t all_parts e 35 (omega arith)
every-part t e f g (Tier (suc (suc (suc (suc (suc (suc n))))))) = f n
every-part t e f g (Further zero) = listed t all_parts e 36 (omega arith)
every-part t e f g (Further (suc zero)) = listed t all_parts e 37 (omega arith)
every-part t e f g (Further (suc (suc zero))) = listed t all_parts e 38 (omega arith)
every-part t e f g (Further (suc (suc (suc zero)))) = listed t all_parts e 39 (omega arith)
every-part t e f g (Further (suc (suc (suc (suc zero))))) = listed t all_parts e 40 (omega arith)
every-part t e f g (Further (suc (suc (suc (suc (suc zero)))))) = listed t all_parts e 41 (omega arith)
every-part t e f g (Further (suc (suc (suc (suc (suc (suc n))))))) = g n
