-- Parts are told apart by two numbers.
-- Assumes nothing.
use mathlib.Core.Bool.{Bool, true, ◌&&◌}
use mathlib.Core.Path.{◌≡◌, refl, sym, ◌∙◌, ap}
use mathlib.Core.List.{[], ◌∷◌}
use Prim.Native.Nat.{ℕ}
use lib.Dec.{eqb}
use lib.ListN.{get_or}
use borrow.Author.Tests.{eqb-true}
use Rattle.ll1.proofs.Sets.{and_left, and_right}
use Rattle.language.specs.Grammar.{Part, Program, Declarations, Declaration, Inputs, MoreInputs, Ending, Booleans, MoreBooleans, BooleanStart, BooleanValue, Integers, MoreIntegers, IntegerStart, Statements, AfterStatement, NextStatement, Statement, Else, Cases, Branches, Target, Index, Procedure, Formals, FormalNames, MoreFormals, AfterProcedure, AfterName, Actuals, MoreActuals, Tier, Further}

unfoldable pub tag : Part → ℕ
tag Program = 0
tag Declarations = 1
tag Declaration = 2
tag Inputs = 3
tag MoreInputs = 4
tag Ending = 5
tag Booleans = 6
tag MoreBooleans = 7
tag BooleanStart = 8
tag BooleanValue = 9
tag Integers = 10
tag MoreIntegers = 11
tag IntegerStart = 12
tag Statements = 13
tag AfterStatement = 14
tag NextStatement = 15
tag Statement = 16
tag Else = 17
tag Cases = 18
tag Branches = 19
tag Target = 20
tag Index = 21
tag Procedure = 22
tag Formals = 23
tag FormalNames = 24
tag MoreFormals = 25
tag AfterProcedure = 26
tag AfterName = 27
tag Actuals = 28
tag MoreActuals = 29
tag (Tier n) = 30
tag (Further n) = 31

unfoldable pub strength : Part → ℕ
strength Program = 0
strength Declarations = 0
strength Declaration = 0
strength Inputs = 0
strength MoreInputs = 0
strength Ending = 0
strength Booleans = 0
strength MoreBooleans = 0
strength BooleanStart = 0
strength BooleanValue = 0
strength Integers = 0
strength MoreIntegers = 0
strength IntegerStart = 0
strength Statements = 0
strength AfterStatement = 0
strength NextStatement = 0
strength Statement = 0
strength Else = 0
strength Cases = 0
strength Branches = 0
strength Target = 0
strength Index = 0
strength Procedure = 0
strength Formals = 0
strength FormalNames = 0
strength MoreFormals = 0
strength AfterProcedure = 0
strength AfterName = 0
strength Actuals = 0
strength MoreActuals = 0
strength (Tier n) = n
strength (Further n) = n

part_of : ℕ → ℕ → Part
part_of a n = get_or (Program ∷ Declarations ∷ Declaration ∷ Inputs ∷ MoreInputs ∷ Ending ∷ Booleans ∷ MoreBooleans ∷ BooleanStart ∷ BooleanValue ∷ Integers ∷ MoreIntegers ∷ IntegerStart ∷ Statements ∷ AfterStatement ∷ NextStatement ∷ Statement ∷ Else ∷ Cases ∷ Branches ∷ Target ∷ Index ∷ Procedure ∷ Formals ∷ FormalNames ∷ MoreFormals ∷ AfterProcedure ∷ AfterName ∷ Actuals ∷ MoreActuals ∷ Tier n ∷ Further n ∷ []) a Program

back : (x : Part) → part_of (tag x) (strength x) ≡ x
unfolding part_of tag strength
back Program = refl
back Declarations = refl
back Declaration = refl
back Inputs = refl
back MoreInputs = refl
back Ending = refl
back Booleans = refl
back MoreBooleans = refl
back BooleanStart = refl
back BooleanValue = refl
back Integers = refl
back MoreIntegers = refl
back IntegerStart = refl
back Statements = refl
back AfterStatement = refl
back NextStatement = refl
back Statement = refl
back Else = refl
back Cases = refl
back Branches = refl
back Target = refl
back Index = refl
back Procedure = refl
back Formals = refl
back FormalNames = refl
back MoreFormals = refl
back AfterProcedure = refl
back AfterName = refl
back Actuals = refl
back MoreActuals = refl
back (Tier n) = refl
back (Further n) = refl

unfoldable pub same_part : Part → Part → Bool
unfolding tag strength
same_part x y = eqb (tag x) (tag y) && eqb (strength x) (strength y)

pub part-true : (x y : Part) → same_part x y ≡ true → x ≡ y
unfolding same_part
part-true x y e =
    let p : tag x ≡ tag y = eqb-true (tag x) (tag y) (and_left (eqb (tag x) (tag y)) _ e) in
    let q : strength x ≡ strength y = eqb-true (strength x) (strength y) (and_right (eqb (tag x) (tag y)) _ e) in
    sym (back x) ∙ ap (λ (a : ℕ). part_of a (strength x)) p ∙ ap (part_of (tag y)) q ∙ back y
