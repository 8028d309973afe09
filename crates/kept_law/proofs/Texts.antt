-- Whatever the words of a short text come to has their places and numbers, and a statement in each list that must have one.
-- Assumes nothing.
use mathlib.Core.Bool.{Bool, true, false, cond}
use mathlib.Core.List.{List, [], ◌∷◌, ◌++◌, map}
use mathlib.Core.Option.{Option, none, some}
use Prim.Native.Nat.{ℕ, suc}
use Prim.Native.String.{String}
use lib.ListN.{get_elem?}
use Rattle.ll1.specs.Grammar.{Sentence}
use Rattle.ll1.specs.Values.{Makes}
use Rattle.meaning.specs.Declared.{Declaration as Declared, outputs, internals, Ending as Ended}
use Rattle.meaning.specs.Unexpanded.{Term, Commands, a_variable}
use Rattle.language.specs.Words.{Word, bytes, same}
use Rattle.language.specs.Grammar.{Part, Program, Declarations, Declaration, Inputs, MoreInputs, Ending, Booleans, MoreBooleans, BooleanStart, BooleanValue, Integers, MoreIntegers, IntegerStart, Statements, AfterStatement, NextStatement, Statement, Else, Cases, Branches, Target, Index, Procedure, Formals, FormalNames, MoreFormals, AfterProcedure, AfterName, Actuals, MoreActuals, Tier, Further, ◌▸◌, ◌▹◌, ε, Line, Strength, between, before, binding, tier, further, csml, most_levels, whole_program, kinds}
use Rattle.language.specs.Trees.{Name, name_at, Val, Operator, operators, joined_by, name_or_bit, whole_or_part, makes_operators, makes_further, makes_tier, makes, source_of}
use Rattle.language.proofs.Claims.{claims}
use Rattle.descent_law.specs.Told.{kind_of}
use Rattle.descent_law.proofs.Program.{program-told}
use Rattle.kept_law.specs.Kept.{Every, Near, LowWord, LowName, LowTerm, LowTarget, Some, Kept, KeptAll, KeptTests, KeptEach, LowDeclared, KeptProcedure, KeptDeclared, KeptProgram}
use Rattle.kept_law.proofs.Everywhere.{Keeps, everywhere}

abbrev Maker : Type 0
Maker = Name → Ended → Bool → Declared

abbrev LowEach : (Maker → List Declared) → Type 0
LowEach g = (kind : Maker) → ((n : Name) (e : Ended) (b : Bool) → LowName n → LowDeclared (kind n e b)) → Every LowDeclared (g kind)

-- what each part has
abbrev Has : (n : Part) → Val n → Type 0
Has Program v = KeptProgram v
Has Declarations v = Every KeptDeclared v
Has Declaration v = Every LowDeclared v
Has Inputs v = Every LowDeclared v
Has MoreInputs v = Every LowDeclared v
Has Ending v = Unit {0}
Has Booleans g = LowEach g
Has MoreBooleans g = LowEach g
Has BooleanStart v = Unit {0}
Has BooleanValue v = Unit {0}
Has Integers v = Every LowDeclared v
Has MoreIntegers v = Every LowDeclared v
Has IntegerStart v = Unit {0}
Has Statements v = Some v × KeptAll v
Has AfterStatement v = KeptAll v
Has NextStatement v = KeptAll v
Has Statement v = Kept v
Has Else v = KeptAll v
Has Cases g = (last : Commands) → KeptAll last → KeptTests (g last)
Has Branches v = KeptEach v
Has Target v = LowTarget v
Has Index v = Unit {0}
Has Procedure v = KeptProcedure v
Has Formals v = Every LowName v
Has FormalNames v = Every LowName v
Has MoreFormals v = Every LowName v
Has AfterProcedure v = Unit {0}
Has AfterName g = (n : Name) → LowName n → Kept (g n)
Has Actuals v = Every LowTerm v
Has MoreActuals v = Every LowTerm v
Has (Tier n) v = LowTerm v
Has (Further n) g = (left : Term) → LowTerm left → LowTerm (g left)

-- ---- expressions

Joins : Operator → Type 0
Joins o = (p : ℕ) (a b : Term) → Near p → LowTerm a → LowTerm b → LowTerm (o.joins p a b)

chosen : (t : Bool) (f g : ℕ → Term → Term → Term) (p : ℕ) (a b : Term) → LowTerm (f p a b) → LowTerm (g p a b) → LowTerm (cond t f g p a b)
chosen true f g p a b x y = x
chosen false f g p a b x y = y

joined : (os : List Operator) → Every Joins os → (s : String) (p : ℕ) (a b : Term) → Near p → LowTerm a → LowTerm b → LowTerm (joined_by os s p a b)
unfolding joined_by LowTerm Joins
joined [] x s p a b h y z = (h, (y, z))
joined (o ∷ os) (j, x) s p a b h y z = chosen (same (bytes o.sign) (bytes s)) o.joins (joined_by os s) p a b (j p a b h y z) (joined os x s p a b h y z)

all_join : Every Joins operators
unfolding operators Joins LowTerm
all_join = (any, (any, (any, (any, (any, (any, (any, (any, (any, (any, (any, tt)))))))))))
  where
    any : (p : ℕ) (a b : Term) → Near p → LowTerm a → LowTerm b → Near p × (LowTerm a × LowTerm b)
    any p a b h y z = (h, (y, z))

name-low : (w : Word) (j : Option ℕ) → Near w.place → LowTerm (name_or_bit (name_at w) j)
unfolding LowTerm
name-low w none h = h
name-low w (some j) h = h

target-low : (w : Word) (j : Option ℕ) → Near w.place → LowTarget (whole_or_part (name_at w) j)
target-low w none h = h
target-low w (some j) h = h

-- what the rows of a part keep
abbrev Rows : (A : Type 0) → (A → Type 0) → (rows : List Line) → Makes Word Val A rows → Type 0
Rows = Keeps Word Val kind_of LowWord Has

abbrev Grows : (Term → Term) → Type 0
Grows g = (left : Term) → LowTerm left → LowTerm (g left)

module _ (n : ℕ) where
  tier-keeps : (o : Option Strength) → Rows Term LowTerm (tier n o) (makes_tier n o)
  unfolding LowTerm
  tier-keeps none = (
    λ vs x. name-low vs.0 vs.1.0 x.0.0.0,
    (
      λ vs x. (x.0.0.0, x.0.0.1 x.0.1),
      (λ vs x. x.0.0.0, (λ vs x. x.0.0.0, (λ vs x. (x.0.0.0, x.1.1.0), (λ vs x. x.1.0, tt)))),
    ),
  )
  tier-keeps (some (between ops)) = (λ vs x. x.1.0 vs.0 x.0, tt)
  tier-keeps (some (before op)) = (λ vs x. (x.0.0.0, x.1.0), (λ vs x. x.0, tt))

  ops_keep : (ops : List String) → Rows (Term → Term) Grows (map (λ op. op ▸ Tier (suc n) ▹ Further n ▹ ε) ops) (makes_operators n ops)
  unfolding makes_operators
  ops_keep [] = tt
  ops_keep (op ∷ ops) = (
    λ vs x left l. x.1.1.0 (joined_by operators op vs.0.place left vs.1.0) (joined operators all_join op vs.0.place left vs.1.0 x.0.0.0 l x.1.0),
    ops_keep ops,
  )

  further-keeps : (o : Option Strength) → Rows (Term → Term) Grows (further n o) (makes_further n o)
  further-keeps none = (λ vs x left l. l, tt)
  further-keeps (some (between ops)) = (λ vs x left l. l, ops_keep ops)
  further-keeps (some (before op)) = (λ vs x left l. l, tt)

-- ---- declarations

-- where nothing is claimed, every row keeps it
any : (A : Type 0) (rows : List Line) (m : Makes Word Val A rows) → Rows A (λ a. Unit {0}) rows m
any A [] m = tt
any A (r ∷ rows) m = (λ vs x. tt, any A rows m.1)

variables : (ds : List Declared) → Every LowDeclared ds → (es : Val Declarations) → Every KeptDeclared es → Every KeptDeclared (map a_variable ds ++ es)
variables [] x es y = y
variables (d ∷ ds) (h, x) es y = (h, variables ds x es y)

-- ---- the whole

keeps : (n : Part) → Rows (Val n) (Has n) (csml n) (makes n)
unfolding csml makes Kept
keeps Program = (λ vs x. record { declared = x.1.1.1.0; body = x.1.1.1.1.0.1 }, tt)
keeps Declarations = (λ vs x. tt, (λ vs x. variables vs.0 x.0 vs.1.1.0 x.1.1.0, (λ vs x. (x.1.0, x.1.1.1.0), tt)))
keeps Declaration = (λ vs x. x.1.0, (λ vs x. x.1.0 outputs (λ n e b l. l), (λ vs x. x.1.0 internals (λ n e b l. l), (λ vs x. x.1.0, tt))))
keeps Inputs = (λ vs x. (x.0.0.0, x.1.1.0), tt)
keeps MoreInputs = (λ vs x. tt, (λ vs x. x.1.0, tt))
keeps Ending = any _ (csml Ending) (makes Ending)
keeps Booleans = (λ vs x kind k. (k _ _ _ x.0.0.0, x.1.1.1.0 kind k), tt)
keeps MoreBooleans = (λ vs x kind k. tt, (λ vs x kind k. x.1.0 kind k, tt))
keeps BooleanStart = any _ (csml BooleanStart) (makes BooleanStart)
keeps BooleanValue = any _ (csml BooleanValue) (makes BooleanValue)
keeps Integers = (λ vs x. ((x.0.0.0, x.1.1.0.0.0), x.1.1.1.1.1.0), tt)
keeps MoreIntegers = (λ vs x. tt, (λ vs x. x.1.0, tt))
keeps IntegerStart = any _ (csml IntegerStart) (makes IntegerStart)
keeps Statements = (λ vs x. (tt, (x.0, x.1.0)), tt)
keeps AfterStatement = (λ vs x. tt, (λ vs x. x.1.0, tt))
keeps NextStatement = (λ vs x. tt, (λ vs x. x.0.1, tt))
keeps Statement = (
  λ vs x. x.0.0.0,
  (
    λ vs x. (x.0.0.0, x.1.0.0.0),
    (
      λ vs x. (x.0.0.0, x.1.1.0),
      (
        λ vs x. (x.0.0.0, x.1.1.0),
        (
          λ vs x. (x.0.0.0, x.1.1.0),
          (
            λ vs x. x.1.0 (name_at vs.0) x.0.0.0,
            (
              λ vs x. (x.0.0.0, (x.1.0, (x.1.1.1.0.1, x.1.1.1.1.0))),
              (
                λ vs x. (x.0.0.0, (x.1.0, x.1.1.1.1.0.1)),
                (
                  λ vs x. (x.0.0.0, x.1.0.1),
                  (
                    λ vs x. x.0.0.0,
                    (
                      λ vs x.
                          let b = x.1.1.1.1.0 in
                          (x.0.0.0, (x.1.0.0.0, (x.1.1.0, (b.0, (b.1, x.1.1.1.1.1.0 vs.1.1.1.1.1.1.1.1.0 x.1.1.1.1.1.1.1.1.0.1))))),
                      (
                        λ vs x. x.0.0.0,
                        (
                          λ vs x.
                              let a = x.1.0 in
                              let b = x.1.1.1.0 in
                              (x.0.0.0, (a.0, (a.1, (b.0, (b.1, x.1.1.1.1.0))))),
                          tt,
                        ),
                      ),
                    ),
                  ),
                ),
              ),
            ),
          ),
        ),
      ),
    ),
  ),
)
keeps Else = (λ vs x. tt, (λ vs x. x.1.0.1, tt))
keeps Cases = (λ vs x last l. l, (λ vs x last l. (x.0.0.0, (x.1.0, (x.1.1.1.0.0, (x.1.1.1.0.1, x.1.1.1.1.0 last l)))), tt))
keeps Branches = (λ vs x. tt, (λ vs x. (x.1.0.0, (x.1.0.1, x.1.1.0)), tt))
keeps Target = (λ vs x. target-low vs.0 vs.1.0 x.0.0.0, tt)
keeps Index = any _ (csml Index) (makes Index)
keeps Procedure = (λ vs x. record { name = x.0.0.0; formals = x.1.0; some = x.1.1.0.0; body = x.1.1.0.1 }, tt)
keeps Formals = (λ vs x. x.1.0, tt)
keeps FormalNames = (λ vs x. tt, (λ vs x. (x.0.0.0, x.1.0), tt))
keeps MoreFormals = (λ vs x. tt, (λ vs x. (x.1.0.0.0, x.1.1.0), tt))
keeps AfterProcedure = any _ (csml AfterProcedure) (makes AfterProcedure)
keeps AfterName = (λ vs x n l. (l, x.1.0), (λ vs x n l. (l, x.1.0), tt))
keeps Actuals = (λ vs x. tt, (λ vs x. (x.0, x.1.0), tt))
keeps MoreActuals = (λ vs x. tt, (λ vs x. (x.1.0, x.1.1.0), tt))
keeps (Tier n) = tier-keeps n (get_elem? binding n)
keeps (Further n) = further-keeps n (get_elem? binding n)

-- the tree of a text, by its words
pub program-kept : (ws : List Word) (d : Sentence csml most_levels whole_program (kinds ws)) → Every LowWord ws → KeptProgram (source_of ws d)
program-kept ws d q =
    let (f, x) = program-told ws d in
    (everywhere Word Val kind_of LowWord Has claims csml makes keeps f Program most_levels ws (source_of ws d) [] q x).0
