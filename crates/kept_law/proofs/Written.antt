-- What a text's statements are, its procedures' too; and what they are expanded to inside a call.
-- Assumes nothing.
use mathlib.Core.Bool.{Bool, true, false, cond}
use mathlib.Core.Path.{◌≡◌, refl, ap₂}
use mathlib.Core.List.{List, [], ◌∷◌, ◌++◌}
use Prim.Native.Nat.{ℕ}
use lib.ListN.{get_elem?}
use Rattle.ll1.specs.Values.{Makes}
use Rattle.meaning.specs.Tree.{Name}
use Rattle.meaning.specs.Declared.{same_bytes}
use Rattle.meaning.specs.Unexpanded.{Term, Command, skip, delay, change, assign, choice, while, loop, exit, break, switch, parallel, call, passing, Commands, end, ◌⨾◌, Tests, default, case, Strands, ◌∥◌}
use Rattle.meaning.specs.Unexpanded as unexpanded
use Rattle.meaning.specs.Expansion.{Bound, bind, allowed_by, same_count, followed_by, alone, expand, expand_all, expand_tests, expand_each, called}
use Rattle.meaning.specs.Procedures.{found_in, found_tests, found_each, calls_passing}
use Rattle.language.specs.Words.{Word}
use Rattle.language.specs.Grammar.{Part, Program, Declarations, Declaration, Inputs, MoreInputs, Ending, Booleans, MoreBooleans, BooleanStart, BooleanValue, Integers, MoreIntegers, IntegerStart, Statements, AfterStatement, NextStatement, Statement, Else, Cases, Branches, Target, Index, Procedure, Formals, FormalNames, MoreFormals, AfterProcedure, AfterName, Actuals, MoreActuals, Tier, Further, Line, binding, tier, further, csml}
use Rattle.language.specs.Trees.{Val, makes_further, makes_tier, makes}
use Rattle.language.proofs.Claims.{claims}
use Rattle.descent_law.specs.Told.{kind_of, Told}
use Rattle.kept_law.specs.Kept.{Every, Some}
use Rattle.kept_law.specs.Written.{Written, WrittenAll, WrittenTests, WrittenEach, WrittenProcedure}
use Rattle.kept_law.proofs.Everywhere.{Keeps, everywhere}

abbrev Any : Word → Type 0
Any w = Unit {0}

-- what each part has: nothing is claimed but of statements
abbrev Has : (n : Part) → Val n → Type 0
Has Program v = WrittenAll v.body
Has Declarations v = Unit {0}
Has Declaration v = Unit {0}
Has Inputs v = Unit {0}
Has MoreInputs v = Unit {0}
Has Ending v = Unit {0}
Has Booleans v = Unit {0}
Has MoreBooleans v = Unit {0}
Has BooleanStart v = Unit {0}
Has BooleanValue v = Unit {0}
Has Integers v = Unit {0}
Has MoreIntegers v = Unit {0}
Has IntegerStart v = Unit {0}
Has Statements v = Some v × WrittenAll v
Has AfterStatement v = WrittenAll v
Has NextStatement v = WrittenAll v
Has Statement v = Written v
Has Else v = WrittenAll v
Has Cases g = (last : Commands) → WrittenAll last → WrittenTests (g last)
Has Branches v = WrittenEach v
Has Target v = Unit {0}
Has Index v = Unit {0}
Has Procedure v = WrittenProcedure v
Has Formals v = Unit {0}
Has FormalNames v = Unit {0}
Has MoreFormals v = Unit {0}
Has AfterProcedure v = Unit {0}
Has AfterName g = (n : Name) → Written (g n)
Has Actuals v = Unit {0}
Has MoreActuals v = Unit {0}
Has (Tier n) v = Unit {0}
Has (Further n) v = Unit {0}

abbrev Rows : (A : Type 0) → (A → Type 0) → (rows : List Line) → Makes Word Val A rows → Type 0
Rows = Keeps Word Val kind_of Any Has

any : (A : Type 0) (rows : List Line) (m : Makes Word Val A rows) → Rows A (λ a. Unit {0}) rows m
any A [] m = tt
any A (r ∷ rows) m = (λ vs x. tt, any A rows m.1)

keeps : (n : Part) → Rows (Val n) (Has n) (csml n) (makes n)
unfolding csml makes Written
keeps Program = (λ vs x. x.1.1.1.1.0.1, tt)
keeps Declarations = any _ (csml Declarations) (makes Declarations)
keeps Declaration = any _ (csml Declaration) (makes Declaration)
keeps Inputs = any _ (csml Inputs) (makes Inputs)
keeps MoreInputs = any _ (csml MoreInputs) (makes MoreInputs)
keeps Ending = any _ (csml Ending) (makes Ending)
keeps Booleans = any _ (csml Booleans) (makes Booleans)
keeps MoreBooleans = any _ (csml MoreBooleans) (makes MoreBooleans)
keeps BooleanStart = any _ (csml BooleanStart) (makes BooleanStart)
keeps BooleanValue = any _ (csml BooleanValue) (makes BooleanValue)
keeps Integers = any _ (csml Integers) (makes Integers)
keeps MoreIntegers = any _ (csml MoreIntegers) (makes MoreIntegers)
keeps IntegerStart = any _ (csml IntegerStart) (makes IntegerStart)
keeps Statements = (λ vs x. (tt, (x.0, x.1.0)), tt)
keeps AfterStatement = (λ vs x. tt, (λ vs x. x.1.0, tt))
keeps NextStatement = (λ vs x. tt, (λ vs x. x.0.1, tt))
keeps Statement = (
  λ vs x. tt,
  (
    λ vs x. tt,
    (
      λ vs x. tt,
      (
        λ vs x. tt,
        (
          λ vs x. tt,
          (
            λ vs x. x.1.0 _,
            (
              λ vs x. (x.1.1.1.0.1, x.1.1.1.1.0),
              (
                λ vs x. x.1.1.1.1.0.1,
                (
                  λ vs x. x.1.0.1,
                  (
                    λ vs x. tt,
                    (
                      λ vs x. (x.1.1.1.1.0.0, (x.1.1.1.1.0.1, x.1.1.1.1.1.0 _ x.1.1.1.1.1.1.1.1.0.1)),
                      (λ vs x. tt, (λ vs x. (x.1.0.0, (x.1.0.1, (x.1.1.1.0.0, (x.1.1.1.0.1, x.1.1.1.1.0)))), tt)),
                    ),
                  ),
                ),
              ),
            ),
          ),
        ),
      ),
    ),
  ),
)
keeps Else = (λ vs x. tt, (λ vs x. x.1.0.1, tt))
keeps Cases = (λ vs x last l. l, (λ vs x last l. (x.1.1.1.0.0, (x.1.1.1.0.1, x.1.1.1.1.0 last l)), tt))
keeps Branches = (λ vs x. tt, (λ vs x. (x.1.0.0, (x.1.0.1, x.1.1.0)), tt))
keeps Target = any _ (csml Target) (makes Target)
keeps Index = any _ (csml Index) (makes Index)
keeps Procedure = (λ vs x. x.1.1.0, tt)
keeps Formals = any _ (csml Formals) (makes Formals)
keeps FormalNames = any _ (csml FormalNames) (makes FormalNames)
keeps MoreFormals = any _ (csml MoreFormals) (makes MoreFormals)
keeps AfterProcedure = any _ (csml AfterProcedure) (makes AfterProcedure)
keeps AfterName = (λ vs x n. tt, (λ vs x n. tt, tt))
keeps Actuals = any _ (csml Actuals) (makes Actuals)
keeps MoreActuals = any _ (csml MoreActuals) (makes MoreActuals)
keeps (Tier n) = any _ (tier n (get_elem? binding n)) (makes_tier n (get_elem? binding n))
keeps (Further n) = any _ (further n (get_elem? binding n)) (makes_further n (get_elem? binding n))

all_any : (ws : List Word) → Every Any ws
all_any [] = tt
all_any (w ∷ ws) = (tt, all_any ws)

pub procedure-written : (f k : ℕ) (ws : List Word) (q : unexpanded.Procedure) (rest : List Word) → Told f Procedure k ws q rest → WrittenProcedure q
procedure-written f k ws q rest x = (everywhere Word Val kind_of Any Has claims csml makes keeps f Procedure k ws q rest (all_any ws) x).0

-- ---- expanded inside a call

-- one statement or more, as a text can have them
abbrev pub Stands : Commands → Type 0
Stands x = Some x × WrittenAll x

some_followed : (x y : Commands) → Some x → Some (followed_by x y)
unfolding followed_by
some_followed end y e = absurd e
some_followed (l ⨾ ls) y e = tt

followed : (x y : Commands) → WrittenAll x → WrittenAll y → WrittenAll (followed_by x y)
unfolding followed_by Written
followed end y a b = b
followed (l ⨾ ls) y (h, a) b = (h, followed ls y a b)

module _ (calls : Name → List Term → Commands) (written : (v : Name) (ts : List Term) → Stands (calls v ts)) (to : ℕ → ℕ) (bound : List (Bound Term)) where
  mutual
    unfolding expand Written

    one_written : (c : Command) → Written c → Stands (expand calls to bound c)
    one_written (skip p) h = (tt, (tt, tt))
    one_written (delay p q n) h = (tt, (tt, tt))
    one_written (change p c t) h = (tt, (tt, tt))
    one_written (assign v e) h = (tt, (tt, tt))
    one_written (choice p e a b) (x, y) = (tt, ((all-written a x, all-written b y), tt))
    one_written (while p e b) x = (tt, (all-written b x, tt))
    one_written (loop p b) x = (tt, (all-written b x, tt))
    one_written (exit p) h = (tt, (tt, tt))
    one_written (break p) h = (tt, (tt, tt))
    one_written (switch p ts) x = (tt, (tests-written ts x, tt))
    one_written (parallel p bs) x = (tt, (each-written bs x, tt))
    one_written (call v ts) h = written _ _
    one_written (passing p k) h = absurd h

    all-written : (x : Commands) → WrittenAll x → WrittenAll (expand_all calls to bound x)
    all-written end h = tt
    all-written (l ⨾ ls) (h, x) = followed (expand calls to bound l) (expand_all calls to bound ls) (one_written l h).1 (all-written ls x)

    some_written : (x : Commands) → Some x → WrittenAll x → Some (expand_all calls to bound x)
    some_written end e h = absurd e
    some_written (l ⨾ ls) e (h, x) = some_followed (expand calls to bound l) (expand_all calls to bound ls) (one_written l h).0

    tests-written : (ts : Tests) → WrittenTests ts → WrittenTests (expand_tests calls to bound ts)
    tests-written (default d) x = all-written d x
    tests-written (case p e b ts) (s, (x, y)) = (some_written b s x, (all-written b x, tests-written ts y))

    each-written : (bs : Strands) → WrittenEach bs → WrittenEach (expand_each calls to bound bs)
    each-written unexpanded.none x = tt
    each-written (b ∥ bs) (s, (x, y)) = (some_written b s x, (all-written b x, each-written bs y))

one_of : (a b c : Bool) (x y z : Commands) → Stands x → Stands y → Stands z → Stands (cond a (cond b (cond c x y) y) z)
one_of true true true x y z h i j = h
one_of true true false x y z h i j = i
one_of true false c x y z h i j = i
one_of false b c x y z h i j = j

pub called-written : (ps : List unexpanded.Procedure) → Every WrittenProcedure ps → (at : ℕ) (v : Name) (ts : List Term) → Stands (called ps at v ts)
unfolding called Written
called-written [] k at v ts = (tt, (tt, tt))
called-written (p ∷ ps) ((s, l), k) at v ts =
    let calls = called ps at in
    let bound = bind p.formals ts in
    one_of (same_bytes p.name.bytes v.bytes) (same_count p.formals ts) (allowed_by bound p.body)
    (expand_all calls (λ q. at) bound p.body)
    (alone (call v ts))
    (called ps at v ts)
    (some_written calls (λ w us. called-written ps k at w us) (λ q. at) bound p.body s l, all-written calls (λ w us. called-written ps k at w us) (λ q. at) bound p.body l)
    (tt, (tt, tt))
    (called-written ps k at v ts)

-- P13: none of its calls passes a size by itself
mutual
  unfolding found_in Written

  one_none : (c : Command) → Written c → found_in (λ v. []) (λ p. p ∷ []) c ≡ []
  one_none (skip p) h = refl
  one_none (delay p q n) h = refl
  one_none (change p c t) h = refl
  one_none (assign v e) h = refl
  one_none (choice p e a b) (x, y) = ap₂ ◌++◌ (none-passing a x) (none-passing b y)
  one_none (while p e b) x = none-passing b x
  one_none (loop p b) x = none-passing b x
  one_none (exit p) h = refl
  one_none (break p) h = refl
  one_none (switch p ts) x = tests-none ts x
  one_none (parallel p bs) x = each_none bs x
  one_none (call v ts) h = refl
  one_none (passing p k) h = absurd h

  pub none-passing : (x : Commands) → WrittenAll x → calls_passing x ≡ []
  none-passing end h = refl
  none-passing (l ⨾ ls) (h, x) = ap₂ ◌++◌ (one_none l h) (none-passing ls x)

  tests-none : (ts : Tests) → WrittenTests ts → found_tests (λ v. []) (λ p. p ∷ []) ts ≡ []
  tests-none (default d) x = none-passing d x
  tests-none (case p e b ts) (s, (x, y)) = ap₂ ◌++◌ (none-passing b x) (tests-none ts y)

  each_none : (bs : Strands) → WrittenEach bs → found_each (λ v. []) (λ p. p ∷ []) bs ≡ []
  each_none unexpanded.none x = refl
  each_none (b ∥ bs) (s, (x, y)) = ap₂ ◌++◌ (none-passing b x) (each_none bs y)
