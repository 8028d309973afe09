-- A program's own text opens no level too many, so one without procedures and calls has the faults that the base language gives it.
-- Assumes nothing.
use mathlib.Core.Bool.{Bool, true, false, cond}
use mathlib.Core.Path.{◌≡◌, refl}
use mathlib.Core.List.{List, [], ◌∷◌, map}
use mathlib.Core.Option.{Option, none, some}
use Prim.Native.Nat.{ℕ, suc, ◌≤◌, max}
use Prim.Native.String.{String}
use native.Mathlib.Omega.{arith}
use lib.ListN.{get_or, get_elem?}
use Rattle.ll1.specs.Grammar.{Sentence}
use Rattle.ll1.specs.Rows.{closes}
use Rattle.ll1.specs.Values.{Makes}
use Rattle.ll1.proofs.Leveled.{Hands, kept}
use Rattle.meaning.specs.Tree.{Name}
use Rattle.meaning.specs.Declared as declared
use Rattle.meaning.specs.Unexpanded.{Term, Commands, a_variable}
use Rattle.meaning.specs.Levels.{levels_in, level_faults}
use Rattle.meaning.specs.Faults.{fault_of}
use Rattle.meaning.specs.Expansion.{expanded}
use Rattle.meaning.specs.Procedures.{fault_in}
use Rattle.meaning.proofs.Depth.{depth, depth_all, depth_tests, depth_each, lines_fit}
use Rattle.meaning.proofs.Unchanged.{CallFreeAll, same-fault}
use Rattle.language.specs.Words.{Word, bytes, same}
use Rattle.language.specs.Grammar.{Part, Program, Declarations, Declaration, Inputs, MoreInputs, Ending, Booleans, MoreBooleans, BooleanStart, BooleanValue, Integers, MoreIntegers, IntegerStart, Statements, AfterStatement, NextStatement, Statement, Else, Cases, Branches, Target, Index, Procedure, Formals, FormalNames, MoreFormals, AfterProcedure, AfterName, Actuals, MoreActuals, Tier, Further, Line, ◌▸◌, ◌▹◌, ε, Strength, between, before, binding, tier, further, csml, most_levels, whole_program, kinds}
use Rattle.language.specs.Trees.{name_at, Val, Operator, operators, joined_by, name_or_bit, makes_operators, makes_further, makes_tier, makes, no_word, source_of}

-- with k levels left, a value goes no deeper
abbrev pub Shallow : ℕ → (n : Part) → Val n → Type 0
Shallow k Program v = depth_all v.body ≤ k
Shallow k Declarations v = Unit
Shallow k Declaration v = Unit
Shallow k Inputs v = Unit
Shallow k MoreInputs v = Unit
Shallow k Ending v = Unit
Shallow k Booleans v = Unit
Shallow k MoreBooleans v = Unit
Shallow k BooleanStart v = Unit
Shallow k BooleanValue v = Unit
Shallow k Integers v = Unit
Shallow k MoreIntegers v = Unit
Shallow k IntegerStart v = Unit
Shallow k Statements v = depth_all v ≤ k
Shallow k AfterStatement v = depth_all v ≤ k
Shallow k NextStatement v = depth_all v ≤ k
Shallow k Statement v = depth v ≤ k
Shallow k Else v = depth_all v ≤ k
Shallow k Cases v = (d : Commands) → depth_all d ≤ k → depth_tests (v d) ≤ k
Shallow k Branches v = depth_each v ≤ k
Shallow k Target v = Unit
Shallow k Index v = Unit
Shallow k Procedure v = Unit
Shallow k Formals v = Unit
Shallow k FormalNames v = Unit
Shallow k MoreFormals v = Unit
Shallow k AfterProcedure v = Unit
Shallow k AfterName v = (n : Name) → depth (v n) ≤ k
Shallow k Actuals v = Unit
Shallow k MoreActuals v = Unit
Shallow k (Tier n) v = levels_in v ≤ k
Shallow k (Further n) v = (e : Term) → levels_in e ≤ k → levels_in (v e) ≤ k

leaf : (n : Name) (o : Option ℕ) (k : ℕ) → levels_in (name_or_bit n o) ≤ k
unfolding levels_in
leaf n none k = omega arith
leaf n (some j) k = omega arith

-- an operator between its operands opens none
abbrev Flat : List Operator → Type 0
Flat [] = Unit
Flat (o ∷ os) = ((p : ℕ) (a b : Term) → levels_in (o.joins p a b) ≡ max (levels_in a) (levels_in b)) × Flat os

flat : Flat operators
unfolding operators levels_in
flat = (λ p a b. refl, (λ p a b. refl, (λ p a b. refl, (λ p a b. refl, (λ p a b. refl, (λ p a b. refl, (λ p a b. refl, (λ p a b. refl, (λ p a b. refl, (λ p a b. refl, (λ p a b. refl, tt)))))))))))

joined_shallow : (os : List Operator) → Flat os → (s : String) (p : ℕ) (a b : Term) (k : ℕ) → levels_in a ≤ k → levels_in b ≤ k → levels_in (joined_by os s p a b) ≤ k
unfolding joined_by levels_in
joined_shallow [] f s p a b k g h = omega arith
joined_shallow (o ∷ os) f s p a b k g h = by (same (bytes o.sign) (bytes s)) (joined_shallow os f.1 s p a b k g h)
  where
    by : (t : Bool) → levels_in (joined_by os s p a b) ≤ k → levels_in (cond t o.joins (joined_by os s) p a b) ≤ k
    by true x = omega (arith, f.0 p a b)
    by false x = x

abbrev pub Handing : (A : Type 0) (R : ℕ → A → Type 0) (rows : List Line) → Makes Word Val A rows → Type 0
Handing A R rows m = Hands Word Val Shallow A R rows m

hands_operators : (n : ℕ) (ops : List String) → Handing (Term → Term) (λ k f. (e : Term) → levels_in e ≤ k → levels_in (f e) ≤ k) (map (λ op. op ▸ Tier (suc n) ▹ Further n ▹ ε) ops) (makes_operators n ops)
unfolding makes_operators closes
hands_operators n [] = tt
hands_operators n (op ∷ ops) = (refl, λ k v q e h. q.1.0 (joined_by operators op v.0.place e v.1.0) (joined_shallow operators flat op v.0.place e v.1.0 k h q.0), hands_operators n ops)

hands_further : (n : ℕ) (s : Option Strength) → Handing (Term → Term) (λ k f. (e : Term) → levels_in e ≤ k → levels_in (f e) ≤ k) (further n s) (makes_further n s)
unfolding closes
hands_further n none = (refl, λ k v q e h. h, tt)
hands_further n (some (between ops)) = (refl, λ k v q e h. h, hands_operators n ops)
hands_further n (some (before op)) = (refl, λ k v q e h. h, tt)

hands_tier : (n : ℕ) (s : Option Strength) → Handing Term (λ k e. levels_in e ≤ k) (tier n s) (makes_tier n s)
unfolding closes levels_in
hands_tier n none = (
  refl,
  λ k v q. leaf (name_at v.0) v.1.0 k,
  (
    refl,
    λ k v q. omega arith,
    (
      refl,
      λ k v q. omega arith,
      (
        refl,
        λ k v q. omega arith,
        (
          refl,
          λ k v q. omega (arith, q.1, q.2.0),
          (refl, λ k v q. omega (arith, q.1, q.2.0), tt),
        ),
      ),
    ),
  ),
)
hands_tier n (some (between ops)) = (refl, λ k v q. q.1.0 v.0 q.0, tt)
hands_tier n (some (before op)) = (refl, λ k v q. omega (arith, q.1, q.2.0), (refl, λ k v q. q.0, tt))

pub hands : (n : Part) → Handing (Val n) (λ k v. Shallow k n v) (csml n) (makes n)
unfolding csml makes closes depth levels_in
hands Program = (refl, λ k v q. q.1.0, tt)
hands Declarations = (refl, λ k v q. tt, (refl, λ k v q. tt, (refl, λ k v q. tt, tt)))
hands Declaration = (refl, λ k v q. tt, (refl, λ k v q. tt, (refl, λ k v q. tt, (refl, λ k v q. tt, tt))))
hands Inputs = (refl, λ k v q. tt, tt)
hands MoreInputs = (refl, λ k v q. tt, (refl, λ k v q. tt, tt))
hands Ending = (refl, λ k v q. tt, (refl, λ k v q. tt, (refl, λ k v q. tt, tt)))
hands Booleans = (refl, λ k v q. tt, tt)
hands MoreBooleans = (refl, λ k v q. tt, (refl, λ k v q. tt, tt))
hands BooleanStart = (refl, λ k v q. tt, (refl, λ k v q. tt, tt))
hands BooleanValue = (refl, λ k v q. tt, (refl, λ k v q. tt, tt))
hands Integers = (refl, λ k v q. tt, tt)
hands MoreIntegers = (refl, λ k v q. tt, (refl, λ k v q. tt, tt))
hands IntegerStart = (refl, λ k v q. tt, (refl, λ k v q. tt, tt))
hands Statements = (refl, λ k v q. omega (arith, q.0, q.1.0), tt)
hands AfterStatement = (refl, λ k v q. omega arith, (refl, λ k v q. q.0, tt))
hands NextStatement = (refl, λ k v q. omega arith, (refl, λ k v q. q.0, tt))
hands Statement = (
  refl,
  λ k v q. omega arith,
  (
    refl,
    λ k v q. omega arith,
    (
      refl,
      λ k v q. omega (arith, q.1),
      (
        refl,
        λ k v q. omega (arith, q.1),
        (
          refl,
          λ k v q. omega (arith, q.1),
          (
            refl,
            λ k v q. q.0 (name_at v.0),
            (
              refl,
              λ k v q. omega (arith, q.1, q.2.0, q.2.1.0, q.2.1.1.0),
              (
                refl,
                λ k v q. omega (arith, q.1, q.2.0, q.2.1.0),
                (
                  refl,
                  λ k v q. omega (arith, q.1, q.2.0),
                  (
                    refl,
                    λ k v q. omega arith,
                    (
                      refl,
                      λ k v q. omega (arith, q.1, q.2.0, q.2.1.0, q.2.1.1.0 v.1.1.1.1.1.1.1.1.0 q.2.1.1.1.0),
                      (
                        refl,
                        λ k v q. omega arith,
                        (refl, λ k v q. omega (arith, q.1, q.2.0, q.2.1.0, q.2.1.1.0), tt),
                      ),
                    ),
                  ),
                ),
              ),
            ),
          ),
        ),
      ),
    ),
  ),
)
hands Else = (refl, λ k v q. omega arith, (refl, λ k v q. q.0, tt))
hands Cases = (refl, λ k v q d h. h, (refl, λ k v q d h. omega (arith, q.0, q.1.0, q.1.1.0 d h), tt))
hands Branches = (refl, λ k v q. omega arith, (refl, λ k v q. omega (arith, q.0, q.1.0), tt))
hands Target = (refl, λ k v q. tt, tt)
hands Index = (refl, λ k v q. tt, (refl, λ k v q. tt, tt))
hands Procedure = (refl, λ k v q. tt, tt)
hands Formals = (refl, λ k v q. tt, tt)
hands FormalNames = (refl, λ k v q. tt, (refl, λ k v q. tt, tt))
hands MoreFormals = (refl, λ k v q. tt, (refl, λ k v q. tt, tt))
hands AfterProcedure = (refl, λ k v q. tt, (refl, λ k v q. tt, tt))
hands AfterName = (refl, λ k v q n. q.0, (refl, λ k v q n. omega arith, tt))
hands Actuals = (refl, λ k v q. tt, (refl, λ k v q. tt, tt))
hands MoreActuals = (refl, λ k v q. tt, (refl, λ k v q. tt, tt))
hands (Tier n) = hands_tier n (get_elem? binding n)
hands (Further n) = hands_further n (get_elem? binding n)

-- the program's own text goes no deeper than the levels that it may open
pub own-levels : (ws : List Word) (d : Sentence csml most_levels whole_program (kinds ws)) → level_faults 0 (source_of ws d).body ≡ []
own-levels ws d = lines_fit 0 (source_of ws d).body (omega (arith, (kept Word Val Shallow csml makes hands (λ m. get_or ws m no_word) d.1 d.2 0).0))

-- a program without procedures and calls keeps its faults
pub keeps_faults : (ws : List Word) (d : Sentence csml most_levels whole_program (kinds ws)) (ds : List declared.Declaration) → (source_of ws d).declared ≡ map a_variable ds → CallFreeAll (source_of ws d).body
    → fault_in (source_of ws d) ≡ fault_of (expanded (source_of ws d))
keeps_faults ws d ds e x = same-fault (source_of ws d) ds e x (own-levels ws d)
