-- The tree of a program, read off its derivation: for each row of the grammar, what it makes of the values in it.
-- Assumes nothing.
use Rattle.std.specs.Prelude.{Bool, true, false, cond, List, [], ◌∷◌, ◌++◌, map, ℕ, suc, get_or}
use Rattle.std.proofs.Math.Option.{Option, none, some}
use Prim.Native.String.{String}
use Rattle.std.proofs.Math.ListN.{get_elem?}
use Rattle.ll1.specs.Grammar.{Sentence}
use Rattle.ll1.specs.Values.{Makes, values_of}
use Rattle.meaning.specs.Tree as tree
use Rattle.meaning.specs.Tree.{plus, minus, times, quotient, remainder, equal, unequal, greater, less, and, or, raise, lower, invert, whole, part}
use Rattle.meaning.specs.Unexpanded as unexpanded
use Rattle.meaning.specs.Unexpanded.{Term, literal, truth, variable, bit, not, int, arithmetic, comparison, logic, parens, Command, skip, delay, change, assign, choice, while, loop, exit, break, switch, parallel, call, Commands, end, ◌⨾◌, ◌∥◌, a_variable, Unexpanded}
use Rattle.meaning.specs.Declared as declared
use Rattle.meaning.specs.Declared.{high, low, inputs, outputs, internals, integers}
use Rattle.language.specs.Words.{bytes, same, value_of, Word}
use Rattle.language.specs.Words as cut
use Rattle.language.specs.Grammar.{Part, Program, Declarations, Declaration, Inputs, MoreInputs, Ending, Booleans, MoreBooleans, BooleanStart, BooleanValue, Integers, MoreIntegers, IntegerStart, Statements, AfterStatement, NextStatement, Statement, Else, Cases, Branches, Target, Index, Procedure, Formals, FormalNames, MoreFormals, AfterProcedure, AfterName, Actuals, MoreActuals, Tier, Further, ◌▸◌, ◌▹◌, ε, Strength, between, before, binding, tier, further, csml, most_levels, whole_program, kinds}

abbrev pub Name : Type 0
Name = tree.Name

abbrev pub name_at : Word → Name
name_at w = record { bytes = w.bytes; place = w.place }

abbrev pub number_at : Word → ℕ
number_at w = value_of w.bytes

-- what each part is worth; a part that goes on from another takes that one's value
abbrev pub Val : Part → Type 0
Val Program = Unexpanded
Val Declarations = List unexpanded.DeclaredName
Val Declaration = List declared.Declaration
Val Inputs = List declared.Declaration
Val MoreInputs = List declared.Declaration
Val Ending = declared.Ending
Val Booleans = (Name → declared.Ending → Bool → declared.Declaration) → List declared.Declaration
Val MoreBooleans = (Name → declared.Ending → Bool → declared.Declaration) → List declared.Declaration
Val BooleanStart = Bool
Val BooleanValue = Bool
Val Integers = List declared.Declaration
Val MoreIntegers = List declared.Declaration
Val IntegerStart = ℕ
Val Statements = Commands
Val AfterStatement = Commands
Val NextStatement = Commands
Val Statement = Command
Val Else = Commands
Val Cases = Commands → unexpanded.Tests
Val Branches = unexpanded.Strands
Val Target = tree.Target Name
Val Index = Option ℕ
Val Procedure = unexpanded.Procedure
Val Formals = List Name
Val FormalNames = List Name
Val MoreFormals = List Name
Val AfterProcedure = Unit
Val AfterName = Name → Command
Val Actuals = List Term
Val MoreActuals = List Term
Val (Tier n) = Term
Val (Further n) = Term → Term

-- ---- expressions

pub record Operator : Type 0 where
  pub sign : String
  pub joins : ℕ → Term → Term → Term

unfoldable pub operators : List Operator
operators =
    record { sign = "=="; joins = comparison equal } ∷ record { sign = "!="; joins = comparison unequal }
    ∷ record { sign = ">"; joins = comparison greater } ∷ record { sign = "<"; joins = comparison less }
    ∷ record { sign = "&"; joins = logic and } ∷ record { sign = "|"; joins = logic or }
    ∷ record { sign = "+"; joins = arithmetic plus } ∷ record { sign = "-"; joins = arithmetic minus }
    ∷ record { sign = "*"; joins = arithmetic times } ∷ record { sign = "/"; joins = arithmetic quotient }
    ∷ record { sign = "%"; joins = arithmetic remainder }
    ∷ []

-- the operator of that sign, at its place
unfoldable pub joined_by : List Operator → String → ℕ → Term → Term → Term
joined_by [] s = arithmetic plus
joined_by (o ∷ os) s = cond (same (bytes o.sign) (bytes s)) o.joins (joined_by os s)

abbrev pub name_or_bit : Name → Option ℕ → Term
name_or_bit n none = variable n
name_or_bit n (some j) = bit n j

abbrev pub whole_or_part : Name → Option ℕ → tree.Target Name
whole_or_part n none = whole n
whole_or_part n (some j) = part n j

-- G7: each takes what stands before it as its left operand
unfoldable pub makes_operators : (n : ℕ) (ops : List String) → Makes Word Val (Term → Term) (map (λ op. op ▸ Tier (suc n) ▹ Further n ▹ ε) ops)
makes_operators n [] = tt
makes_operators n (op ∷ ops) = (λ v left. v.1.1.0 (joined_by operators op v.0.place left v.1.0), makes_operators n ops)

abbrev pub makes_further : (n : ℕ) (s : Option Strength) → Makes Word Val (Term → Term) (further n s)
makes_further n none = (λ v left. left, tt)
makes_further n (some (between ops)) = (λ v left. left, makes_operators n ops)
makes_further n (some (before op)) = (λ v left. left, tt)

abbrev pub makes_tier : (n : ℕ) (s : Option Strength) → Makes Word Val Term (tier n s)
makes_tier n none = (
  λ v. name_or_bit (name_at v.0) v.1.0,
  (
    λ v. literal v.0.place (number_at v.0),
    (
      λ v. truth v.0.place true,
      (
        λ v. truth v.0.place false,
        (
          λ v. int v.0.place v.1.1.0,
          (λ v. parens v.1.0, tt),
        ),
      ),
    ),
  ),
)
makes_tier n (some (between ops)) = (λ v. v.1.0 v.0, tt)
makes_tier n (some (before op)) = (λ v. not v.0.place v.1.0, (λ v. v.0, tt))

-- ---- the whole

unfoldable pub makes : (n : Part) → Makes Word Val (Val n) (csml n)
unfolding csml
makes Program = (λ v. record { name = v.1.0.bytes; declared = v.1.1.1.0; body = v.1.1.1.1.0 }, tt)
makes Declarations = (λ v. [], (λ v. map a_variable v.0 ++ v.1.1.0, (λ v. unexpanded.a_procedure v.1.0 ∷ v.1.1.1.0, tt)))
makes Declaration = (λ v. v.1.0, (λ v. v.1.0 outputs, (λ v. v.1.0 internals, (λ v. v.1.0, tt))))
makes Inputs = (λ v. inputs (name_at v.0) v.1.0 ∷ v.1.1.0, tt)
makes MoreInputs = (λ v. [], (λ v. v.1.0, tt))
makes Ending = (λ v. high, (λ v. high, (λ v. low, tt)))
makes Booleans = (λ v kind. kind (name_at v.0) v.1.0 v.1.1.0 ∷ v.1.1.1.0 kind, tt)
makes MoreBooleans = (λ v kind. [], (λ v kind. v.1.0 kind, tt))
makes BooleanStart = (λ v. false, (λ v. v.1.0, tt))
makes BooleanValue = (λ v. true, (λ v. false, tt))
makes Integers = (λ v. integers (name_at v.0) v.1.1.0.place (number_at v.1.1.0) v.1.1.1.1.0 ∷ v.1.1.1.1.1.0, tt)
makes MoreIntegers = (λ v. [], (λ v. v.1.0, tt))
makes IntegerStart = (λ v. 0, (λ v. number_at v.1.0, tt))
makes Statements = (λ v. v.0 ⨾ v.1.0, tt)
makes AfterStatement = (λ v. end, (λ v. v.1.0, tt))
makes NextStatement = (λ v. end, (λ v. v.0, tt))
makes Statement = (
  λ v. skip v.0.place,
  (
    λ v. delay v.0.place v.1.0.place (number_at v.1.0),
    (
      λ v. change v.0.place raise v.1.1.0,
      (
        λ v. change v.0.place lower v.1.1.0,
        (
          λ v. change v.0.place invert v.1.1.0,
          (
            λ v. v.1.0 (name_at v.0),
            (
              λ v. choice v.0.place v.1.0 v.1.1.1.0 v.1.1.1.1.0,
              (
                λ v. while v.0.place v.1.0 v.1.1.1.1.0,
                (
                  λ v. loop v.0.place v.1.0,
                  (
                    λ v. exit v.0.place,
                    (
                      λ v. switch v.0.place (unexpanded.case v.1.0.place v.1.1.0 v.1.1.1.1.0 (v.1.1.1.1.1.0 v.1.1.1.1.1.1.1.1.0)),
                      (
                        λ v. break v.0.place,
                        (λ v. parallel v.0.place (v.1.0 ∥ v.1.1.1.0 ∥ v.1.1.1.1.0), tt),
                      ),
                    ),
                  ),
                ),
              ),
            ),
          ),
        ),
      ),
    ),
  ),
)
makes Else = (λ v. end, (λ v. v.1.0, tt))
makes Cases = (λ v last. unexpanded.default last, (λ v last. unexpanded.case v.0.place v.1.0 v.1.1.1.0 (v.1.1.1.1.0 last), tt))
makes Branches = (λ v. unexpanded.none, (λ v. v.1.0 ∥ v.1.1.0, tt))
makes Target = (λ v. whole_or_part (name_at v.0) v.1.0, tt)
makes Index = (λ v. none, (λ v. some (number_at v.1.0), tt))
makes Procedure = (λ v. record { name = name_at v.0; formals = v.1.0; body = v.1.1.0 }, tt)
makes Formals = (λ v. v.1.0, tt)
makes FormalNames = (λ v. [], (λ v. name_at v.0 ∷ v.1.0, tt))
makes MoreFormals = (λ v. [], (λ v. name_at v.1.0 ∷ v.1.1.0, tt))
makes AfterProcedure = (λ v. tt, (λ v. tt, tt))
makes AfterName = (λ v n. assign n v.1.0, (λ v n. call n v.1.0, tt))
makes Actuals = (λ v. [], (λ v. v.0 ∷ v.1.0, tt))
makes MoreActuals = (λ v. [], (λ v. v.1.0 ∷ v.1.1.0, tt))
makes (Tier n) = makes_tier n (get_elem? binding n)
makes (Further n) = makes_further n (get_elem? binding n)

abbrev pub no_word : Word
no_word = record { kind = cut.name; place = 0; bytes = [] }

-- the tree of a program's words, by a derivation of them; any other derivation gives the same
abbrev pub source_of : (ws : List Word) → Sentence csml most_levels whole_program (kinds ws) → Unexpanded
source_of ws x = (values_of Word Val csml makes (λ m. get_or ws m no_word) x.1 x.2 0).0
