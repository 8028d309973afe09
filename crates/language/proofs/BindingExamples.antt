-- How operators bind and group: each expression with parentheses around every operator and its operands, by computation. Another order, or grouping from the right, is refused here.
-- Assumes nothing.
use mathlib.Core.Path.{◌≡◌, refl}
use mathlib.Core.List.{List, [], ◌∷◌, ◌++◌, map}
use mathlib.Core.Option.{Option, none, some}
use Prim.Native.Nat.{ℕ, suc}
use Prim.Native.String.{String}
use lib.ListN.{get_or, get_elem?}
use Rattle.ll1.specs.Grammar.{Sentence}
use Rattle.ll1.specs.Values.{Makes, make, front, back, nothing, values_of}
use Rattle.ll1.proofs.Tests.{has, begin_row, pick}
use Rattle.ll1.proofs.Derived.{after-word, after-rule, by_rule, after-into, after-out, derived}
use Rattle.language.specs.Words.{bytes, Kind, Word}
use Rattle.language.specs.Grammar.{Part, Program, Declarations, Declaration, Inputs, MoreInputs, Ending, Booleans, MoreBooleans, BooleanStart, BooleanValue, Integers, MoreIntegers, IntegerStart, Statements, AfterStatement, NextStatement, Statement, Else, Cases, Branches, Target, Index, Procedure, Formals, FormalNames, MoreFormals, AfterProcedure, AfterName, Actuals, MoreActuals, Tier, Further, Expression, Line, ε, ◌▸◌, ◌▹◌, Strength, between, before, binding, csml, tier, further, most_levels, kinds}
use Rattle.language.proofs.Texts.{words_in}
use Rattle.language.proofs.Claims as claimed

-- every part is worth bytes, made from those of the operand before it: only what follows an operand looks at them
abbrev pub Shown : Type 0
Shown = List ℕ → List ℕ

abbrev pub Worth : Part → Type 0
Worth n = Shown

abbrev pub inside : List ℕ → List ℕ
inside s = bytes "(" ++ (s ++ bytes ")")

abbrev pub ignored : (rows : List Line) → Makes (List ℕ) Worth Shown rows
ignored [] = tt
ignored (r ∷ rows) = (λ v a. a, ignored rows)

abbrev pub tier-makes : (n : ℕ) (o : Option Strength) → Makes (List ℕ) Worth Shown (tier n o)
tier-makes n (some (between ops)) = (λ v a. v.1.0 (v.0 []), tt)
tier-makes n (some (before op)) = (λ v a. inside (v.0 ++ v.1.0 []), (λ v a. v.0 [], tt))
tier-makes n none = (λ v a. v.0 ++ v.1.0 [], (λ v a. v.0, (λ v a. v.0, (λ v a. v.0, (λ v a. v.0 ++ inside (v.1.1.0 []), (λ v a. v.1.0 [], tt))))))

abbrev pub each : (n : ℕ) (ops : List String) → Makes (List ℕ) Worth Shown (map (λ op. op ▸ Tier (suc n) ▹ Further n ▹ ε) ops)
each n [] = tt
each n (op ∷ ops) = (λ v a. v.1.1.0 (inside (a ++ (v.0 ++ v.1.0 []))), each n ops)

abbrev pub further-makes : (n : ℕ) (o : Option Strength) → Makes (List ℕ) Worth Shown (further n o)
further-makes n (some (between ops)) = (λ v a. a, each n ops)
further-makes n (some (before op)) = (λ v a. a, tt)
further-makes n none = (λ v a. a, tt)

unfoldable pub makes : (n : Part) → Makes (List ℕ) Worth Shown (csml n)
unfolding csml
makes Program = ignored (csml Program)
makes Declarations = ignored (csml Declarations)
makes Declaration = ignored (csml Declaration)
makes Inputs = ignored (csml Inputs)
makes MoreInputs = ignored (csml MoreInputs)
makes Ending = ignored (csml Ending)
makes Booleans = ignored (csml Booleans)
makes MoreBooleans = ignored (csml MoreBooleans)
makes BooleanStart = ignored (csml BooleanStart)
makes BooleanValue = ignored (csml BooleanValue)
makes Integers = ignored (csml Integers)
makes MoreIntegers = ignored (csml MoreIntegers)
makes IntegerStart = ignored (csml IntegerStart)
makes Statements = ignored (csml Statements)
makes AfterStatement = ignored (csml AfterStatement)
makes NextStatement = ignored (csml NextStatement)
makes Statement = ignored (csml Statement)
makes Else = ignored (csml Else)
makes Cases = ignored (csml Cases)
makes Branches = ignored (csml Branches)
makes Target = ignored (csml Target)
makes Index = (λ v a. [], (λ v a. v.0 ++ (v.1.0 ++ v.1.1.0), tt))
makes Procedure = ignored (csml Procedure)
makes Formals = ignored (csml Formals)
makes FormalNames = ignored (csml FormalNames)
makes MoreFormals = ignored (csml MoreFormals)
makes AfterProcedure = ignored (csml AfterProcedure)
makes AfterName = ignored (csml AfterName)
makes Actuals = ignored (csml Actuals)
makes MoreActuals = ignored (csml MoreActuals)
makes (Tier n) = tier-makes n (get_elem? binding n)
makes (Further n) = further-makes n (get_elem? binding n)

-- an expression, and the word behind it
abbrev pub start : Line
start = Expression ▹ ")" ▸ ε

abbrev pub worth : (ks : List Kind) (text : List (List ℕ)) → Option (Sentence csml most_levels start ks) → List ℕ
worth ks text (some x) = (values_of (List ℕ) Worth csml makes (λ m. get_or text m []) x.1 x.2 0).0 []
worth ks text none = []

abbrev pub of : List Word → List ℕ
of ws = worth (kinds ws) (map (λ w. w.bytes) ws) (derived claimed.claims csml claimed.passes 400 most_levels start (kinds ws))

abbrev pub ◌means◌ : String → String → Type 0
s means t = of (words_in s ++ words_in ")") ≡ bytes t

infix 20 ◌means◌
pub record Examples : Type 0 where
  -- "the order is, lowest to highest": T-03's line, and each two neighbouring strengths, both ways round
  pub printed : "newcard > 10 & newcard < 14" means "((newcard>10)&(newcard<14))"
  pub and_or : "a & b | c" means "(a&(b|c))"
  pub or_and : "a | b & c" means "((a|b)&c)"
  pub or_equal : "a | b == c" means "(a|(b==c))"
  pub equal_or : "a == b | c" means "((a==b)|c)"
  pub equal_not : "a == !b" means "(a==(!b))"
  pub not_equal : "!a == b" means "((!a)==b)"
  pub not_sum : "!x + 1 > 2" means "((!(x+1))>2)"
  pub sum_product : "a + b * c - d % e" means "((a+(b*c))-(d%e))"
  pub product_sum : "a * b + c" means "((a*b)+c)"
  -- .. and farther ones
  pub equal_and : "a & b == c | d" means "(a&((b==c)|d))"
  pub not_or : "!a | !b" means "((!a)|(!b))"
  -- "Binary operators group from the left"
  pub compared : "a == b != c > d < e" means "((((a==b)!=c)>d)<e)"
  pub minus : "a - b - c" means "((a-b)-c)"
  pub divided : "a / b * c % d" means "(((a/b)*c)%d)"
  pub ors : "a | b | c" means "((a|b)|c)"
  -- parentheses, `int` and bits
  pub parentheses : "(a & b) | int(x[2] - 1)" means "((a&b)|int((x[2]-1)))"

pub examples : Examples
unfolding words_in has begin_row pick binding csml claimed.claims claimed.first claimed.empty claimed.follow
    after-word after-rule by_rule after-into after-out derived make front back nothing values_of makes
examples =
    record {
      printed = refl;
      and_or = refl;
      or_and = refl;
      or_equal = refl;
      equal_or = refl;
      equal_not = refl;
      not_equal = refl;
      not_sum = refl;
      sum_product = refl;
      product_sum = refl;
      equal_and = refl;
      not_or = refl;
      compared = refl;
      minus = refl;
      divided = refl;
      ors = refl;
      parentheses = refl;
    }
