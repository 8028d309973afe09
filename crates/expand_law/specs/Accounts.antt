-- An account of an expression tells something of it from the inside out: its kind, its worst size, its parts, whether it has a fault. Of an expression whose formals are replaced it is told by what is known of the actuals.
-- Assumes nothing.
use Rattle.std.specs.Prelude.{ℕ, suc, max, Bool, List}
use Rattle.std.proofs.Math.Option.{Option, none, some}
use Rattle.meaning.specs.Tree as tree
use Rattle.meaning.specs.Tree.{Name, Arithmetic, Comparison, Logic, Expr}
use Rattle.meaning.specs.Unexpanded.{Term, literal, truth, variable, bit, not, int, arithmetic, comparison, logic, parens, instead, no_name, nameless}
use Rattle.meaning.specs.Levels.{levels_in}
use Rattle.meaning.specs.Base.{base_term}
use Rattle.meaning.specs.Expansion.{Bound, actual_of, Form, one_name, one_bit, neither, form_of, moved}

-- what each operator makes of its operands' accounts
pub record Account (A : Type 0) : Type 0 where
  pub of_literal : ℕ → ℕ → A
  pub of_truth : ℕ → Bool → A
  pub of_variable : Name → A
  pub of_bit : Name → ℕ → A
  pub of_not : ℕ → A → A
  pub of_int : ℕ → A → A
  pub of_arithmetic : Arithmetic → ℕ → A → A → A
  pub of_comparison : Comparison → ℕ → A → A → A
  pub of_logic : Logic → ℕ → A → A → A

unfoldable pub told : {A : Type 0} → Account A → Expr Name → A
told f (tree.literal p n) = f.of_literal p n
told f (tree.truth p b) = f.of_truth p b
told f (tree.variable v) = f.of_variable v
told f (tree.bit v j) = f.of_bit v j
told f (tree.not p e) = f.of_not p (told f e)
told f (tree.int p e) = f.of_int p (told f e)
told f (tree.arithmetic o p a b) = f.of_arithmetic o p (told f a) (told f b)
told f (tree.comparison o p a b) = f.of_comparison o p (told f a) (told f b)
told f (tree.logic o p a b) = f.of_logic o p (told f a) (told f b)

-- what is known of a term: its form (P7), its levels (P5) and its account
pub record Known (A : Type 0) : Type 0 where
  pub form : Form
  pub levels : ℕ
  pub account : A

abbrev pub known : {A : Type 0} → Account A → Term → Known A
known f t = record { form = form_of t; levels = levels_in t; account = told f (base_term t) }

module _ {A : Type 0} (f : Account A) (to : ℕ → ℕ) where
  abbrev pub leaf : Form → A → Known A
  leaf s a = record { form = s; levels = 0; account = a }

  abbrev pub over : (A → A) → Known A → Known A
  over g k = record { form = neither; levels = suc k.levels; account = g k.account }

  abbrev pub joining : (A → A → A) → Known A → Known A → Known A
  joining g j k = record { form = neither; levels = max j.levels k.levels; account = g j.account k.account }

  -- P5
  abbrev pub read_by : Name → Option (Known A) → Known A
  read_by v none = leaf (one_name (moved to v)) (f.of_variable (moved to v))
  read_by v (some k) = record { form = k.form; levels = suc k.levels; account = k.account }

  -- P5, P8
  abbrev pub bit_of : ℕ → ℕ → Form → Known A
  bit_of p j (one_name v) = leaf (one_bit v j) (f.of_bit v j)
  bit_of p j (one_bit v i) = leaf neither (f.of_variable (nameless p))
  bit_of p j neither = leaf neither (f.of_variable (nameless p))

  abbrev pub bit_by : Name → ℕ → Option (Known A) → Known A
  bit_by v j none = leaf (one_bit (moved to v) j) (f.of_bit (moved to v) j)
  bit_by v j (some k) = bit_of (to v.place) j k.form

  -- of a term whose formals are replaced
  unfoldable pub known_by : List (Bound (Known A)) → Term → Known A
  known_by ks (literal p n) = leaf neither (f.of_literal (to p) n)
  known_by ks (truth p b) = leaf neither (f.of_truth (to p) b)
  known_by ks (variable v) = read_by v (actual_of ks v.bytes)
  known_by ks (bit v j) = bit_by v j (actual_of ks v.bytes)
  known_by ks (not p e) = over (f.of_not (to p)) (known_by ks e)
  known_by ks (int p e) = over (f.of_int (to p)) (known_by ks e)
  known_by ks (arithmetic o p a b) = joining (f.of_arithmetic o (to p)) (known_by ks a) (known_by ks b)
  known_by ks (comparison o p a b) = joining (f.of_comparison o (to p)) (known_by ks a) (known_by ks b)
  known_by ks (logic o p a b) = joining (f.of_logic o (to p)) (known_by ks a) (known_by ks b)
  known_by ks (parens e) = over (λ a. a) (known_by ks e)
  known_by ks (instead e) = record { form = (known_by ks e).form; levels = suc (known_by ks e).levels; account = (known_by ks e).account }
  known_by ks (no_name p) = leaf neither (f.of_variable (nameless (to p)))
