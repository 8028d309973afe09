-- What is known of a term whose formals are replaced is told by what is known of the actuals, whatever the account.
-- Assumes nothing.
use mathlib.Core.Path.{◌≡◌, refl, sym, ap, ap₂, ◌∙◌}
use mathlib.Core.List.{List, [], ◌∷◌, map}
use mathlib.Core.Option.{Option, none, some}
use Prim.Native.Nat.{ℕ, suc}
use Rattle.meaning.specs.Tree.{Name}
use Rattle.meaning.specs.Unexpanded.{Term, literal, truth, variable, bit, not, int, arithmetic, comparison, logic, parens, instead, no_name}
use Rattle.meaning.specs.Levels.{levels_in}
use Rattle.meaning.specs.Base.{base_term}
use Rattle.meaning.specs.Expansion.{Bound, actual_of, Form, one_name, one_bit, neither, form_of, read_name, bit_of_form, read_bit, replaced}
use Rattle.meaning.proofs.Actuals.{each_bound, if_any, actual-known}
use Rattle.expand_law.specs.Accounts.{Account, told, Known, known, over, joining, read_by, bit_of, bit_by, known_by}

module _ {A : Type 0} (f : Account A) (to : ℕ → ℕ) (bound : List (Bound Term)) where
  read_right : (v : Name) (o : Option Term) → known f (read_name to v o) ≡ read_by f to v (if_any (known f) o)
  unfolding form_of levels_in base_term told
  read_right v none = refl
  read_right v (some t) = refl

  bit-right : (v : Name) (j : ℕ) (o : Option Term) → known f (read_bit to v j o) ≡ bit_by f to v j (if_any (known f) o)
  unfolding form_of levels_in base_term told
  bit-right v j none = refl
  bit-right v j (some t) = by (form_of t)
    where
      by : (s : Form) → known f (bit_of_form to (to v.place) j s) ≡ bit_of f to (to v.place) j s
      by (one_name w) = refl
      by (one_bit w i) = refl
      by neither = refl

  pub known-right : (t : Term) → known f (replaced to bound t) ≡ known_by f to (each_bound (known f) bound) t
  unfolding form_of levels_in base_term told replaced known_by
  known-right (literal p n) = refl
  known-right (truth p b) = refl
  known-right (variable v) = read_right v (actual_of bound v.bytes) ∙ ap (read_by f to v) (sym (actual-known (known f) bound v.bytes))
  known-right (bit v j) = bit-right v j (actual_of bound v.bytes) ∙ ap (bit_by f to v j) (sym (actual-known (known f) bound v.bytes))
  known-right (not p e) = ap (over f to (f.of_not (to p))) (known-right e)
  known-right (int p e) = ap (over f to (f.of_int (to p))) (known-right e)
  known-right (arithmetic o p a b) = ap₂ (joining f to (f.of_arithmetic o (to p))) (known-right a) (known-right b)
  known-right (comparison o p a b) = ap₂ (joining f to (f.of_comparison o (to p))) (known-right a) (known-right b)
  known-right (logic o p a b) = ap₂ (joining f to (f.of_logic o (to p))) (known-right a) (known-right b)
  known-right (parens e) = ap (over f to (λ a. a)) (known-right e)
  known-right (instead e) = ap (λ (k : Known A). record { form = k.form; levels = suc k.levels; account = k.account }) (known-right e)
  known-right (no_name p) = refl

  pub all_known : (ts : List Term) → map (known f) (map (replaced to bound) ts) ≡ map (known_by f to (each_bound (known f) bound)) ts
  all_known [] = refl
  all_known (t ∷ ts) = ap₂ ◌∷◌ (known-right t) (all_known ts)
