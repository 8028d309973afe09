-- What of an actual tells the sizes of an expansion: whether it is a name or a bit, its parts and its levels. A formal's replacement need not be made to tell them.
-- Assumes nothing.
use mathlib.Core.Path.{◌≡◌, refl, sym, ap, ap₂, ◌∙◌, fun_ext}
use mathlib.Core.Bool.{Bool, true, false}
use mathlib.Core.List.{List, [], ◌∷◌, ◌++◌, map}
use mathlib.Core.Option.{Option, none, some}
use Prim.Native.Nat.{ℕ, suc, ◌+◌, max}
use lib.ListN.{length, length-append}
use Rattle.meaning.specs.Tree.{Name}
use Rattle.meaning.specs.Items.{within}
use Rattle.meaning.specs.Unexpanded.{Term, literal, truth, variable, bit, not, int, arithmetic, comparison, logic, parens, instead, no_name, Commands}
use Rattle.meaning.specs.Base.{base_term}
use Rattle.meaning.specs.Levels.{levels_in}
use Rattle.meaning.specs.Expansion.{Bound, actual_of, Form, one_name, one_bit, neither, form_of, read_name, bit_of_form, read_bit, replaced, name_form, bit_form, is_name, is_bit, allows_all, allowed_by}
use Rattle.meaning.proofs.Actuals.{each_bound, if_any, actual-known}

pub record Summary : Type 0 where
  pub name : Bool
  pub bit : Bool
  pub parts : ℕ
  pub levels : ℕ

abbrev pub parts_in : Term → ℕ
parts_in t = length (within (base_term t))

abbrev pub summary : Term → Summary
summary t = record { name = name_form (form_of t); bit = bit_form (form_of t); parts = parts_in t; levels = levels_in t }

abbrev pub summed : List (Bound Term) → List (Bound Summary)
summed = each_bound summary

-- ---- a term whose formals are replaced

abbrev pub read_summary : Option Summary → Summary
read_summary none = record { name = true; bit = true; parts = 1; levels = 0 }
read_summary (some s) = record { name = s.name; bit = s.bit; parts = s.parts; levels = suc s.levels }

abbrev pub bit_summary : Option Summary → Summary
bit_summary none = record { name = false; bit = true; parts = 1; levels = 0 }
bit_summary (some s) = record { name = false; bit = s.name; parts = 1; levels = 0 }

abbrev pub leaf : Summary
leaf = record { name = false; bit = false; parts = 1; levels = 0 }

abbrev pub over : Summary → Summary
over s = record { name = false; bit = false; parts = suc s.parts; levels = suc s.levels }

abbrev pub joining : Summary → Summary → Summary
joining s t = record { name = false; bit = false; parts = s.parts + suc t.parts; levels = max s.levels t.levels }

unfoldable pub summary_by : List (Bound Summary) → Term → Summary
summary_by ks (literal p n) = leaf
summary_by ks (truth p b) = leaf
summary_by ks (variable v) = read_summary (actual_of ks v.bytes)
summary_by ks (bit v j) = bit_summary (actual_of ks v.bytes)
summary_by ks (not p e) = over (summary_by ks e)
summary_by ks (int p e) = over (summary_by ks e)
summary_by ks (arithmetic o p a b) = joining (summary_by ks a) (summary_by ks b)
summary_by ks (comparison o p a b) = joining (summary_by ks a) (summary_by ks b)
summary_by ks (logic o p a b) = joining (summary_by ks a) (summary_by ks b)
summary_by ks (parens e) = record { name = false; bit = false; parts = (summary_by ks e).parts; levels = suc (summary_by ks e).levels }
summary_by ks (instead e) = record { name = (summary_by ks e).name; bit = (summary_by ks e).bit; parts = (summary_by ks e).parts; levels = suc (summary_by ks e).levels }
summary_by ks (no_name p) = leaf

module _ (to : ℕ → ℕ) (bound : List (Bound Term)) where
  read_right : (v : Name) (o : Option Term) → summary (read_name to v o) ≡ read_summary (if_any summary o)
  unfolding within base_term levels_in form_of
  read_right v none = refl
  read_right v (some t) = refl

  bit-right : (v : Name) (j : ℕ) (o : Option Term) → summary (read_bit to v j o) ≡ bit_summary (if_any summary o)
  unfolding within base_term levels_in form_of
  bit-right v j none = refl
  bit-right v j (some t) = by (form_of t)
    where
      by : (s : Form) → summary (bit_of_form to (to v.place) j s) ≡ record { name = false; bit = name_form s; parts = 1; levels = 0 }
      by (one_name w) = refl
      by (one_bit w i) = refl
      by neither = refl

  join : (a b : Term) {x : Summary} {y : Summary} → summary a ≡ x → summary b ≡ y → (t : Term) → summary t ≡ record { name = false; bit = false; parts = length (within (base_term a) ++ (base_term t ∷ within (base_term b))); levels = max (levels_in a) (levels_in b) }
      → summary t ≡ joining x y
  join a b e f t g =
      g ∙ ap (λ n. record { name = false; bit = false; parts = n; levels = max (levels_in a) (levels_in b) }) (length-append (within (base_term a)) (base_term t ∷ within (base_term b)))
      ∙ ap₂ joining e f

  pub summary_right : (t : Term) → summary (replaced to bound t) ≡ summary_by (summed bound) t
  unfolding within base_term levels_in form_of replaced summary_by
  summary_right (literal p n) = refl
  summary_right (truth p b) = refl
  summary_right (variable v) = read_right v (actual_of bound v.bytes) ∙ ap read_summary (sym (actual-known summary bound v.bytes))
  summary_right (bit v j) = bit-right v j (actual_of bound v.bytes) ∙ ap bit_summary (sym (actual-known summary bound v.bytes))
  summary_right (not p e) = ap over (summary_right e)
  summary_right (int p e) = ap over (summary_right e)
  summary_right (arithmetic o p a b) = join (replaced to bound a) (replaced to bound b) (summary_right a) (summary_right b) (replaced to bound (arithmetic o p a b)) refl
  summary_right (comparison o p a b) = join (replaced to bound a) (replaced to bound b) (summary_right a) (summary_right b) (replaced to bound (comparison o p a b)) refl
  summary_right (logic o p a b) = join (replaced to bound a) (replaced to bound b) (summary_right a) (summary_right b) (replaced to bound (logic o p a b)) refl
  summary_right (parens e) = ap (λ (s : Summary). record { name = false; bit = false; parts = s.parts; levels = suc s.levels }) (summary_right e)
  summary_right (instead e) = ap (λ (s : Summary). record { name = s.name; bit = s.bit; parts = s.parts; levels = suc s.levels }) (summary_right e)
  summary_right (no_name p) = refl

  pub summaries_right : (ts : List Term) → map summary (map (replaced to bound) ts) ≡ map (summary_by (summed bound)) ts
  summaries_right [] = refl
  summaries_right (t ∷ ts) = ap₂ ◌∷◌ (summary_right t) (summaries_right ts)

-- ---- which calls are refused

abbrev pub name_known : Option Summary → Bool
name_known none = true
name_known (some s) = s.name

abbrev pub bit_known : Option Summary → Bool
bit_known none = true
bit_known (some s) = s.bit

abbrev pub suits_all : List (Bound Summary) → Commands → Bool
suits_all ks b = allows_all (λ x. name_known (actual_of ks x)) (λ x. bit_known (actual_of ks x)) b

module _ (bound : List (Bound Term)) where
  name-right : (x : List ℕ) → is_name (actual_of bound x) ≡ name_known (actual_of (summed bound) x)
  name-right x = by (actual_of bound x) ∙ ap name_known (sym (actual-known summary bound x))
    where
      by : (o : Option Term) → is_name o ≡ name_known (if_any summary o)
      by none = refl
      by (some t) = refl

  bit-known : (x : List ℕ) → is_bit (actual_of bound x) ≡ bit_known (actual_of (summed bound) x)
  bit-known x = by (actual_of bound x) ∙ ap bit_known (sym (actual-known summary bound x))
    where
      by : (o : Option Term) → is_bit o ≡ bit_known (if_any summary o)
      by none = refl
      by (some t) = refl

  pub all_suit : (b : Commands) → allowed_by bound b ≡ suits_all (summed bound) b
  all_suit b = ap₂ (λ (f g : List ℕ → Bool). allows_all f g b) (fun_ext name-right) (fun_ext bit-known)
