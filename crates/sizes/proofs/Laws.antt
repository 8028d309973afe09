-- The sizes of an expression under open calls, by the sizes of its parts.
-- Assumes nothing.
use mathlib.Core.Bool.{Bool, true, false, cond}
use mathlib.Core.Path.{◌≡◌, refl, sym, ◌∙◌, ap}
use mathlib.Core.List.{List, [], ◌∷◌}
use mathlib.Core.Option.{Option, none, some}
use Prim.Native.Nat.{ℕ, zero, suc, ◌+◌, min, max}
use Prim.Native.String.{String}
use native.Mathlib.Omega.{arith}
use lib.ListN.{length, length-append}
use Rattle.meaning.specs.Tree.{plus, minus, times, quotient, remainder, equal, unequal, greater, less, and, or}
use Rattle.meaning.specs.Items.{within}
use Rattle.meaning.specs.Unexpanded.{Term, literal, truth, variable, bit, not, int, arithmetic, comparison, logic, parens}
use Rattle.meaning.specs.Levels.{levels_in}
use Rattle.meaning.specs.Base.{base_term}
use Rattle.meaning.specs.Expansion.{Bound, actual_of, Form, one_name, one_bit, neither, form_of, bit_of_form, read_name, read_bit, replaced}
use Rattle.language.specs.Words.{bytes, same}
use Rattle.language.specs.Trees.{Name, Operator, operators, joined_by}
use Rattle.hand.specs.declared.Here.{Here}
use Rattle.hand.specs.Along.{Near, Begins}
use Rattle.tiers.proofs.Laws.{bare_number, bare_true, bare_false}
use Rattle.frames_law.specs.Frames.{Frames, formal_in, told_at, Framed, Stood}
use Rattle.frames_law.proofs.Frames.{none_open, formal-stands}
use Rattle.frames.specs.declared.Under.{Under}
use Rattle.frames.specs.declared.Sizes.{Sizes}
use Rattle.frames.specs.Layout.{frames_of}
use Rattle.frames.specs.Open.{parts_of, levels_of}
use Rattle.frames.specs.Meant.{formal_under, SizesOf}
use Rattle.sizes.specs.declared.Extent.{Extent}
use Rattle.sizes.specs.Counts.{Counts, CountsUnder, SizesBare, leaf_of, formal_of, over_of, inside_of, joined_of}

-- ---- what each kind of term counts

module _ (to : ℕ → ℕ) (bound : List (Bound Term)) where
  abbrev parts_under : Term → ℕ
  parts_under e = length (within (base_term (replaced to bound e)))

  abbrev levels_under : Term → ℕ
  levels_under e = levels_in (replaced to bound e)

  -- an operator has its operands' parts and one more, and the levels of the deeper one
  abbrev Joins : (ℕ → Term → Term → Term) → Type 0
  Joins f = (p : ℕ) (a b : Term) → (parts_under (f p a b) ≡ parts_under a + suc (parts_under b)) × (levels_under (f p a b) ≡ max (levels_under a) (levels_under b))

  arithmetic-joins : (o : _) → Joins (arithmetic o)
  unfolding within base_term levels_in replaced
  arithmetic-joins o p a b = (length-append (within (base_term (replaced to bound a))) _, refl)

  comparison-joins : (o : _) → Joins (comparison o)
  unfolding within base_term levels_in replaced
  comparison-joins o p a b = (length-append (within (base_term (replaced to bound a))) _, refl)

  logic-joins : (o : _) → Joins (logic o)
  unfolding within base_term levels_in replaced
  logic-joins o p a b = (length-append (within (base_term (replaced to bound a))) _, refl)

  EachJoins : List Operator → Type 0
  EachJoins [] = Unit
  EachJoins (o ∷ os) = Joins o.joins × EachJoins os

  either : (c : Bool) (f g : ℕ → Term → Term → Term) → Joins f → Joins g → Joins (cond c f g)
  either true f g x y = x
  either false f g x y = y

  one-joins : (os : List Operator) → EachJoins os → (op : String) → Joins (joined_by os op)
  unfolding EachJoins joined_by
  one-joins [] x op = arithmetic-joins plus
  one-joins (o ∷ os) (x, xs) op = either (same (bytes o.sign) (bytes op)) o.joins (joined_by os op) x (one-joins os xs op)

  operator_joins : (op : String) → Joins (joined_by operators op)
  unfolding EachJoins operators
  operator_joins op = one-joins operators (comparison-joins equal, (comparison-joins unequal, (comparison-joins greater, (comparison-joins less, (logic-joins and, (logic-joins or, (arithmetic-joins plus, (arithmetic-joins minus, (arithmetic-joins times, (arithmetic-joins quotient, (arithmetic-joins remainder, tt))))))))))) op

  -- P5: a bit of a formal is one part
  bit-counts : (v : Name) (j : ℕ) (w : Here) → Counts (leaf_of w) (replaced to bound (bit v j))
  unfolding within base_term levels_in replaced
  bit-counts v j w = by (actual_of bound v.bytes)
    where
      formed : (f : Form) → Counts (leaf_of w) (bit_of_form to (to v.place) j f)
      formed (one_name x) = record { parts = refl; levels = refl }
      formed (one_bit x i) = record { parts = refl; levels = refl }
      formed neither = record { parts = refl; levels = refl }

      by : (o : Option Term) → Counts (leaf_of w) (read_bit to v j o)
      by none = record { parts = refl; levels = refl }
      by (some t) = formed (form_of t)

  -- P5: a name that is no formal is one part; a formal has its actual's parts, a level deeper
  name-counts : (v : Name) (w : Here) → actual_of bound v.bytes ≡ none → Counts (leaf_of w) (replaced to bound (variable v))
  unfolding within base_term levels_in replaced
  name-counts v w e = by (actual_of bound v.bytes) e
    where
      by : (o : Option Term) → o ≡ none → Counts (leaf_of w) (read_name to v o)
      by none e = record { parts = refl; levels = refl }
      by (some t) e = absurd (let z : ◌≡◌ {A = ℕ} 0 1 = cc in omega arith)

  formal-counts : (v : Name) (w : Here) (k : Sizes) (x : Term) → actual_of bound v.bytes ≡ some x → k.parts ≡ parts_of x → k.levels ≡ levels_of x → Counts (formal_of w k) (replaced to bound (variable v))
  unfolding base_term levels_in replaced
  formal-counts v w k x e f g = rw e (record { parts = f; levels = ap (λ (n : ℕ). min (n + 1) 33) g ∙ omega arith })

-- ---- which names are formals

module _ (s : List ℕ) (l : Frames) (at frame : ℕ) (bound : List (Bound Term)) where
  not_formal : (d : ℕ) (x : List ℕ) → Framed s l at d frame bound → formal_in s l d frame x ≡ none → actual_of bound x ≡ none
  not_formal zero x f e = none_open s l at frame bound x f
  not_formal (suc d) x f e = let (outer, up, z) = formal-stands s l at d frame bound x f in go outer (formal_in s l (suc d) frame x) e z
    where
      go : (outer : List (Bound Term)) (o : Option ℕ) → o ≡ none → Stood s at outer o (actual_of bound x) → actual_of bound x ≡ none
      go outer o e z = rw e at z

  is_formal : (d : ℕ) (x : List ℕ) (q : ℕ) → Framed s l at d frame bound → formal_in s l d frame x ≡ some q → (t : Term) × (actual_of bound x ≡ some t)
  is_formal zero x q f e = absurd (let z : ◌≡◌ {A = ℕ} 0 1 = cc in omega arith)
  is_formal (suc d) x q f e = let (outer, up, z) = formal-stands s l at d frame bound x f in go outer (formal_in s l (suc d) frame x) e z
    where
      go : (outer : List (Bound Term)) (o : Option ℕ) → o ≡ some q → Stood s at outer o (actual_of bound x) → (t : Term) × (actual_of bound x ≡ some t)
      go outer none e z = absurd (let z : ◌≡◌ {A = ℕ} 0 1 = cc in omega arith)
      go outer (some p) e (t, begins, is) = (replaced (told_at at) outer t, is)

-- ---- .. under open calls

module _ {s z : List ℕ} {u : Under} where
  pub literal_under : {r : Extent} {w : Here} {p n : ℕ} → r ≡ leaf_of w → CountsUnder s z u r (literal p n)
  unfolding within base_term levels_in replaced
  literal_under e = record { counts = λ bound f g. rw e (record { parts = refl; levels = refl }) }

  pub truth_under : {r : Extent} {w : Here} {p : ℕ} {b : Bool} → r ≡ leaf_of w → CountsUnder s z u r (truth p b)
  unfolding within base_term levels_in replaced
  truth_under e = record { counts = λ bound f g. rw e (record { parts = refl; levels = refl }) }

  pub bit_under : {r : Extent} {w : Here} {v : Name} {j : ℕ} → r ≡ leaf_of w → CountsUnder s z u r (bit v j)
  bit_under {r} {w} {v} {j} e = record { counts = λ bound f g. rw e (bit-counts (told_at u.at) bound v j w) }

  -- P5: a name that is no formal, and a formal
  pub name_under : {r : Extent} {w : Here} {v : Name} → none ≡ formal_under s z u v.bytes → r ≡ leaf_of w → CountsUnder s z u r (variable v)
  name_under {r} {w} {v} is e =
      record { counts = λ bound f g. rw e (name-counts (told_at u.at) bound v w (not_formal s (frames_of s z) u.at u.frame bound u.depth v.bytes f (sym is))) }

  pub formal_under_lem : {r : Extent} {w : Here} {v : Name} {p : ℕ} {k : Sizes} → some p ≡ formal_under s z u v.bytes → SizesOf s z u v.bytes k → r ≡ formal_of w k → CountsUnder s z u r (variable v)
  formal_under_lem {r} {w} {v} {p} {k} is sizes e =
      record {
        counts = λ bound f g.
            let (x, a) = is_formal s (frames_of s z) u.at u.frame bound u.depth v.bytes p f (sym is) in
            let (h, l) = sizes bound f g x a in
            rw e (formal-counts (told_at u.at) bound v w k x a h l);
      }

  pub not_under : {g r : Extent} {w : Here} {p : ℕ} {x : Term} → r ≡ over_of w g → CountsUnder s z u g x → CountsUnder s z u r (not p x)
  unfolding within base_term levels_in replaced
  not_under e c = record { counts = λ bound f h. let d = c.counts bound f h in rw e (record { parts = ap (λ (n : ℕ). min (n + 0 + 1) 1025) d.parts ∙ omega arith; levels = ap (λ (n : ℕ). min (n + 1) 33) d.levels ∙ omega arith }) }

  pub int_under : {g r : Extent} {w : Here} {p : ℕ} {x : Term} → r ≡ over_of w g → CountsUnder s z u g x → CountsUnder s z u r (int p x)
  unfolding within base_term levels_in replaced
  int_under e c = record { counts = λ bound f h. let d = c.counts bound f h in rw e (record { parts = ap (λ (n : ℕ). min (n + 0 + 1) 1025) d.parts ∙ omega arith; levels = ap (λ (n : ℕ). min (n + 1) 33) d.levels ∙ omega arith }) }

  pub parens_under : {g r : Extent} {w : Here} {x : Term} → r ≡ inside_of w g → CountsUnder s z u g x → CountsUnder s z u r (parens x)
  unfolding within base_term levels_in replaced
  parens_under e c = record { counts = λ bound f h. let d = c.counts bound f h in rw e (record { parts = d.parts; levels = ap (λ (n : ℕ). min (n + 1) 33) d.levels ∙ omega arith }) }

  pub joined_under : {a b r : Extent} (op : String) (p : ℕ) (x y : Term) → r ≡ joined_of a b → CountsUnder s z u a x → CountsUnder s z u b y → CountsUnder s z u r (joined_by operators op p x y)
  joined_under {a} {b} {r} op p x y e c d =
      record {
        counts = λ bound f h.
            let j = operator_joins (told_at u.at) bound op p x y in
            let m = c.counts bound f h in
            let n = d.counts bound f h in
            record { parts = rw e (omega (arith, j.0, m.parts, n.parts)); levels = rw e (omega (arith, j.1, m.levels, n.levels)) };
      }
