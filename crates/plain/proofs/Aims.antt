-- What a statement is aimed at is what its name stands for, told at the name's place.
-- Assumes nothing.
use mathlib.Core.Bool.{Bool, true, false}
use mathlib.Core.Path.{◌≡◌, refl, sym, ap, subst, ◌∙◌}
use mathlib.Core.List.{List, []}
use mathlib.Core.Option.{Option, none, some}
use Prim.Native.Nat.{ℕ}
use lib.Dec.{ltb}
use Rattle.meaning.specs.Tree.{Name, whole, part}
use Rattle.meaning.specs.Unexpanded.{Term}
use Rattle.meaning.specs.Expansion.{Bound, actual_of, Form, one_name, one_bit, neither, name_of_form, changed_name, target_of_form, changed_whole}
use Rattle.words.specs.Runs as words
use Rattle.frames_law.specs.Frames.{no_place, told_at}
use Rattle.frames.specs.declared.Under.{Under}
use Rattle.frames.specs.declared.Meant.{Meant}
use Rattle.frames.specs.declared.Meant.TheVariants as meant
use Rattle.frames.specs.Meant.{span_name, form_for, form_in, MeantBy}
use Rattle.items.specs.Under.{Scope}
use Rattle.order_law.proofs.Senses.{own-bound}
use Rattle.plain.specs.Aim.{name_to, aimed, name_aim, whole_aim, part_aim}

-- the names of a form are told at p
abbrev At : ℕ → Form → Type 0
At p (one_name v) = v.place ≡ p
At p (one_bit v j) = v.place ≡ p
At p neither = Unit

empty : (s : List ℕ) → words.part s 0 0 ≡ []
unfolding words.part
empty s = refl

abbrev bytes_at : List ℕ → ℕ → Name
bytes_at x p = record { bytes = x; place = p }

-- the answer, told at p
module _ (s : List ℕ) (to : ℕ → ℕ) (p : ℕ) where
  name-form : (r : Meant) → At p (form_in s to r) → name_to s p (name_aim r) ≡ name_of_form to p (form_in s to r)
  name-form (meant.Name a b) h = ap (bytes_at (words.part s a b)) (sym h)
  name-form (meant.Bit a b j) h = ap (λ (x : List ℕ). bytes_at x p) (empty s)
  name-form meant.Neither h = ap (λ (x : List ℕ). bytes_at x p) (empty s)

  whole-form : (r : Meant) → At p (form_in s to r) → aimed s p (whole_aim r) ≡ target_of_form to p (form_in s to r)
  whole-form (meant.Name a b) h = ap (λ (q : ℕ). whole (bytes_at (words.part s a b) q)) (sym h)
  whole-form (meant.Bit a b j) h = ap (λ (q : ℕ). part (bytes_at (words.part s a b) q) j) (sym h)
  whole-form meant.Neither h = ap (λ (x : List ℕ). whole (bytes_at x p)) (empty s)

  part-form : (r : Meant) (j : ℕ) → At p (form_in s to r) → aimed s p (part_aim r j) ≡ part (name_of_form to p (form_in s to r)) j
  part-form (meant.Name a b) j h = ap (λ (q : ℕ). part (bytes_at (words.part s a b) q) j) (sym h)
  part-form (meant.Bit a b i) j h = ap (λ (x : List ℕ). part (bytes_at x p) j) (empty s)
  part-form meant.Neither j h = ap (λ (x : List ℕ). part (bytes_at x p) j) (empty s)

-- the meaning, by the form
changed-form : (to : ℕ → ℕ) (v : Name) (o : Option Term) → name_of_form to (to v.place) (form_for to v o) ≡ changed_name to v o
changed-form to v none = refl
changed-form to v (some t) = refl

whole-changed : (to : ℕ → ℕ) (v : Name) (o : Option Term) → target_of_form to (to v.place) (form_for to v o) ≡ changed_whole to v o
whole-changed to v none = refl
whole-changed to v (some t) = refl

-- inside a call every place is the call's
inside_at_lem : (s : List ℕ) (at a : ℕ) (r : Meant) → ltb at no_place ≡ true → At (told_at at a) (form_in s (told_at at) r)
unfolding told_at
inside_at_lem s at a (meant.Name b c) e = rw e refl
inside_at_lem s at a (meant.Bit b c j) e = rw e refl
inside_at_lem s at a meant.Neither e = tt

module _ {s z : List ℕ} {count : ℕ} {u : Under} (o : Scope s z count u) (a b : ℕ) (r : Meant) (is : MeantBy s z u a b r) where
  abbrev actual : Option Term
  actual = actual_of o.bound (words.part s a b)

  form : form_in s (told_at u.at) r ≡ form_for (told_at u.at) (span_name s a b) actual
  form = is o.bound o.opened.framed

  -- in the program's own text the name is itself
  own_at : ltb u.at no_place ≡ false → At (told_at u.at a) (form_in s (told_at u.at) r)
  unfolding actual_of
  own_at e =
      let none_there : actual ≡ none = ap (λ (x : List (Bound Term)). actual_of x (words.part s a b)) (own-bound count o e) in
      subst (At (told_at u.at a)) (sym (form ∙ ap (form_for (told_at u.at) (span_name s a b)) none_there)) refl

  told_at_lem : At (told_at u.at a) (form_in s (told_at u.at) r)
  told_at_lem = by (ltb u.at no_place) refl
    where
      by : (k : Bool) → ltb u.at no_place ≡ k → At (told_at u.at a) (form_in s (told_at u.at) r)
      by true e = inside_at_lem s u.at a r e
      by false e = own_at e

  pub name_aim_lem : name_to s (told_at u.at a) (name_aim r) ≡ changed_name (told_at u.at) (span_name s a b) actual
  name_aim_lem = name-form s (told_at u.at) (told_at u.at a) r told_at_lem ∙ ap (name_of_form (told_at u.at) (told_at u.at a)) form ∙ changed-form (told_at u.at) (span_name s a b) actual

  pub whole_aim_lem : aimed s (told_at u.at a) (whole_aim r) ≡ changed_whole (told_at u.at) (span_name s a b) actual
  whole_aim_lem = whole-form s (told_at u.at) (told_at u.at a) r told_at_lem ∙ ap (target_of_form (told_at u.at) (told_at u.at a)) form ∙ whole-changed (told_at u.at) (span_name s a b) actual

  pub part_aim_lem : (j : ℕ) → aimed s (told_at u.at a) (part_aim r j) ≡ part (changed_name (told_at u.at) (span_name s a b) actual) j
  part_aim_lem j =
      part-form s (told_at u.at) (told_at u.at a) r j told_at_lem
      ∙ ap (λ (v : Name). part v j) (ap (name_of_form (told_at u.at) (told_at u.at a)) form ∙ changed-form (told_at u.at) (span_name s a b) actual)
