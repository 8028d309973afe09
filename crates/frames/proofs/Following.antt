-- A formal that is changed or indexed is followed through the frames.
-- Assumes nothing.
use mathlib.Core.Path.{◌≡◌, refl, sym, ◌∙◌, ap}
use mathlib.Core.List.{List}
use mathlib.Core.Option.{Option, none, some}
use Prim.Native.Nat.{ℕ, zero, suc, ◌-◌, ◌<◌}
use native.Mathlib.Omega.{arith}
use Rattle.meaning.specs.Tree.{Name}
use Rattle.meaning.specs.Unexpanded.{Term, literal, truth, variable, bit, not, int, arithmetic, comparison, logic, parens, instead, no_name}
use Rattle.meaning.specs.Expansion.{Bound, actual_of, Form, one_name, one_bit, neither, form_of, read_name, read_bit, bit_of_form, name_of_form, changed_name, target_of_form, changed_whole, name_form, bit_form, is_name, is_bit, replaced}
use Rattle.words.specs.Runs.{part}
use Rattle.frames_law.specs.Frames.{told_at, TermAt, Framed, Stood, formal_in}
use Rattle.frames_law.proofs.Frames.{formal-stands, no_formal_in}
use Rattle.frames.specs.declared.Under.{Under}
use Rattle.frames.specs.declared.Meant.{Meant}
use Rattle.frames.specs.declared.Meant.TheVariants as meant
use Rattle.frames.specs.Layout.{frames_of}
use Rattle.frames.specs.Meant.{formal_under, caller_of, span_name, form_for, form_in, MeantBy, SingleBy, bit_of}
use Rattle.frames.proofs.Formal.{none-some}

-- ---- the form of a replaced term, by its own form

-- P8: bit j of what is a name
abbrev bit_of_name : ℕ → Form → Form
bit_of_name j (one_name v) = one_bit v j
bit_of_name j (one_bit v i) = neither
bit_of_name j neither = neither

module _ (to : ℕ → ℕ) (bound : List (Bound Term)) where
  abbrev under_form : Form → Form
  under_form (one_name v) = form_for to v (actual_of bound v.bytes)
  under_form (one_bit v j) = bit_of_name j (form_for to v (actual_of bound v.bytes))
  under_form neither = neither

  read-form : (v : Name) (o : Option Term) → form_of (read_name to v o) ≡ form_for to v o
  unfolding form_of
  read-form v none = refl
  read-form v (some t) = refl

  bit-form : (v : Name) (j : ℕ) (o : Option Term) → form_of (read_bit to v j o) ≡ bit_of_name j (form_for to v o)
  unfolding form_of
  bit-form v j none = refl
  bit-form v j (some t) = go (form_of t)
    where
      go : (f : Form) → form_of (bit_of_form to (to v.place) j f) ≡ bit_of_name j f
      go (one_name n) = refl
      go (one_bit n i) = refl
      go neither = refl

  form-replaced : (t : Term) → form_of (replaced to bound t) ≡ under_form (form_of t)
  unfolding form_of replaced
  form-replaced (literal p n) = refl
  form-replaced (truth p b) = refl
  form-replaced (variable v) = read-form v (actual_of bound v.bytes)
  form-replaced (bit v j) = bit-form v j (actual_of bound v.bytes)
  form-replaced (not p e) = refl
  form-replaced (int p e) = refl
  form-replaced (arithmetic o p a b) = refl
  form-replaced (comparison o p a b) = refl
  form-replaced (logic o p a b) = refl
  form-replaced (parens e) = refl
  form-replaced (instead e) = form-replaced e
  form-replaced (no_name p) = refl

-- ---- one step

bit_in : (s : List ℕ) (to : ℕ → ℕ) (r : Meant) (j : ℕ) → form_in s to (bit_of r j) ≡ bit_of_name j (form_in s to r)
bit_in s to (meant.Name a b) j = refl
bit_in s to (meant.Bit a b i) j = refl
bit_in s to meant.Neither j = refl

pub meant_none : (s z : List ℕ) (u : Under) (a b : ℕ) → none ≡ formal_under s z u (part s a b) → MeantBy s z u a b (meant.Name a b)
meant_none s z u a b e bound f =
    ap (form_for (told_at u.at) (span_name s a b)) (sym (no_formal_in s (frames_of s z) u.at u.frame bound u.depth (part s a b) f (sym e)))

module _ (s z : List ℕ) (u : Under) (a b : ℕ) {q : ℕ} (e : some q ≡ formal_under s z u (part s a b)) where
  pub meant_deep : 0 < u.depth
  meant_deep = go u.depth (sym e)
    where
      go : (d : ℕ) → formal_in s (frames_of s z) d u.frame (part s a b) ≡ some q → 0 < d
      go zero p = none-some p
      go (suc d) p = omega arith

  -- the actual's text, and how the formal's form comes of its own
  abbrev Stands : List (Bound Term) → Type 0
  Stands bound = (outer : List (Bound Term)) × (t : Term) × Framed s (frames_of s z) (caller_of z u).at (caller_of z u).depth (caller_of z u).frame outer × TermAt s q t × (form_for (told_at u.at) (span_name s a b) (actual_of bound (part s a b)) ≡ under_form (told_at u.at) outer (form_of t))

  stands : (bound : List (Bound Term)) → Framed s (frames_of s z) u.at u.depth u.frame bound → Stands bound
  unfolding frames_of
  stands bound f = go u.depth f (sym e)
    where
      last : (d : ℕ) (outer : List (Bound Term)) (o : Option ℕ) → o ≡ some q → Framed s (frames_of s z) u.at d ((frames_of s z).caller u.frame) outer → Stood s u.at outer o (actual_of bound (part s a b))
          → (outer : List (Bound Term)) × (t : Term) × Framed s (frames_of s z) u.at d ((frames_of s z).caller u.frame) outer × TermAt s q t × (form_for (told_at u.at) (span_name s a b) (actual_of bound (part s a b)) ≡ under_form (told_at u.at) outer (form_of t))
      last d outer o p up x =
          let (t, y, is) : Stood s u.at outer (some q) (actual_of bound (part s a b)) = rw p at x in
          (outer, t, up, y, ap (form_for (told_at u.at) (span_name s a b)) is ∙ form-replaced (told_at u.at) outer t)

      go : (d : ℕ) → Framed s (frames_of s z) u.at d u.frame bound → formal_in s (frames_of s z) d u.frame (part s a b) ≡ some q
          → (outer : List (Bound Term)) × (t : Term) × Framed s (frames_of s z) u.at (d - 1) ((frames_of s z).caller u.frame) outer × TermAt s q t × (form_for (told_at u.at) (span_name s a b) (actual_of bound (part s a b)) ≡ under_form (told_at u.at) outer (form_of t))
      go zero f p = none-some p
      go (suc d) f p =
          let (outer, up, x) = formal-stands s (frames_of s z) u.at d u.frame bound (part s a b) f in
          let k : suc d - 1 ≡ d = omega arith in
          rw k (last d outer (formal_in s (frames_of s z) (suc d) u.frame (part s a b)) p up x)

  module _ {r : Meant} (x : SingleBy s q r) where
    pub meant_name : (c d : ℕ) (m : Meant) → r ≡ meant.Name c d → MeantBy s z (caller_of z u) c d m → MeantBy s z u a b m
    meant_name c d m i y bound f =
        let (outer, t, up, at, is) = stands bound f in
        let k : form_of t ≡ one_name (span_name s c d) = sym (x t at) ∙ ap (form_in s (λ p. p)) i in
        y outer up ∙ sym (is ∙ ap (under_form (told_at u.at) outer) k)

    pub meant_bit : (c d j : ℕ) (m : Meant) → r ≡ meant.Bit c d j → MeantBy s z (caller_of z u) c d m → MeantBy s z u a b (bit_of m j)
    meant_bit c d j m i y bound f =
        let (outer, t, up, at, is) = stands bound f in
        let k : form_of t ≡ one_bit (span_name s c d) j = sym (x t at) ∙ ap (form_in s (λ p. p)) i in
        bit_in s (told_at u.at) m j ∙ ap (bit_of_name j) (y outer up) ∙ sym (is ∙ ap (under_form (told_at u.at) outer) k)

    pub meant_neither : r ≡ meant.Neither → MeantBy s z u a b meant.Neither
    meant_neither i bound f =
        let (outer, t, up, at, is) = stands bound f in
        let k : form_of t ≡ neither = sym (x t at) ∙ ap (form_in s (λ p. p)) i in
        sym (is ∙ ap (under_form (told_at u.at) outer) k)

-- ---- what callers ask

module _ (to : ℕ → ℕ) (v : Name) where
  -- assigned
  pub changed_by_lem : (o : Option Term) → changed_name to v o ≡ name_of_form to (to v.place) (form_for to v o)
  changed_by_lem none = refl
  changed_by_lem (some t) = refl

  -- raised, lowered or inverted
  pub whole_by_lem : (o : Option Term) → changed_whole to v o ≡ target_of_form to (to v.place) (form_for to v o)
  whole_by_lem none = refl
  whole_by_lem (some t) = refl

  -- a bit of it read
  pub bit_by_lem : (j : ℕ) (o : Option Term) → read_bit to v j o ≡ bit_of_form to (to v.place) j (form_for to v o)
  bit_by_lem j none = refl
  bit_by_lem j (some t) = refl

  -- P7
  pub name_by_lem : (o : Option Term) → is_name o ≡ name_form (form_for to v o)
  name_by_lem none = refl
  name_by_lem (some t) = refl

  pub raised_by : (o : Option Term) → is_bit o ≡ bit_form (form_for to v o)
  raised_by none = refl
  raised_by (some t) = refl
