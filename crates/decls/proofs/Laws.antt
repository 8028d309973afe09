-- The laws of the readers of one declared name: one for each way on.
-- Assumes nothing.
use mathlib.Core.Bool.{Bool, true, false, cond}
use Rattle.std.specs.Prelude.{Option as Optional, Some, None}
use mathlib.Core.Path.{◌≡◌, refl, sym, ◌∙◌, ap, subst}
use mathlib.Core.List.{List, [], ◌∷◌, ◌++◌, map}
use Prim.Native.Nat.{ℕ, zero, suc, ◌+◌, ◌-◌, ◌≤◌, ◌<◌}
use native.Mathlib.Omega.{arith}
use native.Mathlib.Decide.{dec_lt}
use lib.Dec.{eqb}
use mir.Val.{bool_byte}
use lib.ListN.{length}
use borrow.Author.Tests.{ne_eqb, eqb-true, eqb-false, ltb-false}
use Rattle.ll1.proofs.Tests.{has, begin_row, pick}
use Rattle.meaning.specs.Declared as declared
use Rattle.meaning.specs.Declared.{Declaration, inputs, outputs, internals, integers, as_bit}
use Rattle.meaning.specs.Unexpanded.{a_variable, a_procedure, Commands, Unexpanded}
use Rattle.language.specs.Words.{name, number, Word, signs, reserved, too_large}
use Rattle.language.specs.Grammar.{Program, Statements, Declarations, AfterProcedure, MoreInputs, MoreBooleans, MoreIntegers, Ending, BooleanStart, BooleanValue, IntegerStart, binding, csml, most_levels}
use Rattle.language.specs.Grammar as grammar
use Rattle.language.specs.Trees.{Name, name_at, number_at}
use Rattle.names.specs.declared.Item.{Item}
use Rattle.names.specs.declared.Kind.{Kind}
use Rattle.names.specs.declared.Kind.TheVariants as kinds
use Rattle.names.specs.Enter.{kind_number}
use Rattle.language.proofs.Claims.{claims, first, empty, follow}
use Rattle.words.specs.Kinds.{numbered, spellings, kind_count}
use Rattle.words.specs.Runs.{part}
use Rattle.spellings.proofs.Parts.{part_length}
use Rattle.words.proofs.Only.{number_of, number-back}
use Rattle.descent_law.specs.Told.{Told}
use Rattle.descent_law.specs.Declarations.{Declared, Maker, DeclarationsRow, DeclarationRow, AfterProcedureRow, MoreInputsRow, MoreBooleansRow, MoreIntegersRow, EndingRow, BooleanStartRow, BooleanValueRow, IntegerStartRow}
use Rattle.descent_law.proofs.Declarations.{program-told, declarations_told, declaration_told, after-procedure-told, inputs-told, more-inputs-told, ending_told, booleans_told, more_booleans_told, boolean-start-told, boolean-value-told, integers-told, more-integers-told, integer-start-told}
use Rattle.hand.specs.declared.Here.{Here}
use Rattle.hand.specs.Along.{Along, Same, Stands, Near, Begins}
use Rattle.hand.proofs.Chosen.{up_to, agrees, Decides, called-row}
use Rattle.names.specs.Look.{value_of, second_of, width_at}
use Rattle.decls.specs.declared.At.{At}
use Rattle.decls.specs.declared.Started.{Started}
use Rattle.decls.specs.declared.Named.{Named}
use Rattle.decls.specs.declared.Turn.{Turn}
use Rattle.decls.specs.Left.{Several, list_of, list_number, Listed, More, Names, Proceeds, LeftBy, Left}
use Rattle.decls.specs.Came.{Is, Ended, BooleanStarted, IntegerStarted, NamedOne, NamedCame, Quiet, Reached, After, Opened, Stepped, StepCame, Ready, Begun, BeginCame}
use Rattle.decls.proofs.Again.{along_place}
use Rattle.decls.proofs.Quiet.{procedure-whole}

abbrev Text : Type 0
Text = List Word

-- ---- which row is called for

abbrev ending_row : ℕ → ℕ
ending_row k = cond (eqb k 10) 1 (cond (eqb k 11) 2 0)

all_endings : Decides Ending ending_row
unfolding has begin_row pick csml binding claims first empty follow agrees up_to numbered spellings signs reserved
all_endings = refl

abbrev start_row : ℕ → ℕ
start_row k = cond (eqb k 7) 1 0

all-boolean-starts : Decides BooleanStart start_row
unfolding has begin_row pick csml binding claims first empty follow agrees up_to numbered spellings signs reserved
all-boolean-starts = refl

all-integer-starts : Decides IntegerStart start_row
unfolding has begin_row pick csml binding claims first empty follow agrees up_to numbered spellings signs reserved
all-integer-starts = refl

abbrev truth_row : ℕ → ℕ
truth_row k = cond (eqb k 32) 0 1

all_truths : Decides BooleanValue truth_row
unfolding has begin_row pick csml binding claims first empty follow agrees up_to numbered spellings signs reserved
all_truths = refl

abbrev pub more_row : ℕ → ℕ
more_row k = cond (eqb k 13) 1 0

all-more-inputs : Decides MoreInputs more_row
unfolding has begin_row pick csml binding claims first empty follow agrees up_to numbered spellings signs reserved
all-more-inputs = refl

all-more_booleans : Decides MoreBooleans more_row
unfolding has begin_row pick csml binding claims first empty follow agrees up_to numbered spellings signs reserved
all-more_booleans = refl

all-more-integers : Decides MoreIntegers more_row
unfolding has begin_row pick csml binding claims first empty follow agrees up_to numbered spellings signs reserved
all-more-integers = refl

abbrev lists_row : ℕ → ℕ
lists_row k = cond (eqb (list_of k) 0) 0 (cond (eqb (list_of k) 5) 2 1)

all-lists : Decides Declarations lists_row
unfolding has begin_row pick csml binding claims first empty follow agrees up_to numbered spellings signs reserved list_of
all-lists = refl

abbrev list_row : ℕ → ℕ
list_row k = list_of k - 1

all_list : Decides grammar.Declaration list_row
unfolding has begin_row pick csml binding claims first empty follow agrees up_to numbered spellings signs reserved list_of
all_list = refl

-- ---- the next word

-- the words behind the one in hand
on_words : (s : List ℕ) (h : Here) {ws : Text} {w : Word} {tail : Text} → Stands s h ws → ws ≡ w ∷ tail → Along s h.next tail
on_words s h st e = (subst (Stands s h) e st).1

on : {s : List ℕ} (h : Here) {r : Here} {ws : Text} {w : Word} {tail : Text} → Begins s h.next r → Stands s h ws → ws ≡ w ∷ tail → Stands s r tail
on {s} h {tail = tail} b st e = b.stands tail (on_words s h st e)

begins-later : {s : List ℕ} {h r : Here} → Near s h → Begins s h.next r → h.place ≤ r.place
begins-later n b = omega (arith, n.on, b.later)

-- ---- endings and initial values

module _ {s : List ℕ} {h : Here} (n : Near s h) where
  module _ {r : Here} (b : Begins s h.next r) where
    pub ended-high : h.kind ≡ 10 → Ended s h r
    ended-high e = record { near = b.near; later = begins-later n b; told = told }
      where
        told : (ws : Text) → Stands s h ws → (f k : ℕ) (v : declared.Ending) (rest : Text) → Told f Ending k ws v rest → Stands s r rest
        told ws st f k v rest x =
            let (g, i, p, row) = ending_told f k ws v rest x in
            let q : i ≡ 1 = sym (called-row s Ending ending_row all_endings h ws i st p) ∙ ap ending_row e in
            let (w, a, z) = subst (EndingRow ws v rest) q row in
            on h b st a

    pub ended-low : h.kind ≡ 11 → Ended s h r
    ended-low e = record { near = b.near; later = begins-later n b; told = told }
      where
        told : (ws : Text) → Stands s h ws → (f k : ℕ) (v : declared.Ending) (rest : Text) → Told f Ending k ws v rest → Stands s r rest
        told ws st f k v rest x =
            let (g, i, p, row) = ending_told f k ws v rest x in
            let q : i ≡ 2 = sym (called-row s Ending ending_row all_endings h ws i st p) ∙ ap ending_row e in
            let (w, a, z) = subst (EndingRow ws v rest) q row in
            on h b st a

  pub ended-none : ¬ (h.kind ≡ 10) → ¬ (h.kind ≡ 11) → Ended s h h
  ended-none e g = record { near = n; later = omega arith; told = told }
    where
      zero_row : ending_row h.kind ≡ 0
      zero_row = rw (ne_eqb h.kind 10 e, ne_eqb h.kind 11 g) refl

      told : (ws : Text) → Stands s h ws → (f k : ℕ) (v : declared.Ending) (rest : Text) → Told f Ending k ws v rest → Stands s h rest
      told ws st f k v rest x =
          let (g, i, p, row) = ending_told f k ws v rest x in
          let q : i ≡ 0 = sym (called-row s Ending ending_row all_endings h ws i st p) ∙ zero_row in
          let (a, z) = subst (EndingRow ws v rest) q row in
          subst (Stands s h) z st

  start_none : ¬ (h.kind ≡ 7) → start_row h.kind ≡ 0
  start_none e = rw (ne_eqb h.kind 7 e) refl

  pub boolean-none : ¬ (h.kind ≡ 7) → BooleanStarted s h (record { word = h; value = 0 })
  boolean-none e = record { near = n; later = omega arith; told = told }
    where
      told : (ws : Text) → Stands s h ws → (f k : ℕ) (v : Bool) (rest : Text) → Told f BooleanStart k ws v rest → Stands s h rest × (0 ≡ as_bit v)
      told ws st f k v rest x =
          let (g, i, p, row) = boolean-start-told f k ws v rest x in
          let q : i ≡ 0 = sym (called-row s BooleanStart start_row all-boolean-starts h ws i st p) ∙ start_none e in
          let (a, z) = subst (BooleanStartRow g k ws v rest) q row in
          (subst (Stands s h) z st, ap as_bit (sym a))

  pub integer-none : ¬ (h.kind ≡ 7) → IntegerStarted s h (record { word = h; value = 0 })
  integer-none e = record { near = n; later = omega arith; told = told }
    where
      told : (ws : Text) → Stands s h ws → (f k v : ℕ) (rest : Text) → Told f IntegerStart k ws v rest → Stands s h rest × (0 ≡ v)
      told ws st f k v rest x =
          let (g, i, p, row) = integer-start-told f k ws v rest x in
          let q : i ≡ 0 = sym (called-row s IntegerStart start_row all-integer-starts h ws i st p) ∙ start_none e in
          let (a, z) = subst (IntegerStartRow ws v rest) q row in
          (subst (Stands s h) z st, sym a)

  module _ {v w : Here} (e : h.kind ≡ 7) (b : Begins s h.next v) (c : Begins s v.next w) where
    twice_later : h.place ≤ w.place
    twice_later = omega (arith, begins-later n b, begins-later b.near c)

    boolean-value : (ws : Text) → Stands s h ws → (f k : ℕ) (x : Bool) (rest : Text) → Told f BooleanStart k ws x rest → (i : ℕ) × (i ≡ truth_row v.kind) × ((mid : Text) × Stands s v mid × BooleanValueRow mid x rest i)
    boolean-value ws st f k x rest y =
        let (g, i, p, row) = boolean-start-told f k ws x rest y in
        let q : i ≡ 1 = sym (called-row s BooleanStart start_row all-boolean-starts h ws i st p) ∙ ap start_row e in
        let (u, tail, a, z) = subst (BooleanStartRow g k ws x rest) q row in
        let (g₁, j, p₁, row₁) = boolean-value-told g k tail x rest z in
        let t : Stands s v tail = on h b st a in
        (j, sym (called-row s BooleanValue truth_row all_truths v tail j t p₁), (tail, t, row₁))

    boolean-true : v.kind ≡ 32 → BooleanStarted s h (record { word = w; value = 1 })
    boolean-true d = record { near = c.near; later = twice_later; told = told }
      where
        told : (ws : Text) → Stands s h ws → (f k : ℕ) (x : Bool) (rest : Text) → Told f BooleanStart k ws x rest → Stands s w rest × (1 ≡ as_bit x)
        told ws st f k x rest y =
            let (i, q, (mid, t, row)) = boolean-value ws st f k x rest y in
            let (u, a, z) = subst (BooleanValueRow mid x rest) (q ∙ ap truth_row d) row in
            (on v c t a, ap as_bit (sym z))

    boolean-false : ¬ (v.kind ≡ 32) → BooleanStarted s h (record { word = w; value = 0 })
    boolean-false d = record { near = c.near; later = twice_later; told = told }
      where
        one-row : truth_row v.kind ≡ 1
        one-row = rw (ne_eqb v.kind 32 d) refl

        told : (ws : Text) → Stands s h ws → (f k : ℕ) (x : Bool) (rest : Text) → Told f BooleanStart k ws x rest → Stands s w rest × (0 ≡ as_bit x)
        told ws st f k x rest y =
            let (i, q, (mid, t, row)) = boolean-value ws st f k x rest y in
            let (u, a, z) = subst (BooleanValueRow mid x rest) (q ∙ one-row) row in
            (on v c t a, ap as_bit (sym z))

    pub boolean-by : {n : ℕ} → n ≡ bool_byte (eqb v.kind 32) → BooleanStarted s h (record { word = w; value = n })
    boolean-by d = rw d (go (eqb v.kind 32) refl)
      where
        go : (t : Bool) → eqb v.kind 32 ≡ t → BooleanStarted s h (record { word = w; value = bool_byte t })
        go true q = boolean-true (eqb-true v.kind 32 q)
        go false q = boolean-false (eqb-false v.kind 32 q)

    pub integer-value : IntegerStarted s h (record { word = w; value = v.value })
    integer-value = record { near = c.near; later = twice_later; told = told }
      where
        told : (ws : Text) → Stands s h ws → (f k x : ℕ) (rest : Text) → Told f IntegerStart k ws x rest → Stands s w rest × (v.value ≡ x)
        told ws st f k x rest y =
            let (g, i, p, row) = integer-start-told f k ws x rest y in
            let q : i ≡ 1 = sym (called-row s IntegerStart start_row all-integer-starts h ws i st p) ∙ ap start_row e in
            let (u, m, a, j, z) = subst (IntegerStartRow ws x rest) q row in
            let t : Stands s v (m ∷ rest) = on h b st a in
            (c.stands rest t.1, rw (j, ← z) at t.0.value)

-- ---- a declared name

pub word_end : {s : List ℕ} {h : Here} {w : Word} → Near s h → Same s h w → h.next ≡ w.place + length w.bytes
word_end {s} {h} n st = omega (arith, part_length s h.place h.next, ap length st.bytes, st.place, n.on, n.inside)

module _ {s : List ℕ} {h : Here} {w : Word} (n : Near s h) (st : Same s h w) (k : w.kind ≡ name) where
  end_is : h.next ≡ w.place + length w.bytes
  end_is = word_end n st

  lies-bytes : part s w.place (w.place + length w.bytes) ≡ w.bytes
  lies-bytes = rw (← end_is, ← st.place) st.bytes

  short : length w.bytes ≤ 16
  unfolding too_large
  short = let e : too_large name w.bytes ≡ false = rw k at st.fits in ltb-false 16 (length w.bytes) e

  inside : w.place < 8192
  inside = omega (arith, st.place, n.more st.known, n.inside, n.short)

  is_input : (e : declared.Ending) → Is s (inputs (name_at w) e) (record { kind = kinds.Input; place = h.place; next = h.next; number = 0; width = 0; value = 0 })
  is_input e = record { lies = record { bytes = lies-bytes; short = short; inside = inside; number = omega arith; width = tt }; kind = refl; place = st.place; next = end_is; number = refl; width = refl; value = refl }

  is_output : (e : declared.Ending) (b : Bool) (v : ℕ) → v ≡ as_bit b → Is s (outputs (name_at w) e b) (record { kind = kinds.Output; place = h.place; next = h.next; number = 0; width = 1; value = v })
  is_output e b v q = record { lies = record { bytes = lies-bytes; short = short; inside = inside; number = omega arith; width = tt }; kind = refl; place = st.place; next = end_is; number = refl; width = refl; value = q }

  is_internal : (e : declared.Ending) (b : Bool) (v : ℕ) → v ≡ as_bit b → Is s (internals (name_at w) e b) (record { kind = kinds.Internal; place = h.place; next = h.next; number = 0; width = 1; value = v })
  is_internal e b v q = record { lies = record { bytes = lies-bytes; short = short; inside = inside; number = omega arith; width = tt }; kind = refl; place = st.place; next = end_is; number = refl; width = refl; value = q }

  is_integer : (p q v i x : ℕ) → q ≡ p → q ≤ 8192 → width_at s h.next ≡ v → x ≡ v
      → (j : ℕ) → j ≡ i → Is s (integers (name_at w) p v i) (record { kind = kinds.Integer; place = h.place; next = h.next; number = q; width = x; value = j })
  is_integer p q v i x e r f g j z = record { lies = record { bytes = lies-bytes; short = short; inside = inside; number = omega (arith, e, r); width = rw (← end_is) f }; kind = refl; place = st.place; next = end_is; number = e; width = g; value = z }

-- the width that is written behind a name
width-behind : (s : List ℕ) (from : ℕ) (o m : Word) (tail : Text) → m.kind ≡ number → Along s from (o ∷ m ∷ tail) → width_at s from ≡ number_at m
unfolding width_at second_of value_of
width-behind s from o m tail k (a, (b, c)) = rw (a, b, k) refl

module _ {s : List ℕ} {h after : Here} (n : Near s h) (b : Begins s h.next after) where
  module _ {e : Here} (d : Ended s after e) where
    pub named-input : NamedCame s 1 h (record { item = record { kind = kinds.Input; place = h.place; next = h.next; number = 0; width = 0; value = 0 }; word = e })
    named-input = record { near = d.near; later = omega (arith, b.later, d.later); kind = omega arith; place = refl; next = refl; told = told }
      where
        told : (ws : Text) → Stands s h ws → (f k : ℕ) (ds : Declared) (rest : Text) → Listed 1 f k ws ds rest
            → NamedOne s 1 k ds rest (record { item = record { kind = kinds.Input; place = h.place; next = h.next; number = 0; width = 0; value = 0 }; word = e })
        told ws st f k ds rest x =
            let (g, i, p, row) = inputs-told f k ws ds rest x in let (w, tail, mid, z, es, a, q, y, u, v) = row in
            let t : Stands s h (w ∷ tail) = subst (Stands s h) a st in
            record { one = inputs (name_at w) z; on = es; mid = mid; fuel = g; all = v; is = is_input n t.0 q z; stands = d.told tail (b.stands tail t.1) g k z mid y; more = u }

    module _ {r : Started} (c : BooleanStarted s e r) where
      abbrev BooleanName : Kind → Named
      BooleanName l = record { item = record { kind = l; place = h.place; next = h.next; number = 0; width = 1; value = r.value }; word = r.word }

      told-boolean : (l : Kind) → 1 ≤ kind_number l → kind_number l ≤ 2 → (ws : Text) → Stands s h ws → (f k : ℕ) (ds : Declared) (rest : Text) → Listed (list_number (Some l)) f k ws ds rest → NamedOne s (list_number (Some l)) k ds rest (BooleanName l)
      told-boolean kinds.Input g₀ j₀ ws st f k ds rest x = absurd (omega (arith, g₀))
      told-boolean kinds.Output g₀ j₀ ws st f k ds rest (m, x, made) =
          let (g, i, p, row) = booleans_told f k ws m rest x in let (w, tail, mid, low, z, v, es, a, q, y, u, l, made₁) = row in
          let t : Stands s h (w ∷ tail) = subst (Stands s h) a st in
          let (o, value) = c.told mid (d.told tail (b.stands tail t.1) g k z mid y) g k v low u in
          record { one = outputs (name_at w) z v; on = es outputs; mid = low; fuel = g; all = made ∙ ap (λ (x : Maker → Declared). x outputs) made₁; is = is_output n t.0 q z v r.value value; stands = o; more = (es, l, refl) }
      told-boolean kinds.Internal g₀ j₀ ws st f k ds rest (m, x, made) =
          let (g, i, p, row) = booleans_told f k ws m rest x in let (w, tail, mid, low, z, v, es, a, q, y, u, l, made₁) = row in
          let t : Stands s h (w ∷ tail) = subst (Stands s h) a st in
          let (o, value) = c.told mid (d.told tail (b.stands tail t.1) g k z mid y) g k v low u in
          record { one = internals (name_at w) z v; on = es internals; mid = low; fuel = g; all = made ∙ ap (λ (x : Maker → Declared). x internals) made₁; is = is_internal n t.0 q z v r.value value; stands = o; more = (es, l, refl) }
      told-boolean kinds.Integer g₀ j₀ ws st f k ds rest x = absurd (omega (arith, j₀))
      told-boolean kinds.Procedure g₀ j₀ ws st f k ds rest x = absurd (omega (arith, j₀))

      pub named-boolean : {l : Kind} → 1 ≤ kind_number l → kind_number l ≤ 2 → NamedCame s (list_number (Some l)) h (BooleanName l)
      named-boolean {l} g j = record { near = c.near; later = omega (arith, b.later, d.later, c.later); kind = omega (arith, j); place = refl; next = refl; told = told-boolean l g j }

  module _ {m close low : Here} {r : Started} (bm : Begins s after.next m) (bc : Begins s m.next close) (bl : Begins s close.next low) (c : IntegerStarted s low r) where
    pub named-integer : NamedCame s 4 h (record { item = record { kind = kinds.Integer; place = h.place; next = h.next; number = m.place; width = m.value; value = r.value }; word = r.word })
    named-integer = record { near = c.near; later = omega (arith, b.later, begins-later b.near bm, begins-later bm.near bc, begins-later bc.near bl, c.later); kind = omega arith; place = refl; next = refl; told = told }
      where
        told : (ws : Text) → Stands s h ws → (f k : ℕ) (ds : Declared) (rest : Text) → Listed 4 f k ws ds rest
            → NamedOne s 4 k ds rest (record { item = record { kind = kinds.Integer; place = h.place; next = h.next; number = m.place; width = m.value; value = r.value }; word = r.word })
        told ws st f k ds rest x =
            let (g, i, p, row) = integers-told f k ws ds rest x in let (w, o, u, cl, tail, mid, v, es, a, q, nk, y, l, all) = row in
            let t : Stands s h (w ∷ o ∷ u ∷ cl ∷ tail) = subst (Stands s h) a st in
            let t₁ : Stands s after (o ∷ u ∷ cl ∷ tail) = b.stands (o ∷ u ∷ cl ∷ tail) t.1 in
            let t₂ : Stands s m (u ∷ cl ∷ tail) = bm.stands (u ∷ cl ∷ tail) t₁.1 in
            let t₃ : Stands s close (cl ∷ tail) = bc.stands (cl ∷ tail) t₂.1 in
            let t₄ : Stands s low tail = bl.stands tail t₃.1 in
            let (z, value) = c.told tail t₄ g k v mid y in
            record {
              one = integers (name_at w) u.place (number_at u) v;
              on = es;
              mid = mid;
              fuel = g;
              all = all;
              is = is_integer n t.0 q u.place m.place (number_at u) v m.value t₂.0.place (omega (arith, bm.near.on, bm.near.inside, bm.near.short)) (width-behind s h.next o u (cl ∷ tail) nk t.1) (rw nk at t₂.0.value) r.value value;
              stands = z;
              more = l;
            }

-- ---- the number of a list

pub list-most : (l : Kind) → list_number (Some l) ≤ 5
list-most kinds.Input = omega arith
list-most kinds.Output = omega arith
list-most kinds.Internal = omega arith
list-most kinds.Integer = omega arith
list-most kinds.Procedure = omega arith

pub some-list : {o : Optional Kind} {l : Kind} → o ≡ Some l → 1 ≤ list_number o
some-list e = omega (arith, ap list_number e)

-- ---- behind a `;`

abbrev picked : Bool → Bool → Bool → Bool → Bool → ℕ
picked a b c d e = cond a 1 (cond b 2 (cond c 3 (cond d 4 (cond e 5 0))))

-- a word that opens a list is one of the words
list-known : (k : ℕ) → 1 ≤ list_of k → k < kind_count
unfolding list_of
list-known k = go (eqb k 28) (eqb k 29) (eqb k 30) (eqb k 31) (eqb k 56) refl refl refl refl refl
  where
    go : (a b c d i : Bool) → eqb k 28 ≡ a → eqb k 29 ≡ b → eqb k 30 ≡ c → eqb k 31 ≡ d → eqb k 56 ≡ i → 1 ≤ picked a b c d i → k < kind_count
    go true b c d i e f g h j z = omega (arith, eqb-true k 28 e)
    go false true c d i e f g h j z = omega (arith, eqb-true k 29 f)
    go false false true d i e f g h j z = omega (arith, eqb-true k 30 g)
    go false false false true i e f g h j z = omega (arith, eqb-true k 31 h)
    go false false false false true e f g h j z = omega (arith, eqb-true k 56 j)
    go false false false false false e f g h j z = absurd (omega (arith, z))

names-left : (s : List ℕ) (l : ℕ) (h : Here) (ds : Several) (rest : Text) → 1 ≤ l → l ≤ 4 → LeftBy s l h ds rest → Names s l h ds rest
names-left s zero h ds rest g m x = absurd (omega arith)
names-left s (suc zero) h ds rest g m x = x
names-left s (suc (suc zero)) h ds rest g m x = x
names-left s (suc (suc (suc zero))) h ds rest g m x = x
names-left s (suc (suc (suc (suc zero)))) h ds rest g m x = x
names-left s (suc (suc (suc (suc (suc l))))) h ds rest g m x = absurd (omega arith)

left-names : (s : List ℕ) (l : ℕ) (h : Here) (ds : Several) (rest : Text) → 1 ≤ l → l ≤ 4 → Names s l h ds rest → LeftBy s l h ds rest
left-names s zero h ds rest g m x = absurd (omega arith)
left-names s (suc zero) h ds rest g m x = x
left-names s (suc (suc zero)) h ds rest g m x = x
left-names s (suc (suc (suc zero))) h ds rest g m x = x
left-names s (suc (suc (suc (suc zero)))) h ds rest g m x = x
left-names s (suc (suc (suc (suc (suc l))))) h ds rest g m x = absurd (omega arith)

listed_by : (j f k : ℕ) (ws : Text) (ds : Declared) (rest : Text) → DeclarationRow f k ws ds rest j → (w : Word) × (tail : Text) × (ws ≡ w ∷ tail) × Listed (suc j) f k tail ds rest
listed_by zero f k ws ds rest (w, tail, a, x) = (w, tail, a, x)
listed_by (suc zero) f k ws ds rest (w, tail, g, a, x, e) = (w, tail, a, (g, x, e))
listed_by (suc (suc zero)) f k ws ds rest (w, tail, g, a, x, e) = (w, tail, a, (g, x, e))
listed_by (suc (suc (suc zero))) f k ws ds rest (w, tail, a, x) = (w, tail, a, x)
listed_by (suc (suc (suc (suc j)))) f k ws ds rest x = absurd x

module _ {s : List ℕ} {h : Here} (n : Near s h) where
  pub opened-none : 0 ≡ list_of h.kind → Opened s h (record { list = None; word = h })
  opened-none z = record { near = n; list = omega arith; from = omega arith; later = λ g. absurd (omega (arith, g)); told = told }
    where
      zero_row : lists_row h.kind ≡ 0
      zero_row = rw (← z) refl

      told : (ws : Text) → Stands s h ws → (f k : ℕ) → k ≤ most_levels → (ds : Several) (rest : Text) → Told f Declarations k ws ds rest → (ds ≡ []) × Stands s h rest
      told ws st f k few ds rest x =
          let (g, i, p, row) = declarations_told f k ws ds rest x in
          let q : i ≡ 0 = sym (called-row s Declarations lists_row all-lists h ws i st p) ∙ zero_row in
          let (a, u) = subst (DeclarationsRow g k ws ds rest) q row in
          (a, subst (Stands s h) u st)

  pub opened-list : {l : Kind} {v : Here} → list_number (Some l) ≡ list_of h.kind → Begins s h.next v → Opened s h (record { list = Some l; word = v })
  opened-list {l} {v} e b = record { near = b.near; list = m; from = begins-later n b; later = λ g. omega (arith, n.more (list-known h.kind (omega (arith, e))), b.later); told = told }
    where
      m : list_number (Some l) ≤ 5
      m = list-most l

      some : ¬ (list_of h.kind ≡ 0)
      some q = omega (arith, e, q)

      list-row : eqb (list_of h.kind) 5 ≡ false → lists_row h.kind ≡ 1
      list-row q = rw (ne_eqb (list_of h.kind) 0 some, q) refl

      procedure-row : eqb (list_of h.kind) 5 ≡ true → lists_row h.kind ≡ 2
      procedure-row q = rw (ne_eqb (list_of h.kind) 0 some, q) refl

      proceeds : (ds : Several) (rest : Text) → list_number (Some l) ≡ 5 → Proceeds s v ds rest → LeftBy s (list_number (Some l)) v ds rest
      proceeds ds rest q x = rw q x

      named : (j : ℕ) → list_number (Some l) ≡ suc j → list_number (Some l) ≤ 4 → (ds : Several) (rest : Text) → Names s (suc j) v ds rest → LeftBy s (list_number (Some l)) v ds rest
      named j q r ds rest x = left-names s (list_number (Some l)) v ds rest (omega (arith, q)) r (rw q x)

      told : (ws : Text) → Stands s h ws → (f k : ℕ) → k ≤ most_levels → (ds : Several) (rest : Text) → Told f Declarations k ws ds rest → LeftBy s (list_number (Some l)) v ds rest
      told ws st f k few ds rest x =
          let (g, i, p, row) = declarations_told f k ws ds rest x in
          go g i (called-row s Declarations lists_row all-lists h ws i st p) row (eqb (list_of h.kind) 5) refl
        where
          go : (g i : ℕ) → lists_row h.kind ≡ i → DeclarationsRow g k ws ds rest i → (t : Bool) → eqb (list_of h.kind) 5 ≡ t → LeftBy s (list_number (Some l)) v ds rest
          go g i p row true t =
              let (w, tail, mid, low, here, others, a, y, af, u, all) = subst (DeclarationsRow g k ws ds rest) (sym p ∙ procedure-row t) row in
              let al : Along s h.next tail = on_words s h st a in
              let st₁ : Stands s v tail = b.stands tail al in
              proceeds ds rest (e ∙ eqb-true (list_of h.kind) 5 t) (record { fuel = g; levels = k; few = few; words = tail; mid = mid; low = low; here = here; on = others; stands = st₁; from = along_place s h.next v tail al st₁; procedure = y; after = af; others = (g, u); all = all })
          go g i p row false t =
              let (c, mid, here, others, y, u, all) = subst (DeclarationsRow g k ws ds rest) (sym p ∙ list-row t) row in
              let (g₁, j, p₁, row₁) = declaration_told g k ws here (c ∷ mid) y in
              let q₁ : list_of h.kind - 1 ≡ j = called-row s grammar.Declaration list_row all_list h ws j st p₁ in
              let (w, tail, a, x₁) = listed_by j g₁ k ws here (c ∷ mid) row₁ in
              named j (omega (arith, e, q₁)) (omega (arith, m, e, eqb-false (list_of h.kind) 5 t)) ds rest (record { fuel = g₁; levels = k; few = few; words = tail; close = c; mid = mid; here = here; on = others; stands = on h b st a; listed = x₁; others = (g, u); all = all })

-- ---- what follows a name

module _ (s : List ℕ) (h : Here) where
  more-row : (l : ℕ) (f k : ℕ) (ws : Text) (ds : Declared) (rest : Text) → Stands s h ws → h.kind ≡ 13 → More l f k ws ds rest → (g : ℕ) × (w : Word) × (tail : Text) × (ws ≡ w ∷ tail) × Listed l g k tail ds rest
  more-row zero f k ws ds rest st e x = absurd x
  more-row (suc zero) f k ws ds rest st e x =
      let (g, i, p, row) = more-inputs-told f k ws ds rest x in
      let q : i ≡ 1 = sym (called-row s MoreInputs more_row all-more-inputs h ws i st p) ∙ ap more_row e in
      let (w, tail, a, y) = subst (MoreInputsRow g k ws ds rest) q row in
      (g, w, tail, a, y)
  more-row (suc (suc zero)) f k ws ds rest st e (m, x, made) =
      let (g, i, p, row) = more_booleans_told f k ws m rest x in
      let q : i ≡ 1 = sym (called-row s MoreBooleans more_row all-more_booleans h ws i st p) ∙ ap more_row e in
      let (w, tail, a, y) = subst (MoreBooleansRow g k ws m rest) q row in
      (g, w, tail, a, (m, y, made))
  more-row (suc (suc (suc zero))) f k ws ds rest st e (m, x, made) =
      let (g, i, p, row) = more_booleans_told f k ws m rest x in
      let q : i ≡ 1 = sym (called-row s MoreBooleans more_row all-more_booleans h ws i st p) ∙ ap more_row e in
      let (w, tail, a, y) = subst (MoreBooleansRow g k ws m rest) q row in
      (g, w, tail, a, (m, y, made))
  more-row (suc (suc (suc (suc zero)))) f k ws ds rest st e x =
      let (g, i, p, row) = more-integers-told f k ws ds rest x in
      let q : i ≡ 1 = sym (called-row s MoreIntegers more_row all-more-integers h ws i st p) ∙ ap more_row e in
      let (w, tail, a, y) = subst (MoreIntegersRow g k ws ds rest) q row in
      (g, w, tail, a, y)
  more-row (suc (suc (suc (suc (suc l))))) f k ws ds rest st e x = absurd x

  no_more : ¬ (h.kind ≡ 13) → more_row h.kind ≡ 0
  no_more e = rw (ne_eqb h.kind 13 e) refl

  more-ends : (l : ℕ) (f k : ℕ) (ws : Text) (ds : Declared) (rest : Text) → Stands s h ws → ¬ (h.kind ≡ 13) → More l f k ws ds rest → (ds ≡ []) × (ws ≡ rest)
  more-ends zero f k ws ds rest st e x = absurd x
  more-ends (suc zero) f k ws ds rest st e x =
      let (g, i, p, row) = more-inputs-told f k ws ds rest x in
      let q : i ≡ 0 = sym (called-row s MoreInputs more_row all-more-inputs h ws i st p) ∙ no_more e in
      subst (MoreInputsRow g k ws ds rest) q row
  more-ends (suc (suc zero)) f k ws ds rest st e (m, x, made) =
      let (g, i, p, row) = more_booleans_told f k ws m rest x in
      let q : i ≡ 0 = sym (called-row s MoreBooleans more_row all-more_booleans h ws i st p) ∙ no_more e in
      let (a, z) = subst (MoreBooleansRow g k ws m rest) q row in
      (made ∙ ap (λ (x : Maker → Declared). x outputs) a, z)
  more-ends (suc (suc (suc zero))) f k ws ds rest st e (m, x, made) =
      let (g, i, p, row) = more_booleans_told f k ws m rest x in
      let q : i ≡ 0 = sym (called-row s MoreBooleans more_row all-more_booleans h ws i st p) ∙ no_more e in
      let (a, z) = subst (MoreBooleansRow g k ws m rest) q row in
      (made ∙ ap (λ (x : Maker → Declared). x internals) a, z)
  more-ends (suc (suc (suc (suc zero)))) f k ws ds rest st e x =
      let (g, i, p, row) = more-integers-told f k ws ds rest x in
      let q : i ≡ 0 = sym (called-row s MoreIntegers more_row all-more-integers h ws i st p) ∙ no_more e in
      subst (MoreIntegersRow g k ws ds rest) q row
  more-ends (suc (suc (suc (suc (suc l))))) f k ws ds rest st e x = absurd x

-- ---- one name after the other

module _ {s : List ℕ} {a : At} (ready : Ready s a) (some : 1 ≤ list_number a.list) (low : list_number a.list ≤ 4) (known : a.word.kind ≡ 0) {r : Named} (c : NamedCame s (list_number a.list) a.word r) {v : Here} (b : Begins s r.word.next v) where
  name_on : a.word.place < a.word.next
  name_on = ready.near.more (omega (arith, known))

  pub step-comma : r.word.kind ≡ 13 → StepCame s a (record { item = r.item; at = record { list = a.list; word = v } })
  step-comma e =
      record { near = b.near; list = ready.list; on = omega (arith, name_on, c.later, c.near.on, b.later); later = λ g. two; kind = omega (arith, c.kind); place = c.place; next = c.next; told = told }
    where
      two : a.word.place + 2 ≤ v.place
      two = omega (arith, name_on, c.later, c.near.more (omega (arith, e)), b.later)

      told : (ds : Several) (rest : Text) → Left s a ds rest → Stepped s a ds rest (record { item = r.item; at = record { list = a.list; word = v } })
      told ds rest x =
          let y = names-left s (list_number a.list) a.word ds rest some low x in
          let z = c.told y.words y.stands y.fuel y.levels y.here (y.close ∷ y.mid) y.listed in
          let (g, w, tail, q, l) = more-row s r.word (list_number a.list) z.fuel y.levels z.mid z.on (y.close ∷ y.mid) z.stands e z.more in
          record {
            one = a_variable z.one;
            on = map a_variable z.on ++ y.on;
            all = y.all ∙ ap (λ (d : Declared). map a_variable d ++ y.on) z.all;
            is = z.is;
            left = left-names s (list_number a.list) v (map a_variable z.on ++ y.on) rest some low (record { fuel = g; levels = y.levels; few = y.few; words = tail; close = y.close; mid = y.mid; here = z.on; on = y.on; stands = on r.word b z.stands q; listed = l; others = y.others; all = refl });
            far = omega (arith, two);
          }

  pub step-close : {at : At} → ¬ (r.word.kind ≡ 13) → Opened s v at → StepCame s a (record { item = r.item; at = at })
  step-close {at} e o =
      record { near = o.near; list = o.list; on = omega (arith, name_on, c.later, c.near.on, b.later, o.from); later = λ g. omega (arith, name_on, c.later, c.near.on, b.later, o.later g); kind = omega (arith, c.kind); place = c.place; next = c.next; told = told }
    where
      told : (ds : Several) (rest : Text) → Left s a ds rest → Stepped s a ds rest (record { item = r.item; at = at })
      told ds rest x =
          let y = names-left s (list_number a.list) a.word ds rest some low x in
          let z = c.told y.words y.stands y.fuel y.levels y.here (y.close ∷ y.mid) y.listed in
          let (p, q) = more-ends s r.word (list_number a.list) z.fuel y.levels z.mid z.on (y.close ∷ y.mid) z.stands e z.more in
          let h : y.here ≡ z.one ∷ [] = z.all ∙ ap (λ (d : Declared). z.one ∷ d) p in
          let st : Stands s r.word (y.close ∷ y.mid) = subst (Stands s r.word) q z.stands in
          record {
            one = a_variable z.one;
            on = y.on;
            all = y.all ∙ ap (λ (d : Declared). map a_variable d ++ y.on) h;
            is = z.is;
            left = o.told y.mid (on r.word b z.stands q) y.others.0 y.levels y.few y.on rest y.others.1;
            far = omega (arith, name_on, c.later, c.near.more st.0.known, b.later, o.from);
          }

-- .. from a list that a match has
pub from-list : {s : List ℕ} {a : At} {l : Kind} {t : Turn} → a.list ≡ Some l → StepCame s (record { list = Some l; word = a.word }) t → StepCame s a t
from-list {s} {a} {t = t} e c = subst (λ (o : Optional Kind). StepCame s (record { list = o; word = a.word }) t) (sym e) c

-- ---- a procedure is passed over

abbrev after_row : ℕ → ℕ
after_row k = cond (eqb k 12) 1 0

all_afters : Decides AfterProcedure after_row
unfolding has begin_row pick csml binding claims first empty follow agrees up_to numbered spellings signs reserved
all_afters = refl

module _ {s : List ℕ} {h : Here} (n : Near s h) where
  pub after-close : {r : Here} → h.kind ≡ 12 → Begins s h.next r → After s h r
  after-close {r} e b = record { near = b.near; later = begins-later n b; told = told }
    where
      told : (ws : Text) → Stands s h ws → (f k : ℕ) (rest : Text) → Told f AfterProcedure k ws tt rest → Stands s r rest
      told ws st f k rest x =
          let (g, i, p, row) = after-procedure-told f k ws tt rest x in
          let q : i ≡ 1 = sym (called-row s AfterProcedure after_row all_afters h ws i st p) ∙ ap after_row e in
          let (w, a) = subst (AfterProcedureRow ws rest) q row in
          on h b st a

  pub after_none : ¬ (h.kind ≡ 12) → After s h h
  after_none e = record { near = n; later = omega arith; told = told }
    where
      zero_row : after_row h.kind ≡ 0
      zero_row = rw (ne_eqb h.kind 12 e) refl

      told : (ws : Text) → Stands s h ws → (f k : ℕ) (rest : Text) → Told f AfterProcedure k ws tt rest → Stands s h rest
      told ws st f k rest x =
          let (g, i, p, row) = after-procedure-told f k ws tt rest x in
          let q : i ≡ 0 = sym (called-row s AfterProcedure after_row all_afters h ws i st p) ∙ zero_row in
          subst (Stands s h) (subst (AfterProcedureRow ws rest) q row) st

-- .. word by word
pub record Reaching (s : List ℕ) (h₀ h : Here) : Type 0 where
  pub near : Near s h
  pub later : h₀.place ≤ h.place
  pub told : (pre : Text) (x : Word) (rest : Text) → Stands s h₀ (pre ++ (x ∷ rest)) → Quiet pre → number_of x.kind ≡ 57
      → (on : Text) × Stands s h (on ++ (x ∷ rest)) × Quiet on × (h₀.place + length pre ≤ h.place + length on)

pub reach_start : {s : List ℕ} {h : Here} → Near s h → Reaching s h h
reach_start n = record { near = n; later = omega arith; told = λ pre x rest st q e. (pre, st, q, omega arith) }

pub kind-back : {s : List ℕ} {h : Here} {w : Word} → Same s h w → number_of w.kind ≡ h.kind
kind-back {s} {h} st = ap number_of (sym st.kind) ∙ number-back h.kind st.known

module _ {s : List ℕ} {h₀ h : Here} (g : Reaching s h₀ h) where
  pub reach_ends : h.kind ≡ 57 → Reached s h₀ h
  reach_ends e = record { near = g.near; later = g.later; told = told }
    where
      go : (h₁ : ℕ) (x : Word) (rest on : Text) → Stands s h (on ++ (x ∷ rest)) → Quiet on → h₁ ≤ h.place + length on → Stands s h (x ∷ rest) × (h₁ ≤ h.place)
      go h₁ x rest [] st q m = (st, omega (arith, m))
      go h₁ x rest (w ∷ on) st q m = absurd (q.0 (kind-back st.0 ∙ e))

      told : (pre : Text) (x : Word) (rest : Text) → Stands s h₀ (pre ++ (x ∷ rest)) → Quiet pre → number_of x.kind ≡ 57 → Stands s h (x ∷ rest) × (h₀.place + length pre ≤ h.place)
      told pre x rest st q k = let (on, st₁, q₁, m) = g.told pre x rest st q k in go (h₀.place + length pre) x rest on st₁ q₁ m

  -- behind the last word there is none
  pub reach_over : 62 < h.kind → Reached s h₀ h
  reach_over e = record { near = g.near; later = g.later; told = told }
    where
      go : (x : Word) (rest on : Text) → Stands s h (on ++ (x ∷ rest)) → ⊥
      go x rest [] st = omega (arith, st.0.known, e)
      go x rest (w ∷ on) st = omega (arith, st.0.known, e)

      told : (pre : Text) (x : Word) (rest : Text) → Stands s h₀ (pre ++ (x ∷ rest)) → Quiet pre → number_of x.kind ≡ 57 → Stands s h (x ∷ rest) × (h₀.place + length pre ≤ h.place)
      told pre x rest st q k = let (on, st₁, q₁, m) = g.told pre x rest st q k in absurd (go x rest on st₁)

  pub reach_on : {r : Here} → ¬ (h.kind ≡ 57) → h.kind ≤ 62 → Begins s h.next r → Reaching s h₀ r
  reach_on {r} e l b = record { near = b.near; later = omega (arith, g.later, begins-later g.near b); told = told }
    where
      go : (h₁ : ℕ) (x : Word) (rest on : Text) → number_of x.kind ≡ 57 → Stands s h (on ++ (x ∷ rest)) → Quiet on → h₁ ≤ h.place + length on
          → (on : Text) × Stands s r (on ++ (x ∷ rest)) × Quiet on × (h₁ ≤ r.place + length on)
      go h₁ x rest [] k st q m = absurd (e (sym (kind-back st.0) ∙ k))
      go h₁ x rest (w ∷ on) k st q m = (on, b.stands (on ++ (x ∷ rest)) st.1, q.1, omega (arith, m, b.later, g.near.more (omega (arith, l))))

      told : (pre : Text) (x : Word) (rest : Text) → Stands s h₀ (pre ++ (x ∷ rest)) → Quiet pre → number_of x.kind ≡ 57
          → (on : Text) × Stands s r (on ++ (x ∷ rest)) × Quiet on × (h₀.place + length pre ≤ r.place + length on)
      told pre x rest st q k = let (on, st₁, q₁, m) = g.told pre x rest st q k in go (h₀.place + length pre) x rest on k st₁ q₁ m

proceeds_left : (s : List ℕ) (l : ℕ) (h : Here) (ds : Several) (rest : Text) → l ≡ 5 → LeftBy s l h ds rest → Proceeds s h ds rest
proceeds_left s l h ds rest e x = rw e at x

module _ {s : List ℕ} {a : At} (ready : Ready s a) (five : list_number a.list ≡ 5) (known : a.word.kind ≡ 0) {v e w u : Here} {r : At} (bv : Begins s a.word.next v) (re : Reached s v e) (bw : Begins s e.next w) (af : After s w u) (o : Opened s u r) where
  abbrev here : Here
  here = a.word

  abbrev procedure_item : Item
  procedure_item = record { kind = kinds.Procedure; place = here.place; next = here.next; number = 0; width = 0; value = 0 }

  some_on : here.place < here.next
  some_on = ready.near.more (omega (arith, known))

  on_behind : here.next ≤ u.place
  on_behind = omega (arith, bv.later, re.later, re.near.on, bw.later, af.later)

  pub step-procedure : StepCame s a (record { item = procedure_item; at = r })
  step-procedure =
      record { near = o.near; list = o.list; on = omega (arith, some_on, on_behind, o.from); later = λ g. omega (arith, some_on, on_behind, o.later g); kind = omega arith; place = refl; next = refl; told = told }
    where
      told : (ds : Several) (rest : Text) → Left s a ds rest → Stepped s a ds rest (record { item = procedure_item; at = r })
      told ds rest x =
          let y = proceeds_left s (list_number a.list) here ds rest five x in
          let z = procedure-whole y.fuel y.levels y.words y.here y.mid y.procedure in
          let tail = z.pre ++ (z.close ∷ y.mid) in
          let st : Stands s here (z.first ∷ tail) = subst (Stands s here) z.all y.stands in
          let st₁ : Stands s v tail = bv.stands tail st.1 in
          let (st₂, far) = re.told z.pre z.close y.mid st₁ z.quiet z.ends in
          let st₃ : Stands s w y.mid = bw.stands y.mid st₂.1 in
          let st₄ : Stands s u y.low = af.told y.mid st₃ y.fuel y.levels y.low y.after in
          let p : y.here.name.place ≡ z.first.place = ap (λ (m : Name). m.place) z.name in
          let m : y.here.name.bytes ≡ z.first.bytes = ap (λ (m : Name). m.bytes) z.name in
          record {
            one = a_procedure y.here;
            on = y.on;
            all = y.all;
            is = record {
              lasts = record {
                bytes = rw (p, m) (lies-bytes ready.near st.0 z.named);
                short = rw m (short ready.near st.0 z.named);
                inside = rw p (inside ready.near st.0 z.named);
                stands = (y.fuel, y.levels, y.words, y.mid, y.few, subst (λ (q : ℕ). Along s q y.words) (st.0.place ∙ sym p) y.from, y.procedure);
              };
              kind = refl;
              place = st.0.place ∙ sym p;
              next = rw (p, m) (end_is ready.near st.0 z.named);
              formals = (z.formals.0, y.levels, tail, z.formals.1, st.1, z.formals.2);
            };
            left = o.told y.low st₄ y.others.0 y.levels y.few y.on rest y.others.1;
            far = omega (arith, some_on, bv.later, far, z.long, re.near.more st₂.0.known, bw.later, af.later, o.from);
          }

-- ---- the first name of a program

module _ {s : List ℕ} {p n c v : Here} {r : At} (bp : Begins s 0 p) (bn : Begins s p.next n) (bc : Begins s n.next c) (bv : Begins s c.next v) (o : Opened s v r) where
  pub begins-program : BeginCame s r
  begins-program = record { ready = record { near = o.near; list = o.list }; told = told }
    where
      told : (ws : Text) → Along s 0 ws → (f k : ℕ) → k ≤ most_levels → (x : Unexpanded) (rest : Text) → Told f Program k ws x rest → Begun s k x rest r
      told ws a f k few x rest y =
          let (g, i, q, row) = program-told f k ws x rest y in let (w₁, w₂, w₃, e, tail, mid, ds, b, eq, z, u, all) = row in
          let t₁ : Stands s p (w₁ ∷ w₂ ∷ w₃ ∷ tail) = bp.stands (w₁ ∷ w₂ ∷ w₃ ∷ tail) (subst (Along s 0) eq a) in
          let t₂ : Stands s n (w₂ ∷ w₃ ∷ tail) = bn.stands (w₂ ∷ w₃ ∷ tail) t₁.1 in
          let t₃ : Stands s c (w₃ ∷ tail) = bc.stands (w₃ ∷ tail) t₂.1 in
          let t₄ : Stands s v tail = bv.stands tail t₃.1 in
          let l : Left s r ds mid = o.told tail t₄ g k few ds mid z in
          record { mid = mid; close = e; fuel = g; left = subst (λ (d : Several). Left s r d mid) (sym (ap (λ (x : Unexpanded). x.declared) all)) l; body = subst (λ (y : Commands). Told g Statements k mid y (e ∷ rest)) (sym (ap (λ (x : Unexpanded). x.body) all)) u; far = omega (arith, bp.near.more t₁.0.known, bn.later, bn.near.more t₂.0.known, bc.later, bc.near.on, bv.later, o.from) }

-- ---- the word in hand is a name

listed-name : (l f k : ℕ) (ws : Text) (ds : Declared) (rest : Text) → Listed l f k ws ds rest → (w : Word) × (tail : Text) × (ws ≡ w ∷ tail) × (w.kind ≡ name)
listed-name zero f k ws ds rest x = absurd x
listed-name (suc zero) f k ws ds rest x = let (g, i, p, row) = inputs-told f k ws ds rest x in let (w, tail, mid, z, es, a, q, y, u, v) = row in (w, tail, a, q)
listed-name (suc (suc zero)) f k ws ds rest (m, x, e) = let (g, i, p, row) = booleans_told f k ws m rest x in let (w, tail, mid, low, z, v, es, a, q, y, u, l, made) = row in (w, tail, a, q)
listed-name (suc (suc (suc zero))) f k ws ds rest (m, x, e) = let (g, i, p, row) = booleans_told f k ws m rest x in let (w, tail, mid, low, z, v, es, a, q, y, u, l, made) = row in (w, tail, a, q)
listed-name (suc (suc (suc (suc zero)))) f k ws ds rest x = let (g, i, p, row) = integers-told f k ws ds rest x in let (w, o, u, cl, tail, mid, v, es, a, q, nk, y, l, all) = row in (w, o ∷ u ∷ cl ∷ tail, a, q)
listed-name (suc (suc (suc (suc (suc l))))) f k ws ds rest x = absurd x

pub left-name : (s : List ℕ) (a : At) (ds : Several) (rest : Text) → 1 ≤ list_number a.list → list_number a.list ≤ 5 → Left s a ds rest → a.word.kind ≡ 0
unfolding numbered
left-name s a ds rest some most x = go (dec_lt (list_number a.list) 5)
  where
    named : (w : Word) (tail : Text) → Stands s a.word (w ∷ tail) → w.kind ≡ name → a.word.kind ≡ 0
    named w tail t q = sym (number-back a.word.kind t.0.known) ∙ ap number_of (t.0.kind ∙ q) ∙ number-back 0 (omega arith)

    go : Dec (list_number a.list < 5) → a.word.kind ≡ 0
    go (yes l) =
        let y = names-left s (list_number a.list) a.word ds rest some (omega (arith, l)) x in
        let (w, tail, e, q) = listed-name (list_number a.list) y.fuel y.levels y.words y.here (y.close ∷ y.mid) y.listed in
        named w tail (subst (Stands s a.word) e y.stands) q
    go (no l) =
        let y = proceeds_left s (list_number a.list) a.word ds rest (omega (arith, l, most)) x in
        let z = procedure-whole y.fuel y.levels y.words y.here y.mid y.procedure in
        named z.first (z.pre ++ (z.close ∷ y.mid)) (subst (Stands s a.word) z.all y.stands) z.named
