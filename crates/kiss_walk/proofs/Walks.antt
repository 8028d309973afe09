-- From field to field of a text.
-- Assumes nothing.
use mathlib.Core.Path.{◌≡◌, refl, sym, ap, ap₂, ◌∙◌, subst, fun_ext}
use mathlib.Core.List.{List, [], ◌∷◌, ◌++◌, append_assoc, append-nil}
use Prim.Native.Nat.{ℕ, suc, ◌+◌, ◌-◌, ◌*◌, ◌^◌, ◌≤◌, ◌<◌}
use native.Mathlib.Nat.{sub-zero}
use native.Mathlib.Numerals.{add-one}
use native.Mathlib.Omega.{arith}
use lib.ListN.{length, take, drop, length-drop, take-append-drop}
use lib.Seq.{take_at, take-add, take_all, length-take-le}
use lib.Pow.{pow_pos, pow_mono}
use Rattle.kiss_law.specs.Text.{ascii, bits, size_line, heading, row_head}
use Rattle.kiss_law.specs.Fields.{Form, over, field, fixed, Spells, Code, Apart, Leads, FormStops}
use Rattle.kiss_law.specs.Forms.{size_field, next_field, rest_form, state_form, states_form, kiss_form, TextSizes}
use Rattle.kiss_law.proofs.Fields.{leads-start, leads_on, stops-field, stops_over}
use Rattle.kiss_law.proofs.Forms.{code_fixed, code_size, apart-rest, apart-states, headed}
use Rattle.kiss_fields.specs.Took.{Stood, Left}
use Rattle.kiss_walk.specs.Walk.{Stands, rows_form, in_form, Headed, GoodText}
use Rattle.kiss_walk.specs.declared.Walked.{Walked}

-- up to where a field ends
reached : (m : ℕ) (enc : ℕ → List ℕ) (x : List ℕ) (at v end : ℕ) → Stood m enc x at v end → take end x ≡ take at x ++ enc v
reached m enc x at v end s =
    ap (λ (i : ℕ). take i x) s.behind ∙ take-add at (length (enc v)) x
    ∙ ap (λ (t : List ℕ). take at x ++ t) (ap (take (length (enc v))) s.is ∙ take_at (enc v) (drop end x) (length (enc v)) refl)

module _ (x : List ℕ) (m : ℕ) (enc : ℕ → List ℕ) (rest : ℕ → Form) (at : ℕ) (code : Code m enc) (st : Stands x (field m enc rest) at) where
  pub goes_on : (v end : ℕ) → Stood m enc x at v end → Stands x (rest v) end
  goes_on v end s = record {
    inside = s.inside;
    leads = subst (λ (t : List ℕ). Leads kiss_form t (rest v)) (sym (reached m enc x at v end s)) (leads_on kiss_form (take at x) m enc rest code st.leads v s.one);
  }

  pub gets_off : Apart (field m enc rest) → (e : ℕ) → Left m enc x at e → FormStops kiss_form x e
  gets_off apart e l =
      let y : take at x ++ drop at x ≡ x = take-append-drop at x in
      let z : length (take at x) + (e - at) ≡ e = omega (arith, length-take-le at x st.inside, l.from) in
      subst (FormStops kiss_form x) z
      (subst (λ (t : List ℕ). FormStops kiss_form t (length (take at x) + (e - at))) y
      (stops-field m enc code (drop at x) (e - at) l.stops kiss_form (take at x) rest apart st.leads))

-- nothing behind the end
pub past_end : (x : List ℕ) (at : ℕ) → Stands x over at → at < length x → FormStops kiss_form x at
past_end x at st h =
    let y : take at x ++ drop at x ≡ x = take-append-drop at x in
    subst (FormStops kiss_form x) (length-take-le at x st.inside)
    (subst (λ (t : List ℕ). FormStops kiss_form t (length (take at x))) y
    (stops_over kiss_form (take at x) (drop at x) st.leads (omega (arith, length-drop at x))))

pub starts : (x : List ℕ) → Stands x kiss_form 0
starts x = record { inside = omega arith; leads = leads-start kiss_form }

-- the walk stands before a form whose fields are told apart
pub record At (x : List ℕ) (f : Form) (at : ℕ) : Type 0 where
  pub stands : Stands x f at
  pub apart : Apart f

-- behind a field that stands here
pub moves : {x : List ℕ} {m : ℕ} {enc : ℕ → List ℕ} {rest : ℕ → Form} {at v end : ℕ} → At x (field m enc rest) at → Stood m enc x at v end → At x (rest v) end
moves {x} {m} {enc} {rest} {at} {v} {end} a s = record { stands = goes_on x m enc rest at a.apart.1 a.stands v end s; apart = a.apart.2 v s.one }

-- .. or where the text leaves it
pub stops : {x : List ℕ} {m : ℕ} {enc : ℕ → List ℕ} {rest : ℕ → Form} {at e : ℕ} → At x (field m enc rest) at → Left m enc x at e → FormStops kiss_form x e
stops {x} {m} {enc} {rest} {at} {e} a l = gets_off x m enc rest at a.apart.1 a.stands a.apart e l

-- ---- the lines before the rows

abbrev pub start_form : ℕ → ℕ → ℕ → Form
start_form k o n = fixed (ascii ".r s0\n") (rows_form k o n 0)

abbrev pub states_line : ℕ → ℕ → ℕ → Form
states_line a b c = size_field 115 (c + 1) 1 (λ d. start_form (a + 1) (b + 1) (c + 1))

abbrev pub rows_line : ℕ → ℕ → Form
rows_line a b = size_field 112 (2 ^ (a + 1)) 256 (λ c. states_line a b c)

abbrev pub outputs_line : ℕ → Form
outputs_line a = size_field 111 1 16 (λ b. rows_line a b)

kiss_open : kiss_form ≡ size_field 105 1 6 outputs_line
unfolding kiss_form
kiss_open = fun (λ a b c. ap (λ (l : ℕ). states_form (a + 1) (b + 1) (c + 1) l 0) (sym (sub-zero (c + 1))))
  where
    fun : ((a b c : ℕ) → states_form (a + 1) (b + 1) (c + 1) (c + 1) 0 ≡ states_form (a + 1) (b + 1) (c + 1) (c + 1 - 0) 0) → kiss_form ≡ size_field 105 1 6 outputs_line
    fun h = ap (λ (g : ℕ → ℕ → ℕ → Form). size_field 105 1 6 (λ a. size_field 111 1 16 (λ b. size_field 112 (2 ^ (a + 1)) 256 (λ c. size_field 115 (c + 1) 1 (λ d. fixed (ascii ".r s0\n") (g a b c))))))
        (fun_ext (λ a. fun_ext (λ b. fun_ext (λ c. h a b c))))

power_few : (a : ℕ) → a < 6 → 256 * 2 ^ (a + 1) < 100000
power_few a h = let p : 2 ^ (a + 1) ≤ 64 = pow_mono {j = 6} (omega arith) in omega arith

pub code_inputs : Code 6 (λ a. size_line 105 ((a + 1) * 1))
code_inputs = code_size 105 1 6 (omega arith) (omega arith)

pub code_outputs : Code 16 (λ a. size_line 111 ((a + 1) * 1))
code_outputs = code_size 111 1 16 (omega arith) (omega arith)

pub code_rows : (a : ℕ) → a < 6 → Code 256 (λ c. size_line 112 ((c + 1) * 2 ^ (a + 1)))
code_rows a h = code_size 112 (2 ^ (a + 1)) 256 (pow_pos (a + 1)) (power_few a h)

pub code_states : (c : ℕ) → c < 256 → Code 1 (λ d. size_line 115 ((d + 1) * (c + 1)))
code_states c h = code_size 115 (c + 1) 1 (omega arith) (omega arith)

pub sizes_of_lem : (a b c : ℕ) → a < 6 → b < 16 → c < 256 → TextSizes (a + 1) (b + 1) (c + 1)
sizes_of_lem a b c ha hb hc = record { inputs = omega arith; most_inputs = omega arith; outputs = omega arith; most_outputs = omega arith; states = omega arith; most_states = omega arith }

pub apart-start : (k o n : ℕ) → TextSizes k o n → Apart (start_form k o n)
apart-start k o n z = (omega arith, code_fixed (ascii ".r s0\n"), λ a h. apart-states k o n z.states z.most_states (n - 0) 0)

pub apart_lines : (a b c : ℕ) → a < 6 → b < 16 → c < 256 → Apart (states_line a b c)
apart_lines a b c ha hb hc = (omega arith, code_states c hc, λ d h. apart-start (a + 1) (b + 1) (c + 1) (sizes_of_lem a b c ha hb hc))

pub apart-rows : (a b : ℕ) → a < 6 → b < 16 → Apart (rows_line a b)
apart-rows a b ha hb = (omega arith, code_rows a ha, λ c hc. apart_lines a b c ha hb hc)

pub apart-outputs : (a : ℕ) → a < 6 → Apart (outputs_line a)
apart-outputs a ha = (omega arith, code_outputs, λ b hb. apart-rows a b ha hb)

pub apart-inputs : Apart (size_field 105 1 6 outputs_line)
apart-inputs = (omega arith, code_inputs, λ a ha. apart-outputs a ha)

pub at-first : (x : List ℕ) → At x (size_field 105 1 6 outputs_line) 0
at-first x = record { stands = subst (λ (f : Form). Stands x f 0) kiss_open (starts x); apart = apart-inputs }

-- the number of rows by a unit that is the power
pub at-rows : (x : List ℕ) (a b u at : ℕ) → u ≡ 2 ^ (a + 1) → At x (rows_line a b) at → At x (size_field 112 u 256 (λ c. states_line a b c)) at
at-rows x a b u at e r = subst (λ (w : ℕ). At x (size_field 112 w 256 (λ c. states_line a b c)) at) (sym e) r

-- ---- rows

module _ (k o n : ℕ) (z : TextSizes k o n) where
  pub rows_open : (state : ℕ) → state < n → rows_form k o n state ≡ state_form k o n state (rows_form k o n (state + 1))
  unfolding states_form
  rows_open state h =
      let e : n - state ≡ suc (n - (state + 1)) = omega arith in
      ap (λ (l : ℕ). states_form k o n l state) e ∙ ap (λ (s : ℕ). state_form k o n state (states_form k o n (n - (state + 1)) s)) (sym (add-one state))

  abbrev pub line_end : ℕ → ℕ → ℕ → Form
  line_end state input w = fixed (10 ∷ []) (in_form k o n state w input)

  abbrev pub first_outs : ℕ → Form
  first_outs state = field (2 ^ o) (bits o) (λ w. line_end state 1 w)

  abbrev pub first_next : ℕ → Form
  first_next state = next_field n (λ v. first_outs state)

  abbrev pub first_head : ℕ → Form
  first_head state = fixed (row_head k state 0) (first_next state)

  first_open : (state : ℕ) → state < n → rows_form k o n state ≡ first_head state
  unfolding state_form
  first_open state h = rows_open state h

  pub at-row : (x : List ℕ) (state at : ℕ) → state < n → Stands x (rows_form k o n state) at → At x (first_head state) at
  at-row x state at h s = record {
    stands = subst (λ (f : Form). Stands x f at) (first_open state h) s;
    apart = subst Apart (first_open state h) (apart-states k o n z.states z.most_states (n - state) state);
  }

  abbrev pub other_shown : ℕ → ℕ → ℕ → Form
  other_shown state input w = fixed (bits o w) (line_end state (input + 1) w)

  abbrev pub other_next : ℕ → ℕ → ℕ → Form
  other_next state input w = next_field n (λ v. other_shown state input w)

  abbrev pub other_head : ℕ → ℕ → ℕ → Form
  other_head state input w = fixed (row_head k state input) (other_next state input w)

  in_open : (state input w : ℕ) → input < 2 ^ k → in_form k o n state w input ≡ other_head state input w
  unfolding rest_form
  in_open state input w h =
      let e : 2 ^ k - input ≡ suc (2 ^ k - (input + 1)) = omega arith in
      ap (λ (l : ℕ). rest_form k o n state w l input (rows_form k o n (state + 1))) e
      ∙ ap (λ (j : ℕ). fixed (row_head k state input) (next_field n (λ v. fixed (bits o w) (fixed (10 ∷ []) (rest_form k o n state w (2 ^ k - (input + 1)) j (rows_form k o n (state + 1))))))) (sym (add-one input))

  pub at-other : (x : List ℕ) (state input w at : ℕ) → input < 2 ^ k → Stands x (in_form k o n state w input) at → At x (other_head state input w) at
  at-other x state input w at h s = record {
    stands = subst (λ (f : Form). Stands x f at) (in_open state input w h) s;
    apart = subst Apart (in_open state input w h) (apart-rest k o n z.states z.most_states state w (2 ^ k - input) input (rows_form k o n (state + 1)) (apart-states k o n z.states z.most_states (n - (state + 1)) (state + 1)));
  }

  -- a state's rows are over
  pub rows-done : (x : List ℕ) (state input w at : ℕ) → 2 ^ k ≤ input → Stands x (in_form k o n state w input) at → Stands x (rows_form k o n (state + 1)) at
  unfolding rest_form
  rows-done x state input w at h s = let e : 2 ^ k - input ≡ 0 = omega arith in subst (λ (l : ℕ). Stands x (rest_form k o n state w l input (rows_form k o n (state + 1))) at) e s

  -- all rows are over
  pub all_done : (x : List ℕ) (state at : ℕ) → n ≤ state → Stands x (rows_form k o n state) at → Stands x (fixed (ascii ".e\n") over) at
  unfolding states_form
  all_done x state at h s = let e : n - state ≡ 0 = omega arith in subst (λ (l : ℕ). Stands x (states_form k o n l state) at) e s

pub at-last : (x : List ℕ) (at : ℕ) → Stands x (fixed (ascii ".e\n") over) at → At x (fixed (ascii ".e\n") over) at
at-last x at s = record { stands = s; apart = (omega arith, code_fixed (ascii ".e\n"), λ a h. tt) }

-- ---- what was walked

-- the lines before the rows, one behind the other
pub headed_is : (x : List ℕ) (a b c d f p₁ p₂ p₃ p₄ p₅ : ℕ) → Stood 6 (λ a. size_line 105 ((a + 1) * 1)) x 0 a p₁ → Stood 16 (λ b. size_line 111 ((b + 1) * 1)) x p₁ b p₂
    → Stood 256 (λ c. size_line 112 ((c + 1) * 2 ^ (a + 1))) x p₂ c p₃ → Stood 1 (λ d. size_line 115 ((d + 1) * (c + 1))) x p₃ d p₄ → Stood 1 (λ f. ascii ".r s0\n") x p₄ f p₅
    → take p₅ x ≡ heading (a + 1) (b + 1) (c + 1)
unfolding heading
headed_is x a b c d f p₁ p₂ p₃ p₄ p₅ s₁ s₂ s₃ s₄ s₅ =
    let i : (a + 1) * 1 ≡ a + 1 = omega arith in
    let o : (b + 1) * 1 ≡ b + 1 = omega arith in
    let z : d ≡ 0 = omega (arith, s₄.one) in
    let n : (d + 1) * (c + 1) ≡ c + 1 = ap (λ (e : ℕ). (e + 1) * (c + 1)) z ∙ omega arith in
    let r₁ : take p₁ x ≡ size_line 105 (a + 1) = reached 6 (λ a. size_line 105 ((a + 1) * 1)) x 0 a p₁ s₁ ∙ ap (size_line 105) i in
    let r₂ : take p₂ x ≡ size_line 105 (a + 1) ++ size_line 111 (b + 1) = reached 16 (λ b. size_line 111 ((b + 1) * 1)) x p₁ b p₂ s₂ ∙ ap₂ (λ (t : List ℕ) (e : ℕ). t ++ size_line 111 e) r₁ o in
    let r₃ = reached 256 (λ c. size_line 112 ((c + 1) * 2 ^ (a + 1))) x p₂ c p₃ s₃ ∙ ap (λ (t : List ℕ). t ++ size_line 112 ((c + 1) * 2 ^ (a + 1))) r₂ in
    let r₄ = reached 1 (λ d. size_line 115 ((d + 1) * (c + 1))) x p₃ d p₄ s₄ ∙ ap₂ (λ (t : List ℕ) (e : ℕ). t ++ size_line 115 e) r₃ n in
    reached 1 (λ f. ascii ".r s0\n") x p₄ f p₅ s₅ ∙ ap (λ (t : List ℕ). t ++ ascii ".r s0\n") r₄ ∙ simp append_assoc

-- the whole text is a written one
pub good-text : (x : List ℕ) (w : Walked) (end : ℕ) → Headed x w → Stands x over end → length x ≤ end → GoodText x w
good-text x w end h s l =
    let k = w.sizes.inputs in
    let o = w.sizes.outputs in
    let n = w.sizes.states in
    let at = w.at in
    let t : Spells kiss_form (take end x ++ []) = (s.leads []).1 refl in
    let u : Spells kiss_form x = subst (Spells kiss_form) (append-nil (take end x) ∙ take_all end x l) t in
    let v : Spells (rows_form k o n 0) (drop at x) = (h.stands.leads (drop at x)).0 (subst (Spells kiss_form) (sym (take-append-drop at x)) u) in
    let d = headed k o n (drop at x) h.sizes (subst (λ (m : ℕ). Spells (states_form k o n m 0) (drop at x)) (sub-zero n) v) in
    let e : heading k o n ++ drop at x ≡ x = ap (λ (y : List ℕ). y ++ drop at x) (sym h.is) ∙ take-append-drop at x in
    record {
      sizes = h.sizes;
      text = record { table = d.0.table; writable = d.0.writable; is = sym e ∙ d.0.is };
      sized = d.1;
      is = h.is;
      inside = h.stands.inside;
    }
