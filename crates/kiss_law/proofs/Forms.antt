-- The texts of the KISS form are the written texts, and no field's text begins another.
-- Assumes nothing.
use mathlib.Core.Path.{◌≡◌, refl, sym, ap, ap₂, ◌∙◌, subst}
use mathlib.Core.List.{List, [], ◌∷◌, ◌++◌, append_assoc}
use Prim.Native.Nat.{ℕ, zero, suc, ◌+◌, ◌-◌, ◌*◌, ◌/◌, ◌^◌, ◌≤◌, ◌<◌}
use Prim.Native.Char.{code}
use native.Mathlib.Nat.{mul-le-mul_right, mul-div_cancel}
use native.Mathlib.Omega.{arith}
use lib.ListN.{length, take}
use lib.Pow.{pow_pos}
use Rattle.file_law.specs.Table.{Row}
use Rattle.kiss_law.specs.Text.{ascii, decimal, bits, size_line, heading, row_head, row_tail, state_rows, all_rows, text_of}
use Rattle.kiss_law.specs.Kiss.{Written, Stops}
use Rattle.kiss_law.specs.Fields.{Form, Spells, Code, Apart, FormStops}
use Rattle.kiss_law.specs.Forms.{TextSizes, SizedSo, rest_form, state_form, states_form, kiss_form}
use Rattle.kiss_law.proofs.Decimal.{decimal_code}
use Rattle.kiss_law.proofs.Bits.{bits_code}
use Rattle.kiss_law.proofs.Rows.{Each, RowGood, rows-good, writable, tail_open, state_open, all_open}
use Rattle.kiss_law.proofs.Unique.{size_code, heading_open}

-- ---- no field's text begins another

pub code_fixed : (s : List ℕ) → Code 1 (λ a. s)
code_fixed s a b ha hb y z e = omega arith

-- a multiple tells of what it is one
times : (a b unit : ℕ) → 1 ≤ unit → a * unit ≡ b * unit → a ≡ b
times a b unit h e = sym (mul-div_cancel a h) ∙ ap (λ (x : ℕ). x / unit) e ∙ mul-div_cancel b h

pub code_size : (letter : ℕ) (unit m : ℕ) → 1 ≤ unit → m * unit < 100000 → Code m (λ a. size_line letter ((a + 1) * unit))
code_size letter unit m h l a b ha hb y z e =
    let p : (a + 1) * unit ≤ m * unit = mul-le-mul_right unit (omega arith) in
    let q : (b + 1) * unit ≤ m * unit = mul-le-mul_right unit (omega arith) in
    let s : a + 1 ≡ b + 1 = times (a + 1) (b + 1) unit h (size_code letter ((a + 1) * unit) ((b + 1) * unit) y z (omega arith) (omega arith) e).0 in
    omega arith

blank_open : (v : ℕ) (y : List ℕ) → (decimal v ++ (32 ∷ [])) ++ y ≡ decimal v ++ (32 ∷ y)
blank_open v y = append_assoc (decimal v) (32 ∷ []) y

pub code_next : (n : ℕ) → n ≤ 256 → Code n (λ v. decimal v ++ (32 ∷ []))
code_next n h a b ha hb y z e = decimal_code (omega arith) a b y z (omega arith) (omega arith) (sym (blank_open a y) ∙ e ∙ blank_open b z)

pub code_bits : (o : ℕ) → Code (2 ^ o) (bits o)
code_bits o a b ha hb y z e = bits_code o a b y z ha hb e

module _ (k o n : ℕ) (some : 1 ≤ n) (states : n ≤ 256) where
  pub apart-rest : (state w left input : ℕ) (f : Form) → Apart f → Apart (rest_form k o n state w left input f)
  unfolding rest_form
  apart-rest state w zero input f p = p
  apart-rest state w (suc left) input f p =
      let q = apart-rest state w left (suc input) f p in
      (omega arith, code_fixed (row_head k state input), λ a h. (some, code_next n states, λ v h. (omega arith, code_fixed (bits o w), λ b h. (omega arith, code_fixed (10 ∷ []), λ c h. q))))

  pub apart-state : (state : ℕ) (f : Form) → Apart f → Apart (state_form k o n state f)
  unfolding state_form
  apart-state state f p = (
    omega arith,
    code_fixed (row_head k state 0),
    λ a h. (
      some,
      code_next n states,
      λ v h. (
        pow_pos o,
        code_bits o,
        λ w h.
            (omega arith, code_fixed (10 ∷ []), λ c h. apart-rest state w (2 ^ k - 1) 1 f p),
      ),
    ),
  )

  pub apart-states : (left state : ℕ) → Apart (states_form k o n left state)
  unfolding states_form
  apart-states zero state = (omega arith, code_fixed (ascii ".e\n"), λ a h. tt)
  apart-states (suc left) state = apart-state state (states_form k o n left (suc state)) (apart-states left (suc state))

-- ---- the texts

pub row-close : (o w v : ℕ) (y : List ℕ) → (decimal v ++ (32 ∷ [])) ++ (bits o w ++ ((10 ∷ []) ++ y)) ≡ row_tail o w v ++ y
row-close o w v y = blank_open v (bits o w ++ (10 ∷ y)) ∙ sym (tail_open o w v y)

module _ (k o n : ℕ) where
  rest_there : (state w left input : ℕ) (f : Form) (x : List ℕ) → Spells (rest_form k o n state w left input f) x
      → (l : List ℕ) × (y : List ℕ) × (length l ≡ left) × Each (λ (v : ℕ). v < n) l × (x ≡ state_rows k o state w input l ++ y) × Spells f y
  unfolding rest_form state_rows
  rest_there state w zero input f x s = ([], x, refl, tt, refl, s)
  rest_there state w (suc left) input f x (a, ha, y₁, e₁, (v, hv, y₂, e₂, (b, hb, y₃, e₃, (c, hc, y₄, e₄, s)))) =
      let r = rest_there state w left (suc input) f y₄ s in (
        v ∷ r.0,
        r.1,
        ap suc r.2,
        (hv, r.3),
        (
            e₁ ∙ ap (λ (t : List ℕ). row_head k state input ++ t) (
            e₂ ∙ ap (λ (t : List ℕ). (decimal v ++ (32 ∷ [])) ++ t) (e₃ ∙ ap (λ (t : List ℕ). bits o w ++ t) e₄)
            ∙ row-close o w v y₄ ∙ ap (λ (t : List ℕ). row_tail o w v ++ t) r.4
            )
            ∙ sym (state_open k o state w input v r.0 r.1)
            ),
        r.5,
      )

  rest_back : (state w input : ℕ) (f : Form) (l y : List ℕ) → Each (λ (v : ℕ). v < n) l → Spells f y → Spells (rest_form k o n state w (length l) input f) (state_rows k o state w input l ++ y)
  unfolding rest_form state_rows
  rest_back state w input f [] y g s = s
  rest_back state w input f (v ∷ l) y g s =
      let q = rest_back state w (suc input) f l y g.1 s in
      let z = state_rows k o state w (suc input) l ++ y in (
        0,
        omega arith,
        row_tail o w v ++ z,
        state_open k o state w input v l y,
        (v, g.0, bits o w ++ (10 ∷ z), sym (row-close o w v z), (0, omega arith, 10 ∷ z, refl, (0, omega arith, z, refl, q))),
      )

  state_there : (state : ℕ) (f : Form) (x : List ℕ) → Spells (state_form k o n state f) x → (r : Row) × (y : List ℕ) × RowGood k o n r × (x ≡ state_rows k o state r.outputs 0 r.nexts ++ y) × Spells f y
  unfolding state_form
  state_there state f x (a, ha, y₁, e₁, (v, hv, y₂, e₂, (w, hw, y₃, e₃, (c, hc, y₄, e₄, s)))) =
      let r = rest_there state w (2 ^ k - 1) 1 f y₄ s in (
        record { outputs = w; nexts = v ∷ r.0 },
        r.1,
        record { clear = hw; wide = omega (arith, r.2, pow_pos k); inside = (hv, r.3) },
        (
            e₁ ∙ ap (λ (t : List ℕ). row_head k state 0 ++ t) (
            e₂ ∙ ap (λ (t : List ℕ). (decimal v ++ (32 ∷ [])) ++ t) (e₃ ∙ ap (λ (t : List ℕ). bits o w ++ t) e₄)
            ∙ row-close o w v y₄ ∙ ap (λ (t : List ℕ). row_tail o w v ++ t) r.4
            )
            ∙ sym (state_open k o state w 0 v r.0 r.1)
            ),
        r.5,
      )

  state-back : (state : ℕ) (f : Form) (w : ℕ) (l y : List ℕ) → w < 2 ^ o → length l ≡ 2 ^ k → Each (λ (v : ℕ). v < n) l → Spells f y → Spells (state_form k o n state f) (state_rows k o state w 0 l ++ y)
  unfolding state_form
  state-back state f w [] y h e g s = absurd (omega (arith, pow_pos k))
  state-back state f w (v ∷ l) y h e g s =
      let q = rest_back state w 1 f l y g.1 s in
      let z = state_rows k o state w 1 l ++ y in
      let c : length l ≡ 2 ^ k - 1 = omega arith in (
        0,
        omega arith,
        row_tail o w v ++ z,
        state_open k o state w 0 v l y,
        (v, g.0, bits o w ++ (10 ∷ z), sym (row-close o w v z), (w, h, 10 ∷ z, refl, (0, omega arith, z, refl, subst (λ (x : ℕ). Spells (rest_form k o n state w x 1 f) z) c q))),
      )

  pub states_there : (left state : ℕ) (x : List ℕ) → Spells (states_form k o n left state) x → (rs : List Row) × (length rs ≡ left) × Each (RowGood k o n) rs × (x ≡ all_rows k o state rs ++ ascii ".e\n")
  unfolding states_form all_rows
  states_there zero state x (a, ha, y, e, s) = ([], refl, tt, e ∙ ap (λ (t : List ℕ). ascii ".e\n" ++ t) s)
  states_there (suc left) state x s =
      let r = state_there state (states_form k o n left (suc state)) x s in
      let q = states_there left (suc state) r.1 r.4 in
      (r.0 ∷ q.0, ap suc q.1, (r.2, q.2), r.3 ∙ ap (λ (t : List ℕ). state_rows k o state r.0.outputs 0 r.0.nexts ++ t) q.3 ∙ sym (all_open k o state r.0 q.0 (ascii ".e\n")))

  pub states-back : (state : ℕ) (rs : List Row) → Each (RowGood k o n) rs → Spells (states_form k o n (length rs) state) (all_rows k o state rs ++ ascii ".e\n")
  unfolding states_form all_rows
  states-back state [] g = (0, omega arith, [], refl, refl)
  states-back state (r ∷ rs) g =
      let q = states-back (suc state) rs g.1 in
      subst (Spells (state_form k o n state (states_form k o n (length rs) (suc state)))) (sym (all_open k o state r rs (ascii ".e\n")))
      (state-back state (states_form k o n (length rs) (suc state)) r.outputs r.nexts (all_rows k o (suc state) rs ++ ascii ".e\n") g.0.clear g.0.wide g.0.inside q)

-- ---- the whole

-- behind the sizes, what the rows spell makes a written text
pub headed : (k o n : ℕ) (y : List ℕ) → TextSizes k o n → Spells (states_form k o n n 0) y → (w : Written (heading k o n ++ y)) × SizedSo w.table k o n
unfolding text_of
headed k o n y z s =
    let r = states_there k o n n 0 y s in
    let g : Each (RowGood k o (length r.0)) r.0 = subst (λ (x : ℕ). Each (RowGood k o x) r.0) (sym r.1) r.2 in (
      record {
        table = record { inputs = k; outputs = o; rows = r.0 };
        writable = writable k o r.0 z.inputs z.most_inputs z.outputs z.most_outputs (omega (arith, r.1, z.states)) (omega (arith, r.1, z.most_states)) g;
        is = ap (λ (t : List ℕ). heading k o n ++ t) r.3 ∙ ap (λ (x : ℕ). heading k o x ++ (all_rows k o 0 r.0 ++ ascii ".e\n")) (sym r.1);
      },
      record { inputs = refl; outputs = refl; states = r.1 },
    )

single : (a : ℕ) → (a + 1) * 1 ≡ a + 1
single a = omega arith

unit : (d c : ℕ) → d < 1 → (d + 1) * (c + 1) ≡ c + 1
unit d c h = let z : d ≡ 0 = omega arith in ap (λ (x : ℕ). (x + 1) * (c + 1)) z ∙ omega arith

pub spelled-written : (x : List ℕ) → Spells kiss_form x → Written x
unfolding kiss_form
spelled-written x (a, ha, y₁, e₁, (b, hb, y₂, e₂, (c, hc, y₃, e₃, (d, hd, y₄, e₄, (f, hf, y₅, e₅, s))))) =
    let w = headed (a + 1) (b + 1) (c + 1) y₅ (record { inputs = omega arith; most_inputs = omega arith; outputs = omega arith; most_outputs = omega arith; states = omega arith; most_states = omega arith }) s in
    subst Written (sym (
    e₁ ∙ ap₂ (λ (m : ℕ) (t : List ℕ). size_line (code "i") m ++ t) (single a) (e₂ ∙ ap₂ (λ (m : ℕ) (t : List ℕ). size_line (code "o") m ++ t) (single b) (
    e₃ ∙ ap (λ (t : List ℕ). size_line (code "p") ((c + 1) * 2 ^ (a + 1)) ++ t) (e₄ ∙ ap₂ (λ (m : ℕ) (t : List ℕ). size_line (code "s") m ++ t) (unit d c hd) e₅)))
    ∙ sym (heading_open (a + 1) (b + 1) (c + 1) y₅)
    )) w.0

below : (a : ℕ) → 1 ≤ a → a - 1 + 1 ≡ a
below a h = omega arith

pub written-spelled : (x : List ℕ) → Written x → Spells kiss_form x
unfolding kiss_form text_of
written-spelled x w =
    let t = w.table in
    let f = w.writable.fits in
    let k : t.inputs - 1 + 1 ≡ t.inputs = below t.inputs w.writable.inputs in
    let o : t.outputs - 1 + 1 ≡ t.outputs = below t.outputs w.writable.outputs in
    let n : length t.rows - 1 + 1 ≡ length t.rows = below (length t.rows) f.some in
    let y₅ = all_rows t.inputs t.outputs 0 t.rows ++ ascii ".e\n" in
    let y₄ = ascii ".r s0\n" ++ y₅ in
    let y₃ = size_line (code "s") (length t.rows) ++ y₄ in
    let y₂ = size_line (code "p") (length t.rows * 2 ^ t.inputs) ++ y₃ in
    let y₁ = size_line (code "o") t.outputs ++ y₂ in
    let s = states-back t.inputs t.outputs (length t.rows) 0 t.rows (rows-good t f) in (
      t.inputs - 1,
      omega (arith, f.inputs, w.writable.inputs),
      y₁,
      w.is ∙ heading_open t.inputs t.outputs (length t.rows) y₅ ∙ ap (λ (m : ℕ). size_line (code "i") m ++ y₁) (sym (single (t.inputs - 1) ∙ k)),
      (
        t.outputs - 1,
        omega (arith, f.outputs, w.writable.outputs),
        y₂,
        ap (λ (m : ℕ). size_line (code "o") m ++ y₂) (sym (single (t.outputs - 1) ∙ o)),
        (
          length t.rows - 1,
          omega (arith, f.states, f.some),
          y₃,
          ap₂ (λ (m i : ℕ). size_line (code "p") (m * 2 ^ i) ++ y₃) (sym n) (sym k),
          (
            0,
            omega arith,
            y₄,
            ap (λ (m : ℕ). size_line (code "s") m ++ y₄) (sym (unit 0 (length t.rows - 1) (omega arith) ∙ n)),
            (0, omega arith, y₅, refl, rw (k, o, n) s),
          ),
        ),
      ),
    )

-- where a text leaves the form is where it leaves the written texts
pub form-stops : (x : List ℕ) (e : ℕ) → FormStops kiss_form x e → Stops x e
form-stops x e p = record {
  other = λ w. p.other (written-spelled x w);
  inside = p.inside;
  before = record { rest = p.before.0; text = spelled-written (take e x ++ p.before.0) p.before.1 };
  first = λ h c. p.first h (c.rest, written-spelled (take (suc e) x ++ c.rest) c.text);
}
