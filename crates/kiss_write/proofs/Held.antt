-- The text of a sound file, row by row, and its lengths.
-- Assumes nothing.
use mathlib.Core.Path.{◌≡◌, sym, ap, ap₂, ◌∙◌, subst}
use mathlib.Core.List.{List, [], ◌∷◌, ◌++◌}
use Prim.Native.Nat.{ℕ, zero, suc, ◌+◌, ◌-◌, ◌*◌, ◌^◌, ◌≤◌, ◌<◌}
use native.Mathlib.Nat.{mul-le-mul_left, mul-le-mul_right, sub-zero, suc-mul}
use native.Mathlib.Numerals.{add-one}
use native.Mathlib.Omega.{arith}
use lib.ListN.{length, length-append}
use lib.Pow.{pow_mono}
use Rattle.file_law.specs.Answer.{gives, listed}
use Rattle.file_law.specs.Table.{most_inputs, most_states}
use Rattle.file_law.specs.Reading.{stream_in, inputs_in, outputs_in, states_in, Within, Sizes, place, row_at, outputs_at, next_at, open_answer, row_in, table_in}
use Rattle.file_law.proofs.Every.{length-listed}
use Rattle.file_law.proofs.Held.{rows_in}
use Rattle.file_law.proofs.Tests.{next-inside, outputs-inside}
use Rattle.file_law.proofs.Sound.{sound}
use Rattle.kiss_law.specs.Text.{ascii, decimal, heading, row_head, row_tail, state_rows, all_rows, text_of}
use Rattle.kiss_law.specs.Kiss.{text_in}
use Rattle.kiss_put.proofs.Puts.{rows-most, length-head, length-tail, length-line}
use Rattle.kiss_write.specs.Held.{held_state, held_rows, held_text, Holds}

-- one more, from i on
listed_more : {A : Type 0} (g : ℕ → A) (end i : ℕ) → i < end → listed g (end - i) i ≡ g i ∷ listed g (end - (i + 1)) (i + 1)
unfolding listed
listed_more g end i h =
    let e : end - i ≡ suc (end - (i + 1)) = omega arith in
    ap (λ (m : ℕ). listed g m i) e ∙ ap (λ (j : ℕ). g i ∷ listed g (end - (i + 1)) j) (sym (add-one i))

listed_over : {A : Type 0} (g : ℕ → A) (end i : ℕ) → end ≤ i → listed g (end - i) i ≡ []
unfolding listed
listed_over g end i h = let e : end - i ≡ 0 = omega arith in ap (λ (m : ℕ). listed g m i) e

-- ---- rows of a state

module _ (b : ℕ → ℕ) (k o : ℕ) where
  pub state-more : (state input : ℕ) → input < 2 ^ k
      → held_state b k o state input ≡ row_head k state input ++ (row_tail o (outputs_at b k state) (next_at b k state input) ++ held_state b k o state (input + 1))
  unfolding held_state state_rows
  state-more state input h =
      ap (state_rows k o state (outputs_at b k state) input) (listed_more (next_at b k state) (2 ^ k) input h)
      ∙ ap (λ (j : ℕ). row_head k state input ++ (row_tail o (outputs_at b k state) (next_at b k state input) ++ state_rows k o state (outputs_at b k state) j (listed (next_at b k state) (2 ^ k - (input + 1)) (input + 1)))) (sym (add-one input))

  pub state_over : (state input : ℕ) → 2 ^ k ≤ input → held_state b k o state input ≡ []
  unfolding held_state state_rows
  state_over state input h = ap (state_rows k o state (outputs_at b k state) input) (listed_over (next_at b k state) (2 ^ k) input h)

  pub rows_more : (n state : ℕ) → state < n → held_rows b k o n state ≡ held_state b k o state 0 ++ held_rows b k o n (state + 1)
  unfolding held_rows held_state all_rows
  rows_more n state h =
      ap (all_rows k o state) (listed_more (row_in b k) n state h)
      ∙ ap₂ (λ (m j : ℕ). state_rows k o state (outputs_at b k state) 0 (listed (next_at b k state) m 0) ++ all_rows k o j (listed (row_in b k) (n - (state + 1)) (state + 1))) (sym (sub-zero (2 ^ k))) (sym (add-one state))

  pub rows_over : (n state : ℕ) → n ≤ state → held_rows b k o n state ≡ []
  unfolding held_rows all_rows
  rows_over n state h = ap (all_rows k o state) (listed_over (row_in b k) n state h)

-- ---- lengths

pub state-short : (b : ℕ → ℕ) (k o state : ℕ) → k ≤ 6 → o ≤ 16 → length (held_state b k o state 0) ≤ 2432
unfolding held_state
state-short b k o state hk ho =
    let p : 2 ^ k ≤ 64 = pow_mono {j = 6} hk in
    omega (arith, rows-most k o state (outputs_at b k state) hk ho 0 (listed (next_at b k state) (2 ^ k - 0) 0), length-listed (next_at b k state) (2 ^ k - 0) 0)

short-rows : (b : ℕ → ℕ) (k o n : ℕ) → k ≤ 6 → o ≤ 16 → (left state : ℕ) → left + state ≡ n → length (held_rows b k o n state) ≤ left * 2432
short-rows b k o n hk ho zero state e = let r = ap length (rows_over b k o n state (omega arith)) in omega arith
short-rows b k o n hk ho (suc left) state e =
    let r = ap length (rows_more b k o n state (omega arith)) in
    omega (arith, suc-mul left 2432, short-rows b k o n hk ho left (state + 1) (omega arith), state-short b k o state hk ho, length-append (held_state b k o state 0) (held_rows b k o n (state + 1)))

pub rows_short : (b : ℕ → ℕ) (k o n : ℕ) → Within k o n → length (held_rows b k o n 0) ≤ 700000
rows_short b k o n w =
    let p : n * 2432 ≤ 256 * 2432 = mul-le-mul_right 2432 w.states in
    omega (arith, short-rows b k o n w.inputs w.outputs n 0 (omega arith))

pub length-heading : (k o n : ℕ) → length (heading k o n) ≡ 22 + length (decimal k) + length (decimal o) + length (decimal (n * 2 ^ k)) + length (decimal n)
unfolding heading
length-heading k o n = simp length-append (omega (arith, length-line 105 k, length-line 111 o, length-line 112 (n * 2 ^ k), length-line 115 n))

-- ---- what opening tells

pub few-rows : (k n : ℕ) → k ≤ 6 → n ≤ 256 → n * 2 ^ k ≤ 16384
few-rows k n hk hn =
    let p : 2 ^ k ≤ 64 = pow_mono {j = 6} hk in
    let q : n * 2 ^ k ≤ n * 64 = mul-le-mul_left n p in
    omega arith

module _ (f : List ℕ) (k o n : ℕ) (e : open_answer f ≡ gives (record { inputs = k; outputs = o; states = n })) where
  abbrev b : ℕ → ℕ
  b = stream_in f

  abbrev z : Sizes
  z = record { inputs = k; outputs = o; states = n }

  pub holds : Holds f k o n
  holds = let s = sound f z e in rw (ap (λ (x : Sizes). x.inputs) s.sizes, ap (λ (x : Sizes). x.outputs) s.sizes, ap (λ (x : Sizes). x.states) s.sizes)
      (record { size = s.shape.size; exact = s.shape.exact; clear = s.rows.clear; inside = s.rows.inside })

  pub text-held : text_in f ≡ held_text b k o n
  unfolding text_of table_in held_text held_rows
  text-held =
      let s = sound f z e in
      rw (ap (λ (x : Sizes). x.inputs) s.sizes, ap (λ (x : Sizes). x.outputs) s.sizes, ap (λ (x : Sizes). x.states) s.sizes)
      (ap₂ (λ (x y : ℕ). heading (inputs_in b) (outputs_in b) x ++ (all_rows (inputs_in b) (outputs_in b) 0 (listed (row_in b (inputs_in b)) y 0) ++ ascii ".e\n")) (rows_in b) (sym (sub-zero (states_in b))))

-- ---- a turn of each loop

pub row-length : (b : ℕ → ℕ) (k o state input : ℕ) → input < 2 ^ k
    → length (held_state b k o state input) ≡ k + o + 6 + length (decimal state) + length (decimal (next_at b k state input)) + length (held_state b k o state (input + 1))
row-length b k o state input h =
    let t = row_tail o (outputs_at b k state) (next_at b k state input) in
    let e = ap length (state-more b k o state input h) in
    omega (arith, length-append (row_head k state input) (t ++ held_state b k o state (input + 1)), length-append t (held_state b k o state (input + 1)), length-head k state input, length-tail o (outputs_at b k state) (next_at b k state input))

pub state-length : (b : ℕ → ℕ) (k o n state : ℕ) → state < n → length (held_rows b k o n state) ≡ length (held_state b k o state 0) + length (held_rows b k o n (state + 1))
state-length b k o n state h = ap length (rows_more b k o n state h) ∙ length-append (held_state b k o state 0) (held_rows b k o n (state + 1))

pub text-length : (b : ℕ → ℕ) (k o n : ℕ) → length (held_text b k o n) ≡ length (heading k o n) + length (held_rows b k o n 0) + 3
unfolding held_text
text-length b k o n = omega (arith, length-append (heading k o n) (held_rows b k o n 0 ++ ascii ".e\n"), length-append (held_rows b k o n 0) (ascii ".e\n"))

-- ---- what reading a row of the file asks

pub next-room : {f : List ℕ} {k o n : ℕ} (state input : ℕ) → Holds f k o n → state < n → input < 2 ^ k
    → (k ≤ most_inputs) × (state < most_states) × (input < 2 ^ k) × (place (row_at k state + 2 + 2 * input) + 2 ≤ length f)
next-room {f} {k} {o} {n} state input h s i =
    (h.size.inputs, omega (arith, h.size.states), i, subst (λ (x : ℕ). place (row_at k state + 2 + 2 * input) + 2 ≤ x) (sym h.exact) (next-inside k state n input s i))

pub outputs-room : {f : List ℕ} {k o n : ℕ} (state : ℕ) → Holds f k o n → state < n → (k ≤ most_inputs) × (state < most_states) × (place (row_at k state) + 2 ≤ length f)
outputs-room {f} {k} {o} {n} state h s =
    (h.size.inputs, omega (arith, h.size.states), subst (λ (x : ℕ). place (row_at k state) + 2 ≤ x) (sym h.exact) (outputs-inside k state n s))

-- the next row, by what was read of it
pub state-next : (b : ℕ → ℕ) (k o state input outs next : ℕ) → outs ≡ outputs_at b k state → next ≡ next_at b k state input → input < 2 ^ k
    → held_state b k o state input ≡ row_head k state input ++ (row_tail o outs next ++ held_state b k o state (input + 1))
state-next b k o state input outs next e f h =
    state-more b k o state input h ∙ ap₂ (λ (x y : ℕ). row_head k state input ++ (row_tail o x y ++ held_state b k o state (input + 1))) (sym e) (sym f)
