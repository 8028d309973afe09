-- From word to word of the stream, through the text's rows.
-- Assumes nothing.
use mathlib.Core.Path.{◌≡◌, sym, ap, ap₂, ◌∙◌}
use mathlib.Core.List.{List, [], ◌++◌, append_cancel_left}
use Prim.Native.Nat.{ℕ, suc, ◌+◌, ◌-◌, ◌*◌, ◌/◌, ◌%◌, ◌^◌, ◌≤◌, ◌<◌}
use native.Mathlib.Nat.{mul-le-mul_right, suc-mul, div-add-mod', add-mul-div_right, div-eq_of_lt, mod-lt}
use native.Mathlib.Omega.{arith}
use native.Mathlib.Decide.{dec_lt}
use lib.ListN.{length, take, drop, take-append-drop}
use lib.Seq.{drop-cons, drop-length}
use lib.Pow.{pow_pos}
use Rattle.file_law.specs.Table.{Row, Table, no_row, row_of, outputs_of, next_of, Fits}
use Rattle.kiss_law.specs.Text.{ascii, heading, row_head, row_tail, state_rows, all_rows, text_of}
use Rattle.kiss_law.proofs.Rows.{state_open, all_open}
use Rattle.kiss_read.specs.Cursor.{row_words, from_state, from_input, ahead, Ahead}

-- ---- state and column of a word are one

same_row_lem : (width s c q d : ℕ) → c < width → d < width → s * width + c ≡ q * width + d → s ≡ q
same_row_lem width s c q d hc hd e =
    let p : 0 < width = omega arith in
    let a : (c + s * width) / width ≡ s = add-mul-div_right c s p ∙ omega (arith, div-eq_of_lt hc) in
    let b : (d + q * width) / width ≡ q = add-mul-div_right d q p ∙ omega (arith, div-eq_of_lt hd) in
    let z : c + s * width ≡ d + q * width = omega arith in
    sym a ∙ ap (λ (x : ℕ). x / width) z ∙ b

same_column : (width s c q d : ℕ) → c < width → d < width → s * width + c ≡ q * width + d → c ≡ d
same_column width s c q d hc hd e =
    let r = same_row_lem width s c q d hc hd e in
    let z : s * width ≡ q * width = ap (λ (x : ℕ). x * width) r in
    omega arith

pub where_in : (w width : ℕ) → 2 ≤ w → 0 < width → (w ≡ 2 + ((w - 2) / width * width + (w - 2) % width)) × ((w - 2) % width < width)
where_in w width h p = (omega (arith, div-add-mod' (w - 2) width), mod-lt (w - 2) p)

-- ---- rows, opened

module _ (t : Table) (fits : Fits t) where
  abbrev k : ℕ
  k = t.inputs

  abbrev o : ℕ
  o = t.outputs

  abbrev n : ℕ
  n = length t.rows

  -- a state's rows, from its first on
  state-first : (state : ℕ) → state < n → from_state t k o state ≡ from_input t k o state 0
  unfolding from_state from_input
  state-first state h =
      ap (λ (l : List Row). all_rows k o state l ++ ascii ".e\n") (drop-cons t.rows state no_row h)
      ∙ all_open k o state (row_of t state) (drop (suc state) t.rows) (ascii ".e\n")

  -- the row for an input, and what follows
  input_open : (state input : ℕ) → state < n → input < 2 ^ k → from_input t k o state input ≡ row_head k state input ++ (row_tail o (outputs_of t state) (next_of t state input) ++ from_input t k o state (suc input))
  unfolding from_input
  input_open state input h i =
      let l : input < length (row_of t state).nexts = omega (arith, (fits.each state h).wide) in
      ap (λ (s : List ℕ). state_rows k o state (outputs_of t state) input s ++ from_state t k o (suc state)) (drop-cons (row_of t state).nexts input 0 l)
      ∙ state_open k o state (outputs_of t state) input (next_of t state input) (drop (suc input) (row_of t state).nexts) (from_state t k o (suc state))

  input_over : (state : ℕ) → state < n → from_input t k o state (2 ^ k) ≡ from_state t k o (suc state)
  unfolding from_input state_rows
  input_over state h =
      let e : drop (2 ^ k) (row_of t state).nexts ≡ [] = ap (λ (i : ℕ). drop i (row_of t state).nexts) (sym (fits.each state h).wide) ∙ drop-length (row_of t state).nexts in
      ap (λ (s : List ℕ). state_rows k o state (outputs_of t state) (2 ^ k) s ++ from_state t k o (suc state)) e

  -- ---- the words in turn

  module _ (x : List ℕ) where
    pub ahead-one : (at : ℕ) → Ahead t x k o n 0 at → Ahead t x k o n 1 at
    ahead-one at a = record { start = λ h. a.start (omega arith); row = λ s c e. absurd (omega arith) }

    pub ahead-two : (at : ℕ) → Ahead t x k o n 1 at → Ahead t x k o n 2 at
    unfolding ahead
    ahead-two at a = record {
      start = λ h. absurd (omega arith);
      row = λ s c e h l.
          let z : s * row_words k + c ≡ 0 * row_words k + 0 = omega arith in
          let q : s ≡ 0 = same_row_lem (row_words k) s c 0 0 h (omega arith) z in
          let d : c ≡ 0 = same_column (row_words k) s c 0 0 h (omega arith) z in
          a.start (omega arith) ∙ ap₂ (λ (i j : ℕ). ahead t k o i j) (sym q) (sym d);
    }

    -- what stands ahead at the next word, if it is known for one state and column
    ahead_by : (w at q d : ℕ) → 2 ≤ w → w ≡ 2 + (q * row_words k + d) → d < row_words k → (q < n → drop at x ≡ ahead t k o q d) → Ahead t x k o n w at
    ahead_by w at q d h e l g = record {
      start = λ b. absurd (omega arith);
      row = λ s c f b i.
          let z : s * row_words k + c ≡ q * row_words k + d = omega arith in
          let r : s ≡ q = same_row_lem (row_words k) s c q d b l z in
          let m : c ≡ d = same_column (row_words k) s c q d b l z in
          g (omega arith) ∙ ap₂ (λ (i j : ℕ). ahead t k o i j) (sym r) (sym m);
    }

    -- behind a state's outputs
    pub ahead-outs : (w at q : ℕ) → w ≡ 2 + (q * row_words k + 0) → q < n → Ahead t x k o n w at
        → (drop at x ≡ row_head k q 0 ++ (row_tail o (outputs_of t q) (next_of t q 0) ++ from_input t k o q 1)) × Ahead t x k o n (w + 1) at
    unfolding ahead
    ahead-outs w at q e h a =
        let s : drop at x ≡ from_state t k o q = a.row q 0 e (omega arith) h in (
          s ∙ state-first q h ∙ input_open q 0 h (pow_pos k),
          ahead_by (w + 1) at q 1 (omega arith) (omega arith) (omega (arith, pow_pos k)) (λ i. s ∙ state-first q h),
        )

    -- behind a next state
    pub ahead-next : (w at q c : ℕ) → w ≡ 2 + (q * row_words k + suc c) → suc c < row_words k → q < n → Ahead t x k o n w at
        → (drop at x ≡ row_head k q c ++ (row_tail o (outputs_of t q) (next_of t q c) ++ from_input t k o q (suc c))) × ((end : ℕ) → drop end x ≡ from_input t k o q (suc c) → Ahead t x k o n (w + 1) end)
    unfolding ahead
    ahead-next w at q c e l h a = (a.row q (suc c) e l h ∙ input_open q c h (omega arith), on (dec_lt (suc (suc c)) (row_words k)))
      where
        on : Dec (suc (suc c) < row_words k) → (end : ℕ) → drop end x ≡ from_input t k o q (suc c) → Ahead t x k o n (w + 1) end
        on (yes b) end s = ahead_by (w + 1) end q (suc (suc c)) (omega arith) (omega arith) b (λ i. s)
        on (no b) end s =
            let z : suc c ≡ 2 ^ k = omega arith in
            ahead_by (w + 1) end (suc q) 0 (omega arith) (omega (arith, suc-mul q (row_words k))) (omega arith)
            (λ i. s ∙ ap (from_input t k o q) z ∙ input_over q h)

    -- behind the last state
    pub ahead_over : (w at q c : ℕ) → w ≡ 2 + (q * row_words k + c) → n ≤ q → Ahead t x k o n (w + 1) at
    ahead_over w at q c e h = record {
      start = λ b. absurd (omega arith);
      row = λ s d f b i.
          let p : suc s * row_words k ≤ q * row_words k = mul-le-mul_right (row_words k) (omega arith) in
          absurd (omega (arith, suc-mul s (row_words k)));
    }

    -- before the first word
    pub ahead-start : (at : ℕ) → x ≡ text_of t → take at x ≡ heading k o n → at ≤ length x → Ahead t x k o n 0 at
    unfolding text_of from_state
    ahead-start at e s h = record {
      start = λ b. append_cancel_left (heading k o n) (drop at x) (all_rows k o 0 t.rows ++ ascii ".e\n") (ap (λ (y : List ℕ). y ++ drop at x) (sym s) ∙ take-append-drop at x ∙ e);
      row = λ s c f. absurd (omega arith);
    }
