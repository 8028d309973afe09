-- What reading a row and a word of a good text comes to.
-- Assumes nothing.
use mathlib.Core.Path.{◌≡◌, refl, sym, ap, ◌∙◌, subst}
use mathlib.Core.List.{List, [], ◌∷◌, ◌++◌, append-nil, append_cancel_left}
use Prim.Native.Nat.{ℕ, suc, ◌+◌, ◌-◌, ◌*◌, ◌/◌, ◌%◌, ◌^◌, ◌≤◌, ◌<◌}
use native.Mathlib.Nat.{mul-le-mul_right}
use native.Mathlib.Omega.{arith}
use native.Mathlib.Decide.{ℕ_discrete}
use Rattle.std.proofs.Common.{Err}
use lib.ListN.{length, get_or, drop, length-drop}
use lib.Seq.{drop-drop}
use lib.Pow.{pow_pos}
use Rattle.file_law.specs.Table.{Table, Fits, outputs_of, next_of}
use Rattle.kiss_law.specs.Text.{decimal, bits, row_head, row_tail}
use Rattle.kiss_law.specs.Fields.{Form, over, field, fixed, Code, FieldStops}
use Rattle.kiss_law.proofs.Fields.{leads-start, stops-field}
use Rattle.kiss_law.specs.Forms.{TextSizes, SizedSo}
use Rattle.kiss_law.proofs.Forms.{code_fixed, code_next, code_bits, row-close}
use Rattle.kiss_fields.specs.Took.{Stood, Left}
use Rattle.kiss_read.specs.declared.Line.{Line}
use Rattle.kiss_read.specs.Cursor.{words_of, row_words, from_input, Ahead, Rowed, RowIs, WordIs}
use Rattle.kiss_read.proofs.Words.{first_word, second_word, outs-word, next_word_lem, no_word}
use Rattle.kiss_read.proofs.Aheads.{where_in, ahead-one, ahead-two, ahead-outs, ahead-next, ahead_over}

-- ---- a field that is known to stand here

-- .. is not left
never_left : (m : ℕ) (enc : ℕ → List ℕ) → Code m enc → (a : ℕ) → a < m → (y z : List ℕ) → y ≡ enc a ++ z → (e : ℕ) → FieldStops m enc y e → ⊥
never_left m enc code a h y z q e p =
    let f : Form = field m enc (λ b. fixed z over) in
    (stops-field m enc code y e p f [] (λ b. fixed z over) (omega arith, code, λ b i. (omega arith, code_fixed z, λ c j. tt)) (leads-start f)).other
    (a, h, z, q, (0, omega arith, [], sym (append-nil z), refl))

module _ (m : ℕ) (enc : ℕ → List ℕ) (code : Code m enc) (x : List ℕ) (at a : ℕ) (h : a < m) (z : List ℕ) (q : drop at x ≡ enc a ++ z) where
  pub not_lost : {e : ℕ} → Left m enc x at e → ⊥
  not_lost {e} l = never_left m enc code a h (drop at x) z q (e - at) l.stops

  -- .. and is the one that is found
  pub is_found : {v end : ℕ} → Stood m enc x at v end → (v ≡ a) × (drop end x ≡ z)
  is_found {v} {end} s =
      let e = code v a s.one h (drop end x) z (sym s.is ∙ q) in
      (e, append_cancel_left (enc a) (drop end x) z (ap (λ (b : ℕ). enc b ++ drop end x) (sym e) ∙ sym s.is ∙ q))

-- ---- a row

module _ (x : List ℕ) (k o n state input at : ℕ) (z : TextSizes k o n) (w v : ℕ) (rest : List ℕ) (hw : w < 2 ^ o) (hv : v < n) (q : drop at x ≡ row_head k state input ++ (row_tail o w v ++ rest)) where
  pub head_lost : {e : ℕ} → Left 1 (λ (a : ℕ). row_head k state input) x at e → ⊥
  head_lost l = not_lost 1 (λ (a : ℕ). row_head k state input) (code_fixed (row_head k state input)) x at 0 (omega arith) (row_tail o w v ++ rest) q l

  module _ {v₁ e₁ : ℕ} (t : Stood 1 (λ (a : ℕ). row_head k state input) x at v₁ e₁) where
    tail_at : drop e₁ x ≡ (decimal v ++ (32 ∷ [])) ++ (bits o w ++ (10 ∷ rest))
    tail_at = (is_found 1 (λ (a : ℕ). row_head k state input) (code_fixed (row_head k state input)) x at 0 (omega arith) (row_tail o w v ++ rest) q t).1 ∙ sym (row-close o w v rest)

    pub next_lost : {e : ℕ} → Left n (λ (a : ℕ). decimal a ++ (32 ∷ [])) x e₁ e → ⊥
    next_lost l = not_lost n (λ (a : ℕ). decimal a ++ (32 ∷ [])) (code_next n z.most_states) x e₁ v hv (bits o w ++ (10 ∷ rest)) tail_at l

    module _ {v₂ e₂ : ℕ} (u : Stood n (λ (a : ℕ). decimal a ++ (32 ∷ [])) x e₁ v₂ e₂) where
      next_is : (v₂ ≡ v) × (drop e₂ x ≡ bits o w ++ (10 ∷ rest))
      next_is = is_found n (λ (a : ℕ). decimal a ++ (32 ∷ [])) (code_next n z.most_states) x e₁ v hv (bits o w ++ (10 ∷ rest)) tail_at u

      pub outs_lost : {e : ℕ} → Left (2 ^ o) (bits o) x e₂ e → ⊥
      outs_lost l = not_lost (2 ^ o) (bits o) (code_bits o) x e₂ w hw (10 ∷ rest) next_is.1 l

      pub row_ends : {v₃ e₃ : ℕ} → Stood (2 ^ o) (bits o) x e₂ v₃ e₃ → (v₂ ≡ v) × (v₃ ≡ w) × (drop (e₃ + 1) x ≡ rest) × (e₃ < length x)
      row_ends {v₃} {e₃} y =
          let i = is_found (2 ^ o) (bits o) (code_bits o) x e₂ w hw (10 ∷ rest) next_is.1 y in
          let l = ap length i.1 in
          (next_is.0, i.0, sym (drop-drop 1 e₃ x) ∙ ap (drop 1) i.1, omega (arith, length-drop e₃ x))

-- ---- a word

sized_by : (t : Table) (P : ℕ → ℕ → ℕ → Type 0) (k o n : ℕ) → SizedSo t k o n → P t.inputs t.outputs (length t.rows) → P k o n
sized_by t P k o n s p =
    subst (λ (i : ℕ). P i o n) s.inputs (subst (λ (i : ℕ). P t.inputs i n) s.outputs (subst (λ (i : ℕ). P t.inputs t.outputs i) s.states p))

module _ (x : List ℕ) (k o n w at : ℕ) (hx : at ≤ length x) where
  pub word-zero : w ≡ 0 → WordIs x k o n w at (record { value = k + 256 * o; at = at })
  word-zero e = record {
    inside = hx;
    is = λ t T. sized_by t (λ k o n. Ahead t x k o n w at → (k + 256 * o ≡ get_or (words_of t) w 0) × Ahead t x k o n (w + 1) at) k o n T.sized
        (subst (λ (i : ℕ). Ahead t x t.inputs t.outputs (length t.rows) i at → (t.inputs + 256 * t.outputs ≡ get_or (words_of t) i 0) × Ahead t x t.inputs t.outputs (length t.rows) (i + 1) at) (sym e)
        (λ a. (sym (first_word t T.writable.fits), ahead-one t T.writable.fits x at a)));
  }

  pub word-one : w ≡ 1 → WordIs x k o n w at (record { value = n; at = at })
  word-one e = record {
    inside = hx;
    is = λ t T. sized_by t (λ k o n. Ahead t x k o n w at → (n ≡ get_or (words_of t) w 0) × Ahead t x k o n (w + 1) at) k o n T.sized
        (subst (λ (i : ℕ). Ahead t x t.inputs t.outputs (length t.rows) i at → (length t.rows ≡ get_or (words_of t) i 0) × Ahead t x t.inputs t.outputs (length t.rows) (i + 1) at) (sym e)
        (λ a. (sym (second_word t T.writable.fits), ahead-two t T.writable.fits x at a)));
  }

  module _ (width : ℕ) (hw : width ≡ 2 ^ k + 1) (two : 2 ≤ w) where
    abbrev q : ℕ
    q = (w - 2) / width

    abbrev c : ℕ
    c = (w - 2) % width

    placed : (w ≡ 2 + (q * width + c)) × (c < width)
    placed = where_in w width two (omega arith)

    pub word-past : n ≤ q → WordIs x k o n w at (record { value = 0; at = at })
    word-past h = record {
      inside = hx;
      is = λ t T. sized_by t (λ k o n. n ≤ q → width ≡ 2 ^ k + 1 → Ahead t x k o n w at → (0 ≡ get_or (words_of t) w 0) × Ahead t x k o n (w + 1) at) k o n T.sized
          (λ l s a.
          let e : w ≡ 2 + (q * row_words t.inputs + c) = subst (λ (i : ℕ). w ≡ 2 + (q * i + c)) s placed.0 in
          let m : length t.rows * row_words t.inputs ≤ q * row_words t.inputs = mul-le-mul_right (row_words t.inputs) l in
          (sym (no_word t T.writable.fits w (omega arith)), ahead_over t T.writable.fits x w at q c e l)) h hw;
    }

    pub word-outs : q < n → c ≡ 0 → (r : Line) → Rowed x k o n q 0 at r → WordIs x k o n w at (record { value = r.outs; at = at })
    word-outs h z r s = record {
      inside = hx;
      is = λ t T. sized_by t (λ k o n. q < n → width ≡ 2 ^ k + 1 → Rowed x k o n q 0 at r → Ahead t x k o n w at → (r.outs ≡ get_or (words_of t) w 0) × Ahead t x k o n (w + 1) at) k o n T.sized
          (λ l s y a.
          let f = T.writable.fits in
          let e : w ≡ 2 + (q * row_words t.inputs + 0) = subst (λ (i : ℕ). w ≡ 2 + (q * i + 0)) s (placed.0 ∙ ap (λ (j : ℕ). 2 + (q * width + j)) z) in
          let b = ahead-outs t f x w at q e l a in
          let v = y.is (outputs_of t q) (next_of t q 0) (from_input t t.inputs t.outputs q 1) (f.each q l).clear ((f.each q l).inside 0 (pow_pos t.inputs)) b.0 in
          (v.1 ∙ sym (outs-word t f q l) ∙ ap (λ (i : ℕ). get_or (words_of t) i 0) (sym e), b.1)) h hw s;
    }

    pub word_next : q < n → ¬ (c ≡ 0) → (r : Line) → Rowed x k o n q (c - 1) at r → WordIs x k o n w at (record { value = r.next; at = r.end })
    word_next h z r s = record {
      inside = s.inside;
      is = λ t T. sized_by t (λ k o n. q < n → width ≡ 2 ^ k + 1 → Rowed x k o n q (c - 1) at r → Ahead t x k o n w at → (r.next ≡ get_or (words_of t) w 0) × Ahead t x k o n (w + 1) r.end) k o n T.sized
          (λ l s y a.
          let f = T.writable.fits in
          let j : c ≡ suc (c - 1) = omega arith in
          let e : w ≡ 2 + (q * row_words t.inputs + suc (c - 1)) = subst (λ (i : ℕ). w ≡ 2 + (q * i + suc (c - 1))) s (placed.0 ∙ ap (λ (j : ℕ). 2 + (q * width + j)) j) in
          let u : suc (c - 1) < row_words t.inputs = omega (arith, placed.1) in
          let b = ahead-next t f x w at q (c - 1) e u l a in
          let v = y.is (outputs_of t q) (next_of t q (c - 1)) (from_input t t.inputs t.outputs q (suc (c - 1))) (f.each q l).clear ((f.each q l).inside (c - 1) (omega arith)) b.0 in
          (v.0 ∙ sym (next_word_lem t f q (c - 1) l u) ∙ ap (λ (i : ℕ). get_or (words_of t) i 0) (sym e), b.1 r.end v.2)) h hw s;
    }

    -- a good text has the row
    pub word-lost : q < n → (p : ℕ) → RowIs x k o n q (c - 1) at (Err p) → WordIs x k o n w at (record { value = 0; at = at })
    word-lost h p s = record {
      inside = hx;
      is = λ t T. sized_by t (λ k o n. q < n → width ≡ 2 ^ k + 1 → RowIs x k o n q (c - 1) at (Err p) → Ahead t x k o n w at → (0 ≡ get_or (words_of t) w 0) × Ahead t x k o n (w + 1) at) k o n T.sized
          (λ l s y a. absurd (lost t T.writable.fits l s y a (ℕ_discrete c 0))) h hw s;
    }
      where
        lost : (t : Table) → Fits t → q < length t.rows → width ≡ 2 ^ t.inputs + 1 → RowIs x t.inputs t.outputs (length t.rows) q (c - 1) at (Err p) → Ahead t x t.inputs t.outputs (length t.rows) w at → Dec (c ≡ 0) → ⊥
        lost t f l s y a (yes z) =
            let e : w ≡ 2 + (q * row_words t.inputs + 0) = subst (λ (i : ℕ). w ≡ 2 + (q * i + 0)) s (placed.0 ∙ ap (λ (j : ℕ). 2 + (q * width + j)) z) in
            let b = ahead-outs t f x w at q e l a in
            let j : 0 ≡ c - 1 = omega arith in
            let rest = row_tail t.outputs (outputs_of t q) (next_of t q 0) ++ from_input t t.inputs t.outputs q 1 in
            y (outputs_of t q) (next_of t q 0) (from_input t t.inputs t.outputs q 1) (f.each q l).clear ((f.each q l).inside 0 (pow_pos t.inputs)) (b.0 ∙ ap (λ (i : ℕ). row_head t.inputs q i ++ rest) j)
        lost t f l s y a (no z) =
            let j : c ≡ suc (c - 1) = omega arith in
            let e : w ≡ 2 + (q * row_words t.inputs + suc (c - 1)) = subst (λ (i : ℕ). w ≡ 2 + (q * i + suc (c - 1))) s (placed.0 ∙ ap (λ (j : ℕ). 2 + (q * width + j)) j) in
            let u : suc (c - 1) < row_words t.inputs = omega (arith, placed.1) in
            let b = ahead-next t f x w at q (c - 1) e u l a in
            y (outputs_of t q) (next_of t q (c - 1)) (from_input t t.inputs t.outputs q (suc (c - 1))) (f.each q l).clear ((f.each q l).inside (c - 1) (omega arith)) b.0
