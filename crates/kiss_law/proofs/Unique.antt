-- One text, one table.
-- Assumes nothing.
use mathlib.Core.Path.{◌≡◌, refl, sym, ap, ap₂, ◌∙◌}
use mathlib.Core.List.{List, [], ◌∷◌, ◌++◌, append_assoc, append_cancel_left, tail-eq_of_cons-eq}
use Prim.Native.Nat.{ℕ, suc, ◌*◌, ◌^◌, ◌≤◌, ◌<◌}
use Prim.Native.Char.{code}
use native.Mathlib.Omega.{arith}
use lib.ListN.{length}
use native.Mathlib.Nat.{mul-le-mul_left}
use lib.Pow.{pow_pos, pow_mono}
use Rattle.file_law.specs.Table.{Row, Table, Fits}
use Rattle.kiss_law.specs.Text.{ascii, decimal, bits, size_line, heading, row_head, row_tail, state_rows, all_rows, text_of}
use Rattle.kiss_law.specs.Kiss.{Writable}
use Rattle.kiss_law.proofs.Decimal.{decimal_code}
use Rattle.kiss_law.proofs.Bits.{bits_code}
use Rattle.kiss_law.proofs.Rows.{Each, RowGood, rows-good, tail_open, size_open, state_open, all_open}

-- a line of a size tells the size
pub size_code : (letter : ℕ) (v w : ℕ) (y z : List ℕ) → v < 100000 → w < 100000 → size_line letter v ++ y ≡ size_line letter w ++ z → (v ≡ w) × (y ≡ z)
size_code letter v w y z hv hw e =
    let s : decimal v ++ (10 ∷ y) ≡ decimal w ++ (10 ∷ z) = append_cancel_left (46 ∷ letter ∷ 32 ∷ []) _ _ (sym (size_open letter v y) ∙ e ∙ size_open letter w z) in
    let n = decimal_code (omega arith) v w y z hv hw s in
    (n, append_cancel_left (size_line letter v) y z (e ∙ ap (λ (x : ℕ). size_line letter x ++ z) (sym n)))

-- a row tells its next state and its outputs
pub tail_code : (o v w a b : ℕ) (y z : List ℕ) → v < 2 ^ o → w < 2 ^ o → a < 100000 → b < 100000 → row_tail o v a ++ y ≡ row_tail o w b ++ z → (a ≡ b) × (v ≡ w) × (y ≡ z)
tail_code o v w a b y z hv hw ha hb e =
    let s = sym (tail_open o v a y) ∙ e ∙ tail_open o w b z in
    let n : a ≡ b = decimal_code (omega arith) a b (bits o v ++ (10 ∷ y)) (bits o w ++ (10 ∷ z)) ha hb s in
    let q : bits o v ++ (10 ∷ y) ≡ bits o w ++ (10 ∷ z) =
    tail-eq_of_cons-eq (append_cancel_left (decimal a) (32 ∷ (bits o v ++ (10 ∷ y))) (32 ∷ (bits o w ++ (10 ∷ z))) (s ∙ ap (λ (x : ℕ). decimal x ++ (32 ∷ (bits o w ++ (10 ∷ z)))) (sym n))) in
    let u : v ≡ w = bits_code o v w (10 ∷ y) (10 ∷ z) hv hw q in
    (n, u, append_cancel_left (row_tail o v a) y z (e ∙ ap₂ (λ (x c : ℕ). row_tail o x c ++ z) (sym u) (sym n)))

module _ (k o : ℕ) where
  -- the rows of a state tell its next states and, where there are any, its outputs
  state_code : (state v w i : ℕ) (l m y z : List ℕ) → v < 2 ^ o → w < 2 ^ o → length l ≡ length m → Each (λ (a : ℕ). a < 100000) l → Each (λ (a : ℕ). a < 100000) m
      → state_rows k o state v i l ++ y ≡ state_rows k o state w i m ++ z → (l ≡ m) × (y ≡ z) × (1 ≤ length l → v ≡ w)
  unfolding state_rows
  state_code state v w i [] [] y z hv hw h p q e = (refl, e, λ c. absurd (omega arith))
  state_code state v w i [] (b ∷ m) y z hv hw h p q e = absurd (omega arith)
  state_code state v w i (a ∷ l) [] y z hv hw h p q e = absurd (omega arith)
  state_code state v w i (a ∷ l) (b ∷ m) y z hv hw h p q e =
      let s = append_cancel_left (row_head k state i) _ _ (sym (state_open k o state v i a l y) ∙ e ∙ state_open k o state w i b m z) in
      let r = tail_code o v w a b _ _ hv hw p.0 q.0 s in
      let u = state_code state v w (suc i) l m y z hv hw (omega arith) p.1 q.1 r.2 in
      (ap₂ (λ (x : ℕ) (c : List ℕ). x ∷ c) r.0 u.0, u.1, λ c. r.1)

  all_code : (n state : ℕ) (rs qs : List Row) (y z : List ℕ) → n < 100000 → length rs ≡ length qs → Each (RowGood k o n) rs → Each (RowGood k o n) qs
      → all_rows k o state rs ++ y ≡ all_rows k o state qs ++ z → rs ≡ qs
  all_code n state [] [] y z hn h p q e = refl
  all_code n state [] (b ∷ m) y z hn h p q e = absurd (omega arith)
  all_code n state (a ∷ l) [] y z hn h p q e = absurd (omega arith)
  all_code n state (a ∷ l) (b ∷ m) y z hn h p q e =
      let s = sym (all_open k o state a l y) ∙ e ∙ all_open k o state b m z in
      let c = state_code state a.outputs b.outputs 0 a.nexts b.nexts _ _ p.0.clear q.0.clear (p.0.wide ∙ sym q.0.wide) (small a.nexts p.0.inside) (small b.nexts q.0.inside) s in
      let u = all_code n (suc state) l m y z hn (omega arith) p.1 q.1 c.1 in
      let v = c.2 (omega (arith, p.0.wide, pow_pos k)) in
      λ i. record { outputs = v i; nexts = c.0 i } ∷ u i
    where
      small : (s : List ℕ) → Each (λ (x : ℕ). x < n) s → Each (λ (x : ℕ). x < 100000) s
      small [] g = tt
      small (x ∷ s) g = (omega (arith, g.0), small s g.1)

pub heading_open : (k o n : ℕ) (y : List ℕ) → heading k o n ++ y ≡ size_line (code "i") k ++ (size_line (code "o") o ++ (size_line (code "p") (n * 2 ^ k) ++ (size_line (code "s") n ++ (ascii ".r s0\n" ++ y))))
unfolding heading
heading_open k o n y = simp append_assoc

-- a table's rows are few
pub rows_few : (t : Table) → Fits t → length t.rows * 2 ^ t.inputs < 100000
rows_few t f =
    let p : 2 ^ t.inputs ≤ 64 = pow_mono {j = 6} f.inputs in
    let q : length t.rows * 2 ^ t.inputs ≤ length t.rows * 64 = mul-le-mul_left (length t.rows) p in
    omega (arith, f.states)

-- one text, one table
pub one_table : (t u : Table) → Writable t → Writable u → text_of t ≡ text_of u → t ≡ u
unfolding text_of
one_table t u wt wu e =
    let f = wt.fits in
    let g = wu.fits in
    let s = sym (heading_open t.inputs t.outputs (length t.rows) _) ∙ e ∙ heading_open u.inputs u.outputs (length u.rows) _ in
    let k = size_code (code "i") t.inputs u.inputs _ _ (omega (arith, f.inputs)) (omega (arith, g.inputs)) s in
    let o = size_code (code "o") t.outputs u.outputs _ _ (omega (arith, f.outputs)) (omega (arith, g.outputs)) k.1 in
    let p = size_code (code "p") _ _ _ _ (rows_few t f) (rows_few u g) o.1 in
    let n = size_code (code "s") (length t.rows) (length u.rows) _ _ (omega (arith, f.states)) (omega (arith, g.states)) p.1 in
    let r = same k.0 o.0 n.0 (append_cancel_left (ascii ".r s0\n") _ _ n.1) in
    λ i. record { inputs = k.0 i; outputs = o.0 i; rows = r i }
  where
    same : t.inputs ≡ u.inputs → t.outputs ≡ u.outputs → length t.rows ≡ length u.rows
        → all_rows t.inputs t.outputs 0 t.rows ++ ascii ".e\n" ≡ all_rows u.inputs u.outputs 0 u.rows ++ ascii ".e\n" → t.rows ≡ u.rows
    same k o n q =
        let b : Each (RowGood t.inputs t.outputs (length t.rows)) u.rows = rw (k, o, n) (rows-good u wu.fits) in
        let x : all_rows t.inputs t.outputs 0 u.rows ++ ascii ".e\n" ≡ all_rows u.inputs u.outputs 0 u.rows ++ ascii ".e\n" = ap₂ (λ (a c : ℕ). all_rows a c 0 u.rows ++ ascii ".e\n") k o in
        all_code t.inputs t.outputs (length t.rows) 0 t.rows u.rows (ascii ".e\n") (ascii ".e\n") (omega (arith, wt.fits.states)) n (rows-good t wt.fits) b (q ∙ sym x)
