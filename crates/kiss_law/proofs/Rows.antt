-- The rows of a table that fits, one by one, and how the text of rows opens.
-- Assumes nothing.
use mathlib.Core.Path.{◌≡◌, sym, ap, ◌∙◌, subst}
use mathlib.Core.List.{List, [], ◌∷◌, ◌++◌, append_assoc}
use Prim.Native.Nat.{ℕ, zero, suc, ◌^◌, ◌≤◌, ◌<◌}
use native.Mathlib.Omega.{arith}
use lib.ListN.{length, get_or}
use Rattle.file_law.specs.Table.{Row, Table, no_row, row_of, RowFits, Fits}
use Rattle.kiss_law.specs.Text.{decimal, bits, size_line, row_head, row_tail, state_rows, all_rows}
use Rattle.kiss_law.specs.Kiss.{Writable}

-- each element is so
abbrev pub Each : {A : Type 0} → (A → Type 0) → List A → Type 0
Each P [] = Unit {0}
Each P (a ∷ l) = P a × Each P l

pub each_of_lem : {A : Type 0} (P : A → Type 0) (d : A) (l : List A) → ((i : ℕ) → i < length l → P (get_or l i d)) → Each P l
each_of_lem P d [] h = tt
each_of_lem P d (a ∷ l) h = (h 0 (omega arith), each_of_lem P d l (λ i b. h (suc i) (omega arith)))

pub each_at : {A : Type 0} (P : A → Type 0) (d : A) (l : List A) → Each P l → (i : ℕ) → i < length l → P (get_or l i d)
each_at P d [] h i b = absurd (omega arith)
each_at P d (a ∷ l) h zero b = h.0
each_at P d (a ∷ l) h (suc i) b = each_at P d l h.1 i (omega arith)

-- a row within the sizes k, o and n
pub record RowGood (k o n : ℕ) (r : Row) : Type 0 where
  pub clear : r.outputs < 2 ^ o
  pub wide : length r.nexts ≡ 2 ^ k
  pub inside : Each (λ (v : ℕ). v < n) r.nexts

row-good : (t : Table) (r : Row) → RowFits t r → RowGood t.inputs t.outputs (length t.rows) r
row-good t r f = record {
  clear = f.clear;
  wide = f.wide;
  inside = each_of_lem (λ (v : ℕ). v < length t.rows) 0 r.nexts (λ i b. f.inside i (subst (λ (x : ℕ). i < x) f.wide b));
}

row_fits : (t : Table) (r : Row) → RowGood t.inputs t.outputs (length t.rows) r → RowFits t r
row_fits t r g = record {
  clear = g.clear;
  wide = g.wide;
  inside = λ i b. each_at (λ (v : ℕ). v < length t.rows) 0 r.nexts g.inside i (subst (λ (x : ℕ). i < x) (sym g.wide) b);
}

pub rows-good : (t : Table) → Fits t → Each (RowGood t.inputs t.outputs (length t.rows)) t.rows
rows-good t f = each_of_lem (RowGood t.inputs t.outputs (length t.rows)) no_row t.rows (λ i b. row-good t (row_of t i) (f.each i b))

-- a table of good rows can be written
pub writable : (k o : ℕ) (rows : List Row) → 1 ≤ k → k ≤ 6 → 1 ≤ o → o ≤ 16 → 1 ≤ length rows → length rows ≤ 256 → Each (RowGood k o (length rows)) rows
    → Writable (record { inputs = k; outputs = o; rows = rows })
writable k o rows hk lk ho lo hn ln g =
    let t : Table = record { inputs = k; outputs = o; rows = rows } in
    record {
      fits = record { inputs = lk; outputs = lo; some = hn; states = ln; each = λ i b. row_fits t (row_of t i) (each_at (RowGood k o (length rows)) no_row rows g i b) };
      inputs = hk;
      outputs = ho;
    }

-- ---- texts, opened

pub tail_open : (o v a : ℕ) (y : List ℕ) → row_tail o v a ++ y ≡ decimal a ++ (32 ∷ (bits o v ++ (10 ∷ y)))
unfolding row_tail
tail_open o v a y = append_assoc (decimal a) (32 ∷ (bits o v ++ (10 ∷ []))) y ∙ ap (λ (s : List ℕ). decimal a ++ (32 ∷ s)) (append_assoc (bits o v) (10 ∷ []) y)

pub size_open : (letter n : ℕ) (y : List ℕ) → size_line letter n ++ y ≡ 46 ∷ letter ∷ 32 ∷ (decimal n ++ (10 ∷ y))
unfolding size_line
size_open letter n y = ap (λ (s : List ℕ). 46 ∷ letter ∷ 32 ∷ s) (append_assoc (decimal n) (10 ∷ []) y)

pub state_open : (k o state v i a : ℕ) (l y : List ℕ) → state_rows k o state v i (a ∷ l) ++ y ≡ row_head k state i ++ (row_tail o v a ++ (state_rows k o state v (suc i) l ++ y))
unfolding state_rows
state_open k o state v i a l y =
    append_assoc (row_head k state i) (row_tail o v a ++ state_rows k o state v (suc i) l) y
    ∙ ap (λ (s : List ℕ). row_head k state i ++ s) (append_assoc (row_tail o v a) (state_rows k o state v (suc i) l) y)

pub all_open : (k o state : ℕ) (r : Row) (rs : List Row) (y : List ℕ) → all_rows k o state (r ∷ rs) ++ y ≡ state_rows k o state r.outputs 0 r.nexts ++ (all_rows k o (suc state) rs ++ y)
unfolding all_rows
all_open k o state r rs y = append_assoc (state_rows k o state r.outputs 0 r.nexts) (all_rows k o (suc state) rs) y
