-- The table of a numbered program, computed; it is the one table of it.
-- Assumes nothing.
use mathlib.Core.Path.{◌≡◌, refl, sym, ◌∙◌, ap, ap₂, subst}
use mathlib.Core.List.{List}
use Prim.Native.Nat.{ℕ, ◌+◌, ◌^◌, ◌<◌}
use native.Mathlib.Omega.{arith}
use lib.ListN.{length, get_or}
use lib.Seq.{ext_get_or}
use Rattle.reach_law.specs.Numbering.{Numbering, Next}
use Rattle.reach_law.specs.Search.{next_number}
use Rattle.reach_law.proofs.Next.{next-number, one-next}
use Rattle.file_law.specs.Answer.{listed}
use Rattle.file_law.specs.Table.{Table, Row, no_row, row_of, next_of}
use Rattle.file_law.proofs.Every.{length-listed, get_or-listed}
use Rattle.meaning.specs.States.{Program, State, start_state, outputs_of}
use Rattle.meaning.proofs.Equal.{same_state}
use Rattle.language.specs.Tables.{machine_of, Tabled}

abbrev pub row_for : Program → List State → ℕ → Row
row_for p L i = record { outputs = outputs_of p (get_or L i (start_state p)); nexts = listed (next_number same_state (machine_of p) L i) (2 ^ p.inputs) 0 }

unfoldable pub table_of : Program → List State → Table
table_of p L = record { inputs = p.inputs; outputs = p.outputs; rows = listed (row_for p L) (length L) 0 }

module _ (p : Program) (L : List State) (u : Numbering (machine_of p) L) where
  -- ---- it is one

  row_is : (i : ℕ) → i < length L → row_of (table_of p L) i ≡ row_for p L i
  unfolding table_of
  row_is i h = get_or-listed (row_for p L) (length L) 0 no_row i h ∙ ap (row_for p L) (let e : 0 + i ≡ i = omega arith in e)

  next_is : (i x : ℕ) → i < length L → x < 2 ^ p.inputs → next_of (table_of p L) i x ≡ next_number same_state (machine_of p) L i x
  next_is i x h k =
      ap (λ (r : Row). get_or r.nexts x 0) (row_is i h)
      ∙ get_or-listed (next_number same_state (machine_of p) L i) (2 ^ p.inputs) 0 0 x k
      ∙ ap (next_number same_state (machine_of p) L i) (let e : 0 + x ≡ x = omega arith in e)

  pub table-right : Tabled p L (table_of p L)
  unfolding table_of machine_of
  table-right =
      record {
        inputs = refl;
        outputs = refl;
        size = length-listed (row_for p L) (length L) 0;
        wide = λ i h. ap (λ (r : Row). length r.nexts) (row_is i h) ∙ length-listed (next_number same_state (machine_of p) L i) (2 ^ p.inputs) 0;
        shows = λ i h. ap (λ (r : Row). r.outputs) (row_is i h);
        leads = λ i x h k. subst (Next (machine_of p) L i x) (sym (next_is i x h k)) (next-number u same_state i x h k);
      }

  -- ---- there is no other

  module _ (t v : Table) (a : Tabled p L t) (b : Tabled p L v) where
    same_row_lem : (i : ℕ) → i < length L → row_of t i ≡ row_of v i
    same_row_lem i h = ap₂ (λ (o : ℕ) (l : List ℕ). let r : Row = record { outputs = o; nexts = l } in r) (a.shows i h ∙ sym (b.shows i h)) nexts
      where
        nexts : (row_of t i).nexts ≡ (row_of v i).nexts
        nexts =
            ext_get_or 0 (row_of t i).nexts (row_of v i).nexts (a.wide i h ∙ sym (b.wide i h))
            (λ x k. let g : x < 2 ^ p.inputs = omega (arith, a.wide i h) in one-next u (a.leads i x h g) (b.leads i x h g))

    same_rows : t.rows ≡ v.rows
    same_rows = ext_get_or no_row t.rows v.rows (a.size ∙ sym b.size) (λ i h. same_row_lem i (omega (arith, a.size)))

    pub one_table : t ≡ v
    one_table =
        ap (λ (i : ℕ). let r : Table = record { inputs = i; outputs = t.outputs; rows = t.rows } in r) (a.inputs ∙ sym b.inputs)
        ∙ ap₂ (λ (o : ℕ) (l : List Row). let r : Table = record { inputs = v.inputs; outputs = o; rows = l } in r) (a.outputs ∙ sym b.outputs) same_rows
