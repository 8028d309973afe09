-- A program has one table and so one file: its numbering, its rows and its bytes depend on the program alone.
-- Assumes nothing.
use mathlib.Core.Path.{◌≡◌, refl, sym, ◌∙◌, ap, subst}
use mathlib.Core.List.{List}
use Prim.Native.Nat.{ℕ}
use Rattle.reach_law.specs.Numbering.{Numbering}
use Rattle.reach_law.proofs.Unique.{one_numbering}
use Rattle.file_law.specs.Table.{Table}
use Rattle.file_law.specs.File.{stream_of, file_of}
use Rattle.meaning.specs.States.{State}
use Rattle.meaning.specs.Declared.{Source}
use Rattle.meaning.specs.Checked.{program_of}
use Rattle.language.specs.Tables.{machine_of, Tabled}
use Rattle.language.specs.Promise.{FileOf}
use Rattle.language.proofs.Tables.{table_of, table-right, one_table}

-- ---- no second file

pub one_file : {s : Source} {states states₁ : List State} {file file₁ : List ℕ} → FileOf s states file → FileOf s states₁ file₁ → (states ≡ states₁) × (file ≡ file₁)
one_file {s} {states} {states₁} {file} {file₁} a b =
    let e : states ≡ states₁ = one_numbering a.numbers b.numbers in
    let tabled : Tabled (program_of s) states b.table = subst (λ (l : List State). Tabled (program_of s) l b.table) (sym e) b.tabled in
    (e, a.bytes ∙ ap (λ (t : Table). file_of (stream_of t)) (one_table (program_of s) states a.numbers a.table b.table a.tabled tabled) ∙ sym b.bytes)

-- ---- there is one

pub some_file : (s : Source) (states : List State) → Numbering (machine_of (program_of s)) states → FileOf s states (file_of (stream_of (table_of (program_of s) states)))
some_file s states u = record { table = table_of (program_of s) states; numbers = u; tabled = table-right (program_of s) states u; bytes = refl }
