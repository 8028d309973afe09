-- Worked examples of T-04 on the definitions, each computed.
-- Assumes nothing.
use mathlib.Core.Path.{◌≡◌, refl, sym, subst}
use mathlib.Core.List.{[], ◌∷◌}
use native.Mathlib.Omega.{arith}
use lib.ListN.{drop}
use Rattle.file_law.specs.Answer.{listed, refuses}
use Rattle.file_law.specs.Table.{Table}
use Rattle.file_law.proofs.Every.{get_or-listed}
use Rattle.kiss_law.specs.Text.{ascii, decimal_by, decimal, bits, size_line, heading, row_head, row_tail, state_rows, all_rows, text_of}
use Rattle.kiss_law.specs.Kiss.{Writable, Continues, kiss_code}
use Rattle.kiss_law.proofs.Rows.{each_of_lem, RowGood, writable}

-- "Blink, complete"
abbrev pub blink : Table
blink = record { inputs = 1; outputs = 1; rows = record { outputs = 0; nexts = 0 ∷ 1 ∷ [] } ∷ record { outputs = 1; nexts = 1 ∷ 0 ∷ [] } ∷ [] }

-- a machine of 15 states, and so of 30 rows, that stays where it starts
abbrev still : Table
still = record { inputs = 1; outputs = 1; rows = listed (λ i. record { outputs = 0; nexts = 0 ∷ 0 ∷ [] }) 15 0 }

pub record Trials : Type 0 where
  -- "Blink whole, each line ended by LF"
  pub blink_text_lem : text_of blink ≡ ascii ".i 1\n.o 1\n.p 4\n.s 2\n.r s0\n0 s0 s0 0\n1 s0 s1 0\n0 s1 s1 1\n1 s1 s0 1\n.e\n"
  -- "bits first declared leftmost"
  pub leftmost : bits 3 1 ≡ ascii "100"
  pub largest : decimal 16384 ≡ ascii "16384"
  pub nought : decimal 0 ≡ ascii "0"
  pub hundred : decimal 100 ≡ ascii "100"
  -- `.p 3` with one input goes on: with 30 rows, as here
  pub goes_on : Continues (ascii ".i 1\n.o 1\n.p 3")
  -- the refusal times 2^32 plus its place
  pub code : kiss_code (refuses 15 5) ≡ 0xF00000005

still-writable : Writable still
unfolding listed
still-writable =
    writable 1 1 still.rows (omega arith) (omega arith) (omega arith) (omega arith) (omega arith) (omega arith)
    (each_of_lem (RowGood 1 1 15) (record { outputs = 0; nexts = 0 ∷ 0 ∷ [] }) still.rows (λ i h. subst (RowGood 1 1 15) (sym (get_or-listed (λ j. record { outputs = 0; nexts = 0 ∷ 0 ∷ [] }) 15 0 (record { outputs = 0; nexts = 0 ∷ 0 ∷ [] }) i h)) stays))
  where
    stays : RowGood 1 1 15 (record { outputs = 0; nexts = 0 ∷ 0 ∷ [] })
    stays = record { clear = omega arith; wide = refl; inside = (omega arith, (omega arith, tt)) }

three : Continues (ascii ".i 1\n.o 1\n.p 3")
unfolding listed decimal_by bits size_line heading row_head row_tail state_rows all_rows text_of
three = record { rest = drop 14 (text_of still); text = record { table = still; writable = still-writable; is = refl } }

pub trials : Trials
unfolding listed decimal_by bits size_line heading row_head row_tail state_rows all_rows text_of
trials = record { blink_text_lem = refl; leftmost = refl; largest = refl; nought = refl; hundred = refl; goes_on = three; code = refl }
