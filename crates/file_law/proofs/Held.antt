-- The table that a stream holds: its rows, outputs and next states are the words of the stream.
-- Assumes nothing.
use mathlib.Core.Path.{◌≡◌, ap, ◌∙◌}
use Prim.Native.Nat.{ℕ, ◌^◌, ◌<◌}
use lib.ListN.{length, get_or}
use Rattle.file_law.specs.Table.{Row, no_row, row_of, outputs_of, next_of}
use Rattle.file_law.specs.Reading.{inputs_in, states_in, outputs_at, next_at, row_in, table_in}
use Rattle.file_law.proofs.Every.{length-listed}
use Rattle.file_law.proofs.Listed.{listed_at}

module _ (b : ℕ → ℕ) where
  pub rows_in : length (table_in b).rows ≡ states_in b
  unfolding table_in
  rows_in = length-listed (row_in b (inputs_in b)) (states_in b) 0

  pub row_in_lem : (state : ℕ) → state < states_in b → row_of (table_in b) state ≡ row_in b (inputs_in b) state
  unfolding table_in
  row_in_lem s h = listed_at (row_in b (inputs_in b)) (states_in b) no_row s h

  pub outputs_in_lem : (state : ℕ) → state < states_in b → outputs_of (table_in b) state ≡ outputs_at b (inputs_in b) state
  outputs_in_lem s h = ap (λ (r : Row). r.outputs) (row_in_lem s h)

  -- the next states of a row that the stream holds
  pub nexts_in : (state input : ℕ) → input < 2 ^ inputs_in b → get_or (row_in b (inputs_in b) state).nexts input 0 ≡ next_at b (inputs_in b) state input
  nexts_in s i h = listed_at (next_at b (inputs_in b) s) (2 ^ inputs_in b) 0 i h

  pub next_in_lem : (state input : ℕ) → state < states_in b → input < 2 ^ inputs_in b → next_of (table_in b) state input ≡ next_at b (inputs_in b) state input
  next_in_lem s i hs hi = ap (λ (r : Row). get_or r.nexts i 0) (row_in_lem s hs) ∙ nexts_in s i hi
