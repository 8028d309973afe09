-- Trials of document 01 and of T-05 on the definitions, one table under one claim, each computed.
-- Assumes nothing.
use mathlib.Core.Path.{◌≡◌, refl, ap}
use Prim.Native.Nat.{ℕ, ◌-◌, ◌*◌}
use mathlib.Core.Bool.{Bool, true, false}
use mathlib.Core.List.{List, [], ◌∷◌, ◌++◌}
use lib.Dec.{eqb}
use lib.ListN.{length, set, take, replicate}
use Rattle.crc_law.specs.Crc.{ones, crc_of}
use Rattle.crc_law.proofs.Quick.{same-register}
use Rattle.file_law.specs.Answer.{Answer, gives, refuses, unless, both, every, first_not, listed}
use Rattle.file_law.specs.Bytes.{low4, word2, word4}
use Rattle.file_law.specs.Table.{Table, Running}
use Rattle.file_law.specs.File.{words, row_bytes, rows_bytes, stream_of, piece_of, body_of, block_of, blocks, block_count, file_of}
use Rattle.file_law.specs.Reading.{length_good, number_good, check_good, block_good, block_fault, stream_in, blocks_for, outputs_at, next_at, rows_good, content_good, blocks_answer, open_answer, table_in}
use Rattle.file_law.specs.Stepping.{shape_good, stand_answer, move_answer, step_answer, look_answer, outputs_answer, start_in, start_answer, after, steps_from, run_answers, step_code, outputs_code, open_code}

-- "Blink, complete"
abbrev blink : Table
blink = record { inputs = 1; outputs = 1; rows = record { outputs = 0; nexts = 0 ∷ 1 ∷ [] } ∷ record { outputs = 1; nexts = 1 ∷ 0 ∷ [] } ∷ [] }

-- "Stream: 01 01 02 00, 00 00 00 00 01 00, 01 00 01 00 00 00."
abbrev blink_stream_lem : List ℕ
blink_stream_lem = 1 ∷ 1 ∷ 2 ∷ 0 ∷ 0 ∷ 0 ∷ 0 ∷ 0 ∷ 1 ∷ 0 ∷ 1 ∷ 0 ∷ 1 ∷ 0 ∷ 0 ∷ 0 ∷ []

-- its one block: number, total, piece and check
abbrev file : List ℕ
file = 0 ∷ 0 ∷ 1 ∷ 0 ∷ (blink_stream_lem ++ (replicate 488 0 ++ (0x0C ∷ 0x43 ∷ 0x25 ∷ 0xFF ∷ [])))

-- a block of zeros with the right number, total and check: sound as a block, and no table
abbrev hollow : List ℕ
hollow = 0 ∷ 0 ∷ 1 ∷ 0 ∷ (replicate 504 0 ++ (0xEB ∷ 0x0B ∷ 0x00 ∷ 0x3D ∷ []))

abbrev at : ℕ → ℕ → Answer Running
at state outputs = gives (record { state = state; outputs = outputs })

pub record Trials : Type 0 where
  pub stream : stream_of blink ≡ blink_stream_lem
  pub written : file_of (stream_of blink) ≡ file
  pub one_block : length file ≡ 512
  pub opens : open_answer file ≡ gives (record { inputs = 1; outputs = 1; states = 2 })
  pub back : table_in (stream_in file) ≡ blink
  pub start : start_answer file ≡ at 0 0
  pub on : step_answer file 0 1 ≡ at 1 1
  pub off : step_answer file 1 1 ≡ at 0 0
  pub shows : outputs_answer file 1 ≡ at 1 1
  -- "Blink in state 1, input 2: 14."
  pub no_input : step_answer file 1 2 ≡ refuses 14 0
  pub no_state : step_answer file 2 0 ≡ refuses 14 0
  -- "File of 511 bytes: 13", which T-05 makes a bad length: "zero, not whole blocks or too many"
  pub short : step_answer (take 511 file) 0 0 ≡ refuses 21 0
  pub cut : open_answer (take 511 file) ≡ refuses 21 0
  pub empty : open_answer [] ≡ refuses 21 0
  pub part-more : open_answer (file ++ replicate 88 0) ≡ refuses 21 0
  -- "a step gives 21 first", before a state that is not in the table
  pub first : step_answer (file ++ replicate 88 0) 9 9 ≡ refuses 21 0
  pub look-first : outputs_answer (take 511 file) 9 ≡ refuses 21 0
  -- "a bad number or total": two blocks that say that they are one, another total, another number
  pub long : open_answer (file ++ replicate 512 0) ≡ refuses 22 0
  pub damaged : open_answer (set file 2 2) ≡ refuses 22 0
  pub renumbered : open_answer (set file 1 1) ≡ refuses 22 0
  -- "a bad check", and before it the number of the same block
  pub unchecked : open_answer (set file 508 0) ≡ refuses 23 0
  pub number-first : open_answer (set (set file 508 0) 0 1) ≡ refuses 22 0
  -- "bad content (24: all else)": no state; a length that the sizes do not call for; a spare output bit and a next state that a step meets
  pub hollow_content : open_answer hollow ≡ refuses 24 0
  pub other-count : step_answer (file ++ replicate 512 0) 9 9 ≡ refuses 24 0
  pub spare : step_answer (set file 14 3) 0 1 ≡ refuses 24 0
  pub beyond : step_answer (set file 12 2) 0 1 ≡ refuses 24 0
  pub look_spare : outputs_answer (set file 14 3) 1 ≡ refuses 24 0
  -- "The stream is cut in 504-byte pieces": one that fills its last piece takes no other
  pub full_piece : block_count 504 ≡ 1
  pub next_piece : block_count 505 ≡ 2
  -- "The largest file is 67 blocks."
  pub largest : blocks_for 6 256 ≡ 67
  pub longest : length_good (512 * 67) ≡ true
  pub over : length_good (512 * 68) ≡ false
  -- "it gets a next state, or 65,536 plus the refusal number"
  pub next_code_lem : step_code (at 1 9) ≡ 1
  pub refusal_code : step_code (refuses 14 0) ≡ 65550
  pub outputs_code_lem : outputs_code (at 1 9) ≡ 9
  pub no_outputs_code : outputs_code (refuses 14 0) ≡ 65550
  pub start_code : open_code (at 0 9) ≡ 9
  pub place_code : open_code (refuses 23 5) ≡ 0x1700000005
  pub run : run_answers file (record { state = 9; outputs = 9 }) (1 ∷ 0 ∷ 2 ∷ 1 ∷ []) ≡ at 0 0 ∷ at 1 1 ∷ at 1 1 ∷ refuses 14 0 ∷ at 0 0 ∷ []

-- the check of the block, computed once
check : crc_of (take 508 file) ≡ 0xFF25430C
unfolding crc_of
check = ap (λ (x : ℕ). ones - x) (same-register ones (take 508 file))

good : every (block_good file 1) 1 0 ≡ true
unfolding every number_good check_good block_good word2 word4
good = ap (λ (x : ℕ). both (eqb 0xFF25430C x) true) check

-- .. and so is that of the block of zeros
hollow_check : crc_of (take 508 hollow) ≡ 0x3D000BEB
unfolding crc_of
hollow_check = ap (λ (x : ℕ). ones - x) (same-register ones (take 508 hollow))

hollow_good : every (block_good hollow 1) 1 0 ≡ true
unfolding every number_good check_good block_good word2 word4
hollow_good = ap (λ (x : ℕ). both (eqb 0x3D000BEB x) true) hollow_check

hollow_opened : open_answer hollow ≡ refuses 24 0
unfolding word2 stream_in content_good blocks_answer open_answer
hollow_opened = ap (λ (g : Bool). unless g (refuses (block_fault hollow 1 (first_not (block_good hollow 1) 1 0)) (first_not (block_good hollow 1) 1 0)) (refuses 24 0)) hollow_good

other_check : open_answer (set file 508 0) ≡ refuses 23 0
unfolding every first_not number_good check_good block_good block_fault word2 word4 stream_in outputs_at next_at rows_good content_good blocks_answer open_answer
other_check =
    ap (λ (x : ℕ). let bad = unless (eqb 0xFF254300 x) 0 1 in
    unless (both (eqb 0xFF254300 x) true) (refuses (block_fault (set file 508 0) 1 bad) bad) (gives (record { inputs = 1; outputs = 1; states = 2 }))) check

opened : open_answer file ≡ gives (record { inputs = 1; outputs = 1; states = 2 })
unfolding every word2 stream_in outputs_at next_at rows_good content_good blocks_answer open_answer
opened = ap (λ (g : Bool). unless g (refuses (block_fault file 1 (first_not (block_good file 1) 1 0)) (first_not (block_good file 1) 1 0)) (gives (record { inputs = 1; outputs = 1; states = 2 }))) good

started : start_answer file ≡ at 0 0
unfolding word2 stream_in outputs_at start_answer
started = ap (start_in (stream_in file)) opened

pub trials : Trials
unfolding every first_not listed word2 word4 words row_bytes rows_bytes stream_of piece_of body_of block_of blocks file_of number_good check_good block_good block_fault stream_in outputs_at next_at rows_good content_good blocks_answer open_answer table_in shape_good stand_answer move_answer step_answer look_answer outputs_answer steps_from run_answers
trials =
    record {
      stream = refl;
      written = ap (λ (x : ℕ). take 508 file ++ low4 x) check;
      one_block = refl;
      opens = opened;
      back = refl;
      start = started;
      on = refl;
      off = refl;
      shows = refl;
      no_input = refl;
      no_state = refl;
      short = refl;
      cut = refl;
      empty = refl;
      part-more = refl;
      first = refl;
      look-first = refl;
      long = refl;
      damaged = refl;
      renumbered = refl;
      unchecked = other_check;
      number-first = refl;
      hollow_content = hollow_opened;
      other-count = refl;
      spare = refl;
      beyond = refl;
      look_spare = refl;
      full_piece = refl;
      next_piece = refl;
      largest = refl;
      longest = refl;
      over = refl;
      next_code_lem = refl;
      refusal_code = refl;
      outputs_code_lem = refl;
      no_outputs_code = refl;
      start_code = refl;
      place_code = refl;
      run = ap (λ (a : Answer Running). a ∷ steps_from file (after a (record { state = 9; outputs = 9 })) (1 ∷ 0 ∷ 2 ∷ 1 ∷ [])) started;
    }
