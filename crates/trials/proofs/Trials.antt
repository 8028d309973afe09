-- The trials of the document, each from its text through every definition. Those marked P are one table under one claim; the others, and the slips, are a second.
-- Assumes nothing.
use mathlib.Core.Path.{◌≡◌, refl, ap}
use mathlib.Core.List.{List, [], ◌∷◌, ◌++◌}
use Prim.Native.Nat.{ℕ, ◌-◌}
use Prim.Native.String.{String}
use lib.ListN.{take, replicate}
use Rattle.crc_law.specs.Crc.{ones, crc_of}
use Rattle.crc_law.proofs.Quick.{same-register}
use Rattle.file_law.specs.Answer.{gives}
use Rattle.file_law.specs.Bytes.{low4}
use Rattle.file_law.specs.Table.{Table}
use Rattle.file_law.specs.File.{words, row_bytes, rows_bytes, stream_of, piece_of, body_of, block_of, blocks, file_of}
use Rattle.meaning.specs.Declared.{Source}
use Rattle.language.specs.Words.{bytes}
use Rattle.language.specs.Promise.{all_zero, refusal}
use Rattle.language.specs.Listings.{Prints}
use Rattle.language.proofs.Listing.{listing_right}
use Rattle.language.proofs.Computing.{yield_in, Lists, lists}
use Rattle.trials.proofs.Through.{Ends, Files, ends, files}

abbrev blink_text : String
blink_text = "program blink; input GO; output LAMP; loop if GO then invert(LAMP) endif endloop endprog"

abbrev skips_text : String
skips_text = "program p; skip; skip endprog"

-- a state in which L is low, and then one in which it is raised
abbrev raised : String
raised = "machine p\ninputs -\noutputs L\nstates 2\n0 0 1\n1 1 1\n"

-- ---- two files, whole: number, total, stream, filling and check

abbrev blink_stream : List ℕ
blink_stream = 1 ∷ 1 ∷ 2 ∷ 0 ∷ 0 ∷ 0 ∷ 0 ∷ 0 ∷ 1 ∷ 0 ∷ 1 ∷ 0 ∷ 1 ∷ 0 ∷ 0 ∷ 0 ∷ []

abbrev skips_stream : List ℕ
skips_stream = 0 ∷ 0 ∷ 3 ∷ 0 ∷ 0 ∷ 0 ∷ 1 ∷ 0 ∷ 0 ∷ 0 ∷ 2 ∷ 0 ∷ 0 ∷ 0 ∷ 2 ∷ 0 ∷ []

abbrev blink_file : List ℕ
blink_file = 0 ∷ 0 ∷ 1 ∷ 0 ∷ (blink_stream ++ (replicate 488 0 ++ (0x0C ∷ 0x43 ∷ 0x25 ∷ 0xFF ∷ [])))

abbrev skips_file : List ℕ
skips_file = 0 ∷ 0 ∷ 1 ∷ 0 ∷ (skips_stream ++ (replicate 488 0 ++ (0x35 ∷ 0xC1 ∷ 0x79 ∷ 0x66 ∷ [])))

-- "Trials at the edges", those marked P
pub record Trials : Type 0 where
  -- "Blink, complete"
  pub blink : Lists 256 blink_text "machine blink\ninputs GO\noutputs LAMP\nstates 2\n0 0 0 1\n1 1 1 0\n"
  pub blink_file_lem : Files blink_text 256 2 blink_file
  -- "`integer Y[2] = 7` starts at 3"
  pub starts : Lists 256 "program p; output L; integer Y[2] = 7; if Y == 3 then raise(L) endif endprog" raised
  -- "x = 3, width 3, `x := x - 5` gives 6"
  pub assigned : Lists 256 "program p; output L; integer x[3] = 3; x := x - 5; if x == 6 then raise(L) endif endprog" "machine p\ninputs -\noutputs L\nstates 3\n0 0 1\n1 0 2\n2 1 2\n"
  -- "(0 - 7)/2 = -3 and (0 - 7)%2 = -1"
  pub quotient : Lists 256 "program p; output L; if (0 - 7) / 2 == 0 - 3 then raise(L) endif endprog" raised
  pub remainder : Lists 256 "program p; output L; if (0 - 7) % 2 == 0 - 1 then raise(L) endif endprog" raised
  -- "7/0 = 0, 7%0 = 7"
  pub quotient_zero : Lists 256 "program p; output L; if 7 / 0 == 0 then raise(L) endif endprog" raised
  pub remainder_zero : Lists 256 "program p; output L; if 7 % 0 == 7 then raise(L) endif endprog" raised
  -- "`raise(L) || lower(L)` leaves L"
  pub left-low : Lists 256 "program p; output L; parallel raise(L) || lower(L) endparallel endprog" "machine p\ninputs -\noutputs L\nstates 2\n0 0 1\n1 0 1\n"
  pub left-high : Lists 256 "program p; output L = true; parallel raise(L) || lower(L) endparallel endprog" "machine p\ninputs -\noutputs L\nstates 2\n0 1 1\n1 1 1\n"
  -- "an inner raise and lower of A beside an outer raise: A true"
  pub inner : Lists 256 "program p; output A; parallel parallel raise(A) || lower(A) endparallel || raise(A) endparallel endprog" "machine p\ninputs -\noutputs A\nstates 2\n0 0 1\n1 1 1\n"
  -- "first branch `exit`, second `break`: exit; exchanged: break": A is raised where the loop goes on behind the parallel, B where it is left
  pub exit-first : Lists 256 "program p; output A, B; loop parallel exit || break endparallel; raise(A); exit endloop; raise(B) endprog" "machine p\ninputs -\noutputs A B\nstates 2\n0 0 0 1\n1 0 1 1\n"
  pub break-first : Lists 256 "program p; output A, B; loop parallel break || exit endparallel; raise(A); exit endloop; raise(B) endprog" "machine p\ninputs -\noutputs A B\nstates 3\n0 0 0 1\n1 1 0 2\n2 1 1 2\n"
  -- "`skip; skip`: 3 states; room 2 gives 11, room 3 a file"
  pub two-skips : Lists 256 skips_text "machine p\ninputs -\noutputs -\nstates 3\n0 - 1\n1 - 2\n2 - 2\n"
  pub no_room : Ends skips_text 2 (λ l. refusal l (all_zero l.work) 11 0)
  pub room : Files skips_text 3 3 skips_file
  -- "`loop skip endloop`: 1 state"
  pub still : Lists 256 "program p; loop skip endloop endprog" "machine p\ninputs -\noutputs -\nstates 1\n0 - 0\n"

-- the others, which may also be run, and the slips
pub record Others : Type 0 where
  -- "`delay 3`: 4 states; `delay 0`: 2"
  pub delay_three : Lists 256 "program p; delay 3 endprog" "machine p\ninputs -\noutputs -\nstates 4\n0 - 1\n1 - 2\n2 - 3\n3 - 3\n"
  pub delay-none : Lists 256 "program p; delay 0 endprog" "machine p\ninputs -\noutputs -\nstates 2\n0 - 1\n1 - 1\n"
  -- "With a 16-bit x, x * 32768 passes and x * 32769 is 10"
  pub passes : Lists 256 "program p; integer x[16]; x := x * 32768 endprog" "machine p\ninputs -\noutputs -\nstates 2\n0 - 1\n1 - 1\n"
  pub passed : Lists 256 "program p; integer x[16]; x := x * 32769 endprog" "refused 10 at 33\n"
  -- "Slips we have met": "Letting a later branch see an earlier branch's new value in the same clock"
  pub old_value : Lists 256 "program p; output A, B; parallel raise(A) || if A then raise(B) endif endparallel endprog" "machine p\ninputs -\noutputs A B\nstates 2\n0 0 0 1\n1 1 0 1\n"
  -- "Restarting a loop for ever in one clock, or waiting after a body that had already waited"
  pub in_no_time : Lists 256 "program p; loop loop exit endloop endloop endprog" "machine p\ninputs -\noutputs -\nstates 1\n0 - 0\n"
  pub waited : Lists 256 "program p; output A; loop invert(A) endloop endprog" "machine p\ninputs -\noutputs A\nstates 2\n0 0 1\n1 1 0\n"
  -- "Stopping a switch after its first true case"
  pub all_cases : Lists 256 "program p; output A, B, C; switch case true: raise(A) case true: raise(B) default: raise(C) endswitch endprog" "machine p\ninputs -\noutputs A B C\nstates 4\n0 0 0 0 1\n1 1 0 0 2\n2 1 1 0 3\n3 1 1 1 3\n"
  -- "Comparing `x - 5 > 0` after cutting to x's width"
  pub below-zero : Lists 256 "program p; output L; integer x[3] = 3; if x - 5 > 0 then skip else raise(L) endif endprog" raised
  -- "Keeping the other branches' tries when one jumps"
  pub dropped : Lists 256 "program p; output A, B; loop parallel raise(A) || exit endparallel endloop; raise(B) endprog" "machine p\ninputs -\noutputs A B\nstates 2\n0 0 0 1\n1 0 1 1\n"
  -- "Source 8,193 bytes: 3."
  pub long : Prints (replicate 8193 95) (bytes "refused 3 at 0\n")
  pub not_long : Prints (replicate 8192 95) (bytes "refused 4 at 0\n")

-- ---- the tables and the checks of the two files

abbrev blink_table : Table
blink_table = record { inputs = 1; outputs = 1; rows = record { outputs = 0; nexts = 0 ∷ 1 ∷ [] } ∷ record { outputs = 1; nexts = 1 ∷ 0 ∷ [] } ∷ [] }

abbrev skips_table : Table
skips_table = record { inputs = 0; outputs = 0; rows = record { outputs = 0; nexts = 1 ∷ [] } ∷ record { outputs = 0; nexts = 2 ∷ [] } ∷ record { outputs = 0; nexts = 2 ∷ [] } ∷ [] }

blink_check : crc_of (take 508 blink_file) ≡ 0xFF25430C
unfolding crc_of
blink_check = ap (λ (x : ℕ). ones - x) (same-register ones (take 508 blink_file))

skips_check : crc_of (take 508 skips_file) ≡ 0x6679C135
unfolding crc_of
skips_check = ap (λ (x : ℕ). ones - x) (same-register ones (take 508 skips_file))

blink_bytes : file_of (stream_of blink_table) ≡ blink_file
unfolding words row_bytes rows_bytes stream_of piece_of body_of block_of blocks file_of
blink_bytes = ap (λ (x : ℕ). take 508 blink_file ++ low4 x) blink_check

skips-bytes : file_of (stream_of skips_table) ≡ skips_file
unfolding words row_bytes rows_bytes stream_of piece_of body_of block_of blocks file_of
skips-bytes = ap (λ (x : ℕ). take 508 skips_file ++ low4 x) skips_check

blink_yields : (src : Source) × (yield_in 256 blink_text ≡ gives (src, blink_table))
unfolding yield_in
blink_yields = (_, refl)

skips-yields : (src : Source) × (yield_in 3 skips_text ≡ gives (src, skips_table))
unfolding yield_in
skips-yields = (_, refl)

blink_filed : Files blink_text 256 2 blink_file
blink_filed = files blink_text 256 2 blink_file blink_yields.0 blink_table blink_yields.1 blink_bytes refl refl

skips_filed : Files skips_text 3 3 skips_file
skips_filed = files skips_text 3 3 skips_file skips-yields.0 skips_table skips-yields.1 skips-bytes refl refl

pub trials : Trials
unfolding yield_in
trials =
    record {
      blink = lists refl;
      blink_file_lem = blink_filed;
      starts = lists refl;
      assigned = lists refl;
      quotient = lists refl;
      remainder = lists refl;
      quotient_zero = lists refl;
      remainder_zero = lists refl;
      left-low = lists refl;
      left-high = lists refl;
      inner = lists refl;
      exit-first = lists refl;
      break-first = lists refl;
      two-skips = lists refl;
      no_room = ends refl;
      room = skips_filed;
      still = lists refl;
    }

pub others : Others
unfolding yield_in
others =
    record {
      delay_three = lists refl;
      delay-none = lists refl;
      passes = lists refl;
      passed = lists refl;
      old_value = lists refl;
      in_no_time = lists refl;
      waited = lists refl;
      all_cases = lists refl;
      below-zero = lists refl;
      dropped = lists refl;
      long = listing_right (replicate 8193 95);
      not_long = listing_right (replicate 8192 95);
    }
