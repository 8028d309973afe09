-- The promise of compile: what it answers, and what the lent work area and file buffer then hold.
-- Assumes nothing.
use Rattle.std.specs.Prelude.{◌≡◌, ◌⊎◌, List, ◌++◌, ℕ, ◌+◌, ◌*◌, ◌/◌, ◌≤◌, ◌<◌, length, drop, replicate}
use Rattle.reach_law.specs.Count.{TooMany}
use Rattle.reach_law.specs.Numbering.{Numbering}
use Rattle.file_law.specs.Answer.{Answer, gives, refuses}
use Rattle.file_law.specs.Table.{most_states, Table}
use Rattle.file_law.specs.File.{stream_of, file_of}
use Rattle.meaning.specs.States.{State}
use Rattle.meaning.specs.Declared.{Source}
use Rattle.meaning.specs.Checked.{program_of}
use Rattle.language.specs.Texts.{good, refused, Reads}
use Rattle.language.specs.Tables.{machine_of, Tabled}

-- Z10: room
pub record RoomFits (room : ℕ) : Type 0 where
  pub some : 1 ≤ room
  pub few : room ≤ most_states

-- Z10: work area
abbrev pub work_needed : ℕ → ℕ
work_needed room = 32768 + 64 * room

-- R3: what success tells
pub record Made : Type 0 where
  pub states : ℕ
  pub blocks : ℕ

-- what is lent: the source, the room, the work area and the file buffer as they were
pub record Lent : Type 0 where
  pub source : List ℕ
  pub room : ℕ
  pub work : List ℕ
  pub buffer : List ℕ

-- how a compile ends: its answer, and the work area and the file buffer as they are
pub record Ended : Type 0 where
  pub answer : Answer Made
  pub work : List ℕ
  pub buffer : List ℕ

-- room and work area are as they should be
pub record Ready (l : Lent) : Type 0 where
  pub room : RoomFits l.room
  pub work : work_needed l.room ≤ length l.work

-- R2: all of it is zero
abbrev pub all_zero : List ℕ → List ℕ
all_zero work = replicate (length work) 0

-- the file of a source, by the numbering of its reachable states
pub record FileOf (s : Source) (states : List State) (file : List ℕ) : Type 0 where
  pub table : Table
  pub numbers : Numbering (machine_of (program_of s)) states
  pub tabled : Tabled (program_of s) states table
  pub bytes : file ≡ file_of (stream_of table)

abbrev pub refusal : Lent → List ℕ → ℕ → ℕ → Ended
refusal l work number place = record { answer = refuses number place; work = work; buffer = l.buffer }

-- R1, R2, R3: how a compile ends, in the order of the numbers
pub data Compiles (l : Lent) : Ended → Type 0 where
  -- 1 (Z10); the work area stays (R2)
  one : (l.room < 1) ⊎ (most_states < l.room) → Compiles l (refusal l l.work 1 0)
  -- 2 (Z10); the work area stays (R2)
  two : RoomFits l.room → length l.work < work_needed l.room → Compiles l (refusal l l.work 2 0)
  -- 3 to 10, a fault of the text
  fault : {number place : ℕ} → Ready l → Reads l.source (refused number place) → Compiles l (refusal l (all_zero l.work) number place)
  -- 11 (S6)
  eleven : {s : Source} → Ready l → Reads l.source (good s) → TooMany (machine_of (program_of s)) l.room → Compiles l (refusal l (all_zero l.work) 11 0)
  -- 12 (F4)
  twelve : {s : Source} {states : List State} {file : List ℕ} → Ready l → Reads l.source (good s) → FileOf s states file → length states ≤ l.room
      → length l.buffer < length file → Compiles l (refusal l (all_zero l.work) 12 0)
  -- R3: the file, and what stands behind it stays
  made : {s : Source} {states : List State} {file : List ℕ} → Ready l → Reads l.source (good s) → FileOf s states file → length states ≤ l.room
      → length file ≤ length l.buffer
      → Compiles l (record { answer = gives (record { states = length states; blocks = length file / 512 }); work = all_zero l.work; buffer = file ++ drop (length file) l.buffer })
