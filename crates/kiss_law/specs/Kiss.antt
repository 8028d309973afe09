-- T-04: what writing a KISS text and reading one answer, and what the lent buffer then holds.
-- Assumes nothing.
use Rattle.std.specs.Prelude.{◌≡◌, ◌⊎◌, List, ◌++◌, ℕ, suc, ◌+◌, ◌*◌, ◌/◌, ◌^◌, ◌≤◌, ◌<◌, length, take, drop}
use Rattle.file_law.specs.Answer.{Answer, gives, refuses}
use Rattle.file_law.specs.Table.{Table, Fits}
use Rattle.file_law.specs.File.{stream_of, file_of}
use Rattle.file_law.specs.Reading.{Sizes, stream_in, table_in, open_answer}
use Rattle.kiss_law.specs.Text.{text_of}

-- "a machine with no inputs or no outputs is refusal 15 at 0 when writing", and a text that cannot be written when reading
abbrev pub no_text : ℕ
no_text = 15

-- "a short buffer, either way, is 12"
abbrev pub short_buffer : ℕ
short_buffer = 12

-- what a buffer holds once s is written at its start: "nor a success any past its end"
abbrev pub laid : List ℕ → List ℕ → List ℕ
laid s buffer = s ++ drop (length s) buffer

-- ---- writing

-- the text of the table that a sound file holds
abbrev pub text_in : List ℕ → List ℕ
text_in file = text_of (table_in (stream_in file))

-- "no inputs or no outputs", denied
pub record Wired (z : Sizes) : Type 0 where
  pub inputs : 1 ≤ z.inputs
  pub outputs : 1 ≤ z.outputs

-- "An unsound file" is refused as opening refuses it (T-05: "Opening, stepping, KISS and the C calls all pass these on"), "then a machine with no inputs or no outputs is refusal 15 at 0 when writing; a short buffer, either way, is 12 and comes last."
-- "A refusal changes no byte": what the file, and the buffer as it was, come to; the answer is the text's length
pub data KissWrites (file buffer : List ℕ) : Answer ℕ → List ℕ → Type 0 where
  broken : {number place : ℕ} → open_answer file ≡ refuses number place → KissWrites file buffer (refuses number place) buffer
  fifteen : {z : Sizes} → open_answer file ≡ gives z → (z.inputs ≡ 0) ⊎ (z.outputs ≡ 0) → KissWrites file buffer (refuses no_text 0) buffer
  twelve : {z : Sizes} → open_answer file ≡ gives z → Wired z → length buffer < length (text_in file) → KissWrites file buffer (refuses short_buffer 0) buffer
  made : {z : Sizes} → open_answer file ≡ gives z → Wired z → length (text_in file) ≤ length buffer
      → KissWrites file buffer (gives (length (text_in file))) (laid (text_in file) buffer)

-- ---- reading

-- a table that the writer can write: within the sizes, with inputs and outputs
pub record Writable (t : Table) : Type 0 where
  pub fits : Fits t
  pub inputs : 1 ≤ t.inputs
  pub outputs : 1 ≤ t.outputs

-- "exactly what the writer can write"
pub record Written (text : List ℕ) : Type 0 where
  pub table : Table
  pub writable : Writable table
  pub is : text ≡ text_of table

-- a written text continues so: some written text begins with it
pub record Continues (start : List ℕ) : Type 0 where
  pub rest : List ℕ
  pub text : Written (start ++ rest)

-- "refuses all else with 15 and the offset of the first byte that no written text continues with (the length, if the text stops early)"
pub record Stops (text : List ℕ) (place : ℕ) : Type 0 where
  pub other : ¬ Written text
  pub inside : place ≤ length text
  pub before : Continues (take place text)
  pub first : place < length text → ¬ Continues (take (suc place) text)

-- the file of a table
abbrev pub table_file : Table → List ℕ
table_file t = file_of (stream_of t)

-- "The reader accepts exactly what the writer can write, gives the same file bytes back, and refuses all else with 15"; "a short buffer, either way, is 12 and comes last"
-- what the text, and the buffer as it was, come to; the answer is the number of blocks
pub data KissReads (text buffer : List ℕ) : Answer ℕ → List ℕ → Type 0 where
  fifteen : {place : ℕ} → Stops text place → KissReads text buffer (refuses no_text place) buffer
  twelve : (w : Written text) → length buffer < length (table_file w.table) → KissReads text buffer (refuses short_buffer 0) buffer
  made : (w : Written text) → length (table_file w.table) ≤ length buffer
      → KissReads text buffer (gives (length (table_file w.table) / 512)) (laid (table_file w.table) buffer)

-- ---- what C gets: the text's length or the blocks, or the refusal times 2^32 plus its place
abbrev pub kiss_code : Answer ℕ → ℕ
kiss_code (gives n) = n
kiss_code (refuses number place) = number * 2 ^ 32 + place
