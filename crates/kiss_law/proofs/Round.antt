-- There and back: a file written as text and read again is that file, a text read into a file and written again is that text.
-- Assumes nothing.
use mathlib.Core.Path.{◌≡◌, sym, ap, ◌∙◌, subst}
use mathlib.Core.List.{List}
use Prim.Native.Nat.{ℕ, ◌*◌, ◌/◌, ◌≤◌}
use native.Mathlib.Omega.{arith}
use lib.ListN.{length, take, drop}
use lib.Seq.{take_at, take-append_seam}
use Rattle.crc_law.specs.Crc.{AllBytes}
use Rattle.file_law.specs.Answer.{Answer, gives}
use Rattle.file_law.specs.File.{stream_of}
use Rattle.file_law.specs.Reading.{Sizes, stream_in, table_in, open_answer}
use Rattle.file_law.proofs.Sound.{sound, sound-fits}
use Rattle.file_law.proofs.Written.{length_file}
use Rattle.file_law.proofs.Round.{sizes_of, accepted, same-table}
use Rattle.file_law.proofs.Accepted.{only_written}
use Rattle.kiss_law.specs.Text.{text_of}
use Rattle.kiss_law.specs.Kiss.{laid, text_in, Wired, KissWrites, Writable, Written, table_file, KissReads}
use Rattle.kiss_law.specs.Kiss as kiss
use Rattle.kiss_law.proofs.OneAnswer.{Ends, one_written, one-read}

-- the table of a sound file with inputs and outputs can be written
pub held-writable : (file : List ℕ) (z : Sizes) → open_answer file ≡ gives z → Wired z → Writable (table_in (stream_in file))
unfolding table_in
held-writable file z e w =
    let s = (sound file z e).sizes in
    record {
      fits = sound-fits file z e;
      inputs = subst (λ (x : Sizes). 1 ≤ x.inputs) s w.inputs;
      outputs = subst (λ (x : Sizes). 1 ≤ x.outputs) s w.outputs;
    }

-- what was written is a written text, of the table in the file
pub text_of_file : {file buffer after : List ℕ} {n : ℕ} → AllBytes file → KissWrites file buffer (gives n) after → (w : Written (take n after)) × (table_file w.table ≡ file)
text_of_file {file} {buffer} bytes (kiss.KissWrites.made {z = z} e w h) = (
  record { table = table_in (stream_in file); writable = held-writable file z e w; is = take-append_seam (text_in file) (drop (length (text_in file)) buffer) },
  sym (only_written file bytes z e),
)

-- what was read is the file of a table that can be written, and its text is what was read
pub file_of_text : {text buffer after : List ℕ} {b : ℕ} → KissReads text buffer (gives b) after
    → (w : Written text) × (take (512 * b) after ≡ table_file w.table)
file_of_text {buffer = buffer} (kiss.KissReads.made w h) =
    let l = length_file (stream_of w.table) in
    (w, take_at (table_file w.table) (drop (length (table_file w.table)) buffer) (512 * (length (table_file w.table) / 512)) (omega arith))

-- "gives the same file bytes back"
pub file_back : {file room text after before : List ℕ} {n : ℕ} {r : Answer ℕ} → AllBytes file → KissWrites file room (gives n) text → KissReads (take n text) before r after → length file ≤ length before
    → ◌≡◌ {A = Ends} (r, after) (gives (length file / 512), laid file before)
file_back {file = file} {text = text} {before = before} {n = n} bytes x y h =
    let (w, e) = text_of_file bytes x in
    one-read (take n text) before y (kiss.KissReads.made w (subst (λ (f : List ℕ). length f ≤ length before) (sym e) h))
    ∙ ap (λ (f : List ℕ). let q : Ends = (gives (length f / 512), laid f before) in q) e

-- .. and a text that is read and written again is that text
pub text-back : {text room file after before : List ℕ} {b : ℕ} {r : Answer ℕ} → KissReads text room (gives b) file → KissWrites (take (512 * b) file) before r after → length text ≤ length before
    → ◌≡◌ {A = Ends} (r, after) (gives (length text), laid text before)
text-back {text = text} {file = file} {before = before} {b = b} x y h =
    let (w, e) = file_of_text x in
    let t = w.table in
    let held : text_in (take (512 * b) file) ≡ text = ap text_in e ∙ ap text_of (same-table t w.writable.fits) ∙ sym w.is in
    let opened : open_answer (take (512 * b) file) ≡ gives (sizes_of t) = ap open_answer e ∙ accepted t w.writable.fits in
    one_written (take (512 * b) file) before y
    (kiss.KissWrites.made opened (record { inputs = w.writable.inputs; outputs = w.writable.outputs }) (subst (λ (s : List ℕ). length s ≤ length before) (sym held) h))
    ∙ ap (λ (s : List ℕ). let q : Ends = (gives (length s), laid s before) in q) held
