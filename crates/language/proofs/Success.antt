-- What a compile that gives a file has made, and where the file stands.
-- Assumes nothing.
use mathlib.Core.Path.{◌≡◌, refl, ◌∙◌, ap, subst}
use mathlib.Core.List.{List, ◌++◌}
use Prim.Native.Nat.{ℕ, ◌*◌, ◌/◌, ◌≤◌}
use native.Mathlib.Omega.{arith}
use lib.ListN.{length, take, drop}
use lib.Seq.{take_at, drop_at}
use Rattle.file_law.specs.Answer.{gives, refuses}
use Rattle.file_law.specs.Table.{Fits}
use Rattle.file_law.specs.File.{stream_of}
use Rattle.file_law.proofs.Written.{length_file}
use Rattle.meaning.specs.States.{State}
use Rattle.meaning.specs.Declared.{Source}
use Rattle.language.specs.Texts.{good, Reads}
use Rattle.language.specs.Promise.{Made, Lent, Ended, Ready, FileOf, Compiles, one, two, fault, eleven, twelve, made}
use Rattle.language.proofs.OneAnswer.{one-source}
use Rattle.language.proofs.Fits.{no_fault, table_fits}

-- the bytes of the file that a compile has made: so many blocks, from the buffer's first byte on
abbrev pub file_in : Made → Ended → List ℕ
file_in m e = take (512 * m.blocks) e.buffer

-- the counts that it tells
abbrev pub made_of : List State → List ℕ → Made
made_of states file = record { states = length states; blocks = length file / 512 }

pub record Success (l : Lent) (e : Ended) (m : Made) (s : Source) : Type 0 where
  pub ready : Ready l
  pub reads : Reads l.source (good s)
  pub states : List State
  pub file : List ℕ
  pub filed : FileOf s states file
  pub room : length states ≤ l.room
  pub space : length file ≤ length l.buffer
  pub gave : made_of states file ≡ m
  pub buffer : e.buffer ≡ file ++ drop (length file) l.buffer

same-made : (m n : Made) → gives m ≡ gives n → m ≡ n
same-made m n p = cc

-- a refusal gives nothing
pub not_given : {A : Type 0} (m : Made) (number place : ℕ) → refuses number place ≡ gives m → A
not_given m number place p = let z : ◌≡◌ {A = ℕ} 0 1 = cc in absurd (omega arith)

pub success : {l : Lent} {e : Ended} {m : Made} → Compiles l e → e.answer ≡ gives m → (s : Source) × Success l e m s
success {m = m} (one h) p = not_given m 1 0 p
success {m = m} (two r h) p = not_given m 2 0 p
success {m = m} (fault {number = number} {place = place} r x) p = not_given m number place p
success {m = m} (eleven r x t) p = not_given m 11 0 p
success {m = m} (twelve r x f n h) p = not_given m 12 0 p
success {m = m} (made {s = s} {states = states} {file = file} r x f n h) p =
    (s, record { ready = r; reads = x; states = states; file = file; filed = f; room = n; space = h; gave = same-made (made_of states file) m p; buffer = refl })

-- .. of the source that the text says
pub success_of : {l : Lent} {e : Ended} {m : Made} {s : Source} → Compiles l e → e.answer ≡ gives m → Reads l.source (good s) → Success l e m s
success_of {l} {e} {m} c p x = let (v, y) = success c p in subst (Success l e m) (one-source y.reads x) y

-- ---- where the file stands

module _ {l : Lent} {e : Ended} {m : Made} {s : Source} (y : Success l e m s) where
  pub whole-blocks : length y.file ≡ 512 * m.blocks
  whole-blocks = let n = ap length y.filed.bytes ∙ length_file (stream_of y.filed.table) in omega (arith, ap (λ (m : Made). m.blocks) y.gave)

  pub file_in_lem : file_in m e ≡ y.file
  file_in_lem = ap (take (512 * m.blocks)) y.buffer ∙ take_at y.file (drop (length y.file) l.buffer) (512 * m.blocks) whole-blocks

  pub past_file : drop (512 * m.blocks) e.buffer ≡ drop (512 * m.blocks) l.buffer
  past_file =
      ap (drop (512 * m.blocks)) y.buffer
      ∙ drop_at y.file (drop (length y.file) l.buffer) (512 * m.blocks) whole-blocks
      ∙ ap (λ (n : ℕ). drop n l.buffer) whole-blocks

  pub fits : Fits y.filed.table
  fits = table_fits s (no_fault y.reads) y.filed.numbers (omega (arith, y.room, y.ready.room.few)) y.filed.tabled
