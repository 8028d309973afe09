-- What a user may rely on, call by call.
-- Assumes nothing.
use mathlib.Core.Path.{◌≡◌, sym, ap, ◌∙◌, subst}
use mathlib.Core.List.{List}
use Prim.Native.Nat.{ℕ, ◌*◌, ◌^◌, ◌≤◌}
use lib.ListN.{length, drop}
use native.Mathlib.Omega.{arith}
use Rattle.reach_law.specs.Machine.{Inputs}
use Rattle.reach_law.specs.Count.{Counted}
use Rattle.file_law.specs.Answer.{gives}
use Rattle.file_law.specs.Table.{Running}
use Rattle.file_law.specs.Reading.{open_answer}
use Rattle.file_law.specs.Stepping.{run_answers}
use Rattle.meaning.specs.Declared.{Source}
use Rattle.meaning.specs.Checked.{program_of}
use Rattle.language.specs.Texts.{good, refused, Reads}
use Rattle.language.specs.Tables.{machine_of}
use Rattle.language.specs.Promise.{Lent, Ready, all_zero, Compiles}
use Rattle.language.proofs.Success.{success, whole-blocks}
use Rattle.language.proofs.Demands.{RunsAs, opens, table_runs, counts, text-fixed, more_room, fault-told}
use Rattle.language.proofs.Exactly.{refused-text}
use Rattle.language.proofs.Areas.{buffer_stays, buffer-length, past_stays, work-left, work-ends}
use Rattle.refusals.specs.declared.Cause.TheVariants as cause
use Rattle.refusals.specs.declared.Refusal.{Refusal}
use Rattle.refusals.specs.Number.{number_of}
use Rattle.std.specs.Prelude.{Err}
use Rattle.compiler.specs.Answered.{Compiled, file_made, refusal, meaning, lent, ended}
use Rattle.compiler.specs.Calls.{Call, first_blocks}
use Rattle.compiler.proofs.Only.{one}

-- room and work area are as they should be
abbrev pub Lends : Call → Type 0
Lends c = Ready (lent c.source c.room c.work c.buffer)

-- the file that was made lies in the buffer
pub file_inside : {l : Lent} {work buffer : List ℕ} (r : Compiled) {states blocks : ℕ} → Compiles l (ended r work buffer) → r ≡ file_made states blocks → 512 * blocks ≤ length buffer
file_inside r c made =
    let (s, y) = success c (ap meaning made) in
    omega (arith, y.space, whole-blocks y, buffer-length c)

-- ---- a file was made

module _ (c : Call) {states blocks : ℕ} (made : c.answer ≡ file_made states blocks) where
  gave : meaning c.answer ≡ gives (record { states = states; blocks = blocks })
  gave = ap meaning made

  -- the text says a program
  pub made-says : (s : Source) × Reads c.source (good s)
  made-says = let (s, y) = success c.keeps gave in (s, y.reads)

  -- bytes past the file stay
  pub made-past : drop (512 * blocks) c.written ≡ drop (512 * blocks) c.buffer
  made-past = past_stays c.keeps gave

  module _ {s : Source} (reads : Reads c.source (good s)) where
    -- `open` accepts what is left in the buffer, with the program's sizes
    pub made-opens : open_answer (first_blocks blocks c) ≡ gives (record { inputs = (program_of s).inputs; outputs = (program_of s).outputs; states = states })
    made-opens = opens c.keeps gave reads

    -- .. and for every sequence of inputs `step` shows the program's outputs, at the start and after each clock
    pub made_runs : (before : Running) (w : List ℕ) → Inputs (2 ^ (program_of s).inputs) w → RunsAs (program_of s) (run_answers (first_blocks blocks c) before w) w
    made_runs = table_runs c.keeps gave reads

    -- the states are the reachable ones
    pub made-counts : Counted (machine_of (program_of s)) states
    made-counts = counts c.keeps gave reads

-- ---- two calls with one source

module _ (c d : Call) (text : c.source ≡ d.source) where
  -- two files are one, whatever else was lent
  pub same_file : {n b m e : ℕ} → c.answer ≡ file_made n b → d.answer ≡ file_made m e → (c.answer ≡ d.answer) × (first_blocks b c ≡ first_blocks e d)
  same_file p q =
      let (same-made, same_bytes) = text-fixed c.keeps (ap meaning p) d.keeps (ap meaning q) text in
      (p ∙ one _ _ (ap gives same-made) ∙ sym q, same_bytes)

  -- a larger room gives the same answer and the same bytes
  pub same_in_more-room : {n b : ℕ} → c.answer ≡ file_made n b → c.room ≤ d.room → Lends d → 512 * b ≤ length d.buffer
      → (d.answer ≡ c.answer) × (first_blocks b d ≡ first_blocks b c)
  same_in_more-room {n} {b} p h r k =
      let (q, bytes) = more_room c.keeps (ap meaning p) text h r k d.keeps in
      (one d.answer (file_made n b) q ∙ sym p, bytes)

  -- a fault of the text, 3 to 10, is told alike in every room
  pub same-fault-told : {q : Refusal ℕ} → 3 ≤ number_of q.cause → number_of q.cause ≤ 10 → c.answer ≡ Err q → Lends d → d.answer ≡ c.answer
  same-fault-told {q} h k p r =
      let (ready, reads) = (refused-text h k c.keeps).0 (ap meaning p) in
      let there : Reads d.source (refused (number_of q.cause) q.place) = subst (λ (x : List ℕ). Reads x (refused (number_of q.cause) q.place)) text reads in
      one d.answer (Err q) (fault-told r there d.keeps) ∙ sym p

-- ---- what is lent

module _ (c : Call) {q : Refusal ℕ} (refused : c.answer ≡ Err q) where
  -- a refusal leaves the file buffer alone
  pub refused-buffer_stays : c.written ≡ c.buffer
  refused-buffer_stays = buffer_stays c.keeps (ap meaning refused)

  -- 1 and 2 leave the work area alone
  pub refused-work_stays : number_of q.cause ≤ 2 → c.left ≡ c.work
  refused-work_stays h = work-left h c.keeps (ap meaning refused)

-- every other end leaves it all zero
pub work-all-zero : (c : Call) → ¬ (c.answer ≡ refusal cause.Room 0) → ¬ (c.answer ≡ refusal cause.WorkArea 0) → c.left ≡ all_zero c.work
work-all-zero c p q = work-ends c.keeps (λ e. p (one c.answer (refusal cause.Room 0) e)) (λ e. q (one c.answer (refusal cause.WorkArea 0) e))
