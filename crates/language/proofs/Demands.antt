-- What the promise of compile gives: the file opens and runs as the program, its bytes are the program's alone, room and faults tell as they should.
-- Assumes nothing.
use mathlib.Core.Path.{◌≡◌, refl, sym, ◌∙◌, ap, ap₂, subst}
use mathlib.Core.List.{List, [], ◌∷◌, map}
use Prim.Native.Nat.{ℕ, zero, suc, ◌*◌, ◌^◌, ◌≤◌, ◌<◌}
use native.Mathlib.Omega.{arith}
use lib.ListN.{length, get_or}
use lib.Pow.{pow_pos}
use Rattle.reach_law.specs.Machine.{Machine, Inputs, shown}
use Rattle.reach_law.specs.Count.{Counted}
use Rattle.reach_law.specs.Numbering.{numbered}
use Rattle.reach_law.proofs.Unique.{numbering_counts}
use Rattle.reach_law.proofs.Next.{shown-same}
use Rattle.file_law.specs.Answer.{Answer, gives, refuses}
use Rattle.file_law.specs.Table as file
use Rattle.file_law.specs.Table.{Table, next_of, Running, clocks, table_run}
use Rattle.file_law.specs.File.{stream_of, file_of}
use Rattle.file_law.specs.Reading.{Sizes, open_answer}
use Rattle.file_law.specs.Stepping.{run_answers}
use Rattle.file_law.proofs.Round.{accepted, written_runs}
use Rattle.meaning.specs.States.{Program, State, start_state, outputs_of}
use Rattle.meaning.specs.Declared.{Source}
use Rattle.meaning.specs.Checked.{program_of}
use Rattle.language.specs.Texts.{good, refused, Reads}
use Rattle.language.specs.Tables.{machine_of, Tabled}
use Rattle.language.specs.Promise.{Made, Lent, Ended, Ready, FileOf, Compiles, fault, made}
use Rattle.language.proofs.OneTable.{one_file}
use Rattle.language.proofs.OneAnswer.{one-source, one_answer}
use Rattle.language.proofs.Success.{file_in, made_of, Success, success, success_of, whole-blocks, file_in_lem, fits}

-- ---- the file opens, and runs as the program

abbrev outputs_in : Running → ℕ
outputs_in r = r.outputs

-- what a table shows on the way, from a state on
table-shows : (m : Machine State) (t : Table) (w : List ℕ) (i : ℕ) → file.outputs_of t i ∷ map outputs_in (clocks t i w) ≡ shown (numbered m (next_of t)) (file.outputs_of t) i w
unfolding clocks
table-shows m t [] i = refl
table-shows m t (x ∷ w) i = ap (λ (l : List ℕ). file.outputs_of t i ∷ l) (table-shows m t w (next_of t i x))

-- each input of a sequence is below k, and so is what stands for one past its end
below : (k : ℕ) → 0 < k → (w : List ℕ) → Inputs k w → (j : ℕ) → get_or w j 0 < k
below k h [] i j = h
below k h (x ∷ w) i zero = i.0
below k h (x ∷ w) i (suc j) = below k h w i.1 j

-- the sizes that opening tells: the program's inputs and outputs, and the state count
abbrev pub sizes_for : Program → Made → Sizes
sizes_for p m = record { inputs = p.inputs; outputs = p.outputs; states = m.states }

-- at the start and after each clock the file answers, never with a refusal, and shows what the program shows
pub record RunsAs (p : Program) (answers : List (Answer Running)) (w : List ℕ) : Type 0 where
  pub run : List Running
  pub given : answers ≡ map gives run
  pub outputs : map (λ r. r.outputs) run ≡ shown (machine_of p) (outputs_of p) (start_state p) w

module _ {l : Lent} {e : Ended} {m : Made} {s : Source} (y : Success l e m s) where
  abbrev p : Program
  p = program_of s

  abbrev t : Table
  t = y.filed.table

  abbrev a : Tabled (program_of s) y.states y.filed.table
  a = y.filed.tabled

  bytes : file_in m e ≡ file_of (stream_of t)
  bytes = file_in_lem y ∙ y.filed.bytes

  opens-so : open_answer (file_in m e) ≡ gives (sizes_for p m)
  opens-so =
      let n : length t.rows ≡ m.states = a.size ∙ ap (λ (x : Made). x.states) y.gave in
      ap open_answer bytes ∙ accepted t (fits y) ∙ ap gives (λ i. record { inputs = a.inputs i; outputs = a.outputs i; states = n i })

  shows-so : (w : List ℕ) → Inputs (2 ^ p.inputs) w → map outputs_in (table_run t w) ≡ shown (machine_of p) (outputs_of p) (start_state p) w
  unfolding machine_of table_run
  shows-so w h =
      table-shows (machine_of p) t w 0 ∙ shown-same y.filed.numbers (next_of t) a.leads (outputs_of p) (file.outputs_of t) a.shows w h

  runs_so : (c : Running) (w : List ℕ) → Inputs (2 ^ p.inputs) w → RunsAs p (run_answers (file_in m e) c w) w
  runs_so c w h =
      let b : (j : ℕ) → get_or w j 0 < 2 ^ t.inputs = rw a.inputs (below (2 ^ p.inputs) (pow_pos p.inputs) w h) in
      record { run = table_run t w; given = ap (λ (f : List ℕ). run_answers f c w) bytes ∙ written_runs t (fits y) c w b; outputs = shows-so w h }

  counts-so : Counted (machine_of p) m.states
  counts-so = subst (λ (n : Made). Counted (machine_of p) n.states) y.gave (numbering_counts y.filed.numbers)

module _ {l : Lent} {e : Ended} {m : Made} {s : Source} (c : Compiles l e) (given : e.answer ≡ gives m) (reads : Reads l.source (good s)) where
  -- the file is accepted, with the program's sizes
  pub opens : open_answer (file_in m e) ≡ gives (sizes_for (program_of s) m)
  opens = opens-so (success_of c given reads)

  -- "every sequence": the stepper's answers on the file are the program's outputs
  pub table_runs : (before : Running) (w : List ℕ) → Inputs (2 ^ (program_of s).inputs) w → RunsAs (program_of s) (run_answers (file_in m e) before w) w
  table_runs = runs_so (success_of c given reads)

  -- the state count is the number of reachable states
  pub counts : Counted (machine_of (program_of s)) m.states
  counts = counts-so (success_of c given reads)

-- ---- the bytes depend on the program alone

same_success : {l k : Lent} {e f : Ended} {m n : Made} {s v : Source} → Success l e m s → Success k f n v → program_of s ≡ program_of v → (m ≡ n) × (file_in m e ≡ file_in n f)
same_success {s = s} {v = v} y z p =
    let filed : FileOf s z.states z.file = record {
      table = z.filed.table;
      numbers = rw p z.filed.numbers;
      tabled = rw p z.filed.tabled;
      bytes = z.filed.bytes;
    } in
    let same = one_file y.filed filed in
    (sym y.gave ∙ ap₂ made_of same.0 same.1 ∙ z.gave, file_in_lem y ∙ same.1 ∙ sym (file_in_lem z))

-- whatever the rooms, work areas and buffers, and whatever else the texts differ in
pub bytes-fixed : {l k : Lent} {e f : Ended} {m n : Made} {s v : Source} → Compiles l e → e.answer ≡ gives m → Reads l.source (good s) → Compiles k f → f.answer ≡ gives n → Reads k.source (good v)
    → program_of s ≡ program_of v → (m ≡ n) × (file_in m e ≡ file_in n f)
bytes-fixed c p x d q y same = same_success (success_of c p x) (success_of d q y) same

-- .. so one text has one file
pub text-fixed : {l k : Lent} {e f : Ended} {m n : Made} → Compiles l e → e.answer ≡ gives m → Compiles k f → f.answer ≡ gives n → l.source ≡ k.source → (m ≡ n) × (file_in m e ≡ file_in n f)
text-fixed c p d q same =
    let (s, y) = success c p in
    let (v, z) = success d q in
    same_success y z (ap program_of (one-source (subst (λ (text : List ℕ). Reads text (good s)) same y.reads) z.reads))

-- ---- room

-- a larger room up to the limit gives the same bytes
pub more_room : {l k : Lent} {e f : Ended} {m : Made} → Compiles l e → e.answer ≡ gives m → l.source ≡ k.source → l.room ≤ k.room → Ready k → 512 * m.blocks ≤ length k.buffer → Compiles k f
    → (f.answer ≡ gives m) × (file_in m f ≡ file_in m e)
more_room {l} {k} {e} {f} {m} c p same h r b d =
    let (s, y) = success c p in
    let reads : Reads k.source (good s) = subst (λ (text : List ℕ). Reads text (good s)) same y.reads in
    let q : f.answer ≡ gives m = ap (λ (x : Ended). x.answer) (one_answer d (made r reads y.filed (omega (arith, y.room)) (omega (arith, whole-blocks y)))) ∙ ap gives y.gave in
    (q, (text-fixed d q c p (sym same)).1)

-- ---- a fault in the text

-- it is told whatever the room
pub fault-told : {l : Lent} {e : Ended} {number place : ℕ} → Ready l → Reads l.source (refused number place) → Compiles l e → e.answer ≡ refuses number place
fault-told r x c = ap (λ (e : Ended). e.answer) (one_answer c (fault r x))

-- .. so every room tells the same
pub same-fault : {l k : Lent} {e f : Ended} {number place : ℕ} → Ready l → Ready k → l.source ≡ k.source → Reads l.source (refused number place) → Compiles l e → Compiles k f → e.answer ≡ f.answer
same-fault {number = number} {place = place} r q same x c d =
    fault-told r x c ∙ sym (fault-told q (subst (λ (text : List ℕ). Reads text (refused number place)) same x) d)
