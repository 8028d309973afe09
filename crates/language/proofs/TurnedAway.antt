-- "Try these and watch the promise turn them away": each wrong compiler, and the idle stepper, breaks what is promised.
-- Assumes nothing.
use mathlib.Core.Path.{◌≡◌, sym, ◌∙◌, ap}
use mathlib.Core.List.{List, [], ◌∷◌, map}
use Prim.Native.Nat.{ℕ, zero, suc, ◌+◌, ◌*◌, ◌/◌, ◌^◌, ◌≤◌, ◌<◌}
use native.Mathlib.Decide.{dec_lt}
use native.Mathlib.Omega.{arith}
use lib.ListN.{length, get_or, take, replicate, length-replicate, get_or-replicate, length-take, get_or-eq_default}
use lib.Seq.{get_or-take}
use Rattle.reach_law.specs.Count.{Counted}
use Rattle.reach_law.proofs.Unique.{one-count}
use Rattle.file_law.specs.Answer.{Answer, gives, refuses}
use Rattle.file_law.specs.Bytes.{bytes_of, word2}
use Rattle.file_law.specs.Table.{most_states, Table, Fits, Running, clocks, table_run}
use Rattle.file_law.specs.File.{stream_of, file_of}
use Rattle.file_law.specs.Reading.{most_blocks, Sizes, open_answer}
use Rattle.file_law.specs.Stepping.{step_answer, start_answer, after, run_answers, outputs_code}
use Rattle.file_law.proofs.Tests.{block, blocks-small}
use Rattle.file_law.proofs.Sound.{Sound, sound}
use Rattle.file_law.proofs.Round.{accepted, no_shared_file, written_runs}
use Rattle.meaning.specs.Declared.{Source}
use Rattle.meaning.specs.Checked.{program_of}
use Rattle.language.specs.Texts.{good, Reads}
use Rattle.language.specs.Tables.{machine_of}
use Rattle.language.specs.Promise.{work_needed, Made, Lent, Ended, Ready, Compiles, made}
use Rattle.language.proofs.OneTable.{one_file}
use Rattle.language.proofs.OneAnswer.{one_answer, some-answer}
use Rattle.language.proofs.Fits.{no_fault, table_fits}
use Rattle.language.proofs.Success.{file_in, made_of, success_of, not_given, file_in_lem}
use Rattle.language.proofs.Demands.{opens, counts}
use Rattle.language.proofs.Compiled.{Says}
use Rattle.language.proofs.Blink.{blink_text, blink, blink_says, idle_text, idle, idle-says}

-- a compiler, and that it keeps the promise
abbrev pub Compiler : Type 0
Compiler = Lent → Ended

abbrev pub Keeps : Compiler → Type 0
Keeps f = (l : Lent) → Compiles l (f l)

-- there is one, so that it is these that are turned away
pub some_compiler : (f : Compiler) × Keeps f
some_compiler = (λ l. (some-answer l).0, λ l. (some-answer l).1)

-- ---- where there is room for every file

-- "The largest file is 67 blocks."
abbrev most : ℕ
most = 512 * most_blocks

zeros : ℕ → List ℕ
zeros n = replicate n 0

length-zeros : (n : ℕ) → length (zeros n) ≡ n
unfolding zeros
length-zeros n = length-replicate n 0

-- the front of zeros is zeros
zero_at_lem : (n k i : ℕ) → get_or (take k (zeros n)) i 0 ≡ 0
unfolding zeros
zero_at_lem n k i = go (dec_lt i k) (dec_lt i n)
  where
    go : Dec (i < k) → Dec (i < n) → get_or (take k (zeros n)) i 0 ≡ 0
    go (yes h) (yes g) = get_or-take k (zeros n) i 0 h ∙ get_or-replicate n i 0 0 g
    go (yes h) (no g) = get_or-take k (zeros n) i 0 h ∙ get_or-eq_default (zeros n) 0 (omega (arith, length-zeros n))
    go (no h) g = get_or-eq_default (take k (zeros n)) 0 (omega (arith, length-take k (zeros n)))

abbrev lent : List ℕ → Lent
lent text = record { source = text; room = most_states; work = zeros (work_needed most_states); buffer = zeros most }

ready : (text : List ℕ) → Ready (lent text)
ready text = record { room = record { some = omega arith; few = omega arith }; work = omega (arith, length-zeros (work_needed most_states)) }

small : (t : Table) → Fits t → length (file_of (stream_of t)) ≤ most
small t fits =
    let s = sound (file_of (stream_of t)) _ (accepted t fits) in
    omega (arith, s.shape.exact, blocks-small _ _ s.shape.size.inputs s.shape.size.states)

-- there, a promised end gives the file
record GivesFile (t : Table) (e : Ended) : Type 0 where
  what : Made
  answer : e.answer ≡ gives what
  count : what.states ≡ length t.rows
  bytes : file_in what e ≡ file_of (stream_of t)

says-fits : {text : List ℕ} {t : Table} → Says text t → Fits t
says-fits y = table_fits y.source (no_fault y.reads) y.file.numbers y.few y.tabled

gives_file : {text : List ℕ} {t : Table} {e : Ended} → Says text t → Compiles (lent text) e → GivesFile t e
gives_file {text} {t} {e} y c =
    let file = file_of (stream_of t) in
    let fit : length file ≤ length (zeros most) = omega (arith, small t (says-fits y), length-zeros most) in
    let given : e.answer ≡ gives (made_of y.states file) = ap (λ (x : Ended). x.answer) (one_answer c (made (ready text) y.reads y.file y.few fit)) in
    let z = success_of c given y.reads in
    record { what = made_of y.states file; answer = given; count = sym y.tabled.size; bytes = file_in_lem z ∙ (one_file z.filed y.file).1 }

-- ---- "a compiler that only refuses"

pub only_refuses : (f : Compiler) → ((l : Lent) → (number : ℕ) × (place : ℕ) × ((f l).answer ≡ refuses number place)) → ¬ Keeps f
only_refuses f refusing keeps =
    let g = gives_file blink_says (keeps (lent blink_text)) in
    let (number, place, e) = refusing (lent blink_text) in
    not_given g.what number place (sym e ∙ g.answer)

-- ---- "or gives blink for all"

-- one file for all, whichever it is
pub one_for_all : (f : Compiler) (file : List ℕ) → ((l : Lent) (m : Made) → (f l).answer ≡ gives m → file_in m (f l) ≡ file) → ¬ Keeps f
one_for_all f file same keeps =
    let g = gives_file blink_says (keeps (lent blink_text)) in
    let h = gives_file idle-says (keeps (lent idle_text)) in
    let shared : file_of (stream_of blink) ≡ file_of (stream_of idle) =
    sym g.bytes ∙ same (lent blink_text) g.what g.answer ∙ sym (same (lent idle_text) h.what h.answer) ∙ h.bytes in
    omega (arith, ap (λ (t : Table). t.inputs) (no_shared_file blink idle (says-fits blink_says) (says-fits idle-says) shared))

pub blink_for_all : (f : Compiler) → ((l : Lent) (m : Made) → (f l).answer ≡ gives m → file_in m (f l) ≡ file_of (stream_of blink)) → ¬ Keeps f
blink_for_all f = one_for_all f (file_of (stream_of blink))

-- ---- "one that writes nothing but says yes"

-- a block of zeros has a total of no blocks
zeros-refused : (f : List ℕ) (z : Sizes) → ((i : ℕ) → get_or f i 0 ≡ 0) → ¬ (open_answer f ≡ gives z)
unfolding word2
zeros-refused f z none e =
    let s : Sound f z = sound f z e in
    let total : word2 (bytes_of f) 2 ≡ length f / 512 = (block f (length f / 512) 0 (s.blocks 0 (omega (arith, s.shape.long)))).numbered.count in
    omega (arith, total, none 2, none 3, s.shape.long)

pub writes_nothing : (f : Compiler) → ((l : Lent) (m : Made) → (f l).answer ≡ gives m → (f l).buffer ≡ l.buffer) → ¬ Keeps f
writes_nothing f same keeps =
    let g = gives_file blink_says (keeps (lent blink_text)) in
    let e : (f (lent blink_text)).buffer ≡ zeros most = same (lent blink_text) g.what g.answer in
    zeros-refused (file_in g.what (f (lent blink_text))) _ (λ i. ap (λ (b : List ℕ). get_or (take (512 * g.what.blocks) b) i 0) e ∙ zero_at_lem most (512 * g.what.blocks) i) (opens (keeps (lent blink_text)) g.answer blink_says.reads)

-- ---- "a made-up or padded state count"

-- at one program is enough: the count is that of the reachable states, and no other
pub made_up_count : (f : Compiler) (l : Lent) (s : Source) (m : Made) (n : ℕ) → Reads l.source (good s) → Counted (machine_of (program_of s)) n → (f l).answer ≡ gives m → ¬ (m.states ≡ n) → ¬ Keeps f
made_up_count f l s m n x c e other keeps = other (one-count (counts (keeps l) e x) c)

pub padded_count : (f : Compiler) (l : Lent) (s : Source) (m : Made) (n more : ℕ) → Reads l.source (good s) → Counted (machine_of (program_of s)) n → (f l).answer ≡ gives m → m.states ≡ n + suc more → ¬ Keeps f
padded_count f l s m n more x c e padded = made_up_count f l s m n x c e (λ same. omega arith)

-- one count for all, whichever it is
pub one-count_for_all : (f : Compiler) (n : ℕ) → ((l : Lent) (m : Made) → (f l).answer ≡ gives m → m.states ≡ n) → ¬ Keeps f
one-count_for_all f n same keeps =
    let g = gives_file blink_says (keeps (lent blink_text)) in
    let h = gives_file idle-says (keeps (lent idle_text)) in
    omega (arith, g.count, h.count, same (lent blink_text) g.what g.answer, same (lent idle_text) h.what h.answer)

-- ---- "a stepper right on the first clock and idle later"

-- what a stepper answers to a file, a record and inputs: opening, and each clock
abbrev pub Stepper : Type 0
Stepper = List ℕ → Running → List ℕ → List (Answer Running)

abbrev at : List (Answer Running) → ℕ → Answer Running
at answers clock = get_or answers clock (refuses 0 0)

-- from a file that opens and inputs of its table on: where the first clock is answered with a record, the second is answered with the same one. Nothing is asked for other files, or after a refusal.
abbrev pub IdleLater : Stepper → Type 0
IdleLater r =
    (file : List ℕ) (c first : Running) (z : Sizes) (x y : ℕ) → open_answer file ≡ gives z → x < 2 ^ z.inputs → y < 2 ^ z.inputs
    → at (r file c (x ∷ y ∷ [])) 1 ≡ gives first → at (r file c (x ∷ y ∷ [])) 2 ≡ gives first

pub idle-later : (r : Stepper) → IdleLater r → ¬ ((file : List ℕ) (c : Running) (w : List ℕ) → r file c w ≡ run_answers file c w)
unfolding clocks table_run
idle-later r same keeps =
    let file = file_of (stream_of blink) in
    let w : List ℕ = 1 ∷ 1 ∷ [] in
    let e : r file off w ≡ map gives (table_run blink w) = keeps file off w ∙ written_runs blink (says-fits blink_says) off w on in
    let first : at (r file off w) 1 ≡ gives lit = ap (λ (l : List (Answer Running)). at l 1) e in
    let second : at (r file off w) 2 ≡ gives lit = same file off lit _ 1 1 (accepted blink (says-fits blink_says)) (omega arith) (omega arith) first in
    let idle : ◌≡◌ {A = ℕ} 0 1 = ap outputs_code (sym (ap (λ (l : List (Answer Running)). at l 2) e) ∙ second) in
    omega arith
  where
    off : Running
    off = record { state = 0; outputs = 0 }

    lit : Running
    lit = record { state = 1; outputs = 1 }

    on : (j : ℕ) → get_or (1 ∷ 1 ∷ []) j 0 < 2
    on zero = omega arith
    on (suc zero) = omega arith
    on (suc (suc j)) = omega arith

-- such a stepper: it opens and makes the first clock as it should, and from then on answers its record
abbrev first_of : List ℕ → Running → ℕ → Answer Running
first_of file c x = step_answer file (after (start_answer file) c).state x

abbrev pub idle_stepper : Stepper
idle_stepper file c [] = start_answer file ∷ []
idle_stepper file c (x ∷ w) = start_answer file ∷ first_of file c x ∷ map (λ y. gives (after (first_of file c x) (after (start_answer file) c))) w

pub idle_stepper_lem : ¬ ((file : List ℕ) (c : Running) (w : List ℕ) → idle_stepper file c w ≡ run_answers file c w)
idle_stepper_lem = idle-later idle_stepper (λ file c first z x y opened h k one. ap (λ (a : Answer Running). gives (after a (after (start_answer file) c))) one)
