-- How a compile ends: each end is one of the promise's.
-- Assumes nothing.
use mathlib.Core.Path.{◌≡◌, refl, sym, ap, ◌∙◌, subst}
use mathlib.Core.List.{List, ◌++◌}
use Rattle.std.specs.Prelude.{Option, Some, None, Err}
use Prim.Native.Nat.{ℕ, ◌+◌, ◌-◌, ◌*◌, ◌/◌, ◌%◌, ◌^◌, ◌<◌, ◌≤◌}
use lib.ListN.{length, get_or, take, drop, length-drop}
use lib.Pow.{pow_mono}
use native.Mathlib.Omega.{arith}
use Rattle.reach_law.specs.Machine.{Machine}
use Rattle.reach_law.specs.Count.{TooMany}
use Rattle.reach_law.specs.Numbering.{Numbering, Next, Follows}
use Rattle.file_law.specs.Table.{Row, Table, no_row, row_of, next_of}
use Rattle.file_law.specs.Table as file
use Rattle.file_law.specs.File.{file_of}
use Rattle.file_law.proofs.Every.{length-listed, get_or-listed}
use Rattle.meaning.specs.States.{Program, State, standing, settled, start_state, step_state, outputs_of}
use Rattle.meaning.specs.Clock.{first, resume_all}
use Rattle.meaning.specs.Checked.{program_of}
use Rattle.stored.specs.Stored.{Stored}
use Rattle.rows.specs.Area.{row_in, next_in}
use Rattle.search.specs.Machine.{program_in, machine_in}
use Rattle.search.specs.Going.{states_in, Sized, Found, Searched}
use Rattle.search.specs.declared.Task.{Task}
use Rattle.search.proofs.States.{states-length, states_at}
use Rattle.files.specs.Written.{row_from, table_from, stream_from, Small, Wrote}
use Rattle.language.specs.Tables.{machine_of, Tabled}
use Rattle.language.specs.Promise.{Ready, all_zero, FileOf, Compiles, fault, eleven, twelve, made}
use Rattle.language.proofs.Fits.{no_fault, few-inputs, few-outputs}
use Rattle.compiler.specs.Answered.{file_made, refusal, lent, ended, EndsSo}
use Rattle.source.specs.Says.{ReadDone}
use Rattle.source.proofs.Lent.{back, back-rest, back_long}
use Rattle.parts.proofs.Beside.{whole-rest}
use Rattle.source.specs.declared.Program as read
use Rattle.refusals.specs.declared.Cause.TheVariants as cause
use Rattle.refusals.specs.declared.Refusal.{Refusal}

-- ---- a program that is stored

pub k_small : {source tree : List ℕ} {n k o word : ℕ} → Stored source tree n k o word → k ≤ 6
k_small g = omega (arith, few-inputs g.says (no_fault g.reads), g.inputs)

pub o_small : {source tree : List ℕ} {n k o word : ℕ} → Stored source tree n k o word → o ≤ 16
o_small g = omega (arith, few-outputs g.says (no_fault g.reads), g.outputs)

-- a program's machine is its statements, its word at the start, and its inputs
same_machine : (q p : Program) (n : ℕ) → q.initial ≡ p.initial → q.body ≡ p.body → n ≡ 2 ^ p.inputs
    → ◌≡◌ {A = Machine State} (record { start = start_state q; step = step_state q; inputs = n }) (machine_of p)
unfolding machine_of start_state step_state
same_machine q p n w b e =
    λ i. record {
      start = record { entries = standing (first (b i)); word = w i };
      step = λ s x. settled (resume_all (b i) s.entries (record { word = s.word; inputs = x })) s.word;
      inputs = e i;
    }

-- what is searched for the program that is stored
abbrev pub task_of : read.Program → ℕ → ℕ → Task
task_of p inputs room = record { count = p.n; left = 1536; word = p.word; inputs = inputs; room = room }

-- what the compile call knows of it
pub record Known (source tree : List ℕ) (task : Task) (k o : ℕ) : Type 0 where
  pub stored : Stored source tree task.count k o task.word
  pub fuel : 3 * task.count ≤ task.left
  pub inputs : task.inputs ≡ 2 ^ k

pub known : {source tree : List ℕ} {k o : ℕ} (task : Task) → Stored source tree task.count k o task.word → 3 * task.count ≤ task.left → task.inputs ≡ 2 ^ k → Known source tree task k o
known task stored fuel inputs = record { stored = stored; fuel = fuel; inputs = inputs }

module _ {source tree : List ℕ} {task : Task} {k o : ℕ} (g : Known source tree task k o) where
  abbrev p : Program
  p = program_of g.stored.says

  machine : machine_in tree task ≡ machine_of p
  machine =
      same_machine (program_in tree task) p task.inputs (sym g.stored.initial) (sym (g.stored.body task.left g.fuel))
      (g.inputs ∙ ap (λ (x : ℕ). 2 ^ x) (sym g.stored.inputs))

  module _ {l : List ℕ} {n : ℕ} (f : Found (machine_in tree task) task.room l n) where
    abbrev L : List State
    L = states_in l n

    abbrev t : Table
    t = table_from l k o n

    numbers : Numbering (machine_of p) L
    numbers = subst (λ (m : Machine State). Numbering m L) machine f.numbers

    follows : Follows (machine_of p) L (next_in l)
    follows = subst (λ (m : Machine State). Follows m L (next_in l)) machine f.follows

    below : (i : ℕ) → i < length L → i < n
    below i h = omega (arith, states-length l n)

    row_is : (i : ℕ) → i < n → row_of t i ≡ row_from l k o i
    unfolding table_from
    row_is i h = get_or-listed (row_from l k o) n 0 no_row i h ∙ ap (row_from l k o) (let z : 0 + i ≡ i = omega arith in z)

    next_is : (i x : ℕ) → i < n → x < 2 ^ k → next_of t i x ≡ next_in l i x
    next_is i x h b =
        ap (λ (r : Row). get_or r.nexts x 0) (row_is i h) ∙ get_or-listed (next_in l i) (2 ^ k) 0 0 x b ∙ ap (next_in l i) (let z : 0 + x ≡ x = omega arith in z)

    shows : (i : ℕ) → i < n → file.outputs_of t i ≡ outputs_of p (get_or L i (start_state p))
    unfolding outputs_of
    shows i h =
        ap (λ (r : Row). r.outputs) (row_is i h) ∙ ap (λ (x : ℕ). (row_in l i).word % 2 ^ x) (sym g.stored.outputs)
        ∙ ap (λ (s : State). s.word % 2 ^ p.outputs) (sym (states_at l n i (start_state p) h))

    inputs_of : (machine_of p).inputs ≡ 2 ^ k
    inputs_of = sym (ap (λ (m : Machine State). m.inputs) machine) ∙ g.inputs

    tabled : Tabled p L t
    unfolding table_from
    tabled =
        record {
          inputs = sym g.stored.inputs;
          outputs = sym g.stored.outputs;
          size = length-listed (row_from l k o) n 0 ∙ sym (states-length l n);
          wide =
              λ i h. ap (λ (r : Row). length r.nexts) (row_is i (below i h)) ∙ length-listed (next_in l i) (2 ^ k) 0 ∙ ap (λ (x : ℕ). 2 ^ x) (sym g.stored.inputs);
          shows = λ i h. shows i (below i h);
          leads = λ i x h b. leads i x h (subst (λ (y : ℕ). x < 2 ^ y) g.stored.inputs b);
        }
      where
        leads : (i x : ℕ) → i < length L → x < 2 ^ k → Next (machine_of p) L i x (next_of t i x)
        leads i x h b =
            subst (Next (machine_of p) L i x) (sym (next_is i x (below i h) b)) (follows i x h (subst (λ (y : ℕ). x < y) (sym inputs_of) b))

    filed : FileOf g.stored.says L (file_of (stream_from l k o n))
    unfolding stream_from
    filed = record { table = t; numbers = numbers; tabled = tabled; bytes = refl }

    fits : length L ≤ task.room
    fits = omega (arith, states-length l n, f.fits)

    pub small : {work buffer : List ℕ} → Ready (lent source task.room work buffer) → length work ≤ 16384 + length l → Small l k o n
    small r e =
        record { inputs = k_small g.stored; outputs = o_small g.stored; states = omega (arith, f.fits, r.room.few); area = omega (arith, f.fits, r.work) }

    module _ {work buffer : List ℕ} (ready : Ready (lent source task.room work buffer)) where
      pub ends-short : length buffer < length (file_of (stream_from l k o n)) → Compiles (lent source task.room work buffer) (ended (refusal cause.Buffer 0) (all_zero work) buffer)
      ends-short h = twelve ready g.stored.reads filed fits h

      pub ends-made : (b : ℕ) (after : List ℕ) → length (file_of (stream_from l k o n)) ≤ length buffer
          → after ≡ file_of (stream_from l k o n) ++ drop (length (file_of (stream_from l k o n))) buffer → length (file_of (stream_from l k o n)) ≡ 512 * b
          → Compiles (lent source task.room work buffer) (ended (file_made n b) (all_zero work) after)
      ends-made b after h e w =
          let q : length (file_of (stream_from l k o n)) / 512 ≡ b = omega arith in
          subst (λ (x : List ℕ). Compiles (lent source task.room work buffer) (ended (file_made n b) (all_zero work) x)) (sym e)
          (subst (λ (x : ℕ). Compiles (lent source task.room work buffer) (ended (file_made x b) (all_zero work) whole)) (states-length l n)
          (subst (λ (x : ℕ). Compiles (lent source task.room work buffer) (ended (file_made (length L) x) (all_zero work) whole)) q
          (made ready g.stored.reads filed fits h)))
        where
          whole : List ℕ
          whole = file_of (stream_from l k o n) ++ drop (length (file_of (stream_from l k o n))) buffer

  pub ends_over : {work buffer : List ℕ} → Ready (lent source task.room work buffer) → TooMany (machine_in tree task) task.room
      → Compiles (lent source task.room work buffer) (ended (refusal cause.States 0) (all_zero work) buffer)
  ends_over ready t = eleven ready g.stored.reads (subst (λ (m : Machine State). TooMany m task.room) machine t)

  pub sized : {work buffer area : List ℕ} → Ready (lent source task.room work buffer) → length work ≤ 16384 + length area → Sized (machine_in tree task) task.room area
  sized r e = record { few = r.room.few; inputs = omega (arith, g.inputs, few); area = omega (arith, r.work) }
    where
      few : 2 ^ k ≤ 64
      few = pow_mono {j = 6} (k_small g.stored)

-- ---- the work area

-- only its length counts
pub ready_for : {source work buffer : List ℕ} {room : ℕ} (other : List ℕ) → length other ≡ length work → Ready (lent source room work buffer) → Ready (lent source room other buffer)
ready_for other e r = record { room = r.room; work = omega (arith, r.work) }

-- the part behind the tree
pub behind-long : (at : ℕ) (work : List ℕ) → at ≤ 16384 → length work ≤ 16384 + length (drop at work)
behind-long at work h = omega (arith, length-drop at work)

searched_long : (m : Machine State) (room : ℕ) (l k : List ℕ) (r : Option ℕ) → Searched m room l r k → length k ≡ length l
searched_long m room l k (Some n) x = x.1
searched_long m room l k None x = x.1

-- .. given back after the search
pub searched_back : (m : Machine State) (room n : ℕ) (xs ys : List ℕ) (h : n ≤ length xs) (r : Option ℕ) → Searched m room (take (length xs - n) (drop n xs)) r ys
    → Searched m room (drop n xs) r (drop n (back n xs ys h)) × (length (back n xs ys h) ≡ length xs)
searched_back m room n xs ys h r x =
    let whole : Searched m room (drop n xs) r ys = subst (λ (l : List ℕ). Searched m room l r ys) (whole-rest n xs) x in
    (subst (Searched m room (drop n xs) r) (sym (back-rest n xs ys h)) whole, back_long n xs ys h (searched_long m room (drop n xs) ys r whole))

-- ---- what the callees say, and what follows

-- a fault that was read
pub fault-ends : (source area : List ℕ) (r : Refusal ℕ) {room : ℕ} {work buffer : List ℕ} → ReadDone source area (Err r)
    → Ready (lent source room work buffer) → EndsSo source room (length work) buffer (Err r) buffer
fault-ends source area r d ready w h = fault (ready_for w h ready) d

module _ {source tree : List ℕ} {task : Task} {k o : ℕ} (g : Known source tree task k o) {work buffer : List ℕ} (ready : Ready (lent source task.room work buffer))
    (area l : List ℕ) where
  -- more states than the room
  pub over_so : Searched (machine_in tree task) task.room area None l → EndsSo source task.room (length work) buffer (refusal cause.States 0) buffer
  over_so s w h = ends_over g (ready_for w h ready) s.0

  module _ (n : ℕ) (s : Searched (machine_in tree task) task.room area (Some n) l) where
    pub few-states : n < 65536
    few-states = omega (arith, s.0.fits, ready.room.few)

    pub small-so : length work ≤ 16384 + length area → Small l k o n
    small-so behind = small g s.0 ready (omega (arith, behind, s.1))

    -- a buffer that is too short
    pub short-so : (after : List ℕ) → Wrote buffer (file_of (stream_from l k o n)) None after → EndsSo source task.room (length work) buffer (refusal cause.Buffer 0) after
    short-so after w x h = rw w.1 (ends-short g s.0 (ready_for x h ready) w.0)

    -- a file
    pub made_so : (after : List ℕ) (b : ℕ) → Wrote buffer (file_of (stream_from l k o n)) (Some b) after → EndsSo source task.room (length work) buffer (file_made n b) after
    made_so after b w x h = ends-made g s.0 (ready_for x h ready) b after w.0 w.1 w.2
