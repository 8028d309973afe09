-- What the clock says, of the machine that a tree holds.
-- Assumes nothing.
use mathlib.Core.Path.{◌≡◌, refl, ap, ◌∙◌}
use mathlib.Core.List.{List}
use Prim.Native.Nat.{ℕ, ◌*◌, ◌≤◌}
use lib.ListN.{length, length-map}
use Rattle.meaning.specs.States.{State, start_state, step_state}
use Rattle.runs.specs.Run.{entry_of}
use Rattle.clock.specs.Step.{state_of, state_from, Canon, Starts, Clocks}
use Rattle.clock.specs.declared.State as code
use Rattle.clock.specs.declared.Clocked.{Clocked}
use Rattle.clock.proofs.Canon.{state-back, canon_of, step-long, start-long}
use Rattle.search.specs.Machine.{program_in, machine_in}
use Rattle.search.specs.Masks.{Unseen}
use Rattle.search.specs.declared.Task.{Task}

-- a struct that holds the state m
pub record Holds (s : code.State) (m : State) : Type 0 where
  pub eight : length s.entries ≡ 8
  pub canon : Canon s
  pub holds : state_from s ≡ m

holds_of : (s : code.State) (m : State) → length m.entries ≡ 8 → s ≡ state_of m → Holds s m
holds_of s m e q =
    record {
      eight = ap (λ (x : code.State). length x.entries) q ∙ length-map m.entries entry_of ∙ e;
      canon = rw q (canon_of m e);
      holds = ap state_from q ∙ state-back m e;
    }

module _ (t : List ℕ) (k : Task) where
  pub step-holds : {s : code.State} {x : ℕ} {r : Clocked} → Clocks t k.count k.left s x r → Holds r.state ((machine_in t k).step (state_from s) x)
  step-holds {s} {x} {r} c =
      holds_of r.state (step_state (program_in t k) (state_from s) x) (step-long (program_in t k) (state_from s) x) (c.next (program_in t k) refl)

  pub step-unseen : {s : code.State} {x : ℕ} {r : Clocked} → Clocks t k.count k.left s x r → Unseen (machine_in t k).step (state_from s) x r.looked
  step-unseen c = c.unseen (program_in t k) refl

  pub start-holds : {r : code.State} → 3 * k.count ≤ k.left → Starts k.count k.word r → Holds r (machine_in t k).start
  start-holds {r} h c =
      holds_of r (start_state (program_in t k)) (start-long (program_in t k)) (c.first t k.left (program_in t k) h refl refl)
