-- The struct in hand holds the state after so many inputs.
-- Assumes nothing.
use mathlib.Core.Path.{◌≡◌, refl, sym, ap, ◌∙◌, subst}
use mathlib.Core.List.{List}
use Prim.Native.Nat.{ℕ, zero, suc, ◌+◌, ◌*◌, ◌%◌, ◌≤◌}
use native.Mathlib.Numerals.{add-one}
use lib.ListN.{length, get_or}
use Rattle.meaning.specs.States.{Program, step_state}
use Rattle.meaning.specs.States as meaning
use Rattle.meaning.specs.Checked.{program_of}
use Rattle.language.specs.Texts.{good, refused, Reads}
use Rattle.nodes.specs.Decode.{list_at}
use Rattle.stored.specs.Stored.{Stored}
use Rattle.clock.specs.Step.{state_of, state_from, Starts, Clocks}
use Rattle.clock.specs.declared.State.{State}
use Rattle.clock.specs.declared.Clocked.{Clocked}
use Rattle.clock.proofs.Canon.{state-back, step-long, start-long}
use Rattle.clock_c.specs.Ran.{after, Ran, RunsTo}

-- after i inputs s is the struct of each program's state
pub record Stands (tree : List ℕ) (n left word : ℕ) (inputs : List ℕ) (s : State) (i : ℕ) : Type 0 where
  pub holds : (p : Program) → p.body ≡ list_at left tree 0 n → p.initial ≡ word → s ≡ state_of (after p inputs i)

after-long : (p : Program) (inputs : List ℕ) (i : ℕ) → length (after p inputs i).entries ≡ 8
after-long p inputs zero = start-long p
after-long p inputs (suc i) = step-long p (after p inputs i) (get_or inputs i 0 % 64)

module _ {tree inputs : List ℕ} {n left word : ℕ} where
  pub stands-first : {s : State} → 3 * n ≤ left → Starts n word s → Stands tree n left word inputs s 0
  stands-first h c = record { holds = λ p b w. c.first tree left p h b w }

  stands-suc : {s : State} {i : ℕ} {r : Clocked} → Stands tree n left word inputs s i → Clocks tree n left s (get_or inputs i 0 % 64) r → Stands tree n left word inputs r.state (suc i)
  stands-suc {s} {i} v c =
      record {
        holds = λ p b w.
            c.next p b ∙ ap (λ (x : State). state_of (step_state p (state_from x) (get_or inputs i 0 % 64))) (v.holds p b w)
            ∙ ap (λ (m : meaning.State). state_of (step_state p m (get_or inputs i 0 % 64))) (state-back (after p inputs i) (after-long p inputs i));
      }

  pub stands-next : {s : State} {i x : ℕ} {r : Clocked} → Stands tree n left word inputs s i → x ≡ get_or inputs i 0 % 64 → Clocks tree n left s x r → Stands tree n left word inputs r.state (i + 1)
  stands-next {s} {i} {x} {r} v e c =
      subst (Stands tree n left word inputs r.state) (sym (add-one i)) (stands-suc v (subst (λ (y : ℕ). Clocks tree n left s y r) e c))

  pub stands-last : {s : State} {i : ℕ} → Stands tree n left word inputs s i → i ≡ length inputs → RunsTo tree n left word inputs s.word
  stands-last {s} v e =
      let u = subst (Stands tree n left word inputs s) e v in
      record { last = λ p b w. ap (λ (x : State). x.word) (u.holds p b w) }

pub ran_refused : {text inputs : List ℕ} {number place : ℕ} → Reads text (refused number place) → Ran text inputs 0
ran_refused {number} {place} h = record { reading = refused number place; reads = h; is = refl }

pub ran_good : {text tree inputs : List ℕ} {n k o word r : ℕ} (left : ℕ) → 3 * n ≤ left → Stored text tree n k o word → RunsTo tree n left word inputs r → Ran text inputs r
ran_good left h g q =
    record {
      reading = good g.says;
      reads = g.reads;
      is = q.last (program_of g.says) (g.body left h) g.initial;
    }
