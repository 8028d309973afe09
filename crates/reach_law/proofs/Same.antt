-- Reachability, count, numbering and answer depend on behaviour alone.
-- Assumes nothing.
use mathlib.Core.Path.{◌≡◌, refl, sym, ap, ◌∙◌, subst}
use mathlib.Core.Option.{Option, none, some}
use mathlib.Core.List.{List, [], ◌∷◌}
use Prim.Native.Nat.{ℕ, ◌<◌}
use lib.ListN.{length, get_or}
use native.Mathlib.Omega.{arith}
use Rattle.reach_law.specs.Machine.{Machine, Inputs, run, Reach, Same}
use Rattle.reach_law.specs.Count.{Lists, Counted, TooMany}
use Rattle.reach_law.specs.Numbering.{FirstMet, Numbering, Answers}
use Rattle.reach_law.specs.Search.{find}
use Rattle.reach_law.proofs.Lists.{get_or_mem}
use Rattle.reach_law.proofs.Order.{before-low}
use Rattle.reach_law.proofs.Reached.{reach_start, reach_step}
use Rattle.reach_law.proofs.Unique.{one_answer}
use Rattle.reach_law.proofs.Found.{find-answers}

module _ {S : Type 0} {m n : Machine S} (e : Same m n) where
  run-same : (w : List ℕ) (s : S) → Reach m s → Inputs m.inputs w → run m s w ≡ run n s w
  run-same [] s r k = refl
  run-same (x ∷ w) s r k = run-same w (m.step s x) (reach_step m x k.0 r) k.1 ∙ ap (λ (t : S). run n t w) (e.step s r x k.0)

  run-start : (w : List ℕ) → Inputs m.inputs w → run m m.start w ≡ run n n.start w
  run-start w k = run-same w m.start (reach_start m) k ∙ ap (λ (t : S). run n t w) e.start

  pub reach_same : {s : S} → Reach m s → Reach n s
  reach_same r =
      record { by = r.by; inputs = subst (λ (k : ℕ). Inputs k r.by) e.inputs r.inputs; leads = sym (run-start r.by r.inputs) ∙ r.leads }

  pub reach_back : {s : S} → Reach n s → Reach m s
  reach_back r =
      let k : Inputs m.inputs r.by = subst (λ (k : ℕ). Inputs k r.by) (sym e.inputs) r.inputs in
      record { by = r.by; inputs = k; leads = run-start r.by k ∙ r.leads }

  lists-same : {L : List S} → Lists m L → Lists n L
  lists-same l = record { apart = l.apart; sound = λ s h. reach_same (l.sound s h); whole = λ s r. l.whole s (reach_back r) }

  pub counted_same : {k : ℕ} → Counted m k → Counted n k
  counted_same c = record { states = c.states; lists = lists-same c.lists; size = c.size }

  pub too_many-same : {room : ℕ} → TooMany m room → TooMany n room
  too_many-same t = record { states = t.states; apart = t.apart; sound = λ s h. reach_same (t.sound s h); above = t.above }

  module _ {L : List S} (u : Numbering m L) where
    step_same : (i x : ℕ) → i < length L → x < m.inputs → n.step (get_or L i n.start) x ≡ m.step (get_or L i m.start) x
    step_same i x h k =
        rw (← e.start) (sym (e.step (get_or L i m.start) (u.lists.sound (get_or L i m.start) (get_or_mem L i m.start h)) x k))

    met-same : (j : ℕ) → j < length L → FirstMet m L j → FirstMet n L j
    met-same j h f =
        record {
          from = f.from;
          by = f.by;
          earlier = f.earlier;
          input = omega (arith, f.input, e.inputs);
          meets = step_same f.from f.by (omega (arith, f.earlier)) f.input ∙ f.meets ∙ ap (get_or L j) e.start;
          first = λ i x k b.
              rw (step_same i x (omega (arith, f.earlier, before-low b)) (omega (arith, e.inputs))) (f.first i x (omega (arith, e.inputs)) b);
        }

    pub numbering_same : Numbering n L
    numbering_same =
        record {
          lists = lists-same u.lists;
          begins = (u.begins.0, u.begins.1 ∙ ap (λ (s : S). s ∷ u.begins.0) e.start);
          met = λ j pos h. met-same j h (u.met j pos h);
        }

  pub answers-same : (room : ℕ) (a : Option (List S)) → Answers m room a → Answers n room a
  answers-same room none t = too_many-same t
  answers-same room (some L) (u, h) = (numbering_same u, h)

  pub find-same : (dec : (a b : S) → Dec (a ≡ b)) (room : ℕ) → find dec m room ≡ find dec n room
  find-same dec room = one_answer n room (find dec m room) (find dec n room) (answers-same room (find dec m room) (find-answers dec m room)) (find-answers dec n room)

-- behaving alike goes both ways
pub same_back : {S : Type 0} {m n : Machine S} → Same m n → Same n m
same_back e =
    record {
      start = sym e.start;
      inputs = sym e.inputs;
      step = λ s r x h. sym (e.step s (reach_back e r) x (omega (arith, e.inputs)));
    }
