-- The start is reachable, and so is where an input leads from a reachable state.
-- Assumes nothing.
use mathlib.Core.Path.{◌≡◌, refl, ap, ◌∙◌}
use mathlib.Core.List.{List, [], ◌∷◌, ◌++◌}
use Prim.Native.Nat.{ℕ, ◌<◌}
use Rattle.reach_law.specs.Machine.{Machine, Inputs, run, Reach}

inputs_snoc : (k : ℕ) (w : List ℕ) (x : ℕ) → Inputs k w → x < k → Inputs k (w ++ (x ∷ []))
inputs_snoc k [] x a h = (h, tt)
inputs_snoc k (y ∷ w) x a h = (a.0, inputs_snoc k w x a.1 h)

module _ {S : Type 0} (m : Machine S) where
  run_snoc : (s : S) (w : List ℕ) (x : ℕ) → run m s (w ++ (x ∷ [])) ≡ m.step (run m s w) x
  run_snoc s [] x = refl
  run_snoc s (y ∷ w) x = run_snoc (m.step s y) w x

  pub reach_start : Reach m m.start
  reach_start = record { by = []; inputs = tt; leads = refl }

  pub reach_step : {s : S} (x : ℕ) → x < m.inputs → Reach m s → Reach m (m.step s x)
  reach_step x h r =
      record {
        by = r.by ++ (x ∷ []);
        inputs = inputs_snoc m.inputs r.by x r.inputs h;
        leads = run_snoc m.start r.by x ∙ ap (λ (t : S). m.step t x) r.leads;
      }
