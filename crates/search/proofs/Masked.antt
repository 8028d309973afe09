-- The masks of a row, one more at a time.
-- Assumes nothing.
use mathlib.Core.Path.{◌≡◌, sym, ◌∙◌, subst}
use mathlib.Core.List.{List}
use Prim.Native.Nat.{ℕ, ◌+◌, ◌<◌}
use Rattle.std.specs.Prelude.{Some}
use lib.ListN.{length, get_or, set}
use lib.Seq.{get_or-set_same, get_or-set_other}
use native.Mathlib.Omega.{arith}
use Rattle.reach_law.specs.Machine.{Machine}
use Rattle.meaning.specs.States.{State}
use borrow.Author.Count.{below_more}
use Rattle.search.specs.Masks.{Unseen, Masks, Earlier}

module _ (m : Machine State) (s : State) (masks : List ℕ) (x : ℕ) (old : Masks m s masks x) (long : length masks ≡ 64) (h : x < 64) where
  pub masks_more : (v : ℕ) → Unseen m.step s x v → Masks m s (set masks x v) (x + 1)
  masks_more v u =
      below_more (λ (y : ℕ). Unseen m.step s y (get_or (set masks x v) y 0)) x
      (λ y b. subst (Unseen m.step s y) (sym (get_or-set_other masks x y v 0 (λ z. omega arith))) (old y b))
      (subst (Unseen m.step s x) (sym (get_or-set_same masks x v 0 (omega arith))) u)

  -- x leads where p does
  pub leads-alike : (p : ℕ) → Earlier masks x (Some p) → m.step s x ≡ m.step s p
  leads-alike p e = old p e.0 x h e.1

  -- .. and so does what agrees with x on p's mask
  pub mask-alike : (p : ℕ) → Earlier masks x (Some p) → Unseen m.step s x (get_or masks p 0)
  mask-alike p e y c q = old p e.0 y c (q ∙ e.1) ∙ sym (leads-alike p e)
