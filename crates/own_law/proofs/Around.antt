-- An expansion counted with levels open around it: over where it is so by itself, or where a level too many opens there (P12, P13).
-- Assumes nothing.
use mathlib.Core.Bool.{Bool, true, false, cond, not as opposite}
use mathlib.Core.Path.{◌≡◌, refl, sym, ◌∙◌, ap}
use mathlib.Core.List.{List}
use Prim.Native.Nat.{ℕ, ◌+◌, ◌≤◌}
use native.Mathlib.Omega.{arith}
use lib.Dec.{ltb, leb}
use borrow.Author.Tests.{le-leb, leb-true, leb-false, lt-ltb, le-ltb}
use Rattle.meaning.specs.Kinds.{both}
use Rattle.meaning.specs.Sizes.{most_statements, most_parts}
use Rattle.meaning.specs.Levels.{most_levels}
use Rattle.meaning.specs.Items.{Item, items_all}
use Rattle.meaning.specs.Unexpanded.{Commands}
use Rattle.meaning.specs.Base.{base_all}
use Rattle.meaning.proofs.Depth.{depth_all}
use Rattle.own_law.specs.Own.{Own, nothing, past, own_all}
use Rattle.own_law.proofs.Borne.{is_none, bears, Sound, made}
use Rattle.own_law.proofs.Own.{statements_in, parts_in, too_large, all-adds}

-- nothing is counted, and so many levels are open
abbrev pub around : ℕ → Own
around n = made 0 0 n false

around-sound : (n : ℕ) → n ≤ most_levels → Sound true (around n)
unfolding bears
around-sound n h = ap (λ (k : Bool). cond (both true (both k true)) (around n) past) (le-leb (n + 0) most_levels (omega (arith, h)))

module _ (x : Commands) where
  abbrev items : List Item
  items = items_all (base_all x)

  -- statements, parts and what is too large, but not the levels
  abbrev others : Bool
  others = both (leb (0 + statements_in items) most_statements) (leb (0 + parts_in items) most_parts)

  over_is : (n : ℕ) → n ≤ most_levels → (own_all true x (around n)).over ≡ opposite (both others (both (leb (n + depth_all x) most_levels) (is_none (too_large items))))
  unfolding bears
  over_is n h = ap (λ (o : Own). o.over) ((all-adds true x).to (around n) (around-sound n h)) ∙ by (both others (both (leb (n + depth_all x) most_levels) (is_none (too_large items))))
    where
      by : (k : Bool) → (cond k (made (0 + statements_in items) (0 + parts_in items) n false) past).over ≡ opposite k
      by true = refl
      by false = refl

  fit : (a b c d : Bool) → opposite (both a (both b c)) ≡ false → (a ≡ true) × ((b ≡ true) × (c ≡ true))
  fit true true true d e = (refl, (refl, refl))
  fit true true false d e = absurd (let z : ◌≡◌ {A = ℕ} 0 1 = cc in omega arith)
  fit true false c d e = absurd (let z : ◌≡◌ {A = ℕ} 0 1 = cc in omega arith)
  fit false b c d e = absurd (let z : ◌≡◌ {A = ℕ} 0 1 = cc in omega arith)

  -- not over there: nor by itself, and no level too many opens
  pub within-around : (n : ℕ) → n ≤ most_levels → (own_all true x (around n)).over ≡ false → ((own_all true x nothing).over ≡ false) × (ltb most_levels (n + depth_all x) ≡ false)
  within-around n h e =
      let (a, (b, c)) = fit others (leb (n + depth_all x) most_levels) (is_none (too_large items)) true (sym (over_is n h) ∙ e) in
      let small : n + depth_all x ≤ most_levels = leb-true (n + depth_all x) most_levels b in
      let k : leb (0 + depth_all x) most_levels ≡ true = le-leb (0 + depth_all x) most_levels (omega (arith, small)) in
      (over_is 0 (omega arith) ∙ rw (a, k, c) refl, le-ltb most_levels (n + depth_all x) small)

  -- over there and not by itself: a level too many opens
  pub deep-around : (n : ℕ) → n ≤ most_levels → (own_all true x nothing).over ≡ false → (own_all true x (around n)).over ≡ true → ltb most_levels (n + depth_all x) ≡ true
  deep-around n h e f =
      let (a, (b, c)) = fit others (leb (0 + depth_all x) most_levels) (is_none (too_large items)) true (sym (over_is 0 (omega arith)) ∙ e) in
      by (leb (n + depth_all x) most_levels) refl (sym f ∙ over_is n h ∙ rw (a, c) refl)
    where
      by : (k : Bool) → leb (n + depth_all x) most_levels ≡ k → true ≡ opposite (both true (both k true)) → ltb most_levels (n + depth_all x) ≡ true
      by true e g = absurd (let z : ◌≡◌ {A = ℕ} 0 1 = cc in omega arith)
      by false e g = lt-ltb most_levels (n + depth_all x) (omega (arith, leb-false (n + depth_all x) most_levels e))

  -- a statement or a part too many is one there too
  pub counts-around : (n : ℕ) → n ≤ most_levels → (own_all false x (around n)).over ≡ true → (own_all true x (around n)).over ≡ true
  unfolding bears
  counts-around n h e =
      over_is n h ∙ by others (is_none (too_large items)) (sym (ap (λ (o : Own). o.over) ((all-adds false x).to (around n) (around-counts n))) ∙ e)
    where
      around-counts : (k : ℕ) → Sound false (around k)
      around-counts k = refl

      by : (a c : Bool) → (cond (both a true) (made (0 + statements_in items) (0 + parts_in items) n false) past).over ≡ true → opposite (both a (both (leb (n + depth_all x) most_levels) c)) ≡ true
      by true c f = absurd (let z : ◌≡◌ {A = ℕ} 0 1 = cc in omega arith)
      by false c f = refl
