-- Items without a fault, and what that says of each.
-- Assumes nothing.
use mathlib.Core.Bool.{Bool, true, false, not as opposite}
use mathlib.Core.Path.{◌≡◌, refl, sym, ◌∙◌, subst}
use mathlib.Core.List.{List, [], ◌∷◌, ◌++◌}
use mathlib.Core.Option.{Option, none, some}
use Prim.Native.Nat.{ℕ, zero, suc, ◌≤◌, ◌<◌}
use native.Mathlib.Omega.{arith}
use lib.Dec.{ltb}
use borrow.Author.Tests.{ltb-true, ltb-false}
use Rattle.meaning.specs.Tree.{Name, Expr, whole, part}
use Rattle.meaning.specs.Numbers.{Variable, input, boolean, integer}
use Rattle.meaning.specs.Tries.{bit_at}
use Rattle.meaning.specs.Declared.{Declaration}
use Rattle.meaning.specs.Items.{Item, own, parts_of}
use Rattle.meaning.specs.Names.{gather, when, unknown, names_in}
use Rattle.meaning.specs.Kinds.{both, changeable, assignable, has_bit, item_kind, part_kind}
use Rattle.meaning.specs.Sizes.{most_delay, item_size}
use Rattle.meaning.specs.States.{most_activities}
use Rattle.meaning.specs.Worst.{part_worst}
use Rattle.meaning.specs.Checked.{known}
use Rattle.meaning.proofs.Declared.{when-none}
use Rattle.meaning.proofs.Lists.{not_empty, none_both, none-cons}
use Rattle.nodes.specs.Decode.{target_by}
use Rattle.nodes.specs.Good.{GoodAssign}
use Rattle.nodes.specs.Fit.{is_whole, Fit, size_of}
use Rattle.parts.specs.Sum.{number_of, width_of}
use Rattle.expr_law.proofs.Least.{gather_append}
use Rattle.expr_law.proofs.Placed.{PlacedVariable}
use Rattle.kept_law.specs.Kept.{Every}
use Rattle.stmts_law.proofs.Faults.{SmallItem}

pub record Right (ds : List Declaration) (x : Item) : Type 0 where
  pub kind : item_kind ds x ≡ []
  pub size : item_size x ≡ []
  pub names : gather (unknown ds) (gather names_in (own x)) ≡ []
  pub kinds : gather (part_kind ds) (own x) ≡ []
  pub worst : gather (part_worst ds) (own x) ≡ []
  pub small : SmallItem x

module _ (ds : List Declaration) where
  -- each item is right where there is no fault among all
  pub all_right : (is : List Item) → gather (item_kind ds) is ≡ [] → gather item_size is ≡ [] → gather (unknown ds) (gather names_in (parts_of is)) ≡ [] → gather (part_kind ds) (parts_of is) ≡ [] → gather (part_worst ds) (parts_of is) ≡ []
      → Every SmallItem is → Every (Right ds) is
  unfolding parts_of
  all_right [] a b c d e f = tt
  all_right (x ∷ is) a b c d e f =
      let (a₁, a₂) = none-cons (item_kind ds) x is a in
      let (b₁, b₂) = none-cons item_size x is b in
      let (c₁, c₂) = named (own x) (parts_of is) c in
      let (d₁, d₂) = none_both (part_kind ds) (own x) (parts_of is) d in
      let (e₁, e₂) = none_both (part_worst ds) (own x) (parts_of is) e in
      (record { kind = a₁; size = b₁; names = c₁; kinds = d₁; worst = e₁; small = f.0 }, all_right is a₂ b₂ c₂ d₂ e₂ f.1)
    where
      named : (a b : List (Expr Name)) → gather (unknown ds) (gather names_in (a ++ b)) ≡ [] → (gather (unknown ds) (gather names_in a) ≡ []) × (gather (unknown ds) (gather names_in b) ≡ [])
      named a b e = none_both (unknown ds) (gather names_in a) (gather names_in b) (subst (λ (l : List Name). gather (unknown ds) l ≡ []) (gather_append names_in a b) e)

opposite_false : (t : Bool) → opposite t ≡ false → t ≡ true
opposite_false true e = refl
opposite_false false e = sym e

-- "delay 255"
pub delay-low : (n p : ℕ) → when (ltb most_delay n) p ≡ [] → n ≤ 255
delay-low n p e = ltb-false 255 n (when-none (ltb most_delay n) p e)

-- activities at most 8
pub sum_low : (n p : ℕ) → when (ltb most_activities n) p ≡ [] → n ≤ 8
sum_low n p e = ltb-false 8 n (when-none (ltb most_activities n) p e)

-- a changed boolean, and a changed bit
pub whole_is : (o : Option Variable) (p : ℕ) → PlacedVariable o → when (opposite (changeable o)) p ≡ [] → (whole (known o) ≡ target_by (width_of o) (number_of o) 0) × (bit_at (whole (known o)) < 32)
whole_is none p f e = absurd (not_empty e)
whole_is (some (input i)) p f e = absurd (not_empty e)
whole_is (some (boolean j)) p f e = (refl, f)
whole_is (some (integer low width)) p f e = absurd (not_empty e)

pub part_is : (o : Option Variable) (j p : ℕ) → PlacedVariable o → when (opposite (has_bit o j)) p ≡ [] → (part (known o) j ≡ target_by (width_of o) (number_of o) j) × (bit_at (part (known o) j) < 32)
part_is none j p f e = absurd (not_empty e)
part_is (some (input i)) j p f e = absurd (not_empty e)
part_is (some (boolean b)) j p f e = absurd (not_empty e)
part_is (some (integer low zero)) j p f e = absurd (omega (arith, f.0))
part_is (some (integer low (suc w))) j p f e =
    let h = ltb-true j (suc w) (opposite_false (ltb j (suc w)) (when-none (opposite (ltb j (suc w))) p e)) in
    (refl, omega (arith, f.2))

-- an assigned integer
pub assign-right : (o : Option Variable) (k : Bool) (p : ℕ) → PlacedVariable o → when (opposite (both (assignable o) k)) p ≡ [] → (x : Expr Variable) → is_whole x ≡ k → size_of x < 2147483648 → Fit x
    → (known o ≡ integer (number_of o) (width_of o)) × GoodAssign (integer (number_of o) (width_of o)) x
assign-right none k p f e x w s t = absurd (not_empty e)
assign-right (some (input i)) k p f e x w s t = absurd (not_empty e)
assign-right (some (boolean j)) k p f e x w s t = absurd (not_empty e)
assign-right (some (integer low width)) k p f e x w s t = (refl, (f.2, (f.1, (f.0, (s, (w ∙ opposite_false k (when-none (opposite k) p e), t))))))
