-- P13: whether an outermost call passes a size by itself, told without its expansion: by the counts up to their limits, by the walk for delays and activities, and by its levels.
-- Assumes nothing.
use mathlib.Core.Path.{◌≡◌, sym, ap₂, subst, ◌∙◌}
use mathlib.Core.Logic.{◌↔◌}
use mathlib.Core.List.{List, [], ◌++◌, map}
use Prim.Native.Nat.{ℕ, ◌≤◌}
use native.Mathlib.Omega.{arith}
use Rattle.meaning.specs.Tree.{Name}
use Rattle.meaning.specs.Items.{items_all}
use Rattle.meaning.specs.Names.{gather}
use Rattle.meaning.specs.Sizes.{most_statements, most_parts, statements_over, parts_over, item_size, body_sizes}
use Rattle.meaning.specs.Unexpanded.{Term, Commands, Procedure}
use Rattle.meaning.specs.Levels.{most_levels, level_faults}
use Rattle.meaning.specs.Base.{base_all}
use Rattle.meaning.specs.Expansion.{called, sizes_passed}
use Rattle.meaning.proofs.Lists.{both-empty}
use Rattle.meaning.proofs.Summaries.{summary}
use Rattle.meaning.proofs.Passing.{statements_up_to, parts_up_to, cut_right}
use Rattle.expand_law.specs.Accounts.{Account, known}
use Rattle.expand_law.specs.Walks.{called_by}
use Rattle.expand_law.specs.Sizes.{level_walk, size_walk}
use Rattle.expand_law.proofs.Sizes.{call-levels, levels_exactly, call-sizes}

module _ {A : Type 0} (f : Account A) (ps : List Procedure) (v : Name) (ts : List Term) where
  abbrev expansion : Commands
  expansion = called ps v.place v ts

  -- within every size
  pub record Within : Type 0 where
    pub statements : statements_up_to ps v.bytes (map summary ts) ≤ most_statements
    pub parts : parts_up_to ps v.bytes (map summary ts) ≤ most_parts
    pub sizes : (called_by f size_walk ps v.place v.bytes (map (known f) ts)).places ≡ []
    pub levels : called_by f level_walk ps v.place v.bytes (map (known f) ts) ≤ most_levels

  there : sizes_passed expansion ≡ [] → Within
  there e =
      let (b, l) = both-empty (body_sizes (base_all expansion)) (level_faults 0 expansion) e in
      let (s, r) = both-empty (statements_over (base_all expansion)) (parts_over (base_all expansion) ++ gather item_size (items_all (base_all expansion))) b in
      let (p, i) = both-empty (parts_over (base_all expansion)) (gather item_size (items_all (base_all expansion))) r in
      let (few, small) = (cut_right ps v.place v ts).0 (ap₂ ◌++◌ s p) in
      record {
        statements = few;
        parts = small;
        sizes = sym (call-sizes f ps v ts) ∙ i;
        levels = subst (λ (n : ℕ). n ≤ most_levels) (call-levels f ps v ts) (omega (arith, (levels_exactly 0 expansion (omega arith)).0 l));
      }

  back : Within → sizes_passed expansion ≡ []
  back w =
      let (s, p) = both-empty (statements_over (base_all expansion)) (parts_over (base_all expansion)) ((cut_right ps v.place v ts).1 (w.statements, w.parts)) in
      let i = call-sizes f ps v ts ∙ w.sizes in
      let l = (levels_exactly 0 expansion (omega arith)).1 (omega (arith, call-levels f ps v ts, w.levels)) in
      ap₂ ◌++◌ (ap₂ ◌++◌ s (ap₂ ◌++◌ p i)) l

  pub within_exactly : (sizes_passed expansion ≡ []) ↔ Within
  within_exactly = (there, back)
