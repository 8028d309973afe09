-- What is noted and written of calls that are not expanded.
-- Assumes nothing.
use Rattle.std.specs.Prelude.{Bool, ◌≡◌, List, ℕ}
use Rattle.std.proofs.Math.Option.{Option}
use Rattle.meaning.specs.Tree.{skip, parallel}
use Rattle.meaning.specs.Numbers.{Variable}
use Rattle.meaning.specs.Base.{head_at, idle}
use Rattle.hand.specs.declared.Here.{Here}
use Rattle.parts.specs.Beside.{beside}
use Rattle.items.specs.declared.Marks.{Marks}
use Rattle.items.specs.declared.Read.{Read}
use Rattle.items.specs.Walk.{walked, walked_of, with_acts, branched, walk}
use Rattle.items.specs.Under.{six_at, nine_at}

-- P7: a skip, and 6
pub record Refuses (p : ℕ) (w : Here) (m : Marks) (t u : List ℕ) (r : Read) : Type 0 where
  pub word : r.word ≡ w
  pub kept : beside u ≡ beside t
  pub walks : (look : List ℕ → Option Variable) (l b : Bool) → walked_of r u ≡ six_at p (walk look (skip (head_at p)) l b (walked m t))

-- a branch with a skip
pub record Idles (p : ℕ) (w : Here) (m : Marks) (t u : List ℕ) (r : Read) : Type 0 where
  pub word : r.word ≡ w
  pub kept : beside u ≡ beside t
  pub walks : (look : List ℕ → Option Variable) (l b : Bool) → walked_of r u ≡ branched m (walk look (skip (head_at p)) l b (walked (with_acts m 1) t))

-- P13, P14: a parallel of k skips, and 9
pub record Passes (p k : ℕ) (w : Here) (m : Marks) (t u : List ℕ) (r : Read) : Type 0 where
  pub word : r.word ≡ w
  pub kept : beside u ≡ beside t
  pub walks : (look : List ℕ → Option Variable) (l b : Bool) → walked_of r u ≡ nine_at p (walk look (parallel (head_at p) (idle p k)) l b (walked m t))
