-- What is told of a call in the program's own text before it is read (P12, P13, P14).
-- Assumes nothing.
use Rattle.std.specs.Prelude.{true, false, ◌≡◌, List, [], ℕ, ◌+◌, ◌≤◌, ltb}
use Rattle.meaning.specs.Tree.{Name}
use Rattle.meaning.specs.Levels.{most_levels}
use Rattle.meaning.specs.Unexpanded.{Term, Procedure}
use Rattle.meaning.specs.Procedures.{calls_passing}
use Rattle.meaning.proofs.Depth.{depth_all}
use Rattle.language.specs.Words.{Word}
use Rattle.hand.specs.declared.Here.{Here}
use Rattle.hand.specs.Along.{Stands, Near}
use Rattle.own_law.specs.Own.{nothing, own_all}
use Rattle.own_law.proofs.Calls.{expansion, kept}
use Rattle.parts.specs.Beside.{beside}
use Rattle.frames.specs.declared.Under.{Under}
use Rattle.frames.specs.Open.{Open}
use Rattle.items.specs.Came.{CallAt}
use Rattle.gauge.specs.declared.Gauged.{Gauged}

-- the call's name, at the place told
abbrev pub name_of : Word → ℕ → Name
name_of w place = record { bytes = w.bytes; place = place }

-- of the call whose name is w, told at a place, with n levels open around
pub record Sized (s : List ℕ) (ps : List Procedure) (place n : ℕ) (w : Word) (ts : List Term) (rest : List Word) (r : Gauged) : Type 0 where
  pub word : Stands s r.word rest
  pub over : r.over ≡ (own_all true (expansion ps (name_of w place) ts) nothing).over
  pub acts : r.over ≡ true → r.acts ≡ kept ps (name_of w place) ts
  pub deep : r.over ≡ false → r.deep ≡ ltb most_levels (n + depth_all (expansion ps (name_of w place) ts))
  pub none : calls_passing (expansion ps (name_of w place) ts) ≡ []

-- the same of whatever call the text has there; the area is as it was
pub record Measures (s : List ℕ) (u : Under) (n : ℕ) (h : Here) (t t₁ : List ℕ) (r : Gauged) : Type 0 where
  pub near : Near s r.word
  pub later : h.place ≤ r.word.place
  pub still : t₁ ≡ t
  pub told : (ps : List Procedure) → Open s (beside t).names ps [] u → u.depth ≡ 0 → u.at ≡ h.place → {v : Name} {ts : List Term} {rest : List Word} (c : CallAt s h v ts rest) → Sized s ps u.at n c.word ts rest r
