-- What the readers of activities promise: the walk over the words goes on from the word in hand as it would have (wides_law).
-- Assumes nothing.
use Rattle.std.specs.Prelude.{Bool, true, false, cond, ◌≡◌, List, [], ◌∷◌, ℕ, ◌+◌, ◌-◌, ◌≤◌, max, eqb, ltb, length, take}
use Rattle.std.proofs.Math.Option.{Option, none, some}
use Rattle.meaning.specs.Unexpanded.{Procedure}
use Rattle.meaning.specs.Expansion.{wide_all, wides}
use Rattle.language.specs.Words.{Word}
use Rattle.hand.specs.declared.Here.{Here}
use Rattle.hand.specs.Along.{Stands, Near}
use Rattle.wides_law.specs.Wides.{State, calm, calling, Around, Acts, raised, walk}
use Rattle.parts.specs.Beside.{tree_bytes, beside}
use Rattle.frames.specs.Layout.{procedure_at, wide_at, formals_at}
use Rattle.frames.specs.Open.{ProcedureAt}
use Rattle.frames.specs.Row.{row_in}
use Rattle.decls_law.specs.Rows.{Placed, Filled, Fills}
use Rattle.wides.specs.declared.Counted.{Counted}
use Rattle.wides.specs.declared.Passed.{Passed}

-- ---- a word by the number of its kind

-- `||`, `endparallel`, `endproc`, or the end of the words
unfoldable pub ends_list : ℕ → Bool
ends_list k = cond (eqb k 2) true (cond (eqb k 55) true (cond (eqb k 57) true (ltb 62 k)))

-- a name before `(`
unfoldable pub calls_by : ℕ → ℕ → Bool
calls_by k j = cond (eqb k 0) (eqb j 14) false

-- the last `)` of a call's parentheses, where so many are open inside them
unfoldable pub closes_by : ℕ → ℕ → Bool
closes_by k d = cond (eqb k 15) (eqb d 0) false

-- how many are open behind the word
unfoldable pub open_by : ℕ → ℕ → ℕ
open_by k d = cond (eqb k 14) (d + 1) (cond (eqb k 15) (d - 1) d)

-- how many actuals are begun with the word: one more behind a comma, and one at least
unfoldable pub begun_by : ℕ → ℕ → ℕ → ℕ
begun_by k d c = cond (eqb k 13) (cond (eqb d 0) (c + 1) (max 1 c)) (max 1 c)

-- ---- a call

-- P14: the activities of a call of the procedure in row i, if there is one, with so many actuals
abbrev pub wide_by : List ℕ → List ℕ → ℕ → Option ℕ → ℕ
wide_by s z c none = 1
wide_by s z c (some i) = cond (eqb (length (formals_at s (procedure_at z i))) c) (wide_at z i) 1

-- .. by its name, among the first n procedures
abbrev pub wide_in : List ℕ → List ℕ → ℕ → List ℕ → ℕ → ℕ
wide_in s z n x c = wide_by s z c (row_in s z n x)

-- ---- what is read

-- the walk that came to an end from one word on comes to the same from another
pub record Leads (wide_of : List ℕ → ℕ → ℕ) (s : List ℕ) (st : State) (a : Acts) (h : Here) (st₁ : State) (a₁ : Acts) (h₁ : Here) : Type 0 where
  pub goes : (ws : List Word) → Stands s h ws → (m : ℕ) → walk wide_of st a ws ≡ some m → (rest : List Word) × Stands s h₁ rest × (walk wide_of st₁ a₁ rest ≡ some m)

-- so many activities in the list that is being read, and the parallels around it
abbrev pub acts : ℕ → List Around → Acts
acts n os = record { here = n; around = os }

-- the parentheses of a call, from the word behind the first on
pub record PassedOver (s : List ℕ) (h : Here) (r : Passed) : Type 0 where
  pub near : Near s r.word
  pub later : h.place ≤ r.word.place
  pub leads : (wide_of : List ℕ → ℕ → ℕ) (y : List ℕ) (a : Acts) → Leads wide_of s (calling y 0 0) a h calm (raised (wide_of y r.count) a) r.word

-- a list of statements that began with so many activities, up to what ends it
pub record ListCounted (s z : List ℕ) (n : ℕ) (h : Here) (here : ℕ) (r : Counted) : Type 0 where
  pub near : Near s r.word
  pub later : h.place ≤ r.word.place
  pub ends : ends_list r.word.kind ≡ true
  pub leads : (os : List Around) → Leads (wide_in s z n) s calm (acts here os) h calm (acts r.acts os) r.word

-- a parallel, from the word behind its first on, up to the word behind it
pub record ParallelCounted (s z : List ℕ) (n : ℕ) (h : Here) (here : ℕ) (r : Counted) : Type 0 where
  pub near : Near s r.word
  pub later : h.place ≤ r.word.place
  pub leads : (os : List Around) → Leads (wide_in s z n) s calm (acts 1 (record { before = here; sum = 0 } ∷ os)) h calm (acts r.acts os) r.word

-- a body from its first word on: whatever the walk comes to
pub record BodyCounted (s z : List ℕ) (n : ℕ) (h : Here) (r : ℕ) : Type 0 where
  pub told : (ws : List Word) → Stands s h ws → (m : ℕ) → walk (wide_in s z n) calm (acts 1 []) ws ≡ some m → r ≡ m

-- ---- the rows

-- P14: the activities that the procedure of row i can have, where those of the rows before are filled in
pub record WideOf (s z : List ℕ) (i r : ℕ) : Type 0 where
  pub told : (p : Procedure) (qs : List Procedure) → ProcedureAt s (procedure_at z i) p → Placed s z i qs → Filled z i qs → r ≡ wide_all (wides qs) p.body

-- the activities of n procedures are filled in, and nothing else is changed
pub record FilledIn (s u z : List ℕ) (n : ℕ) : Type 0 where
  pub fills : Fills u z n
  pub filled : (ps : List Procedure) → Placed s u n ps → Filled z n ps

-- .. behind the tree, which stays
pub record FilledBehind (s t u : List ℕ) (n : ℕ) : Type 0 where
  pub tree : take tree_bytes u ≡ take tree_bytes t
  pub long : length u ≡ length t
  pub rows : FilledIn s (beside t).names (beside u).names n
