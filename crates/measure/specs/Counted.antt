-- What the readers that count promise: for all words that the text has from there on, whatever they come to by the grammar, the tally is that of what they stand for under open calls.
-- Assumes nothing.
use Rattle.std.specs.Prelude.{true, false, ◌≡◌, List, [], ◌∷◌, ℕ, ◌≤◌, ◌<◌, min, take, MatchOption}
use Rattle.meaning.specs.Tree.{Name, Change, Target}
use Rattle.meaning.specs.Unexpanded.{Term, Command, change, call, Commands, Tests, Strands, Procedure}
use Rattle.meaning.specs.Clock.{activities_all}
use Rattle.meaning.specs.Base.{base_all}
use Rattle.meaning.specs.Expansion.{Bound, replaced, expand, expand_all, expand_tests, expand_each, called}
use Rattle.language.specs.Words.{Word}
use Rattle.language.specs.Grammar as grammar
use Rattle.language.specs.Grammar.{Expression, Statement, Statements}
use Rattle.descent_law.specs.Told.{Told}
use Rattle.descent_law.specs.Rows.{ChangeRow, StatementRow}
use Rattle.hand.specs.declared.Here.{Here}
use Rattle.hand.specs.Along.{Stands, Near}
use Rattle.own_law.specs.Own.{nothing, own_term, own_all}
use Rattle.own_law.proofs.Calls.{expansion}
use Rattle.own_law.proofs.Around.{around}
use Rattle.parts.specs.Beside.{tree_bytes, beside}
use Rattle.frames_law.specs.Frames.{no_place, told_at}
use Rattle.frames.specs.declared.Under.{Under}
use Rattle.frames.specs.Open.{Open}
use Rattle.tally.specs.declared.Tally.{Tally}
use Rattle.tally.specs.Tally.{most_counted}
use Rattle.tally.specs.Holds.{State, doing, over_all, over_tests, over_branch, over_each, Holds}
use Rattle.measure.specs.declared.Counted.{Counted}
use Rattle.measure.specs.declared.Measured.{Measured}

-- ---- under open calls

-- the procedures that can be called, and what the formals stand for; a call is open, or the outermost is about to be
pub record Known (s z : List ℕ) (u : Under) : Type 0 where
  pub placed : u.at < no_place
  pub procedures : List Procedure
  pub bound : List (Bound Term)
  pub is : Open s z procedures bound u

-- what a term, a statement, a list, cases and branches stand for
module _ {s z : List ℕ} {u : Under} (S : Known s z u) where
  abbrev pub term_of : Term → Term
  term_of e = replaced (told_at u.at) S.bound e

  abbrev pub one_of : Command → Commands
  one_of v = expand (called S.procedures u.at) (told_at u.at) S.bound v

  abbrev pub all_of : Commands → Commands
  all_of v = expand_all (called S.procedures u.at) (told_at u.at) S.bound v

  abbrev pub tests_of : Tests → Tests
  tests_of v = expand_tests (called S.procedures u.at) (told_at u.at) S.bound v

  abbrev pub each_of : Strands → Strands
  each_of v = expand_each (called S.procedures u.at) (told_at u.at) S.bound v

-- ---- from one tally to the next

-- with n levels open in code (no more are told apart than one too many) and `low` activities at least, the counts do this step
pub record Measures (low n : ℕ) (m r : Tally) (step : State → State) : Type 0 where
  pub holds : (k : ℕ) → n ≡ min k 33 → (x : State) → low ≤ x.acts → Holds k m x → Holds k r (step x)

-- on the way through a list: a state from which what is left comes to what the whole does from x
pub record Led {A : Type 0} (low k : ℕ) (r : Tally) (left whole : A → State → State) (x : State) : Type 0 where
  pub state : State
  pub enough : low ≤ state.acts
  pub holds : Holds k r state
  pub same : (a : A) → left a state ≡ whole a x

pub record Leads {A : Type 0} (low n : ℕ) (m r : Tally) (left whole : A → State → State) : Type 0 where
  pub leads : (k : ℕ) → n ≡ min k 33 → (x : State) → low ≤ x.acts → Holds k m x → Led low k r left whole x

-- ---- the readers

-- the word in hand and the levels fit
pub record Ready (s : List ℕ) (levels : ℕ) (h : Here) : Type 0 where
  pub near : Near s h
  pub few : levels ≤ 32

-- where a reader is: the word in hand lies later in the text, and the area is as it was
pub record On (s : List ℕ) (h : Here) (t t₁ : List ℕ) (w : Here) : Type 0 where
  pub near : Near s w
  pub later : h.place ≤ w.place
  pub tree : take tree_bytes t₁ ≡ take tree_bytes t
  pub kept : beside t₁ ≡ beside t

-- the words behind stand at the word w, and this is so
pub record Tells (s : List ℕ) (w : Here) (rest : List Word) (P : Type 0) : Type 0 where
  pub word : Stands s w rest
  pub so : P

-- a test, up to the word behind the one that ends it; it writes nothing
pub record TestCame (s z : List ℕ) (u : Under) (k n : ℕ) (h : Here) (m : Tally) (r : Counted) : Type 0 where
  pub near : Near s r.word
  pub later : h.place ≤ r.word.place
  pub told : (S : Known s z u) (ws : List Word) → Stands s h ws → (f : ℕ) (e : Term) (c : Word) (rest : List Word) → Told f Expression k ws e (c ∷ rest)
      → Tells s r.word rest (Measures 0 n m r.tally (doing (λ v. own_term v (term_of S e))))

-- a statement of the row that its first word calls for, which has none inside; it writes nothing
pub record BareCame (s z : List ℕ) (u : Under) (k n row : ℕ) (h : Here) (m : Tally) (r : Counted) : Type 0 where
  pub near : Near s r.word
  pub later : h.place ≤ r.word.place
  pub told : (S : Known s z u) (ws : List Word) → Stands s h ws → (f : ℕ) (v : Command) (rest : List Word) → StatementRow f k ws v rest row → Tells s r.word rest (Measures 1 n m r.tally (over_all (one_of S v)))

-- `raise`, `lower` or `invert`: the word behind it
pub record PastChange (s : List ℕ) (h w : Here) : Type 0 where
  pub near : Near s w
  pub later : h.place ≤ w.place
  pub told : (ws : List Word) → Stands s h ws → (f k : ℕ) (v : Command) (rest : List Word) (c : Change) → ChangeRow f k ws v rest c → Tells s w rest ((p : ℕ) × (t : Target Name) × (v ≡ change p c t))

-- a statement of a row
pub record RowCame (s z : List ℕ) (u : Under) (k n row : ℕ) (h : Here) (m : Tally) (t t₁ : List ℕ) (r : Counted) : Type 0 where
  pub on : On s h t t₁ r.word
  pub told : (S : Known s z u) (ws : List Word) → Stands s h ws → (f : ℕ) (v : Command) (rest : List Word) → StatementRow f k ws v rest row → Tells s r.word rest (Measures 1 n m r.tally (over_all (one_of S v)))

-- a statement
pub record One (s z : List ℕ) (u : Under) (k n : ℕ) (h : Here) (m : Tally) (t t₁ : List ℕ) (r : Counted) : Type 0 where
  pub on : On s h t t₁ r.word
  pub told : (S : Known s z u) (ws : List Word) → Stands s h ws → (f : ℕ) (v : Command) (rest : List Word) → Told f Statement k ws v rest → Tells s r.word rest (Measures 1 n m r.tally (over_all (one_of S v)))

-- a list of statements
pub record All (s z : List ℕ) (u : Under) (k n : ℕ) (h : Here) (m : Tally) (t t₁ : List ℕ) (r : Counted) : Type 0 where
  pub on : On s h t t₁ r.word
  pub told : (S : Known s z u) (ws : List Word) → Stands s h ws → (f : ℕ) (v : Commands) (rest : List Word) → Told f Statements k ws v rest → Tells s r.word rest (Measures 1 n m r.tally (over_all (all_of S v)))

-- a case, from its first word on
pub record CaseCame (s z : List ℕ) (u : Under) (k n : ℕ) (h : Here) (m : Tally) (t t₁ : List ℕ) (r : Counted) : Type 0 where
  pub on : On s h t t₁ r.word
  pub past : h.next ≤ r.word.place
  pub told : (S : Known s z u) (ws : List Word) → Stands s h ws → (f : ℕ) (w c : Word) (tail mid rest : List Word) (e : Term) (b : Commands) → ws ≡ w ∷ tail → Told f Expression k tail e (c ∷ mid) → Told f Statements k mid b rest
      → Tells s r.word rest (Measures 1 n m r.tally (λ x. over_all (all_of S b) (doing (λ v. own_term v (term_of S e)) x)))

-- cases, up to the default
pub record CasesCame (s z : List ℕ) (u : Under) (k n : ℕ) (h : Here) (m : Tally) (t t₁ : List ℕ) (r : Counted) : Type 0 where
  pub on : On s h t t₁ r.word
  pub told : (S : Known s z u) (ws : List Word) → Stands s h ws → (f : ℕ) (g : Commands → Tests) (rest : List Word) → Told f grammar.Cases k ws g rest
      → Tells s r.word rest (Leads 1 n m r.tally (λ d. over_all (all_of S d)) (λ d. over_tests (tests_of S (g d))))

-- a branch
pub record BranchCame (s z : List ℕ) (u : Under) (k n : ℕ) (h : Here) (m : Tally) (t t₁ : List ℕ) (r : Counted) : Type 0 where
  pub on : On s h t t₁ r.word
  pub told : (S : Known s z u) (ws : List Word) → Stands s h ws → (f : ℕ) (v : Commands) (rest : List Word) → Told f Statements k ws v rest → Tells s r.word rest (Measures 0 n m r.tally (over_branch (all_of S v)))

-- branches, as long as there are any
pub record BranchesCame (s z : List ℕ) (u : Under) (k n : ℕ) (h : Here) (m : Tally) (t t₁ : List ℕ) (r : Counted) : Type 0 where
  pub on : On s h t t₁ r.word
  pub told : (S : Known s z u) (ws : List Word) → Stands s h ws → (f : ℕ) (v : Strands) (rest : List Word) → Told f grammar.Branches k ws v rest → Tells s r.word rest (Measures 0 n m r.tally (over_each (each_of S v)))

-- ---- an outermost call

-- P9: all that the call stands for is told at its place
abbrev pub under_call : Under → ℕ → Under
under_call u p = record { at = p; frame = u.frame; depth = u.depth; seen = u.seen; top = u.top }

-- what is told of it with n levels open around: P12, P13 whether a size is passed there, and P14 by itself
pub record MeasuredIs (ps : List Procedure) (v : Name) (ts : List Term) (n : ℕ) (r : Measured) : Type 0 where
  pub over : r.over ≡ (own_all true (expansion ps v ts) (around n)).over
  pub acts : MatchOption r.acts ((own_all false (expansion ps v ts) nothing).over ≡ true) (λ a. ((own_all false (expansion ps v ts) nothing).over ≡ false) × (a ≡ min (activities_all (base_all (expansion ps v ts))) most_counted))

-- .. in the program's own text, from its name on
pub record MeasuredCame (s z : List ℕ) (u : Under) (n : ℕ) (h : Here) (t t₁ : List ℕ) (r : Measured) : Type 0 where
  pub on : On s h t t₁ r.word
  pub told : (ps : List Procedure) → Open s z ps [] u → u.depth ≡ 0 → (ws : List Word) → Stands s h ws → (f k : ℕ) (v : Name) (ts : List Term) (rest : List Word) → k ≤ 32 → StatementRow f k ws (call v ts) rest 5
      → Tells s r.word rest (MeasuredIs ps v ts n r)
