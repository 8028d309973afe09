-- What the readers of statements promise: for all words that the text has from there on, whatever they come to by the grammar, under open calls as they are known.
-- Assumes nothing.
use Rattle.std.specs.Prelude.{Bool, ◌≡◌, List, ◌∷◌, ℕ, ◌+◌, ◌-◌, ◌*◌, ◌≤◌, ◌<◌}
use Rattle.meaning.specs.Tree.{Name}
use Rattle.meaning.specs.Unexpanded.{Term, Command, call, Commands, Tests, case, Strands, ◌∥◌}
use Rattle.language.specs.Words.{Word}
use Rattle.language.specs.Grammar as grammar
use Rattle.language.specs.Grammar.{Expression, Statement, Statements, Actuals, most_levels}
use Rattle.language.specs.Trees.{name_at}
use Rattle.descent_law.specs.Told.{Told}
use Rattle.descent_law.specs.Rows.{StatementRow}
use Rattle.hand.specs.declared.Here.{Here}
use Rattle.hand.specs.Along.{Stands, Near}
use Rattle.frames_law.specs.Frames.{no_place}
use Rattle.frames.specs.declared.Under.{Under}
use Rattle.parts.specs.Beside.{tree_bytes, Beside, beside}
use Rattle.items.specs.declared.Marks.{Marks}
use Rattle.items.specs.declared.Read.{Read}
use Rattle.items.specs.declared.Tried.{Tried}
use Rattle.items.specs.Walk.{Walked, walked, walked_of, Test, test_of, finished, branched}
use Rattle.items.specs.Under.{Scope, sense_of, test_in, one_in, all_in, tests_in, each_in}

-- ---- a node written

-- a statement's node is written, and nothing else is noted
pub record Finished (i k p a b c d : ℕ) (w : Here) (m : Marks) (t u : List ℕ) (r : Read) : Type 0 where
  pub word : r.word ≡ w
  pub kept : beside u ≡ beside t
  pub walks : walked_of r u ≡ finished i k p a b c d (walked m t)

-- a branch that began with the marks m ends behind q
pub record Branched (m : Marks) (q : Read) (t u : List ℕ) (r : Read) : Type 0 where
  pub word : r.word ≡ q.word
  pub kept : beside u ≡ beside t
  pub walks : walked_of r u ≡ branched m (walked_of q t)

-- ---- the readers

-- the word behind it stands, and the state is that of the walk
pub record Tells (s : List ℕ) (rest : List Word) (x : Walked) (u : List ℕ) (r : Read) : Type 0 where
  pub word : Stands s r.word rest
  pub walks : walked_of r u ≡ x

-- the word in hand, the declared names behind the tree and the levels fit
pub record Ready (s : List ℕ) (d : Beside) (count levels : ℕ) (h : Here) : Type 0 where
  pub near : Near s h
  pub listed : tree_bytes + count * 4 ≤ d.size
  pub few : levels ≤ 32

-- where a reader is: the word in hand lies later in the text
pub record On (s : List ℕ) (h : Here) (t u : List ℕ) (w : Here) : Type 0 where
  pub near : Near s w
  pub later : h.place ≤ w.place
  pub kept : beside u ≡ beside t

-- the same of a test, up to the word behind the one that ends it
pub record TestTells (s : List ℕ) (rest : List Word) (x : Test) (u : List ℕ) (r : Tried) : Type 0 where
  pub word : Stands s r.word rest
  pub sums : test_of r u ≡ x

-- G9: the levels open around, with k left
abbrev pub around : ℕ → ℕ
around k = most_levels - k

-- a test, from its first word on
pub record TestCame (s z : List ℕ) (count : ℕ) (under : Under) (k : ℕ) (h : Here) (m : Marks) (p : ℕ) (t u : List ℕ) (r : Tried) : Type 0 where
  pub on : On s h t u r.word
  pub told : (o : Scope s z count under) (ws : List Word) → Stands s h ws → (f : ℕ) (e : Term) (c : Word) (rest : List Word) → Told f Expression k ws e (c ∷ rest) → TestTells s rest (test_in (sense_of count o) e p (walked m t)) u r

-- a statement of the row that its first word calls for
pub record RowCame (s z : List ℕ) (count : ℕ) (under : Under) (k : ℕ) (l b : Bool) (row : ℕ) (h : Here) (m : Marks) (t u : List ℕ) (r : Read) : Type 0 where
  pub on : On s h t u r.word
  pub told : (o : Scope s z count under) (ws : List Word) → Stands s h ws → (f : ℕ) (v : Command) (rest : List Word) → StatementRow f k ws v rest row → Tells s rest (one_in (sense_of count o) (around k) v l b (walked m t)) u r

-- a call of these actuals stands there, a statement that begins with a name
pub record CallAt (s : List ℕ) (h : Here) (v : Name) (ts : List Term) (rest : List Word) : Type 0 where
  pub fuel : ℕ
  pub levels : ℕ
  pub few : levels ≤ most_levels
  pub word : Word
  pub opens : Word
  pub closes : Word
  pub tail : List Word
  pub stands : Stands s h (word ∷ opens ∷ tail)
  pub told : Told fuel Actuals levels tail ts (closes ∷ rest)
  pub named : v ≡ name_at word
  pub row-fuel : ℕ
  pub row-levels : ℕ
  pub row-few : row-levels ≤ most_levels
  pub row : StatementRow row-fuel row-levels (word ∷ opens ∷ tail) (call v ts) rest 5

-- a call inside another, with whatever levels open around
pub record CallCame (s z : List ℕ) (count : ℕ) (under : Under) (l b : Bool) (h : Here) (m : Marks) (t u : List ℕ) (r : Read) : Type 0 where
  pub on : On s h t u r.word
  pub told : (o : Scope s z count under) → under.at < no_place → (n : ℕ) (v : Name) (ts : List Term) (rest : List Word) → CallAt s h v ts rest → Tells s rest (one_in (sense_of count o) n (call v ts) l b (walked m t)) u r

-- a call in the program's own text
pub record OutermostCame (s z : List ℕ) (count : ℕ) (under : Under) (k : ℕ) (l b : Bool) (h : Here) (m : Marks) (t u : List ℕ) (r : Read) : Type 0 where
  pub on : On s h t u r.word
  pub told : (o : Scope s z count under) → ¬ (under.at < no_place) → (v : Name) (ts : List Term) (rest : List Word) → CallAt s h v ts rest → Tells s rest (one_in (sense_of count o) (around k) (call v ts) l b (walked m t)) u r

-- a statement
pub record One (s z : List ℕ) (count : ℕ) (under : Under) (k : ℕ) (l b : Bool) (h : Here) (m : Marks) (t u : List ℕ) (r : Read) : Type 0 where
  pub on : On s h t u r.word
  pub told : (o : Scope s z count under) (ws : List Word) → Stands s h ws → (f : ℕ) (v : Command) (rest : List Word) → Told f Statement k ws v rest → Tells s rest (one_in (sense_of count o) (around k) v l b (walked m t)) u r

-- a list of statements
pub record All (s z : List ℕ) (count : ℕ) (under : Under) (k : ℕ) (l b : Bool) (h : Here) (m : Marks) (t u : List ℕ) (r : Read) : Type 0 where
  pub on : On s h t u r.word
  pub told : (o : Scope s z count under) (ws : List Word) → Stands s h ws → (f : ℕ) (v : Commands) (rest : List Word) → Told f Statements k ws v rest → Tells s rest (all_in (sense_of count o) (around k) v l b (walked m t)) u r

-- a case, from its first word on
pub record CaseCame (s z : List ℕ) (count : ℕ) (under : Under) (k : ℕ) (l b : Bool) (h : Here) (m : Marks) (t u : List ℕ) (r : Read) : Type 0 where
  pub on : On s h t u r.word
  pub past : h.next ≤ r.word.place
  pub told : (o : Scope s z count under) (ws : List Word) → Stands s h ws → (f : ℕ) (w c : Word) (tail mid rest : List Word) (e : Term) (x : Commands) → ws ≡ w ∷ tail → Told f Expression k tail e (c ∷ mid) → Told f Statements k mid x rest
      → (ts : Tests) → Stands s r.word rest × (tests_in (sense_of count o) (around k) ts l b (walked_of r u) ≡ tests_in (sense_of count o) (around k) (case w.place e x ts) l b (walked m t))

-- cases, up to the default
pub record CasesCame (s z : List ℕ) (count : ℕ) (under : Under) (k : ℕ) (l b : Bool) (h : Here) (m : Marks) (t u : List ℕ) (r : Read) : Type 0 where
  pub on : On s h t u r.word
  pub told : (o : Scope s z count under) (ws : List Word) → Stands s h ws → (f : ℕ) (g : Commands → Tests) (rest : List Word) → Told f grammar.Cases k ws g rest
      → (d : Commands) → Stands s r.word rest × (all_in (sense_of count o) (around k) d l b (walked_of r u) ≡ tests_in (sense_of count o) (around k) (g d) l b (walked m t))

-- a branch, for whatever branches follow
pub record BranchCame (s z : List ℕ) (count : ℕ) (under : Under) (k : ℕ) (l : Bool) (h : Here) (m : Marks) (t u : List ℕ) (r : Read) : Type 0 where
  pub on : On s h t u r.word
  pub told : (o : Scope s z count under) (ws : List Word) → Stands s h ws → (f : ℕ) (x : Commands) (rest : List Word) → Told f Statements k ws x rest
      → (bs : Strands) → Stands s r.word rest × (each_in (sense_of count o) (around k) bs l (walked_of r u) ≡ each_in (sense_of count o) (around k) (x ∥ bs) l (walked m t))

-- branches, as long as there are any
pub record BranchesCame (s z : List ℕ) (count : ℕ) (under : Under) (k : ℕ) (l : Bool) (h : Here) (m : Marks) (t u : List ℕ) (r : Read) : Type 0 where
  pub on : On s h t u r.word
  pub told : (o : Scope s z count under) (ws : List Word) → Stands s h ws → (f : ℕ) (bs : Strands) (rest : List Word) → Told f grammar.Branches k ws bs rest → Tells s rest (each_in (sense_of count o) (around k) bs l (walked m t)) u r
