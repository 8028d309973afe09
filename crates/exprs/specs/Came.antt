-- What the reader of expressions promises: for all words that the text has from there on, whatever term they come to by the grammar. In a procedure's body a term stands for another: `to` tells its places (P9), and its formals have actuals (P4), as their frames say.
-- Assumes nothing.
use Rattle.std.specs.Prelude.{◌≡◌, List, ℕ, ◌+◌, ◌*◌, ◌≤◌}
use Rattle.std.proofs.Math.Option.{Option}
use Rattle.meaning.specs.Numbers.{Variable}
use Rattle.meaning.specs.Unexpanded.{Term}
use Rattle.meaning.specs.Base.{base_term}
use Rattle.meaning.specs.Expansion.{Bound, replaced}
use Rattle.language.specs.Words.{Word}
use Rattle.language.specs.Grammar.{Tier}
use Rattle.descent_law.specs.Told.{Told, OperandRow}
use Rattle.hand.specs.declared.Here.{Here}
use Rattle.parts.specs.declared.Notes.{Notes}
use Rattle.parts.specs.declared.Got.{Got}
use Rattle.hand.specs.Along.{Stands, Near}
use Rattle.frames_law.specs.Frames.{told_at}
use Rattle.frames.specs.declared.Under.{Under}
use Rattle.frames.specs.Open.{BindsUnder}
use Rattle.names.specs.Look.{look_in}
use Rattle.parts.specs.Sum.{Sum, sum_of, sum}
use Rattle.parts.specs.Beside.{tree_bytes, Beside, beside}

-- what is noted and written of a term: of the tree that it comes to
abbrev pub sum_under : (List ℕ → Option Variable) → (ℕ → ℕ) → List (Bound Term) → Term → Notes → List ℕ → Sum
sum_under look to bound v n t = sum look (base_term (replaced to bound v)) n t

-- the words behind stand at the word in hand, and what is noted and written is the term's sum, whatever the formals are bound to
pub record Tells (look : List ℕ → Option Variable) (to : ℕ → ℕ) (Binds : List (Bound Term) → Type 0) (s : List ℕ) (v : Term) (rest : List Word) (n : Notes) (t u : List ℕ) (r : Got) : Type 0 where
  pub word : Stands s r.word rest
  pub sums : (bound : List (Bound Term)) → Binds bound → sum_of r u ≡ sum_under look to bound v n t

-- .. for all words that stand at h, whatever they come to as an expression of this strength
pub record Came (look : List ℕ → Option Variable) (to : ℕ → ℕ) (Binds : List (Bound Term) → Type 0) (s : List ℕ) (tier levels : ℕ) (h : Here) (n : Notes) (t u : List ℕ) (r : Got) : Type 0 where
  pub near : Near s r.word
  pub later : h.place ≤ r.word.place
  pub kept : beside u ≡ beside t
  pub told : (ws : List Word) → Stands s h ws → (f : ℕ) (v : Term) (rest : List Word) → Told f (Tier tier) levels ws v rest → Tells look to Binds s v rest n t u r

-- the same of an operand with no level
pub record PlainCame (look : List ℕ → Option Variable) (to : ℕ → ℕ) (Binds : List (Bound Term) → Type 0) (s : List ℕ) (row : ℕ) (h : Here) (n : Notes) (t u : List ℕ) (r : Got) : Type 0 where
  pub near : Near s r.word
  pub later : h.place ≤ r.word.place
  pub kept : beside u ≡ beside t
  pub told : (ws : List Word) → Stands s h ws → (f k : ℕ) (v : Term) (rest : List Word) → OperandRow f k ws v rest row → Tells look to Binds s v rest n t u r

-- an expression, and an operand, read under open calls
abbrev pub CameUnder : List ℕ → List ℕ → ℕ → Under → ℕ → ℕ → Here → Notes → List ℕ → List ℕ → Got → Type 0
CameUnder s z count under tier levels h n t u r = Came (look_in s z count) (told_at under.at) (BindsUnder s z under) s tier levels h n t u r

abbrev pub PlainUnder : List ℕ → List ℕ → ℕ → Under → ℕ → Here → Notes → List ℕ → List ℕ → Got → Type 0
PlainUnder s z count under row h n t u r = PlainCame (look_in s z count) (told_at under.at) (BindsUnder s z under) s row h n t u r

-- the levels fit, the strength is one of the list or the next, and the declared names lie behind the tree
pub record Ready (s : List ℕ) (d : Beside) (count tier levels : ℕ) (h : Here) : Type 0 where
  pub near : Near s h
  pub listed : tree_bytes + count * 4 ≤ d.size
  pub low : tier ≤ 6
  pub few : levels ≤ 32

-- .. and of a name
pub record Named (s : List ℕ) (d : Beside) (count : ℕ) (h : Here) : Type 0 where
  pub near : Near s h
  pub listed : tree_bytes + count * 4 ≤ d.size
