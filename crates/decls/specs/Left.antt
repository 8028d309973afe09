-- What is left to be read of the declarations, from a word in hand on.
-- Assumes nothing.
use Rattle.std.specs.Prelude.{cond, ◌≡◌, List, [], ◌∷◌, ◌++◌, map, ℕ, zero, suc, ◌≤◌, eqb, Option as Optional, Some, None}
use Rattle.meaning.specs.Declared.{outputs, internals}
use Rattle.meaning.specs.Unexpanded as unexpanded
use Rattle.meaning.specs.Unexpanded.{DeclaredName, a_variable, a_procedure}
use Rattle.language.specs.Words.{Word}
use Rattle.language.specs.Grammar.{Declarations, Procedure, AfterProcedure, Inputs, MoreInputs, Booleans, MoreBooleans, Integers, MoreIntegers, most_levels}
use Rattle.descent_law.specs.Told.{Told}
use Rattle.descent_law.specs.Declarations.{Declared, Maker}
use Rattle.hand.specs.declared.Here.{Here}
use Rattle.hand.specs.Along.{Along, Stands}
use Rattle.decls.specs.declared.At.{At}
use Rattle.names.specs.declared.Kind.{Kind}
use Rattle.names.specs.Enter.{kind_number}

abbrev Text : Type 0
Text = List Word

-- the list that a declaration's first word opens, by the number of its kind: 5 a procedure, 0 where it opens none
unfoldable pub list_of : ℕ → ℕ
list_of k = cond (eqb k 28) 1 (cond (eqb k 29) 2 (cond (eqb k 30) 3 (cond (eqb k 31) 4 (cond (eqb k 56) 5 0))))

-- the number of a list in code, by the kind of its names; 0 with none
abbrev pub list_number : Optional Kind → ℕ
list_number None = 0
list_number (Some kind) = suc (kind_number kind)

-- booleans of one kind
abbrev pub Made : (Maker → Declared) → Maker → Declared → Type 0
Made g kind ds = ds ≡ g kind

-- names of one list: 1 inputs, 2 outputs, 3 internals, 4 integers
abbrev pub Listed : ℕ → ℕ → ℕ → Text → Declared → Text → Type 0
Listed zero f k ws ds rest = ⊥
Listed (suc zero) f k ws ds rest = Told f Inputs k ws ds rest
Listed (suc (suc zero)) f k ws ds rest = (g : Maker → Declared) × Told f Booleans k ws g rest × Made g outputs ds
Listed (suc (suc (suc zero))) f k ws ds rest = (g : Maker → Declared) × Told f Booleans k ws g rest × Made g internals ds
Listed (suc (suc (suc (suc zero)))) f k ws ds rest = Told f Integers k ws ds rest
Listed (suc (suc (suc (suc (suc l))))) f k ws ds rest = ⊥

-- .. and what follows a name in it
abbrev pub More : ℕ → ℕ → ℕ → Text → Declared → Text → Type 0
More zero f k ws ds rest = ⊥
More (suc zero) f k ws ds rest = Told f MoreInputs k ws ds rest
More (suc (suc zero)) f k ws ds rest = (g : Maker → Declared) × Told f MoreBooleans k ws g rest × Made g outputs ds
More (suc (suc (suc zero))) f k ws ds rest = (g : Maker → Declared) × Told f MoreBooleans k ws g rest × Made g internals ds
More (suc (suc (suc (suc zero)))) f k ws ds rest = Told f MoreIntegers k ws ds rest
More (suc (suc (suc (suc (suc l))))) f k ws ds rest = ⊥

-- what stands among the declarations
abbrev pub Several : Type 0
Several = List DeclaredName

-- the names of a list, then further declarations
pub record Names (s : List ℕ) (l : ℕ) (h : Here) (ds : Several) (rest : Text) : Type 0 where
  pub fuel : ℕ
  pub levels : ℕ
  pub few : levels ≤ most_levels
  pub words : Text
  pub close : Word
  pub mid : Text
  pub here : Declared
  pub on : Several
  pub stands : Stands s h words
  pub listed : Listed l fuel levels words here (close ∷ mid)
  pub others : (f : ℕ) × Told f Declarations levels mid on rest
  pub all : ds ≡ map a_variable here ++ on

-- P1: a procedure from its name on, then further declarations
pub record Proceeds (s : List ℕ) (h : Here) (ds : Several) (rest : Text) : Type 0 where
  pub fuel : ℕ
  pub levels : ℕ
  pub few : levels ≤ most_levels
  pub words : Text
  pub mid : Text
  pub low : Text
  pub here : unexpanded.Procedure
  pub on : Several
  pub stands : Stands s h words
  pub from : Along s h.place words
  pub procedure : Told fuel Procedure levels words here mid
  pub after : Told fuel AfterProcedure levels mid tt low
  pub others : (f : ℕ) × Told f Declarations levels low on rest
  pub all : ds ≡ a_procedure here ∷ on

-- the declarations that are left, then the words behind them: 0 none, 5 a procedure, else names of a list
abbrev pub LeftBy : List ℕ → ℕ → Here → Several → Text → Type 0
LeftBy s zero h ds rest = (ds ≡ []) × Stands s h rest
LeftBy s (suc zero) h ds rest = Names s 1 h ds rest
LeftBy s (suc (suc zero)) h ds rest = Names s 2 h ds rest
LeftBy s (suc (suc (suc zero))) h ds rest = Names s 3 h ds rest
LeftBy s (suc (suc (suc (suc zero)))) h ds rest = Names s 4 h ds rest
LeftBy s (suc (suc (suc (suc (suc l))))) h ds rest = Proceeds s h ds rest

-- .. at a place of a reader
abbrev pub Left : List ℕ → At → Several → Text → Type 0
Left s a ds rest = LeftBy s (list_number a.list) a.word ds rest
