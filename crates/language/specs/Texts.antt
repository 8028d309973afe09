-- What a text says: a checked program, or the refusal of its fault.
-- Assumes nothing.
use Rattle.std.specs.Prelude.{◌≡◌, List, ℕ, ◌≤◌, ◌<◌, length}
use Rattle.std.proofs.Math.Option.{none, some}
use Rattle.ll1.specs.Grammar.{Sentence}
use Rattle.meaning.specs.Declared.{Source}
use Rattle.meaning.specs.Faults.{Fault}
use Rattle.meaning.specs.Expansion.{expanded}
use Rattle.meaning.specs.Procedures.{fault_in}
use Rattle.language.specs.Words.{Word, words, Cut}
use Rattle.language.specs.Grammar.{csml, most_levels, whole_program, kinds, refuses, Checks}
use Rattle.language.specs.Trees.{source_of}

-- Z1
abbrev pub most_bytes : ℕ
most_bytes = 8192

-- P10: the expanded program, without a fault, or a refusal with its number and place
pub data Reading : Type 0 where
  good : Source → Reading
  refused : ℕ → ℕ → Reading

-- R1: 3, then 4 and 5, then the faults of the tree
pub data Reads (s : List ℕ) : Reading → Type 0 where
  long : most_bytes < length s → Reads s (refused 3 0)
  text : {number place : ℕ} → length s ≤ most_bytes → Checks s (refuses number place) → Reads s (refused number place)
  tree : {ws : List Word} {f : Fault} → length s ≤ most_bytes → Cut 0 s (words ws) → (d : Sentence csml most_levels whole_program (kinds ws)) → fault_in (source_of ws d) ≡ some f → Reads s (refused f.number f.place)
  fine : {ws : List Word} → length s ≤ most_bytes → Cut 0 s (words ws) → (d : Sentence csml most_levels whole_program (kinds ws)) → fault_in (source_of ws d) ≡ none → Reads s (good (expanded (source_of ws d)))
