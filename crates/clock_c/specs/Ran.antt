-- The word that a sequence of inputs leads to.
-- Assumes nothing.
use Rattle.std.specs.Prelude.{◌≡◌, List, ℕ, zero, suc, ◌%◌, length, get_or}
use Rattle.meaning.specs.States.{Program, State, start_state, step_state}
use Rattle.meaning.specs.Checked.{program_of}
use Rattle.language.specs.Texts.{Reading, good, refused, Reads}
use Rattle.nodes.specs.Decode.{list_at}

-- the state after the first i inputs, each modulo 64
abbrev pub after : Program → List ℕ → ℕ → State
after p inputs zero = start_state p
after p inputs (suc i) = step_state p (after p inputs i) (get_or inputs i 0 % 64)

-- the word after all of them; house: 0 where the text is refused
abbrev pub word_of : List ℕ → Reading → ℕ
word_of inputs (good s) = (after (program_of s) inputs (length inputs)).word
word_of inputs (refused number place) = 0

-- the number for what the text says
pub record Ran (text inputs : List ℕ) (r : ℕ) : Type 0 where
  pub reading : Reading
  pub reads : Reads text reading
  pub is : r ≡ word_of inputs reading

-- r is the word after all inputs of each program that the n statements and case tests from 0 on in a tree are
pub record RunsTo (tree : List ℕ) (n left word : ℕ) (inputs : List ℕ) (r : ℕ) : Type 0 where
  pub last : (p : Program) → p.body ≡ list_at left tree 0 n → p.initial ≡ word → r ≡ (after p inputs (length inputs)).word
