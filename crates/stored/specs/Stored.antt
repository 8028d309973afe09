-- The program that a text says, as it lies in the bytes of a tree.
-- Assumes nothing.
use Rattle.std.specs.Prelude.{◌≡◌, List, ℕ, ◌*◌, ◌≤◌}
use Rattle.meaning.specs.Declared.{Source}
use Rattle.meaning.specs.Checked.{program_of}
use Rattle.language.specs.Texts.{good, Reads}
use Rattle.nodes.specs.Decode.{list_at}
use Rattle.nodes.specs.Ready.{Ready}

-- n statements and case tests, k inputs, o outputs, and the value word at the start
pub record Stored (source tree : List ℕ) (n k o word : ℕ) : Type 0 where
  pub says : Source
  pub reads : Reads source (good says)
  pub few : n ≤ 512
  pub inputs : (program_of says).inputs ≡ k
  pub outputs : (program_of says).outputs ≡ o
  pub initial : (program_of says).initial ≡ word
  pub body : (left : ℕ) → 3 * n ≤ left → (program_of says).body ≡ list_at left tree 0 n
  pub ready : (left : ℕ) → 3 * n ≤ left → Ready tree n left
