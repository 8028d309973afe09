-- The words of a text from a place on, and the word that a reader has in hand.
-- Assumes nothing.
use Rattle.std.specs.Prelude.{◌≡◌, List, [], ◌∷◌, ℕ, ◌≤◌, ◌<◌, length, false}
use Rattle.language.specs.Words.{Word, too_large}
use Rattle.language.specs.Scan.{found, next_word, behind}
use Rattle.words.specs.Kinds.{numbered, kind_count}
use Rattle.words.specs.Runs.{part}
use Rattle.words.specs.Meaning.{worth}
use Rattle.hand.specs.declared.Here.{Here}

-- from a place on the text has these words first
abbrev pub Along : List ℕ → ℕ → List Word → Type 0
Along s from [] = Unit
Along s from (w ∷ ws) = (next_word s from ≡ found w) × Along s (behind w) ws

-- the word in hand is this word
pub record Same (s : List ℕ) (h : Here) (w : Word) : Type 0 where
  pub kind : numbered h.kind ≡ w.kind
  pub known : h.kind < kind_count
  pub place : h.place ≡ w.place
  pub bytes : part s h.place h.next ≡ w.bytes
  pub value : h.value ≡ worth w.kind w.bytes
  pub fits : too_large w.kind w.bytes ≡ false

-- the word in hand is the first of these words, if there is one
abbrev pub Stands : List ℕ → Here → List Word → Type 0
Stands s h [] = Unit
Stands s h (w ∷ ws) = Same s h w × Along s h.next ws

-- it lies in the text, which is short
pub record Near (s : List ℕ) (h : Here) : Type 0 where
  pub short : length s ≤ 8192
  pub on : h.place ≤ h.next
  pub inside : h.next ≤ length s
  pub more : h.kind < kind_count → h.place < h.next

-- it is the next word from a place on
pub record Begins (s : List ℕ) (from : ℕ) (h : Here) : Type 0 where
  pub near : Near s h
  pub later : from ≤ h.place
  pub stands : (ws : List Word) → Along s from ws → Stands s h ws
