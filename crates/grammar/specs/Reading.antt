-- The words of a text as a reader of tables goes along them, and what it promises.
-- Assumes nothing.
use Rattle.std.specs.Prelude.{true, Option, Some, None, Result, Ok, Err, ◌≡◌, ◌⊎◌, List, [], map, ℕ, suc, ◌+◌, ◌-◌, ◌≤◌, ◌<◌, length, get_or, drop}
use Rattle.ll1.specs.Rows.{opening, closing, first_part, start_of, row, closes, Tables, ReadTo, StopsAt}
use Rattle.language.specs.Words as Language
use Rattle.language.specs.Words.{Words, words, refused}
use Rattle.language.specs.Grammar.{Line, most_levels}
use Rattle.language.specs.Texts.{most_bytes}
use Rattle.words.specs.Met.{Met}
use Rattle.words.proofs.Meeting.{words_met, end_met}
use Rattle.words.proofs.Only.{number_of}
use Rattle.grammar_law.specs.Tables.{row_bytes, cell_count, depth, turn}
use Rattle.grammar_law.specs.Codes.{codes, choice}
use Rattle.grammar.specs.declared.Here.{Here}
use Rattle.grammar.specs.declared.Turn.{Turn}
use Rattle.grammar.specs.declared.Turn.TheVariants.{End, Stop, Word, Level, Last, Call}

-- the tables number the kinds from 1 on
abbrev pub code_of : Language.Word → ℕ
code_of w = suc (number_of w.kind)

-- the words, where no 4 ends them
abbrev pub listed : Words → List Language.Word
listed (words ws) = ws
listed (refused e) = []

-- the words up to the end of the text, or up to its first 4
abbrev pub words_in : List ℕ → List Language.Word
words_in s = words_met s

-- .. and where that end stands, in a text of n bytes
abbrev pub ends_at : Option ℕ → ℕ → ℕ
ends_at None n = n
ends_at (Some e) n = e

-- the numbers of their kinds
abbrev pub codes_in : List ℕ → List ℕ
codes_in s = map code_of (words_in s)

-- from a place on the words from number n on are met
pub record Left (s : List ℕ) (from n : ℕ) : Type 0 where
  pub fits : from ≤ length s
  pub count : n ≤ length (words_in s)
  pub rest : Met s from (drop n (words_in s)) (end_met s)

-- a word that stands in the text, or the end of its words
pub record Stands (s : List ℕ) (w : Here) : Type 0 where
  pub fits : w.number ≤ length (codes_in s)
  pub kind : w.kind ≡ get_or (codes_in s) w.number 0
  pub place : w.place ≡ get_or (map (λ v. v.place) (words_in s)) w.number (ends_at (end_met s) (length s))
  pub inside : w.place ≤ length s
  pub low : ¬ (w.kind ≡ 0) → w.place < length s
  pub ahead : w.next ≤ length s
  pub rest : Met s w.next (drop (w.number + 1) (words_in s)) (end_met s)

-- the tables are of their lengths, p is in the rows or not far behind, and a level more can be counted
pub record Serves (rows starts : List ℕ) (p k : ℕ) : Type 0 where
  pub rows_fit : length rows ≤ row_bytes
  pub starts_fit : length starts ≤ cell_count
  pub low : ¬ (get_or rows p 0 ≡ 0) → p < most_bytes
  pub few : k ≤ most_levels

-- symbol b is a part, and a word of kind t calls for the row at q
pub record Calls (starts : List ℕ) (b t q : ℕ) : Type 0 where
  pub part : first_part ≤ b
  pub found : ¬ (q ≡ 0)
  pub start : q ≡ start_of starts (b - first_part) t

-- what the symbol at p calls for, before a word of kind t, with k levels left
abbrev pub Turned : List ℕ → List ℕ → ℕ → ℕ → ℕ → Turn → Type 0
Turned rows starts p t k End = get_or rows p 0 ≡ 0
Turned rows starts p t k Stop =
    ((¬ (get_or rows p 0 ≡ 0)) × (get_or rows p 0 < opening) × (¬ (t ≡ get_or rows p 0)))
    ⊎ (((get_or rows p 0 ≡ opening) × (k ≡ 0))
    ⊎ ((first_part ≤ get_or rows p 0) × (0 ≡ start_of starts (get_or rows p 0 - first_part) t)))
Turned rows starts p t k Word = (¬ (get_or rows p 0 ≡ 0)) × (get_or rows p 0 < opening) × (t ≡ get_or rows p 0)
Turned rows starts p t k (Level left) = ((get_or rows p 0 ≡ opening) × (¬ (k ≡ 0)) × (left ≡ k - 1)) ⊎ ((get_or rows p 0 ≡ closing) × (left ≡ k + 1))
Turned rows starts p t k (Last q) = Calls starts (get_or rows p 0) t q × (get_or rows (p + 1) 0 ≡ 0)
Turned rows starts p t k (Call q) = Calls starts (get_or rows p 0) t q × (¬ (get_or rows (p + 1) 0 ≡ 0))

-- the tables serve, row p closes the levels that it opens, the text is short, and the word stands in it
pub record Ready (rows starts s : List ℕ) (p : ℕ) (w : Here) (k : ℕ) : Type 0 where
  pub rows_fit : length rows ≤ row_bytes
  pub starts_fit : length starts ≤ cell_count
  pub tables : Tables codes choice depth turn rows starts
  pub closed : closes 0 (row codes rows p) ≡ true
  pub short : length s ≤ most_bytes
  pub word : Stands s w
  pub few : k ≤ most_levels

-- where a row was left
abbrev pub left_at : Result Here Here → Here
left_at (Ok w) = w
left_at (Err w) = w

-- from word i on, with k levels left, row a is read up to this word; or it is the first that the row lets no program have there
abbrev pub Said : Line → List ℕ → ℕ → ℕ → Result Here Here → Type 0
Said a s i k (Ok w) = ReadTo codes choice a (codes_in s) i k w.number
Said a s i k (Err w) = StopsAt codes choice a (codes_in s) i k w.number

pub record Meets (a : Line) (s : List ℕ) (w : Here) (k : ℕ) (r : Result Here Here) : Type 0 where
  pub word : Stands s (left_at r)
  pub said : Said a s w.number k r
