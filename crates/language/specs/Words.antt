-- W1 to W7: the words of a text, and fault 4.
-- Assumes nothing.
use Rattle.std.specs.Prelude.{Bool, true, false, ◌&&◌, ◌||◌, cond, ◌≡◌, ◌⊎◌, List, [], ◌∷◌, ◌++◌, ℕ, suc, ◌+◌, ◌-◌, ◌*◌, ◌≤◌, leb, ltb, eqb, length, get_or, take, drop}
use Rattle.std.proofs.Math.Option.{Option, none, some}
use Prim.Native.Char.{code}
use Prim.Native.String.{String}
use Prim.Native.String as Text

-- ---- bytes

-- the bytes of a text that is written out here, in ASCII
unfoldable pub bytes : String → List ℕ
bytes Text.[] = []
bytes (Text.◌∷◌ c s) = code c ∷ bytes s

-- W1: blanks
unfoldable pub blank : ℕ → Bool
blank c = eqb c 32 || (eqb c 9 || (eqb c 10 || eqb c 13))

-- W2: a letter is one of ASCII
unfoldable pub letter : ℕ → Bool
letter c = (leb 65 c && leb c 90) || (leb 97 c && leb c 122)

-- a digit
unfoldable pub digit : ℕ → Bool
digit c = leb 48 c && leb c 57

-- W2
abbrev pub underscore : ℕ
underscore = 95

-- W2
abbrev pub hyphen : ℕ
hyphen = 45

-- W2: c goes on in a name before d (d is 0 where nothing follows)
unfoldable pub in_name : ℕ → ℕ → Bool
in_name c d = letter c || (digit c || (eqb c underscore || (eqb c hyphen && (letter d || digit d))))

-- the same form for a run of digits, which looks at no next byte
abbrev pub in_number : ℕ → ℕ → Bool
in_number c d = digit c

-- .. and of blanks
abbrev pub in_blanks : ℕ → ℕ → Bool
in_blanks c d = blank c

-- ---- which words there are

-- W5: the signs, a longer one before a shorter one that it begins with
unfoldable pub signs : List String
signs = "||" ∷ "|" ∷ "!=" ∷ "!" ∷ "==" ∷ "=" ∷ ":=" ∷ ":" ∷ ".H" ∷ ".L" ∷ ";" ∷ "," ∷ "(" ∷ ")" ∷ "[" ∷ "]" ∷ ">" ∷ "<" ∷ "&" ∷ "+" ∷ "-" ∷ "*" ∷ "/" ∷ "%" ∷ []

-- W6: never names; the last line is for later use
unfoldable pub reserved : List String
reserved =
    "program" ∷ "endprog" ∷ "input" ∷ "output" ∷ "internal" ∷ "integer" ∷ "true" ∷ "false" ∷ "int"
    ∷ "skip" ∷ "delay" ∷ "raise" ∷ "lower" ∷ "invert" ∷ "if" ∷ "then" ∷ "else" ∷ "endif" ∷ "while" ∷ "do" ∷ "loop" ∷ "endloop" ∷ "exit"
    ∷ "switch" ∷ "case" ∷ "default" ∷ "endswitch" ∷ "break" ∷ "parallel" ∷ "endparallel"
    ∷ "procedure" ∷ "endproc" ∷ "process" ∷ "processtype" ∷ "endtype" ∷ "compress" ∷ "endcompress"
    ∷ []

-- every byte goes on before the next one, the last before nothing
abbrev pub Run : (ℕ → ℕ → Bool) → List ℕ → Type 0
Run goesOn [] = Unit
Run goesOn (c ∷ w) = (goesOn c (get_or w 0 0) ≡ true) × Run goesOn w

-- a string is one of a list
abbrev pub Among : String → List String → Type 0
Among s [] = ⊥
Among s (t ∷ ss) = (s ≡ t) ⊎ Among s ss

-- W2, W4, W5: what a word can be, before its size is looked at; a reserved word has the form of a name
pub data IsWord : List ℕ → Type 0 where
  a_name : (c : ℕ) (w : List ℕ) → letter c ≡ true → Run in_name w → IsWord (c ∷ w)
  a_number : (c : ℕ) (w : List ℕ) → digit c ≡ true → Run in_number w → IsWord (c ∷ w)
  a_sign : (s : String) (w : List ℕ) → Among s signs → w ≡ bytes s → IsWord w

-- W1: the first n bytes are a word, and no more of them are
pub record Longest (l : List ℕ) (n : ℕ) : Type 0 where
  pub inside : n ≤ length l
  pub word : IsWord (take n l)
  pub most : (m : ℕ) → m ≤ length l → IsWord (take m l) → m ≤ n

-- the kinds of words: a name, a number, and each sign and each reserved word by its spelling
pub data Kind : Type 0 where
  name number : Kind
  the : String → Kind

-- the same bytes
unfoldable pub same : List ℕ → List ℕ → Bool
same [] [] = true
same [] (y ∷ v) = false
same (x ∷ w) [] = false
same (x ∷ w) (y ∷ v) = eqb x y && same w v

-- the first of some spellings whose bytes pass a test
unfoldable pub first_of : (List ℕ → Bool) → List String → Option String
first_of test [] = none
first_of test (s ∷ ss) = elim (test (bytes s)) [ true ↦ some s | false ↦ first_of test ss ]

-- the kind of a spelling that was found; k where none was
unfoldable pub spelled : Option String → Kind → Kind
spelled (some s) k = the s
spelled none k = k

-- W2, W6: the kind of a word, by its bytes: a spelling of the lists is that word, and anything else a number or a name
unfoldable pub kind_of : List ℕ → Kind
kind_of w = spelled (first_of (same w) (signs ++ reserved)) (cond (digit (get_or w 0 0)) number name)

-- W3
abbrev pub longest_name : ℕ
longest_name = 16

-- W4
abbrev pub largest_number : ℕ
largest_number = 65535

-- the value of digits, after others that come to v
unfoldable pub value_from : ℕ → List ℕ → ℕ
value_from v [] = v
value_from v (c ∷ w) = value_from (v * 10 + (c - 48)) w

-- W4: leading zeros are free
abbrev pub value_of : List ℕ → ℕ
value_of w = value_from 0 w

-- W7: too large
unfoldable pub too_large : Kind → List ℕ → Bool
too_large name w = ltb longest_name (length w)
too_large number w = ltb largest_number (value_of w)
too_large (the s) w = false

-- ---- the words of a text

-- a word: its kind, the place of its first byte, its bytes
pub record Word : Type 0 where
  pub kind : Kind
  pub place : ℕ
  pub bytes : List ℕ

-- the words in order; or the place of fault 4 (W7)
pub data Words : Type 0 where
  words : List Word → Words
  refused : ℕ → Words

-- a word put before the rest
abbrev pub before : Word → Words → Words
before w (words ws) = words (w ∷ ws)
before w (refused e) = refused e

-- the word of these bytes at a place
abbrev pub word_at : ℕ → List ℕ → Word
word_at at w = record { kind = kind_of w; place = at; bytes = w }

-- how a text is cut from `at` on, where l stands: blanks part words, each word is the longest, and a 4 ends the cut
pub data Cut : ℕ → List ℕ → Words → Type 0 where
  ends : {at : ℕ} → Cut at [] (words [])
  skips : {at c : ℕ} {l : List ℕ} {r : Words} → blank c ≡ true → Cut (suc at) l r → Cut at (c ∷ l) r
  takes : {at : ℕ} {l : List ℕ} {r q : Words} (n : ℕ) → Longest l n → too_large (kind_of (take n l)) (take n l) ≡ false → Cut (at + n) (drop n l) q → r ≡ before (word_at at (take n l)) q → Cut at l r
  large : {at : ℕ} {l : List ℕ} (n : ℕ) → Longest l n → too_large (kind_of (take n l)) (take n l) ≡ true → Cut at l (refused at)
  strange : {at c : ℕ} {l : List ℕ} → blank c ≡ false → ((n : ℕ) → ¬ (IsWord (take n (c ∷ l)))) → Cut at (c ∷ l) (refused at)
