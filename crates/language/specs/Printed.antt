-- L1, L2: how a listing is printed.
-- Assumes nothing.
use Rattle.std.specs.Prelude.{cond, List, [], ◌∷◌, ◌++◌, map, ℕ, zero, suc, ◌+◌, ◌/◌, ◌%◌, ◌^◌, ltb, length}
use Prim.Native.String.{String}
use Rattle.file_law.specs.Answer.{listed}
use Rattle.file_law.specs.Table.{Table, Row}
use Rattle.meaning.specs.Declared.{Declaration, inputs, outputs, internals, integers, Source}
use Rattle.meaning.specs.Names.{gather}
use Rattle.language.specs.Words.{bytes}

-- the decimal digits of a number, at most f of them
unfoldable pub decimal_by : ℕ → ℕ → List ℕ
decimal_by zero n = []
decimal_by (suc f) n = cond (ltb n 10) ((48 + n) ∷ []) (decimal_by f (n / 10) ++ ((48 + n % 10) ∷ []))

abbrev pub decimal : ℕ → List ℕ
decimal n = decimal_by 10 n

-- L1: one blank between words, a line feed behind a line
unfoldable pub spaced : List (List ℕ) → List ℕ
spaced [] = 10 ∷ []
spaced (w ∷ ws) = 32 ∷ (w ++ spaced ws)

abbrev pub line : String → List (List ℕ) → List ℕ
line first ws = bytes first ++ spaced ws

-- L1: a dash for no name and for no bit
abbrev pub or_dash : List (List ℕ) → List (List ℕ)
or_dash [] = bytes "-" ∷ []
or_dash (w ∷ ws) = w ∷ ws

abbrev pub input_name : Declaration → List (List ℕ)
input_name (inputs n e) = n.bytes ∷ []
input_name (outputs n e b) = []
input_name (internals n e b) = []
input_name (integers n p w v) = []

abbrev pub output_name : Declaration → List (List ℕ)
output_name (inputs n e) = []
output_name (outputs n e b) = n.bytes ∷ []
output_name (internals n e b) = []
output_name (integers n p w v) = []

-- L1: output bits, the first declared first
abbrev pub output_bits : ℕ → ℕ → List (List ℕ)
output_bits count word = listed (λ j. decimal (word / 2 ^ j % 2)) count 0

-- L1: the line of a state
abbrev pub row_line : ℕ → ℕ → Row → List ℕ
row_line count state r = decimal state ++ spaced (or_dash (output_bits count r.outputs) ++ map decimal r.nexts)

unfoldable pub row_lines : ℕ → ℕ → List Row → List ℕ
row_lines count state [] = []
row_lines count state (r ∷ rs) = row_line count state r ++ row_lines count (suc state) rs

unfoldable pub listing_of : Source → Table → List ℕ
listing_of s t =
    line "machine" (s.name ∷ [])
    ++ (line "inputs" (or_dash (gather input_name s.declared))
    ++ (line "outputs" (or_dash (gather output_name s.declared))
    ++ (line "states" (decimal (length t.rows) ∷ [])
    ++ row_lines t.outputs 0 t.rows)))

unfoldable pub refusal_line : ℕ → ℕ → List ℕ
refusal_line number place = line "refused" (decimal number ∷ bytes "at" ∷ decimal place ∷ [])
