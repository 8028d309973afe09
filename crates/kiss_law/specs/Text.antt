-- T-04: the KISS text of a table, line by line as the document prints it.
-- Assumes nothing.
use Rattle.std.specs.Prelude.{cond, List, [], ◌∷◌, ◌++◌, ℕ, zero, suc, ◌+◌, ◌*◌, ◌/◌, ◌%◌, ◌^◌, ltb, length}
use Prim.Native.Char.{code}
use Prim.Native.String.{String}
use Prim.Native.String as Text
use Rattle.file_law.specs.Answer.{listed}
use Rattle.file_law.specs.Table.{Row, Table}

-- the bytes of a text that is written out here, in ASCII
abbrev pub ascii : String → List ℕ
ascii Text.[] = []
ascii (Text.◌∷◌ c s) = code c ∷ ascii s

-- the decimal digits of a number, at most f of them
unfoldable pub decimal_by : ℕ → ℕ → List ℕ
decimal_by zero n = []
decimal_by (suc f) n = cond (ltb n 10) ((48 + n) ∷ []) (decimal_by f (n / 10) ++ ((48 + n % 10) ∷ []))

-- no number of a text is above 16,384 rows
abbrev pub decimal : ℕ → List ℕ
decimal n = decimal_by 5 n

-- "bits first declared leftmost"
unfoldable pub bits : ℕ → ℕ → List ℕ
bits count word = listed (λ j. 48 + word / 2 ^ j % 2) count 0

-- "Lines: `.i`, `.o`, `.p` (rows), `.s`", "each line ended by LF": a dot and a letter, a blank, the size
unfoldable pub size_line : ℕ → ℕ → List ℕ
size_line letter n = 46 ∷ letter ∷ 32 ∷ (decimal n ++ (10 ∷ []))

-- "`.i`, `.o`, `.p` (rows), `.s`, `.r s0`"
unfoldable pub heading : ℕ → ℕ → ℕ → List ℕ
heading k o n = size_line (code "i") k ++ (size_line (code "o") o ++ (size_line (code "p") (n * 2 ^ k) ++ (size_line (code "s") n ++ ascii ".r s0\n")))

-- "A row is inputs, state, next state": up to the next state's number
unfoldable pub row_head : ℕ → ℕ → ℕ → List ℕ
row_head k state input = bits k input ++ (ascii " s" ++ (decimal state ++ ascii " s"))

-- "next state, the present state's outputs": from the next state's number on
unfoldable pub row_tail : ℕ → ℕ → ℕ → List ℕ
row_tail o outputs next = decimal next ++ (32 ∷ (bits o outputs ++ (10 ∷ [])))

-- "by state and then by input": the rows of a state, from an input on
unfoldable pub state_rows : ℕ → ℕ → ℕ → ℕ → ℕ → List ℕ → List ℕ
state_rows k o state outputs input [] = []
state_rows k o state outputs input (next ∷ nexts) =
    row_head k state input ++ (row_tail o outputs next ++ state_rows k o state outputs (suc input) nexts)

-- .. of all states, from one on
unfoldable pub all_rows : ℕ → ℕ → ℕ → List Row → List ℕ
all_rows k o state [] = []
all_rows k o state (r ∷ rs) = state_rows k o state r.outputs 0 r.nexts ++ all_rows k o (suc state) rs

-- "the rows by state and then by input, `.e`"
unfoldable pub text_of : Table → List ℕ
text_of t = heading t.inputs t.outputs (length t.rows) ++ (all_rows t.inputs t.outputs 0 t.rows ++ ascii ".e\n")
