-- Which row a word calls for, by the number of its kind.
-- Assumes nothing.
use Rattle.std.specs.Prelude.{Bool, true, cond, ◌≡◌, ℕ, ◌-◌, ◌<◌, eqb, ltb, get_or, Option as Optional, Some, None}
use Rattle.std.proofs.Math.Option.{Option, none, some}
use Rattle.language.specs.Words.{the}
use Rattle.language.specs.Grammar.{Strength, between, before}
use Rattle.words.specs.Kinds.{numbered, kind_count}
use Rattle.tiers.specs.Strengths.{strengths}
use Rattle.tiers.specs.declared.How.{How}
use Rattle.tiers.specs.declared.How.TheVariants.{Operand, Between, Before}
use Rattle.tiers.specs.declared.OperandRow.{OperandRow}
use Rattle.tiers.specs.declared.OperandRow.TheVariants as rows
use Rattle.tiers.specs.declared.PlainRow.{PlainRow}
use Rattle.tiers.specs.declared.PlainRow.TheVariants as plain
use Rattle.tiers.specs.declared.AroundRow.{AroundRow}
use Rattle.tiers.specs.declared.AroundRow.TheVariants as around
use Rattle.tiers.specs.declared.StatementRow.{StatementRow}
use Rattle.tiers.specs.declared.StatementRow.TheVariants as statements

-- the row of an operand: name, number, true, false, int, parentheses
unfoldable pub operand_row : ℕ → ℕ
operand_row k = cond (eqb k 0) 0 (cond (eqb k 1) 1 (cond (eqb k 32) 2 (cond (eqb k 33) 3 (cond (eqb k 34) 4 (cond (eqb k 14) 5 6)))))

-- the strength of an operator between its operands; 255 for every other word
unfoldable pub strength_of : ℕ → ℕ
strength_of k = get_or strengths k 255

-- the number of a strength in code; with none, that of every other word
abbrev pub strength_number : Optional ℕ → ℕ
strength_number (Some n) = n
strength_number None = 255

-- what the operators of a strength are
abbrev pub IsHow : Option Strength → How → Type 0
IsHow none Operand = Unit
IsHow none Between = ⊥
IsHow none (Before k) = ⊥
IsHow (some (between ops)) Operand = ⊥
IsHow (some (between ops)) Between = Unit
IsHow (some (between ops)) (Before k) = ⊥
IsHow (some (before op)) Operand = ⊥
IsHow (some (before op)) Between = ⊥
IsHow (some (before op)) (Before k) = (numbered k ≡ the op) × (k < kind_count)

-- the row of a statement, by the number of its first word's kind: skip, delay, raise, lower, invert, a name, if, while, loop, exit, switch, break, parallel; 13 for every other word
unfoldable pub statement_row : ℕ → ℕ
statement_row k =
    cond (eqb k 0) 5 (cond (ltb k 35) 13 (cond (ltb k 40) (k - 35) (cond (eqb k 40) 6 (cond (eqb k 44) 7 (cond (eqb k 46) 8 (cond (eqb k 48) 9
    (cond (eqb k 49) 10 (cond (eqb k 53) 11 (cond (eqb k 54) 12 13)))))))))

-- the number of a row in code; with no row, that of every other word
abbrev pub operand_number : Optional OperandRow → ℕ
operand_number (Some rows.Name) = 0
operand_number (Some rows.Number) = 1
operand_number (Some (rows.Truth b)) = cond b 2 3
operand_number (Some rows.Int) = 4
operand_number (Some rows.Open) = 5
operand_number None = 6

abbrev pub plain_number : PlainRow → ℕ
plain_number plain.Skip = 0
plain_number plain.Delay = 1
plain_number plain.Raise = 2
plain_number plain.Lower = 3
plain_number plain.Invert = 4
plain_number plain.Exit = 9
plain_number plain.Break = 11

abbrev pub around_number : AroundRow → ℕ
around_number around.If = 6
around_number around.While = 7
around_number around.Loop = 8
around_number around.Switch = 10
around_number around.Parallel = 12

abbrev pub statement_number : Optional StatementRow → ℕ
statement_number (Some (statements.Plain p)) = plain_number p
statement_number (Some statements.Name) = 5
statement_number (Some (statements.Around r)) = around_number r
statement_number None = 13

-- the rows with no statement inside that do not begin with a name
unfoldable pub is_plain : ℕ → Bool
is_plain r = cond (ltb r 5) true (cond (eqb r 9) true (eqb r 11))
