-- V5: worst sizes passed, fault 10 at the operator.
-- Assumes nothing.
use Rattle.std.specs.Prelude.{ℕ, ◌+◌, ◌-◌, ◌*◌, ◌^◌, List, [], ltb}
use Rattle.std.proofs.Math.Option.{Option, none, some}
use Rattle.meaning.specs.Tree.{Name, Arithmetic, plus, minus, times, quotient, remainder, Expr, literal, truth, variable, bit, not, int, arithmetic, comparison, logic}
use Rattle.meaning.specs.Numbers.{Variable, input, boolean, integer}
use Rattle.meaning.specs.Declared.{Declaration, Source, look_up}
use Rattle.meaning.specs.Items.{items_all, parts_of}
use Rattle.meaning.specs.Names.{gather, when}

-- V5: the limit
abbrev pub most_size : ℕ
most_size = 2147483647

-- V5: of a name
abbrev pub variable_worst : Option Variable → ℕ
variable_worst none = 0
variable_worst (some (input i)) = 0
variable_worst (some (boolean j)) = 0
variable_worst (some (integer low width)) = 2 ^ width - 1

-- V5: of an operator
abbrev pub combined : Arithmetic → ℕ → ℕ → ℕ
combined plus a b = a + b
combined minus a b = a + b
combined times a b = a * b
combined quotient a b = a
combined remainder a b = a

-- V5: of an expression; a boolean has none
unfoldable pub worst : (Name → Option Variable) → Expr Name → ℕ
worst look (literal p n) = n
worst look (truth p b) = 0
worst look (variable v) = variable_worst (look v)
worst look (bit v j) = 0
worst look (not p e) = 0
worst look (int p e) = 1
worst look (arithmetic o p a b) = combined o (worst look a) (worst look b)
worst look (comparison o p a b) = 0
worst look (logic o p a b) = 0

abbrev pub part_worst : List Declaration → Expr Name → List ℕ
part_worst ds (literal p n) = []
part_worst ds (truth p b) = []
part_worst ds (variable v) = []
part_worst ds (bit v j) = []
part_worst ds (not p e) = []
part_worst ds (int p e) = []
part_worst ds (arithmetic o p a b) = when (ltb most_size (combined o (worst (λ v. look_up ds v.bytes) a) (worst (λ v. look_up ds v.bytes) b))) p
part_worst ds (comparison o p a b) = []
part_worst ds (logic o p a b) = []

unfoldable pub worst_faults : Source → List ℕ
worst_faults s = gather (part_worst s.declared) (parts_of (items_all s.body))
