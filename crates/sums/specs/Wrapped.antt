-- Right sides, and `+` and `-` in 32 bits.
-- Assumes nothing.
use Rattle.std.specs.Prelude.{◌≡◌, ℕ, ◌+◌, ◌-◌, ◌%◌, ◌^◌, ◌<◌, true}
use Rattle.meaning.specs.Tree.{Expr}
use Rattle.meaning.specs.Numbers.{Variable}
use Rattle.nodes.specs.Fit.{is_whole, size_of, Fit}
use Rattle.nodes.specs.declared.Sum.{Sum}
use Rattle.nodes.specs.declared.Sum.TheVariants.{Plus, Minus, Times, Quotient, Remainder}

-- what may be assigned
abbrev pub RightSide : Expr Variable → Type 0
RightSide e = (size_of e < 2147483648) × ((is_whole e ≡ true) × Fit e)

abbrev pub joined_of : Sum → ℕ → ℕ → ℕ
joined_of Plus x y = (x + y) % 2 ^ 32
joined_of Minus x y = (x + (2 ^ 32 - y)) % 2 ^ 32
joined_of Times x y = x
joined_of Quotient x y = x
joined_of Remainder x y = x
