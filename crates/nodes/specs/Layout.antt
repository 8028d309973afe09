-- How the nodes of a tree lie in the bytes.
use Rattle.std.specs.Prelude.{ℕ, zero, suc, ◌+◌, ◌*◌, ◌%◌, true, false, cond, List, leb, ltb, get_or}
use Rattle.nodes.specs.declared.Sum.{Sum}
use Rattle.nodes.specs.declared.Sum.TheVariants.{Plus, Minus, Times, Quotient, Remainder}
use Rattle.nodes.specs.declared.Test as declared
use Rattle.nodes.specs.declared.Test.TheVariants.{Equal, Unequal, Greater, Less}
use Rattle.nodes.specs.declared.Link.{Link}
use Rattle.nodes.specs.declared.Link.TheVariants.{And, Or}
use Rattle.nodes.specs.declared.Kind.{Kind}
use Rattle.nodes.specs.declared.Kind.TheVariants.{Literal, Truth, Input, Boolean, Integer, Bit, Not, Int, Arithmetic, Comparison, Logic}
use Rattle.nodes.specs.declared.Change.TheVariants.{Raise, Lower, Invert}
use Rattle.nodes.specs.declared.Among.{Among}
use Rattle.nodes.specs.declared.Among.TheVariants.{Test, Default}
use Rattle.nodes.specs.declared.Shape.{Shape}
use Rattle.nodes.specs.declared.Shape.TheVariants.{Plain, Waiting, Either, Repeat, Tests, Together}
use Rattle.nodes.specs.declared.What.{What}
use Rattle.nodes.specs.declared.What.TheVariants.{Skip, Delay, Change, Assign, Choice, While, Loop, Exit, Break, Switch, Parallel, Case}

unfoldable pub half_at : List ℕ → ℕ → ℕ
half_at t o = get_or t o 0 + get_or t (o + 1) 0 * 256

abbrev pub node_base : ℕ → ℕ
node_base i = i % 512 * 16

abbrev pub part_base : ℕ → ℕ
part_base j = 8192 + j % 1024 * 8

abbrev pub sum_of : ℕ → Sum
sum_of zero = Plus
sum_of (suc zero) = Minus
sum_of (suc (suc zero)) = Times
sum_of (suc (suc (suc zero))) = Quotient
sum_of (suc (suc (suc (suc n)))) = Remainder

abbrev pub test_of : ℕ → declared.Test
test_of zero = Equal
test_of (suc zero) = Unequal
test_of (suc (suc zero)) = Greater
test_of (suc (suc (suc n))) = Less

abbrev pub link_of : ℕ → Link
link_of zero = And
link_of (suc n) = Or

unfoldable pub kind_of : ℕ → ℕ → ℕ → ℕ → Kind
kind_of zero c a b = Literal a
kind_of (suc zero) c a b = Truth false
kind_of (suc (suc zero)) c a b = Truth true
kind_of (suc (suc (suc zero))) c a b = Input a
kind_of (suc (suc (suc (suc zero)))) c a b = Boolean a
kind_of (suc (suc (suc (suc (suc zero))))) c a b = Integer a c
kind_of (suc (suc (suc (suc (suc (suc zero)))))) c a b = Bit a c b
kind_of (suc (suc (suc (suc (suc (suc (suc zero))))))) c a b = Not a
kind_of (suc (suc (suc (suc (suc (suc (suc (suc zero)))))))) c a b = Int a
kind_of (suc (suc (suc (suc (suc (suc (suc (suc (suc zero))))))))) c a b = Arithmetic (sum_of c) a b
kind_of (suc (suc (suc (suc (suc (suc (suc (suc (suc (suc zero)))))))))) c a b = Comparison (test_of c) a b
kind_of (suc (suc (suc (suc (suc (suc (suc (suc (suc (suc (suc n))))))))))) c a b = Logic (link_of c) a b

unfoldable pub kind_at : List ℕ → ℕ → Kind
kind_at t j =
    kind_of (get_or t (part_base j) 0) (get_or t (part_base j + 1) 0) (half_at t (part_base j + 4)) (half_at t (part_base j + 6))

unfoldable pub what_of : ℕ → ℕ → ℕ → ℕ → ℕ → What
what_of zero a b c d = Skip
what_of (suc zero) a b c d = Delay a b
what_of (suc (suc zero)) a b c d = Change Raise (record { low = a; width = b; index = c })
what_of (suc (suc (suc zero))) a b c d = Change Lower (record { low = a; width = b; index = c })
what_of (suc (suc (suc (suc zero)))) a b c d = Change Invert (record { low = a; width = b; index = c })
what_of (suc (suc (suc (suc (suc zero))))) a b c d = Assign (record { low = a; width = b; index = 0 }) d
what_of (suc (suc (suc (suc (suc (suc zero)))))) a b c d = Choice a b
what_of (suc (suc (suc (suc (suc (suc (suc zero))))))) a b c d = While a
what_of (suc (suc (suc (suc (suc (suc (suc (suc zero)))))))) a b c d = Loop
what_of (suc (suc (suc (suc (suc (suc (suc (suc (suc zero))))))))) a b c d = Exit
what_of (suc (suc (suc (suc (suc (suc (suc (suc (suc (suc zero)))))))))) a b c d = Break
what_of (suc (suc (suc (suc (suc (suc (suc (suc (suc (suc (suc zero))))))))))) a b c d = Switch
what_of (suc (suc (suc (suc (suc (suc (suc (suc (suc (suc (suc (suc zero)))))))))))) a b c d = Parallel
what_of (suc (suc (suc (suc (suc (suc (suc (suc (suc (suc (suc (suc (suc zero))))))))))))) a b c d = Case a b
what_of (suc (suc (suc (suc (suc (suc (suc (suc (suc (suc (suc (suc (suc (suc n)))))))))))))) a b c d = Skip

unfoldable pub what_at : List ℕ → ℕ → What
what_at t i =
    what_of (get_or t (node_base i) 0) (half_at t (node_base i + 8)) (half_at t (node_base i + 10)) (half_at t (node_base i + 12))
    (half_at t (node_base i + 14))

abbrev pub among_of : What → Among
among_of Skip = Default
among_of (Delay p n) = Default
among_of (Change c v) = Default
among_of (Assign v a) = Default
among_of (Choice a m) = Default
among_of (While a) = Default
among_of Loop = Default
among_of Exit = Default
among_of Break = Default
among_of Switch = Default
among_of Parallel = Default
among_of (Case a m) = Test a m

abbrev pub shape_of : What → Shape
shape_of Skip = Plain
shape_of (Delay p n) = Waiting n
shape_of (Change c v) = Plain
shape_of (Assign v a) = Plain
shape_of (Choice a m) = Either m
shape_of (While a) = Repeat
shape_of Loop = Repeat
shape_of Exit = Plain
shape_of Break = Plain
shape_of Switch = Tests
shape_of Parallel = Together
shape_of (Case a m) = Plain

unfoldable pub width_at : List ℕ → ℕ → ℕ
width_at t i = get_or t (node_base i + 1) 0

-- the input bits that the statement's own expression reads
unfoldable pub looks_at : List ℕ → ℕ → ℕ
looks_at t i = get_or t (node_base i + 12) 0

-- a number after i and not past e
unfoldable pub within : ℕ → ℕ → ℕ → ℕ
within m i e = cond (leb m i) (i + 1) (cond (ltb e m) e m)

unfoldable pub end_at : List ℕ → ℕ → ℕ → ℕ
end_at t i e = within (half_at t (node_base i + 4)) i e

unfoldable pub branch_end_at : List ℕ → ℕ → ℕ → ℕ
branch_end_at t i e = within (half_at t (node_base i + 6)) i e
