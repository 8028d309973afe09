-- What is noted of an expression, and what is written of it, as a function of the tree.
-- Assumes nothing.
use Rattle.std.specs.Prelude.{Bool, true, false, cond, not as opposite, List, ℕ, ◌+◌, ◌*◌, ◌/◌, ◌%◌, ◌^◌, min, ltb, leb, eqb, length, set}
use Rattle.std.proofs.Math.Option.{Option, none, some}
use Rattle.std.specs.Int.Bits.{bit_or}
use Rattle.meaning.specs.Tree.{Arithmetic, plus, minus, times, quotient, remainder, Comparison, equal, unequal, greater, less, Logic, and, or, Expr, literal, truth, variable, bit, not, int, arithmetic, comparison, logic}
use Rattle.meaning.specs.Numbers.{Variable, input, boolean, integer}
use Rattle.meaning.specs.Names.{missing}
use Rattle.meaning.specs.Kinds.{both, kind_of_variable, is_truth, has_bit}
use Rattle.meaning.specs.Declared.{as_bit}
use Rattle.meaning.specs.Sizes.{most_parts}
use Rattle.meaning.specs.Worst.{most_size, variable_worst}
use Rattle.language.specs.Trees.{Name}
use Rattle.parts.specs.declared.Notes.{Notes}
use Rattle.parts.specs.declared.Got.{Got}

-- a fault 6 at p, where there is one: the least place is kept
unfoldable pub at_six : Notes → Bool → ℕ → Notes
at_six n on p = record { six = cond on (min n.six p) n.six; seven = n.seven; nine = n.nine; ten = n.ten; parts = n.parts }

-- .. a fault 7
unfoldable pub at_seven : Notes → Bool → ℕ → Notes
at_seven n on p = record { six = n.six; seven = cond on (min n.seven p) n.seven; nine = n.nine; ten = n.ten; parts = n.parts }

-- .. a fault 10
unfoldable pub at_ten : Notes → Bool → ℕ → Notes
at_ten n on p = record { six = n.six; seven = n.seven; nine = n.nine; ten = cond on (min n.ten p) n.ten; parts = n.parts }

-- one part more, or one too many
unfoldable pub counted : Notes → ℕ → Notes
counted n p = record { six = n.six; seven = n.seven; nine = cond (ltb n.parts most_parts) n.nine (min n.nine p); ten = n.ten; parts = cond (ltb n.parts most_parts) (n.parts + 1) n.parts }

-- where part i lies, behind the nodes of the statements
abbrev pub part_at : ℕ → ℕ
part_at i = 8192 + i * 8

-- part i: its kind, a width or an operator, its place and two numbers; none where they do not fit
unfoldable pub put_part : List ℕ → ℕ → ℕ → ℕ → ℕ → ℕ → ℕ → List ℕ
put_part t i k c p a b =
    cond (ltb i most_parts) (cond (leb (part_at i + 8) (length t))
    (set (set (set (set (set (set (set (set t (part_at i) k) (part_at i + 1) c) (part_at i + 2) (p % 256)) (part_at i + 3) (p / 256)) (part_at i + 4) (a % 256)) (part_at i + 5) (a / 256)) (part_at i + 6) (b % 256)) (part_at i + 7) (b / 256))
    t) t

-- the notes behind an expression, the number of its part, whether it is a truth, its worst size, the input bits that it reads, and the bytes
pub record Sum : Type 0 where
  pub notes : Notes
  pub root : ℕ
  pub truth : Bool
  pub size : ℕ
  pub looks : ℕ
  pub bytes : List ℕ

-- what the code has
abbrev pub sum_of : Got → List ℕ → Sum
sum_of r t = record { notes = r.notes; root = r.root; truth = r.truth; size = r.size; looks = r.looks; bytes = t }

-- a part with no part inside: its kind is k and its number x
unfoldable pub leaf_sum : Notes → List ℕ → ℕ → ℕ → ℕ → Bool → ℕ → Sum
leaf_sum n t k x p b z = record { notes = counted n p; root = n.parts; truth = b; size = z; looks = 0; bytes = put_part t n.parts k 0 p x 0 }

-- `!` and `int`: x is what stands inside, noted from one part more on
unfoldable pub around_sum : Notes → Sum → ℕ → ℕ → Bool → ℕ → Sum
around_sum n x k p b z = record { notes = at_seven x.notes (opposite x.truth) p; root = n.parts; truth = b; size = z; looks = x.looks; bytes = put_part x.bytes n.parts k 0 p x.root 0 }

-- operators go by the number of their sign's kind: | 3, != 4, == 6, > 18, < 19, & 20, + 21, - 22, * 23, / 24, % 25
abbrev pub of_arithmetic : Arithmetic → ℕ
of_arithmetic plus = 21
of_arithmetic minus = 22
of_arithmetic times = 23
of_arithmetic quotient = 24
of_arithmetic remainder = 25

-- .. comparisons
abbrev pub of_comparison : Comparison → ℕ
of_comparison equal = 6
of_comparison unequal = 4
of_comparison greater = 18
of_comparison less = 19

-- .. `&` and `|`
abbrev pub of_logic : Logic → ℕ
of_logic and = 20
of_logic or = 3

-- two truths or two numbers
abbrev pub alike : Bool → Bool → Bool
alike a b = cond a b (opposite b)

-- two numbers
abbrev pub neither : Bool → Bool → Bool
neither a b = cond a false (opposite b)

-- does it take these kinds
unfoldable pub fine_at : ℕ → Bool → Bool → Bool
fine_at k a b = cond (eqb k 20) (both a b) (cond (eqb k 3) (both a b) (cond (eqb k 6) (alike a b) (cond (eqb k 4) (alike a b) (neither a b))))

-- is its result a truth
unfoldable pub truth_at : ℕ → Bool
truth_at k = ltb k 21

-- sizes past the limit are one
abbrev pub cap : ℕ → ℕ
cap n = min n (most_size + 1)

-- the worst size of its result
unfoldable pub size_at : ℕ → ℕ → ℕ → ℕ
size_at k a b = cond (ltb k 21) 0 (cond (eqb k 21) (cap (a + b)) (cond (eqb k 22) (cap (a + b)) (cond (eqb k 23) (cap (a * b)) a)))

-- the kind of an operator's part: 9 arithmetic, 10 a comparison, 11 `&` and `|`
unfoldable pub group_at : ℕ → ℕ
group_at k = cond (ltb 20 k) 9 (cond (eqb k 20) 11 (cond (eqb k 3) 11 10))

-- which of its group it is
unfoldable pub order_at : ℕ → ℕ
order_at k =
    cond (eqb k 22) 1 (cond (eqb k 23) 2 (cond (eqb k 24) 3 (cond (eqb k 25) 4
    (cond (eqb k 4) 1 (cond (eqb k 18) 2 (cond (eqb k 19) 3
    (cond (eqb k 3) 1 0)))))))

-- an operator between a and b: its part has the number behind those of a
unfoldable pub join_sum : ℕ → ℕ → Sum → Sum → Sum
join_sum k p a b =
    record {
      notes = at_ten (at_seven b.notes (opposite (fine_at k a.truth b.truth)) p) (ltb most_size (size_at k a.size b.size)) p;
      root = a.notes.parts;
      truth = truth_at k;
      size = size_at k a.size b.size;
      looks = bit_or a.looks b.looks;
      bytes = put_part b.bytes a.notes.parts (group_at k) (order_at k) p a.root b.root;
    }

-- a variable's kind of part
abbrev pub kind_of : Option Variable → ℕ
kind_of none = 3
kind_of (some (input i)) = 3
kind_of (some (boolean j)) = 4
kind_of (some (integer low width)) = 5

-- its number or lowest bit
abbrev pub number_of : Option Variable → ℕ
number_of none = 0
number_of (some (input i)) = i
number_of (some (boolean j)) = j
number_of (some (integer low width)) = low

-- its width
abbrev pub width_of : Option Variable → ℕ
width_of none = 0
width_of (some (input i)) = 0
width_of (some (boolean j)) = 0
width_of (some (integer low width)) = width

-- the input bit that it is; an input past the eighth is refused anyway
abbrev pub looks_of : Option Variable → ℕ
looks_of none = 0
looks_of (some (input i)) = cond (ltb i 8) (2 ^ i) 0
looks_of (some (boolean j)) = 0
looks_of (some (integer low width)) = 0

-- a name
abbrev pub name_sum : Notes → List ℕ → Option Variable → ℕ → Sum
name_sum n t v p =
    record {
      notes = at_six (counted n p) (missing v) p;
      root = n.parts;
      truth = is_truth (kind_of_variable v);
      size = cap (variable_worst v);
      looks = looks_of v;
      bytes = put_part t n.parts (kind_of v) (width_of v % 256) p (number_of v) 0;
    }

-- a bit of a name
abbrev pub bit_sum : Notes → List ℕ → Option Variable → ℕ → ℕ → Sum
bit_sum n t v p j =
    record {
      notes = at_seven (at_six (counted n p) (missing v) p) (opposite (has_bit v j)) p;
      root = n.parts;
      truth = true;
      size = 0;
      looks = 0;
      bytes = put_part t n.parts 6 (width_of v % 256) p (number_of v) j;
    }

module _ (look : List ℕ → Option Variable) where
  -- an expression, from the notes s and the bytes t on
  unfoldable pub sum : Expr Name → Notes → List ℕ → Sum
  sum (literal p n) s t = leaf_sum s t 0 n p false n
  sum (truth p b) s t = leaf_sum s t (as_bit b + 1) 0 p true 0
  sum (variable v) s t = name_sum s t (look v.bytes) v.place
  sum (bit v j) s t = bit_sum s t (look v.bytes) v.place j
  sum (not p e) s t = around_sum s (sum e (counted s p) t) 7 p true 0
  sum (int p e) s t = around_sum s (sum e (counted s p) t) 8 p false 1
  sum (arithmetic o p a b) s t = join_sum (of_arithmetic o) p (sum a s t) (sum b (counted (sum a s t).notes p) (sum a s t).bytes)
  sum (comparison o p a b) s t = join_sum (of_comparison o) p (sum a s t) (sum b (counted (sum a s t).notes p) (sum a s t).bytes)
  sum (logic o p a b) s t = join_sum (of_logic o) p (sum a s t) (sum b (counted (sum a s t).notes p) (sum a s t).bytes)
