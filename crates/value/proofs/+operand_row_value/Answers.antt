use mathlib.Core.Path.{◌≡◌, refl, ap, sym, ◌∙◌}
use mathlib.Core.Bool.{true}
use Prim.Native.Nat.{ℕ, ◌-◌, ◌+◌, ◌<◌}
use native.Mathlib.Omega.{arith}
use lib.IntN.{nat_abs, +ℤ_idl}
use mir.Syntax.{w64}
use mir.ValLaws.{to_z-of_z}
use Rattle.meaning.specs.Tree.{Expr, arithmetic}
use Rattle.meaning.specs.Numbers.{Variable, Reads}
use Rattle.meaning.specs.Numbers as numbers
use Rattle.nodes.specs.Layout.{half_at, part_base, kind_at}
use Rattle.nodes.specs.Decode.{sum, test, link, expr_at, expr_of}
use Rattle.nodes.specs.Fit.{size_of, Fit}
use Rattle.nodes.specs.declared.Kind.{Kind}
use Rattle.nodes.specs.declared.Sum.{Sum}
use Rattle.nodes.proofs.Laws.{expr_opened, expr_empty}
use Rattle.std.specs.Prelude.{Some}
use Rattle.std.proofs.Common.{rules}
use Rattle.value.specs.Leaf.{is_leaf}
use Rattle.value.specs.Flat.{flat}
use Rattle.value.specs.Leaf.{Leaf, leaf_of}
use Rattle.value.specs.Row.{adds}
use Rattle.value.proofs.Laws.{through, size_of_lem, fits, arithmetic_is, not_is, int_is, comparison_is, logic-first, logic-second, known, leaf-fits, leaf_is, added, row-sign, sum_room, sum_is, row_room, row_more, row_is}
use Rattle.value.proofs.+operand_row_value.Goals as goal
use Rattle.value.proofs.+operand_row_value.Goals.{operand-Then-is_leaf, row-After-term_at, value-After-part_at-n}

-- at a leaf
module _ (t : ℕ) (c : operand-Then-is_leaf t) where
  abbrev o_reads : Reads
  o_reads = record { word = c.args.r.word; inputs = c.args.r.inputs }

  o_opens : expr_at c.args.left c.args.t.now c.args.j ≡ expr_of (expr_at (c.args.left - 1) c.args.t.now) (half_at c.args.t.now (part_base c.args.j + 2)) (kind_at c.args.t.now c.args.j)
  o_opens = expr_opened _ _ _ c.if-left-eq0.false refl refl

  o_fits : Leaf (kind_at c.args.t.now c.args.j)
  o_fits = leaf-fits (kind_at c.args.t.now c.args.j) (expr_at (c.args.left - 1) c.args.t.now) (half_at c.args.t.now (part_base c.args.j + 2)) (sym c.is_leaf.ensures ∙ c.if-is_leaf.true) (rw o_opens at c.requires)

  o_is : leaf_of (kind_at c.args.t.now c.args.j) o_reads ≡ flat (numbers.value (expr_at c.args.left c.args.t.now c.args.j) o_reads)
  o_is = leaf_is (kind_at c.args.t.now c.args.j) (expr_at (c.args.left - 1) c.args.t.now) (half_at c.args.t.now (part_base c.args.j + 2)) o_reads (sym c.is_leaf.ensures ∙ c.if-is_leaf.true) ∙ ap (λ (x : Expr Variable). flat (numbers.value x o_reads)) (sym o_opens)

-- in a row, at its operator o with the operands a and b
module _ (t : ℕ) (c : row-After-term_at t) where
  abbrev r_reads : Reads
  r_reads = record { word = c.args.r.word; inputs = c.args.r.inputs }

  abbrev r_sub : ℕ → Expr Variable
  r_sub a = expr_at (c.args.left - 1) c.args.t.now a

  abbrev r_place : ℕ
  r_place = half_at c.args.t.now (part_base c.args.j + 2)

  r_adds : {o : Sum} {a b : ℕ} → c.term_at.result ≡ Some (o, a, b) → adds o ≡ true
  r_adds e = (added (kind_at c.args.t.now c.args.j) (sym c.term_at.ensures ∙ e)).1

  r_opens : {o : Sum} {a b : ℕ} → c.term_at.result ≡ Some (o, a, b) → expr_at c.args.left c.args.t.now c.args.j ≡ arithmetic (sum o) r_place (r_sub a) (r_sub b)
  r_opens e = expr_opened _ _ _ c.if-left-eq0.false refl (added (kind_at c.args.t.now c.args.j) (sym c.term_at.ensures ∙ e)).0

  r_fit : {o : Sum} {a b : ℕ} → c.term_at.result ≡ Some (o, a, b) → Fit (arithmetic (sum o) r_place (r_sub a) (r_sub b))
  r_fit e = rw (r_opens e) at c.requires.0

  r_room : {o : Sum} {a b : ℕ} → c.term_at.result ≡ Some (o, a, b) → size_of (arithmetic (sum o) r_place (r_sub a) (r_sub b)) + nat_abs c.args.x < 2147483648
  r_room e = rw (r_opens e) at c.requires.1.1

-- at a part of the kind k
module _ (t : ℕ) (c : value-After-part_at-n t) where
  abbrev reads : Reads
  reads = record { word = c.args.r.word; inputs = c.args.r.inputs }

  abbrev sub : ℕ → Expr Variable
  sub a = expr_at (c.args.left - 1) c.args.t.now a

  abbrev place : ℕ
  place = half_at c.args.t.now (part_base c.args.j + 2)

  abbrev opened_as : Kind → Expr Variable
  opened_as k = expr_of (expr_at (c.args.left - 1) c.args.t.now) (half_at c.args.t.now (part_base c.args.j + 2)) k

  opens : {k : Kind} → c.part_at-n.result.kind ≡ k → expr_at c.args.left c.args.t.now c.args.j ≡ opened_as k
  opens e = expr_opened _ _ _ c.if-left-eq0.false c.part_at-n.ensures e

  means : {k : Kind} → c.part_at-n.result.kind ≡ k → flat (numbers.value (expr_at c.args.left c.args.t.now c.args.j) reads) ≡ flat (numbers.value (opened_as k) reads)
  means e = ap (λ (x : Expr Variable). flat (numbers.value x reads)) (opens e)

  fit : {k : Kind} → c.part_at-n.result.kind ≡ k → Fit (opened_as k)
  fit e = rw (opens e) at c.requires

pub operand-returns-then-left-eq0 : goal.operand-returns-then-left-eq0
unfolding numbers.value Fit
operand-returns-then-left-eq0 t c = sym (ap (λ (x : Expr Variable). flat (numbers.value x (record { word = c.args.r.word; inputs = c.args.r.inputs }))) (expr_empty _ _ _ c.if-left-eq0.true))

pub operand-leaf-requires : goal.operand-leaf-requires
unfolding numbers.value Fit
operand-leaf-requires t c = o_fits t (goal.at.operand-leaf-requires t c).Then-is_leaf

pub operand-returns-then-is_leaf : goal.operand-returns-then-is_leaf
unfolding numbers.value Fit
operand-returns-then-is_leaf t c = rw (through _ c.leaf.type_inv) (c.leaf.ensures ∙ o_is t (goal.at.operand-returns-then-is_leaf t c).Then-is_leaf)

pub operand-value-requires : goal.operand-value-requires
unfolding numbers.value Fit
operand-value-requires t c = (omega arith, c.requires)

pub operand-returns : goal.operand-returns
unfolding numbers.value Fit
operand-returns t c = rw (through _ c.value.type_inv) c.value.ensures

pub row-returns-then-left-eq0 : goal.row-returns-then-left-eq0
unfolding numbers.value Fit
row-returns-then-left-eq0 t c = rw (to_z-of_z w64 _ c.ranges.x, expr_empty _ _ _ c.if-left-eq0.true) (sym (+ℤ_idl _))

pub row-operand-requires : goal.row-operand-requires
unfolding numbers.value Fit
row-operand-requires t c = (omega arith, (r_fit t (goal.at.row-operand-requires t c).After-term_at c.in-Some.is).1.1.1.1)

pub row-with_sign-y-requires : goal.row-with_sign-y-requires
unfolding numbers.value Fit
row-with_sign-y-requires t c = rw (through _ c.operand.type_inv) (row-sign c.in-Some.o (r_place t (goal.at.row-with_sign-y-requires t c).After-term_at) (r_sub t (goal.at.row-with_sign-y-requires t c).After-term_at c.in-Some.a) (r_sub t (goal.at.row-with_sign-y-requires t c).After-term_at c.in-Some.b) (r_reads t (goal.at.row-with_sign-y-requires t c).After-term_at) (r_adds t (goal.at.row-with_sign-y-requires t c).After-term_at c.in-Some.is) (r_fit t (goal.at.row-with_sign-y-requires t c).After-term_at c.in-Some.is) c.operand.ensures)

pub row-plus-requires : goal.row-plus-requires
unfolding numbers.value Fit
row-plus-requires t c = let h = row_room c.in-Some.o (r_place t (goal.at.row-plus-requires t c).After-term_at) (r_sub t (goal.at.row-plus-requires t c).After-term_at c.in-Some.a) (r_sub t (goal.at.row-plus-requires t c).After-term_at c.in-Some.b) (r_reads t (goal.at.row-plus-requires t c).After-term_at) c.args.x (r_adds t (goal.at.row-plus-requires t c).After-term_at c.in-Some.is) (r_fit t (goal.at.row-plus-requires t c).After-term_at c.in-Some.is) c.operand.ensures (r_room t (goal.at.row-plus-requires t c).After-term_at c.in-Some.is) in rw (through _ c.with_sign-y.type_inv, c.with_sign-y.ensures, through _ c.operand.type_inv, to_z-of_z w64 _ c.ranges.x) (omega (arith, h))

pub row-row-requires : goal.row-row-requires
unfolding numbers.value Fit
row-row-requires t c = (omega arith, ((r_fit t (goal.at.row-row-requires t c).After-term_at c.in-Some.is).1.1.1.0, ((r_fit t (goal.at.row-row-requires t c).After-term_at c.in-Some.is).1.0, rw (through _ c.plus.type_inv, c.plus.ensures, through _ c.with_sign-y.type_inv, c.with_sign-y.ensures, through _ c.operand.type_inv, to_z-of_z w64 _ c.ranges.x) (row_more c.in-Some.o (r_place t (goal.at.row-row-requires t c).After-term_at) (r_sub t (goal.at.row-row-requires t c).After-term_at c.in-Some.a) (r_sub t (goal.at.row-row-requires t c).After-term_at c.in-Some.b) (r_reads t (goal.at.row-row-requires t c).After-term_at) c.args.x (r_adds t (goal.at.row-row-requires t c).After-term_at c.in-Some.is) (r_fit t (goal.at.row-row-requires t c).After-term_at c.in-Some.is) c.operand.ensures (r_room t (goal.at.row-row-requires t c).After-term_at c.in-Some.is)))))

pub row-operand-requires-in-None : goal.row-operand-requires-in-None
unfolding numbers.value Fit
row-operand-requires-in-None t c = (omega arith, c.requires.0)

pub row-plus-requires-in-None : goal.row-plus-requires-in-None
unfolding numbers.value Fit
row-plus-requires-in-None t c = let h = size_of_lem (expr_at c.args.left c.args.t.now c.args.j) (r_reads t (goal.at.row-plus-requires-in-None t c).After-term_at) c.requires.1.0 c.operand-in-None.ensures in rw (through _ c.operand-in-None.type_inv, to_z-of_z w64 _ c.ranges.x) (omega (arith, h, c.requires.1.1))

pub row-returns-in-Some : goal.row-returns-in-Some
unfolding numbers.value Fit
row-returns-in-Some t c = rw (through _ c.row.type_inv, c.row.ensures, through _ c.plus.type_inv, c.plus.ensures, through _ c.with_sign-y.type_inv, c.with_sign-y.ensures, through _ c.operand.type_inv, to_z-of_z w64 _ c.ranges.x, r_opens t (goal.at.row-returns-in-Some t c).After-term_at c.in-Some.is) (row_is c.in-Some.o (r_place t (goal.at.row-returns-in-Some t c).After-term_at) (r_sub t (goal.at.row-returns-in-Some t c).After-term_at c.in-Some.a) (r_sub t (goal.at.row-returns-in-Some t c).After-term_at c.in-Some.b) (r_reads t (goal.at.row-returns-in-Some t c).After-term_at) c.args.x (r_adds t (goal.at.row-returns-in-Some t c).After-term_at c.in-Some.is) (r_fit t (goal.at.row-returns-in-Some t c).After-term_at c.in-Some.is) c.operand.ensures)

pub row-returns-in-None : goal.row-returns-in-None
unfolding numbers.value Fit
row-returns-in-None t c = rw (through _ c.plus-in-None.type_inv, c.plus-in-None.ensures, through _ c.operand-in-None.type_inv, c.operand-in-None.ensures, to_z-of_z w64 _ c.ranges.x)

pub value-returns-then-left-eq0 : goal.value-returns-then-left-eq0
unfolding numbers.value Fit
value-returns-then-left-eq0 t c = sym (ap (λ (x : Expr Variable). flat (numbers.value x (record { word = c.args.r.word; inputs = c.args.r.inputs }))) (expr_empty _ _ _ c.if-left-eq0.true))

pub value-operand-requires : goal.value-operand-requires
unfolding numbers.value Fit
value-operand-requires t c = (omega arith, (fit t (goal.at.value-operand-requires t c).After-part_at-n c.in-Not.is).1)

pub value-operand-requires-in-Int : goal.value-operand-requires-in-Int
unfolding numbers.value Fit
value-operand-requires-in-Int t c = (omega arith, (fit t (goal.at.value-operand-requires-in-Int t c).After-part_at-n c.in-Int.is).1)

pub value-operand-y-requires : goal.value-operand-y-requires
unfolding numbers.value Fit
value-operand-y-requires t c = (omega arith, (fit t (goal.at.value-operand-y-requires t c).After-part_at-n c.in-Arithmetic.is).1.1.1.1)

pub value-with_sign-requires : goal.value-with_sign-requires
unfolding numbers.value Fit
value-with_sign-requires t c = rw (through _ c.operand-y.type_inv) (row-sign c.in-Arithmetic.o (place t (goal.at.value-with_sign-requires t c).After-part_at-n) (sub t (goal.at.value-with_sign-requires t c).After-part_at-n c.in-Arithmetic.a) (sub t (goal.at.value-with_sign-requires t c).After-part_at-n c.in-Arithmetic.b) (reads t (goal.at.value-with_sign-requires t c).After-part_at-n) (sym c.is_added.ensures ∙ c.if-is_added.true) (fit t (goal.at.value-with_sign-requires t c).After-part_at-n c.in-Arithmetic.is) c.operand-y.ensures)

pub value-row-requires : goal.value-row-requires
unfolding numbers.value Fit
value-row-requires t c = (omega arith, ((fit t (goal.at.value-row-requires t c).After-part_at-n c.in-Arithmetic.is).1.1.1.0, ((fit t (goal.at.value-row-requires t c).After-part_at-n c.in-Arithmetic.is).1.0, rw (through _ c.with_sign.type_inv, c.with_sign.ensures, through _ c.operand-y.type_inv) (sum_room c.in-Arithmetic.o (place t (goal.at.value-row-requires t c).After-part_at-n) (sub t (goal.at.value-row-requires t c).After-part_at-n c.in-Arithmetic.a) (sub t (goal.at.value-row-requires t c).After-part_at-n c.in-Arithmetic.b) (reads t (goal.at.value-row-requires t c).After-part_at-n) (sym c.is_added.ensures ∙ c.if-is_added.true) (fit t (goal.at.value-row-requires t c).After-part_at-n c.in-Arithmetic.is) c.operand-y.ensures))))

pub value-returns-then-is_added : goal.value-returns-then-is_added
unfolding numbers.value Fit
value-returns-then-is_added t c = rw (through _ c.row.type_inv, c.row.ensures, through _ c.with_sign.type_inv, c.with_sign.ensures, through _ c.operand-y.type_inv) (sum_is c.in-Arithmetic.o (place t (goal.at.value-returns-then-is_added t c).After-part_at-n) (sub t (goal.at.value-returns-then-is_added t c).After-part_at-n c.in-Arithmetic.a) (sub t (goal.at.value-returns-then-is_added t c).After-part_at-n c.in-Arithmetic.b) (reads t (goal.at.value-returns-then-is_added t c).After-part_at-n) (sym c.is_added.ensures ∙ c.if-is_added.true) (fit t (goal.at.value-returns-then-is_added t c).After-part_at-n c.in-Arithmetic.is) c.operand-y.ensures ∙ sym (means t (goal.at.value-returns-then-is_added t c).After-part_at-n c.in-Arithmetic.is))

pub value-operand-requires-in-Arithmetic : goal.value-operand-requires-in-Arithmetic
unfolding numbers.value Fit
value-operand-requires-in-Arithmetic t c = (omega arith, (fit t (goal.at.value-operand-requires-in-Arithmetic t c).After-part_at-n c.in-Arithmetic.is).1.1.1.0)

pub value-computed-requires : goal.value-computed-requires
unfolding numbers.value Fit
value-computed-requires t c = let h = fit t (goal.at.value-computed-requires t c).After-part_at-n c.in-Arithmetic.is in rw (through _ c.operand-in-Arithmetic.type_inv, through _ c.operand-y.type_inv) (fits (sum c.in-Arithmetic.o) (sub t (goal.at.value-computed-requires t c).After-part_at-n c.in-Arithmetic.a) (sub t (goal.at.value-computed-requires t c).After-part_at-n c.in-Arithmetic.b) (reads t (goal.at.value-computed-requires t c).After-part_at-n) h.0 h.1.0 h.1.1.0 c.operand-in-Arithmetic.ensures c.operand-y.ensures)

pub value-operand-requires-in-Comparison : goal.value-operand-requires-in-Comparison
unfolding numbers.value Fit
value-operand-requires-in-Comparison t c = (omega arith, (fit t (goal.at.value-operand-requires-in-Comparison t c).After-part_at-n c.in-Comparison.is).1.0)

pub value-operand-requires-in-Comparison-2 : goal.value-operand-requires-in-Comparison-2
unfolding numbers.value Fit
value-operand-requires-in-Comparison-2 t c = (omega arith, (fit t (goal.at.value-operand-requires-in-Comparison-2 t c).After-part_at-n c.in-Comparison.is).1.1)

pub value-operand-x-requires : goal.value-operand-x-requires
unfolding numbers.value Fit
value-operand-x-requires t c = (omega arith, (fit t (goal.at.value-operand-x-requires t c).After-part_at-n c.in-Logic.is).1.1.0)

pub value-returns-then-decided : goal.value-returns-then-decided
unfolding numbers.value Fit
value-returns-then-decided t c = rw (through _ c.operand-x.type_inv) (logic-first (link c.in-Logic.o) (place t (goal.at.value-returns-then-decided t c).After-part_at-n) (sub t (goal.at.value-returns-then-decided t c).After-part_at-n c.in-Logic.a) (sub t (goal.at.value-returns-then-decided t c).After-part_at-n c.in-Logic.b) (reads t (goal.at.value-returns-then-decided t c).After-part_at-n) (fit t (goal.at.value-returns-then-decided t c).After-part_at-n c.in-Logic.is).0 c.operand-x.ensures (rw (c.decided.ensures, through _ c.operand-x.type_inv) at c.if-decided.true) ∙ sym (means t (goal.at.value-returns-then-decided t c).After-part_at-n c.in-Logic.is))

pub value-operand-requires-in-Logic : goal.value-operand-requires-in-Logic
unfolding numbers.value Fit
value-operand-requires-in-Logic t c = (omega arith, (fit t (goal.at.value-operand-requires-in-Logic t c).After-part_at-n c.in-Logic.is).1.1.1)

pub value-returns-in-Not : goal.value-returns-in-Not
unfolding numbers.value Fit
value-returns-in-Not t c = rw (through _ c.flipped.type_inv, c.flipped.ensures, through _ c.operand.type_inv) (not_is (place t (goal.at.value-returns-in-Not t c).After-part_at-n) (sub t (goal.at.value-returns-in-Not t c).After-part_at-n c.in-Not.a) (reads t (goal.at.value-returns-in-Not t c).After-part_at-n) (fit t (goal.at.value-returns-in-Not t c).After-part_at-n c.in-Not.is).0 c.operand.ensures ∙ sym (means t (goal.at.value-returns-in-Not t c).After-part_at-n c.in-Not.is))

pub value-returns-in-Int : goal.value-returns-in-Int
unfolding numbers.value Fit
value-returns-in-Int t c = rw (through _ c.operand-in-Int.type_inv) (int_is (place t (goal.at.value-returns-in-Int t c).After-part_at-n) (sub t (goal.at.value-returns-in-Int t c).After-part_at-n c.in-Int.a) (reads t (goal.at.value-returns-in-Int t c).After-part_at-n) (fit t (goal.at.value-returns-in-Int t c).After-part_at-n c.in-Int.is).0 c.operand-in-Int.ensures ∙ sym (means t (goal.at.value-returns-in-Int t c).After-part_at-n c.in-Int.is))

pub value-returns-else-is_added : goal.value-returns-else-is_added
unfolding numbers.value Fit
value-returns-else-is_added t c = rw (through _ c.computed.type_inv, c.computed.ensures, through _ c.operand-in-Arithmetic.type_inv, through _ c.operand-y.type_inv) (arithmetic_is (sum c.in-Arithmetic.o) (place t (goal.at.value-returns-else-is_added t c).After-part_at-n) (sub t (goal.at.value-returns-else-is_added t c).After-part_at-n c.in-Arithmetic.a) (sub t (goal.at.value-returns-else-is_added t c).After-part_at-n c.in-Arithmetic.b) (reads t (goal.at.value-returns-else-is_added t c).After-part_at-n) (fit t (goal.at.value-returns-else-is_added t c).After-part_at-n c.in-Arithmetic.is).1.0 (fit t (goal.at.value-returns-else-is_added t c).After-part_at-n c.in-Arithmetic.is).1.1.0 c.operand-in-Arithmetic.ensures c.operand-y.ensures ∙ sym (means t (goal.at.value-returns-else-is_added t c).After-part_at-n c.in-Arithmetic.is))

pub value-returns-in-Comparison : goal.value-returns-in-Comparison
unfolding numbers.value Fit
value-returns-in-Comparison t c = rw (through _ c.compared.type_inv, c.compared.ensures, through _ c.operand-in-Comparison.type_inv, through _ c.operand-in-Comparison-2.type_inv) (comparison_is (test c.in-Comparison.o) (place t (goal.at.value-returns-in-Comparison t c).After-part_at-n) (sub t (goal.at.value-returns-in-Comparison t c).After-part_at-n c.in-Comparison.a) (sub t (goal.at.value-returns-in-Comparison t c).After-part_at-n c.in-Comparison.b) (reads t (goal.at.value-returns-in-Comparison t c).After-part_at-n) (fit t (goal.at.value-returns-in-Comparison t c).After-part_at-n c.in-Comparison.is).0 c.operand-in-Comparison.ensures c.operand-in-Comparison-2.ensures ∙ sym (means t (goal.at.value-returns-in-Comparison t c).After-part_at-n c.in-Comparison.is))

pub value-returns-else-decided : goal.value-returns-else-decided
unfolding numbers.value Fit
value-returns-else-decided t c = rw (through _ c.operand-in-Logic.type_inv) (logic-second (link c.in-Logic.o) (place t (goal.at.value-returns-else-decided t c).After-part_at-n) (sub t (goal.at.value-returns-else-decided t c).After-part_at-n c.in-Logic.a) (sub t (goal.at.value-returns-else-decided t c).After-part_at-n c.in-Logic.b) (reads t (goal.at.value-returns-else-decided t c).After-part_at-n) (fit t (goal.at.value-returns-else-decided t c).After-part_at-n c.in-Logic.is).0 (fit t (goal.at.value-returns-else-decided t c).After-part_at-n c.in-Logic.is).1.0 c.operand-x.ensures (rw (c.decided.ensures, through _ c.operand-x.type_inv) at c.if-decided.false) c.operand-in-Logic.ensures ∙ sym (means t (goal.at.value-returns-else-decided t c).After-part_at-n c.in-Logic.is))

pub value-leaf-requires : goal.value-leaf-requires
unfolding numbers.value Fit
value-leaf-requires t c =
    let e : is_leaf c.part_at-n.result.kind ≡ true = search rules in
    rw (known _ _ c.part_at-n.ensures refl) (leaf-fits c.part_at-n.result.kind _ _ e (fit t (goal.at.value-leaf-requires t c).After-part_at-n refl))

pub value-returns-in_default : goal.value-returns-in_default
unfolding numbers.value Fit
value-returns-in_default t c =
    let e : is_leaf c.part_at-n.result.kind ≡ true = search rules in
    rw (through _ c.leaf.type_inv, c.leaf.ensures, known _ _ c.part_at-n.ensures refl) (leaf_is c.part_at-n.result.kind _ _ _ e ∙ sym (means t (goal.at.value-returns-in_default t c).After-part_at-n refl))
