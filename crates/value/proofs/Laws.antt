-- Values as whole numbers, and their sizes.
use mathlib.Core.Path.{◌≡◌, refl, sym, ap, ◌∙◌}
use mathlib.Core.Bool.{Bool, true, false, not as opposite}
use mathlib.Core.List.{List}
use Prim.Native.Nat.{ℕ, zero, suc, ◌+◌, ◌*◌, ◌/◌, ◌%◌, ◌≤◌, ◌<◌, ◌^◌}
use native.Mathlib.Nat.{le_refl, le_trans, mul-le-mul, mod-lt, mod-eq_of_lt, one-mul}
use native.Mathlib.Omega.{arith}
use lib.Dec.{ltb}
use borrow.Author.Tests.{le-ltb}
use lib.IntN.{ℤ, pos, negsuc, neg_ℤ, nat_abs, ◌+ℤ◌, +ℤ_assoc, +ℤ_idl}
use lib.Pow.{pow_pos, le_ones, pow_mono}
use lib.Signed.{mag}
use mir.Syntax.{w64}
use mir.Val.{of_z, to_z}
use mir.ValLaws.{to_z-of_z}
use Rattle.meaning.specs.Tree.{Arithmetic, plus, minus, times, quotient, remainder, Comparison, equal, unequal, greater, less, Logic, and, or, Expr, literal, truth, variable, bit, not, int, arithmetic, comparison, logic}
use Rattle.meaning.specs.Numbers.{Variable, input, boolean, integer, Reads, Value, whole, bool, over, rest, whole_of, bool_of, compute, compare, combine, as_number, read, read_bit, value}
use Rattle.meaning.specs.Worst.{combined}
use Rattle.ints.proofs.Laws.{abs_sum, abs_diff, abs_prod, abs_quot, abs_rem}
use Rattle.nodes.specs.Layout.{half_at, part_base, kind_of, kind_at}
use Rattle.nodes.specs.Decode.{sum, expr_of}
use Rattle.nodes.specs.Fit.{is_whole, variable_size, size_of, FitKinds, Fit}
use Rattle.nodes.specs.declared.Part.{Part}
use Rattle.nodes.specs.declared.Sum.{Sum}
use Rattle.nodes.specs.declared.Sum.TheVariants.{Plus, Minus, Times, Quotient, Remainder}
use Rattle.nodes.specs.declared.Kind.{Kind}
use Rattle.nodes.specs.declared.Kind.TheVariants as kinds
use Rattle.std.specs.Prelude.{Option, Some, None}
use Rattle.value.specs.Flat.{flat, truth_of, compare_z, decides}
use Rattle.value.specs.Leaf.{is_leaf, Leaf, leaf_of}
use Rattle.value.specs.Row.{adds, signed, term_of}

-- a number that an i64 holds, read back from its bits
pub through : (z : ℤ) → mag z < 9223372036854775808 → to_z w64 (of_z w64 z) ≡ z
through z h = to_z-of_z w64 z (record { sfits = h })

pub one_shifted : (w : ℕ) → w ≤ 16 → 1 * 2 ^ w % 4294967296 ≡ 2 ^ w
one_shifted w h = ap (λ (x : ℕ). x % 4294967296) (one-mul (2 ^ w)) ∙ mod-eq_of_lt (omega (arith, pow_mono {i = w} {j = 16} h))

-- ---- sizes

abs_over : (a b : ℤ) → nat_abs (over a b) ≤ nat_abs a
abs_over a (pos zero) = omega arith
abs_over a (pos (suc b)) = abs_quot a (pos (suc b))
abs_over a (negsuc b) = abs_quot a (negsuc b)

abs_rest : (a b : ℤ) → nat_abs (rest a b) ≤ nat_abs a
abs_rest a (pos zero) = le_refl (nat_abs a)
abs_rest a (pos (suc b)) = abs_rem a (pos (suc b))
abs_rest a (negsuc b) = abs_rem a (negsuc b)

pub combined_mono : (o : Arithmetic) {a b m n : ℕ} → a ≤ m → b ≤ n → combined o a b ≤ combined o m n
combined_mono plus h k = omega arith
combined_mono minus h k = omega arith
combined_mono times h k = mul-le-mul h k
combined_mono quotient h k = h
combined_mono remainder h k = h

abs_compute : (o : Arithmetic) (a b : ℤ) → nat_abs (compute o a b) ≤ combined o (nat_abs a) (nat_abs b)
abs_compute plus a b = abs_sum a b
abs_compute minus a b = abs_diff a b
abs_compute times a b = rw (abs_prod a b) (le_refl _)
abs_compute quotient a b = abs_over a b
abs_compute remainder a b = abs_rest a b

abs_read : (v : Variable) (r : Reads) → nat_abs (whole_of (read v r)) ≤ variable_size v
abs_read (input i) r = omega arith
abs_read (boolean j) r = omega arith
abs_read (integer low width) r = le_ones width (mod-lt (r.word / 2 ^ low) (pow_pos width))

abs_bit : (v : Variable) (j : ℕ) (r : Reads) → nat_abs (whole_of (read_bit v j r)) ≤ 0
abs_bit (input i) j r = omega arith
abs_bit (boolean b) j r = omega arith
abs_bit (integer low width) j r = omega arith

abs_number : (b : Bool) → nat_abs (as_number b) ≤ 1
abs_number true = omega arith
abs_number false = omega arith

pub sized : (e : Expr Variable) (r : Reads) → nat_abs (whole_of (value e r)) ≤ size_of e
unfolding value size_of
sized (literal p n) r = le_refl n
sized (truth p b) r = omega arith
sized (variable v) r = abs_read v r
sized (bit v j) r = abs_bit v j r
sized (not p e) r = omega arith
sized (int p e) r = abs_number (bool_of (value e r))
sized (arithmetic o p a b) r = le_trans (abs_compute o _ _) (combined_mono o (sized a r) (sized b r))
sized (comparison o p a b) r = omega arith
sized (logic o p a b) r = omega arith

-- ---- kinds

abbrev is_whole_value : Value → Bool
is_whole_value (whole z) = true
is_whole_value (bool b) = false

kind-read : (v : Variable) (r : Reads) → is_whole_value (read v r) ≡ is_whole (variable v)
kind-read (input i) r = refl
kind-read (boolean j) r = refl
kind-read (integer low width) r = refl

kind-bit : (v : Variable) (j : ℕ) (r : Reads) → is_whole_value (read_bit v j r) ≡ false
kind-bit (input i) j r = refl
kind-bit (boolean b) j r = refl
kind-bit (integer low width) j r = refl

kind : (e : Expr Variable) (r : Reads) → is_whole_value (value e r) ≡ is_whole e
unfolding value
kind (literal p n) r = refl
kind (truth p b) r = refl
kind (variable v) r = kind-read v r
kind (bit v j) r = kind-bit v j r
kind (not p e) r = refl
kind (int p e) r = refl
kind (arithmetic o p a b) r = refl
kind (comparison o p a b) r = refl
kind (logic o p a b) r = refl

whole_of_lem : (v : Value) → is_whole_value v ≡ true → flat v ≡ whole_of v
whole_of_lem (whole z) e = refl
whole_of_lem (bool b) e = absurd (let z : ◌≡◌ {A = ℕ} 0 1 = cc in omega arith)

truth-number : (b : Bool) → truth_of (as_number b) ≡ b
truth-number true = refl
truth-number false = refl

truth_of_lem : (v : Value) → is_whole_value v ≡ false → truth_of (flat v) ≡ bool_of v
truth_of_lem (whole z) e = absurd (let z : ◌≡◌ {A = ℕ} 0 1 = cc in omega arith)
truth_of_lem (bool b) e = truth-number b

flat_of : (v : Value) → is_whole_value v ≡ false → flat v ≡ as_number (bool_of v)
flat_of (whole z) e = absurd (let z : ◌≡◌ {A = ℕ} 0 1 = cc in omega arith)
flat_of (bool b) e = refl

pub whole-flat : (e : Expr Variable) (r : Reads) → is_whole e ≡ true → flat (value e r) ≡ whole_of (value e r)
whole-flat e r h = whole_of_lem (value e r) (kind e r ∙ h)

pub truth-back : (e : Expr Variable) (r : Reads) → is_whole e ≡ false → truth_of (flat (value e r)) ≡ bool_of (value e r)
truth-back e r h = truth_of_lem (value e r) (kind e r ∙ h)

truth-flat : (e : Expr Variable) (r : Reads) → is_whole e ≡ false → flat (value e r) ≡ as_number (bool_of (value e r))
truth-flat e r h = flat_of (value e r) (kind e r ∙ h)

-- ---- one operation

pub size_of_lem : (e : Expr Variable) (r : Reads) {x : ℤ} → is_whole e ≡ true → x ≡ flat (value e r) → nat_abs x ≤ size_of e
size_of_lem e r h p = rw (p ∙ whole-flat e r h) (sized e r)

pub fits : (o : Arithmetic) (a b : Expr Variable) (r : Reads) {x y : ℤ} → combined o (size_of a) (size_of b) < 2147483648 → is_whole a ≡ true → is_whole b ≡ true
    → x ≡ flat (value a r) → y ≡ flat (value b r) → combined o (nat_abs x) (nat_abs y) < 2147483648
fits o a b r h k l p q = omega (arith, combined_mono o (size_of_lem a r k p) (size_of_lem b r l q))

pub arithmetic_is : (o : Arithmetic) (p : ℕ) (a b : Expr Variable) (r : Reads) {x y : ℤ} → is_whole a ≡ true → is_whole b ≡ true
    → x ≡ flat (value a r) → y ≡ flat (value b r) → compute o x y ≡ flat (value (arithmetic o p a b) r)
unfolding value
arithmetic_is o p a b r k l e f = rw (e ∙ whole-flat a r k, f ∙ whole-flat b r l)

pub not_is : (p : ℕ) (e : Expr Variable) (r : Reads) {x : ℤ} → is_whole e ≡ false → x ≡ flat (value e r) → as_number (opposite (truth_of x)) ≡ flat (value (not p e) r)
unfolding value
not_is p e r k f = rw (f, truth-back e r k)

pub int_is : (p : ℕ) (e : Expr Variable) (r : Reads) {x : ℤ} → is_whole e ≡ false → x ≡ flat (value e r) → x ≡ flat (value (int p e) r)
unfolding value
int_is p e r k f = f ∙ truth-flat e r k

same_number : (a b : Bool) → compare equal (bool a) (bool b) ≡ compare_z equal (as_number a) (as_number b)
same_number true true = refl
same_number true false = refl
same_number false true = refl
same_number false false = refl

pub no_bool : {A : Type 0} → ◌≡◌ {A = Bool} false true → A
no_bool e = absurd (let z : ◌≡◌ {A = ℕ} 0 1 = cc in omega arith)

no_whole : {A : Type 0} → ◌≡◌ {A = Bool} true false → A
no_whole e = absurd (let z : ◌≡◌ {A = ℕ} 0 1 = cc in omega arith)

compare-values : (o : Comparison) (v w : Value) → FitKinds o (is_whole_value v) (is_whole_value w) → compare o v w ≡ compare_z o (flat v) (flat w)
compare-values equal (whole a) (whole b) k = refl
compare-values equal (whole a) (bool b) k = no_whole k
compare-values equal (bool a) (whole b) k = no_bool k
compare-values equal (bool a) (bool b) k = same_number a b
compare-values unequal (whole a) (whole b) k = refl
compare-values unequal (whole a) (bool b) k = no_whole k
compare-values unequal (bool a) (whole b) k = no_bool k
compare-values unequal (bool a) (bool b) k = ap opposite (same_number a b)
compare-values greater (whole a) (whole b) k = refl
compare-values greater (whole a) (bool b) k = no_bool k.1
compare-values greater (bool a) (whole b) k = no_bool k.0
compare-values greater (bool a) (bool b) k = no_bool k.0
compare-values less (whole a) (whole b) k = refl
compare-values less (whole a) (bool b) k = no_bool k.1
compare-values less (bool a) (whole b) k = no_bool k.0
compare-values less (bool a) (bool b) k = no_bool k.0

pub comparison_is : (o : Comparison) (p : ℕ) (a b : Expr Variable) (r : Reads) {x y : ℤ} → FitKinds o (is_whole a) (is_whole b)
    → x ≡ flat (value a r) → y ≡ flat (value b r) → as_number (compare_z o x y) ≡ flat (value (comparison o p a b) r)
unfolding value
comparison_is o p a b r k e f =
    rw (e, f) (ap as_number (sym (compare-values o (value a r) (value b r) (rw (kind a r, kind b r) k))))

first-decides : (o : Logic) (a b : Bool) → decides o (as_number a) ≡ true → as_number a ≡ as_number (combine o a b)
first-decides and true b e = no_bool e
first-decides and false b e = refl
first-decides or true b e = refl
first-decides or false b e = no_bool e

second-decides : (o : Logic) (a b : Bool) → decides o (as_number a) ≡ false → as_number b ≡ as_number (combine o a b)
second-decides and true b e = refl
second-decides and false b e = no_whole e
second-decides or true b e = no_whole e
second-decides or false b e = refl

pub logic-first : (o : Logic) (p : ℕ) (a b : Expr Variable) (r : Reads) {x : ℤ} → is_whole a ≡ false
    → x ≡ flat (value a r) → decides o x ≡ true → x ≡ flat (value (logic o p a b) r)
unfolding value
logic-first o p a b r k e d = (e ∙ truth-flat a r k) ∙ first-decides o _ _ (rw (e ∙ truth-flat a r k) at d)

pub logic-second : (o : Logic) (p : ℕ) (a b : Expr Variable) (r : Reads) {x y : ℤ} → is_whole a ≡ false → is_whole b ≡ false
    → x ≡ flat (value a r) → decides o x ≡ false → y ≡ flat (value b r) → y ≡ flat (value (logic o p a b) r)
unfolding value
logic-second o p a b r k l e d f = (f ∙ truth-flat b r l) ∙ second-decides o _ _ (rw (e ∙ truth-flat a r k) at d)

-- ---- leaves

-- the kind that was read
pub known : (t : List ℕ) (j : ℕ) {n : Part} {k : Kind} → n ≡ record { place = half_at t (part_base j + 2); kind = kind_at t j } → n.kind ≡ k → kind_at t j ≡ k
known t j e d = sym (ap (λ (x : Part). x.kind) e) ∙ d

pub leaf_tag : (n c a b : ℕ) → ltb n 7 ≡ is_leaf (kind_of n c a b)
unfolding kind_of
leaf_tag zero c a b = refl
leaf_tag (suc zero) c a b = refl
leaf_tag (suc (suc zero)) c a b = refl
leaf_tag (suc (suc (suc zero))) c a b = refl
leaf_tag (suc (suc (suc (suc zero)))) c a b = refl
leaf_tag (suc (suc (suc (suc (suc zero))))) c a b = refl
leaf_tag (suc (suc (suc (suc (suc (suc zero)))))) c a b = refl
leaf_tag (suc (suc (suc (suc (suc (suc (suc zero))))))) c a b = refl
leaf_tag (suc (suc (suc (suc (suc (suc (suc (suc zero)))))))) c a b = refl
leaf_tag (suc (suc (suc (suc (suc (suc (suc (suc (suc zero))))))))) c a b = refl
leaf_tag (suc (suc (suc (suc (suc (suc (suc (suc (suc (suc zero)))))))))) c a b = refl
leaf_tag (suc (suc (suc (suc (suc (suc (suc (suc (suc (suc (suc n))))))))))) c a b = le-ltb (suc (suc (suc (suc (suc (suc (suc (suc (suc (suc (suc n))))))))))) 7 (omega arith)

pub leaf-fits : (k : Kind) (d : ℕ → Expr Variable) (p : ℕ) → is_leaf k ≡ true → Fit (expr_of d p k) → Leaf k
unfolding Fit
leaf-fits (kinds.Literal n) d p e h = h
leaf-fits (kinds.Truth b) d p e h = h
leaf-fits (kinds.Input i) d p e h = h
leaf-fits (kinds.Boolean j) d p e h = h
leaf-fits (kinds.Integer low width) d p e h = h
leaf-fits (kinds.Bit low width j) d p e h = h
leaf-fits (kinds.Not a) d p e h = no_bool e
leaf-fits (kinds.Int a) d p e h = no_bool e
leaf-fits (kinds.Arithmetic o a b) d p e h = no_bool e
leaf-fits (kinds.Comparison o a b) d p e h = no_bool e
leaf-fits (kinds.Logic o a b) d p e h = no_bool e

pub leaf_is : (k : Kind) (d : ℕ → Expr Variable) (p : ℕ) (r : Reads) → is_leaf k ≡ true → leaf_of k r ≡ flat (value (expr_of d p k) r)
unfolding value
leaf_is (kinds.Literal n) d p r e = refl
leaf_is (kinds.Truth b) d p r e = refl
leaf_is (kinds.Input i) d p r e = refl
leaf_is (kinds.Boolean j) d p r e = refl
leaf_is (kinds.Integer low width) d p r e = refl
leaf_is (kinds.Bit low width j) d p r e = refl
leaf_is (kinds.Not a) d p r e = no_bool e
leaf_is (kinds.Int a) d p r e = no_bool e
leaf_is (kinds.Arithmetic o a b) d p r e = no_bool e
leaf_is (kinds.Comparison o a b) d p r e = no_bool e
leaf_is (kinds.Logic o a b) d p r e = no_bool e

-- ---- rows of `+` and `-`

pub none_more : (n : ℕ) → n < 2147483648 → 0 + n < 2147483648
none_more n h = omega arith

no_row : {A : Type 0} {o : Sum} {a b : ℕ} → ◌≡◌ {A = Option (Sum × ℕ × ℕ)} None (Some (o, a, b)) → A
no_row e = absurd (let z : ◌≡◌ {A = ℕ} 0 1 = cc in omega arith)

-- the part with such a row
abbrev part_with : Option (Sum × ℕ × ℕ) → Kind
part_with None = kinds.Literal 0
part_with (Some x) = kinds.Arithmetic x.0 x.1 x.2

abbrev adds_in : Option (Sum × ℕ × ℕ) → Bool
adds_in None = false
adds_in (Some x) = adds x.0

pub added : (k : Kind) {o : Sum} {a b : ℕ} → term_of k ≡ Some (o, a, b) → (k ≡ kinds.Arithmetic o a b) × (adds o ≡ true)
added (kinds.Literal n) e = no_row e
added (kinds.Truth b) e = no_row e
added (kinds.Input i) e = no_row e
added (kinds.Boolean j) e = no_row e
added (kinds.Integer low width) e = no_row e
added (kinds.Bit low width j) e = no_row e
added (kinds.Not a) e = no_row e
added (kinds.Int a) e = no_row e
added (kinds.Arithmetic Plus a b) e = (ap part_with e, sym (ap adds_in e))
added (kinds.Arithmetic Minus a b) e = (ap part_with e, sym (ap adds_in e))
added (kinds.Arithmetic Times a b) e = no_row e
added (kinds.Arithmetic Quotient a b) e = no_row e
added (kinds.Arithmetic Remainder a b) e = no_row e
added (kinds.Comparison o a b) e = no_row e
added (kinds.Logic o a b) e = no_row e

pub adds-size : (o : Sum) (m n : ℕ) → adds o ≡ true → combined (sum o) m n ≡ m + n
adds-size Plus m n e = refl
adds-size Minus m n e = refl
adds-size Times m n e = no_bool e
adds-size Quotient m n e = no_bool e
adds-size Remainder m n e = no_bool e

abs_signed : (o : Sum) (y : ℤ) → nat_abs (signed o y) ≤ nat_abs y
abs_signed Plus y = le_refl (nat_abs y)
abs_signed Minus y = omega (arith, abs_diff (pos 0) y)
abs_signed Times y = le_refl (nat_abs y)
abs_signed Quotient y = le_refl (nat_abs y)
abs_signed Remainder y = le_refl (nat_abs y)

adds_is : (o : Sum) (a y : ℤ) → adds o ≡ true → a +ℤ signed o y ≡ compute (sum o) a y
adds_is Plus a y e = refl
adds_is Minus a y e = ap (λ (z : ℤ). a +ℤ z) (+ℤ_idl (neg_ℤ y))
adds_is Times a y e = no_bool e
adds_is Quotient a y e = no_bool e
adds_is Remainder a y e = no_bool e

-- the last operand y of a row
pub row-sign : (o : Sum) (p : ℕ) (a b : Expr Variable) (r : Reads) {y : ℤ} → adds o ≡ true → Fit (arithmetic (sum o) p a b) → y ≡ flat (value b r)
    → nat_abs y < 2147483648
unfolding Fit
row-sign o p a b r {y} e h f = omega (arith, h.0, adds-size o (size_of a) (size_of b) e, size_of_lem b r h.1.1.0 f)

pub sum_room : (o : Sum) (p : ℕ) (a b : Expr Variable) (r : Reads) {y : ℤ} → adds o ≡ true → Fit (arithmetic (sum o) p a b) → y ≡ flat (value b r)
    → size_of a + nat_abs (signed o y) < 2147483648
unfolding Fit
sum_room o p a b r {y} e h f =
    omega (arith, h.0, adds-size o (size_of a) (size_of b) e, size_of_lem b r h.1.1.0 f, abs_signed o y)

pub sum_is : (o : Sum) (p : ℕ) (a b : Expr Variable) (r : Reads) {y : ℤ} → adds o ≡ true → Fit (arithmetic (sum o) p a b) → y ≡ flat (value b r)
    → flat (value a r) +ℤ signed o y ≡ flat (value (arithmetic (sum o) p a b) r)
unfolding Fit
sum_is o p a b r {y} e h f =
    adds_is o (flat (value a r)) y e ∙ arithmetic_is (sum o) p a b r h.1.0 h.1.1.0 refl f

-- .. with x behind it
pub row_room : (o : Sum) (p : ℕ) (a b : Expr Variable) (r : Reads) (x : ℤ) {y : ℤ} → adds o ≡ true → Fit (arithmetic (sum o) p a b) → y ≡ flat (value b r)
    → size_of (arithmetic (sum o) p a b) + nat_abs x < 2147483648 → size_of a + (nat_abs (signed o y) + nat_abs x) < 2147483648
unfolding Fit size_of
row_room o p a b r x {y} e h f k =
    omega (arith, k, adds-size o (size_of a) (size_of b) e, size_of_lem b r h.1.1.0 f, abs_signed o y)

pub row_more : (o : Sum) (p : ℕ) (a b : Expr Variable) (r : Reads) (x : ℤ) {y : ℤ} → adds o ≡ true → Fit (arithmetic (sum o) p a b) → y ≡ flat (value b r)
    → size_of (arithmetic (sum o) p a b) + nat_abs x < 2147483648 → size_of a + nat_abs (signed o y +ℤ x) < 2147483648
row_more o p a b r x {y} e h f k = omega (arith, row_room o p a b r x e h f k, abs_sum (signed o y) x)

pub row_is : (o : Sum) (p : ℕ) (a b : Expr Variable) (r : Reads) (x : ℤ) {y : ℤ} → adds o ≡ true → Fit (arithmetic (sum o) p a b) → y ≡ flat (value b r)
    → flat (value a r) +ℤ (signed o y +ℤ x) ≡ flat (value (arithmetic (sum o) p a b) r) +ℤ x
row_is o p a b r x {y} e h f =
    sym (+ℤ_assoc (flat (value a r)) (signed o y) x) ∙ ap (λ (z : ℤ). z +ℤ x) (sum_is o p a b r e h f)
