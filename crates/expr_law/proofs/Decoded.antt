-- The bytes that the sum of an expression has decode to the expression, where its parts fit, whatever is written elsewhere.
-- Assumes nothing.
use mathlib.Core.Bool.{Bool, true, false, cond}
use mathlib.Core.Path.{◌≡◌, refl, ◌∙◌, ap, ap₂}
use mathlib.Core.List.{List, ◌∷◌}
use mathlib.Core.Option.{Option, none, some}
use Prim.Native.Nat.{ℕ, zero, suc, ◌+◌, ◌*◌, ◌%◌, ◌≤◌, ◌<◌}
use native.Mathlib.Omega.{arith}
use lib.ListN.{length, get_or, length-append}
use borrow.Author.Tests.{lt-ltb}
use Rattle.meaning.specs.Tree.{Arithmetic, plus, minus, times, quotient, remainder, Comparison, equal, unequal, greater, less, Logic, and, or, Expr, literal, truth, variable, bit, not, int, arithmetic, comparison, logic}
use Rattle.meaning.specs.Numbers.{Variable, input, boolean, integer}
use Rattle.meaning.specs.Declared.{as_bit}
use Rattle.meaning.specs.Items.{within}
use Rattle.meaning.specs.Kinds.{has_bit}
use Rattle.meaning.specs.Checked.{known, resolved}
use Rattle.language.specs.Trees.{Name}
use Rattle.nodes.specs.Layout as layout
use Rattle.nodes.specs.Decode.{expr_of, expr_at}
use Rattle.parts.specs.declared.Notes.{Notes}
use Rattle.parts.specs.Sum.{Sum, sum, part_at, put_part, counted, at_six, at_seven, leaf_sum, around_sum, join_sum, of_arithmetic, of_comparison, of_logic, group_at, order_at, kind_of, number_of, width_of}
use Rattle.parts.proofs.Small.{put-length}
use Rattle.expr_law.proofs.Counted.{up_more, up_most, parts_more, parts-most, parts_fit}
use Rattle.expr_law.proofs.Written.{Off, Agree, put-off, read-place, read-kind}

module _ (look : List ℕ → Option Variable) where
  abbrev size : Expr Name → ℕ
  size e = length (within e)

  abbrev S : Expr Name → Notes → List ℕ → Sum
  S e n t = sum look e n t

  -- ---- the sum of an operator, for all three kinds at once

  record Joined (k p : ℕ) (x a b : Expr Name) : Type 0 where
    sums : (n : Notes) (t : List ℕ) → S x n t ≡ join_sum k p (S a n t) (S b (counted (S a n t).notes p) (S a n t).bytes)
    parts : size x ≡ size a + suc (size b)

  arithmetic-joined : (o : Arithmetic) (p : ℕ) (a b : Expr Name) → Joined (of_arithmetic o) p (arithmetic o p a b) a b
  unfolding sum within
  arithmetic-joined o p a b = record { sums = λ n t. refl; parts = length-append (within a) (arithmetic o p a b ∷ within b) }

  comparison-joined : (o : Comparison) (p : ℕ) (a b : Expr Name) → Joined (of_comparison o) p (comparison o p a b) a b
  unfolding sum within
  comparison-joined o p a b = record { sums = λ n t. refl; parts = length-append (within a) (comparison o p a b ∷ within b) }

  logic-joined : (o : Logic) (p : ℕ) (a b : Expr Name) → Joined (of_logic o) p (logic o p a b) a b
  unfolding sum within
  logic-joined o p a b = record { sums = λ n t. refl; parts = length-append (within a) (logic o p a b ∷ within b) }

  -- ---- the bytes stay as many, and every byte stays but those of the expression's own parts

  counted-parts : (n : Notes) (p : ℕ) → (n.parts ≤ (counted n p).parts) × ((counted n p).parts ≤ n.parts + 1)
  unfolding counted
  counted-parts n p = (up_more n.parts, up_most n.parts)

  counted_fit : (n : Notes) (p : ℕ) → n.parts < 1024 → (counted n p).parts ≡ n.parts + 1
  unfolding counted
  counted_fit n p h = ap (λ (b : Bool). cond b (n.parts + 1) n.parts) (lt-ltb n.parts 1024 h)

  joined-long : (k p : ℕ) (x a b : Expr Name) (n : Notes) (t : List ℕ) → Joined k p x a b → length (S a n t).bytes ≡ length t → ((m : Notes) (u : List ℕ) → length (S b m u).bytes ≡ length u) → length (S x n t).bytes ≡ length t
  unfolding join_sum
  joined-long k p x a b n t e f g = ap (λ (y : Sum). length y.bytes) (e.sums n t) ∙ put-length _ _ _ _ _ _ _ ∙ g _ _ ∙ f

  pub long_is : (e : Expr Name) (n : Notes) (t : List ℕ) → length (sum look e n t).bytes ≡ length t
  unfolding sum leaf_sum around_sum
  long_is (literal p x) n t = put-length t _ _ _ _ _ _
  long_is (truth p b) n t = put-length t _ _ _ _ _ _
  long_is (variable v) n t = put-length t _ _ _ _ _ _
  long_is (bit v j) n t = put-length t _ _ _ _ _ _
  long_is (not p e) n t = put-length _ _ _ _ _ _ _ ∙ long_is e (counted n p) t
  long_is (int p e) n t = put-length _ _ _ _ _ _ _ ∙ long_is e (counted n p) t
  long_is (arithmetic o p a b) n t = joined-long (of_arithmetic o) p (arithmetic o p a b) a b n t (arithmetic-joined o p a b) (long_is a n t) (λ m u. long_is b m u)
  long_is (comparison o p a b) n t = joined-long (of_comparison o) p (comparison o p a b) a b n t (comparison-joined o p a b) (long_is a n t) (λ m u. long_is b m u)
  long_is (logic o p a b) n t = joined-long (of_logic o) p (logic o p a b) a b n t (logic-joined o p a b) (long_is a n t) (λ m u. long_is b m u)

  abbrev Stays : Expr Name → Notes → List ℕ → ℕ → Type 0
  Stays e n t q = Off q (part_at n.parts) (part_at (n.parts + size e)) → get_or (sum look e n t).bytes q 0 ≡ get_or t q 0

  around_stays : (e x : Expr Name) (n : Notes) (t : List ℕ) (k p q : ℕ) → size e ≡ suc (size x) → (S e n t).bytes ≡ put_part (S x (counted n p) t).bytes n.parts k 0 p (S x (counted n p) t).root 0 → Stays x (counted n p) t q → Stays e n t q
  around_stays e x n t k p q one r f off =
      let (more, most) = counted-parts n p in
      ap (λ (u : List ℕ). get_or u q 0) r ∙ put-off _ n.parts _ _ _ _ _ q (λ h. omega (arith, off h)) ∙ f (λ h. omega (arith, off (omega arith)))

  joined_stays : (k p : ℕ) (x a b : Expr Name) (n : Notes) (t : List ℕ) (q : ℕ) → Joined k p x a b → Stays a n t q → ((m : Notes) (u : List ℕ) → Stays b m u q) → Stays x n t q
  unfolding join_sum
  joined_stays k p x a b n t q e f g off =
      let A : Sum = S a n t in
      let m : Notes = counted A.notes p in
      let z = e.parts in
      let c = parts_more look a n t in
      let d = parts-most look a n t in
      let (more, most) = counted-parts A.notes p in
      ap (λ (y : Sum). get_or y.bytes q 0) (e.sums n t) ∙ put-off _ A.notes.parts _ _ _ _ _ q (λ h. omega (arith, off (omega arith))) ∙ g m A.bytes (λ h. omega (arith, off (omega arith))) ∙ f (λ h. omega (arith, off (omega arith)))

  pub stays : (e : Expr Name) (n : Notes) (t : List ℕ) (q : ℕ) → Off q (part_at n.parts) (part_at (n.parts + size e)) → get_or (sum look e n t).bytes q 0 ≡ get_or t q 0
  unfolding sum within leaf_sum around_sum
  stays (literal p x) n t q off = put-off t n.parts _ _ _ _ _ q (λ h. omega (arith, off h))
  stays (truth p b) n t q off = put-off t n.parts _ _ _ _ _ q (λ h. omega (arith, off h))
  stays (variable v) n t q off = put-off t n.parts _ _ _ _ _ q (λ h. omega (arith, off h))
  stays (bit v j) n t q off = put-off t n.parts _ _ _ _ _ q (λ h. omega (arith, off h))
  stays (not p e) n t q off = around_stays (not p e) e n t 7 p q refl refl (stays e (counted n p) t q) off
  stays (int p e) n t q off = around_stays (int p e) e n t 8 p q refl refl (stays e (counted n p) t q) off
  stays (arithmetic o p a b) n t q off = joined_stays (of_arithmetic o) p (arithmetic o p a b) a b n t q (arithmetic-joined o p a b) (stays a n t q) (λ m u. stays b m u q) off
  stays (comparison o p a b) n t q off = joined_stays (of_comparison o) p (comparison o p a b) a b n t q (comparison-joined o p a b) (stays a n t q) (λ m u. stays b m u q) off
  stays (logic o p a b) n t q off = joined_stays (of_logic o) p (logic o p a b) a b n t q (logic-joined o p a b) (stays a n t q) (λ m u. stays b m u q) off

  pub record Kept (e : Expr Name) (n : Notes) (t : List ℕ) : Type 0 where
    pub parts : (sum look e n t).notes.parts ≡ n.parts + length (within e)
    pub long : length (sum look e n t).bytes ≡ length t
    pub low : (q : ℕ) → q < 8192 + n.parts * 8 → get_or (sum look e n t).bytes q 0 ≡ get_or t q 0
    pub high : (q : ℕ) → 8192 + (n.parts + length (within e)) * 8 ≤ q → get_or (sum look e n t).bytes q 0 ≡ get_or t q 0

  pub kept : (e : Expr Name) (n : Notes) (t : List ℕ) → n.parts + length (within e) ≤ 1024 → Kept e n t
  kept e n t h = record { parts = parts_fit look e n t h; long = long_is e n t; low = λ q l. stays e n t q (λ g. absurd (omega arith)); high = λ q l. stays e n t q (λ g. l) }

  -- ---- a part is read as what was written

  -- every width is written whole
  abbrev pub Narrow : Type 0
  Narrow = (x : List ℕ) → width_of (look x) < 256

  -- every bit is one of an integer
  abbrev pub Bits : Expr Name → Type 0
  Bits (literal p n) = Unit {0}
  Bits (truth p b) = Unit {0}
  Bits (variable v) = Unit {0}
  Bits (bit v j) = has_bit (look v.bytes) j ≡ true
  Bits (not p e) = Bits e
  Bits (int p e) = Bits e
  Bits (arithmetic o p a b) = Bits a × Bits b
  Bits (comparison o p a b) = Bits a × Bits b
  Bits (logic o p a b) = Bits a × Bits b

  abbrev R : Expr Name → Expr Variable
  R e = resolved e (λ v. known (look v.bytes))

  truth-read : (D : ℕ → Expr Variable) (b : Bool) (p : ℕ) → expr_of D p (layout.kind_of (as_bit b + 1) 0 0 0) ≡ truth p b
  unfolding layout.kind_of
  truth-read D true p = refl
  truth-read D false p = refl

  variable-read : (D : ℕ → Expr Variable) (o : Option Variable) (p : ℕ) → width_of o < 256 → expr_of D p (layout.kind_of (kind_of o) (width_of o % 256) (number_of o) 0) ≡ variable (known o)
  unfolding layout.kind_of
  variable-read D none p h = refl
  variable-read D (some (input i)) p h = refl
  variable-read D (some (boolean j)) p h = refl
  variable-read D (some (integer low width)) p h = ap (λ (w : ℕ). variable (integer low w)) (omega arith)

  bit-read : (D : ℕ → Expr Variable) (o : Option Variable) (j p : ℕ) → width_of o < 256 → has_bit o j ≡ true → expr_of D p (layout.kind_of 6 (width_of o % 256) (number_of o) j) ≡ bit (known o) j
  unfolding layout.kind_of
  bit-read D none j p h e = absurd (let z : ◌≡◌ {A = ℕ} 0 1 = cc in omega arith)
  bit-read D (some (input i)) j p h e = absurd (let z : ◌≡◌ {A = ℕ} 0 1 = cc in omega arith)
  bit-read D (some (boolean b)) j p h e = absurd (let z : ◌≡◌ {A = ℕ} 0 1 = cc in omega arith)
  bit-read D (some (integer low width)) j p h e = ap (λ (w : ℕ). bit (integer low w) j) (omega arith)

  arithmetic-read : (D : ℕ → Expr Variable) (o : Arithmetic) (x y p : ℕ) → expr_of D p (layout.kind_of (group_at (of_arithmetic o)) (order_at (of_arithmetic o)) x y) ≡ arithmetic o p (D x) (D y)
  unfolding layout.kind_of group_at order_at
  arithmetic-read D plus x y p = refl
  arithmetic-read D minus x y p = refl
  arithmetic-read D times x y p = refl
  arithmetic-read D quotient x y p = refl
  arithmetic-read D remainder x y p = refl

  comparison-read : (D : ℕ → Expr Variable) (o : Comparison) (x y p : ℕ) → expr_of D p (layout.kind_of (group_at (of_comparison o)) (order_at (of_comparison o)) x y) ≡ comparison o p (D x) (D y)
  unfolding layout.kind_of group_at order_at
  comparison-read D equal x y p = refl
  comparison-read D unequal x y p = refl
  comparison-read D greater x y p = refl
  comparison-read D less x y p = refl

  logic-read : (D : ℕ → Expr Variable) (o : Logic) (x y p : ℕ) → expr_of D p (layout.kind_of (group_at (of_logic o)) (order_at (of_logic o)) x y) ≡ logic o p (D x) (D y)
  unfolding layout.kind_of group_at order_at
  logic-read D and x y p = refl
  logic-read D or x y p = refl

  -- the part at i, where u has its bytes, and what it is read as
  at_part : (f : ℕ) (u t : List ℕ) (i k c p a b : ℕ) (x : Expr Variable) → i < 1024 → 16384 ≤ length t → Agree u (put_part t i k c p a b) (part_at i) (part_at i + 8) → expr_of (expr_at f u) p (layout.kind_of k c a b) ≡ x → expr_at (suc f) u i ≡ x
  unfolding expr_at
  at_part f u t i k c p a b x h l agree e =
      ap₂ (expr_of (expr_at f u)) (read-place t i k c p a b h (omega arith) u agree) (read-kind t i k c p a b h (omega arith) u agree) ∙ e

  -- ---- decoding, where u has the bytes of the expression's parts

  abbrev Has : List ℕ → Expr Name → Notes → List ℕ → Type 0
  Has u e n t = Agree u (S e n t).bytes (part_at n.parts) (part_at (n.parts + size e))

  leaf_decoded : (e : Expr Name) (n : Notes) (t u : List ℕ) (f k c p a b : ℕ) (out : Expr Variable) → size e ≡ 1 → n.parts + size e ≤ 1024 → 16384 ≤ length t → (S e n t).bytes ≡ put_part t n.parts k c p a b → Has u e n t
      → expr_of (expr_at f u) p (layout.kind_of k c a b) ≡ out → expr_at (suc f) u n.parts ≡ out
  leaf_decoded e n t u f k c p a b out one h l r agree q =
      at_part f u t n.parts k c p a b out (omega arith) l (λ i g j. agree i g (omega arith) ∙ ap (λ (v : List ℕ). get_or v i 0) r) q

  around_decoded : (e x : Expr Name) (n : Notes) (t u : List ℕ) (f k p : ℕ) (out : Expr Variable) → size e ≡ suc (size x) → n.parts + size e ≤ 1024 → 16384 ≤ length t → size e ≤ suc f → Has u e n t
      → (S e n t).bytes ≡ put_part (S x (counted n p) t).bytes n.parts k 0 p (S x (counted n p) t).root 0 → (counted n p).parts ≡ n.parts + 1
      → ((counted n p).parts + size x ≤ 1024 → size x ≤ f → Has u x (counted n p) t → expr_at f u (S x (counted n p) t).root ≡ R x)
      → (expr_at f u (S x (counted n p) t).root ≡ R x → expr_of (expr_at f u) p (layout.kind_of k 0 (S x (counted n p) t).root 0) ≡ out) → expr_at (suc f) u n.parts ≡ out
  around_decoded e x n t u f k p out one h l s agree r c dx q =
      let X : Sum = S x (counted n p) t in
      let bytes : (i : ℕ) → part_at n.parts ≤ i → i < part_at (n.parts + size e) → get_or u i 0 ≡ get_or (put_part X.bytes n.parts k 0 p X.root 0) i 0 = λ i g j. agree i g j ∙ ap (λ (v : List ℕ). get_or v i 0) r in
      let inner = dx (omega arith) (omega arith) (λ i g j. bytes i (omega arith) (omega arith) ∙ put-off X.bytes n.parts k 0 p X.root 0 i (λ h. omega arith)) in
      at_part f u X.bytes n.parts k 0 p X.root 0 out (omega arith) (omega (arith, long_is x (counted n p) t)) (λ i g j. bytes i g (omega arith)) (q inner)

  joined_decoded : (k p : ℕ) (x a b : Expr Name) (n : Notes) (t u : List ℕ) (f : ℕ) (out : Expr Variable) → Joined k p x a b → n.parts + size x ≤ 1024 → 16384 ≤ length t → size x ≤ suc f → Has u x n t
      → (n.parts + size a ≤ 1024 → size a ≤ f → Has u a n t → expr_at f u (S a n t).root ≡ R a)
      → ((m : Notes) (v : List ℕ) → m.parts + size b ≤ 1024 → 16384 ≤ length v → size b ≤ f → Has u b m v → expr_at f u (S b m v).root ≡ R b)
      → ((y z : ℕ) → expr_at f u y ≡ R a → expr_at f u z ≡ R b → expr_of (expr_at f u) p (layout.kind_of (group_at k) (order_at k) y z) ≡ out) → expr_at (suc f) u (S x n t).root ≡ out
  unfolding join_sum
  joined_decoded k p x a b n t u f out e h l s agree da db q =
      let A : Sum = S a n t in
      let m : Notes = counted A.notes p in
      let B : Sum = S b m A.bytes in
      let z = e.parts in
      let ka = parts_fit look a n t (omega arith) in
      let c = counted_fit A.notes p (omega arith) in
      let la = long_is a n t in
      let lb = long_is b m A.bytes in
      let bytes : (i : ℕ) → part_at n.parts ≤ i → i < part_at (n.parts + size x) → get_or u i 0 ≡ get_or (put_part B.bytes A.notes.parts (group_at k) (order_at k) p A.root B.root) i 0
      = λ i g j. agree i g j ∙ ap (λ (y : Sum). get_or y.bytes i 0) (e.sums n t) in
      let other : (i : ℕ) → Off i (part_at A.notes.parts) (part_at A.notes.parts + 8) → get_or (put_part B.bytes A.notes.parts (group_at k) (order_at k) p A.root B.root) i 0 ≡ get_or B.bytes i 0
      = λ i off. put-off B.bytes A.notes.parts (group_at k) (order_at k) p A.root B.root i off in
      let left = da (omega arith) (omega arith) (λ i g j. bytes i g (omega arith) ∙ other i (λ o. absurd (omega arith)) ∙ stays b m A.bytes i (λ o. absurd (omega arith))) in
      let right = db m A.bytes (omega arith) (omega arith) (omega arith) (λ i g j. bytes i (omega arith) (omega arith) ∙ other i (λ o. omega arith)) in
      ap (λ (y : Sum). expr_at (suc f) u y.root) (e.sums n t)
      ∙ at_part f u B.bytes A.notes.parts (group_at k) (order_at k) p A.root B.root out (omega arith) (omega arith) (λ i g j. bytes i (omega arith) (omega arith)) (q A.root B.root left right)

  -- the bytes decode to the expression, its names resolved
  pub decoded : Narrow → (e : Expr Name) (n : Notes) (t u : List ℕ) (f : ℕ) → Bits e → n.parts + length (within e) ≤ 1024 → 16384 ≤ length t → length (within e) ≤ f
      → Agree u (sum look e n t).bytes (8192 + n.parts * 8) (8192 + (n.parts + length (within e)) * 8) → expr_at f u (sum look e n t).root ≡ resolved e (λ v. known (look v.bytes))
  unfolding sum within leaf_sum around_sum at_six at_seven resolved layout.kind_of
  decoded w (literal p x) n t u zero i h l s g = absurd (omega arith)
  decoded w (literal p x) n t u (suc f) i h l s g = leaf_decoded (literal p x) n t u f 0 0 p x 0 (literal p x) refl h l refl g refl
  decoded w (truth p b) n t u zero i h l s g = absurd (omega arith)
  decoded w (truth p b) n t u (suc f) i h l s g = leaf_decoded (truth p b) n t u f (as_bit b + 1) 0 p 0 0 (truth p b) refl h l refl g (truth-read (expr_at f u) b p)
  decoded w (variable v) n t u zero i h l s g = absurd (omega arith)
  decoded w (variable v) n t u (suc f) i h l s g =
      let o : Option Variable = look v.bytes in
      leaf_decoded (variable v) n t u f (kind_of o) (width_of o % 256) v.place (number_of o) 0 (variable (known o)) refl h l refl g (variable-read (expr_at f u) o v.place (w v.bytes))
  decoded w (bit v j) n t u zero i h l s g = absurd (omega arith)
  decoded w (bit v j) n t u (suc f) i h l s g =
      let o : Option Variable = look v.bytes in
      leaf_decoded (bit v j) n t u f 6 (width_of o % 256) v.place (number_of o) j (bit (known o) j) refl h l refl g (bit-read (expr_at f u) o j v.place (w v.bytes) i)
  decoded w (not p e) n t u zero i h l s g = absurd (omega arith)
  decoded w (not p e) n t u (suc f) i h l s g = around_decoded (not p e) e n t u f 7 p (not p (R e)) refl h l s g refl (counted_fit n p (omega arith)) (λ j k a. decoded w e (counted n p) t u f i j l k a) (λ q. ap (not p) q)
  decoded w (int p e) n t u zero i h l s g = absurd (omega arith)
  decoded w (int p e) n t u (suc f) i h l s g = around_decoded (int p e) e n t u f 8 p (int p (R e)) refl h l s g refl (counted_fit n p (omega arith)) (λ j k a. decoded w e (counted n p) t u f i j l k a) (λ q. ap (int p) q)
  decoded w (arithmetic o p a b) n t u zero i h l s g = absurd (omega (arith, (arithmetic-joined o p a b).parts))
  decoded w (arithmetic o p a b) n t u (suc f) (i, j) h l s g =
      joined_decoded (of_arithmetic o) p (arithmetic o p a b) a b n t u f (arithmetic o p (R a) (R b)) (arithmetic-joined o p a b) h l s g (λ x y z. decoded w a n t u f i x l y z) (λ m v x y z q. decoded w b m v u f j x y z q)
      (λ y z q r. arithmetic-read (expr_at f u) o y z p ∙ ap₂ (arithmetic o p) q r)
  decoded w (comparison o p a b) n t u zero i h l s g = absurd (omega (arith, (comparison-joined o p a b).parts))
  decoded w (comparison o p a b) n t u (suc f) (i, j) h l s g =
      joined_decoded (of_comparison o) p (comparison o p a b) a b n t u f (comparison o p (R a) (R b)) (comparison-joined o p a b) h l s g (λ x y z. decoded w a n t u f i x l y z) (λ m v x y z q. decoded w b m v u f j x y z q)
      (λ y z q r. comparison-read (expr_at f u) o y z p ∙ ap₂ (comparison o p) q r)
  decoded w (logic o p a b) n t u zero i h l s g = absurd (omega (arith, (logic-joined o p a b).parts))
  decoded w (logic o p a b) n t u (suc f) (i, j) h l s g =
      joined_decoded (of_logic o) p (logic o p a b) a b n t u f (logic o p (R a) (R b)) (logic-joined o p a b) h l s g (λ x y z. decoded w a n t u f i x l y z) (λ m v x y z q. decoded w b m v u f j x y z q)
      (λ y z q r. logic-read (expr_at f u) o y z p ∙ ap₂ (logic o p) q r)
