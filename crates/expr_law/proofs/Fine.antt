-- What an expression without faults is: it fits, its size is known, and the inputs that are noted are those that it reads.
-- Assumes nothing.
use mathlib.Core.Bool.{true, false, not as opposite}
use mathlib.Core.Path.{◌≡◌, refl, sym, ◌∙◌, ap, ap₂}
use mathlib.Core.List.{List, [], ◌∷◌, ◌++◌}
use mathlib.Core.Option.{Option, none, some}
use Prim.Native.Nat.{ℕ, ◌+◌, ◌*◌, ◌^◌, ◌≤◌, ◌<◌}
use native.Mathlib.Omega.{arith}
use lib.Bits.{bit_or, or_lt}
use lib.Dec.{ltb}
use lib.ListN.{length}
use lib.Pow.{pow_mono}
use borrow.Author.Tests.{lt-ltb, ltb-true, ltb-false, not-false}
use Rattle.ll1.proofs.Sets.{clash}
use Rattle.meaning.specs.Tree.{Arithmetic, Comparison, equal, unequal, greater, less, Logic, Expr, literal, truth, variable, bit, not, int, arithmetic, comparison, logic}
use Rattle.meaning.specs.Numbers.{Variable, input, boolean, integer}
use Rattle.meaning.specs.Declared.{Declaration, look_up}
use Rattle.meaning.specs.Items.{within}
use Rattle.meaning.specs.Names.{gather, missing, names_in, unknown}
use Rattle.meaning.specs.Kinds as kinds
use Rattle.meaning.specs.Kinds.{Kind, truths, wholes, is_truth, both, kind_of, kind_of_variable, has_bit, comparable, part_kind}
use Rattle.meaning.specs.Worst.{most_size, variable_worst, combined, worst, part_worst}
use Rattle.meaning.specs.Checked.{known, variable_of, resolved}
use Rattle.meaning.proofs.Lists.{both-empty, none_both, none-cons}
use Rattle.meaning.proofs.Declared.{when-none}
use Rattle.language.specs.Trees.{Name}
use Rattle.nodes.specs.Decode.{expr_at}
use Rattle.nodes.specs.Fit.{is_whole, is_whole_variable, variable_size, size_of, FitVariable, FitBit, FitKinds, Fit}
use Rattle.nodes.specs.Looks.{looks}
use Rattle.nodes.specs.Looks as read
use Rattle.parts.specs.declared.Notes.{Notes}
use Rattle.parts.specs.Sum.{sum, counted, leaf_sum, around_sum, join_sum, looks_of, width_of}
use Rattle.expr_law.proofs.Noted.{six_between}
use Rattle.expr_law.proofs.Sizes.{Small}
use Rattle.expr_law.proofs.Written.{Agree}
use Rattle.expr_law.proofs.Placed.{PlacedVariable, Placed}
use Rattle.expr_law.proofs.Decoded as sums

-- none of an expression's parts has a fault
pub record Fine (ds : List Declaration) (e : Expr Name) : Type 0 where
  pub names : gather (unknown ds) (gather names_in (within e)) ≡ []
  pub kinds : gather (part_kind ds) (within e) ≡ []
  pub worst : gather (part_worst ds) (within e) ≡ []

-- ---- one variable

known-whole : (o : Option Variable) → missing o ≡ false → is_whole_variable (known o) ≡ kinds.is_whole (kind_of_variable o)
known-whole none e = clash e
known-whole (some (input i)) e = refl
known-whole (some (boolean j)) e = refl
known-whole (some (integer low width)) e = refl

known-size : (o : Option Variable) → variable_size (known o) ≡ variable_worst o
known-size none = refl
known-size (some (input i)) = refl
known-size (some (boolean j)) = refl
known-size (some (integer low width)) = refl

known-fits : (o : Option Variable) → PlacedVariable o → FitVariable (known o)
known-fits none p = omega arith
known-fits (some (input i)) p = omega arith
known-fits (some (boolean j)) p = p
known-fits (some (integer low width)) (some-width, narrow, inside) = (omega arith, narrow)

known-bit : (o : Option Variable) (j : ℕ) → PlacedVariable o → has_bit o j ≡ true → FitBit (known o) j
known-bit none j p e = clash (sym e)
known-bit (some (input i)) j p e = clash (sym e)
known-bit (some (boolean b)) j p e = clash (sym e)
known-bit (some (integer low width)) j (some-width, narrow, inside) e = omega (arith, ltb-true j width e)

known_small : (o : Option Variable) → PlacedVariable o → variable_worst o < 2147483648
known_small none p = omega arith
known_small (some (input i)) p = omega arith
known_small (some (boolean j)) p = omega arith
known_small (some (integer low width)) (some-width, narrow, inside) = let h : 2 ^ width ≤ 2 ^ 16 = pow_mono narrow in omega arith

known-looks : (o : Option Variable) → PlacedVariable o → missing o ≡ false → looks_of o ≡ read.looks_of (known o)
known-looks none p e = clash e
known-looks (some (input i)) p e = rw (lt-ltb i 8 p) refl
known-looks (some (boolean j)) p e = refl
known-looks (some (integer low width)) p e = refl

known-byte : (o : Option Variable) → PlacedVariable o → read.looks_of (known o) < 2 ^ 8
known-byte none p = omega arith
known-byte (some (input i)) p = let h : 2 ^ i ≤ 2 ^ 7 = pow_mono {j = 7} (omega arith) in omega arith
known-byte (some (boolean j)) p = omega arith
known-byte (some (integer low width)) p = omega arith

known_narrow : (o : Option Variable) → PlacedVariable o → width_of o < 256
known_narrow none p = omega arith
known_narrow (some (input i)) p = omega arith
known_narrow (some (boolean j)) p = omega arith
known_narrow (some (integer low width)) (some-width, narrow, inside) = omega arith

-- ---- kinds

both_wholes : (x y : Kind) → opposite (both (kinds.is_whole x) (kinds.is_whole y)) ≡ false → (kinds.is_whole x ≡ true) × (kinds.is_whole y ≡ true)
both_wholes truths y e = clash e
both_wholes wholes truths e = clash e
both_wholes wholes wholes e = (refl, refl)

both_truths : (x y : Kind) → opposite (both (is_truth x) (is_truth y)) ≡ false → (kinds.is_whole x ≡ false) × (kinds.is_whole y ≡ false)
both_truths truths truths e = (refl, refl)
both_truths truths wholes e = clash e
both_truths wholes y e = clash e

fit_kinds : (o : Comparison) (x y : Kind) → opposite (comparable o x y) ≡ false → FitKinds o (kinds.is_whole x) (kinds.is_whole y)
fit_kinds equal truths truths e = refl
fit_kinds equal truths wholes e = clash e
fit_kinds equal wholes truths e = clash e
fit_kinds equal wholes wholes e = refl
fit_kinds unequal truths truths e = refl
fit_kinds unequal truths wholes e = clash e
fit_kinds unequal wholes truths e = clash e
fit_kinds unequal wholes wholes e = refl
fit_kinds greater x y e = both_wholes x y e
fit_kinds less x y e = both_wholes x y e

module _ (ds : List Declaration) where
  abbrev L : List ℕ → Option Variable
  L x = look_up ds x

  abbrev R : Expr Name → Expr Variable
  R e = resolved e (variable_of ds)

  abbrev W : Expr Name → ℕ
  W e = worst (λ v. look_up ds v.bytes) e

  -- ---- the operands of what has no faults have none

  inner : (x e : Expr Name) → within x ≡ x ∷ within e → names_in x ≡ [] → Fine ds x → Fine ds e × (part_kind ds x ≡ [])
  unfolding gather
  inner x e q r f =
      let (k₁, k₂) = none-cons (part_kind ds) x (within e) (sym (ap (gather (part_kind ds)) q) ∙ f.kinds) in
      let (w₁, w₂) = none-cons (part_worst ds) x (within e) (sym (ap (gather (part_worst ds)) q) ∙ f.worst) in
      let n = sym (ap (λ (l : List Name). gather (unknown ds) (l ++ gather names_in (within e))) r) ∙ sym (ap (λ (l : List (Expr Name)). gather (unknown ds) (gather names_in l)) q) ∙ f.names in
      (record { names = n; kinds = k₂; worst = w₂ }, k₁)

  record Halves (x a b : Expr Name) : Type 0 where
    left : Fine ds a
    right : Fine ds b
    kind : part_kind ds x ≡ []
    size : part_worst ds x ≡ []

  halves : (x a b : Expr Name) → within x ≡ within a ++ (x ∷ within b) → names_in x ≡ [] → Fine ds x → Halves x a b
  halves x a b q r f =
      let (k₁, k) = none_both (part_kind ds) (within a) (x ∷ within b) (sym (ap (gather (part_kind ds)) q) ∙ f.kinds) in
      let (k₂, k₃) = none-cons (part_kind ds) x (within b) k in
      let (w₁, w) = none_both (part_worst ds) (within a) (x ∷ within b) (sym (ap (gather (part_worst ds)) q) ∙ f.worst) in
      let (w₂, w₃) = none-cons (part_worst ds) x (within b) w in
      let (n₁, n₂) = both-empty (gather (unknown ds) (gather names_in (within a))) (gather (unknown ds) (gather names_in (within b)))
      (sym (six_between ds x (within a) (within b) r) ∙ sym (ap (λ (l : List (Expr Name)). gather (unknown ds) (gather names_in l)) q) ∙ f.names) in
      record { left = record { names = n₁; kinds = k₁; worst = w₁ }; right = record { names = n₂; kinds = k₃; worst = w₃ }; kind = k₂; size = w₂ }

  not_inner : (p : ℕ) (e : Expr Name) → Fine ds (not p e) → Fine ds e × (kinds.is_whole (kind_of ds e) ≡ false)
  unfolding within
  not_inner p e f = let (g, k) = inner (not p e) e refl refl f in (g, when-none (kinds.is_whole (kind_of ds e)) p k)

  int_inner : (p : ℕ) (e : Expr Name) → Fine ds (int p e) → Fine ds e × (kinds.is_whole (kind_of ds e) ≡ false)
  unfolding within
  int_inner p e f = let (g, k) = inner (int p e) e refl refl f in (g, when-none (kinds.is_whole (kind_of ds e)) p k)

  arithmetic_halves : (o : Arithmetic) (p : ℕ) (a b : Expr Name) → Fine ds (arithmetic o p a b) → Halves (arithmetic o p a b) a b
  unfolding within
  arithmetic_halves o p a b f = halves (arithmetic o p a b) a b refl refl f

  comparison_halves : (o : Comparison) (p : ℕ) (a b : Expr Name) → Fine ds (comparison o p a b) → Halves (comparison o p a b) a b
  unfolding within
  comparison_halves o p a b f = halves (comparison o p a b) a b refl refl f

  logic_halves : (o : Logic) (p : ℕ) (a b : Expr Name) → Fine ds (logic o p a b) → Halves (logic o p a b) a b
  unfolding within
  logic_halves o p a b f = halves (logic o p a b) a b refl refl f

  known-name : (v : Name) → Fine ds (variable v) → missing (look_up ds v.bytes) ≡ false
  unfolding within gather
  known-name v f = when-none (missing (look_up ds v.bytes)) v.place (both-empty (unknown ds v) [] f.names).0

  inside-bit : (v : Name) (j : ℕ) → Fine ds (bit v j) → has_bit (look_up ds v.bytes) j ≡ true
  unfolding within gather
  inside-bit v j f = not-false (has_bit (look_up ds v.bytes) j) (when-none (opposite (has_bit (look_up ds v.bytes) j)) v.place (both-empty (part_kind ds (bit v j)) [] f.kinds).0)

  -- ---- kinds and sizes are those of the source

  pub whole_is : (e : Expr Name) → Fine ds e → is_whole (resolved e (variable_of ds)) ≡ kinds.is_whole (kind_of ds e)
  unfolding resolved
  whole_is (literal p n) f = refl
  whole_is (truth p b) f = refl
  whole_is (variable v) f = known-whole (look_up ds v.bytes) (known-name v f)
  whole_is (bit v j) f = refl
  whole_is (not p e) f = refl
  whole_is (int p e) f = refl
  whole_is (arithmetic o p a b) f = refl
  whole_is (comparison o p a b) f = refl
  whole_is (logic o p a b) f = refl

  pub size_same : (e : Expr Name) → size_of (resolved e (variable_of ds)) ≡ worst (λ v. look_up ds v.bytes) e
  unfolding resolved size_of worst
  size_same (literal p n) = refl
  size_same (truth p b) = refl
  size_same (variable v) = known-size (look_up ds v.bytes)
  size_same (bit v j) = refl
  size_same (not p e) = refl
  size_same (int p e) = refl
  size_same (arithmetic o p a b) = ap₂ (combined o) (size_same a) (size_same b)
  size_same (comparison o p a b) = refl
  size_same (logic o p a b) = refl

  sum_low : (o : Arithmetic) (p : ℕ) (a b : Expr Name) → Fine ds (arithmetic o p a b) → combined o (W a) (W b) < 2147483648
  sum_low o p a b f = omega (arith, ltb-false most_size (combined o (W a) (W b)) (when-none (ltb most_size (combined o (W a) (W b))) p (arithmetic_halves o p a b f).size))

  module _ (placed : Placed ds) where
    pub size_low : (e : Expr Name) → Small e → Fine ds e → size_of (resolved e (variable_of ds)) < 2147483648
    unfolding worst
    size_low (literal p n) s f = rw (size_same (literal p n)) (omega arith)
    size_low (truth p b) s f = rw (size_same (truth p b)) (omega arith)
    size_low (variable v) s f = rw (size_same (variable v)) (known_small (look_up ds v.bytes) (placed v.bytes))
    size_low (bit v j) s f = rw (size_same (bit v j)) (omega arith)
    size_low (not p e) s f = rw (size_same (not p e)) (omega arith)
    size_low (int p e) s f = rw (size_same (int p e)) (omega arith)
    size_low (arithmetic o p a b) s f = rw (size_same (arithmetic o p a b)) (sum_low o p a b f)
    size_low (comparison o p a b) s f = rw (size_same (comparison o p a b)) (omega arith)
    size_low (logic o p a b) s f = rw (size_same (logic o p a b)) (omega arith)

    -- ---- it fits

    pub fit : (e : Expr Name) → Fine ds e → Fit (resolved e (variable_of ds))
    unfolding resolved Fit
    fit (literal p n) f = tt
    fit (truth p b) f = tt
    fit (variable v) f = known-fits (look_up ds v.bytes) (placed v.bytes)
    fit (bit v j) f = known-bit (look_up ds v.bytes) j (placed v.bytes) (inside-bit v j f)
    fit (not p e) f = let (g, k) = not_inner p e f in (whole_is e g ∙ k, fit e g)
    fit (int p e) f = let (g, k) = int_inner p e f in (whole_is e g ∙ k, fit e g)
    fit (arithmetic o p a b) f =
        let h = arithmetic_halves o p a b f in
        let (x, y) = both_wholes (kind_of ds a) (kind_of ds b) (when-none _ p h.kind) in
        (rw (size_same a, size_same b) (sum_low o p a b f), (whole_is a h.left ∙ x, (whole_is b h.right ∙ y, (fit a h.left, fit b h.right))))
    fit (comparison o p a b) f =
        let h = comparison_halves o p a b f in
        (rw (whole_is a h.left, whole_is b h.right) (fit_kinds o (kind_of ds a) (kind_of ds b) (when-none _ p h.kind)), (fit a h.left, fit b h.right))
    fit (logic o p a b) f =
        let h = logic_halves o p a b f in
        let (x, y) = both_truths (kind_of ds a) (kind_of ds b) (when-none _ p h.kind) in
        (whole_is a h.left ∙ x, (whole_is b h.right ∙ y, (fit a h.left, fit b h.right)))

    -- ---- the inputs that it reads

    pub looks_is : (e : Expr Name) (n : Notes) (t : List ℕ) → Fine ds e → (sum L e n t).looks ≡ looks (resolved e (variable_of ds))
    unfolding sum leaf_sum around_sum join_sum looks resolved
    looks_is (literal p x) n t f = refl
    looks_is (truth p b) n t f = refl
    looks_is (variable v) n t f = known-looks (look_up ds v.bytes) (placed v.bytes) (known-name v f)
    looks_is (bit v j) n t f = refl
    looks_is (not p e) n t f = looks_is e (counted n p) t (not_inner p e f).0
    looks_is (int p e) n t f = looks_is e (counted n p) t (int_inner p e f).0
    looks_is (arithmetic o p a b) n t f = let h = arithmetic_halves o p a b f in ap₂ bit_or (looks_is a n t h.left) (looks_is b _ _ h.right)
    looks_is (comparison o p a b) n t f = let h = comparison_halves o p a b f in ap₂ bit_or (looks_is a n t h.left) (looks_is b _ _ h.right)
    looks_is (logic o p a b) n t f = let h = logic_halves o p a b f in ap₂ bit_or (looks_is a n t h.left) (looks_is b _ _ h.right)

    looks_power : (e : Expr Name) → looks (R e) < 2 ^ 8
    unfolding looks resolved
    looks_power (literal p x) = omega arith
    looks_power (truth p b) = omega arith
    looks_power (variable v) = known-byte (look_up ds v.bytes) (placed v.bytes)
    looks_power (bit v j) = omega arith
    looks_power (not p e) = looks_power e
    looks_power (int p e) = looks_power e
    looks_power (arithmetic o p a b) = or_lt 8 (looks (R a)) (looks (R b)) (looks_power a) (looks_power b)
    looks_power (comparison o p a b) = or_lt 8 (looks (R a)) (looks (R b)) (looks_power a) (looks_power b)
    looks_power (logic o p a b) = or_lt 8 (looks (R a)) (looks (R b)) (looks_power a) (looks_power b)

    pub looks-low : (e : Expr Name) → looks (resolved e (variable_of ds)) < 256
    looks-low e = looks_power e

    -- ---- its bytes

    bits : (e : Expr Name) → Fine ds e → sums.Bits L e
    bits (literal p n) f = tt
    bits (truth p b) f = tt
    bits (variable v) f = tt
    bits (bit v j) f = inside-bit v j f
    bits (not p e) f = bits e (not_inner p e f).0
    bits (int p e) f = bits e (int_inner p e f).0
    bits (arithmetic o p a b) f = let h = arithmetic_halves o p a b f in (bits a h.left, bits b h.right)
    bits (comparison o p a b) f = let h = comparison_halves o p a b f in (bits a h.left, bits b h.right)
    bits (logic o p a b) f = let h = logic_halves o p a b f in (bits a h.left, bits b h.right)

    pub decoded : (e : Expr Name) (n : Notes) (t u : List ℕ) (f : ℕ) → Fine ds e → n.parts + length (within e) ≤ 1024 → 16384 ≤ length t → length (within e) ≤ f
        → Agree u (sum L e n t).bytes (8192 + n.parts * 8) (8192 + (n.parts + length (within e)) * 8) → expr_at f u (sum L e n t).root ≡ resolved e (variable_of ds)
    decoded e n t u f g h l s agree = sums.decoded L (λ x. known_narrow (look_up ds x) (placed x)) e n t u f (bits e g) h l s agree
