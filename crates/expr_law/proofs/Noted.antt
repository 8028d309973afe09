-- The least places that the sum of an expression has are those of the definition's faults 6 and 7, and its kind is the definition's.
-- Assumes nothing.
use mathlib.Core.Bool.{Bool, cond, not as opposite}
use mathlib.Core.Path.{◌≡◌, refl, sym, ◌∙◌, ap, ap₂}
use mathlib.Core.List.{List, [], ◌∷◌, ◌++◌}
use mathlib.Core.Option.{Option}
use Prim.Native.Nat.{ℕ, min}
use Rattle.meaning.specs.Tree.{Arithmetic, plus, minus, times, quotient, remainder, Comparison, equal, unequal, greater, less, Logic, and, or, Expr, literal, truth, variable, bit, not, int, arithmetic, comparison, logic}
use Rattle.meaning.specs.Numbers.{Variable}
use Rattle.meaning.specs.Declared.{Declaration, look_up}
use Rattle.meaning.specs.Items.{within}
use Rattle.meaning.specs.Names.{gather, when, missing, names_in, unknown}
use Rattle.meaning.specs.Kinds.{Kind, truths, wholes, is_truth, is_whole, both, kind_of, has_bit, comparable, part_kind}
use Rattle.meaning.specs.Faults.{least}
use Rattle.language.specs.Trees.{Name}
use Rattle.parts.specs.declared.Notes.{Notes}
use Rattle.parts.specs.Sum.{Sum, sum, counted, at_six, at_seven, at_ten, leaf_sum, around_sum, join_sum, of_arithmetic, of_comparison, of_logic, fine_at, truth_at}
use Rattle.expr_law.proofs.Least.{least-append, least-when, gather_append, gather-between, least-between}

module _ (ds : List Declaration) where
  abbrev L : List ℕ → Option Variable
  L x = look_up ds x

  -- ---- kinds

  pub truth_is : (e : Expr Name) (n : Notes) (t : List ℕ) → (sum L e n t).truth ≡ is_truth (kind_of ds e)
  unfolding sum leaf_sum around_sum join_sum truth_at
  truth_is (literal p x) n t = refl
  truth_is (truth p b) n t = refl
  truth_is (variable v) n t = refl
  truth_is (bit v j) n t = refl
  truth_is (not p e) n t = refl
  truth_is (int p e) n t = refl
  truth_is (arithmetic plus p a b) n t = refl
  truth_is (arithmetic minus p a b) n t = refl
  truth_is (arithmetic times p a b) n t = refl
  truth_is (arithmetic quotient p a b) n t = refl
  truth_is (arithmetic remainder p a b) n t = refl
  truth_is (comparison equal p a b) n t = refl
  truth_is (comparison unequal p a b) n t = refl
  truth_is (comparison greater p a b) n t = refl
  truth_is (comparison less p a b) n t = refl
  truth_is (logic and p a b) n t = refl
  truth_is (logic or p a b) n t = refl

  pub whole_is : (k : Kind) → opposite (is_truth k) ≡ is_whole k
  whole_is truths = refl
  whole_is wholes = refl

  arithmetic-fine : (o : Arithmetic) (x y : Kind) → fine_at (of_arithmetic o) (is_truth x) (is_truth y) ≡ both (is_whole x) (is_whole y)
  unfolding fine_at
  arithmetic-fine plus truths y = refl
  arithmetic-fine plus wholes truths = refl
  arithmetic-fine plus wholes wholes = refl
  arithmetic-fine minus truths y = refl
  arithmetic-fine minus wholes truths = refl
  arithmetic-fine minus wholes wholes = refl
  arithmetic-fine times truths y = refl
  arithmetic-fine times wholes truths = refl
  arithmetic-fine times wholes wholes = refl
  arithmetic-fine quotient truths y = refl
  arithmetic-fine quotient wholes truths = refl
  arithmetic-fine quotient wholes wholes = refl
  arithmetic-fine remainder truths y = refl
  arithmetic-fine remainder wholes truths = refl
  arithmetic-fine remainder wholes wholes = refl

  comparison-fine : (o : Comparison) (x y : Kind) → fine_at (of_comparison o) (is_truth x) (is_truth y) ≡ comparable o x y
  unfolding fine_at
  comparison-fine equal truths y = refl
  comparison-fine equal wholes truths = refl
  comparison-fine equal wholes wholes = refl
  comparison-fine unequal truths y = refl
  comparison-fine unequal wholes truths = refl
  comparison-fine unequal wholes wholes = refl
  comparison-fine greater truths y = refl
  comparison-fine greater wholes truths = refl
  comparison-fine greater wholes wholes = refl
  comparison-fine less truths y = refl
  comparison-fine less wholes truths = refl
  comparison-fine less wholes wholes = refl

  logic-fine : (o : Logic) (x y : Kind) → fine_at (of_logic o) (is_truth x) (is_truth y) ≡ both (is_truth x) (is_truth y)
  unfolding fine_at
  logic-fine and x y = refl
  logic-fine or x y = refl

  -- ---- 6

  abbrev pub six : Expr Name → List ℕ
  six e = gather (unknown ds) (gather names_in (within e))

  pub six_between : (x : Expr Name) (a b : List (Expr Name)) → names_in x ≡ [] → gather (unknown ds) (gather names_in (a ++ (x ∷ b))) ≡ gather (unknown ds) (gather names_in a) ++ gather (unknown ds) (gather names_in b)
  six_between x a b e = ap (gather (unknown ds)) (gather-between names_in a x b ∙ ap (λ (l : List Name). gather names_in a ++ (l ++ gather names_in b)) e) ∙ gather_append (unknown ds) (gather names_in a) (gather names_in b)

  six_joined : (x a b : Expr Name) (n m : ℕ) → names_in x ≡ [] → m ≡ least (least n (six a)) (six b) → m ≡ least n (gather (unknown ds) (gather names_in (within a ++ (x ∷ within b))))
  six_joined x a b n m e q = q ∙ sym (least-append n (six a) (six b)) ∙ ap (least n) (sym (six_between x (within a) (within b) e))

  pub six_is : (e : Expr Name) (n : Notes) (t : List ℕ) → (sum L e n t).notes.six ≡ least n.six (six e)
  unfolding sum leaf_sum around_sum join_sum counted at_six at_seven at_ten within gather least
  six_is (literal p x) n t = refl
  six_is (truth p b) n t = refl
  six_is (variable v) n t = least-when (missing (look_up ds v.bytes)) n.six v.place []
  six_is (bit v j) n t = least-when (missing (look_up ds v.bytes)) n.six v.place []
  six_is (not p e) n t = six_is e (counted n p) t
  six_is (int p e) n t = six_is e (counted n p) t
  six_is (arithmetic o p a b) n t =
      six_joined (arithmetic o p a b) a b n.six _ refl (six_is b (counted (sum L a n t).notes p) (sum L a n t).bytes ∙ ap (λ (m : ℕ). least m (six b)) (six_is a n t))
  six_is (comparison o p a b) n t =
      six_joined (comparison o p a b) a b n.six _ refl (six_is b (counted (sum L a n t).notes p) (sum L a n t).bytes ∙ ap (λ (m : ℕ). least m (six b)) (six_is a n t))
  six_is (logic o p a b) n t =
      six_joined (logic o p a b) a b n.six _ refl (six_is b (counted (sum L a n t).notes p) (sum L a n t).bytes ∙ ap (λ (m : ℕ). least m (six b)) (six_is a n t))

  -- ---- 7

  abbrev pub seven : Expr Name → List ℕ
  seven e = gather (part_kind ds) (within e)

  seven_joined : (x a b : Expr Name) (n p m : ℕ) (u v : Bool) → part_kind ds x ≡ when v p → u ≡ v → m ≡ least (least n (seven a)) (seven b) → cond u (min m p) m ≡ least n (gather (part_kind ds) (within a ++ (x ∷ within b)))
  seven_joined x a b n p m u v e q r =
      ap (λ (i : ℕ). cond u (min i p) i) r ∙ ap (λ (c : Bool). cond c (min (least (least n (seven a)) (seven b)) p) (least (least n (seven a)) (seven b))) q
      ∙ least-between n p v (seven a) (seven b) ∙ ap (λ (l : List ℕ). least n (seven a ++ (l ++ seven b))) (sym e) ∙ ap (least n) (sym (gather-between (part_kind ds) (within a) x (within b)))

  pub around_seven : (e : Expr Name) (n p m : ℕ) (u : Bool) → u ≡ is_truth (kind_of ds e) → m ≡ least n (seven e) → cond (opposite u) (min m p) m ≡ least n (when (is_whole (kind_of ds e)) p ++ seven e)
  around_seven e n p m u q r =
      ap (λ (i : ℕ). cond (opposite u) (min i p) i) r ∙ ap (λ (c : Bool). cond c (min (least n (seven e)) p) (least n (seven e))) (ap opposite q ∙ whole_is (kind_of ds e))
      ∙ least-when (is_whole (kind_of ds e)) n p (seven e)

  pub seven_is : (e : Expr Name) (n : Notes) (t : List ℕ) → (sum L e n t).notes.seven ≡ least n.seven (seven e)
  unfolding sum leaf_sum around_sum join_sum counted at_six at_seven at_ten within gather least
  seven_is (literal p x) n t = refl
  seven_is (truth p b) n t = refl
  seven_is (variable v) n t = refl
  seven_is (bit v j) n t = least-when (opposite (has_bit (look_up ds v.bytes) j)) n.seven v.place []
  seven_is (not p e) n t = around_seven e n.seven p _ _ (truth_is e (counted n p) t) (seven_is e (counted n p) t)
  seven_is (int p e) n t = around_seven e n.seven p _ _ (truth_is e (counted n p) t) (seven_is e (counted n p) t)
  seven_is (arithmetic o p a b) n t =
      let A : Sum = sum L a n t in
      let B : Sum = sum L b (counted A.notes p) A.bytes in
      seven_joined (arithmetic o p a b) a b n.seven p B.notes.seven (opposite (fine_at (of_arithmetic o) A.truth B.truth)) (opposite (both (is_whole (kind_of ds a)) (is_whole (kind_of ds b)))) refl
      (ap opposite (ap₂ (fine_at (of_arithmetic o)) (truth_is a n t) (truth_is b (counted A.notes p) A.bytes) ∙ arithmetic-fine o (kind_of ds a) (kind_of ds b)))
      (seven_is b (counted A.notes p) A.bytes ∙ ap (λ (m : ℕ). least m (seven b)) (seven_is a n t))
  seven_is (comparison o p a b) n t =
      let A : Sum = sum L a n t in
      let B : Sum = sum L b (counted A.notes p) A.bytes in
      seven_joined (comparison o p a b) a b n.seven p B.notes.seven (opposite (fine_at (of_comparison o) A.truth B.truth)) (opposite (comparable o (kind_of ds a) (kind_of ds b))) refl
      (ap opposite (ap₂ (fine_at (of_comparison o)) (truth_is a n t) (truth_is b (counted A.notes p) A.bytes) ∙ comparison-fine o (kind_of ds a) (kind_of ds b)))
      (seven_is b (counted A.notes p) A.bytes ∙ ap (λ (m : ℕ). least m (seven b)) (seven_is a n t))
  seven_is (logic o p a b) n t =
      let A : Sum = sum L a n t in
      let B : Sum = sum L b (counted A.notes p) A.bytes in
      seven_joined (logic o p a b) a b n.seven p B.notes.seven (opposite (fine_at (of_logic o) A.truth B.truth)) (opposite (both (is_truth (kind_of ds a)) (is_truth (kind_of ds b)))) refl
      (ap opposite (ap₂ (fine_at (of_logic o)) (truth_is a n t) (truth_is b (counted A.notes p) A.bytes) ∙ logic-fine o (kind_of ds a) (kind_of ds b)))
      (seven_is b (counted A.notes p) A.bytes ∙ ap (λ (m : ℕ). least m (seven b)) (seven_is a n t))
