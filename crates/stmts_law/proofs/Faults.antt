-- The least places of 6, 7 and 10 that the walk has are the definition's.
-- Assumes nothing.
use mathlib.Core.Bool.{Bool, true, false, cond, not as opposite}
use mathlib.Core.Path.{◌≡◌, refl, sym, ◌∙◌, ap}
use mathlib.Core.List.{List, [], ◌∷◌, ◌++◌}
use mathlib.Core.Option.{Option}
use Prim.Native.Nat.{ℕ, min}
use lib.Dec.{ltb, leb}
use Rattle.meaning.specs.Tree.{Expr, Change, Head, Target, whole, part, Stmt, skip, delay, change, assign, choice, while, loop, exit, break, switch, parallel, Stmts}
use Rattle.meaning.specs.Numbers.{Variable}
use Rattle.meaning.specs.Declared.{Declaration, look_up}
use Rattle.meaning.specs.Items.{Item, statement, test, items_all, own, parts_of, within}
use Rattle.meaning.specs.Names.{gather, when, missing, unknown, names_in, changed_by}
use Rattle.meaning.specs.Kinds.{is_whole, kind_of, both, assignable, changeable, has_bit, item_kind, part_kind}
use Rattle.meaning.specs.Worst.{part_worst}
use Rattle.meaning.specs.Sizes.{most_delay, most_statements}
use Rattle.meaning.specs.States.{most_activities}
use Rattle.meaning.specs.Faults.{least}
use Rattle.language.specs.Trees.{Name}
use Rattle.parts.specs.declared.Notes.{Notes}
use Rattle.parts.specs.Sum.{sum, at_six, at_seven}
use Rattle.items.specs.declared.Marks.{Marks}
use Rattle.items.specs.Walk.{Walked, walked, test_at, tested, begun, begun_at, with_acts, with_notes, at_nine, cased, leaves, delayed, target_marks, fits, assigned, assign_at, change_at, together, finished, branched, walk, walk_all}
use Rattle.expr_law.proofs.Least.{least-when, gather_append}
use Rattle.expr_law.proofs.Noted.{six_is, seven_is, truth_is, whole_is, around_seven}
use Rattle.expr_law.proofs.Sizes.{Small, ten_is}
use Rattle.kept_law.specs.Kept.{Every}
use Rattle.stmts_law.proofs.Walks.{Steps, regroup, all_is}

-- ---- notes that do not move

either : (b : Bool) (f : Notes → ℕ) (x y : Notes) → f y ≡ f x → f (cond b x y) ≡ f x
either true f x y e = refl
either false f x y e = e

either-marks : (b : Bool) (f : Notes → ℕ) (x y : Marks) → f y.notes ≡ f x.notes → f (cond b x y).notes ≡ f x.notes
either-marks true f x y e = refl
either-marks false f x y e = e

-- a note that 9 does not touch
module _ (f : Notes → ℕ) (apart : (n : Notes) (p : ℕ) → f (at_nine n p) ≡ f n) where
  begun_kept : (m : Marks) (p : ℕ) → f (begun m p).notes ≡ f m.notes
  unfolding begun
  begun_kept m p = either (ltb m.statements most_statements) f m.notes (at_nine m.notes p) (apart m.notes p)

  delayed-kept : (m : Marks) (n p : ℕ) → f (delayed m n p).notes ≡ f m.notes
  unfolding delayed with_notes
  delayed-kept m n p = either-marks (leb n most_delay) f m _ (apart m.notes p)

  together-kept : (m : Marks) (a p : ℕ) → f (together m a p).notes ≡ f m.notes
  unfolding together with_acts with_notes
  together-kept m a p = either-marks (leb m.acts most_activities) f m _ (apart m.notes p)

six_apart : (n : Notes) (p : ℕ) → (at_nine n p).six ≡ n.six
unfolding at_nine
six_apart n p = refl

seven_apart : (n : Notes) (p : ℕ) → (at_nine n p).seven ≡ n.seven
unfolding at_nine
seven_apart n p = refl

ten_apart : (n : Notes) (p : ℕ) → (at_nine n p).ten ≡ n.ten
unfolding at_nine
ten_apart n p = refl

when-one : (b : Bool) (x n p : ℕ) (l : List ℕ) → x ≡ least n l → cond b (min x p) x ≡ least n ((when b p ++ []) ++ l)
when-one true x n p l e = ap (λ (k : ℕ). min k p) e ∙ least-when true n p l
when-one false x n p l e = e

when-two : (b c : Bool) (x n p : ℕ) (l : List ℕ) → b ≡ c → x ≡ least n l → cond b (min x p) x ≡ least n (when c p ++ l)
when-two b c x n p l q e = ap (λ (k : Bool). cond k (min x p) x) q ∙ ap (λ (k : ℕ). cond c (min k p) k) e ∙ least-when c n p l

gather-gather : {A B : Type 0} (u : B → List ℕ) (f : A → List B) (l : List A) → gather u (gather f l) ≡ gather (λ i. gather u (f i)) l
unfolding gather
gather-gather u f [] = refl
gather-gather u f (x ∷ l) = gather_append u (f x) (gather f l) ∙ ap (λ (k : List ℕ). gather u (f x) ++ k) (gather-gather u f l)

parts_are : (is : List Item) → parts_of is ≡ gather own is
unfolding parts_of gather
parts_are [] = refl
parts_are (i ∷ is) = ap (λ (k : List (Expr Name)). own i ++ k) (parts_are is)

gathered : {A B C : Type 0} (u : B → List C) (f : A → List B) (l : List A) → gather u (gather f l) ≡ gather (λ i. gather u (f i)) l
unfolding gather
gathered u f [] = refl
gathered u f (x ∷ l) = gather_append u (f x) (gather f l) ∙ ap (λ (k : List _). gather u (f x) ++ k) (gathered u f l)

-- every number that stands in an item is small
abbrev pub SmallOwn : Stmt Name → Type 0
SmallOwn (skip h) = Unit
SmallOwn (delay h p n) = Unit
SmallOwn (change h c t) = Unit
SmallOwn (assign h v e) = Small e
SmallOwn (choice h e a b) = Small e
SmallOwn (while h e b) = Small e
SmallOwn (loop h b) = Unit
SmallOwn (exit h) = Unit
SmallOwn (break h) = Unit
SmallOwn (switch h cs) = Unit
SmallOwn (parallel h bs) = Unit

abbrev pub SmallItem : Item → Type 0
SmallItem (statement s) = SmallOwn s
SmallItem (test h e) = Small e

module _ (ds : List Declaration) where
  abbrev L : List ℕ → Option Variable
  L x = look_up ds x

  anything : Item → Type 0
  anything i = Unit

  all_anything : (is : List Item) → Every anything is
  unfolding anything
  all_anything [] = tt
  all_anything (i ∷ is) = (tt, all_anything is)

  -- ---- 6

  abbrev six_of : Item → List ℕ
  six_of i = gather (unknown ds) (changed_by i) ++ gather (unknown ds) (gather names_in (own i))

  abbrev Six : Walked → ℕ
  Six w = w.marks.notes.six

  begun_six : (w : Walked) (p : ℕ) → (begun w.marks p).notes.six ≡ Six w
  begun_six w p = begun_kept (λ n. n.six) six_apart w.marks p

  test_six : (e : Expr Name) (p : ℕ) (w : Walked) (n : ℕ) → Six w ≡ n → Six (test_at L e p w).state ≡ least n (gather (unknown ds) (gather names_in (within e)))
  unfolding test_at tested with_notes at_seven
  test_six e p w n q = six_is ds e w.marks.notes w.bytes ∙ ap (λ (k : ℕ). least k (gather (unknown ds) (gather names_in (within e)))) q

  six_steps : Steps L anything Six six_of
  unfolding walk finished test_at tested with_notes with_acts cased leaves change_at target_marks assign_at assigned branched at_six at_seven gather least
  six_steps =
      record {
        skips = λ h l b w. begun_six w h.place;
        delays = λ h p n l b w. delayed-kept (λ n. n.six) six_apart (begun w.marks h.place) n p ∙ begun_six w h.place;
        changes = λ h c x l b w. go h c x w;
        assigns = λ h v e l b w p. when-one (missing (L v.bytes)) _ (Six w) v.place _ (six_is ds e (begun w.marks h.place).notes w.bytes ∙ ap (λ (k : ℕ). least k (gather (unknown ds) (gather names_in (within e)))) (begun_six w h.place));
        exits = λ h l b w. begun_six w h.place;
        breaks = λ h l b w. begun_six w h.place;
        choices = λ h e x y w p. test_six e h.place (begun_at L h.place w) (Six w) (begun_six w h.place);
        whiles = λ h e x w p. test_six e h.place (begun_at L h.place w) (Six w) (begun_six w h.place);
        loops = λ h x w. begun_six w h.place;
        switches = λ h cs w. begun_six w h.place;
        parallels = λ h bs w. begun_six w h.place;
        tests = λ h e w p. test_six e h.place (walked (cased w.marks) w.bytes) (Six w) refl;
        ends = λ i k p a b c d w. refl;
        joins = λ m a p t. together-kept (λ n. n.six) six_apart m a p;
        starts = λ w. refl;
        ending = λ m w. refl;
      }
    where
      go : (h : Head) (c : Change) (x : Target Name) (w : Walked) → Six (change_at L h c x w) ≡ least (Six w) (six_of (statement (change h c x)))
      go h c (whole v) w = when-one (missing (L v.bytes)) _ (Six w) v.place [] (begun_six w h.place)
      go h c (part v j) w = when-one (missing (L v.bytes)) _ (Six w) v.place [] (begun_six w h.place)

  -- 6 of a body, in the definition's own words
  pub six_all : (v : Stmts Name) (l b : Bool) (w : Walked)
      → (walk_all L v l b w).marks.notes.six ≡ least w.marks.notes.six (gather (unknown ds) (gather changed_by (items_all v)) ++ gather (unknown ds) (gather names_in (parts_of (items_all v))))
  six_all v l b w =
      all_is six_of L anything Six six_steps v l b w (all_anything (items_all v)) ∙ regroup (λ i. gather (unknown ds) (changed_by i)) (λ i. gather (unknown ds) (gather names_in (own i))) (items_all v) (Six w)
      ∙ ap (λ (k : List ℕ). least (Six w) (k ++ gather (λ i. gather (unknown ds) (gather names_in (own i))) (items_all v))) (sym (gather-gather (unknown ds) changed_by (items_all v)))
      ∙ ap (λ (k : List ℕ). least (Six w) (gather (unknown ds) (gather changed_by (items_all v)) ++ k))
      (sym (ap (λ (k : List (Expr Name)). gather (unknown ds) (gather names_in k)) (parts_are (items_all v)) ∙ ap (gather (unknown ds)) (named (items_all v)) ∙ gather-gather (unknown ds) (λ i. gather names_in (own i)) (items_all v)))
    where
      named : (is : List Item) → gather names_in (gather own is) ≡ gather (λ i. gather names_in (own i)) is
      named is = gathered names_in own is

  -- ---- 7

  abbrev seven_of : Item → List ℕ
  seven_of i = item_kind ds i ++ gather (part_kind ds) (own i)

  abbrev Seven : Walked → ℕ
  Seven w = w.marks.notes.seven

  begun_seven : (w : Walked) (p : ℕ) → (begun w.marks p).notes.seven ≡ Seven w
  begun_seven w p = begun_kept (λ n. n.seven) seven_apart w.marks p

  expr_seven : (e : Expr Name) (n : Notes) (t : List ℕ) (x : ℕ) → n.seven ≡ x → (sum L e n t).notes.seven ≡ least x (gather (part_kind ds) (within e))
  expr_seven e n t x q = seven_is ds e n t ∙ ap (λ (k : ℕ). least k (gather (part_kind ds) (within e))) q

  test_seven : (e : Expr Name) (p : ℕ) (w : Walked) (n : ℕ) → Seven w ≡ n → Seven (test_at L e p w).state ≡ least n (when (is_whole (kind_of ds e)) p ++ gather (part_kind ds) (within e))
  unfolding test_at tested with_notes at_seven
  test_seven e p w n q = around_seven ds e n p _ _ (truth_is ds e w.marks.notes w.bytes) (expr_seven e w.marks.notes w.bytes n q)

  seven_steps : Steps L anything Seven seven_of
  unfolding walk finished test_at tested with_notes with_acts cased leaves change_at target_marks assign_at assigned fits branched at_six at_seven gather least
  seven_steps =
      record {
        skips = λ h l b w. begun_seven w h.place;
        delays = λ h p n l b w. delayed-kept (λ n. n.seven) seven_apart (begun w.marks h.place) n p ∙ begun_seven w h.place;
        changes = λ h c x l b w. go h c x w;
        assigns = λ h v e l b w p. when-two _ (opposite (both (assignable (L v.bytes)) (is_whole (kind_of ds e)))) _ (Seven w) v.place _ (ap (λ (k : Bool). opposite (both (assignable (L v.bytes)) k)) (ap opposite (truth_is ds e (begun w.marks h.place).notes w.bytes) ∙ whole_is ds (kind_of ds e))) (expr_seven e (begun w.marks h.place).notes w.bytes (Seven w) (begun_seven w h.place));
        exits = λ h l b w. begun_seven w h.place;
        breaks = λ h l b w. begun_seven w h.place;
        choices = λ h e x y w p. test_seven e h.place (begun_at L h.place w) (Seven w) (begun_seven w h.place);
        whiles = λ h e x w p. test_seven e h.place (begun_at L h.place w) (Seven w) (begun_seven w h.place);
        loops = λ h x w. begun_seven w h.place;
        switches = λ h cs w. begun_seven w h.place;
        parallels = λ h bs w. begun_seven w h.place;
        tests = λ h e w p. test_seven e h.place (walked (cased w.marks) w.bytes) (Seven w) refl;
        ends = λ i k p a b c d w. refl;
        joins = λ m a p t. together-kept (λ n. n.seven) seven_apart m a p;
        starts = λ w. refl;
        ending = λ m w. refl;
      }
    where
      go : (h : Head) (c : Change) (x : Target Name) (w : Walked) → Seven (change_at L h c x w) ≡ least (Seven w) (seven_of (statement (change h c x)))
      go h c (whole v) w = when-two _ (opposite (changeable (L v.bytes))) _ (Seven w) h.place [] refl (begun_seven w h.place)
      go h c (part v j) w = when-two _ (opposite (has_bit (L v.bytes) j)) _ (Seven w) v.place [] refl (begun_seven w h.place)

  pub seven_all : (v : Stmts Name) (l b : Bool) (w : Walked)
      → (walk_all L v l b w).marks.notes.seven ≡ least w.marks.notes.seven (gather (item_kind ds) (items_all v) ++ gather (part_kind ds) (parts_of (items_all v)))
  seven_all v l b w =
      all_is seven_of L anything Seven seven_steps v l b w (all_anything (items_all v)) ∙ regroup (item_kind ds) (λ i. gather (part_kind ds) (own i)) (items_all v) (Seven w)
      ∙ ap (λ (k : List ℕ). least (Seven w) (gather (item_kind ds) (items_all v) ++ k)) (sym (ap (gather (part_kind ds)) (parts_are (items_all v)) ∙ gather-gather (part_kind ds) own (items_all v)))

  -- ---- 10

  abbrev ten_of : Item → List ℕ
  ten_of i = gather (part_worst ds) (own i)

  abbrev Ten : Walked → ℕ
  Ten w = w.marks.notes.ten

  begun_ten : (w : Walked) (p : ℕ) → (begun w.marks p).notes.ten ≡ Ten w
  begun_ten w p = begun_kept (λ n. n.ten) ten_apart w.marks p

  expr_ten : (e : Expr Name) (n : Notes) (t : List ℕ) (x : ℕ) → n.ten ≡ x → Small e → (sum L e n t).notes.ten ≡ least x (gather (part_worst ds) (within e))
  expr_ten e n t x q s = ten_is ds e n t s ∙ ap (λ (k : ℕ). least k (gather (part_worst ds) (within e))) q

  test_ten : (e : Expr Name) (p : ℕ) (w : Walked) (n : ℕ) → Ten w ≡ n → Small e → Ten (test_at L e p w).state ≡ least n (gather (part_worst ds) (within e))
  unfolding test_at tested with_notes at_seven
  test_ten e p w n q s = expr_ten e w.marks.notes w.bytes n q s

  ten_steps : Steps L SmallItem Ten ten_of
  unfolding walk finished test_at tested with_notes with_acts cased leaves change_at target_marks assign_at assigned branched at_six at_seven gather least
  ten_steps =
      record {
        skips = λ h l b w. begun_ten w h.place;
        delays = λ h p n l b w. delayed-kept (λ n. n.ten) ten_apart (begun w.marks h.place) n p ∙ begun_ten w h.place;
        changes = λ h c x l b w. go h c x w;
        assigns = λ h v e l b w p. expr_ten e (begun w.marks h.place).notes w.bytes (Ten w) (begun_ten w h.place) p;
        exits = λ h l b w. begun_ten w h.place;
        breaks = λ h l b w. begun_ten w h.place;
        choices = λ h e x y w p. test_ten e h.place (begun_at L h.place w) (Ten w) (begun_ten w h.place) p;
        whiles = λ h e x w p. test_ten e h.place (begun_at L h.place w) (Ten w) (begun_ten w h.place) p;
        loops = λ h x w. begun_ten w h.place;
        switches = λ h cs w. begun_ten w h.place;
        parallels = λ h bs w. begun_ten w h.place;
        tests = λ h e w p. test_ten e h.place (walked (cased w.marks) w.bytes) (Ten w) refl p;
        ends = λ i k p a b c d w. refl;
        joins = λ m a p t. together-kept (λ n. n.ten) ten_apart m a p;
        starts = λ w. refl;
        ending = λ m w. refl;
      }
    where
      go : (h : Head) (c : Change) (x : Target Name) (w : Walked) → Ten (change_at L h c x w) ≡ least (Ten w) (ten_of (statement (change h c x)))
      go h c (whole v) w = begun_ten w h.place
      go h c (part v j) w = begun_ten w h.place

  pub ten_all : (v : Stmts Name) (l b : Bool) (w : Walked) → Every SmallItem (items_all v) → (walk_all L v l b w).marks.notes.ten ≡ least w.marks.notes.ten (gather (part_worst ds) (parts_of (items_all v)))
  ten_all v l b w small =
      all_is ten_of L SmallItem Ten ten_steps v l b w small
      ∙ ap (least (Ten w)) (sym (ap (gather (part_worst ds)) (parts_are (items_all v)) ∙ gather-gather (part_worst ds) own (items_all v)))
