-- A note that each statement and each case test moves by its own places is moved by the places of all, in text order.
-- Assumes nothing.
use mathlib.Core.Bool.{Bool, true}
use mathlib.Core.Path.{◌≡◌, refl, sym, ◌∙◌, ap}
use mathlib.Core.List.{List, [], ◌∷◌, ◌++◌}
use mathlib.Core.Option.{Option}
use Prim.Native.Nat.{ℕ, min}
use Rattle.meaning.specs.Tree.{Expr, Change, Target, Head, Stmt, skip, delay, change, assign, choice, while, loop, exit, break, switch, parallel, Stmts, end, ◌⨾◌, Cases, default, case, Branches, none, ◌∥◌}
use Rattle.meaning.specs.Numbers.{Variable}
use Rattle.meaning.specs.Items.{Item, statement, test, items, items_all, items_cases, items_each}
use Rattle.meaning.specs.Names.{gather}
use Rattle.meaning.specs.Faults.{least}
use Rattle.language.specs.Trees.{Name}
use Rattle.kept_law.specs.Kept.{Every}
use Rattle.items.specs.declared.Marks.{Marks}
use Rattle.items.specs.Walk.{Walked, walked, test_at, begun_at, begun, with_acts, cased, together, finished, branched, walk, walk_all, walk_cases, walk_each}
use Rattle.expr_law.proofs.Least.{least-append, least-min, gather_append}

-- ---- lists of places

pub least-swap : (n : ℕ) (a b : List ℕ) → least (least n a) b ≡ least (least n b) a
unfolding least
least-swap n a [] = refl
least-swap n a (q ∷ b) = ap (λ (x : ℕ). least x b) (sym (least-min n q a)) ∙ least-swap (min n q) a b

-- what two functions give item by item, or one after the other
pub regroup : {A : Type 0} (f g : A → List ℕ) (is : List A) (n : ℕ) → least n (gather (λ i. f i ++ g i) is) ≡ least n (gather f is ++ gather g is)
unfolding gather least
regroup f g [] n = refl
regroup f g (x ∷ is) n =
    least-append n (f x ++ g x) (gather (λ i. f i ++ g i) is) ∙ ap (λ (m : ℕ). least m (gather (λ i. f i ++ g i) is)) (least-append n (f x) (g x))
    ∙ regroup f g is (least (least n (f x)) (g x)) ∙ least-append (least (least n (f x)) (g x)) (gather f is) (gather g is)
    ∙ ap (λ (m : ℕ). least m (gather g is)) (least-swap (least n (f x)) (g x) (gather f is))
    ∙ sym (least-append n (f x ++ gather f is) (g x ++ gather g is) ∙ ap (λ (m : ℕ). least m (g x ++ gather g is)) (least-append n (f x) (gather f is)) ∙ least-append (least (least n (f x)) (gather f is)) (g x) (gather g is))

-- ---- conditions

pub every-left : {A : Type 0} (P : A → Type 0) (a b : List A) → Every P (a ++ b) → Every P a
every-left P [] b e = tt
every-left P (x ∷ a) b (p, e) = (p, every-left P a b e)

pub every-right : {A : Type 0} (P : A → Type 0) (a b : List A) → Every P (a ++ b) → Every P b
every-right P [] b e = e
every-right P (x ∷ a) b (p, e) = every-right P a b e

-- ---- the steps

pub record Steps (look : List ℕ → Option Variable) (P : Item → Type 0) (F : Walked → ℕ) (f : Item → List ℕ) : Type 0 where
  pub skips : (h : Head) (l b : Bool) (w : Walked) → F (walk look (skip h) l b w) ≡ least (F w) (f (statement (skip h)))
  pub delays : (h : Head) (p n : ℕ) (l b : Bool) (w : Walked) → F (walk look (delay h p n) l b w) ≡ least (F w) (f (statement (delay h p n)))
  pub changes : (h : Head) (c : Change) (x : Target Name) (l b : Bool) (w : Walked) → F (walk look (change h c x) l b w) ≡ least (F w) (f (statement (change h c x)))
  pub assigns : (h : Head) (v : Name) (e : Expr Name) (l b : Bool) (w : Walked) → P (statement (assign h v e)) → F (walk look (assign h v e) l b w) ≡ least (F w) (f (statement (assign h v e)))
  pub exits : (h : Head) (l b : Bool) (w : Walked) → F (walk look (exit h) l b w) ≡ least (F w) (f (statement (exit h)))
  pub breaks : (h : Head) (l b : Bool) (w : Walked) → F (walk look (break h) l b w) ≡ least (F w) (f (statement (break h)))
  pub choices : (h : Head) (e : Expr Name) (x y : Stmts Name) (w : Walked) → P (statement (choice h e x y)) → F (test_at look e h.place (begun_at look h.place w)).state ≡ least (F w) (f (statement (choice h e x y)))
  pub whiles : (h : Head) (e : Expr Name) (x : Stmts Name) (w : Walked) → P (statement (while h e x)) → F (test_at look e h.place (begun_at look h.place w)).state ≡ least (F w) (f (statement (while h e x)))
  pub loops : (h : Head) (x : Stmts Name) (w : Walked) → F (begun_at look h.place w) ≡ least (F w) (f (statement (loop h x)))
  pub switches : (h : Head) (cs : Cases Name) (w : Walked) → F (begun_at look h.place w) ≡ least (F w) (f (statement (switch h cs)))
  pub parallels : (h : Head) (bs : Branches Name) (w : Walked) → F (walked (with_acts (begun w.marks h.place) 0) w.bytes) ≡ least (F w) (f (statement (parallel h bs)))
  pub tests : (h : Head) (e : Expr Name) (w : Walked) → P (test h e) → F (test_at look e h.place (walked (cased w.marks) w.bytes)).state ≡ least (F w) (f (test h e))
  pub ends : (i k p a b c d : ℕ) (w : Walked) → F (finished i k p a b c d w) ≡ F w
  pub joins : (m : Marks) (a p : ℕ) (t : List ℕ) → F (walked (together m a p) t) ≡ F (walked m t)
  pub starts : (w : Walked) → F (walked (with_acts w.marks 1) w.bytes) ≡ F w
  pub ending : (m : Marks) (w : Walked) → F (branched m w) ≡ F w

module _ (f : Item → List ℕ) where
  abbrev G : ℕ → List Item → ℕ
  G n is = least n (gather f is)

  cons_is : (n m : ℕ) (x : Item) (is : List Item) → m ≡ least n (f x) → G m is ≡ G n (x ∷ is)
  unfolding gather
  cons_is n m x is e = ap (λ (k : ℕ). G k is) e ∙ sym (least-append n (f x) (gather f is))

  one_is : (n m : ℕ) (x : Item) → m ≡ least n (f x) → m ≡ G n (x ∷ [])
  unfolding gather least
  one_is n m x e = cons_is n m x [] e

  append_is : (n m : ℕ) (a b : List Item) → m ≡ G n a → G m b ≡ G n (a ++ b)
  append_is n m a b e = ap (λ (k : ℕ). G k b) e ∙ sym (least-append n (gather f a) (gather f b)) ∙ ap (least n) (sym (gather_append f a b))

  module _ (look : List ℕ → Option Variable) (P : Item → Type 0) (F : Walked → ℕ) (S : Steps look P F f) where
    mutual
      unfolding walk items gather least

      pub walk_is : (v : Stmt Name) (l b : Bool) (w : Walked) → Every P (items v) → F (walk look v l b w) ≡ least (F w) (gather f (items v))
      walk_is (skip h) l b w q = one_is (F w) _ (statement (skip h)) (S.skips h l b w)
      walk_is (delay h p n) l b w q = one_is (F w) _ (statement (delay h p n)) (S.delays h p n l b w)
      walk_is (change h c x) l b w q = one_is (F w) _ (statement (change h c x)) (S.changes h c x l b w)
      walk_is (assign h v e) l b w (p, q) = one_is (F w) _ (statement (assign h v e)) (S.assigns h v e l b w p)
      walk_is (choice h e x y) l b w (p, q) =
          S.ends _ _ _ _ _ _ _ _ ∙ all_is y l b _ (every-right P (items_all x) (items_all y) q)
          ∙ ap (λ (k : ℕ). G k (items_all y)) (all_is x l b _ (every-left P (items_all x) (items_all y) q))
          ∙ append_is _ _ (items_all x) (items_all y) refl
          ∙ cons_is (F w) _ (statement (choice h e x y)) (items_all x ++ items_all y) (S.choices h e x y w p)
      walk_is (while h e x) l b w (p, q) = S.ends _ _ _ _ _ _ _ _ ∙ all_is x true b _ q ∙ cons_is (F w) _ (statement (while h e x)) (items_all x) (S.whiles h e x w p)
      walk_is (loop h x) l b w (p, q) = S.ends _ _ _ _ _ _ _ _ ∙ all_is x true b _ q ∙ cons_is (F w) _ (statement (loop h x)) (items_all x) (S.loops h x w)
      walk_is (exit h) l b w q = one_is (F w) _ (statement (exit h)) (S.exits h l b w)
      walk_is (break h) l b w q = one_is (F w) _ (statement (break h)) (S.breaks h l b w)
      walk_is (switch h cs) l b w (p, q) = S.ends _ _ _ _ _ _ _ _ ∙ cases_are cs l true _ q ∙ cons_is (F w) _ (statement (switch h cs)) (items_cases cs) (S.switches h cs w)
      walk_is (parallel h bs) l b w (p, q) =
          S.ends _ _ _ _ _ _ _ _ ∙ S.joins _ _ _ _ ∙ each_is bs l _ q ∙ cons_is (F w) _ (statement (parallel h bs)) (items_each bs) (S.parallels h bs w)

      pub all_is : (v : Stmts Name) (l b : Bool) (w : Walked) → Every P (items_all v) → F (walk_all look v l b w) ≡ least (F w) (gather f (items_all v))
      all_is end l b w q = refl
      all_is (x ⨾ ss) l b w q = all_is ss l b (walk look x l b w) (every-right P (items x) (items_all ss) q) ∙ append_is (F w) _ (items x) (items_all ss) (walk_is x l b w (every-left P (items x) (items_all ss) q))

      pub cases_are : (v : Cases Name) (l b : Bool) (w : Walked) → Every P (items_cases v) → F (walk_cases look v l b w) ≡ least (F w) (gather f (items_cases v))
      cases_are (default d) l b w q = all_is d l b w q
      cases_are (case h e x cs) l b w (p, q) =
          cases_are cs l b _ (every-right P (items_all x) (items_cases cs) q)
          ∙ ap (λ (k : ℕ). G k (items_cases cs)) (S.ends _ _ _ _ _ _ _ _ ∙ all_is x l b _ (every-left P (items_all x) (items_cases cs) q))
          ∙ append_is _ _ (items_all x) (items_cases cs) refl
          ∙ cons_is (F w) _ (test h e) (items_all x ++ items_cases cs) (S.tests h e w p)

      pub each_is : (v : Branches Name) (l : Bool) (w : Walked) → Every P (items_each v) → F (walk_each look v l w) ≡ least (F w) (gather f (items_each v))
      each_is none l w q = refl
      each_is (x ∥ bs) l w q =
          each_is bs l _ (every-right P (items_all x) (items_each bs) q)
          ∙ append_is (F w) _ (items_all x) (items_each bs) (S.ending _ _ ∙ all_is x l true _ (every-left P (items_all x) (items_each bs) q) ∙ ap (λ (k : ℕ). G k (items_all x)) (S.starts w))
