-- What a reader notes of an expansion beside the faults of its base tree, in text order; and both together.
-- Assumes nothing.
use Rattle.std.specs.Prelude.{ℕ, suc, ◌+◌, ◌<◌, min, cond, List, [], ◌∷◌, ◌≡◌, ltb}
use Rattle.std.proofs.Math.Option.{Option, none, some}
use Rattle.meaning.specs.Tree as tree
use Rattle.meaning.specs.Tree.{Name, Stmts}
use Rattle.meaning.specs.Faults.{Fault, least}
use Rattle.meaning.specs.Levels.{most_levels, levels_in}
use Rattle.meaning.specs.Unexpanded.{Term, literal, truth, variable, bit, not, int, arithmetic, comparison, logic, parens, instead, no_name, Command, skip, delay, change, assign, choice, while, loop, exit, break, switch, parallel, call, passing, Commands, end, ◌⨾◌, Tests, default, case, Strands, ◌∥◌}
use Rattle.meaning.specs.Unexpanded as unexpanded
use Rattle.meaning.specs.Base.{base_all}

-- how a fault 6 and a fault 9 are noted at a place
module _ {S : Type 0} (six nine : ℕ → S → S) where
  -- P12: so many levels are open for the statement or case test at p
  abbrev pub deep_at : ℕ → ℕ → S → S
  deep_at levels p s = cond (ltb most_levels levels) (nine p s) s

  -- P12: the same noted level by level, as an expression of the statement or case test at p is read with n levels open around
  unfoldable pub noted_term : ℕ → ℕ → Term → S → S
  noted_term n p (literal q x) s = s
  noted_term n p (truth q b) s = s
  noted_term n p (variable v) s = s
  noted_term n p (bit v k) s = s
  noted_term n p (not q e) s = noted_term (suc n) p e (deep_at (suc n) p s)
  noted_term n p (int q e) s = noted_term (suc n) p e (deep_at (suc n) p s)
  noted_term n p (arithmetic o q a b) s = noted_term n p b (noted_term n p a s)
  noted_term n p (comparison o q a b) s = noted_term n p b (noted_term n p a s)
  noted_term n p (logic o q a b) s = noted_term n p b (noted_term n p a s)
  noted_term n p (parens e) s = noted_term (suc n) p e (deep_at (suc n) p s)
  noted_term n p (instead e) s = noted_term (suc n) p e (deep_at (suc n) p s)
  noted_term n p (no_name q) s = s

  -- with n levels open around: P7 6 at each call left standing, P13 9 at each that passes a size, P12 9 where a level too many opens
  unfoldable mutual
    pub noted : ℕ → Command → S → S
    noted n (skip p) s = s
    noted n (delay p q d) s = s
    noted n (change p c t) s = deep_at (suc n) p s
    noted n (assign v e) s = deep_at (n + levels_in e) v.place s
    noted n (choice p e a b) s = noted_all (suc n) b (noted_all (suc n) a (deep_at (suc n + levels_in e) p s))
    noted n (while p e b) s = noted_all (suc n) b (deep_at (suc n + levels_in e) p s)
    noted n (loop p b) s = noted_all (suc n) b (deep_at (suc n) p s)
    noted n (exit p) s = s
    noted n (break p) s = s
    noted n (switch p ts) s = noted_tests (suc n) ts (deep_at (suc n) p s)
    noted n (parallel p bs) s = noted_each (suc n) bs (deep_at (suc n) p s)
    noted n (call v ts) s = six v.place s
    noted n (passing p k) s = nine p s

    pub noted_all : ℕ → Commands → S → S
    noted_all n end s = s
    noted_all n (l ⨾ ls) s = noted_all n ls (noted n l s)

    pub noted_tests : ℕ → Tests → S → S
    noted_tests n (default d) s = noted_all n d s
    noted_tests n (case p e b ts) s = noted_tests n ts (noted_all n b (deep_at (n + levels_in e) p s))

    pub noted_each : ℕ → Strands → S → S
    noted_each n unexpanded.none s = s
    noted_each n (b ∥ bs) s = noted_each n bs (noted_all n b s)

  -- what `fold` notes of the base tree, and these
  abbrev pub read_by : (Stmts Name → S → S) → ℕ → Commands → S → S
  read_by fold n x s = noted_all n x (fold (base_all x) s)

  -- statements are noted one after the other, and a note of 6 or 9 is the same before and after them
  pub record InOrder (fold : Stmts Name → S → S) : Type 0 where
    pub none : (s : S) → fold tree.end s ≡ s
    pub first : (l : tree.Stmt Name) (ls : Stmts Name) (s : S) → fold (tree.◌⨾◌ l ls) s ≡ fold ls (fold (tree.◌⨾◌ l tree.end) s)
    pub lets_six : (b : Stmts Name) (p : ℕ) (s : S) → fold b (six p s) ≡ six p (fold b s)
    pub lets_nine : (b : Stmts Name) (p : ℕ) (s : S) → fold b (nine p s) ≡ nine p (fold b s)

  -- the least place of each number that a reader has: a note of 6 or 9 lowers its own and no other
  pub record Places : Type 0 where
    pub six_of : S → ℕ
    pub seven_of : S → ℕ
    pub eight_of : S → ℕ
    pub nine_of : S → ℕ
    pub ten_of : S → ℕ
    pub six_at_lem : (p : ℕ) (s : S) → six_of (six p s) ≡ min (six_of s) p
    pub nine_at_lem : (p : ℕ) (s : S) → nine_of (nine p s) ≡ min (nine_of s) p
    pub nine_by_six : (p : ℕ) (s : S) → nine_of (six p s) ≡ nine_of s
    pub six_by_nine : (p : ℕ) (s : S) → six_of (nine p s) ≡ six_of s
    pub others_by_six : (p : ℕ) (s : S) → (seven_of (six p s) ≡ seven_of s) × ((eight_of (six p s) ≡ eight_of s) × (ten_of (six p s) ≡ ten_of s))
    pub others_by_nine : (p : ℕ) (s : S) → (seven_of (nine p s) ≡ seven_of s) × ((eight_of (nine p s) ≡ eight_of s) × (ten_of (nine p s) ≡ ten_of s))

-- ---- which fault is told, by the least place of each number; `top` stands for none

module _ (top : ℕ) where
  abbrev pub tell_at : ℕ → ℕ → Option Fault → Option Fault
  tell_at number p next = cond (ltb p top) (some (record { number = number; place = p })) next

  -- R1
  unfoldable pub tell_by : ℕ → ℕ → ℕ → ℕ → ℕ → Option Fault
  tell_by six seven eight nine ten = tell_at 6 six (tell_at 7 seven (tell_at 8 eight (tell_at 9 nine (tell_at 10 ten none))))

  -- every place is below
  abbrev pub Below : List ℕ → Type 0
  Below [] = Unit
  Below (p ∷ ps) = (p < top) × Below ps

  -- the least of these places, or `top`
  pub record Least (l : List ℕ) (n : ℕ) : Type 0 where
    pub least_is : n ≡ least top l
    pub below : Below l
