-- Inside a call no level is told, so those open around do not matter; every place told is the call's; and the frames of calls lie apart from what is walked.
-- Assumes nothing.
use mathlib.Core.Path.{◌≡◌, refl, sym, ap, fun_ext, ◌∙◌}
use mathlib.Core.Bool.{Bool, true, false, cond}
use mathlib.Core.List.{List, [], ◌∷◌, ◌++◌, map}
use mathlib.Core.Option.{Option}
use Prim.Native.Nat.{ℕ, zero, suc, ◌+◌, ◌*◌, ◌≤◌, ◌<◌}
use native.Mathlib.Omega.{arith}
use lib.Dec.{ltb, eqb}
use lib.ListN.{length, get_or, set, take, length-set, length-take}
use lib.Seq.{take-set-lt}
use borrow.Author.Tests.{lt-ltb, eqb-true}
use Rattle.meaning.specs.Tree.{Name}
use Rattle.meaning.specs.Numbers.{Variable}
use Rattle.meaning.specs.Unexpanded.{Term, Command, skip, delay, change, assign, choice, while, loop, exit, break, switch, parallel, call, passing, Commands, end, ◌⨾◌, Tests, default, case, Strands, ◌∥◌}
use Rattle.meaning.specs.Unexpanded as unexpanded
use Rattle.meaning.specs.Levels.{most_levels, levels_in}
use Rattle.meaning.specs.Base.{base_all}
use Rattle.meaning.specs.Expansion.{moved, replaced, expand, expand_all, called, outermost}
use Rattle.own_law.specs.Noted.{deep_at, noted, noted_all, noted_tests, noted_each}
use Rattle.names.specs.Look.{place_at, end_at, kind_at, entry_at, look_from, look_in}
use Rattle.parts.specs.Beside.{tree_bytes}
use Rattle.frames_law.specs.Frames.{no_place, told_at}
use Rattle.frames.specs.declared.Under.{Under}
use Rattle.items.specs.Walk.{Walked, walked, walk_all}
use Rattle.items.specs.Under.{six_at, nine_in, read, one_in, all_in, Scope, sense_of}
use Rattle.order_law.proofs.Touch.{Apart, all_touch}
use Rattle.order_law.proofs.Order.{still}
use Rattle.order_law.proofs.Compound.{notes_in}

-- ---- the levels open around

module _ {S : Type 0} (six : ℕ → S → S) where
  abbrev silent : ℕ → S → S
  silent p s = s

  deep-still : (m p : ℕ) (s : S) → deep_at six silent m p s ≡ s
  deep-still m p s = by (ltb most_levels m)
    where
      by : (b : Bool) → cond b s s ≡ s
      by true = refl
      by false = refl

  either-deep : (m k p : ℕ) (s : S) → deep_at six silent m p s ≡ deep_at six silent k p s
  either-deep m k p s = deep-still m p s ∙ sym (deep-still k p s)

  mutual
    unfolding noted

    any-one : (n m : ℕ) (c : Command) (s : S) → noted six silent n c s ≡ noted six silent m c s
    any-one n m (skip p) s = refl
    any-one n m (delay p q d) s = refl
    any-one n m (change p c t) s = either-deep (suc n) (suc m) p s
    any-one n m (assign v e) s = either-deep (n + levels_in e) (m + levels_in e) v.place s
    any-one n m (choice p e a b) s =
        ap (λ (y : S). noted_all six silent (suc n) b (noted_all six silent (suc n) a y)) (either-deep (suc n + levels_in e) (suc m + levels_in e) p s)
        ∙ ap (noted_all six silent (suc n) b) (any-all (suc n) (suc m) a (deep_at six silent (suc m + levels_in e) p s)) ∙ any-all (suc n) (suc m) b (noted_all six silent (suc m) a (deep_at six silent (suc m + levels_in e) p s))
    any-one n m (while p e b) s = ap (noted_all six silent (suc n) b) (either-deep (suc n + levels_in e) (suc m + levels_in e) p s) ∙ any-all (suc n) (suc m) b (deep_at six silent (suc m + levels_in e) p s)
    any-one n m (loop p b) s = ap (noted_all six silent (suc n) b) (either-deep (suc n) (suc m) p s) ∙ any-all (suc n) (suc m) b (deep_at six silent (suc m) p s)
    any-one n m (exit p) s = refl
    any-one n m (break p) s = refl
    any-one n m (switch p ts) s = ap (noted_tests six silent (suc n) ts) (either-deep (suc n) (suc m) p s) ∙ any-tests (suc n) (suc m) ts (deep_at six silent (suc m) p s)
    any-one n m (parallel p bs) s = ap (noted_each six silent (suc n) bs) (either-deep (suc n) (suc m) p s) ∙ any-each (suc n) (suc m) bs (deep_at six silent (suc m) p s)
    any-one n m (call v ts) s = refl
    any-one n m (passing p k) s = refl

    pub any-all : (n m : ℕ) (x : Commands) (s : S) → noted_all six silent n x s ≡ noted_all six silent m x s
    any-all n m end s = refl
    any-all n m (l ⨾ ls) s = ap (noted_all six silent n ls) (any-one n m l s) ∙ any-all n m ls (noted six silent m l s)

    any-tests : (n m : ℕ) (ts : Tests) (s : S) → noted_tests six silent n ts s ≡ noted_tests six silent m ts s
    any-tests n m (default d) s = any-all n m d s
    any-tests n m (case p e b ts) s =
        ap (λ (y : S). noted_tests six silent n ts (noted_all six silent n b y)) (either-deep (n + levels_in e) (m + levels_in e) p s)
        ∙ ap (noted_tests six silent n ts) (any-all n m b (deep_at six silent (m + levels_in e) p s)) ∙ any-tests n m ts (noted_all six silent m b (deep_at six silent (m + levels_in e) p s))

    any-each : (n m : ℕ) (bs : Strands) (s : S) → noted_each six silent n bs s ≡ noted_each six silent m bs s
    any-each n m unexpanded.none s = refl
    any-each n m (b ∥ bs) s = ap (noted_each six silent n bs) (any-all n m b s) ∙ any-each n m bs (noted_all six silent m b s)

pub any-levels : (look : List ℕ → Option Variable) (n m : ℕ) (x : Commands) (l b : Bool) (w : Walked) → read look true n x l b w ≡ read look true m x l b w
any-levels look n m x l b w = any-all six_at n m x (walk_all look (base_all x) l b w)

-- ---- what a text means inside a call

module _ {s z : List ℕ} {count : ℕ} {u : Under} (o : Scope s z count u) (inside : u.at < no_place) (n : ℕ) (l b : Bool) (w : Walked) where
  pub call_in : (v : Name) (ts : List Term)
      → one_in (sense_of count o) n (call v ts) l b w ≡ read (look_in s z count) true n (called o.procedures u.at (record { bytes = v.bytes; place = u.at }) (map (replaced (λ q. u.at) o.bound) ts)) l b w
  unfolding expand told_at
  call_in v ts =
      ap (λ (k : Bool). read (look_in s z count) k n (cond k (called o.procedures u.at) (outermost o.procedures) (moved (λ q. cond k u.at q) v) (map (replaced (λ q. cond k u.at q) o.bound) ts)) l b w) (lt-ltb u.at no_place inside)

  pub body_in : (v : Commands) → all_in (sense_of count o) n v l b w ≡ read (look_in s z count) true n (expand_all (called o.procedures u.at) (λ q. u.at) o.bound v) l b w
  unfolding told_at
  body_in v =
      ap (λ (k : Bool). read (look_in s z count) k n (expand_all (cond k (called o.procedures u.at) (outermost o.procedures)) (λ q. cond k u.at q) o.bound v) l b w) (lt-ltb u.at no_place inside)

-- ---- bytes behind the tree

pub read-apart : (look : List ℕ → Option Variable) (inside : Bool) {f : List ℕ → List ℕ} (apart : Apart f) (n : ℕ) (x : Commands) (l b : Bool) (w : Walked)
    → read look inside n x l b (walked w.marks (f w.bytes)) ≡ walked (read look inside n x l b w).marks (f (read look inside n x l b w).bytes)
read-apart look inside {f} apart n x l b w =
    ap (noted_all six_at (nine_in inside) n x) (all_touch (λ x. x) (λ x. x) still still f apart look (base_all x) l b w)
    ∙ notes_in look inside (λ (r : Walked). walked r.marks (f r.bytes)) (λ q r. refl) (λ q r. refl) n x (walk_all look (base_all x) l b w)

-- an area of this length gets these bytes behind its tree
abbrev pub behind_by : List ℕ → ℕ → List ℕ → List ℕ
behind_by z n t = cond (eqb (length t) n) (take tree_bytes t ++ z) t

set_front : (a z : List ℕ) (o x : ℕ) → o < length a → set a o x ++ z ≡ set (a ++ z) o x
set_front [] z o x h = absurd (omega arith)
set_front (y ∷ a) z zero x h = refl
set_front (y ∷ a) z (suc o) x h = ap (λ (l : List ℕ). y ∷ l) (set_front a z o x (omega arith))

length_both : (a z : List ℕ) → length (a ++ z) ≡ length a + length z
length_both [] z = omega arith
length_both (y ∷ a) z = omega (arith, length_both a z)

pub behind-apart : (z : List ℕ) (n : ℕ) → n ≡ tree_bytes + length z → Apart (behind_by z n)
behind-apart z n e = record { long = λ t. long t (eqb (length t) n) refl; lets = λ t o x h. lets t o x h }
  where
    long : (t : List ℕ) (b : Bool) → eqb (length t) n ≡ b → length (cond b (take tree_bytes t ++ z) t) ≡ length t
    long t true q = omega (arith, e, length_both (take tree_bytes t) z, length-take tree_bytes t, eqb-true (length t) n q)
    long t false q = refl

    by : (t : List ℕ) (o x : ℕ) → o < tree_bytes → (b : Bool) → eqb (length t) n ≡ b → cond b (take tree_bytes (set t o x) ++ z) (set t o x) ≡ set (cond b (take tree_bytes t ++ z) t) o x
    by t o x h true q = ap (λ (a : List ℕ). a ++ z) (take-set-lt tree_bytes t o x h) ∙ set_front (take tree_bytes t) z o x (omega (arith, e, h, length-take tree_bytes t, eqb-true (length t) n q))
    by t o x h false q = refl

    lets : (t : List ℕ) (o x : ℕ) → o < tree_bytes → behind_by z n (set t o x) ≡ set (behind_by z n t) o x
    lets t o x h = ap (λ (k : ℕ). cond (eqb k n) (take tree_bytes (set t o x) ++ z) (set t o x)) (length-set t o x) ∙ by t o x h (eqb (length t) n) refl

-- ---- the declared names below the frames

module _ (s y z : List ℕ) (from : ℕ) (alike : (i : ℕ) → i < from → get_or y i 0 ≡ get_or z i 0) where
  from_alike : (x : List ℕ) (k i : ℕ) → (i + k) * 4 ≤ from → look_from s y x k i ≡ look_from s z x k i
  unfolding look_from place_at end_at kind_at entry_at
  from_alike x zero i h = refl
  from_alike x (suc k) i h =
      rw (alike (i * 4) (omega arith), alike (i * 4 + 1) (omega arith), alike (i * 4 + 2) (omega arith), alike (i * 4 + 3) (omega arith), from_alike x k (i + 1) (omega arith)) refl

  pub look-alike : (count : ℕ) → count * 4 ≤ from → look_in s y count ≡ look_in s z count
  unfolding look_in
  look-alike count h = fun_ext (λ x. from_alike x count 0 (omega arith))
