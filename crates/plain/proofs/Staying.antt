-- The laws of calls that are not expanded.
-- Assumes nothing.
use mathlib.Core.Bool.{Bool}
use mathlib.Core.Path.{◌≡◌, refl, sym, ◌∙◌, ap}
use mathlib.Core.List.{List}
use mathlib.Core.Option.{Option}
use Prim.Native.Nat.{ℕ, suc, ◌+◌, ◌-◌, ◌≤◌, ◌<◌}
use native.Mathlib.Omega.{arith}
use Rattle.meaning.specs.Tree.{skip, parallel}
use Rattle.meaning.specs.Numbers.{Variable}
use Rattle.meaning.specs.Base.{head_at, idle}
use Rattle.hand.specs.declared.Here.{Here}
use Rattle.parts.specs.Beside.{beside}
use Rattle.items.specs.declared.Marks.{Marks}
use Rattle.items.specs.declared.Read.{Read}
use Rattle.items.specs.Walk.{Walked, walked, walked_of, begun, with_acts, together, finished, branched, walk, walk_each}
use Rattle.items.specs.Under.{six_at, nine_at}
use Rattle.items.specs.Came.{Finished, Branched}
use Rattle.plain.specs.Stays.{Refuses, Idles, Passes}

skip-walk : (look : List ℕ → Option Variable) (l b : Bool) (p : ℕ) (m m₁ : Marks) (t : List ℕ) → m₁ ≡ begun m p → finished m.nodes 0 p 0 0 0 0 (walked m₁ t) ≡ walk look (skip (head_at p)) l b (walked m t)
unfolding walk
skip-walk look l b p m m₁ t e = rw e refl

six_finished : (n k p q : ℕ) (w : Walked) → finished n k p 0 0 0 0 (six_at q w) ≡ six_at q (finished n k p 0 0 0 0 w)
unfolding finished
six_finished n k p q w = refl

nine-finished : (n k p q : ℕ) (w : Walked) → finished n k p 0 0 0 0 (nine_at q w) ≡ nine_at q (finished n k p 0 0 0 0 w)
unfolding finished
nine-finished n k p q w = refl

pub refuses : {p : ℕ} {w : Here} {m m₁ m₂ : Marks} {t u : List ℕ} {r : Read} → m₁ ≡ begun m p → ((c : List ℕ) → walked m₂ c ≡ six_at p (walked m₁ c)) → Finished m.nodes 0 p 0 0 0 0 w m₂ t u r → Refuses p w m t u r
refuses {p} {w} {m} {m₁} {m₂} {t} e n fin =
    record {
      word = fin.word;
      kept = fin.kept;
      walks = λ look l b. fin.walks ∙ ap (finished m.nodes 0 p 0 0 0 0) (n t) ∙ six_finished m.nodes 0 p p (walked m₁ t) ∙ ap (six_at p) (skip-walk look l b p m m₁ t e);
    }

pub idles : {p : ℕ} {w : Here} {m m₁ m₂ : Marks} {t t₁ u : List ℕ} {a r : Read} → m₁ ≡ with_acts m 1 → m₂ ≡ begun m₁ p → Finished m₁.nodes 0 p 0 0 0 0 w m₂ t t₁ a → Branched m a t₁ u r → Idles p w m t u r
idles {p} {w} {m} {m₁} {m₂} {t} {t₁} {u} {a} {r} e n fin ends =
    record {
      word = ends.word ∙ fin.word;
      kept = ends.kept ∙ fin.kept;
      walks = λ look l b. ends.walks ∙ ap (branched m) (fin.walks ∙ skip-walk look l b p m₁ m₂ t n ∙ ap (λ (k : Marks). walk look (skip (head_at p)) l b (walked k t)) e);
    }

-- j branches are written
pub record Idling (p n : ℕ) (r₀ : Read) (t₀ : List ℕ) (j : ℕ) (r : Read) (t : List ℕ) : Type 0 where
  pub below : j ≤ n
  pub kept : beside t ≡ beside t₀
  pub walks : (look : List ℕ → Option Variable) (l : Bool) → walk_each look (idle p (n - j)) l (walked_of r t) ≡ walk_each look (idle p n) l (walked_of r₀ t₀)

pub idling_start : {p n : ℕ} {r : Read} {t : List ℕ} → Idling p n r t 0 r t
idling_start {p} {n} {r} {t} = record { below = omega arith; kept = refl; walks = λ look l. ap (λ (k : ℕ). walk_each look (idle p k) l (walked_of r t)) (let e : n - 0 ≡ n = omega arith in e) }

one-idle : (look : List ℕ → Option Variable) (l b : Bool) (p k : ℕ) (m : Marks) (t : List ℕ) (y : Walked) → y ≡ branched m (walk look (skip (head_at p)) l b (walked (with_acts m 1) t)) → walk_each look (idle p k) l y ≡ walk_each look (idle p (suc k)) l (walked m t)
unfolding walk idle
one-idle look l b p k m t y e = ap (walk_each look (idle p k) l) e

pub idling_on : {p n j : ℕ} {w : Here} {r₀ r q : Read} {t₀ t u : List ℕ} → j < n → Idles p w r.marks t u q → Idling p n r₀ t₀ j r t → Idling p n r₀ t₀ (j + 1) q u
idling_on {p} {n} {j} {w} {r₀} {r} {q} {t₀} {t} {u} h one was =
    record {
      below = omega arith;
      kept = one.kept ∙ was.kept;
      walks = λ look l.
          one-idle look l l p (n - (j + 1)) r.marks t (walked_of q u) (one.walks look l l)
          ∙ ap (λ (k : ℕ). walk_each look (idle p k) l (walked_of r t)) (let e : suc (n - (j + 1)) ≡ n - j = omega arith in e) ∙ was.walks look l;
    }

none-idle : (look : List ℕ → Option Variable) (l : Bool) (p : ℕ) (w : Walked) → walk_each look (idle p 0) l w ≡ w
unfolding walk idle
none-idle look l p w = refl

parallel-walk : (look : List ℕ → Option Variable) (l b : Bool) (p k : ℕ) (m m₁ m₀ m₂ : Marks) (t : List ℕ) (y : Walked) → m₁ ≡ begun m p → m₀ ≡ with_acts m₁ 0 → y ≡ walk_each look (idle p k) l (walked m₀ t) → m₂ ≡ together y.marks m.acts p
    → finished m.nodes 12 p 0 0 0 0 (walked m₂ y.bytes) ≡ walk look (parallel (head_at p) (idle p k)) l b (walked m t)
unfolding walk
parallel-walk look l b p k m m₁ m₀ m₂ t y e f g h = rw (h, g, f, e) refl

pub passes : {p n j : ℕ} {w : Here} {m m₁ m₀ m₂ m₃ : Marks} {r₀ q r : Read} {t₀ t u : List ℕ} → m₁ ≡ begun m p → m₀ ≡ with_acts m₁ 0 → r₀.marks ≡ m₀ → Idling p n r₀ t₀ j q t → n ≤ j → m₂ ≡ together q.marks m.acts p
    → ((c : List ℕ) → walked m₃ c ≡ nine_at p (walked m₂ c)) → Finished m.nodes 12 p 0 0 0 0 w m₃ t u r → Passes p n w m t₀ u r
passes {p} {n} {j} {w} {m} {m₁} {m₀} {m₂} {m₃} {r₀} {q} {r} {t₀} {t} {u} e f is was over g nine fin =
    record {
      word = fin.word;
      kept = fin.kept ∙ was.kept;
      walks = λ look l b.
          fin.walks ∙ ap (finished m.nodes 12 p 0 0 0 0) (nine t) ∙ nine-finished m.nodes 12 p p (walked m₂ t)
          ∙ ap (nine_at p) (parallel-walk look l b p n m m₁ r₀.marks m₂ t₀ (walked_of q t) e (is ∙ f) (all look l) g);
    }
  where
    all : (look : List ℕ → Option Variable) (l : Bool) → walked_of q t ≡ walk_each look (idle p n) l (walked_of r₀ t₀)
    all look l = sym (none-idle look l p (walked_of q t)) ∙ ap (λ (k : ℕ). walk_each look (idle p k) l (walked_of q t)) (let d : 0 ≡ n - j = omega arith in d) ∙ was.walks look l
