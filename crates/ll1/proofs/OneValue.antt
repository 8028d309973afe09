-- Two derivations of one sentence are worth the same.
-- Assumes nothing.
use mathlib.Core.Path.{◌≡◌, refl, ◌∙◌, ap, ap₂, subst}
use mathlib.Core.List.{List, [], ◌∷◌, ◌++◌, cons≢nil}
use Prim.Native.Nat.{ℕ, zero, suc, ◌<◌}
use native.Mathlib.Nat.{le_of_suc-le-suc}
use native.Mathlib.Omega.{arith}
use lib.ListN.{length, get_or}
use Rattle.ll1.specs.Grammar.{Row, Grammar, row_at, Reads, stop, reads, rule, into, out}
use Rattle.ll1.specs.Values.{Values, Makes, make, front, back, nothing, values_of}
use Rattle.ll1.proofs.Tests.{Claims, Passes}
use Rattle.ll1.proofs.Forced.{Good, same-rule, good-rule}

module _ {K P : Type 0} (W : Type 0) (Val : P → Type 0) where
  same-nothing : (a : Row K P) (e f : a ≡ []) → nothing W Val a e ≡ nothing W Val a f
  unfolding nothing
  same-nothing [] e f = refl
  same-nothing (x ∷ a) e f = absurd (cons≢nil e)

  same-make : (A : Type 0) (rows : List (Row K P)) (i : ℕ) (h g : i < length rows) (m : Makes W Val A rows) (v : Values W Val (get_or rows i [])) → make W Val A rows i h m v ≡ make W Val A rows i g m v
  unfolding make
  same-make A [] i h g m v = absurd (omega arith)
  same-make A (r ∷ rows) zero h g m v = refl
  same-make A (r ∷ rows) (suc i) h g m v = same-make A rows i (le_of_suc-le-suc h) (le_of_suc-le-suc g) m.1 v

  module _ (C : Claims K P) (G : Grammar K P) (test : Passes C G) (makes : (n : P) → Makes W Val (Val n) (G n)) (words : ℕ → W) where
    pub one_value : (j l : ℕ) {k : ℕ} {a : Row K P} {w : List K} {d e : List ℕ} → Good C a → (x : Reads G j [] k a w d) (y : Reads G l [] k a w e) (m : ℕ)
        → values_of W Val G makes words j x m ≡ values_of W Val G makes words l y m
    unfolding values_of
    one_value j l {a = a} g (stop e f) (stop e₁ f₁) m = same-nothing a f f₁
    one_value j l g (stop e f) (rule i h x) m = absurd (cons≢nil f)
    one_value j l g (stop e f) (into x) m = absurd (cons≢nil f)
    one_value j l g (stop e f) (out x) m = absurd (cons≢nil f)
    one_value j l g (reads e x) (reads e₁ y) m = ap₂ (λ (v : W) u. (v, u)) refl (one_value j l g x y (suc m))
    one_value j l g (rule i h x) (stop e f) m = absurd (cons≢nil f)
    one_value j l g (rule {k = k} {n = n} {r = r} {w = w} {d = d} i h x) (rule {d = e} i₁ h₁ y) m =
        let same : i ≡ i₁ = same-rule C G test j l k n i i₁ r w d e g h h₁ x y in
        subst Same same (λ h₂ y₂. rule-same h₂ y₂ (one_value j l (good-rule C G test n i r h g) x y₂ m)) h₁ y
      where
        Same : ℕ → Type 0
        Same v = (h₂ : v < length (G n)) (y₂ : Reads G l [] k (row_at G n v ++ r) w e) → values_of W Val G makes words j (rule {n = n} {r = r} i h x) m ≡ values_of W Val G makes words l (rule {n = n} {r = r} v h₂ y₂) m

        rule-same : (h₂ : i < length (G n)) (y₂ : Reads G l [] k (row_at G n i ++ r) w e) → values_of W Val G makes words j x m ≡ values_of W Val G makes words l y₂ m
            → values_of W Val G makes words j (rule {n = n} {r = r} i h x) m ≡ values_of W Val G makes words l (rule {n = n} {r = r} i h₂ y₂) m
        rule-same h₂ y₂ q =
            let u : Values W Val (row_at G n i ++ r) = values_of W Val G makes words l y₂ m in
            ap {B = Val n × Values W Val r} (λ (v : Values W Val (row_at G n i ++ r)). (make W Val (Val n) (G n) i h (makes n) (front W Val (row_at G n i) r v), back W Val (row_at G n i) r v)) q
            ∙ ap {B = Val n × Values W Val r} (λ (v : Val n). (v, back W Val (row_at G n i) r u)) (same-make (Val n) (G n) i h h₂ (makes n) (front W Val (row_at G n i) r u))
    one_value j l g (into x) (stop e f) m = absurd (cons≢nil f)
    one_value j l g (into x) (into y) m = one_value j l g.1 x y m
    one_value j l g (out x) (stop e f) m = absurd (cons≢nil f)
    one_value j l g (out x) (out y) m = one_value j l g x y m
