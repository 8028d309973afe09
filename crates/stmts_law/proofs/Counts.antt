-- Counts with a limit: the places past it, over lists one after the other.
-- Assumes nothing.
use mathlib.Core.Bool.{Bool, true, false, cond}
use mathlib.Core.Path.{◌≡◌, refl, sym, ◌∙◌, ap}
use mathlib.Core.List.{List, [], ◌∷◌, ◌++◌}
use Prim.Native.Nat.{ℕ, zero, suc, ◌+◌, ◌-◌, ◌≤◌, min}
use native.Mathlib.Omega.{arith}
use lib.Dec.{ltb}
use lib.ListN.{length, drop, length-append}
use borrow.Author.Tests.{ltb-true, ltb-false}
use Rattle.meaning.specs.Faults.{least}
use Rattle.expr_law.proofs.Least.{least-append}
use Rattle.stmts_law.proofs.Walks.{least-swap}

pub drop-nil : (r : ℕ) → drop {A = ℕ} r [] ≡ []
drop-nil zero = refl
drop-nil (suc r) = refl

pub drop-append : (r : ℕ) (a b : List ℕ) → drop r (a ++ b) ≡ drop r a ++ drop (r - length a) b
drop-append zero a b = let z : 0 - length a ≡ 0 = omega arith in rw z refl
drop-append (suc r) [] b = let z : suc r - 0 ≡ suc r = omega arith in rw z refl
drop-append (suc r) (x ∷ a) b = let z : suc r - length (x ∷ a) ≡ r - length a = omega arith in rw z (drop-append r a b)

abbrev three : ℕ → List ℕ → List ℕ → List ℕ → ℕ
three n a b c = least (least (least n a) b) c

three_is : (n : ℕ) (a b c : List ℕ) → least n (a ++ (b ++ c)) ≡ three n a b c
three_is n a b c = least-append n a (b ++ c) ∙ least-append (least n a) b c

six_lists : (n : ℕ) (a b c a₁ b₁ c₁ : List ℕ) → least (least n (a ++ (b ++ c))) (a₁ ++ (b₁ ++ c₁)) ≡ least n ((a ++ a₁) ++ ((b ++ b₁) ++ (c ++ c₁)))
six_lists n a b c a₁ b₁ c₁ =
    three_is (least n (a ++ (b ++ c))) a₁ b₁ c₁ ∙ ap (λ (k : ℕ). three k a₁ b₁ c₁) (three_is n a b c)
    ∙ ap (λ (k : ℕ). least (least k b₁) c₁) (least-swap (least (least n a) b) c a₁)
    ∙ ap (λ (k : ℕ). least (least (least k c) b₁) c₁) (least-swap (least n a) b a₁)
    ∙ ap (λ (k : ℕ). least k c₁) (least-swap (least (least (least n a) a₁) b) c b₁)
    ∙ sym (three_is n (a ++ a₁) (b ++ b₁) (c ++ c₁) ∙ least-append _ c c₁ ∙ ap (λ (k : ℕ). least (least k c) c₁) (least-append _ b b₁) ∙ ap (λ (k : ℕ). least (least (least (least k b) b₁) c) c₁) (least-append n a a₁))

-- from s statements and p parts on, with 9 at n, to s₁, p₁ and n₁: by the places a of statements, b of parts, c of other faults
pub record Counts (s p n s₁ p₁ n₁ : ℕ) (a b c : List ℕ) : Type 0 where
  pub few : p₁ ≤ 1024
  pub statements : 255 - s₁ ≡ 255 - s - length a
  pub parts : 1024 - p₁ ≡ 1024 - p - length b
  pub nine : n₁ ≡ least n (drop (255 - s) a ++ (drop (1024 - p) b ++ c))

less_both : (r x y : ℕ) (a b : List ℕ) → y ≡ x - length b → x ≡ r - length a → y ≡ r - length (a ++ b)
less_both r x y a b e f = let z = length-append a b in omega arith

pub both : {s p n s₁ p₁ n₁ s₂ p₂ n₂ : ℕ} {a b c a₁ b₁ c₁ : List ℕ} → Counts s p n s₁ p₁ n₁ a b c → Counts s₁ p₁ n₁ s₂ p₂ n₂ a₁ b₁ c₁ → Counts s p n s₂ p₂ n₂ (a ++ a₁) (b ++ b₁) (c ++ c₁)
both {s} {p} {n} {s₁} {p₁} {n₁} {s₂} {p₂} {n₂} {a} {b} {c} {a₁} {b₁} {c₁} x y =
    record {
      few = y.few;
      statements = less_both (255 - s) (255 - s₁) (255 - s₂) a a₁ y.statements x.statements;
      parts = less_both (1024 - p) (1024 - p₁) (1024 - p₂) b b₁ y.parts x.parts;
      nine = y.nine ∙ ap (λ (k : ℕ). least k (drop (255 - s₁) a₁ ++ (drop (1024 - p₁) b₁ ++ c₁))) x.nine
          ∙ ap (λ (k : ℕ). least (least n (drop (255 - s) a ++ (drop (1024 - p) b ++ c))) (drop k a₁ ++ (drop (1024 - p₁) b₁ ++ c₁))) x.statements
          ∙ ap (λ (k : ℕ). least (least n (drop (255 - s) a ++ (drop (1024 - p) b ++ c))) (drop (255 - s - length a) a₁ ++ (drop k b₁ ++ c₁))) x.parts
          ∙ six_lists n (drop (255 - s) a) (drop (1024 - p) b) c (drop (255 - s - length a) a₁) (drop (1024 - p - length b) b₁) c₁
          ∙ ap (λ (k : List ℕ). least n (k ++ ((drop (1024 - p) b ++ drop (1024 - p - length b) b₁) ++ (c ++ c₁)))) (sym (drop-append (255 - s) a a₁))
          ∙ ap (λ (k : List ℕ). least n (drop (255 - s) (a ++ a₁) ++ (k ++ (c ++ c₁)))) (sym (drop-append (1024 - p) b b₁));
    }

-- other faults in another order
pub turned : {s p n s₁ p₁ n₁ : ℕ} {a b : List ℕ} (c d : List ℕ) → Counts s p n s₁ p₁ n₁ a b (c ++ d) → Counts s p n s₁ p₁ n₁ a b (d ++ c)
turned {s} {p} {n} {s₁} {p₁} {n₁} {a} {b} c d x =
    record {
      few = x.few;
      statements = x.statements;
      parts = x.parts;
      nine = x.nine ∙ three_is n (drop (255 - s) a) (drop (1024 - p) b) (c ++ d) ∙ least-append _ c d ∙ least-swap _ c d ∙ sym (three_is n (drop (255 - s) a) (drop (1024 - p) b) (d ++ c) ∙ least-append _ d c);
    }

-- nothing but other faults
pub only : {s p n n₁ : ℕ} (c : List ℕ) → p ≤ 1024 → n₁ ≡ least n c → Counts s p n s p n₁ [] [] c
only {s} {p} {n} c h e =
    record { few = h; statements = omega arith; parts = omega arith; nine = e ∙ sym (ap (λ (k : List ℕ). least n (k ++ (drop (1024 - p) [] ++ c))) (drop-nil (255 - s)) ∙ ap (λ (k : List ℕ). least n (k ++ c)) (drop-nil (1024 - p))) }

-- one statement
pub step : (s p n q : ℕ) → p ≤ 1024 → Counts s p n (cond (ltb s 255) (s + 1) s) p (cond (ltb s 255) n (min n q)) (q ∷ []) [] []
unfolding least
step s p n q h = go (ltb s 255) refl
  where
    one : (r : ℕ) → 1 ≤ r → drop r (q ∷ []) ≡ []
    one zero e = absurd (omega arith)
    one (suc r) e = drop-nil r

    last : (x : List ℕ) → drop (255 - s) (q ∷ []) ≡ x → least n (drop (255 - s) (q ∷ []) ++ (drop (1024 - p) [] ++ [])) ≡ least n (x ++ [])
    last x e = ap (λ (k : List ℕ). least n (k ++ (drop (1024 - p) [] ++ []))) e ∙ ap (λ (k : List ℕ). least n (x ++ (k ++ []))) (drop-nil (1024 - p))

    go : (b : Bool) → ltb s 255 ≡ b → Counts s p n (cond b (s + 1) s) p (cond b n (min n q)) (q ∷ []) [] []
    go true e = let k = ltb-true s 255 e in record { few = h; statements = omega arith; parts = omega arith; nine = sym (last [] (one (255 - s) (omega arith))) }
    go false e = let k = ltb-false s 255 e in let z : 255 - s ≡ 0 = omega arith in record { few = h; statements = omega arith; parts = omega arith; nine = sym (last (q ∷ []) (rw z refl)) }
