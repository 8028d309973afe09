-- Which bytes stay, and which bytes two trees have in common.
-- Assumes nothing.
use mathlib.Core.Path.{◌≡◌, refl, ◌∙◌}
use mathlib.Core.List.{List}
use Prim.Native.Nat.{ℕ, ◌+◌, ◌*◌, ◌≤◌, ◌<◌}
use native.Mathlib.Omega.{arith}
use lib.ListN.{length, get_or}

-- from t to u nothing is written but nodes from i on and below j, and parts from a on and below b
pub record Grown (i j a b : ℕ) (t u : List ℕ) : Type 0 where
  pub long : length u ≡ length t
  pub low : (q : ℕ) → q < i * 16 → get_or u q 0 ≡ get_or t q 0
  pub middle : (q : ℕ) → j * 16 ≤ q → q < 8192 + a * 8 → get_or u q 0 ≡ get_or t q 0
  pub high : (q : ℕ) → 8192 + b * 8 ≤ q → get_or u q 0 ≡ get_or t q 0

pub stays : (i j a b : ℕ) (t : List ℕ) → Grown i j a b t t
stays i j a b t = record { long = refl; low = λ q h. refl; middle = λ q h k. refl; high = λ q h. refl }

pub both : {i j k a b c : ℕ} {t u v : List ℕ} → i ≤ j → j ≤ k → a ≤ b → b ≤ c → Grown i j a b t u → Grown j k b c u v → Grown i k a c t v
both x y z o f g =
    record {
      long = g.long ∙ f.long;
      low = λ q h. g.low q (omega arith) ∙ f.low q h;
      middle = λ q h k. g.middle q h (omega arith) ∙ f.middle q (omega arith) k;
      high = λ q h. g.high q h ∙ f.high q (omega arith);
    }

-- u has these nodes and parts as t has them
pub record Whole (u t : List ℕ) (i j a b : ℕ) : Type 0 where
  pub nodes : (q : ℕ) → i * 16 ≤ q → q < j * 16 → get_or u q 0 ≡ get_or t q 0
  pub parts : (q : ℕ) → 8192 + a * 8 ≤ q → q < 8192 + b * 8 → get_or u q 0 ≡ get_or t q 0

-- .. but for what the first node says of a branch that begins there
pub record Most (u t : List ℕ) (i j a b : ℕ) : Type 0 where
  pub nodes : (q : ℕ) → i * 16 ≤ q → q < j * 16 → ¬ (q ≡ i * 16 + 1) → ¬ (q ≡ i * 16 + 6) → ¬ (q ≡ i * 16 + 7) → get_or u q 0 ≡ get_or t q 0
  pub parts : (q : ℕ) → 8192 + a * 8 ≤ q → q < 8192 + b * 8 → get_or u q 0 ≡ get_or t q 0

module _ {u t : List ℕ} {i j a b : ℕ} where
  pub whole-most : Whole u t i j a b → Most u t i j a b
  whole-most w = record { nodes = λ q e f g o r. w.nodes q e f; parts = w.parts }

  pub whole-whole : (x y c d : ℕ) → Whole u t i j a b → i ≤ x → y ≤ j → a ≤ c → d ≤ b → Whole u t x y c d
  whole-whole x y c d w h k l m = record { nodes = λ q e f. w.nodes q (omega arith) (omega arith); parts = λ q e f. w.parts q (omega arith) (omega arith) }

  pub most-most : (y c d : ℕ) → Most u t i j a b → y ≤ j → a ≤ c → d ≤ b → Most u t i y c d
  most-most y c d w k l m = record { nodes = λ q e f g o r. w.nodes q e (omega arith) g o r; parts = λ q e f. w.parts q (omega arith) (omega arith) }

  -- behind the first node
  pub most-whole : (x y c d : ℕ) → Most u t i j a b → i < x → y ≤ j → a ≤ c → d ≤ b → Whole u t x y c d
  most-whole x y c d w h k l m =
      record {
        nodes = λ q e f. w.nodes q (omega arith) (omega arith) (λ z. omega arith) (λ z. omega arith) (λ z. omega arith);
        parts = λ q e f. w.parts q (omega arith) (omega arith);
      }

  -- what was written later lies behind
  pub whole_back : {t₁ : List ℕ} {x y c d : ℕ} → Whole u t i j a b → Grown x y c d t₁ t → y ≤ 512 → j ≤ x → b ≤ c → Whole u t₁ i j a b
  whole_back w g h k l = record { nodes = λ q e f. w.nodes q e f ∙ g.low q (omega arith); parts = λ q e f. w.parts q e f ∙ g.middle q (omega arith) (omega arith) }

  pub most-back : {t₁ : List ℕ} {x y c d : ℕ} → Most u t i j a b → Grown x y c d t₁ t → y ≤ 512 → j ≤ x → b ≤ c → Most u t₁ i j a b
  most-back w g h k l = record { nodes = λ q e f z o r. w.nodes q e f z o r ∙ g.low q (omega arith); parts = λ q e f. w.parts q e f ∙ g.middle q (omega arith) (omega arith) }
