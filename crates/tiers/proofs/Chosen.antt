-- Which row of an expression is called for: by computation over the kinds of words.
-- Assumes nothing.
use mathlib.Core.Bool.{Bool, true, not as opposite}
use mathlib.Core.Path.{◌≡◌, refl, sym, ◌∙◌, ap}
use mathlib.Core.List.{List, [], ◌∷◌}
use mathlib.Core.Option.{Option, none, some}
use Prim.Native.Nat.{ℕ, zero, suc, ◌≤◌, ◌<◌}
use Prim.Native.String.{String}
use native.Mathlib.Omega.{arith}
use lib.Dec.{eqb, ltb}
use lib.ListN.{length, get_or, get_elem?, get_or-eq_default}
use borrow.Author.Tests.{eqb-true, eqb-false, ltb-true, not-true}
use Rattle.ll1.proofs.Tests.{has, begin_row, pick}
use Rattle.ll1.proofs.Sets.{clash}
use Rattle.language.specs.Words.{Kind, the, signs, reserved}
use Rattle.language.specs.Grammar.{Tier, Further, Strength, between, before, binding, csml}
use Rattle.language.proofs.EveryPart.{past}
use Rattle.language.proofs.Claims.{claims, first, empty, follow, same_kind, same_true, same_self}
use Rattle.words.specs.Kinds.{numbered, spellings, kind_count}
use Rattle.hand.proofs.Chosen.{up_to, up_to_lem, agrees, Pick, Decides}
use Rattle.tiers.specs.Choose.{operand_row, strength_of}
use Rattle.tiers.specs.Strengths.{strengths}

-- ---- operands

past_operands : (n : ℕ) → Decides (Tier (past n)) operand_row
unfolding has begin_row pick csml binding claims first empty follow agrees up_to numbered spellings signs reserved operand_row
past_operands n = refl

pub operand_rows : (n : ℕ) → 6 ≤ n → Decides (Tier n) operand_row
operand_rows zero h = absurd (omega arith)
operand_rows (suc zero) h = absurd (omega arith)
operand_rows (suc (suc zero)) h = absurd (omega arith)
operand_rows (suc (suc (suc zero))) h = absurd (omega arith)
operand_rows (suc (suc (suc (suc zero)))) h = absurd (omega arith)
operand_rows (suc (suc (suc (suc (suc zero))))) h = absurd (omega arith)
operand_rows (suc (suc (suc (suc (suc (suc n)))))) h = past_operands n

-- ---- operators between operands

settles : Option ℕ → Bool → Bool
settles none b = true
settles (some zero) b = opposite b
settles (some (suc c)) b = b

all-further : up_to (λ n. up_to (λ k. settles (Pick (Further n) k) (eqb (strength_of k) n)) kind_count) 6 ≡ true
unfolding has begin_row pick csml binding claims first empty follow settles up_to numbered spellings signs reserved strength_of
all-further = refl

further-test : (n k : ℕ) → n < 6 → k < kind_count → settles (Pick (Further n) k) (eqb (strength_of k) n) ≡ true
further-test n k h g =
    up_to_lem (λ k. settles (Pick (Further n) k) (eqb (strength_of k) n)) kind_count k
    (up_to_lem (λ n. up_to (λ k. settles (Pick (Further n) k) (eqb (strength_of k) n)) kind_count) 6 n all-further h) g

pub further-ends : (n k : ℕ) → n < 6 → k < kind_count → Pick (Further n) k ≡ some 0 → ¬ (strength_of k ≡ n)
unfolding settles
further-ends n k h g e = eqb-false (strength_of k) n (not-true (eqb (strength_of k) n) (rw e at (further-test n k h g)))

pub further_on : (n k c : ℕ) → n < 6 → k < kind_count → Pick (Further n) k ≡ some (suc c) → strength_of k ≡ n
unfolding settles
further_on n k c h g e = eqb-true (strength_of k) n (rw e at (further-test n k h g))

-- ---- an operator before its operand

unfoldable pub before_test : Option Strength → Option ℕ → Kind → Bool
before_test none o k = true
before_test (some (between ops)) o k = true
before_test (some (before op)) none k = true
before_test (some (before op)) (some zero) k = same_kind k (the op)
before_test (some (before op)) (some (suc c)) k = opposite (same_kind k (the op))

all-before : up_to (λ n. up_to (λ k. before_test (get_elem? binding n) (Pick (Tier n) k) (numbered k)) kind_count) 6 ≡ true
unfolding has begin_row pick csml binding claims first empty follow before_test up_to numbered spellings signs reserved
all-before = refl

pub before-test : (n k : ℕ) → n < 6 → k < kind_count → before_test (get_elem? binding n) (Pick (Tier n) k) (numbered k) ≡ true
before-test n k h g =
    up_to_lem (λ k. before_test (get_elem? binding n) (Pick (Tier n) k) (numbered k)) kind_count k
    (up_to_lem (λ n. up_to (λ k. before_test (get_elem? binding n) (Pick (Tier n) k) (numbered k)) kind_count) 6 n all-before h) g

pub before_here : (n k : ℕ) (op : String) → n < 6 → k < kind_count → get_elem? binding n ≡ some (before op) → Pick (Tier n) k ≡ some 0 → numbered k ≡ the op
unfolding before_test
before_here n k op h g e q = same_true (numbered k) (the op) (rw (e, q) at (before-test n k h g))

pub before_not : (n k c : ℕ) (op : String) → n < 6 → k < kind_count → get_elem? binding n ≡ some (before op) → Pick (Tier n) k ≡ some (suc c) → ¬ (numbered k ≡ the op)
unfolding before_test
before_not n k c op h g e q r = clash (sym (ap (λ (x : Kind). same_kind x (the op)) r ∙ same_self (the op)) ∙ not-true (same_kind (numbered k) (the op)) (rw (e, q) at (before-test n k h g)))

-- the operators are among the first kinds
pub strength_past : (k : ℕ) → 25 < k → strength_of k ≡ 255
unfolding strength_of
strength_past k h = get_or-eq_default strengths 255 {n = k} (omega arith)

-- an entry of a table is the same whatever is read past its end
any-default : (l : List ℕ) (k d e : ℕ) → k < length l → get_or l k d ≡ get_or l k e
any-default [] k d e h = absurd (omega arith)
any-default (x ∷ l) zero d e h = refl
any-default (x ∷ l) (suc k) d e h = any-default l k d e (omega arith)

-- so the table in code says the strengths
pub strength_listed : (i k d t : ℕ) → true ≡ ltb i 26 → i ≡ k → t ≡ get_or strengths i d → t ≡ strength_of k
unfolding strength_of
strength_listed i k d t h e q = q ∙ any-default strengths i d 255 (ltb-true i 26 (sym h)) ∙ ap (λ (n : ℕ). get_or strengths n 255) e
