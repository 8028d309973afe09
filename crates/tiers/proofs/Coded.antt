-- What the rows and the strengths in code say of their numbers.
-- Assumes nothing.
use mathlib.Core.Bool.{Bool, true, false, not as opposite}
use mathlib.Core.Path.{◌≡◌, refl, sym, ◌∙◌}
use Prim.Native.Nat.{ℕ, ◌<◌}
use native.Mathlib.Omega.{arith}
use lib.Dec.{eqb}
use borrow.Author.Tests.{eqb-true, eqb-false, not-true}
use Rattle.std.specs.Prelude.{Option as Optional, Some, None, is_none}
use Rattle.std.specs.Option.{option_eq}
use Rattle.tiers.specs.declared.PlainRow.{PlainRow}
use Rattle.tiers.specs.declared.PlainRow.TheVariants as plain
use Rattle.tiers.specs.declared.AroundRow.{AroundRow}
use Rattle.tiers.specs.declared.AroundRow.TheVariants as around
use Rattle.tiers.specs.declared.StatementRow.{StatementRow}
use Rattle.tiers.specs.declared.StatementRow.TheVariants as statements
use Rattle.tiers.specs.Choose.{strength_of, strength_number, plain_number, around_number, statement_number, is_plain}

-- ---- strengths

pub none_some : {n : ℕ} → ◌≡◌ {A = Optional ℕ} None (Some n) → ⊥
none_some e = let z : ◌≡◌ {A = ℕ} 0 1 = cc in omega arith

opposite-false : (b : Bool) → opposite b ≡ false → b ≡ true
opposite-false true e = refl
opposite-false false e = sym e

-- the test of code, that a word has another strength or none
abbrev pub apart : Optional ℕ → ℕ → Bool
apart r n = opposite (option_eq eqb r (Some n))

pub strength_is : (r : Optional ℕ) (k n : ℕ) → strength_number r ≡ strength_of k → apart r n ≡ false → strength_of k ≡ n
strength_is None k n e q = absurd (let z : ◌≡◌ {A = ℕ} 0 1 = cc in omega arith)
strength_is (Some m) k n e q = sym e ∙ eqb-true m n (opposite-false (eqb m n) q)

pub strength_not : (r : Optional ℕ) (k n : ℕ) → n < 6 → strength_number r ≡ strength_of k → apart r n ≡ true → ¬ (strength_of k ≡ n)
strength_not None k n h e q z = omega (arith, e, z)
strength_not (Some m) k n h e q z = eqb-false m n (not-true (eqb m n) q) (e ∙ z)

-- ---- rows of statements

pub plain_row : (p : PlainRow) → is_plain (plain_number p) ≡ true
unfolding is_plain
plain_row plain.Skip = refl
plain_row plain.Delay = refl
plain_row plain.Raise = refl
plain_row plain.Lower = refl
plain_row plain.Invert = refl
plain_row plain.Exit = refl
plain_row plain.Break = refl

pub around_row : (r : AroundRow) → (is_plain (around_number r) ≡ false) × ¬ (around_number r ≡ 5)
unfolding is_plain
around_row around.If = (refl, λ z. omega arith)
around_row around.While = (refl, λ z. omega arith)
around_row around.Loop = (refl, λ z. omega arith)
around_row around.Switch = (refl, λ z. omega arith)
around_row around.Parallel = (refl, λ z. omega arith)

low : (r : Optional StatementRow) → is_none r ≡ false → statement_number r < 13
low None e = absurd (let z : ◌≡◌ {A = ℕ} 0 1 = cc in omega arith)
low (Some (statements.Plain plain.Skip)) e = omega arith
low (Some (statements.Plain plain.Delay)) e = omega arith
low (Some (statements.Plain plain.Raise)) e = omega arith
low (Some (statements.Plain plain.Lower)) e = omega arith
low (Some (statements.Plain plain.Invert)) e = omega arith
low (Some (statements.Plain plain.Exit)) e = omega arith
low (Some (statements.Plain plain.Break)) e = omega arith
low (Some statements.Name) e = omega arith
low (Some (statements.Around around.If)) e = omega arith
low (Some (statements.Around around.While)) e = omega arith
low (Some (statements.Around around.Loop)) e = omega arith
low (Some (statements.Around around.Switch)) e = omega arith
low (Some (statements.Around around.Parallel)) e = omega arith

pub some_row : (r : Optional StatementRow) → is_none r ≡ false → ¬ (statement_number r ≡ 13)
some_row r e z = omega (arith, low r e, z)

pub no_row : (r : Optional StatementRow) → is_none r ≡ true → statement_number r ≡ 13
no_row None e = refl
no_row (Some x) e = absurd (let z : ◌≡◌ {A = ℕ} 0 1 = cc in omega arith)
