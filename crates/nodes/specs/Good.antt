-- Statements that the clock can run: expressions that fit, bits of the word, delays in a byte, and the widths of branches and the inputs of expressions stored right.
-- Assumes nothing.
use Rattle.std.specs.Prelude.{◌≡◌, ℕ, ◌+◌, ◌<◌, ◌≤◌, true, false}
use Rattle.meaning.specs.Tree.{Expr, Stmt, skip, delay, change, assign, choice, while, loop, exit, break, switch, parallel, Stmts, end, ◌⨾◌, Cases, default, case, Branches, none, ◌∥◌}
use Rattle.meaning.specs.Numbers.{Variable, input, boolean, integer}
use Rattle.meaning.specs.Tries.{bit_at}
use Rattle.meaning.specs.Clock.{head_of, activities_all}
use Rattle.nodes.specs.Looks.{looks}
use Rattle.nodes.specs.Fit.{is_whole, size_of, Fit}

abbrev pub GoodTest : Expr Variable → Type 0
GoodTest e = (is_whole e ≡ false) × Fit e

abbrev pub GoodAssign : Variable → Expr Variable → Type 0
GoodAssign (input i) e = ⊥
GoodAssign (boolean j) e = ⊥
GoodAssign (integer low width) e = (low + width ≤ 32) × ((width ≤ 16) × ((1 ≤ width) × ((size_of e < 2147483648) × ((is_whole e ≡ true) × Fit e))))

abbrev pub first_number : Stmts Variable → ℕ
first_number end = 0
first_number (s ⨾ ss) = (head_of s).number

-- w: the width that is stored with the first statement of a branch; l: the inputs that are stored with a statement's or a case's expression
unfoldable mutual
  pub Good : (ℕ → ℕ) → (ℕ → ℕ) → Stmt Variable → Type 0
  Good w l (skip h) = Unit {0}
  Good w l (delay h p n) = n ≤ 255
  Good w l (change h c t) = bit_at t < 32
  Good w l (assign h v e) = GoodAssign v e × (l h.number ≡ looks e)
  Good w l (choice h e a b) = GoodTest e × ((l h.number ≡ looks e) × (GoodAll w l a × GoodAll w l b))
  Good w l (while h e b) = GoodTest e × ((l h.number ≡ looks e) × GoodAll w l b)
  Good w l (loop h b) = GoodAll w l b
  Good w l (exit h) = Unit {0}
  Good w l (break h) = Unit {0}
  Good w l (switch h cs) = GoodCases w l cs
  Good w l (parallel h bs) = GoodEach w l bs

  pub GoodAll : (ℕ → ℕ) → (ℕ → ℕ) → Stmts Variable → Type 0
  GoodAll w l end = Unit {0}
  GoodAll w l (s ⨾ ss) = Good w l s × GoodAll w l ss

  pub GoodCases : (ℕ → ℕ) → (ℕ → ℕ) → Cases Variable → Type 0
  GoodCases w l (default d) = GoodAll w l d
  GoodCases w l (case h e b cs) = GoodTest e × ((l h.number ≡ looks e) × (GoodAll w l b × GoodCases w l cs))

  pub GoodEach : (ℕ → ℕ) → (ℕ → ℕ) → Branches Variable → Type 0
  GoodEach w l none = Unit {0}
  GoodEach w l (b ∥ bs) = (w (first_number b) ≡ activities_all b) × (GoodAll w l b × GoodEach w l bs)
