-- Which row of a statement, a list, cases, branches or an index is called for: by computation over the kinds of words.
-- Assumes nothing.
use mathlib.Core.Bool.{false, cond}
use mathlib.Core.Path.{◌≡◌, refl, sym, subst}
use mathlib.Core.List.{List}
use Prim.Native.Nat.{ℕ, zero, suc}
use native.Mathlib.Omega.{arith}
use lib.Dec.{eqb}
use borrow.Author.Tests.{ne_eqb, eq-eqb}
use Rattle.ll1.proofs.Tests.{has, begin_row, pick}
use Rattle.ll1.proofs.Sets.{clash}
use Rattle.meaning.specs.Unexpanded.{Command}
use Rattle.language.specs.Words.{Word, signs, reserved}
use Rattle.language.specs.Grammar.{Part, AfterStatement, NextStatement, Statement, Else, Cases, Branches, Index, AfterName, binding, csml}
use Rattle.language.proofs.Claims.{claims, first, empty, follow}
use Rattle.words.specs.Kinds.{numbered, spellings}
use Rattle.descent_law.specs.Told.{Told, Called}
use Rattle.descent_law.specs.Rows.{StatementRow}
use Rattle.descent_law.proofs.Statements.{statement-told}
use Rattle.hand.specs.declared.Here.{Here}
use Rattle.hand.specs.Along.{Stands}
use Rattle.hand.proofs.Chosen.{up_to, agrees, Decides, called-row}
use Rattle.tiers.specs.Choose.{statement_row, is_plain}

all-statements : Decides Statement statement_row
unfolding has begin_row pick csml binding claims first empty follow agrees up_to numbered spellings signs reserved statement_row
all-statements = refl

-- a row that one kind of word calls for, and every other kind for row 0
abbrev pub only_at : ℕ → ℕ → ℕ
only_at n k = cond (eqb k n) 1 0

abbrev pub next_row : ℕ → ℕ
next_row k = cond (eqb (statement_row k) 13) 0 1

pub after_only : Decides AfterStatement (only_at 12)
unfolding has begin_row pick csml binding claims first empty follow agrees up_to numbered spellings signs reserved
after_only = refl

pub else_only : Decides Else (only_at 42)
unfolding has begin_row pick csml binding claims first empty follow agrees up_to numbered spellings signs reserved
else_only = refl

pub cases_only : Decides Cases (only_at 50)
unfolding has begin_row pick csml binding claims first empty follow agrees up_to numbered spellings signs reserved
cases_only = refl

pub branches_only : Decides Branches (only_at 2)
unfolding has begin_row pick csml binding claims first empty follow agrees up_to numbered spellings signs reserved
branches_only = refl

pub index_only : Decides Index (only_at 16)
unfolding has begin_row pick csml binding claims first empty follow agrees up_to numbered spellings signs reserved
index_only = refl

pub call_only : Decides AfterName (only_at 14)
unfolding has begin_row pick csml binding claims first empty follow agrees up_to numbered spellings signs reserved
call_only = refl

all-next : Decides NextStatement next_row
unfolding has begin_row pick csml binding claims first empty follow agrees up_to numbered spellings signs reserved statement_row
all-next = refl

-- the word is there, or it is not
module _ (n : Part) (k : ℕ) (only : Decides n (only_at k)) (s : List ℕ) (h : Here) (ws : List Word) (i : ℕ) (st : Stands s h ws) (p : Called n ws i) where
  pub one_there : h.kind ≡ k → i ≡ 1
  one_there q = sym (rw (eq-eqb h.kind k q) at (called-row s n (only_at k) only h ws i st p))

  pub none_there : ¬ (h.kind ≡ k) → i ≡ 0
  none_there q = sym (rw (ne_eqb h.kind k q) at (called-row s n (only_at k) only h ws i st p))

module _ (s : List ℕ) (h : Here) (ws : List Word) (i : ℕ) (st : Stands s h ws) (p : Called NextStatement ws i) where
  pub next_one : ¬ (statement_row h.kind ≡ 13) → i ≡ 1
  next_one q = sym (rw (ne_eqb (statement_row h.kind) 13 q) at (called-row s NextStatement next_row all-next h ws i st p))

  pub next-none : statement_row h.kind ≡ 13 → i ≡ 0
  next-none q = sym (rw q at (called-row s NextStatement next_row all-next h ws i st p))

pub row_told : (s : List ℕ) (k : ℕ) (h : Here) (ws : List Word) (f : ℕ) (v : Command) (rest : List Word) → Stands s h ws → Told f Statement k ws v rest → (e : ℕ) × StatementRow e k ws v rest (statement_row h.kind)
row_told s k h ws f v rest st x =
    let (e, i, p, row) = statement-told f k ws v rest x in
    (e, subst (StatementRow e k ws v rest) (sym (called-row s Statement statement_row all-statements h ws i st p)) row)

-- with no level left there is none with statements inside
pub row-none : {A : Type 0} (f k : ℕ) (ws : List Word) (v : Command) (rest : List Word) (i : ℕ) → k ≡ 0 → is_plain i ≡ false → ¬ (i ≡ 5) → StatementRow f k ws v rest i → A
unfolding is_plain
row-none f k ws v rest zero z p o x = clash p
row-none f k ws v rest (suc zero) z p o x = clash p
row-none f k ws v rest (suc (suc zero)) z p o x = clash p
row-none f k ws v rest (suc (suc (suc zero))) z p o x = clash p
row-none f k ws v rest (suc (suc (suc (suc zero)))) z p o x = clash p
row-none f k ws v rest (suc (suc (suc (suc (suc zero))))) z p o x = absurd (o refl)
row-none f k ws v rest (suc (suc (suc (suc (suc (suc zero)))))) z p o (x, c, y, j, tail, mid, low, ex, aa, bb, q, lev, te, ta, tb, d) = absurd (omega (arith, lev, z))
row-none f k ws v rest (suc (suc (suc (suc (suc (suc (suc zero))))))) z p o (x, c, y, w, j, tail, mid, ex, bb, q, lev, te, tb, d) = absurd (omega (arith, lev, z))
row-none f k ws v rest (suc (suc (suc (suc (suc (suc (suc (suc zero)))))))) z p o (x, c, j, tail, body, q, lev, y, d) = absurd (omega (arith, lev, z))
row-none f k ws v rest (suc (suc (suc (suc (suc (suc (suc (suc (suc zero))))))))) z p o x = clash p
row-none f k ws v rest (suc (suc (suc (suc (suc (suc (suc (suc (suc (suc zero)))))))))) z p o (x, c, x₁, x₂, x₃, x₄, j, tail, m₁, m₂, m₃, ex, bb, g, y, q, lev, te, ta, tb, tc, d) = absurd (omega (arith, lev, z))
row-none f k ws v rest (suc (suc (suc (suc (suc (suc (suc (suc (suc (suc (suc zero))))))))))) z p o x = clash p
row-none f k ws v rest (suc (suc (suc (suc (suc (suc (suc (suc (suc (suc (suc (suc zero)))))))))))) z p o (x, c, y, j, tail, m₁, m₂, aa, bb, cc₁, q, lev, te, ta, tb, d) = absurd (omega (arith, lev, z))
row-none f k ws v rest (suc (suc (suc (suc (suc (suc (suc (suc (suc (suc (suc (suc (suc i))))))))))))) z p o x = absurd x
