-- No word of a statement list or of formals is `endproc`: the words of a procedure have it first at their end.
-- Assumes nothing.
use mathlib.Core.Bool.{Bool, true, false, cond, ◌&&◌, not as opposite}
use mathlib.Core.Path.{◌≡◌, refl, sym, ◌∙◌, ap, subst}
use mathlib.Core.List.{List, [], ◌∷◌, ◌++◌, append_assoc, cons≢nil}
use Prim.Native.Nat.{ℕ, zero, suc, ◌+◌, ◌*◌, ◌≤◌, ◌<◌}
use native.Mathlib.Omega.{arith}
use lib.Dec.{eqb, leb}
use lib.ListN.{length, length-append, get_or, drop}
use borrow.Author.Tests.{leb-true}
use Rattle.ll1.specs.Grammar.{word, part, In, Out, Row, Grammar, row_at}
use Rattle.ll1.specs.Values.{Values, Makes, make}
use Rattle.ll1.proofs.Tests.{Claims}
use Rattle.ll1.proofs.Sets.{clash, and_left, and_right}
use Rattle.meaning.specs.Unexpanded as unexpanded
use Rattle.meaning.specs.Unexpanded.{Commands}
use Rattle.language.specs.Words.{Kind, name, the, Word, bytes, signs, reserved, same}
use Rattle.language.specs.Grammar.{Part, Program, Declarations, Declaration, Inputs, MoreInputs, Ending, Booleans, MoreBooleans, BooleanStart, BooleanValue, Integers, MoreIntegers, IntegerStart, Statements, AfterStatement, NextStatement, Statement, Else, Cases, Branches, Target, Index, Procedure, Formals, FormalNames, MoreFormals, AfterProcedure, AfterName, Actuals, MoreActuals, Tier, Further, binding, csml}
use Rattle.language.specs.Trees.{Name, name_at, Val, makes}
use Rattle.language.proofs.Claims.{claims}
use Rattle.language.proofs.EveryPart.{every-part}
use Rattle.words.specs.Kinds.{spellings}
use Rattle.words.proofs.Only.{number_of}
use Rattle.descent_law.specs.Gives.{Giving, RowGives, Gives}
use Rattle.descent_law.specs.Told.{kind_of, Told}
use Rattle.descent_law.specs.Declarations.{FormalNamesRow, MoreFormalsRow}
use Rattle.descent_law.proofs.Statements as rows
use Rattle.descent_law.proofs.Statements.{by_rows}
use Rattle.descent_law.proofs.Declarations.{formals-told, formal-names-told, more-formals-told}
use Rattle.decls.specs.Came.{Quiet}

abbrev Text : Type 0
Text = List Word

-- ---- of any grammar: parts whose rows have quiet words and such parts alone, and how many words each has at least

module _ {K P : Type 0} (W : Type 0) (Val : P → Type 0) (kind : W → K) (quiet : K → Bool) (inside : P → Bool) (least : P → ℕ) where
  unfoldable row_fine : Row K P → Bool
  row_fine [] = true
  row_fine (word t ∷ r) = quiet t && row_fine r
  row_fine (part n ∷ r) = inside n && row_fine r
  row_fine (In ∷ r) = row_fine r
  row_fine (Out ∷ r) = row_fine r

  unfoldable row_least : Row K P → ℕ
  row_least [] = 0
  row_least (word t ∷ r) = suc (row_least r)
  row_least (part n ∷ r) = least n + row_least r
  row_least (In ∷ r) = row_least r
  row_least (Out ∷ r) = row_least r

  abbrev Silent : List W → Type 0
  Silent [] = Unit
  Silent (w ∷ ws) = (quiet (kind w) ≡ true) × Silent ws

  abbrev Spent : ℕ → List W → List W → Type 0
  Spent m ws rest = (pre : List W) × (ws ≡ pre ++ rest) × Silent pre × (m ≤ length pre)

  silent_append : (a b : List W) → Silent a → Silent b → Silent (a ++ b)
  silent_append [] b x y = y
  silent_append (w ∷ a) b (q, x) y = (q, silent_append a b x y)

  row_spent : (R : Giving W Val kind) → ((n : P) (k : ℕ) (ws : List W) (v : Val n) (rest : List W) → inside n ≡ true → R n k ws v rest → Spent (least n) ws rest)
      → (a : Row K P) (k : ℕ) (ws : List W) (vs : Values W Val a) (rest : List W) → row_fine a ≡ true → RowGives W Val kind R a k ws vs rest → Spent (row_least a) ws rest
  unfolding row_fine row_least
  row_spent R f [] k ws vs rest t x = ([], x, tt, omega arith)
  row_spent R f (word c ∷ r) k ws vs rest t (tail, e, q, x) =
      let (pre, p, s, m) = row_spent R f r k tail vs.1 rest (and_right (quiet c) (row_fine r) t) x in
      (vs.0 ∷ pre, e ∙ ap (λ (l : List W). vs.0 ∷ l) p, (ap quiet q ∙ and_left (quiet c) (row_fine r) t, s), omega (arith, m))
  row_spent R f (part n ∷ r) k ws vs rest t (mid, y, x) =
      let (pre, p, s, m) = f n k ws vs.0 mid (and_left (inside n) (row_fine r) t) y in
      let (on, p₁, s₁, m₁) = row_spent R f r k mid vs.1 rest (and_right (inside n) (row_fine r) t) x in
      (pre ++ on, p ∙ ap (λ (l : List W). pre ++ l) p₁ ∙ sym (append_assoc pre on rest), silent_append pre on s s₁, omega (arith, m, m₁, length-append pre on))
  row_spent R f (In ∷ r) k ws vs rest t (m, q, x) = row_spent R f r m ws vs rest t x
  row_spent R f (Out ∷ r) k ws vs rest t x = row_spent R f r (suc k) ws vs rest t x

  unfoldable rows_fine : ℕ → List (Row K P) → Bool
  rows_fine m [] = true
  rows_fine m (r ∷ rs) = (row_fine r && leb m (row_least r)) && rows_fine m rs

  row_fine_lem : (m : ℕ) (rs : List (Row K P)) (i : ℕ) → i < length rs → rows_fine m rs ≡ true → (row_fine (get_or rs i []) ≡ true) × (m ≤ row_least (get_or rs i []))
  unfolding rows_fine
  row_fine_lem m [] i h t = absurd (omega arith)
  row_fine_lem m (r ∷ rs) zero h t =
      let q = and_left (row_fine r && leb m (row_least r)) (rows_fine m rs) t in
      (and_left (row_fine r) (leb m (row_least r)) q, leb-true m (row_least r) (and_right (row_fine r) (leb m (row_least r)) q))
  row_fine_lem m (r ∷ rs) (suc i) h t = row_fine_lem m rs i (omega arith) (and_right (row_fine r && leb m (row_least r)) (rows_fine m rs) t)

  module _ (C : Claims K P) (G : Grammar K P) (makes : (n : P) → Makes W Val (Val n) (G n)) (test : (n : P) → inside n ≡ true → rows_fine (least n) (G n) ≡ true) where
    spent : (f : ℕ) (n : P) (k : ℕ) (ws : List W) (v : Val n) (rest : List W) → inside n ≡ true → Gives W Val kind C G makes f n k ws v rest → Spent (least n) ws rest
    unfolding Gives
    spent zero n k ws v rest t x = absurd x
    spent (suc f) n k ws v rest t (i, h, p, vs, e, x) =
        let (a, b) = row_fine_lem (least n) (G n) i h (test n t) in
        let (pre, q, s, m) = row_spent (Gives W Val kind C G makes f) (spent f) (row_at G n i) k ws vs rest a x in
        (pre, q, s, omega (arith, b, m))

-- ---- of this one

abbrev quiet_kind : Kind → Bool
quiet_kind k = opposite (eqb (number_of k) 57)

-- all but the parts that hold procedures
unfoldable within : Part → Bool
within Program = false
within Declarations = false
within Declaration = true
within Inputs = true
within MoreInputs = true
within Ending = true
within Booleans = true
within MoreBooleans = true
within BooleanStart = true
within BooleanValue = true
within Integers = true
within MoreIntegers = true
within IntegerStart = true
within Statements = true
within AfterStatement = true
within NextStatement = true
within Statement = true
within Else = true
within Cases = true
within Branches = true
within Target = true
within Index = true
within Procedure = false
within Formals = true
within FormalNames = true
within MoreFormals = true
within AfterProcedure = true
within AfterName = true
within Actuals = true
within MoreActuals = true
within (Tier n) = true
within (Further n) = true

-- a statement has a word
unfoldable least_of : Part → ℕ
least_of Program = 0
least_of Declarations = 0
least_of Declaration = 0
least_of Inputs = 0
least_of MoreInputs = 0
least_of Ending = 0
least_of Booleans = 0
least_of MoreBooleans = 0
least_of BooleanStart = 0
least_of BooleanValue = 0
least_of Integers = 0
least_of MoreIntegers = 0
least_of IntegerStart = 0
least_of Statements = 1
least_of AfterStatement = 0
least_of NextStatement = 0
least_of Statement = 1
least_of Else = 0
least_of Cases = 0
least_of Branches = 0
least_of Target = 0
least_of Index = 0
least_of Procedure = 0
least_of Formals = 0
least_of FormalNames = 0
least_of MoreFormals = 0
least_of AfterProcedure = 0
least_of AfterName = 0
least_of Actuals = 0
least_of MoreActuals = 0
least_of (Tier n) = 0
least_of (Further n) = 0

abbrev Fine : Part → Bool
Fine m = cond (within m) (rows_fine Word Val kind_of quiet_kind within least_of (least_of m) (csml m)) true

all-fine : (n : Part) → Fine n ≡ true
unfolding rows_fine row_fine row_least within least_of csml binding number_of spellings signs reserved bytes same
all-fine n = every-part Fine refl (λ i. refl) (λ i. refl) n

fine : (n : Part) → within n ≡ true → rows_fine Word Val kind_of quiet_kind within least_of (least_of n) (csml n) ≡ true
fine n t = rw t at (all-fine n)

loud : (k : Kind) → quiet_kind k ≡ true → ¬ (number_of k ≡ 57)
loud k t e = clash (sym t ∙ ap (λ (n : ℕ). opposite (eqb n 57)) e)

to_quiet : (ws : Text) → Silent Word Val kind_of quiet_kind within least_of ws → Quiet ws
to_quiet [] x = tt
to_quiet (w ∷ ws) (q, x) = (loud w.kind q, to_quiet ws x)

silent : (f : ℕ) (n : Part) (k : ℕ) (ws : Text) (v : Val n) (rest : Text) → within n ≡ true → Told f n k ws v rest → (pre : Text) × (ws ≡ pre ++ rest) × Quiet pre × (least_of n ≤ length pre)
silent f n k ws v rest t x =
    let (pre, e, q, m) = spent Word Val kind_of quiet_kind within least_of claims csml makes fine f n k ws v rest t x in
    (pre, e, to_quiet pre q, m)

quiet_append : (a b : Text) → Quiet a → Quiet b → Quiet (a ++ b)
quiet_append [] b x y = y
quiet_append (w ∷ a) b (q, x) y = (q, quiet_append a b x y)

-- ---- how many words the formals have

more-long : (ns : List Name) (f k : ℕ) (ws rest : Text) → Told f MoreFormals k ws ns rest → length rest + length ns * 2 ≤ length ws
more-long [] f k ws rest x = let (g, i, p, row) = more-formals-told f k ws [] rest x in go g i row
  where
    go : (g i : ℕ) → MoreFormalsRow g k ws [] rest i → length rest + 0 ≤ length ws
    go g zero (e, q) = omega (arith, ap length q)
    go g (suc i) (c, w, tail, on, e, kd, y, v) = absurd (cons≢nil (sym v))
more-long (n ∷ ns) f k ws rest x = let (g, i, p, row) = more-formals-told f k ws (n ∷ ns) rest x in go (more-long ns) g i row
  where
    go : ((f k : ℕ) (ws rest : Text) → Told f MoreFormals k ws ns rest → length rest + length ns * 2 ≤ length ws) → (g i : ℕ) → MoreFormalsRow g k ws (n ∷ ns) rest i → length rest + suc (length ns) * 2 ≤ length ws
    go f g zero (e, q) = absurd (cons≢nil e)
    go f g (suc i) (c, w, tail, on, e, kd, y, v) =
        let q : on ≡ ns = sym (ap (drop 1) v) in
        let m = f g k tail rest (subst (λ (l : List Name). Told g MoreFormals k tail l rest) q y) in
        omega (arith, m, ap length e)

names-long : (ns : List Name) (f k : ℕ) (ws rest : Text) → Told f FormalNames k ws ns rest → length rest + length ns * 2 ≤ length ws + 1
names-long ns f k ws rest x = let (g, i, p, row) = formal-names-told f k ws ns rest x in go g i row
  where
    go : (g i : ℕ) → FormalNamesRow g k ws ns rest i → length rest + length ns * 2 ≤ length ws + 1
    go g zero (e, q) = omega (arith, ap length q, ap length e)
    go g (suc i) (w, tail, on, e, kd, y, v) = omega (arith, more-long on g k tail rest y, ap length e, ap length v)

formals-long : (f k : ℕ) (ws : Text) (ns : List Name) (rest : Text) → Told f Formals k ws ns rest → length rest + length ns * 2 + 1 ≤ length ws
formals-long f k ws ns rest x =
    let (g, i, p, row) = formals-told f k ws ns rest x in let (o, c, m, tail, e, q, y) = row in
    omega (arith, names-long ns g m tail (c ∷ rest) y, ap length e)

-- ---- the words of a procedure

abbrev ProcedureEnds : ℕ → ℕ → Text → unexpanded.Procedure → Text → Type 0
ProcedureEnds f k ws v rest =
    (n : Word) × (x : Word) × (tail : Text) × (mid : Text) × (fs : List Name) × (b : Commands)
    × (ws ≡ n ∷ tail) × (n.kind ≡ name) × Told f Formals k tail fs mid × Told f Statements k mid b (x ∷ rest) × (number_of x.kind ≡ 57) × (v ≡ record { name = name_at n; formals = fs; body = b })

end-number : number_of (the "endproc") ≡ 57
unfolding number_of spellings signs reserved bytes same
end-number = refl

procedure-ends : rows.Row Procedure (λ f k ws v rest i. ProcedureEnds f k ws v rest)
unfolding make csml makes
procedure-ends f k ws v rest zero h vs e (tail, a, b, (m₁, y₁, (m₂, y₂, (t₃, a₃, b₃, z)))) = (vs.0, vs.1.1.1.0, tail, m₁, vs.1.0, vs.1.1.0, a, b, y₁, rw (a₃, z) at y₂, ap number_of b₃ ∙ end-number, e)
procedure-ends f k ws v rest (suc i) h vs e x = absurd (omega arith)

-- a name, then words that are not `endproc`, two for each formal and two more at least, then `endproc`
pub record Whole (k : ℕ) (ws : Text) (v : unexpanded.Procedure) (rest : Text) : Type 0 where
  pub first : Word
  pub close : Word
  pub pre : Text
  pub named : first.kind ≡ name
  pub name : v.name ≡ name_at first
  pub all : ws ≡ first ∷ (pre ++ (close ∷ rest))
  pub quiet : Quiet pre
  pub ends : number_of close.kind ≡ 57
  pub formals : (f : ℕ) × (mid : Text) × Told f Formals k (pre ++ (close ∷ rest)) v.formals mid
  pub long : length v.formals * 2 + 2 ≤ length pre

pub procedure-whole : (f k : ℕ) (ws : Text) (v : unexpanded.Procedure) (rest : Text) → Told f Procedure k ws v rest → Whole k ws v rest
unfolding within least_of
procedure-whole f k ws v rest x =
    let (g, i, p, row) = by_rows Procedure (λ f k ws v rest i. ProcedureEnds f k ws v rest) procedure-ends f k ws v rest x in
    let (n, c, tail, mid, fs, b, e, kd, y, z, q, all) = row in
    let (a, e₁, q₁, m₁) = silent g Formals k tail fs mid refl y in
    let (d, e₂, q₂, m₂) = silent g Statements k mid b (c ∷ rest) refl z in
    let t : tail ≡ a ++ d ++ (c ∷ rest) = e₁ ∙ ap (λ (l : Text). a ++ l) e₂ ∙ sym (append_assoc a d (c ∷ rest)) in
    let fm : v.formals ≡ fs = ap (λ (w : unexpanded.Procedure). w.formals) all in
    record {
      first = n;
      close = c;
      pre = a ++ d;
      named = kd;
      name = ap (λ (w : unexpanded.Procedure). w.name) all;
      all = e ∙ ap (λ (l : Text). n ∷ l) t;
      quiet = quiet_append a d q₁ q₂;
      ends = q;
      formals = (g, mid, subst (λ (l : List Name). Told g Formals k (a ++ d ++ (c ∷ rest)) l mid) (sym fm) (subst (λ (l : Text). Told g Formals k l fs mid) t y));
      long = omega (arith, formals-long g k tail fs mid y, ap length fm, ap length e₁, length-append a mid, length-append a d, m₂);
    }
