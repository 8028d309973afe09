-- Over the words of a body the walk comes to the activities that it can have: row by row of the grammar, so for every derivation.
-- Assumes nothing.
use mathlib.Core.Bool.{Bool, true, false}
use mathlib.Core.Path.{◌≡◌, refl, sym, ◌∙◌, ap, subst}
use mathlib.Core.List.{List, [], ◌∷◌, map}
use mathlib.Core.Option.{Option, none, some}
use Prim.Native.Nat.{ℕ, zero, suc, ◌+◌, ◌≤◌, ◌<◌, max, min}
use Prim.Native.String.{String}
use native.Mathlib.Nat.{le_of_suc-le-suc}
use native.Mathlib.Omega.{arith}
use lib.ListN.{length, get_or, get_elem?}
use Rattle.meaning.specs.Tree as tree
use Rattle.meaning.specs.Unexpanded.{Term, Command, Commands, end, ◌⨾◌, Tests, Strands}
use Rattle.meaning.specs.Expansion.{Wide, wide_call, wide, wide_all, wide_tests, wide_sum}
use Rattle.ll1.specs.Grammar.{row_at}
use Rattle.ll1.specs.Values.{Values, Makes, make}
use Rattle.ll1.proofs.Sets.{clash}
use Rattle.language.specs.Words.{Kind, name, number, the, Word}
use Rattle.language.specs.Grammar.{Part, Program, Declarations, Declaration, Inputs, MoreInputs, Ending, Booleans, MoreBooleans, BooleanStart, BooleanValue, Integers, MoreIntegers, IntegerStart, Statements, AfterStatement, NextStatement, Statement, Else, Cases, Branches, Target, Index, Procedure, Formals, FormalNames, MoreFormals, AfterProcedure, AfterName, Actuals, MoreActuals, Tier, Further, Line, ◌▸◌, ◌▹◌, ε, Strength, between, before, binding, tier, further, csml}
use Rattle.language.specs.Trees.{Name, name_at, Val, makes_operators, makes_further, makes_tier, makes}
use Rattle.language.proofs.Claims.{follow}
use Rattle.descent_law.specs.Gives.{RowGives, Gives}
use Rattle.descent_law.specs.Told.{kind_of, Told, Called}
use Rattle.descent_law.proofs.Given.{row_more}
use Rattle.uses_law.proofs.Operators as quiet
use Rattle.uses_law.proofs.Walked.{all_next, has_next, index_follows}
use Rattle.wides_law.specs.Wides.{Sort, a_name, opens, closes, comma, begins, parts, ends, last, other, sort_of, State, calm, named, calling, seen, from_calm, from_name, from_calling, next, most, Around, Acts, parted, ended, raised, at_close, step, onward, walk}

abbrev Text : Type 0
Text = List Word

-- ---- what can stand behind a name

-- not `(`
unfoldable pub harmless : Sort → Bool
harmless a_name = true
harmless opens = false
harmless closes = true
harmless comma = true
harmless begins = true
harmless parts = true
harmless ends = true
harmless last = true
harmless other = true

harmless_next : Option Kind → Bool
harmless_next none = false
harmless_next (some k) = harmless (sort_of k)

follow_harmless : all_next harmless_next (follow Index) ≡ true
unfolding all_next harmless_next harmless sort_of follow binding
follow_harmless = refl

-- ---- operators

all_quiet : quiet.AllQuiet Sort sort_of other binding
unfolding binding sort_of
all_quiet = (refl, (refl, (refl, (refl, (refl, (refl, tt))))))

-- ---- activities

seen_twice : (c : ℕ) → seen (seen c) ≡ seen c
unfolding seen
seen_twice zero = refl
seen_twice (suc c) = refl

raised_twice : (m n : ℕ) (a : Acts) → raised n (raised m a) ≡ raised (max m n) a
raised_twice m n a = ap (λ (h : ℕ). record { here = h; around = a.around }) (larger a.here m n)
  where
    larger : (h m n : ℕ) → max (max h m) n ≡ max h (max m n)
    larger h m n = omega arith

raised_to : (m n : ℕ) (a : Acts) → m ≡ n → raised m a ≡ raised n a
raised_to m n a e = ap (λ (h : ℕ). raised h a) e

-- one more activity than one is none more
raised-one : (a : Acts) → 1 ≤ a.here → raised 1 a ≡ a
raised-one a h = ap (λ (n : ℕ). record { here = n; around = a.around }) (same a.here h)
  where
    same : (n : ℕ) → 1 ≤ n → max n 1 ≡ n
    same n h = omega (arith, h)

raised-none : (a : Acts) → raised 0 a ≡ a
raised-none a = ap (λ (n : ℕ). record { here = n; around = a.around }) (same a.here)
  where
    same : (n : ℕ) → max n 0 ≡ n
    same n = omega arith

-- a name before any word but `(` does not matter
module _ (wide_of : List ℕ → ℕ → ℕ) where
  pub end-named : (c : Sort) (x y : List ℕ) (a : Acts) (ws : Text) → harmless c ≡ true → onward wide_of (named x) c a.here (walk wide_of (next (named x) c y) (step wide_of (named x) c a) ws) ≡ onward wide_of calm c a.here (walk wide_of (next calm c y) (step wide_of calm c a) ws)
  unfolding harmless onward next from_name from_calm step at_close
  end-named a_name x y a ws e = refl
  end-named opens x y a ws e = clash (sym e)
  end-named closes x y a ws e = refl
  end-named comma x y a ws e = refl
  end-named begins x y a ws e = refl
  end-named parts x y a ws e = refl
  end-named ends x y a ws e = refl
  end-named last x y a ws e = refl
  end-named other x y a ws e = refl

-- ---- what every part says

module _ (ps : List Wide) (wide_of : List ℕ → ℕ → ℕ) (wide_is : (v : Name) (ts : List Term) → wide_of v.bytes (length ts) ≡ wide_call ps v ts) where
  abbrev W : State → Acts → Text → Option ℕ
  W st a ws = walk wide_of st a ws

  -- at least one
  some-here : (m n : ℕ) → 1 ≤ m → 1 ≤ max m n
  some-here m n h = omega (arith, h)

  all-some : (x : Commands) → 1 ≤ wide_all ps x
  unfolding wide_all
  all-some end = omega arith
  all-some (l ⨾ ls) = omega (arith, all-some ls)

  -- cases: what those before the default have
  record Before (ws : Text) (g : Commands → Tests) (rest : Text) : Type 0 where
    acts : ℕ
    tests : (d : Commands) → wide_tests ps (g d) ≡ max acts (wide_all ps d)
    goes : (a : Acts) → 1 ≤ a.here → W calm a ws ≡ W calm (raised acts a) rest

  -- further branches of a parallel, up to nine in all
  record Further_on (m : ℕ) (o : Around) (os : List Around) (ws : Text) (v : Strands) (rest : Text) : Type 0 where
    here : ℕ
    sum : ℕ
    some_left : 1 ≤ here
    all : min (sum + here) most ≡ min (o.sum + m + wide_sum ps v) most
    goes : W calm (record { here = m; around = o ∷ os }) ws ≡ W calm (record { here = here; around = record { before = o.before; sum = sum } ∷ os }) rest

  -- in the parentheses of a call an expression is an actual
  abbrev Met : (n : Part) → ℕ → Text → Val n → Text → Type 0
  Met Program k ws v rest = Unit
  Met Declarations k ws v rest = Unit
  Met Declaration k ws v rest = Unit
  Met Inputs k ws v rest = Unit
  Met MoreInputs k ws v rest = Unit
  Met Ending k ws v rest = Unit
  Met Booleans k ws v rest = Unit
  Met MoreBooleans k ws v rest = Unit
  Met BooleanStart k ws v rest = Unit
  Met BooleanValue k ws v rest = Unit
  Met Integers k ws v rest = Unit
  Met MoreIntegers k ws v rest = Unit
  Met IntegerStart k ws v rest = Unit
  Met Statements k ws v rest = (a : Acts) → 1 ≤ a.here → W calm a ws ≡ W calm (raised (wide_all ps v) a) rest
  Met AfterStatement k ws v rest = (a : Acts) → 1 ≤ a.here → W calm a ws ≡ W calm (raised (wide_all ps v) a) rest
  Met NextStatement k ws v rest = (a : Acts) → 1 ≤ a.here → W calm a ws ≡ W calm (raised (wide_all ps v) a) rest
  Met Statement k ws v rest = (a : Acts) → 1 ≤ a.here → W calm a ws ≡ W calm (raised (wide ps v) a) rest
  Met Else k ws v rest = (a : Acts) → 1 ≤ a.here → W calm a ws ≡ W calm (raised (wide_all ps v) a) rest
  Met Cases k ws v rest = Before ws v rest
  Met Branches k ws v rest = (m : ℕ) (o : Around) (os : List Around) → 1 ≤ m → Further_on m o os ws v rest
  Met Target k ws v rest = (a : Acts) → W calm a ws ≡ W calm a rest
  Met Index k ws v rest = ((x : List ℕ) (a : Acts) → W (named x) a ws ≡ W calm a rest) × ((x : List ℕ) (d c : ℕ) (a : Acts) → W (calling x d (seen c)) a ws ≡ W (calling x d (seen c)) a rest)
  Met Procedure k ws v rest = Unit
  Met Formals k ws v rest = Unit
  Met FormalNames k ws v rest = Unit
  Met MoreFormals k ws v rest = Unit
  Met AfterProcedure k ws v rest = Unit
  Met AfterName k ws v rest = (n : Name) (a : Acts) → 1 ≤ a.here → W (named n.bytes) a ws ≡ W calm (raised (wide ps (v n)) a) rest
  Met Actuals k ws v rest = (x : List ℕ) (a : Acts) → W (calling x 0 0) a ws ≡ W (calling x 0 (length v)) a rest
  Met MoreActuals k ws v rest = (x : List ℕ) (c : ℕ) (a : Acts) → W (calling x 0 (suc c)) a ws ≡ W (calling x 0 (suc c + length v)) a rest
  Met (Tier n) k ws v rest = ((a : Acts) → W calm a ws ≡ W calm a rest) × ((x : List ℕ) (d c : ℕ) (a : Acts) → W (calling x d c) a ws ≡ W (calling x d (seen c)) a rest)
  Met (Further n) k ws v rest = ((a : Acts) → W calm a ws ≡ W calm a rest) × ((x : List ℕ) (d c : ℕ) (a : Acts) → W (calling x d (seen c)) a ws ≡ W (calling x d (seen c)) a rest)

  -- a word is met
  ate : (st : State) (a : Acts) (t : Kind) {w : Word} {ws tail : Text} → ws ≡ w ∷ tail → w.kind ≡ t → W st a ws ≡ onward wide_of st (sort_of t) a.here (W (next st (sort_of t) w.bytes) (step wide_of st (sort_of t) a) tail)
  unfolding walk
  ate st a t {w} {ws} {tail} e f = ap (W st a) e ∙ ap (λ (k : Kind). onward wide_of st (sort_of k) a.here (W (next st (sort_of k) w.bytes) (step wide_of st (sort_of k) a) tail)) f

  again : (x : List ℕ) (d c : ℕ) (a : Acts) (ws : Text) → W (calling x d (seen (seen c))) a ws ≡ W (calling x d (seen c)) a ws
  again x d c a ws = ap (λ (n : ℕ). W (calling x d n) a ws) (seen_twice c)

  -- ---- a name's index

  no_index : (k : ℕ) (ws : Text) → Called Index ws 0 → Met Index k ws none ws
  unfolding walk harmless_next
  no_index k [] e = clash (sym (has_next harmless_next (follow Index) none follow_harmless (index_follows none e)))
  no_index k (w ∷ ws) e =
      let h = has_next harmless_next (follow Index) (some w.kind) follow_harmless (index_follows (some w.kind) e) in
      (λ x a. end-named wide_of (sort_of w.kind) x w.bytes a ws h, λ x d c a. refl)

  -- ---- row by row

  abbrev Rows : (A : Type 0) → (Text → A → Text → Type 0) → (rows : List Line) → Makes Word Val A rows → Type 0
  Rows A R rows m = (k : ℕ) (ws rest : Text) (i : ℕ) (h : i < length rows) (vs : Values Word Val (get_or rows i [])) → RowGives Word Val kind_of Met (get_or rows i []) k ws vs rest → R ws (make Word Val A rows i h m vs) rest

  index_rows : (k : ℕ) (ws rest : Text) (i : ℕ) (h : i < length (csml Index)) (vs : Values Word Val (get_or (csml Index) i [])) → Called Index ws i
      → RowGives Word Val kind_of Met (get_or (csml Index) i []) k ws vs rest → Met Index k ws (make Word Val (Val Index) (csml Index) i h (makes Index) vs) rest
  unfolding make csml makes sort_of onward next from_calm from_name from_calling step at_close
  index_rows k ws rest zero h vs c x = subst (λ (l : Text). Met Index k ws none l) x (no_index k ws c)
  index_rows k ws rest (suc zero) h vs c (t₁, a₁, b₁, (t₂, a₂, b₂, (t₃, a₃, b₃, z))) = (
    λ x a. ate (named x) a (the "[") a₁ b₁ ∙ ate calm a number a₂ b₂ ∙ ate calm a (the "]") a₃ b₃ ∙ ap (W calm a) z,
    λ x d n a. ate (calling x d (seen n)) a (the "[") a₁ b₁ ∙ again x d n a t₁ ∙ ate (calling x d (seen n)) a number a₂ b₂ ∙ again x d n a t₂ ∙ ate (calling x d (seen n)) a (the "]") a₃ b₃ ∙ again x d n a t₃ ∙ ap (W (calling x d (seen n)) a) z,
  )
  index_rows k ws rest (suc (suc i)) h vs c x = absurd (omega arith)

  -- ---- expressions

  abbrev TermMet : Text → Term → Text → Type 0
  TermMet ws v rest = Met (Tier 0) 0 ws v rest

  abbrev FurtherMet : Text → (Term → Term) → Text → Type 0
  FurtherMet ws v rest = Met (Further 0) 0 ws v rest

  operand_rows : (n : ℕ) → Rows Term TermMet (tier n none) (makes_tier n none)
  unfolding make sort_of onward next from_calm from_calling step at_close
  operand_rows n k ws rest zero h vs (t₁, a₁, b₁, (m₂, y₂, z)) = (
    λ a. ate calm a name a₁ b₁ ∙ y₂.0 vs.0.bytes a ∙ ap (W calm a) z,
    λ x d c a. ate (calling x d c) a name a₁ b₁ ∙ y₂.1 x d c a ∙ ap (W (calling x d (seen c)) a) z,
  )
  operand_rows n k ws rest (suc zero) h vs (t₁, a₁, b₁, z) = (λ a. ate calm a number a₁ b₁ ∙ ap (W calm a) z, λ x d c a. ate (calling x d c) a number a₁ b₁ ∙ ap (W (calling x d (seen c)) a) z)
  operand_rows n k ws rest (suc (suc zero)) h vs (t₁, a₁, b₁, z) = (λ a. ate calm a (the "true") a₁ b₁ ∙ ap (W calm a) z, λ x d c a. ate (calling x d c) a (the "true") a₁ b₁ ∙ ap (W (calling x d (seen c)) a) z)
  operand_rows n k ws rest (suc (suc (suc zero))) h vs (t₁, a₁, b₁, z) = (λ a. ate calm a (the "false") a₁ b₁ ∙ ap (W calm a) z, λ x d c a. ate (calling x d c) a (the "false") a₁ b₁ ∙ ap (W (calling x d (seen c)) a) z)
  operand_rows n k ws rest (suc (suc (suc (suc zero)))) h vs (t₁, a₁, b₁, (m, g, (t₂, a₂, b₂, (m₃, y₃, (t₄, a₄, b₄, z))))) = (
    λ a. ate calm a (the "int") a₁ b₁ ∙ ate calm a (the "(") a₂ b₂ ∙ y₃.0 a ∙ ate calm a (the ")") a₄ b₄ ∙ ap (W calm a) z,
    λ x d c a.
        ate (calling x d c) a (the "int") a₁ b₁ ∙ ate (calling x d (seen c)) a (the "(") a₂ b₂ ∙ again x (suc d) c a t₂ ∙ y₃.1 x (suc d) (seen c) a ∙ again x (suc d) c a m₃
        ∙ ate (calling x (suc d) (seen c)) a (the ")") a₄ b₄ ∙ again x d c a t₄ ∙ ap (W (calling x d (seen c)) a) z,
  )
  operand_rows n k ws rest (suc (suc (suc (suc (suc zero))))) h vs (m, g, (t₂, a₂, b₂, (m₃, y₃, (t₄, a₄, b₄, z)))) = (
    λ a. ate calm a (the "(") a₂ b₂ ∙ y₃.0 a ∙ ate calm a (the ")") a₄ b₄ ∙ ap (W calm a) z,
    λ x d c a.
        ate (calling x d c) a (the "(") a₂ b₂ ∙ y₃.1 x (suc d) (seen c) a ∙ again x (suc d) c a m₃
        ∙ ate (calling x (suc d) (seen c)) a (the ")") a₄ b₄ ∙ again x d c a t₄ ∙ ap (W (calling x d (seen c)) a) z,
  )
  operand_rows n k ws rest (suc (suc (suc (suc (suc (suc i)))))) h vs x = absurd (omega arith)

  -- an operator is no word that matters
  on_calm : (a : Acts) (op : String) {w : Word} {ws tail : Text} → sort_of (the op) ≡ other → ws ≡ w ∷ tail → w.kind ≡ the op → W calm a ws ≡ W calm a tail
  unfolding onward next from_calm step
  on_calm a op {w} {ws} {tail} o e f = ate calm a (the op) e f ∙ ap (λ (c : Sort). onward wide_of calm c a.here (W (next calm c w.bytes) (step wide_of calm c a) tail)) o

  on_calling : (x : List ℕ) (d c : ℕ) (a : Acts) (op : String) {w : Word} {ws tail : Text} → sort_of (the op) ≡ other → ws ≡ w ∷ tail → w.kind ≡ the op → W (calling x d c) a ws ≡ W (calling x d (seen c)) a tail
  unfolding onward next from_calling step
  on_calling x d n a op {w} {ws} {tail} o e f = ate (calling x d n) a (the op) e f ∙ ap (λ (c : Sort). onward wide_of (calling x d n) c a.here (W (next (calling x d n) c w.bytes) (step wide_of (calling x d n) c a) tail)) o

  tier-rows : (n : ℕ) (s : Option Strength) → quiet.Quiet Sort sort_of other s → Rows Term TermMet (tier n s) (makes_tier n s)
  unfolding make
  tier-rows n none o = operand_rows n
  tier-rows n (some (between ops)) o = go
    where
      go : Rows Term TermMet (tier n (some (between ops))) (makes_tier n (some (between ops)))
      go k ws rest zero h vs (m₁, y₁, (m₂, y₂, z)) = (λ a. y₁.0 a ∙ y₂.0 a ∙ ap (W calm a) z, λ x d c a. y₁.1 x d c a ∙ y₂.1 x d c a ∙ ap (W (calling x d (seen c)) a) z)
      go k ws rest (suc i) h vs x = absurd (omega arith)
  tier-rows n (some (before op)) o = go
    where
      go : Rows Term TermMet (tier n (some (before op))) (makes_tier n (some (before op)))
      go k ws rest zero h vs (m, g, (t₁, a₁, b₁, (m₂, y₂, z))) =
          (λ a. on_calm a op o a₁ b₁ ∙ y₂.0 a ∙ ap (W calm a) z, λ x d c a. on_calling x d c a op o a₁ b₁ ∙ y₂.1 x d (seen c) a ∙ again x d c a m₂ ∙ ap (W (calling x d (seen c)) a) z)
      go k ws rest (suc zero) h vs (m₁, y₁, z) = (λ a. y₁.0 a ∙ ap (W calm a) z, λ x d c a. y₁.1 x d c a ∙ ap (W (calling x d (seen c)) a) z)
      go k ws rest (suc (suc i)) h vs x = absurd (omega arith)

  operator_rows : (n : ℕ) (ops : List String) → quiet.AllOther Sort sort_of other ops → Rows (Term → Term) FurtherMet (map (λ op. op ▸ Tier (suc n) ▹ Further n ▹ ε) ops) (makes_operators n ops)
  unfolding make makes_operators
  operator_rows n [] o k ws rest i h vs x = absurd (omega arith)
  operator_rows n (op ∷ ops) o k ws rest zero h vs (t₁, a₁, b₁, (m₂, y₂, (m₃, y₃, z))) = (
    λ a. on_calm a op (quiet.first-other Sort sort_of other op ops o) a₁ b₁ ∙ y₂.0 a ∙ y₃.0 a ∙ ap (W calm a) z,
    λ x d c a. on_calling x d (seen c) a op (quiet.first-other Sort sort_of other op ops o) a₁ b₁ ∙ again x d c a t₁ ∙ y₂.1 x d (seen c) a ∙ again x d c a m₂ ∙ y₃.1 x d c a ∙ ap (W (calling x d (seen c)) a) z,
  )
  operator_rows n (op ∷ ops) o k ws rest (suc i) h vs x = operator_rows n ops (quiet.later-other Sort sort_of other op ops o) k ws rest i (le_of_suc-le-suc h) vs x

  nothing-further : (ws rest : Text) → ws ≡ rest → FurtherMet ws (λ left. left) rest
  nothing-further ws rest z = (λ a. ap (W calm a) z, λ x d c a. ap (W (calling x d (seen c)) a) z)

  further-rows : (n : ℕ) (s : Option Strength) → quiet.Quiet Sort sort_of other s → Rows (Term → Term) FurtherMet (further n s) (makes_further n s)
  unfolding make
  further-rows n none o k ws rest zero h vs x = nothing-further ws rest x
  further-rows n none o k ws rest (suc i) h vs x = absurd (omega arith)
  further-rows n (some (between ops)) o k ws rest zero h vs x = nothing-further ws rest x
  further-rows n (some (between ops)) o k ws rest (suc i) h vs x = operator_rows n ops o k ws rest i (le_of_suc-le-suc h) vs x
  further-rows n (some (before op)) o k ws rest zero h vs x = nothing-further ws rest x
  further-rows n (some (before op)) o k ws rest (suc i) h vs x = absurd (omega arith)

  tier-all : (n : ℕ) → Rows Term TermMet (csml (Tier n)) (makes (Tier n))
  unfolding csml makes
  tier-all n = tier-rows n (get_elem? binding n) (quiet.quiet_at Sort sort_of other binding n all_quiet)

  further-all : (n : ℕ) → Rows (Term → Term) FurtherMet (csml (Further n)) (makes (Further n))
  unfolding csml makes
  further-all n = further-rows n (get_elem? binding n) (quiet.quiet_at Sort sort_of other binding n all_quiet)

  -- ---- statements

  -- one list behind the other, and a word between them that does not matter
  then : (m n : ℕ) (a : Acts) (ws : Text) → W calm (raised n (raised m a)) ws ≡ W calm (raised (max m n) a) ws
  then m n a ws = ap (λ (b : Acts). W calm b ws) (raised_twice m n a)

  one : (a : Acts) (ws : Text) → 1 ≤ a.here → W calm a ws ≡ W calm (raised 1 a) ws
  one a ws h = ap (λ (b : Acts). W calm b ws) (sym (raised-one a h))

  target-rows : Rows (tree.Target Name) (λ ws v rest. Met Target 0 ws v rest) (csml Target) (makes Target)
  unfolding make csml makes sort_of onward next from_calm step
  target-rows k ws rest zero h vs (t₁, a₁, b₁, (m₂, y₂, z)) a = ate calm a name a₁ b₁ ∙ y₂.0 vs.0.bytes a ∙ ap (W calm a) z
  target-rows k ws rest (suc i) h vs x a = absurd (omega arith)

  after-name-rows : Rows (Name → Command) (λ ws v rest. Met AfterName 0 ws v rest) (csml AfterName) (makes AfterName)
  unfolding make csml makes sort_of onward next from_name from_calling step at_close wide
  after-name-rows k ws rest zero h vs (t₁, a₁, b₁, (m₂, y₂, z)) n a l = ate (named n.bytes) a (the ":=") a₁ b₁ ∙ y₂.0 a ∙ ap (W calm a) z ∙ one a rest l
  after-name-rows k ws rest (suc zero) h vs (m, g, (t₁, a₁, b₁, (m₂, y₂, (t₃, a₃, b₃, z)))) n a l =
      ate (named n.bytes) a (the "(") a₁ b₁ ∙ y₂ n.bytes a ∙ ate (calling n.bytes 0 (length vs.1.0)) a (the ")") a₃ b₃ ∙ ap (W calm (raised (wide_of n.bytes (length vs.1.0)) a)) z
      ∙ ap (λ (i : ℕ). W calm (raised i a) rest) (wide_is n vs.1.0)
  after-name-rows k ws rest (suc (suc i)) h vs x n a l = absurd (omega arith)

  actuals-rows : Rows (List Term) (λ ws v rest. Met Actuals 0 ws v rest) (csml Actuals) (makes Actuals)
  unfolding make csml makes seen
  actuals-rows k ws rest zero h vs z x a = ap (W (calling x 0 0) a) z
  actuals-rows k ws rest (suc zero) h vs (m₁, y₁, (m₂, y₂, z)) x a = y₁.1 x 0 0 a ∙ y₂ x 0 a ∙ ap (W (calling x 0 (1 + length vs.1.0)) a) z ∙ ap (λ (n : ℕ). W (calling x 0 n) a rest) (one_more (length vs.1.0))
    where
      one_more : (n : ℕ) → 1 + n ≡ suc n
      one_more n = omega arith
  actuals-rows k ws rest (suc (suc i)) h vs y x a = absurd (omega arith)

  more-actuals-rows : Rows (List Term) (λ ws v rest. Met MoreActuals 0 ws v rest) (csml MoreActuals) (makes MoreActuals)
  unfolding make csml makes sort_of onward next from_calling step seen
  more-actuals-rows k ws rest zero h vs z x c a = ap (W (calling x 0 (suc c)) a) z ∙ ap (λ (n : ℕ). W (calling x 0 n) a rest) (none_more (suc c))
    where
      none_more : (n : ℕ) → n ≡ n + 0
      none_more n = omega arith
  more-actuals-rows k ws rest (suc zero) h vs (t₀, a₀, b₀, (m₁, y₁, (m₂, y₂, z))) x c a =
      ate (calling x 0 (suc c)) a (the ",") a₀ b₀ ∙ y₁.1 x 0 (suc (suc c)) a ∙ y₂ x (suc c) a ∙ ap (W (calling x 0 (suc (suc c) + length vs.1.1.0)) a) z
      ∙ ap (λ (n : ℕ). W (calling x 0 n) a rest) (one_more c (length vs.1.1.0))
    where
      one_more : (c n : ℕ) → suc (suc c) + n ≡ suc c + suc n
      one_more c n = omega arith
  more-actuals-rows k ws rest (suc (suc i)) h vs y x c a = absurd (omega arith)

  list-end : (ws rest : Text) → ws ≡ rest → (a : Acts) → 1 ≤ a.here → W calm a ws ≡ W calm (raised (wide_all ps end) a) rest
  unfolding wide_all
  list-end ws rest z a l = ap (W calm a) z ∙ one a rest l

  statements-rows : Rows Commands (λ ws v rest. Met Statements 0 ws v rest) (csml Statements) (makes Statements)
  unfolding make csml makes wide_all
  statements-rows k ws rest zero h vs (m₁, y₁, (m₂, y₂, z)) a l =
      y₁ a l ∙ y₂ (raised (wide ps vs.0) a) (some-here a.here (wide ps vs.0) l) ∙ then (wide ps vs.0) (wide_all ps vs.1.0) a m₂ ∙ ap (W calm (raised (max (wide ps vs.0) (wide_all ps vs.1.0)) a)) z
  statements-rows k ws rest (suc i) h vs x a l = absurd (omega arith)

  after-rows : Rows Commands (λ ws v rest. Met AfterStatement 0 ws v rest) (csml AfterStatement) (makes AfterStatement)
  unfolding make csml makes sort_of onward next from_calm step
  after-rows k ws rest zero h vs z a l = list-end ws rest z a l
  after-rows k ws rest (suc zero) h vs (t₁, a₁, b₁, (m₂, y₂, z)) a l = ate calm a (the ";") a₁ b₁ ∙ y₂ a l ∙ ap (W calm (raised (wide_all ps vs.1.0) a)) z
  after-rows k ws rest (suc (suc i)) h vs x a l = absurd (omega arith)

  next-rows : Rows Commands (λ ws v rest. Met NextStatement 0 ws v rest) (csml NextStatement) (makes NextStatement)
  unfolding make csml makes
  next-rows k ws rest zero h vs z a l = list-end ws rest z a l
  next-rows k ws rest (suc zero) h vs (m₂, y₂, z) a l = y₂ a l ∙ ap (W calm (raised (wide_all ps vs.0) a)) z
  next-rows k ws rest (suc (suc i)) h vs x a l = absurd (omega arith)

  else_rows : Rows Commands (λ ws v rest. Met Else 0 ws v rest) (csml Else) (makes Else)
  unfolding make csml makes sort_of onward next from_calm step
  else_rows k ws rest zero h vs z a l = list-end ws rest z a l
  else_rows k ws rest (suc zero) h vs (t₁, a₁, b₁, (m₂, y₂, z)) a l = ate calm a (the "else") a₁ b₁ ∙ y₂ a l ∙ ap (W calm (raised (wide_all ps vs.1.0) a)) z
  else_rows k ws rest (suc (suc i)) h vs x a l = absurd (omega arith)

  cases_rows : Rows (Commands → Tests) (λ ws v rest. Met Cases 0 ws v rest) (csml Cases) (makes Cases)
  unfolding make csml makes sort_of onward next from_calm step wide_tests
  cases_rows k ws rest zero h vs z = record { acts = 0; tests = λ d. none_before (wide_all ps d); goes = λ a l. ap (W calm a) z ∙ ap (λ (b : Acts). W calm b rest) (sym (raised-none a)) }
    where
      none_before : (n : ℕ) → n ≡ max 0 n
      none_before n = omega arith
  cases_rows k ws rest (suc zero) h vs (t₁, a₁, b₁, (m₂, y₂, (t₃, a₃, b₃, (m₄, y₄, (m₅, y₅, z))))) =
      let b = wide_all ps vs.1.1.1.0 in
      record {
        acts = max b y₅.acts;
        tests = λ d. ap (max b) (y₅.tests d) ∙ larger b y₅.acts (wide_all ps d);
        goes = λ a l.
            ate calm a (the "case") a₁ b₁ ∙ y₂.0 a ∙ ate calm a (the ":") a₃ b₃ ∙ y₄ a l ∙ y₅.goes (raised b a) (some-here a.here b l) ∙ then b y₅.acts a m₅
            ∙ ap (W calm (raised (max b y₅.acts) a)) z;
      }
    where
      larger : (x y n : ℕ) → max x (max y n) ≡ max (max x y) n
      larger x y n = omega arith
  cases_rows k ws rest (suc (suc i)) h vs x = absurd (omega arith)

  branches_rows : Rows Strands (λ ws v rest. Met Branches 0 ws v rest) (csml Branches) (makes Branches)
  unfolding make csml makes sort_of onward next from_calm step parted wide_sum
  branches_rows k ws rest zero h vs z m o os l = record { here = m; sum = o.sum; some_left = l; all = ap (λ (n : ℕ). min n most) (none_more (o.sum + m)); goes = ap (W calm (record { here = m; around = o ∷ os })) z }
    where
      none_more : (n : ℕ) → n ≡ n + 0
      none_more n = omega arith
  branches_rows k ws rest (suc zero) h vs (t₁, a₁, b₁, (m₂, y₂, (m₃, y₃, z))) m o os l =
      let b = wide_all ps vs.1.0 in
      let o₁ : Around = record { before = o.before; sum = min (o.sum + m) most } in
      let q = y₃ (max 1 b) o₁ os (omega arith) in
      record {
        here = q.here;
        sum = q.sum;
        some_left = q.some_left;
        all = q.all ∙ added (o.sum + m) b (wide_sum ps vs.1.1.0) (all-some vs.1.0);
        goes = ate calm (record { here = m; around = o ∷ os }) (the "||") a₁ b₁ ∙ y₂ (record { here = 1; around = o₁ ∷ os }) (omega arith) ∙ q.goes ∙ ap (W calm (record { here = q.here; around = record { before = o.before; sum = q.sum } ∷ os })) z;
      }
    where
      added : (s b n : ℕ) → 1 ≤ b → min (min s most + max 1 b + n) most ≡ min (s + (b + n)) most
      added s b n h = omega (arith, h)
  branches_rows k ws rest (suc (suc i)) h vs x m o os l = absurd (omega arith)

  statement-rows : Rows Command (λ ws v rest. Met Statement 0 ws v rest) (csml Statement) (makes Statement)
  unfolding make csml makes sort_of onward next from_calm step at_close parted ended wide wide_all wide_tests wide_sum
  statement-rows k ws rest zero h vs (t₁, a₁, b₁, z) a l = ate calm a (the "skip") a₁ b₁ ∙ ap (W calm a) z ∙ one a rest l
  statement-rows k ws rest (suc zero) h vs (t₁, a₁, b₁, (t₂, a₂, b₂, z)) a l = ate calm a (the "delay") a₁ b₁ ∙ ate calm a number a₂ b₂ ∙ ap (W calm a) z ∙ one a rest l
  statement-rows k ws rest (suc (suc zero)) h vs (t₁, a₁, b₁, (m, g, (t₂, a₂, b₂, (m₃, y₃, (t₄, a₄, b₄, z))))) a l =
      ate calm a (the "raise") a₁ b₁ ∙ ate calm a (the "(") a₂ b₂ ∙ y₃ a ∙ ate calm a (the ")") a₄ b₄ ∙ ap (W calm a) z ∙ one a rest l
  statement-rows k ws rest (suc (suc (suc zero))) h vs (t₁, a₁, b₁, (m, g, (t₂, a₂, b₂, (m₃, y₃, (t₄, a₄, b₄, z))))) a l =
      ate calm a (the "lower") a₁ b₁ ∙ ate calm a (the "(") a₂ b₂ ∙ y₃ a ∙ ate calm a (the ")") a₄ b₄ ∙ ap (W calm a) z ∙ one a rest l
  statement-rows k ws rest (suc (suc (suc (suc zero)))) h vs (t₁, a₁, b₁, (m, g, (t₂, a₂, b₂, (m₃, y₃, (t₄, a₄, b₄, z))))) a l =
      ate calm a (the "invert") a₁ b₁ ∙ ate calm a (the "(") a₂ b₂ ∙ y₃ a ∙ ate calm a (the ")") a₄ b₄ ∙ ap (W calm a) z ∙ one a rest l
  statement-rows k ws rest (suc (suc (suc (suc (suc zero))))) h vs (t₁, a₁, b₁, (m₂, y₂, z)) a l =
      ate calm a name a₁ b₁ ∙ y₂ (name_at vs.0) a l ∙ ap (W calm (raised (wide ps (vs.1.0 (name_at vs.0))) a)) z
  statement-rows k ws rest (suc (suc (suc (suc (suc (suc zero)))))) h vs (m, g, (t₁, a₁, b₁, (m₂, y₂, (t₃, a₃, b₃, (m₄, y₄, (m₅, y₅, (t₆, a₆, b₆, z))))))) a l =
      let x = wide_all ps vs.1.1.1.0 in
      let y = wide_all ps vs.1.1.1.1.0 in
      ate calm a (the "if") a₁ b₁ ∙ y₂.0 a ∙ ate calm a (the "then") a₃ b₃ ∙ y₄ a l ∙ y₅ (raised x a) (some-here a.here x l) ∙ then x y a m₅
      ∙ ate calm (raised (max x y) a) (the "endif") a₆ b₆ ∙ ap (W calm (raised (max x y) a)) z
  statement-rows k ws rest (suc (suc (suc (suc (suc (suc (suc zero))))))) h vs (m, g, (t₁, a₁, b₁, (m₂, y₂, (t₃, a₃, b₃, (t₄, a₄, b₄, (m₅, y₅, (t₆, a₆, b₆, z))))))) a l =
      let x = wide_all ps vs.1.1.1.1.0 in
      ate calm a (the "while") a₁ b₁ ∙ y₂.0 a ∙ ate calm a (the "do") a₃ b₃ ∙ ate calm a (the "loop") a₄ b₄ ∙ y₅ a l ∙ ate calm (raised x a) (the "endloop") a₆ b₆ ∙ ap (W calm (raised x a)) z
  statement-rows k ws rest (suc (suc (suc (suc (suc (suc (suc (suc zero)))))))) h vs (m, g, (t₁, a₁, b₁, (m₂, y₂, (t₃, a₃, b₃, z)))) a l =
      ate calm a (the "loop") a₁ b₁ ∙ y₂ a l ∙ ate calm (raised (wide_all ps vs.1.0) a) (the "endloop") a₃ b₃ ∙ ap (W calm (raised (wide_all ps vs.1.0) a)) z
  statement-rows k ws rest (suc (suc (suc (suc (suc (suc (suc (suc (suc zero))))))))) h vs (t₁, a₁, b₁, z) a l = ate calm a (the "exit") a₁ b₁ ∙ ap (W calm a) z ∙ one a rest l
  statement-rows k ws rest (suc (suc (suc (suc (suc (suc (suc (suc (suc (suc zero)))))))))) h vs (m, g, (t₁, a₁, b₁, (t₂, a₂, b₂, (m₃, y₃, (t₄, a₄, b₄, (m₅, y₅, (m₆, y₆, (t₇, a₇, b₇, (t₈, a₈, b₈, (m₉, y₉, (t₀, a₀, b₀, z))))))))))) a l =
      let x = wide_all ps vs.1.1.1.1.0 in
      let c = y₆.acts in
      let d = wide_all ps vs.1.1.1.1.1.1.1.1.0 in
      let a₁₀ = raised (max x c) a in
      ate calm a (the "switch") a₁ b₁ ∙ ate calm a (the "case") a₂ b₂ ∙ y₃.0 a ∙ ate calm a (the ":") a₄ b₄ ∙ y₅ a l ∙ y₆.goes (raised x a) (some-here a.here x l) ∙ then x c a m₆
      ∙ ate calm a₁₀ (the "default") a₇ b₇ ∙ ate calm a₁₀ (the ":") a₈ b₈ ∙ y₉ a₁₀ (some-here a.here (max x c) l) ∙ then (max x c) d a m₉
      ∙ ate calm (raised (max (max x c) d) a) (the "endswitch") a₀ b₀ ∙ ap (W calm (raised (max (max x c) d) a)) z
      ∙ ap (λ (n : ℕ). W calm (raised n a) rest) (larger x c d ∙ ap (max x) (sym (y₆.tests vs.1.1.1.1.1.1.1.1.0)))
    where
      larger : (x y n : ℕ) → max (max x y) n ≡ max x (max y n)
      larger x y n = omega arith
  statement-rows k ws rest (suc (suc (suc (suc (suc (suc (suc (suc (suc (suc (suc zero))))))))))) h vs (t₁, a₁, b₁, z) a l = ate calm a (the "break") a₁ b₁ ∙ ap (W calm a) z ∙ one a rest l
  statement-rows k ws rest (suc (suc (suc (suc (suc (suc (suc (suc (suc (suc (suc (suc zero)))))))))))) h vs (m, g, (t₁, a₁, b₁, (m₂, y₂, (t₃, a₃, b₃, (m₄, y₄, (m₅, y₅, (t₆, a₆, b₆, z))))))) a l =
      let x = wide_all ps vs.1.0 in
      let y = wide_all ps vs.1.1.1.0 in
      let o : Around = record { before = a.here; sum = 0 } in
      let o₁ : Around = record { before = a.here; sum = min (0 + max 1 x) most } in
      let q = y₅ (max 1 y) o₁ a.around (omega arith) in
      ate calm a (the "parallel") a₁ b₁ ∙ y₂ (record { here = 1; around = o ∷ a.around }) (omega arith)
      ∙ ate calm (record { here = max 1 x; around = o ∷ a.around }) (the "||") a₃ b₃ ∙ y₄ (record { here = 1; around = o₁ ∷ a.around }) (omega arith) ∙ q.goes
      ∙ ate calm (record { here = q.here; around = record { before = a.here; sum = q.sum } ∷ a.around }) (the "endparallel") a₆ b₆
      ∙ ap (W calm (record { here = max a.here (min (q.sum + q.here) most); around = a.around })) z
      ∙ ap (λ (n : ℕ). W calm (raised n a) rest) (q.all ∙ added x y (wide_sum ps vs.1.1.1.1.0) (all-some vs.1.0) (all-some vs.1.1.1.0))
    where
      added : (x y n : ℕ) → 1 ≤ x → 1 ≤ y → min (min (0 + max 1 x) most + max 1 y + n) most ≡ min 9 (x + (y + n))
      added x y n h i = omega (arith, h, i)
  statement-rows k ws rest (suc (suc (suc (suc (suc (suc (suc (suc (suc (suc (suc (suc (suc i))))))))))))) h vs x a l = absurd (omega arith)

  rows : (n : Part) (k : ℕ) (ws rest : Text) (i : ℕ) (h : i < length (csml n)) (vs : Values Word Val (get_or (csml n) i [])) → Called n ws i
      → RowGives Word Val kind_of Met (get_or (csml n) i []) k ws vs rest → Met n k ws (make Word Val (Val n) (csml n) i h (makes n) vs) rest
  rows Program k ws rest i h vs c x = tt
  rows Declarations k ws rest i h vs c x = tt
  rows Declaration k ws rest i h vs c x = tt
  rows Inputs k ws rest i h vs c x = tt
  rows MoreInputs k ws rest i h vs c x = tt
  rows Ending k ws rest i h vs c x = tt
  rows Booleans k ws rest i h vs c x = tt
  rows MoreBooleans k ws rest i h vs c x = tt
  rows BooleanStart k ws rest i h vs c x = tt
  rows BooleanValue k ws rest i h vs c x = tt
  rows Integers k ws rest i h vs c x = tt
  rows MoreIntegers k ws rest i h vs c x = tt
  rows IntegerStart k ws rest i h vs c x = tt
  rows Procedure k ws rest i h vs c x = tt
  rows Formals k ws rest i h vs c x = tt
  rows FormalNames k ws rest i h vs c x = tt
  rows MoreFormals k ws rest i h vs c x = tt
  rows AfterProcedure k ws rest i h vs c x = tt
  rows Statements k ws rest i h vs c x = statements-rows k ws rest i h vs x
  rows AfterStatement k ws rest i h vs c x = after-rows k ws rest i h vs x
  rows NextStatement k ws rest i h vs c x = next-rows k ws rest i h vs x
  rows Statement k ws rest i h vs c x = statement-rows k ws rest i h vs x
  rows Else k ws rest i h vs c x = else_rows k ws rest i h vs x
  rows Cases k ws rest i h vs c x = cases_rows k ws rest i h vs x
  rows Branches k ws rest i h vs c x = branches_rows k ws rest i h vs x
  rows Target k ws rest i h vs c x = target-rows k ws rest i h vs x
  rows AfterName k ws rest i h vs c x = after-name-rows k ws rest i h vs x
  rows Actuals k ws rest i h vs c x = actuals-rows k ws rest i h vs x
  rows MoreActuals k ws rest i h vs c x = more-actuals-rows k ws rest i h vs x
  rows Index k ws rest i h vs c x = index_rows k ws rest i h vs c x
  rows (Tier n) k ws rest i h vs c x = tier-all n k ws rest i h vs x
  rows (Further n) k ws rest i h vs c x = further-all n k ws rest i h vs x

  met : (f : ℕ) (n : Part) (k : ℕ) (ws : Text) (v : Val n) (rest : Text) → Told f n k ws v rest → Met n k ws v rest
  unfolding Gives
  met zero n k ws v rest x = absurd x
  met (suc f) n k ws v rest (i, h, c, vs, e, x) = subst (λ (y : Val n). Met n k ws y rest) (sym e) (rows n k ws rest i h vs c (row_more Word Val kind_of (Told f) Met (met f) (row_at csml n i) k ws vs rest x))

  -- P14: the walk over a body's words, with `endproc` behind them
  pub walked : (f k : ℕ) (ws : Text) (v : Commands) (x : Word) (rest : Text) → Told f Statements k ws v (x ∷ rest) → x.kind ≡ the "endproc" → walk wide_of calm (record { here = 1; around = [] }) ws ≡ some (wide_all ps v)
  unfolding sort_of onward next step
  walked f k ws v x rest y e =
      met f Statements k ws v (x ∷ rest) y (record { here = 1; around = [] }) (omega arith)
      ∙ ate calm (raised (wide_all ps v) (record { here = 1; around = [] })) (the "endproc") refl e
      ∙ ap (λ (n : ℕ). some n) (at_least (wide_all ps v) (all-some v))
    where
      at_least : (n : ℕ) → 1 ≤ n → max 1 n ≡ n
      at_least n h = omega (arith, h)
