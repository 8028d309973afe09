-- Over the words of a body the walk comes to whether each use is allowed: row by row of the grammar, so for every derivation.
-- Assumes nothing.
use mathlib.Core.Bool.{Bool, true, false, cond, ◌&&◌}
use mathlib.Core.Path.{◌≡◌, refl, sym, ◌∙◌, ap, subst}
use mathlib.Core.List.{List, [], ◌∷◌, map}
use mathlib.Core.Option.{Option, none, some}
use Prim.Native.Nat.{ℕ, zero, suc, ◌<◌}
use Prim.Native.String.{String}
use native.Mathlib.Nat.{le_of_suc-le-suc}
use native.Mathlib.Omega.{arith}
use lib.ListN.{length, get_or, get_elem?}
use Rattle.meaning.specs.Tree as tree
use Rattle.meaning.specs.Kinds.{both}
use Rattle.meaning.specs.Unexpanded.{Term, Command, Commands, end, Tests, Strands}
use Rattle.meaning.specs.Expansion.{allows_term, allows_target, allows, allows_all, allows_tests, allows_each}
use Rattle.ll1.specs.Grammar.{row_at}
use Rattle.ll1.specs.Values.{Values, Makes, make}
use Rattle.ll1.proofs.Tests.{same_next, has, begin_row, pick}
use Rattle.ll1.proofs.Sets.{clash, and_left, and_right}
use Rattle.language.specs.Words.{Kind, name, number, the, Word, bytes, same}
use Rattle.language.specs.Grammar.{Part, Program, Declarations, Declaration, Inputs, MoreInputs, Ending, Booleans, MoreBooleans, BooleanStart, BooleanValue, Integers, MoreIntegers, IntegerStart, Statements, AfterStatement, NextStatement, Statement, Else, Cases, Branches, Target, Index, Procedure, Formals, FormalNames, MoreFormals, AfterProcedure, AfterName, Actuals, MoreActuals, Tier, Further, Line, ◌▸◌, ◌▹◌, ε, Strength, between, before, binding, tier, further, csml}
use Rattle.language.specs.Trees.{Name, name_at, Val, Operator, operators, joined_by, name_or_bit, whole_or_part, makes_operators, makes_further, makes_tier, makes}
use Rattle.language.proofs.Claims.{claims, follow}
use Rattle.descent_law.specs.Gives.{RowGives, Gives}
use Rattle.descent_law.specs.Told.{kind_of, Told, Called}
use Rattle.descent_law.proofs.Given.{row_more}
use Rattle.uses_law.proofs.Operators as quiet
use Rattle.uses_law.specs.Uses.{Sort, a_name, changes, becomes, index, opens, closes, last, other, sort_of, State, calm, named, changing, opened, changed, passing, from_calm, from_name, from_passing, next, held, onward, fits_name, fits_changed, fits, walk}

abbrev Text : Type 0
Text = List Word

-- ---- one after the other

-- x is y where b holds, else it is refused there
record Comes (x : Option Bool) (b : Bool) (y : Option Bool) : Type 0 where
  is : x ≡ held b y

held_both : (a b : Bool) (o : Option Bool) → held a (held b o) ≡ held (both a b) o
held_both true b o = refl
held_both false b o = refl

chain : {x y z : Option Bool} {a b : Bool} → Comes x a y → Comes y b z → Comes x (both a b) z
chain {x} {y} {z} {a} {b} e f = record { is = e.is ∙ ap (held a) f.is ∙ held_both a b z }

onto : {x y z : Option Bool} {b : Bool} → x ≡ y → Comes y b z → Comes x b z
onto e f = record { is = e ∙ f.is }

ending : {x y z : Option Bool} {b : Bool} → Comes x b y → y ≡ z → Comes x b z
ending {b = b} e f = record { is = e.is ∙ ap (held b) f }

through : {x y : Option Bool} → x ≡ y → Comes x true y
through e = record { is = e }

-- ---- what can stand behind a name

-- neither `:=` nor `[` nor `(`
harmless : Sort → Bool
harmless a_name = true
harmless changes = true
harmless becomes = false
harmless index = false
harmless opens = false
harmless closes = true
harmless last = true
harmless other = true

harmless_next : Option Kind → Bool
harmless_next none = false
harmless_next (some k) = harmless (sort_of k)

-- whatever holds of all that can come next holds of what comes
unfoldable pub all_next : (Option Kind → Bool) → List (Option Kind) → Bool
all_next f [] = true
all_next f (x ∷ l) = f x && all_next f l

pub has_next : (f : Option Kind → Bool) (l : List (Option Kind)) (x : Option Kind) → all_next f l ≡ true → has claims l x ≡ true → f x ≡ true
unfolding has all_next
has_next f [] x t e = clash (sym e)
has_next f (y ∷ l) x t e = go (same_next claims y x) refl (has_next f l x (and_right (f y) (all_next f l) t)) e
  where
    same_next_lem : (y x : Option Kind) → same_next claims y x ≡ true → y ≡ x
    same_next_lem none none q = refl
    same_next_lem none (some x) q = clash (sym q)
    same_next_lem (some y) none q = clash (sym q)
    same_next_lem (some y) (some x) q = ap {B = Option Kind} some (claims.same_true y x q)

    go : (b : Bool) → same_next claims y x ≡ b → (has claims l x ≡ true → f x ≡ true) → elim b [ true ↦ true | false ↦ has claims l x ] ≡ true → f x ≡ true
    go true q h g = rw (same_next_lem y x q) at (and_left (f y) (all_next f l) t)
    go false q h g = h g

follow_harmless : all_next harmless_next (follow Index) ≡ true
unfolding all_next harmless_next harmless sort_of follow binding
follow_harmless = refl

-- the first row of an index is called for by what can follow it
pub index_follows : (x : Option Kind) → pick claims Index x 0 (csml Index) ≡ some 0 → has claims (follow Index) x ≡ true
unfolding pick begin_row csml claims
index_follows x e = go (has claims (follow Index) x) (has claims (some (the "[") ∷ []) x) e
  where
    go : (a b : Bool) → ◌≡◌ {A = Option ℕ} (elim a [ true ↦ some 0 | false ↦ elim b [ true ↦ some 1 | false ↦ none ] ]) (some 0) → a ≡ true
    go true b e = refl
    go false true e = let z : ◌≡◌ {A = ℕ} 1 0 = cc in absurd (omega arith)
    go false false e = let z : ◌≡◌ {A = ℕ} 1 0 = cc in absurd (omega arith)

-- ---- operators

all_quiet : quiet.AllQuiet Sort sort_of other binding
unfolding binding sort_of
all_quiet = (refl, (refl, (refl, (refl, (refl, (refl, tt))))))

-- ---- what every part says

module _ (p q : List ℕ → Bool) where
  abbrev W : State → Text → Option Bool
  W st ws = walk p q st ws

  -- each part comes to what its tree allows; where a call is passed over it changes nothing
  abbrev Met : (n : Part) → ℕ → Text → Val n → Text → Type 0
  Met Program k ws v rest = Unit
  Met Declarations k ws v rest = Unit
  Met Declaration k ws v rest = Unit
  Met Inputs k ws v rest = Unit
  Met MoreInputs k ws v rest = Unit
  Met Ending k ws v rest = Unit
  Met Booleans k ws v rest = Unit
  Met MoreBooleans k ws v rest = Unit
  Met BooleanStart k ws v rest = Unit
  Met BooleanValue k ws v rest = Unit
  Met Integers k ws v rest = Unit
  Met MoreIntegers k ws v rest = Unit
  Met IntegerStart k ws v rest = Unit
  Met Statements k ws v rest = Comes (W calm ws) (allows_all p q v) (W calm rest)
  Met AfterStatement k ws v rest = Comes (W calm ws) (allows_all p q v) (W calm rest)
  Met NextStatement k ws v rest = Comes (W calm ws) (allows_all p q v) (W calm rest)
  Met Statement k ws v rest = Comes (W calm ws) (allows p q v) (W calm rest)
  Met Else k ws v rest = Comes (W calm ws) (allows_all p q v) (W calm rest)
  Met Cases k ws v rest = (d : Commands) (o : Option Bool) → Comes (W calm rest) (allows_all p q d) o → Comes (W calm ws) (allows_tests p q (v d)) o
  Met Branches k ws v rest = Comes (W calm ws) (allows_each p q v) (W calm rest)
  Met Target k ws v rest = Comes (W opened ws) (allows_target p q v) (W calm rest)
  Met Index k ws v rest =
      ((n : Name) → Comes (W (named n.bytes) ws) (allows_term p q (name_or_bit n v)) (W calm rest))
      × ((n : Name) → Comes (W (changed n.bytes) ws) (allows_target p q (whole_or_part n v)) (W calm rest))
      × ((d : ℕ) → W (passing d) ws ≡ W (passing d) rest)
  Met Procedure k ws v rest = Unit
  Met Formals k ws v rest = Unit
  Met FormalNames k ws v rest = Unit
  Met MoreFormals k ws v rest = Unit
  Met AfterProcedure k ws v rest = Unit
  Met AfterName k ws v rest = (n : Name) → Comes (W (named n.bytes) ws) (allows p q (v n)) (W calm rest)
  Met Actuals k ws v rest = (d : ℕ) → W (passing d) ws ≡ W (passing d) rest
  Met MoreActuals k ws v rest = (d : ℕ) → W (passing d) ws ≡ W (passing d) rest
  Met (Tier n) k ws v rest = Comes (W calm ws) (allows_term p q v) (W calm rest) × ((d : ℕ) → W (passing d) ws ≡ W (passing d) rest)
  Met (Further n) k ws v rest =
      ((e : Term) (o : Option Bool) → Comes o (allows_term p q e) (W calm ws) → Comes o (allows_term p q (v e)) (W calm rest)) × ((d : ℕ) → W (passing d) ws ≡ W (passing d) rest)

  -- a word is met
  ate : (st : State) (t : Kind) {w : Word} {ws tail : Text} → ws ≡ w ∷ tail → w.kind ≡ t → W st ws ≡ held (fits p q st (sort_of t)) (onward (sort_of t) (W (next st (sort_of t) w.bytes) tail))
  unfolding walk
  ate st t {w} {ws} {tail} e f = ap (W st) e ∙ ap (λ (k : Kind). held (fits p q st (sort_of k)) (onward (sort_of k) (W (next st (sort_of k) w.bytes) tail))) f

  -- ---- a name's index

  end-named : (c : Sort) (x y : List ℕ) (ws : Text) → harmless c ≡ true → held (fits p q (named x) c) (onward c (W (next (named x) c y) ws)) ≡ held (fits p q calm c) (onward c (W (next calm c y) ws))
  unfolding harmless fits fits_name onward next from_name from_calm
  end-named a_name x y ws e = refl
  end-named changes x y ws e = refl
  end-named becomes x y ws e = clash (sym e)
  end-named index x y ws e = clash (sym e)
  end-named opens x y ws e = clash (sym e)
  end-named closes x y ws e = refl
  end-named last x y ws e = refl
  end-named other x y ws e = refl

  end-changed : (c : Sort) (x y : List ℕ) (ws : Text) → harmless c ≡ true → held (fits p q (changed x) c) (onward c (W (next (changed x) c y) ws)) ≡ held (q x) (held (fits p q calm c) (onward c (W (next calm c y) ws)))
  unfolding harmless fits fits_changed onward next from_calm
  end-changed a_name x y ws e = refl
  end-changed changes x y ws e = refl
  end-changed becomes x y ws e = clash (sym e)
  end-changed index x y ws e = clash (sym e)
  end-changed opens x y ws e = clash (sym e)
  end-changed closes x y ws e = refl
  end-changed last x y ws e = refl
  end-changed other x y ws e = refl

  no_index : (k : ℕ) (ws : Text) → Called Index ws 0 → Met Index k ws none ws
  unfolding walk harmless_next allows_term
  no_index k [] e = clash (sym (has_next harmless_next (follow Index) none follow_harmless (index_follows none e)))
  no_index k (w ∷ ws) e =
      let h = has_next harmless_next (follow Index) (some w.kind) follow_harmless (index_follows (some w.kind) e) in
      (λ n. record { is = end-named (sort_of w.kind) n.bytes w.bytes ws h }, λ n. record { is = end-changed (sort_of w.kind) n.bytes w.bytes ws h }, λ d. refl)

  -- ---- row by row

  abbrev Rows : (A : Type 0) → (Text → A → Text → Type 0) → (rows : List Line) → Makes Word Val A rows → Type 0
  Rows A R rows m = (k : ℕ) (ws rest : Text) (i : ℕ) (h : i < length rows) (vs : Values Word Val (get_or rows i [])) → RowGives Word Val kind_of Met (get_or rows i []) k ws vs rest → R ws (make Word Val A rows i h m vs) rest

  index_rows : (k : ℕ) (ws rest : Text) (i : ℕ) (h : i < length (csml Index)) (vs : Values Word Val (get_or (csml Index) i [])) → Called Index ws i
      → RowGives Word Val kind_of Met (get_or (csml Index) i []) k ws vs rest → Met Index k ws (make Word Val (Val Index) (csml Index) i h (makes Index) vs) rest
  unfolding make csml makes sort_of fits fits_name fits_changed onward next from_calm from_name from_passing allows_term
  index_rows k ws rest zero h vs c x = subst (λ (l : Text). Met Index k ws none l) x (no_index k ws c)
  index_rows k ws rest (suc zero) h vs c (t₁, a₁, b₁, (t₂, a₂, b₂, (t₃, a₃, b₃, z))) = (
    λ n. record { is = ate (named n.bytes) (the "[") a₁ b₁ ∙ ap (held (p n.bytes)) (ate calm number a₂ b₂ ∙ ate calm (the "]") a₃ b₃ ∙ ap (W calm) z) },
    λ n. record { is = ate (changed n.bytes) (the "[") a₁ b₁ ∙ ap (held (p n.bytes)) (ate calm number a₂ b₂ ∙ ate calm (the "]") a₃ b₃ ∙ ap (W calm) z) },
    λ d. ate (passing d) (the "[") a₁ b₁ ∙ ate (passing d) number a₂ b₂ ∙ ate (passing d) (the "]") a₃ b₃ ∙ ap (W (passing d)) z,
  )
  index_rows k ws rest (suc (suc i)) h vs c x = absurd (omega arith)

  -- ---- expressions

  abbrev TermMet : Text → Term → Text → Type 0
  TermMet ws v rest = Met (Tier 0) 0 ws v rest

  abbrev FurtherMet : Text → (Term → Term) → Text → Type 0
  FurtherMet ws v rest = Met (Further 0) 0 ws v rest

  operand_rows : (n : ℕ) → Rows Term TermMet (tier n none) (makes_tier n none)
  unfolding make sort_of fits onward next from_calm from_passing allows_term
  operand_rows n k ws rest zero h vs (t₁, a₁, b₁, (m₂, y₂, z)) =
      (ending (onto (ate calm name a₁ b₁) (y₂.0 (name_at vs.0))) (ap (W calm) z), λ d. ate (passing d) name a₁ b₁ ∙ y₂.2 d ∙ ap (W (passing d)) z)
  operand_rows n k ws rest (suc zero) h vs (t₁, a₁, b₁, z) = (through (ate calm number a₁ b₁ ∙ ap (W calm) z), λ d. ate (passing d) number a₁ b₁ ∙ ap (W (passing d)) z)
  operand_rows n k ws rest (suc (suc zero)) h vs (t₁, a₁, b₁, z) = (through (ate calm (the "true") a₁ b₁ ∙ ap (W calm) z), λ d. ate (passing d) (the "true") a₁ b₁ ∙ ap (W (passing d)) z)
  operand_rows n k ws rest (suc (suc (suc zero))) h vs (t₁, a₁, b₁, z) = (through (ate calm (the "false") a₁ b₁ ∙ ap (W calm) z), λ d. ate (passing d) (the "false") a₁ b₁ ∙ ap (W (passing d)) z)
  operand_rows n k ws rest (suc (suc (suc (suc zero)))) h vs (t₁, a₁, b₁, (m, g, (t₂, a₂, b₂, (m₃, y₃, (t₄, a₄, b₄, z))))) = (
    ending (onto (ate calm (the "int") a₁ b₁ ∙ ate calm (the "(") a₂ b₂) y₃.0) (ate calm (the ")") a₄ b₄ ∙ ap (W calm) z),
    λ d. ate (passing d) (the "int") a₁ b₁ ∙ ate (passing d) (the "(") a₂ b₂ ∙ y₃.1 (suc d) ∙ ate (passing (suc d)) (the ")") a₄ b₄ ∙ ap (W (passing d)) z,
  )
  operand_rows n k ws rest (suc (suc (suc (suc (suc zero))))) h vs (m, g, (t₂, a₂, b₂, (m₃, y₃, (t₄, a₄, b₄, z)))) = (
    ending (onto (ate calm (the "(") a₂ b₂) y₃.0) (ate calm (the ")") a₄ b₄ ∙ ap (W calm) z),
    λ d. ate (passing d) (the "(") a₂ b₂ ∙ y₃.1 (suc d) ∙ ate (passing (suc d)) (the ")") a₄ b₄ ∙ ap (W (passing d)) z,
  )
  operand_rows n k ws rest (suc (suc (suc (suc (suc (suc i)))))) h vs x = absurd (omega arith)

  -- an operator is no word that matters
  on_calm : (op : String) {w : Word} {ws tail : Text} → sort_of (the op) ≡ other → ws ≡ w ∷ tail → w.kind ≡ the op → W calm ws ≡ W calm tail
  unfolding fits onward next from_calm
  on_calm op {w} {ws} {tail} o a b = ate calm (the op) a b ∙ ap (λ (c : Sort). held (fits p q calm c) (onward c (W (next calm c w.bytes) tail))) o

  on_passing : (d : ℕ) (op : String) {w : Word} {ws tail : Text} → sort_of (the op) ≡ other → ws ≡ w ∷ tail → w.kind ≡ the op → W (passing d) ws ≡ W (passing d) tail
  unfolding fits onward next from_passing
  on_passing d op {w} {ws} {tail} o a b = ate (passing d) (the op) a b ∙ ap (λ (c : Sort). held (fits p q (passing d) c) (onward c (W (next (passing d) c w.bytes) tail))) o

  tier-rows : (n : ℕ) (s : Option Strength) → quiet.Quiet Sort sort_of other s → Rows Term TermMet (tier n s) (makes_tier n s)
  unfolding make allows_term
  tier-rows n none o = operand_rows n
  tier-rows n (some (between ops)) o = go
    where
      go : Rows Term TermMet (tier n (some (between ops))) (makes_tier n (some (between ops)))
      go k ws rest zero h vs (m₁, y₁, (m₂, y₂, z)) = (ending (y₂.0 vs.0 (W calm ws) y₁.0) (ap (W calm) z), λ d. y₁.1 d ∙ y₂.1 d ∙ ap (W (passing d)) z)
      go k ws rest (suc i) h vs x = absurd (omega arith)
  tier-rows n (some (before op)) o = go
    where
      go : Rows Term TermMet (tier n (some (before op))) (makes_tier n (some (before op)))
      go k ws rest zero h vs (m, g, (t₁, a₁, b₁, (m₂, y₂, z))) =
          (ending (onto (on_calm op o a₁ b₁) y₂.0) (ap (W calm) z), λ d. on_passing d op o a₁ b₁ ∙ y₂.1 d ∙ ap (W (passing d)) z)
      go k ws rest (suc zero) h vs (m₁, y₁, z) = (ending y₁.0 (ap (W calm) z), λ d. y₁.1 d ∙ ap (W (passing d)) z)
      go k ws rest (suc (suc i)) h vs x = absurd (omega arith)

  -- an operator allows what its operands do
  abbrev Joins : List Operator → Type 0
  Joins [] = Unit
  Joins (o ∷ os) = ((at : ℕ) (a b : Term) → allows_term p q (o.joins at a b) ≡ both (allows_term p q a) (allows_term p q b)) × Joins os

  joins : Joins operators
  unfolding operators allows_term
  joins = (λ at a b. refl, (λ at a b. refl, (λ at a b. refl, (λ at a b. refl, (λ at a b. refl, (λ at a b. refl, (λ at a b. refl, (λ at a b. refl, (λ at a b. refl, (λ at a b. refl, (λ at a b. refl, tt)))))))))))

  joined-allows : (os : List Operator) → Joins os → (s : String) (at : ℕ) (a b : Term) → allows_term p q (joined_by os s at a b) ≡ both (allows_term p q a) (allows_term p q b)
  unfolding joined_by allows_term
  joined-allows [] f s at a b = refl
  joined-allows (o ∷ os) f s at a b = by (same (bytes o.sign) (bytes s)) (joined-allows os f.1 s at a b)
    where
      by : (t : Bool) → allows_term p q (joined_by os s at a b) ≡ both (allows_term p q a) (allows_term p q b) → allows_term p q (cond t o.joins (joined_by os s) at a b) ≡ both (allows_term p q a) (allows_term p q b)
      by true x = f.0 at a b
      by false x = x

  operator_rows : (n : ℕ) (ops : List String) → quiet.AllOther Sort sort_of other ops → Rows (Term → Term) FurtherMet (map (λ op. op ▸ Tier (suc n) ▹ Further n ▹ ε) ops) (makes_operators n ops)
  unfolding make makes_operators
  operator_rows n [] o k ws rest i h vs x = absurd (omega arith)
  operator_rows n (op ∷ ops) o k ws rest zero h vs (t₁, a₁, b₁, (m₂, y₂, (m₃, y₃, z))) = (
    λ e u c. ending (y₃.0 (joined_by operators op vs.0.place e vs.1.0) u (subst (λ (b : Bool). Comes u b (W calm m₂)) (sym (joined-allows operators joins op vs.0.place e vs.1.0)) (chain c (onto (on_calm op (quiet.first-other Sort sort_of other op ops o) a₁ b₁) y₂.0)))) (ap (W calm) z),
    λ d. on_passing d op (quiet.first-other Sort sort_of other op ops o) a₁ b₁ ∙ y₂.1 d ∙ y₃.1 d ∙ ap (W (passing d)) z,
  )
  operator_rows n (op ∷ ops) o k ws rest (suc i) h vs x = operator_rows n ops (quiet.later-other Sort sort_of other op ops o) k ws rest i (le_of_suc-le-suc h) vs x

  nothing-further : (ws rest : Text) → ws ≡ rest → FurtherMet ws (λ left. left) rest
  nothing-further ws rest z = (λ e u c. ending c (ap (W calm) z), λ d. ap (W (passing d)) z)

  further-rows : (n : ℕ) (s : Option Strength) → quiet.Quiet Sort sort_of other s → Rows (Term → Term) FurtherMet (further n s) (makes_further n s)
  unfolding make
  further-rows n none o k ws rest zero h vs x = nothing-further ws rest x
  further-rows n none o k ws rest (suc i) h vs x = absurd (omega arith)
  further-rows n (some (between ops)) o k ws rest zero h vs x = nothing-further ws rest x
  further-rows n (some (between ops)) o k ws rest (suc i) h vs x = operator_rows n ops o k ws rest i (le_of_suc-le-suc h) vs x
  further-rows n (some (before op)) o k ws rest zero h vs x = nothing-further ws rest x
  further-rows n (some (before op)) o k ws rest (suc i) h vs x = absurd (omega arith)

  tier-all : (n : ℕ) → Rows Term TermMet (csml (Tier n)) (makes (Tier n))
  unfolding csml makes
  tier-all n = tier-rows n (get_elem? binding n) (quiet.quiet_at Sort sort_of other binding n all_quiet)

  further-all : (n : ℕ) → Rows (Term → Term) FurtherMet (csml (Further n)) (makes (Further n))
  unfolding csml makes
  further-all n = further-rows n (get_elem? binding n) (quiet.quiet_at Sort sort_of other binding n all_quiet)

  -- ---- statements

  target-rows : Rows (tree.Target Name) (λ ws v rest. Met Target 0 ws v rest) (csml Target) (makes Target)
  unfolding make csml makes sort_of fits onward next
  target-rows k ws rest zero h vs (t₁, a₁, b₁, (m₂, y₂, z)) = ending (onto (ate opened name a₁ b₁) (y₂.1 (name_at vs.0))) (ap (W calm) z)
  target-rows k ws rest (suc i) h vs x = absurd (omega arith)

  after-name-rows : Rows (Name → Command) (λ ws v rest. Met AfterName 0 ws v rest) (csml AfterName) (makes AfterName)
  unfolding make csml makes sort_of fits fits_name onward next from_name from_passing allows
  after-name-rows k ws rest zero h vs (t₁, a₁, b₁, (m₂, y₂, z)) n = ending (chain {a = p n.bytes} (record { is = ate (named n.bytes) (the ":=") a₁ b₁ }) y₂.0) (ap (W calm) z)
  after-name-rows k ws rest (suc zero) h vs (m, g, (t₁, a₁, b₁, (m₂, y₂, (t₃, a₃, b₃, z)))) n = through (ate (named n.bytes) (the "(") a₁ b₁ ∙ y₂ 0 ∙ ate (passing 0) (the ")") a₃ b₃ ∙ ap (W calm) z)
  after-name-rows k ws rest (suc (suc i)) h vs x n = absurd (omega arith)

  actuals-rows : Rows (List Term) (λ ws v rest. Met Actuals 0 ws v rest) (csml Actuals) (makes Actuals)
  unfolding make csml makes
  actuals-rows k ws rest zero h vs z d = ap (W (passing d)) z
  actuals-rows k ws rest (suc zero) h vs (m₁, y₁, (m₂, y₂, z)) d = y₁.1 d ∙ y₂ d ∙ ap (W (passing d)) z
  actuals-rows k ws rest (suc (suc i)) h vs x d = absurd (omega arith)

  more-actuals-rows : Rows (List Term) (λ ws v rest. Met MoreActuals 0 ws v rest) (csml MoreActuals) (makes MoreActuals)
  unfolding make csml makes sort_of fits onward next from_passing
  more-actuals-rows k ws rest zero h vs z d = ap (W (passing d)) z
  more-actuals-rows k ws rest (suc zero) h vs (t₀, a₀, b₀, (m₁, y₁, (m₂, y₂, z))) d = ate (passing d) (the ",") a₀ b₀ ∙ y₁.1 d ∙ y₂ d ∙ ap (W (passing d)) z
  more-actuals-rows k ws rest (suc (suc i)) h vs x d = absurd (omega arith)

  -- the end of a list, or what stands behind a word
  list-end : (ws rest : Text) → ws ≡ rest → Comes (W calm ws) (allows_all p q end) (W calm rest)
  unfolding allows_all
  list-end ws rest z = through (ap (W calm) z)

  statements-rows : Rows Commands (λ ws v rest. Met Statements 0 ws v rest) (csml Statements) (makes Statements)
  unfolding make csml makes allows_all
  statements-rows k ws rest zero h vs (m₁, y₁, (m₂, y₂, z)) = ending (chain y₁ y₂) (ap (W calm) z)
  statements-rows k ws rest (suc i) h vs x = absurd (omega arith)

  after-rows : Rows Commands (λ ws v rest. Met AfterStatement 0 ws v rest) (csml AfterStatement) (makes AfterStatement)
  unfolding make csml makes sort_of fits onward next from_calm
  after-rows k ws rest zero h vs z = list-end ws rest z
  after-rows k ws rest (suc zero) h vs (t₁, a₁, b₁, (m₂, y₂, z)) = ending (onto (ate calm (the ";") a₁ b₁) y₂) (ap (W calm) z)
  after-rows k ws rest (suc (suc i)) h vs x = absurd (omega arith)

  next-rows : Rows Commands (λ ws v rest. Met NextStatement 0 ws v rest) (csml NextStatement) (makes NextStatement)
  unfolding make csml makes
  next-rows k ws rest zero h vs z = list-end ws rest z
  next-rows k ws rest (suc zero) h vs (m₂, y₂, z) = ending y₂ (ap (W calm) z)
  next-rows k ws rest (suc (suc i)) h vs x = absurd (omega arith)

  else_rows : Rows Commands (λ ws v rest. Met Else 0 ws v rest) (csml Else) (makes Else)
  unfolding make csml makes sort_of fits onward next from_calm
  else_rows k ws rest zero h vs z = list-end ws rest z
  else_rows k ws rest (suc zero) h vs (t₁, a₁, b₁, (m₂, y₂, z)) = ending (onto (ate calm (the "else") a₁ b₁) y₂) (ap (W calm) z)
  else_rows k ws rest (suc (suc i)) h vs x = absurd (omega arith)

  cases_rows : Rows (Commands → Tests) (λ ws v rest. Met Cases 0 ws v rest) (csml Cases) (makes Cases)
  unfolding make csml makes sort_of fits onward next from_calm allows_tests
  cases_rows k ws rest zero h vs z d o c = onto (ap (W calm) z) c
  cases_rows k ws rest (suc zero) h vs (t₁, a₁, b₁, (m₂, y₂, (t₃, a₃, b₃, (m₄, y₄, (m₅, y₅, z))))) d o c =
      onto (ate calm (the "case") a₁ b₁) (chain y₂.0 (onto (ate calm (the ":") a₃ b₃) (chain y₄ (y₅ d o (onto (ap (W calm) z) c)))))
  cases_rows k ws rest (suc (suc i)) h vs x d o c = absurd (omega arith)

  branches_rows : Rows Strands (λ ws v rest. Met Branches 0 ws v rest) (csml Branches) (makes Branches)
  unfolding make csml makes sort_of fits onward next from_calm allows_each
  branches_rows k ws rest zero h vs z = through (ap (W calm) z)
  branches_rows k ws rest (suc zero) h vs (t₁, a₁, b₁, (m₂, y₂, (m₃, y₃, z))) = onto (ate calm (the "||") a₁ b₁) (ending (chain y₂ y₃) (ap (W calm) z))
  branches_rows k ws rest (suc (suc i)) h vs x = absurd (omega arith)

  statement-rows : Rows Command (λ ws v rest. Met Statement 0 ws v rest) (csml Statement) (makes Statement)
  unfolding make csml makes sort_of fits onward next from_calm allows allows_tests allows_each
  statement-rows k ws rest zero h vs (t₁, a₁, b₁, z) =
      through (ate calm (the "skip") a₁ b₁ ∙ ap (W calm) z)
  statement-rows k ws rest (suc zero) h vs (t₁, a₁, b₁, (t₂, a₂, b₂, z)) =
      through (ate calm (the "delay") a₁ b₁ ∙ ate calm number a₂ b₂ ∙ ap (W calm) z)
  statement-rows k ws rest (suc (suc zero)) h vs (t₁, a₁, b₁, (m, g, (t₂, a₂, b₂, (m₃, y₃, (t₄, a₄, b₄, z))))) =
      ending (onto (ate calm (the "raise") a₁ b₁ ∙ ate changing (the "(") a₂ b₂) y₃) (ate calm (the ")") a₄ b₄ ∙ ap (W calm) z)
  statement-rows k ws rest (suc (suc (suc zero))) h vs (t₁, a₁, b₁, (m, g, (t₂, a₂, b₂, (m₃, y₃, (t₄, a₄, b₄, z))))) =
      ending (onto (ate calm (the "lower") a₁ b₁ ∙ ate changing (the "(") a₂ b₂) y₃) (ate calm (the ")") a₄ b₄ ∙ ap (W calm) z)
  statement-rows k ws rest (suc (suc (suc (suc zero)))) h vs (t₁, a₁, b₁, (m, g, (t₂, a₂, b₂, (m₃, y₃, (t₄, a₄, b₄, z))))) =
      ending (onto (ate calm (the "invert") a₁ b₁ ∙ ate changing (the "(") a₂ b₂) y₃) (ate calm (the ")") a₄ b₄ ∙ ap (W calm) z)
  statement-rows k ws rest (suc (suc (suc (suc (suc zero))))) h vs (t₁, a₁, b₁, (m₂, y₂, z)) =
      ending (onto (ate calm name a₁ b₁) (y₂ (name_at vs.0))) (ap (W calm) z)
  statement-rows k ws rest (suc (suc (suc (suc (suc (suc zero)))))) h vs (m, g, (t₁, a₁, b₁, (m₂, y₂, (t₃, a₃, b₃, (m₄, y₄, (m₅, y₅, (t₆, a₆, b₆, z))))))) =
      onto (ate calm (the "if") a₁ b₁) (chain y₂.0 (onto (ate calm (the "then") a₃ b₃) (ending (chain y₄ y₅) (ate calm (the "endif") a₆ b₆ ∙ ap (W calm) z))))
  statement-rows k ws rest (suc (suc (suc (suc (suc (suc (suc zero))))))) h vs (m, g, (t₁, a₁, b₁, (m₂, y₂, (t₃, a₃, b₃, (t₄, a₄, b₄, (m₅, y₅, (t₆, a₆, b₆, z))))))) =
      onto (ate calm (the "while") a₁ b₁) (chain y₂.0 (onto (ate calm (the "do") a₃ b₃ ∙ ate calm (the "loop") a₄ b₄) (ending y₅ (ate calm (the "endloop") a₆ b₆ ∙ ap (W calm) z))))
  statement-rows k ws rest (suc (suc (suc (suc (suc (suc (suc (suc zero)))))))) h vs (m, g, (t₁, a₁, b₁, (m₂, y₂, (t₃, a₃, b₃, z)))) =
      onto (ate calm (the "loop") a₁ b₁) (ending y₂ (ate calm (the "endloop") a₃ b₃ ∙ ap (W calm) z))
  statement-rows k ws rest (suc (suc (suc (suc (suc (suc (suc (suc (suc zero))))))))) h vs (t₁, a₁, b₁, z) =
      through (ate calm (the "exit") a₁ b₁ ∙ ap (W calm) z)
  statement-rows k ws rest (suc (suc (suc (suc (suc (suc (suc (suc (suc (suc zero)))))))))) h vs (m, g, (t₁, a₁, b₁, (t₂, a₂, b₂, (m₃, y₃, (t₄, a₄, b₄, (m₅, y₅, (m₆, y₆, (t₇, a₇, b₇, (t₈, a₈, b₈, (m₉, y₉, (t₀, a₀, b₀, z))))))))))) =
      onto (ate calm (the "switch") a₁ b₁ ∙ ate calm (the "case") a₂ b₂)
      (chain y₃.0 (onto (ate calm (the ":") a₄ b₄) (chain y₅ (y₆ vs.1.1.1.1.1.1.1.1.0 (W calm rest)
      (onto (ate calm (the "default") a₇ b₇ ∙ ate calm (the ":") a₈ b₈) (ending y₉ (ate calm (the "endswitch") a₀ b₀ ∙ ap (W calm) z)))))))
  statement-rows k ws rest (suc (suc (suc (suc (suc (suc (suc (suc (suc (suc (suc zero))))))))))) h vs (t₁, a₁, b₁, z) =
      through (ate calm (the "break") a₁ b₁ ∙ ap (W calm) z)
  statement-rows k ws rest (suc (suc (suc (suc (suc (suc (suc (suc (suc (suc (suc (suc zero)))))))))))) h vs (m, g, (t₁, a₁, b₁, (m₂, y₂, (t₃, a₃, b₃, (m₄, y₄, (m₅, y₅, (t₆, a₆, b₆, z))))))) =
      onto (ate calm (the "parallel") a₁ b₁) (chain y₂ (onto (ate calm (the "||") a₃ b₃) (ending (chain y₄ y₅) (ate calm (the "endparallel") a₆ b₆ ∙ ap (W calm) z))))
  statement-rows k ws rest (suc (suc (suc (suc (suc (suc (suc (suc (suc (suc (suc (suc (suc i))))))))))))) h vs x = absurd (omega arith)

  rows : (n : Part) (k : ℕ) (ws rest : Text) (i : ℕ) (h : i < length (csml n)) (vs : Values Word Val (get_or (csml n) i [])) → Called n ws i
      → RowGives Word Val kind_of Met (get_or (csml n) i []) k ws vs rest → Met n k ws (make Word Val (Val n) (csml n) i h (makes n) vs) rest
  rows Program k ws rest i h vs c x = tt
  rows Declarations k ws rest i h vs c x = tt
  rows Declaration k ws rest i h vs c x = tt
  rows Inputs k ws rest i h vs c x = tt
  rows MoreInputs k ws rest i h vs c x = tt
  rows Ending k ws rest i h vs c x = tt
  rows Booleans k ws rest i h vs c x = tt
  rows MoreBooleans k ws rest i h vs c x = tt
  rows BooleanStart k ws rest i h vs c x = tt
  rows BooleanValue k ws rest i h vs c x = tt
  rows Integers k ws rest i h vs c x = tt
  rows MoreIntegers k ws rest i h vs c x = tt
  rows IntegerStart k ws rest i h vs c x = tt
  rows Procedure k ws rest i h vs c x = tt
  rows Formals k ws rest i h vs c x = tt
  rows FormalNames k ws rest i h vs c x = tt
  rows MoreFormals k ws rest i h vs c x = tt
  rows AfterProcedure k ws rest i h vs c x = tt
  rows Statements k ws rest i h vs c x = statements-rows k ws rest i h vs x
  rows AfterStatement k ws rest i h vs c x = after-rows k ws rest i h vs x
  rows NextStatement k ws rest i h vs c x = next-rows k ws rest i h vs x
  rows Statement k ws rest i h vs c x = statement-rows k ws rest i h vs x
  rows Else k ws rest i h vs c x = else_rows k ws rest i h vs x
  rows Cases k ws rest i h vs c x = cases_rows k ws rest i h vs x
  rows Branches k ws rest i h vs c x = branches_rows k ws rest i h vs x
  rows Target k ws rest i h vs c x = target-rows k ws rest i h vs x
  rows AfterName k ws rest i h vs c x = after-name-rows k ws rest i h vs x
  rows Actuals k ws rest i h vs c x = actuals-rows k ws rest i h vs x
  rows MoreActuals k ws rest i h vs c x = more-actuals-rows k ws rest i h vs x
  rows Index k ws rest i h vs c x = index_rows k ws rest i h vs c x
  rows (Tier n) k ws rest i h vs c x = tier-all n k ws rest i h vs x
  rows (Further n) k ws rest i h vs c x = further-all n k ws rest i h vs x

  met : (f : ℕ) (n : Part) (k : ℕ) (ws : Text) (v : Val n) (rest : Text) → Told f n k ws v rest → Met n k ws v rest
  unfolding Gives
  met zero n k ws v rest x = absurd x
  met (suc f) n k ws v rest (i, h, c, vs, e, x) = subst (λ (y : Val n). Met n k ws y rest) (sym e) (rows n k ws rest i h vs c (row_more Word Val kind_of (Told f) Met (met f) (row_at csml n i) k ws vs rest x))

  -- P7: the walk over a body's words, with `endproc` behind them
  pub walked : (f k : ℕ) (ws : Text) (v : Commands) (x : Word) (rest : Text) → Told f Statements k ws v (x ∷ rest) → x.kind ≡ the "endproc" → walk p q calm ws ≡ some (allows_all p q v)
  unfolding sort_of fits onward next
  walked f k ws v x rest y e = (met f Statements k ws v (x ∷ rest) y).is ∙ ap (held (allows_all p q v)) (ate calm (the "endproc") refl e) ∙ settled (allows_all p q v)
    where
      settled : (b : Bool) → held b (some true) ≡ some b
      settled true = refl
      settled false = refl
