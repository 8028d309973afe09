-- An actual that is one name or one bit and no more: its text is that, with the `,` or the `)` behind it.
-- Assumes nothing.
use mathlib.Core.Bool.{Bool, true, false, cond}
use mathlib.Core.Path.{◌≡◌, refl, sym, ◌∙◌, ap}
use mathlib.Core.List.{List, ◌∷◌}
use mathlib.Core.Option.{Option, none, some}
use Prim.Native.Nat.{ℕ, zero, suc, ◌<◌}
use Prim.Native.String.{String}
use native.Mathlib.Omega.{arith}
use lib.Dec.{eqb}
use lib.ListN.{get_elem?}
use borrow.Author.Tests.{eqb-true, ne_eqb}
use Rattle.meaning.specs.Unexpanded.{Term, variable, bit}
use Rattle.ll1.proofs.Tests.{has, begin_row, pick}
use Rattle.language.specs.Words.{Kind, name, the, Word, signs, reserved}
use Rattle.language.specs.Grammar.{Part, Tier, Further, Index, between, before, binding, csml}
use Rattle.language.specs.Trees.{name_at, number_at, name_or_bit}
use Rattle.language.proofs.Claims.{claims, first, empty, follow}
use Rattle.words.specs.Kinds.{spellings, numbered, kind_count}
use Rattle.descent_law.specs.Told.{Told, Called, OperandRow, TierRow, FurtherRow, IndexRow}
use Rattle.descent_law.proofs.Expressions.{tier-told, further-told, index_told}
use Rattle.hand.proofs.Chosen.{up_to, up_to_lem, Pick}
use Rattle.frames_law.specs.Operators.{operator_kind}

-- the row that a word of this kind calls for
abbrev pub For : Part → Kind → ℕ → Type 0
For n t i = pick claims n (some t) 0 (csml n) ≡ some i

pub same_row_lem : {i j : ℕ} {o : Option ℕ} → o ≡ some i → o ≡ some j → i ≡ j
same_row_lem e f = cc

-- a word at which an expression has ended: no row but the empty one is called for
abbrev pub Ends : Kind → Type 0
Ends t = (n : ℕ) (ops : List String) → get_elem? binding n ≡ some (between ops) → (i : ℕ) → For (Further n) t i → i ≡ 0

-- where an operand that begins with a name comes to x, and an expression ends behind it, so does the whole
module _ (w c : Word) (tail ws : List Word) (x : Term) (named : w.kind ≡ name) (ends : Ends c.kind) where
  abbrev Only : Term → List Word → Type 0
  Only v rest = (v ≡ x) × (rest ≡ c ∷ ws)

  abbrev All : ℕ → Type 0
  All n = (f k : ℕ) (v : Term) (rest : List Word) → Told f (Tier n) k (w ∷ tail) v rest → Only v rest

  calls : (n i j : ℕ) → For (Tier n) name j → Called (Tier n) (w ∷ tail) i → j ≡ i
  calls n i j e p = same_row_lem e (rw named at p)

  joined : (n : ℕ) (ops : List String) → get_elem? binding n ≡ some (between ops) → All (suc n) → All n
  joined n ops e next f k v rest y = let (f₁, i, p, row) = tier-told f n k (w ∷ tail) v rest y in go f₁ i (rw e at row)
    where
      last : (mid : List Word) (left : Term) (g : Term → Term) (f₂ j : ℕ) → v ≡ g left → Only left mid → Called (Further n) mid j → FurtherRow f₂ n k mid g rest j → Only v rest
      last mid left g f₂ zero q (a, b) p (s, t) = (q ∙ ap (λ (h : Term → Term). h left) s ∙ a, sym t ∙ b)
      last mid left g f₂ (suc j) q (a, b) p row = absurd (let z : suc j ≡ 0 = ends n ops e (suc j) (rw b at p) in omega arith)

      go : (f₁ i : ℕ) → TierRow f₁ n k (w ∷ tail) v rest (some (between ops)) i → Only v rest
      go f₁ i (mid, left, g, y, z, q) =
          let (f₂, j, p, row) = further-told f₁ n k mid g rest z in
          last mid left g f₂ j q (next f₁ k left mid y) p row

  bare : (n : ℕ) (op : String) → get_elem? binding n ≡ some (before op) → For (Tier n) name 1 → All (suc n) → All n
  bare n op e one next f k v rest y = let (f₁, i, p, row) = tier-told f n k (w ∷ tail) v rest y in go f₁ i (calls n i 1 one p) (rw e at row)
    where
      go : (f₁ i : ℕ) → 1 ≡ i → TierRow f₁ n k (w ∷ tail) v rest (some (before op)) i → Only v rest
      go f₁ zero q row = absurd (omega arith)
      go f₁ (suc i) q row = next f₁ k v rest row

  operand : (n : ℕ) → get_elem? binding n ≡ none → For (Tier n) name 0 → ((f k : ℕ) (v : Term) (rest : List Word) → OperandRow f k (w ∷ tail) v rest 0 → Only v rest) → All n
  operand n e one next f k v rest y = let (f₁, i, p, row) = tier-told f n k (w ∷ tail) v rest y in go f₁ i (calls n i 0 one p) (rw e at row)
    where
      go : (f₁ i : ℕ) → 0 ≡ i → TierRow f₁ n k (w ∷ tail) v rest none i → Only v rest
      go f₁ zero q row = next f₁ k v rest row
      go f₁ (suc i) q row = absurd (omega arith)

  all_tiers : ((f k : ℕ) (v : Term) (rest : List Word) → OperandRow f k (w ∷ tail) v rest 0 → Only v rest) → All 0
  unfolding has begin_row pick csml binding claims first empty follow
  all_tiers next = joined 0 _ refl (joined 1 _ refl (joined 2 _ refl (bare 3 _ refl refl (joined 4 _ refl (joined 5 _ refl (operand 6 refl refl next))))))

-- ---- the operand

module _ (w c : Word) (ws : List Word) (ends : (i : ℕ) → For Index c.kind i → i ≡ 0) where
  pub name-operand : (f k : ℕ) (v : Term) (rest : List Word) → OperandRow f k (w ∷ c ∷ ws) v rest 0 → (v ≡ variable (name_at w)) × (rest ≡ c ∷ ws)
  name-operand f k v rest (x, tail, j, a, y, d) = let (i, p, row) = index_told f k tail j rest y in last x tail j i a d p row
    where
      last : (x : Word) (tail : List Word) (j : Option ℕ) (i : ℕ) → w ∷ c ∷ ws ≡ x ∷ tail → v ≡ name_or_bit (name_at x) j → Called Index tail i → IndexRow tail j rest i → (v ≡ variable (name_at w)) × (rest ≡ c ∷ ws)
      last x tail j zero q d p (a, b) =
          let same : x ≡ w = cc in
          let behind : tail ≡ c ∷ ws = cc in
          (d ∙ ap (name_or_bit (name_at x)) a ∙ ap (λ (y : Word). variable (name_at y)) same, sym b ∙ behind)
      last x tail j (suc i) q d p row =
          let behind : tail ≡ c ∷ ws = cc in
          absurd (let z : suc i ≡ 0 = ends (suc i) (rw behind at p) in omega arith)

pub opens : For Index (the "[") 1
unfolding has begin_row pick csml claims first empty follow
opens = refl

module _ (w o m b c : Word) (ws : List Word) (index : o.kind ≡ the "[") where
  pub bit-operand : (f k : ℕ) (v : Term) (rest : List Word) → OperandRow f k (w ∷ o ∷ m ∷ b ∷ c ∷ ws) v rest 0 → (v ≡ bit (name_at w) (number_at m)) × (rest ≡ c ∷ ws)
  bit-operand f k v rest (x, tail, j, a, y, d) = let (i, p, row) = index_told f k tail j rest y in last x tail j i a d p row
    where
      last : (x : Word) (tail : List Word) (j : Option ℕ) (i : ℕ) → w ∷ o ∷ m ∷ b ∷ c ∷ ws ≡ x ∷ tail → v ≡ name_or_bit (name_at x) j → Called Index tail i → IndexRow tail j rest i
          → (v ≡ bit (name_at w) (number_at m)) × (rest ≡ c ∷ ws)
      last x tail j zero q d p row =
          let behind : tail ≡ o ∷ m ∷ b ∷ c ∷ ws = cc in
          absurd (let z : 1 ≡ 0 = same_row_lem opens (rw (behind, index) at p) in omega arith)
      last x tail j (suc i) q d p (y₁, y₂, y₃, a, n, e) =
          let same : x ≡ w = cc in
          let inside : y₂ ≡ m = cc in
          let behind : rest ≡ c ∷ ws = cc in
          (d ∙ ap (name_or_bit (name_at x)) e ∙ ap (λ (y : Word). bit (name_at y) (number_at y₂)) same ∙ ap (λ (y : Word). bit (name_at w) (number_at y)) inside, behind)

-- ---- the two

module _ (w c : Word) (ws : List Word) (named : w.kind ≡ name) (ends : Ends c.kind) (plain : (i : ℕ) → For Index c.kind i → i ≡ 0) where
  pub one_name_lem : (f k : ℕ) (v : Term) (rest : List Word) → Told f (Tier 0) k (w ∷ c ∷ ws) v rest → (v ≡ variable (name_at w)) × (rest ≡ c ∷ ws)
  one_name_lem = all_tiers w c (c ∷ ws) ws (variable (name_at w)) named ends (name-operand w c ws plain)

module _ (w o m b c : Word) (ws : List Word) (named : w.kind ≡ name) (index : o.kind ≡ the "[") (ends : Ends c.kind) where
  pub one_bit_lem : (f k : ℕ) (v : Term) (rest : List Word) → Told f (Tier 0) k (w ∷ o ∷ m ∷ b ∷ c ∷ ws) v rest → (v ≡ bit (name_at w) (number_at m)) × (rest ≡ c ∷ ws)
  one_bit_lem = all_tiers w c (o ∷ m ∷ b ∷ c ∷ ws) ws (bit (name_at w) (number_at m)) named ends (bit-operand w o m b c ws index)

-- ---- by the number of a word's kind

pub none_between : (ops : List String) → get_elem? binding 3 ≡ some (between ops) → ⊥
unfolding binding
none_between ops q = let z : ◌≡◌ {A = ℕ} 0 1 = cc in omega arith

past-between : (n : ℕ) (ops : List String) → get_elem? binding (suc (suc (suc (suc (suc (suc n)))))) ≡ some (between ops) → ⊥
unfolding binding
past-between n ops q = let z : ◌≡◌ {A = ℕ} 0 1 = cc in omega arith

-- what is so of the five strengths with operators between
pub each_strength : (P : ℕ → Type 0) → P 0 → P 1 → P 2 → P 4 → P 5 → (n : ℕ) (ops : List String) → get_elem? binding n ≡ some (between ops) → P n
each_strength P a b c d e zero ops q = a
each_strength P a b c d e (suc zero) ops q = b
each_strength P a b c d e (suc (suc zero)) ops q = c
each_strength P a b c d e (suc (suc (suc zero))) ops q = absurd (none_between ops q)
each_strength P a b c d e (suc (suc (suc (suc zero)))) ops q = d
each_strength P a b c d e (suc (suc (suc (suc (suc zero))))) ops q = e
each_strength P a b c d e (suc (suc (suc (suc (suc (suc n)))))) ops q = absurd (past-between n ops q)

-- no row, or the empty one
zero_at : Option ℕ → Bool
zero_at none = true
zero_at (some i) = eqb i 0

zero_at_lem : {o : Option ℕ} (i : ℕ) → zero_at o ≡ true → o ≡ some i → i ≡ 0
unfolding zero_at
zero_at_lem {o} i e q = let z : zero_at (some i) ≡ true = rw q at e in eqb-true i 0 z

-- .. by a word that is no operator
quiet : ℕ → ℕ → Bool
quiet n k = cond (operator_kind k) true (zero_at (Pick (Further n) k))

quiet_at : (n : ℕ) → up_to (quiet n) kind_count ≡ true → (k : ℕ) → k < kind_count → operator_kind k ≡ false → (i : ℕ) → Pick (Further n) k ≡ some i → i ≡ 0
unfolding quiet
quiet_at n test k h e i q = zero_at_lem i (rw e at (up_to_lem (quiet n) kind_count k test h)) q

unindexed : ℕ → Bool
unindexed k = cond (eqb k 16) true (zero_at (Pick Index k))

no_index : up_to unindexed kind_count ≡ true
unfolding up_to unindexed zero_at has begin_row pick csml claims first empty follow numbered spellings signs reserved
no_index = refl

pub no_bit : (k : ℕ) → k < kind_count → ¬ (k ≡ 16) → (i : ℕ) → For Index (numbered k) i → i ≡ 0
unfolding unindexed
no_bit k h g i q = zero_at_lem i (rw (ne_eqb k 16 g) at (up_to_lem unindexed kind_count k no_index h)) q

pub kind-ends : (k : ℕ) → k < kind_count → operator_kind k ≡ false → Ends (numbered k)
unfolding up_to quiet zero_at has begin_row pick csml binding claims first empty follow numbered spellings signs reserved operator_kind
kind-ends k h e = each_strength (λ n. (i : ℕ) → Pick (Further n) k ≡ some i → i ≡ 0) (quiet_at 0 refl k h e) (quiet_at 1 refl k h e) (quiet_at 2 refl k h e) (quiet_at 4 refl k h e) (quiet_at 5 refl k h e)
