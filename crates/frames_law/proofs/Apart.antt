-- An actual that is neither one name nor one bit: it begins with no name, or an operator stands behind the name or the bit.
-- Assumes nothing.
use mathlib.Core.Bool.{Bool, true, false, ◌&&◌, cond, not as opposite}
use mathlib.Core.Path.{◌≡◌, refl, sym, ◌∙◌, ap}
use mathlib.Core.Logic.{◌⊎◌, inl, inr}
use mathlib.Core.List.{List, [], ◌∷◌, map}
use mathlib.Core.Option.{Option, none, some}
use Prim.Native.Nat.{ℕ, zero, suc, ◌≤◌, ◌<◌}
use Prim.Native.String.{String}
use native.Mathlib.Nat.{le_of_suc-le-suc}
use native.Mathlib.Decide.{dec_lt}
use native.Mathlib.Omega.{arith}
use lib.Dec.{eqb}
use lib.ListN.{length, get_or, get_elem?}
use borrow.Author.Tests.{eqb-true}
use Rattle.meaning.specs.Unexpanded.{Term, literal}
use Rattle.meaning.specs.Expansion.{neither, form_of}
use Rattle.ll1.specs.Values.{Values, make}
use Rattle.ll1.proofs.Tests.{has, begin_row, pick}
use Rattle.ll1.proofs.Sets.{clash}
use Rattle.language.specs.Words.{name, number, Word, bytes, same, signs, reserved}
use Rattle.language.specs.Grammar.{Tier, Further, Index, ◌▸◌, ◌▹◌, ε, Line, Strength, between, before, binding, further, csml}
use Rattle.language.specs.Trees.{Val, Operator, operators, joined_by, makes_operators, makes_further, makes}
use Rattle.language.proofs.Claims.{claims, first, empty, follow}
use Rattle.words.specs.Kinds.{spellings, numbered, kind_count}
use Rattle.descent_law.specs.Gives.{RowGives, Gives}
use Rattle.descent_law.specs.Told.{kind_of, Told, Called, OperandRow, TierRow, FurtherRow, IndexRow}
use Rattle.descent_law.proofs.Expressions.{tier-told, further-told, index_told}
use Rattle.hand.proofs.Chosen.{up_to, up_to_lem, called_by_lem, Pick}
use Rattle.frames_law.specs.Operators.{operator_kind}
use Rattle.frames_law.proofs.Single.{For, same_row_lem, none_between, each_strength}

-- ---- what an operator joins is neither

abbrev Apart : Term → Type 0
Apart t = form_of t ≡ neither

abbrev Joins : List Operator → Type 0
Joins [] = Unit
Joins (o ∷ os) = ((p : ℕ) (a b : Term) → Apart (o.joins p a b)) × Joins os

by_sign : (os : List Operator) → Joins os → (op : String) (p : ℕ) (a b : Term) → Apart (joined_by os op p a b)
unfolding joined_by form_of
by_sign [] j op p a b = refl
by_sign (o ∷ os) (j₀, j) op p a b = go (same (bytes o.sign) (bytes op)) (by_sign os j op p a b)
  where
    go : (t : Bool) → Apart (joined_by os op p a b) → Apart (cond t o.joins (joined_by os op) p a b)
    go true more = j₀ p a b
    go false more = more

all_join : Joins operators
unfolding operators form_of
all_join = (λ p a b. refl, (λ p a b. refl, (λ p a b. refl, (λ p a b. refl, (λ p a b. refl, (λ p a b. refl, (λ p a b. refl, (λ p a b. refl, (λ p a b. refl, (λ p a b. refl, (λ p a b. refl, tt)))))))))))

joined-apart : (op : String) (p : ℕ) (a b : Term) → Apart (joined_by operators op p a b)
joined-apart = by_sign operators all_join

-- .. and stays so, whatever follows
abbrev Keeps : (Term → Term) → Type 0
Keeps g = (t : Term) → Apart t → Apart (g t)

module _ (f n : ℕ) (more : (k : ℕ) (ws : List Word) (g : Term → Term) (rest : List Word) → Told f (Further n) k ws g rest → Keeps g) where
  abbrev Rows : (a : Line) → ℕ → List Word → Values Word Val a → List Word → Type 0
  Rows = RowGives Word Val kind_of (Told f)

  abbrev op_row : String → Line
  op_row op = op ▸ Tier (suc n) ▹ Further n ▹ ε

  ops_keep : (k : ℕ) (ws : List Word) (g : Term → Term) (rest : List Word) (ops : List String) (c : ℕ) (h : c < length (map op_row ops)) (vs : Values Word Val (get_or (map op_row ops) c []))
      → g ≡ make Word Val (Term → Term) (map op_row ops) c h (makes_operators n ops) vs → Rows (get_or (map op_row ops) c []) k ws vs rest → Keeps g
  unfolding make makes_operators
  ops_keep k ws g rest [] c h vs e x t q = absurd (omega arith)
  ops_keep k ws g rest (op ∷ ops) zero h vs e (tail, a, b, (mid, y, (m₁, y₁, z))) t q =
      ap (λ (g : Term → Term). form_of (g t)) e ∙ more k mid vs.1.1.0 m₁ y₁ (joined_by operators op vs.0.place t vs.1.0) (joined-apart op vs.0.place t vs.1.0)
  ops_keep k ws g rest (op ∷ ops) (suc c) h vs e x t q = ops_keep k ws g rest ops c (le_of_suc-le-suc h) vs e x t q

  row_keeps : (k : ℕ) (ws : List Word) (g : Term → Term) (rest : List Word) (o : Option Strength) (i : ℕ) (h : i < length (further n o)) (vs : Values Word Val (get_or (further n o) i []))
      → g ≡ make Word Val (Term → Term) (further n o) i h (makes_further n o) vs → Rows (get_or (further n o) i []) k ws vs rest → Keeps g
  unfolding make
  row_keeps k ws g rest none zero h vs e x t q = ap (λ (g : Term → Term). form_of (g t)) e ∙ q
  row_keeps k ws g rest none (suc i) h vs e x t q = absurd (omega arith)
  row_keeps k ws g rest (some (between ops)) zero h vs e x t q = ap (λ (g : Term → Term). form_of (g t)) e ∙ q
  row_keeps k ws g rest (some (between ops)) (suc c) h vs e x t q = ops_keep k ws g rest ops c (le_of_suc-le-suc h) vs e x t q
  row_keeps k ws g rest (some (before op)) zero h vs e x t q = ap (λ (g : Term → Term). form_of (g t)) e ∙ q
  row_keeps k ws g rest (some (before op)) (suc i) h vs e x t q = absurd (omega arith)

further-keeps : (f n k : ℕ) (ws : List Word) (g : Term → Term) (rest : List Word) → Told f (Further n) k ws g rest → Keeps g
unfolding Gives csml makes
further-keeps zero n k ws g rest x = absurd x
further-keeps (suc f) n k ws g rest (i, h, p, vs, e, x) = row_keeps f n (further-keeps f n) k ws g rest (get_elem? binding n) i h vs e x

-- ---- an expression is its first operand, with no operator behind it; or neither

module _ (w c : Word) (tail ws : List Word) (x : Term) (N : Type 0) where
  -- no operator of this strength or a tighter one stands at c
  abbrev Quiet : ℕ → Type 0
  Quiet n = (m : ℕ) → n ≤ m → (ops : List String) → get_elem? binding m ≡ some (between ops) → For (Further m) c.kind 0

  abbrev Only : ℕ → Term → List Word → Type 0
  Only n v rest = N × (v ≡ x) × (rest ≡ c ∷ ws) × Quiet n

  abbrev All : ℕ → Type 0
  All n = (f k : ℕ) (v : Term) (rest : List Word) → Told f (Tier n) k (w ∷ tail) v rest → Only n v rest ⊎ Apart v

  looser : (n : ℕ) → ((ops : List String) → get_elem? binding n ≡ some (between ops) → For (Further n) c.kind 0) → Quiet (suc n) → Quiet n
  looser n here q m h ops e = go (dec_lt n m)
    where
      go : Dec (n < m) → For (Further m) c.kind 0
      go (yes g) = q m g ops e
      go (no g) = let z : m ≡ n = omega arith in rw z (here ops (rw z at e))

  joined : (n : ℕ) (ops : List String) → get_elem? binding n ≡ some (between ops) → All (suc n) → All n
  joined n ops e next f k v rest y = let (f₁, i, p, row) = tier-told f n k (w ∷ tail) v rest y in go f₁ i (rw e at row)
    where
      last : (mid : List Word) (left : Term) (g : Term → Term) (f₂ j : ℕ) → v ≡ g left → Only (suc n) left mid ⊎ Apart left → Called (Further n) mid j → FurtherRow f₂ n k mid g rest j → Only n v rest ⊎ Apart v
      last mid left g f₂ zero q (inl (o, a, b, z)) p (s, t) =
          inl (o, q ∙ ap (λ (h : Term → Term). h left) s ∙ a, sym t ∙ b, looser n (λ ops₂ e₂. rw b at p) z)
      last mid left g f₂ zero q (inr a) p (s, t) = inr (ap form_of q ∙ ap (λ (h : Term → Term). form_of (h left)) s ∙ a)
      last mid left g f₂ (suc j) q a p (op, u, t₁, m₁, right, h, a₁, b₁, y₁, y₂, s) =
          inr (ap form_of q ∙ ap (λ (h : Term → Term). form_of (h left)) s ∙ further-keeps f₂ n k m₁ h rest y₂ (joined_by operators op u.place left right) (joined-apart op u.place left right))

      go : (f₁ i : ℕ) → TierRow f₁ n k (w ∷ tail) v rest (some (between ops)) i → Only n v rest ⊎ Apart v
      go f₁ i (mid, left, g, y, z, q) =
          let (f₂, j, p, row) = further-told f₁ n k mid g rest z in
          last mid left g f₂ j q (next f₁ k left mid y) p row

  bare : (n : ℕ) (op : String) → get_elem? binding n ≡ some (before op) → ((ops : List String) → get_elem? binding n ≡ some (between ops) → ⊥) → All (suc n) → All n
  unfolding form_of
  bare n op e apart next f k v rest y = let (f₁, i, p, row) = tier-told f n k (w ∷ tail) v rest y in go f₁ i (rw e at row)
    where
      down : Only (suc n) v rest ⊎ Apart v → Only n v rest ⊎ Apart v
      down (inl (o, a, b, z)) = inl (o, a, b, looser n (λ ops e. absurd (apart ops e)) z)
      down (inr a) = inr a

      go : (f₁ i : ℕ) → TierRow f₁ n k (w ∷ tail) v rest (some (before op)) i → Only n v rest ⊎ Apart v
      go f₁ zero (u, m, t, d, a, b, z, q) = inr (ap form_of q)
      go f₁ (suc i) row = down (next f₁ k v rest row)

  operand : ((f k : ℕ) (v : Term) (rest : List Word) → Called (Tier 6) (w ∷ tail) 0 → OperandRow f k (w ∷ tail) v rest 0 → N × (v ≡ x) × (rest ≡ c ∷ ws)) → get_elem? binding 6 ≡ none
      → ((m : ℕ) → 6 ≤ m → (ops : List String) → get_elem? binding m ≡ some (between ops) → ⊥) → All 6
  unfolding form_of
  operand name-first e past f k v rest y = let (f₁, i, p, row) = tier-told f 6 k (w ∷ tail) v rest y in go f₁ i p (rw e at row)
    where
      go : (f₁ i : ℕ) → Called (Tier 6) (w ∷ tail) i → TierRow f₁ 6 k (w ∷ tail) v rest none i → Only 6 v rest ⊎ Apart v
      go f₁ zero p row = let (o, a, b) = name-first f₁ k v rest p row in inl (o, a, b, λ m h ops e. absurd (past m h ops e))
      go f₁ (suc zero) p (u, a, b, q) = inr (ap form_of q)
      go f₁ (suc (suc zero)) p (u, a, q) = inr (ap form_of q)
      go f₁ (suc (suc (suc zero))) p (u, a, q) = inr (ap form_of q)
      go f₁ (suc (suc (suc (suc zero)))) p (u, o, d, m, t, e, a, b, z, q) = inr (ap form_of q)
      go f₁ (suc (suc (suc (suc (suc zero))))) p (u, d, m, t, e, a, b, z, q) = inr (ap form_of q)
      go f₁ (suc (suc (suc (suc (suc (suc i)))))) p row = absurd row

  split : ((f k : ℕ) (v : Term) (rest : List Word) → Called (Tier 6) (w ∷ tail) 0 → OperandRow f k (w ∷ tail) v rest 0 → N × (v ≡ x) × (rest ≡ c ∷ ws)) → All 0
  unfolding binding
  split name-first = joined 0 _ refl (joined 1 _ refl (joined 2 _ refl (bare 3 _ refl none_between (joined 4 _ refl (joined 5 _ refl (operand name-first refl past))))))
    where
      past : (m : ℕ) → 6 ≤ m → (ops : List String) → get_elem? binding m ≡ some (between ops) → ⊥
      past m h ops e = let z : m < 6 = each_strength (λ n. n < 6) (omega arith) (omega arith) (omega arith) (omega arith) (omega arith) m ops e in omega arith

-- ---- it begins with no name

starts_name : ℕ → Option ℕ → Bool
starts_name k none = true
starts_name k (some zero) = eqb k 0
starts_name k (some (suc i)) = true

names-start : up_to (λ k. starts_name k (Pick (Tier 6) k)) kind_count ≡ true
unfolding up_to starts_name has begin_row pick csml binding claims first empty follow numbered spellings signs reserved
names-start = refl

pub no_name-first : (k : ℕ) → k < kind_count → ¬ (k ≡ 0) → (w : Word) → numbered k ≡ w.kind → (f j : ℕ) (tail : List Word) (v : Term) (rest : List Word) → Told f (Tier 0) j (w ∷ tail) v rest → Apart v
unfolding starts_name
no_name-first k h g w e f j tail v rest y = only (split w w tail [] (literal 0 0) ⊥ none_first f j v rest y)
  where
    none_first : (f k₂ : ℕ) (v : Term) (rest : List Word) → Called (Tier 6) (w ∷ tail) 0 → OperandRow f k₂ (w ∷ tail) v rest 0 → ⊥ × (v ≡ literal 0 0) × (rest ≡ w ∷ [])
    none_first f k₂ v rest p row =
        let q : Pick (Tier 6) k ≡ some 0 = rw e p in
        absurd (g (eqb-true k 0 (rw q at (up_to_lem (λ k. starts_name k (Pick (Tier 6) k)) kind_count k names-start h))))

    only : (⊥ × (v ≡ literal 0 0) × (rest ≡ w ∷ []) × ((m : ℕ) → 0 ≤ m → (ops : List String) → get_elem? binding m ≡ some (between ops) → For (Further m) w.kind 0)) ⊎ Apart v → Apart v
    only (inl (z, a, b, q)) = absurd z
    only (inr a) = a

-- ---- an operator stands behind it

empty_row : Option ℕ → Bool
empty_row none = false
empty_row (some i) = eqb i 0

all_empty : ℕ → Bool
all_empty k = empty_row (Pick (Further 0) k) && (empty_row (Pick (Further 1) k) && (empty_row (Pick (Further 2) k) && (empty_row (Pick (Further 4) k) && empty_row (Pick (Further 5) k))))

operators_join : up_to (λ k. cond (operator_kind k) (opposite (all_empty k)) true) kind_count ≡ true
unfolding up_to all_empty empty_row has begin_row pick csml binding claims first empty follow numbered spellings signs reserved operator_kind
operators_join = refl

loud : (k : ℕ) → k < kind_count → operator_kind k ≡ true → ((m : ℕ) → 0 ≤ m → (ops : List String) → get_elem? binding m ≡ some (between ops) → For (Further m) (numbered k) 0) → ⊥
unfolding binding all_empty empty_row
loud k h e q =
    let t : opposite (all_empty k) ≡ true = rw e at (up_to_lem (λ k. cond (operator_kind k) (opposite (all_empty k)) true) kind_count k operators_join h) in
    let a : all_empty k ≡ true = rw (q 0 (omega arith) _ refl, q 1 (omega arith) _ refl, q 2 (omega arith) _ refl, q 4 (omega arith) _ refl, q 5 (omega arith) _ refl) refl in
    clash (sym t ∙ ap opposite a)

module _ (w c : Word) (tail ws : List Word) (x : Term) (k : ℕ) (h : k < kind_count) (op : operator_kind k ≡ true) (e : numbered k ≡ c.kind) where
  pub operator_apart : ((f j : ℕ) (v : Term) (rest : List Word) → OperandRow f j (w ∷ tail) v rest 0 → (v ≡ x) × (rest ≡ c ∷ ws)) → (f j : ℕ) (v : Term) (rest : List Word) → Told f (Tier 0) j (w ∷ tail) v rest → Apart v
  operator_apart one f j v rest y = only (split w c tail ws x (Unit {0}) (λ f j v rest p row. let (a, b) = one f j v rest row in (tt, a, b)) f j v rest y)
    where
      only : (Unit {0} × (v ≡ x) × (rest ≡ c ∷ ws) × ((m : ℕ) → 0 ≤ m → (ops : List String) → get_elem? binding m ≡ some (between ops) → For (Further m) c.kind 0)) ⊎ Apart v → Apart v
      only (inl (z, a, b, q)) = absurd (loud k h op (rw e q))
      only (inr a) = a

-- ---- what stands behind a name that an expression begins with

module _ (w : Word) (tail : List Word) (named : w.kind ≡ name) where
  abbrev Begun : Type 0
  Begun = (f : ℕ) × (k : ℕ) × (v : Term) × (c : Word) × (ws : List Word) × OperandRow f k (w ∷ tail) v (c ∷ ws) 0

  abbrev Each : ℕ → Type 0
  Each n = (f k : ℕ) (v : Term) (rest : List Word) → Told f (Tier n) k (w ∷ tail) v rest → Begun

  calls : (n i j : ℕ) → For (Tier n) name j → Called (Tier n) (w ∷ tail) i → j ≡ i
  calls n i j e p = same_row_lem e (rw named at p)

  first-joined : (n : ℕ) (ops : List String) → get_elem? binding n ≡ some (between ops) → Each (suc n) → Each n
  first-joined n ops e next f k v rest y = let (f₁, i, p, row) = tier-told f n k (w ∷ tail) v rest y in go f₁ i (rw e at row)
    where
      go : (f₁ i : ℕ) → TierRow f₁ n k (w ∷ tail) v rest (some (between ops)) i → Begun
      go f₁ i (mid, left, g, y, z, q) = next f₁ k left mid y

  first_bare : (n : ℕ) (op : String) → get_elem? binding n ≡ some (before op) → For (Tier n) name 1 → Each (suc n) → Each n
  first_bare n op e one next f k v rest y = let (f₁, i, p, row) = tier-told f n k (w ∷ tail) v rest y in go f₁ i (calls n i 1 one p) (rw e at row)
    where
      go : (f₁ i : ℕ) → 1 ≡ i → TierRow f₁ n k (w ∷ tail) v rest (some (before op)) i → Begun
      go f₁ zero q row = absurd (omega arith)
      go f₁ (suc i) q row = next f₁ k v rest row

  first-operand : (n : ℕ) (ops : List String) → get_elem? binding n ≡ some (between ops) → get_elem? binding (suc n) ≡ none → For (Tier (suc n)) name 0 → Each n
  first-operand n ops e e₂ one f k v rest y = let (f₁, i, p, row) = tier-told f n k (w ∷ tail) v rest y in go f₁ i (rw e at row)
    where
      inner : (f₂ : ℕ) (left : Term) (c : Word) (ws : List Word) (i : ℕ) → 0 ≡ i → TierRow f₂ (suc n) k (w ∷ tail) left (c ∷ ws) none i → Begun
      inner f₂ left c ws zero q row = (f₂, k, left, c, ws, row)
      inner f₂ left c ws (suc i) q row = absurd (omega arith)

      go : (f₁ i : ℕ) → TierRow f₁ n k (w ∷ tail) v rest (some (between ops)) i → Begun
      go f₁ i (mid, left, g, y, z, q) =
          let (f₂, j, p, row) = further-told f₁ n k mid g rest z in
          let (c, ws, m) = called_by_lem (Further n) mid j p in
          let (f₃, i₃, p₃, row₃) = tier-told f₁ (suc n) k (w ∷ tail) left (c ∷ ws) (rw m at y) in
          inner f₃ left c ws i₃ (calls (suc n) i₃ 0 one p₃) (rw e₂ at row₃)

  begun : Each 0
  unfolding has begin_row pick csml binding claims first empty follow
  begun = first-joined 0 _ refl (first-joined 1 _ refl (first-joined 2 _ refl (first_bare 3 _ refl refl (first-joined 4 _ refl (first-operand 5 _ refl refl refl)))))

  -- one word; or `[`, a number and `]` before it
  abbrev pub Behind : Type 0
  Behind = ((c : Word) × (ws : List Word) × (tail ≡ c ∷ ws) × For Index c.kind 0) ⊎ ((o : Word) × (m : Word) × (b : Word) × (c : Word) × (ws : List Word) × (i : ℕ) × (tail ≡ o ∷ m ∷ b ∷ c ∷ ws) × (m.kind ≡ number) × For Index o.kind (suc i))

  pub behind-name : (f k : ℕ) (v : Term) (rest : List Word) → Told f (Tier 0) k (w ∷ tail) v rest → Behind
  behind-name f k v rest y =
      let (f₁, k₁, v₁, c, ws, (u, t, j, a, z, d)) = begun f k v rest y in
      let (i, p, row) = index_told f₁ k₁ t j (c ∷ ws) z in
      go c ws u t j i a p row
    where
      go : (c : Word) (ws : List Word) (u : Word) (t : List Word) (j : Option ℕ) (i : ℕ) → w ∷ tail ≡ u ∷ t → Called Index t i → IndexRow t j (c ∷ ws) i → Behind
      go c ws u t j zero a p (q, r) = let same : tail ≡ c ∷ ws = cc in inl (c, ws, same, rw r at p)
      go c ws u t j (suc i) a p (y₁, y₂, y₃, q, n, e) = let same : tail ≡ y₁ ∷ y₂ ∷ y₃ ∷ c ∷ ws = cc in inr (y₁, y₂, y₃, c, ws, i, same, n, rw q at p)
