-- The laws of a reader of expressions: one for each way on, whatever is claimed of the terms.
-- Assumes nothing.
use mathlib.Core.Bool.{Bool, true, false, cond}
use mathlib.Core.Path.{◌≡◌, refl, sym, ◌∙◌, ap, subst}
use mathlib.Core.List.{List, [], ◌∷◌, cons≢nil}
use mathlib.Core.Option.{Option, none, some}
use Prim.Native.Nat.{ℕ, zero, suc, ◌+◌, ◌-◌, ◌≤◌, ◌<◌}
use Prim.Native.String.{String}
use native.Mathlib.Numerals.{add-one}
use native.Mathlib.Omega.{arith}
use native.Mathlib.Decide.{dec_lt}
use lib.ListN.{get_elem?}
use Rattle.meaning.specs.Unexpanded.{Term, literal, truth, variable, bit, not, int, parens}
use Rattle.language.specs.Words.{Word, the}
use Rattle.language.specs.Grammar.{Part, Tier, Further, Index, Strength, between, before, binding}
use Rattle.language.specs.Trees.{Name, name_at, number_at, name_or_bit, operators, joined_by}
use Rattle.words.specs.Kinds.{numbered, kind_count}
use Rattle.words.specs.Runs.{part}
use Rattle.words.proofs.Only.{number_of, number-back}
use Rattle.descent_law.specs.Told.{Told, Called, OperandRow, TierRow, FurtherRow, IndexRow}
use Rattle.descent_law.proofs.Expressions.{tier-told, further-told, index_told}
use Rattle.hand.specs.declared.Here.{Here}
use Rattle.hand.specs.Along.{Along, Same, Stands, Near, Begins}
use Rattle.hand.proofs.Chosen.{called_by_lem, called-row, Pick}
use Rattle.tiers.specs.declared.How.{How}
use Rattle.tiers.specs.declared.How.TheVariants.{Operand, Between, Before}
use Rattle.tiers.specs.Choose.{IsHow, operand_row, strength_of}
use Rattle.tiers.specs.Comes.{Tells, Comes, ComesBare}
use Rattle.tiers.proofs.Small.{no_strength}
use Rattle.tiers.proofs.Chosen.{operand_rows, further-ends, further_on, before_here, before_not, strength_past}
use Rattle.tiers.proofs.Rows.{index_only, one_there, none_there}

same_number : (a b : ℕ) → a < kind_count → b < kind_count → numbered a ≡ numbered b → a ≡ b
same_number a b h g e = sym (number-back a h) ∙ ap number_of e ∙ number-back b g

-- ---- strengths

pub operand-high : (n : ℕ) → IsHow (get_elem? binding n) Operand → 6 ≤ n
unfolding binding
operand-high zero y = absurd y
operand-high (suc zero) y = absurd y
operand-high (suc (suc zero)) y = absurd y
operand-high (suc (suc (suc zero))) y = absurd y
operand-high (suc (suc (suc (suc zero)))) y = absurd y
operand-high (suc (suc (suc (suc (suc zero))))) y = absurd y
operand-high (suc (suc (suc (suc (suc (suc n)))))) y = omega arith

pub operator_low : (n : ℕ) (how : How) → IsHow (get_elem? binding n) how → ¬ (how ≡ Operand) → n < 6
operator_low n how y z = go (dec_lt n 6)
  where
    at : (o : Option Strength) → o ≡ none → (how : How) → IsHow o how → how ≡ Operand
    at none e Operand y = refl
    at none e Between y = absurd y
    at none e (Before k) y = absurd y
    at (some x) e how y = absurd (let z : ◌≡◌ {A = ℕ} 0 1 = cc in omega arith)

    go : Dec (n < 6) → n < 6
    go (yes h) = h
    go (no h) = absurd (z (at (get_elem? binding n) (no_strength n (omega arith)) how y))

pub before-low : (n op : ℕ) → IsHow (get_elem? binding n) (Before op) → n < 6
before-low n op y = operator_low n (Before op) y (λ e. let z : ◌≡◌ {A = ℕ} 0 1 = cc in omega arith)

pub between-low : (n : ℕ) → IsHow (get_elem? binding n) Between → n < 6
between-low n y = operator_low n Between y (λ e. let z : ◌≡◌ {A = ℕ} 0 1 = cc in omega arith)

strong : (n : ℕ) → n < 6 → n ≡ 255 → ⊥
strong n h e = omega arith

-- an operator of a strength is a known word, and none of the others
pub strength_known : (k n : ℕ) → n < 6 → strength_of k ≡ n → k < kind_count
strength_known k n h e = go (dec_lt k kind_count)
  where
    go : Dec (k < kind_count) → k < kind_count
    go (yes g) = g
    go (no g) = absurd (strong n h (sym e ∙ strength_past k (omega arith)))

pub strength_some : (k n : ℕ) → n < 6 → strength_of k ≡ n → ¬ (strength_of k ≡ 255)
strength_some k n h e z = strong n h (sym e ∙ z)

-- ---- the word in hand

-- it calls for a row
pub called : (s : List ℕ) (n : Part) (h : Here) (ws : List Word) (i : ℕ) → Stands s h ws → Called n ws i → (h.kind < kind_count) × (Pick n h.kind ≡ some i)
called s n h [] i st p = let (w, tail, e) = called_by_lem n [] i p in absurd (cons≢nil (sym e))
called s n h (w ∷ ws) i st p = (st.0.known, rw st.0.kind p)

-- it, and the words behind it
pub first_is : {s : List ℕ} {h : Here} {ws : List Word} {w : Word} {tail : List Word} → Stands s h ws → ws ≡ w ∷ tail → Same s h w × Along s h.next tail
first_is st e = rw e at st

-- the name that it is
abbrev pub name_in : List ℕ → Here → Name
name_in s h = record { bytes = part s h.place h.next; place = h.place }

pub name-here : {s : List ℕ} {h : Here} {x : Word} → Same s h x → name_in s h ≡ name_at x
name-here {s} {h} {x} same =
    let named : List ℕ → ℕ → Name = λ b p. record { bytes = b; place = p } in
    ap (λ (b : List ℕ). named b h.place) same.bytes ∙ ap (named x.bytes) same.place

-- ---- an operator before its operand

module _ {s : List ℕ} {n k : ℕ} {h : Here} {op : ℕ} (low : n < 6) (how : IsHow (get_elem? binding n) (Before op)) where
  -- it is not there
  pub before-skip : {w : Here} {P : Term → Type 0} → ¬ (h.kind ≡ op) → Comes s (n + 1) k h w P → Comes s n k h w P
  before-skip {w} {P} no-op came = record { near = came.near; later = came.later; told = told }
    where
      go : (ws : List Word) → Stands s h ws → (e : ℕ) (v : Term) (rest : List Word) (o : Option Strength) (i : ℕ) → get_elem? binding n ≡ o → IsHow o (Before op)
          → Called (Tier n) ws i → TierRow e n k ws v rest o i → Tells s w P v rest
      go ws st e v rest none i q y p row = absurd y
      go ws st e v rest (some (between ops)) i q y p row = absurd y
      go ws st e v rest (some (before os)) zero q y p row =
          let (a, b) = called s (Tier n) h ws 0 st p in
          absurd (no-op (same_number h.kind op a y.1 (before_here n h.kind os low a q b ∙ sym y.0)))
      go ws st e v rest (some (before os)) (suc i) q y p row = came.told ws st e v rest (rw (add-one n) row)

      told : (ws : List Word) → Stands s h ws → (f : ℕ) (v : Term) (rest : List Word) → Told f (Tier n) k ws v rest → Tells s w P v rest
      told ws st f v rest x = let (e, i, p, row) = tier-told f n k ws v rest x in go ws st e v rest (get_elem? binding n) i refl how p row

  -- it is there, with no level left
  pub before-deep : {w : Here} {P : Term → Type 0} → h.kind ≡ op → k ≡ 0 → Near s h → w ≡ h → Comes s n k h w P
  before-deep {w} {P} yes-op none_left_lem near is = record { near = rw is near; later = rw is (omega arith); told = told }
    where
      go : (ws : List Word) → Stands s h ws → (e : ℕ) (v : Term) (rest : List Word) (o : Option Strength) (i : ℕ) → get_elem? binding n ≡ o → IsHow o (Before op)
          → Called (Tier n) ws i → TierRow e n k ws v rest o i → Tells s w P v rest
      go ws st e v rest none i q y p row = absurd y
      go ws st e v rest (some (between ops)) i q y p row = absurd y
      go ws st e v rest (some (before os)) zero q y p (w, l, tail, x, a, b, c, d) = absurd (omega arith)
      go ws st e v rest (some (before os)) (suc i) q y p row =
          let (a, b) = called s (Tier n) h ws (suc i) st p in
          absurd (before_not n h.kind i os low a q b (rw yes-op y.0))

      told : (ws : List Word) → Stands s h ws → (f : ℕ) (v : Term) (rest : List Word) → Told f (Tier n) k ws v rest → Tells s w P v rest
      told ws st f v rest x = let (e, i, p, row) = tier-told f n k ws v rest x in go ws st e v rest (get_elem? binding n) i refl how p row

  -- .. with its operand
  pub before_on : {h₁ w₁ w : Here} {P Q : Term → Type 0} → h.kind ≡ op → Near s h → Begins s h.next h₁ → Comes s n (k - 1) h₁ w₁ P → w ≡ w₁ → ((x : Term) → P x → Q (not h.place x)) → Comes s n k h w Q
  before_on {h₁} {w₁} {w} {P} {Q} yes-op near begins came is gives =
      record { near = rw is came.near; later = rw is (omega (arith, near.on, begins.later, came.later)); told = told }
    where
      go : (ws : List Word) → Stands s h ws → (e : ℕ) (v : Term) (rest : List Word) (o : Option Strength) (i : ℕ) → get_elem? binding n ≡ o → IsHow o (Before op)
          → Called (Tier n) ws i → TierRow e n k ws v rest o i → Tells s w Q v rest
      go ws st e v rest none i q y p row = absurd y
      go ws st e v rest (some (between ops)) i q y p row = absurd y
      go ws st e v rest (some (before os)) (suc i) q y p row =
          let (a, b) = called s (Tier n) h ws (suc i) st p in
          absurd (before_not n h.kind i os low a q b (rw yes-op y.0))
      go ws st e v rest (some (before os)) zero q y p (v₀, l, tail, x, a, b, c, d) =
          let (same, along) = first_is st a in
          let lev : l ≡ k - 1 = omega arith in
          let z = came.told tail (begins.stands tail along) e x rest (rw lev at c) in
          record { word = rw is z.word; holds = subst Q (ap (λ (p : ℕ). not p x) same.place ∙ sym d) (gives x z.holds) }

      told : (ws : List Word) → Stands s h ws → (f : ℕ) (v : Term) (rest : List Word) → Told f (Tier n) k ws v rest → Tells s w Q v rest
      told ws st f v rest x = let (e, i, p, row) = tier-told f n k ws v rest x in go ws st e v rest (get_elem? binding n) i refl how p row

-- ---- operators between operands

-- the words that are left, the term in hand, and what is to follow it
pub record Reached (s : List ℕ) (n k : ℕ) (w : Here) (P : Term → Type 0) (g : Term → Term) (rest : List Word) (x : Term) : Type 0 where
  pub mid : List Word
  pub now : Term
  pub fuel : ℕ
  pub more : Term → Term
  pub word : Stands s w mid
  pub told : Told fuel (Further n) k mid more rest
  pub same : g x ≡ more now
  pub holds : P now

-- from the first operand on, whatever follows: some operators are read, and what they come to is in hand
pub record Going (s : List ℕ) (n k : ℕ) (w₀ : Here) (P₀ : Term → Type 0) (w : Here) (P : Term → Type 0) : Type 0 where
  pub near : Near s w
  pub later : w₀.place ≤ w.place
  pub going : (mid : List Word) → Stands s w₀ mid → (f : ℕ) (g : Term → Term) (rest : List Word) → Told f (Further n) k mid g rest → (x : Term) → P₀ x → Reached s n k w P g rest x

module _ {s : List ℕ} {n k : ℕ} where
  pub between_start : {w : Here} {P : Term → Type 0} → Near s w → Going s n k w P w P
  between_start near = record { near = near; later = omega arith; going = λ mid st f g rest x e q. record { mid = mid; now = e; fuel = f; more = g; word = st; told = x; same = refl; holds = q } }

  pub between_ends : {h w₀ w : Here} {P₀ P : Term → Type 0} → n < 6 → IsHow (get_elem? binding n) Between → ¬ (strength_of w.kind ≡ n) → Comes s (n + 1) k h w₀ P₀ → Going s n k w₀ P₀ w P → Comes s n k h w P
  between_ends {h} {w₀} {w} {P₀} {P} low how other came going = record { near = going.near; later = omega (arith, came.later, going.later); told = told }
    where
      ends : (ws : List Word) (v : Term) (g : Term → Term) (x : Term) (rest : List Word) → v ≡ g x → (z : Reached s n k w P g rest x)
          → (e : ℕ) (i : ℕ) → Called (Further n) z.mid i → FurtherRow e n k z.mid z.more rest i → Tells s w P v rest
      ends ws v g x rest q z e zero p (a, b) = record { word = rw b at z.word; holds = subst P (sym (q ∙ z.same ∙ ap (λ (f : Term → Term). f z.now) a)) z.holds }
      ends ws v g x rest q z e (suc c) p row = let (a, b) = called s (Further n) w z.mid (suc c) z.word p in absurd (other (further_on n w.kind c low a b))

      go : (ws : List Word) → Stands s h ws → (e : ℕ) (v : Term) (rest : List Word) (o : Option Strength) (i : ℕ) → IsHow o Between → TierRow e n k ws v rest o i → Tells s w P v rest
      go ws st e v rest none i y row = absurd y
      go ws st e v rest (some (before os)) i y row = absurd y
      go ws st e v rest (some (between ops)) i y (mid, x, g, a, b, q) =
          let c = came.told ws st e x mid (subst (λ (j : ℕ). Told e (Tier j) k ws x mid) (sym (add-one n)) a) in
          let z = going.going mid c.word e g rest b x c.holds in
          let (e₂, i₂, p, row) = further-told z.fuel n k z.mid z.more rest z.told in
          ends ws v g x rest q z e₂ i₂ p row

      told : (ws : List Word) → Stands s h ws → (f : ℕ) (v : Term) (rest : List Word) → Told f (Tier n) k ws v rest → Tells s w P v rest
      told ws st f v rest x = let (e, i, p, row) = tier-told f n k ws v rest x in go ws st e v rest (get_elem? binding n) i how row

  pub between_on : {w₀ w h₁ w₁ next : Here} {P₀ P R Q : Term → Type 0} → n < 6 → strength_of w.kind ≡ n → Begins s w.next h₁ → Comes s (n + 1) k h₁ w₁ R → next ≡ w₁
      → ((op : String) (x y : Term) → numbered w.kind ≡ the op → P x → R y → Q (joined_by operators op w.place x y)) → Going s n k w₀ P₀ w P → Going s n k w₀ P₀ next Q
  between_on {w₀} {w} {h₁} {w₁} {next} {P₀} {P} {R} {Q} low here begins came is gives going =
      record { near = rw is came.near; later = rw is (omega (arith, going.later, going.near.on, begins.later, came.later)); going = goes }
    where
      step : (g : Term → Term) (x : Term) (rest : List Word) (z : Reached s n k w P g rest x) → (e : ℕ) (i : ℕ) → Called (Further n) z.mid i → FurtherRow e n k z.mid z.more rest i → Reached s n k next Q g rest x
      step g x rest z e zero p row = let (a, b) = called s (Further n) w z.mid 0 z.word p in absurd (further-ends n w.kind low a b here)
      step g x rest z e (suc c) p (op, v, tail, mid, right, more, a, b, d, f, q) =
          let (same, along) = first_is z.word a in
          let y = came.told tail (begins.stands tail along) e right mid (subst (λ (j : ℕ). Told e (Tier j) k tail right mid) (sym (add-one n)) d) in
          record {
            mid = mid;
            now = joined_by operators op v.place z.now right;
            fuel = e;
            more = more;
            word = rw is y.word;
            told = f;
            same = z.same ∙ ap (λ (f : Term → Term). f z.now) q;
            holds = subst (λ (p : ℕ). Q (joined_by operators op p z.now right)) same.place (gives op z.now right (same.kind ∙ b) z.holds y.holds);
          }

      goes : (mid : List Word) → Stands s w₀ mid → (f : ℕ) (g : Term → Term) (rest : List Word) → Told f (Further n) k mid g rest → (x : Term) → P₀ x → Reached s n k next Q g rest x
      goes mid st f g rest x e q =
          let z = going.going mid st f g rest x e q in
          let (e₂, i₂, p, row) = further-told z.fuel n k z.mid z.more rest z.told in
          step g e rest z e₂ i₂ p row

-- ---- operands

-- the row that the word in hand calls for
operand-told : (s : List ℕ) (n k : ℕ) (h : Here) (ws : List Word) (f : ℕ) (v : Term) (rest : List Word) → IsHow (get_elem? binding n) Operand → Stands s h ws → Told f (Tier n) k ws v rest
    → (e : ℕ) × OperandRow e k ws v rest (operand_row h.kind)
operand-told s n k h ws f v rest how st x =
    let (e, i, p, row) = tier-told f n k ws v rest x in
    (e, go e (get_elem? binding n) i how (called-row s (Tier n) operand_row (operand_rows n (operand-high n how)) h ws i st p) row)
  where
    go : (e : ℕ) (o : Option Strength) (i : ℕ) → IsHow o Operand → operand_row h.kind ≡ i → TierRow e n k ws v rest o i → OperandRow e k ws v rest (operand_row h.kind)
    go e none i y q row = rw q row
    go e (some (between ops)) i y q row = absurd y
    go e (some (before op)) i y q row = absurd y

module _ {s : List ℕ} {n k : ℕ} {h : Here} {row : ℕ} (how : IsHow (get_elem? binding n) Operand) (e : row ≡ operand_row h.kind) where
  pub operand_bare : {w : Here} {P : Term → Type 0} → ComesBare s row h w P → Comes s n k h w P
  operand_bare came = record { near = came.near; later = came.later; told = λ ws st f v rest x. let (g, row) = operand-told s n k h ws f v rest how st x in came.told ws st g k v rest (rw e row) }

  -- no operand begins with such a word
  pub operand_none : {w : Here} {P : Term → Type 0} → row ≡ 6 → Near s h → w ≡ h → Comes s n k h w P
  operand_none {w} {P} six near is =
      record { near = rw is near; later = rw is (omega arith); told = λ ws st f v rest x. let (g, y) = operand-told s n k h ws f v rest how st x in absurd (rw (← e, six) at y) }

  -- in parentheses or of `int`, with no level left
  pub operand-deep : {w : Here} {P : Term → Type 0} → ¬ (row < 4) → k ≡ 0 → Near s h → w ≡ h → Comes s n k h w P
  operand-deep {w} {P} large none_left_lem near is =
      record { near = rw is near; later = rw is (omega arith); told = λ ws st f v rest x. let (g, y) = operand-told s n k h ws f v rest how st x in go ws v rest g row large (rw (← e) at y) }
    where
      go : (ws : List Word) (v : Term) (rest : List Word) (g i : ℕ) → ¬ (i < 4) → OperandRow g k ws v rest i → Tells s w P v rest
      go ws v rest g zero l y = absurd (l (omega arith))
      go ws v rest g (suc zero) l y = absurd (l (omega arith))
      go ws v rest g (suc (suc zero)) l y = absurd (l (omega arith))
      go ws v rest g (suc (suc (suc zero))) l y = absurd (l (omega arith))
      go ws v rest g (suc (suc (suc (suc zero)))) l (a, b, c, d, e, x, q, lev, y, z) = absurd (omega arith)
      go ws v rest g (suc (suc (suc (suc (suc zero))))) l (a, c, d, e, x, q, lev, y, z) = absurd (omega arith)
      go ws v rest g (suc (suc (suc (suc (suc (suc n)))))) l y = absurd y

  pub operand_open : {h₁ w₁ h₂ w : Here} {P Q : Term → Type 0} → row ≡ 5 → Near s h → Begins s h.next h₁ → Comes s 0 (k - 1) h₁ w₁ P → Begins s w₁.next h₂ → w ≡ h₂ → ((x : Term) → P x → Q (parens x)) → Comes s n k h w Q
  operand_open {h₁} {w₁} {h₂} {w} {P} {Q} five near b₁ came b₂ is gives =
      record {
        near = rw is b₂.near;
        later = rw is (omega (arith, near.on, b₁.later, came.later, came.near.on, b₂.later));
        told = λ ws st f v rest x. let (i, y) = operand-told s n k h ws f v rest how st x in go ws st v rest i (rw (← e, five) at y);
      }
    where
      go : (ws : List Word) → Stands s h ws → (v : Term) (rest : List Word) (i : ℕ) → OperandRow i k ws v rest 5 → Tells s w Q v rest
      go ws st v rest i (a, c, l, tail, x, q, lev, y, d) =
          let (same, along) = first_is st q in
          let less : l ≡ k - 1 = omega arith in
          let z = came.told tail (b₁.stands tail along) i x (c ∷ rest) (rw less at y) in
          record { word = rw is (b₂.stands rest z.word.1); holds = subst Q (sym d) (gives x z.holds) }

  pub operand-int : {h₁ h₂ w₁ h₃ w : Here} {P Q : Term → Type 0} → ¬ (row < 4) → ¬ (row ≡ 5) → Near s h → Begins s h.next h₁ → Begins s h₁.next h₂ → Comes s 0 (k - 1) h₂ w₁ P → Begins s w₁.next h₃ → w ≡ h₃
      → ((x : Term) → P x → Q (int h.place x)) → Comes s n k h w Q
  operand-int {h₁} {h₂} {w₁} {h₃} {w} {P} {Q} large five near b₁ b₂ came b₃ is gives =
      record {
        near = rw is b₃.near;
        later = rw is (omega (arith, near.on, b₁.later, b₁.near.on, b₂.later, came.later, came.near.on, b₃.later));
        told = λ ws st f v rest x. let (i, y) = operand-told s n k h ws f v rest how st x in go ws st v rest i row large five (rw (← e) at y);
      }
    where
      go : (ws : List Word) → Stands s h ws → (v : Term) (rest : List Word) (i j : ℕ) → ¬ (j < 4) → ¬ (j ≡ 5) → OperandRow i k ws v rest j → Tells s w Q v rest
      go ws st v rest i zero a b y = absurd (a (omega arith))
      go ws st v rest i (suc zero) a b y = absurd (a (omega arith))
      go ws st v rest i (suc (suc zero)) a b y = absurd (a (omega arith))
      go ws st v rest i (suc (suc (suc zero))) a b y = absurd (a (omega arith))
      go ws st v rest i (suc (suc (suc (suc (suc zero))))) a b y = absurd (b refl)
      go ws st v rest i (suc (suc (suc (suc (suc (suc n)))))) a b y = absurd y
      go ws st v rest i (suc (suc (suc (suc zero)))) a b (v₀, o, c, l, tail, x, q, lev, y, d) =
          let (same, along) = first_is st q in
          let (same₁, along₁) = b₁.stands (o ∷ tail) along in
          let less : l ≡ k - 1 = omega arith in
          let z = came.told tail (b₂.stands tail along₁) i x (c ∷ rest) (rw less at y) in
          record { word = rw is (b₃.stands rest z.word.1); holds = subst Q (ap (λ (p : ℕ). int p x) same.place ∙ sym d) (gives x z.holds) }

-- ---- operands with no level

module _ {s : List ℕ} {h w a : Here} {P : Term → Type 0} {row : ℕ} (near : Near s h) (b : Begins s h.next a) where
  pub bare_number : row ≡ 1 → w ≡ a → P (literal h.place h.value) → ComesBare s row h w P
  bare_number one is holds = record { near = rw is b.near; later = rw is (omega (arith, near.on, b.later)); told = λ ws st f k v rest x. go ws st v rest f k (rw one at x) }
    where
      go : (ws : List Word) → Stands s h ws → (v : Term) (rest : List Word) (f k : ℕ) → OperandRow f k ws v rest 1 → Tells s w P v rest
      go ws st v rest f k (x, q, c, d) =
          let (same, along) = first_is st q in
          let val : h.value ≡ number_at x = rw c at same.value in
          record { word = rw is (b.stands rest along); holds = subst P (ap (λ (n : ℕ). literal n h.value) same.place ∙ ap (literal x.place) val ∙ sym d) holds }

  pub bare_true : row ≡ 2 → w ≡ a → P (truth h.place true) → ComesBare s row h w P
  bare_true two is holds = record { near = rw is b.near; later = rw is (omega (arith, near.on, b.later)); told = λ ws st f k v rest x. go ws st v rest f k (rw two at x) }
    where
      go : (ws : List Word) → Stands s h ws → (v : Term) (rest : List Word) (f k : ℕ) → OperandRow f k ws v rest 2 → Tells s w P v rest
      go ws st v rest f k (x, q, d) =
          let (same, along) = first_is st q in
          record { word = rw is (b.stands rest along); holds = subst P (ap (λ (n : ℕ). truth n true) same.place ∙ sym d) holds }

  pub bare_false : row ≡ 3 → w ≡ a → P (truth h.place false) → ComesBare s row h w P
  bare_false three is holds = record { near = rw is b.near; later = rw is (omega (arith, near.on, b.later)); told = λ ws st f k v rest x. go ws st v rest f k (rw three at x) }
    where
      go : (ws : List Word) → Stands s h ws → (v : Term) (rest : List Word) (f k : ℕ) → OperandRow f k ws v rest 3 → Tells s w P v rest
      go ws st v rest f k (x, q, d) =
          let (same, along) = first_is st q in
          record { word = rw is (b.stands rest along); holds = subst P (ap (λ (n : ℕ). truth n false) same.place ∙ sym d) holds }

  pub bare_truth : (value : Bool) → row ≡ cond value 2 3 → w ≡ a → P (truth h.place value) → ComesBare s row h w P
  bare_truth true = bare_true
  bare_truth false = bare_false

  pub bare_name : row ≡ 0 → ¬ (a.kind ≡ 16) → w ≡ a → P (variable (name_in s h)) → ComesBare s row h w P
  bare_name none_row not-index is holds = record { near = rw is b.near; later = rw is (omega (arith, near.on, b.later)); told = λ ws st f k v rest x. go ws st v rest f k (rw none_row at x) }
    where
      ends : (x : Word) (tail : List Word) (j : Option ℕ) (v : Term) (rest : List Word) (i : ℕ) → Same s h x → Along s h.next tail → v ≡ name_or_bit (name_at x) j → Called Index tail i → IndexRow tail j rest i → Tells s w P v rest
      ends x tail j v rest zero same along d p (e, f) =
          record { word = rw is (b.stands rest (rw f at along)); holds = subst P (ap variable (name-here same) ∙ sym (d ∙ ap (name_or_bit (name_at x)) e)) holds }
      ends x tail j v rest (suc i) same along d p row =
          absurd (omega (arith, none_there Index 16 index_only s a tail (suc i) (b.stands tail along) p not-index))

      go : (ws : List Word) → Stands s h ws → (v : Term) (rest : List Word) (f k : ℕ) → OperandRow f k ws v rest 0 → Tells s w P v rest
      go ws st v rest f k (x, tail, j, q, y, d) =
          let (same, along) = first_is st q in
          let (i, p, row) = index_told f k tail j rest y in
          ends x tail j v rest i same along d p row

  pub bare_bit : {a₁ a₂ a₃ : Here} → ¬ (row ≡ 1) → ¬ (row ≡ 2) → ¬ (row ≡ 3) → row < 4 → a.kind ≡ 16 → Begins s a.next a₁ → Begins s a₁.next a₂ → Begins s a₂.next a₃ → w ≡ a₃ → P (bit (name_in s h) a₁.value) → ComesBare s row h w P
  bare_bit {a₁} {a₂} {a₃} n₁ n₂ n₃ low index b₁ b₂ b₃ is holds =
      record {
        near = rw is b₃.near;
        later = rw is (omega (arith, near.on, b.later, b.near.on, b₁.later, b₁.near.on, b₂.later, b₂.near.on, b₃.later));
        told = λ ws st f k v rest x. go ws st v rest f k (let z : row ≡ 0 = none_left_lem row n₁ n₂ n₃ low in rw z at x);
      }
    where
      none_left_lem : (i : ℕ) → ¬ (i ≡ 1) → ¬ (i ≡ 2) → ¬ (i ≡ 3) → i < 4 → i ≡ 0
      none_left_lem i a b c d = omega arith

      ends : (x : Word) (tail : List Word) (j : Option ℕ) (v : Term) (rest : List Word) (i : ℕ) → Same s h x → Along s h.next tail → v ≡ name_or_bit (name_at x) j → Called Index tail i → IndexRow tail j rest i → Tells s w P v rest
      ends x tail j v rest zero same along d p row =
          absurd (omega (arith, one_there Index 16 index_only s a tail 0 (b.stands tail along) p index))
      ends x tail j v rest (suc i) same along d p (y₁, y₂, y₃, e, c, f) =
          let (s₁, l₁) = first_is (b.stands tail along) e in
          let (s₂, l₂) = b₁.stands (y₂ ∷ y₃ ∷ rest) l₁ in
          let (s₃, l₃) = b₂.stands (y₃ ∷ rest) l₂ in
          let val : a₁.value ≡ number_at y₂ = rw c at s₂.value in
          record { word = rw is (b₃.stands rest l₃); holds = subst P (ap (λ (n : Name). bit n a₁.value) (name-here same) ∙ ap (bit (name_at x)) val ∙ sym (d ∙ ap (name_or_bit (name_at x)) f)) holds }

      go : (ws : List Word) → Stands s h ws → (v : Term) (rest : List Word) (f k : ℕ) → OperandRow f k ws v rest 0 → Tells s w P v rest
      go ws st v rest f k (x, tail, j, q, y, d) =
          let (same, along) = first_is st q in
          let (i, p, row) = index_told f k tail j rest y in
          ends x tail j v rest i same along d p row
