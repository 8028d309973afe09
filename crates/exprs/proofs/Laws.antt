-- The laws of the reader of expressions: one for each way on, by the laws of its tiers.
-- Assumes nothing.
use mathlib.Core.Bool.{Bool, true, false}
use mathlib.Core.Path.{◌≡◌, refl, sym, ◌∙◌, ap}
use mathlib.Core.List.{List, []}
use mathlib.Core.Option.{Option, none, some}
use Prim.Native.Nat.{ℕ, ◌+◌, ◌-◌, ◌≤◌, ◌<◌}
use Prim.Native.String.{String}
use native.Mathlib.Omega.{arith}
use lib.ListN.{length, get_elem?}
use Rattle.meaning.specs.Numbers.{Variable}
use Rattle.meaning.specs.Unexpanded.{Term, literal, truth, variable, bit, not, int, parens, no_name}
use Rattle.meaning.specs.Base.{base_term}
use Rattle.meaning.specs.Expansion.{Bound, actual_of, Form, one_name, one_bit, neither, moved, read_name, bit_of_form, read_bit, replaced}
use Rattle.meaning.specs.Declared.{as_bit}
use Rattle.language.specs.Words.{the}
use Rattle.language.specs.Grammar.{binding}
use Rattle.language.specs.Trees.{Name, operators, joined_by}
use Rattle.words.specs.Kinds.{numbered}
use Rattle.words.specs.Runs.{part}
use Rattle.hand.specs.declared.Here.{Here}
use Rattle.hand.specs.Along.{Near, Begins}
use Rattle.tiers.specs.declared.How.TheVariants.{Operand, Between, Before}
use Rattle.tiers.specs.Choose.{IsHow, operand_row, strength_of}
use Rattle.tiers.specs.Comes.{Comes, ComesBare}
use Rattle.tiers.proofs.Laws.{strength_some, name_in, bare_number, bare_true, bare_false, bare_name, bare_bit}
use Rattle.tiers.proofs.Laws as tiers
use Rattle.frames.specs.declared.Meant.{Meant}
use Rattle.frames.specs.declared.Meant.TheVariants as meant
use Rattle.frames.specs.Meant.{span_name, form_for, form_in}
use Rattle.parts.specs.declared.Notes.{Notes}
use Rattle.parts.specs.declared.Got.{Got}
use Rattle.parts.specs.Sum.{Sum, sum_of, sum, counted, leaf_sum, around_sum, join_sum, name_sum, bit_sum}
use Rattle.parts.specs.Beside.{beside}
use Rattle.parts.proofs.Beside.{same_size, put-beside}
use Rattle.exprs.specs.Came.{sum_under, Came, PlainCame}
use Rattle.exprs.proofs.Chosen.{join_op}

-- ---- sums

-- p is what is told of the place q, and m₁ the notes with one more node
module _ (look : List ℕ → Option Variable) (to : ℕ → ℕ) (bound : List (Bound Term)) (m : Notes) (t : List ℕ) {p : ℕ} (q : ℕ) {m₁ : Notes} (e : p ≡ to q) (f : m₁ ≡ counted m p) where
  around-sum : (x : Term) (code : ℕ) (b : Bool) (c : ℕ) → around_sum m (sum_under look to bound x m₁ t) code p b c ≡ around_sum m (sum_under look to bound x (counted m (to q)) t) code (to q) b c
  around-sum x code b c =
      ap (λ (n : Notes). around_sum m (sum_under look to bound x n t) code p b c) f
      ∙ ap (λ (z : ℕ). around_sum m (sum_under look to bound x (counted m z) t) code z b c) e

  not_sum : (x : Term) → around_sum m (sum_under look to bound x m₁ t) 7 p true 0 ≡ sum_under look to bound (not q x) m t
  unfolding sum base_term replaced
  not_sum x = around-sum x 7 true 0

  int-sum : (x : Term) → around_sum m (sum_under look to bound x m₁ t) 8 p false 1 ≡ sum_under look to bound (int q x) m t
  unfolding sum base_term replaced
  int-sum x = around-sum x 8 false 1

parens-sum : (look : List ℕ → Option Variable) (to : ℕ → ℕ) (bound : List (Bound Term)) (x : Term) (m : Notes) (t : List ℕ) → sum_under look to bound x m t ≡ sum_under look to bound (parens x) m t
unfolding base_term replaced
parens-sum look to bound x m t = refl

kept_of_lem : {a b : Sum} → a ≡ b → beside a.bytes ≡ beside b.bytes
kept_of_lem e = ap (λ (x : Sum). beside x.bytes) e

-- the number of bytes stays
pub came-long : {look : List ℕ → Option Variable} {to : ℕ → ℕ} {B : List (Bound Term) → Type 0} {s : List ℕ} {n k : ℕ} {h : Here} {m : Notes} {t u : List ℕ} {r : Got} → Came look to B s n k h m t u r → length u ≡ length t
unfolding beside
came-long came = same_size came.kept

pub plain_long : {look : List ℕ → Option Variable} {to : ℕ → ℕ} {B : List (Bound Term) → Type 0} {s : List ℕ} {n : ℕ} {h : Here} {m : Notes} {t u : List ℕ} {r : Got} → PlainCame look to B s n h m t u r → length u ≡ length t
unfolding beside
plain_long came = same_size came.kept

joined-sum : (look : List ℕ → Option Variable) (to : ℕ → ℕ) (bound : List (Bound Term)) (k : ℕ) (op : String) {p : ℕ} (q : ℕ) (x y : Term) (m : Notes) {m₁ : Notes} (t : List ℕ) (a b : Sum) → numbered k ≡ the op → ¬ (strength_of k ≡ 255) → p ≡ to q → m₁ ≡ counted a.notes p
    → a ≡ sum_under look to bound x m t → b ≡ sum_under look to bound y m₁ a.bytes → join_sum k p a b ≡ sum_under look to bound (joined_by operators op q x y) m t
joined-sum look to bound k op {p} q x y m t a b e g told one f i =
    ap (join_sum k p a) i
    ∙ ap (λ (n : Notes). join_sum k p a (sum_under look to bound y n a.bytes)) one
    ∙ ap (λ (z : Sum). join_sum k p z (sum_under look to bound y (counted z.notes p) z.bytes)) f
    ∙ ap (λ (z : ℕ). join_sum k z (sum_under look to bound x m t) (sum_under look to bound y (counted (sum_under look to bound x m t).notes z) (sum_under look to bound x m t).bytes)) told
    ∙ sym (join_op look to bound k op q x y m t e g)

-- ---- what is claimed of the term that is read

abbrev Sums : (List ℕ → Option Variable) → (ℕ → ℕ) → (List (Bound Term) → Type 0) → Notes → List ℕ → List ℕ → Got → Term → Type 0
Sums look to B m t u r v = (bound : List (Bound Term)) → B bound → sum_of r u ≡ sum_under look to bound v m t

module _ {look : List ℕ → Option Variable} {to : ℕ → ℕ} {B : List (Bound Term) → Type 0} {s : List ℕ} {m : Notes} {t u : List ℕ} {r : Got} where
  comes : {n k : ℕ} {h : Here} → Came look to B s n k h m t u r → Comes s n k h r.word (Sums look to B m t u r)
  comes c = record { near = c.near; later = c.later; told = λ ws st f v rest x. let z = c.told ws st f v rest x in record { word = z.word; holds = z.sums } }

  came : {n k : ℕ} {h : Here} → beside u ≡ beside t → Comes s n k h r.word (Sums look to B m t u r) → Came look to B s n k h m t u r
  came kept c = record { near = c.near; later = c.later; kept = kept; told = λ ws st f v rest x. let z = c.told ws st f v rest x in record { word = z.word; sums = z.holds } }

  bare : {row : ℕ} {h : Here} → PlainCame look to B s row h m t u r → ComesBare s row h r.word (Sums look to B m t u r)
  bare c = record { near = c.near; later = c.later; told = λ ws st f k v rest x. let z = c.told ws st f k v rest x in record { word = z.word; holds = z.sums } }

  plain : {row : ℕ} {h : Here} → beside u ≡ beside t → ComesBare s row h r.word (Sums look to B m t u r) → PlainCame look to B s row h m t u r
  plain kept c = record { near = c.near; later = c.later; kept = kept; told = λ ws st f k v rest x. let z = c.told ws st f k v rest x in record { word = z.word; sums = z.holds } }

-- ---- an operator before its operand

module _ {look : List ℕ → Option Variable} {to : ℕ → ℕ} {B : List (Bound Term) → Type 0} {s : List ℕ} {n k : ℕ} {h : Here} {m : Notes} {t : List ℕ} where
  -- it is not there
  pub before-skip : {op : ℕ} {u : List ℕ} {r : Got} → n < 6 → IsHow (get_elem? binding n) (Before op) → ¬ (h.kind ≡ op) → Came look to B s (n + 1) k h m t u r → Came look to B s n k h m t u r
  before-skip low how no-op c = came c.kept (tiers.before-skip low how no-op (comes c))

  -- .. that is there, with no level left
  pub before-deep : {op : ℕ} {r : Got} → n < 6 → IsHow (get_elem? binding n) (Before op) → h.kind ≡ op → k ≡ 0 → Near s h → r.word ≡ h → Came look to B s n k h m t t r
  before-deep low how yes-op none_left near w = came refl (tiers.before-deep low how yes-op none_left near w)

  -- .. with its operand
  pub before_on : {op : ℕ} {h₁ : Here} {u₁ u : List ℕ} {g r : Got} (p : ℕ) {m₁ : Notes} → n < 6 → IsHow (get_elem? binding n) (Before op) → h.kind ≡ op → Near s h → Begins s h.next h₁ → p ≡ to h.place
      → Came look to B s n (k - 1) h₁ m₁ t u₁ g → m₁ ≡ counted m p → r.word ≡ g.word → sum_of r u ≡ around_sum m (sum_of g u₁) 7 p true 0 → Came look to B s n k h m t u r
  unfolding around_sum
  before_on {op} {h₁} {u₁} {u} {g} {r} p low how yes-op near begins told c one w sums =
      came (kept_of_lem sums ∙ put-beside u₁ _ _ _ _ _ _ ∙ c.kept)
      (tiers.before_on low how yes-op near begins (comes c) w (λ x e bound bd. sums ∙ ap (λ (y : Sum). around_sum m y 7 p true 0) (e bound bd) ∙ not_sum look to bound m t h.place told one x))

-- ---- operators between operands

-- from the first operand on, whatever follows: some operators are read, and what they come to is in hand
pub record Going (look : List ℕ → Option Variable) (to : ℕ → ℕ) (B : List (Bound Term) → Type 0) (s : List ℕ) (n k : ℕ) (left₀ : Got) (t₀ : List ℕ) (left : Got) (u : List ℕ) : Type 0 where
  pub near : Near s left.word
  pub later : left₀.word.place ≤ left.word.place
  pub kept : beside u ≡ beside t₀
  pub going : (m : Notes) (t : List ℕ) → tiers.Going s n k left₀.word (Sums look to B m t t₀ left₀) left.word (Sums look to B m t u left)

module _ {look : List ℕ → Option Variable} {to : ℕ → ℕ} {B : List (Bound Term) → Type 0} {s : List ℕ} {n k : ℕ} where
  pub between_start : {h : Here} {m : Notes} {t t₀ : List ℕ} {left₀ : Got} → Came look to B s (n + 1) k h m t t₀ left₀ → Going look to B s n k left₀ t₀ left₀ t₀
  between_start c = record { near = c.near; later = omega arith; kept = refl; going = λ m t. tiers.between_start c.near }

  pub between_ends : {h : Here} {m : Notes} {t t₀ u : List ℕ} {left₀ left : Got} → n < 6 → IsHow (get_elem? binding n) Between → ¬ (strength_of left.word.kind ≡ n)
      → Came look to B s (n + 1) k h m t t₀ left₀ → Going look to B s n k left₀ t₀ left u → Came look to B s n k h m t u left
  between_ends {h} {m} {t} low how other c going = came (going.kept ∙ c.kept) (tiers.between_ends low how other (comes c) (going.going m t))

  -- p is what is told of the operator's place, and m₁ the notes with the operator counted
  pub between_on : {t₀ u u₁ u₂ : List ℕ} {left₀ left right next : Got} {h₁ : Here} (p : ℕ) {m₁ : Notes} → Going look to B s n k left₀ t₀ left u → n < 6 → strength_of left.word.kind ≡ n → Begins s left.word.next h₁ → p ≡ to left.word.place
      → Came look to B s (n + 1) k h₁ m₁ u u₁ right → m₁ ≡ counted left.notes p
      → next.word ≡ right.word → ((x : List ℕ) → sum_of next u₂ ≡ join_sum left.word.kind p (sum_of left x) (sum_of right u₁)) → Going look to B s n k left₀ t₀ next u₂
  unfolding join_sum
  between_on {t₀} {u} {u₁} {u₂} {left₀} {left} {right} {next} {h₁} p going low here begins told c one w sums =
      record {
        near = rw w c.near;
        later = rw w (omega (arith, going.later, going.near.on, begins.later, c.later));
        kept = kept_of_lem (sums u) ∙ put-beside u₁ _ _ _ _ _ _ ∙ c.kept ∙ going.kept;
        going = λ m t. tiers.between_on low here begins (comes c) w
            (λ op x y e f g bound bd. sums u ∙ joined-sum look to bound left.word.kind op left.word.place x y m t (sum_of left u) (sum_of right u₁) e (strength_some left.word.kind n low here) told one (f bound bd) (g bound bd)) (going.going m t);
      }

-- ---- operands

module _ {look : List ℕ → Option Variable} {to : ℕ → ℕ} {B : List (Bound Term) → Type 0} {s : List ℕ} {n k : ℕ} {h : Here} {m : Notes} {t : List ℕ} where
  pub operand_plain : {u : List ℕ} {r : Got} {row : ℕ} → IsHow (get_elem? binding n) Operand → row ≡ operand_row h.kind → PlainCame look to B s row h m t u r → Came look to B s n k h m t u r
  operand_plain how e c = came c.kept (tiers.operand_bare how e (bare c))

  pub operand_none : {r : Got} {row : ℕ} → IsHow (get_elem? binding n) Operand → row ≡ operand_row h.kind → row ≡ 6 → Near s h → r.word ≡ h → Came look to B s n k h m t t r
  operand_none how e six near w = came refl (tiers.operand_none how e six near w)

  pub operand-deep : {r : Got} {row : ℕ} → IsHow (get_elem? binding n) Operand → row ≡ operand_row h.kind → ¬ (row < 4) → k ≡ 0 → Near s h → r.word ≡ h → Came look to B s n k h m t t r
  operand-deep how e large none_left near w = came refl (tiers.operand-deep how e large none_left near w)

  pub operand_open : {u : List ℕ} {g r : Got} {h₁ h₂ : Here} {row : ℕ} → IsHow (get_elem? binding n) Operand → row ≡ operand_row h.kind → row ≡ 5 → Near s h → Begins s h.next h₁
      → Came look to B s 0 (k - 1) h₁ m t u g → Begins s g.word.next h₂ → r.word ≡ h₂ → ((x : List ℕ) → sum_of r x ≡ sum_of g x) → Came look to B s n k h m t u r
  operand_open {u} how e five near b₁ c b₂ w sums = came c.kept (tiers.operand_open how e five near b₁ (comes c) b₂ w (λ x q bound bd. sums u ∙ q bound bd ∙ parens-sum look to bound x m t))

  pub operand-int : {u₁ u : List ℕ} {g r : Got} {h₁ h₂ h₃ : Here} {row : ℕ} (p : ℕ) {m₁ : Notes} → IsHow (get_elem? binding n) Operand → row ≡ operand_row h.kind → ¬ (row < 4) → ¬ (row ≡ 5) → Near s h → Begins s h.next h₁ → Begins s h₁.next h₂ → p ≡ to h.place
      → Came look to B s 0 (k - 1) h₂ m₁ t u₁ g → m₁ ≡ counted m p → Begins s g.word.next h₃ → r.word ≡ h₃ → sum_of r u ≡ around_sum m (sum_of g u₁) 8 p false 1 → Came look to B s n k h m t u r
  unfolding around_sum
  operand-int {u₁} p how e large five near b₁ b₂ told c one b₃ w sums =
      came (kept_of_lem sums ∙ put-beside u₁ _ _ _ _ _ _ ∙ c.kept)
      (tiers.operand-int how e large five near b₁ b₂ (comes c) b₃ w (λ x q bound bd. sums ∙ ap (λ (y : Sum). around_sum m y 8 p false 1) (q bound bd) ∙ int-sum look to bound m t h.place told one x))

-- ---- operands with no level

module _ (look : List ℕ → Option Variable) (to : ℕ → ℕ) (bound : List (Bound Term)) (m : Notes) (t : List ℕ) where
  literal-sum : (p n : ℕ) → leaf_sum m t 0 n (to p) false n ≡ sum_under look to bound (literal p n) m t
  unfolding sum base_term replaced
  literal-sum p n = refl

  truth-sum : (p : ℕ) (b : Bool) → leaf_sum m t (as_bit b + 1) 0 (to p) true 0 ≡ sum_under look to bound (truth p b) m t
  unfolding sum base_term replaced
  truth-sum p b = refl

  -- a name that is no formal
  variable-sum : (v : Name) → actual_of bound v.bytes ≡ none → name_sum m t (look v.bytes) (to v.place) ≡ sum_under look to bound (variable v) m t
  unfolding sum base_term replaced
  variable-sum v e = ap (λ (o : Option Term). sum look (base_term (read_name to v o)) m t) (sym e)

  -- P5: a formal is its actual, a bit of a name the bit of what that name stands for
  formal-sum : (v : Name) (x : Term) → actual_of bound v.bytes ≡ some x → sum look (base_term x) m t ≡ sum_under look to bound (variable v) m t
  unfolding base_term replaced
  formal-sum v x e = ap (λ (o : Option Term). sum look (base_term (read_name to v o)) m t) (sym e)

  form-bit : (v : Name) (j : ℕ) (o : Option Term) → bit_of_form to (to v.place) j (form_for to v o) ≡ read_bit to v j o
  form-bit v j none = refl
  form-bit v j (some x) = refl

  bit-sum : (v : Name) (j : ℕ) (f : Form) → f ≡ form_for to v (actual_of bound v.bytes) → sum look (base_term (bit_of_form to (to v.place) j f)) m t ≡ sum_under look to bound (bit v j) m t
  unfolding replaced
  bit-sum v j f e =
      ap (λ (g : Form). sum look (base_term (bit_of_form to (to v.place) j g)) m t) e
      ∙ ap (λ (x : Term). sum look (base_term x) m t) (form-bit v j (actual_of bound v.bytes))

module _ {look : List ℕ → Option Variable} {to : ℕ → ℕ} {B : List (Bound Term) → Type 0} {s : List ℕ} {h : Here} {m : Notes} {t u : List ℕ} {r : Got} {a : Here} (near : Near s h) (b : Begins s h.next a) where
  pub plain_number : {row : ℕ} → row ≡ 1 → r.word ≡ a → sum_of r u ≡ leaf_sum m t 0 h.value (to h.place) false h.value → PlainCame look to B s row h m t u r
  unfolding leaf_sum
  plain_number one w sums = plain (kept_of_lem sums ∙ put-beside t _ _ _ _ _ _) (bare_number near b one w (λ bound bd. sums ∙ literal-sum look to bound m t h.place h.value))

  pub plain_true : {row : ℕ} → row ≡ 2 → r.word ≡ a → sum_of r u ≡ leaf_sum m t 2 0 (to h.place) true 0 → PlainCame look to B s row h m t u r
  unfolding leaf_sum
  plain_true two w sums = plain (kept_of_lem sums ∙ put-beside t _ _ _ _ _ _) (bare_true near b two w (λ bound bd. sums ∙ truth-sum look to bound m t h.place true))

  pub plain_false : {row : ℕ} → row ≡ 3 → r.word ≡ a → sum_of r u ≡ leaf_sum m t 1 0 (to h.place) true 0 → PlainCame look to B s row h m t u r
  unfolding leaf_sum
  plain_false three w sums = plain (kept_of_lem sums ∙ put-beside t _ _ _ _ _ _) (bare_false near b three w (λ bound bd. sums ∙ truth-sum look to bound m t h.place false))

  -- a name that is no formal; or a formal, whose actual was read
  pub plain_name : {o : Option Variable} → ((bound : List (Bound Term)) → B bound → actual_of bound (part s h.place h.next) ≡ none) → ¬ (a.kind ≡ 16) → o ≡ look (part s h.place h.next) → r.word ≡ a
      → sum_of r u ≡ name_sum m t o (to h.place) → PlainCame look to B s 0 h m t u r
  plain_name own not-index seen w sums =
      plain (kept_of_lem sums ∙ put-beside t _ _ _ _ _ _)
      (bare_name near b refl not-index w (λ bound bd. sums ∙ ap (λ (y : Option Variable). name_sum m t y (to h.place)) seen ∙ variable-sum look to bound m t (name_in s h) (own bound bd)))

  pub plain_formal : ((bound : List (Bound Term)) → B bound → (x : Term) × (actual_of bound (part s h.place h.next) ≡ some x) × (sum_of r u ≡ sum look (base_term x) m t)) → ¬ (a.kind ≡ 16) → r.word ≡ a → beside u ≡ beside t → PlainCame look to B s 0 h m t u r
  plain_formal is not-index w kept = plain kept (bare_name near b refl not-index w (λ bound bd. let (x, e, sums) = is bound bd in sums ∙ formal-sum look to bound m t (name_in s h) x e))

  module _ {a₁ a₂ a₃ : Here} (index : a.kind ≡ 16) (b₁ : Begins s a.next a₁) (b₂ : Begins s a₁.next a₂) (b₃ : Begins s a₂.next a₃) where
    plain_index : r.word ≡ a₃ → beside u ≡ beside t → Sums look to B m t u r (bit (name_in s h) a₁.value) → PlainCame look to B s 0 h m t u r
    plain_index w kept sums = plain kept (bare_bit near b (λ e. omega arith) (λ e. omega arith) (λ e. omega arith) (omega arith) index b₁ b₂ b₃ w sums)

    -- P8: what stands for no name has no bit
    no_bit : {o : Option Variable} (f : Form) → bit_of_form to (to h.place) a₁.value f ≡ no_name (to h.place) → ((bound : List (Bound Term)) → B bound → f ≡ form_for to (name_in s h) (actual_of bound (part s h.place h.next))) → o ≡ look []
        → r.word ≡ a₃ → sum_of r u ≡ name_sum m t o (to h.place) → PlainCame look to B s 0 h m t u r
    unfolding sum base_term
    no_bit f g stands seen w sums =
        plain_index w (kept_of_lem sums ∙ put-beside t _ _ _ _ _ _)
        (λ bound bd. sums ∙ ap (λ (y : Option Variable). name_sum m t y (to h.place)) seen ∙ ap (λ (x : Term). sum look (base_term x) m t) (sym g) ∙ bit-sum look to bound m t (name_in s h) a₁.value f (stands bound bd))

    -- by what the name stands for
    module _ (q : Meant) (stands : (bound : List (Bound Term)) → B bound → form_in s to q ≡ form_for to (name_in s h) (actual_of bound (part s h.place h.next))) where
      pub plain_bit : {i j : ℕ} {o : Option Variable} → q ≡ meant.Name i j → o ≡ look (part s i j) → r.word ≡ a₃ → sum_of r u ≡ bit_sum m t o (to i) a₁.value → PlainCame look to B s 0 h m t u r
      unfolding sum base_term
      plain_bit {i} {j} e seen w sums =
          plain_index w (kept_of_lem sums ∙ put-beside t _ _ _ _ _ _)
          (λ bound bd. sums ∙ ap (λ (y : Option Variable). bit_sum m t y (to i) a₁.value) seen ∙ bit-sum look to bound m t (name_in s h) a₁.value (one_name (moved to (span_name s i j))) (sym (ap (form_in s to) e) ∙ stands bound bd))

      pub plain_bit_of_bit : {i j k : ℕ} {o : Option Variable} → q ≡ meant.Bit i j k → o ≡ look [] → r.word ≡ a₃ → sum_of r u ≡ name_sum m t o (to h.place) → PlainCame look to B s 0 h m t u r
      plain_bit_of_bit {i} {j} {k} e = no_bit (one_bit (moved to (span_name s i j)) k) refl (λ bound bd. sym (ap (form_in s to) e) ∙ stands bound bd)

      pub plain_bit_of_none : {o : Option Variable} → q ≡ meant.Neither → o ≡ look [] → r.word ≡ a₃ → sum_of r u ≡ name_sum m t o (to h.place) → PlainCame look to B s 0 h m t u r
      plain_bit_of_none e = no_bit neither refl (λ bound bd. sym (ap (form_in s to) e) ∙ stands bound bd)
