-- What the parts of a program's words come to, and what each row of an expression says of it.
-- Assumes nothing.
use Rattle.std.specs.Prelude.{true, false, ◌≡◌, List, ◌∷◌, ℕ, zero, suc}
use Rattle.std.proofs.Math.Option.{Option, none, some}
use Prim.Native.String.{String}
use Rattle.meaning.specs.Unexpanded.{Term, literal, truth, not, int, parens}
use Rattle.ll1.specs.Goes.{look}
use Rattle.ll1.proofs.Tests.{pick}
use Rattle.language.specs.Words.{Kind, number, the, Word}
use Rattle.language.specs.Grammar.{Part, Tier, Further, Index, Expression, Strength, between, before, csml, kinds}
use Rattle.language.specs.Trees.{name_at, number_at, Val, operators, joined_by, name_or_bit, makes}
use Rattle.language.proofs.Claims.{claims}
use Rattle.descent_law.specs.Gives.{Gives}

-- the grammar looks at kinds
abbrev pub kind_of : Word → Kind
kind_of w = w.kind

-- with k levels left the words ws come to v by the part n, and the rest is left
abbrev pub Told : ℕ → (n : Part) → ℕ → List Word → Val n → List Word → Type 0
Told f n k ws v rest = Gives Word Val kind_of claims csml makes f n k ws v rest

-- row i is the one that the next word calls for
abbrev pub Called : Part → List Word → ℕ → Type 0
Called n ws i = pick claims n (look (kinds ws)) 0 (csml n) ≡ some i

-- what row i of an operand says
abbrev pub OperandRow : ℕ → ℕ → List Word → Term → List Word → ℕ → Type 0
OperandRow f k ws v rest zero = (w : Word) × (tail : List Word) × (j : Option ℕ) × (ws ≡ w ∷ tail) × Told f Index k tail j rest × (v ≡ name_or_bit (name_at w) j)
OperandRow f k ws v rest (suc zero) = (w : Word) × (ws ≡ w ∷ rest) × (w.kind ≡ number) × (v ≡ literal w.place (number_at w))
OperandRow f k ws v rest (suc (suc zero)) = (w : Word) × (ws ≡ w ∷ rest) × (v ≡ truth w.place true)
OperandRow f k ws v rest (suc (suc (suc zero))) = (w : Word) × (ws ≡ w ∷ rest) × (v ≡ truth w.place false)
OperandRow f k ws v rest (suc (suc (suc (suc zero)))) =
    (w : Word) × (o : Word) × (c : Word) × (m : ℕ) × (tail : List Word) × (e : Term) × (ws ≡ w ∷ o ∷ tail) × (k ≡ suc m) × Told f Expression m tail e (c ∷ rest) × (v ≡ int w.place e)
OperandRow f k ws v rest (suc (suc (suc (suc (suc zero))))) =
    (w : Word) × (c : Word) × (m : ℕ) × (tail : List Word) × (e : Term) × (ws ≡ w ∷ tail) × (k ≡ suc m) × Told f Expression m tail e (c ∷ rest) × (v ≡ parens e)
OperandRow f k ws v rest (suc (suc (suc (suc (suc (suc i)))))) = ⊥

-- .. and of an expression of the operators that bind at n or higher
abbrev pub TierRow : ℕ → ℕ → ℕ → List Word → Term → List Word → Option Strength → ℕ → Type 0
TierRow f n k ws v rest none i = OperandRow f k ws v rest i
TierRow f n k ws v rest (some (between ops)) i =
    (mid : List Word) × (left : Term) × (g : Term → Term) × Told f (Tier (suc n)) k ws left mid × Told f (Further n) k mid g rest × (v ≡ g left)
TierRow f n k ws v rest (some (before op)) zero =
    (w : Word) × (m : ℕ) × (tail : List Word) × (e : Term) × (ws ≡ w ∷ tail) × (k ≡ suc m) × Told f (Tier n) m tail e rest × (v ≡ not w.place e)
TierRow f n k ws v rest (some (before op)) (suc i) = Told f (Tier (suc n)) k ws v rest

-- .. and of what follows an operand
abbrev pub FurtherRow : ℕ → ℕ → ℕ → List Word → (Term → Term) → List Word → ℕ → Type 0
FurtherRow f n k ws g rest zero = (g ≡ (λ left. left)) × (ws ≡ rest)
FurtherRow f n k ws g rest (suc c) =
    (op : String) × (w : Word) × (tail : List Word) × (mid : List Word) × (right : Term) × (h : Term → Term)
    × (ws ≡ w ∷ tail) × (w.kind ≡ the op) × Told f (Tier (suc n)) k tail right mid × Told f (Further n) k mid h rest
    × (g ≡ (λ left. h (joined_by operators op w.place left right)))

-- no bit; or `[`, its number, `]`
abbrev pub IndexRow : List Word → Option ℕ → List Word → ℕ → Type 0
IndexRow ws j rest zero = (j ≡ none) × (ws ≡ rest)
IndexRow ws j rest (suc i) = (a : Word) × (b : Word) × (c : Word) × (ws ≡ a ∷ b ∷ c ∷ rest) × (b.kind ≡ number) × (j ≡ some (number_at b))
