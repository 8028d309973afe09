-- A grammar as data, what it derives, and what reading a list of words by it answers. No parser is in these definitions.
-- Assumes nothing.
use Rattle.std.specs.Prelude.{◌≡◌, ◌⊎◌, List, [], ◌∷◌, ◌++◌, ℕ, suc, ◌≤◌, ◌<◌, length, get_or, take}

-- in a grammar over kinds of words K and parts P: a word of a kind, a part, and the marks of a level that opens or closes
pub data Symbol (K P : Type 0) : Type 0 where
  word : K → Symbol K P
  part : P → Symbol K P
  In Out : Symbol K P

abbrev pub Row : Type 0 → Type 0 → Type 0
Row K P = List (Symbol K P)

-- for each part the rows that it can be written as
abbrev pub Grammar : Type 0 → Type 0 → Type 0
Grammar K P = P → List (Row K P)

abbrev pub row_at : {K P : Type 0} → Grammar K P → P → ℕ → Row K P
row_at G n i = get_or (G n) i []

-- from the row a, with k levels left, the words w are read by the rules d, in order; row b and j levels are left.
-- It is always the row's first part that is replaced, so that d says the whole tree.
pub data Reads {K P : Type 0} (G : Grammar K P) (j : ℕ) (b : Row K P) : ℕ → Row K P → List K → List ℕ → Type 0 where
  stop : {k : ℕ} {a : Row K P} → k ≡ j → a ≡ b → Reads G j b k a [] []
  reads : {k : ℕ} {t s : K} {r : Row K P} {w : List K} {d : List ℕ} → t ≡ s → Reads G j b k r w d → Reads G j b k (word t ∷ r) (s ∷ w) d
  rule : {k : ℕ} {n : P} {r : Row K P} {w : List K} {d : List ℕ} (i : ℕ) → i < length (G n) → Reads G j b k (row_at G n i ++ r) w d → Reads G j b k (part n ∷ r) w (i ∷ d)
  into : {k : ℕ} {r : Row K P} {w : List K} {d : List ℕ} → Reads G j b k r w d → Reads G j b (suc k) (In ∷ r) w d
  out : {k : ℕ} {r : Row K P} {w : List K} {d : List ℕ} → Reads G j b (suc k) r w d → Reads G j b k (Out ∷ r) w d

-- the words are a whole sentence of the row a, with never more than k levels open
abbrev pub Sentence : {K P : Type 0} → Grammar K P → ℕ → Row K P → List K → Type 0
Sentence G k a w = (d : List ℕ) × (j : ℕ) × Reads G j [] k a w d

-- the words u can be read, whatever follows, with never more than k levels open in them
abbrev pub Begins : {K P : Type 0} → Grammar K P → ℕ → Row K P → List K → Type 0
Begins G k a u = (d : List ℕ) × (j : ℕ) × (b : Row _ _) × Reads G j b k a u d

-- the grammar lets a sentence continue so
abbrev pub Continues : {K P : Type 0} → Grammar K P → Row K P → List K → Type 0
Continues G a u = (v : List _) × (k : ℕ) × Sentence G k a (u ++ v)

-- where only `most` levels may be open at once, the words open one more
abbrev pub TooDeep : {K P : Type 0} → Grammar K P → ℕ → Row K P → List K → Type 0
TooDeep G most a u = Begins G (suc most) a u × ¬ (Begins G most a u)

-- reading is refused at the word number e: all was well before it, and there the grammar lets no sentence continue so, or a level too many opens; or the words end there, and are none
pub record Refused {K P : Type 0} (G : Grammar K P) (most : ℕ) (a : Row K P) (w : List K) (e : ℕ) : Type 0 where
  pub inside : e ≤ length w
  pub before : Begins G most a (take e w)
  pub here : e < length w → (¬ (Continues G a (take (suc e) w))) ⊎ TooDeep G most a (take (suc e) w)
  pub short : e ≡ length w → (k : ℕ) → ¬ (Sentence G k a w)

-- what reading answers
pub data Read : Type 0 where
  sentence : Read
  refused : ℕ → Read

-- .. and what the answer says of the words
abbrev pub Answers : {K P : Type 0} → Grammar K P → ℕ → Row K P → List K → Read → Type 0
Answers G most a w sentence = Sentence G most a w
Answers G most a w (refused e) = Refused G most a w e
