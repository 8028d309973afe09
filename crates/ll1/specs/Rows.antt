-- Rows of symbols as bytes, the table of where the row begins that a word calls for, and what the two tables of a reader have to keep.
-- For the inner promise of a reader of tables; nothing of the language rests on it.
-- Assumes nothing.
use Rattle.std.specs.Prelude.{Bool, true, false, ◌≡◌, List, [], ◌∷◌, map, ℕ, zero, suc, ◌+◌, ◌-◌, ◌*◌, ◌≤◌, ◌<◌, length, get_or, drop, eqb, ltb}
use Rattle.std.proofs.Math.Option.{none, some}
use Rattle.ll1.specs.Grammar.{Symbol, word, part, In, Out, Row}
use Rattle.ll1.specs.Goes.{done, stopped, Choice, Goes}

-- a byte below this is a kind of word, this opens a level, the next closes one, and all from two on are parts
abbrev pub opening : ℕ
opening = 126

abbrev pub closing : ℕ
closing = opening + 1

abbrev pub first_part : ℕ
first_part = opening + 2

-- kinds of words in a row of the table of starts
abbrev pub columns : ℕ
columns = 128

-- a row goes less deep than this, and so many turns at most read no word
abbrev pub most_deep : ℕ
most_deep = 16

abbrev pub most_bytes : ℕ
most_bytes = 1000

-- what the numbers stand for: the kinds from 1 on and below `used` have one number each
pub record Codes (K P : Type 0) : Type 0 where
  pub kind : ℕ → K
  pub part : ℕ → P
  pub used : ℕ
  pub told : (s t : ℕ) → ¬ (s ≡ 0) → s < used → kind s ≡ kind t → s ≡ t

module _ {K P : Type 0} (D : Codes K P) where
  unfoldable pub sym_of : ℕ → Symbol K P
  sym_of x =
      elim (ltb x opening) [
        | true ↦ word (D.kind x)
        | false ↦ elim (eqb x opening) [ true ↦ In | false ↦ elim (eqb x closing) [ true ↦ Out | false ↦ part (D.part (x - first_part)) ] ]
      ]

  -- the symbols up to the first 0
  unfoldable pub row_of : List ℕ → Row K P
  row_of [] = []
  row_of (zero ∷ l) = []
  row_of (suc x ∷ l) = sym_of (suc x) ∷ row_of l

  abbrev pub row : List ℕ → ℕ → Row K P
  row rows p = row_of (drop p rows)

  abbrev pub words : List ℕ → List K
  words w = map D.kind w

-- where the row of part n begins that the word t calls for; 0 where there is none
unfoldable pub start_of : List ℕ → ℕ → ℕ → ℕ
start_of starts n t = elim (ltb t columns) [ true ↦ get_or starts (n * columns + t) 0 | false ↦ 0 ]

unfoldable pub larger : ℕ → ℕ → ℕ
larger a b = elim (ltb a b) [ true ↦ b | false ↦ a ]

module _ {K P : Type 0} where
  -- with o levels open in it, a row closes them all and no more
  unfoldable pub closes : ℕ → Row K P → Bool
  closes o (word t ∷ r) = closes o r
  closes o (part n ∷ r) = closes o r
  closes o (In ∷ r) = closes (suc o) r
  closes zero (Out ∷ r) = false
  closes (suc o) (Out ∷ r) = closes o r
  closes zero [] = true
  closes (suc o) [] = false

  -- how many calls deep a row goes before a level opens; its last symbol needs no call
  module _ (depth : P → ℕ) where
    unfoldable pub deep : ℕ → Row K P → ℕ
    deep o [] = 0
    deep o (word t ∷ r) = deep o r
    deep o (In ∷ r) = deep (suc o) r
    deep zero (Out ∷ r) = deep zero r
    deep (suc o) (Out ∷ r) = deep o r
    deep zero (part n ∷ []) = depth n
    deep zero (part n ∷ (x ∷ r)) = larger (suc (depth n)) (deep zero (x ∷ r))
    deep (suc o) (part n ∷ r) = deep (suc o) r

  -- how many turns a row takes at most before a word is read or a call read one
  module _ (turn : P → ℕ) where
    unfoldable pub idle : Row K P → ℕ
    idle [] = 0
    idle (word t ∷ r) = 0
    idle (In ∷ r) = suc (idle r)
    idle (Out ∷ r) = suc (idle r)
    idle (part n ∷ []) = suc (turn n)
    idle (part n ∷ (x ∷ r)) = suc (idle (x ∷ r))

module _ {K P : Type 0} (D : Codes K P) (choose : Choice K P) where
  pub record Kept (depth turn : P → ℕ) (rows starts : List ℕ) (n t : ℕ) : Type 0 where
    pub none : start_of starts n t ≡ 0 → choose (D.part n) (some (D.kind t)) ≡ none
    pub rule : ¬ (start_of starts n t ≡ 0) → (i : ℕ) × (choose (D.part n) (some (D.kind t)) ≡ some (i, row D rows (start_of starts n t)))
    pub closed : closes 0 (row D rows (start_of starts n t)) ≡ true
    pub deeper : deep depth 0 (row D rows (start_of starts n t)) ≤ depth (D.part n)
    pub turns : idle turn (row D rows (start_of starts n t)) ≤ turn (D.part n)

  -- the tables serve a reader: the rows name kinds in use and the parts below `count`, and at the end of the words, and at a word of kind 0, no rule is called for
  pub record Tables (depth turn : P → ℕ) (rows starts : List ℕ) : Type 0 where
    pub count : ℕ
    pub short : length rows ≤ most_bytes
    pub coded : (p : ℕ) → get_or rows p 0 < opening → get_or rows p 0 < D.used
    pub known : (p : ℕ) → get_or rows p 0 < first_part + count
    pub at : (n t : ℕ) → n < count → Kept depth turn rows starts n t
    pub last : (n : ℕ) → n < count → start_of starts n 0 ≡ 0
    pub over : (n : ℕ) → n < count → choose (D.part n) none ≡ none
    pub low : (n : P) → depth n < most_deep
    pub few : (n : P) → turn n < most_deep

  -- from place i of the words w on, row a is read up to place e; or the word at e is the first that is not
  pub record ReadTo (a : Row K P) (w : List ℕ) (i k e : ℕ) : Type 0 where
    pub on : i ≤ e
    pub fits : e ≤ length w
    pub rules : List ℕ
    pub goes : Goes choose k a (drop i (words D w)) (done k rules (drop e (words D w)))

  pub record StopsAt (a : Row K P) (w : List ℕ) (i k e : ℕ) : Type 0 where
    pub fits : e ≤ length w
    pub goes : Goes choose k a (drop i (words D w)) (stopped (drop e (words D w)))
