-- Texts made of fields, each of them one of so many texts, and what such a field may be decided by the fields before it. No promise names these: a reader's steps do.
-- Assumes nothing.
use Rattle.std.specs.Prelude.{◌≡◌, ◌↔◌, List, [], ◌++◌, ℕ, suc, ◌≤◌, ◌<◌, length, take}

-- nothing more, or a field: m texts, and what follows each of them
pub data Form : Type 0 where
  over : Form
  field : ℕ → (ℕ → List ℕ) → (ℕ → Form) → Form

-- a field that is one text
abbrev pub fixed : List ℕ → Form → Form
fixed s f = field 1 (λ a. s) (λ a. f)

-- the texts of a form
abbrev pub Spells : Form → List ℕ → Type 0
Spells over x = x ≡ []
Spells (field m enc rest) x = (a : ℕ) × (a < m) × (y : List ℕ) × (x ≡ enc a ++ y) × Spells (rest a) y

-- no text of a field begins another
abbrev pub Code : ℕ → (ℕ → List ℕ) → Type 0
Code m enc = (a b : ℕ) → a < m → b < m → (y z : List ℕ) → enc a ++ y ≡ enc b ++ z → a ≡ b

-- so in every field, and every field has a text
abbrev pub Apart : Form → Type 0
Apart over = Unit {0}
Apart (field m enc rest) = (1 ≤ m) × Code m enc × ((a : ℕ) → a < m → Apart (rest a))

-- some text of the form begins with s
abbrev pub Begins : Form → List ℕ → Type 0
Begins f s = (r : List ℕ) × Spells f (s ++ r)

-- behind s the texts of f go on as those of g
abbrev pub Leads : Form → List ℕ → Form → Type 0
Leads f s g = (y : List ℕ) → Spells f (s ++ y) ↔ Spells g y

-- x is none of the texts, and e is its first byte with which none of them goes on
pub record FormStops (f : Form) (x : List ℕ) (e : ℕ) : Type 0 where
  pub other : ¬ Spells f x
  pub inside : e ≤ length x
  pub before : Begins f (take e x)
  pub first : e < length x → ¬ Begins f (take (suc e) x)

-- the same of one field: y is short of each of its texts, and e is its first byte with which none of them goes on
pub record FieldStops (m : ℕ) (enc : ℕ → List ℕ) (y : List ℕ) (e : ℕ) : Type 0 where
  pub inside : e ≤ length y
  pub near : ℕ
  pub one : near < m
  pub more : List ℕ
  pub begins : enc near ≡ take e y ++ more
  pub short : 1 ≤ length more
  pub first : e < length y → (a : ℕ) → a < m → (z : List ℕ) → ¬ (enc a ≡ take (suc e) y ++ z)
