-- What one word of looking ahead needs: claims on a grammar's parts, and the tests, by computation, that the claims are kept and part the rules.
-- Assumes nothing.
use mathlib.Core.Bool.{Bool, true, false, ◌&&◌}
use mathlib.Core.Path.{◌≡◌}
use mathlib.Core.List.{List, [], ◌∷◌, ◌++◌, map}
use mathlib.Core.Option.{Option, none, some}
use Prim.Native.Nat.{ℕ, suc}
use lib.Dec.{ltb}
use Rattle.ll1.specs.Grammar.{word, part, In, Out, Row, Grammar}

abbrev pub ◌implies◌ : Bool → Bool → Bool
true implies b = b
false implies b = true

infixr 30 ◌implies◌
-- of each part: the words that it can begin with, whether it can be empty, what can come after it (none: the end of the words).
-- And two numbers that fall: `rank` where a part stands first in a row of another, `size` along some row of each part.
pub record Claims (K P : Type 0) : Type 0 where
  pub same : K → K → Bool
  pub same_true : (x y : K) → same x y ≡ true → x ≡ y
  pub same_self : (x : K) → same x x ≡ true
  pub first : P → List K
  pub empty : P → Bool
  pub follow : P → List (Option K)
  pub rank : P → ℕ
  pub size : P → ℕ

module _ {K P : Type 0} (C : Claims K P) where
  abbrev pub same_next : Option K → Option K → Bool
  same_next none none = true
  same_next none (some y) = false
  same_next (some x) none = false
  same_next (some x) (some y) = C.same x y

  unfoldable pub has : List (Option K) → Option K → Bool
  has [] x = false
  has (y ∷ l) x = elim (same_next y x) [ true ↦ true | false ↦ has l x ]

  unfoldable pub within : List (Option K) → List (Option K) → Bool
  within [] l = true
  within (x ∷ k) l = has l x && within k l

  unfoldable pub apart : List (Option K) → List (Option K) → Bool
  apart [] l = true
  apart (x ∷ k) l = (has l x implies false) && apart k l

  abbrev pub firsts : P → List (Option K)
  firsts n = map some (C.first n)

  unfoldable pub empty_row : Row K P → Bool
  empty_row [] = true
  empty_row (word t ∷ r) = false
  empty_row (part n ∷ r) = C.empty n && empty_row r
  empty_row (In ∷ r) = empty_row r
  empty_row (Out ∷ r) = empty_row r

  -- what a row can begin with, where z can come after it
  unfoldable pub begin_row : List (Option K) → Row K P → List (Option K)
  begin_row z [] = z
  begin_row z (word t ∷ r) = some t ∷ []
  begin_row z (part n ∷ r) = firsts n ++ elim (C.empty n) [ true ↦ begin_row z r | false ↦ [] ]
  begin_row z (In ∷ r) = begin_row z r
  begin_row z (Out ∷ r) = begin_row z r

  abbrev pub opens_word : Row K P → Bool
  opens_word [] = false
  opens_word (word t ∷ r) = true
  opens_word (part n ∷ r) = false
  opens_word (In ∷ r) = false
  opens_word (Out ∷ r) = false

  -- in a row of n each part is followed by what may follow it, and each level opens at a word
  unfoldable pub follows : P → Row K P → Bool
  follows n [] = true
  follows n (word t ∷ r) = follows n r
  follows n (part m ∷ r) = within (begin_row (C.follow n) r) (C.follow m) && follows n r
  follows n (In ∷ r) = opens_word r && follows n r
  follows n (Out ∷ r) = follows n r

  -- no part stands first in a row that does not rank above it
  unfoldable pub falls : P → Row K P → Bool
  falls n [] = true
  falls n (word t ∷ r) = true
  falls n (part m ∷ r) = ltb (C.rank m) (C.rank n) && (C.empty m implies falls n r)
  falls n (In ∷ r) = falls n r
  falls n (Out ∷ r) = falls n r

  -- a row of n keeps what is claimed of n
  unfoldable pub keeps : P → Row K P → Bool
  keeps n p = within (begin_row [] p) (firsts n) && ((empty_row p implies C.empty n) && (follows n p && falls n p))

  -- no next word calls for both p and a later row
  unfoldable pub differs : P → Row K P → List (Row K P) → Bool
  differs n p [] = true
  differs n p (q ∷ qs) = apart (begin_row (C.follow n) p) (begin_row (C.follow n) q) && differs n p qs

  unfoldable pub all_differ : P → List (Row K P) → Bool
  all_differ n [] = true
  all_differ n (p ∷ ps) = keeps n p && (differs n p ps && all_differ n ps)

  -- every part of the row is smaller than n
  unfoldable pub smaller : P → Row K P → Bool
  smaller n [] = true
  smaller n (word t ∷ r) = smaller n r
  smaller n (part m ∷ r) = ltb (C.size m) (C.size n) && smaller n r
  smaller n (In ∷ r) = smaller n r
  smaller n (Out ∷ r) = smaller n r

  unfoldable pub some_small : P → List (Row K P) → Bool
  some_small n [] = false
  some_small n (p ∷ ps) = elim (smaller n p) [ true ↦ true | false ↦ some_small n ps ]

  -- the rule that the next word calls for, counted from i
  unfoldable pub pick : P → Option K → ℕ → List (Row K P) → Option ℕ
  pick n x i [] = none
  pick n x i (p ∷ ps) = elim (has (begin_row (C.follow n) p) x) [ true ↦ some i | false ↦ pick n x (suc i) ps ]

  -- the grammar passes
  pub record Passes (G : Grammar K P) : Type 0 where
    pub parted : (n : P) → all_differ n (G n) ≡ true
    pub finite : (n : P) → some_small n (G n) ≡ true
