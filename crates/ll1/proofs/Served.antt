-- Two tables serve a grammar: one test at each entry, by computation, and the law that it suffices.
-- Assumes nothing.
use mathlib.Core.Bool.{Bool, true, false, ◌&&◌}
use mathlib.Core.Path.{◌≡◌, refl, sym, ◌∙◌, ap, ap₂, subst}
use mathlib.Core.List.{List, [], ◌∷◌}
use mathlib.Core.Option.{Option, none, some}
use Prim.Native.Nat.{ℕ, zero, suc, ◌+◌, ◌*◌, ◌/◌, ◌%◌, ◌≤◌, ◌<◌}
use native.Mathlib.Nat.{add-zero, zero-add, add-suc, suc-add}
use native.Mathlib.Decide.{dec_lt}
use native.Mathlib.Omega.{arith}
use lib.ListN.{length, get_or, drop, get_or-eq_default}
use lib.Dec.{eqb, ltb, leb}
use borrow.Author.Tests.{eqb-true, ltb-true, leb-true, lt-ltb, le-ltb}
use Rattle.ll1.specs.Grammar.{Symbol, word, part, In, Out, Row, Grammar, row_at}
use Rattle.ll1.specs.Rows.{opening, first_part, columns, most_deep, most_bytes, Codes, row_of, row, start_of, closes, deep, idle, Kept, Tables}
use Rattle.ll1.proofs.Tests.{Claims, pick}
use Rattle.ll1.proofs.Sets.{clash, and_left, and_right}
use Rattle.ll1.proofs.Then.{with_row, picks}

unfoldable pub every : (ℕ → ℕ → Bool) → ℕ → List ℕ → Bool
every f i [] = true
every f i (x ∷ l) = f i x && every f (suc i) l

every_at : (f : ℕ → ℕ → Bool) (i : ℕ) (l : List ℕ) → every f i l ≡ true → (k : ℕ) → k < length l → f (i + k) (get_or l k 0) ≡ true
unfolding every
every_at f i [] e k h = absurd (omega arith)
every_at f i (x ∷ l) e zero h = rw add-zero (and_left (f i x) (every f (suc i) l) e)
every_at f i (x ∷ l) e (suc k) h = rw (add-suc, ← suc-add) (every_at f (suc i) l (and_right (f i x) (every f (suc i) l) e) k (omega arith))

-- a byte of the rows is a kind in use, a mark, or one of so many parts
unfoldable pub in_range : ℕ → ℕ → ℕ → ℕ → Bool
in_range used count p x = elim (ltb x opening) [ true ↦ ltb x used | false ↦ ltb x (first_part + count) ]

range_coded : (used count p x : ℕ) → in_range used count p x ≡ true → x < opening → x < used
unfolding in_range
range_coded used count p x e h = ltb-true x used (rw (lt-ltb x opening h, in_range) at e)

range_known : (used count p x : ℕ) → in_range used count p x ≡ true → x < first_part + count
unfolding in_range
range_known used count p x e = go (dec_lt x opening)
  where
    go : Dec (x < opening) → x < first_part + count
    go (yes h) = omega arith
    go (no h) = ltb-true x (first_part + count) (rw (le-ltb x opening (omega arith), in_range) at e)

module _ {K P : Type 0} (C : Claims K P) (same_part : P → P → Bool) where
  unfoldable pub same_symbol : Symbol K P → Symbol K P → Bool
  same_symbol (word a) (word b) = C.same a b
  same_symbol (word a) (part b) = false
  same_symbol (word a) In = false
  same_symbol (word a) Out = false
  same_symbol (part a) (word b) = false
  same_symbol (part a) (part b) = same_part a b
  same_symbol (part a) In = false
  same_symbol (part a) Out = false
  same_symbol In (word b) = false
  same_symbol In (part b) = false
  same_symbol In In = true
  same_symbol In Out = false
  same_symbol Out (word b) = false
  same_symbol Out (part b) = false
  same_symbol Out In = false
  same_symbol Out Out = true

  unfoldable pub same_row : Row K P → Row K P → Bool
  same_row [] [] = true
  same_row [] (y ∷ b) = false
  same_row (x ∷ a) [] = false
  same_row (x ∷ a) (y ∷ b) = same_symbol x y && same_row a b

  module _ (part-true : (x y : P) → same_part x y ≡ true → x ≡ y) where
    same_symbol_lem : (x y : Symbol K P) → same_symbol x y ≡ true → x ≡ y
    unfolding same_symbol
    same_symbol_lem (word a) (word b) e = ap word (C.same_true a b e)
    same_symbol_lem (word a) (part b) e = clash (sym e)
    same_symbol_lem (word a) In e = clash (sym e)
    same_symbol_lem (word a) Out e = clash (sym e)
    same_symbol_lem (part a) (word b) e = clash (sym e)
    same_symbol_lem (part a) (part b) e = ap part (part-true a b e)
    same_symbol_lem (part a) In e = clash (sym e)
    same_symbol_lem (part a) Out e = clash (sym e)
    same_symbol_lem In (word b) e = clash (sym e)
    same_symbol_lem In (part b) e = clash (sym e)
    same_symbol_lem In In e = refl
    same_symbol_lem In Out e = clash (sym e)
    same_symbol_lem Out (word b) e = clash (sym e)
    same_symbol_lem Out (part b) e = clash (sym e)
    same_symbol_lem Out In e = clash (sym e)
    same_symbol_lem Out Out e = refl

    same_row_lem : (a b : Row K P) → same_row a b ≡ true → a ≡ b
    unfolding same_row
    same_row_lem [] [] e = refl
    same_row_lem [] (y ∷ b) e = clash (sym e)
    same_row_lem (x ∷ a) [] e = clash (sym e)
    same_row_lem (x ∷ a) (y ∷ b) e =
        ap₂ (λ (x : Symbol K P) (r : Row K P). x ∷ r) (same_symbol_lem x y (and_left (same_symbol x y) (same_row a b) e)) (same_row_lem a b (and_right (same_symbol x y) (same_row a b) e))

module _ {K P : Type 0} (C : Claims K P) (G : Grammar K P) (same_part : P → P → Bool) (D : Codes K P) (depth turn : P → ℕ) (rows : List ℕ) where
  -- the rule that is called for stands at place x of the rows
  unfoldable pub agrees : P → Option ℕ → ℕ → Bool
  agrees n none x = eqb x 0
  agrees n (some i) x = ltb 0 x && same_row C same_part (row_at G n i) (row D rows x)

  unfoldable pub kept_at : P → ℕ → ℕ → Bool
  kept_at n t x = agrees n (pick C n (some (D.kind t)) 0 (G n)) x && (closes 0 (row D rows x) && (leb (deep depth 0 (row D rows x)) (depth n) && leb (idle turn (row D rows x)) (turn n)))

  -- .. and none at column 0, which is no word's
  unfoldable pub last_at : ℕ → ℕ → Bool
  last_at zero x = eqb x 0
  last_at (suc t) x = true

  unfoldable pub entry : ℕ → ℕ → Bool
  entry k x = kept_at (D.part (k / columns)) (k % columns) x && last_at (k % columns) x

  module _ (part-true : (x y : P) → same_part x y ≡ true → x ≡ y) (starts : List ℕ) (count : ℕ) (whole : length starts ≡ count * columns) (short : leb (length rows) most_bytes ≡ true)
      (first : get_or rows 0 0 ≡ 0) (nonzero : ltb 0 D.used ≡ true) (bytes : every (in_range D.used count) 0 rows ≡ true) (all : every entry 0 starts ≡ true)
      (far : (n : P) (t : ℕ) → columns ≤ t → pick C n (some (D.kind t)) 0 (G n) ≡ none) (over : (n : P) → pick C n none 0 (G n) ≡ none)
      (low : (n : P) → depth n < most_deep) (few : (n : P) → turn n < most_deep) where
    abbrev Keeps : ℕ → ℕ → Type 0
    Keeps n t = Kept D (picks C G) depth turn rows starts n t

    -- from the test at one entry
    tested : (n t x : ℕ) → kept_at (D.part n) t x ≡ true → start_of starts n t ≡ x → Keeps n t
    unfolding kept_at agrees
    tested n t x e f =
        let p = D.part n in
        let o = pick C p (some (D.kind t)) 0 (G p) in
        let e₁ = and_right (agrees p o x) (closes 0 (row D rows x) && (leb (deep depth 0 (row D rows x)) (depth p) && leb (idle turn (row D rows x)) (turn p))) e in
        let e₂ = and_right (closes 0 (row D rows x)) (leb (deep depth 0 (row D rows x)) (depth p) && leb (idle turn (row D rows x)) (turn p)) e₁ in
        record {
          none = λ z. no_rule o (and_left (agrees p o x) _ e) (sym f ∙ z);
          rule = λ z. rw f (a_rule o (and_left (agrees p o x) _ e) (λ y. z (f ∙ y)));
          closed = rw f (and_left (closes 0 (row D rows x)) _ e₁);
          deeper = rw f (leb-true (deep depth 0 (row D rows x)) (depth p) (and_left (leb (deep depth 0 (row D rows x)) (depth p)) _ e₂));
          turns = rw f (leb-true (idle turn (row D rows x)) (turn p) (and_right (leb (deep depth 0 (row D rows x)) (depth p)) _ e₂));
        }
      where
        no_rule : (o : Option ℕ) → agrees (D.part n) o x ≡ true → x ≡ 0 → with_row C G (D.part n) o ≡ none
        no_rule none a z = refl
        no_rule (some i) a z = let h : 0 < x = ltb-true 0 x (and_left (ltb 0 x) (same_row C same_part (row_at G (D.part n) i) (row D rows x)) a) in absurd (omega arith)

        a_rule : (o : Option ℕ) → agrees (D.part n) o x ≡ true → ¬ (x ≡ 0) → (i : ℕ) × (with_row C G (D.part n) o ≡ some (i, row D rows x))
        a_rule none a z = absurd (z (eqb-true x 0 a))
        a_rule (some i) a z =
            (i, ap (λ (r : Row K P). some (i, r)) (same_row_lem C same_part part-true (row_at G (D.part n) i) (row D rows x) (and_right (ltb 0 x) (same_row C same_part (row_at G (D.part n) i) (row D rows x)) a)))

    -- where no entry is
    outside : (n t : ℕ) → start_of starts n t ≡ 0 → pick C (D.part n) (some (D.kind t)) 0 (G (D.part n)) ≡ none → Keeps n t
    unfolding closes deep idle row_of
    outside n t f g =
        record {
          none = λ z. ap (with_row C G (D.part n)) g;
          rule = λ z. absurd (z f);
          closed = rw (f, empty);
          deeper = rw (f, empty) (omega arith);
          turns = rw (f, empty) (omega arith);
        }
      where
        head : (l : List ℕ) → get_or l 0 0 ≡ 0 → row_of D (drop 0 l) ≡ []
        head [] e = refl
        head (zero ∷ l) e = refl
        head (suc x ∷ l) e = absurd (omega arith)

        empty : row D rows 0 ≡ []
        empty = head rows first

    entry_at : (n t : ℕ) → n < count → t < columns → (kept_at (D.part n) t (get_or starts (n * columns + t) 0) && last_at t (get_or starts (n * columns + t) 0)) ≡ true
    unfolding entry
    entry_at n t h g =
        subst (λ (m : ℕ). (kept_at (D.part m) t (get_or starts (n * columns + t) 0) && last_at t (get_or starts (n * columns + t) 0)) ≡ true) (omega arith)
        (subst (λ (m : ℕ). (kept_at (D.part ((n * columns + t) / columns)) m (get_or starts (n * columns + t) 0) && last_at m (get_or starts (n * columns + t) 0)) ≡ true) (omega arith)
        (rw zero-add at (every_at entry 0 starts all (n * columns + t) (omega arith))))

    at : (n t : ℕ) → n < count → Keeps n t
    unfolding start_of
    at n t h = go (dec_lt t columns)
      where
        go : Dec (t < columns) → Keeps n t
        go (yes g) = tested n t (get_or starts (n * columns + t) 0) (and_left _ (last_at t (get_or starts (n * columns + t) 0)) (entry_at n t h g)) (rw (lt-ltb t columns g, start_of))
        go (no g) = outside n t (rw (le-ltb t columns (omega arith), start_of)) (far (D.part n) t (omega arith))

    last : (n : ℕ) → n < count → start_of starts n 0 ≡ 0
    unfolding start_of last_at
    last n h = eqb-true (get_or starts (n * columns + 0) 0) 0 (and_right (kept_at (D.part n) 0 (get_or starts (n * columns + 0) 0)) _ (entry_at n 0 h (omega arith)))

    -- what holds of 0 and of each byte in range holds at every place
    at_byte : (Q : ℕ → Type 0) → Q 0 → ((x : ℕ) → in_range D.used count 0 x ≡ true → Q x) → (p : ℕ) → Q (get_or rows p 0)
    unfolding in_range
    at_byte Q z f p = go (dec_lt p (length rows))
      where
        go : Dec (p < length rows) → Q (get_or rows p 0)
        go (yes h) = f (get_or rows p 0) (every_at (in_range D.used count) 0 rows bytes p h)
        go (no h) = rw (get_or-eq_default rows 0 {n = p} (omega arith)) z

    pub served : Tables D (picks C G) depth turn rows starts
    served =
        record {
          count = count;
          short = leb-true (length rows) most_bytes short;
          coded = λ p h. at_byte (λ x. x < opening → x < D.used) (λ g. ltb-true 0 D.used nonzero) (range_coded D.used count 0) p h;
          known = λ p. at_byte (λ x. x < first_part + count) (omega arith) (range_known D.used count 0) p;
          at = at;
          last = last;
          over = λ n h. ap (with_row C G (D.part n)) (over (D.part n));
          low = low;
          few = few;
        }
