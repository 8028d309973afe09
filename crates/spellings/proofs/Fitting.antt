-- The laws of the table of spellings: what it means that one stands at a place.
-- Assumes nothing.
use mathlib.Core.Bool.{Bool, true, false, not, cond}
use mathlib.Core.Path.{◌≡◌, refl, sym, ◌∙◌, ap}
use mathlib.Core.List.{List, [], ◌∷◌}
use Prim.Native.Nat.{ℕ, suc, ◌+◌, ◌-◌, ◌<◌, ◌≤◌}
use native.Mathlib.Decide.{ℕ_discrete, dec_lt}
use native.Mathlib.Numerals.{add-one}
use native.Mathlib.Omega.{arith}
use lib.Dec.{eqb, ltb}
use lib.ListN.{length, get_or, drop}
use lib.Seq.{drop-cons}
use borrow.Author.Tests.{lt-ltb, le-ltb, ltb-true, eq-eqb, ne_eqb, eqb-true}
use Rattle.std.specs.Prelude.{Some, None}
use Rattle.file_law.specs.Answer.{every, first_not}
use Rattle.language.specs.Words.{bytes, signs, reserved, same}
use Rattle.language.specs.Scan.{begins}
use Rattle.language.proofs.ScanLaws.{first_byte}
use Rattle.spellings.specs.Spelled.{spellings, sign_count, spelling_count, spelling}
use Rattle.spellings.specs.Part.{part}
use Rattle.spellings.specs.Search.{Table, opening, like_from, long_signs, sign_next, second, reserved_next, size, fits_at, misses_at, found}
use Rattle.spellings.proofs.Parts.{part_length, opens}
use Rattle.spellings.proofs.Same.{same-begins, same_not, same_true}
use Rattle.spellings.proofs.Tested.{each}
use Rattle.spellings.proofs.Chain.{Along, along_start, along_here, along_over, along_on, along_falls, found_below, found_past}

-- what a test of spelling k answered says of missing it
misses : (s : List ℕ) (at e k : ℕ) {b c : Bool} → b ≡ fits_at s at e k → b ≡ c → misses_at s at e k ≡ not c
misses s at e k d f = ap not (sym d ∙ f)

-- the row's bytes from one start to the next are the spelling
pub row-stands : (row starts s : List ℕ) (at k : ℕ) (t : Table row starts) → k < spelling_count → {r : Bool} → r ≡ begins (drop at s) (part row (get_or starts k 0) (get_or starts (k + 1) 0)) → r ≡ begins (drop at s) (spelling k)
row-stands row starts s at k t h q = q ∙ ap (begins (drop at s)) (t.rule k h)

-- ---- a reserved word is the whole run

module _ (s : List ℕ) (at e k : ℕ) (g : sign_count ≤ k) (i : at ≤ e) (j : e ≤ length s) where
  run_length : length (part s at e) ≡ e - at
  run_length = part_length s at e ∙ omega arith

  pub fits_not : ¬ (length (spelling k) ≡ e - at) → false ≡ fits_at s at e k
  unfolding fits_at
  fits_not n = rw (le-ltb k sign_count g) (sym (same_not (part s at e) (spelling k) (λ q. n (sym q ∙ run_length))))

  pub fits_word : {r : Bool} → r ≡ begins (drop at s) (spelling k) → length (spelling k) ≡ e - at → r ≡ fits_at s at e k
  unfolding fits_at part
  fits_word q n = rw (le-ltb k sign_count g) (q ∙ sym (same-begins (e - at) (drop at s) (spelling k) (run_length ∙ sym n)))

pub size_of_lem : (k : ℕ) → sign_count ≤ k → size (k - sign_count) ≡ length (spelling k)
unfolding size
size_of_lem k h = ap (λ (j : ℕ). length (spelling j)) (omega arith)

-- ---- a spelling with another first byte

begins-other : (l w : List ℕ) → 0 < length w → ¬ (get_or w 0 0 ≡ get_or l 0 0) → begins l w ≡ false
unfolding begins
begins-other l [] h n = absurd (omega arith)
begins-other [] (x ∷ w) h n = refl
begins-other (y ∷ l) (x ∷ w) h n = rw (ne_eqb x y n)

same-other : (v w : List ℕ) → ¬ (get_or w 0 0 ≡ get_or v 0 0) → same v w ≡ false
same-other v w n = go (same v w) refl
  where
    go : (b : Bool) → same v w ≡ b → b ≡ false
    go true e = absurd (n (ap (λ (x : List ℕ). get_or x 0 0) (sym (same_true v w e))))
    go false e = refl

some_bytes : every (λ k. ltb 0 (length (spelling k))) spelling_count 0 ≡ true
unfolding every spelling spellings bytes signs reserved
some_bytes = refl

module _ (s : List ℕ) (at : ℕ) (h : at < length s) where
  pub other_sign : (k : ℕ) → 0 ≤ k → k < sign_count → ¬ (opening k ≡ get_or s at 0) → misses_at s at at k ≡ true
  unfolding fits_at opening
  other_sign k l g n =
      rw (lt-ltb k sign_count g)
      (ap not (begins-other (drop at s) (spelling k) (ltb-true 0 (length (spelling k)) (each (λ k. ltb 0 (length (spelling k))) spelling_count some_bytes k (omega arith))) (λ e. n (e ∙ first_byte s at))))

  pub other_word : (e : ℕ) → at < e → (k : ℕ) → sign_count ≤ k → k < spelling_count → ¬ (opening k ≡ get_or s at 0) → misses_at s at e k ≡ true
  unfolding fits_at opening
  other_word e i k l g n = rw (le-ltb k sign_count l) (ap not (same-other (part s at e) (spelling k) (λ f. n (f ∙ opens s at h e i))))

-- ---- a sign has one byte or two

two : ℕ → List ℕ
two k = cond (eqb (get_or (spelling k) 1 0) 0) (opening k ∷ []) (opening k ∷ get_or (spelling k) 1 0 ∷ [])

all_two : every (λ k. same (spelling k) (two k)) sign_count 0 ≡ true
unfolding every same two opening spelling spellings bytes signs reserved
all_two = refl

module _ (k : ℕ) (h : k < sign_count) (d : ℕ) (q : d ≡ second k) where
  is_two : spelling k ≡ cond (eqb d 0) (opening k ∷ []) (opening k ∷ d ∷ [])
  unfolding two second
  is_two = rw q (same_true (spelling k) (two k) (each (λ k. same (spelling k) (two k)) sign_count all_two k h))

  pub one_byte : d ≡ 0 → 1 ≡ length (spelling k)
  one_byte e = rw (is_two, eq-eqb d 0 e)

  pub two_bytes : ¬ (d ≡ 0) → 2 ≡ length (spelling k)
  two_bytes n = rw (is_two, ne_eqb d 0 n)

  module _ (s : List ℕ) (at : ℕ) (g : at < length s) (o : opening k ≡ get_or s at 0) where
    pub one-fits : d ≡ 0 → true ≡ fits_at s at at k
    unfolding fits_at begins
    one-fits e = rw (lt-ltb k sign_count h, is_two, eq-eqb d 0 e, drop-cons s at 0 g, eq-eqb (opening k) (get_or s at 0) o)

    pub two_fit : ¬ (d ≡ 0) → (b : ℕ) → b ≡ get_or s (at + 1) 0 → eqb b d ≡ fits_at s at at k
    unfolding fits_at begins
    two_fit n b f =
        rw (lt-ltb k sign_count h, is_two, ne_eqb d 0 n, drop-cons s at 0 g, eq-eqb (opening k) (get_or s at 0) o)
        (ap (λ (x : ℕ). eqb x d) (f ∙ ap (λ (i : ℕ). get_or s i 0) (add-one at) ∙ sym (first_byte s (suc at))) ∙ last (drop (suc at) s))
      where
        last : (l : List ℕ) → eqb (get_or l 0 0) d ≡ begins l (d ∷ [])
        last [] = ne_eqb 0 d (λ e. n (sym e))
        last (y ∷ l) = go (ℕ_discrete d y)
          where
            go : Dec (d ≡ y) → eqb y d ≡ begins (y ∷ l) (d ∷ [])
            go (yes e) = rw (eq-eqb y d (sym e), eq-eqb d y e)
            go (no e) = rw (ne_eqb y d (λ z. e (sym z)), ne_eqb d y e)

one-alone : every (λ j. eqb (second (long_signs + j)) 0) (sign_count - long_signs) 0 ≡ true
unfolding every second spelling spellings bytes signs reserved
one-alone = refl

pub no_second : (k : ℕ) → long_signs ≤ k → k < sign_count → 0 ≡ second k
no_second k l h =
    sym (eqb-true (second (long_signs + (k - long_signs))) 0 (each (λ j. eqb (second (long_signs + j)) 0) (sign_count - long_signs) one-alone (k - long_signs) (omega arith)))
    ∙ ap second (omega arith)

-- so a search that comes to such a sign is at its end
pub sign_over : (s : List ℕ) (at : ℕ) (h : at < length s) {n k : ℕ} → Along (misses_at s at at) (get_or s at 0) 0 sign_count n k → long_signs ≤ k → k ≡ n
sign_over s at h {n} {k} x l = go (dec_lt k sign_count)
  where
    go : Dec (k < sign_count) → k ≡ n
    go (yes g) = along_here (misses_at s at at) (get_or s at 0) 0 sign_count (other_sign s at h) x g (misses s at at k (one-fits k g 0 (no_second k l g) s at h (x.opens g) refl) refl)
    go (no g) = along_over (misses_at s at at) (get_or s at 0) 0 sign_count (other_sign s at h) x (omega arith)

-- ---- the next spelling that begins alike

next-sign : (k : ℕ) → sign_next k ≡ like_from (opening k) sign_count (k + 1)
unfolding sign_next
next-sign k = refl

next-reserved : (k : ℕ) → sign_count ≤ k → reserved_next (k - sign_count) ≡ like_from (opening k) spelling_count (k + 1)
unfolding reserved_next
next-reserved k h = ap (λ (j : ℕ). like_from (opening j) spelling_count (j + 1)) (omega arith)

-- ---- the search for a sign at a place

abbrev pub sign_number : List ℕ → ℕ → ℕ
sign_number s at = first_not (misses_at s at at) (sign_count - 0) 0

abbrev pub SignAlong : List ℕ → ℕ → ℕ → Type 0
SignAlong s at k = Along (misses_at s at at) (get_or s at 0) 0 sign_count (sign_number s at) k

module _ (s : List ℕ) (at : ℕ) (h : at < length s) {k : ℕ} where
  pub sign_start : k ≡ like_from (get_or s at 0) sign_count 0 → SignAlong s at k
  sign_start q = along_start (misses_at s at at) (get_or s at 0) 0 sign_count (other_sign s at h) k (omega arith) q

  module _ (x : SignAlong s at k) where
    pub sign_here : {b : Bool} → k < sign_count → b ≡ fits_at s at at k → b ≡ true → Some k ≡ found sign_count (sign_number s at)
    sign_here l q e = found_below (along_here (misses_at s at at) (get_or s at 0) 0 sign_count (other_sign s at h) x l (misses s at at k q e)) l

    module _ (l : k < sign_count) {j r : ℕ} (q : r ≡ j) (t : j ≡ sign_next k) where
      next : r ≡ like_from (opening k) sign_count (k + 1)
      next = q ∙ t ∙ next-sign k

      pub sign_on : {b : Bool} → b ≡ fits_at s at at k → b ≡ false → SignAlong s at r
      sign_on d e = along_on (misses_at s at at) (get_or s at 0) 0 sign_count (other_sign s at h) x r l next (misses s at at k d e)

      pub sign_falls : sign_count - r < sign_count - k
      sign_falls = along_falls (misses_at s at at) (get_or s at 0) 0 sign_count (other_sign s at h) x r l next

-- ---- .. and for the reserved word that is the run from there to e

abbrev pub word_number : List ℕ → ℕ → ℕ → ℕ
word_number s at e = first_not (misses_at s at e) (spelling_count - sign_count) sign_count

abbrev pub WordAlong : List ℕ → ℕ → ℕ → ℕ → Type 0
WordAlong s at e k = Along (misses_at s at e) (get_or s at 0) sign_count spelling_count (word_number s at e) k

module _ (s : List ℕ) (at e : ℕ) (h : at < length s) (g : at < e) {k : ℕ} where
  pub word_start : k ≡ like_from (get_or s at 0) spelling_count sign_count → WordAlong s at e k
  word_start q = along_start (misses_at s at e) (get_or s at 0) sign_count spelling_count (other_word s at h e g) k (omega arith) q

  module _ (x : WordAlong s at e k) where
    pub word_here : {b : Bool} → k < spelling_count → b ≡ fits_at s at e k → b ≡ true → Some k ≡ found spelling_count (word_number s at e)
    word_here l q f = found_below (along_here (misses_at s at e) (get_or s at 0) sign_count spelling_count (other_word s at h e g) x l (misses s at e k q f)) l

    pub word_over : spelling_count ≤ k → None ≡ found spelling_count (word_number s at e)
    word_over l = found_past (let q = along_over (misses_at s at e) (get_or s at 0) sign_count spelling_count (other_word s at h e g) x l in omega arith)

    module _ (l : k < spelling_count) {j r : ℕ} (q : r ≡ j) (t : j ≡ reserved_next (k - sign_count)) where
      after : r ≡ like_from (opening k) spelling_count (k + 1)
      after = q ∙ t ∙ next-reserved k x.above

      pub word_on : {b : Bool} → b ≡ fits_at s at e k → b ≡ false → WordAlong s at e r
      word_on d f = along_on (misses_at s at e) (get_or s at 0) sign_count spelling_count (other_word s at h e g) x r l after (misses s at e k d f)

      pub word_falls : spelling_count - r < spelling_count - k
      word_falls = along_falls (misses_at s at e) (get_or s at 0) sign_count spelling_count (other_word s at h e g) x r l after
