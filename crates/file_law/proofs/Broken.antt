-- T-05: what opening tells of a broken file. Each of the four numbers is given exactly when the facts say so, with no test in them.
-- Assumes nothing.
use mathlib.Core.Path.{◌≡◌, refl, sym, ap, subst}
use mathlib.Core.Logic.{◌↔◌, ◌⊎◌, inl, inr}
use mathlib.Core.Bool.{Bool, true, false}
use mathlib.Core.List.{List}
use Prim.Native.Nat.{ℕ, ◌/◌, ◌%◌, ◌<◌}
use native.Mathlib.Omega.{arith}
use native.Mathlib.Decide.{dec_lt}
use lib.ListN.{length}
use Rattle.file_law.specs.Answer.{Answer, gives, refuses, bad_length, bad_number, bad_check, bad_content, unless, every, first_not}
use Rattle.file_law.specs.Reading.{most_blocks, length_good, number_good, block_good, block_fault, stream_in, inputs_in, outputs_in, states_in, sizes_good, Within, rows_good, content_good, Sizes, blocks_answer, open_answer}
use Rattle.file_law.proofs.Every.{both_left, both_right, one-met, true-false, first-before, first_fails, some_fails, first_is}
use Rattle.file_law.proofs.Tests.{within, sizes-good, Whole, whole, length-good, Numbered, numbered, number-good, Checked, Block, block, block_good_lem}
use Rattle.file_law.proofs.Sound.{Rows, rows, rows-good, each_below, all-below}

-- a test that does not hold, where it would say what is not so
pub fails_by : (t : Bool) → (t ≡ true → ⊥) → t ≡ false
fails_by true h = absurd (h refl)
fails_by false h = refl

-- what holds of both ways on holds of the answer
pub either : {A : Type 0} (P : Answer A → Type 0) (t : Bool) {a b : Answer A} → (t ≡ false → P a) → (t ≡ true → P b) → P (unless t a b)
either P true x y = y refl
either P false x y = x refl

-- ---- the length

-- "a bad length (21: zero, not whole blocks or too many)"
abbrev pub BadLength : ℕ → Type 0
BadLength bytes = (bytes ≡ 0) ⊎ ((¬ (bytes % 512 ≡ 0)) ⊎ (most_blocks < bytes / 512))

pub bad_length_lem : (bytes : ℕ) → length_good bytes ≡ false → BadLength bytes
bad_length_lem n e = at (dec_lt 0 n) (dec_lt 0 (n % 512)) (dec_lt most_blocks (n / 512))
  where
    at : Dec (0 < n) → Dec (0 < n % 512) → Dec (most_blocks < n / 512) → BadLength n
    at (no a) b c = inl (omega arith)
    at (yes a) (yes b) c = inr (inl (λ z. omega arith))
    at (yes a) (no b) (yes c) = inr (inr c)
    at (yes a) (no b) (no c) = absurd (true-false (length-good {n = n} (record { some = omega arith; whole = omega arith; few = omega arith })) e)

pub length_fails : (bytes : ℕ) → BadLength bytes → length_good bytes ≡ false
length_fails n b = fails_by (length_good n) (λ e. against (whole n e) b)
  where
    against : Whole n → BadLength n → ⊥
    against w (inl z) = omega (arith, w.some)
    against w (inr (inl h)) = h w.whole
    against w (inr (inr h)) = omega (arith, w.few)

-- ---- the blocks, and the content

-- opening comes to block `place`: the length is good, and so is each block before it
pub record Comes (f : List ℕ) (place : ℕ) : Type 0 where
  pub whole : Whole (length f)
  pub before : (n : ℕ) → n < place → Block f (length f / 512) n

-- "a bad number or total (22)"
pub record BadNumber (f : List ℕ) (place : ℕ) : Type 0 where
  pub comes : Comes f place
  pub inside : place < length f / 512
  pub broken : ¬ Numbered f (length f / 512) place

-- "a bad check (23)", number and total being right: "in that order within a block"
pub record BadCheck (f : List ℕ) (place : ℕ) : Type 0 where
  pub comes : Comes f place
  pub inside : place < length f / 512
  pub numbered : Numbered f (length f / 512) place
  pub broken : ¬ Checked f place

-- what good blocks must hold: sizes in their range, as many blocks as they call for, no spare bit, filling of zeros, next states in the table
pub record Content (b : ℕ → ℕ) (total : ℕ) : Type 0 where
  pub sizes : Within (inputs_in b) (outputs_in b) (states_in b)
  pub rows : Rows b total (inputs_in b) (outputs_in b) (states_in b)

-- "bad content (24: all else)"
pub record BadContent (f : List ℕ) : Type 0 where
  pub comes : Comes f (length f / 512)
  pub broken : ¬ Content (stream_in f) (length f / 512)

module _ (b : ℕ → ℕ) (total : ℕ) where
  content : content_good b total ≡ true → Content b total
  unfolding content_good
  content e =
      let s = sizes_good (inputs_in b) (outputs_in b) (states_in b) in
      let r = rows_good b total (inputs_in b) (outputs_in b) (states_in b) in
      record { sizes = within _ _ _ (both_left s r e); rows = rows b total _ _ _ (both_right s r e) }

  content_good_lem : Content b total → content_good b total ≡ true
  unfolding content_good
  content_good_lem c = simp (sizes-good c.sizes, rows-good b total (inputs_in b) (outputs_in b) (states_in b) c.rows)

-- ---- what an answer of opening tells

module _ (f : List ℕ) where
  abbrev total : ℕ
  total = length f / 512

  abbrev first : ℕ
  first = first_not (block_good f total) total 0

  abbrev Tells : Answer Sizes → Type 0
  Tells (gives z) = Unit
  Tells (refuses number place) =
      ((number ≡ bad_length) × (place ≡ 0) × BadLength (length f))
      ⊎ (((number ≡ bad_number) × BadNumber f place)
      ⊎ (((number ≡ bad_check) × BadCheck f place)
      ⊎ ((number ≡ bad_content) × (place ≡ 0) × BadContent f)))

  module _ (long : length_good (length f) ≡ true) where
    tells_block : every (block_good f total) total 0 ≡ false → Tells (refuses (block_fault f total first) first)
    unfolding block_fault
    tells_block e = by_number (number_good f total first) refl
      where
        inside : first < total
        inside = some_fails (block_good f total) total e

        comes : Comes f first
        comes = record { whole = whole (length f) long; before = λ n h. block f total n (first-before (block_good f total) total 0 n (omega arith) h) }

        by_number : (t : Bool) → number_good f total first ≡ t → Tells (refuses (unless t bad_number bad_check) first)
        by_number true t =
            let n = numbered f total first t in
            inr (inr (inl (
              refl,
              record {
                comes = comes;
                inside = inside;
                numbered = n;
                broken = λ c. true-false (block_good_lem f total first (record { numbered = n; checked = c })) (first_fails (block_good f total) total 0 (omega (arith, inside)));
              },
            )))
        by_number false t = inr (inl (refl, record { comes = comes; inside = inside; broken = λ n. true-false (number-good f total first n) t }))

    tells_content : every (block_good f total) total 0 ≡ true → content_good (stream_in f) total ≡ false → BadContent f
    tells_content e c = record {
      comes = record { whole = whole (length f) long; before = λ n h. block f total n (each_below (block_good f total) total e n h) };
      broken = λ g. true-false (content_good_lem (stream_in f) total g) c;
    }

  tells : Tells (open_answer f)
  unfolding open_answer blocks_answer
  tells =
      either Tells (length_good (length f)) (λ e. inl (refl, refl, bad_length_lem (length f) e))
      (λ l. either Tells (every (block_good f total) total 0) (tells_block l)
      (λ e. either Tells (content_good (stream_in f) total) (λ c. inr (inr (inr (refl, refl, tells_content l e c)))) (λ c. tt)))

  told : {number place : ℕ} → open_answer f ≡ refuses number place → Tells (refuses number place)
  told e = subst Tells e tells

  -- every refusal of opening is one of the four
  pub one_of_four : {number place : ℕ} → open_answer f ≡ refuses number place → (number ≡ bad_length) ⊎ ((number ≡ bad_number) ⊎ ((number ≡ bad_check) ⊎ (number ≡ bad_content)))
  one_of_four {number} {place} e = of (told e)
    where
      of : Tells (refuses number place) → (number ≡ bad_length) ⊎ ((number ≡ bad_number) ⊎ ((number ≡ bad_check) ⊎ (number ≡ bad_content)))
      of (inl x) = inl x.0
      of (inr (inl x)) = inr (inl x.0)
      of (inr (inr (inl x))) = inr (inr (inl x.0))
      of (inr (inr (inr x))) = inr (inr (inr x.0))

  -- ---- one law to a number: "given exactly when"

  pub gives_21 : (place : ℕ) → (open_answer f ≡ refuses bad_length place) ↔ (BadLength (length f) × (place ≡ 0))
  unfolding open_answer
  gives_21 place = ((λ e. of (told e)), (λ b. simp (length_fails (length f) b.0) (ap (refuses bad_length) (sym b.1))))
    where
      of : Tells (refuses bad_length place) → BadLength (length f) × (place ≡ 0)
      of (inl x) = (x.2, x.1)
      of (inr (inl x)) = absurd (omega (arith, x.0))
      of (inr (inr (inl x))) = absurd (omega (arith, x.0))
      of (inr (inr (inr x))) = absurd (omega (arith, x.0))

  -- a block that is not good is the first such, if all before it are good
  at_block : (place : ℕ) → Comes f place → place < total → block_good f total place ≡ false → open_answer f ≡ refuses (block_fault f total place) place
  unfolding open_answer blocks_answer
  at_block place c h e =
      let i = first_is (block_good f total) total place h (λ m l. block_good_lem f total m (c.before m l)) e in
      simp (length-good c.whole, one-met (block_good f total) total 0 (omega (arith, i)), i)

  pub gives_22 : (place : ℕ) → (open_answer f ≡ refuses bad_number place) ↔ BadNumber f place
  unfolding block_fault
  gives_22 place = ((λ e. of (told e)), back)
    where
      of : Tells (refuses bad_number place) → BadNumber f place
      of (inl x) = absurd (omega (arith, x.0))
      of (inr (inl x)) = x.1
      of (inr (inr (inl x))) = absurd (omega (arith, x.0))
      of (inr (inr (inr x))) = absurd (omega (arith, x.0))

      back : BadNumber f place → open_answer f ≡ refuses bad_number place
      back b =
          let n = fails_by (number_good f total place) (λ e. b.broken (numbered f total place e)) in
          simp (at_block place b.comes b.inside (fails_by (block_good f total place) (λ e. b.broken (block f total place e).numbered)), n)

  pub gives_23 : (place : ℕ) → (open_answer f ≡ refuses bad_check place) ↔ BadCheck f place
  unfolding block_fault
  gives_23 place = ((λ e. of (told e)), back)
    where
      of : Tells (refuses bad_check place) → BadCheck f place
      of (inl x) = absurd (omega (arith, x.0))
      of (inr (inl x)) = absurd (omega (arith, x.0))
      of (inr (inr (inl x))) = x.1
      of (inr (inr (inr x))) = absurd (omega (arith, x.0))

      back : BadCheck f place → open_answer f ≡ refuses bad_check place
      back b =
          simp (at_block place b.comes b.inside (fails_by (block_good f total place) (λ e. b.broken (block f total place e).checked)), number-good f total place b.numbered)

  pub gives_24 : (place : ℕ) → (open_answer f ≡ refuses bad_content place) ↔ (BadContent f × (place ≡ 0))
  unfolding open_answer blocks_answer
  gives_24 place = ((λ e. of (told e)), back)
    where
      of : Tells (refuses bad_content place) → BadContent f × (place ≡ 0)
      of (inl x) = absurd (omega (arith, x.0))
      of (inr (inl x)) = absurd (omega (arith, x.0))
      of (inr (inr (inl x))) = absurd (omega (arith, x.0))
      of (inr (inr (inr x))) = (x.2, x.1)

      back : BadContent f × (place ≡ 0) → open_answer f ≡ refuses bad_content place
      back (b, z) =
          simp (
            length-good b.comes.whole,
            all-below (block_good f total) total (λ n h. block_good_lem f total n (b.comes.before n h)),
            fails_by (content_good (stream_in f) total) (λ e. b.broken (content (stream_in f) total e)),
          ) (ap (refuses bad_content) (sym z))
