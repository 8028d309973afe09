-- What the reader's tests say, as facts by name, and that what a sound shape names lies in the file.
-- Assumes nothing.
use mathlib.Core.Path.{◌≡◌, refl, sym, ap, ◌∙◌, subst}
use Prim.Native.Nat.{ℕ, ◌+◌, ◌*◌, ◌/◌, ◌%◌, ◌^◌, ◌≤◌, ◌<◌}
use native.Mathlib.Nat.{le_trans, le_of_lt, suc-mul, mul-le-mul_left, mul-le-mul_right, mul_comm, mul_assoc}
use native.Mathlib.Omega.{arith}
use mathlib.Core.Bool.{Bool, true, false}
use mathlib.Core.List.{List}
use lib.ListN.{length, get_or, take, drop}
use lib.Dec.{leb, eqb}
use lib.Pow.{pow_mono}
use borrow.Author.Tests.{leb-true, eqb-true, le-leb, eq-eqb}
use Rattle.crc_law.specs.Crc.{crc_of}
use Rattle.file_law.specs.Answer.{both}
use Rattle.file_law.specs.Bytes.{word2, word4, bytes_of}
use Rattle.file_law.specs.Table.{most_inputs, most_outputs, most_states}
use Rattle.file_law.specs.Reading.{most_blocks, length_good, number_good, check_good, block_good, place, stream_in, inputs_in, outputs_in, states_in, row_length, row_at, stream_length, blocks_for, sizes_good, Within}
use Rattle.file_law.specs.Stepping.{shape_good, Shape}
use Rattle.file_law.proofs.Every.{both_left, both_right}

pub within : (k o n : ℕ) → sizes_good k o n ≡ true → Within k o n
within k o n e =
    let r = both_right (leb k most_inputs) (both (leb o most_outputs) (both (leb 1 n) (leb n most_states))) e in
    let q = both_right (leb o most_outputs) (both (leb 1 n) (leb n most_states)) r in
    record {
      inputs = leb-true k most_inputs (both_left (leb k most_inputs) _ e);
      outputs = leb-true o most_outputs (both_left (leb o most_outputs) _ r);
      some = leb-true 1 n (both_left (leb 1 n) _ q);
      states = leb-true n most_states (both_right (leb 1 n) _ q);
    }

pub sizes-good : {k o n : ℕ} → Within k o n → sizes_good k o n ≡ true
sizes-good {k} {o} {n} w = simp (le-leb k most_inputs w.inputs, le-leb o most_outputs w.outputs, le-leb 1 n w.some, le-leb n most_states w.states)

-- some whole blocks, and not too many
pub record Whole (bytes : ℕ) : Type 0 where
  pub some : 512 ≤ bytes
  pub whole : bytes % 512 ≡ 0
  pub few : bytes / 512 ≤ most_blocks

pub whole : (bytes : ℕ) → length_good bytes ≡ true → Whole bytes
whole n e =
    let r = both_right (leb 1 n) (both (eqb (n % 512) 0) (leb (n / 512) most_blocks)) e in
    let a = leb-true 1 n (both_left (leb 1 n) _ e) in
    let b = eqb-true (n % 512) 0 (both_left (eqb (n % 512) 0) _ r) in
    record { some = omega arith; whole = b; few = leb-true (n / 512) most_blocks (both_right (eqb (n % 512) 0) _ r) }

pub length-good : {n : ℕ} → Whole n → length_good n ≡ true
length-good {n} w = simp (le-leb 1 n (omega (arith, w.some)), eq-eqb (n % 512) 0 w.whole, le-leb (n / 512) most_blocks w.few)

pub short-length : (bytes : ℕ) → bytes < 512 → length_good bytes ≡ false
short-length n h = by_test (length_good n) refl
  where
    by_test : (t : Bool) → length_good n ≡ t → length_good n ≡ false
    by_test true e = absurd (omega (arith, (whole n e).some))
    by_test false e = e

-- ---- a block

pub record Numbered (f : List ℕ) (total n : ℕ) : Type 0 where
  pub number : word2 (bytes_of f) (512 * n) ≡ n
  pub count : word2 (bytes_of f) (512 * n + 2) ≡ total

abbrev pub Checked : List ℕ → ℕ → Type 0
Checked f n = word4 (bytes_of f) (512 * n + 508) ≡ crc_of (take 508 (drop (512 * n) f))

-- the right number and total, and the right check
pub record Block (f : List ℕ) (total n : ℕ) : Type 0 where
  pub numbered : Numbered f total n
  pub checked : Checked f n

module _ (f : List ℕ) (total n : ℕ) where
  pub numbered : number_good f total n ≡ true → Numbered f total n
  unfolding number_good
  numbered e =
      let x = eqb (word2 (bytes_of f) (512 * n)) n in
      let y = eqb (word2 (bytes_of f) (512 * n + 2)) total in
      record { number = eqb-true _ _ (both_left x y e); count = eqb-true _ _ (both_right x y e) }

  pub number-good : Numbered f total n → number_good f total n ≡ true
  unfolding number_good
  number-good b = simp (eq-eqb _ _ b.number, eq-eqb _ _ b.count)

  pub checked : check_good f n ≡ true → Checked f n
  unfolding check_good
  checked e = eqb-true _ _ e

  pub check_good_lem : Checked f n → check_good f n ≡ true
  unfolding check_good
  check_good_lem e = eq-eqb _ _ e

  pub block : block_good f total n ≡ true → Block f total n
  unfolding block_good
  block e = record { numbered = numbered (both_left (number_good f total n) (check_good f n) e); checked = checked (both_right (number_good f total n) (check_good f n) e) }

  pub block_good_lem : Block f total n → block_good f total n ≡ true
  unfolding block_good
  block_good_lem b = simp (number-good b.numbered, check_good_lem b.checked)

-- ---- the shape

pub shape : (f : List ℕ) → shape_good f ≡ true → Shape f
unfolding shape_good
shape f e =
    let b = stream_in f in
    let z = sizes_good (inputs_in b) (outputs_in b) (states_in b) in
    let x = eqb (length f) (512 * blocks_for (inputs_in b) (states_in b)) in
    let l : length f ≡ 512 * blocks_for (inputs_in b) (states_in b) = eqb-true _ _ (both_right z x e) in
    record { long = omega arith; size = within (inputs_in b) (outputs_in b) (states_in b) (both_left z x e); exact = l }

pub shape_good_lem : {f : List ℕ} → Shape f → shape_good f ≡ true
unfolding shape_good
shape_good_lem {f} s = simp (sizes-good s.size, eq-eqb _ _ s.exact)

-- ---- sizes bound what is multiplied

pub power_small : {k : ℕ} → k ≤ most_inputs → 2 ^ k ≤ 64
power_small h = pow_mono {j = 6} h

pub rows-small : (k n : ℕ) → k ≤ most_inputs → n ≤ most_states → n * row_length k ≤ 33280
rows-small k n hk hn =
    let p : row_length k ≤ 130 = omega (arith, power_small hk) in
    le_trans (mul-le-mul_right (row_length k) hn) (mul-le-mul_left 256 p)

pub row_small : (k state n : ℕ) → k ≤ most_inputs → n ≤ most_states → state < n → state * row_length k ≤ 33280
row_small k s n hk hn hs = le_trans (mul-le-mul_right (row_length k) (le_of_lt hs)) (rows-small k n hk hn)

pub blocks-small : (k n : ℕ) → k ≤ most_inputs → n ≤ most_states → blocks_for k n ≤ most_blocks
blocks-small k n hk hn = omega (arith, rows-small k n hk hn)

-- what the sizes call for is a good length
pub shape_long : {f : List ℕ} → Shape f → length_good (length f) ≡ true
shape_long {f} s =
    let few = blocks-small (inputs_in (stream_in f)) (states_in (stream_in f)) s.size.inputs s.size.states in
    length-good (record { some = s.long; whole = omega (arith, s.exact); few = omega (arith, s.exact, few) })

-- ---- places in the file

-- a word of the stream at an even offset never parts: 504 is even
pub place-next : (j : ℕ) → j % 2 ≡ 0 → place (j + 1) ≡ place j + 1
place-next j h = omega arith

pub stream_word : (f : List ℕ) (j : ℕ) → j % 2 ≡ 0 → word2 (stream_in f) j ≡ word2 (bytes_of f) (place j)
unfolding word2 stream_in
stream_word f j h = ap (λ (x : ℕ). get_or f (place j) 0 + 256 * get_or f x 0) (place-next j h)

pub row_even : (k state : ℕ) → row_at k state % 2 ≡ 0
row_even k s =
    let p = 2 ^ k in
    let e : s * (2 + 2 * p) ≡ 2 * (s * (1 + p)) = ap (λ (x : ℕ). s * x) (twice p) ∙ sym (mul_assoc s 2 (1 + p)) ∙ ap (λ (x : ℕ). x * (1 + p)) (mul_comm s 2) ∙ mul_assoc 2 s (1 + p) in
    omega arith
  where
    twice : (p : ℕ) → 2 + 2 * p ≡ 2 * (1 + p)
    twice p = omega arith

pub next_even : (k state input : ℕ) → (row_at k state + 2 + 2 * input) % 2 ≡ 0
next_even k s i = omega (arith, row_even k s)

-- ---- a word of a row lies in a file of the length that the sizes call for

row_inside : (m s n : ℕ) → s < n → s * m + m ≤ n * m
row_inside m s n h = subst (λ (x : ℕ). x ≤ n * m) (suc-mul s m) (mul-le-mul_right m h)

word-inside : (j l : ℕ) → j + 2 ≤ l → place j + 2 ≤ 512 * ((l + 503) / 504)
word-inside j l h = omega arith

pub next-inside : (k state n input : ℕ) → state < n → input < 2 ^ k → place (row_at k state + 2 + 2 * input) + 2 ≤ 512 * blocks_for k n
next-inside k s n i hs hi =
    word-inside (row_at k s + 2 + 2 * i) (stream_length k n) (omega (arith, row_inside (row_length k) s n hs))

pub outputs-inside : (k state n : ℕ) → state < n → place (row_at k state) + 2 ≤ 512 * blocks_for k n
outputs-inside k s n hs = word-inside (row_at k s) (stream_length k n) (omega (arith, row_inside (row_length k) s n hs))
