-- Bits as digits: as many as asked, each 0 or 1, and a number's own.
-- Assumes nothing.
use mathlib.Core.Path.{◌≡◌, sym, ap, ap₂, ◌∙◌}
use mathlib.Core.List.{List, [], ◌∷◌, ◌++◌}
use Prim.Native.Nat.{ℕ, zero, suc, ◌+◌, ◌-◌, ◌*◌, ◌/◌, ◌%◌, ◌^◌, ◌≤◌, ◌<◌}
use native.Mathlib.Nat.{pow-succ', mul_assoc, mul_comm, add_comm, mul-le-mul_right, add-mul-div_right}
use native.Mathlib.Numerals.{add-one}
use native.Mathlib.Omega.{arith}
use lib.ListN.{length, get_or, take}
use lib.Seq.{take_at, ext_get_or, get_or-take, length-take-le}
use lib.Pow.{pow_pos, pow-add, shr-shr, high}
use Rattle.file_law.specs.Answer.{listed}
use Rattle.file_law.proofs.Every.{length-listed}
use Rattle.file_law.proofs.Listed.{listed-append, listed_at}
use Rattle.kiss_law.specs.Text.{bits}

abbrev pub bit_at : ℕ → ℕ → ℕ
bit_at word j = 48 + word / 2 ^ j % 2

pub length-bits : (count word : ℕ) → length (bits count word) ≡ count
unfolding bits
length-bits count word = length-listed (bit_at word) count 0

pub bits_at : (count word j : ℕ) → j < count → get_or (bits count word) j 0 ≡ bit_at word j
unfolding bits
bits_at count word j h = listed_at (bit_at word) count 0 j h

-- one bit more
pub bits-more : (count word : ℕ) → bits (count + 1) word ≡ bits count word ++ (bit_at word count ∷ [])
unfolding bits listed
bits-more count word = listed-append (bit_at word) count 1 0 ∙ ap (λ (j : ℕ). bits count word ++ (bit_at word j ∷ [])) (let e : 0 + count ≡ count = omega arith in e)

-- the number that bits come to
unfoldable pub word_of : List ℕ → ℕ
word_of [] = 0
word_of (b ∷ l) = b - 48 + 2 * word_of l

halved : (word i : ℕ) → word / 2 ^ suc i ≡ word / 2 ^ i / 2
halved word i = ap (λ (j : ℕ). word / 2 ^ j) (sym (add-one i)) ∙ sym (shr-shr word i 1)

word_from_lem : (word count i : ℕ) → word / 2 ^ i < 2 ^ count → word_of (listed (bit_at word) count i) ≡ word / 2 ^ i
unfolding word_of listed
word_from_lem word zero i h = omega arith
word_from_lem word (suc count) i h =
    let e = halved word i in
    let r = word_from_lem word count (suc i) (omega (arith, pow-succ' 2 count)) in
    omega arith

pub word-bits : (count word : ℕ) → word < 2 ^ count → word_of (bits count word) ≡ word
unfolding bits
word-bits count word h =
    let z : word / 2 ^ 0 ≡ word = omega arith in
    word_from_lem word count 0 (omega arith) ∙ z

-- two numbers with the same bits in front
pub bits_code : (count v w : ℕ) (y z : List ℕ) → v < 2 ^ count → w < 2 ^ count → bits count v ++ y ≡ bits count w ++ z → v ≡ w
bits_code count v w y z hv hw e =
    sym (word-bits count v hv)
    ∙ ap word_of (sym (take_at (bits count v) y count (length-bits count v)) ∙ ap (take count) e ∙ take_at (bits count w) z count (length-bits count w))
    ∙ word-bits count w hw

-- low bits do not see a higher one
bit-low : (word d i j : ℕ) → i < j → bit_at (word + d * 2 ^ j) i ≡ bit_at word i
bit-low word d i j h =
    let m = j - i - 1 in
    let e : 2 ^ j ≡ 2 * 2 ^ m * 2 ^ i = ap (λ (x : ℕ). 2 ^ x) (let z : j ≡ suc m + i = omega arith in z) ∙ pow-add 2 (suc m) i ∙ ap (λ (x : ℕ). x * 2 ^ i) (pow-succ' 2 m) in
    let f : d * 2 ^ j ≡ d * (2 * 2 ^ m) * 2 ^ i = ap (λ (x : ℕ). d * x) e ∙ sym (mul_assoc d (2 * 2 ^ m) (2 ^ i)) in
    let g : d * (2 * 2 ^ m) ≡ 2 * (d * 2 ^ m) = sym (mul_assoc d 2 (2 ^ m)) ∙ ap (λ (x : ℕ). x * 2 ^ m) (mul_comm d 2) ∙ mul_assoc 2 d (2 ^ m) in
    let q : (word + d * 2 ^ j) / 2 ^ i ≡ word / 2 ^ i + 2 * (d * 2 ^ m) = ap (λ (x : ℕ). (word + x) / 2 ^ i) f ∙ add-mul-div_right word (d * (2 * 2 ^ m)) (pow_pos i) ∙ ap (λ (x : ℕ). word / 2 ^ i + x) g in
    ap (λ (x : ℕ). 48 + x % 2) q ∙ omega arith

pub bits-low : (word d j : ℕ) → bits j (word + d * 2 ^ j) ≡ bits j word
bits-low word d j =
    ext_get_or 0 (bits j (word + d * 2 ^ j)) (bits j word) (length-bits j (word + d * 2 ^ j) ∙ sym (length-bits j word))
    (λ i h. let g : i < j = omega (arith, length-bits j (word + d * 2 ^ j)) in bits_at j (word + d * 2 ^ j) i g ∙ bit-low word d i j g ∙ sym (bits_at j word i g))

-- a word and one bit more, above it
pub bits_on : (word d j : ℕ) → word < 2 ^ j → d < 2 → (bits (j + 1) (word + d * 2 ^ j) ≡ bits j word ++ ((48 + d) ∷ [])) × (word + d * 2 ^ j < 2 ^ (j + 1))
bits_on word d j h l =
    let q : (word + d * 2 ^ j) / 2 ^ j ≡ d = ap (λ (x : ℕ). x / 2 ^ j) (add_comm word (d * 2 ^ j)) ∙ high d j h in
    let r : d % 2 ≡ d = omega arith in
    let p : d * 2 ^ j ≤ 1 * 2 ^ j = mul-le-mul_right (2 ^ j) (omega arith) in
    let s : 2 ^ (j + 1) ≡ 2 * 2 ^ j = ap (λ (x : ℕ). 2 ^ x) (add-one j) ∙ pow-succ' 2 j in
    (bits-more j (word + d * 2 ^ j) ∙ ap₂ (λ (t : List ℕ) (x : ℕ). t ++ ((48 + x) ∷ [])) (bits-low word d j) (ap (λ (x : ℕ). x % 2) q ∙ r), omega arith)

-- the first bits of a word
pub take-bits : (j count word : ℕ) → j ≤ count → take j (bits count word) ≡ bits j word
take-bits j count word h =
    ext_get_or 0 (take j (bits count word)) (bits j word) (length-take-le j (bits count word) (omega (arith, length-bits count word)) ∙ sym (length-bits j word))
    (λ i b. let g : i < j = omega (arith, length-take-le j (bits count word) (omega (arith, length-bits count word))) in
    get_or-take j (bits count word) i 0 g ∙ bits_at count word i (omega arith) ∙ sym (bits_at j word i g))
