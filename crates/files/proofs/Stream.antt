-- The stream of the table, word by word.
-- Assumes nothing.
use mathlib.Core.Path.{◌≡◌, refl, sym, ap, ap₂, ◌∙◌, subst}
use mathlib.Core.Logic.{◌⊎◌, inl, inr}
use lib.Pow.{pow_mono}
use Rattle.std.proofs.lemmas.Bool.{cases_lt}
use mathlib.Core.List.{List, [], ◌∷◌, ◌++◌}
use Prim.Native.Nat.{ℕ, zero, suc, ◌+◌, ◌-◌, ◌*◌, ◌/◌, ◌%◌, ◌^◌, ◌<◌, ◌≤◌}
use lib.ListN.{length, get_or, set, length-set, get_or-eq_default}
use lib.Seq.{ext_get_or, get_or-set_same, get_or-set_other}
use lib.Arith.{digits_div, digits_mod, digits_lt}
use native.Mathlib.Omega.{arith}
use native.Mathlib.Nat.{eq-or-lt_of_le, mod-lt, div-add-mod', mul-le-mul_right}
use Rattle.file_law.specs.Answer.{listed}
use Rattle.file_law.specs.Bytes.{low2}
use Rattle.file_law.specs.Table.{Row}
use Rattle.file_law.specs.File.{words, row_bytes, rows_bytes, stream_of}
use Rattle.file_law.proofs.Every.{length-listed, get_or-listed}
use Rattle.file_law.proofs.Listed.{listed-append}
use Rattle.file_law.proofs.Joined.{joined-listed}
use Rattle.rows.specs.Area.{row_in, next_in}
use Rattle.files.specs.Written.{row_from, table_from, stream_from, WordIs}

-- two words joined
abbrev words_of : Row → List ℕ
words_of r = r.outputs ∷ r.nexts

row_words : List Row → List ℕ
row_words [] = []
row_words (r ∷ rs) = words_of r ++ row_words rs

words_append : (a b : List ℕ) → words (a ++ b) ≡ words a ++ words b
unfolding words
words_append [] b = refl
words_append (x ∷ a) b = ap (λ (l : List ℕ). low2 x ++ l) (words_append a b)

rows_words_lem : (rs : List Row) → rows_bytes rs ≡ words (row_words rs)
unfolding rows_bytes row_bytes words row_words
rows_words_lem [] = refl
rows_words_lem (r ∷ rs) = ap (λ (l : List ℕ). row_bytes r ++ l) (rows_words_lem rs) ∙ sym (words_append (words_of r) (row_words rs))

-- byte 0 or 1 of a word
abbrev half : ℕ → ℕ → ℕ
half w zero = w % 256
half w (suc j) = w / 256 % 256

abbrev byte_of : (ℕ → ℕ) → ℕ → ℕ
byte_of W j = half (W (j / 2)) (j % 2)

even : (i : ℕ) → (0 + i * 2) / 2 ≡ i
even i = omega arith

even_rest : (i : ℕ) → (0 + i * 2) % 2 ≡ 0
even_rest i = omega arith

odd : (i : ℕ) → suc (0 + i * 2) / 2 ≡ i
odd i = omega arith

odd_rest : (i : ℕ) → suc (0 + i * 2) % 2 ≡ 1
odd_rest i = omega arith

listed-two : (f : ℕ → ℕ) (j a b : ℕ) → f j ≡ a → f (suc j) ≡ b → a ∷ b ∷ [] ≡ listed f 2 j
unfolding listed
listed-two f j a b p q = ap₂ (λ (x y : ℕ). x ∷ y ∷ []) (sym p) (sym q)

words-bytes : (W : ℕ → ℕ) (m : ℕ) → words (listed W m 0) ≡ listed (byte_of W) (m * 2) 0
unfolding words
words-bytes W m = joined-listed low2 2 words refl (λ a l. refl) (byte_of W) W 0 same m 0 ∙ ap (listed (byte_of W) (m * 2)) (let z : 0 + 0 * 2 ≡ 0 = omega arith in z)
  where
    same : (i : ℕ) → low2 (W i) ≡ listed (byte_of W) 2 (0 + i * 2)
    same i =
        listed-two (byte_of W) (0 + i * 2) (W i % 256) (W i / 256 % 256) (ap₂ (λ (x y : ℕ). half (W x) y) (even i) (even_rest i))
        (ap₂ (λ (x y : ℕ). half (W x) y) (odd i) (odd_rest i))

module _ (l : List ℕ) (k o n : ℕ) where
  abbrev width : ℕ
  width = 2 ^ k + 1

  abbrev cell : ℕ → ℕ → ℕ
  cell i zero = (row_in l i).word % 2 ^ o
  cell i (suc x) = next_in l i x

  -- word w of the stream
  abbrev word : ℕ → ℕ
  word zero = k + 256 * o
  word (suc zero) = n
  word (suc (suc v)) = cell (v / width) (v % width)

  in_row : (i c : ℕ) → c < width → word (2 + i * width + c) ≡ cell i c
  in_row i c h = ap word (let e : 2 + i * width + c ≡ suc (suc (i * width + c)) = omega arith in e) ∙ ap₂ cell (digits_div i h) (digits_mod i h)

  row_listed : (i : ℕ) → words_of (row_from l k o i) ≡ listed word width (2 + i * width)
  row_listed i =
      ext_get_or 0 (words_of (row_from l k o i)) (listed word width (2 + i * width)) (long ∙ sym (length-listed word width (2 + i * width)))
      (λ j h. let b : j < width = omega (arith, long) in at j b ∙ sym (get_or-listed word width (2 + i * width) 0 j b ∙ in_row i j b))
    where
      long : length (words_of (row_from l k o i)) ≡ width
      long = ap suc (length-listed (next_in l i) (2 ^ k) 0) ∙ omega arith

      at : (j : ℕ) → j < width → get_or (words_of (row_from l k o i)) j 0 ≡ cell i j
      at zero h = refl
      at (suc j) h = get_or-listed (next_in l i) (2 ^ k) 0 0 j (omega arith) ∙ ap (next_in l i) (let z : 0 + j ≡ j = omega arith in z)

  rows-listed : row_words (listed (row_from l k o) n 0) ≡ listed word (n * width) 2
  unfolding row_words
  rows-listed =
      joined-listed words_of width row_words refl (λ a s. refl) word (row_from l k o) 2 row_listed n 0
      ∙ ap (listed word (n * width)) (let z : 2 + 0 * width ≡ 2 = omega arith in z)

  abbrev count : ℕ
  count = 2 + n * width

  all_listed : word 0 ∷ word 1 ∷ listed word (n * width) 2 ≡ listed word count 0
  unfolding listed
  all_listed = sym (listed-append word 2 (n * width) 0)

  stream_is : k < 256 → o < 256 → stream_from l k o n ≡ listed (byte_of word) (count * 2) 0
  unfolding stream_from table_from stream_of words
  stream_is hk ho =
      ap₂ (λ (a b : List ℕ). a ++ b) head
      (ap₂ (λ (x : ℕ) (y : List ℕ). low2 x ++ y) (length-listed (row_from l k o) n 0) (rows_words_lem (listed (row_from l k o) n 0) ∙ ap words rows-listed))
      ∙ ap words all_listed ∙ words-bytes word count
    where
      head : k ∷ o ∷ [] ≡ low2 (k + 256 * o)
      head = ap₂ (λ (x y : ℕ). x ∷ y ∷ []) (omega arith) (omega arith)

  module _ (hk : k < 256) (ho : o < 256) where
    pub stream_length_lem : length (stream_from l k o n) ≡ count * 2
    stream_length_lem = ap length (stream_is hk ho) ∙ length-listed (byte_of word) (count * 2) 0

    byte_at : (j : ℕ) → j < count * 2 → get_or (stream_from l k o n) j 0 ≡ byte_of word j
    byte_at j h =
        ap (λ (s : List ℕ). get_or s j 0) (stream_is hk ho) ∙ get_or-listed (byte_of word) (count * 2) 0 0 j h ∙ ap (byte_of word) (let z : 0 + j ≡ j = omega arith in z)

    word_is : (w r : ℕ) → w < count → word w ≡ r → WordIs (stream_from l k o n) w r
    word_is w r h e =
        record {
          low = byte_at (2 * w) (omega arith) ∙ ap₂ (λ (x y : ℕ). half (word x) y) (let z : 2 * w / 2 ≡ w = omega arith in z) (let z : 2 * w % 2 ≡ 0 = omega arith in z) ∙ ap (λ (x : ℕ). x % 256) e;
          high = byte_at (2 * w + 1) (omega arith) ∙ ap₂ (λ (x y : ℕ). half (word x) y) (let z : (2 * w + 1) / 2 ≡ w = omega arith in z) (let z : (2 * w + 1) % 2 ≡ 1 = omega arith in z) ∙ ap (λ (x : ℕ). x / 256 % 256) e;
        }

    pub word_first : (r : ℕ) → k + 256 * o ≡ r → WordIs (stream_from l k o n) 0 r
    word_first r e = word_is 0 r (omega arith) e

    pub word-second : (r : ℕ) → n ≡ r → WordIs (stream_from l k o n) 1 r
    word-second r e = word_is 1 r (omega arith) e

    -- word v behind the first two is behind the end
    word-past : (v : ℕ) → n ≤ v / width → WordIs (stream_from l k o n) (v + 2) 0
    word-past v b =
        let e = div-add-mod' v width in
        let m : n * width ≤ v / width * width = mul-le-mul_right width b in
        record {
          low = get_or-eq_default (stream_from l k o n) 0 (omega (arith, stream_length_lem));
          high = get_or-eq_default (stream_from l k o n) 0 (omega (arith, stream_length_lem));
        }

    in_stream : (v : ℕ) → v / width < n → v < n * width
    in_stream v h =
        let c : v % width < width = rest v in
        let e = div-add-mod' v width in
        let d : v / width * width + v % width < n * width = digits_lt h c in
        omega arith
      where
        rest : (v : ℕ) → v % width < width
        rest v = mod-lt v (omega arith)

    -- .. or in the row of a state
    word_cell : (v r : ℕ) → v / width < n → cell (v / width) (v % width) ≡ r → WordIs (stream_from l k o n) (v + 2) r
    word_cell v r b e = word_is (v + 2) r (omega (arith, in_stream v b)) (ap word (let z : v + 2 ≡ suc (suc v) = omega arith in z) ∙ e)

    -- ---- the same with 2 ^ k computed

    module _ (inputs : ℕ) (is : inputs ≡ 2 ^ k) (v : ℕ) where
      pub code_past : n ≤ v / (inputs + 1) → WordIs (stream_from l k o n) (v + 2) 0
      code_past b = word-past v (subst (λ (x : ℕ). n ≤ v / (x + 1)) is b)

      pub code_outputs : (r : ℕ) → v / (inputs + 1) < n → v % (inputs + 1) ≡ 0 → (row_in l (v / (inputs + 1))).word % 2 ^ o ≡ r → WordIs (stream_from l k o n) (v + 2) r
      code_outputs r b z e =
          word_cell v r (subst (λ (x : ℕ). v / (x + 1) < n) is b)
          (ap (λ (x : ℕ). cell (v / (x + 1)) (v % (x + 1))) (sym is) ∙ ap (cell (v / (inputs + 1))) z ∙ e)

      pub code_next : (r : ℕ) → v / (inputs + 1) < n → ¬ (v % (inputs + 1) ≡ 0) → next_in l (v / (inputs + 1)) (v % (inputs + 1) - 1) ≡ r → WordIs (stream_from l k o n) (v + 2) r
      code_next r b z e =
          word_cell v r (subst (λ (x : ℕ). v / (x + 1) < n) is b)
          (ap (λ (x : ℕ). cell (v / (x + 1)) (v % (x + 1))) (sym is) ∙ ap (cell (v / (inputs + 1))) one_more ∙ e)
        where
          one_more : v % (inputs + 1) ≡ suc (v % (inputs + 1) - 1)
          one_more = let m : ¬ (v % (inputs + 1) ≡ 0) = z in omega arith

pub column : (inputs k v : ℕ) → inputs ≡ 2 ^ k → k ≤ 6 → v % (inputs + 1) ≤ 64
column inputs k v e h = let p : 2 ^ k ≤ 64 = pow_mono {j = 6} h in omega (arith, mod-lt v {m = inputs + 1} (omega arith))

-- two bytes more of a piece
pub piece_more : (s p : List ℕ) (from e v : ℕ) → length p ≡ 504 → e < 252 → ((j : ℕ) → j < 2 * e → get_or p j 0 ≡ get_or s (2 * from + j) 0) → WordIs s (from + e) v
    → (j : ℕ) → j < 2 * (e + 1) → get_or (set (set p (2 * e) (v % 256)) (2 * e + 1) (v / 256 % 256)) j 0 ≡ get_or s (2 * from + j) 0
piece_more s p from e v long h old is j b = go (cases_lt j (2 * e))
  where
    q : List ℕ
    q = set p (2 * e) (v % 256)

    on : (j ≡ 2 * e) ⊎ (j ≡ 2 * e + 1) → get_or (set q (2 * e + 1) (v / 256 % 256)) j 0 ≡ get_or s (2 * from + j) 0
    on (inl z) =
        ap (λ (i : ℕ). get_or (set q (2 * e + 1) (v / 256 % 256)) i 0) z
        ∙ get_or-set_other q (2 * e + 1) (2 * e) (v / 256 % 256) 0 (λ y. omega arith)
        ∙ get_or-set_same p (2 * e) (v % 256) 0 (omega arith)
        ∙ sym is.low ∙ ap (λ (i : ℕ). get_or s i 0) (let y : 2 * (from + e) ≡ 2 * from + j = omega arith in y)
    on (inr z) =
        ap (λ (i : ℕ). get_or (set q (2 * e + 1) (v / 256 % 256)) i 0) z
        ∙ get_or-set_same q (2 * e + 1) (v / 256 % 256) 0 (omega (arith, length-set p (2 * e) (v % 256)))
        ∙ sym is.high ∙ ap (λ (i : ℕ). get_or s i 0) (let y : 2 * (from + e) + 1 ≡ 2 * from + j = omega arith in y)

    last : (2 * e ≡ j) ⊎ (2 * e < j) → (j ≡ 2 * e) ⊎ (j ≡ 2 * e + 1)
    last (inl z) = inl (sym z)
    last (inr z) = inr (omega arith)

    go : (j < 2 * e) ⊎ (2 * e ≤ j) → get_or (set q (2 * e + 1) (v / 256 % 256)) j 0 ≡ get_or s (2 * from + j) 0
    go (inl k) =
        get_or-set_other q (2 * e + 1) j (v / 256 % 256) 0 (λ y. omega arith) ∙ get_or-set_other p (2 * e) j (v % 256) 0 (λ y. omega arith) ∙ old j k
    go (inr k) = on (last (eq-or-lt_of_le k))
