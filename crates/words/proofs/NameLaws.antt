-- A word that begins with a letter: a reserved word, a name, or too long a name.
-- Assumes nothing.
use mathlib.Core.Bool.{true, false, not}
use mathlib.Core.Path.{◌≡◌, refl, sym, ◌∙◌, ap}
use mathlib.Core.List.{List}
use mathlib.Core.Option.{Option}
use Prim.Native.Nat.{ℕ, ◌+◌, ◌-◌, ◌<◌, ◌≤◌}
use Prim.Native.String.{String}
use native.Mathlib.Decide.{dec_le}
use native.Mathlib.Omega.{arith}
use lib.ListN.{length, get_or, drop}
use borrow.Author.Tests.{lt-leb, le-leb, lt-ltb, le-ltb}
use Rattle.ll1.proofs.Sets.{clash}
use Rattle.file_law.specs.Answer.{first_not}
use Rattle.language.specs.Words.{bytes, letter, digit, in_name, signs, reserved, same, first_of, spelled, kind_of, too_large, longest_name, name, the}
use Rattle.language.specs.Scan.{word_length}
use Rattle.language.proofs.ScanLaws.{span-some, run_inside, name-length}
use Rattle.words.specs.Kinds.{spellings, spelling, sign_count, spelling_count, numbered}
use Rattle.words.specs.Runs.{part, run_end}
use Rattle.std.specs.Prelude.{Some, None}
use Rattle.spellings.specs.Search.{fits_at, misses_at, found}
use Rattle.words.specs.Meaning.{Stands}
use Rattle.words.specs.declared.Next.TheVariants.{Found, Stops}
use Rattle.spellings.proofs.Parts.{part_length}
use Rattle.spellings.proofs.Chain.{not_before, found_number, found_not}
use Rattle.words.proofs.First.{nth, nth_some, nth_none, first-number, none_opens, skips}
use Rattle.words.proofs.Counted.{reserved-length, reserved_at, numbered-spelled}
use Rattle.spellings.proofs.Parts.{opens}
use Rattle.words.proofs.Outcomes.{large-word, word-here}

letter_no_digit : (c : ℕ) → letter c ≡ true → digit c ≡ false
unfolding letter digit
letter_no_digit c e = go (dec_le c 57)
  where
    low : c ≤ 57 → letter c ≡ false
    low h = simp (lt-leb 65 c (omega arith), lt-leb 97 c (omega arith))

    go : Dec (c ≤ 57) → digit c ≡ false
    go (yes h) = clash (sym e ∙ low h)
    go (no h) = simp (le-leb 48 c (omega arith), lt-leb c 57 (omega arith))

no_sign-letter : none_opens letter signs ≡ true
unfolding none_opens letter bytes signs
no_sign-letter = refl

letter-kind : (w : List ℕ) → letter (get_or w 0 0) ≡ true → kind_of w ≡ spelled (first_of (same w) reserved) name
unfolding kind_of
letter-kind w h = rw (skips letter w signs reserved no_sign-letter h, letter_no_digit (get_or w 0 0) h)

-- the word ends at e
module _ (s : List ℕ) (at : ℕ) (h : at < length s) (l : letter (get_or s at 0) ≡ true) (e : ℕ) (q : e ≡ run_end in_name s at) where
  long : word_length (drop at s) ≡ e - at
  long = name-length s at l ∙ omega (arith, q)

  pub name-some : at < e
  unfolding in_name
  name-some = omega (arith, q, span-some in_name s at h (rw l))

  pub name-inside : e ≤ length s
  name-inside = omega (arith, q, run_inside in_name s at (omega arith))

  -- where the search for its spelling comes to
  abbrev which : ℕ
  which = first_not (misses_at s at e) (spelling_count - sign_count) sign_count

  test : (j : ℕ) → j < length reserved → misses_at s at e (sign_count + j) ≡ not (same (part s at e) (bytes (get_or reserved j "")))
  unfolding fits_at spelling
  test j g = rw (le-ltb (sign_count + j) sign_count (omega arith)) (ap (λ (x : String). not (same (part s at e) (bytes x))) (reserved_at j))

  kind : kind_of (part s at e) ≡ spelled (nth reserved (which - sign_count)) name
  kind =
      letter-kind (part s at e) (ap letter (opens s at h e name-some) ∙ l)
      ∙ ap (λ (o : Option String). spelled o name)
      (first-number (misses_at s at e) (same (part s at e)) reserved sign_count test
      ∙ ap (λ (i : ℕ). nth reserved (i - sign_count)) (ap (λ (n : ℕ). first_not (misses_at s at e) n sign_count) reserved-length))

  module _ {k : ℕ} (r : Some k ≡ found spelling_count which) where
    pub reserved-word : Stands s at (Found (record { kind = 2 + k; start = at; end = e; value = 0 }))
    unfolding spelled too_large
    reserved-word =
        word-here s at h e (the word) long name-some (kind ∙ ap (λ (i : ℕ). spelled (nth reserved (i - sign_count)) name) (sym at-word) ∙ ap (λ (o : Option String). spelled o name) (nth_some reserved (k - sign_count) (omega (arith, few, reserved-length)))) (2 + k) 0
        (numbered-spelled k ∙ ap the spelled-so) (omega (arith, few)) name-inside refl (omega arith) refl
      where
        at-word : k ≡ which
        at-word = (found_number r).1

        few : k < spelling_count
        few = (found_number r).0

        word : String
        word = get_or reserved (k - sign_count) ""

        spelled-so : get_or spellings k "" ≡ word
        spelled-so =
            let z : k ≡ sign_count + (k - sign_count) = omega (arith, at-word, not_before (misses_at s at e) (spelling_count - sign_count) sign_count) in
            ap (λ (i : ℕ). get_or spellings i "") z ∙ reserved_at (k - sign_count)

  module _ (r : None ≡ found spelling_count which) where
    name-kind : kind_of (part s at e) ≡ name
    unfolding spelled
    name-kind = kind ∙ ap (λ (o : Option String). spelled o name) (nth_none reserved (which - sign_count) (omega (arith, found_not r, reserved-length)))

    size : length (part s at e) ≡ e - at
    size = part_length s at e ∙ omega (arith, name-inside)

    pub name-short : e - at ≤ longest_name → Stands s at (Found (record { kind = 0; start = at; end = e; value = 0 }))
    unfolding too_large numbered
    name-short f = word-here s at h e name long name-some name-kind 0 0 refl (omega arith) name-inside refl (omega arith) (le-ltb longest_name (length (part s at e)) (omega (arith, size)))

    pub name-long : longest_name < e - at → Stands s at (Stops at)
    unfolding too_large
    name-long f = large-word s at h e name long name-some name-kind (lt-ltb longest_name (length (part s at e)) (omega (arith, size)))
