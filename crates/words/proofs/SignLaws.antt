-- A word that begins with neither a letter nor a digit: the first sign that fits, or none.
-- Assumes nothing.
use mathlib.Core.Bool.{true, false, not}
use mathlib.Core.Path.{◌≡◌, refl, sym, ◌∙◌, ap}
use mathlib.Core.List.{List, [], ◌∷◌}
use mathlib.Core.Logic.{inl, inr}
use mathlib.Core.Option.{some}
use Prim.Native.Nat.{ℕ, zero, suc, ◌+◌, ◌-◌, ◌<◌, ◌≤◌}
use Prim.Native.String.{String}
use native.Mathlib.Omega.{arith}
use lib.ListN.{length, get_or, take, drop, length-drop}
use borrow.Author.Tests.{lt-ltb}
use Rattle.file_law.specs.Answer.{first_not}
use Rattle.language.specs.Words.{bytes, letter, digit, signs, reserved, Among, first_of, spelled, kind_of, too_large, the}
use Rattle.language.specs.Scan.{begins, length_of, word_length}
use Rattle.language.proofs.ScanLaws.{sign-length}
use Rattle.language.proofs.Signs.{taken, fits, sign_plain}
use Rattle.words.specs.Kinds.{spelling, sign_count}
use Rattle.words.specs.Runs.{part}
use Rattle.std.specs.Prelude.{Some, None}
use Rattle.spellings.specs.Search.{fits_at, misses_at, found}
use Rattle.spellings.proofs.Chain.{found_number, found_not}
use Rattle.words.specs.Meaning.{Stands}
use Rattle.words.specs.declared.Next.TheVariants.{Found, Stops}
use Rattle.words.proofs.First.{nth, nth_some, nth_none, first-number, first_passes, first-same}
use Rattle.words.proofs.Counted.{signs-length, sign_at, numbered-spelled}
use Rattle.words.proofs.Outcomes.{no_word, word-here}

among : (ss : List String) (k : ℕ) → k < length ss → Among (get_or ss k "") ss
among [] k h = absurd (omega arith)
among (s ∷ ss) zero h = inl refl
among (s ∷ ss) (suc k) h = inr (among ss k (omega arith))

module _ (s : List ℕ) (at : ℕ) (h : at < length s) (l : letter (get_or s at 0) ≡ false) (d : digit (get_or s at 0) ≡ false) where
  -- where the search for the sign comes to
  abbrev which : ℕ
  which = first_not (misses_at s at at) (sign_count - 0) 0

  test : (j : ℕ) → j < length signs → misses_at s at at (0 + j) ≡ not (begins (drop at s) (bytes (get_or signs j "")))
  unfolding fits_at spelling
  test j g =
      let z : 0 + j ≡ j = omega arith in
      rw (z, lt-ltb j sign_count (omega (arith, signs-length))) (ap (λ (x : String). not (begins (drop at s) (bytes x))) (sign_at j g))

  first : first_of (begins (drop at s)) signs ≡ nth signs which
  first =
      first-number (misses_at s at at) (begins (drop at s)) signs 0 test
      ∙ ap (nth signs) (omega (arith, ap (λ (n : ℕ). first_not (misses_at s at at) n 0) signs-length))

  long : word_length (drop at s) ≡ length_of (nth signs which)
  long = sign-length s at l d ∙ ap length_of first

  pub no_sign : None ≡ found sign_count which → Stands s at (Stops at)
  unfolding length_of
  no_sign r = no_word s at h (long ∙ ap length_of (nth_none signs which (omega (arith, found_not r, signs-length))))

  module _ {k : ℕ} (r : Some k ≡ found sign_count which) where
    known : k < length signs
    known = omega (arith, (found_number r).0, signs-length)

    here : nth signs which ≡ some (get_or signs k "")
    here = ap (nth signs) (sym (found_number r).1) ∙ nth_some signs k known

    abbrev sign : String
    sign = get_or signs k ""

    taken-first : first_of (begins (drop at s)) signs ≡ some sign
    taken-first = first ∙ here

    stands : begins (drop at s) (bytes sign) ≡ true
    stands = first_passes (begins (drop at s)) signs sign taken-first

    sign-bytes : take (length (bytes sign)) (drop at s) ≡ bytes sign
    sign-bytes = taken (drop at s) (bytes sign) stands

    spelled-so : spelling k ≡ bytes sign
    unfolding spelling
    spelled-so = ap bytes (sign_at k known)

    pub sign-inside : at + length (spelling k) ≤ length s
    sign-inside = omega (arith, fits (drop at s) (bytes sign) stands, length-drop at s, ap length spelled-so, h)

    pub sign-here : (e : ℕ) → e ≡ at + length (spelling k) → Stands s at (Found (record { kind = 2 + k; start = at; end = e; value = 0 }))
    unfolding part too_large length_of kind_of spelled
    sign-here e n =
        word-here s at h e (the sign) (long ∙ ap length_of here ∙ size) (omega (arith, size, full)) kind (2 + k) 0
        (numbered-spelled k ∙ ap the (sign_at k known)) (omega (arith, (found_number r).0)) (omega (arith, sign-inside)) refl (omega arith) refl
      where
        size : length (bytes sign) ≡ e - at
        size = omega (arith, n, ap length spelled-so)

        full : 0 < length (bytes sign)
        full = (sign_plain sign (among signs k known)).some

        whole : part s at e ≡ bytes sign
        whole = rw (← size) sign-bytes

        kind : kind_of (part s at e) ≡ the sign
        kind = rw (whole, first-same (drop at s) signs reserved sign taken-first sign-bytes)
