-- A word that begins with a digit: a number, or too large a one.
-- Assumes nothing.
use mathlib.Core.Bool.{true, false}
use mathlib.Core.Path.{◌≡◌, refl, sym, ◌∙◌, ap}
use mathlib.Core.List.{List, [], ◌++◌, append-nil}
use Prim.Native.Nat.{ℕ, ◌-◌, ◌<◌, ◌≤◌}
use native.Mathlib.Omega.{arith}
use lib.ListN.{length, get_or, drop}
use borrow.Author.Tests.{lt-ltb, le-ltb}
use Rattle.language.specs.Words.{bytes, letter, digit, in_number, signs, reserved, first_of, spelled, kind_of, too_large, value_of, largest_number, number}
use Rattle.language.specs.Scan.{word_length}
use Rattle.language.proofs.ScanLaws.{span-some, run_inside, number-length}
use Rattle.words.specs.Kinds.{numbered}
use Rattle.words.specs.Runs.{part, run_end, cap}
use Rattle.words.specs.Meaning.{Stands}
use Rattle.words.specs.declared.Next.TheVariants.{Found, Stops}
use Rattle.words.proofs.First.{none_opens, skips}
use Rattle.spellings.proofs.Parts.{opens}
use Rattle.words.proofs.Outcomes.{large-word, word-here}

no_spelling-digit : none_opens digit (signs ++ reserved) ≡ true
unfolding none_opens digit bytes signs reserved
no_spelling-digit = refl

digit-kind : (w : List ℕ) → digit (get_or w 0 0) ≡ true → kind_of w ≡ number
unfolding kind_of spelled first_of
digit-kind w h = rw (sym (append-nil (signs ++ reserved)), skips digit w (signs ++ reserved) [] no_spelling-digit h, h)

-- the word ends at e; v is its value, up to the cap
module _ (s : List ℕ) (at : ℕ) (h : at < length s) (l : letter (get_or s at 0) ≡ false) (d : digit (get_or s at 0) ≡ true) (e : ℕ) (q : e ≡ run_end in_number s at) (v : ℕ) (w : v ≡ cap (value_of (part s at e))) where
  long : word_length (drop at s) ≡ e - at
  long = number-length s at l d ∙ omega (arith, q)

  some : at < e
  some = omega (arith, q, span-some in_number s at h d)

  kind : kind_of (part s at e) ≡ number
  kind = digit-kind (part s at e) (ap digit (opens s at h e some) ∙ d)

  pub number_fits : v ≤ largest_number → Stands s at (Found (record { kind = 1; start = at; end = e; value = v }))
  unfolding too_large numbered
  number_fits f =
      word-here s at h e number long some kind 1 v refl (omega arith) (omega (arith, q, run_inside in_number s at (omega arith))) (omega arith) (omega arith)
      (le-ltb largest_number (value_of (part s at e)) (omega arith))

  pub number-large : largest_number < v → Stands s at (Stops at)
  unfolding too_large
  number-large f = large-word s at h e number long some kind (lt-ltb largest_number (value_of (part s at e)) (omega arith))
