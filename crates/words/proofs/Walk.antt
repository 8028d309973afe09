-- How a loop goes along the words of a text: one law for each answer.
-- Assumes nothing.
use mathlib.Core.Path.{◌≡◌, refl, sym, ◌∙◌, ap, subst}
use mathlib.Core.List.{List, []}
use Prim.Native.Nat.{ℕ, ◌+◌, ◌≤◌}
use native.Mathlib.Omega.{arith}
use lib.ListN.{length, drop}
use Rattle.language.specs.Words.{in_blanks, Words, words, refused, before}
use Rattle.language.specs.Scan as Scan
use Rattle.language.specs.Scan.{span, found, stops, over, past_blanks, next_word, behind, follow, words_up_to, words_from}
use Rattle.language.proofs.ScanLaws.{next_over}
use Rattle.language.proofs.Cutting.{words_step}
use Rattle.words.specs.Meaning.{word_in, meaning, Sound, Answers, stop_of}
use Rattle.words.specs.declared.Word.{Word}
use Rattle.words.specs.declared.Next.{Next}
use Rattle.words.specs.declared.Next.TheVariants.{Found, Stops, Over}
use Rattle.std.specs.Prelude.{Option, Some, None}
use Rattle.spellings.proofs.Parts.{part_length}

-- what a caller may count on, of the word that was found
pub sound : {s : List ℕ} {from : ℕ} {r : Next} {w : Word} → Answers s from r → r ≡ Found w → Sound s from w
sound {s} {from} x e = (subst (Answers s from) e x).holds

pub behind_is : {s : List ℕ} {from : ℕ} {w : Word} → Sound s from w → behind (word_in s w) ≡ w.end
behind_is {s} {w = w} x = omega (arith, part_length s w.start w.end, x.some, x.inside)

module _ {s : List ℕ} {from : ℕ} {r : Next} (h : from ≤ length s) (x : Answers s from r) where
  goes : (q : Scan.Next) → meaning s r ≡ q → words_from s from ≡ follow q (words_from s)
  goes q e = words_step s from h ∙ ap (λ (y : Scan.Next). follow y (words_from s)) (sym x.says ∙ e)

  pub words-found : {w : Word} → r ≡ Found w → words_from s from ≡ before (word_in s w) (words_from s w.end)
  unfolding follow
  words-found {w} e = goes (found (word_in s w)) (ap (meaning s) e) ∙ ap (λ (p : ℕ). before (word_in s w) (words_from s p)) (behind_is (sound x e))

  pub words-stop : {p : ℕ} → r ≡ Stops p → words_from s from ≡ refused p
  unfolding follow
  words-stop {p} e = goes (stops p) (ap (meaning s) e)

  pub words_over : r ≡ Over → words_from s from ≡ words []
  unfolding follow
  words_over e = goes over (ap (meaning s) e)

-- ---- to the first refusal

pub stop-past : (s : List ℕ) (from : ℕ) → length s ≤ from → None ≡ stop_of (words_from s from)
unfolding words_from words_up_to follow next_word past_blanks
stop-past s from h = rw (next_over s (from + span in_blanks (drop from s)) (omega arith))

module _ {s : List ℕ} {from : ℕ} {r : Next} {n : Option ℕ} (h : from ≤ length s) (i : stop_of (words_from s from) ≡ n) (x : Answers s from r) where
  pub stop-later : {w : Word} → r ≡ Found w → stop_of (words_from s w.end) ≡ n
  stop-later {w} e = same (words_from s w.end) ∙ ap stop_of (sym (words-found h x e)) ∙ i
    where
      same : (q : Words) → stop_of q ≡ stop_of (before (word_in s w) q)
      same (words ws) = refl
      same (refused p) = refl

  pub stop-here : {p : ℕ} → r ≡ Stops p → Some p ≡ n
  stop-here e = ap stop_of (sym (words-stop h x e)) ∙ i

  pub stop-nowhere : r ≡ Over → None ≡ n
  stop-nowhere e = ap stop_of (sym (words_over h x e)) ∙ i
