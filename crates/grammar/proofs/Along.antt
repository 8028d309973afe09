-- How a reader goes along the words of a text: one law for each answer of the scanner.
-- Assumes nothing.
use mathlib.Core.Path.{◌≡◌, refl, sym, ◌∙◌, ap, subst}
use mathlib.Core.List.{List, [], ◌∷◌, map}
use Prim.Native.Nat.{ℕ, zero, suc, ◌+◌, ◌≤◌, ◌<◌}
use native.Mathlib.Omega.{arith}
use lib.ListN.{length, get_or, take, drop, length-drop, length-map, get_or-eq_default}
use lib.Seq.{drop-drop}
use Rattle.language.specs.Words as Language
use Rattle.language.specs.Words.{IsWord, word_at, Words, words, refused, before, Cut, ends, skips, takes, large, strange}
use Rattle.language.specs.Scan.{next_word, words_of}
use Rattle.language.proofs.Longest.{no_empty-word}
use Rattle.language.proofs.Cutting.{words_cut}
use Rattle.words.specs.Meaning.{word_in, meaning, Sound, Holds, Answers}
use Rattle.words.specs.Met.{Met}
use Rattle.std.specs.Prelude.{Option}
use Rattle.words.specs.declared.Word.{Word}
use Rattle.words.specs.declared.Next.{Next}
use Rattle.words.specs.declared.Next.TheVariants.{Found, Stops, Over}
use Rattle.words.proofs.Only.{number-back}
use Rattle.words.proofs.Walk.{sound, behind_is}
use Rattle.words.proofs.Meeting.{end_met, is_met, met-found, met-stop, met_over, met-few}
use Rattle.ll1.proofs.Steps.{inside}
use Rattle.grammar.specs.Reading.{code_of, words_in, ends_at, codes_in, Left, Stands}
use Rattle.grammar.specs.declared.Here.{Here}

-- ---- the front of what is left of a list

module _ {A : Type 0} where
  not_empty : {B : Type 0} (x : A) (q : List A) → [] ≡ x ∷ q → B
  not_empty x q e = absurd (omega (arith, ap length e))

  front : {B : Type 0} (f : A → B) (d : B) (l : List A) (n : ℕ) (x : A) (q : List A) → drop n l ≡ x ∷ q → get_or (map f l) n d ≡ f x
  front f d [] zero x q e = not_empty x q e
  front f d [] (suc n) x q e = not_empty x q e
  front f d (y ∷ l) zero x q e = let same : y ≡ x = cc in ap f same
  front f d (y ∷ l) (suc n) x q e = front f d l n x q e

  front-inside : (l : List A) (n : ℕ) (x : A) (q : List A) → drop n l ≡ x ∷ q → n < length l
  front-inside l n x q e = omega (arith, ap length e, length-drop n l)

-- ---- the word from a place on

module _ {s : List ℕ} {from n : ℕ} (h : Left s from n) {r : Next} (x : Answers s from r) where
  said : {q : Next} → r ≡ q → next_word s from ≡ meaning s q
  said e = sym x.says ∙ ap (meaning s) e

  pub at_word : {w : Word} → r ≡ Found w → Stands s (record { kind = w.kind + 1; number = n; place = w.start; next = w.end })
  at_word {w} e =
      let g : Sound s from w = sound x e in
      let (vs, d, m) = met-found h.rest (said e) in
      let i : n < length (words_in s) = front-inside (words_in s) n (word_in s w) vs d in
      record {
        fits = omega (arith, i, length-map (words_in s) code_of);
        kind = omega (arith, number-back w.kind g.known, front code_of 0 (words_in s) n (word_in s w) vs d);
        place = sym (front (λ v. v.place) (ends_at (end_met s) (length s)) (words_in s) n (word_in s w) vs d);
        inside = omega (arith, g.some, g.inside);
        low = λ z. omega (arith, g.some, g.inside);
        ahead = g.inside;
        rest = subst (λ (l : List Language.Word). Met s w.end l (end_met s)) (sym (ap (drop 1) d) ∙ drop-drop 1 n (words_in s)) (subst (λ (p : ℕ). Met s p vs (end_met s)) (behind_is g) m);
      }

  -- where the words end, at the end of the text or at a 4
  ends_at_lem : (p : ℕ) → drop n (words_in s) ≡ [] → ends_at (end_met s) (length s) ≡ p → p ≤ length s → Stands s (record { kind = 0; number = n; place = p; next = from })
  ends_at_lem p d q f =
      let i : length (words_in s) ≤ n = omega (arith, ap length d, length-drop n (words_in s), h.count) in
      record {
        fits = omega (arith, h.count, length-map (words_in s) code_of);
        kind = sym (get_or-eq_default (codes_in s) 0 (omega (arith, i, length-map (words_in s) code_of)));
        place = sym (get_or-eq_default (map (λ v. v.place) (words_in s)) (ends_at (end_met s) (length s)) (omega (arith, i, length-map (words_in s) (λ v. v.place))) ∙ q);
        inside = f;
        low = λ z. absurd (z refl);
        ahead = h.fits;
        rest = subst (λ (l : List Language.Word). Met s from l (end_met s)) (d ∙ (sym (ap (drop 1) d) ∙ drop-drop 1 n (words_in s))) h.rest;
      }

  pub at_end_lem : r ≡ Over → Stands s (record { kind = 0; number = n; place = length s; next = from })
  at_end_lem e = let (d, q) = met_over h.rest (said e) in ends_at_lem (length s) d (ap (λ (o : Option ℕ). ends_at o (length s)) q) (omega arith)

  pub at_stop : {p : ℕ} → r ≡ Stops p → Stands s (record { kind = 0; number = n; place = p; next = from })
  at_stop {p} e =
      let (d, q) = met-stop h.rest (said e) in
      let y : Holds s from (Stops p) = (subst (Answers s from) e x).holds in
      ends_at_lem p d (ap (λ (o : Option ℕ). ends_at o (length s)) q) (omega (arith, y.1))

module _ {s : List ℕ} {w : Here} (x : Stands s w) (n : ¬ (w.kind ≡ 0)) where
  -- a word has a next place, and its number is less than the text's length
  pub next-left : Left s w.next (w.number + 1)
  next-left = record { fits = x.ahead; count = omega (arith, inside (codes_in s) w.number (λ z. n (x.kind ∙ z)), length-map (words_in s) code_of); rest = x.rest }

  pub number-few : w.number < length s
  number-few = omega (arith, next-left.count, met-few (is_met s) (omega arith))

-- ---- where a 4 stands

stop-low : {at : ℕ} {l : List ℕ} {r : Words} → Cut at l r → (p : ℕ) → r ≡ refused p → p < at + length l
stop-low ends p e = absurd (let z : ◌≡◌ {A = ℕ} 0 1 = cc e in omega arith)
stop-low (skips d x) p e = omega (arith, stop-low x p e)
stop-low (takes {at = at} {l = l} {q = q} n y d x f) p e = go q (stop-low x p) (sym f ∙ e)
  where
    go : (q : Words) → (q ≡ refused p → p < at + n + length (drop n l)) → before (word_at at (take n l)) q ≡ refused p → p < at + length l
    go (words ws) z g = absurd (let z : ◌≡◌ {A = ℕ} 0 1 = cc g in omega arith)
    go (refused o) z g = omega (arith, z g, y.inside, length-drop n l)
stop-low (large {at = at} {l = l} n y d) p e = let same : at ≡ p = cc e in omega (arith, some l n y.word)
  where
    some : (l : List ℕ) (n : ℕ) → IsWord (take n l) → 0 < length l
    some [] zero w = absurd (no_empty-word w)
    some [] (suc n) w = absurd (no_empty-word w)
    some (c ∷ l) n w = omega arith
stop-low (strange {at = at} d y) p e = let same : at ≡ p = cc e in omega arith

pub stop-inside : (s : List ℕ) (p : ℕ) → words_of s ≡ refused p → p < length s
stop-inside s p e = omega (arith, stop-low (words_cut s) p e)
