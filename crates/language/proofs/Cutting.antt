-- The words that are computed are the cut of the text, there is no other cut, and where its words lie.
-- Assumes nothing.
use mathlib.Core.Bool.{Bool, true, false, cond}
use mathlib.Core.Path.{◌≡◌, refl, sym, ◌∙◌, ap, ap₂, subst}
use mathlib.Core.List.{List, [], ◌∷◌}
use Prim.Native.Nat.{ℕ, zero, suc, ◌+◌, ◌≤◌, ◌<◌}
use native.Mathlib.Nat.{add-zero, add-suc, suc-add}
use native.Mathlib.Omega.{arith}
use lib.ListN.{length, get_or, take, drop, length-drop}
use native.Mathlib.Decide.{dec_lt}
use native.Mathlib.Numerals.{add-one}
use lib.Seq.{length-take-le, drop-drop, get_or-drop}
use lib.Dec.{eqb}
use borrow.Author.Tests.{eq-eqb, ne_eqb}
use Rattle.ll1.proofs.Sets.{clash}
use Rattle.language.specs.Words.{blank, in_blanks, IsWord, Longest, kind_of, too_large, Word, word_at, Words, words, refused, before, Cut, ends, skips, takes, large, strange}
use Rattle.language.specs.Scan.{span, word_length, found, stops, next_at, past_blanks, next_word, behind, follow, words_up_to, words_from, words_of}
use Rattle.language.proofs.Runs.{span_fits}
use Rattle.language.proofs.Longest.{Takes, longest_taken, blank_none, no_empty-word}

-- ---- one cut

same_length : (l : List ℕ) (n m : ℕ) → Longest l n → Longest l m → n ≡ m
same_length l n m x y = omega (arith, x.most m y.inside y.word, y.most n x.inside x.word)

same-large : (l : List ℕ) (n m : ℕ) → Longest l n → Longest l m → too_large (kind_of (take n l)) (take n l) ≡ false → too_large (kind_of (take m l)) (take m l) ≡ true → ⊥
same-large l n m x y e f = clash (sym f ∙ ap (λ (i : ℕ). too_large (kind_of (take i l)) (take i l)) (same_length l m n y x) ∙ e)

no_word-here : (n : ℕ) → Longest [] n → ⊥
no_word-here zero x = no_empty-word x.word
no_word-here (suc n) x = no_empty-word x.word

pub one_cut : {at : ℕ} {l : List ℕ} {r q : Words} → Cut at l r → Cut at l q → r ≡ q
one_cut ends ends = refl
one_cut ends (takes n x f y e) = absurd (no_word-here n x)
one_cut ends (large n x f) = absurd (no_word-here n x)
one_cut (skips b x) (skips d y) = one_cut x y
one_cut (skips {c = c} {l = l} b x) (takes n y f z e) = absurd (blank_none c l b n y.word)
one_cut (skips {c = c} {l = l} b x) (large n y f) = absurd (blank_none c l b n y.word)
one_cut (skips b x) (strange d y) = clash (sym b ∙ d)
one_cut (takes n x f y e) ends = absurd (no_word-here n x)
one_cut (takes n x f y e) (skips {c = c} {l = l} d z) = absurd (blank_none c l d n x.word)
one_cut (takes {at = at} {l = l} n x f y e) (takes {q = q} m u g z h) =
    let same : m ≡ n = same_length l m n u x in
    e ∙ ap₂ before (ap (λ (i : ℕ). word_at at (take i l)) (sym same)) (one_cut y (subst (λ (i : ℕ). Cut (at + i) (drop i l) q) same z)) ∙ sym h
one_cut (takes {l = l} n x f y e) (large m u g) = absurd (same-large l n m x u f g)
one_cut (takes n x f y e) (strange b z) = absurd (z n x.word)
one_cut (large n x f) ends = absurd (no_word-here n x)
one_cut (large n x f) (skips {c = c} {l = l} d z) = absurd (blank_none c l d n x.word)
one_cut (large {l = l} n x f) (takes m u g z h) = absurd (same-large l m n u x g f)
one_cut (large n x f) (large m u g) = refl
one_cut (large n x f) (strange b z) = refl
one_cut (strange b x) (skips d y) = clash (sym d ∙ b)
one_cut (strange b x) (takes n y f z e) = absurd (x n y.word)
one_cut (strange b x) (large n y f) = refl
one_cut (strange b x) (strange d y) = refl

-- ---- what is computed is the cut

-- blanks in front change nothing
past_blanks_lem : (at : ℕ) (l : List ℕ) (r : Words) → Cut (at + span in_blanks l) (drop (span in_blanks l) l) r → Cut at l r
unfolding span
past_blanks_lem at [] r x = rw add-zero at x
past_blanks_lem at (c ∷ l) r x = go (blank c) refl (past_blanks_lem (suc at) l r) x
  where
    go : (b : Bool) → blank c ≡ b → (Cut (suc at + span in_blanks l) (drop (span in_blanks l) l) r → Cut (suc at) l r)
        → Cut (at + elim b [ true ↦ suc (span in_blanks l) | false ↦ 0 ]) (drop (elim b [ true ↦ suc (span in_blanks l) | false ↦ 0 ]) (c ∷ l)) r → Cut at (c ∷ l) r
    go true e f x = skips e (f (subst (λ (i : ℕ). Cut i (drop (span in_blanks l) l) r) (add-suc at (span in_blanks l) ∙ sym (suc-add at (span in_blanks l))) x))
    go false e f x = subst (λ (i : ℕ). Cut i (c ∷ l) r) (add-zero at) x

-- behind them stands none
abbrev Stands : List ℕ → Type 0
Stands [] = Unit
Stands (c ∷ l) = blank c ≡ false

behind_blanks : (l : List ℕ) → Stands (drop (span in_blanks l) l)
unfolding span
behind_blanks [] = tt
behind_blanks (c ∷ l) = go (blank c) refl (behind_blanks l)
  where
    go : (b : Bool) → blank c ≡ b → Stands (drop (span in_blanks l) l) → Stands (drop (elim b [ true ↦ suc (span in_blanks l) | false ↦ 0 ]) (c ∷ l))
    go true e x = x
    go false e x = e

-- a word, and what its rest gives
next_cut : (at : ℕ) (l : List ℕ) → Stands l → (rest : ℕ → Words) → ((n : ℕ) → 0 < n → n ≤ length l → Cut (at + n) (drop n l) (rest (at + n))) → Cut at l (follow (next_at at l) rest)
unfolding next_at follow
next_cut at [] b rest x = ends
next_cut at (c ∷ l) b rest x = go (longest_taken c l)
  where
    n : ℕ
    n = word_length (c ∷ l)

    sized : 0 < n → Longest (c ∷ l) n → (t : Bool) → too_large (kind_of (take n (c ∷ l))) (take n (c ∷ l)) ≡ t
        → Cut at (c ∷ l) (follow (cond t (stops at) (found (word_at at (take n (c ∷ l))))) rest)
    sized h y true e = large n y e
    sized h y false e =
        let long : length (take n (c ∷ l)) ≡ n = length-take-le n (c ∷ l) y.inside in
        takes n y e (x n h y.inside) (ap (λ (i : ℕ). before (word_at at (take n (c ∷ l))) (rest (at + i))) long)

    go : Takes (c ∷ l) n → Cut at (c ∷ l) (follow (cond (eqb n 0) (stops at) (cond (too_large (kind_of (take n (c ∷ l))) (take n (c ∷ l))) (stops at) (found (word_at at (take n (c ∷ l)))))) rest)
    go (Takes.word h y) = rw (ne_eqb n 0 (λ e. omega arith)) (sized h y (too_large (kind_of (take n (c ∷ l))) (take n (c ∷ l))) refl)
    go (Takes.nothing h y) = rw (eq-eqb n 0 h) (strange b y)

-- the words from a place on, whatever stands behind the next one
step_cut : (s : List ℕ) (from : ℕ) → from ≤ length s → (rest : ℕ → Words) → ((e : ℕ) → from < e → e ≤ length s → Cut e (drop e s) (rest e)) → Cut from (drop from s) (follow (next_word s from) rest)
unfolding next_word past_blanks
step_cut s from h rest x =
    past_blanks_lem from (drop from s) _
    (rw (drop-drop (span in_blanks (drop from s)) from s)
    (next_cut p (drop p s) (subst Stands (drop-drop (span in_blanks (drop from s)) from s) (behind_blanks (drop from s))) rest
    (λ n k f. rw (drop-drop n p s) (x (p + n) (omega arith) (omega (arith, inside, length-drop p s))))))
  where
    p : ℕ
    p = from + span in_blanks (drop from s)

    inside : p ≤ length s
    inside = omega (arith, span_fits in_blanks (drop from s), length-drop from s)

up_to_cut : (most : ℕ) (s : List ℕ) (from : ℕ) → from ≤ length s → length s < most + from → Cut from (drop from s) (words_up_to most s from)
unfolding words_up_to
up_to_cut zero s from h k = absurd (omega arith)
up_to_cut (suc most) s from h k = step_cut s from h (words_up_to most s) (λ e f g. up_to_cut most s e g (omega arith))

-- from every place on the words that are computed are the cut
pub from_cut : (s : List ℕ) (from : ℕ) → from ≤ length s → Cut from (drop from s) (words_from s from)
unfolding words_from
from_cut s from h = up_to_cut (suc (length s)) s from h (omega arith)

pub words_cut : (s : List ℕ) → Cut 0 s (words_of s)
words_cut s = from_cut s 0 (omega arith)

-- the words of a text are its cut, and nothing else is
pub words_only : (s : List ℕ) (r : Words) → Cut 0 s r → r ≡ words_of s
words_only s r x = one_cut x (words_cut s)

-- how a loop goes over them
pub words_step : (s : List ℕ) (from : ℕ) → from ≤ length s → words_from s from ≡ follow (next_word s from) (words_from s)
words_step s from h = one_cut (from_cut s from h) (step_cut s from h (words_from s) (λ e f g. from_cut s e g))

-- ---- where the words lie

abbrev pub AllBlank : List ℕ → ℕ → ℕ → Type 0
AllBlank s from to = (i : ℕ) → from ≤ i → i < to → blank (get_or s i 0) ≡ true

-- each word is a part of the text, they stand in order and apart, and only blanks lie before, between and behind them
pub data Lie (s : List ℕ) : ℕ → List Word → Type 0 where
  none : {from : ℕ} → AllBlank s from (length s) → Lie s from []
  next : {from : ℕ} {w : Word} {ws : List Word} → from ≤ w.place → AllBlank s from w.place → 0 < length w.bytes → behind w ≤ length s
      → take (length w.bytes) (drop w.place s) ≡ w.bytes → Lie s (behind w) ws → Lie s from (w ∷ ws)

abbrev LieOf : List ℕ → ℕ → Words → Type 0
LieOf s from (words ws) = Lie s from ws
LieOf s from (refused e) = Unit

lie_from : (s : List ℕ) {at : ℕ} {l : List ℕ} {r : Words} → Cut at l r → (from : ℕ) → l ≡ drop at s → from ≤ at → at ≤ length s → AllBlank s from at → LieOf s from r
lie_from s {at} ends from e h k b =
    let over : length s ≡ at = omega (arith, ap length e, length-drop at s) in
    none (λ i f g. b i f (omega arith))
lie_from s {at} (skips {c = c} {l = l} d x) from e h k b =
    lie_from s x from (ap (drop 1) e ∙ drop-drop 1 at s ∙ ap (λ (i : ℕ). drop i s) (add-one at)) (omega arith) (omega (arith, ap length e, length-drop at s)) more
  where
    first : get_or s at 0 ≡ c
    first = ap (λ (i : ℕ). get_or s i 0) (sym (add-zero at)) ∙ sym (get_or-drop at s 0 0) ∙ ap (λ (v : List ℕ). get_or v 0 0) (sym e)

    more : AllBlank s from (suc at)
    more i f g = case (dec_lt i at)
      where
        case : Dec (i < at) → blank (get_or s i 0) ≡ true
        case (yes j) = b i f j
        case (no j) = let same : i ≡ at = omega arith in rw (same, first) d
lie_from s {at} (takes {l = l} {q = q} n x f y g) from e h k b =
    rw g (put q (lie_from s y (at + n) (ap (drop n) e ∙ drop-drop n at s) (omega arith) inside (λ i u v. absurd (omega arith))))
  where
    inside : at + n ≤ length s
    inside = omega (arith, x.inside, ap length e, length-drop at s)

    long : length (take n l) ≡ n
    long = length-take-le n l x.inside

    some : 0 < n
    some = case n x.word
      where
        case : (n : ℕ) → IsWord (take n l) → 0 < n
        case zero w = absurd (no_empty-word w)
        case (suc n) w = omega arith

    put : (q : Words) → LieOf s (at + n) q → LieOf s from (before (word_at at (take n l)) q)
    put (words ws) z =
        next {w = word_at at (take n l)} h b (omega (arith, some, long)) (omega (arith, inside, long)) (ap (λ (i : ℕ). take i (drop at s)) long ∙ ap (take n) (sym e))
        (subst (λ (i : ℕ). Lie s (at + i) ws) (sym long) z)
    put (refused p) z = tt
lie_from s (large n x f) from e h k b = tt
lie_from s (strange d x) from e h k b = tt

pub words-lie : (s : List ℕ) (ws : List Word) → words_of s ≡ words ws → Lie s 0 ws
words-lie s ws e = subst (LieOf s 0) e (lie_from s (words_cut s) 0 refl (omega arith) (omega arith) (λ i f g. absurd (omega arith)))
