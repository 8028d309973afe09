-- No second answer meets the promise of the next word, and no two numbers are one kind.
-- Assumes nothing.
use mathlib.Core.Bool.{true, false}
use mathlib.Core.Path.{◌≡◌, refl, sym, ◌∙◌, ap}
use mathlib.Core.List.{List, [], ◌∷◌}
use Prim.Native.Nat.{ℕ, zero, suc, ◌<◌}
use Prim.Native.String.{String}
use native.Mathlib.Omega.{arith}
use lib.ListN.{length}
use lib.Dec.{eqb}
use borrow.Author.Tests.{eqb-true}
use Rattle.file_law.specs.Answer.{every}
use Rattle.language.specs.Words as Language
use Rattle.language.specs.Words.{bytes, signs, reserved, same, Kind, name, number, the}
use Rattle.words.specs.Kinds.{spellings, spelling, spelling_count, numbered, kind_count}
use Rattle.words.specs.Meaning.{bytes_of, word_in, meaning, worth, Sound, Holds, Answers}
use Rattle.words.specs.declared.Word.{Word}
use Rattle.words.specs.declared.Next.{Next}
use Rattle.words.specs.declared.Next.TheVariants.{Found, Stops, Over}
use Rattle.spellings.proofs.Parts.{part_length}
use Rattle.spellings.proofs.Tested.{each}

-- ---- a kind has one number

-- the number of the first of some strings that has the bytes
abbrev place : List ℕ → List String → ℕ
place w [] = 0
place w (s ∷ ss) = elim (same w (bytes s)) [ true ↦ 0 | false ↦ suc (place w ss) ]

unfoldable pub number_of : Kind → ℕ
number_of name = 0
number_of number = 1
number_of (the s) = suc (suc (place (bytes s) spellings))

places : every (λ k. eqb (place (spelling k) spellings) k) spelling_count 0 ≡ true
unfolding every bytes signs reserved same spellings spelling
places = refl

pub number-back : (k : ℕ) → k < kind_count → number_of (numbered k) ≡ k
unfolding number_of numbered spelling
number-back zero h = refl
number-back (suc zero) h = refl
number-back (suc (suc k)) h = ap (λ (n : ℕ). suc (suc n)) (eqb-true (place (spelling k) spellings) k (each (λ i. eqb (place (spelling i) spellings) i) spelling_count places k (omega arith)))

-- ---- one answer

same_word : (s : List ℕ) (from : ℕ) (w v : Word) → Sound s from w → Sound s from v → word_in s w ≡ word_in s v → Found w ≡ Found v
same_word s from w v x y e =
    let k : w.kind ≡ v.kind = sym (number-back w.kind x.known) ∙ ap (λ (z : Language.Word). number_of z.kind) e ∙ number-back v.kind y.known in
    let a : w.start ≡ v.start = ap (λ (z : Language.Word). z.place) e in
    let n : length (bytes_of s w) ≡ length (bytes_of s v) = ap (λ (z : Language.Word). length z.bytes) e in
    let b : w.end ≡ v.end = omega (arith, part_length s w.start w.end, part_length s v.start v.end, x.some, x.inside, y.some, y.inside) in
    let u : w.value ≡ v.value = x.value ∙ ap (λ (z : Language.Word). worth z.kind z.bytes) e ∙ sym y.value in
    go k a b u
  where
    go : w.kind ≡ v.kind → w.start ≡ v.start → w.end ≡ v.end → w.value ≡ v.value
        → ◌≡◌ {A = Next} (Found (record { kind = w.kind; start = w.start; end = w.end; value = w.value })) (Found (record { kind = v.kind; start = v.start; end = v.end; value = v.value }))
    go k a b u = rw (k, a, b, u)

-- what is meant and what a caller may count on leave one answer
one : (s : List ℕ) (from : ℕ) (a b : Next) → meaning s a ≡ meaning s b → Holds s from a → Holds s from b → a ≡ b
one s from (Found w) (Found v) e x y = let f : ◌≡◌ {A = Language.Word} (word_in s w) (word_in s v) = cc in same_word s from w v x y f
one s from (Found w) (Stops q) e x y = absurd (let z : ◌≡◌ {A = ℕ} 0 1 = cc in omega arith)
one s from (Found w) Over e x y = absurd (let z : ◌≡◌ {A = ℕ} 0 1 = cc in omega arith)
one s from (Stops p) (Found v) e x y = absurd (let z : ◌≡◌ {A = ℕ} 0 1 = cc in omega arith)
one s from (Stops p) (Stops q) e x y = cc
one s from (Stops p) Over e x y = absurd (let z : ◌≡◌ {A = ℕ} 0 1 = cc in omega arith)
one s from Over (Found v) e x y = absurd (let z : ◌≡◌ {A = ℕ} 0 1 = cc in omega arith)
one s from Over (Stops q) e x y = absurd (let z : ◌≡◌ {A = ℕ} 0 1 = cc in omega arith)
one s from Over Over e x y = refl

pub next_only : (s : List ℕ) (from : ℕ) (a b : Next) → Answers s from a → Answers s from b → a ≡ b
next_only s from a b x y = one s from a b (x.says ∙ sym y.says) x.holds y.holds
