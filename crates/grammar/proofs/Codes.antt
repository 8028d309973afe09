-- The numbers by which the scanner and the tables know a kind of word: the tables' is one more.
-- Assumes nothing.
use mathlib.Core.Bool.{Bool, true, false, cond}
use mathlib.Core.Path.{◌≡◌, refl, sym, ◌∙◌, ap, ap₂}
use mathlib.Core.List.{List, [], ◌∷◌, ◌++◌, map}
use mathlib.Core.Option.{Option, none, some}
use Prim.Native.Nat.{ℕ, zero, suc, ◌<◌}
use Prim.Native.String.{String}
use native.Mathlib.Omega.{arith}
use lib.ListN.{length, get_or, take}
use Rattle.ll1.specs.Rows as rows
use Rattle.language.specs.Words.{bytes, signs, reserved, digit, same, first_of, spelled, kind_of, name, number, the, Words, words, refused, before, word_at, Cut, ends, skips, takes, large, strange}
use Rattle.language.specs.Numbers.{all_kinds, kind_at}
use Rattle.language.specs.Grammar.{kinds}
use Rattle.words.specs.Kinds.{spellings, spelling_count, numbered, kind_count}
use Rattle.words.proofs.Only.{number_of, number-back}
use Rattle.grammar_law.specs.Codes.{codes}
use Rattle.grammar.specs.Reading.{code_of, listed}

get_the : (ss : List String) (j : ℕ) → get_or (map the ss) j (the "") ≡ the (get_or ss j "")
get_the [] j = refl
get_the (s ∷ ss) zero = refl
get_the (s ∷ ss) (suc j) = get_the ss j

-- one kind, two numbers
pub one_more : (n : ℕ) → kind_at (suc n) ≡ numbered n
unfolding kind_at all_kinds numbered spellings
one_more zero = refl
one_more (suc zero) = refl
one_more (suc (suc j)) = get_the (signs ++ reserved) j

coded : (n : ℕ) → n < kind_count → kind_at (suc (number_of (numbered n))) ≡ numbered n
coded n h = ap (λ (i : ℕ). kind_at (suc i)) (number-back n h) ∙ one_more n

how-many : length spellings ≡ spelling_count
unfolding spellings signs reserved
how-many = refl

-- a spelling that was found is one of the list
found_at : (test : List ℕ → Bool) (ss : List String) (g : String) → first_of test ss ≡ some g → (j : ℕ) × (j < length ss) × (get_or ss j "" ≡ g)
unfolding first_of
found_at test [] g e = absurd (let z : ◌≡◌ {A = ℕ} 0 1 = cc in omega arith)
found_at test (s ∷ ss) g e = go (test (bytes s)) (found_at test ss g) e
  where
    go : (b : Bool) → (first_of test ss ≡ some g → (j : ℕ) × (j < length ss) × (get_or ss j "" ≡ g)) → elim b [ true ↦ some s | false ↦ first_of test ss ] ≡ some g → (j : ℕ) × (j < suc (length ss)) × (get_or (s ∷ ss) j "" ≡ g)
    go true more f = (0, omega arith, cc)
    go false more f = let (j, h, q) = more f in (suc j, omega arith, q)

known-kind : (w : List ℕ) → kind_at (suc (number_of (kind_of w))) ≡ kind_of w
unfolding kind_of spelled numbered spellings
known-kind w = go (first_of (same w) (signs ++ reserved)) refl (digit (get_or w 0 0))
  where
    go : (o : Option String) → first_of (same w) (signs ++ reserved) ≡ o → (b : Bool) → kind_at (suc (number_of (spelled o (cond b number name)))) ≡ spelled o (cond b number name)
    go none e true = coded 1 (omega arith)
    go none e false = coded 0 (omega arith)
    go (some g) e b =
        let (j, h, q) = found_at (same w) (signs ++ reserved) g e in
        ap (λ (x : String). kind_at (suc (number_of (the x)))) (sym q) ∙ coded (suc (suc j)) (omega (arith, h, how-many)) ∙ ap the q

-- the tables know the kinds of every cut
pub kinds_cut : {at : ℕ} {l : List ℕ} {r : Words} → Cut at l r → rows.words codes (map code_of (listed r)) ≡ kinds (listed r)
unfolding codes
kinds_cut ends = refl
kinds_cut (skips e x) = kinds_cut x
kinds_cut (takes {at = at} {l = l} {r = r} {q = q} n y e x f) = rw f (put q (kinds_cut x))
  where
    put : (q : Words) → rows.words codes (map code_of (listed q)) ≡ kinds (listed q) → rows.words codes (map code_of (listed (before (word_at at (take n l)) q))) ≡ kinds (listed (before (word_at at (take n l)) q))
    put (words ws) z = ap₂ ◌∷◌ (known-kind (take n l)) z
    put (refused p) z = refl
kinds_cut (large n y e) = refl
kinds_cut (strange e y) = refl
