-- The laws of the word in hand.
-- Assumes nothing.
use mathlib.Core.Bool.{Bool, true, false, cond}
use mathlib.Core.Path.{◌≡◌, refl, sym, ◌∙◌, ap, subst}
use mathlib.Core.List.{List, [], ◌∷◌}
use Prim.Native.Nat.{ℕ, ◌≤◌}
use native.Mathlib.Omega.{arith}
use lib.Dec.{eqb}
use lib.ListN.{length, take, drop}
use Rattle.language.specs.Words as Language
use Rattle.language.specs.Words.{kind_of, too_large, word_at}
use Rattle.language.specs.Scan as Scan
use Rattle.language.specs.Scan.{found, stops, behind, next_word, next_at, word_length, past_blanks}
use Rattle.words.specs.Meaning.{word_in, Sound, Answers}
use Rattle.words.specs.declared.Word as scanned
use Rattle.words.specs.declared.Next.{Next}
use Rattle.words.specs.declared.Next.TheVariants.{Found, Stops, Over}
use Rattle.words.proofs.Walk.{sound, behind_is}
use Rattle.hand.specs.declared.Here.{Here}
use Rattle.hand.specs.Along.{Along, Stands, Begins}

-- ---- a word that is found is not too large

abbrev Fits : Scan.Next → Type 0
Fits (found w) = too_large w.kind w.bytes ≡ false
Fits (stops e) = Unit {0}
Fits Scan.over = Unit {0}

next_fits : (at : ℕ) (l : List ℕ) → Fits (next_at at l)
unfolding next_at
next_fits at [] = tt
next_fits at (c ∷ l) = go (eqb n 0) (too_large (kind_of (take n (c ∷ l))) (take n (c ∷ l))) refl
  where
    n : ℕ
    n = word_length (c ∷ l)

    go : (z t : Bool) → too_large (kind_of (take n (c ∷ l))) (take n (c ∷ l)) ≡ t → Fits (cond z (stops at) (cond t (stops at) (found (word_at at (take n (c ∷ l))))))
    go true t e = tt
    go false true e = tt
    go false false e = e

pub word_fits : (s : List ℕ) (from : ℕ) (w : Language.Word) → next_word s from ≡ found w → too_large w.kind w.bytes ≡ false
unfolding next_word
word_fits s from w e = subst Fits e (next_fits (past_blanks s from) (drop (past_blanks s from) s))

-- ---- the word from a place on

module _ {s : List ℕ} {from : ℕ} (short : length s ≤ 8192) (inside : from ≤ length s) {r : Next} (x : Answers s from r) where
  pub begins-word : {w : scanned.Word} → r ≡ Found w → Begins s from (record { kind = w.kind; place = w.start; next = w.end; value = w.value })
  begins-word {w} e =
      record {
        near = record { short = short; on = omega (arith, g.some); inside = g.inside; more = λ z. g.some };
        later = g.later;
        stands = stands;
      }
    where
      g : Sound s from w
      g = sound x e

      stands : (ws : List Language.Word) → Along s from ws → Stands s (record { kind = w.kind; place = w.start; next = w.end; value = w.value }) ws
      stands [] a = tt
      stands (v ∷ ws) (q, a) =
          let same : word_in s w ≡ v = let z : found (word_in s w) ≡ found v = rw e at x.says ∙ q in cc in (
            record {
              kind = ap (λ (u : Language.Word). u.kind) same;
              known = g.known;
              place = ap (λ (u : Language.Word). u.place) same;
              bytes = ap (λ (u : Language.Word). u.bytes) same;
              value = rw (← same) g.value;
              fits = word_fits s from v q;
            },
            subst (λ (i : ℕ). Along s i ws) (ap behind (sym same) ∙ behind_is g) a,
          )

  none-stands : (h : Here) → ((v : Language.Word) → next_word s from ≡ found v → ⊥) → (ws : List Language.Word) → Along s from ws → Stands s h ws
  none-stands h n [] a = tt
  none-stands h n (v ∷ ws) (q, a) = absurd (n v q)

  none-begins : ((v : Language.Word) → next_word s from ≡ found v → ⊥) → Begins s from (record { kind = 255; place = length s; next = length s; value = 0 })
  none-begins n =
      record {
        near = record { short = short; on = omega arith; inside = omega arith; more = λ z. absurd (omega arith) };
        later = inside;
        stands = none-stands (record { kind = 255; place = length s; next = length s; value = 0 }) n;
      }

  pub begins_none : ((w : scanned.Word) → r ≡ Found w → ⊥) → Begins s from (record { kind = 255; place = length s; next = length s; value = 0 })
  begins_none other = go r refl
    where
      go : (n : Next) → r ≡ n → Begins s from (record { kind = 255; place = length s; next = length s; value = 0 })
      go (Found w) e = absurd (other w e)
      go (Stops p) e = none-begins (λ v q. let z : ◌≡◌ {A = ℕ} 0 1 = cc (rw e at x.says, q) in omega arith)
      go Over e = none-begins (λ v q. let z : ◌≡◌ {A = ℕ} 0 1 = cc (rw e at x.says, q) in omega arith)
