-- A word that is found is found again from its own place on.
-- Assumes nothing.
use mathlib.Core.Bool.{Bool, true, false, cond}
use mathlib.Core.Path.{◌≡◌, refl, sym, ◌∙◌, ap}
use mathlib.Core.List.{List, [], ◌∷◌}
use Prim.Native.Nat.{ℕ, suc, ◌+◌}
use native.Mathlib.Omega.{arith}
use lib.Dec.{eqb}
use lib.ListN.{get_or, take, drop}
use lib.Seq.{drop-drop}
use Rattle.language.specs.Words.{in_blanks, kind_of, too_large, Word, word_at}
use Rattle.language.specs.Scan.{Next, found, stops, over, span, word_length, next_at, past_blanks, next_word}
use Rattle.hand.specs.declared.Here.{Here}
use Rattle.hand.specs.Along.{Along, Stands}

span-behind : (g : ℕ → ℕ → Bool) (l : List ℕ) → span g (drop (span g l) l) ≡ 0
unfolding span
span-behind g [] = refl
span-behind g (c ∷ l) = go (g c (get_or l 0 0)) refl (span-behind g l)
  where
    go : (b : Bool) → g c (get_or l 0 0) ≡ b → span g (drop (span g l) l) ≡ 0 → span g (drop (elim b [ true ↦ suc (span g l) | false ↦ 0 ]) (c ∷ l)) ≡ 0
    go true e q = q
    go false e q = rw e refl

-- a found word, as numbers
abbrev found_at : Next → ℕ
found_at (found w) = suc w.place
found_at (stops e) = 0
found_at over = 0

next_place : (at : ℕ) (l : List ℕ) (w : Word) → next_at at l ≡ found w → w.place ≡ at
unfolding next_at
next_place at [] w e = absurd (let z : 0 ≡ suc w.place = ap found_at e in omega (arith, z))
next_place at (c ∷ l) w e = go (eqb (word_length (c ∷ l)) 0) (too_large (kind_of (take (word_length (c ∷ l)) (c ∷ l))) (take (word_length (c ∷ l)) (c ∷ l))) (take (word_length (c ∷ l)) (c ∷ l)) e
  where
    go : (a b : Bool) (x : List ℕ) → cond a (stops at) (cond b (stops at) (found (word_at at x))) ≡ found w → w.place ≡ at
    go true b x q = absurd (let z : 0 ≡ suc w.place = ap found_at q in omega (arith, z))
    go false true x q = absurd (let z : 0 ≡ suc w.place = ap found_at q in omega (arith, z))
    go false false x q = let z : suc at ≡ suc w.place = ap found_at q in omega (arith, z)

pub word-again : (s : List ℕ) (from : ℕ) (w : Word) → next_word s from ≡ found w → next_word s w.place ≡ found w
unfolding next_word past_blanks
word-again s from w e =
    let n = span in_blanks (drop from s) in
    let p : w.place ≡ from + n = next_place (from + n) (drop (from + n) s) w e in
    let z : span in_blanks (drop (from + n) s) ≡ 0 = ap (span in_blanks) (sym (drop-drop n from s)) ∙ span-behind in_blanks (drop from s) in
    let q : from + n + span in_blanks (drop (from + n) s) ≡ from + n = omega (arith, z) in
    ap (next_word s) p ∙ ap (λ (k : ℕ). next_at k (drop k s)) q ∙ e

-- the words from the place of the word in hand on
pub along_place : (s : List ℕ) (from : ℕ) (h : Here) (ws : List Word) → Along s from ws → Stands s h ws → Along s h.place ws
along_place s from h [] a st = tt
along_place s from h (w ∷ ws) (e, a) st = (ap (next_word s) st.0.place ∙ word-again s from w e, a)
