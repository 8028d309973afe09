-- A text that is all words has them from its start on, as a reader goes along them.
-- Assumes nothing.
use mathlib.Core.Path.{◌≡◌, refl, sym, ◌∙◌, ap, subst}
use mathlib.Core.List.{List, [], ◌∷◌}
use Prim.Native.Nat.{ℕ, ◌≤◌}
use native.Mathlib.Omega.{arith}
use lib.ListN.{length}
use Rattle.language.specs.Words.{Word, Words, words, refused, before}
use Rattle.language.specs.Scan.{Next, found, stops, over, next_word, behind, follow, words_from, words_of}
use Rattle.language.proofs.Cutting.{Lie, next, words_step, words-lie}
use Rattle.hand.specs.Along.{Along}

module _ (s : List ℕ) where
  front : (v w : Word) (ws : List Word) (q : Words) → before v q ≡ words (w ∷ ws) → (v ≡ w) × (q ≡ words ws)
  front v w ws (words vs) e = (cc, cc)
  front v w ws (refused p) e = absurd (let z : ◌≡◌ {A = ℕ} 0 1 = cc in omega arith)

  first : (from : ℕ) (w : Word) (ws : List Word) (n : Next) → next_word s from ≡ n → follow n (words_from s) ≡ words (w ∷ ws) → (next_word s from ≡ found w) × (words_from s (behind w) ≡ words ws)
  unfolding follow
  first from w ws (found v) e q = let (a, b) = front v w ws (words_from s (behind v)) q in (e ∙ ap found a, subst (λ (u : Word). words_from s (behind u) ≡ words ws) a b)
  first from w ws (stops p) e q = absurd (let z : ◌≡◌ {A = ℕ} 0 1 = cc in omega arith)
  first from w ws over e q = absurd (let z : ◌≡◌ {A = ℕ} 0 1 = cc in omega arith)

  along : (ws : List Word) (from : ℕ) → Lie s from ws → from ≤ length s → words_from s from ≡ words ws → Along s from ws
  along [] from l h e = tt
  along (w ∷ ws) from (next a b c d f l) h e =
      let (p, q) = first from w ws (next_word s from) refl (sym (words_step s from h) ∙ e) in
      (p, along ws (behind w) l d q)

  pub text_along : (ws : List Word) → words_of s ≡ words ws → Along s 0 ws
  text_along ws e = along ws 0 (words-lie s ws e) (omega arith) e
