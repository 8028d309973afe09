-- Every text has the words that are met in it, and what the words of the language are by them.
-- Assumes nothing.
use mathlib.Core.Bool.{Bool, true, false, cond}
use mathlib.Core.Path.{◌≡◌, refl, sym, ◌∙◌, ap}
use mathlib.Core.List.{List, [], ◌∷◌}
use Prim.Native.Nat.{ℕ, zero, suc, ◌+◌, ◌≤◌, ◌<◌}
use native.Mathlib.Omega.{arith}
use lib.ListN.{length, take, drop, length-drop}
use lib.Seq.{length-take-le}
use lib.Dec.{eqb}
use borrow.Author.Tests.{eq-eqb, ne_eqb}
use Rattle.language.specs.Words.{Word, word_at, kind_of, too_large, in_blanks, before}
use Rattle.language.specs.Scan as Scan
use Rattle.language.specs.Scan.{span, word_length, found, stops, over, next_at, past_blanks, next_word, behind, follow, words_from}
use Rattle.language.proofs.Longest.{Takes, longest_taken}
use Rattle.language.proofs.Cutting.{words_step}
use Rattle.language.proofs.ScanLaws.{run_inside}
use Rattle.words.specs.Meaning.{stop_of}
use Rattle.words.specs.Met.{Met, ends, halts, meets, ended}
use Rattle.std.specs.Prelude.{Option, Some, None}

-- ---- a word that is found lies ahead

ahead_at : (p : ℕ) (l : List ℕ) (w : Word) → next_at p l ≡ found w → (p < behind w) × (behind w ≤ p + length l)
unfolding next_at
ahead_at p [] w e = absurd (let z : ◌≡◌ {A = ℕ} 0 1 = cc e in omega arith)
ahead_at p (c ∷ l) w e = go (longest_taken c l) e
  where
    n : ℕ
    n = word_length (c ∷ l)

    sized : 0 < n → n ≤ length (c ∷ l) → (t : Bool) → cond t (stops p) (found (word_at p (take n (c ∷ l)))) ≡ found w → (p < behind w) × (behind w ≤ p + length (c ∷ l))
    sized h k true f = absurd (let z : ◌≡◌ {A = ℕ} 0 1 = cc f in omega arith)
    sized h k false f =
        let same : word_at p (take n (c ∷ l)) ≡ w = cc f in
        let long : behind w ≡ p + n = ap behind (sym same) ∙ ap (λ (i : ℕ). p + i) (length-take-le n (c ∷ l) k) in
        (omega arith, omega arith)

    go : Takes (c ∷ l) n → cond (eqb n 0) (stops p) (cond (too_large (kind_of (take n (c ∷ l))) (take n (c ∷ l))) (stops p) (found (word_at p (take n (c ∷ l))))) ≡ found w
        → (p < behind w) × (behind w ≤ p + length (c ∷ l))
    go (Takes.word h y) f = sized h y.inside (too_large (kind_of (take n (c ∷ l))) (take n (c ∷ l))) (rw (ne_eqb n 0 (λ z. omega arith)) at f)
    go (Takes.nothing h y) f = let g : stops p ≡ found w = rw (eq-eqb n 0 h) at f in absurd (let z : ◌≡◌ {A = ℕ} 0 1 = cc g in omega arith)

ahead : (s : List ℕ) (from : ℕ) (w : Word) → from ≤ length s → next_word s from ≡ found w → (from < behind w) × (behind w ≤ length s)
unfolding next_word past_blanks
ahead s from w h e =
    let p = from + span in_blanks (drop from s) in
    let x = ahead_at p (drop p s) w e in
    let i : p ≤ length s = run_inside in_blanks s from h in
    (omega (arith, x.0), omega (arith, x.1, length-drop p s))

-- ---- every text has them

record Going (s : List ℕ) (from : ℕ) : Type 0 where
  pub some : List Word
  pub end : Option ℕ
  pub met : Met s from some end

going : (most : ℕ) (s : List ℕ) (from : ℕ) → from ≤ length s → length s < most + from → Going s from
going zero s from h k = absurd (omega arith)
going (suc most) s from h k = go (next_word s from) refl (λ w x. going most s (behind w) x.1 (omega (arith, x.0)))
  where
    go : (q : Scan.Next) → next_word s from ≡ q → ((w : Word) → (from < behind w) × (behind w ≤ length s) → Going s (behind w)) → Going s from
    go (found w) e more = let g = more w (ahead s from w h e) in record { some = w ∷ g.some; end = g.end; met = meets w e g.met }
    go (stops p) e more = record { some = []; end = Some p; met = halts p e }
    go over e more = record { some = []; end = None; met = ends e }

all : (s : List ℕ) → Going s 0
all s = going (suc (length s)) s 0 (omega arith) (omega arith)

pub words_met : List ℕ → List Word
words_met s = (all s).some

pub end_met : List ℕ → Option ℕ
end_met s = (all s).end

pub is_met : (s : List ℕ) → Met s 0 (words_met s) (end_met s)
unfolding words_met end_met
is_met s = (all s).met

pub end_is : (n : Option ℕ) (ws : List Word) → stop_of (ended n ws) ≡ n
end_is None ws = refl
end_is (Some e) ws = refl

-- ---- one step

module _ {s : List ℕ} where
  pub met-found : {from : ℕ} {ws : List Word} {n : Option ℕ} {w : Word} → Met s from ws n → next_word s from ≡ found w → (vs : List Word) × (ws ≡ w ∷ vs) × Met s (behind w) vs n
  met-found (ends e) f = absurd (let z : ◌≡◌ {A = ℕ} 0 1 = cc (e, f) in omega arith)
  met-found (halts p e) f = absurd (let z : ◌≡◌ {A = ℕ} 0 1 = cc (e, f) in omega arith)
  met-found {n = n} {w = w} (meets {ws = vs} v e x) f =
      let same : v ≡ w = cc (e, f) in
      (vs, ap (λ (u : Word). u ∷ vs) same, rw (← same) x)

  pub met-stop : {from p : ℕ} {ws : List Word} {n : Option ℕ} → Met s from ws n → next_word s from ≡ stops p → (ws ≡ []) × (n ≡ Some p)
  met-stop (ends e) f = absurd (let z : ◌≡◌ {A = ℕ} 0 1 = cc (e, f) in omega arith)
  met-stop {p = p} (halts q e) f = let same : q ≡ p = cc (e, f) in (refl, ap Some same)
  met-stop (meets v e x) f = absurd (let z : ◌≡◌ {A = ℕ} 0 1 = cc (e, f) in omega arith)

  pub met_over : {from : ℕ} {ws : List Word} {n : Option ℕ} → Met s from ws n → next_word s from ≡ over → (ws ≡ []) × (n ≡ None)
  met_over (ends e) f = (refl, refl)
  met_over (halts q e) f = absurd (let z : ◌≡◌ {A = ℕ} 0 1 = cc (e, f) in omega arith)
  met_over (meets v e x) f = absurd (let z : ◌≡◌ {A = ℕ} 0 1 = cc (e, f) in omega arith)

  -- there are no more words than bytes
  pub met-few : {from : ℕ} {ws : List Word} {n : Option ℕ} → Met s from ws n → from ≤ length s → from + length ws ≤ length s
  met-few (ends e) h = omega arith
  met-few (halts p e) h = omega arith
  met-few {from} (meets w e x) h = let a = ahead s from w h e in omega (arith, a.0, met-few x a.1)

  -- the words of the language
  pub met-words : {from : ℕ} {ws : List Word} {n : Option ℕ} → Met s from ws n → from ≤ length s → words_from s from ≡ ended n ws
  unfolding follow
  met-words {from} (ends e) h = words_step s from h ∙ rw e
  met-words {from} (halts p e) h = words_step s from h ∙ rw e
  met-words {from} (meets {ws = ws} {n = n} w e x) h = words_step s from h ∙ rw (e, met-words x (ahead s from w h e).1) (put n)
    where
      put : (n : Option ℕ) → before w (ended n ws) ≡ ended n (w ∷ ws)
      put None = refl
      put (Some p) = refl
