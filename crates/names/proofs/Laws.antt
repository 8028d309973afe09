-- The laws of look-ups.
-- Assumes nothing.
use Rattle.std.proofs.Common.{◌≡◌, ℕ, zero, suc, ◌+◌, ◌-◌, ◌<◌, ◌≤◌, true, false, List, sym, refl, ap, ◌∙◌, arith}
use mathlib.Core.Option.{Option, none, some}
use Rattle.meaning.specs.Numbers.{Variable}
use Rattle.language.specs.Words.{same}
use Rattle.language.specs.Scan as Scan
use Rattle.language.specs.Scan.{next_word}
use Rattle.words.specs.Runs.{part}
use Rattle.words.specs.Meaning.{word_in, Answers}
use Rattle.words.specs.declared.Word as scanned
use Rattle.words.specs.declared.Next.{Next}
use Rattle.words.specs.declared.Next.TheVariants.{Found, Stops, Over}
use Rattle.words.proofs.Walk.{sound, behind_is}
use Rattle.names.specs.Look.{value_of, second_of, width_at, place_at, end_at, entry_at, look_from, look_in}

-- ---- the width behind a name

module _ {s : List ℕ} {from : ℕ} {r : Next} (x : Answers s from r) where
  pub second-found : {w : scanned.Word} → r ≡ Found w → w.value ≡ value_of (next_word s from)
  unfolding value_of
  second-found {w} e = let q : Scan.found (word_in s w) ≡ next_word s from = rw e at x.says in rw (← q) (sound x e).value

  pub second_none : ((w : scanned.Word) → r ≡ Found w → ⊥) → 0 ≡ value_of (next_word s from)
  unfolding value_of
  second_none other = go r refl
    where
      go : (n : Next) → r ≡ n → 0 ≡ value_of (next_word s from)
      go (Found w) e = absurd (other w e)
      go (Stops p) e = let q : Scan.stops p ≡ next_word s from = rw e at x.says in rw (← q) refl
      go Over e = let q : Scan.over ≡ next_word s from = rw e at x.says in rw (← q) refl

  pub width-found : {w : scanned.Word} {v : ℕ} → r ≡ Found w → v ≡ value_of (next_word s w.end) → v ≡ width_at s from
  unfolding width_at second_of
  width-found {w} e f = let q : Scan.found (word_in s w) ≡ next_word s from = rw e at x.says in rw (← q) (f ∙ ap (λ (p : ℕ). value_of (next_word s p)) (sym (behind_is (sound x e))))

  pub width_none : ((w : scanned.Word) → r ≡ Found w → ⊥) → 0 ≡ width_at s from
  unfolding width_at second_of
  width_none other = go r refl
    where
      go : (n : Next) → r ≡ n → 0 ≡ width_at s from
      go (Found w) e = absurd (other w e)
      go (Stops p) e = let q : Scan.stops p ≡ next_word s from = rw e at x.says in rw (← q) refl
      go Over e = let q : Scan.over ≡ next_word s from = rw e at x.says in rw (← q) refl

-- ---- one entry after the other

module _ (s t x : List ℕ) where
  pub look-here : (k i : ℕ) (o : Option Variable) → i < k → same (part s (place_at t i) (end_at t i)) x ≡ true → look_from s t x (k - i) i ≡ o → some (entry_at s t i) ≡ o
  unfolding look_from
  look-here k i o h e q = go (k - i) (omega arith) q
    where
      go : (m : ℕ) → 0 < m → look_from s t x m i ≡ o → some (entry_at s t i) ≡ o
      go zero h q = absurd (omega arith)
      go (suc m) h q = rw e at q

  pub look_on : (k i : ℕ) (o : Option Variable) → i < k → same (part s (place_at t i) (end_at t i)) x ≡ false → look_from s t x (k - i) i ≡ o → look_from s t x (k - (i + 1)) (i + 1) ≡ o
  unfolding look_from
  look_on k i o h e q = go (k - i) (k - (i + 1)) (omega arith) q
    where
      go : (m l : ℕ) → m ≡ suc l → look_from s t x m i ≡ o → look_from s t x l (i + 1) ≡ o
      go zero l h q = absurd (omega arith)
      go (suc m) l h q = let g : m ≡ l = omega arith in rw (← g) (rw e at q)

  pub look_over : (k i : ℕ) (o : Option Variable) → k ≤ i → look_from s t x (k - i) i ≡ o → none ≡ o
  unfolding look_from
  look_over k i o h q = go (k - i) (omega arith) q
    where
      go : (m : ℕ) → m ≡ 0 → look_from s t x m i ≡ o → none ≡ o
      go zero h q = q
      go (suc m) h q = absurd (omega arith)

pub look-start : (s t x : List ℕ) (n : ℕ) → look_from s t x (n - 0) 0 ≡ look_in s t n x
unfolding look_in
look-start s t x n = ap (λ (k : ℕ). look_from s t x k 0) (omega arith)
