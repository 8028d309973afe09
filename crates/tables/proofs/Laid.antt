-- The table of starts, laid out: calls in the order of their cells are laid out in one walk along the cells.
-- Assumes nothing.
use mathlib.Core.Bool.{Bool, true, false, ◌&&◌}
use mathlib.Core.Path.{◌≡◌, refl, sym, ◌∙◌, ap, ap₂}
use mathlib.Core.List.{List, [], ◌∷◌, ◌++◌, append_assoc}
use Prim.Native.Nat.{ℕ, zero, suc, ◌+◌, ◌<◌, ◌≤◌}
use native.Mathlib.Decide.{ℕ_discrete}
use native.Mathlib.Nat.{zero-add}
use native.Mathlib.Numerals.{add-one}
use native.Mathlib.Omega.{arith}
use lib.Dec.{eqb, leb, ltb}
use lib.ListN.{length, get_or, drop, set, replicate, length-append, drop_of_length-le}
use lib.Seq.{drop-cons, set_at}
use borrow.Author.Tests.{leb-true, le-leb, ltb-true, eq-eqb, ne_eqb}
use Rattle.ll1.proofs.Sets.{and_left, and_right}
use Rattle.grammar_law.specs.Tables.{cell_count, call_count}
use Rattle.grammar_law.specs.Starts.{starts}
use Rattle.tables.specs.Laying.{stored, Called, Filled}

-- ---- one cell after the other

module _ (called places : List ℕ) where
  -- one more cell
  pub store_on : (t r : List ℕ) (i a : ℕ) → i < length called → i < length places → a ≡ get_or called i 0 → stored (drop i called) (drop i places) t ≡ r
      → stored (drop (i + 1) called) (drop (i + 1) places) (set t a (get_or places i 0)) ≡ r
  unfolding stored
  store_on t r i a h k q e = rw (add-one i, q) (rw (drop-cons called i 0 h, drop-cons places i 0 k) at e)

  -- no more
  pub store_over : (t r : List ℕ) (i : ℕ) → length called ≤ i → stored (drop i called) (drop i places) t ≡ r → t ≡ r
  unfolding stored
  store_over t r i h e = rw (drop_of_length-le called h) at e

-- ---- calls in the order of their cells

-- from `at` on, and below `top`
unfoldable pub rising : ℕ → ℕ → List ℕ → Bool
rising at top [] = true
rising at top (c ∷ cs) = leb at c && (ltb c top && rising (suc c) top cs)

-- the n cells from `at` on
unfoldable pub spread : ℕ → ℕ → List ℕ → List ℕ → List ℕ
spread zero at called places = []
spread (suc n) at [] places = replicate (suc n) 0
spread (suc n) at (c ∷ called) [] = replicate (suc n) 0
spread (suc n) at (c ∷ called) (p ∷ places) = elim (eqb c at) [ true ↦ p ∷ spread n (suc at) called places | false ↦ 0 ∷ spread n (suc at) (c ∷ called) (p ∷ places) ]

module _ (at top c : ℕ) (cs : List ℕ) (e : rising at top (c ∷ cs) ≡ true) where
  low : at ≤ c
  unfolding rising
  low = leb-true at c (and_left (leb at c) _ e)

  high : c < top
  unfolding rising
  high = ltb-true c top (and_left (ltb c top) _ (and_right (leb at c) _ e))

  more : rising (suc c) top cs ≡ true
  unfolding rising
  more = and_right (ltb c top) _ (and_right (leb at c) _ e)

  later : at < c → rising (suc at) top (c ∷ cs) ≡ true
  unfolding rising
  later h = rw (le-leb (suc at) c h) (and_right (leb at c) _ e)

rising_at : (at top : ℕ) (l : List ℕ) → rising at top l ≡ true → (i : ℕ) → i < length l → get_or l i 0 < top
rising_at at top [] e i h = absurd (omega arith)
rising_at at top (c ∷ cs) e zero h = high at top c cs e
rising_at at top (c ∷ cs) e (suc i) h = rising_at (suc c) top cs (more at top c cs e) i (omega arith)

-- so it goes on behind cell `at`, in which x was put
abbrev Onward : ℕ → ℕ → List ℕ → List ℕ → List ℕ → Type 0
Onward n at done called places = (x : ℕ) → rising (suc at) (suc at + n) called ≡ true → stored called places (done ++ (x ∷ []) ++ replicate n 0) ≡ done ++ (x ∷ []) ++ spread n (suc at) called places

-- the cells before are done, and those from `at` on are empty
spread_out : (n at : ℕ) (done called places : List ℕ) → length done ≡ at → rising at (at + n) called ≡ true → stored called places (done ++ replicate n 0) ≡ done ++ spread n at called places
unfolding stored spread
spread_out zero at done [] places l e = refl
spread_out zero at done (c ∷ called) places l e = absurd (omega (arith, low at (at + 0) c called e, high at (at + 0) c called e))
spread_out (suc n) at done [] places l e = refl
spread_out (suc n) at done (c ∷ called) [] l e = refl
spread_out (suc n) at done (c ∷ called) (p ∷ places) l e =
    go (ℕ_discrete c at) (λ x. spread_out n (suc at) (done ++ (x ∷ [])) called places (longer x)) (λ x. spread_out n (suc at) (done ++ (x ∷ [])) (c ∷ called) (p ∷ places) (longer x))
  where
    longer : (x : ℕ) → length (done ++ (x ∷ [])) ≡ suc at
    longer x = length-append done (x ∷ []) ∙ omega arith

    top : at + suc n ≡ suc at + n
    top = omega arith

    go : Dec (c ≡ at) → Onward n at done called places → Onward n at done (c ∷ called) (p ∷ places) → stored called places (set (done ++ (0 ∷ replicate n 0)) c p) ≡ done ++ spread (suc n) at (c ∷ called) (p ∷ places)
    go (yes q) on off =
        rw (eq-eqb c at q, spread)
        (ap (stored called places) (ap (λ (i : ℕ). set (done ++ (0 ∷ replicate n 0)) i p) q ∙ set_at done 0 (replicate n 0) p at l ∙ sym (append_assoc done (p ∷ []) (replicate n 0)))
        ∙ on p (ap₂ (λ (i t : ℕ). rising (suc i) t called) (sym q) (sym top) ∙ more at (at + suc n) c called e)
        ∙ append_assoc done (p ∷ []) (spread n (suc at) called places))
    go (no q) on off =
        rw (ne_eqb c at q, spread)
        (ap (λ (t : List ℕ). stored called places (set t c p)) (sym (append_assoc done (0 ∷ []) (replicate n 0)))
        ∙ off 0 (ap (λ (t : ℕ). rising (suc at) t (c ∷ called)) (sym top) ∙ later at (at + suc n) c called e (omega (arith, low at (at + suc n) c called e)))
        ∙ append_assoc done (0 ∷ []) (spread n (suc at) (c ∷ called) (p ∷ places)))

-- ---- the table

pub called-so : {t called places : List ℕ} → length t ≡ cell_count → length called ≡ call_count → length places ≡ call_count → rising 0 cell_count called ≡ true → Called t called places
called-so {called = called} a b d e = record { cells = a; calls = b; rows = d; inside = λ i h. rising_at 0 cell_count called e i (omega (arith, b)) }

-- calls that rise and are spread as the definition's starts come to them
pub laid_so : {called places t r : List ℕ} (n : ℕ) → Filled called places t r → t ≡ replicate n 0 → rising 0 n called ≡ true → spread n 0 called places ≡ starts → r ≡ starts
laid_so {called} {places} n x e h f = x.is ∙ ap (stored called places) e ∙ spread_out n 0 [] called places refl (rw (zero-add n) h) ∙ f
