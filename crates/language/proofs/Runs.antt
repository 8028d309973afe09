-- A run of bytes that go on, each before the next: the longest such beginning of a text.
-- Assumes nothing.
use mathlib.Core.Bool.{Bool, true, false, ◌&&◌, ◌||◌}
use mathlib.Core.Path.{◌≡◌, refl, sym, ◌∙◌}
use mathlib.Core.List.{List, [], ◌∷◌}
use Prim.Native.Nat.{ℕ, zero, suc, ◌≤◌}
use native.Mathlib.Omega.{arith}
use lib.ListN.{length, get_or, take}
use lib.Dec.{eqb}
use Rattle.ll1.proofs.Sets.{clash}
use Rattle.language.specs.Words.{letter, digit, underscore, hyphen, in_name, in_number, Run}
use Rattle.language.specs.Scan.{span}

-- a byte goes on by itself, or because of what follows: then what follows goes on too
pub record Steady (goesOn : ℕ → ℕ → Bool) : Type 0 where
  pub settled : (c d e x : ℕ) → goesOn c d ≡ true → goesOn d e ≡ false → goesOn c x ≡ true
  pub whatever : (c d : ℕ) → goesOn c 0 ≡ true → goesOn c d ≡ true

pub span_fits : (goesOn : ℕ → ℕ → Bool) (l : List ℕ) → span goesOn l ≤ length l
unfolding span
span_fits goesOn [] = omega arith
span_fits goesOn (c ∷ l) = go (goesOn c (get_or l 0 0)) (span_fits goesOn l)
  where
    go : (b : Bool) → span goesOn l ≤ length l → elim b [ true ↦ suc (span goesOn l) | false ↦ 0 ] ≤ suc (length l)
    go true h = omega arith
    go false h = omega arith

module _ (goesOn : ℕ → ℕ → Bool) (steady : Steady goesOn) where
  pub run_is : (l : List ℕ) → Run goesOn (take (span goesOn l) l)
  unfolding span
  run_is [] = tt
  run_is (c ∷ l) = go (goesOn c (get_or l 0 0)) refl (run_is l)
    where
      first : (l : List ℕ) → goesOn c (get_or l 0 0) ≡ true → goesOn c (get_or (take (span goesOn l) l) 0 0) ≡ true
      first [] e = e
      first (d ∷ l) e = more (goesOn d (get_or l 0 0)) refl
        where
          more : (b : Bool) → goesOn d (get_or l 0 0) ≡ b → goesOn c (get_or (take (elim b [ true ↦ suc (span goesOn l) | false ↦ 0 ]) (d ∷ l)) 0 0) ≡ true
          more true f = e
          more false f = steady.settled c d (get_or l 0 0) 0 e f

      go : (b : Bool) → goesOn c (get_or l 0 0) ≡ b → Run goesOn (take (span goesOn l) l) → Run goesOn (take (elim b [ true ↦ suc (span goesOn l) | false ↦ 0 ]) (c ∷ l))
      go true e t = (first l e, t)
      go false e t = tt

  pub run-most : (l : List ℕ) (m : ℕ) → m ≤ length l → Run goesOn (take m l) → m ≤ span goesOn l
  unfolding span
  run-most l zero h t = omega arith
  run-most [] (suc m) h t = absurd (omega arith)
  run-most (c ∷ l) (suc m) h t = go (goesOn c (get_or l 0 0)) refl (run-most l m (omega arith) t.1)
    where
      first : (l : List ℕ) (m : ℕ) → goesOn c (get_or (take m l) 0 0) ≡ true → goesOn c (get_or l 0 0) ≡ true
      first l zero e = steady.whatever c (get_or l 0 0) e
      first [] (suc m) e = e
      first (d ∷ l) (suc m) e = e

      go : (b : Bool) → goesOn c (get_or l 0 0) ≡ b → m ≤ span goesOn l → suc m ≤ elim b [ true ↦ suc (span goesOn l) | false ↦ 0 ]
      go true e k = omega arith
      go false e k = clash (sym (first l m t.0) ∙ e)

  -- at a byte that goes on whatever follows
  pub span_at : (c : ℕ) (l : List ℕ) → goesOn c (get_or l 0 0) ≡ true → span goesOn (c ∷ l) ≡ suc (span goesOn l)
  unfolding span
  span_at c l e = rw (e, span)

-- ---- the three runs

settled_b : (a b u h l d r q : Bool) → a || (b || (u || (h && (l || d)))) ≡ true → l || (d || r) ≡ false → a || (b || (u || q)) ≡ true
settled_b true b u h l d r q e f = refl
settled_b false true u h l d r q e f = refl
settled_b false false true h l d r q e f = refl
settled_b false false false h true d r q e f = clash f
settled_b false false false h false true r q e f = clash f
settled_b false false false true false false r q e f = clash (sym e)
settled_b false false false false false false r q e f = clash (sym e)

open_b : (a b u h q : Bool) → a || (b || (u || (h && false))) ≡ true → a || (b || (u || q)) ≡ true
open_b true b u h q e = refl
open_b false true u h q e = refl
open_b false false true h q e = refl
open_b false false false true q e = clash (sym e)
open_b false false false false q e = clash (sym e)

pub name_steady : Steady in_name
unfolding in_name letter digit
name_steady =
    record {
      settled = λ c d e x h k. settled_b (letter c) (digit c) (eqb c underscore) (eqb c hyphen) (letter d) (digit d) _ (eqb c hyphen && (letter x || digit x)) h k;
      whatever = λ c d h. open_b (letter c) (digit c) (eqb c underscore) (eqb c hyphen) (eqb c hyphen && (letter d || digit d)) h;
    }

pub number_steady : Steady in_number
number_steady = record { settled = λ c d e x h k. h; whatever = λ c d h. h }
