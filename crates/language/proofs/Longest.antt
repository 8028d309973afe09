-- The word that is taken is the longest that the text begins with, whatever its kind; where none is taken none begins the text.
-- Assumes nothing.
use mathlib.Core.Bool.{Bool, true, false, ◌&&◌, ◌||◌, cond}
use mathlib.Core.Path.{◌≡◌, refl, sym, ◌∙◌, ap, subst}
use mathlib.Core.List.{List, [], ◌∷◌, cons≢nil, head-eq_of_cons-eq, tail-eq_of_cons-eq}
use mathlib.Core.Option.{Option}
use Prim.Native.Nat.{ℕ, zero, suc, ◌≤◌, ◌<◌}
use Prim.Native.String.{String}
use native.Mathlib.Omega.{arith}
use lib.ListN.{length, get_or, take}
use lib.Seq.{length-take-le}
use lib.Dec.{leb, eqb}
use borrow.Author.Tests.{leb-true, eqb-true}
use Rattle.ll1.proofs.Sets.{clash, and_left, and_right}
use Rattle.language.specs.Words.{bytes, blank, letter, digit, in_name, in_number, signs, Run, Among, IsWord, a_name, a_number, a_sign, Longest, first_of}
use Rattle.language.specs.Scan.{span, begins, length_of, word_length}
use Rattle.language.proofs.Runs.{span_fits, run_is, run-most, span_at, name_steady, number_steady}
use Rattle.language.proofs.Signs.{begins-take, taken, fits, sign_plain, Taken, longest, sign-taken}

-- no byte is both a letter and a digit
letter-high : (c : ℕ) → letter c ≡ true → 65 ≤ c
unfolding letter
letter-high c e = go (leb 65 c) (leb c 90) (leb 97 c) (leb c 122) e (leb-true 65 c) (leb-true 97 c)
  where
    go : (a b d f : Bool) → (a && b) || (d && f) ≡ true → (a ≡ true → 65 ≤ c) → (d ≡ true → 97 ≤ c) → 65 ≤ c
    go true b d f e x y = x refl
    go false b true f e x y = omega (arith, y refl)
    go false b false f e x y = clash (sym e)

digit-between : (c : ℕ) → digit c ≡ true → (48 ≤ c) × (c ≤ 57)
unfolding digit
digit-between c e = (leb-true 48 c (and_left (leb 48 c) (leb c 57) e), leb-true c 57 (and_right (leb 48 c) (leb c 57) e))

blank-low : (c : ℕ) → blank c ≡ true → c ≤ 32
unfolding blank
blank-low c e = go (eqb c 32) (eqb c 9) (eqb c 10) (eqb c 13) e (eqb-true c 32) (eqb-true c 9) (eqb-true c 10) (eqb-true c 13)
  where
    go : (a b d f : Bool) → a || (b || (d || f)) ≡ true → (a ≡ true → c ≡ 32) → (b ≡ true → c ≡ 9) → (d ≡ true → c ≡ 10) → (f ≡ true → c ≡ 13) → c ≤ 32
    go true b d f e x y z w = omega (arith, x refl)
    go false true d f e x y z w = omega (arith, y refl)
    go false false true f e x y z w = omega (arith, z refl)
    go false false false true e x y z w = omega (arith, w refl)
    go false false false false e x y z w = clash (sym e)

not_both : (c : ℕ) → letter c ≡ true → digit c ≡ true → ⊥
not_both c e f = omega (arith, letter-high c e, digit-between c f)

-- what a word among the beginnings of c ∷ l is, by its first byte
data Shape (c : ℕ) (l : List ℕ) (m : ℕ) : Type 0 where
  named : letter c ≡ true → (j : ℕ) → m ≡ suc j → Run in_name (take j l) → Shape c l m
  numbered : digit c ≡ true → (j : ℕ) → m ≡ suc j → Run in_number (take j l) → Shape c l m
  signed : (s : String) → Among s signs → take m (c ∷ l) ≡ bytes s → letter c ≡ false → digit c ≡ false → blank c ≡ false → Shape c l m

shape : (c : ℕ) (l : List ℕ) (m : ℕ) {w : List ℕ} → IsWord w → w ≡ take m (c ∷ l) → Shape c l m
shape c l zero (a_name d w h r) e = absurd (cons≢nil e)
shape c l zero (a_number d w h r) e = absurd (cons≢nil e)
shape c l zero (a_sign s w a q) e = absurd (omega (arith, ap length (sym e ∙ q), (sign_plain s a).some))
shape c l (suc m) (a_name d w h r) e = named (rw (head-eq_of_cons-eq e) at h) m refl (subst (Run in_name) (tail-eq_of_cons-eq e) r)
shape c l (suc m) (a_number d w h r) e = numbered (rw (head-eq_of_cons-eq e) at h) m refl (subst (Run in_number) (tail-eq_of_cons-eq e) r)
shape c l (suc m) (a_sign s w a q) e =
    let f : c ∷ take m l ≡ bytes s = sym e ∙ q in
    signed s a f (ap (λ (v : List ℕ). letter (get_or v 0 0)) f ∙ (sign_plain s a).no_letter) (ap (λ (v : List ℕ). digit (get_or v 0 0)) f ∙ (sign_plain s a).no_digit) (ap (λ (v : List ℕ). blank (get_or v 0 0)) f ∙ (sign_plain s a).no_blank)

pub no_empty-word : IsWord [] → ⊥
no_empty-word (a_sign s w a q) = omega (arith, ap length q, (sign_plain s a).some)

-- a blank begins no word
pub blank_none : (c : ℕ) (l : List ℕ) → blank c ≡ true → (m : ℕ) → ¬ (IsWord (take m (c ∷ l)))
blank_none c l h m x = go (shape c l m x refl)
  where
    go : Shape c l m → ⊥
    go (named i j e r) = omega (arith, blank-low c h, letter-high c i)
    go (numbered i j e r) = omega (arith, blank-low c h, digit-between c i)
    go (signed s a e i d b) = clash (sym h ∙ b)

-- what is taken: the longest word, or nothing where no word begins the text
pub data Takes (l : List ℕ) (n : ℕ) : Type 0 where
  word : 0 < n → Longest l n → Takes l n
  nothing : n ≡ 0 → ((m : ℕ) → ¬ (IsWord (take m l))) → Takes l n

module _ (c : ℕ) (l : List ℕ) where
  name-taken : letter c ≡ true → Takes (c ∷ l) (span in_name (c ∷ l))
  unfolding in_name
  name-taken h =
      rw (span_at in_name name_steady c l (rw h))
      (word (omega arith) record { inside = omega (arith, span_fits in_name l); word = a_name c _ h (run_is in_name name_steady l); most = λ m k x. most m k (shape c l m x refl) })
    where
      most : (m : ℕ) → m ≤ suc (length l) → Shape c l m → m ≤ suc (span in_name l)
      most m k (named i j e r) = omega (arith, run-most in_name name_steady l j (omega arith) r)
      most m k (numbered i j e r) = absurd (not_both c h i)
      most m k (signed s a e i d b) = clash (sym h ∙ i)

  number-taken : digit c ≡ true → Takes (c ∷ l) (span in_number (c ∷ l))
  number-taken h =
      rw (span_at in_number number_steady c l h)
      (word (omega arith) record { inside = omega (arith, span_fits in_number l); word = a_number c _ h (run_is in_number number_steady l); most = λ m k x. most m k (shape c l m x refl) })
    where
      most : (m : ℕ) → m ≤ suc (length l) → Shape c l m → m ≤ suc (span in_number l)
      most m k (named i j e r) = absurd (not_both c i h)
      most m k (numbered i j e r) = omega (arith, run-most in_number number_steady l j (omega arith) r)
      most m k (signed s a e i d b) = clash (sym h ∙ d)

  begun : (s : String) (m : ℕ) → take m (c ∷ l) ≡ bytes s → begins (c ∷ l) (bytes s) ≡ true
  begun s m e = rw (sym e) (begins-take m (c ∷ l))

  sign_is : letter c ≡ false → digit c ≡ false → {o : Option String} → Taken (c ∷ l) signs o → Takes (c ∷ l) (length_of o)
  unfolding length_of
  sign_is h k (Taken.nothing n) = nothing refl (λ m x. none m (shape c l m x refl))
    where
      none : (m : ℕ) → Shape c l m → ⊥
      none m (named i j e r) = clash (sym i ∙ h)
      none m (numbered i j e r) = clash (sym i ∙ k)
      none m (signed s a e i d b) = n s a (begun s m e)
  sign_is h k (longest s a b n) =
      word (sign_plain s a).some record { inside = fits (c ∷ l) (bytes s) b; word = a_sign s _ a (taken (c ∷ l) (bytes s) b); most = λ m g x. most m g (shape c l m x refl) }
    where
      most : (m : ℕ) → m ≤ suc (length l) → Shape c l m → m ≤ length (bytes s)
      most m g (named i j e r) = clash (sym i ∙ h)
      most m g (numbered i j e r) = clash (sym i ∙ k)
      most m g (signed t f e i d u) = omega (arith, n t f (begun t m e), ap length e, length-take-le m (c ∷ l) g)

pub longest_taken : (c : ℕ) (l : List ℕ) → Takes (c ∷ l) (word_length (c ∷ l))
unfolding word_length
longest_taken c l = go (letter c) (digit c) refl refl
  where
    go : (a b : Bool) → letter c ≡ a → digit c ≡ b → Takes (c ∷ l) (cond a (span in_name (c ∷ l)) (cond b (span in_number (c ∷ l)) (length_of (first_of (begins (c ∷ l)) signs))))
    go true b h k = name-taken c l h
    go false true h k = number-taken c l k
    go false false h k = sign_is c l h k (sign-taken (c ∷ l))
