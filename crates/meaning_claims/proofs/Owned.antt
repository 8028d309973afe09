-- Different names own different bits: what two names stand for shares no input and no bit of the value word.
-- Assumes nothing.
use mathlib.Core.Path.{◌≡◌, refl, sym, ◌∙◌, ap₂}
use mathlib.Core.Bool.{Bool, true, false, cond}
use mathlib.Core.Logic.{◌⊎◌, inl, inr}
use mathlib.Core.List.{List, [], ◌∷◌}
use mathlib.Core.Option.{none, some}
use Prim.Native.Nat.{ℕ, ◌+◌, ◌≤◌, ◌<◌}
use native.Mathlib.Nat.{le_refl}
use native.Mathlib.Omega.{arith}
use lib.Dec.{eqb}
use borrow.Author.Tests.{eqb-true, eq-eqb}
use Rattle.meaning.specs.Numbers.{Variable, input, boolean, integer}
use Rattle.meaning.specs.Declared.{Declaration, inputs, outputs, internals, integers, name_of, same_bytes, one, output_count, an_output, other_bits, stands_for, look_from, look_up}

-- no bit is in both; an input is none of the word's
abbrev pub Parted : Variable → Variable → Type 0
Parted (input i) (input j) = i ≡ j → ⊥
Parted (input i) (boolean j) = Unit {0}
Parted (input i) (integer l w) = Unit {0}
Parted (boolean i) (input j) = Unit {0}
Parted (boolean i) (boolean j) = i ≡ j → ⊥
Parted (boolean i) (integer l w) = (i < l) ⊎ (l + w ≤ i)
Parted (integer k v) (input j) = Unit {0}
Parted (integer k v) (boolean j) = (j < k) ⊎ (k + v ≤ j)
Parted (integer k v) (integer l w) = (k + v ≤ l) ⊎ (l + w ≤ k)

-- it lies where declarations find it that follow i inputs, o outputs and b bits, of k outputs in all
abbrev Later : ℕ → ℕ → ℕ → ℕ → Variable → Type 0
Later k i o b (input j) = i ≤ j
Later k i o b (boolean j) = ((o ≤ j) × (j < k)) ⊎ (b ≤ j)
Later k i o b (integer l w) = b ≤ l

later_on : (k i o b p q r : ℕ) (v : Variable) → i ≤ p → o ≤ q → b ≤ r → Later k p q r v → Later k i o b v
later_on k i o b p q r (input j) h f g x = omega arith
later_on k i o b p q r (boolean j) h f g (inl x) = inl (omega arith, x.1)
later_on k i o b p q r (boolean j) h f g (inr x) = inr (omega arith)
later_on k i o b p q r (integer l w) h f g x = omega arith

stands-later : (k : ℕ) (d : Declaration) (i o b : ℕ) → o + an_output d ≤ k → Later k i o b (stands_for d i o b)
stands-later k (inputs n e) i o b h = le_refl i
stands-later k (outputs n e v) i o b h = inl (le_refl o, omega arith)
stands-later k (internals n e v) i o b h = inr (le_refl b)
stands-later k (integers n p w v) i o b h = le_refl b

some_same : (u v : Variable) → some u ≡ some v → u ≡ v
some_same u v e = cc

none-some : {A : Type 0} (v : Variable) → none ≡ some v → A
none-some v e = let z : ◌≡◌ {A = ℕ} 0 1 = cc in absurd (omega arith)

found-later : (k : ℕ) (ds : List Declaration) (x : List ℕ) (i o b : ℕ) (v : Variable) → o + output_count ds ≤ k → look_from ds x i o b ≡ some v → Later k i o b v
unfolding output_count look_from
found-later k [] x i o b v h e = none-some v e
found-later k (d ∷ ds) x i o b v h e =
    go (same_bytes (name_of d).bytes x) (λ p. later_on k i o b _ _ _ v (omega arith) (omega arith) (omega arith) (found-later k ds x (one d + i) (an_output d + o) (other_bits d + b) v (omega arith) p)) e
  where
    go : (t : Bool) → (look_from ds x (one d + i) (an_output d + o) (other_bits d + b) ≡ some v → Later k i o b v)
        → cond t (some (stands_for d i o b)) (look_from ds x (one d + i) (an_output d + o) (other_bits d + b)) ≡ some v → Later k i o b v
    go true on e = rw (← some_same (stands_for d i o b) v e) (stands-later k d i o b (omega arith))
    go false on e = on e

-- a declaration's own, and what is found behind it
first-parted : (k : ℕ) (d : Declaration) (i o b : ℕ) (v : Variable) → o + an_output d ≤ k → k ≤ b → Later k (one d + i) (an_output d + o) (other_bits d + b) v → Parted (stands_for d i o b) v
first-parted k (inputs n e) i o b (input j) h g x = λ p. omega arith
first-parted k (inputs n e) i o b (boolean j) h g x = tt
first-parted k (inputs n e) i o b (integer l w) h g x = tt
first-parted k (outputs n e s) i o b (input j) h g x = tt
first-parted k (outputs n e s) i o b (boolean j) h g (inl x) = λ p. omega arith
first-parted k (outputs n e s) i o b (boolean j) h g (inr x) = λ p. omega arith
first-parted k (outputs n e s) i o b (integer l w) h g x = inl (omega arith)
first-parted k (internals n e s) i o b (input j) h g x = tt
first-parted k (internals n e s) i o b (boolean j) h g (inl x) = λ p. omega arith
first-parted k (internals n e s) i o b (boolean j) h g (inr x) = λ p. omega arith
first-parted k (internals n e s) i o b (integer l w) h g x = inl (omega arith)
first-parted k (integers n p w s) i o b (input j) h g x = tt
first-parted k (integers n p w s) i o b (boolean j) h g (inl x) = inl (omega arith)
first-parted k (integers n p w s) i o b (boolean j) h g (inr x) = inr (omega arith)
first-parted k (integers n p w s) i o b (integer l v) h g x = inl (omega arith)

either_way : (u v : Variable) → Parted u v → Parted v u
either_way (input i) (input j) p = λ e. p (sym e)
either_way (input i) (boolean j) p = tt
either_way (input i) (integer l w) p = tt
either_way (boolean i) (input j) p = tt
either_way (boolean i) (boolean j) p = λ e. p (sym e)
either_way (boolean i) (integer l w) p = p
either_way (integer k v) (input j) p = tt
either_way (integer k v) (boolean j) p = p
either_way (integer k v) (integer l w) (inl p) = inr p
either_way (integer k v) (integer l w) (inr p) = inl p

-- the first declaration that has a name tells the two apart, or neither is its name
module _ (x y : List ℕ) (differ : (z : List ℕ) → same_bytes z x ≡ true → same_bytes z y ≡ true → ⊥) where
  from_parted : (k : ℕ) (ds : List Declaration) (i o b : ℕ) (u v : Variable) → o + output_count ds ≤ k → k ≤ b → look_from ds x i o b ≡ some u → look_from ds y i o b ≡ some v → Parted u v
  unfolding output_count look_from
  from_parted k [] i o b u v h g p q = none-some u p
  from_parted k (d ∷ ds) i o b u v h g p q =
      go (same_bytes (name_of d).bytes x) (same_bytes (name_of d).bytes y) refl refl (from_parted k ds (one d + i) (an_output d + o) (other_bits d + b) u v (omega arith) (omega arith)) p q
    where
      go : (s t : Bool) → same_bytes (name_of d).bytes x ≡ s → same_bytes (name_of d).bytes y ≡ t
          → (look_from ds x (one d + i) (an_output d + o) (other_bits d + b) ≡ some u → look_from ds y (one d + i) (an_output d + o) (other_bits d + b) ≡ some v → Parted u v)
          → cond s (some (stands_for d i o b)) (look_from ds x (one d + i) (an_output d + o) (other_bits d + b)) ≡ some u → cond t (some (stands_for d i o b)) (look_from ds y (one d + i) (an_output d + o) (other_bits d + b)) ≡ some v → Parted u v
      go true true m n on p q = absurd (differ (name_of d).bytes m n)
      go true false m n on p q = rw (← some_same (stands_for d i o b) u p) (first-parted k d i o b v (omega arith) g (found-later k ds y (one d + i) (an_output d + o) (other_bits d + b) v (omega arith) q))
      go false true m n on p q = rw (← some_same (stands_for d i o b) v q) (either_way (stands_for d i o b) u (first-parted k d i o b u (omega arith) g (found-later k ds x (one d + i) (an_output d + o) (other_bits d + b) u (omega arith) p)))
      go false false m n on p q = on p q

-- ---- names are the same exactly if all their bytes are

clash : {A : Type 0} → false ≡ true → A
clash e = let z : ◌≡◌ {A = ℕ} 0 1 = cc in absurd (omega arith)

pub same_bytes_lem : (s t : List ℕ) → same_bytes s t ≡ true → s ≡ t
unfolding same_bytes
same_bytes_lem [] [] e = refl
same_bytes_lem [] (y ∷ t) e = clash e
same_bytes_lem (x ∷ s) [] e = clash e
same_bytes_lem (x ∷ s) (y ∷ t) e = go (eqb x y) refl (same_bytes_lem s t) e
  where
    go : (b : Bool) → eqb x y ≡ b → (same_bytes s t ≡ true → s ≡ t) → cond b (same_bytes s t) false ≡ true → x ∷ s ≡ y ∷ t
    go true p on e = ap₂ (λ (a : ℕ) (l : List ℕ). a ∷ l) (eqb-true x y p) (on e)
    go false p on e = clash e

pub bytes_same : (s : List ℕ) → same_bytes s s ≡ true
unfolding same_bytes
bytes_same [] = refl
bytes_same (x ∷ s) = rw (eq-eqb x x refl, bytes_same s)

-- ---- so two names share nothing

pub names-parted : (ds : List Declaration) (x y : List ℕ) (u v : Variable) → (x ≡ y → ⊥) → look_up ds x ≡ some u → look_up ds y ≡ some v → Parted u v
unfolding look_up
names-parted ds x y u v differ p q =
    from_parted x y (λ z m n. differ (sym (same_bytes_lem z x m) ∙ same_bytes_lem z y n)) (output_count ds) ds 0 0 (output_count ds) u v (omega arith) (le_refl (output_count ds)) p q
