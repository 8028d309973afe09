-- What `all` and `find` over a range answer, in the words of the table file: `every` and `first_not`.
-- Assumes nothing.
use Rattle.std.proofs.Common.{Bor, ◌≡◌, ℕ, ◌+◌, ◌<◌, Bool, true, false, List, length, get_or, Option, None, Some, not, IfSome, MatchOption, zero-add, refl, sym, subst, ap, ◌∙◌, arith}
use native.Mathlib.Decide.{dec_lt}
use Rattle.std.proofs.lemmas.Iterator.{YieldsList, cases_from_all, first_from_find}
use Rattle.std.proofs.lemmas.List.FromFn.{length-range_with_len, get_or-range_with_len}
use Rattle.std.specs.Iterator.{ChecksAll, FindsItem}
use Rattle.std.specs.Option.{unwrap_or}
use Rattle.std.specs.Bool.{MatchBool}
use Rattle.std.specs.Fn.{Mut, Called, CalledAt}
use Rattle.std.specs.List.{range_with_len, AllWithin, HoldsAt}
use Rattle.file_law.specs.Answer.{every, first_not}
use Rattle.file_law.proofs.Every.{every_at, every-all, true-false, first_fails, first-bound, first_is}

module _ (p : ℕ → Bool) (n i : ℕ) where
  abbrev all : List ℕ
  all = range_with_len i n

  at : (j : ℕ) → j < n → get_or all j 0 ≡ i + j
  at j h = get_or-range_with_len i n j 0 h

  one_fails : (j : ℕ) → j < n → p (i + j) ≡ false → every p n i ≡ false
  one_fails j h e = by_test (every p n i) refl
    where
      by_test : (b : Bool) → every p n i ≡ b → every p n i ≡ false
      by_test true t = absurd (true-false (every_at p n i t j h) e)
      by_test false t = t

  decided : (r : Bool) → MatchBool r (AllWithin (λ x. p x ≡ true) all 0 (length all)) ((k : ℕ) × (k < length all) × HoldsAt (λ x. p x ≡ false) all k) → r ≡ every p n i
  decided true h = sym (every-all p n i (λ j b. subst (λ x. p x ≡ true) (at j b) (h j 0 (omega arith) (omega (arith, length-range_with_len i n)))))
  decided false h = let b : h.0 < n = omega (arith, h.1, length-range_with_len i n) in sym (one_fails h.0 b (subst (λ x. p x ≡ false) (at h.0 b) (h.2 0)))

pub every_from_all : {S F : Type 0} {steps : S → Option ℕ → S → Type 0} {g : Mut F (ℕ × Unit {0}) Bool} {s : S} (u : S) (f : F) (r : Bool) (n i : ℕ) (p : ℕ → Bool)
    → ChecksAll steps g s f r u → YieldsList steps (λ x. x) s (range_with_len i n)
    → ((x : ℕ) (b : Bool) (q : F) → Called g f (x, tt) b q → (q ≡ f) × (b ≡ p x)) → r ≡ every p n i
every_from_all u f r n i p ran list says =
    decided p n i r
    (cases_from_all u f r (λ x. p x ≡ true) (λ x. p x ≡ false) ran list
    (λ x q h. let k = says x true q h in (k.0, sym k.1))
    (λ x q h. sym (says x false q h).1))

module _ (n : ℕ) (p : ℕ → Bool) where
  none : ((j : ℕ) → j < n → p j ≡ true) → n ≡ first_not p n 0
  none h = by_test (dec_lt (first_not p n 0) n)
    where
      by_test : Dec (first_not p n 0 < n) → n ≡ first_not p n 0
      by_test (yes l) = absurd (true-false (h (first_not p n 0) l) (first_fails p n 0 (omega arith)))
      by_test (no l) = omega (arith, first-bound p n 0)

  found : (r : Option ℕ) → MatchOption r (AllWithin (λ x. p x ≡ true) (all p n 0) 0 (length (all p n 0))) (λ x. (p x ≡ false) × (i : ℕ) × (i < length (all p n 0)) × HoldsAt (λ y. y ≡ x) (all p n 0) i × AllWithin (λ x. p x ≡ true) (all p n 0) 0 i)
      → (unwrap_or r n ≡ first_not p n 0) × IfSome r (λ x. x < n)
  found None h = (none (λ j b. subst (λ x. p x ≡ true) (at p n 0 j b ∙ zero-add j) (h j 0 (omega arith) (omega (arith, length-range_with_len 0 n)))), tt)
  found (Some x) h =
      let b : h.1 < n = omega (arith, h.2, length-range_with_len 0 n) in
      let e : x ≡ h.1 = sym (h.3 0) ∙ at p n 0 h.1 b ∙ zero-add h.1 in
      (e ∙ sym (first_is p n h.1 b (λ m l. subst (λ x. p x ≡ true) (at p n 0 m (omega arith) ∙ zero-add m) (h.4 m 0 (omega arith) l)) (subst (λ x. p x ≡ false) e h.0)), omega arith)

was : (t b : Bool) → b ≡ not t → t ≡ not b
was true b e = ap not (sym e)
was false b e = ap not (sym e)

pub first_from_calls : {S F : Type 0} {steps : S → Option ℕ → S → Type 0} {g : Mut F (Bor ℕ × Unit {0}) Bool} {s : S} (u : S) (f : F) (n : ℕ) (p : ℕ → Bool) (r : Option ℕ)
    → FindsItem steps g s f r u → YieldsList steps (λ x. x) s (range_with_len 0 n)
    → ((x : ℕ) (b : Bool) (q : F) → CalledAt g f x b q → (q ≡ f) × (b ≡ not (p x))) → (unwrap_or r n ≡ first_not p n 0) × IfSome r (λ x. x < n)
first_from_calls u f n p r ran list says =
    found n p r
    (first_from_find u f r (λ x. p x ≡ false) (λ x. p x ≡ true) ran list
    (λ x q h. was (p x) true (says x true q h).1)
    (λ x q h. let k = says x false q h in (k.0, was (p x) false k.1)))
