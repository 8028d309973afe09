-- A list made of parts of one length, one part for each element of another list: its length, where part i stands, and when it lists a function.
-- Assumes nothing.
use mathlib.Core.Path.{◌≡◌, sym, ap, ap₂, ◌∙◌}
use Prim.Native.Nat.{ℕ, zero, suc, ◌+◌, ◌*◌, ◌<◌}
use native.Mathlib.Omega.{arith}
use native.Mathlib.Nat.{suc-mul}
use mathlib.Core.List.{List, [], ◌∷◌, ◌++◌}
use lib.ListN.{length, get_or, drop, length-append}
use lib.Seq.{drop-append-add}
use Rattle.file_law.specs.Answer.{listed}
use Rattle.file_law.proofs.Listed.{listed-append}

module _ {A : Type 0} (part : A → List ℕ) (w : ℕ) (join : List A → List ℕ) (none : join [] ≡ []) (more : (a : A) (s : List A) → join (a ∷ s) ≡ part a ++ join s) where
  pub length-joined : (d : A) (s : List A) → ((i : ℕ) → i < length s → length (part (get_or s i d)) ≡ w) → length (join s) ≡ length s * w
  length-joined d [] h = ap length none ∙ omega arith
  length-joined d (a ∷ s) h =
      let p = h 0 (omega arith) in
      ap length (more a s) ∙ length-append (part a) (join s)
      ∙ omega (arith, suc-mul (length s) w, length-joined d s (λ i b. h (suc i) (omega arith)))

  pub part_at : (d : A) (s : List A) → ((i : ℕ) → i < length s → length (part (get_or s i d)) ≡ w)
      → (i : ℕ) → i < length s → (y : List ℕ) × (drop (i * w) (join s) ≡ part (get_or s i d) ++ y)
  part_at d [] h i b = absurd (omega arith)
  part_at d (a ∷ s) h zero b = let e : 0 * w ≡ 0 = omega arith in (join s, ap (λ (k : ℕ). drop k (join (a ∷ s))) e ∙ more a s)
  part_at d (a ∷ s) h (suc i) b =
      let r = part_at d s (λ j l. h (suc j) (omega arith)) i (omega arith) in
      let p = h 0 (omega arith) in
      let e : suc i * w ≡ length (part a) + i * w = omega (arith, suc-mul i w) in
      (r.0, ap₂ (λ (k : ℕ) (x : List ℕ). drop k x) e (more a s) ∙ drop-append-add (part a) (join s) (i * w) ∙ r.1)

  -- parts that list b one after the other: the whole lists b
  pub joined-listed : (b : ℕ → ℕ) (g : ℕ → A) (at : ℕ) → ((i : ℕ) → part (g i) ≡ listed b w (at + i * w))
      → (m i : ℕ) → join (listed g m i) ≡ listed b (m * w) (at + i * w)
  unfolding listed
  joined-listed b g at same zero i = let e : 0 * w ≡ 0 = omega arith in none ∙ ap (λ (x : ℕ). listed b x (at + i * w)) (sym e)
  joined-listed b g at same (suc m) i =
      let e : at + suc i * w ≡ at + i * w + w = omega (arith, suc-mul i w) in
      let l : w + m * w ≡ suc m * w = omega (arith, suc-mul m w) in
      more (g i) (listed g m (suc i))
      ∙ ap₂ ◌++◌ (same i) (joined-listed b g at same m (suc i) ∙ ap (listed b (m * w)) e)
      ∙ sym (listed-append b w (m * w) (at + i * w))
      ∙ ap (λ (x : ℕ). listed b x (at + i * w)) l
