-- What is counted of declarations, and the least place of refusal 9 among them.
-- Assumes nothing.
use mathlib.Core.Bool.{Bool, true, false, cond, not as opposite}
use mathlib.Core.Path.{◌≡◌, refl, sym, ◌∙◌, ap}
use mathlib.Core.List.{List, [], ◌∷◌, ◌++◌}
use Prim.Native.Nat.{ℕ, zero, suc, ◌+◌, ◌-◌, ◌≤◌}
use native.Mathlib.Omega.{arith}
use lib.Dec.{ltb, leb}
use lib.ListN.{length, drop}
use borrow.Author.Tests.{lt-ltb, le-ltb, ltb-true, ltb-false, leb-true, leb-false}
use Rattle.meaning.specs.Declared.{Declaration, inputs, outputs, internals, integers, name_of, one, input_count, an_output, output_count}
use Rattle.meaning.specs.Names.{gather, when}
use Rattle.meaning.specs.Sizes.{most_bits, most_width, input_places, output_places, bits_of, bits_from, width_fault}
use Rattle.meaning.specs.Faults.{least}
use Rattle.file_law.specs.Table.{most_inputs, most_outputs}
use Rattle.names.specs.declared.Marks.{Marks}
use Rattle.names.specs.Enter.{cap, tag_of, width_place, crowded, bad_width, sizes_at, put, enter, enter_all, start_marks}
use Rattle.decls_law.proofs.Least.{four, four-push, four-all}

-- ---- counts

module _ (s : List ℕ) where
  input-one : (d : Declaration) (m : Marks) (t : List ℕ) → m.inputs ≤ 255 → (enter s d m t).marks.inputs ≡ cap (m.inputs + one d)
  unfolding put
  input-one (inputs n e) m t h = refl
  input-one (outputs n e b) m t h = omega arith
  input-one (internals n e b) m t h = omega arith
  input-one (integers n p w v) m t h = omega arith

  output_one : (d : Declaration) (m : Marks) (t : List ℕ) → m.outputs ≤ 255 → (enter s d m t).marks.outputs ≡ cap (m.outputs + an_output d)
  unfolding put
  output_one (inputs n e) m t h = omega arith
  output_one (outputs n e b) m t h = refl
  output_one (internals n e b) m t h = omega arith
  output_one (integers n p w v) m t h = omega arith

  pub inputs-all : (ds : List Declaration) (m : Marks) (t : List ℕ) → m.inputs ≤ 255 → (enter_all s ds m t).marks.inputs ≡ cap (m.inputs + input_count ds)
  unfolding enter_all input_count
  inputs-all [] m t h = omega arith
  inputs-all (d ∷ ds) m t h =
      let e = input-one d m t h in
      let i = inputs-all ds (enter s d m t).marks (enter s d m t).bytes (omega (arith, e)) in
      omega (arith, e, i)

  pub outputs-all : (ds : List Declaration) (m : Marks) (t : List ℕ) → m.outputs ≤ 255 → (enter_all s ds m t).marks.outputs ≡ cap (m.outputs + output_count ds)
  unfolding enter_all output_count
  outputs-all [] m t h = omega arith
  outputs-all (d ∷ ds) m t h =
      let e = output_one d m t h in
      let i = outputs-all ds (enter s d m t).marks (enter s d m t).bytes (omega (arith, e)) in
      omega (arith, e, i)

  names-one : (d : Declaration) (m : Marks) (t : List ℕ) → (enter s d m t).marks.names ≡ m.names + 1
  unfolding put
  names-one d m t = refl

  pub names-all : (ds : List Declaration) (m : Marks) (t : List ℕ) → (enter_all s ds m t).marks.names ≡ m.names + length ds
  unfolding enter_all
  names-all [] m t = omega arith
  names-all (d ∷ ds) m t =
      let e = names-one d m t in
      let i = names-all ds (enter s d m t).marks (enter s d m t).bytes in
      omega (arith, e, i)

  bits-one : (d : Declaration) (m : Marks) (t : List ℕ) → (enter s d m t).marks.bits ≡ cap (m.bits + bits_of d)
  unfolding put
  bits-one d m t = refl

-- ---- refusal 9

bits-same : (ds : List Declaration) (a b : ℕ) → cap a ≡ cap b → bits_from a ds ≡ bits_from b ds
unfolding bits_from
bits-same [] a b e = refl
bits-same (d ∷ ds) a b e =
    let t : ltb most_bits (a + bits_of d) ≡ ltb most_bits (b + bits_of d) = go (ltb most_bits (b + bits_of d)) refl in
    rw (t, bits-same ds (a + bits_of d) (b + bits_of d) (omega (arith, e))) refl
  where
    go : (t : Bool) → ltb most_bits (b + bits_of d) ≡ t → ltb most_bits (a + bits_of d) ≡ t
    go true q = let h = ltb-true most_bits (b + bits_of d) q in lt-ltb most_bits (a + bits_of d) (omega (arith, h, e))
    go false q = let h = ltb-false most_bits (b + bits_of d) q in le-ltb most_bits (a + bits_of d) (omega (arith, h, e))

drop-when : (n i p : ℕ) (l : List ℕ) → drop (n - i) (p ∷ l) ≡ when (leb n i) p ++ drop (n - (i + 1)) l
drop-when n i p l = go (leb n i) refl (n - i) refl (n - (i + 1)) refl
  where
    go : (t : Bool) → leb n i ≡ t → (a : ℕ) → n - i ≡ a → (b : ℕ) → n - (i + 1) ≡ b → drop a (p ∷ l) ≡ when t p ++ drop b l
    go true q zero e zero f = refl
    go true q zero e (suc b) f = absurd (omega arith)
    go true q (suc a) e b f = absurd (let h = leb-true n i q in omega (arith, h))
    go false q zero e b f = absurd (let h = leb-false n i q in omega (arith, h))
    go false q (suc a) e b f = let h : a ≡ b = omega arith in ap (λ (k : ℕ). drop k l) h

-- the places that are left, with so many inputs, outputs and bits before them
abbrev nine_of : ℕ → List Declaration → ℕ → ℕ → ℕ → ℕ
nine_of x ds i o b = four x (drop (most_inputs - i) (gather input_places ds)) (drop (most_outputs - o) (gather output_places ds)) (bits_from b ds) (gather width_fault ds)

nine-same : (x : ℕ) (ds : List Declaration) (i j o q b c : ℕ) → cap i ≡ cap j → cap o ≡ cap q → cap b ≡ cap c → nine_of x ds i o b ≡ nine_of x ds j q c
nine-same x ds i j o q b c e f g =
    let h : most_inputs - i ≡ most_inputs - j = omega (arith, e) in
    let k : most_outputs - o ≡ most_outputs - q = omega (arith, f) in
    rw (h, k, bits-same ds b c g) refl

nine-step : (d : Declaration) (ds : List Declaration) (m : Marks)
    → nine_of m.nine (d ∷ ds) m.inputs m.outputs m.bits
    ≡ nine_of (sizes_at (tag_of d) (name_of d).place (bits_of d) (width_place d) m) ds (m.inputs + one d) (m.outputs + an_output d) (m.bits + bits_of d)
unfolding gather bits_from sizes_at crowded bad_width
nine-step (inputs n e) ds m =
    let z : most_outputs - m.outputs ≡ most_outputs - (m.outputs + 0) = omega arith in
    ap (λ (a : List ℕ). four m.nine a (drop (most_outputs - m.outputs) (gather output_places ds)) (when (ltb most_bits (m.bits + 0)) n.place ++ bits_from (m.bits + 0) ds) (gather width_fault ds)) (drop-when most_inputs m.inputs n.place (gather input_places ds))
    ∙ four-push m.nine n.place 0 (leb most_inputs m.inputs) false (ltb most_bits (m.bits + 0)) false (drop (most_inputs - (m.inputs + 1)) (gather input_places ds)) (drop (most_outputs - m.outputs) (gather output_places ds)) (bits_from (m.bits + 0) ds) (gather width_fault ds)
    ∙ rw z refl
nine-step (outputs n e b) ds m =
    let z : most_inputs - m.inputs ≡ most_inputs - (m.inputs + 0) = omega arith in
    ap (λ (a : List ℕ). four m.nine (drop (most_inputs - m.inputs) (gather input_places ds)) a (when (ltb most_bits (m.bits + 1)) n.place ++ bits_from (m.bits + 1) ds) (gather width_fault ds)) (drop-when most_outputs m.outputs n.place (gather output_places ds))
    ∙ four-push m.nine n.place 0 false (leb most_outputs m.outputs) (ltb most_bits (m.bits + 1)) false (drop (most_inputs - m.inputs) (gather input_places ds)) (drop (most_outputs - (m.outputs + 1)) (gather output_places ds)) (bits_from (m.bits + 1) ds) (gather width_fault ds)
    ∙ rw z refl
nine-step (internals n e b) ds m =
    let y : most_inputs - m.inputs ≡ most_inputs - (m.inputs + 0) = omega arith in
    let z : most_outputs - m.outputs ≡ most_outputs - (m.outputs + 0) = omega arith in
    four-push m.nine n.place 0 false false (ltb most_bits (m.bits + 1)) false (drop (most_inputs - m.inputs) (gather input_places ds)) (drop (most_outputs - m.outputs) (gather output_places ds)) (bits_from (m.bits + 1) ds) (gather width_fault ds)
    ∙ rw (y, z) refl
nine-step (integers n p w v) ds m =
    let y : most_inputs - m.inputs ≡ most_inputs - (m.inputs + 0) = omega arith in
    let z : most_outputs - m.outputs ≡ most_outputs - (m.outputs + 0) = omega arith in
    four-push m.nine n.place p false false (ltb most_bits (m.bits + w)) (opposite (cond (leb 1 w) (leb w most_width) false)) (drop (most_inputs - m.inputs) (gather input_places ds)) (drop (most_outputs - m.outputs) (gather output_places ds)) (bits_from (m.bits + w) ds) (gather width_fault ds)
    ∙ rw (y, z) refl

module _ (s : List ℕ) where
  nine-one : (d : Declaration) (m : Marks) (t : List ℕ) → (enter s d m t).marks.nine ≡ sizes_at (tag_of d) (name_of d).place (bits_of d) (width_place d) m
  unfolding put
  nine-one d m t = refl

  nine_from : (ds : List Declaration) (m : Marks) (t : List ℕ) → m.inputs ≤ 255 → m.outputs ≤ 255 → (enter_all s ds m t).marks.nine ≡ nine_of m.nine ds m.inputs m.outputs m.bits
  unfolding enter_all gather bits_from least
  nine_from [] m t h g = go (most_inputs - m.inputs) (most_outputs - m.outputs)
    where
      go : (i o : ℕ) → m.nine ≡ four m.nine (drop i []) (drop o []) [] []
      go zero zero = refl
      go zero (suc o) = refl
      go (suc i) zero = refl
      go (suc i) (suc o) = refl
  nine_from (d ∷ ds) m t h g =
      let n = (enter s d m t).marks in
      let e = input-one s d m t h in
      let f = output_one s d m t g in
      nine_from ds n (enter s d m t).bytes (omega (arith, e)) (omega (arith, f))
      ∙ nine-same n.nine ds n.inputs (m.inputs + one d) n.outputs (m.outputs + an_output d) n.bits (m.bits + bits_of d) (omega (arith, e)) (omega (arith, f)) (omega (arith, bits-one s d m t))
      ∙ ap (λ (x : ℕ). nine_of x ds (m.inputs + one d) (m.outputs + an_output d) (m.bits + bits_of d)) (nine-one d m t)
      ∙ sym (nine-step d ds m)

  -- the first four lists of the definition's `size_faults`
  pub nine_is : (ds : List Declaration) (low : ℕ) (t : List ℕ)
      → (enter_all s ds (start_marks low) t).marks.nine ≡ least 65535 (drop most_inputs (gather input_places ds) ++ (drop most_outputs (gather output_places ds) ++ (bits_from 0 ds ++ gather width_fault ds)))
  unfolding start_marks
  nine_is ds low t =
      nine_from ds (start_marks low) t (omega arith) (omega arith)
      ∙ four-all 65535 (drop most_inputs (gather input_places ds)) (drop most_outputs (gather output_places ds)) (bits_from 0 ds) (gather width_fault ds)
