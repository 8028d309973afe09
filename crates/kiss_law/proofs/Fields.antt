-- The prefix law: where a text leaves the texts of a form, field by field.
-- Assumes nothing.
use mathlib.Core.Path.{◌≡◌, refl, sym, ap, ap₂, ◌∙◌, subst}
use mathlib.Core.Logic.{◌⊎◌, inl, inr}
use mathlib.Core.List.{List, [], ◌∷◌, ◌++◌, append_assoc, append-nil, append_cancel_left, head-eq_of_cons-eq, tail-eq_of_cons-eq}
use Prim.Native.Nat.{ℕ, suc, ◌+◌, ◌-◌, ◌≤◌, ◌<◌}
use native.Mathlib.Omega.{arith}
use native.Mathlib.Decide.{dec_lt}
use lib.ListN.{length, take, drop, length-append, take-append-drop}
use lib.Seq.{take-append-add, take_at, take_all, take-take, length-take-le}
use Rattle.kiss_law.specs.Fields.{Form, over, field, Spells, Code, Apart, Begins, Leads, FormStops, FieldStops}

-- ---- a form has a text

pub some-text : (f : Form) → Apart f → (x : List ℕ) × Spells f x
some-text over p = ([], refl)
some-text (field m enc rest) p =
    let r = some-text (rest 0) (p.2 0 p.0) in
    (enc 0 ++ r.0, (0, p.0, r.0, refl, r.1))

-- ---- from field to field

pub leads-start : (f : Form) → Leads f [] f
leads-start f y = ((λ s. s), (λ s. s))

pub leads_on : (f : Form) (s : List ℕ) (m : ℕ) (enc : ℕ → List ℕ) (rest : ℕ → Form) → Code m enc → Leads f s (field m enc rest) → (a : ℕ) → a < m → Leads f (s ++ enc a) (rest a)
leads_on f s m enc rest code l a h y = (there, back)
  where
    there : Spells f ((s ++ enc a) ++ y) → Spells (rest a) y
    there t =
        let q = (l (enc a ++ y)).0 (subst (Spells f) (append_assoc s (enc a) y) t) in
        let e : a ≡ q.0 = code a q.0 h q.1 y q.2 q.3 in
        let z : enc a ++ y ≡ enc a ++ q.2 = q.3 ∙ ap (λ (b : ℕ). enc b ++ q.2) (sym e) in
        let w : Spells (rest a) q.2 = subst (λ (b : ℕ). Spells (rest b) q.2) (sym e) q.4 in
        subst (Spells (rest a)) (sym (append_cancel_left (enc a) y q.2 z)) w

    back : Spells (rest a) y → Spells f ((s ++ enc a) ++ y)
    back t = subst (Spells f) (sym (append_assoc s (enc a) y)) ((l (enc a ++ y)).1 (a, h, y, refl, t))

-- ---- where a text stops

-- two texts that begin one: one of them begins the other
pub either : (l m y z : List ℕ) → l ++ y ≡ m ++ z → ((w : List ℕ) × (m ≡ l ++ w)) ⊎ ((w : List ℕ) × (l ≡ m ++ w) × (1 ≤ length w))
either [] m y z e = inl (m, refl)
either (a ∷ l) [] y z e = inr (a ∷ l, refl, omega arith)
either (a ∷ l) (b ∷ m) y z e = on (head-eq_of_cons-eq e) (either l m y z (tail-eq_of_cons-eq e))
  where
    on : a ≡ b → ((w : List ℕ) × (m ≡ l ++ w)) ⊎ ((w : List ℕ) × (l ≡ m ++ w) × (1 ≤ length w)) → ((w : List ℕ) × (b ∷ m ≡ (a ∷ l) ++ w)) ⊎ ((w : List ℕ) × (a ∷ l ≡ (b ∷ m) ++ w) × (1 ≤ length w))
    on h (inl r) = inl (r.0, ap₂ (λ (x : ℕ) (t : List ℕ). x ∷ t) (sym h) r.1)
    on h (inr r) = inr (r.0, ap₂ (λ (x : ℕ) (t : List ℕ). x ∷ t) h r.1, r.2)

-- a text of the field begins another, which is longer: not in a code
never_longer : (m : ℕ) (enc : ℕ → List ℕ) → Code m enc → (a b : ℕ) → a < m → b < m → (w : List ℕ) → enc b ≡ enc a ++ w → 1 ≤ length w → ⊥
never_longer m enc code a b ha hb w e h =
    let s : a ≡ b = code a b ha hb w [] (sym e ∙ sym (append-nil (enc b))) in
    let l = ap length (ap enc s ∙ e) ∙ length-append (enc a) w in
    omega arith

module _ (m : ℕ) (enc : ℕ → List ℕ) (code : Code m enc) (y : List ℕ) (e : ℕ) (p : FieldStops m enc y e) where
  -- no text of the field begins what was read so far
  not_within : (a : ℕ) → a < m → (w : List ℕ) → take e y ≡ enc a ++ w → ⊥
  not_within a h w q =
      never_longer m enc code a p.near h p.one (w ++ p.more)
      (p.begins ∙ ap (λ (t : List ℕ). t ++ p.more) q ∙ append_assoc (enc a) w p.more)
      (omega (arith, length-append w p.more, p.short))

  -- nor the byte behind it
  not_past : e < length y → (a : ℕ) → a < m → (r z : List ℕ) → take (suc e) y ++ r ≡ enc a ++ z → ⊥
  not_past b a h r z q = at (either (take (suc e) y) (enc a) r z q)
    where
      at : ((w : List ℕ) × (enc a ≡ take (suc e) y ++ w)) ⊎ ((w : List ℕ) × (take (suc e) y ≡ enc a ++ w) × (1 ≤ length w)) → ⊥
      at (inl t) = p.first b a h t.0 t.1
      at (inr t) =
          let l : suc e ≡ length (enc a) + length t.0 = sym (length-take-le (suc e) y b) ∙ ap length t.1 ∙ length-append (enc a) t.0 in
          let d : e ≡ length (enc a) + (length t.0 - 1) = omega (arith, t.2) in
          not_within a h (take (length t.0 - 1) t.0)
          (sym (take-take e (suc e) y (omega arith)) ∙ ap (take e) t.1 ∙ ap (λ (x : ℕ). take x (enc a ++ t.0)) d ∙ take-append-add (enc a) t.0 (length t.0 - 1))

  pub stops-field : (f : Form) (s : List ℕ) (rest : ℕ → Form) → Apart (field m enc rest) → Leads f s (field m enc rest) → FormStops f (s ++ y) (length s + e)
  stops-field f s rest apart leads = record {
    other = other;
    inside = omega (arith, length-append s y, p.inside);
    before = before;
    first = first;
  }
    where
      before : Begins f (take (length s + e) (s ++ y))
      before =
          let t = some-text (rest p.near) (apart.2 p.near p.one) in
          let q = (leads (enc p.near ++ t.0)).1 (p.near, p.one, t.0, refl, t.1) in (
            p.more ++ t.0,
            subst (Spells f) (
                ap (λ (x : List ℕ). s ++ (x ++ t.0)) p.begins
                ∙ ap (λ (x : List ℕ). s ++ x) (append_assoc (take e y) p.more t.0)
                ∙ sym (append_assoc s (take e y) (p.more ++ t.0))
                ∙ ap (λ (x : List ℕ). x ++ (p.more ++ t.0)) (sym (take-append-add s y e))
                ) q,
          )

      first : length s + e < length (s ++ y) → ¬ Begins f (take (suc (length s + e)) (s ++ y))
      first b t =
          let l : e < length y = omega (arith, length-append s y) in
          let n : suc (length s + e) ≡ length s + suc e = omega arith in
          let u : take (suc (length s + e)) (s ++ y) ++ t.0 ≡ s ++ (take (suc e) y ++ t.0) =
          ap (λ (x : ℕ). take x (s ++ y) ++ t.0) n ∙ ap (λ (x : List ℕ). x ++ t.0) (take-append-add s y (suc e)) ∙ append_assoc s (take (suc e) y) t.0 in
          let q = (leads (take (suc e) y ++ t.0)).0 (subst (Spells f) u t.1) in
          not_past l q.0 q.1 t.0 q.2 q.3

      other : ¬ Spells f (s ++ y)
      other t = at (dec_lt e (length y)) ((leads y).0 t)
        where
          at : Dec (e < length y) → Spells (field m enc rest) y → ⊥
          at (yes l) q = not_past l q.0 q.1 (drop (suc e) y) q.2 (take-append-drop (suc e) y ∙ q.3)
          at (no l) q = not_within q.0 q.1 q.2 (take_all e y (omega arith) ∙ q.3)

-- bytes behind the end
pub stops_over : (f : Form) (s y : List ℕ) → Leads f s over → 1 ≤ length y → FormStops f (s ++ y) (length s)
stops_over f s y leads h = record {
  other = λ t. let l = ap length ((leads y).0 t) in omega arith;
  inside = omega (arith, length-append s y);
  before = ([], subst (λ (x : List ℕ). Spells f (x ++ [])) (sym (take_at s y (length s) refl)) ((leads []).1 refl));
  first = λ b t.
      let n : suc (length s) ≡ length s + 1 = omega arith in
      let u : take (suc (length s)) (s ++ y) ++ t.0 ≡ s ++ (take 1 y ++ t.0) =
      ap (λ (x : ℕ). take x (s ++ y) ++ t.0) n ∙ ap (λ (x : List ℕ). x ++ t.0) (take-append-add s y 1) ∙ append_assoc s (take 1 y) t.0 in
      let l = ap length ((leads (take 1 y ++ t.0)).0 (subst (Spells f) u t.1)) in
      omega (arith, length-append (take 1 y) t.0, length-take-le 1 y h);
}
