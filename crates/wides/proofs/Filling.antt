-- The activities of a call by the rows of procedures, and the rows filled in one after the other.
-- Assumes nothing.
use mathlib.Core.Bool.{Bool, true, false, cond}
use mathlib.Core.Path.{◌≡◌, refl, sym, ◌∙◌, ap, subst}
use mathlib.Core.List.{List, [], ◌∷◌}
use mathlib.Core.Option.{none, some}
use Prim.Native.Nat.{ℕ, zero, suc, ◌+◌, ◌-◌, ◌*◌, ◌≤◌, ◌<◌}
use native.Mathlib.Omega.{arith}
use native.Mathlib.Decide.{ℕ_discrete}
use native.Mathlib.Numerals.{add-one}
use lib.Dec.{eqb}
use lib.ListN.{length, get_or, set, length-set, length-drop}
use lib.Seq.{get_or-set_same, get_or-set_other}
use borrow.Author.Tests.{eq-eqb, ne_eqb}
use Rattle.meaning.specs.Tree.{Name}
use Rattle.meaning.specs.Declared.{same_bytes}
use Rattle.meaning.specs.Unexpanded.{Term, Procedure}
use Rattle.meaning.specs.Expansion.{same_count, wide_call, wide_all, wides}
use Rattle.language.specs.Words.{Word}
use Rattle.hand.specs.declared.Here.{Here}
use Rattle.hand.specs.Along.{Along, Begins}
use Rattle.wides_law.specs.Wides.{calm, walk}
use Rattle.wides_law.proofs.Walked.{walked}
use Rattle.parts.specs.Beside.{beside}
use Rattle.frames.specs.Layout.{half_at, row_at, procedure_at, wide_at, formals_at, body_from}
use Rattle.frames.specs.Open.{ProcedureAt}
use Rattle.frames.specs.Row.{row_in}
use Rattle.frames.specs.Put.{Puts}
use Rattle.frames_law.specs.Frames.{NamedAt}
use Rattle.frames.proofs.Heads.{word_moves, Head, named, head_of}
use Rattle.frames.proofs.Putting.{put-here, put-past, puts_size, puts_names}
use Rattle.decls_law.specs.Rows.{Placed, Filled, Fills}
use Rattle.decls_law.proofs.Opened.{each-length}
use Rattle.decls_law.proofs.Opened.{placed_stays}
use Rattle.wides.specs.Fill.{wide_by, wide_in, acts, BodyCounted, WideOf, FilledIn, FilledBehind}
use Rattle.wides.proofs.Leading.{none-some}

-- ---- a call by the row that was found

pub call_none : (s z x : List ℕ) (n c : ℕ) → none ≡ row_in s z n x → 1 ≡ wide_in s z n x c
call_none s z x n c e = ap (wide_by s z c) e

module _ (s z x : List ℕ) (n c : ℕ) {r : ℕ} (e : some r ≡ row_in s z n x) where
  by_row : cond (eqb (length (formals_at s (procedure_at z r))) c) (wide_at z r) 1 ≡ wide_in s z n x c
  by_row = ap (wide_by s z c) e

  module _ {p f : ℕ} (at : p ≡ procedure_at z r) (count : f ≡ length (formals_at s p)) where
    counted : length (formals_at s (procedure_at z r)) ≡ f
    counted = sym (count ∙ ap (λ (i : ℕ). length (formals_at s i)) at)

    pub call-other : ¬ (f ≡ c) → 1 ≡ wide_in s z n x c
    call-other i = (let q : 1 ≡ cond (eqb (length (formals_at s (procedure_at z r))) c) (wide_at z r) 1 = rw (counted, ne_eqb f c i) refl in q) ∙ by_row

    pub call-row : {w : ℕ} → f ≡ c → w ≡ wide_at z r → w ≡ wide_in s z n x c
    call-row {w} i v = (let q : w ≡ cond (eqb (length (formals_at s (procedure_at z r))) c) (wide_at z r) 1 = rw (counted, eq-eqb f c i) v in q) ∙ by_row

-- ---- a call by its procedure

suc-same : (a b : ℕ) → eqb (suc a) (suc b) ≡ eqb a b
suc-same a b = go (ℕ_discrete a b)
  where
    go : Dec (a ≡ b) → eqb (suc a) (suc b) ≡ eqb a b
    go (yes e) = eq-eqb (suc a) (suc b) (ap suc e) ∙ sym (eq-eqb a b e)
    go (no h) = ne_eqb (suc a) (suc b) (λ e. h (omega arith)) ∙ sym (ne_eqb a b h)

count_same : (ns : List Name) (ts : List Term) → eqb (length ns) (length ts) ≡ same_count ns ts
unfolding same_count
count_same [] [] = eq-eqb 0 0 refl
count_same [] (t ∷ ts) = ne_eqb 0 (suc (length ts)) (λ e. omega arith)
count_same (n ∷ ns) [] = ne_eqb (suc (length ns)) 0 (λ e. omega arith)
count_same (n ∷ ns) (t ∷ ts) = suc-same (length ns) (length ts) ∙ count_same ns ts

module _ (s z : List ℕ) (short : length s ≤ 8192) where
  -- P14: the rows tell the activities of every call
  pub calls-wide : (n : ℕ) (ps : List Procedure) → Placed s z n ps → Filled z n ps → (v : Name) (ts : List Term) → wide_in s z n v.bytes (length ts) ≡ wide_call (wides ps) v ts
  unfolding Placed Filled row_in wide_call wides
  calls-wide zero ps e f v ts = rw e refl
  calls-wide (suc n) ps (p, qs, e, a, more) f v ts =
      let (w, fs) = subst (Filled z (suc n)) e f in
      let same : eqb (length (formals_at s (procedure_at z n))) (length ts) ≡ same_count p.formals ts = ap (λ (k : ℕ). eqb k (length ts)) (each-length (NamedAt s) (formals_at s (procedure_at z n)) p.formals (head_of s (procedure_at z n) p short a).formals) ∙ count_same p.formals ts in
      rw (e, named s (procedure_at z n) p a) (go (same_bytes p.name.bytes v.bytes) same w (calls-wide n qs more fs v ts))
    where
      go : (b : Bool) → eqb (length (formals_at s (procedure_at z n))) (length ts) ≡ same_count p.formals ts → wide_at z n ≡ wide_all (wides qs) p.body → wide_in s z n v.bytes (length ts) ≡ wide_call (wides qs) v ts
          → wide_by s z (length ts) (cond b (some n) (row_in s z n v.bytes)) ≡ cond b (cond (same_count p.formals ts) (wide_all (wides qs) p.body) 1) (wide_call (wides qs) v ts)
      go true same w rest = rw (same, w) refl
      go false same w rest = rest

  -- ---- a body by its words

  module _ (i : ℕ) where
    body-walk : (p : Procedure) (qs : List Procedure) → Placed s z i qs → Filled z i qs → (h : Head s (procedure_at z i) p) → walk (wide_in s z i) calm (acts 1 []) h.words ≡ some (wide_all (wides qs) p.body)
    body-walk p qs x f h = walked (wides qs) (wide_in s z i) (calls-wide i qs x f) h.depth h.levels h.words p.body h.last h.rest h.body h.ends

    pub body-wide : {from r : ℕ} {h : Here} → from ≡ body_from s (procedure_at z i) → Begins s from h → BodyCounted s z i h r → WideOf s z i r
    body-wide {from} {r} {h} e b c =
        record {
          told = λ p qs a x f.
              let d = head_of s (procedure_at z i) p short a in
              c.told d.words (b.stands d.words (subst (λ (k : ℕ). Along s k d.words) (sym e) d.along)) (wide_all (wides qs) p.body) (body-walk p qs x f d);
        }

    -- no body begins behind the text
    pub body-beyond : {from : ℕ} → from ≡ body_from s (procedure_at z i) → length s < from → WideOf s z i 1
    unfolding walk
    body-beyond {from} e h = record { told = λ p qs a x f. let d = head_of s (procedure_at z i) p short a in go d.words (subst (λ (k : ℕ). Along s k d.words) (sym e) d.along) (wide_all (wides qs) p.body) (body-walk p qs x f d) }
      where
        go : (ws : List Word) → Along s from ws → (m : ℕ) → walk (wide_in s z i) calm (acts 1 []) ws ≡ some m → 1 ≡ m
        go [] a m q = none-some q
        go (w ∷ ws) (a, more) m q = let (x, y) = word_moves s from w a in absurd (omega (arith, x, y, h))

-- ---- one row

filled_stays : (z u : List ℕ) (n : ℕ) (ps : List Procedure) → ((i : ℕ) → i < n → wide_at u i ≡ wide_at z i) → Filled z n ps → Filled u n ps
unfolding Filled
filled_stays z u zero ps h f = tt
filled_stays z u (suc n) [] h f = tt
filled_stays z u (suc n) (p ∷ ps) h (w, f) = (h n (omega arith) ∙ w, filled_stays z u n ps (λ i g. h i (omega (arith, g))) f)

-- what was written is byte 2 of this row alone
module _ (z : List ℕ) (i x : ℕ) (few : i < 4096) where
  own : 16384 ≤ length z → wide_at (set z (row_at i + 2) x) i ≡ x
  unfolding wide_at
  own long = get_or-set_same z (row_at i + 2) x 0 (omega (arith, long))

  others-wide : (j : ℕ) → j < i → wide_at (set z (row_at i + 2) x) j ≡ wide_at z j
  unfolding wide_at
  others-wide j h = get_or-set_other z (row_at i + 2) (row_at j + 2) x 0 (λ e. omega (arith, e, h, few))

  places : (j : ℕ) → procedure_at (set z (row_at i + 2) x) j ≡ procedure_at z j
  unfolding procedure_at half_at
  places j = rw (get_or-set_other z (row_at i + 2) (row_at j) x 0 (λ e. omega (arith, e, few)), get_or-set_other z (row_at i + 2) (row_at j + 1) x 0 (λ e. omega (arith, e, few))) refl

  below : (j : ℕ) → j + (i + 1) * 4 < 16384 → get_or (set z (row_at i + 2) x) j 0 ≡ get_or z j 0
  below j h = get_or-set_other z (row_at i + 2) j x 0 (λ e. omega (arith, e, h, few))

-- ---- the rows, one after the other

same_row_lem : (y z : List ℕ) (i : ℕ) → i < 4096 → Fills y z i → procedure_at z i ≡ procedure_at y i
unfolding procedure_at half_at
same_row_lem y z i few f = rw (f.others (row_at i) (omega (arith, few)), f.others (row_at i + 1) (omega (arith, few))) refl

names-long : (t : List ℕ) → length (beside t).names ≡ length t - 16384
unfolding beside
names-long t = length-drop 16384 t

module _ (s y z : List ℕ) (i x : ℕ) (few : i < 4096) (g : FilledIn s y z i) where
  at_place : (j : ℕ) → j < i + 1 → Dec (j ≡ i) → procedure_at z j ≡ procedure_at y j
  at_place j h (yes e) = rw e (same_row_lem y z i few g.fills)
  at_place j h (no e) = g.fills.places j (omega (arith, e, h))

  row-fills : Fills y (set z (row_at i + 2) x) (i + 1)
  row-fills =
      record {
        long = length-set z (row_at i + 2) x ∙ g.fills.long;
        places = λ j h. places z i x few j ∙ at_place j h (ℕ_discrete j i);
        others = λ j h. below z i x few j h ∙ g.fills.others j (omega (arith, h));
      }

  module _ (w : WideOf s z i x) (long : 16384 ≤ length z) where
    row-filled : (ps : List Procedure) → Placed s y (suc i) ps → Filled (set z (row_at i + 2) x) (suc i) ps
    unfolding Placed Filled
    row-filled ps (q, qs, e, a, more) =
        let fs : Filled z i qs = g.filled qs more in
        let pl : Placed s z i qs = placed_stays s y z i qs g.fills.places more in
        let at : ProcedureAt s (procedure_at z i) q = subst (λ (k : ℕ). ProcedureAt s k q) (sym (same_row_lem y z i few g.fills)) a in
        subst (Filled (set z (row_at i + 2) x) (suc i)) (sym e) (
          own z i x few long ∙ w.told q qs at pl fs,
          filled_stays z (set z (row_at i + 2) x) i qs (others-wide z i x few) fs,
        )

    one_more : FilledIn s y (set z (row_at i + 2) x) (i + 1)
    one_more =
        record {
          fills = row-fills;
          filled = λ ps a. subst (λ (k : ℕ). Filled (set z (row_at i + 2) x) k ps) (sym (add-one i)) (row-filled ps (subst (λ (k : ℕ). Placed s y k ps) (add-one i) a));
        }

module _ {s t₀ t u : List ℕ} {i x : ℕ} where
  pub filling_on : FilledBehind s t₀ t i → WideOf s (beside t).names i x → Puts t u (set (beside t).names (row_at i + 2) x) → i < 4096 → 32768 ≤ length t₀ → FilledBehind s t₀ u (i + 1)
  filling_on g w p few long =
      record {
        tree = p.tree ∙ g.tree;
        long = puts_size p ∙ g.long;
        rows = rw (puts_names p) (one_more s (beside t₀).names (beside t).names i x few g.rows w (omega (arith, names-long t, g.long, long)));
      }

module _ {s t : List ℕ} where
  pub filling_start : FilledBehind s t t 0
  unfolding Filled
  filling_start = record { tree = refl; long = refl; rows = record { fills = record { long = refl; places = λ i h. absurd (omega (arith, h)); others = λ j h. refl }; filled = λ ps x. tt } }

  pub filling_over : {u : List ℕ} {i n : ℕ} → FilledBehind s t u i → i ≤ n → n ≤ i → FilledBehind s t u n
  filling_over {u} {i} {n} g h k = let e : i ≡ n = omega (arith, h, k) in subst (FilledBehind s t u) e g

-- ---- the byte that is written

module _ (t : List ℕ) (i x : ℕ) (few : i < 4096) where
  at_row : 32766 - i * 4 ≡ 16384 + (row_at i + 2)
  at_row = omega (arith, few)

  pub row_here : Puts t (set t (32766 - i * 4) x) (set (beside t).names (row_at i + 2) x)
  row_here = rw at_row (put-here t (row_at i + 2) x)

  pub row-past : length t ≤ 32766 - i * 4 → Puts t t (set (beside t).names (row_at i + 2) x)
  row-past h = put-past t (row_at i + 2) x (omega (arith, h, few))
