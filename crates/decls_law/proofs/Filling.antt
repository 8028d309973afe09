-- The activities of the procedures are filled into their rows, one after the other from the first (P14).
-- Assumes nothing.
use mathlib.Core.Path.{◌≡◌, refl, sym, ◌∙◌, ap, subst}
use mathlib.Core.List.{List, [], ◌∷◌}
use Prim.Native.Nat.{ℕ, zero, suc, ◌+◌, ◌-◌, ◌≤◌, ◌<◌}
use native.Mathlib.Omega.{arith}
use native.Mathlib.Decide.{dec_lt}
use native.Mathlib.Numerals.{add-one}
use lib.ListN.{length, length-set, set, drop}
use lib.Seq.{get_or-set_same, get_or-set_other}
use Rattle.meaning.specs.Unexpanded.{Procedure}
use Rattle.meaning.specs.Expansion.{wide_all, wides}
use Rattle.frames.specs.Layout.{half_at, row_at, procedure_at, wide_at}
use Rattle.frames.specs.Open.{ProcedureAt, Rows}
use Rattle.decls_law.specs.Rows.{Placed, Filled, Fills}
use Rattle.decls_law.proofs.Opened.{placed_stays, rows_are}

-- ---- one byte

pub fills-none : (u : List ℕ) (n : ℕ) → Fills u u n
fills-none u n = record { long = refl; places = λ i h. refl; others = λ j h. refl }

module _ (z : List ℕ) (i w : ℕ) (h : i < 4096) where
  place_stays : (j : ℕ) → j < 4096 → procedure_at (set z (row_at i + 2) w) j ≡ procedure_at z j
  unfolding procedure_at half_at
  place_stays j g = rw (get_or-set_other z (row_at i + 2) (row_at j) w 0 (λ e. omega arith), get_or-set_other z (row_at i + 2) (row_at j + 1) w 0 (λ e. omega arith)) refl

  wide_stays : (j : ℕ) → j < i → wide_at (set z (row_at i + 2) w) j ≡ wide_at z j
  unfolding wide_at
  wide_stays j g = get_or-set_other z (row_at i + 2) (row_at j + 2) w 0 (λ e. omega arith)

  wide-here : 16384 ≤ length z → wide_at (set z (row_at i + 2) w) i ≡ w
  unfolding wide_at
  wide-here g = get_or-set_same z (row_at i + 2) w 0 (omega arith)

  pub fills_one : (u : List ℕ) (n : ℕ) → i < n → n ≤ 4096 → Fills u z n → Fills u (set z (row_at i + 2) w) n
  fills_one u n g m f =
      record {
        long = length-set z (row_at i + 2) w ∙ f.long;
        places = λ j k. place_stays j (omega arith) ∙ f.places j k;
        others = λ j k. get_or-set_other z (row_at i + 2) j w 0 (λ e. omega arith) ∙ f.others j k;
      }

  filled_stays : (k : ℕ) (qs : List Procedure) → k ≤ i → Filled z k qs → Filled (set z (row_at i + 2) w) k qs
  unfolding Filled
  filled_stays zero qs g x = tt
  filled_stays (suc k) [] g x = tt
  filled_stays (suc k) (q ∷ qs) g (e, x) = (wide_stays k (omega arith) ∙ e, filled_stays k qs (omega arith) x)

  filled_on : (p : Procedure) (qs : List Procedure) → 16384 ≤ length z → Filled z i qs → w ≡ wide_all (wides qs) p.body → Filled (set z (row_at i + 2) w) (suc i) (p ∷ qs)
  unfolding Filled
  filled_on p qs g x e = (wide-here g ∙ e, filled_stays i qs (omega arith) x)

-- ---- the procedures before one

drop-cons : (n i : ℕ) (p : Procedure) (qs : List Procedure) → i ≤ n → drop (suc n - i) (p ∷ qs) ≡ drop (n - i) qs
drop-cons n i p qs h = let e : suc n - i ≡ suc (n - i) = omega arith in ap (λ (k : ℕ). drop k (p ∷ qs)) e

-- procedure i, and those before it
pub record At (s z : List ℕ) (n : ℕ) (ps : List Procedure) (i : ℕ) : Type 0 where
  pub one : Procedure
  pub stands : ProcedureAt s (procedure_at z i) one
  pub before : Placed s z i (drop (n - i) ps)
  pub all : drop (n - (i + 1)) ps ≡ one ∷ drop (n - i) ps

pub placed_at : (s z : List ℕ) (n : ℕ) (ps : List Procedure) (i : ℕ) → i < n → Placed s z n ps → At s z n ps i
unfolding Placed
placed_at s z zero ps i h x = absurd (omega arith)
placed_at s z (suc n) ps i h (p, qs, e, a, x) = subst (λ (l : List Procedure). At s z (suc n) l i) (sym e) (go (placed_at s z n qs i) (dec_lt i n))
  where
    go : (i < n → Placed s z n qs → At s z n qs i) → Dec (i < n) → At s z (suc n) (p ∷ qs) i
    go f (yes g) =
        let r = f g x in
        record {
          one = r.one;
          stands = r.stands;
          before = subst (Placed s z i) (sym (drop-cons n i p qs (omega arith))) r.before;
          all = drop-cons n (i + 1) p qs (omega arith) ∙ r.all ∙ ap (λ (l : List Procedure). r.one ∷ l) (sym (drop-cons n i p qs (omega arith)));
        }
    go f (no g) =
        let q : i ≡ n = omega arith in
        let d : suc n - i ≡ 1 = omega arith in
        let o : suc n - (i + 1) ≡ 0 = omega arith in
        record {
          one = p;
          stands = rw q a;
          before = rw d (rw q x);
          all = rw (o, d) refl;
        }

-- .. whose activities are filled in once those of the procedures before it are: they can be called
pub fill_next : (s z : List ℕ) (n : ℕ) (ps : List Procedure) (i : ℕ) → i < n → n ≤ 4096 → 16384 ≤ length z → Placed s z n ps → Filled z i (drop (n - i) ps)
    → (p : Procedure) × ProcedureAt s (procedure_at z i) p × Rows s z i (drop (n - i) ps)
    × ((w : ℕ) → w ≡ wide_all (wides (drop (n - i) ps)) p.body → Filled (set z (row_at i + 2) w) (i + 1) (drop (n - (i + 1)) ps) × Placed s (set z (row_at i + 2) w) n ps)
fill_next s z n ps i h m g x f =
    let r = placed_at s z n ps i h x in
    let qs = drop (n - i) ps in (
      r.one,
      r.stands,
      rows_are s z i qs r.before f,
      λ w e. (
        subst (λ (l : List Procedure). Filled (set z (row_at i + 2) w) (i + 1) l) (sym r.all) (subst (λ (k : ℕ). Filled (set z (row_at i + 2) w) k (r.one ∷ qs)) (sym (add-one i)) (filled_on z i w (omega arith) r.one qs g f e)),
        placed_stays s z (set z (row_at i + 2) w) n ps (λ j k. place_stays z i w (omega arith) j (omega arith)) x,
      ),
    )

pub fill_ends : (z : List ℕ) (n : ℕ) (ps : List Procedure) → Filled z n (drop (n - n) ps) → Filled z n ps
fill_ends z n ps x = let e : n - n ≡ 0 = omega arith in rw e at x

pub fill_starts : (z : List ℕ) (ps : List Procedure) → Filled z 0 ps
unfolding Filled
fill_starts z ps = tt
