-- A call's frame is written: what is known under it.
-- Assumes nothing.
use mathlib.Core.Path.{◌≡◌, refl, ◌∙◌, ap}
use mathlib.Core.List.{List, [], ◌∷◌, map}
use Prim.Native.Nat.{ℕ, zero, suc, ◌+◌, ◌-◌, ◌*◌, ◌≤◌, ◌<◌}
use native.Mathlib.Numerals.{add-one}
use native.Mathlib.Omega.{arith}
use lib.ListN.{length}
use Rattle.meaning.specs.Tree.{Name}
use Rattle.meaning.specs.Unexpanded.{Term}
use Rattle.meaning.specs.Unexpanded as unexpanded
use Rattle.meaning.specs.Expansion.{Bound, bind, replaced}
use Rattle.frames_law.specs.Frames.{told_at, NamedAt, Framed, Each}
use Rattle.frames_law.proofs.Frames.{framed-push}
use Rattle.frames.specs.declared.Under.{Under}
use Rattle.frames.specs.Layout.{half_at, parts_at, levels_at, procedure_at, each_from, formals_at, frames_of, frame_bytes}
use Rattle.frames.specs.Open.{ProcedureAt, Rows, parts_of, levels_of, Measured, Counted, Sized, Nested, Open, Handed, called_under}
use Rattle.frames.specs.Put.{Over}
use Rattle.frames.proofs.Heads.{head_of}
use Rattle.frames.proofs.Stays.{Same, nested-alike, nested_stays, rows_stay, chain_stays, chain_has}

each-length : (read : List ℕ → ℕ → ℕ) (z : List ℕ) (n o : ℕ) → length (each_from read z o n) ≡ n
unfolding each_from
each-length read z zero o = refl
each-length read z (suc n) o = ap suc (each-length read z n (o + 4))

pub as_many_lem : {A : Type 0} (R : ℕ → A → Type 0) (ps : List ℕ) (xs : List A) → Each R ps xs → length ps ≡ length xs
as_many_lem R [] [] e = refl
as_many_lem R [] (x ∷ xs) e = absurd e
as_many_lem R (p ∷ ps) [] e = absurd e
as_many_lem R (p ∷ ps) (x ∷ xs) (a, e) = ap suc (as_many_lem R ps xs e)

measured : (f : Term → ℕ) (ns : List ℕ) (fs : List Name) (es : List Term) → length ns ≡ length fs → Counted f ns es → Measured f ns (bind fs es)
unfolding bind
measured f [] [] es h c = tt
measured f [] (n ∷ fs) es h c = absurd (omega arith)
measured f (k ∷ ns) [] es h c = absurd (omega arith)
measured f (k ∷ ns) (n ∷ fs) [] h c = absurd c
measured f (k ∷ ns) (n ∷ fs) (e ∷ es) h (a, c) = (a, measured f ns fs es (omega arith) c)

module _ (s z y : List ℕ) (u : Under) (ps qs : List unexpanded.Procedure) (bound : List (Bound Term)) (r : ℕ) (p : unexpanded.Procedure) where
  abbrev place : ℕ
  place = procedure_at z r

  abbrev actuals : List Term → List Term
  actuals ts = map (replaced (told_at u.at) bound) ts

  pub open_push : length s ≤ 8192 → Open s z ps bound u → ProcedureAt s place p → Rows s z r qs → r < u.seen → Over z y u.top (u.top + frame_bytes s place)
      → half_at y u.top ≡ u.frame → half_at y (u.top + 2) ≡ place → (ts : List Term) → Handed s y (u.top + 4) (length (formals_at s place)) ts (actuals ts)
      → Open s y qs (bind p.formals (actuals ts)) (called_under s place r u)
  unfolding frames_of Sized Nested
  open_push short o at rows h x caller procedure ts given =
      record {
        framed = rw (add-one u.depth) (framed-push s (frames_of s z) (frames_of s y) u.at u.top u.depth u.frame bound p.formals ts (nested-alike s z y u.depth u.frame u.top low o.nested) caller
            (rw procedure formals) (rw procedure given.texts) o.framed);
        sized = rw (add-one u.depth, procedure) (measured parts_of (each_from parts_at y (u.top + 4) count) p.formals (actuals ts) (each-length parts_at y count (u.top + 4) ∙ same) given.parts, measured levels_of (each_from levels_at y (u.top + 4) count) p.formals (actuals ts) (each-length levels_at y count (u.top + 4) ∙ same) given.levels);
        nested = rw (add-one u.depth, procedure, caller) (omega arith, nested_stays s z y u.depth u.frame u.top low o.nested);
        rows = rows_stay s z y o.all r qs (omega (arith, o.some)) (omega (arith, o.room)) high rows;
        long = omega (arith, o.long, x.size);
        all = o.all;
        some = omega (arith, o.some);
        room = rw (chain_stays s z y o.all r (omega (arith, o.some)) (omega (arith, o.room)) high) (omega (arith, o.room, chain_has s z u.seen r h));
        zeros = λ i a b. x.high i a ∙ o.zeros i (omega arith) b;
      }
    where
      count : ℕ
      count = length (formals_at s place)

      low : Same z y 0 u.top
      low i a b = x.low i b

      high : Same z y (16384 - o.all * 4) 16384
      high i a b = x.high i (omega (arith, o.room, chain_has s z u.seen r h))

      formals : Each (NamedAt s) (formals_at s place) p.formals
      formals = (head_of s place p short at).formals

      same : length (formals_at s place) ≡ length p.formals
      same = as_many_lem (NamedAt s) (formals_at s place) p.formals formals

-- ---- in the program's own text

-- P9: any place may be told there
pub own_at : {s z : List ℕ} {ps : List unexpanded.Procedure} {bound : List (Bound Term)} {u : Under} → u.depth ≡ 0 → Open s z ps bound u → (p : ℕ) → Open s z ps bound (record { at = p; frame = u.frame; depth = u.depth; seen = u.seen; top = u.top })
unfolding Framed
own_at {s} {z} {ps} {bound} {u} e o p = record { framed = go u.depth e o.framed; sized = o.sized; nested = o.nested; rows = o.rows; long = o.long; all = o.all; some = o.some; room = o.room; zeros = o.zeros }
  where
    go : (d : ℕ) → d ≡ 0 → Framed s (frames_of s z) u.at d u.frame bound → Framed s (frames_of s z) p d u.frame bound
    go zero e f = f
    go (suc d) e f = absurd (omega arith)
