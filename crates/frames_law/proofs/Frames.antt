-- What a formal of a frame stands for, by the text of its actual.
-- Assumes nothing.
use mathlib.Core.Bool.{Bool, true, false, cond}
use mathlib.Core.Path.{◌≡◌, refl, sym, ◌∙◌, ap}
use mathlib.Core.List.{List, [], ◌∷◌, map}
use mathlib.Core.Option.{Option, none, some}
use Prim.Native.Nat.{ℕ, zero, suc, ◌<◌}
use borrow.Author.Tests.{lt-ltb}
use Rattle.meaning.specs.Tree.{Name}
use Rattle.meaning.specs.Declared.{same_bytes}
use Rattle.meaning.specs.Unexpanded.{Term}
use Rattle.meaning.specs.Expansion.{Bound, actual_of, bind, replaced}
use Rattle.frames_law.specs.Frames.{no_place, Frames, bytes_of, bytes_at, actual_at, formal_in, told_at, NamedAt, TermAt, Each, Framed, Alike, Stood}

-- in the program's own text no name is a formal
pub none_open : (s : List ℕ) (l : Frames) (at frame : ℕ) (bound : List (Bound Term)) (x : List ℕ) → Framed s l at 0 frame bound → actual_of bound x ≡ none
unfolding Framed actual_of
none_open s l at frame bound x (e, q) = ap (λ (b : List (Bound Term)). actual_of b x) q

pub named-bytes : (s : List ℕ) (p : ℕ) (n : Name) → NamedAt s p n → bytes_at s p ≡ n.bytes
unfolding bytes_of
named-bytes s p n (w, e, q) = ap bytes_of e ∙ sym (ap (λ (m : Name). m.bytes) q)

module _ (s : List ℕ) (at : ℕ) (outer : List (Bound Term)) (x : List ℕ) where
  first_or : (q : ℕ) (t : Term) (o : Option ℕ) (m : Option Term) (b : Bool) → TermAt s q t → Stood s at outer o m → Stood s at outer (cond b (some q) o) (cond b (some (replaced (told_at at) outer t)) m)
  first_or q t o m true y z = (t, y, refl)
  first_or q t o m false y z = z

  stands_for_lem : (ps qs : List ℕ) (ns : List Name) (ts : List Term) → Each (NamedAt s) ps ns → Each (TermAt s) qs ts
      → Stood s at outer (actual_at s ps qs x) (actual_of (bind ns (map (replaced (told_at at) outer) ts)) x)
  unfolding actual_at actual_of bind
  stands_for_lem [] qs [] ts a b = refl
  stands_for_lem [] qs (n ∷ ns) ts a b = absurd a
  stands_for_lem (p ∷ ps) qs [] ts a b = absurd a
  stands_for_lem (p ∷ ps) [] (n ∷ ns) [] a b = refl
  stands_for_lem (p ∷ ps) [] (n ∷ ns) (t ∷ ts) a b = absurd b
  stands_for_lem (p ∷ ps) (q ∷ qs) (n ∷ ns) [] a b = absurd b
  stands_for_lem (p ∷ ps) (q ∷ qs) (n ∷ ns) (t ∷ ts) (a₀, a) (b₀, b) =
      rw (named-bytes s p n a₀) (first_or q t (actual_at s ps qs x) (actual_of (bind ns (map (replaced (told_at at) outer) ts)) x) (same_bytes n.bytes x) b₀ (stands_for_lem ps qs ns ts a b))

-- a formal is its actual, read from its text under the caller's frame; no other name is one
pub formal-stands : (s : List ℕ) (l : Frames) (at d frame : ℕ) (bound : List (Bound Term)) (x : List ℕ) → Framed s l at (suc d) frame bound
    → (outer : List (Bound Term)) × Framed s l at d (l.caller frame) outer × Stood s at outer (actual_at s (l.formals frame) (l.actuals frame) x) (actual_of bound x)
unfolding Framed
formal-stands s l at d frame bound x (ns, ts, outer, a, b, up, e) =
    (outer, up, rw e (stands_for_lem s at outer x (l.formals frame) (l.actuals frame) ns ts a b))

-- what is found in no frame's formals is no formal
module _ (s : List ℕ) (l : Frames) (at frame : ℕ) (bound : List (Bound Term)) where
  pub no_formal_in : (d : ℕ) (x : List ℕ) → Framed s l at d frame bound → formal_in s l d frame x ≡ none → actual_of bound x ≡ none
  no_formal_in zero x f e = none_open s l at frame bound x f
  no_formal_in (suc d) x f e = let (outer, up, z) = formal-stands s l at d frame bound x f in go outer (formal_in s l (suc d) frame x) e z
    where
      go : (outer : List (Bound Term)) (o : Option ℕ) → o ≡ none → Stood s at outer o (actual_of bound x) → actual_of bound x ≡ none
      go outer o e z = rw e at z

-- ---- frames are written above the others

pub framed_stays : (s : List ℕ) (l m : Frames) (at d frame : ℕ) (bound : List (Bound Term)) → Alike l m d frame → Framed s l at d frame bound → Framed s m at d frame bound
unfolding Framed Alike
framed_stays s l m at zero frame bound h x = x
framed_stays s l m at (suc d) frame bound (c, f₂, a₂, up) (ns, ts, outer, f, a, x, e) = (ns, ts, outer, rw f₂ f, rw a₂ a, rw c (framed_stays s l m at d (l.caller frame) outer up x), e)

-- a call pushes a frame: its procedure's formals are bound to the actuals, replaced as the frame under it has them
pub framed-push : (s : List ℕ) (l m : Frames) (at top d frame : ℕ) (bound : List (Bound Term)) (ns : List Name) (ts : List Term) → Alike l m d frame → m.caller top ≡ frame
    → Each (NamedAt s) (m.formals top) ns → Each (TermAt s) (m.actuals top) ts → Framed s l at d frame bound → Framed s m at (suc d) top (bind ns (map (replaced (told_at at) bound) ts))
unfolding Framed
framed-push s l m at top d frame bound ns ts h e f a x = (ns, ts, bound, f, a, rw e (framed_stays s l m at d frame bound h x), refl)

-- ---- the place told

pub told-own : told_at no_place ≡ (λ p. p)
unfolding told_at
told-own = refl

pub told-call : (at : ℕ) → at < no_place → told_at at ≡ (λ p. at)
unfolding told_at
told-call at h = ap {B = ℕ → ℕ} (λ (b : Bool) (p : ℕ). cond b at p) (lt-ltb at no_place h)
