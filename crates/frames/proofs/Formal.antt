-- What a frame says of a formal: where its actual's text begins, and that one's sizes.
-- Assumes nothing.
use Rattle.std.specs.Prelude as std
use mathlib.Core.Bool.{Bool, true, false, cond}
use mathlib.Core.Path.{◌≡◌, refl, sym, ◌∙◌, ap}
use mathlib.Core.List.{List, [], ◌∷◌, map}
use mathlib.Core.Option.{Option, none, some}
use Prim.Native.Nat.{ℕ, zero, suc, ◌+◌, ◌*◌}
use native.Mathlib.Omega.{arith}
use lib.ListN.{length}
use Rattle.meaning.specs.Tree.{Name}
use Rattle.meaning.specs.Declared.{same_bytes}
use Rattle.meaning.specs.Unexpanded.{Term}
use Rattle.meaning.specs.Expansion.{Bound, actual_of, bind, replaced}
use Rattle.frames_law.specs.Frames.{bytes_at, actual_at, formal_in, told_at, NamedAt, Each, Framed}
use Rattle.frames_law.proofs.Frames.{named-bytes}
use Rattle.frames.specs.declared.Under.{Under}
use Rattle.frames.specs.declared.Sizes.{Sizes}
use Rattle.frames.specs.Layout.{half_at, place_at, parts_at, levels_at, each_from, formals_at, frames_of}
use Rattle.frames.specs.List.{index_from, index_in}
use Rattle.frames.specs.Open.{parts_of, levels_of, Measured, Sized}
use Rattle.frames.specs.Meant.{placed, SizesOf}

pub none-some : {A B : Type 0} {x : A} → none ≡ some x → B
none-some e = let z : ◌≡◌ {A = ℕ} 0 1 = cc in absurd (omega arith)

-- ---- by the number of the formal

at_index : (ℕ → ℕ) → Option ℕ → Option ℕ
at_index g none = none
at_index g (some i) = some (g i)

module _ (s z : List ℕ) (read : List ℕ → ℕ → ℕ) (o : ℕ) (x : List ℕ) where
  by_index : (ps : List ℕ) (i : ℕ) → actual_at s ps (each_from read z (o + i * 4) (length ps)) x ≡ at_index (λ j. read z (o + j * 4)) (index_from s ps x i)
  unfolding actual_at each_from index_from at_index
  by_index [] i = refl
  by_index (p ∷ ps) i = go (same_bytes (bytes_at s p) x) (by_index ps (suc i))
    where
      next : each_from read z (o + i * 4 + 4) (length ps) ≡ each_from read z (o + suc i * 4) (length ps)
      next = ap (λ (a : ℕ). each_from read z a (length ps)) (omega arith)

      go : (b : Bool) → actual_at s ps (each_from read z (o + suc i * 4) (length ps)) x ≡ at_index (λ j. read z (o + j * 4)) (index_from s ps x (suc i))
          → cond b (some (read z (o + i * 4))) (actual_at s ps (each_from read z (o + i * 4 + 4) (length ps)) x) ≡ at_index (λ j. read z (o + j * 4)) (cond b (some i) (index_from s ps x (suc i)))
      go true more = refl
      go false more = ap (λ (l : List ℕ). actual_at s ps l x) next ∙ more

  by_first : (ps : List ℕ) → actual_at s ps (each_from read z o (length ps)) x ≡ at_index (λ j. read z (o + j * 4)) (index_in s ps x)
  by_first ps = ap (λ (a : ℕ). actual_at s ps (each_from read z a (length ps)) x) (omega arith) ∙ by_index ps 0

-- ---- where the actual's text begins

module _ (s z : List ℕ) (frame : ℕ) (x : List ℕ) {o : Option ℕ} (e : o ≡ index_in s (formals_at s (half_at z (frame + 2))) x) where
  at_number : (d : ℕ) → ¬ (d ≡ 0) → at_index (λ j. place_at z (frame + 4 + j * 4)) o ≡ formal_in s (frames_of s z) d frame x
  unfolding frames_of
  at_number zero h = absurd (h refl)
  at_number (suc d) h = ap (at_index (λ j. place_at z (frame + 4 + j * 4))) e ∙ sym (by_first s z place_at (frame + 4) x (formals_at s (half_at z (frame + 2))))

  pub formal-none : (d : ℕ) → ¬ (d ≡ 0) → o ≡ none → none ≡ formal_in s (frames_of s z) d frame x
  unfolding at_index
  formal-none d h q = ap (at_index (λ j. place_at z (frame + 4 + j * 4))) (sym q) ∙ at_number d h

  pub formal-some : (d i r : ℕ) → ¬ (d ≡ 0) → o ≡ some i → r ≡ place_at z (frame + 4 + i * 4) → some r ≡ formal_in s (frames_of s z) d frame x
  unfolding at_index
  formal-some d i r h q a = ap some a ∙ ap (at_index (λ j. place_at z (frame + 4 + j * 4))) (sym q) ∙ at_number d h

-- ---- its sizes

module _ (s : List ℕ) (f : Term → ℕ) (x : List ℕ) where
  measured_at : (ps : List ℕ) (ns : List Name) (ts : List Term) (vs : List ℕ) → Each (NamedAt s) ps ns → Measured f vs (bind ns ts) → (e : Term) → actual_of (bind ns ts) x ≡ some e → actual_at s ps vs x ≡ some (f e)
  unfolding actual_at actual_of bind
  measured_at [] [] ts vs a m e q = none-some q
  measured_at [] (n ∷ ns) ts vs a m e q = absurd a
  measured_at (p ∷ ps) [] ts vs a m e q = absurd a
  measured_at (p ∷ ps) (n ∷ ns) [] vs a m e q = none-some q
  measured_at (p ∷ ps) (n ∷ ns) (t ∷ ts) [] a m e q = absurd m
  measured_at (p ∷ ps) (n ∷ ns) (t ∷ ts) (v ∷ vs) (a₀, a) (m₀, m) e q = rw (named-bytes s p n a₀) (go (same_bytes n.bytes x) (measured_at ps ns ts vs a m e) q)
    where
      go : (b : Bool) → (actual_of (bind ns ts) x ≡ some e → actual_at s ps vs x ≡ some (f e)) → cond b (some t) (actual_of (bind ns ts) x) ≡ some e → cond b (some v) (actual_at s ps vs x) ≡ some (f e)
      go true more q = ap some (m₀ ∙ ap f (let z : t ≡ e = cc in z))
      go false more q = more q

  in_frame : (z : List ℕ) (read : List ℕ → ℕ → ℕ) (o i : ℕ) (ps : List ℕ) (ns : List Name) (ts : List Term) → Each (NamedAt s) ps ns → Measured f (each_from read z o (length ps)) (bind ns ts) → (k : std.Option ℕ) → placed k ≡ index_in s ps x → i ≡ std.unwrap_or k 0
      → (e : Term) → actual_of (bind ns ts) x ≡ some e → read z (o + i * 4) ≡ f e
  unfolding at_index
  in_frame z read o i ps ns ts a m k q at e p = go k at (ap (at_index (λ j. read z (o + j * 4))) q ∙ sym (by_first s z read o x ps) ∙ measured_at ps ns ts (each_from read z o (length ps)) a m e p)
    where
      go : (k : std.Option ℕ) → i ≡ std.unwrap_or k 0 → at_index (λ j. read z (o + j * 4)) (placed k) ≡ some (f e) → read z (o + i * 4) ≡ f e
      go (std.Some j) at r = cc
      go std.None at r = none-some r

pub sizes_of_lem : (s z : List ℕ) (u : Under) (x : List ℕ) (k : std.Option ℕ) (i : ℕ) (r : Sizes) → placed k ≡ index_in s (formals_at s (half_at z (u.frame + 2))) x → i ≡ std.unwrap_or k 0
    → r.parts ≡ parts_at z (u.frame + 4 + i * 4) → r.levels ≡ levels_at z (u.frame + 4 + i * 4) → SizesOf s z u x r
unfolding Framed Sized frames_of actual_of
sizes_of_lem s z u x o i r e at a b = go u.depth
  where
    go : (d : ℕ) (bound : List (Bound Term)) → Framed s (frames_of s z) u.at d u.frame bound → Sized s z d u.frame bound → (t : Term) → actual_of bound x ≡ some t → (r.parts ≡ parts_of t) × (r.levels ≡ levels_of t)
    go zero bound (f₀, f₁) y t p = none-some (sym (ap (λ (l : List (Bound Term)). actual_of l x) f₁) ∙ p)
    go (suc d) bound (ns, ts, outer, f, g, up, q) (y₀, y₁) t p =
        let k : actual_of (bind ns (map (replaced (told_at u.at) outer) ts)) x ≡ some t = sym (ap (λ (l : List (Bound Term)). actual_of l x) q) ∙ p in (
          a ∙ in_frame s parts_of x z parts_at (u.frame + 4) i (formals_at s (half_at z (u.frame + 2))) ns (map (replaced (told_at u.at) outer) ts) f (rw q at y₀) o e at t k,
          b ∙ in_frame s levels_of x z levels_at (u.frame + 4) i (formals_at s (half_at z (u.frame + 2))) ns (map (replaced (told_at u.at) outer) ts) f (rw q at y₁) o e at t k,
        )
