-- The least of some places tells the fault, and the notes of two halves put together.
-- Assumes nothing.
use mathlib.Core.Path.{◌≡◌, sym, ◌∙◌, ap}
use mathlib.Core.List.{List, [], ◌∷◌, ◌++◌}
use Prim.Native.Nat.{ℕ, ◌≤◌, min}
use native.Mathlib.Omega.{arith}
use native.Mathlib.Nat.{min_comm}
use Rattle.meaning.specs.Faults.{least}
use Rattle.expr_law.proofs.Least.{least-append, least-min}
use Rattle.stmts_law.proofs.Walks.{least-swap}
use Rattle.own_law.specs.Noted.{Below, Least}
use Rattle.frames_law.specs.Frames.{no_place}
use Rattle.places_law.specs.Places.{Low}
use Rattle.places_law.proofs.Lists.{low-append}

-- the least of these places is noted: without `low` what stands for none could be one of them
pub record Noted (l : List ℕ) (n : ℕ) : Type 0 where
  pub least_is : n ≡ least no_place l
  pub low : Low l

all-below : (l : List ℕ) → Low l → Below no_place l
all-below [] x = tt
all-below (p ∷ l) (h, x) = (omega arith, all-below l x)

pub noted-least : (l : List ℕ) (n : ℕ) → Noted l n → Least no_place l n
noted-least l n x = record { least_is = x.least_is; below = all-below l x.low }

least-low : (p : ℕ) (l : List ℕ) → least p l ≤ p
unfolding least
least-low p [] = omega arith
least-low p (q ∷ l) = omega (arith, least-low (min p q) l)

pub noted-append : (a b : List ℕ) (x y : ℕ) → Noted a x → Noted b y → Noted (a ++ b) (min x y)
noted-append a b x y n m =
    let h : x ≤ no_place = omega (arith, n.least_is, least-low no_place a) in
    let q : x ≡ min no_place x = omega (arith, h) in
    record {
      least_is = min_comm x y ∙ ap (λ (k : ℕ). min k x) m.least_is ∙ sym (least-min no_place x b) ∙ ap (λ (k : ℕ). least k b) (sym q ∙ n.least_is) ∙ sym (least-append no_place a b);
      low = low-append a b n.low m.low;
    }

-- what is noted behind other places
pub noted-behind : (a b : List ℕ) (x y : ℕ) → Noted a x → Low b → y ≡ least x b → Noted (a ++ b) y
noted-behind a b x y n l e = record { least_is = e ∙ ap (λ (k : ℕ). least k b) n.least_is ∙ sym (least-append no_place a b); low = low-append a b n.low l }

low-split : (a b : List ℕ) → Low (a ++ b) → Low a × Low b
low-split [] b x = (tt, x)
low-split (p ∷ a) b (h, x) = let (y, z) = low-split a b x in ((h, y), z)

four : (p : ℕ) (a b c d : List ℕ) → least p ((a ++ b) ++ (c ++ d)) ≡ least (least (least (least p a) b) c) d
four p a b c d = least-append p (a ++ b) (c ++ d) ∙ least-append (least p (a ++ b)) c d ∙ ap (λ (k : ℕ). least (least k c) d) (least-append p a b)

-- in whatever order
pub noted_turned : (a b : List ℕ) (n : ℕ) → Noted (a ++ b) n → Noted (b ++ a) n
noted_turned a b n x =
    let (u, v) = low-split a b x.low in
    record { least_is = x.least_is ∙ least-append no_place a b ∙ least-swap no_place a b ∙ sym (least-append no_place b a); low = low-append b a v u }

pub noted_crossed : (a b c d : List ℕ) (n : ℕ) → Noted ((a ++ b) ++ (c ++ d)) n → Noted ((a ++ c) ++ (b ++ d)) n
noted_crossed a b c d n x =
    let (u, v) = low-split (a ++ b) (c ++ d) x.low in
    let (p, q) = low-split a b u in
    let (r, s) = low-split c d v in
    record {
      least_is = x.least_is ∙ four no_place a b c d ∙ ap (λ (k : ℕ). least k d) (least-swap (least no_place a) b c) ∙ sym (four no_place a c b d);
      low = low-append (a ++ c) (b ++ d) (low-append a c p r) (low-append b d q s);
    }
