-- What lies below a frame that is written, and the rows of the procedures, stay as they are.
-- Assumes nothing.
use mathlib.Core.Path.{◌≡◌, refl, ◌∙◌, ap, ap₂}
use mathlib.Core.List.{List, ◌∷◌}
use Prim.Native.Nat.{ℕ, zero, suc, ◌+◌, ◌-◌, ◌*◌, ◌≤◌, ◌<◌}
use native.Mathlib.Decide.{ℕ_discrete}
use native.Mathlib.Omega.{arith}
use lib.ListN.{length, get_or}
use Rattle.meaning.specs.Unexpanded.{Term}
use Rattle.meaning.specs.Unexpanded as unexpanded
use Rattle.meaning.specs.Expansion.{Bound}
use Rattle.names.specs.Look as look
use Rattle.names.specs.Look.{end_at, kind_at, entry_at, look_from, look_in}
use Rattle.frames_law.specs.Frames.{Alike}
use Rattle.frames.specs.Layout.{half_at, row_at, procedure_at, wide_at, place_at, parts_at, levels_at, each_from, formals_at, formal_count, frames_of, frame_bytes, chain_bytes}
use Rattle.frames.specs.Open.{Rows, Sized, Nested}

module _ (z y : List ℕ) where
  -- bytes are the same from a place up to another
  abbrev pub Same : ℕ → ℕ → Type 0
  Same from to = (i : ℕ) → from ≤ i → i < to → get_or y i 0 ≡ get_or z i 0

  pub half_stays : (o : ℕ) → Same o (o + 2) → half_at y o ≡ half_at z o
  unfolding half_at
  half_stays o h = rw (h o (omega arith) (omega arith), h (o + 1) (omega arith) (omega arith)) refl

  place_stays : (o : ℕ) → Same o (o + 4) → place_at y o ≡ place_at z o
  unfolding place_at
  place_stays o h = rw (h o (omega arith) (omega arith), h (o + 1) (omega arith) (omega arith)) refl

  parts_stay : (o : ℕ) → Same o (o + 4) → parts_at y o ≡ parts_at z o
  unfolding parts_at
  parts_stay o h = rw (h (o + 1) (omega arith) (omega arith), h (o + 2) (omega arith) (omega arith)) refl

  levels_stay : (o : ℕ) → Same o (o + 4) → levels_at y o ≡ levels_at z o
  unfolding levels_at
  levels_stay o h = h (o + 3) (omega arith) (omega arith)

  each_stays : (read : List ℕ → ℕ → ℕ) → ((o : ℕ) → Same o (o + 4) → read y o ≡ read z o) → (n o : ℕ) → Same o (o + n * 4) → each_from read y o n ≡ each_from read z o n
  unfolding each_from
  each_stays read one zero o h = refl
  each_stays read one (suc n) o h = ap₂ ◌∷◌ (one o (λ i a b. h i a (omega arith))) (each_stays read one n (o + 4) (λ i a b. h i (omega arith) (omega arith)))

  pub places_stay : (n o : ℕ) → Same o (o + n * 4) → each_from place_at y o n ≡ each_from place_at z o n
  places_stay = each_stays place_at place_stays

  pub all-parts_stay : (n o : ℕ) → Same o (o + n * 4) → each_from parts_at y o n ≡ each_from parts_at z o n
  all-parts_stay = each_stays parts_at parts_stay

  pub all-levels_stay : (n o : ℕ) → Same o (o + n * 4) → each_from levels_at y o n ≡ each_from levels_at z o n
  all-levels_stay = each_stays levels_at levels_stay

-- ---- frames

module _ (s z y : List ℕ) where
  module _ (frame top : ℕ) (h : Same z y 0 top) (n : frame + frame_bytes s (half_at z (frame + 2)) ≤ top) where
    procedure_stays : half_at y (frame + 2) ≡ half_at z (frame + 2)
    procedure_stays = half_stays z y (frame + 2) (λ i a b. h i (omega arith) (omega arith))

    caller_stays : half_at y frame ≡ half_at z frame
    caller_stays = half_stays z y frame (λ i a b. h i (omega arith) (omega arith))

  pub nested-alike : (d frame top : ℕ) → Same z y 0 top → Nested s z d frame top → Alike (frames_of s z) (frames_of s y) d frame
  unfolding Nested Alike frames_of
  nested-alike zero frame top h n = tt
  nested-alike (suc d) frame top h (n, up) = (
    caller_stays frame top h n,
    ap (formals_at s) (procedure_stays frame top h n),
    ap (λ (p : ℕ). each_from place_at y (frame + 4) (length (formals_at s p))) (procedure_stays frame top h n) ∙ places_stay z y (formal_count s z frame) (frame + 4) (λ i a b. h i (omega arith) (omega arith)),
    nested-alike d (half_at z frame) frame (λ i a b. h i a (omega arith)) up,
  )

  pub nested_stays : (d frame top : ℕ) → Same z y 0 top → Nested s z d frame top → Nested s y d frame top
  unfolding Nested
  nested_stays zero frame top h n = tt
  nested_stays (suc d) frame top h (n, up) = (
    rw (procedure_stays frame top h n) n,
    rw (caller_stays frame top h n) (nested_stays d (half_at z frame) frame (λ i a b. h i a (omega arith)) up),
  )

  pub sized_stays : (d frame top : ℕ) (bound : List (Bound Term)) → Same z y 0 top → Nested s z d frame top → Sized s z d frame bound → Sized s y d frame bound
  unfolding Nested Sized
  sized_stays zero frame top bound h n x = x
  sized_stays (suc d) frame top bound h (n, up) (a, b) =
      let low : Same z y (frame + 4) (frame + 4 + formal_count s z frame * 4) = λ i a b. h i (omega arith) (omega arith) in (
        rw (procedure_stays frame top h n, all-parts_stay z y (formal_count s z frame) (frame + 4) low) a,
        rw (procedure_stays frame top h n, all-levels_stay z y (formal_count s z frame) (frame + 4) low) b,
      )

  -- so many open calls take four bytes each at least
  pub nested-few : (d frame top : ℕ) → Nested s z d frame top → d * 4 ≤ top
  unfolding Nested
  nested-few zero frame top n = omega arith
  nested-few (suc d) frame top (n, up) = omega (arith, nested-few d (half_at z frame) frame up)

  -- ---- the rows of the procedures

  pub row_stays : (all i : ℕ) → i < all → all * 4 ≤ 16384 → Same z y (16384 - all * 4) 16384 → procedure_at y i ≡ procedure_at z i
  unfolding procedure_at
  row_stays all i a b h = half_stays z y (row_at i) (λ j c d. h j (omega arith) (omega arith))

  pub wide_stays : (all i : ℕ) → i < all → all * 4 ≤ 16384 → Same z y (16384 - all * 4) 16384 → wide_at y i ≡ wide_at z i
  unfolding wide_at
  wide_stays all i a b h = h (row_at i + 2) (omega arith) (omega arith)

  pub rows_stay : (all n : ℕ) (ps : List unexpanded.Procedure) → n ≤ all → all * 4 ≤ 16384 → Same z y (16384 - all * 4) 16384 → Rows s z n ps → Rows s y n ps
  unfolding Rows
  rows_stay all zero ps a b h x = x
  rows_stay all (suc n) ps a b h (p, qs, e, at, w, more) = (p, qs, e, rw (row_stays all n (omega arith) b h) at, rw (wide_stays all n (omega arith) b h) w, rows_stay all n qs (omega arith) b h more)

  pub chain_stays : (all n : ℕ) → n ≤ all → all * 4 ≤ 16384 → Same z y (16384 - all * 4) 16384 → chain_bytes s y n ≡ chain_bytes s z n
  unfolding chain_bytes
  chain_stays all zero a b h = refl
  chain_stays all (suc n) a b h = ap₂ ◌+◌ (ap (frame_bytes s) (row_stays all n (omega arith) b h)) (chain_stays all n (omega arith) b h)

-- a procedure's frame and those of what it can call are among the frames that may be asked for
pub chain_has : (s z : List ℕ) (n r : ℕ) → r < n → frame_bytes s (procedure_at z r) + chain_bytes s z r ≤ chain_bytes s z n
unfolding chain_bytes
chain_has s z zero r h = absurd (omega arith)
chain_has s z (suc n) r h = go (ℕ_discrete r n) (chain_has s z n r)
  where
    go : Dec (r ≡ n) → (r < n → frame_bytes s (procedure_at z r) + chain_bytes s z r ≤ chain_bytes s z n) → frame_bytes s (procedure_at z r) + chain_bytes s z r ≤ frame_bytes s (procedure_at z n) + chain_bytes s z n
    go (yes e) more = rw e (omega arith)
    go (no e) more = omega (arith, more (omega (arith, e)))

-- ---- the declared names

module _ (s z y : List ℕ) where
  entry_place : (i : ℕ) → Same z y (i * 4) (i * 4 + 4) → look.place_at y i ≡ look.place_at z i
  unfolding look.place_at
  entry_place i h = rw (h (i * 4) (omega arith) (omega arith), h (i * 4 + 1) (omega arith) (omega arith)) refl

  entry_end : (i : ℕ) → Same z y (i * 4) (i * 4 + 4) → end_at y i ≡ end_at z i
  unfolding end_at
  entry_end i h = rw (entry_place i h, h (i * 4 + 2) (omega arith) (omega arith)) refl

  entry_stays : (i : ℕ) → Same z y (i * 4) (i * 4 + 4) → entry_at s y i ≡ entry_at s z i
  unfolding entry_at kind_at
  entry_stays i h = rw (entry_end i h, h (i * 4 + 1) (omega arith) (omega arith), h (i * 4 + 3) (omega arith) (omega arith)) refl

  look_from_lem : (x : List ℕ) (k i : ℕ) → Same z y (i * 4) ((i + k) * 4) → look_from s y x k i ≡ look_from s z x k i
  unfolding look_from
  look_from_lem x zero i h = refl
  look_from_lem x (suc k) i h =
      let here : Same z y (i * 4) (i * 4 + 4) = λ j a b. h j a (omega arith) in
      rw (entry_place i here, entry_end i here, entry_stays i here, look_from_lem x k (i + 1) (λ j a b. h j (omega arith) (omega arith))) refl

  pub look_stays : (count top : ℕ) (x : List ℕ) → count * 4 ≤ top → Same z y 0 top → look_in s y count x ≡ look_in s z count x
  unfolding look_in
  look_stays count top x h e = look_from_lem x count 0 (λ j a b. e j (omega arith) (omega arith))
