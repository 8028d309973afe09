-- What the acceptance of a file says, as facts by name: it is exactly those facts, and the table that the file holds fits the sizes.
-- Assumes nothing.
use mathlib.Core.Path.{◌≡◌, refl, sym, ap, ◌∙◌}
use Prim.Native.Nat.{ℕ, ◌+◌, ◌-◌, ◌*◌, ◌/◌, ◌%◌, ◌^◌, ◌≤◌, ◌<◌}
use native.Mathlib.Omega.{arith}
use mathlib.Core.Bool.{Bool, true, false}
use mathlib.Core.List.{List}
use lib.ListN.{length}
use lib.Dec.{eqb}
use borrow.Author.Tests.{ltb-true, eqb-true, lt-ltb, eq-eqb}
use Rattle.file_law.specs.Answer.{Answer, gives, refuses, unless, both, every}
use Rattle.file_law.specs.Table.{Fits}
use Rattle.file_law.specs.Reading.{length_good, block_good, stream_in, inputs_in, outputs_in, states_in, stream_length, blocks_for, outputs_at, next_at, sizes_good, clear_at, zero_at, next_good, nexts_good, rows_good, content_good, Sizes, sizes_in, blocks_answer, open_answer, table_in}
use Rattle.file_law.specs.Stepping.{Shape}
use Rattle.file_law.proofs.Every.{both_left, both_right, every_at, every-all, length-listed}
use Rattle.file_law.proofs.Tests.{within, sizes-good, whole, shape_long}
use Rattle.file_law.proofs.Held.{rows_in, row_in_lem, nexts_in}

-- ---- the content of the stream

-- "wrong block count, spare output bits or filling not zero, a next state not below N", each denied
pub record Rows (b : ℕ → ℕ) (total k o n : ℕ) : Type 0 where
  pub exact : blocks_for k n ≡ total
  pub clear : (state : ℕ) → state < n → outputs_at b k state < 2 ^ o
  pub filled : (j : ℕ) → stream_length k n ≤ j → j < 504 * total → b j ≡ 0
  pub inside : (state input : ℕ) → state < n → input < 2 ^ k → next_at b k state input < n

-- a test of each number below n, and of each from one on
pub each_below : (p : ℕ → Bool) (n : ℕ) → every p n 0 ≡ true → (j : ℕ) → j < n → p j ≡ true
each_below p n e j h = let z : 0 + j ≡ j = omega arith in ap p (sym z) ∙ every_at p n 0 e j h

pub all-below : (p : ℕ → Bool) (n : ℕ) → ((j : ℕ) → j < n → p j ≡ true) → every p n 0 ≡ true
all-below p n h = every-all p n 0 (λ j b. let z : 0 + j ≡ j = omega arith in ap p z ∙ h j b)

each_from_lem : (p : ℕ → Bool) (end i : ℕ) → every p (end - i) i ≡ true → (j : ℕ) → i ≤ j → j < end → p j ≡ true
each_from_lem p end i e j h l = let z : i + (j - i) ≡ j = omega arith in ap p (sym z) ∙ every_at p (end - i) i e (j - i) (omega arith)

module _ (b : ℕ → ℕ) (total k o n : ℕ) where
  abbrev counted : Bool
  counted = eqb (blocks_for k n) total

  abbrev cleared : Bool
  cleared = every (clear_at b k o) n 0

  abbrev zeroed : Bool
  zeroed = every (zero_at b) (504 * total - stream_length k n) (stream_length k n)

  abbrev nexted : Bool
  nexted = every (nexts_good b k n) n 0

  pub rows : rows_good b total k o n ≡ true → Rows b total k o n
  unfolding rows_good
  rows e =
      let r = both_right counted (both cleared (both zeroed nexted)) e in
      let q = both_right cleared (both zeroed nexted) r in
      let x = both_right zeroed nexted q in
      record {
        exact = eqb-true (blocks_for k n) total (both_left counted _ e);
        clear = λ s h. ltb-true (outputs_at b k s) (2 ^ o) (each_below (clear_at b k o) n (both_left cleared _ r) s h);
        filled = λ j l h. eqb-true (b j) 0 (each_from_lem (zero_at b) (504 * total) (stream_length k n) (both_left zeroed _ q) j l h);
        inside = λ s i hs hi. ltb-true (next_at b k s i) n (each_below (next_good b k n s) (2 ^ k) (each_below (nexts_good b k n) n x s hs) i hi);
      }

  pub rows-good : Rows b total k o n → rows_good b total k o n ≡ true
  unfolding rows_good
  rows-good r =
      simp (
        eq-eqb (blocks_for k n) total r.exact,
        all-below (clear_at b k o) n (λ s h. lt-ltb (outputs_at b k s) (2 ^ o) (r.clear s h)),
        every-all (zero_at b) (504 * total - stream_length k n) (stream_length k n) (λ j h. eq-eqb (b (stream_length k n + j)) 0 (r.filled (stream_length k n + j) (omega arith) (omega arith))),
        all-below (nexts_good b k n) n (λ s h. all-below (next_good b k n s) (2 ^ k) (λ i l. lt-ltb (next_at b k s i) n (r.inside s i h l))),
      )

-- ---- the whole file

-- what an accepted file is
pub record Sound (f : List ℕ) (z : Sizes) : Type 0 where
  pub sizes : z ≡ sizes_in (stream_in f)
  pub shape : Shape f
  pub blocks : (n : ℕ) → n < length f / 512 → block_good f (length f / 512) n ≡ true
  pub rows : Rows (stream_in f) (length f / 512) (inputs_in (stream_in f)) (outputs_in (stream_in f)) (states_in (stream_in f))

-- an answer that is no refusal passed the test before it
tested : {A : Type 0} {a : A} (t : Bool) (number at : ℕ) (next : Answer A) → unless t (refuses number at) next ≡ gives a → (t ≡ true) × (next ≡ gives a)
tested true number at next e = (refl, e)
tested false number at next e = absurd (let z : ◌≡◌ {A = ℕ} 0 1 = cc in omega arith)

module _ (f : List ℕ) (z : Sizes) where
  abbrev b : ℕ → ℕ
  b = stream_in f

  abbrev total : ℕ
  total = length f / 512

  pub sound : open_answer f ≡ gives z → Sound f z
  unfolding open_answer blocks_answer content_good
  sound e =
      let p = tested (length_good (length f)) _ _ (blocks_answer f total) e in
      let q = tested (every (block_good f total) total 0) _ _ _ p.1 in
      let r = tested (content_good b total) _ _ (gives (sizes_in b)) q.1 in
      let w = whole (length f) p.0 in
      let g = rows b total (inputs_in b) (outputs_in b) (states_in b) (both_right (sizes_good (inputs_in b) (outputs_in b) (states_in b)) _ r.0) in
      record {
        sizes = cc;
        shape = record {
          long = w.some;
          size = within (inputs_in b) (outputs_in b) (states_in b) (both_left (sizes_good (inputs_in b) (outputs_in b) (states_in b)) _ r.0);
          exact = exactly g.exact w.whole;
        };
        blocks = each_below (block_good f total) total q.0;
        rows = g;
      }
    where
      exactly : blocks_for (inputs_in b) (states_in b) ≡ total → length f % 512 ≡ 0 → length f ≡ 512 * blocks_for (inputs_in b) (states_in b)
      exactly c h = let l : length f ≡ 512 * total = omega arith in l ∙ ap (λ (x : ℕ). 512 * x) (sym c)

  pub opens : Sound f z → open_answer f ≡ gives z
  unfolding open_answer blocks_answer content_good
  opens s =
      simp (
        shape_long s.shape,
        all-below (block_good f total) total s.blocks,
        sizes-good s.shape.size,
        rows-good b total (inputs_in b) (outputs_in b) (states_in b) s.rows,
      ) (ap gives (sym s.sizes))

  pub sound-fits : open_answer f ≡ gives z → Fits (table_in (stream_in f))
  unfolding table_in
  sound-fits e =
      let s = sound e in
      let w = s.shape.size in
      let l = rows_in b in
      record {
        inputs = w.inputs;
        outputs = w.outputs;
        some = rw l w.some;
        states = rw l w.states;
        each = λ state h. let g = rw l at h in rw (row_in_lem b state g) (record {
          clear = s.rows.clear state g;
          wide = length-listed (next_at b (inputs_in b) state) (2 ^ inputs_in b) 0;
          inside = λ input i. rw (nexts_in b state input i, l) (s.rows.inside state input g i);
        });
      }
