-- The index: a walk that ends at an empty slot has met no such state, and a state put in there is found from then on.
-- Assumes nothing.
use mathlib.Core.Path.{◌≡◌, sym, ap, ◌∙◌}
use mathlib.Core.Logic.{◌⊎◌, inl, inr}
use mathlib.Core.List.{List}
use Prim.Native.Nat.{ℕ, ◌+◌, ◌*◌, ◌<◌, ◌≤◌}
use native.Mathlib.Omega.{arith}
use native.Mathlib.Nat.{eq-or-lt_of_le}
use Rattle.file_law.specs.Bytes.{word2, bytes_of}
use Rattle.clock.specs.declared.State.{State}
use Rattle.rows.specs.Area.{homes, slots, most_rows, slot_in, row_at, row_in, next_at, next_in, hash_of, Changed}
use Rattle.index.specs.Indexed.{Stands, Indexed, Free, Added}
use Rattle.std.proofs.lemmas.Bool.{cases_lt}
use borrow.Author.Count.{below_more}
use Rattle.rows.proofs.Changes.{word2-before, word2-behind}
use Rattle.rows.proofs.Rows.{row_before, row-behind}

-- ---- a walk

-- slots from the hash up to j are filled, and none of them holds s
pub record Walked (l : List ℕ) (n : ℕ) (s : State) (j v : ℕ) : Type 0 where
  pub from : hash_of s ≤ j
  pub below : j < homes + n
  pub here : v ≡ slot_in l j
  pub filled : (e : ℕ) → hash_of s ≤ e → e < j → ¬ (slot_in l e ≡ 0)
  pub others : (e i : ℕ) → hash_of s ≤ e → e < j → slot_in l e ≡ i + 1 → ¬ (row_in l i ≡ s)

pub walk_start : {l : List ℕ} {n : ℕ} (s : State) {h v : ℕ} → h ≡ hash_of s → h < homes → v ≡ word2 (bytes_of l) (2 * h) → Walked l n s h v
unfolding slot_in
walk_start s e b w =
    record { from = omega arith; below = omega arith; here = w; filled = λ j p q. absurd (omega arith); others = λ j i p q. absurd (omega arith) }

module _ {l : List ℕ} {n : ℕ} {s : State} {j v : ℕ} (x : Indexed l n) (w : Walked l n s j v) where
  -- at a filled slot: there is one more
  pub not_last : ¬ (v ≡ 0) → j + 1 < homes + n
  not_last h = go (cases_lt (j + 1) (homes + n))
    where
      go : (j + 1 < homes + n) ⊎ (homes + n ≤ j + 1) → j + 1 < homes + n
      go (inl k) = k
      go (inr k) = absurd (h (w.here ∙ x.clear j k (omega (arith, w.below, x.few))))

  pub in_rows : ¬ (v ≡ 0) → v ≤ n
  in_rows h = omega (arith, w.here, x.sound j (omega (arith, w.below, x.few)))

  pub walk_on : (i k : ℕ) → ¬ (v ≡ 0) → v ≡ i + 1 → ¬ (row_in l i ≡ s) → k ≡ word2 (bytes_of l) (2 * (j + 1)) → Walked l n s (j + 1) k
  unfolding slot_in
  walk_on i k nz is other next =
      record {
        from = omega (arith, w.from);
        below = not_last nz;
        here = next;
        filled = λ e p q. go_filled e p (eq-or-lt_of_le (omega arith));
        others = λ e d p q. go_others e d p (eq-or-lt_of_le (omega arith));
      }
    where
      go_filled : (e : ℕ) → hash_of s ≤ e → (e ≡ j) ⊎ (e < j) → ¬ (slot_in l e ≡ 0)
      go_filled e p (inl q) z = nz (w.here ∙ ap (slot_in l) (sym q) ∙ z)
      go_filled e p (inr q) z = w.filled e p q z

      go_others : (e d : ℕ) → hash_of s ≤ e → (e ≡ j) ⊎ (e < j) → slot_in l e ≡ d + 1 → ¬ (row_in l d ≡ s)
      go_others e d p (inl q) z r =
          let y : slot_in l j ≡ d + 1 = ap (slot_in l) (sym q) ∙ z in
          let same : d ≡ i = omega (arith, w.here) in
          other (ap (row_in l) (sym same) ∙ r)
      go_others e d p (inr q) z r = w.others e d p q z r

  -- at an empty one: s is not there
  pub walk-done : v ≡ 0 → Free l n s j
  walk-done z =
      record { absent = absent; from = w.from; below = w.below; free = sym w.here ∙ z; filled = w.filled }
    where
      absent : (i : ℕ) → i < n → ¬ (row_in l i ≡ s)
      absent i h e = go (cases_lt t.at j)
        where
          t : Stands l (hash_of (row_in l i)) i
          t = x.whole i h

          home : hash_of (row_in l i) ≡ hash_of s
          home = ap hash_of e

          go : (t.at < j) ⊎ (j ≤ t.at) → ⊥
          go (inl k) = w.others t.at i (omega (arith, t.from, home)) k t.here e
          go (inr k) = go_on (eq-or-lt_of_le k)
            where
              go_on : (j ≡ t.at) ⊎ (j < t.at) → ⊥
              go_on (inl q) = let y : slot_in l j ≡ i + 1 = ap (slot_in l) q ∙ t.here in omega (arith, w.here)
              go_on (inr q) = t.filled j (omega (arith, w.from, home)) q (sym w.here ∙ z)

-- ---- a state is put in

module _ {l k m : List ℕ} {n j : ℕ} {s : State} (x : Indexed l n) (few : n < most_rows) (f : Free l n s j)
    (c : Changed (2 * j) (2 * j + 2) l k) (is : word2 (bytes_of k) (2 * j) ≡ n + 1)
    (d : Changed (row_at n) (row_at (n + 1)) k m) (row : row_in m n ≡ s) where
  inside : j < slots
  inside = omega (arith, f.below)

  slot_here : slot_in m j ≡ n + 1
  unfolding slot_in
  slot_here = word2-before d (2 * j) (omega (arith, inside)) ∙ is

  slot_low : (e : ℕ) → e < j → slot_in m e ≡ slot_in l e
  unfolding slot_in
  slot_low e h = word2-before d (2 * e) (omega (arith, inside)) ∙ word2-before c (2 * e) (omega arith)

  slot_high : (e : ℕ) → j < e → e < slots → slot_in m e ≡ slot_in l e
  unfolding slot_in
  slot_high e h b = word2-before d (2 * e) (omega arith) ∙ word2-behind c (2 * e) (omega arith)

  data Place (e : ℕ) : Type 0 where
    is_here : e ≡ j → Place e
    is_other : ¬ (e ≡ j) → slot_in m e ≡ slot_in l e → Place e

  place : (e : ℕ) → e < slots → Place e
  place e b = go (cases_lt e j)
    where
      on : (j ≡ e) ⊎ (j < e) → Place e
      on (inl q) = is_here (sym q)
      on (inr q) = is_other (λ z. omega arith) (slot_high e q b)

      go : (e < j) ⊎ (j ≤ e) → Place e
      go (inl h) = is_other (λ z. omega arith) (slot_low e h)
      go (inr h) = on (eq-or-lt_of_le h)

  row_old : (i : ℕ) → i < n → row_in m i ≡ row_in l i
  row_old i h = row_before d i (omega arith) ∙ row-behind c i (omega (arith, inside))

  next-old : (i y : ℕ) → next_in m i y ≡ next_in l i y
  unfolding next_in
  next-old i y = d.behind (next_at i y) (omega arith) ∙ c.behind (next_at i y) (omega (arith, inside))

  filled-still : (e : ℕ) → e < slots → ¬ (slot_in l e ≡ 0) → ¬ (slot_in m e ≡ 0)
  filled-still e b h z = go (place e b)
    where
      go : Place e → ⊥
      go (is_here q) = let y : slot_in m j ≡ 0 = ap (slot_in m) (sym q) ∙ z in omega (arith, slot_here)
      go (is_other ne q) = h (sym q ∙ z)

  clear : (e : ℕ) → homes + (n + 1) ≤ e + 1 → e < slots → slot_in m e ≡ 0
  clear e h b = go (place e b)
    where
      go : Place e → slot_in m e ≡ 0
      go (is_here q) = absurd (omega (arith, f.below))
      go (is_other ne q) = q ∙ x.clear e (omega arith) b

  sound : (e : ℕ) → e < slots → slot_in m e ≤ n + 1
  sound e b = go (place e b)
    where
      go : Place e → slot_in m e ≤ n + 1
      go (is_here q) = let y : slot_in m e ≡ n + 1 = ap (slot_in m) q ∙ slot_here in omega arith
      go (is_other ne q) = omega (arith, x.sound e b)

  old-stands : (i : ℕ) → i < n → Stands m (hash_of (row_in m i)) i
  old-stands i h =
      let t = x.whole i h in
      let home : hash_of (row_in m i) ≡ hash_of (row_in l i) = ap hash_of (row_old i h) in
      record {
        at = t.at;
        from = omega (arith, t.from);
        inside = t.inside;
        here = go t (place t.at t.inside);
        filled = λ e p q. filled-still e (omega (arith, t.inside)) (t.filled e (omega arith) q);
      }
    where
      go : (t : Stands l (hash_of (row_in l i)) i) → Place t.at → slot_in m t.at ≡ i + 1
      go t (is_here q) = absurd (let y : slot_in l j ≡ i + 1 = ap (slot_in l) (sym q) ∙ t.here in omega (arith, f.free))
      go t (is_other ne q) = q ∙ t.here

  new-stands : Stands m (hash_of (row_in m n)) n
  new-stands =
      let home : hash_of (row_in m n) ≡ hash_of s = ap hash_of row in
      record {
        at = j;
        from = omega (arith, f.from);
        inside = inside;
        here = slot_here;
        filled = λ e p q. filled-still e (omega (arith, inside)) (f.filled e (omega arith) q);
      }

  pub added : Added l n s m
  added =
      record {
        indexed =
            record {
              long = omega (arith, x.long, c.long, d.long);
              few = omega arith;
              clear = clear;
              sound = sound;
              whole = below_more (λ (i : ℕ). Stands m (hash_of (row_in m i)) i) n old-stands new-stands;
            };
        long = d.long ∙ c.long;
        new = row;
        old = row_old;
        nexts = next-old;
      }
