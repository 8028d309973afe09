-- A state in its row: what makes two one, what tells them apart, and what stays.
-- Assumes nothing.
use mathlib.Core.Path.{◌≡◌, refl, sym, ap, ◌∙◌}
use mathlib.Core.List.{List}
use Prim.Native.Nat.{ℕ, ◌+◌, ◌*◌, ◌<◌, ◌≤◌}
use lib.ListN.{length, get_or, set}
use lib.Seq.{ext_get_or, get_or-set_same, get_or-set_other}
use native.Mathlib.Omega.{arith}
use borrow.Author.Count.{below_more}
use Rattle.file_law.specs.Bytes.{word2, word4, bytes_of}
use Rattle.file_law.proofs.Every.{length-listed, get_or-listed}
use Rattle.runs.specs.Run.{empty}
use Rattle.runs.specs.declared.Entry.{Entry}
use Rattle.clock.specs.declared.State.{State}
use Rattle.rows.specs.Area.{row_at, entry_in, row_in, Changed}
use Rattle.rows.proofs.Changes.{changed_then, changed-set, word2-before, word2-behind, word4-before, word4-behind}

same_entry_lem : {p q a b : ℕ} → p ≡ q → a ≡ b → ◌≡◌ {A = Entry} (record { place = p; left = a }) (record { place = q; left = b })
same_entry_lem e f = λ i. record { place = e i; left = f i }

-- the first e entries stand in the row that begins at `at`
pub record Begun (l : List ℕ) (at : ℕ) (es : List Entry) (e : ℕ) : Type 0 where
  pub entry : (j : ℕ) → j < e → entry_in l at j ≡ get_or es j empty

pub begun_more : {l : List ℕ} {at : ℕ} {es : List Entry} {e : ℕ} → Begun l at es e
    → word2 (bytes_of l) (at + 2 * e) ≡ (get_or es e empty).place → get_or l (at + 16 + e) 0 ≡ (get_or es e empty).left → Begun l at es (e + 1)
begun_more {l} {at} {es} {e} b p q =
    record { entry = below_more (λ (j : ℕ). entry_in l at j ≡ get_or es j empty) e b.entry (same_entry_lem p q) }

module _ (l : List ℕ) (i : ℕ) where
  entry_at : (e : ℕ) → e < 8 → get_or (row_in l i).entries e empty ≡ entry_in l (row_at i) e
  unfolding row_in
  entry_at e h = get_or-listed (entry_in l (row_at i)) 8 0 empty e h ∙ ap (entry_in l (row_at i)) (let z : 0 + e ≡ e = omega arith in z)

  pub row-eight : length (row_in l i).entries ≡ 8
  unfolding row_in
  row-eight = length-listed (entry_in l (row_at i)) 8 0

  pub row_word : (row_in l i).word ≡ word4 (bytes_of l) (row_at i + 24)
  unfolding row_in
  row_word = refl

  -- all alike
  pub row_is : (s : State) (n : ℕ) → 8 ≤ n → length s.entries ≡ 8 → Begun l (row_at i) s.entries n → word4 (bytes_of l) (row_at i + 24) ≡ s.word → row_in l i ≡ s
  row_is s n all eight b w = λ j. record { entries = es j; word = (row_word ∙ w) j }
    where
      es : (row_in l i).entries ≡ s.entries
      es =
          ext_get_or empty (row_in l i).entries s.entries (row-eight ∙ sym eight)
          (λ e h. let k : e < 8 = omega (arith, row-eight) in entry_at e k ∙ b.entry e (omega arith))

  -- one that differs
  pub word_differs : (s : State) → ¬ (word4 (bytes_of l) (row_at i + 24) ≡ s.word) → ¬ (row_in l i ≡ s)
  word_differs s n e = n (sym row_word ∙ ap (λ (x : State). x.word) e)

  same_at : (s : State) (e : ℕ) → e < 8 → row_in l i ≡ s → entry_in l (row_at i) e ≡ get_or s.entries e empty
  same_at s e h q = sym (entry_at e h) ∙ ap (λ (x : State). get_or x.entries e empty) q

  pub place_differs : (s : State) (e : ℕ) → e < 8 → ¬ (word2 (bytes_of l) (row_at i + 2 * e) ≡ (get_or s.entries e empty).place) → ¬ (row_in l i ≡ s)
  place_differs s e h n q = n (ap (λ (x : Entry). x.place) (same_at s e h q))

  pub left_differs : (s : State) (e : ℕ) → e < 8 → ¬ (get_or l (row_at i + 16 + e) 0 ≡ (get_or s.entries e empty).left) → ¬ (row_in l i ≡ s)
  left_differs s e h n q = n (ap (λ (x : Entry). x.left) (same_at s e h q))

-- what stays
alike : (l k : List ℕ) (i : ℕ) → ((e : ℕ) → e < 8 → entry_in k (row_at i) e ≡ entry_in l (row_at i) e)
    → word4 (bytes_of k) (row_at i + 24) ≡ word4 (bytes_of l) (row_at i + 24) → row_in k i ≡ row_in l i
alike l k i p w = row_is k i (row_in l i) 8 (omega arith) (row-eight l i) (record { entry = λ e h. p e h ∙ sym (entry_at l i e h) }) (w ∙ sym (row_word l i))

module _ {from to : ℕ} {l k : List ℕ} (c : Changed from to l k) (i : ℕ) where
  pub row_before : row_at (i + 1) ≤ from → row_in k i ≡ row_in l i
  row_before h =
      alike l k i (λ e b. same_entry_lem (word2-before c (row_at i + 2 * e) (omega arith)) (c.before (row_at i + 16 + e) (omega arith)))
      (word4-before c (row_at i + 24) (omega arith))

  pub row-behind : to ≤ row_at i → row_in k i ≡ row_in l i
  row-behind h =
      alike l k i (λ e b. same_entry_lem (word2-behind c (row_at i + 2 * e) (omega arith)) (c.behind (row_at i + 16 + e) (omega arith)))
      (word4-behind c (row_at i + 24) (omega arith))

-- ---- a row is read

pub reading-more : {l : List ℕ} {at : ℕ} {es : List Entry} {e p q : ℕ} → Begun l at es e → e < 8 → length es ≡ 8
    → p ≡ word2 (bytes_of l) (at + 2 * e) → q ≡ get_or l (at + 16 + e) 0 → Begun l at (set es e (record { place = p; left = q })) (e + 1)
reading-more {l} {at} {es} {e} {p} {q} b h eight x y =
    record {
      entry =
          below_more (λ (j : ℕ). entry_in l at j ≡ get_or (set es e (record { place = p; left = q })) j empty) e
          (λ j k. b.entry j k ∙ sym (get_or-set_other es e j (record { place = p; left = q }) empty (λ z. omega arith)))
          (same_entry_lem (sym x) (sym y) ∙ sym (get_or-set_same es e (record { place = p; left = q }) empty (omega arith)));
    }

-- ---- a row is stored

pub record Storing (l₀ : List ℕ) (at : ℕ) (es : List Entry) (l : List ℕ) (e : ℕ) : Type 0 where
  pub on : e ≤ 8
  pub changed : Changed at (at + 24) l₀ l
  pub begun : Begun l at es e

pub storing_more : {l₀ : List ℕ} {at : ℕ} {es : List Entry} {l k : List ℕ} {e : ℕ} → Storing l₀ at es l e → e < 8 → at + 28 ≤ length l₀
    → Changed (at + 2 * e) (at + 2 * e + 2) l k → word2 (bytes_of k) (at + 2 * e) ≡ (get_or es e empty).place
    → Storing l₀ at es (set k (at + 16 + e) (get_or es e empty).left) (e + 1)
storing_more {l₀} {at} {es} {l} {k} {e} v h room c w =
    record {
      on = omega arith;
      changed =
          changed_then at (at + 24) (changed_then at (at + 24) v.changed c (omega arith) (omega arith) (omega arith) (omega arith)) d
          (omega arith) (omega arith) (omega arith) (omega arith);
      begun =
          begun_more
          (record {
            entry =
                λ j b.
                same_entry_lem
                (word2-before d (at + 2 * j) (omega arith) ∙ word2-before c (at + 2 * j) (omega arith))
                (d.before (at + 16 + j) (omega arith) ∙ c.behind (at + 16 + j) (omega arith))
                ∙ v.begun.entry j b;
          })
          (word2-before d (at + 2 * e) (omega arith) ∙ w)
          (get_or-set_same k (at + 16 + e) (get_or es e empty).left 0 (omega (arith, c.long, v.changed.long)));
    }
  where
    d : Changed (at + 16 + e) (at + 16 + e + 1) k (set k (at + 16 + e) (get_or es e empty).left)
    d = changed-set k (at + 16 + e) (get_or es e empty).left

pub stored : {l₀ : List ℕ} (i : ℕ) {l k : List ℕ} (s : State) {n : ℕ} → length s.entries ≡ 8 → 8 ≤ n → Storing l₀ (row_at i) s.entries l n
    → Changed (row_at i + 24) (row_at i + 24 + 4) l k → word4 (bytes_of k) (row_at i + 24) ≡ s.word → Changed (row_at i) (row_at (i + 1)) l₀ k × (row_in k i ≡ s)
stored {l₀} i {l} {k} s {n} eight all v c w = (
  changed_then (row_at i) (row_at (i + 1)) v.changed c (omega arith) (omega arith) (omega arith) (omega arith),
  row_is k i s n all eight
      (record {
        entry = λ j b. let h : j < 8 = omega (arith, v.on) in same_entry_lem (word2-before c (row_at i + 2 * j) (omega arith)) (c.before (row_at i + 16 + j) (omega arith)) ∙ v.begun.entry j b;
      })
      w,
)
