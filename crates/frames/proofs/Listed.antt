-- The laws of a list of formals: one for each word that is met.
-- Assumes nothing.
use mathlib.Core.Bool.{Bool, true, false, cond, not}
use mathlib.Core.Path.{◌≡◌, refl, sym, ◌∙◌, ap}
use mathlib.Core.List.{List, []}
use mathlib.Core.Option.{Option, none, some}
use Prim.Native.Nat.{ℕ, zero, suc, ◌+◌, ◌-◌, ◌≤◌, ◌<◌}
use native.Mathlib.Omega.{arith}
use lib.Dec.{eqb}
use lib.ListN.{length}
use borrow.Author.Tests.{ne_eqb}
use Rattle.meaning.specs.Declared.{same_bytes}
use Rattle.language.specs.Words.{bytes, same, signs, reserved}
use Rattle.language.specs.Scan as Scan
use Rattle.language.specs.Scan.{next_word}
use Rattle.words.specs.Kinds.{spellings, numbered, kind_count}
use Rattle.words.specs.Runs.{part}
use Rattle.words.specs.Meaning.{word_in, Answers}
use Rattle.words.specs.declared.Word as scanned
use Rattle.words.specs.declared.Next.{Next}
use Rattle.words.specs.declared.Next.TheVariants.{Found, Stops, Over}
use Rattle.words.proofs.Walk.{sound, behind_is}
use Rattle.names.proofs.Same.{same_bytes_lem}
use Rattle.hand.proofs.Chosen.{up_to, up_to_lem}
use Rattle.frames_law.specs.Frames.{bytes_of}
use Rattle.frames.specs.Layout.{is_name, is_comma, name_next, comma_next, past_next, past_word, formals_from, most_formals, formals_at, close_from, body_from}
use Rattle.frames.specs.declared.list.Listed.{Listed}
use Rattle.frames.specs.List.{Lists, index_from, index_in}

-- ---- a word of the list

agree : Bool → Bool → Bool
agree a b = cond a b (not b)

agreed : (a b : Bool) → agree a b ≡ true → a ≡ b
unfolding agree
agreed true true e = refl
agreed true false e = sym e
agreed false true e = e
agreed false false e = refl

name-kind : (k : ℕ) → eqb k 0 ≡ is_name (numbered k)
unfolding numbered
name-kind zero = refl
name-kind (suc zero) = refl
name-kind (suc (suc k)) = ne_eqb (suc (suc k)) 0 (λ e. absurd (omega arith))

all_commas : up_to (λ k. agree (eqb k 13) (is_comma (numbered k))) kind_count ≡ true
unfolding up_to agree numbered spellings signs reserved bytes same
all_commas = refl

comma-kind : (k : ℕ) → k < kind_count → eqb k 13 ≡ is_comma (numbered k)
comma-kind k h = agreed (eqb k 13) (is_comma (numbered k)) (up_to_lem (λ k. agree (eqb k 13) (is_comma (numbered k))) kind_count k all_commas h)

nothing : (s : List ℕ) → part s 0 0 ≡ []
unfolding part
nothing s = refl

module _ {s : List ℕ} {from : ℕ} {r : Next} (x : Answers s from r) where
  pub lists-found : {w : scanned.Word} → r ≡ Found w → Lists s (next_word s from) (record { name = eqb w.kind 0; comma = eqb w.kind 13; start = w.start; end = w.end; past = w.end })
  unfolding name_next comma_next past_next bytes_of
  lists-found {w} e =
      let q : Scan.found (word_in s w) ≡ next_word s from = rw e at x.says in
      rw (← q) (record { name = name-kind w.kind; comma = comma-kind w.kind (sound x e).known; bytes = refl; past = sym (behind_is (sound x e)) })

  pub lists-stop : {p : ℕ} → r ≡ Stops p → Lists s (next_word s from) (record { name = false; comma = false; start = 0; end = 0; past = p })
  unfolding name_next comma_next past_next bytes_of
  lists-stop {p} e =
      let q : Scan.stops p ≡ next_word s from = rw e at x.says in
      rw (← q) (record { name = refl; comma = refl; bytes = nothing s; past = refl })

  pub lists_over : r ≡ Over → Lists s (next_word s from) (record { name = false; comma = false; start = 0; end = 0; past = 0 })
  unfolding name_next comma_next past_next bytes_of
  lists_over e =
      let q : Scan.over ≡ next_word s from = rw e at x.says in
      rw (← q) (record { name = refl; comma = refl; bytes = nothing s; past = refl })

-- ---- one formal after the other

module _ (s x : List ℕ) (m from i : ℕ) (o : Option ℕ) where
  abbrev At : ℕ → Type 0
  At n = index_from s (formals_from n s from) x i ≡ o

  pub list-none : i < m → name_next (next_word s from) ≡ false → At (m - i) → none ≡ o
  unfolding formals_from index_from
  list-none h a q = go (m - i) (omega arith) q
    where
      go : (n : ℕ) → 0 < n → At n → none ≡ o
      go zero h q = absurd (omega arith)
      go (suc n) h q = rw a at q

  pub list-here : i < m → name_next (next_word s from) ≡ true → same_bytes (bytes_of (next_word s from)) x ≡ true → At (m - i) → some i ≡ o
  unfolding formals_from index_from
  list-here h a b q = go (m - i) (omega arith) q
    where
      go : (n : ℕ) → 0 < n → At n → some i ≡ o
      go zero h q = absurd (omega arith)
      go (suc n) h q = rw (a, b) at q

  pub list-last : i < m → name_next (next_word s from) ≡ true → same_bytes (bytes_of (next_word s from)) x ≡ false → comma_next (next_word s (past_word s from)) ≡ false → At (m - i) → none ≡ o
  unfolding formals_from index_from
  list-last h a b d q = go (m - i) (omega arith) q
    where
      go : (n : ℕ) → 0 < n → At n → none ≡ o
      go zero h q = absurd (omega arith)
      go (suc n) h q = rw (a, b, d) at q

  pub list_on : i < m → name_next (next_word s from) ≡ true → same_bytes (bytes_of (next_word s from)) x ≡ false → comma_next (next_word s (past_word s from)) ≡ true → At (m - i)
      → index_from s (formals_from (m - (i + 1)) s (past_word s (past_word s from))) x (i + 1) ≡ o
  unfolding formals_from index_from
  list_on h a b d q = go (m - i) (m - (i + 1)) (omega arith) q
    where
      go : (n l : ℕ) → n ≡ suc l → At n → index_from s (formals_from l s (past_word s (past_word s from))) x (i + 1) ≡ o
      go zero l h q = absurd (omega arith)
      go (suc n) l h q =
          let g : n ≡ l = omega arith in
          let j : i + 1 ≡ suc i = omega arith in
          rw (← g, j) (rw (a, b, d) at q)

  pub list_over : m ≤ i → At (m - i) → none ≡ o
  unfolding formals_from index_from
  list_over h q = go (m - i) (omega arith) q
    where
      go : (n : ℕ) → n ≡ 0 → At n → none ≡ o
      go zero h q = q
      go (suc n) h q = absurd (omega arith)

pub list-start : (s x : List ℕ) (p from : ℕ) → from ≡ past_word s (past_word s p) → index_from s (formals_from 8192 s from) x 0 ≡ index_in s (formals_at s p) x
unfolding formals_at
list-start s x p from e = rw e refl

-- ---- the same by what the code has

not-true : (b : Bool) → not b ≡ true → b ≡ false
not-true true e = sym e
not-true false e = refl

not-false : (b : Bool) → not b ≡ false → b ≡ true
not-false true e = refl
not-false false e = sym e

module _ (s : List ℕ) (m from i a b : ℕ) (o : Option ℕ) {v : Listed} (h : i < m) (l : Lists s (next_word s from) v) (q : index_from s (formals_from (m - i) s from) (part s a b) i ≡ o) where
  pub no_name_lem : not v.name ≡ true → none ≡ o
  no_name_lem e = list-none s (part s a b) m from i o h (sym l.name ∙ not-true v.name e) q

  is_name_lem : not v.name ≡ false → name_next (next_word s from) ≡ true
  is_name_lem e = sym l.name ∙ not-false v.name e

  by_bytes : {r t : Bool} → r ≡ same (part s v.start v.end) (part s a b) → r ≡ t → same_bytes (bytes_of (next_word s from)) (part s a b) ≡ t
  by_bytes f g = ap (λ (y : List ℕ). same_bytes y (part s a b)) (sym l.bytes) ∙ sym (same_bytes_lem (part s v.start v.end) (part s a b)) ∙ sym f ∙ g

  pub here : {r : Bool} → not v.name ≡ false → r ≡ same (part s v.start v.end) (part s a b) → r ≡ true → some i ≡ o
  here e f g = list-here s (part s a b) m from i o h (is_name_lem e) (by_bytes f g) q

  module _ {c : Listed} (k : Lists s (next_word s v.past) c) {r : Bool} (e : not v.name ≡ false) (f : r ≡ same (part s v.start v.end) (part s a b)) (g : r ≡ false) where
    comma_is : {t : Bool} → c.comma ≡ t → comma_next (next_word s (past_word s from)) ≡ t
    comma_is d = ap (λ (p : ℕ). comma_next (next_word s p)) (sym l.past) ∙ sym k.comma ∙ d

    pub last : not c.comma ≡ true → none ≡ o
    last d = list-last s (part s a b) m from i o h (is_name_lem e) (by_bytes f g) (comma_is (not-true c.comma d)) q

    pub on : not c.comma ≡ false → index_from s (formals_from (m - (i + 1)) s c.past) (part s a b) (i + 1) ≡ o
    on d =
        let w : c.past ≡ past_word s (past_word s from) = k.past ∙ ap (past_word s) l.past in
        ap (λ (p : ℕ). index_from s (formals_from (m - (i + 1)) s p) (part s a b) (i + 1)) w ∙ list_on s (part s a b) m from i o h (is_name_lem e) (by_bytes f g) (comma_is (not-false c.comma d)) q

-- ---- counted, and passed

module _ (s : List ℕ) (m from i n b : ℕ) where
  -- so many are counted, and the rest is to be passed
  abbrev pub Passing : ℕ → Type 0
  Passing k = (i + length (formals_from k s from) ≡ n) × (close_from k s from ≡ b)

  module _ {v : Listed} (h : i < m) (l : Lists s (next_word s from) v) (q : Passing (m - i)) where
    pub pass_none : not v.name ≡ true → (i ≡ n) × (from ≡ b)
    unfolding formals_from close_from
    pass_none e = go (m - i) (omega arith) q
      where
        go : (k : ℕ) → 0 < k → Passing k → (i ≡ n) × (from ≡ b)
        go zero h q = absurd (omega arith)
        go (suc k) h q = let (x, y) = rw (sym l.name ∙ not-true v.name e) at q in (omega arith, y)

    module _ {c : Listed} (k : Lists s (next_word s v.past) c) (e : not v.name ≡ false) where
      pub pass_last : not c.comma ≡ true → (i + 1 ≡ n) × (v.past ≡ b)
      unfolding formals_from close_from
      pass_last d = go (m - i) (omega arith) q
        where
          go : (j : ℕ) → 0 < j → Passing j → (i + 1 ≡ n) × (v.past ≡ b)
          go zero h q = absurd (omega arith)
          go (suc j) h q = let (x, y) = rw (sym l.name ∙ not-false v.name e, ← l.past, sym k.comma ∙ not-true c.comma d) at q in (omega arith, y)

      pub pass_on : not c.comma ≡ false → (i + 1 + length (formals_from (m - (i + 1)) s c.past) ≡ n) × (close_from (m - (i + 1)) s c.past ≡ b)
      unfolding formals_from close_from
      pass_on d = go (m - i) (m - (i + 1)) (omega arith) q
        where
          go : (j a : ℕ) → j ≡ suc a → Passing j → (i + 1 + length (formals_from a s c.past) ≡ n) × (close_from a s c.past ≡ b)
          go zero a h q = absurd (omega arith)
          go (suc j) a h q =
              let g : a ≡ j = omega arith in
              let (x, y) = rw (sym l.name ∙ not-false v.name e, ← l.past, sym k.comma ∙ not-false c.comma d, ← k.past) at q in
              rw g (omega arith, y)

  pub pass_over : m ≤ i → Passing (m - i) → (i ≡ n) × (from ≡ b)
  unfolding formals_from close_from
  pass_over h q = go (m - i) (omega arith) q
    where
      go : (k : ℕ) → k ≡ 0 → Passing k → (i ≡ n) × (from ≡ b)
      go zero h q = let (x, y) = q in (omega arith, y)
      go (suc k) h q = absurd (omega arith)

pub pass_start : (s : List ℕ) (p from : ℕ) → from ≡ past_word s (past_word s p) → Passing s 8192 from 0 (length (formals_at s p)) (close_from most_formals s (past_word s (past_word s p))) 8192
unfolding formals_at
pass_start s p from e =
    let same : length (formals_from 8192 s from) ≡ length (formals_from 8192 s (past_word s (past_word s p))) = ap (λ (q : ℕ). length (formals_from 8192 s q)) e in
    (omega arith, ap (close_from 8192 s) e)

pub body_at : (s : List ℕ) (p q r : ℕ) → r ≡ past_next (next_word s q) → q ≡ close_from most_formals s (past_word s (past_word s p)) → r ≡ body_from s p
unfolding body_from
body_at s p q r e h = e ∙ ap (past_word s) h
