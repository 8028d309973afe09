-- The laws of the readers: the parentheses of a call, a list of statements, a parallel, and a body.
-- Assumes nothing.
use mathlib.Core.Bool.{true, false}
use mathlib.Core.Path.{◌≡◌}
use mathlib.Core.List.{List, [], ◌∷◌}
use mathlib.Core.Option.{some}
use Prim.Native.Nat.{ℕ, ◌+◌, ◌≤◌, ◌<◌, max, min}
use native.Mathlib.Omega.{arith}
use native.Mathlib.Decide.{ℕ_discrete}
use lib.ListN.{length}
use Rattle.language.specs.Words.{Word}
use Rattle.words.specs.Runs.{part}
use Rattle.hand.specs.declared.Here.{Here}
use Rattle.hand.specs.Along.{Stands, Near, Begins}
use Rattle.wides_law.specs.Wides.{calm, calling, Around, Acts, walk}
use Rattle.wides.specs.declared.Counted.{Counted}
use Rattle.wides.specs.declared.Passed.{Passed}
use Rattle.wides.specs.Fill.{ends_list, calls_by, closes_by, open_by, begun_by, wide_in, Leads, acts, PassedOver, ListCounted, ParallelCounted, BodyCounted}
use Rattle.wides.proofs.Sorts.{within, past_end, calls_are, closes_are, open_low, begun-low}
use Rattle.wides.proofs.Leading.{none-some, leads-here, leads_then, past_on, last-count, last_on, begins_on, parts_on, ends_on, parts-alone, ends-alone, name_on, open_on, plain_on, close_on, inside_on}

-- ---- the parentheses of a call

-- so many are open inside them at the word in hand, and so many actuals are begun
pub record Passing (s : List ℕ) (first h : Here) (d c : ℕ) : Type 0 where
  pub near : Near s h
  pub later : first.place ≤ h.place
  pub few : d ≤ h.place
  pub small : c ≤ h.place
  pub leads : (wide_of : List ℕ → ℕ → ℕ) (y : List ℕ) (a : Acts) → Leads wide_of s (calling y 0 0) a first (calling y d c) a h

module _ {s : List ℕ} where
  -- the text left falls
  pub further : {h v : Here} → h.kind ≤ 62 → Near s h → Begins s h.next v → h.place < v.place
  further k n b = omega (arith, n.more (omega arith), b.later)

  pub passing-start : {h : Here} → Near s h → Passing s h h 0 0
  passing-start n = record { near = n; later = omega arith; few = omega arith; small = omega arith; leads = λ wide_of y a. leads-here }

  module _ {first h : Here} {d c : ℕ} (g : Passing s first h d c) where
    pub passing_over : 62 < h.kind → PassedOver s first (record { word = h; count = c })
    passing_over k = record { near = g.near; later = g.later; leads = λ wide_of y a. leads_then (g.leads wide_of y a) (past_on k) }

    pub passing-close : {v : Here} → Begins s h.next v → closes_by h.kind d ≡ true → PassedOver s first (record { word = v; count = c })
    passing-close b e =
        record {
          near = b.near;
          later = omega (arith, g.later, g.near.on, b.later);
          leads = λ wide_of y a. leads_then (g.leads wide_of y a) (close_on b (closes_are e));
        }

    pub passing_on : {v : Here} → h.kind ≤ 62 → Begins s h.next v → closes_by h.kind d ≡ false → Passing s first v (open_by h.kind d) (begun_by h.kind d c)
    passing_on k b e =
        record {
          near = b.near;
          later = omega (arith, g.later, further k g.near b);
          few = omega (arith, g.few, further k g.near b, open_low h.kind d);
          small = omega (arith, g.small, further k g.near b, begun-low h.kind d c);
          leads = λ wide_of y a. leads_then (g.leads wide_of y a) (inside_on b e);
        }

-- ---- a list of statements

-- so many activities are known at the word in hand
pub record Listing (s z : List ℕ) (n : ℕ) (first : Here) (here : ℕ) (h : Here) (m : ℕ) : Type 0 where
  pub near : Near s h
  pub later : first.place ≤ h.place
  pub leads : (os : List Around) → Leads (wide_in s z n) s calm (acts here os) first calm (acts m os) h

-- branches were read behind the first, and so many activities are in all but the last of them
pub record Branching (s z : List ℕ) (n here : ℕ) (q r : Counted) (sum : ℕ) : Type 0 where
  pub near : Near s r.word
  pub later : q.word.place ≤ r.word.place
  pub ends : ends_list r.word.kind ≡ true
  pub leads : (os : List Around) → Leads (wide_in s z n) s calm (acts q.acts (record { before = here; sum = 0 } ∷ os)) q.word calm (acts r.acts (record { before = here; sum = sum } ∷ os)) r.word

-- lists of a body were read behind the first
pub record Bodied (s z : List ℕ) (n : ℕ) (q r : Counted) : Type 0 where
  pub near : Near s r.word
  pub ends : ends_list r.word.kind ≡ true
  pub leads : Leads (wide_in s z n) s calm (acts q.acts []) q.word calm (acts r.acts []) r.word

-- a word later the text left is less
pub record Forward (s : List ℕ) (first h v : Here) : Type 0 where
  pub whole : first.place < v.place
  pub own : h.place < v.place
  pub room : h.place < length s

module _ {s z : List ℕ} {n : ℕ} where
  pub listing_start : {h : Here} {here : ℕ} → Near s h → Listing s z n h here h here
  listing_start k = record { near = k; later = omega arith; leads = λ os. leads-here }

  module _ {first h : Here} {here m : ℕ} (g : Listing s z n first here h m) where
    pub listing_ends : ends_list h.kind ≡ true → ListCounted s z n first here (record { word = h; acts = m })
    listing_ends e = record { near = g.near; later = g.later; ends = e; leads = g.leads }

    module _ {v : Here} (b : Begins s h.next v) where
      pub listing_forward : ends_list h.kind ≡ false → Forward s first h v
      listing_forward e =
          let k = g.near.more (within h.kind e).known in
          record { whole = omega (arith, k, g.later, b.later); own = omega (arith, k, b.later); room = omega (arith, k, g.near.inside) }

      pub listing_parallel : {r : Counted} → h.kind ≡ 54 → ParallelCounted s z n v m r → Listing s z n first here r.word r.acts
      listing_parallel e p =
          record {
            near = p.near;
            later = omega (arith, g.later, g.near.on, b.later, p.later);
            leads = λ os. leads_then (g.leads os) (leads_then (begins_on b e) (p.leads os));
          }

      pub listing_call : {u : Here} {r : Passed} {x y : ℕ} → calls_by h.kind v.kind ≡ true → Begins s v.next u → PassedOver s u r
          → x ≡ wide_in s z n (part s h.place h.next) r.count → y ≡ max m x → Listing s z n first here r.word y
      listing_call {u} {r} {x} {y} e d p i j =
          record {
            near = p.near;
            later = omega (arith, g.later, g.near.on, b.later, b.near.on, d.later, p.later);
            leads = λ os.
                rw (j, i) (leads_then (g.leads os) (leads_then (name_on b (calls_are e).name) (leads_then (open_on d (calls_are e).opens) (p.leads (wide_in s z n) (part s h.place h.next) (acts m os)))));
          }

      pub listing_word : ends_list h.kind ≡ false → ¬ (h.kind ≡ 54) → calls_by h.kind v.kind ≡ false → Listing s z n first here v m
      listing_word e f c = record { near = b.near; later = omega (arith, g.later, g.near.on, b.later); leads = λ os. leads_then (g.leads os) (plain_on b (within h.kind e) f c) }

  -- ---- a parallel

  pub branching_start : {first : Here} {m here : ℕ} {r : Counted} → ListCounted s z n first m r → Branching s z n here r r 0
  branching_start p = record { near = p.near; later = omega arith; ends = p.ends; leads = λ os. leads-here }

  module _ {here sum : ℕ} {q r : Counted} (g : Branching s z n here q r sum) where
    pub branching_forward : {first v : Here} → ListCounted s z n first 1 q → Begins s r.word.next v → r.word.kind ≡ 2 → Forward s first r.word v
    branching_forward l b e =
        let k = g.near.more (omega (arith, e)) in
        record { whole = omega (arith, k, l.later, g.later, b.later); own = omega (arith, k, b.later); room = omega (arith, k, g.near.inside) }

    pub branching_ends : {first v : Here} {x y : ℕ} → ListCounted s z n first 1 q → Begins s r.word.next v → r.word.kind ≡ 55 → x ≡ min (sum + r.acts) 9 → y ≡ max here x → ParallelCounted s z n first here (record { word = v; acts = y })
    branching_ends l b e i j =
        record {
          near = b.near;
          later = omega (arith, l.later, g.later, g.near.on, b.later);
          leads = λ os. rw (j, i) (leads_then (l.leads (record { before = here; sum = 0 } ∷ os)) (leads_then (g.leads os) (ends_on b e)));
        }

    -- `endproc` or the end of the words: no parallel is open any more
    pub branching_stops : {first : Here} → ListCounted s z n first 1 q → ¬ (r.word.kind ≡ 55) → ¬ (r.word.kind ≡ 2) → ParallelCounted s z n first here r
    branching_stops l e f =
        record {
          near = g.near;
          later = omega (arith, l.later, g.later);
          leads = λ os. leads_then (l.leads (record { before = here; sum = 0 } ∷ os)) (leads_then (g.leads os) (go os (ℕ_discrete r.word.kind 57)));
        }
      where
        go : (os : List Around) → Dec (r.word.kind ≡ 57) → Leads (wide_in s z n) s calm (acts r.acts (record { before = here; sum = sum } ∷ os)) r.word calm (acts r.acts os) r.word
        go os (yes i) = last_on i
        go os (no i) = past_on (past_end r.word.kind g.ends f e i)

    pub branching_on : {v : Here} {p : Counted} {x : ℕ} → Begins s r.word.next v → r.word.kind ≡ 2 → x ≡ min (sum + r.acts) 9 → ListCounted s z n v 1 p → Branching s z n here q p x
    branching_on b e i l =
        record {
          near = l.near;
          later = omega (arith, g.later, g.near.on, b.later, l.later);
          ends = l.ends;
          leads = λ os. rw i (leads_then (g.leads os) (leads_then (parts_on b e) (l.leads (record { before = here; sum = min (sum + r.acts) 9 } ∷ os))));
        }

  -- ---- a body

  pub bodied_start : {first : Here} {m : ℕ} {r : Counted} → ListCounted s z n first m r → Bodied s z n r r
  bodied_start p = record { near = p.near; ends = p.ends; leads = leads-here }

  module _ {q r : Counted} (g : Bodied s z n q r) where
    pub bodied_ends : {first : Here} → ListCounted s z n first 1 q → 55 < r.word.kind → BodyCounted s z n first r.acts
    unfolding walk
    bodied_ends l k = record { told = λ ws t m e. let (rest, t₁, e₁) = (leads_then (l.leads []) g.leads).goes ws t m e in go rest t₁ m e₁ (ℕ_discrete r.word.kind 57) }
      where
        go : (ws : List Word) → Stands s r.word ws → (m : ℕ) → walk (wide_in s z n) calm (acts r.acts []) ws ≡ some m → Dec (r.word.kind ≡ 57) → r.acts ≡ m
        go ws t m e (yes i) = last-count (wide_in s z n) s r.word r.acts [] i ws t m e
        go [] t m e (no i) = none-some e
        go (w ∷ ws) t m e (no i) = absurd (omega (arith, t.0.known, past_end r.word.kind g.ends (λ q. omega arith) (λ q. omega arith) i))

    pub bodied_forward : {v : Here} → Begins s r.word.next v → r.word.kind ≤ 55 → Forward s r.word r.word v
    bodied_forward b e =
        let k = g.near.more (omega (arith, e)) in
        record { whole = omega (arith, k, b.later); own = omega (arith, k, b.later); room = omega (arith, k, g.near.inside) }

    pub bodied_on : {v : Here} {p : Counted} → Begins s r.word.next v → r.word.kind ≤ 55 → ListCounted s z n v r.acts p → Bodied s z n q p
    bodied_on {v} {p} b k l = record { near = l.near; ends = l.ends; leads = leads_then g.leads (leads_then (go (ℕ_discrete r.word.kind 2) (ℕ_discrete r.word.kind 55)) (l.leads [])) }
      where
        go : Dec (r.word.kind ≡ 2) → Dec (r.word.kind ≡ 55) → Leads (wide_in s z n) s calm (acts r.acts []) r.word calm (acts r.acts []) v
        go (yes i) d = parts-alone b i
        go (no i) (yes j) = ends-alone b j
        go (no i) (no j) = absurd (omega (arith, past_end r.word.kind g.ends i j (λ q. omega arith)))
