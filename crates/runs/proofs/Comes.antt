-- What runs one after the other over the buffer.
use mathlib.Core.Path.{◌≡◌, refl, sym, ap, ◌∙◌}
use mathlib.Core.Bool.{Bool, true, false}
use mathlib.Core.List.{List, [], ◌∷◌}
use Prim.Native.Nat.{ℕ, ◌+◌, ◌≤◌}
use native.Mathlib.Omega.{arith}
use lib.Bits.{bit_or}
use Rattle.meaning.specs.Tree.{Head}
use Rattle.meaning.specs.Clock.{Outcome, finishes, jumps, waits, done, stands, out, off, Branch, and_then, caught, looped, again, joined, entries_in as entries_of}
use Rattle.meaning.proofs.Places.{Places}
use Rattle.runs.specs.declared.Entry.{Entry}
use Rattle.runs.specs.declared.How.{How}
use Rattle.runs.specs.declared.Buffer.{Buffer}
use Rattle.runs.specs.declared.How.TheVariants.{Finished, Exit, Break, Waits, Stands}
use Rattle.runs.specs.Run.{Run, put, run, embed, then_run, looped_run, caught_run, closed_run, is_jump, is_waiting, join_from, latest}
use Rattle.runs.specs.Buffer.{gathers, Holds, Comes, Looked, Open, wiped, Wiped, Joins}
use Rattle.runs.specs.Seen.{then_seen, beside_seen}
use Rattle.runs.proofs.Embed.{place_at, then_is, looped_is, caught_is}
use Rattle.runs.proofs.Join.{or_assoc, Placed, join_is, clear-embed}
use Rattle.runs.proofs.Steps.{no_wait, no_more, gather_ones, gather-zeros, wiped_open, wiped-put}

-- the same, under other names
pub comes_as : {o p : Outcome} {ls ms b : ℕ} {l k : Buffer} {r : How} → p ≡ o → ms ≡ ls → Comes o ls b l k r → Comes p ms b l k r
comes_as {o} {p} {ls} {ms} {b} {l} {k} {r} e f C = rw (e, f) C

holds_as : {x y : Run} {p q : ℕ} {l : Buffer} {r : How} → x ≡ y → p ≡ q → Holds x p l r → Holds y q l r
holds_as {x} {y} {p} {q} {l} {r} e f H = rw (← e, ← f) H

-- ---- inputs are looked at

module _ {m : ℕ} {l k : Buffer} (L : Looked m l k) where
  pub comes_looked : {o : Outcome} {ls b : ℕ} {j : Buffer} {r : How} → Comes o ls b k j r → Comes o (bit_or m ls) b l j r
  comes_looked {o} {ls} {b} C =
      record { holds = holds_as (ap (embed o b) L.entries) (ap (λ (q : ℕ). bit_or q ls) L.mask ∙ or_assoc l.looked m ls) C.holds }

  pub looked_open : {b : ℕ} → Open l b → Open k b
  looked_open O = record { long = L.long; clear = rw L.entries O.clear }

-- ---- what o came to goes on

abbrev rank : How → ℕ
rank Finished = 0
rank Exit = 1
rank Break = 2
rank Waits = 3
rank Stands = 4

-- o, and p after it, which lies from the place of h to e
pub record Then (whole : Outcome) (all : ℕ) (o : Outcome) (now : ℕ) (p : Outcome) (next : ℕ) (h : Head) (e : ℕ) : Type 0 where
  pub is : whole ≡ and_then o p (place_at h e)
  pub seen : all ≡ then_seen o now next

-- the loop h, which goes on with its body at o, and starts as p
pub record Again (whole : Outcome) (all : ℕ) (o : Outcome) (now : ℕ) (p : Outcome) (next : ℕ) (h : Head) : Type 0 where
  pub is : whole ≡ again h p o
  pub seen : all ≡ then_seen o now next

seen_now : (o : Outcome) (ls ns : ℕ) → (o ≡ finishes → ⊥) → then_seen o ls ns ≡ ls
seen_now finishes ls ns n = absurd (n refl)
seen_now (jumps j) ls ns n = refl
seen_now (waits t a) ls ns n = refl

round : (h : Head) (p o : Outcome) → (o ≡ finishes → ⊥) → looped h o ≡ again h p o
round h p finishes n = absurd (n refl)
round h p (jumps i) n = refl
round h p (waits t a) n = refl

module _ {o : Outcome} {ls b : ℕ} {l k : Buffer} {r : How} (C : Comes o ls b l k r) where
  pub has_finished : r ≡ Finished → o ≡ finishes
  has_finished e = by o C.holds
    where
      by : (o : Outcome) → Holds (embed o b l.entries) (bit_or l.looked ls) k r → o ≡ finishes
      by finishes H = refl
      by (jumps out) H = absurd (omega (arith, ap rank (sym e ∙ H.how)))
      by (jumps off) H = absurd (omega (arith, ap rank (sym e ∙ H.how)))
      by (waits t done) H = absurd (omega (arith, ap rank (sym e ∙ H.how)))
      by (waits t (stands xs)) H = absurd (omega (arith, ap rank (sym e ∙ H.how)))

  pub not_finished : (r ≡ Finished → ⊥) → o ≡ finishes → ⊥
  not_finished n e = n (let H : Holds (embed finishes b l.entries) (bit_or l.looked ls) k r = rw e at C.holds in H.how)

  -- the entries are as before
  same_entries_lem : r ≡ Finished → k.entries ≡ l.entries
  same_entries_lem e = C.holds.entries ∙ ap (λ (x : Outcome). (embed x b l.entries).entries) (has_finished e)

  pub still_open : r ≡ Finished → Open l b → Open k b
  still_open e O = record { long = C.holds.long; clear = rw (same_entries_lem e) O.clear }

  pub next_open : {w : ℕ} → Places w o → Open l b → Open k (b + w)
  next_open {w} p O = record { long = C.holds.long; clear = rw C.holds.entries (clear-embed o w l.entries b p O.clear) }

  -- it finished, and next came to p
  runs_on : {p : Outcome} {ns : ℕ} {j : Buffer} {s : How} → r ≡ Finished → Comes p ns b k j s → Comes p (bit_or ls ns) b l j s
  runs_on {p} {ns} e N =
      record { holds = holds_as (ap (embed p b) (same_entries_lem e)) (ap (λ (q : ℕ). bit_or q ns) C.holds.mask ∙ or_assoc l.looked ls ns) N.holds }

  module _ {whole p : Outcome} {all ns e : ℕ} {h : Head} (T : Then whole all o ls p ns h e) {j : Buffer} {s : How} where
    pub comes_then : r ≡ Finished → Comes p ns b k j s → Comes whole all b l j s
    comes_then z N =
        let f = has_finished z in
        comes_as (T.is ∙ ap (λ (x : Outcome). and_then x p (place_at h e)) f) (T.seen ∙ ap (λ (x : Outcome). then_seen x ls ns) f) (runs_on z N)

    pub comes_on : (r ≡ Finished → ⊥) → ((x : Run) (q : ℕ) → Holds x q k r → Holds (then_run x b h.number e) q j s) → Comes whole all b l j s
    comes_on n f =
        let m = not_finished n in
        record { holds = holds_as (then_is o p h e b l.entries m ∙ ap (λ (x : Outcome). embed x b l.entries) (sym T.is)) (ap (bit_or l.looked) (sym (T.seen ∙ seen_now o ls ns m))) (f _ _ C.holds) }

  -- a loop's body
  module _ {whole p : Outcome} {all ns : ℕ} {h : Head} (T : Again whole all o ls p ns h) {j : Buffer} {s : How} where
    pub comes_again : r ≡ Finished → Comes p ns b k j s → Comes whole all b l j s
    comes_again z N =
        let f = has_finished z in
        comes_as (T.is ∙ ap (again h p) f) (T.seen ∙ ap (λ (x : Outcome). then_seen x ls ns) f) (runs_on z N)

    pub comes_round : (r ≡ Finished → ⊥) → ((x : Run) (q : ℕ) → Holds x q k r → Holds (looped_run x b h.number) q j s) → Comes whole all b l j s
    comes_round n f =
        let m = not_finished n in
        record { holds = holds_as (looped_is h o b l.entries ∙ ap (λ (x : Outcome). embed x b l.entries) (round h p o m ∙ sym T.is)) (ap (bit_or l.looked) (sym (T.seen ∙ seen_now o ls ns m))) (f _ _ C.holds) }

  pub comes_looped : {j : Buffer} {s : How} (h : Head) → ((x : Run) (q : ℕ) → Holds x q k r → Holds (looped_run x b h.number) q j s) → Comes (looped h o) ls b l j s
  comes_looped h f = record { holds = holds_as (looped_is h o b l.entries) refl (f _ _ C.holds) }

  pub comes_caught : {s : How} → ((x : Run) (q : ℕ) (j : Buffer) → Holds x q j r → Holds (caught_run x) q j s) → Comes (caught o) ls b l k s
  comes_caught f = record { holds = holds_as (caught_is o b l.entries) refl (f _ _ _ C.holds) }

-- ---- branches

-- the branch o of w activities, and the others
pub record Beside (whole : List Branch) (all w : ℕ) (o : Outcome) (now : ℕ) (bs : List Branch) (others : ℕ) : Type 0 where
  pub is : whole ≡ record { wide = w; outcome = o } ∷ bs
  pub seen : all ≡ beside_seen o now others

pub joins-none : {base : ℕ} {how : How} {ones zeros b : ℕ} {l k : Buffer} {r : How}
    → Holds (closed_run (run how l.entries ones zeros)) l.looked k r → Joins base how ones zeros b [] 0 l k r
unfolding join_from
joins-none H = record { holds = no_more H }

embedded : (o : Outcome) (b : ℕ) (es : List Entry) → (embed o b es).entries ≡ put es b (entries_of o)
unfolding put
embedded finishes b es = refl
embedded (jumps j) b es = refl
embedded (waits t done) b es = refl
embedded (waits t (stands xs)) b es = refl

beside_jump : (o : Outcome) (b : ℕ) (es : List Entry) (ls ns : ℕ) → is_jump (embed o b es).how ≡ true → beside_seen o ls ns ≡ ls
beside_jump finishes b es ls ns e = absurd (let z : ◌≡◌ {A = ℕ} 0 1 = cc in omega arith)
beside_jump (jumps j) b es ls ns e = refl
beside_jump (waits t done) b es ls ns e = absurd (let z : ◌≡◌ {A = ℕ} 0 1 = cc in omega arith)
beside_jump (waits t (stands xs)) b es ls ns e = absurd (let z : ◌≡◌ {A = ℕ} 0 1 = cc in omega arith)

beside_none : (o : Outcome) (b : ℕ) (es : List Entry) (ls ns : ℕ) → is_jump (embed o b es).how ≡ false → beside_seen o ls ns ≡ bit_or ls ns
beside_none finishes b es ls ns e = refl
beside_none (jumps out) b es ls ns e = absurd (let z : ◌≡◌ {A = ℕ} 0 1 = cc in omega arith)
beside_none (jumps off) b es ls ns e = absurd (let z : ◌≡◌ {A = ℕ} 0 1 = cc in omega arith)
beside_none (waits t a) b es ls ns e = refl

jump_small : (x : How) {r : How} → is_jump x ≡ true → r ≡ x → is_waiting r ≡ true → ⊥
jump_small Finished e q u = no_wait e
jump_small Exit e q u = no_wait (rw q at u)
jump_small Break e q u = no_wait (rw q at u)
jump_small Waits e q u = no_wait e
jump_small Stands e q u = no_wait e

same_base : {o : Outcome} {ls b : ℕ} {l k : Buffer} {r : How} → Comes o ls b l k r → (base : ℕ) → base ≤ b → wiped base k.entries ≡ wiped base l.entries
same_base {o} {ls} {b} {l} C base h = ap (wiped base) (C.holds.entries ∙ embedded o b l.entries) ∙ wiped-put (entries_of o) l.entries base b h

module _ {o : Outcome} {ls b : ℕ} {l k : Buffer} {r : How} (C : Comes o ls b l k r) {jump : Bool} (f : jump ≡ is_jump r) where
  jump_is : {t : Bool} → jump ≡ t → is_jump (embed o b l.entries).how ≡ t
  jump_is e = ap is_jump (sym C.holds.how) ∙ sym f ∙ e

  module _ {base : ℕ} (before : base ≤ b) {whole bs : List Branch} {all w ns : ℕ} (B : Beside whole all w o ls bs ns) where
    pub joins_jump : {how : How} {ones zeros : ℕ} {j : Buffer} → jump ≡ true → Wiped base k j → Joins base how ones zeros b whole all l j r
    unfolding join_from
    joins_jump {how} {ones} {zeros} {j} t W =
        let e : is_jump (embed o b l.entries).how ≡ true = jump_is t in
        let H : Holds (run (embed o b l.entries).how (wiped base l.entries) 0 0) (bit_or l.looked ls) j r = record { long = W.long; how = C.holds.how; entries = W.entries ∙ same_base C base before; tries = λ u. absurd (jump_small (embed o b l.entries).how e C.holds.how u); mask = W.mask ∙ C.holds.mask } in
        record { holds = rw (B.is, e) (holds_as refl (ap (bit_or l.looked) (sym (B.seen ∙ beside_jump o b l.entries ls ns e))) H) }

    pub joins-next : {how : How} {ones zeros : ℕ} {j : Buffer} {s then-how : How} {then-ones then-zeros : ℕ} → jump ≡ false
        → then-how ≡ latest how r → then-ones ≡ gathers ones k.ones r → then-zeros ≡ gathers zeros k.zeros r
        → Joins base then-how then-ones then-zeros (b + w) bs ns k j s → Joins base how ones zeros b whole all l j s
    unfolding join_from
    joins-next {how} {ones} {zeros} t g u v N =
        let e : is_jump (embed o b l.entries).how ≡ false = jump_is t in
        record {
          holds =
              rw (B.is, e)
              (holds_as
              (rw (same_base C base before, C.holds.entries, g, ap (latest how) C.holds.how, u, gather_ones C ones, v, gather-zeros C zeros))
              (ap (λ (x : ℕ). bit_or x ns) C.holds.mask ∙ or_assoc l.looked ls ns ∙ ap (bit_or l.looked) (sym (B.seen ∙ beside_none o b l.entries ls ns e)))
              N.holds);
        }

pub joins-all : {bs : List Branch} {seen b : ℕ} {l k : Buffer} {r : How} → Open l b → Placed bs → Joins b Finished 0 0 b bs seen l k r → Comes (joined bs) seen b l k r
joins-all {bs} {seen} {b} {l} O p J =
    record {
      holds =
          holds_as
          (ap (λ (es : List Entry). join_from es (run Finished l.entries 0 0) b bs) (wiped_open O) ∙ join_is bs l.entries b p O.clear)
          refl J.holds;
    }
