-- The state after a clock, and the first state.
use mathlib.Core.Path.{◌≡◌, refl, sym, ap, ◌∙◌}
use mathlib.Core.List.{List, [], ◌∷◌, ◌++◌, map, append_assoc}
use Prim.Native.Nat.{ℕ, zero, suc, ◌+◌, ◌%◌, ◌<◌, ◌≤◌}
use native.Mathlib.Omega.{arith}
use native.Mathlib.Nat.{mod-eq_of_lt}
use lib.Bits.{bit_or, bit_and, or_zero_r, and_zero_r, xor_zero_r, or_zero_l, and_mod, and_le_l}
use borrow.Author.Tests.{lt-ltb}
use lib.ListN.{length, length-append, get_or, set, replicate}
use Rattle.meaning.specs.Numbers.{Reads}
use Rattle.meaning.specs.Tries.{without}
use Rattle.meaning.specs.Clock.{Outcome, finishes, jumps, waits, done, stands, out, off, at, widened, resume_all}
use Rattle.meaning.specs.Clock as clock
use Rattle.meaning.specs.States.{Program, settled, start_state, step_state}
use Rattle.meaning.proofs.Places.{Places, more, resume-places-all}
use Rattle.nodes.specs.Decode.{list_at}
use Rattle.runs.specs.declared.Entry.{Entry}
use Rattle.runs.specs.declared.Buffer.{Buffer}
use Rattle.runs.specs.declared.How.{How}
use Rattle.runs.specs.Run.{empty, entry_of, window, put, Clear, embed}
use Rattle.runs.specs.Buffer.{Holds, Comes, Open}
use Rattle.runs.specs.Seen.{resume_all_seen}
use Rattle.runs.proofs.Unseen.{agree_masked, resume-all-same}
use Rattle.nodes.proofs.Laws.{list_over}
use Rattle.start.proofs.Laws.{first-list}
use Rattle.runs.proofs.Join.{put-widened, length-widened}
use Rattle.clock.specs.declared.State.{State}
use Rattle.clock.specs.Step.{eight, state_of, state_from, settled_in, Starts, Clocks}
use Rattle.nodes.specs.Ready.{Ready}

none_at : (n k : ℕ) → get_or (replicate n empty) k empty ≡ empty
none_at zero k = refl
none_at (suc n) zero = refl
none_at (suc n) (suc k) = none_at n k

pub clear-eight : Clear eight 0
clear-eight = record { clear = λ k h. none_at 8 k }

set_at : (av : List Entry) (v w : Entry) (rest : List Entry) → set (av ++ (w ∷ rest)) (length av) v ≡ av ++ (v ∷ rest)
set_at [] v w rest = refl
set_at (a ∷ av) v w rest = ap (λ (l : List Entry). a ∷ l) (set_at av v w rest)

put_all : (xs : List clock.Entry) (av : List Entry) (k : ℕ) → length xs ≡ k → put (av ++ replicate k empty) (length av) xs ≡ av ++ map entry_of xs
unfolding put
put_all [] av k e = ap (λ (n : ℕ). av ++ replicate n empty) (sym e)
put_all (x ∷ xs) av zero e = absurd (omega arith)
put_all (x ∷ xs) av (suc k) e =
    ap (λ (l : List Entry). put l (length av + 1) xs) (set_at av (entry_of x) empty (replicate k empty) ∙ sym (append_assoc av (entry_of x ∷ []) (replicate k empty)))
    ∙ ap (λ (n : ℕ). put ((av ++ (entry_of x ∷ [])) ++ replicate k empty) n xs) (sym (length-append av (entry_of x ∷ [])))
    ∙ put_all xs (av ++ (entry_of x ∷ [])) k (omega arith)
    ∙ append_assoc av (entry_of x ∷ []) (map entry_of xs)

put-eight : (ys : List clock.Entry) → length ys ≡ 8 → put eight 0 ys ≡ map entry_of ys
put-eight ys e = put_all ys [] 8 e

stand_eight : (xs : List clock.Entry) → length xs ≤ 8 → put eight 0 xs ≡ map entry_of (widened 8 xs)
stand_eight xs h = sym (put-widened 8 xs eight 0 h clear-eight) ∙ put-eight (widened 8 xs) (length-widened 8 xs h)

same_word : (word : ℕ) → without (bit_or word 0) 0 ≡ word
same_word word = rw (or_zero_r word, and_zero_r word, xor_zero_r word)

-- ---- one clock

-- the buffer at the start of a clock
abbrev pub blank : Buffer
blank = record { entries = eight; ones = 0; zeros = 0; looked = 0 }

pub blank_open : Open blank 0
blank_open = record { long = refl; clear = clear-eight }

abbrev pub reads : State → ℕ → Reads
reads s input = record { word = s.word; inputs = input }

settled_is : (o : Outcome) (looks : ℕ) (word : ℕ) {k : Buffer} {h : How} → Places 8 o → Comes o looks 0 blank k h → settled_in k h word ≡ state_of (settled o word)
settled_is o looks word {k} {h} p C = by o p C.holds
  where
    by : (o : Outcome) → Places 8 o → Holds (embed o 0 eight) (bit_or 0 looks) k h → settled_in k h word ≡ state_of (settled o word)
    by finishes p H = rw (H.how, H.entries)
    by (jumps out) p H = rw (H.how, H.entries)
    by (jumps off) p H = rw (H.how, H.entries)
    by (waits t done) p H = let q = H.tries (rw H.how) in rw (H.how, H.entries, q.0, q.1)
    by (waits t (stands xs)) p H = let q = H.tries (rw H.how) in rw (H.how, H.entries, q.0, q.1, stand_eight xs p.most)

-- only the six lowest bits of a mask count
low_and : (y m : ℕ) → y < 64 → bit_and y (m % 64) ≡ bit_and y m
low_and y m h =
    ap (λ (x : ℕ). bit_and x (m % 64)) (sym (mod-eq_of_lt h)) ∙ sym (and_mod y m 6) ∙ mod-eq_of_lt (omega (arith, and_le_l y m))

module _ (t : List ℕ) (n left : ℕ) (s : State) (input : ℕ) (R : Ready t n left) (small : input < 64) {k : Buffer} {h : How}
    (came : Comes (resume_all (list_at left t 0 n) (window s.entries 0 8) (reads s input)) (resume_all_seen (list_at left t 0 n) (window s.entries 0 8) (reads s input)) 0 blank k h) where
  step_is : (p : Program) → p.body ≡ list_at left t 0 n → settled_in k h s.word ≡ state_of (step_state p (state_from s) input)
  unfolding step_state
  step_is p b =
      rw b
      (settled_is (resume_all (list_at left t 0 n) (window s.entries 0 8) (reads s input)) (resume_all_seen (list_at left t 0 n) (window s.entries 0 8) (reads s input)) s.word (more R.wide (resume-places-all (list_at left t 0 n) (window s.entries 0 8) (reads s input))) came)

  seen_is : k.looked ≡ resume_all_seen (list_at left t 0 n) (window s.entries 0 8) (reads s input)
  seen_is = came.holds.mask ∙ or_zero_l (resume_all_seen (list_at left t 0 n) (window s.entries 0 8) (reads s input))

  same_next_lem : (p : Program) → p.body ≡ list_at left t 0 n → (y : ℕ) → y < 64 → bit_and y (k.looked % 64) ≡ bit_and input (k.looked % 64) → step_state p (state_from s) y ≡ step_state p (state_from s) input
  unfolding step_state
  same_next_lem p b y u same =
      let e : bit_and input k.looked ≡ bit_and y k.looked = sym (low_and input k.looked small) ∙ sym same ∙ low_and y k.looked u in
      let f : bit_and input (resume_all_seen (list_at left t 0 n) (window s.entries 0 8) (reads s input)) ≡ bit_and y (resume_all_seen (list_at left t 0 n) (window s.entries 0 8) (reads s input)) = rw seen_is at e in
      rw b (ap (λ (o : Outcome). settled o s.word) (sym (resume-all-same input y s.word (list_at left t 0 n) (window s.entries 0 8) (agree_masked f))))

  pub clocks : {a : State} {m : ℕ} → a ≡ settled_in k h s.word → m ≡ k.looked % 64 → Clocks t n left s input (record { state = a; looked = m })
  clocks e q = rw q (record { next = λ p b. e ∙ step_is p b; unseen = same_next_lem })

pub starts_none : (n word : ℕ) → n ≡ 0 → Starts n word (record { entries = eight; word = word })
unfolding start_state
starts_none n word e = record { first = λ t left p k b w. rw (b, w, list_over left t 0 n (omega arith)) }

pub starts_first : (n word : ℕ) → (n ≡ 0 → ⊥) → Starts n word (record { entries = set eight 0 (entry_of (at 0 0)); word = word })
unfolding start_state
starts_first n word e =
    record { first = λ t left p k b w. rw (b, w, first-list left t 0 n (omega arith), lt-ltb 0 n (omega arith)) }
