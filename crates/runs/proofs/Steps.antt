-- What the steps on the buffer do to what it holds.
use mathlib.Core.Path.{◌≡◌, refl, sym, ap, ◌∙◌}
use mathlib.Core.Bool.{Bool, true, false}
use mathlib.Core.List.{List, [], ◌∷◌, ◌++◌}
use Prim.Native.Nat.{ℕ, zero, suc, ◌+◌, ◌-◌, ◌<◌, ◌≤◌}
use native.Mathlib.Omega.{arith}
use borrow.Author.Tests.{lt-ltb}
use lib.Bits.{bit_or, or_zero_r}
use lib.ListN.{length, length-set, set, take, replicate}
use lib.Seq.{take-set-le}
use Rattle.meaning.specs.Clock.{Outcome, finishes, jumps, waits, done, stands, out, off, at}
use Rattle.meaning.specs.Clock as clock
use Rattle.runs.specs.declared.Entry.{Entry}
use Rattle.runs.specs.declared.How.{How}
use Rattle.runs.specs.declared.Buffer.{Buffer}
use Rattle.runs.specs.declared.How.TheVariants.{Finished, Exit, Break, Waits, Stands}
use Rattle.runs.specs.Run.{empty, entry_of, put, Clear, Run, run, embed, then_run, looped_run, is_waiting}
use Rattle.runs.specs.Buffer.{gathers, Holds, Comes, Open, wiped}

-- ---- what waits

pub no_wait : {A : Type 0} → ◌≡◌ {A = Bool} false true → A
no_wait e = absurd (let z : ◌≡◌ {A = ℕ} 0 1 = cc in omega arith)

pub tries-set : (l : Buffer) (a c : ℕ) → length l.entries ≡ 8 → (h : How) → Holds (run h l.entries a c) l.looked (record l { ones = a; zeros = c }) h
tries-set l a c e h = record { long = e; how = refl; entries = refl; tries = λ z. (refl, refl); mask = refl }

-- nothing more was looked at
pub no_more : {x : Run} {m : ℕ} {l : Buffer} {r : How} → Holds x m l r → Holds x (bit_or m 0) l r
no_more {x} {m} {l} {r} h = rw (or_zero_r m) h

pub waits_now : (l : Buffer) (a c : ℕ) → length l.entries ≡ 8 → (b : ℕ) → Comes (waits (record { ones = a; zeros = c }) done) 0 b l (record l { ones = a; zeros = c }) Waits
waits_now l a c e b = record { holds = no_more (tries-set l a c e Waits) }

pub finishes_now : (l : Buffer) (b : ℕ) → length l.entries ≡ 8 → Comes finishes 0 b l l Finished
finishes_now l b e = record { holds = no_more (record { long = e; how = refl; entries = refl; tries = λ z. no_wait z; mask = refl }) }

pub exits_now : (l : Buffer) (b : ℕ) → length l.entries ≡ 8 → Comes (jumps out) 0 b l l Exit
exits_now l b e = record { holds = no_more (record { long = e; how = refl; entries = refl; tries = λ z. no_wait z; mask = refl }) }

pub breaks_now : (l : Buffer) (b : ℕ) → length l.entries ≡ 8 → Comes (jumps off) 0 b l l Break
breaks_now l b e = record { holds = no_more (record { long = e; how = refl; entries = refl; tries = λ z. no_wait z; mask = refl }) }

pub put_now : {x : Run} {q : ℕ} {l : Buffer} {h : How} (b n left : ℕ) → Holds x q l h → is_waiting h ≡ true
    → Holds (run Stands (set x.entries b (entry_of (at n left))) x.ones x.zeros) q (record l { entries = set l.entries b (entry_of (at n left)) }) Stands
put_now {l = l} b n left H w =
    record { long = length-set l.entries b _ ∙ H.long; how = refl; entries = ap (λ (es : List Entry). set es b (entry_of (at n left))) H.entries; tries = λ z. H.tries w; mask = H.mask }

-- ---- what comes next, loops and what is caught

module _ {x : Run} {q : ℕ} {l : Buffer} {h : How} (H : Holds x q l h) where
  pub then_put : (b m e : ℕ) → h ≡ Waits → m < e → Holds (then_run x b m e) q (record l { entries = set l.entries b (entry_of (at m 0)) }) Stands
  then_put b m e n u = rw (← H.how, n, lt-ltb m e u) (put_now b m 0 H (rw n))

  pub looped_waits : (b n : ℕ) → h ≡ Waits → Holds (looped_run x b n) q (record l { entries = set l.entries b (entry_of (at n 0)) }) Stands
  looped_waits b n e = rw (← H.how, e) (put_now b n 0 H (rw e))

  -- it finished in no time: it waits without a try
  pub looped-again : (b n : ℕ) {r : How} {j : Buffer} → h ≡ Finished → Comes (waits (record { ones = 0; zeros = 0 }) done) 0 b l j r
      → Holds (looped_run x b n) q (record j { entries = set j.entries b (entry_of (at n 0)) }) Stands
  looped-again b n {r} {j} e N =
      let M : Holds (run Waits x.entries 0 0) q j r = record { long = N.holds.long; how = N.holds.how; entries = N.holds.entries ∙ H.entries; tries = N.holds.tries; mask = N.holds.mask ∙ or_zero_r l.looked ∙ H.mask } in
      rw (← H.how, e) (put_now b n 0 M (rw N.holds.how))

-- ---- branches

-- the tries of what came to y
module _ {y : Outcome} {looks b : ℕ} {k l : Buffer} {h : How} (C : Comes y looks b k l h) (have : ℕ) where
  pub gather_ones : gathers have l.ones h ≡ bit_or have (embed y b k.entries).ones
  gather_ones = by y C.holds
    where
      by : (y : Outcome) → Holds (embed y b k.entries) (bit_or k.looked looks) l h → gathers have l.ones h ≡ bit_or have (embed y b k.entries).ones
      by finishes H = rw H.how (sym (or_zero_r have))
      by (jumps out) H = rw H.how (sym (or_zero_r have))
      by (jumps off) H = rw H.how (sym (or_zero_r have))
      by (waits t done) H = rw H.how (ap (bit_or have) (H.tries (rw H.how)).0)
      by (waits t (stands xs)) H = rw H.how (ap (bit_or have) (H.tries (rw H.how)).0)

  pub gather-zeros : gathers have l.zeros h ≡ bit_or have (embed y b k.entries).zeros
  gather-zeros = by y C.holds
    where
      by : (y : Outcome) → Holds (embed y b k.entries) (bit_or k.looked looks) l h → gathers have l.zeros h ≡ bit_or have (embed y b k.entries).zeros
      by finishes H = rw H.how (sym (or_zero_r have))
      by (jumps out) H = rw H.how (sym (or_zero_r have))
      by (jumps off) H = rw H.how (sym (or_zero_r have))
      by (waits t done) H = rw H.how (ap (bit_or have) (H.tries (rw H.how)).1)
      by (waits t (stands xs)) H = rw H.how (ap (bit_or have) (H.tries (rw H.how)).1)

-- ---- entries taken back

wiped-clear : (es : List Entry) (n b : ℕ) → length es ≡ n → Clear es b → take b es ++ replicate (n - b) empty ≡ es
wiped-clear [] n zero e c = let z : n - 0 ≡ 0 = omega arith in rw z
wiped-clear [] n (suc b) e c = let z : n - suc b ≡ 0 = omega arith in rw z
wiped-clear (x ∷ xs) zero b e c = absurd (omega arith)
wiped-clear (x ∷ xs) (suc n) zero e c =
    let rest : Clear xs 0 = record { clear = λ k h. c.clear (suc k) (omega arith) } in
    let z : suc n - 0 ≡ suc (n - 0) = omega arith in
    rw z (ap (λ (y : Entry). y ∷ replicate (n - 0) empty) (sym (c.clear 0 (omega arith))) ∙ ap (λ (l : List Entry). x ∷ l) (wiped-clear xs n 0 (omega arith) rest))
wiped-clear (x ∷ xs) (suc n) (suc b) e c =
    let rest : Clear xs b = record { clear = λ k h. c.clear (suc k) (omega arith) } in
    let z : suc n - suc b ≡ n - b = omega arith in
    rw z (ap (λ (l : List Entry). x ∷ l) (wiped-clear xs n b (omega arith) rest))

-- where nothing stands from b on, nothing is taken back
pub wiped_open : {l : Buffer} {b : ℕ} → Open l b → wiped b l.entries ≡ l.entries
unfolding wiped
wiped_open {l} {b} O = wiped-clear l.entries 8 b O.long O.clear

wiped-set : (es : List Entry) (b j : ℕ) (v : Entry) → b ≤ j → wiped b (set es j v) ≡ wiped b es
unfolding wiped
wiped-set es b j v h = ap (λ (l : List Entry). l ++ replicate (8 - b) empty) (take-set-le b es j v h)

pub wiped-put : (xs : List clock.Entry) (es : List Entry) (b j : ℕ) → b ≤ j → wiped b (put es j xs) ≡ wiped b es
unfolding put
wiped-put [] es b j h = refl
wiped-put (x ∷ xs) es b j h = wiped-put xs (set es j (entry_of x)) b (j + 1) (omega arith) ∙ wiped-set es b j (entry_of x) h
