-- A delay takes the clocks that it names.
-- Assumes nothing.
use mathlib.Core.List.{List, ◌∷◌, ◌++◌}
use Prim.Native.Nat.{ℕ, zero, suc}
use Rattle.meaning.specs.Tree.{Head, Stmt, delay}
use Rattle.meaning.specs.Numbers.{Variable, Reads}
use Rattle.meaning.specs.Tries.{no_tries}
use Rattle.meaning.specs.Clock.{Entry, at, done, stands, Outcome, finishes, waits, start, resume}

-- "`delay n` waits n; `delay 0` finishes at once"

-- so many clocks, without a try, pass until the statement has finished; whatever it reads, and however many activities stand elsewhere
pub data Takes (s : Stmt Variable) : Outcome → ℕ → Type 0 where
  none_left_lem : Takes s finishes 0
  last : Takes s (waits no_tries done) 1
  more : {es : List Entry} {n : ℕ}
      → ((others : List Entry) (r : Reads) → Takes s (resume s (es ++ others) r) n) → Takes s (waits no_tries (stands es)) (suc n)

left-takes : (h : Head) (p m left : ℕ) (others : List Entry) (r : Reads)
    → Takes (delay h p m) (resume (delay h p m) (at h.number (suc left) ∷ others) r) (suc left)
unfolding resume
left-takes h p m zero others r = last
left-takes h p m (suc left) others r = more (λ es q. left-takes h p m left es q)

pub delay-takes : (h : Head) (p n : ℕ) (r : Reads) → Takes (delay h p n) (start (delay h p n) r) n
unfolding start
delay-takes h p zero r = none_left_lem
delay-takes h p (suc zero) r = last
delay-takes h p (suc (suc n)) r = more (λ es q. left-takes h p (suc (suc n)) n es q)
