-- The input bits that a clock looks at: those of the expressions that it comes to.
-- Assumes nothing.
use Rattle.std.specs.Prelude.{ℕ, cond, List, take, drop}
use Rattle.std.specs.Int.Bits.{bit_or}
use Rattle.meaning.specs.Tree.{Stmt, skip, delay, change, assign, choice, while, loop, exit, break, switch, parallel, Stmts, end, ◌⨾◌, Cases, default, case, Branches, none, ◌∥◌}
use Rattle.meaning.specs.Numbers.{Variable, Reads, holds}
use Rattle.meaning.specs.Clock.{Entry, Outcome, finishes, jumps, waits, some_at, inside, inside_all, activities_all, start, start_all, resume, resume_all}
use Rattle.nodes.specs.Looks.{looks}

-- what comes next runs only where o has finished
abbrev pub then_seen : Outcome → ℕ → ℕ → ℕ
then_seen finishes now next = bit_or now next
then_seen (jumps j) now next = now
then_seen (waits t a) now next = now

-- the other branches run only where o does not jump
abbrev pub beside_seen : Outcome → ℕ → ℕ → ℕ
beside_seen finishes now others = bit_or now others
beside_seen (jumps j) now others = now
beside_seen (waits t a) now others = bit_or now others

-- ---- from the start

unfoldable mutual
  pub start_seen : Stmt Variable → Reads → ℕ
  start_seen (skip h) r = 0
  start_seen (delay h p n) r = 0
  start_seen (change h c t) r = 0
  start_seen (assign h v e) r = looks e
  start_seen (choice h e a b) r = bit_or (looks e) (cond (holds e r) (start_all_seen a r) (start_all_seen b r))
  start_seen (while h e b) r = bit_or (looks e) (cond (holds e r) (start_all_seen b r) 0)
  start_seen (loop h b) r = start_all_seen b r
  start_seen (exit h) r = 0
  start_seen (break h) r = 0
  start_seen (switch h cs) r = start_cases_seen cs r
  start_seen (parallel h bs) r = start_each_seen bs r

  pub start_all_seen : Stmts Variable → Reads → ℕ
  start_all_seen end r = 0
  start_all_seen (s ⨾ ss) r = then_seen (start s r) (start_seen s r) (start_all_seen ss r)

  pub start_cases_seen : Cases Variable → Reads → ℕ
  start_cases_seen (default d) r = start_all_seen d r
  start_cases_seen (case h e b cs) r =
      bit_or (looks e) (cond (holds e r) (then_seen (start_all b r) (start_all_seen b r) (start_cases_seen cs r)) (start_cases_seen cs r))

  pub start_each_seen : Branches Variable → Reads → ℕ
  start_each_seen none r = 0
  start_each_seen (b ∥ bs) r = beside_seen (start_all b r) (start_all_seen b r) (start_each_seen bs r)

-- ---- .. and from where the activities stand

unfoldable mutual
  pub resume_seen : Stmt Variable → List Entry → Reads → ℕ
  resume_seen (skip h) es r = start_seen (skip h) r
  resume_seen (delay h p n) es r = 0
  resume_seen (change h c t) es r = start_seen (change h c t) r
  resume_seen (assign h v e) es r = start_seen (assign h v e) r
  resume_seen (choice h e a b) es r =
      cond (some_at h.number es) (start_seen (choice h e a b) r)
      (cond (inside_all a es) (resume_all_seen a es r) (resume_all_seen b es r))
  resume_seen (while h e b) es r =
      cond (some_at h.number es) (start_seen (while h e b) r)
      (then_seen (resume_all b es r) (resume_all_seen b es r) (start_seen (while h e b) r))
  resume_seen (loop h b) es r =
      cond (some_at h.number es) (start_seen (loop h b) r)
      (then_seen (resume_all b es r) (resume_all_seen b es r) (start_seen (loop h b) r))
  resume_seen (exit h) es r = start_seen (exit h) r
  resume_seen (break h) es r = start_seen (break h) r
  resume_seen (switch h cs) es r = cond (some_at h.number es) (start_seen (switch h cs) r) (resume_cases_seen cs es r)
  resume_seen (parallel h bs) es r = cond (some_at h.number es) (start_seen (parallel h bs) r) (resume_each_seen bs es r)

  pub resume_all_seen : Stmts Variable → List Entry → Reads → ℕ
  resume_all_seen end es r = 0
  resume_all_seen (s ⨾ ss) es r = cond (inside s es) (then_seen (resume s es r) (resume_seen s es r) (start_all_seen ss r)) (resume_all_seen ss es r)

  pub resume_cases_seen : Cases Variable → List Entry → Reads → ℕ
  resume_cases_seen (default d) es r = resume_all_seen d es r
  resume_cases_seen (case h e b cs) es r =
      cond (some_at h.number es) (start_cases_seen (case h e b cs) r)
      (cond (inside_all b es) (then_seen (resume_all b es r) (resume_all_seen b es r) (start_cases_seen cs r)) (resume_cases_seen cs es r))

  pub resume_each_seen : Branches Variable → List Entry → Reads → ℕ
  resume_each_seen none es r = 0
  resume_each_seen (b ∥ bs) es r =
      beside_seen (resume_all b (take (activities_all b) es) r) (resume_all_seen b (take (activities_all b) es) r) (resume_each_seen bs (drop (activities_all b) es) r)
