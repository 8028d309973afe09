-- One clock: what each statement does, run from where it stands.
-- Assumes nothing.
use Rattle.std.specs.Prelude.{ℕ, zero, suc, ◌+◌, max, Bool, true, false, cond, List, [], ◌∷◌, ◌++◌, map, eqb, get_or, take, drop, replicate}
use Rattle.meaning.specs.Tree.{Head, Stmt, skip, delay, change, assign, choice, while, loop, exit, break, switch, parallel, Stmts, end, ◌⨾◌, Cases, default, case, Branches, none, ◌∥◌}
use Rattle.meaning.specs.Numbers.{Variable, Reads, holds}
use Rattle.meaning.specs.Tries.{Tries, no_tries, change_tries, assign_tries, agreed}

-- S1: an activity is nowhere, or begins at the number, with so many clocks left of a delay
pub data Entry : Type 0 where
  nowhere : Entry
  at : ℕ → ℕ → Entry

-- when the wait ends: it has finished, or its activities stand somewhere
pub data After : Type 0 where
  done : After
  stands : List Entry → After

pub data Jump : Type 0 where
  out : Jump
  off : Jump

-- C2: how a statement ends that is run from where it stands
pub data Outcome : Type 0 where
  finishes : Outcome
  jumps : Jump → Outcome
  waits : Tries → After → Outcome

-- ---- activities

-- Z8: how many activities
unfoldable mutual
  pub activities : {N : Type 0} → Stmt N → ℕ
  activities (skip h) = 1
  activities (delay h p n) = 1
  activities (change h c t) = 1
  activities (assign h v e) = 1
  activities (choice h e a b) = max (activities_all a) (activities_all b)
  activities (while h e b) = activities_all b
  activities (loop h b) = activities_all b
  activities (exit h) = 1
  activities (break h) = 1
  activities (switch h cs) = activities_cases cs
  activities (parallel h bs) = activities_sum bs

  pub activities_all : {N : Type 0} → Stmts N → ℕ
  activities_all end = 1
  activities_all (s ⨾ ss) = max (activities s) (activities_all ss)

  pub activities_cases : {N : Type 0} → Cases N → ℕ
  activities_cases (default d) = activities_all d
  activities_cases (case h e b cs) = max (activities_all b) (activities_cases cs)

  pub activities_sum : {N : Type 0} → Branches N → ℕ
  activities_sum none = 0
  activities_sum (b ∥ bs) = activities_all b + activities_sum bs

-- ---- places

abbrev pub head_of : {N : Type 0} → Stmt N → Head
head_of (skip h) = h
head_of (delay h p n) = h
head_of (change h c t) = h
head_of (assign h v e) = h
head_of (choice h e a b) = h
head_of (while h e b) = h
head_of (loop h b) = h
head_of (exit h) = h
head_of (break h) = h
head_of (switch h cs) = h
head_of (parallel h bs) = h

abbrev pub is_at : ℕ → Entry → Bool
is_at n nowhere = false
is_at n (at m left) = eqb n m

-- one of the activities stands at the number
unfoldable pub some_at : ℕ → List Entry → Bool
some_at n [] = false
some_at n (e ∷ es) = cond (is_at n e) true (some_at n es)

-- one of the activities stands in the statement, the list, the cases, the branches
unfoldable mutual
  pub inside : {N : Type 0} → Stmt N → List Entry → Bool
  inside (skip h) es = some_at h.number es
  inside (delay h p n) es = some_at h.number es
  inside (change h c t) es = some_at h.number es
  inside (assign h v e) es = some_at h.number es
  inside (choice h e a b) es = cond (some_at h.number es) true (cond (inside_all a es) true (inside_all b es))
  inside (while h e b) es = cond (some_at h.number es) true (inside_all b es)
  inside (loop h b) es = cond (some_at h.number es) true (inside_all b es)
  inside (exit h) es = some_at h.number es
  inside (break h) es = some_at h.number es
  inside (switch h cs) es = cond (some_at h.number es) true (inside_cases cs es)
  inside (parallel h bs) es = cond (some_at h.number es) true (inside_some bs es)

  pub inside_all : {N : Type 0} → Stmts N → List Entry → Bool
  inside_all end es = false
  inside_all (s ⨾ ss) es = cond (inside s es) true (inside_all ss es)

  pub inside_cases : {N : Type 0} → Cases N → List Entry → Bool
  inside_cases (default d) es = inside_all d es
  inside_cases (case h e b cs) es = cond (some_at h.number es) true (cond (inside_all b es) true (inside_cases cs es))

  pub inside_some : {N : Type 0} → Branches N → List Entry → Bool
  inside_some none es = false
  inside_some (b ∥ bs) es = cond (inside_all b es) true (inside_some bs es)

-- S2: after a wait one stands at the head of the next statement
abbrev pub stands_at : Head → After
stands_at h = stands (at h.number 0 ∷ [])

abbrev pub first : {N : Type 0} → Stmts N → After
first end = done
first (s ⨾ ss) = stands_at (head_of s)

-- S2: behind the list of a case
abbrev pub first_case : {N : Type 0} → Cases N → After
first_case (default d) = first d
first_case (case h e b cs) = stands_at h

-- ---- how outcomes go on

-- C4: the rest runs now, or begins at its first place when the wait ends
abbrev pub and_then : Outcome → Outcome → After → Outcome
and_then finishes next place = next
and_then (jumps j) next place = jumps j
and_then (waits t done) next place = waits t place
and_then (waits t (stands es)) next place = waits t (stands es)

-- C7: `break` ends here; `exit` passes through
abbrev pub caught : Outcome → Outcome
caught finishes = finishes
caught (jumps out) = jumps out
caught (jumps off) = finishes
caught (waits t a) = waits t a

-- C6, C7, S2: a body in no time waits at the loop, the end of a body that waited stands at the loop, `exit` ends here; `break` passes through
abbrev pub looped : Head → Outcome → Outcome
looped h finishes = waits no_tries (stands_at h)
looped h (jumps out) = finishes
looped h (jumps off) = jumps off
looped h (waits t done) = waits t (stands_at h)
looped h (waits t (stands es)) = waits t (stands es)

-- C6: a body that has waited begins again in the same clock
abbrev pub again : Head → Outcome → Outcome → Outcome
again h restart finishes = restart
again h restart (jumps j) = looped h (jumps j)
again h restart (waits t a) = looped h (waits t a)

-- C3: a delay
abbrev pub delayed : Head → ℕ → Outcome
delayed h zero = finishes
delayed h (suc zero) = waits no_tries done
delayed h (suc (suc n)) = waits no_tries (stands (at h.number (suc n) ∷ []))

-- the clocks that are left of a delay of n: none of them is used before it begins
abbrev pub left_of : ℕ → Entry → ℕ
left_of n nowhere = n
left_of n (at m zero) = n
left_of n (at m (suc left)) = suc left

-- ---- parallel

-- a branch's number of activities, and its outcome
pub record Branch : Type 0 where
  pub wide : ℕ
  pub outcome : Outcome

abbrev pub jump_or : Outcome → Outcome → Outcome
jump_or finishes next = next
jump_or (jumps j) next = jumps j
jump_or (waits t a) next = next

-- C9: the first branch that jumps decides, and no try counts
unfoldable pub first_jump : List Branch → Outcome → Outcome
first_jump [] next = next
first_jump (b ∷ bs) next = jump_or b.outcome (first_jump bs next)

abbrev pub finished : Outcome → Bool
finished finishes = true
finished (jumps j) = false
finished (waits t a) = false

-- it has finished when the wait ends
abbrev pub finishing : Outcome → Bool
finishing finishes = true
finishing (jumps j) = false
finishing (waits t done) = true
finishing (waits t (stands es)) = false

unfoldable pub each : (Outcome → Bool) → List Branch → Bool
each p [] = true
each p (b ∷ bs) = cond (p b.outcome) (each p bs) false

abbrev pub tries_in : Outcome → Tries
tries_in finishes = no_tries
tries_in (jumps j) = no_tries
tries_in (waits t a) = t

abbrev pub tries_of : Branch → Tries
tries_of b = tries_in b.outcome

-- entries for so many activities: those that stand nowhere are empty
abbrev pub widened : ℕ → List Entry → List Entry
widened n es = take n (es ++ replicate n nowhere)

abbrev pub entries_in : Outcome → List Entry
entries_in finishes = []
entries_in (jumps j) = []
entries_in (waits t done) = []
entries_in (waits t (stands es)) = es

-- the branches' entries, one after the other
unfoldable pub entries_of : List Branch → List Entry
entries_of [] = []
entries_of (b ∷ bs) = widened b.wide (entries_in b.outcome) ++ entries_of bs

-- C9: finished once all are; else it waits
abbrev pub joined : List Branch → Outcome
joined bs =
    first_jump bs
    (cond (each finished bs) finishes
    (waits (agreed (map tries_of bs)) (cond (each finishing bs) done (stands (entries_of bs)))))

-- ---- a statement run from its start

unfoldable mutual
  pub start : Stmt Variable → Reads → Outcome
  start (skip h) r = waits no_tries done
  start (delay h p n) r = delayed h n
  start (change h c t) r = waits (change_tries c t r) done
  start (assign h v e) r = waits (assign_tries v e r) done
  start (choice h e a b) r = cond (holds e r) (start_all a r) (start_all b r)
  start (while h e b) r = cond (holds e r) (looped h (start_all b r)) finishes
  start (loop h b) r = looped h (start_all b r)
  start (exit h) r = jumps out
  start (break h) r = jumps off
  start (switch h cs) r = caught (start_cases cs r)
  start (parallel h bs) r = caught (joined (start_each bs r))

  pub start_all : Stmts Variable → Reads → Outcome
  start_all end r = finishes
  start_all (s ⨾ ss) r = and_then (start s r) (start_all ss r) (first ss)

  -- C8: each test in its turn, and the default in any case
  pub start_cases : Cases Variable → Reads → Outcome
  start_cases (default d) r = start_all d r
  start_cases (case h e b cs) r = cond (holds e r) (and_then (start_all b r) (start_cases cs r) (first_case cs)) (start_cases cs r)

  pub start_each : Branches Variable → Reads → List Branch
  start_each none r = []
  start_each (b ∥ bs) r = record { wide = activities_all b; outcome = start_all b r } ∷ start_each bs r

-- ---- .. and from where its activities stand

unfoldable mutual
  pub resume : Stmt Variable → List Entry → Reads → Outcome
  resume (skip h) es r = start (skip h) r
  resume (delay h p n) es r = delayed h (left_of n (get_or es 0 nowhere))
  resume (change h c t) es r = start (change h c t) r
  resume (assign h v e) es r = start (assign h v e) r
  resume (choice h e a b) es r =
      cond (some_at h.number es) (start (choice h e a b) r)
      (cond (inside_all a es) (resume_all a es r) (resume_all b es r))
  resume (while h e b) es r =
      cond (some_at h.number es) (start (while h e b) r) (again h (start (while h e b) r) (resume_all b es r))
  resume (loop h b) es r =
      cond (some_at h.number es) (start (loop h b) r) (again h (start (loop h b) r) (resume_all b es r))
  resume (exit h) es r = start (exit h) r
  resume (break h) es r = start (break h) r
  resume (switch h cs) es r = cond (some_at h.number es) (start (switch h cs) r) (caught (resume_cases cs es r))
  resume (parallel h bs) es r = cond (some_at h.number es) (start (parallel h bs) r) (caught (joined (resume_each bs es r)))

  pub resume_all : Stmts Variable → List Entry → Reads → Outcome
  resume_all end es r = finishes
  resume_all (s ⨾ ss) es r = cond (inside s es) (and_then (resume s es r) (start_all ss r) (first ss)) (resume_all ss es r)

  pub resume_cases : Cases Variable → List Entry → Reads → Outcome
  resume_cases (default d) es r = resume_all d es r
  resume_cases (case h e b cs) es r =
      cond (some_at h.number es) (start_cases (case h e b cs) r)
      (cond (inside_all b es) (and_then (resume_all b es r) (start_cases cs r) (first_case cs)) (resume_cases cs es r))

  -- a branch that stands nowhere has finished
  pub resume_each : Branches Variable → List Entry → Reads → List Branch
  resume_each none es r = []
  resume_each (b ∥ bs) es r =
      record { wide = activities_all b; outcome = resume_all b (take (activities_all b) es) r } ∷ resume_each bs (drop (activities_all b) es) r
