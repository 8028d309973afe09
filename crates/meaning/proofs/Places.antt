-- No activity's place is lost: after a clock a list stands at no more places than it has activities.
-- Assumes nothing.
use mathlib.Core.Path.{◌≡◌, refl, sym, ap, ◌∙◌}
use mathlib.Core.Bool.{Bool, true, false, cond}
use mathlib.Core.List.{List, [], ◌∷◌, ◌++◌, map}
use Prim.Native.Nat.{ℕ, zero, suc, ◌+◌, ◌-◌, ◌≤◌, max, zero-le}
use native.Mathlib.Nat.{le_refl, le_trans, le-max_left, le-max_right, sub-zero}
use native.Mathlib.Omega.{arith}
use lib.ListN.{length, take, drop, get_or, replicate, length-append}
use Rattle.meaning.specs.Tree.{Head, Stmt, skip, delay, change, assign, choice, while, loop, exit, break, switch, parallel, Stmts, end, ◌⨾◌, Cases, default, case, Branches, none, ◌∥◌}
use Rattle.meaning.specs.Numbers.{Variable, Reads, holds}
use Rattle.meaning.specs.Tries.{agreed}
use Rattle.meaning.specs.Clock.{Entry, nowhere, After, done, stands, out, off, Outcome, finishes, jumps, waits, activities, activities_all, activities_cases, activities_sum, some_at, inside, inside_all, first, first_case, and_then, caught, looped, again, delayed, left_of, Branch, jump_or, first_jump, each, finished, finishing, tries_of, entries_in, entries_of, widened, joined, start, start_all, start_cases, start_each, resume, resume_all, resume_cases, resume_each}
use Rattle.meaning.proofs.States.{widened-length}

-- the outcome stands at n places or fewer
pub record Places (n : ℕ) (o : Outcome) : Type 0 where
  pub most : length (entries_in o) ≤ n

abbrev places_at : After → List Entry
places_at done = []
places_at (stands es) = es

no_place_lem : {n : ℕ} {o : Outcome} → entries_in o ≡ [] → Places n o
no_place_lem e = record { most = rw e zero-le }

pub more : {m n : ℕ} {o : Outcome} → m ≤ n → Places m o → Places n o
more h p = record { most = le_trans p.most h }

first_one : (ss : Stmts Variable) → length (places_at (first ss)) ≤ 1
first_one end = zero-le
first_one (s ⨾ ss) = le_refl 1

first-case-one : (cs : Cases Variable) → length (places_at (first_case cs)) ≤ 1
first-case-one (default d) = first_one d
first-case-one (case h e b cs) = le_refl 1

on_cond : {n : ℕ} (t : Bool) {x y : Outcome} → Places n x → Places n y → Places n (cond t x y)
on_cond true p q = p
on_cond false p q = q

module _ {n : ℕ} (one : 1 ≤ n) where
  on_then : (o : Outcome) {next : Outcome} (place : After) → length (places_at place) ≤ 1
      → Places n o → Places n next → Places n (and_then o next place)
  on_then finishes place h p q = q
  on_then (jumps j) place h p q = no_place_lem refl
  on_then (waits t done) done h p q = no_place_lem refl
  on_then (waits t done) (stands es) h p q = record { most = le_trans h one }
  on_then (waits t (stands es)) place h p q = record { most = p.most }

  on_looped : (h : Head) (o : Outcome) → Places n o → Places n (looped h o)
  on_looped h finishes p = record { most = one }
  on_looped h (jumps out) p = no_place_lem refl
  on_looped h (jumps off) p = no_place_lem refl
  on_looped h (waits t done) p = record { most = one }
  on_looped h (waits t (stands es)) p = record { most = p.most }

  on_again : (h : Head) (o : Outcome) {restart : Outcome} → Places n restart → Places n o → Places n (again h restart o)
  on_again h finishes p q = p
  on_again h (jumps j) p q = on_looped h (jumps j) q
  on_again h (waits t a) p q = on_looped h (waits t a) q

  on_delayed : (h : Head) (k : ℕ) → Places n (delayed h k)
  on_delayed h zero = no_place_lem refl
  on_delayed h (suc zero) = no_place_lem refl
  on_delayed h (suc (suc k)) = record { most = one }

on_caught : {n : ℕ} (o : Outcome) → Places n o → Places n (caught o)
on_caught finishes p = p
on_caught (jumps out) p = p
on_caught (jumps off) p = no_place_lem refl
on_caught (waits t a) p = p

-- ---- the branches' places, one after the other

abbrev wide_sum : List Branch → ℕ
wide_sum [] = 0
wide_sum (b ∷ bs) = b.wide + wide_sum bs

entries-length : (bs : List Branch) → length (entries_of bs) ≡ wide_sum bs
unfolding entries_of
entries-length [] = refl
entries-length (b ∷ bs) =
    omega (arith, length-append (widened b.wide (entries_in b.outcome)) (entries_of bs), widened-length b.wide (entries_in b.outcome), entries-length bs)

on_first : {n : ℕ} (bs : List Branch) {next : Outcome} → Places n next → Places n (first_jump bs next)
unfolding first_jump
on_first [] p = p
on_first (b ∷ bs) p = on_jump b.outcome (on_first bs p)
  where
    on_jump : {n : ℕ} (o : Outcome) {next : Outcome} → Places n next → Places n (jump_or o next)
    on_jump finishes p = p
    on_jump (jumps j) p = no_place_lem refl
    on_jump (waits t a) p = p

on_joined : (bs : List Branch) → Places (wide_sum bs) (joined bs)
on_joined bs = on_first bs (on_cond (each finished bs) (no_place_lem refl) (standing (each finishing bs)))
  where
    standing : (t : Bool) → Places (wide_sum bs) (waits (agreed (map tries_of bs)) (cond t done (stands (entries_of bs))))
    standing true = no_place_lem refl
    standing false = record { most = rw (entries-length bs) (le_refl (wide_sum bs)) }

wide-start : (bs : Branches Variable) (r : Reads) → wide_sum (start_each bs r) ≡ activities_sum bs
unfolding start activities
wide-start none r = refl
wide-start (b ∥ bs) r = ap (λ (x : ℕ). activities_all b + x) (wide-start bs r)

wide-resume : (bs : Branches Variable) (es : List Entry) (r : Reads) → wide_sum (resume_each bs es r) ≡ activities_sum bs
unfolding resume activities
wide-resume none es r = refl
wide-resume (b ∥ bs) es r = ap (λ (x : ℕ). activities_all b + x) (wide-resume bs (drop (activities_all b) es) r)

all_one : {N : Type 0} (ss : Stmts N) → 1 ≤ activities_all ss
unfolding activities
all_one end = le_refl 1
all_one (s ⨾ ss) = le_trans (all_one ss) (le-max_right (activities s) (activities_all ss))

cases_one : {N : Type 0} (cs : Cases N) → 1 ≤ activities_cases cs
unfolding activities
cases_one (default d) = all_one d
cases_one (case h e b cs) = le_trans (cases_one cs) (le-max_right (activities_all b) (activities_cases cs))

-- ---- one clock

mutual
  unfolding start activities

  pub start-places : (s : Stmt Variable) (r : Reads) → Places (activities s) (start s r)
  start-places (skip h) r = no_place_lem refl
  start-places (delay h p n) r = on_delayed (le_refl 1) h n
  start-places (change h c t) r = no_place_lem refl
  start-places (assign h v e) r = no_place_lem refl
  start-places (choice h e a b) r =
      on_cond (holds e r)
      (more (le-max_left (activities_all a) (activities_all b)) (start-places-all a r))
      (more (le-max_right (activities_all a) (activities_all b)) (start-places-all b r))
  start-places (while h e b) r = on_cond (holds e r) (on_looped (all_one b) h (start_all b r) (start-places-all b r)) (no_place_lem refl)
  start-places (loop h b) r = on_looped (all_one b) h (start_all b r) (start-places-all b r)
  start-places (exit h) r = no_place_lem refl
  start-places (break h) r = no_place_lem refl
  start-places (switch h cs) r = on_caught (start_cases cs r) (start-places_cases cs r)
  start-places (parallel h bs) r = on_caught (joined (start_each bs r)) (rw (← (wide-start bs r)) (on_joined (start_each bs r)))

  pub start-places-all : (ss : Stmts Variable) (r : Reads) → Places (activities_all ss) (start_all ss r)
  start-places-all end r = no_place_lem refl
  start-places-all (s ⨾ ss) r =
      on_then (all_one (s ⨾ ss)) (start s r) (first ss) (first_one ss)
      (more (le-max_left (activities s) (activities_all ss)) (start-places s r))
      (more (le-max_right (activities s) (activities_all ss)) (start-places-all ss r))

  pub start-places_cases : (cs : Cases Variable) (r : Reads) → Places (activities_cases cs) (start_cases cs r)
  start-places_cases (default d) r = start-places-all d r
  start-places_cases (case h e b cs) r =
      let later : Places (max (activities_all b) (activities_cases cs)) (start_cases cs r)
      = more (le-max_right (activities_all b) (activities_cases cs)) (start-places_cases cs r) in
      on_cond (holds e r)
      (on_then (cases_one (case h e b cs)) (start_all b r) (first_case cs) (first-case-one cs)
      (more (le-max_left (activities_all b) (activities_cases cs)) (start-places-all b r))
      later)
      later

mutual
  unfolding resume activities

  pub resume-places : (s : Stmt Variable) (es : List Entry) (r : Reads) → Places (activities s) (resume s es r)
  resume-places (skip h) es r = start-places (skip h) r
  resume-places (delay h p n) es r = on_delayed (le_refl 1) h (left_of n (get_or es 0 nowhere))
  resume-places (change h c t) es r = start-places (change h c t) r
  resume-places (assign h v e) es r = start-places (assign h v e) r
  resume-places (choice h e a b) es r =
      on_cond (some_at h.number es) (start-places (choice h e a b) r)
      (on_cond (inside_all a es)
      (more (le-max_left (activities_all a) (activities_all b)) (resume-places-all a es r))
      (more (le-max_right (activities_all a) (activities_all b)) (resume-places-all b es r)))
  resume-places (while h e b) es r =
      on_cond (some_at h.number es) (start-places (while h e b) r)
      (on_again (all_one b) h (resume_all b es r) (start-places (while h e b) r) (resume-places-all b es r))
  resume-places (loop h b) es r =
      on_cond (some_at h.number es) (start-places (loop h b) r)
      (on_again (all_one b) h (resume_all b es r) (start-places (loop h b) r) (resume-places-all b es r))
  resume-places (exit h) es r = start-places (exit h) r
  resume-places (break h) es r = start-places (break h) r
  resume-places (switch h cs) es r =
      on_cond (some_at h.number es) (start-places (switch h cs) r) (on_caught (resume_cases cs es r) (resume-places_cases cs es r))
  resume-places (parallel h bs) es r =
      on_cond (some_at h.number es) (start-places (parallel h bs) r)
      (on_caught (joined (resume_each bs es r)) (rw (← (wide-resume bs es r)) (on_joined (resume_each bs es r))))

  pub resume-places-all : (ss : Stmts Variable) (es : List Entry) (r : Reads) → Places (activities_all ss) (resume_all ss es r)
  resume-places-all end es r = no_place_lem refl
  resume-places-all (s ⨾ ss) es r =
      on_cond (inside s es)
      (on_then (all_one (s ⨾ ss)) (resume s es r) (first ss) (first_one ss)
      (more (le-max_left (activities s) (activities_all ss)) (resume-places s es r))
      (more (le-max_right (activities s) (activities_all ss)) (start-places-all ss r)))
      (more (le-max_right (activities s) (activities_all ss)) (resume-places-all ss es r))

  pub resume-places_cases : (cs : Cases Variable) (es : List Entry) (r : Reads) → Places (activities_cases cs) (resume_cases cs es r)
  resume-places_cases (default d) es r = resume-places-all d es r
  resume-places_cases (case h e b cs) es r =
      on_cond (some_at h.number es) (start-places_cases (case h e b cs) r)
      (on_cond (inside_all b es)
      (on_then (cases_one (case h e b cs)) (resume_all b es r) (first_case cs) (first-case-one cs)
      (more (le-max_left (activities_all b) (activities_cases cs)) (resume-places-all b es r))
      (more (le-max_right (activities_all b) (activities_cases cs)) (start-places_cases cs r)))
      (more (le-max_right (activities_all b) (activities_cases cs)) (resume-places_cases cs es r)))

-- ---- where there is room, all places are kept, in their order, with empty ones behind

take-empty : (n m : ℕ) → n ≤ m → take n (replicate m nowhere) ≡ replicate n nowhere
take-empty zero m h = refl
take-empty (suc n) zero h = absurd (omega arith)
take-empty (suc n) (suc m) h = ap (λ (l : List Entry). nowhere ∷ l) (take-empty n m (omega arith))

take_places : (es : List Entry) (n m : ℕ) → length es ≤ n → n ≤ m → take n (es ++ replicate m nowhere) ≡ es ++ replicate (n - length es) nowhere
take_places [] n m h k = take-empty n m k ∙ ap (λ (x : ℕ). replicate x nowhere) (sym (sub-zero n))
take_places (e ∷ es) zero m h k = absurd (omega arith)
take_places (e ∷ es) (suc n) m h k =
    let q : n - length es ≡ suc n - suc (length es) = omega arith in
    ap (λ (l : List Entry). e ∷ l) (take_places es n m (omega arith) (omega arith) ∙ ap (λ (x : ℕ). es ++ replicate x nowhere) q)

pub places-kept : (n : ℕ) (es : List Entry) → length es ≤ n → widened n es ≡ es ++ replicate (n - length es) nowhere
places-kept n es h = take_places es n n h (le_refl n)
