-- What holds of the tries of each single statement, and passes through an agreement, holds of all that is tried in a clock;
-- and a jump leaves only what there is to leave.
-- Assumes nothing.
use mathlib.Core.Path.{◌≡◌}
use mathlib.Core.Bool.{Bool, true, false, cond}
use mathlib.Core.List.Memᴰ
use mathlib.Core.List.{List, [], ◌∷◌, map, Memᴰ}
use Prim.Native.Nat.{ℕ, zero, suc}
use lib.ListN.{take, drop, get_or}
use Rattle.meaning.specs.Tree.{Head, Change, Target, Expr, Stmt, skip, delay, change, assign, choice, while, loop, exit, break, switch, parallel, Stmts, end, ◌⨾◌, Cases, default, case, Branches, none, ◌∥◌}
use Rattle.meaning.specs.Numbers.{Variable, Reads, holds}
use Rattle.meaning.specs.Tries.{Tries, no_tries, change_tries, assign_tries, agreed}
use Rattle.meaning.specs.Clock.{Entry, nowhere, After, done, stands, out, off, Outcome, finishes, jumps, waits, activities_all, some_at, inside, inside_all, first, first_case, and_then, caught, looped, again, delayed, left_of, Branch, jump_or, first_jump, each, finished, tries_in, tries_of, joined, start, start_all, start_cases, start_each, resume, resume_all, resume_cases, resume_each}

-- every target that a statement changes is in C, and every variable that it assigns in A;
-- an `exit` stands inside a loop (l), and a `break` inside a switch or a parallel (k)
unfoldable mutual
  pub Within : Stmt Variable → (Target Variable → Type 0) → (Variable → Type 0) → Bool → Bool → Type 0
  Within (skip h) C A l k = Unit {0}
  Within (delay h p n) C A l k = Unit {0}
  Within (change h c t) C A l k = C t
  Within (assign h v e) C A l k = A v
  Within (choice h e a b) C A l k = WithinAll a C A l k × WithinAll b C A l k
  Within (while h e b) C A l k = WithinAll b C A true k
  Within (loop h b) C A l k = WithinAll b C A true k
  Within (exit h) C A l k = l ≡ true
  Within (break h) C A l k = k ≡ true
  Within (switch h cs) C A l k = WithinCases cs C A l true
  Within (parallel h bs) C A l k = WithinEach bs C A l true

  pub WithinAll : Stmts Variable → (Target Variable → Type 0) → (Variable → Type 0) → Bool → Bool → Type 0
  WithinAll end C A l k = Unit {0}
  WithinAll (s ⨾ ss) C A l k = Within s C A l k × WithinAll ss C A l k

  pub WithinCases : Cases Variable → (Target Variable → Type 0) → (Variable → Type 0) → Bool → Bool → Type 0
  WithinCases (default d) C A l k = WithinAll d C A l k
  WithinCases (case h e b cs) C A l k = WithinAll b C A l k × WithinCases cs C A l k

  pub WithinEach : Branches Variable → (Target Variable → Type 0) → (Variable → Type 0) → Bool → Bool → Type 0
  WithinEach none C A l k = Unit {0}
  WithinEach (b ∥ bs) C A l k = WithinAll b C A l k × WithinEach bs C A l k

-- P holds of what is tried; `exit` jumps where l holds alone, `break` where k does
pub data Tried (P : Tries → Type 0) (l k : Bool) : Outcome → Type 0 where
  in_no_time : Tried P l k finishes
  by_exit : l ≡ true → Tried P l k (jumps out)
  by_break : k ≡ true → Tried P l k (jumps off)
  by_wait : {t : Tries} {a : After} → P t → Tried P l k (waits t a)

-- .. in each branch
pub data TriedEach (P : Tries → Type 0) (l k : Bool) : List Branch → Type 0 where
  no_branch : TriedEach P l k []
  and_branch : {b : Branch} {bs : List Branch} → Tried P l k b.outcome → TriedEach P l k bs → TriedEach P l k (b ∷ bs)

module _
    (C : Target Variable → Type 0)
    (A : Variable → Type 0)
    (P : Tries → Type 0)
    (of_none : P no_tries)
    (of-change : (c : Change) (t : Target Variable) (r : Reads) → C t → P (change_tries c t r))
    (of-assign : (v : Variable) (e : Expr Variable) (r : Reads) → A v → P (assign_tries v e r))
    (of-agreed : (ts : List Tries) → ((t : Tries) → Memᴰ t ts → P t) → P (agreed ts))
  where
    module _ {l k : Bool} where
      on_cond : (b : Bool) {x y : Outcome} → Tried P l k x → Tried P l k y → Tried P l k (cond b x y)
      on_cond true p q = p
      on_cond false p q = q

      on_then : {o next : Outcome} (place : After) → Tried P l k o → Tried P l k next → Tried P l k (and_then o next place)
      on_then place in_no_time q = q
      on_then place (by_exit e) q = by_exit e
      on_then place (by_break e) q = by_break e
      on_then place (by_wait {a = done} p) q = by_wait p
      on_then place (by_wait {a = stands es} p) q = by_wait p

      on_looped : (h : Head) {o : Outcome} → Tried P true k o → Tried P l k (looped h o)
      on_looped h in_no_time = by_wait of_none
      on_looped h (by_exit e) = in_no_time
      on_looped h (by_break e) = by_break e
      on_looped h (by_wait {a = done} p) = by_wait p
      on_looped h (by_wait {a = stands es} p) = by_wait p

      on_again : (h : Head) {restart o : Outcome} → Tried P l k restart → Tried P true k o → Tried P l k (again h restart o)
      on_again h p in_no_time = p
      on_again h p (by_exit e) = in_no_time
      on_again h p (by_break e) = by_break e
      on_again h p (by_wait {a = done} q) = by_wait q
      on_again h p (by_wait {a = stands es} q) = by_wait q

      on_caught : {o : Outcome} → Tried P l true o → Tried P l k (caught o)
      on_caught in_no_time = in_no_time
      on_caught (by_exit e) = by_exit e
      on_caught (by_break e) = in_no_time
      on_caught (by_wait p) = by_wait p

      on_delayed : (h : Head) (n : ℕ) → Tried P l k (delayed h n)
      on_delayed h zero = in_no_time
      on_delayed h (suc zero) = by_wait of_none
      on_delayed h (suc (suc n)) = by_wait of_none

      tries_in_lem : {o : Outcome} → Tried P l k o → P (tries_in o)
      tries_in_lem in_no_time = of_none
      tries_in_lem (by_exit e) = of_none
      tries_in_lem (by_break e) = of_none
      tries_in_lem (by_wait p) = p

      tries_of_lem : {bs : List Branch} → TriedEach P l k bs → (t : Tries) → Memᴰ t (map tries_of bs) → P t
      tries_of_lem no_branch t m = absurd (Memᴰ.not-nil m)
      tries_of_lem (and_branch p ps) t (Memᴰ.head e) = rw e (tries_in_lem p)
      tries_of_lem (and_branch p ps) t (Memᴰ.tail m) = tries_of_lem ps t m

      on_jump : {o next : Outcome} → Tried P l k o → Tried P l k next → Tried P l k (jump_or o next)
      on_jump in_no_time q = q
      on_jump (by_exit e) q = by_exit e
      on_jump (by_break e) q = by_break e
      on_jump (by_wait p) q = q

      on_first : {bs : List Branch} {next : Outcome} → TriedEach P l k bs → Tried P l k next → Tried P l k (first_jump bs next)
      unfolding first_jump
      on_first no_branch q = q
      on_first (and_branch p ps) q = on_jump p (on_first ps q)

      on_joined : {bs : List Branch} → TriedEach P l k bs → Tried P l k (joined bs)
      on_joined {bs} p = on_first p (on_cond (each finished bs) in_no_time (by_wait (of-agreed (map tries_of bs) (tries_of_lem p))))

    mutual
      unfolding Within start

      pub on_start : (s : Stmt Variable) {l k : Bool} (r : Reads) → Within s C A l k → Tried P l k (start s r)
      on_start (skip h) r w = by_wait of_none
      on_start (delay h p n) r w = on_delayed h n
      on_start (change h c t) r w = by_wait (of-change c t r w)
      on_start (assign h v e) r w = by_wait (of-assign v e r w)
      on_start (choice h e a b) r w = on_cond (holds e r) (on_start-all a r w.0) (on_start-all b r w.1)
      on_start (while h e b) r w = on_cond (holds e r) (on_looped h (on_start-all b r w)) in_no_time
      on_start (loop h b) r w = on_looped h (on_start-all b r w)
      on_start (exit h) r w = by_exit w
      on_start (break h) r w = by_break w
      on_start (switch h cs) r w = on_caught (on_start_cases cs r w)
      on_start (parallel h bs) r w = on_caught (on_joined (on_start-each bs r w))

      pub on_start-all : (ss : Stmts Variable) {l k : Bool} (r : Reads) → WithinAll ss C A l k → Tried P l k (start_all ss r)
      on_start-all end r w = in_no_time
      on_start-all (s ⨾ ss) r w = on_then (first ss) (on_start s r w.0) (on_start-all ss r w.1)

      pub on_start_cases : (cs : Cases Variable) {l k : Bool} (r : Reads) → WithinCases cs C A l k → Tried P l k (start_cases cs r)
      on_start_cases (default d) r w = on_start-all d r w
      on_start_cases (case h e b cs) r w =
          on_cond (holds e r) (on_then (first_case cs) (on_start-all b r w.0) (on_start_cases cs r w.1)) (on_start_cases cs r w.1)

      pub on_start-each : (bs : Branches Variable) {l k : Bool} (r : Reads) → WithinEach bs C A l k → TriedEach P l k (start_each bs r)
      on_start-each none r w = no_branch
      on_start-each (b ∥ bs) r w = and_branch (on_start-all b r w.0) (on_start-each bs r w.1)

    mutual
      unfolding Within resume

      pub on_resume : (s : Stmt Variable) {l k : Bool} (es : List Entry) (r : Reads) → Within s C A l k → Tried P l k (resume s es r)
      on_resume (skip h) es r w = on_start (skip h) r w
      on_resume (delay h p n) es r w = on_delayed h (left_of n (get_or es 0 nowhere))
      on_resume (change h c t) es r w = on_start (change h c t) r w
      on_resume (assign h v e) es r w = on_start (assign h v e) r w
      on_resume (choice h e a b) es r w =
          on_cond (some_at h.number es) (on_start (choice h e a b) r w)
          (on_cond (inside_all a es) (on_resume-all a es r w.0) (on_resume-all b es r w.1))
      on_resume (while h e b) es r w =
          on_cond (some_at h.number es) (on_start (while h e b) r w)
          (on_again h (on_start (while h e b) r w) (on_resume-all b es r w))
      on_resume (loop h b) es r w =
          on_cond (some_at h.number es) (on_start (loop h b) r w)
          (on_again h (on_start (loop h b) r w) (on_resume-all b es r w))
      on_resume (exit h) es r w = on_start (exit h) r w
      on_resume (break h) es r w = on_start (break h) r w
      on_resume (switch h cs) es r w =
          on_cond (some_at h.number es) (on_start (switch h cs) r w) (on_caught (on_resume_cases cs es r w))
      on_resume (parallel h bs) es r w =
          on_cond (some_at h.number es) (on_start (parallel h bs) r w)
          (on_caught (on_joined (on_resume-each bs es r w)))

      pub on_resume-all : (ss : Stmts Variable) {l k : Bool} (es : List Entry) (r : Reads) → WithinAll ss C A l k → Tried P l k (resume_all ss es r)
      on_resume-all end es r w = in_no_time
      on_resume-all (s ⨾ ss) es r w =
          on_cond (inside s es) (on_then (first ss) (on_resume s es r w.0) (on_start-all ss r w.1))
          (on_resume-all ss es r w.1)

      pub on_resume_cases : (cs : Cases Variable) {l k : Bool} (es : List Entry) (r : Reads) → WithinCases cs C A l k → Tried P l k (resume_cases cs es r)
      on_resume_cases (default d) es r w = on_resume-all d es r w
      on_resume_cases (case h e b cs) es r w =
          on_cond (some_at h.number es) (on_start_cases (case h e b cs) r w)
          (on_cond (inside_all b es)
          (on_then (first_case cs) (on_resume-all b es r w.0) (on_start_cases cs r w.1))
          (on_resume_cases cs es r w.1))

      pub on_resume-each : (bs : Branches Variable) {l k : Bool} (es : List Entry) (r : Reads) → WithinEach bs C A l k → TriedEach P l k (resume_each bs es r)
      on_resume-each none es r w = no_branch
      on_resume-each (b ∥ bs) es r w =
          and_branch (on_resume-all b (take (activities_all b) es) r w.0) (on_resume-each bs (drop (activities_all b) es) r w.1)
