-- "Given exactly when": each refusal of compile, with the condition under which it is given.
-- Assumes nothing.
use mathlib.Core.Path.{◌≡◌, sym, ap, subst}
use mathlib.Core.Logic.{◌↔◌, ◌⊎◌}
use mathlib.Core.List.{List}
use Prim.Native.Nat.{ℕ, ◌≤◌, ◌<◌}
use native.Mathlib.Omega.{arith}
use lib.ListN.{length}
use Rattle.reach_law.specs.Count.{Counted, TooMany}
use Rattle.reach_law.proofs.Unique.{count-above, above-count}
use Rattle.file_law.specs.Answer.{Answer, refuses}
use Rattle.file_law.specs.Table.{most_states}
use Rattle.meaning.specs.States.{State}
use Rattle.meaning.specs.Declared.{Source}
use Rattle.meaning.specs.Checked.{program_of}
use Rattle.language.specs.Texts.{good, refused, Reads}
use Rattle.language.specs.Tables.{machine_of}
use Rattle.language.specs.Promise.{RoomFits, work_needed, Made, Lent, Ended, Ready, FileOf, Compiles, one, two, fault, eleven, twelve, made}
use Rattle.language.proofs.OneAnswer.{not_one, not_two, not_refused, one-source, one_file_of, one_answer}
use Rattle.language.proofs.Success.{made_of, not_given}
use Rattle.language.proofs.Areas.{same_number, fault-number}

-- two refusals with other numbers
apart : {A : Type 0} (m p n q : ℕ) → ¬ (m ≡ n) → ◌≡◌ {A = Answer Made} (refuses m p) (refuses n q) → A
apart m p n q other e = absurd (other (same_number m p n q e))

-- a promised end answers what any other promised end does
answers-so : {l : Lent} {e f : Ended} → Compiles l e → Compiles l f → e.answer ≡ f.answer
answers-so c d = ap (λ (x : Ended). x.answer) (one_answer c d)

-- "1 | room outside 1..256"
pub refused-room : {l : Lent} {e : Ended} → Compiles l e → (e.answer ≡ refuses 1 0) ↔ ((l.room < 1) ⊎ (most_states < l.room))
refused-room {l} {e} c = (told c, λ h. answers-so c (one h))
  where
    told : {e : Ended} → Compiles l e → e.answer ≡ refuses 1 0 → (l.room < 1) ⊎ (most_states < l.room)
    told (one h) p = h
    told (two r h) p = apart 2 0 1 0 (λ x. omega arith) p
    told (fault {number = n} {place = q} r x) p = apart n q 1 0 (λ y. omega (arith, fault-number x)) p
    told (eleven r x t) p = apart 11 0 1 0 (λ x. omega arith) p
    told (twelve r x f n h) p = apart 12 0 1 0 (λ x. omega arith) p
    told (made {states = states} {file = file} r x f n h) p = not_given (made_of states file) 1 0 (sym p)

-- "2 | work area short"
pub refused-work : {l : Lent} {e : Ended} → Compiles l e → (e.answer ≡ refuses 2 0) ↔ (RoomFits l.room × (length l.work < work_needed l.room))
refused-work {l} {e} c = (told c, λ h. answers-so c (two h.0 h.1))
  where
    told : {e : Ended} → Compiles l e → e.answer ≡ refuses 2 0 → RoomFits l.room × (length l.work < work_needed l.room)
    told (one h) p = apart 1 0 2 0 (λ x. omega arith) p
    told (two r h) p = (r, h)
    told (fault {number = n} {place = q} r x) p = apart n q 2 0 (λ y. omega (arith, fault-number x)) p
    told (eleven r x t) p = apart 11 0 2 0 (λ x. omega arith) p
    told (twelve r x f n h) p = apart 12 0 2 0 (λ x. omega arith) p
    told (made {states = states} {file = file} r x f n h) p = not_given (made_of states file) 2 0 (sym p)

-- 3 to 10: the text says so
pub refused-text : {l : Lent} {e : Ended} {number place : ℕ} → 3 ≤ number → number ≤ 10 → Compiles l e → (e.answer ≡ refuses number place) ↔ (Ready l × Reads l.source (refused number place))
refused-text {l} {e} {number} {place} low high c = (told c, λ h. answers-so c (fault h.0 h.1))
  where
    same : (m p n q : ℕ) → ◌≡◌ {A = Answer Made} (refuses m p) (refuses n q) → refused m p ≡ refused n q
    same m p n q e = cc

    told : {e : Ended} → Compiles l e → e.answer ≡ refuses number place → Ready l × Reads l.source (refused number place)
    told (one h) p = apart 1 0 number place (λ x. omega arith) p
    told (two r h) p = apart 2 0 number place (λ x. omega arith) p
    told (fault {number = n} {place = q} r x) p = (r, subst (Reads l.source) (same n q number place p) x)
    told (eleven r x t) p = apart 11 0 number place (λ x. omega arith) p
    told (twelve r x f n h) p = apart 12 0 number place (λ x. omega arith) p
    told (made {states = states} {file = file} r x f n h) p = not_given (made_of states file) number place (sym p)

-- "11 | reachable states above the room"
pub refused-states : {l : Lent} {e : Ended} {s : Source} → Ready l → Reads l.source (good s) → Compiles l e → (e.answer ≡ refuses 11 0) ↔ TooMany (machine_of (program_of s)) l.room
refused-states {l} {e} {s} r x c = (told c, λ t. answers-so c (eleven r x t))
  where
    told : {e : Ended} → Compiles l e → e.answer ≡ refuses 11 0 → TooMany (machine_of (program_of s)) l.room
    told (one h) p = not_one h r.room
    told (two q h) p = not_two h r
    told (fault q y) p = not_refused x y
    told (eleven q y t) p = subst (λ (v : Source). TooMany (machine_of (program_of v)) l.room) (one-source y x) t
    told (twelve q y f n h) p = apart 12 0 11 0 (λ x. omega arith) p
    told (made {states = states} {file = file} q y f n h) p = not_given (made_of states file) 11 0 (sym p)

-- .. that is, when the count is above the room
pub refused-count : {l : Lent} {e : Ended} {s : Source} {n : ℕ} → Ready l → Reads l.source (good s) → Counted (machine_of (program_of s)) n → Compiles l e → (e.answer ≡ refuses 11 0) ↔ (l.room < n)
refused-count r x n c = let (there, back) = refused-states r x c in (λ p. count-above (there p) n, λ h. back (above-count n h))

-- "12 | file buffer short"
pub refused-buffer : {l : Lent} {e : Ended} {s : Source} {states : List State} {file : List ℕ} → Ready l → Reads l.source (good s) → FileOf s states file → length states ≤ l.room → Compiles l e
    → (e.answer ≡ refuses 12 0) ↔ (length l.buffer < length file)
refused-buffer {l} {e} {s} {states} {file} r x f n c = (told c, λ h. answers-so c (twelve r x f n h))
  where
    told : {e : Ended} → Compiles l e → e.answer ≡ refuses 12 0 → length l.buffer < length file
    told (one h) p = not_one h r.room
    told (two q h) p = not_two h r
    told (fault q y) p = not_refused x y
    told (eleven q y t) p = apart 11 0 12 0 (λ x. omega arith) p
    told (twelve q y g m h) p = omega (arith, ap length (one_file_of x f y g).1)
    told (made {states = others} {file = other} q y g m h) p = not_given (made_of others other) 12 0 (sym p)
