-- A compile has one end: whatever is lent, the promise allows one answer, work area and file buffer, and no second.
-- Assumes nothing.
use mathlib.Core.Path.{◌≡◌, refl, sym, ap, ap₂, subst}
use mathlib.Core.Logic.{◌⊎◌, inl, inr}
use mathlib.Core.List.{List}
use Prim.Native.Nat.{ℕ, ◌≤◌, ◌<◌}
use native.Mathlib.Decide.{dec_lt}
use native.Mathlib.Omega.{arith}
use lib.ListN.{length}
use Rattle.reach_law.specs.Count.{TooMany}
use Rattle.reach_law.specs.Numbering.{Numbering}
use Rattle.reach_law.proofs.Unique.{not_both}
use Rattle.reach_law.proofs.Room.{decided}
use Rattle.file_law.specs.Table.{most_states}
use Rattle.meaning.specs.States.{State}
use Rattle.meaning.specs.Declared.{Source}
use Rattle.meaning.specs.Checked.{program_of}
use Rattle.meaning.proofs.Equal.{same_state}
use Rattle.language.specs.Texts.{Reading, good, refused, Reads}
use Rattle.language.specs.Tables.{machine_of}
use Rattle.language.specs.Promise.{RoomFits, work_needed, Lent, Ended, Ready, FileOf, refusal, Compiles, one, two, fault, eleven, twelve, made}
use Rattle.language.proofs.Readings.{reading_of, reading-right, one-reads}
use Rattle.language.proofs.OneTable.{one_file, some_file}

-- ---- no second end

-- a text says one source
pub one-source : {text : List ℕ} {s v : Source} → Reads text (good s) → Reads text (good v) → s ≡ v
one-source {text} {s} {v} x y = same (one-reads text x y)
  where
    same : good s ≡ good v → s ≡ v
    same p = cc

-- .. or is refused
pub not_refused : {A : Type 0} {text : List ℕ} {s : Source} {number place : ℕ} → Reads text (good s) → Reads text (refused number place) → A
not_refused {text = text} {s = s} {number = number} {place = place} x y = clash (one-reads text x y)
  where
    clash : {A : Type 0} → good s ≡ refused number place → A
    clash p = let z : ◌≡◌ {A = ℕ} 0 1 = cc in absurd (omega arith)

same-refusal : (l : Lent) (work : List ℕ) {number place number₁ place₁ : ℕ} → refused number place ≡ refused number₁ place₁ → refusal l work number place ≡ refusal l work number₁ place₁
same-refusal l work {number} {place} {number₁} {place₁} p =
    let n : number ≡ number₁ = cc in
    let q : place ≡ place₁ = cc in
    ap₂ (refusal l work) n q

-- a text has one file, in one numbering
pub one_file_of : {text : List ℕ} {s v : Source} {states states₁ : List State} {file file₁ : List ℕ} → Reads text (good s) → FileOf s states file → Reads text (good v) → FileOf v states₁ file₁
    → (states ≡ states₁) × (file ≡ file₁)
one_file_of {states₁ = states₁} {file₁ = file₁} x f y g = one_file f (subst (λ (s : Source). FileOf s states₁ file₁) (sym (one-source x y)) g)

-- its states are too many for a room, or fit
not_over : {A : Type 0} {text : List ℕ} {s v : Source} {states : List State} {file : List ℕ} {room : ℕ} → Reads text (good s) → TooMany (machine_of (program_of s)) room → Reads text (good v) → FileOf v states file
    → length states ≤ room → A
not_over {room = room} x t y f h = absurd (not_both f.numbers h (subst (λ (s : Source). TooMany (machine_of (program_of s)) room) (one-source x y) t))

-- its file is longer than a buffer, or fits
not_short : {A : Type 0} {text : List ℕ} {s v : Source} {states states₁ : List State} {file file₁ : List ℕ} {bytes : ℕ} → Reads text (good s) → FileOf s states file → bytes < length file → Reads text (good v)
    → FileOf v states₁ file₁ → length file₁ ≤ bytes → A
not_short x f h y g k = let e = ap length (one_file_of x f y g).1 in absurd (omega arith)

-- a room and a work area that are ready
pub not_one : {A : Type 0} {room : ℕ} → (room < 1) ⊎ (most_states < room) → RoomFits room → A
not_one (inl h) r = absurd (omega arith)
not_one (inr h) r = absurd (omega arith)

pub not_two : {A : Type 0} {l : Lent} → length l.work < work_needed l.room → Ready l → A
not_two h r = absurd (omega arith)

pub one_answer : {l : Lent} {a b : Ended} → Compiles l a → Compiles l b → a ≡ b
one_answer (one h) (one k) = refl
one_answer (one h) (two r k) = not_one h r
one_answer (one h) (fault r x) = not_one h r.room
one_answer (one h) (eleven r x t) = not_one h r.room
one_answer (one h) (twelve r x f n k) = not_one h r.room
one_answer (one h) (made r x f n k) = not_one h r.room
one_answer (two q h) (one k) = not_one k q
one_answer (two q h) (two r k) = refl
one_answer (two q h) (fault r x) = not_two h r
one_answer (two q h) (eleven r x t) = not_two h r
one_answer (two q h) (twelve r x f n k) = not_two h r
one_answer (two q h) (made r x f n k) = not_two h r
one_answer (fault q x) (one k) = not_one k q.room
one_answer (fault q x) (two r k) = not_two k q
one_answer {l} (fault q x) (fault r y) = same-refusal l _ (one-reads l.source x y)
one_answer (fault q x) (eleven r y t) = not_refused y x
one_answer (fault q x) (twelve r y f n k) = not_refused y x
one_answer (fault q x) (made r y f n k) = not_refused y x
one_answer (eleven q x t) (one k) = not_one k q.room
one_answer (eleven q x t) (two r k) = not_two k q
one_answer (eleven q x t) (fault r y) = not_refused x y
one_answer (eleven q x t) (eleven r y u) = refl
one_answer (eleven q x t) (twelve r y f n k) = not_over x t y f n
one_answer (eleven q x t) (made r y f n k) = not_over x t y f n
one_answer (twelve q x f n h) (one k) = not_one k q.room
one_answer (twelve q x f n h) (two r k) = not_two k q
one_answer (twelve q x f n h) (fault r y) = not_refused x y
one_answer (twelve q x f n h) (eleven r y t) = not_over y t x f n
one_answer (twelve q x f n h) (twelve r y g m k) = refl
one_answer (twelve q x f n h) (made r y g m k) = not_short x f h y g k
one_answer (made q x f n h) (one k) = not_one k q.room
one_answer (made q x f n h) (two r k) = not_two k q
one_answer (made q x f n h) (fault r y) = not_refused x y
one_answer (made q x f n h) (eleven r y t) = not_over y t x f n
one_answer (made q x f n h) (twelve r y g m k) = not_short y g k x f h
one_answer (made q x f n h) (made r y g m k) = let (states, file) = one_file_of x f y g in rw (states, file)

-- ---- there is one

pub some-answer : (l : Lent) → (e : Ended) × Compiles l e
some-answer l = least (dec_lt l.room 1)
  where
    filed : Ready l → (s : Source) → Reads l.source (good s) → (states : List State) → length states ≤ l.room → (file : List ℕ) → FileOf s states file → Dec (length l.buffer < length file)
        → (e : Ended) × Compiles l e
    filed r s x states n file f (yes h) = (_, twelve r x f n h)
    filed r s x states n file f (no h) = (_, made r x f n (omega arith))

    counted : Ready l → (s : Source) → Reads l.source (good s) → ((states : List State) × Numbering (machine_of (program_of s)) states × (length states ≤ l.room)) ⊎ TooMany (machine_of (program_of s)) l.room
        → (e : Ended) × Compiles l e
    counted r s x (inl (states, u, n)) = let f = some_file s states u in filed r s x states n _ f (dec_lt (length l.buffer) _)
    counted r s x (inr t) = (_, eleven r x t)

    reading : Ready l → (r : Reading) → Reads l.source r → (e : Ended) × Compiles l e
    reading r (refused number place) x = (_, fault r x)
    reading r (good s) x = counted r s x (decided same_state (machine_of (program_of s)) l.room)

    worked : RoomFits l.room → Dec (length l.work < work_needed l.room) → (e : Ended) × Compiles l e
    worked r (yes h) = (_, two r h)
    worked r (no h) = reading (record { room = r; work = omega arith }) (reading_of l.source) (reading-right l.source)

    most : 1 ≤ l.room → Dec (most_states < l.room) → (e : Ended) × Compiles l e
    most h (yes k) = (_, one (inr k))
    most h (no k) = worked (record { some = h; few = omega arith }) (dec_lt (length l.work) (work_needed l.room))

    least : Dec (l.room < 1) → (e : Ended) × Compiles l e
    least (yes h) = (_, one (inl h))
    least (no h) = most (omega arith) (dec_lt most_states l.room)
