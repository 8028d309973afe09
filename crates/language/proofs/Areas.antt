-- What a compile leaves in the lent work area and file buffer.
-- Assumes nothing.
use mathlib.Core.Path.{◌≡◌, refl, sym, ap}
use mathlib.Core.List.{List, [], ◌∷◌, ◌++◌}
use mathlib.Core.Option.{Option, none, some, none-ne-some, some-injective}
use Prim.Native.Nat.{ℕ, ◌*◌, ◌≤◌}
use native.Mathlib.Omega.{arith}
use lib.ListN.{length, drop, length-append, length-drop}
use Rattle.file_law.specs.Answer.{Answer, gives, refuses}
use Rattle.meaning.specs.Names.{name_faults}
use Rattle.meaning.specs.Kinds.{kind_faults}
use Rattle.meaning.specs.Jumps.{jump_faults}
use Rattle.meaning.specs.Sizes.{size_faults}
use Rattle.meaning.specs.Worst.{worst_faults}
use Rattle.meaning.specs.Faults.{Fault, least, earliest}
use Rattle.meaning.specs.Unexpanded.{Unexpanded}
use Rattle.meaning.specs.Expansion.{expanded}
use Rattle.meaning.specs.Procedures.{added_names, added_sizes, fault_in}
use Rattle.language.specs.Grammar.{refuses as refusesWith, Checks, four, five}
use Rattle.language.specs.Texts.{refused, Reads, long, text, tree}
use Rattle.language.specs.Promise.{Made, Lent, Ended, all_zero, Compiles, one, two, fault, eleven, twelve, made}
use Rattle.language.proofs.Success.{made_of, success, not_given, past_file}

-- ---- the numbers of refusals

pub same_number : (number place number₁ place₁ : ℕ) → ◌≡◌ {A = Answer Made} (refuses number place) (refuses number₁ place₁) → number ≡ number₁
same_number number place number₁ place₁ p = cc

abbrev Told : ℕ → Type 0
Told number = (3 ≤ number) × (number ≤ 10)

told : (number : ℕ) → Told number → (places : List ℕ) (next : Option Fault) (f : Fault) → (next ≡ some f → Told f.number) → earliest number places next ≡ some f → Told f.number
told number h [] next f k e = k e
told number h (p ∷ ps) next f k e =
    let same : number ≡ f.number = ap (λ (g : Fault). g.number) (some-injective (record { number = number; place = least p ps }) f e) in
    (omega arith, omega arith)

tree-fault : (w : Unexpanded) (f : Fault) → fault_in w ≡ some f → Told f.number
unfolding fault_in
tree-fault w f e =
    let s = expanded w in
    let names = added_names w ++ name_faults s in
    let sizes = added_sizes w ++ size_faults s in
    let worst = earliest 10 (worst_faults s) none in
    let size = earliest 9 sizes worst in
    let jump = earliest 8 (jump_faults s) size in
    let kind = earliest 7 (kind_faults s) jump in
    told 6 (omega arith, omega arith) names kind f (
    told 7 (omega arith, omega arith) (kind_faults s) jump f (
    told 8 (omega arith, omega arith) (jump_faults s) size f (
    told 9 (omega arith, omega arith) sizes worst f (
    told 10 (omega arith, omega arith) (worst_faults s) none f (λ x. absurd (none-ne-some f x))
    )))) e

text-fault : {s : List ℕ} {number place : ℕ} → Checks s (refusesWith number place) → Told number
text-fault (four x) = (omega arith, omega arith)
text-fault (five x a) = (omega arith, omega arith)

-- "3 to 10, a fault of the text"
pub fault-number : {s : List ℕ} {number place : ℕ} → Reads s (refused number place) → (3 ≤ number) × (number ≤ 10)
fault-number (long h) = (omega arith, omega arith)
fault-number (text h c) = text-fault c
fault-number (tree {f = f} h x d e) = tree-fault _ f e

-- ---- the file buffer

-- any refusal leaves it
pub buffer_stays : {l : Lent} {e : Ended} {number place : ℕ} → Compiles l e → e.answer ≡ refuses number place → e.buffer ≡ l.buffer
buffer_stays (one h) p = refl
buffer_stays (two r h) p = refl
buffer_stays (fault r x) p = refl
buffer_stays (eleven r x t) p = refl
buffer_stays (twelve r x f n h) p = refl
buffer_stays {number = number} {place = place} (made {states = states} {file = file} r x f n h) p = not_given (made_of states file) number place (sym p)

-- "bytes past the file stay"
pub past_stays : {l : Lent} {e : Ended} {m : Made} → Compiles l e → e.answer ≡ gives m → drop (512 * m.blocks) e.buffer ≡ drop (512 * m.blocks) l.buffer
past_stays c p = let (s, y) = success c p in past_file y

-- it keeps its length
pub buffer-length : {l : Lent} {e : Ended} → Compiles l e → length e.buffer ≡ length l.buffer
buffer-length (one h) = refl
buffer-length (two r h) = refl
buffer-length (fault r x) = refl
buffer-length (eleven r x t) = refl
buffer-length (twelve r x f n h) = refl
buffer-length {l} (made {file = file} r x f n h) = omega (arith, length-append file (drop (length file) l.buffer), length-drop (length file) l.buffer)

-- ---- the work area

-- "refusals 1 and 2 leave the work area alone"
pub work-left : {l : Lent} {e : Ended} {number place : ℕ} → number ≤ 2 → Compiles l e → e.answer ≡ refuses number place → e.work ≡ l.work
work-left k (one h) p = refl
work-left k (two r h) p = refl
work-left {number = number} {place = place} k (fault {number = n} {place = q} r x) p = absurd (omega (arith, fault-number x, same_number n q number place p))
work-left {number = number} {place = place} k (eleven r x t) p = absurd (omega (arith, same_number 11 0 number place p))
work-left {number = number} {place = place} k (twelve r x f n h) p = absurd (omega (arith, same_number 12 0 number place p))
work-left {number = number} {place = place} k (made {states = states} {file = file} r x f n h) p = not_given (made_of states file) number place (sym p)

-- "every other end of a compile leaves it all zero"
pub work-ends : {l : Lent} {e : Ended} → Compiles l e → ¬ (e.answer ≡ refuses 1 0) → ¬ (e.answer ≡ refuses 2 0) → e.work ≡ all_zero l.work
work-ends (one h) p q = absurd (p refl)
work-ends (two r h) p q = absurd (q refl)
work-ends (fault r x) p q = refl
work-ends (eleven r x t) p q = refl
work-ends (twelve r x f n h) p q = refl
work-ends (made r x f n h) p q = refl
