-- Each state has one struct.
use mathlib.Core.Path.{◌≡◌, refl, sym, ap, ◌∙◌}
use mathlib.Core.List.{List, [], ◌∷◌, ◌++◌, map}
use Prim.Native.Nat.{ℕ, zero, suc, ◌*◌}
use native.Mathlib.Numerals.{add-one}
use native.Mathlib.Nat.{le_refl}
use native.Mathlib.Omega.{arith}
use lib.ListN.{length, length-append, length-replicate, replicate, take}
use lib.Seq.{length-take-le}
use Rattle.meaning.specs.Clock.{Outcome, finishes, jumps, waits, After, done, stands, nowhere, at, widened, first, resume_all}
use Rattle.meaning.specs.Clock as clock
use Rattle.meaning.specs.States.{Program, State, standing, settled, start_state, step_state}
use Rattle.nodes.specs.Decode.{list_at}
use Rattle.runs.specs.Run.{entry_of, entry_from}
use Rattle.clock.specs.declared.State as code
use Rattle.clock.specs.declared.Clocked.{Clocked}
use Rattle.clock.specs.Step.{state_of, state_from, Canon, Starts, Clocks}

entry_back : (x : clock.Entry) → entry_from (entry_of x) ≡ x
entry_back nowhere = refl
entry_back (at n k) = rw (add-one n)

entries-back : (n : ℕ) (xs : List clock.Entry) → length xs ≡ n → map entry_from (take n (map entry_of xs)) ≡ xs
entries-back zero [] e = refl
entries-back zero (x ∷ xs) e = absurd (omega arith)
entries-back (suc n) [] e = refl
entries-back (suc n) (x ∷ xs) e = rw (entry_back x, entries-back n xs (omega arith))

pub state-back : (m : State) → length m.entries ≡ 8 → state_from (state_of m) ≡ m
state-back m e = rw (entries-back 8 m.entries e)

pub canon_of : (m : State) → length m.entries ≡ 8 → Canon (state_of m)
canon_of m e = ap state_of (state-back m e)

pub one_struct : (a b : code.State) → Canon a → Canon b → state_from a ≡ state_from b → a ≡ b
one_struct a b p q e = sym p ∙ ap state_of e ∙ q

-- ---- the states of a program have eight entries

long : (n : ℕ) (xs : List clock.Entry) → length (widened n xs) ≡ n
long n xs =
    length-take-le n (xs ++ replicate n nowhere)
    (rw (length-append xs (replicate n nowhere), length-replicate n nowhere) (omega arith))

standing-long : (a : After) → length (standing a) ≡ 8
standing-long done = refl
standing-long (stands xs) = long 8 xs

settled-long : (o : Outcome) (word : ℕ) → length (settled o word).entries ≡ 8
settled-long finishes word = refl
settled-long (jumps j) word = refl
settled-long (waits t a) word = standing-long a

pub step-long : (p : Program) (m : State) (input : ℕ) → length (step_state p m input).entries ≡ 8
unfolding step_state
step-long p m input = settled-long (resume_all p.body m.entries (record { word = m.word; inputs = input })) m.word

pub start-long : (p : Program) → length (start_state p).entries ≡ 8
unfolding start_state
start-long p = standing-long (first p.body)

-- ---- .. and so do the structs of the clock

abbrev program : List ℕ → ℕ → ℕ → ℕ → Program
program t n left word = record { inputs = 0; outputs = 0; initial = word; body = list_at left t 0 n }

canon_as : {a : code.State} (m : State) → length m.entries ≡ 8 → a ≡ state_of m → Canon a
canon_as m e q = rw q (canon_of m e)

pub step-canon : {t : List ℕ} {n left : ℕ} {s : code.State} {input : ℕ} {r : Clocked} → Clocks t n left s input r → Canon r.state
step-canon {t} {n} {left} {s} {input} c =
    let p = program t n left 0 in
    canon_as (step_state p (state_from s) input) (step-long p (state_from s) input) (c.next p refl)

pub start-canon : {n word : ℕ} {r : code.State} → Starts n word r → Canon r
start-canon {n} {word} c =
    let p = program [] n (3 * n) word in
    canon_as (start_state p) (start-long p) (c.first [] (3 * n) p (le_refl (3 * n)) refl refl)
