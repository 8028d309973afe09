-- A state has eight places, and the end is for ever.
-- Assumes nothing.
use mathlib.Core.Path.{◌≡◌, refl, sym, ap, ◌∙◌}
use mathlib.Core.Bool.{Bool, true, false, cond}
use mathlib.Core.List.{List, ◌++◌}
use Prim.Native.Nat.{ℕ, zero, suc}
use native.Mathlib.Nat.{min-eq_left}
use native.Mathlib.Omega.{arith}
use lib.ListN.{length, replicate, length-append, length-take, length-replicate}
use Rattle.meaning.specs.Tree.{Stmt, skip, delay, change, assign, choice, while, loop, exit, break, switch, parallel, Stmts, end, ◌⨾◌, Cases, default, case, Branches, none, ◌∥◌}
use Rattle.meaning.specs.Numbers.{Variable, Reads}
use Rattle.meaning.specs.Clock.{Entry, nowhere, After, done, stands, Outcome, finishes, jumps, waits, some_at, inside, inside_all, inside_cases, inside_some, widened, first, resume, resume_all}
use Rattle.meaning.specs.States.{State, Program, standing, start_state, settled, step_state}

-- ---- "eight activity places"

pub widened-length : (n : ℕ) (es : List Entry) → length (widened n es) ≡ n
widened-length n es =
    length-take n (es ++ replicate n nowhere)
    ∙ min-eq_left (omega (arith, length-append es (replicate n nowhere), length-replicate n nowhere))

standing-eight : (a : After) → length (standing a) ≡ 8
standing-eight done = refl
standing-eight (stands es) = widened-length 8 es

pub start-eight : (p : Program) → length (start_state p).entries ≡ 8
unfolding start_state
start-eight p = standing-eight (first p.body)

settled-eight : (o : Outcome) (word : ℕ) → length (settled o word).entries ≡ 8
settled-eight finishes word = refl
settled-eight (jumps j) word = refl
settled-eight (waits t a) word = standing-eight a

pub step-eight : (p : Program) (s : State) (input : ℕ) → length (step_state p s input).entries ≡ 8
unfolding step_state
step-eight p s input = settled-eight (resume_all p.body s.entries (record { word = s.word; inputs = input })) s.word

-- ---- "After the last statement the machine stands at the end for ever"

cond-none : (a b : Bool) → a ≡ false → b ≡ false → cond a true b ≡ false
cond-none a b e f = rw (e, f)

-- where no activity stands anywhere, none stands inside a statement
module _ (es : List Entry) (no_place : (n : ℕ) → some_at n es ≡ false) where
  mutual
    unfolding inside

    outside : (s : Stmt Variable) → inside s es ≡ false
    outside (skip h) = no_place h.number
    outside (delay h p n) = no_place h.number
    outside (change h c t) = no_place h.number
    outside (assign h v e) = no_place h.number
    outside (choice h e a b) = cond-none _ _ (no_place h.number) (cond-none _ _ (outside-all a) (outside-all b))
    outside (while h e b) = cond-none _ _ (no_place h.number) (outside-all b)
    outside (loop h b) = cond-none _ _ (no_place h.number) (outside-all b)
    outside (exit h) = no_place h.number
    outside (break h) = no_place h.number
    outside (switch h cs) = cond-none _ _ (no_place h.number) (outside_cases cs)
    outside (parallel h bs) = cond-none _ _ (no_place h.number) (outside-some bs)

    outside-all : (ss : Stmts Variable) → inside_all ss es ≡ false
    outside-all end = refl
    outside-all (s ⨾ ss) = cond-none _ _ (outside s) (outside-all ss)

    outside_cases : (cs : Cases Variable) → inside_cases cs es ≡ false
    outside_cases (default d) = outside-all d
    outside_cases (case h e b cs) = cond-none _ _ (no_place h.number) (cond-none _ _ (outside-all b) (outside_cases cs))

    outside-some : (bs : Branches Variable) → inside_some bs es ≡ false
    outside-some none = refl
    outside-some (b ∥ bs) = cond-none _ _ (outside-all b) (outside-some bs)

  pub nothing_runs : (ss : Stmts Variable) (r : Reads) → resume_all ss es r ≡ finishes
  unfolding resume
  nothing_runs end r = refl
  nothing_runs (s ⨾ ss) r = rw (outside s) (nothing_runs ss r)

no_places : (k n : ℕ) → some_at n (replicate k nowhere) ≡ false
unfolding some_at
no_places zero n = refl
no_places (suc k) n = no_places k n

abbrev placed : ℕ → List Entry → State
placed word es = record { entries = es; word = word }

settled-end : (o : Outcome) (s : State) → o ≡ finishes → s.entries ≡ replicate 8 nowhere → settled o s.word ≡ s
settled-end o s f e = ap (λ (x : Outcome). settled x s.word) f ∙ ap (placed s.word) (sym e)

-- every activity has finished: so it stays, with its word, whatever the input
pub end_stays : (p : Program) (s : State) (input : ℕ) → s.entries ≡ replicate 8 nowhere → step_state p s input ≡ s
unfolding step_state
end_stays p s input e =
    settled-end (resume_all p.body s.entries (record { word = s.word; inputs = input })) s
    (nothing_runs s.entries (λ n. rw e (no_places 8 n)) p.body (record { word = s.word; inputs = input }))
    e
