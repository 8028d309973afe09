-- What a parallel makes of its branches.
-- Assumes nothing.
use mathlib.Core.Path.{◌≡◌, refl, ◌∙◌}
use mathlib.Core.Bool.{true, false, cond}
use mathlib.Core.List.{List, [], ◌∷◌, ◌++◌, map}
use lib.ListN.{take, drop}
use Rattle.meaning.specs.Tree.{Stmts, Branches, ◌∥◌}
use Rattle.meaning.specs.Numbers.{Variable, Reads}
use Rattle.meaning.specs.Tries.{agreed}
use Rattle.meaning.specs.Clock.{Entry, done, stands, Jump, Outcome, finishes, jumps, waits, activities_all, Branch, jump_or, first_jump, finished, finishing, each, tries_of, entries_of, joined, start, start_all, start_each, resume, resume_all, resume_each}

-- ---- "All reads in a clock see the values at its start and the clock's inputs."

-- a branch starts with the very reads of the parallel, whatever the branches before it do
pub same_reads : (b : Stmts Variable) (bs : Branches Variable) (r : Reads)
    → start_each (b ∥ bs) r ≡ record { wide = activities_all b; outcome = start_all b r } ∷ start_each bs r
unfolding start
same_reads b bs r = refl

-- .. and goes on with them, from its own places
pub same-reads_on : (b : Stmts Variable) (bs : Branches Variable) (es : List Entry) (r : Reads)
    → resume_each (b ∥ bs) es r
    ≡ record { wide = activities_all b; outcome = resume_all b (take (activities_all b) es) r }
    ∷ resume_each bs (drop (activities_all b) es) r
unfolding resume
same-reads_on b bs es r = refl

-- ---- "if any branch jumps, the first such branch in the text decides, all tries are dropped"

-- the branch does not jump
abbrev pub Stays : Outcome → Type 0
Stays finishes = Unit {0}
Stays (jumps j) = ⊥
Stays (waits t a) = Unit {0}

-- all branches of the list stay
abbrev pub AllStay : List Branch → Type 0
AllStay [] = Unit {0}
AllStay (b ∷ bs) = Stays b.outcome × AllStay bs

jump_passed : (o next : Outcome) → Stays o → jump_or o next ≡ next
jump_passed finishes next s = refl
jump_passed (jumps j) next s = absurd s
jump_passed (waits t a) next s = refl

jump_found : (before : List Branch) (b : Branch) (later : List Branch) (next : Outcome) (j : Jump)
    → AllStay before → b.outcome ≡ jumps j → first_jump (before ++ (b ∷ later)) next ≡ jumps j
unfolding first_jump
jump_found [] b later next j s e = rw e
jump_found (a ∷ before) b later next j s e = jump_passed a.outcome _ s.0 ∙ jump_found before b later next j s.1 e

pub jump_drops : (before : List Branch) (b : Branch) (later : List Branch) (j : Jump)
    → AllStay before → b.outcome ≡ jumps j → joined (before ++ (b ∷ later)) ≡ jumps j
jump_drops before b later j s e = jump_found before b later _ j s e

-- "If all have finished it has finished. Otherwise it waits": no branch jumps
none-jumps : (bs : List Branch) (next : Outcome) → AllStay bs → first_jump bs next ≡ next
unfolding first_jump
none-jumps [] next s = refl
none-jumps (b ∷ bs) next s = jump_passed b.outcome _ s.0 ∙ none-jumps bs next s.1

pub all_finished : (bs : List Branch) → AllStay bs → each finished bs ≡ true → joined bs ≡ finishes
all_finished bs s e = none-jumps bs _ s ∙ rw e

pub waits_else : (bs : List Branch) → AllStay bs → each finished bs ≡ false
    → joined bs ≡ waits (agreed (map tries_of bs)) (cond (each finishing bs) done (stands (entries_of bs)))
waits_else bs s e = none-jumps bs _ s ∙ rw e
