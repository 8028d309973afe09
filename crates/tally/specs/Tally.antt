-- How the sizes of an expansion are counted in code: no further than one too many.
-- Assumes nothing.
use Rattle.std.specs.Prelude.{Bool, true, false, cond, ℕ, ◌+◌, min, max, ltb, leb}
use Rattle.meaning.specs.Sizes.{most_statements, most_parts}
use Rattle.meaning.specs.States.{most_activities}
use Rattle.meaning.specs.Levels.{most_levels}
use Rattle.tally.specs.declared.Tally.{Tally}

-- activities are counted up to here: more than statements that are not too many can have
abbrev pub most_counted : ℕ
most_counted = 256

abbrev pub tally_of : ℕ → ℕ → ℕ → Bool → Bool → Tally
tally_of a b c l p = record { statements = a; parts = b; acts = c; large = l; passed = p }

-- at the outermost call
abbrev pub start_tally : Tally
start_tally = tally_of 0 0 1 false false

-- Z5, Z6: too many
abbrev pub full_tally : Tally → Tally
full_tally m = tally_of m.statements m.parts m.acts m.large true

-- Z5, Z6: one statement more is too many
unfoldable pub none_left : Tally → Bool
none_left m = cond m.passed true (leb most_statements m.statements)

-- P13: a size is passed
unfoldable pub over_tally : Tally → Bool
over_tally m = cond m.passed true m.large

-- Z5: one statement more
unfoldable pub begun_tally : Tally → Tally
begun_tally m = cond m.passed m (cond (ltb m.statements most_statements) (tally_of (m.statements + 1) m.parts m.acts m.large m.passed) (full_tally m))

-- Z6: so many parts more
unfoldable pub parted_tally : Tally → ℕ → Tally
parted_tally m n = cond m.passed m (cond (leb (m.parts + n) most_parts) (tally_of m.statements (m.parts + n) m.acts m.large m.passed) (full_tally m))

-- Z7 to Z9: something is too large
unfoldable pub marked_tally : Tally → Bool → Tally
marked_tally m big = cond big (tally_of m.statements m.parts m.acts true m.passed) m

-- Z9: so many levels are open, and so many more
unfoldable pub deep_tally : Tally → ℕ → ℕ → Tally
deep_tally m around levels = marked_tally m (ltb most_levels (around + levels))

-- an expression, with so many levels open around
unfoldable pub term_tally : Tally → ℕ → ℕ → ℕ → Tally
term_tally m around n levels = deep_tally (parted_tally m n) around levels

abbrev pub acts_tally : Tally → ℕ → Tally
acts_tally m a = tally_of m.statements m.parts a m.large m.passed

-- a branch ends: so many activities stood before it
abbrev pub summed_tally : Tally → ℕ → Tally
summed_tally m before = acts_tally m (min (before + m.acts) most_counted)

-- Z8: a parallel ends: so many activities stood before it
unfoldable pub together_tally : Tally → ℕ → Tally
together_tally m before = acts_tally (marked_tally m (ltb most_activities m.acts)) (max before m.acts)
