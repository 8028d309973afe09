-- Z2 to Z8: sizes passed, fault 9 at the first too many.
-- Assumes nothing.
use Rattle.std.specs.Prelude.{ℕ, ◌+◌, false, cond, not as opposite, List, [], ◌∷◌, ◌++◌, map, leb, ltb, drop}
use Rattle.file_law.specs.Table.{most_inputs, most_outputs}
use Rattle.meaning.specs.Tree.{Name, Stmt, skip, delay, change, assign, choice, while, loop, exit, break, switch, parallel, Stmts}
use Rattle.meaning.specs.Clock.{head_of, activities_sum}
use Rattle.meaning.specs.States.{most_activities}
use Rattle.meaning.specs.Declared.{Declaration, inputs, outputs, internals, integers, Source, name_of}
use Rattle.meaning.specs.Items.{Item, statement, test, items_all, parts_of, place_of}
use Rattle.meaning.specs.Names.{gather, when}

-- Z3 to Z7; inputs and outputs (Z2) as in a table file
abbrev pub most_bits : ℕ
most_bits = 32

abbrev pub most_width : ℕ
most_width = 16

abbrev pub most_statements : ℕ
most_statements = 255

abbrev pub most_parts : ℕ
most_parts = 1024

abbrev pub most_delay : ℕ
most_delay = 255

abbrev pub input_places : Declaration → List ℕ
input_places (inputs n e) = n.place ∷ []
input_places (outputs n e b) = []
input_places (internals n e b) = []
input_places (integers n p w v) = []

abbrev pub output_places : Declaration → List ℕ
output_places (inputs n e) = []
output_places (outputs n e b) = n.place ∷ []
output_places (internals n e b) = []
output_places (integers n p w v) = []

-- Z3: an integer counts by its written width
abbrev pub bits_of : Declaration → ℕ
bits_of (inputs n e) = 0
bits_of (outputs n e b) = 1
bits_of (internals n e b) = 1
bits_of (integers n p w v) = w

-- the names at which the bits so far pass their limit
unfoldable pub bits_from : ℕ → List Declaration → List ℕ
bits_from before [] = []
bits_from before (d ∷ ds) =
    when (ltb most_bits (before + bits_of d)) (name_of d).place ++ bits_from (before + bits_of d) ds

-- Z4: widths
abbrev pub width_fault : Declaration → List ℕ
width_fault (inputs n e) = []
width_fault (outputs n e b) = []
width_fault (internals n e b) = []
width_fault (integers n p w v) = when (opposite (cond (leb 1 w) (leb w most_width) false)) p

abbrev pub statement_place : Item → List ℕ
statement_place (statement s) = (head_of s).place ∷ []
statement_place (test h e) = []

-- Z7: a delay, at its number; Z8: every parallel with too many activities
abbrev pub stmt_size : Stmt Name → List ℕ
stmt_size (skip h) = []
stmt_size (delay h p n) = when (ltb most_delay n) p
stmt_size (change h c t) = []
stmt_size (assign h v e) = []
stmt_size (choice h e a b) = []
stmt_size (while h e b) = []
stmt_size (loop h b) = []
stmt_size (exit h) = []
stmt_size (break h) = []
stmt_size (switch h cs) = []
stmt_size (parallel h bs) = when (ltb most_activities (activities_sum bs)) h.place

abbrev pub item_size : Item → List ℕ
item_size (statement s) = stmt_size s
item_size (test h e) = []

-- Z5
abbrev pub statements_over : Stmts Name → List ℕ
statements_over b = drop most_statements (gather statement_place (items_all b))

-- Z6
abbrev pub parts_over : Stmts Name → List ℕ
parts_over b = drop most_parts (map place_of (parts_of (items_all b)))

-- Z5, Z6: what is too many of a list of statements
abbrev pub count_faults : Stmts Name → List ℕ
count_faults b = statements_over b ++ parts_over b

-- Z5 to Z8: all that a list of statements passes
abbrev pub body_sizes : Stmts Name → List ℕ
body_sizes b = statements_over b ++ (parts_over b ++ gather item_size (items_all b))

unfoldable pub size_faults : Source → List ℕ
size_faults s =
    drop most_inputs (gather input_places s.declared)
    ++ (drop most_outputs (gather output_places s.declared)
    ++ (bits_from 0 s.declared
    ++ (gather width_fault s.declared
    ++ body_sizes s.body)))
