-- What is noted of statements and what is written of them, as a function of the tree.
-- Assumes nothing.
use Rattle.std.specs.Prelude.{Bool, true, cond, not as opposite, List, ℕ, ◌+◌, ◌*◌, ◌/◌, ◌%◌, min, max, eqb, ltb, leb, length, set}
use Rattle.std.proofs.Math.Option.{Option}
use Rattle.meaning.specs.Tree.{Expr, Change, raise, lower, invert, Target, whole, part, Head, Stmt, skip, delay, change, assign, choice, while, loop, exit, break, switch, parallel, Stmts, end, ◌⨾◌, Cases, default, case, Branches, ◌∥◌}
use Rattle.meaning.specs.Tree as tree
use Rattle.meaning.specs.Numbers.{Variable}
use Rattle.meaning.specs.Names.{missing}
use Rattle.meaning.specs.Kinds.{both, changeable, assignable, has_bit}
use Rattle.meaning.specs.Sizes.{most_statements, most_delay}
use Rattle.meaning.specs.States.{most_activities}
use Rattle.language.specs.Trees.{Name}
use Rattle.parts.specs.Sum.{Sum, sum, at_six, at_seven, number_of, width_of}
use Rattle.parts.specs.declared.Notes.{Notes}
use Rattle.items.specs.declared.Marks.{Marks}
use Rattle.items.specs.declared.Read.{Read}
use Rattle.items.specs.declared.Tried.{Tried}

-- ---- marks

-- the nodes that fit; a program that is not refused has at most 255 statements and 253 case tests
abbrev pub most_nodes : ℕ
most_nodes = 512

-- before the first statement: no fault, and the program's one activity
abbrev pub start_marks : Marks
start_marks =
    record { notes = record { six = 65535; seven = 65535; nine = 65535; ten = 65535; parts = 0 }; eight = 65535; statements = 0; nodes = 0; acts = 1 }

-- one node more, as long as they fit
unfoldable pub more : ℕ → ℕ
more n = cond (ltb n most_nodes) (n + 1) n

-- a fault 9 at p
unfoldable pub at_nine : Notes → ℕ → Notes
at_nine n p = record { six = n.six; seven = n.seven; nine = min n.nine p; ten = n.ten; parts = n.parts }

-- one statement more, or one too many
unfoldable pub begun : Marks → ℕ → Marks
begun m p =
    record {
      notes = cond (ltb m.statements most_statements) m.notes (at_nine m.notes p);
      eight = m.eight;
      statements = cond (ltb m.statements most_statements) (m.statements + 1) m.statements;
      nodes = more m.nodes;
      acts = m.acts;
    }

-- a case test is a node and no statement
unfoldable pub cased : Marks → Marks
cased m = record { notes = m.notes; eight = m.eight; statements = m.statements; nodes = more m.nodes; acts = m.acts }

-- an exit or a break at p, with a fault 8 where it stands inside nothing that it leaves
unfoldable pub leaves : Marks → Bool → ℕ → Marks
leaves m inside p = record { notes = m.notes; eight = cond inside m.eight (min m.eight p); statements = m.statements; nodes = m.nodes; acts = m.acts }

-- the marks with other notes
unfoldable pub with_notes : Marks → Notes → Marks
with_notes m n = record { notes = n; eight = m.eight; statements = m.statements; nodes = m.nodes; acts = m.acts }

-- the marks with other activities
unfoldable pub with_acts : Marks → ℕ → Marks
with_acts m a = record { notes = m.notes; eight = m.eight; statements = m.statements; nodes = m.nodes; acts = a }

-- a delay of n clocks, its number at p
unfoldable pub delayed : Marks → ℕ → ℕ → Marks
delayed m n p = cond (leb n most_delay) m (with_notes m (at_nine m.notes p))

-- a changed name at q, and what it is asked for at p
unfoldable pub target_marks : Marks → Option Variable → ℕ → Bool → ℕ → Marks
target_marks m o q fine p = with_notes m (at_seven (at_six m.notes (missing o) q) (opposite fine) p)

-- does a variable take an expression of this kind
unfoldable pub fits : Option Variable → Bool → Bool
fits o truth = both (assignable o) (opposite truth)

-- an assignment to the name at p, behind its expression x
unfoldable pub assigned : Marks → Sum → Option Variable → ℕ → Marks
assigned m x o p = target_marks (with_notes m x.notes) o p (fits o x.truth) p

-- a test of the expression x, for the statement at p
unfoldable pub tested : Marks → Sum → ℕ → Marks
tested m x p = with_notes m (at_seven x.notes (opposite x.truth) p)

-- activities past the limit are one
unfoldable pub summed : ℕ → ℕ → ℕ
summed a b = min (a + b) (most_activities + 1)

-- a parallel at p that ends: acts stood before it, and its branches' sum is in the marks
unfoldable pub together : Marks → ℕ → ℕ → Marks
together m acts p = with_acts (cond (leb m.acts most_activities) m (with_notes m (at_nine m.notes p))) (max acts m.acts)

-- ---- bytes

-- two bytes, the low one first
unfoldable pub set_half : List ℕ → ℕ → ℕ → List ℕ
set_half t o x = set (set t o (x % 256)) (o + 1) (x / 256)

-- kind, place, the number behind it, four numbers
unfoldable pub put_node : List ℕ → ℕ → ℕ → ℕ → ℕ → ℕ → ℕ → ℕ → ℕ → List ℕ
put_node t i k p e a b c d =
    cond (ltb i most_nodes) (cond (leb (i * 16 + 16) (length t))
    (set_half (set_half (set_half (set_half (set_half (set_half (set t (i * 16) k) (i * 16 + 2) p) (i * 16 + 4) e) (i * 16 + 8) a) (i * 16 + 10) b) (i * 16 + 12) c) (i * 16 + 14) d)
    t) t

-- the branch that begins with a node: its activities, and the number behind it
unfoldable pub put_branch : List ℕ → ℕ → ℕ → ℕ → List ℕ
put_branch t i a e = cond (ltb i most_nodes) (cond (leb (i * 16 + 16) (length t)) (set_half (set t (i * 16 + 1) a) (i * 16 + 6) e) t) t

-- ---- the walk

-- what was noted, and the bytes that were written
pub record Walked : Type 0 where
  pub marks : Marks
  pub bytes : List ℕ

-- the state of these marks and bytes
abbrev pub walked : Marks → List ℕ → Walked
walked m t = record { marks = m; bytes = t }

-- what a reader of statements has
abbrev pub walked_of : Read → List ℕ → Walked
walked_of r t = walked r.marks t

-- a test: where it stands, the number of its part, and the input bits that it reads
pub record Test : Type 0 where
  pub state : Walked
  pub root : ℕ
  pub looks : ℕ

-- what a reader of a test has
abbrev pub test_of : Tried → List ℕ → Test
test_of r t = record { state = walked r.marks t; root = r.root; looks = r.looks }

-- the number behind a node's own part; a case test has none, its list's end is its second number
unfoldable pub end_for : ℕ → ℕ → ℕ
end_for k n = cond (eqb k 13) 0 n

-- the statement of node i ends: kind, place and four numbers
unfoldable pub finished : ℕ → ℕ → ℕ → ℕ → ℕ → ℕ → ℕ → Walked → Walked
finished i k p a b c d w = walked w.marks (put_node w.bytes i k p (end_for k w.marks.nodes) a b c d)

-- the branch that began at one state and ends at another
unfoldable pub branched : Marks → Walked → Walked
branched m w = walked (with_acts w.marks (summed m.acts w.marks.acts)) (put_branch w.bytes m.nodes w.marks.acts w.marks.nodes)

-- the kind of node of a raise, lower, invert
abbrev pub change_kind : Change → ℕ
change_kind raise = 2
change_kind lower = 3
change_kind invert = 4

module _ (look : List ℕ → Option Variable) where
  -- an expression that must be a truth
  unfoldable pub test_at : Expr Name → ℕ → Walked → Test
  test_at e p w = record { state = walked (tested w.marks (sum look e w.marks.notes w.bytes) p) (sum look e w.marks.notes w.bytes).bytes; root = (sum look e w.marks.notes w.bytes).root; looks = (sum look e w.marks.notes w.bytes).looks }

  -- a statement at p begins
  abbrev pub begun_at : ℕ → Walked → Walked
  begun_at p w = walked (begun w.marks p) w.bytes

  -- a raise, lower, invert: of a whole variable, or of one bit
  unfoldable pub change_at : Head → Change → Target Name → Walked → Walked
  change_at h c (whole v) w =
      finished w.marks.nodes (change_kind c) h.place (number_of (look v.bytes)) (width_of (look v.bytes)) 0 0
      (walked (target_marks (begun w.marks h.place) (look v.bytes) v.place (changeable (look v.bytes)) h.place) w.bytes)
  change_at h c (part v j) w =
      finished w.marks.nodes (change_kind c) h.place (number_of (look v.bytes)) (width_of (look v.bytes)) j 0
      (walked (target_marks (begun w.marks h.place) (look v.bytes) v.place (has_bit (look v.bytes) j) v.place) w.bytes)

  -- an assignment that ends: i is its node, x its expression
  unfoldable pub assign_at : Head → Name → Marks → Sum → ℕ → Walked
  assign_at h v m x i = finished i 5 h.place (number_of (look v.bytes)) (width_of (look v.bytes)) x.looks x.root (walked (assigned m x (look v.bytes) v.place) x.bytes)

  unfoldable mutual
    -- a statement: is it inside a loop, and inside a switch or a parallel
    pub walk : Stmt Name → Bool → Bool → Walked → Walked
    walk (skip h) l b w = finished w.marks.nodes 0 h.place 0 0 0 0 (begun_at h.place w)
    walk (delay h p n) l b w = finished w.marks.nodes 1 h.place p n 0 0 (walked (delayed (begun w.marks h.place) n p) w.bytes)
    walk (change h c x) l b w = change_at h c x w
    walk (assign h v e) l b w = assign_at h v (begun w.marks h.place) (sum look e (begun w.marks h.place).notes w.bytes) w.marks.nodes
    walk (choice h e x y) l b w =
        finished w.marks.nodes 6 h.place (test_at e h.place (begun_at h.place w)).root (walk_all x l b (test_at e h.place (begun_at h.place w)).state).marks.nodes (test_at e h.place (begun_at h.place w)).looks 0
        (walk_all y l b (walk_all x l b (test_at e h.place (begun_at h.place w)).state))
    walk (while h e x) l b w = finished w.marks.nodes 7 h.place (test_at e h.place (begun_at h.place w)).root 0 (test_at e h.place (begun_at h.place w)).looks 0 (walk_all x true b (test_at e h.place (begun_at h.place w)).state)
    walk (loop h x) l b w = finished w.marks.nodes 8 h.place 0 0 0 0 (walk_all x true b (begun_at h.place w))
    walk (exit h) l b w = finished w.marks.nodes 9 h.place 0 0 0 0 (walked (leaves (begun w.marks h.place) l h.place) w.bytes)
    walk (break h) l b w = finished w.marks.nodes 10 h.place 0 0 0 0 (walked (leaves (begun w.marks h.place) b h.place) w.bytes)
    walk (switch h cs) l b w = finished w.marks.nodes 11 h.place 0 0 0 0 (walk_cases cs l true (begun_at h.place w))
    walk (parallel h bs) l b w =
        finished w.marks.nodes 12 h.place 0 0 0 0
        (walked (together (walk_each bs l (walked (with_acts (begun w.marks h.place) 0) w.bytes)).marks w.marks.acts h.place) (walk_each bs l (walked (with_acts (begun w.marks h.place) 0) w.bytes)).bytes)

    -- a list of statements
    pub walk_all : Stmts Name → Bool → Bool → Walked → Walked
    walk_all end l b w = w
    walk_all (x ⨾ ss) l b w = walk_all ss l b (walk x l b w)

    -- cases and the default: a case's second number is where its list ends
    pub walk_cases : Cases Name → Bool → Bool → Walked → Walked
    walk_cases (default d) l b w = walk_all d l b w
    walk_cases (case h e x cs) l b w =
        walk_cases cs l b
        (finished w.marks.nodes 13 h.place (test_at e h.place (walked (cased w.marks) w.bytes)).root (walk_all x l b (test_at e h.place (walked (cased w.marks) w.bytes)).state).marks.nodes (test_at e h.place (walked (cased w.marks) w.bytes)).looks 0
        (walk_all x l b (test_at e h.place (walked (cased w.marks) w.bytes)).state))

    -- branches: each counts its activities from 1
    pub walk_each : Branches Name → Bool → Walked → Walked
    walk_each tree.none l w = w
    walk_each (x ∥ bs) l w = walk_each bs l (branched w.marks (walk_all x l true (walked (with_acts w.marks 1) w.bytes)))
