-- What is noted and written of statements as they are read under open calls: of what they stand for (P4).
-- Assumes nothing.
use Rattle.std.specs.Prelude.{Bool, cond, ◌≡◌, List, ℕ, ◌*◌, ◌≤◌, ◌<◌, min, ltb}
use Rattle.std.proofs.Math.Option.{Option}
use Rattle.meaning.specs.Tree.{Name}
use Rattle.meaning.specs.Numbers.{Variable}
use Rattle.meaning.specs.Unexpanded.{Term, Command, Commands, Tests, Strands, Procedure}
use Rattle.meaning.specs.Base.{base_term, base_tests, base_each}
use Rattle.meaning.specs.Expansion.{Bound, replaced, expand, expand_all, expand_tests, expand_each, called, outermost}
use Rattle.own_law.specs.Noted.{read_by, noted_tests, noted_each}
use Rattle.frames_law.specs.Frames.{no_place, told_at}
use Rattle.frames.specs.declared.Under.{Under}
use Rattle.frames.specs.Open.{Open}
use Rattle.names.specs.Look.{look_in}
use Rattle.items.specs.Walk.{Walked, walked, Test, test_at, walk_all, walk_cases, walk_each}

-- the marks with the notes of 6 and 9 at other places
abbrev pub marked_at : ℕ → ℕ → Walked → Walked
marked_at six nine w =
    walked
    (record { notes = record { six = six; seven = w.marks.notes.seven; nine = nine; ten = w.marks.notes.ten; parts = w.marks.notes.parts }; eight = w.marks.eight; statements = w.marks.statements; nodes = w.marks.nodes; acts = w.marks.acts })
    w.bytes

-- P7: a fault 6 at p
abbrev pub six_at : ℕ → Walked → Walked
six_at p w = marked_at (min w.marks.notes.six p) w.marks.notes.nine w

-- P12, P13: a fault 9 at p
abbrev pub nine_at : ℕ → Walked → Walked
nine_at p w = marked_at w.marks.notes.six (min w.marks.notes.nine p) w

-- P13: inside a call none is noted, the outermost call tells it
abbrev pub nine_in : Bool → ℕ → Walked → Walked
nine_in inside p w = cond inside w (nine_at p w)

-- what names, places, formals and calls of a text mean, and whether it is read inside a call
pub record Sense : Type 0 where
  pub look : List ℕ → Option Variable
  pub inside : Bool
  pub calls : Name → List Term → Commands
  pub to : ℕ → ℕ
  pub bound : List (Bound Term)

-- ---- what an expansion comes to, with n levels open around

module _ (look : List ℕ → Option Variable) (inside : Bool) (n : ℕ) where
  abbrev pub read : Commands → Bool → Bool → Walked → Walked
  read x l b w = read_by six_at (nine_in inside) (λ v. walk_all look v l b) n x w

  abbrev pub read_tests : Tests → Bool → Bool → Walked → Walked
  read_tests ts l b w = noted_tests six_at (nine_in inside) n ts (walk_cases look (base_tests ts) l b w)

  abbrev pub read_each : Strands → Bool → Walked → Walked
  read_each bs l w = noted_each six_at (nine_in inside) n bs (walk_each look (base_each bs) l w)

-- ---- and what a text comes to

module _ (c : Sense) where
  abbrev pub test_in : Term → ℕ → Walked → Test
  test_in e p w = test_at c.look (base_term (replaced c.to c.bound e)) p w

  module _ (n : ℕ) where
    abbrev pub one_in : Command → Bool → Bool → Walked → Walked
    one_in v l b w = read c.look c.inside n (expand c.calls c.to c.bound v) l b w

    abbrev pub all_in : Commands → Bool → Bool → Walked → Walked
    all_in v l b w = read c.look c.inside n (expand_all c.calls c.to c.bound v) l b w

    abbrev pub tests_in : Tests → Bool → Bool → Walked → Walked
    tests_in ts l b w = read_tests c.look c.inside n (expand_tests c.calls c.to c.bound ts) l b w

    abbrev pub each_in : Strands → Bool → Walked → Walked
    each_in bs l w = read_each c.look c.inside n (expand_each c.calls c.to c.bound bs) l w

-- ---- under open calls

-- P4, P9: a call in the program's own text is the outermost; all that it stands for has its place
abbrev pub calls_at : List Procedure → ℕ → Name → List Term → Commands
calls_at ps at = cond (ltb at no_place) (called ps at) (outermost ps)

-- P9: where the call whose name stands at p is read
abbrev pub inside_at : Under → ℕ → Under
inside_at u p = record { at = told_at u.at p; frame = u.frame; depth = u.depth; seen = u.seen; top = u.top }

-- what is known where a text is read: the procedures and the formals; no frame lies over the declared names; in the program's own text no call is open
pub record Scope (s z : List ℕ) (count : ℕ) (u : Under) : Type 0 where
  pub procedures : List Procedure
  pub bound : List (Bound Term)
  pub opened : Open s z procedures bound u
  pub behind : count * 4 ≤ u.top
  pub own : ¬ (u.at < no_place) → u.depth ≡ 0

abbrev pub sense_of : {s z : List ℕ} {u : Under} (count : ℕ) → Scope s z count u → Sense
sense_of {s} {z} {u} count o = record { look = look_in s z count; inside = ltb u.at no_place; calls = calls_at o.procedures u.at; to = told_at u.at; bound = o.bound }
