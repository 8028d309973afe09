-- What is noted and written of declared names and procedures, as a function of them: names from the start of the area as in Enter, procedures from the end of its 16,384 bytes downwards.
-- Assumes nothing.
use Rattle.std.specs.Prelude.{Bool, true, false, cond, not as opposite, List, [], ◌∷◌, ◌++◌, ℕ, zero, suc, ◌+◌, ◌-◌, ◌*◌, length, get_or}
use Rattle.meaning.specs.Tree.{Name}
use Rattle.meaning.specs.Declared.{Declaration, name_of}
use Rattle.meaning.specs.Names.{missing}
use Rattle.meaning.specs.Procedures.{has_name}
use Rattle.meaning.specs.Unexpanded.{Procedure, DeclaredName, a_variable, a_procedure}
use Rattle.language.specs.Words.{same}
use Rattle.words.specs.Runs.{part}
use Rattle.names.specs.declared.Marks.{Marks}
use Rattle.names.specs.Look.{place_at, look_in, put_entry}
use Rattle.names.specs.Enter.{noted, enter}

-- a procedure's row, as an entry: the place of its name, a byte that is filled later, and the name's length
abbrev pub row_of : ℕ → ℕ
row_of n = 4095 - n

unfoldable pub row_end : List ℕ → ℕ → ℕ
row_end t i = place_at t i + get_or t (i * 4 + 3) 0

unfoldable pub put_row : List ℕ → ℕ → ℕ → ℕ → List ℕ
put_row t n p len = put_entry t (row_of n) p 0 0 len

-- one of the first n procedures has these bytes
unfoldable pub row_in : List ℕ → List ℕ → ℕ → List ℕ → Bool
row_in s t zero x = false
row_in s t (suc n) x = cond (same (part s (place_at t (row_of n)) (row_end t (row_of n))) x) true (row_in s t n x)

-- P3: one space of names: so many names and so many procedures
unfoldable pub known_in : List ℕ → List ℕ → ℕ → ℕ → List ℕ → Bool
known_in s t names n x = cond (opposite (missing (look_in s t names x))) true (row_in s t n x)

-- P3: the least place of fault 6 with formals that have a name again: one that is known, or of one before it in its list
unfoldable pub formals_noted : (List ℕ → Bool) → List (List ℕ) → List Name → ℕ → ℕ
formals_noted known before [] six = six
formals_noted known before (f ∷ fs) six =
    formals_noted known (before ++ (f.bytes ∷ [])) fs (noted (cond (has_name before f.bytes) true (known f.bytes)) f.place six)

-- the marks with another place of fault 6
unfoldable pub with_six : Marks → ℕ → Marks
with_six m six = record { six = six; nine = m.nine; names = m.names; inputs = m.inputs; outputs = m.outputs; low = m.low; bits = m.bits; word = m.word }

-- what is noted, how many procedures, and the bytes
pub record Held : Type 0 where
  pub marks : Marks
  pub procedures : ℕ
  pub bytes : List ℕ

-- a variable: as in Enter, and none of the procedures before it has its name
unfoldable pub enter_variable : List ℕ → Declaration → Held → Held
enter_variable s d g =
    record {
      marks = with_six (enter s d g.marks g.bytes).marks
          (noted (row_in s g.bytes g.procedures (name_of d).bytes) (name_of d).place (enter s d g.marks g.bytes).marks.six);
      procedures = g.procedures;
      bytes = (enter s d g.marks g.bytes).bytes;
    }

-- the bytes behind a procedure's row
unfoldable pub rowed : Procedure → Held → List ℕ
rowed p g = put_row g.bytes g.procedures p.name.place (length p.name.bytes)

-- a procedure: its name is new, and its formals are, against its own name too
unfoldable pub enter_procedure : List ℕ → Procedure → Held → Held
enter_procedure s p g =
    record {
      marks = with_six g.marks
          (formals_noted (known_in s (rowed p g) g.marks.names (g.procedures + 1)) [] p.formals
          (noted (known_in s g.bytes g.marks.names g.procedures p.name.bytes) p.name.place g.marks.six));
      procedures = g.procedures + 1;
      bytes = rowed p g;
    }

abbrev pub enter_one : List ℕ → DeclaredName → Held → Held
enter_one s (a_variable d) g = enter_variable s d g
enter_one s (a_procedure p) g = enter_procedure s p g

-- .. all of them, in order
unfoldable pub enter_each : List ℕ → List DeclaredName → Held → Held
enter_each s [] g = g
enter_each s (d ∷ ds) g = enter_each s ds (enter_one s d g)

-- the bytes that they ask for: a name's entry, a procedure's row and frame, and four for each formal
abbrev pub asked_by : DeclaredName → ℕ
asked_by (a_variable d) = 4
asked_by (a_procedure p) = 8 + length p.formals * 4

unfoldable pub asked : List DeclaredName → ℕ
asked [] = 0
asked (d ∷ ds) = asked_by d + asked ds
