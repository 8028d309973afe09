-- What is noted and written of declarations, as a function of them.
-- Assumes nothing.
use Rattle.std.specs.Prelude.{ℕ, ◌+◌, ◌*◌, ◌%◌, ◌^◌, min, Bool, false, cond, not as opposite, List, [], ◌∷◌, length, ◌==◌, nat_le, nat_lt}
use Rattle.meaning.specs.Declared.{Declaration, inputs, outputs, internals, integers, name_of, as_bit}
use Rattle.meaning.specs.Names.{missing}
use Rattle.meaning.specs.Sizes.{most_bits, most_width, bits_of}
use Rattle.file_law.specs.Table.{most_inputs, most_outputs}
use Rattle.names.specs.declared.Kind.{Kind}
use Rattle.names.specs.declared.Kind.TheVariants.{Input, Output, Internal, Integer, Procedure}
use Rattle.names.specs.declared.Marks.{Marks}
use Rattle.names.specs.Look.{look_in, put_entry}

-- counts stop at the largest byte
abbrev pub cap : ℕ → ℕ
cap n = min n 255

-- the number of a kind in code
abbrev pub kind_number : Kind → ℕ
kind_number Input = 0
kind_number Output = 1
kind_number Internal = 2
kind_number Integer = 3
kind_number Procedure = 4

-- kinds by number
abbrev pub tag_of : Declaration → ℕ
tag_of (inputs n e) = 0
tag_of (outputs n e b) = 1
tag_of (internals n e b) = 2
tag_of (integers n p w v) = 3

-- the place of an integer's width
abbrev pub width_place : Declaration → ℕ
width_place (inputs n e) = 0
width_place (outputs n e b) = 0
width_place (internals n e b) = 0
width_place (integers n p w v) = p

-- the initial value as it is written
abbrev pub start_of : Declaration → ℕ
start_of (inputs n e) = 0
start_of (outputs n e b) = as_bit b
start_of (internals n e b) = as_bit b
start_of (integers n p w v) = v

-- the least place, with p where there is a fault
abbrev pub noted : Bool → ℕ → ℕ → ℕ
noted on p old = cond on (min old p) old

-- one input or output too many
unfoldable pub crowded : ℕ → ℕ → ℕ → Bool
crowded k ins outs = cond (k == 0) (nat_le most_inputs ins) (cond (k == 1) (nat_le most_outputs outs) false)

-- "width 1 to 16"
unfoldable pub bad_width : ℕ → ℕ → Bool
bad_width k w = cond (k == 3) (opposite (cond (nat_le 1 w) (nat_le w most_width) false)) false

-- the number or the lowest bit of the next name of a kind
unfoldable pub number_for : ℕ → Marks → ℕ
number_for k m = cond (k == 0) m.inputs (cond (k == 1) m.outputs m.low)

-- what an initial value adds to the value word
unfoldable pub start_value : ℕ → ℕ → ℕ → ℕ
start_value v w at = cond (nat_le (at + w) 32) (v % 2 ^ w * 2 ^ at) 0

-- the least place of fault 9: a name too many, a bit too many at the name, a bad width at its number q
unfoldable pub sizes_at : ℕ → ℕ → ℕ → ℕ → Marks → ℕ
sizes_at k p w q m = noted (bad_width k w) q (noted (nat_lt most_bits (m.bits + w)) p (noted (crowded k m.inputs m.outputs) p m.nine))

-- what is noted, and the bytes of the entries
pub record Kept : Type 0 where
  pub marks : Marks
  pub bytes : List ℕ

-- a name of a kind, at p, of so many bytes x, with its bits, the place of its width and its initial value
unfoldable pub put : List ℕ → ℕ → ℕ → ℕ → List ℕ → ℕ → ℕ → ℕ → Marks → List ℕ → Kept
put s k p len x w q v m t =
    record {
      marks = record {
        six = noted (opposite (missing (look_in s t m.names x))) p m.six;
        nine = sizes_at k p w q m;
        names = m.names + 1;
        inputs = cond (k == 0) (cap (m.inputs + 1)) m.inputs;
        outputs = cond (k == 1) (cap (m.outputs + 1)) m.outputs;
        low = cond (nat_lt 1 k) (cap (m.low + w)) m.low;
        bits = cap (m.bits + w);
        word = (m.word + start_value v w (number_for k m)) % 4294967296;
      };
      bytes = put_entry t m.names p k len (number_for k m);
    }

-- a declaration entered
abbrev pub enter : List ℕ → Declaration → Marks → List ℕ → Kept
enter s d m t = put s (tag_of d) (name_of d).place (length (name_of d).bytes) (name_of d).bytes (bits_of d) (width_place d) (start_of d) m t

-- .. and all of them, in order
unfoldable pub enter_all : List ℕ → List Declaration → Marks → List ℕ → Kept
enter_all s [] m t = record { marks = m; bytes = t }
enter_all s (d ∷ ds) m t = enter_all s ds (enter s d m t).marks (enter s d m t).bytes

-- before the first name, where the outputs take so many bits
unfoldable pub start_marks : ℕ → Marks
start_marks low = record { six = 65535; nine = 65535; names = 0; inputs = 0; outputs = 0; low = low; bits = 0; word = 0 }
