-- The faults of declarations stand at places of the text.
-- Assumes nothing.
use mathlib.Core.Bool.{false, cond, not as opposite}
use mathlib.Core.List.{List, [], ◌∷◌, ◌++◌}
use Prim.Native.Nat.{ℕ, ◌+◌}
use lib.Dec.{leb, ltb}
use lib.ListN.{drop}
use Rattle.file_law.specs.Table.{most_inputs, most_outputs}
use Rattle.meaning.specs.Declared.{Declaration, inputs, outputs, internals, integers, name_of}
use Rattle.meaning.specs.Names.{gather, when, among, again_from}
use Rattle.meaning.specs.Sizes.{most_bits, most_width, input_places, output_places, bits_of, bits_from, width_fault}
use Rattle.kept_law.specs.Kept.{Every, LowDeclared}
use Rattle.places_law.specs.Places.{Low}
use Rattle.places_law.proofs.Lists.{low-append, low-when, low-drop, gather-low}
use Rattle.places_law.proofs.Added.{name-low}

pub low_again : (earlier ds : List Declaration) → Every LowDeclared ds → Low (again_from earlier ds)
unfolding again_from
low_again earlier [] x = tt
low_again earlier (d ∷ ds) (l, x) = low-append (when (among (name_of d).bytes earlier) (name_of d).place) (again_from (d ∷ earlier) ds) (low-when (among (name_of d).bytes earlier) (name_of d).place (name-low d l)) (low_again (d ∷ earlier) ds x)

low-bits : (k : ℕ) (ds : List Declaration) → Every LowDeclared ds → Low (bits_from k ds)
unfolding bits_from
low-bits k [] x = tt
low-bits k (d ∷ ds) (l, x) = low-append (when (ltb most_bits (k + bits_of d)) (name_of d).place) (bits_from (k + bits_of d) ds) (low-when (ltb most_bits (k + bits_of d)) (name_of d).place (name-low d l)) (low-bits (k + bits_of d) ds x)

low-input : (d : Declaration) → LowDeclared d → Low (input_places d)
low-input (inputs n e) l = (l, tt)
low-input (outputs n e b) l = tt
low-input (internals n e b) l = tt
low-input (integers n p w v) l = tt

low_output : (d : Declaration) → LowDeclared d → Low (output_places d)
low_output (inputs n e) l = tt
low_output (outputs n e b) l = (l, tt)
low_output (internals n e b) l = tt
low_output (integers n p w v) l = tt

low-width : (d : Declaration) → LowDeclared d → Low (width_fault d)
low-width (inputs n e) l = tt
low-width (outputs n e b) l = tt
low-width (internals n e b) l = tt
low-width (integers n p w v) l = low-when (opposite (cond (leb 1 w) (leb w most_width) false)) p l.1

-- .. and what comes after them
pub low-sizes : (ds : List Declaration) → Every LowDeclared ds → (rest : List ℕ) → Low rest
    → Low (drop most_inputs (gather input_places ds) ++ (drop most_outputs (gather output_places ds) ++ (bits_from 0 ds ++ (gather width_fault ds ++ rest))))
low-sizes ds l rest r =
    low-append (drop most_inputs (gather input_places ds)) _ (low-drop most_inputs (gather input_places ds) (gather-low LowDeclared input_places low-input ds l))
    (low-append (drop most_outputs (gather output_places ds)) _ (low-drop most_outputs (gather output_places ds) (gather-low LowDeclared output_places low_output ds l))
    (low-append (bits_from 0 ds) _ (low-bits 0 ds l)
    (low-append (gather width_fault ds) rest (gather-low LowDeclared width_fault low-width ds l) r)))
