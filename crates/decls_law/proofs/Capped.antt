-- A number of a variable that stops at 255 changes no kind, no width and no worst size; and where the sizes are kept it changes nothing.
-- Assumes nothing.
use mathlib.Core.Bool.{Bool, true, false, cond}
use mathlib.Core.Path.{◌≡◌, refl, ap}
use mathlib.Core.List.{List, [], ◌∷◌, cons≢nil}
use mathlib.Core.Option.{Option, none, some}
use Prim.Native.Nat.{ℕ, zero, suc, ◌+◌, ◌≤◌}
use native.Mathlib.Omega.{arith}
use lib.ListN.{length, drop}
use Rattle.file_law.specs.Table.{most_inputs}
use Rattle.meaning.specs.Numbers.{Variable, input, boolean, integer}
use Rattle.meaning.specs.Declared.{Declaration, inputs, outputs, internals, integers, name_of, same_bytes, one, input_count, an_output, output_count, other_bits, stands_for, look_from, look_up}
use Rattle.meaning.specs.Names.{missing, gather}
use Rattle.meaning.specs.Kinds.{kind_of_variable, has_bit}
use Rattle.meaning.specs.Worst.{variable_worst}
use Rattle.meaning.specs.Sizes.{input_places, bits_from}
use Rattle.meaning.proofs.Declared.{other_count, bits_most}
use Rattle.names.specs.Enter.{cap}
use Rattle.decls_law.proofs.Looked.{capped, capped_of}

-- ---- what the faults look at

pub capped_missing : (v : Option Variable) → missing (capped_of v) ≡ missing v
capped_missing none = refl
capped_missing (some v) = refl

pub capped_kind : (v : Option Variable) → kind_of_variable (capped_of v) ≡ kind_of_variable v
capped_kind none = refl
capped_kind (some (input i)) = refl
capped_kind (some (boolean j)) = refl
capped_kind (some (integer low width)) = refl

pub capped_bit : (v : Option Variable) (j : ℕ) → has_bit (capped_of v) j ≡ has_bit v j
capped_bit none j = refl
capped_bit (some (input i)) j = refl
capped_bit (some (boolean k)) j = refl
capped_bit (some (integer low width)) j = refl

pub capped_worst : (v : Option Variable) → variable_worst (capped_of v) ≡ variable_worst v
capped_worst none = refl
capped_worst (some (input i)) = refl
capped_worst (some (boolean k)) = refl
capped_worst (some (integer low width)) = refl

-- ---- where the sizes are kept

stands-small : (d : Declaration) (i o b : ℕ) → i ≤ 255 → o ≤ 255 → b ≤ 255 → capped (stands_for d i o b) ≡ stands_for d i o b
stands-small (inputs n e) i o b h g k = let q : cap i ≡ i = omega arith in ap input q
stands-small (outputs n e v) i o b h g k = let q : cap o ≡ o = omega arith in ap boolean q
stands-small (internals n e v) i o b h g k = let q : cap b ≡ b = omega arith in ap boolean q
stands-small (integers n p w v) i o b h g k = let q : cap b ≡ b = omega arith in ap (λ (x : ℕ). integer x w) q

cond_small : (t : Bool) (v : Variable) (a : Option Variable) → capped v ≡ v → capped_of a ≡ a → capped_of (cond t (some v) a) ≡ cond t (some v) a
cond_small true v a e f = ap some e
cond_small false v a e f = f

from_small : (ds : List Declaration) (x : List ℕ) (i o b : ℕ) → i + input_count ds ≤ 255 → o + output_count ds ≤ 255 → b + other_count ds ≤ 255 → capped_of (look_from ds x i o b) ≡ look_from ds x i o b
unfolding look_from input_count output_count other_count
from_small [] x i o b h g k = refl
from_small (d ∷ ds) x i o b h g k =
    cond_small (same_bytes (name_of d).bytes x) (stands_for d i o b) (look_from ds x (one d + i) (an_output d + o) (other_bits d + b))
    (stands-small d i o b (omega arith) (omega arith) (omega arith))
    (from_small ds x (one d + i) (an_output d + o) (other_bits d + b) (omega arith) (omega arith) (omega arith))

-- no more names than the drop leaves none of
dropped : (k : ℕ) (l : List ℕ) → drop k l ≡ [] → length l ≤ k
dropped k [] e = omega arith
dropped zero (x ∷ l) e = absurd (cons≢nil e)
dropped (suc k) (x ∷ l) e = omega (arith, dropped k l e)

input-places : (ds : List Declaration) → length (gather input_places ds) ≡ input_count ds
unfolding gather input_count
input-places [] = refl
input-places (inputs n e ∷ ds) = omega (arith, input-places ds)
input-places (outputs n e b ∷ ds) = omega (arith, input-places ds)
input-places (internals n e b ∷ ds) = omega (arith, input-places ds)
input-places (integers n p w v ∷ ds) = omega (arith, input-places ds)

pub few-inputs : (ds : List Declaration) → drop most_inputs (gather input_places ds) ≡ [] → input_count ds ≤ most_inputs
few-inputs ds e = omega (arith, dropped most_inputs (gather input_places ds) e, input-places ds)

-- .. the entries' look-up is the definition's
pub look-small : (ds : List Declaration) (x : List ℕ) → drop most_inputs (gather input_places ds) ≡ [] → bits_from 0 ds ≡ [] → capped_of (look_up ds x) ≡ look_up ds x
unfolding look_up
look-small ds x e f =
    let b = bits_most ds f in
    from_small ds x 0 0 (output_count ds) (omega (arith, few-inputs ds e)) (omega (arith, b)) (omega (arith, b))
