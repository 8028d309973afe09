-- Where declared names lie, if no size is passed.
-- Assumes nothing.
use mathlib.Core.Bool.{Bool, true, false, cond}
use mathlib.Core.Path.{◌≡◌, refl, sym}
use mathlib.Core.List.{List, [], ◌∷◌}
use mathlib.Core.Option.{Option, none, some}
use Prim.Native.Nat.{ℕ, zero, suc, ◌+◌, ◌≤◌, ◌<◌}
use native.Mathlib.Omega.{arith}
use lib.Dec.{leb}
use lib.ListN.{drop}
use borrow.Author.Tests.{leb-true, not-false}
use Rattle.ll1.proofs.Sets.{clash}
use Rattle.file_law.specs.Table.{most_inputs}
use Rattle.meaning.specs.Numbers.{Variable, input, boolean, integer}
use Rattle.meaning.specs.Declared.{Declaration, inputs, outputs, internals, integers, same_bytes, output_count, look_from, look_up}
use Rattle.meaning.specs.Names.{gather}
use Rattle.meaning.specs.Sizes.{most_width, input_places, bits_from, width_fault}
use Rattle.meaning.proofs.Lists.{not_empty, none-cons}
use Rattle.meaning.proofs.Declared.{Found, found_below, bits_most, when-none}

-- where a declared name lies: inputs in a byte, the others in the value word
abbrev pub PlacedVariable : Option Variable → Type 0
PlacedVariable none = Unit {0}
PlacedVariable (some (input i)) = i < 8
PlacedVariable (some (boolean j)) = j < 32
PlacedVariable (some (integer low width)) = (1 ≤ width) × (width ≤ 16) × (low + width ≤ 32)

abbrev pub Placed : List Declaration → Type 0
Placed ds = (x : List ℕ) → PlacedVariable (look_up ds x)

-- ---- inputs and widths

abbrev Sized : Option Variable → Type 0
Sized none = Unit {0}
Sized (some (input i)) = i < 8
Sized (some (boolean j)) = Unit {0}
Sized (some (integer low width)) = (1 ≤ width) × (width ≤ 16)

sized-cond : (t : Bool) (v : Variable) (next : Option Variable) → Sized (some v) → Sized next → Sized (cond t (some v) next)
sized-cond true v next p q = p
sized-cond false v next p q = q

width-kept : (w : ℕ) → cond (leb 1 w) (leb w most_width) false ≡ true → (1 ≤ w) × (w ≤ 16)
width-kept w e = go (leb 1 w) refl (leb w most_width) refl e
  where
    go : (a : Bool) → leb 1 w ≡ a → (b : Bool) → leb w most_width ≡ b → cond a b false ≡ true → (1 ≤ w) × (w ≤ 16)
    go true p true q e = (leb-true 1 w p, leb-true w most_width q)
    go true p false q e = clash (sym e)
    go false p b q e = clash (sym e)

-- k inputs may still come
sized_from : (ds : List Declaration) (x : List ℕ) (k i o b : ℕ) → i + k ≤ 8 → drop k (gather input_places ds) ≡ [] → gather width_fault ds ≡ [] → Sized (look_from ds x i o b)
unfolding look_from gather
sized_from [] x k i o b h e f = tt
sized_from (inputs n r ∷ ds) x zero i o b h e f = absurd (not_empty e)
sized_from (inputs n r ∷ ds) x (suc k) i o b h e f = sized-cond (same_bytes n.bytes x) (input i) (look_from ds x (1 + i) (0 + o) (0 + b)) (omega arith) (sized_from ds x k (1 + i) (0 + o) (0 + b) (omega arith) e f)
sized_from (outputs n r v ∷ ds) x k i o b h e f = sized-cond (same_bytes n.bytes x) (boolean o) (look_from ds x (0 + i) (1 + o) (0 + b)) tt (sized_from ds x k (0 + i) (1 + o) (0 + b) (omega arith) e f)
sized_from (internals n r v ∷ ds) x k i o b h e f = sized-cond (same_bytes n.bytes x) (boolean b) (look_from ds x (0 + i) (0 + o) (1 + b)) tt (sized_from ds x k (0 + i) (0 + o) (1 + b) (omega arith) e f)
sized_from (integers n p w v ∷ ds) x k i o b h e f =
    let (g, more) = none-cons width_fault (integers n p w v) ds f in
    sized-cond (same_bytes n.bytes x) (integer b w) (look_from ds x (0 + i) (0 + o) (w + b)) (width-kept w (not-false _ (when-none _ p g))) (sized_from ds x k (0 + i) (0 + o) (w + b) (omega arith) e more)

-- ---- all of it

both-placed : (o : Option Variable) (k : ℕ) → k ≤ 32 → Found k o → Sized o → PlacedVariable o
both-placed none k h f s = tt
both-placed (some (input i)) k h f s = omega arith
both-placed (some (boolean j)) k h f s = omega arith
both-placed (some (integer low width)) k h f (a, b) = (a, b, omega arith)

pub placed : (ds : List Declaration) → drop most_inputs (gather input_places ds) ≡ [] → bits_from 0 ds ≡ [] → gather width_fault ds ≡ [] → Placed ds
unfolding look_up
placed ds e f g x = both-placed (look_up ds x) _ (bits_most ds f) (found_below ds x) (sized_from ds x most_inputs 0 0 (output_count ds) (omega arith) e g)
