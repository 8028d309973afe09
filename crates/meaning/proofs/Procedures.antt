-- An expanded program without a fault is one of the base language without a fault, and more is known of it.
-- Assumes nothing.
use mathlib.Core.Path.{◌≡◌, refl}
use mathlib.Core.List.{List, [], ◌∷◌, ◌++◌}
use mathlib.Core.Option.{Option, none, some-ne-none}
use Prim.Native.Nat.{ℕ}
use Rattle.meaning.specs.Declared.{Source}
use Rattle.meaning.specs.Names.{name_faults}
use Rattle.meaning.specs.Kinds.{kind_faults}
use Rattle.meaning.specs.Jumps.{jump_faults}
use Rattle.meaning.specs.Sizes.{size_faults}
use Rattle.meaning.specs.Worst.{worst_faults}
use Rattle.meaning.specs.Faults.{Fault, least, earliest, fault_of, fault_with}
use Rattle.meaning.specs.Unexpanded.{Unexpanded}
use Rattle.meaning.specs.Levels.{level_faults}
use Rattle.meaning.specs.Expansion.{expanded_body, expanded}
use Rattle.meaning.specs.Procedures.{clashes, calls_refused, calls_passing, added_names, added_sizes, fault_in}
use Rattle.meaning.proofs.Faults.{Faultless, none_exactly}
use Rattle.meaning.proofs.Lists.{both-empty}

none_told : (number : ℕ) (places : List ℕ) (next : Option Fault) → earliest number places next ≡ none → (places ≡ []) × (next ≡ none)
none_told number [] next e = (refl, e)
none_told number (p ∷ ps) next e = absurd (some-ne-none (record { number = number; place = least p ps }) e)

-- neither further place, nor a fault of the source
pub record NoFault (more over : List ℕ) (s : Source) : Type 0 where
  pub names : more ≡ []
  pub sizes : over ≡ []
  pub source : Faultless s

pub no_fault_with : (names sizes : List ℕ) (s : Source) → fault_with names sizes s ≡ none → NoFault names sizes s
no_fault_with names sizes s e =
    let worst = earliest 10 (worst_faults s) none in
    let size = earliest 9 (sizes ++ size_faults s) worst in
    let jump = earliest 8 (jump_faults s) size in
    let kind = earliest 7 (kind_faults s) jump in
    let a = none_told 6 (names ++ name_faults s) kind e in
    let b = none_told 7 (kind_faults s) jump a.1 in
    let c = none_told 8 (jump_faults s) size b.1 in
    let d = none_told 9 (sizes ++ size_faults s) worst c.1 in
    let f = none_told 10 (worst_faults s) none d.1 in
    let n = both-empty names (name_faults s) a.0 in
    let z = both-empty sizes (size_faults s) d.0 in
    record { names = n.0; sizes = z.0; source = record { names = n.1; kinds = b.0; jumps = c.0; sizes = z.1; worst = f.0 } }

-- the expanded source is one without a fault in the base language's sense
pub expanded-good : (w : Unexpanded) → fault_in w ≡ none → fault_of (expanded w) ≡ none
unfolding fault_in
expanded-good w e = (none_exactly (expanded w)).1 (no_fault_with (added_names w) (added_sizes w) (expanded w) e).source

-- .. and every call was expanded, none passed a size by itself, and no level too many opens
pub record AllExpanded (w : Unexpanded) : Type 0 where
  pub names : clashes [] [] w.declared ≡ []
  pub calls : calls_refused (expanded_body w) ≡ []
  pub passes : calls_passing (expanded_body w) ≡ []
  pub levels : level_faults 0 (expanded_body w) ≡ []

pub all-expanded : (w : Unexpanded) → fault_in w ≡ none → AllExpanded w
unfolding fault_in
all-expanded w e =
    let k = no_fault_with (added_names w) (added_sizes w) (expanded w) e in
    let a = both-empty (clashes [] [] w.declared) (calls_refused (expanded_body w)) k.names in
    let b = both-empty (calls_passing (expanded_body w)) (level_faults 0 (expanded_body w)) k.sizes in
    record { names = a.0; calls = a.1; passes = b.0; levels = b.1 }
