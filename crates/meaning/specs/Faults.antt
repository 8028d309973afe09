-- R1: which fault of a tree is told.
-- Assumes nothing.
use Rattle.std.specs.Prelude.{ℕ, min, List, [], ◌∷◌, ◌++◌}
use Rattle.std.proofs.Math.Option.{Option, none, some}
use Rattle.meaning.specs.Declared.{Source}
use Rattle.meaning.specs.Names.{name_faults}
use Rattle.meaning.specs.Kinds.{kind_faults}
use Rattle.meaning.specs.Jumps.{jump_faults}
use Rattle.meaning.specs.Sizes.{size_faults}
use Rattle.meaning.specs.Worst.{worst_faults}

pub record Fault : Type 0 where
  pub number : ℕ
  pub place : ℕ

unfoldable pub least : ℕ → List ℕ → ℕ
least p [] = p
least p (q ∷ ps) = least (min p q) ps

-- with that number at the earliest of the places, if there is one, else what comes next
abbrev pub earliest : ℕ → List ℕ → Option Fault → Option Fault
earliest number [] next = next
earliest number (p ∷ ps) next = some (record { number = number; place = least p ps })

-- R1: with further places of fault 6 and of fault 9
abbrev pub fault_with : List ℕ → List ℕ → Source → Option Fault
fault_with names sizes s =
    earliest 6 (names ++ name_faults s)
    (earliest 7 (kind_faults s)
    (earliest 8 (jump_faults s)
    (earliest 9 (sizes ++ size_faults s)
    (earliest 10 (worst_faults s)
    none))))

unfoldable pub fault_of : Source → Option Fault
fault_of s = fault_with [] [] s
