-- The fault that an answer tells.
-- Assumes nothing.
use Rattle.std.specs.Prelude.{ℕ, Result, Ok, Err}
use Rattle.std.proofs.Math.Option.{Option, none, some}
use Rattle.meaning.specs.Faults.{Fault}
use Rattle.refusals.specs.declared.Refusal.{Refusal}
use Rattle.refusals.specs.Number.{number_of}

-- an answer's fault, if it has one
abbrev pub fault_in : Result (Unit {0}) (Refusal ℕ) → Option Fault
fault_in (Ok x) = none
fault_in (Err r) = some (record { number = number_of r.cause; place = r.place })
