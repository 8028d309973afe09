-- Where the frame of a call ends, if it can be written.
-- Assumes nothing.
use Rattle.std.specs.Prelude.{cond, List, ℕ, ◌+◌, ◌-◌, ◌*◌, ◌≤◌, ltb, leb, length}
use Rattle.std.proofs.Math.Option.{Option, none, some}
use Rattle.hand.specs.declared.Here.{Here}
use Rattle.hand.specs.Along.{Near, Begins}
use Rattle.frames_law.specs.Frames.{no_place}
use Rattle.frames.specs.declared.Under.{Under}
use Rattle.frames.specs.Put.{zero_from}

-- the place behind the frame of a procedure with so many formals: there is one, and all is zero where it is to lie
unfoldable pub frame_end : List ℕ → Under → ℕ → ℕ → Option ℕ
frame_end z u row count =
    cond (ltb row no_place) (cond (ltb u.depth no_place) (cond (leb (u.top + 4 + count * 4) 16384)
    (cond (zero_from z u.top (u.top + 4 + count * 4 - u.top)) (some (u.top + 4 + count * 4)) none) none) none) none

-- the first word of a body that begins in the text
pub record BodyAt (s : List ℕ) (from : ℕ) (h : Here) : Type 0 where
  pub near : Near s h
  pub begins : from ≤ length s → Begins s from h
