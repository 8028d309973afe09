use mathlib.Core.Logic.{inl, inr}
use Rattle.language.specs.Promise.{one, two}
use Rattle.compiler.proofs.compile.Goals as goal
use Rattle.compiler.proofs.compile.Goals.{then-room-lt1-via-then-room-lt1, then-room-lt1-via-else-room-lt1+then-room-gt256}

pub returns-then-room-lt1 : goal.returns-then-room-lt1
returns-then-room-lt1 c =
    elim c.then-room-lt1.branch [
      | then-room-lt1-via-then-room-lt1 w ↦ one (inl w.if-room-lt1.true)
      | then-room-lt1-via-else-room-lt1+then-room-gt256 w ↦ one (inr w.if-room-gt256.true)
    ]

pub returns-then-work-room : goal.returns-then-work-room
returns-then-work-room c = two (record { some = c.if-room-lt1.false; few = c.if-room-gt256.false }) c.if-work-room.true
