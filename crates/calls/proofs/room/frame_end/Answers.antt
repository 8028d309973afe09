-- `calls::room::frame_end` meets its contract.
-- Assumes nothing.
use Rattle.std.proofs.Common.{◌≡◌, ◌+◌, ◌-◌, ◌*◌, true, false, refl, sym, ◌∙◌, arith}
use borrow.Author.Tests.{lt-ltb, le-leb, lt-leb}
use Rattle.parts.specs.Beside.{beside}
use Rattle.frames.specs.Put.{zero_from}
use Rattle.calls.specs.Room.{frame_end}
use Rattle.calls.proofs.room.frame_end.Goals as goal
use Rattle.calls.proofs.room.frame_end.Goals.{then-row-eq65535-via-then-row-eq65535, then-row-eq65535-via-else-row-eq65535+then-u-eq65535, then-to-gt16384-via-then-to-gt16384, then-to-gt16384-via-else-to-gt16384+then-not-clean}

pub returns-then-row-eq65535 : goal.returns-then-row-eq65535
unfolding frame_end
returns-then-row-eq65535 c = elim c.then-row-eq65535.branch [
  | then-row-eq65535-via-then-row-eq65535 w ↦ rw w.if-row-eq65535.true refl
  | then-row-eq65535-via-else-row-eq65535+then-u-eq65535 w ↦ rw (lt-ltb c.args.row 65535 (omega arith), w.if-u-eq65535.true) refl
]

pub returns-then-to-gt16384 : goal.returns-then-to-gt16384
unfolding frame_end
returns-then-to-gt16384 c =
    elim c.then-to-gt16384.branch [
      | then-to-gt16384-via-then-to-gt16384 w ↦ rw (lt-ltb c.args.row 65535 (omega arith), lt-ltb c.args.u.depth 65535 (omega arith), lt-leb (c.args.u.top + 4 + c.args.count * 4) 16384 (omega arith)) refl
      | then-to-gt16384-via-else-to-gt16384+then-not-clean w ↦
          let zero : zero_from (beside c.args.t.now).names c.args.u.top (c.args.u.top + 4 + c.args.count * 4 - c.args.u.top) ≡ false = rw (c.from.ensures, c.from-2.ensures) at (sym w.clean.ensures ∙ w.if-not-clean.true) in
          rw (lt-ltb c.args.row 65535 (omega arith), lt-ltb c.args.u.depth 65535 (omega arith), le-leb (c.args.u.top + 4 + c.args.count * 4) 16384 (omega arith), zero) refl
    ]

pub returns : goal.returns
unfolding frame_end
returns c =
    let zero : zero_from (beside c.args.t.now).names c.args.u.top (c.args.u.top + 4 + c.args.count * 4 - c.args.u.top) ≡ true = rw (c.from.ensures, c.from-2.ensures) at (sym c.clean.ensures ∙ c.if-not-clean.false) in
    rw (c.from.ensures, c.from-2.ensures, lt-ltb c.args.row 65535 (omega arith), lt-ltb c.args.u.depth 65535 (omega arith), le-leb (c.args.u.top + 4 + c.args.count * 4) 16384 (omega arith), zero) refl
