-- `words::stop_from` meets its contract: the words from `from` on stop where the words from `place` on do.
-- Assumes nothing.
use native.Mathlib.Omega.{arith}
use Rattle.words.proofs.Walk.{sound, stop-past, stop-later, stop-here, stop-nowhere}
use Rattle.words.proofs.stop_from.Goals as goal

pub returns-then-s-place : goal.returns-then-s-place
returns-then-s-place c = let a = c.args in stop-past a.s.now a.place (omega arith)

pub loop-w-smaller : goal.loop-w-smaller
loop-w-smaller c =
    let f = c.next_word in
    let w = sound f.ensures c.in-Found.is in
    omega arith

pub loop-w-preserved : goal.loop-w-preserved
loop-w-preserved c =
    let i = c.loop-w.invariant in
    ((sound c.next_word.ensures c.in-Found.is).inside, stop-later i.0 i.1 c.next_word.ensures c.in-Found.is)

pub returns-in-Stops : goal.returns-in-Stops
returns-in-Stops c =
    let i = c.loop-w.invariant in
    stop-here i.0 i.1 c.next_word.ensures c.in-Stops.is

pub returns-in-Over : goal.returns-in-Over
returns-in-Over c =
    let i = c.loop-w.invariant in
    stop-nowhere i.0 i.1 c.next_word.ensures c.in-Over.is
