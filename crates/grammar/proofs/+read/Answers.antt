-- `grammar::read` meets its contract: the laws of a reader's turns, one at each goal.
-- Assumes nothing.
use mathlib.Core.Path.{refl}
use mathlib.Core.List.{List}
use Prim.Native.Nat.{ℕ}
use native.Mathlib.Omega.{arith}
use lib.ListN.{get_or}
use Rattle.ll1.specs.Rows.{row}
use Rattle.ll1.proofs.Steps.{Going, go_start}
use Rattle.ll1.proofs.Turns.{At}
use Rattle.grammar_law.specs.Tables.{depth, turn}
use Rattle.grammar_law.specs.Codes.{codes, choice}
use Rattle.grammar.specs.Reading.{codes_in, Ready}
use Rattle.grammar.specs.declared.Here.{Here}
use Rattle.grammar.proofs.Along.{next-left, number-few}
use Rattle.grammar.proofs.Turning.{low, ends, stops, word-here, word_on, word-falls, level_on, level-falls, last_on, last-falls, call-closed, call-falls, call-stopped, call_on, call_on_falls}
use Rattle.std.proofs.lemmas.Result.{err_from_is_err_and}
use Rattle.grammar.proofs.+read.Goals as goal

-- at the head of the loop
here : {rows starts s : List ℕ} {at p i k levels : ℕ} {first : Here} → Ready rows starts s at first levels →
    Going codes choice depth (codes_in s) (row codes rows at) first.number levels (row codes rows p) i k →
    At codes choice depth turn rows starts (codes_in s) (row codes rows at) first.number levels p i k (get_or rows p 0)
here o g = record { tables = o.tables; going = g; byte = refl }

pub loop-w-init : goal.loop-w-init
loop-w-init t c = (go_start codes choice depth (codes_in c.args.s.now) (row codes c.args.rows.now c.args.at) c.args.first.number c.args.levels c.requires.closed c.requires.word.fits, c.requires.word)

pub next_turn-requires : goal.next_turn-requires
next_turn-requires t c =
    let h = here c.requires c.loop-w.invariant.0 in
    record { rows_fit = c.requires.rows_fit; starts_fit = c.requires.starts_fit; low = low h; few = omega (arith, c.loop-w.invariant.0.within, c.requires.few) }

pub returns-in-End : goal.returns-in-End
returns-in-End t c = record { word = c.loop-w.invariant.1; said = ends (here c.requires c.loop-w.invariant.0) c.loop-w.invariant.1.kind c.next_turn.ensures c.in-End.is }

pub returns-in-Stop : goal.returns-in-Stop
returns-in-Stop t c = record { word = c.loop-w.invariant.1; said = stops (here c.requires c.loop-w.invariant.0) c.loop-w.invariant.1.kind c.next_turn.ensures c.in-Stop.is }

pub overflow_add-w : goal.overflow_add-w
overflow_add-w t c =
    omega (arith, number-few c.loop-w.invariant.1 (word-here (here c.requires c.loop-w.invariant.0) c.loop-w.invariant.1.kind c.next_turn.ensures c.in-Word.is), c.requires.short)

pub word_from-w-requires : goal.word_from-w-requires
word_from-w-requires t c =
    next-left c.loop-w.invariant.1 (word-here (here c.requires c.loop-w.invariant.0) c.loop-w.invariant.1.kind c.next_turn.ensures c.in-Word.is)

pub loop-w-smaller-in-Word : goal.loop-w-smaller-in-Word
loop-w-smaller-in-Word t c =
    rw c.word_from-w.ensures.1 (word-falls (here c.requires c.loop-w.invariant.0) c.loop-w.invariant.1.kind c.next_turn.ensures c.in-Word.is)

pub loop-w-preserved-in-Word : goal.loop-w-preserved-in-Word
loop-w-preserved-in-Word t c =
    (rw c.word_from-w.ensures.1 (word_on (here c.requires c.loop-w.invariant.0) c.loop-w.invariant.1.kind c.next_turn.ensures c.in-Word.is), c.word_from-w.ensures.0)

pub loop-w-smaller-in-Level : goal.loop-w-smaller-in-Level
loop-w-smaller-in-Level t c = level-falls (here c.requires c.loop-w.invariant.0) c.loop-w.invariant.1.kind c.next_turn.ensures c.in-Level.is

pub loop-w-preserved-in-Level : goal.loop-w-preserved-in-Level
loop-w-preserved-in-Level t c = (level_on (here c.requires c.loop-w.invariant.0) c.loop-w.invariant.1.kind c.next_turn.ensures c.in-Level.is, c.loop-w.invariant.1)

pub loop-w-smaller-in-Last : goal.loop-w-smaller-in-Last
loop-w-smaller-in-Last t c = last-falls (here c.requires c.loop-w.invariant.0) c.loop-w.invariant.1.kind c.next_turn.ensures c.in-Last.is

pub loop-w-preserved-in-Last : goal.loop-w-preserved-in-Last
loop-w-preserved-in-Last t c = (last_on (here c.requires c.loop-w.invariant.0) c.loop-w.invariant.1.kind c.next_turn.ensures c.in-Last.is, c.loop-w.invariant.1)

pub read-requires : goal.read-requires
read-requires t c =
    let o = c.requires in
    let h = here o c.loop-w.invariant.0 in (
      rw (← c.decreases) (call-falls h c.loop-w.invariant.1.kind c.next_turn.ensures c.in-Call.is),
      record { rows_fit = o.rows_fit; starts_fit = o.starts_fit; tables = o.tables; closed = call-closed h c.loop-w.invariant.1.kind c.next_turn.ensures c.in-Call.is; short = o.short; word = c.loop-w.invariant.1; few = omega (arith, c.loop-w.invariant.0.within, o.few) },
    )

pub loop-w-smaller : goal.loop-w-smaller
loop-w-smaller t c =
    call_on_falls (here c.requires c.loop-w.invariant.0) c.loop-w.invariant.1.kind c.next_turn.ensures c.in-Call.is c.in_ok-w-in-Call.ensures.said

pub loop-w-preserved : goal.loop-w-preserved
loop-w-preserved t c =
    (call_on (here c.requires c.loop-w.invariant.0) c.loop-w.invariant.1.kind c.next_turn.ensures c.in-Call.is c.in_ok-w-in-Call.ensures.said, c.in_ok-w-in-Call.ensures.word)

pub returns-in_err-w-in-Call : goal.returns-in_err-w-in-Call
returns-in_err-w-in-Call t c =
    let p = err_from_is_err_and c.from_residual.result c.from_residual.ensures.1 in
    rw (p.1, p.2)
    (record {
      word = c.in_err-w-in-Call.ensures.word;
      said = call-stopped (here c.requires c.loop-w.invariant.0) c.loop-w.invariant.1.kind c.next_turn.ensures c.in-Call.is c.in_err-w-in-Call.ensures.said;
    })
