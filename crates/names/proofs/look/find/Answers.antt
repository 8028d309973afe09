-- `names::look::find` meets its contract.
-- Assumes nothing.
use Rattle.names.proofs.Laws.{look-start, look-here, look_on, look_over}
use Rattle.language.specs.Words.{same}
use Rattle.std.proofs.Common.{◌≡◌, ap, true, false, sym, ◌∙◌, arith}
use Rattle.std.proofs.Math.Option.{some}
use Rattle.names.specs.Look.{place_at, end_at}
use Rattle.words.specs.Runs.{part}
use Rattle.names.proofs.look.find.Goals as goal

pub loop-i-init : goal.loop-i-init
loop-i-init c = look-start _ _ _ _

pub returns-then-same_name : goal.returns-then-same_name
returns-then-same_name c = let a = c.args in let i = c.loop-i.i in let e : same (part a.s.now (place_at a.t.now i) (end_at a.t.now i)) (part a.s.now a.a a.b) ≡ true = rw (← c.place_at-p.ensures.0, ← c.end_at-q.ensures, ← c.from.ensures, ← c.from-in-loop-i.ensures) (sym c.same_name.ensures ∙ c.if-same_name.true) in ap some c.entry_at.ensures ∙ look-here _ _ _ _ _ _ (omega arith) e c.loop-i.invariant

pub loop-i-preserved : goal.loop-i-preserved
loop-i-preserved c = let a = c.args in let i = c.loop-i.i in let e : same (part a.s.now (place_at a.t.now i) (end_at a.t.now i)) (part a.s.now a.a a.b) ≡ false = rw (← c.place_at-p.ensures.0, ← c.end_at-q.ensures, ← c.from.ensures, ← c.from-in-loop-i.ensures) (sym c.same_name.ensures ∙ c.if-same_name.false) in look_on _ _ _ _ _ _ (omega arith) e c.loop-i.invariant

pub returns : goal.returns
returns c = let a = c.args in look_over a.s.now a.t.now (part a.s.now a.a a.b) a.names c.loop-i.i _ (omega arith) c.loop-i.invariant
