-- `decls::rows::called` meets its contract.
-- Assumes nothing.
use Rattle.decls.specs.Held.{row_of, row_end}
use Rattle.names.specs.Look.{place_at}
use Rattle.words.specs.Runs.{part}
use Rattle.language.specs.Words.{same}
use mathlib.Core.Bool.{true, false}
use mathlib.Core.Path.{◌≡◌, sym, ◌∙◌}
use Prim.Native.Nat.{◌-◌}
use Rattle.decls.proofs.Entering.{row_over, row_here, row_on}
use native.Mathlib.Omega.{arith}
use Rattle.decls.proofs.rows.called.Goals as goal

pub returns-then-same_name : goal.returns-then-same_name
returns-then-same_name c = let a = c.args in let e : same (part a.s.now (place_at a.t.now (row_of (c.loop-i.i - 1))) (row_end a.t.now (row_of (c.loop-i.i - 1)))) (part a.s.now a.a a.b) ≡ true = rw (← c.place_at-p.ensures.0, ← c.end_of-q.ensures, ← c.from.ensures, ← c.from-in-loop-i.ensures) (sym c.same_name.ensures ∙ c.if-same_name.true) in row_here _ _ _ _ _ (omega arith) e c.loop-i.invariant

pub loop-i-preserved : goal.loop-i-preserved
loop-i-preserved c = let a = c.args in let e : same (part a.s.now (place_at a.t.now (row_of (c.loop-i.i - 1))) (row_end a.t.now (row_of (c.loop-i.i - 1)))) (part a.s.now a.a a.b) ≡ false = rw (← c.place_at-p.ensures.0, ← c.end_of-q.ensures, ← c.from.ensures, ← c.from-in-loop-i.ensures) (sym c.same_name.ensures ∙ c.if-same_name.false) in row_on _ _ _ _ _ (omega arith) e c.loop-i.invariant

pub returns : goal.returns
returns c = row_over _ _ _ _ _ (omega arith) c.loop-i.invariant
