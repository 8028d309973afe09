-- `kiss_read::word` meets its contract: the sizes, nothing behind the last state, outputs, or a next state.
-- Assumes nothing.
use mathlib.Core.Path.{◌≡◌, subst}
use Prim.Native.Nat.{ℕ, ◌-◌, ◌/◌}
use native.Mathlib.Omega.{arith}
use Rattle.std.proofs.Common.{Err}
use Rattle.kiss_read.specs.Cursor.{Rowed, RowIs}
use Rattle.kiss_read.proofs.Turns.{word-zero, word-one, word-past, word-outs, word_next, word-lost}
use Rattle.kiss_read.proofs.word.Goals as goal

pub returns-then-w-eq0 : goal.returns-then-w-eq0
returns-then-w-eq0 c = let a = c.args in word-zero a.text.now a.shape.sizes.inputs a.shape.sizes.outputs a.shape.sizes.states a.w a.at c.requires.0 c.if-w-eq0.true

pub returns-then-w-eq1 : goal.returns-then-w-eq1
returns-then-w-eq1 c = let a = c.args in word-one a.text.now a.shape.sizes.inputs a.shape.sizes.outputs a.shape.sizes.states a.w a.at c.requires.0 c.if-w-eq1.true

pub returns-then-z-state : goal.returns-then-z-state
returns-then-z-state c = let a = c.args in word-past a.text.now a.shape.sizes.inputs a.shape.sizes.outputs a.shape.sizes.states a.w a.at c.requires.0 a.shape.width c.args.shape.wide (omega arith) c.if-z-state.true

pub returns-in-Ok : goal.returns-in-Ok
returns-in-Ok c =
    let a = c.args in
    let e : c.saturating_sub.result ≡ 0 = omega (arith, c.saturating_sub.ensures, c.if-c-eq0.true) in
    let r = subst (λ (i : ℕ). Rowed a.text.now a.shape.sizes.inputs a.shape.sizes.outputs a.shape.sizes.states ((a.w - 2) / a.shape.width) i a.at c.in-Ok.line) e c.in-Ok.ensures in
    word-outs a.text.now a.shape.sizes.inputs a.shape.sizes.outputs a.shape.sizes.states a.w a.at c.requires.0 a.shape.width c.args.shape.wide (omega arith) c.if-z-state.false c.if-c-eq0.true c.in-Ok.line r

pub returns-in-Ok-2 : goal.returns-in-Ok-2
returns-in-Ok-2 c =
    let a = c.args in
    let r = subst (λ (i : ℕ). Rowed a.text.now a.shape.sizes.inputs a.shape.sizes.outputs a.shape.sizes.states ((a.w - 2) / a.shape.width) i a.at c.in-Ok.line) c.saturating_sub.ensures c.in-Ok.ensures in
    word_next a.text.now a.shape.sizes.inputs a.shape.sizes.outputs a.shape.sizes.states a.w a.at c.requires.0 a.shape.width c.args.shape.wide (omega arith) c.if-z-state.false c.if-c-eq0.false c.in-Ok.line r

pub returns-in-Err : goal.returns-in-Err
returns-in-Err c =
    let a = c.args in
    let r = subst (λ (i : ℕ). RowIs a.text.now a.shape.sizes.inputs a.shape.sizes.outputs a.shape.sizes.states ((a.w - 2) / a.shape.width) i a.at (Err c.in-Err.field-0)) c.saturating_sub.ensures c.in-Err.ensures in
    word-lost a.text.now a.shape.sizes.inputs a.shape.sizes.outputs a.shape.sizes.states a.w a.at c.requires.0 a.shape.width c.args.shape.wide (omega arith) c.if-z-state.false c.in-Err.field-0 r
