-- `grammar::next_turn` meets its contract: each way out has what it tested.
-- Assumes nothing.
use mathlib.Core.Path.{refl, sym, ◌∙◌}
use mathlib.Core.Logic.{inl, inr}
use native.Mathlib.Omega.{arith}
use Rattle.grammar.proofs.next_turn.Goals as goal

pub returns-then-kind-b : goal.returns-then-kind-b
returns-then-kind-b c = rw (← c.symbol_at-b.ensures) ((λ z. omega arith), omega arith, c.if-kind-b.true)

pub returns-else-kind-b : goal.returns-else-kind-b
returns-else-kind-b c = rw (← c.symbol_at-b.ensures) (inl ((λ z. omega arith), omega arith, c.if-kind-b.false))

pub returns-in-0-k : goal.returns-in-0-k
returns-in-0-k c = rw (← c.symbol_at-b.ensures) (inr (inl (c.in-126.is, c.in-0-k.is)))

pub returns-in_default-k : goal.returns-in_default-k
returns-in_default-k c = rw (← c.symbol_at-b.ensures) (inl (c.in-126.is, (λ z. omega arith), refl))

pub returns-in-127 : goal.returns-in-127
returns-in-127 c = rw (← c.symbol_at-b.ensures) (inr (c.in-127.is, refl))

pub returns-then-q-eq0 : goal.returns-then-q-eq0
returns-then-q-eq0 c = rw (← c.symbol_at-b.ensures) (inr (inr (omega arith, sym c.if-q-eq0.true ∙ c.from-q.ensures ∙ c.start_at.ensures)))

pub returns-then-symbol_at-eq0 : goal.returns-then-symbol_at-eq0
returns-then-symbol_at-eq0 c = rw (← c.symbol_at-b.ensures) (record { part = omega arith; found = c.if-q-eq0.false; start = c.from-q.ensures ∙ c.start_at.ensures }, sym c.symbol_at.ensures ∙ c.if-symbol_at-eq0.true)

pub returns-else-symbol_at-eq0 : goal.returns-else-symbol_at-eq0
returns-else-symbol_at-eq0 c = rw (← c.symbol_at-b.ensures) (record { part = omega arith; found = c.if-q-eq0.false; start = c.from-q.ensures ∙ c.start_at.ensures }, (λ z. c.if-symbol_at-eq0.false (c.symbol_at.ensures ∙ z)))
