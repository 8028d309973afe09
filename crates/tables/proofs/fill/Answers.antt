-- `tables::fill` meets its contract: what is left to put in comes to the whole.
-- Assumes nothing.
use mathlib.Core.Path.{◌≡◌, ◌∙◌}
use mathlib.Core.List.{[], ◌∷◌, ◌++◌}
use Prim.Native.Nat.{◌+◌}
use native.Mathlib.Omega.{arith}
use lib.ListN.{length, length-append}
use Rattle.std.proofs.Common.{rules}
use Rattle.std.proofs.lemmas.Slice.Zip.{zip_turn, zip_end}
use Rattle.tables.proofs.Laid.{store_on, store_over}
use Rattle.tables.proofs.fill.Goals as goal

pub loop-at-preserved : goal.loop-at-preserved
loop-at-preserved c =
    let a = c.args in
    let n = length c.loop-at.yielded in
    let z = zip_turn a.called.now a.places.now c.loop-at.yielded c.into_iter-at-iterator.result c.loop-at.at-iterator c.next.new.self c.next.result (search rules) (search rules) c.loop-at.yielded_by (c.in-Some.at, c.in-Some.place) c.in-Some.is c.next.ensures.steps in
    let e : length (c.loop-at.yielded ++ ((c.in-Some.at, c.in-Some.place) ∷ [])) ≡ n + 1 = length-append c.loop-at.yielded ((c.in-Some.at, c.in-Some.place) ∷ []) in
    rw (e, z.3 0) (store_on a.called.now a.places.now c.loop-at.t _ n c.from.result z.0 z.1 (c.from.ensures ∙ z.2 0) c.loop-at.invariant)

pub returns : goal.returns
returns c =
    let a = c.args in
    let z = zip_end a.called.now a.places.now c.loop-at.yielded c.into_iter-at-iterator.result c.loop-at.at-iterator c.next.new.self c.next.result (search rules) (search rules) c.loop-at.yielded_by c.in-None.is c.next.ensures.steps in
    record { is = store_over a.called.now a.places.now c.loop-at.t _ (length c.loop-at.yielded) (omega (arith, z, c.requires.calls, c.requires.rows)) c.loop-at.invariant }
