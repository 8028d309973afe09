use native.Mathlib.Omega.{arith}
use Prim.Native.Nat.{ℕ, ◌+◌, ◌*◌}
use mathlib.Core.Path.{refl, sym, subst}
use Rattle.files.specs.Written.{stream_from, WordIs}
use Rattle.files.proofs.Stream.{word_first, word-second}
use Rattle.files.proofs.word_at.Goals as goal

pub returns-in-0 : goal.returns-in-0
returns-in-0 c = let z = c.args.sizes in
    let r = c.requires.0 in
    subst (λ (w : ℕ). WordIs (stream_from c.args.area.now z.inputs z.outputs z.states) w (z.inputs + 256 * z.outputs)) (sym c.in-0.is)
    (word_first c.args.area.now z.inputs z.outputs z.states (omega (arith, r.inputs)) (omega (arith, r.outputs)) _ refl)

pub returns-in-1 : goal.returns-in-1
returns-in-1 c = let z = c.args.sizes in
    let r = c.requires.0 in
    subst (λ (w : ℕ). WordIs (stream_from c.args.area.now z.inputs z.outputs z.states) w z.states) (sym c.in-1.is)
    (word-second c.args.area.now z.inputs z.outputs z.states (omega (arith, r.inputs)) (omega (arith, r.outputs)) _ refl)
