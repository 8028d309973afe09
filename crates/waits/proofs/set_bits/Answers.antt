use Rattle.waits.proofs.Laws.{mask-some, mask-holds, assign-ones, assign-zeros, tries_as}
use Rattle.waits.proofs.set_bits.Goals as goal

pub overflow_sub-mask : goal.overflow_sub-mask
overflow_sub-mask c = mask-some c.args.width c.requires.1.1.0

pub overflow_sub-mask-2 : goal.overflow_sub-mask-2
overflow_sub-mask-2 c = mask-holds c.args.z c.args.width c.requires.1.1.0

pub returns : goal.returns
returns c = λ b. tries_as (assign-ones c.args.low c.args.width c.args.z c.requires.1.0 c.requires.1.1.0) (assign-zeros c.args.low c.args.width c.args.z c.requires.1.0 c.requires.1.1.0) (c.tried.ensures b)
