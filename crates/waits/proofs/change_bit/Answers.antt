use Rattle.waits.proofs.change_bit.Goals as goal

pub returns : goal.returns
returns c = λ b inputs. rw (c.changing.ensures, c.bit_is.ensures, c.target_bit-j.ensures) at (c.set_bit.ensures b)
