-- `crc::over` meets its contract. The loop's invariant: the register at a byte, taken over the bytes that are left, ends where the whole does.
-- Assumes nothing.
use mathlib.Core.Path.{◌≡◌, sym, ap, ◌∙◌}
use Prim.Native.Nat.{ℕ, ◌+◌, ◌≤◌, ◌<◌}
use native.Mathlib.Numerals.{add-one}
use native.Mathlib.Omega.{arith}
use mathlib.Core.List.{List, ◌∷◌}
use lib.ListN.{length, get_or, drop, drop_of_length-le}
use lib.Seq.{drop-cons}
use Rattle.crc_law.specs.Crc.{step_byte, register}
use Rattle.crc.proofs.over.Goals as goal

more : (s : List ℕ) (r i : ℕ) → i < length s → register r (drop i s) ≡ register (step_byte r (get_or s i 0)) (drop (i + 1) s)
unfolding register
more s r i h = ap (register r) (drop-cons s i 0 h ∙ ap (λ (k : ℕ). get_or s i 0 ∷ drop k s) (sym (add-one i)))

done : (s : List ℕ) (r i : ℕ) → length s ≤ i → register r (drop i s) ≡ r
unfolding register
done s r i h = ap (register r) (drop_of_length-le s h)

pub loop-i-preserved : goal.loop-i-preserved
loop-i-preserved c = let l = c.loop-i in
    ap (λ (x : ℕ). register x (drop (l.i + 1) c.args.s.now)) c.next-r.ensures ∙ sym (more c.args.s.now l.r l.i (omega arith)) ∙ l.invariant

pub returns : goal.returns
returns c = let l = c.loop-i in
    sym (done c.args.s.now l.r l.i (omega arith)) ∙ l.invariant
