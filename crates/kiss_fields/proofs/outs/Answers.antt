-- `kiss_fields::outs` meets its contract. The loop's invariant: the bits of a word stand here.
-- Assumes nothing.
use mathlib.Core.Path.{◌≡◌, sym, ◌∙◌, subst}
use Prim.Native.Nat.{ℕ, ◌+◌, ◌*◌, ◌^◌, ◌%◌, ◌≤◌}
use native.Mathlib.Nat.{mod-eq_of_lt}
use native.Mathlib.Omega.{arith}
use lib.Pow.{pow_mono}
use Rattle.kiss_law.specs.Text.{bits}
use Rattle.kiss_fields.specs.Took.{Stood}
use Rattle.kiss_fields.proofs.Taking.{BitsSo, bits-start, bits_go, bits-found, bits-stop, bit-room}
use Rattle.kiss_fields.proofs.outs.Goals as goal

pub loop-j-init : goal.loop-j-init
loop-j-init c = let e : c.args.at ≡ c.args.at + 0 = omega arith in subst (BitsSo c.args.text.now c.args.at 0 0) e (bits-start c.args.text.now c.args.at c.requires.0)

pub returns-in_default : goal.returns-in_default
returns-in_default c =
    let l = c.loop-j in
    let e = c.in_default.ensures.lookup.3 in
    bits-stop c.args.text.now c.args.at c.args.o l.j l.word (c.args.at + l.j) c.loop-j-test.true l.invariant (λ h. absurd (omega arith))

pub returns-in_default-digit : goal.returns-in_default-digit
returns-in_default-digit c =
    let l = c.loop-j in
    let e = c.in-Some.ensures.lookup.3.1 0 in
    bits-stop c.args.text.now c.args.at c.args.o l.j l.word (c.args.at + l.j) c.loop-j-test.true l.invariant (λ h d s g. let q = c.in-Some-digit.ensures.1 in absurd (omega (arith, c.if-d-lt2.false)))

pub returns-in_default-digit-2 : goal.returns-in_default-digit-2
returns-in_default-digit-2 c =
    let l = c.loop-j in
    let e = c.in-Some.ensures.lookup.3.1 0 in
    bits-stop c.args.text.now c.args.at c.args.o l.j l.word (c.args.at + l.j) c.loop-j-test.true l.invariant (λ h d s g. let q = c.in_default-digit.ensures (omega arith) in absurd (omega arith))

pub loop-j-preserved : goal.loop-j-preserved
loop-j-preserved c =
    let l = c.loop-j in
    let d = c.in-Some-digit.d in
    let e = c.in-Some.ensures.lookup.3 in
    let p : 2 ^ l.j ≤ 65536 = pow_mono {j = 16} (omega (arith, c.requires.1)) in
    let s : d * 2 ^ l.j % 4294967296 ≡ d * 2 ^ l.j = mod-eq_of_lt (omega (arith, bit-room d (2 ^ l.j) c.if-d-lt2.true p)) in
    let n : c.args.at + l.j + 1 ≡ c.args.at + (l.j + 1) = omega arith in
    let g = bits_go c.args.text.now c.args.at l.j l.word (c.args.at + l.j) d l.invariant e.0 c.if-d-lt2.true (sym (e.1 0) ∙ c.in-Some-digit.ensures.1) in
    subst (λ (w : ℕ). BitsSo c.args.text.now c.args.at (l.j + 1) (l.word + w) (c.args.at + (l.j + 1))) (sym s) (subst (BitsSo c.args.text.now c.args.at (l.j + 1) (l.word + d * 2 ^ l.j)) n g)

pub returns : goal.returns
returns c =
    let l = c.loop-j in
    let e : l.j ≡ c.args.o = omega arith in
    let n : c.args.at + l.j ≡ c.args.at + c.args.o = omega arith in
    subst (Stood (2 ^ c.args.o) (bits c.args.o) c.args.text.now c.args.at l.word) n (bits-found c.args.text.now c.args.at c.args.o l.j l.word (c.args.at + l.j) e l.invariant)
