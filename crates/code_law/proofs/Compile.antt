-- The number that C gets from compile tells the answer.
-- Assumes nothing.
use mathlib.Core.Path.{◌≡◌, refl, ap, ap₂}
use Prim.Native.Nat.{ℕ, ◌≤◌}
use native.Mathlib.Omega.{arith}
use lib.ListN.{length}
use Rattle.file_law.specs.Answer.{Answer, gives, refuses}
use Rattle.file_law.specs.Table.{most_states}
use Rattle.file_law.specs.Reading.{most_blocks}
use Rattle.file_law.proofs.Tests.{blocks-small}
use Rattle.file_law.proofs.Sound.{sound}
use Rattle.language.specs.Texts.{most_bytes}
use Rattle.language.specs.Promise.{Made, Lent, Ended, Compiles, one, two, fault, eleven, twelve, made}
use Rattle.language.proofs.Areas.{fault-number}
use Rattle.language.proofs.Success.{success, whole-blocks, file_in_lem}
use Rattle.language.proofs.Demands.{opens}
use Rattle.code_law.specs.Code.{code_of}
use Rattle.code_law.proofs.Places.{place-near}

-- the sizes of what is told
abbrev Told : Answer Made → Type 0
Told (gives m) = (m.states ≤ most_states) × (m.blocks ≤ most_blocks)
Told (refuses number place) = (1 ≤ number) × (place ≤ most_bytes)

told-made : {l : Lent} {e : Ended} {m : Made} → Compiles l e → e.answer ≡ gives m → Told (gives m)
told-made c given =
    let (s, y) = success c given in
    let o = sound _ _ (opens c given y.reads) in
    let n = ap (λ (m : Made). m.states) y.gave in
    (omega (arith, n, y.room, y.ready.room.few), omega (arith, ap length (file_in_lem y), whole-blocks y, o.shape.exact, blocks-small _ _ o.shape.size.inputs o.shape.size.states))

told : {l : Lent} {e : Ended} → Compiles l e → Told e.answer
told (one h) = (omega arith, omega arith)
told (two r h) = (omega arith, omega arith)
told (fault r x) = (omega (arith, fault-number x), place-near x)
told (eleven r x t) = (omega arith, omega arith)
told (twelve r x f n h) = (omega arith, omega arith)
told (made r x f n h) = told-made (made r x f n h) refl

read : (a b : Answer Made) → Told a → Told b → code_of a ≡ code_of b → a ≡ b
read (gives m) (gives n) x y e =
    let s : m.states ≡ n.states = omega (arith, x.0, y.0) in
    let b : m.blocks ≡ n.blocks = omega (arith, x.0, y.0) in
    ap₂ (λ (i j : ℕ). gives (record { states = i; blocks = j })) s b
read (gives m) (refuses j q) x y e = absurd (omega (arith, x.0, x.1, y.0))
read (refuses i p) (gives n) x y e = absurd (omega (arith, y.0, y.1, x.0))
read (refuses i p) (refuses j q) x y e =
    let n : i ≡ j = omega (arith, x.1, y.1) in
    let z : p ≡ q = omega (arith, x.1, y.1) in
    ap₂ (λ (i j : ℕ). refuses i j) n z

-- two answers that compile can give, for whatever is lent, with one number are one
pub code_read : {l k : Lent} {e f : Ended} → Compiles l e → Compiles k f → code_of e.answer ≡ code_of f.answer → e.answer ≡ f.answer
code_read c d = read _ _ (told c) (told d)
