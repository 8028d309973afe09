-- Bits of a word, as they are shifted and masked.
use mathlib.Core.Path.{◌≡◌, refl, ap, ◌∙◌}
use Prim.Native.Nat.{ℕ, zero, suc, ◌+◌, ◌-◌, ◌*◌, ◌%◌, ◌≤◌, ◌<◌, ◌^◌}
use native.Mathlib.Nat.{mod-lt, mod-eq_of_lt, one-mul, lt_of_lt_of_le}
use native.Mathlib.Numerals.{sub-one}
use native.Mathlib.Omega.{arith}
use lib.Bits.{bit_and, and_mask, mask_lt}
use lib.ListN.{length, set}
use lib.Pow.{pow_pos, pow_mono, shl_lt, le_ones}
use Rattle.meaning.specs.Tree.{Head}
use Rattle.meaning.specs.Tries.{Tries, no_tries, try_bits}
use Rattle.meaning.specs.Clock.{waits, done, at, delayed}
use Rattle.runs.specs.declared.Buffer.{Buffer}
use Rattle.runs.specs.declared.How.{How}
use Rattle.runs.specs.declared.How.TheVariants.{Finished, Stands}
use Rattle.runs.specs.Run.{entry_of, put}
use Rattle.runs.specs.Buffer.{Comes}
use Rattle.runs.proofs.Steps.{finishes_now, put_now}

pub shifted : (x low width : ℕ) → low + width ≤ 32 → x < 2 ^ width → x * 2 ^ low % 4294967296 ≡ x * 2 ^ low
shifted x low width h k = mod-eq_of_lt (lt_of_lt_of_le (shl_lt width low k) (pow_mono {i = width + low} {j = 32} (omega arith)))

pub bit_shifted : (j : ℕ) → j < 32 → 1 * 2 ^ j % 4294967296 ≡ 2 ^ j
bit_shifted j h = ap (λ (x : ℕ). x % 4294967296) (one-mul (2 ^ j)) ∙ mod-eq_of_lt (omega (arith, pow_mono {i = j} {j = 31} (omega arith)))

one_shifted : (w : ℕ) → w ≤ 16 → 1 * 2 ^ w % 4294967296 ≡ 2 ^ w
one_shifted w h = bit_shifted w (omega arith)

pub mask-some : (w : ℕ) → w ≤ 16 → 1 ≤ 1 * 2 ^ w % 4294967296
mask-some w h = rw (one_shifted w h) (pow_pos w)

pub mask-holds : (x w : ℕ) → w ≤ 16 → bit_and x (1 * 2 ^ w % 4294967296 - 1) ≤ 1 * 2 ^ w % 4294967296 - 1
mask-holds x w h = rw (one_shifted w h) (le_ones w (mask_lt x w))

pub delay-none : (n : ℕ) (h : Head) (b : ℕ) (l : Buffer) → length l.entries ≡ 8 → n ≡ 0 → Comes (delayed h n) 0 b l l Finished
delay-none n h b l e q = rw q (finishes_now l b e)

pub delay-one : (n : ℕ) (h : Head) {b : ℕ} {l k : Buffer} {r : How} → n ≡ 1 → Comes (waits no_tries done) 0 b l k r → Comes (delayed h n) 0 b l k r
delay-one n h q C = rw q C

pub delay-some : (n : ℕ) (h : Head) {b : ℕ} {l k : Buffer} {r : How} → (n ≡ 0 → ⊥) → (n ≡ 1 → ⊥) → Comes (waits no_tries done) 0 b l k r
    → Comes (delayed h n) 0 b l (record k { entries = set k.entries b (entry_of (at h.number (n - 1))) }) Stands
unfolding put
delay-some zero h p q C = absurd (p refl)
delay-some (suc zero) h p q C = absurd (q refl)
delay-some (suc (suc n)) h {b} {l} {k} {r} p q C =
    record { holds = rw sub-one (put_now b h.number (suc n) C.holds (rw C.holds.how)) }

lowered : (w x : ℕ) → 2 ^ w - 1 - x % 2 ^ w < 2 ^ w
lowered w x = omega (arith, pow_pos w)

pub assign-ones : (low width x : ℕ) → low + width ≤ 32 → width ≤ 16
    → bit_and x (1 * 2 ^ width % 4294967296 - 1) * 2 ^ low % 4294967296 ≡ (try_bits low width (x % 2 ^ width)).ones
assign-ones low width x h k =
    rw (one_shifted width k, and_mask x width) (shifted (x % 2 ^ width) low width h (mod-lt x (pow_pos width)))

pub assign-zeros : (low width x : ℕ) → low + width ≤ 32 → width ≤ 16
    → (1 * 2 ^ width % 4294967296 - 1 - bit_and x (1 * 2 ^ width % 4294967296 - 1)) * 2 ^ low % 4294967296 ≡ (try_bits low width (x % 2 ^ width)).zeros
assign-zeros low width x h k =
    rw (one_shifted width k, and_mask x width) (shifted (2 ^ width - 1 - x % 2 ^ width) low width h (lowered width x))

-- the same tries
pub tries_as : {a c : ℕ} {t : Tries} {ls b : ℕ} {l k : Buffer} {r : How} → a ≡ t.ones → c ≡ t.zeros → Comes (waits (record { ones = a; zeros = c }) done) ls b l k r → Comes (waits t done) ls b l k r
tries_as {a} {c} {t} {ls} {b} {l} {k} {r} e f C = record { holds = rw (← e, ← f) C.holds }
