-- The value word stays below 2 ^ k where every bit that is changed lies below k.
-- Assumes nothing.
use mathlib.Core.Path.{refl}
use mathlib.Core.Bool.{Bool, true, false}
use mathlib.Core.List.{List, [], ◌∷◌, Memᴰ}
use Prim.Native.Nat.{ℕ, ◌+◌, ◌^◌, ◌≤◌, ◌<◌}
use native.Mathlib.Nat.{lt_of_lt_of_le, lt_of_le_of_lt}
use native.Mathlib.Omega.{arith}
use lib.Bits.{bit_and, bit_or, or_lt, xor_lt, and_le_l}
use lib.Pow.{pow_pos, pow-lt, pow_mono, shl_lt}
use Rattle.meaning.specs.Tree.{Target, Expr}
use Rattle.meaning.specs.Numbers.{Variable, input, boolean, integer, Reads, bit_of, whole_of, value}
use Rattle.meaning.specs.Tries.{Tries, without, try_bit, changed, bit_at, assign_tries, all_ones, all_zeros}
use Rattle.meaning.specs.Clock.{Entry, Outcome, resume_all}
use Rattle.meaning.specs.States.{State, Program, settled, step_state}
use Rattle.meaning.proofs.LowBits.{low-lt}
use Rattle.meaning.proofs.Tried.{WithinAll, Tried, in_no_time, by_exit, by_break, by_wait, on_resume-all}

-- the bit that a change sets, and all bits of an integer, lie below k
abbrev pub ChangedBelow : ℕ → Target Variable → Type 0
ChangedBelow k t = bit_at t < k

abbrev pub AssignedBelow : ℕ → Variable → Type 0
AssignedBelow k (input i) = Unit {0}
AssignedBelow k (boolean j) = Unit {0}
AssignedBelow k (integer low width) = low + width ≤ k

without-lt : (k a b : ℕ) → a < 2 ^ k → without a b < 2 ^ k
without-lt k a b h = xor_lt k a (bit_and a b) h (lt_of_le_of_lt (and_le_l a b) h)

module _ (k : ℕ) where
  abbrev pub Below : Tries → Type 0
  Below t = t.ones < 2 ^ k

  bit-lt : (j : ℕ) (b : Bool) → j < k → Below (try_bit j b)
  bit-lt j true h = pow-lt h
  bit-lt j false h = pow_pos k

  assign-lt : (v : Variable) (e : Expr Variable) (r : Reads) → AssignedBelow k v → Below (assign_tries v e r)
  assign-lt (input i) e r h = pow_pos k
  assign-lt (boolean j) e r h = pow_pos k
  assign-lt (integer low width) e r h =
      lt_of_lt_of_le (shl_lt width low (low-lt width (whole_of (value e r)))) (pow_mono {i = width + low} {j = k} (omega arith))

  ones_lt : (ts : List Tries) → ((t : Tries) → Memᴰ t ts → Below t) → all_ones ts < 2 ^ k
  unfolding all_ones
  ones_lt [] h = pow_pos k
  ones_lt (t ∷ ts) h = or_lt k t.ones (all_ones ts) (h t (Memᴰ.head refl)) (ones_lt ts (λ u m. h u (Memᴰ.tail m)))

  settled-lt : {l b : Bool} {o : Outcome} (word : ℕ) → Tried Below l b o → word < 2 ^ k → (settled o word).word < 2 ^ k
  settled-lt word in_no_time h = h
  settled-lt word (by_exit e) h = h
  settled-lt word (by_break e) h = h
  settled-lt word (by_wait {t = t} p) h = without-lt k (bit_or word t.ones) t.zeros (or_lt k word t.ones h p)

  pub tried_below : (p : Program) (l b : Bool) → WithinAll p.body (ChangedBelow k) (AssignedBelow k) l b
      → (es : List Entry) (r : Reads) → Tried Below l b (resume_all p.body es r)
  tried_below p l b w es r =
      on_resume-all (ChangedBelow k) (AssignedBelow k) Below (pow_pos k)
      (λ c t q h. bit-lt (bit_at t) (changed c (bit_of q.word (bit_at t))) h)
      assign-lt
      (λ ts h. without-lt k (all_ones ts) (all_zeros ts) (ones_lt ts h))
      p.body es r w

  pub word_below : (p : Program) (l b : Bool) → WithinAll p.body (ChangedBelow k) (AssignedBelow k) l b
      → (s : State) (i : ℕ) → s.word < 2 ^ k → (step_state p s i).word < 2 ^ k
  unfolding step_state
  word_below p l b w s i h = settled-lt s.word (tried_below p l b w s.entries (record { word = s.word; inputs = i })) h
