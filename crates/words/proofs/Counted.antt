-- The numbers of the spellings: the signs come first, then the reserved words.
-- Assumes nothing.
use mathlib.Core.Path.{◌≡◌, refl, sym, ◌∙◌, ap}
use mathlib.Core.List.{◌++◌}
use Prim.Native.Nat.{ℕ, suc, ◌+◌, ◌-◌, ◌<◌}
use native.Mathlib.Omega.{arith}
use lib.ListN.{length, get_or, get_or-append}
use lib.Seq.{get_or-append-add}
use Rattle.language.specs.Words.{signs, reserved, the}
use Rattle.words.specs.Kinds.{spellings, sign_count, spelling_count, numbered}

pub signs-length : length signs ≡ sign_count
unfolding signs
signs-length = refl

pub reserved-length : length reserved ≡ spelling_count - sign_count
unfolding reserved
reserved-length = refl

pub sign_at : (k : ℕ) → k < length signs → get_or spellings k "" ≡ get_or signs k ""
unfolding spellings
sign_at k h = get_or-append signs reserved "" k h

pub reserved_at : (j : ℕ) → get_or spellings (sign_count + j) "" ≡ get_or reserved j ""
unfolding spellings
reserved_at j = ap (λ (i : ℕ). get_or (signs ++ reserved) (i + j) "") (sym signs-length) ∙ get_or-append-add signs reserved j ""

pub numbered-spelled : (k : ℕ) → numbered (2 + k) ≡ the (get_or spellings k "")
unfolding numbered
numbered-spelled k = let e : 2 + k ≡ suc (suc k) = omega arith in rw e
