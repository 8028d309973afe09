-- What the definitions say where a program without a fault never asks: an unknown name, a bit of a boolean, a name of the wrong kind that is changed. Written down so that nothing is left open.
-- Assumes nothing.
use mathlib.Core.Path.{◌≡◌, refl}
use mathlib.Core.Bool.{false}
use mathlib.Core.Option.{none, some}
use Prim.Native.Nat.{ℕ}
use Rattle.meaning.specs.Tree.{Expr, whole, part}
use Rattle.meaning.specs.Numbers.{Variable, input, boolean, integer, Reads, bool, read_bit}
use Rattle.meaning.specs.Tries.{no_tries, bit_at, assign_tries}
use Rattle.meaning.specs.Checked.{known}
use Rattle.meaning.specs.Kinds.{wholes, kind_of_variable, has_bit, changeable, assignable}
use Rattle.meaning.specs.Worst.{variable_worst}

pub record Unasked : Type 0 where
  pub input-changed : (i : ℕ) → bit_at (whole (input i)) ≡ 0
  pub integer-changed : (low width : ℕ) → bit_at (whole (integer low width)) ≡ low
  pub input-bit : (i j : ℕ) → bit_at (part (input i) j) ≡ 0
  pub boolean-bit : (b j : ℕ) → bit_at (part (boolean b) j) ≡ b
  pub input-assigned : (i : ℕ) (e : Expr Variable) (r : Reads) → assign_tries (input i) e r ≡ no_tries
  pub boolean-assigned : (j : ℕ) (e : Expr Variable) (r : Reads) → assign_tries (boolean j) e r ≡ no_tries
  pub input-read : (i j : ℕ) (r : Reads) → read_bit (input i) j r ≡ bool false
  pub boolean-read : (b j : ℕ) (r : Reads) → read_bit (boolean b) j r ≡ bool false
  pub unknown-kind : kind_of_variable none ≡ wholes
  pub unknown-bit : (j : ℕ) → has_bit none j ≡ false
  pub unknown-changed : changeable none ≡ false
  pub unknown-assigned : assignable none ≡ false
  pub unknown-stands : known none ≡ input 0
  pub unknown-worst : variable_worst none ≡ 0
  pub input-worst : (i : ℕ) → variable_worst (some (input i)) ≡ 0
  pub boolean-worst : (j : ℕ) → variable_worst (some (boolean j)) ≡ 0

pub unasked : Unasked
unasked =
    record {
      input-changed = λ i. refl;
      integer-changed = λ low width. refl;
      input-bit = λ i j. refl;
      boolean-bit = λ b j. refl;
      input-assigned = λ i e r. refl;
      boolean-assigned = λ j e r. refl;
      input-read = λ i j r. refl;
      boolean-read = λ b j r. refl;
      unknown-kind = refl;
      unknown-bit = λ j. refl;
      unknown-changed = refl;
      unknown-assigned = refl;
      unknown-stands = refl;
      unknown-worst = refl;
      input-worst = λ i. refl;
      boolean-worst = λ j. refl;
    }
