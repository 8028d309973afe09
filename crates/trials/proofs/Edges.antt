-- Room and work area at their edges: each limit met, and passed by one.
-- Assumes nothing.
use mathlib.Core.Path.{◌≡◌, refl}
use mathlib.Core.Logic.{inl, inr}
use mathlib.Core.List.{[], ◌∷◌}
use native.Mathlib.Omega.{arith}
use lib.ListN.{length}
use Rattle.language.specs.Promise.{RoomFits, Lent, Ready, all_zero, refusal, Compiles, one, two}

pub record Edges : Type 0 where
  -- "Room 0 and 257: 1."
  pub room_0 : (l : Lent) → l.room ≡ 0 → Compiles l (refusal l l.work 1 0)
  pub room_257 : (l : Lent) → l.room ≡ 257 → Compiles l (refusal l l.work 1 0)
  pub room_1 : RoomFits 1
  pub room_256 : RoomFits 256
  -- 32,768 bytes and 64 for each state of the room
  pub work-held : (l : Lent) → l.room ≡ 3 → length l.work ≡ 32960 → Ready l
  pub work-short : (l : Lent) → l.room ≡ 3 → length l.work ≡ 32959 → Compiles l (refusal l l.work 2 0)
  pub most-work-held : (l : Lent) → l.room ≡ 256 → length l.work ≡ 49152 → Ready l
  pub most-work-short : (l : Lent) → l.room ≡ 256 → length l.work ≡ 49151 → Compiles l (refusal l l.work 2 0)
  -- what is left zero
  pub work-zero : all_zero (7 ∷ 0 ∷ 255 ∷ []) ≡ 0 ∷ 0 ∷ 0 ∷ []

pub edges : Edges
edges =
    record {
      room_0 = λ l e. one (inl (omega arith));
      room_257 = λ l e. one (inr (omega arith));
      room_1 = record { some = omega arith; few = omega arith };
      room_256 = record { some = omega arith; few = omega arith };
      work-held = λ l e k. record { room = record { some = omega arith; few = omega arith }; work = omega arith };
      work-short = λ l e k. two (record { some = omega arith; few = omega arith }) (omega arith);
      most-work-held = λ l e k. record { room = record { some = omega arith; few = omega arith }; work = omega arith };
      most-work-short = λ l e k. two (record { some = omega arith; few = omega arith }) (omega arith);
      work-zero = refl;
    }
