-- What is told where the actuals of a call are written.
-- Assumes nothing.
use Rattle.std.specs.Prelude.{Bool, true, false, ◌≡◌, List, ℕ, ◌+◌, ◌-◌, Option, Some, None}
use Rattle.hand.specs.declared.Here.{Here}
use Rattle.parts.specs.Beside.{beside}
use Rattle.frames.specs.declared.Under.{Under}
use Rattle.frames.specs.Put.{Puts, frame_in, wiped}
use Rattle.allow.specs.Allowed.{Allows}
use Rattle.calls.specs.declared.Entered.{Entered}
use Rattle.calls.specs.declared.Expanded.{Expanded}

-- under what the body is read
abbrev pub frame_under : Under → ℕ → ℕ → Under
frame_under u row to = record { at = u.at; frame = u.top; depth = u.depth + 1; seen = row; top = to }

-- the area with the frame
abbrev pub framed : List ℕ → Under → ℕ → List ℕ
framed t u p = frame_in (beside t).names u.top u.frame p

-- whether a call is expanded
abbrev pub is_expanded : Option Expanded → Bool
is_expanded (Some r) = true
is_expanded None = false

-- the frame is left there, or all between is zero
abbrev pub Leaves : List ℕ → List ℕ → Under → ℕ → ℕ → ℕ → Here → Option Expanded → Type 0
Leaves t v u row p to body (Some r) = Puts t v (framed t u p) × (r.under ≡ frame_under u row to) × (r.body ≡ body)
Leaves t v u row p to body None = Puts t v (wiped (framed t u p) u.top (to - u.top))

pub record Settles (s t v : List ℕ) (u : Under) (row p to : ℕ) (body word : Here) (r : Entered) : Type 0 where
  pub behind : r.word ≡ word
  pub allows : Allows s (framed t u p) (frame_under u row to) body (is_expanded r.expanded)
  pub leaves : Leaves t v u row p to body r.expanded
