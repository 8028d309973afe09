-- P14 by the words of a body, up to its `endproc`: how many activities it can have, each call by its procedure.
-- Assumes nothing.
use Rattle.std.specs.Prelude.{cond, List, [], ◌∷◌, ℕ, zero, suc, ◌+◌, max, min}
use Rattle.std.proofs.Math.Option.{Option, none, some}
use Rattle.language.specs.Words.{Kind, name, the, Word}
use Rattle.language.proofs.Claims.{same_kind}

-- what a word is to activities and to a name before it
pub data Sort : Type 0 where
  a_name opens closes comma begins parts ends last other : Sort

-- .. by its kind
unfoldable pub sort_of : Kind → Sort
sort_of k =
    cond (same_kind k name) a_name
    (cond (same_kind k (the "(")) opens
    (cond (same_kind k (the ")")) closes
    (cond (same_kind k (the ",")) comma
    (cond (same_kind k (the "parallel")) begins
    (cond (same_kind k (the "||")) parts
    (cond (same_kind k (the "endparallel")) ends
    (cond (same_kind k (the "endproc")) last other)))))))

-- what stands before the next word: nothing that matters; a name; or a call of that name, with so many parentheses open inside it and so many actuals begun
pub data State : Type 0 where
  calm : State
  named : List ℕ → State
  calling : List ℕ → ℕ → ℕ → State

-- one actual at least is begun
unfoldable pub seen : ℕ → ℕ
seen zero = 1
seen (suc c) = suc c

-- what stands behind a word, where nothing that matters stood before it
unfoldable pub from_calm : Sort → List ℕ → State
from_calm a_name x = named x
from_calm opens x = calm
from_calm closes x = calm
from_calm comma x = calm
from_calm begins x = calm
from_calm parts x = calm
from_calm ends x = calm
from_calm last x = calm
from_calm other x = calm

-- a name before `(` is called
unfoldable pub from_name : List ℕ → Sort → List ℕ → State
from_name y a_name x = named x
from_name y opens x = calling y 0 0
from_name y closes x = calm
from_name y comma x = calm
from_name y begins x = calm
from_name y parts x = calm
from_name y ends x = calm
from_name y last x = calm
from_name y other x = calm

-- in the parentheses of a call
unfoldable pub from_calling : List ℕ → ℕ → ℕ → Sort → State
from_calling y d c a_name = calling y d (seen c)
from_calling y d c opens = calling y (suc d) (seen c)
from_calling y zero c closes = calm
from_calling y (suc d) c closes = calling y d (seen c)
from_calling y zero c comma = calling y 0 (suc c)
from_calling y (suc d) c comma = calling y (suc d) (seen c)
from_calling y d c begins = calling y d (seen c)
from_calling y d c parts = calling y d (seen c)
from_calling y d c ends = calling y d (seen c)
from_calling y d c last = calling y d (seen c)
from_calling y d c other = calling y d (seen c)

-- .. whatever stood before it
unfoldable pub next : State → Sort → List ℕ → State
next calm c x = from_calm c x
next (named y) c x = from_name y c x
next (calling y d n) c x = from_calling y d n c

-- Z8: activities are counted up to nine
abbrev pub most : ℕ
most = 9

-- a parallel that is open: the activities before it, and the sum of its branches that have ended
pub record Around : Type 0 where
  pub before : ℕ
  pub sum : ℕ

-- the activities of the list that is being read, and the parallels around it
pub record Acts : Type 0 where
  pub here : ℕ
  pub around : List Around

-- a branch ends and the next begins
unfoldable pub parted : ℕ → List Around → Acts
parted n [] = record { here = n; around = [] }
parted n (o ∷ os) = record { here = 1; around = record { before = o.before; sum = min (o.sum + n) most } ∷ os }

-- the last branch ends
unfoldable pub ended : ℕ → List Around → Acts
ended n [] = record { here = n; around = [] }
ended n (o ∷ os) = record { here = max o.before (min (o.sum + n) most); around = os }

-- so many may be there too
abbrev pub raised : ℕ → Acts → Acts
raised n a = record { here = max a.here n; around = a.around }

-- in the parentheses of a call nothing begins or ends
abbrev pub outside : {A : Type 0} → State → A → A → A
outside calm x y = x
outside (named z) x y = x
outside (calling z d c) x y = y

module _ (wide_of : List ℕ → ℕ → ℕ) where
  -- a call ends
  unfoldable pub at_close : State → Acts → Acts
  at_close calm a = a
  at_close (named y) a = a
  at_close (calling y zero c) a = raised (wide_of y c) a
  at_close (calling y (suc d) c) a = a

  -- the activities behind a word
  unfoldable pub step : State → Sort → Acts → Acts
  step st a_name a = a
  step st opens a = a
  step st closes a = at_close st a
  step st comma a = a
  step st begins a = outside st (record { here = 1; around = record { before = a.here; sum = 0 } ∷ a.around }) a
  step st parts a = outside st (parted a.here a.around) a
  step st ends a = outside st (ended a.here a.around) a
  step st last a = a
  step st other a = a

  -- no further than `endproc`
  unfoldable pub onward : State → Sort → ℕ → Option ℕ → Option ℕ
  onward st a_name n o = o
  onward st opens n o = o
  onward st closes n o = o
  onward st comma n o = o
  onward st begins n o = o
  onward st parts n o = o
  onward st ends n o = o
  onward st last n o = outside st (some n) o
  onward st other n o = o

  -- what the words come to
  unfoldable pub walk : State → Acts → List Word → Option ℕ
  walk st a [] = none
  walk st a (w ∷ ws) = onward st (sort_of w.kind) a.here (walk (next st (sort_of w.kind) w.bytes) (step st (sort_of w.kind) a) ws)
