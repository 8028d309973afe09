-- P7 and P8 by the words of a body, up to its `endproc`: which names its own statements assign, index or change whole. What stands in the parentheses of a call is passed over.
-- Assumes nothing.
use Rattle.std.specs.Prelude.{Bool, true, false, cond, List, [], ◌∷◌, ℕ, zero, suc}
use Rattle.std.proofs.Math.Option.{Option, none, some}
use Rattle.language.specs.Words.{Kind, name, the, Word}
use Rattle.language.proofs.Claims.{same_kind}

-- what a word is to a name before it or behind it
pub data Sort : Type 0 where
  a_name changes becomes index opens closes last other : Sort

-- by its kind
unfoldable pub sort_of : Kind → Sort
sort_of k =
    cond (same_kind k name) a_name
    (cond (same_kind k (the "raise")) changes (cond (same_kind k (the "lower")) changes (cond (same_kind k (the "invert")) changes
    (cond (same_kind k (the ":=")) becomes
    (cond (same_kind k (the "[")) index
    (cond (same_kind k (the "(")) opens
    (cond (same_kind k (the ")")) closes
    (cond (same_kind k (the "endproc")) last other))))))))

-- what stands before the next word: nothing that matters; a name; `raise`, `lower` or `invert`; such a word and its `(`; these and a name; or, in the parentheses of a call, so many open ones inside them
pub data State : Type 0 where
  calm : State
  named : List ℕ → State
  changing : State
  opened : State
  changed : List ℕ → State
  passing : ℕ → State

-- the state behind a word, with the word's bytes: where nothing stands before it that matters
unfoldable pub from_calm : Sort → List ℕ → State
from_calm a_name x = named x
from_calm changes x = changing
from_calm becomes x = calm
from_calm index x = calm
from_calm opens x = calm
from_calm closes x = calm
from_calm last x = calm
from_calm other x = calm

-- .. behind a name; one before `(` is called
unfoldable pub from_name : Sort → List ℕ → State
from_name a_name x = named x
from_name changes x = changing
from_name becomes x = calm
from_name index x = calm
from_name opens x = passing 0
from_name closes x = calm
from_name last x = calm
from_name other x = calm

-- .. in the parentheses of a call, up to the one that closes them
unfoldable pub from_passing : ℕ → Sort → State
from_passing d a_name = passing d
from_passing d changes = passing d
from_passing d becomes = passing d
from_passing d index = passing d
from_passing d opens = passing (suc d)
from_passing zero closes = calm
from_passing (suc d) closes = passing d
from_passing d last = passing d
from_passing d other = passing d

-- .. behind any state
unfoldable pub next : State → Sort → List ℕ → State
next calm c x = from_calm c x
next (named y) c x = from_name c x
next changing c x = opened
next opened c x = changed x
next (changed y) c x = from_calm c x
next (passing d) c x = from_passing d c

-- no further than the first use that is not allowed
abbrev pub held : Bool → Option Bool → Option Bool
held b o = cond b o (some false)

-- `endproc` is the end
unfoldable pub onward : Sort → Option Bool → Option Bool
onward a_name o = o
onward changes o = o
onward becomes o = o
onward index o = o
onward opens o = o
onward closes o = o
onward last o = some true
onward other o = o

-- what the names allow: to be assigned or indexed, and to be changed whole
module _ (indexable raisable : List ℕ → Bool) where
  -- a name before `:=` is assigned, one before `[` is indexed
  unfoldable pub fits_name : Sort → List ℕ → Bool
  fits_name a_name x = true
  fits_name changes x = true
  fits_name becomes x = indexable x
  fits_name index x = indexable x
  fits_name opens x = true
  fits_name closes x = true
  fits_name last x = true
  fits_name other x = true

  -- a name that is changed, whole if no `[` follows
  unfoldable pub fits_changed : Sort → List ℕ → Bool
  fits_changed a_name x = raisable x
  fits_changed changes x = raisable x
  fits_changed becomes x = raisable x
  fits_changed index x = indexable x
  fits_changed opens x = raisable x
  fits_changed closes x = raisable x
  fits_changed last x = raisable x
  fits_changed other x = raisable x

  -- the use that a word makes of what stands before it
  unfoldable pub fits : State → Sort → Bool
  fits calm c = true
  fits (named x) c = fits_name c x
  fits changing c = true
  fits opened c = true
  fits (changed x) c = fits_changed c x
  fits (passing d) c = true

  -- whether every use is allowed, from a state on; none where the words end without an `endproc`
  unfoldable pub walk : State → List Word → Option Bool
  walk st [] = none
  walk st (w ∷ ws) = held (fits st (sort_of w.kind)) (onward (sort_of w.kind) (walk (next st (sort_of w.kind) w.bytes) ws))
