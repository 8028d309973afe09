-- What a text that is written out says, of which a table is computed.
-- Assumes nothing.
use mathlib.Core.Path.{◌≡◌, refl, sym, ap, ◌∙◌, subst}
use mathlib.Core.List.{List}
use Prim.Native.String.{String}
use lib.ListN.{length}
use Prim.Native.Nat.{ℕ, ◌≤◌}
use Rattle.file_law.specs.Answer.{Answer, gives}
use Rattle.file_law.specs.Table.{most_states, Table}
use Rattle.file_law.specs.File.{stream_of, file_of}
use Rattle.file_law.proofs.Answers.{never, same}
use Rattle.meaning.specs.States.{State}
use Rattle.meaning.specs.Declared.{Source}
use Rattle.meaning.specs.Checked.{program_of}
use Rattle.language.specs.Words.{bytes}
use Rattle.language.specs.Texts.{good, Reads}
use Rattle.language.specs.Tables.{Tabled}
use Rattle.language.specs.Promise.{FileOf}
use Rattle.language.specs.Listings.{Yields, fault, many, table}
use Rattle.language.proofs.Listing.{yield_of, yield_right}
use Rattle.language.proofs.Computing.{yield_in}

pub record Says (text : List ℕ) (t : Table) : Type 0 where
  pub source : Source
  pub reads : Reads text (good source)
  pub states : List State
  pub file : FileOf source states (file_of (stream_of t))
  pub few : length states ≤ most_states
  pub tabled : Tabled (program_of source) states t

found : (text : List ℕ) (src : Source) (t : Table) {a : Answer (Source × Table)} → Yields most_states text a → gives (src, t) ≡ a → Says text t
found text src t (fault x) e = absurd (never e)
found text src t (many x m) e = absurd (never e)
found text src t (table {src = found-src} {states = L} {t = u} x n h r) e =
    subst (λ (v : Table). Says text v) (sym (ap (λ (y : Source × Table). y.1) (same e)))
    (record { source = found-src; reads = x; states = L; file = record { table = u; numbers = n; tabled = r; bytes = refl }; few = h; tabled = r })

same_yield : (text : String) → yield_in most_states text ≡ yield_of most_states (bytes text)
unfolding yield_in
same_yield text = refl

pub says : (text : String) (src : Source) (t : Table) → yield_in most_states text ≡ gives (src, t) → Says (bytes text) t
says text src t e = found (bytes text) src t (yield_right most_states (bytes text)) (sym e ∙ same_yield text)
