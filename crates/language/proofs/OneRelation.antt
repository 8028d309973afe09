-- One relation, not two: a compile that gets to the text ends as the text yields in its room, and in no other way.
-- Assumes nothing.
use mathlib.Core.Bool.{Bool, true, false}
use mathlib.Core.Path.{◌≡◌, refl, sym, subst}
use mathlib.Core.Logic.{◌↔◌}
use mathlib.Core.List.{List, ◌++◌}
use Prim.Native.Nat.{ℕ, ◌/◌, ◌≤◌}
use lib.Dec.{ltb}
use borrow.Author.Tests.{ltb-true, ltb-false}
use lib.ListN.{length, drop}
use Rattle.file_law.specs.Answer.{Answer, gives, refuses}
use Rattle.file_law.specs.Table.{Table}
use Rattle.file_law.specs.File.{stream_of, file_of}
use Rattle.reach_law.specs.Numbering.{Numbering}
use Rattle.meaning.specs.States.{State}
use Rattle.meaning.specs.Declared.{Source}
use Rattle.meaning.specs.Checked.{program_of}
use Rattle.language.specs.Texts.{good, Reads}
use Rattle.language.specs.Tables.{machine_of, Tabled}
use Rattle.language.specs.Promise.{Lent, Ended, Ready, FileOf, all_zero, refusal, Compiles, eleven, twelve, made}
use Rattle.language.specs.Promise as promise
use Rattle.language.specs.Listings.{Yields, fault, many, table}
use Rattle.language.proofs.Listing.{yield_of, yield_right}
use Rattle.language.proofs.OneAnswer.{one_answer}

-- the end with a file of so many states, where it has been asked whether the buffer is short
abbrev pub filed_by : Bool → Lent → ℕ → List ℕ → Ended
filed_by true l states file = refusal l (all_zero l.work) 12 0
filed_by false l states file =
    record { answer = gives (record { states = states; blocks = length file / 512 }); work = all_zero l.work; buffer = file ++ drop (length file) l.buffer }

-- how a compile ends whose text yields this: 12 or the file, or the refusal as it is
abbrev pub end_of : Lent → Answer (Source × Table) → Ended
end_of l (gives x) = filed_by (ltb (length l.buffer) (length (file_of (stream_of x.1)))) l (length x.1.rows) (file_of (stream_of x.1))
end_of l (refuses number place) = refusal l (all_zero l.work) number place

filed_ends : (l : Lent) (s : Source) (t : Table) (states : List State) → Ready l → Reads l.source (good s) → Numbering (machine_of (program_of s)) states → length states ≤ l.room
    → Tabled (program_of s) states t → Compiles l (end_of l (gives (s, t)))
filed_ends l s t states r x n h d = subst (λ (k : ℕ). Compiles l (filed_by (ltb (length l.buffer) (length file)) l k file)) (sym d.size) (go (ltb (length l.buffer) (length file)) refl)
  where
    file : List ℕ
    file = file_of (stream_of t)

    filed : FileOf s states file
    filed = record { table = t; numbers = n; tabled = d; bytes = refl }

    go : (b : Bool) → ltb (length l.buffer) (length file) ≡ b → Compiles l (filed_by b l (length states) file)
    go true e = twelve r x filed h (ltb-true (length l.buffer) (length file) e)
    go false e = made r x filed h (ltb-false (length l.buffer) (length file) e)

-- what a text yields in the room is how its compile ends
pub yield_ends : {l : Lent} {a : Answer (Source × Table)} → Ready l → Yields l.room l.source a → Compiles l (end_of l a)
yield_ends r (fault x) = promise.fault r x
yield_ends r (many x t) = eleven r x t
yield_ends {l} r (table {src = s} {states = states} {t = t} x n h d) = filed_ends l s t states r x n h d

-- .. and every end is that of what the text yields
pub same_relation : (l : Lent) (e : Ended) → Ready l → Compiles l e ↔ ((a : Answer (Source × Table)) × Yields l.room l.source a × (e ≡ end_of l a))
same_relation l e r = (
  λ c. (yield_of l.room l.source, yield_right l.room l.source, one_answer c (yield_ends r (yield_right l.room l.source))),
  λ (a, y, p). subst (Compiles l) (sym p) (yield_ends r y),
)
