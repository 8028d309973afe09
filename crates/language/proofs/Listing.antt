-- What a text comes to and its listing, computed through all definitions: words, grammar, tree, faults, clock, states. It is what the text yields, and nothing else is.
-- Assumes nothing.
use mathlib.Core.Path.{◌≡◌, refl, sym, ◌∙◌, ap, subst}
use mathlib.Core.List.{List}
use mathlib.Core.Option.{Option, none, some}
use Prim.Native.Nat.{ℕ, ◌≤◌}
use native.Mathlib.Omega.{arith}
use lib.ListN.{length}
use Rattle.reach_law.specs.Count.{TooMany}
use Rattle.reach_law.specs.Numbering.{Numbering, Answers}
use Rattle.reach_law.specs.Search.{find}
use Rattle.reach_law.proofs.Found.{find-answers}
use Rattle.reach_law.proofs.Unique.{not_both, one_numbering}
use Rattle.file_law.specs.Answer.{Answer, gives, refuses}
use Rattle.file_law.specs.Table.{most_states, Table}
use Rattle.meaning.specs.States.{State}
use Rattle.meaning.specs.Declared.{Source}
use Rattle.meaning.specs.Checked.{program_of}
use Rattle.meaning.proofs.Equal.{same_state}
use Rattle.language.specs.Texts.{Reading, good, refused, Reads}
use Rattle.language.specs.Tables.{machine_of, Tabled}
use Rattle.language.specs.Printed.{listing_of, refusal_line}
use Rattle.language.specs.Listings.{Yields, fault, many, table, printed, PrintsIn, Prints}
use Rattle.language.proofs.Readings.{reading_of, reading-right, one-reads}
use Rattle.language.proofs.Tables.{table_of, table-right, one_table}

-- ---- computed

abbrev pub yield_from : Source → Option (List State) → Answer (Source × Table)
yield_from s none = refuses 11 0
yield_from s (some L) = gives (s, table_of (program_of s) L)

abbrev pub yield_by : ℕ → Reading → Answer (Source × Table)
yield_by room (refused number place) = refuses number place
yield_by room (good s) = yield_from s (find same_state (machine_of (program_of s)) room)

unfoldable pub yield_of : ℕ → List ℕ → Answer (Source × Table)
yield_of room s = yield_by room (reading_of s)

abbrev pub listing : List ℕ → List ℕ
listing s = printed (yield_of most_states s)

-- ---- it is what the text yields

module _ (room : ℕ) (s : List ℕ) where
  from_right : (src : Source) → Reads s (good src) → (o : Option (List State)) → Answers (machine_of (program_of src)) room o → Yields room s (yield_from src o)
  from_right src x none t = many x t
  from_right src x (some L) (u, h) = table x u h (table-right (program_of src) L u)

  by_right : (r : Reading) → Reads s r → Yields room s (yield_by room r)
  by_right (refused number place) x = fault x
  by_right (good src) x = from_right src x (find same_state (machine_of (program_of src)) room) (find-answers same_state (machine_of (program_of src)) room)

  pub yield_right : Yields room s (yield_of room s)
  unfolding yield_of
  yield_right = by_right (reading_of s) (reading-right s)

-- ---- and nothing else is

same_source : (s t : Source) → good s ≡ good t → s ≡ t
same_source s t e = cc

same-refusal : (m n p q : ℕ) → refused m p ≡ refused n q → ◌≡◌ {A = Answer (Source × Table)} (refuses m p) (refuses n q)
same-refusal m n p q e = cc

not_refused : {A : Type 0} (src : Source) (number place : ℕ) → good src ≡ refused number place → A
not_refused src number place e = let z : ◌≡◌ {A = ℕ} 0 1 = cc in absurd (omega arith)

same-table : (src : Source) {L M : List State} (t v : Table) → Numbering (machine_of (program_of src)) L → Tabled (program_of src) L t → Numbering (machine_of (program_of src)) M → Tabled (program_of src) M v → t ≡ v
same-table src {L} {M} t v u a w b = one_table (program_of src) L u t v a (subst (λ (l : List State). Tabled (program_of src) l v) (one_numbering w u) b)

same_tables : (src other : Source) {L M : List State} (t v : Table) → src ≡ other → Numbering (machine_of (program_of src)) L → Tabled (program_of src) L t → Numbering (machine_of (program_of other)) M → Tabled (program_of other) M v
    → ◌≡◌ {A = Answer (Source × Table)} (gives (src, t)) (gives (other, v))
same_tables src other {L} {M} t v e u a = subst Same e (λ w b. ap (λ (r : Table). gives (src, r)) (same-table src t v u a w b))
  where
    Same : Source → Type 0
    Same o = Numbering (machine_of (program_of o)) M → Tabled (program_of o) M v → ◌≡◌ {A = Answer (Source × Table)} (gives (src, t)) (gives (o, v))

module _ {room : ℕ} {s : List ℕ} where
  too_many : {A : Type 0} {src other : Source} {L : List State} → Reads s (good src) → Reads s (good other) → TooMany (machine_of (program_of src)) room → Numbering (machine_of (program_of other)) L → length L ≤ room → A
  too_many {src = src} {other} x y t u h = absurd (not_both u h (subst (λ (v : Source). TooMany (machine_of (program_of v)) room) (same_source src other (one-reads s x y)) t))

  pub one_yield : {a b : Answer (Source × Table)} → Yields room s a → Yields room s b → a ≡ b
  one_yield (fault {number = m} {place = p} x) (fault {number = n} {place = q} y) = same-refusal m n p q (one-reads s x y)
  one_yield (fault {number = m} {place = p} x) (many {src = src} y t) = not_refused src m p (one-reads s y x)
  one_yield (fault {number = m} {place = p} x) (table {src = src} y u h a) = not_refused src m p (one-reads s y x)
  one_yield (many {src = src} x t) (fault {number = n} {place = q} y) = not_refused src n q (one-reads s x y)
  one_yield (many x t) (many y k) = refl
  one_yield (many x t) (table y u h a) = too_many x y t u h
  one_yield (table {src = src} x u h a) (fault {number = n} {place = q} y) = not_refused src n q (one-reads s x y)
  one_yield (table x u h a) (many y t) = too_many y x t u h
  one_yield (table {src = src} {t = t} x u h a) (table {src = other} {t = v} y w k b) = same_tables src other t v (same_source src other (one-reads s x y)) u a w b

  pub one_print : {out other : List ℕ} → PrintsIn room s out → PrintsIn room s other → out ≡ other
  one_print x y = x.is ∙ ap printed (one_yield x.yields y.yields) ∙ sym y.is

-- ---- the listing

pub prints_in : (room : ℕ) (s : List ℕ) → PrintsIn room s (printed (yield_of room s))
prints_in room s = record { answer = yield_of room s; yields = yield_right room s; is = refl }

pub listing_right : (s : List ℕ) → Prints s (listing s)
listing_right s = prints_in most_states s

module _ (s : List ℕ) where
  pub listing_refused : (number place : ℕ) → Reads s (refused number place) → listing s ≡ refusal_line number place
  listing_refused number place x = ap printed (one_yield (yield_right most_states s) (fault x))

  module _ (src : Source) (x : Reads s (good src)) where
    pub listing_many : TooMany (machine_of (program_of src)) most_states → listing s ≡ refusal_line 11 0
    listing_many t = ap printed (one_yield (yield_right most_states s) (many x t))

    pub listing_good : (L : List State) → Numbering (machine_of (program_of src)) L → length L ≤ most_states → (t : Table) → Tabled (program_of src) L t → listing s ≡ listing_of src t
    listing_good L u h t a = ap printed (one_yield (yield_right most_states s) (table x u h a))
