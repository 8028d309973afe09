-- Outcomes with the entries put into eight of them, from the statement's first on.
-- Assumes nothing.
use Rattle.std.specs.Prelude.{◌≡◌, ℕ, zero, suc, ◌+◌, ◌≤◌, Bool, true, false, cond, List, [], ◌∷◌, map, leb, ltb, get_or, set, take, drop}
use Rattle.std.specs.Int.Bits.{bit_or}
use Rattle.meaning.specs.Tries.{without}
use Rattle.meaning.specs.Clock.{Outcome, finishes, jumps, waits, done, stands, Jump, Branch, out, off, nowhere, at}
use Rattle.meaning.specs.Clock as clock
use Rattle.runs.specs.declared.Entry.{Entry}
use Rattle.runs.specs.declared.How.{How}
use Rattle.runs.specs.declared.How.TheVariants.{Finished, Exit, Break, Waits, Stands}

-- ---- entries

abbrev pub empty : Entry
empty = record { place = 0; left = 0 }

abbrev pub entry_of : clock.Entry → Entry
entry_of nowhere = empty
entry_of (at n k) = record { place = n + 1; left = k }

abbrev pub entry_by : ℕ → ℕ → clock.Entry
entry_by zero k = nowhere
entry_by (suc n) k = at n k

abbrev pub entry_from : Entry → clock.Entry
entry_from x = entry_by x.place x.left

-- the entries of w activities from b on
abbrev pub window : List Entry → ℕ → ℕ → List clock.Entry
window es b w = map entry_from (take w (drop b es))

unfoldable pub put : List Entry → ℕ → List clock.Entry → List Entry
put es b [] = es
put es b (x ∷ xs) = put (set es b (entry_of x)) (b + 1) xs

-- nothing stands from b on
pub record Clear (es : List Entry) (b : ℕ) : Type 0 where
  pub clear : (k : ℕ) → b ≤ k → get_or es k empty ≡ empty

-- the number of no statement
abbrev pub none : ℕ
none = 65535

abbrev pub closer : Bool → ℕ → ℕ → ℕ
closer true n m = n
closer false n m = m

abbrev pub least_of : clock.Entry → ℕ → ℕ → ℕ
least_of nowhere i m = m
least_of (at n k) i m = closer (cond (leb i n) (ltb n m) false) n m

-- the least number from i on where one of the activities stands, or m
unfoldable pub least_from : List clock.Entry → ℕ → ℕ → ℕ
least_from [] i m = m
least_from (x ∷ xs) i m = least_of x i (least_from xs i m)

abbrev pub least : List clock.Entry → ℕ → ℕ
least xs i = least_from xs i none

-- ---- outcomes

pub record Run : Type 0 where
  pub how : How
  pub entries : List Entry
  pub ones : ℕ
  pub zeros : ℕ

abbrev pub run : How → List Entry → ℕ → ℕ → Run
run h es o z = record { entries = es; ones = o; zeros = z; how = h }

abbrev pub jump_how : Jump → How
jump_how out = Exit
jump_how off = Break

abbrev pub embed : Outcome → ℕ → List Entry → Run
embed finishes b es = run Finished es 0 0
embed (jumps j) b es = run (jump_how j) es 0 0
embed (waits t done) b es = run Waits es t.ones t.zeros
embed (waits t (stands xs)) b es = run Stands (put es b xs) t.ones t.zeros

-- it waits, and stands at the number n then
abbrev pub stand_run : Run → ℕ → ℕ → Run
stand_run r b n = run Stands (set r.entries b (entry_of (at n 0))) r.ones r.zeros

-- the rest, from m to e, comes next
abbrev pub then_by : How → Run → ℕ → ℕ → ℕ → Run
then_by Finished r b m e = r
then_by Exit r b m e = r
then_by Break r b m e = r
then_by Waits r b m e = cond (ltb m e) (stand_run r b m) r
then_by Stands r b m e = r

abbrev pub then_run : Run → ℕ → ℕ → ℕ → Run
then_run r b m e = then_by r.how r b m e

abbrev pub looped_by : How → Run → ℕ → ℕ → Run
looped_by Finished r b n = stand_run (run Waits r.entries 0 0) b n
looped_by Exit r b n = run Finished r.entries r.ones r.zeros
looped_by Break r b n = r
looped_by Waits r b n = stand_run r b n
looped_by Stands r b n = r

abbrev pub looped_run : Run → ℕ → ℕ → Run
looped_run r b n = looped_by r.how r b n

abbrev pub caught_by : How → How
caught_by Finished = Finished
caught_by Exit = Exit
caught_by Break = Finished
caught_by Waits = Waits
caught_by Stands = Stands

abbrev pub caught_run : Run → Run
caught_run r = run (caught_by r.how) r.entries r.ones r.zeros

-- ---- branches

-- the one that comes last in their order
abbrev pub latest : How → How → How
latest Finished k = k
latest Exit Finished = Exit
latest Exit Exit = Exit
latest Exit Break = Break
latest Exit Waits = Waits
latest Exit Stands = Stands
latest Break Finished = Break
latest Break Exit = Break
latest Break Break = Break
latest Break Waits = Waits
latest Break Stands = Stands
latest Waits Finished = Waits
latest Waits Exit = Waits
latest Waits Break = Waits
latest Waits Waits = Waits
latest Waits Stands = Stands
latest Stands k = Stands

abbrev pub merged_run : Run → Run → Run
merged_run r s = run (latest r.how s.how) s.entries (bit_or r.ones s.ones) (bit_or r.zeros s.zeros)

abbrev pub closed_run : Run → Run
closed_run r = run r.how r.entries (without r.ones r.zeros) (without r.zeros r.ones)

abbrev pub is_jump : How → Bool
is_jump Finished = false
is_jump Exit = true
is_jump Break = true
is_jump Waits = false
is_jump Stands = false

-- its tries count
abbrev pub is_waiting : How → Bool
is_waiting Finished = false
is_waiting Exit = false
is_waiting Break = false
is_waiting Waits = true
is_waiting Stands = true

abbrev pub jump_or_by : How → List Entry → Run → Run
jump_or_by h es next = cond (is_jump h) (run h es 0 0) next

-- the branches one after the other, over what those before them came to
unfoldable pub join_from : List Entry → Run → ℕ → List Branch → Run
join_from es r b [] = closed_run r
join_from es r b (x ∷ xs) =
    jump_or_by (embed x.outcome b r.entries).how es
    (join_from es (merged_run r (embed x.outcome b r.entries)) (b + x.wide) xs)
