-- What the code's buffer holds.
-- Assumes nothing.
use Rattle.std.specs.Prelude.{◌≡◌, ℕ, true, ◌-◌, cond, List, ◌++◌, length, take, replicate}
use Rattle.std.specs.Int.Bits.{bit_or}
use Rattle.meaning.specs.Clock.{Outcome, Branch}
use Rattle.runs.specs.declared.Entry.{Entry}
use Rattle.runs.specs.declared.How.{How}
use Rattle.runs.specs.declared.Buffer.{Buffer}
use Rattle.runs.specs.Run.{empty, Clear, Run, run, embed, is_waiting, join_from}

-- what ended as h has tries only where it waits
abbrev pub gathers : ℕ → ℕ → How → ℕ
gathers have new h = cond (is_waiting h) (bit_or have new) have

-- the buffer l and the ending r hold x, with the mask q
pub record Holds (x : Run) (q : ℕ) (l : Buffer) (r : How) : Type 0 where
  pub long : length l.entries ≡ 8
  pub how : r ≡ x.how
  pub entries : l.entries ≡ x.entries
  pub tries : is_waiting r ≡ true → (l.ones ≡ x.ones) × (l.zeros ≡ x.zeros)
  pub mask : l.looked ≡ q

-- what ran over the buffer l came to o, and looked at those input bits: now the buffer is k
pub record Comes (o : Outcome) (looks b : ℕ) (l k : Buffer) (r : How) : Type 0 where
  pub holds : Holds (embed o b l.entries) (bit_or l.looked looks) k r

-- the input bits m were looked at
pub record Looked (m : ℕ) (l k : Buffer) : Type 0 where
  pub long : length k.entries ≡ 8
  pub entries : k.entries ≡ l.entries
  pub mask : k.looked ≡ bit_or l.looked m

-- nothing stands from b on
pub record Open (l : Buffer) (b : ℕ) : Type 0 where
  pub long : length l.entries ≡ 8
  pub clear : Clear l.entries b

-- the first b of eight entries
unfoldable pub wiped : ℕ → List Entry → List Entry
wiped b es = take b es ++ replicate (8 - b) empty

-- only those are left
pub record Wiped (b : ℕ) (l k : Buffer) : Type 0 where
  pub long : length k.entries ≡ 8
  pub entries : k.entries ≡ wiped b l.entries
  pub mask : k.looked ≡ l.looked

-- branches ran over the buffer l, after those that ended as `how` and tried `ones` and `zeros`; a jump leaves only the entries
-- before `base`
pub record Joins (base : ℕ) (how : How) (ones zeros b : ℕ) (bs : List Branch) (seen : ℕ) (l k : Buffer) (r : How) : Type 0 where
  pub holds : Holds (join_from (wiped base l.entries) (run how l.entries ones zeros) b bs) (bit_or l.looked seen) k r
