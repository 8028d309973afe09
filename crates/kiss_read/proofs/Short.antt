-- A refused place lies inside some written text, and those are short: its number fits.
-- Assumes nothing.
use mathlib.Core.Path.{ap}
use mathlib.Core.List.{List, [], ◌∷◌}
use Prim.Native.Nat.{ℕ, suc, ◌*◌, ◌^◌, ◌≤◌}
use native.Mathlib.Nat.{mul-le-mul_right, suc-mul}
use native.Mathlib.Omega.{arith}
use lib.ListN.{length, take, length-append}
use lib.Seq.{length-take-le}
use lib.Pow.{pow_mono}
use Rattle.file_law.specs.Answer.{refuses}
use Rattle.file_law.specs.Table.{Row, Table, Fits}
use Rattle.kiss_law.specs.Text.{heading, state_rows, all_rows, text_of}
use Rattle.kiss_law.specs.Kiss.{Stops, KissReads}
use Rattle.kiss_law.specs.Kiss as kiss
use Rattle.kiss_law.proofs.Decimal.{length-decimal}
use Rattle.kiss_law.proofs.Rows.{Each, RowGood, rows-good}
use Rattle.kiss_put.proofs.Puts.{rows-most, length-line}

module _ (k o n : ℕ) (hk : k ≤ 6) (ho : o ≤ 16) where
  short-rows : (state : ℕ) (rs : List Row) → Each (RowGood k o n) rs → length (all_rows k o state rs) ≤ length rs * 2432
  unfolding all_rows
  short-rows state [] g = omega arith
  short-rows state (r ∷ rs) g =
      let p : 2 ^ k ≤ 64 = pow_mono {j = 6} hk in
      omega (arith, suc-mul (length rs) 2432, short-rows (suc state) rs g.1, g.0.wide, rows-most k o state r.outputs hk ho 0 r.nexts, length-append (state_rows k o state r.outputs 0 r.nexts) (all_rows k o (suc state) rs))

text-short : (t : Table) → Fits t → length (text_of t) ≤ 700000
unfolding text_of heading
text-short t f =
    let k = t.inputs in
    let o = t.outputs in
    let n = length t.rows in
    let p : n * 2432 ≤ 256 * 2432 = mul-le-mul_right 2432 f.states in
    simp length-append (omega (arith, short-rows k o n f.inputs f.outputs 0 t.rows (rows-good t f), length-line 105 k, length-line 111 o, length-line 112 (n * 2 ^ k), length-line 115 n, length-decimal 5 k, length-decimal 5 o, length-decimal 5 (n * 2 ^ k), length-decimal 5 n))

place_short : (x : List ℕ) (place : ℕ) → Stops x place → place ≤ 700000
place_short x place s =
    let w = s.before.text in
    let e = ap length w.is in
    omega (arith, length-take-le place x s.inside, length-append (take place x) s.before.rest, text-short w.table w.writable.fits)

pub code_fits : {x l after : List ℕ} {number place : ℕ} → KissReads x l (refuses number place) after → (number ≤ 15) × (place ≤ 700000)
code_fits {x} (kiss.KissReads.fifteen {place = place} s) = (omega arith, place_short x place s)
code_fits (kiss.KissReads.twelve w h) = (omega arith, omega arith)
