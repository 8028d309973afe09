-- Writing and reading have one answer, and one buffer, for whatever is lent.
-- Assumes nothing.
use mathlib.Core.Path.{◌≡◌, refl, sym, ap, ◌∙◌, subst}
use mathlib.Core.Logic.{◌↔◌, ◌⊎◌, inl, inr}
use mathlib.Core.List.{List, ◌++◌, append_assoc}
use Prim.Native.Nat.{ℕ, suc, ◌/◌, ◌<◌}
use native.Mathlib.Omega.{arith}
use native.Mathlib.Decide.{dec_lt}
use lib.ListN.{length, take, drop, take-append-drop}
use lib.Seq.{take-take}
use Rattle.file_law.specs.Answer.{Answer, gives, refuses}
use Rattle.file_law.specs.Table.{Table}
use Rattle.file_law.specs.Reading.{Sizes, open_answer}
use Rattle.file_law.proofs.Answers.{never}
use Rattle.kiss_law.specs.Kiss.{no_text, short_buffer, laid, Wired, KissWrites, Written, Continues, Stops, table_file, KissReads}
use Rattle.kiss_law.specs.Kiss as kiss
use Rattle.kiss_law.proofs.Unique.{one_table}

-- an answer and a buffer, side by side
abbrev pub Ends : Type 0
Ends = Answer ℕ × List ℕ

-- ---- writing

module _ (file buffer : List ℕ) where
  one-sizes : {z y : Sizes} → open_answer file ≡ gives z → open_answer file ≡ gives y → z ≡ y
  one-sizes {z} {y} p q = cc

  not_both : {A : Type 0} {z : Sizes} {number place : ℕ} → open_answer file ≡ gives z → open_answer file ≡ refuses number place → A
  not_both {z = z} {number = number} {place = place} p q = let c : ◌≡◌ {A = ℕ} 0 1 = cc in absurd (omega arith)

  not_wired : {A : Type 0} {z y : Sizes} → open_answer file ≡ gives z → open_answer file ≡ gives y → Wired z → (y.inputs ≡ 0) ⊎ (y.outputs ≡ 0) → A
  not_wired p q w (inl e) = let s = ap (λ (x : Sizes). x.inputs) (one-sizes p q) in absurd (omega (arith, w.inputs))
  not_wired p q w (inr e) = let s = ap (λ (x : Sizes). x.outputs) (one-sizes p q) in absurd (omega (arith, w.outputs))

  pub one_written : {a b : Answer ℕ} {x y : List ℕ} → KissWrites file buffer a x → KissWrites file buffer b y → ◌≡◌ {A = Ends} (a, x) (b, y)
  one_written (kiss.KissWrites.broken {number = n} {place = e} p) (kiss.KissWrites.broken {number = m} {place = d} q) =
      let r : n ≡ m = cc in
      let s : e ≡ d = cc in
      λ i. (refuses (r i) (s i), buffer)
  one_written (kiss.KissWrites.broken p) (kiss.KissWrites.fifteen q h) = not_both q p
  one_written (kiss.KissWrites.broken p) (kiss.KissWrites.twelve q w h) = not_both q p
  one_written (kiss.KissWrites.broken p) (kiss.KissWrites.made q w h) = not_both q p
  one_written (kiss.KissWrites.fifteen p h) (kiss.KissWrites.broken q) = not_both p q
  one_written (kiss.KissWrites.fifteen p h) (kiss.KissWrites.fifteen q g) = refl
  one_written (kiss.KissWrites.fifteen p h) (kiss.KissWrites.twelve q w g) = not_wired q p w h
  one_written (kiss.KissWrites.fifteen p h) (kiss.KissWrites.made q w g) = not_wired q p w h
  one_written (kiss.KissWrites.twelve p w h) (kiss.KissWrites.broken q) = not_both p q
  one_written (kiss.KissWrites.twelve p w h) (kiss.KissWrites.fifteen q g) = not_wired p q w g
  one_written (kiss.KissWrites.twelve p w h) (kiss.KissWrites.twelve q v g) = refl
  one_written (kiss.KissWrites.twelve p w h) (kiss.KissWrites.made q v g) = absurd (omega arith)
  one_written (kiss.KissWrites.made p w h) (kiss.KissWrites.broken q) = not_both p q
  one_written (kiss.KissWrites.made p w h) (kiss.KissWrites.fifteen q g) = not_wired p q w g
  one_written (kiss.KissWrites.made p w h) (kiss.KissWrites.twelve q v g) = absurd (omega arith)
  one_written (kiss.KissWrites.made p w h) (kiss.KissWrites.made q v g) = refl

  -- what is broken in the file is told as opening tells it, and nothing else is told with such a number
  pub passed_on : (number place : ℕ) → no_text < number → KissWrites file buffer (refuses number place) buffer ↔ (open_answer file ≡ refuses number place)
  passed_on number place h = ((λ w. of w refl), (λ e. kiss.KissWrites.broken e))
    where
      of : {a : Answer ℕ} {x : List ℕ} → KissWrites file buffer a x → a ≡ refuses number place → open_answer file ≡ refuses number place
      of (kiss.KissWrites.broken {number = m} {place = p} q) e = q ∙ (let r : m ≡ number = cc in let s : p ≡ place = cc in λ i. refuses (r i) (s i))
      of (kiss.KissWrites.fifteen q w) e = let r : no_text ≡ number = cc in absurd (omega arith)
      of (kiss.KissWrites.twelve q w l) e = let r : short_buffer ≡ number = cc in absurd (omega arith)
      of (kiss.KissWrites.made q w l) e = absurd (never e)

-- ---- reading

-- what a longer text continues, a shorter one does
pub continues_shorter : (s r : List ℕ) → Continues (s ++ r) → Continues s
continues_shorter s r c = record { rest = r ++ c.rest; text = subst Written (append_assoc s r c.rest) c.text }

module _ (text : List ℕ) where
  earlier : (e d : ℕ) → Stops text e → Stops text d → e < d → ⊥
  earlier e d p q h =
      let s = take (suc e) (take d text) in
      let r = drop (suc e) (take d text) in
      let j : s ++ r ≡ take d text = take-append-drop (suc e) (take d text) in
      let c = continues_shorter s r (subst Continues (sym j) q.before) in
      p.first (omega (arith, q.inside)) (subst Continues (take-take (suc e) d text h) c)

  -- a text that is refused is refused at one place
  pub one_place : (e d : ℕ) → Stops text e → Stops text d → e ≡ d
  one_place e d p q = at (dec_lt e d) (dec_lt d e)
    where
      at : Dec (e < d) → Dec (d < e) → e ≡ d
      at (yes h) g = absurd (earlier e d p q h)
      at (no h) (yes g) = absurd (earlier d e q p g)
      at (no h) (no g) = omega arith

  pub same-written : (w v : Written text) → w.table ≡ v.table
  same-written w v = one_table w.table v.table w.writable v.writable (sym w.is ∙ v.is)

  same_size : (w v : Written text) → length (table_file w.table) ≡ length (table_file v.table)
  same_size w v = ap (λ (t : Table). length (table_file t)) (same-written w v)

  pub one-read : (buffer : List ℕ) {a b : Answer ℕ} {x y : List ℕ} → KissReads text buffer a x → KissReads text buffer b y → ◌≡◌ {A = Ends} (a, x) (b, y)
  one-read buffer (kiss.KissReads.fifteen {place = e} p) (kiss.KissReads.fifteen {place = d} q) = let r = one_place e d p q in λ i. (refuses 15 (r i), buffer)
  one-read buffer (kiss.KissReads.fifteen p) (kiss.KissReads.twelve w h) = absurd (p.other w)
  one-read buffer (kiss.KissReads.fifteen p) (kiss.KissReads.made w h) = absurd (p.other w)
  one-read buffer (kiss.KissReads.twelve w h) (kiss.KissReads.fifteen p) = absurd (p.other w)
  one-read buffer (kiss.KissReads.twelve w h) (kiss.KissReads.twelve v g) = refl
  one-read buffer (kiss.KissReads.twelve w h) (kiss.KissReads.made v g) = let s = same_size w v in absurd (omega arith)
  one-read buffer (kiss.KissReads.made w h) (kiss.KissReads.fifteen p) = absurd (p.other w)
  one-read buffer (kiss.KissReads.made w h) (kiss.KissReads.twelve v g) = let s = same_size w v in absurd (omega arith)
  one-read buffer (kiss.KissReads.made w h) (kiss.KissReads.made v g) =
      let s = same-written w v in
      λ i. (gives (length (table_file (s i)) / 512), laid (table_file (s i)) buffer)
