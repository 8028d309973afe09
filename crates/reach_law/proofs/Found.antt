-- The search answers for every room: the numbering where it fits, and else that the states are too many.
-- Assumes nothing.
use mathlib.Core.Path.{◌≡◌, refl, subst}
use mathlib.Core.Bool.{Bool, true, false}
use mathlib.Core.Option.{Option, none, some}
use mathlib.Core.List.{List, [], ◌∷◌, ◌++◌, Memᴰ}
use Prim.Native.Nat.{ℕ, zero, suc, ◌+◌, ◌<◌, ◌≤◌}
use lib.Dec.{ltb}
use lib.ListN.{length, get_or, length-append}
use borrow.Author.Tests.{ltb-true, ltb-false}
use native.Mathlib.Omega.{arith}
use Rattle.reach_law.specs.Machine.{Machine}
use Rattle.reach_law.specs.Count.{TooMany}
use Rattle.reach_law.specs.Numbering.{Answers}
use Rattle.reach_law.specs.Search.{number_of, meet, row, rows, find}
use Rattle.reach_law.proofs.Lists.{get_or_mem}
use Rattle.reach_law.proofs.Number.{number_is, number-new}
use Rattle.reach_law.proofs.Part.{Part, Row, part-start, no_room, row-start, row-known, row_new, row_over, row_done, part-done}

module _ {S : Type 0} (dec : (a b : S) → Dec (a ≡ b)) (m : Machine S) (room : ℕ) where
  -- what holds while state i, which is s, is looked at
  abbrev Looked : ℕ → ℕ → S → Option (List S) → Type 0
  Looked i x s none = TooMany m room
  Looked i x s (some L) = Row m L i x s × (length L ≤ room)

  meet_looked : {i x : ℕ} {s : S} (L : List S) → Looked i x s (some L) → x < m.inputs → Looked i (x + 1) s (meet dec m room L (m.step s x))
  unfolding meet
  meet_looked {i} {x} {s} L (r, fits) input = known (ltb (number_of dec L t) (length L)) refl
    where
      t : S
      t = m.step s x

      added : ¬ Memᴰ t L → (b : Bool) → ltb (length L) room ≡ b → Looked i (x + 1) s (elim b [ true ↦ some (L ++ (t ∷ [])) | false ↦ none ])
      added new true e = (row_new r input new, omega (arith, ltb-true, length-append L (t ∷ [])))
      added new false e = row_over r input new (ltb-false (length L) room e)

      known : (b : Bool) → ltb (number_of dec L t) (length L) ≡ b
          → Looked i (x + 1) s (elim b [ true ↦ some L | false ↦ elim (ltb (length L) room) [ true ↦ some (L ++ (t ∷ [])) | false ↦ none ] ])
      known true e =
          let h : number_of dec L t < length L = ltb-true (number_of dec L t) (length L) e in
          (row-known r (rw (number_is dec L t m.start h) at (get_or_mem L (number_of dec L t) m.start h)), fits)
      known false e = added (number-new dec L t (ltb-false (number_of dec L t) (length L) e)) (ltb (length L) room) refl

  row_looked : {i : ℕ} {s : S} (k x : ℕ) (L : List S) → Looked i x s (some L) → k + x ≡ m.inputs → Looked i m.inputs s (row dec m room k x s L)
  unfolding row
  row_looked {i} {s} zero x L r e = let all : x ≡ m.inputs = omega arith in subst (λ (y : ℕ). Looked i y s (some L)) all r
  row_looked {i} {s} (suc k) x L r e =
      go (λ M q. row_looked k (x + 1) M q (omega arith)) (meet dec m room L (m.step s x)) (meet_looked L r (omega arith))
    where
      go : ((M : List S) → Looked i (x + 1) s (some M) → Looked i m.inputs s (row dec m room k (x + 1) s M))
          → (o : Option (List S)) → Looked i (x + 1) s o → Looked i m.inputs s (elim o [ none ↦ none | some M ↦ row dec m room k (x + 1) s M ])
      go next none q = q
      go next (some M) q = next M q

  rows-answer : (f i : ℕ) (L : List S) → Part m L i 0 → length L ≤ room → f + i ≡ room → Answers m room (rows dec m room f i L)
  unfolding rows
  rows-answer zero i L p fits e = (part-done p (omega arith), fits)
  rows-answer (suc f) i L p fits e = go (λ M q k. rows-answer f (i + 1) M q k (omega arith)) (ltb i (length L)) refl
    where
      s : S
      s = get_or L i m.start

      after : ((M : List S) → Part m M (i + 1) 0 → length M ≤ room → Answers m room (rows dec m room f (i + 1) M))
          → (o : Option (List S)) → Looked i m.inputs s o → Answers m room (elim o [ none ↦ none | some M ↦ rows dec m room f (i + 1) M ])
      after next none q = q
      after next (some M) (q, k) = next M (row_done q (omega arith)) k

      go : ((M : List S) → Part m M (i + 1) 0 → length M ≤ room → Answers m room (rows dec m room f (i + 1) M)) → (b : Bool) → ltb i (length L) ≡ b
          → Answers m room (elim b [ true ↦ elim (row dec m room m.inputs 0 s L) [ none ↦ none | some M ↦ rows dec m room f (i + 1) M ] | false ↦ some L ])
      go next true b = after next (row dec m room m.inputs 0 s L) (row_looked m.inputs 0 L (row-start p (ltb-true i (length L) b), fits) (omega arith))
      go next false b = (part-done p (ltb-false i (length L) b), fits)

  pub find-answers : Answers m room (find dec m room)
  unfolding find
  find-answers = go (ltb 0 room) refl
    where
      go : (b : Bool) → ltb 0 room ≡ b → Answers m room (elim b [ true ↦ rows dec m room room 0 (m.start ∷ []) | false ↦ none ])
      go true e = rows-answer room 0 (m.start ∷ []) part-start (ltb-true 0 room e) (omega arith)
      go false e = let z : room ≡ 0 = omega (arith, ltb-false) in rw z no_room
