-- The sizes that count, said against a count: so many inputs, outputs, bits, statements and parts at most, each number once more, exactly.
-- Assumes nothing.
use mathlib.Core.Path.{◌≡◌, refl, ap, ap₂}
use mathlib.Core.Bool.{Bool, true, false}
use mathlib.Core.List.{List, [], ◌∷◌, ◌++◌, map}
use Prim.Native.Nat.{ℕ, zero, suc, ◌+◌, ◌≤◌}
use native.Mathlib.Omega.{arith}
use lib.Dec.{ltb}
use borrow.Author.Tests.{ltb-true}
use lib.ListN.{length, drop, length-append, length-drop, length-map}
use Rattle.meaning.specs.Tree.{Name, Expr, literal, truth, variable, bit, not, int, arithmetic, comparison, logic, Stmt, skip, delay, change, assign, choice, while, loop, exit, break, switch, parallel, Stmts, end, ◌⨾◌, Cases, default, case, Branches, none, ◌∥◌}
use Rattle.meaning.specs.Declared.{Declaration, inputs, outputs, internals, integers, Source, name_of, input_count, output_count}
use Rattle.meaning.specs.Items.{Item, items, items_all, items_cases, items_each, within, own, parts_of, place_of}
use Rattle.meaning.specs.Names.{gather, when}
use Rattle.meaning.specs.Sizes.{bits_of, bits_from, input_places, output_places, statement_place, width_fault, item_size, size_faults}
use Rattle.meaning.proofs.Declared.{other_count, bit_count, bits-two, bits_most}
use Rattle.meaning.proofs.Sizes.{sized}

-- ---- counts over the tree

unfoldable mutual
  pub statements_in : Stmt Name → ℕ
  statements_in (skip h) = 1
  statements_in (delay h p n) = 1
  statements_in (change h c t) = 1
  statements_in (assign h v e) = 1
  statements_in (choice h e a b) = suc (statements_all a + statements_all b)
  statements_in (while h e b) = suc (statements_all b)
  statements_in (loop h b) = suc (statements_all b)
  statements_in (exit h) = 1
  statements_in (break h) = 1
  statements_in (switch h cs) = suc (statements_cases cs)
  statements_in (parallel h bs) = suc (statements_each bs)

  pub statements_all : Stmts Name → ℕ
  statements_all end = 0
  statements_all (s ⨾ ss) = statements_in s + statements_all ss

  pub statements_cases : Cases Name → ℕ
  statements_cases (default d) = statements_all d
  statements_cases (case h e b cs) = statements_all b + statements_cases cs

  pub statements_each : Branches Name → ℕ
  statements_each none = 0
  statements_each (b ∥ bs) = statements_all b + statements_each bs

unfoldable pub parts_in : Expr Name → ℕ
parts_in (literal p n) = 1
parts_in (truth p b) = 1
parts_in (variable v) = 1
parts_in (bit v j) = 1
parts_in (not p e) = suc (parts_in e)
parts_in (int p e) = suc (parts_in e)
parts_in (arithmetic o p a b) = suc (parts_in a + parts_in b)
parts_in (comparison o p a b) = suc (parts_in a + parts_in b)
parts_in (logic o p a b) = suc (parts_in a + parts_in b)

unfoldable mutual
  pub parts_stmt : Stmt Name → ℕ
  parts_stmt (skip h) = 0
  parts_stmt (delay h p n) = 0
  parts_stmt (change h c t) = 0
  parts_stmt (assign h v e) = parts_in e
  parts_stmt (choice h e a b) = parts_in e + (parts_all a + parts_all b)
  parts_stmt (while h e b) = parts_in e + parts_all b
  parts_stmt (loop h b) = parts_all b
  parts_stmt (exit h) = 0
  parts_stmt (break h) = 0
  parts_stmt (switch h cs) = parts_cases cs
  parts_stmt (parallel h bs) = parts_each bs

  pub parts_all : Stmts Name → ℕ
  parts_all end = 0
  parts_all (s ⨾ ss) = parts_stmt s + parts_all ss

  pub parts_cases : Cases Name → ℕ
  parts_cases (default d) = parts_all d
  parts_cases (case h e b cs) = parts_in e + (parts_all b + parts_cases cs)

  pub parts_each : Branches Name → ℕ
  parts_each none = 0
  parts_each (b ∥ bs) = parts_all b + parts_each bs

-- ---- they are the lengths of the lists

abbrev count : List Item → ℕ
count is = length (gather statement_place is)

count-append : (a b : List Item) → count (a ++ b) ≡ count a + count b
unfolding gather
count-append [] b = omega arith
count-append (i ∷ a) b = omega (arith, count-append a b, length-append (statement_place i) (gather statement_place a), length-append (statement_place i) (gather statement_place (a ++ b)))

mutual
  unfolding statements_in items gather

  counted : (s : Stmt Name) → count (items s) ≡ statements_in s
  counted (skip h) = refl
  counted (delay h p n) = refl
  counted (change h c t) = refl
  counted (assign h v e) = refl
  counted (choice h e a b) = omega (arith, count-append (items_all a) (items_all b), counted-all a, counted-all b)
  counted (while h e b) = ap suc (counted-all b)
  counted (loop h b) = ap suc (counted-all b)
  counted (exit h) = refl
  counted (break h) = refl
  counted (switch h cs) = ap suc (counted_cases cs)
  counted (parallel h bs) = ap suc (counted-each bs)

  counted-all : (ss : Stmts Name) → count (items_all ss) ≡ statements_all ss
  counted-all end = refl
  counted-all (s ⨾ ss) = omega (arith, count-append (items s) (items_all ss), counted s, counted-all ss)

  counted_cases : (cs : Cases Name) → count (items_cases cs) ≡ statements_cases cs
  counted_cases (default d) = counted-all d
  counted_cases (case h e b cs) = omega (arith, count-append (items_all b) (items_cases cs), counted-all b, counted_cases cs)

  counted-each : (bs : Branches Name) → count (items_each bs) ≡ statements_each bs
  counted-each none = refl
  counted-each (b ∥ bs) = omega (arith, count-append (items_all b) (items_each bs), counted-all b, counted-each bs)

within-counted : (e : Expr Name) → length (within e) ≡ parts_in e
unfolding within parts_in
within-counted (literal p n) = refl
within-counted (truth p b) = refl
within-counted (variable v) = refl
within-counted (bit v j) = refl
within-counted (not p e) = ap suc (within-counted e)
within-counted (int p e) = ap suc (within-counted e)
within-counted (arithmetic o p a b) = omega (arith, length-append (within a) (arithmetic o p a b ∷ within b), within-counted a, within-counted b)
within-counted (comparison o p a b) = omega (arith, length-append (within a) (comparison o p a b ∷ within b), within-counted a, within-counted b)
within-counted (logic o p a b) = omega (arith, length-append (within a) (logic o p a b ∷ within b), within-counted a, within-counted b)

abbrev parts : List Item → ℕ
parts is = length (parts_of is)

parts-append : (a b : List Item) → parts (a ++ b) ≡ parts a + parts b
unfolding parts_of
parts-append [] b = omega arith
parts-append (i ∷ a) b = omega (arith, parts-append a b, length-append (own i) (parts_of a), length-append (own i) (parts_of (a ++ b)))

mutual
  unfolding parts_stmt items parts_of

  parted : (s : Stmt Name) → parts (items s) ≡ parts_stmt s
  parted (skip h) = refl
  parted (delay h p n) = refl
  parted (change h c t) = refl
  parted (assign h v e) = omega (arith, length-append (within e) [], within-counted e)
  parted (choice h e a b) = omega (arith, length-append (within e) (parts_of (items_all a ++ items_all b)), within-counted e, parts-append (items_all a) (items_all b), parted-all a, parted-all b)
  parted (while h e b) = omega (arith, length-append (within e) (parts_of (items_all b)), within-counted e, parted-all b)
  parted (loop h b) = parted-all b
  parted (exit h) = refl
  parted (break h) = refl
  parted (switch h cs) = parted_cases cs
  parted (parallel h bs) = parted-each bs

  parted-all : (ss : Stmts Name) → parts (items_all ss) ≡ parts_all ss
  parted-all end = refl
  parted-all (s ⨾ ss) = omega (arith, parts-append (items s) (items_all ss), parted s, parted-all ss)

  parted_cases : (cs : Cases Name) → parts (items_cases cs) ≡ parts_cases cs
  parted_cases (default d) = parted-all d
  parted_cases (case h e b cs) = omega (arith, length-append (within e) (parts_of (items_all b ++ items_cases cs)), within-counted e, parts-append (items_all b) (items_cases cs), parted-all b, parted_cases cs)

  parted-each : (bs : Branches Name) → parts (items_each bs) ≡ parts_each bs
  parted-each none = refl
  parted-each (b ∥ bs) = omega (arith, parts-append (items_all b) (items_each bs), parted-all b, parted-each bs)

inputs-counted : (ds : List Declaration) → length (gather input_places ds) ≡ input_count ds
unfolding gather input_count
inputs-counted [] = refl
inputs-counted (inputs n e ∷ ds) = omega (arith, inputs-counted ds)
inputs-counted (outputs n e b ∷ ds) = omega (arith, inputs-counted ds)
inputs-counted (internals n e b ∷ ds) = omega (arith, inputs-counted ds)
inputs-counted (integers n p w v ∷ ds) = omega (arith, inputs-counted ds)

outputs-counted : (ds : List Declaration) → length (gather output_places ds) ≡ output_count ds
unfolding gather output_count
outputs-counted [] = refl
outputs-counted (inputs n e ∷ ds) = omega (arith, outputs-counted ds)
outputs-counted (outputs n e b ∷ ds) = omega (arith, outputs-counted ds)
outputs-counted (internals n e b ∷ ds) = omega (arith, outputs-counted ds)
outputs-counted (integers n p w v ∷ ds) = omega (arith, outputs-counted ds)

-- ---- none too many, exactly if at most so many

dropped_none : {A : Type 0} (n : ℕ) (l : List A) → drop n l ≡ [] → length l ≤ n
dropped_none n l e = omega (arith, ap length e, length-drop n l)

none_dropped : {A : Type 0} (n : ℕ) (l : List A) → length l ≤ n → drop n l ≡ []
none_dropped zero [] h = refl
none_dropped zero (x ∷ l) h = absurd (omega arith)
none_dropped (suc n) [] h = refl
none_dropped (suc n) (x ∷ l) h = none_dropped n l (omega arith)

bits_none : (before : ℕ) (ds : List Declaration) → before + bit_count ds ≤ 32 → bits_from before ds ≡ []
unfolding output_count other_count bits_from
bits_none before [] h = refl
bits_none before (d ∷ ds) h = ap₂ ◌++◌ (quiet (ltb 32 (before + bits_of d)) refl) (bits_none (before + bits_of d) ds (omega (arith, bits-two d)))
  where
    quiet : (b : Bool) → ltb 32 (before + bits_of d) ≡ b → when b (name_of d).place ≡ []
    quiet true e = absurd (omega (arith, bits-two d, ltb-true 32 (before + bits_of d) e))
    quiet false e = refl

pub record AtMost (s : Source) : Type 0 where
  pub inputs : input_count s.declared ≤ 6
  pub outputs : output_count s.declared ≤ 16
  pub bits : bit_count s.declared ≤ 32
  pub statements : statements_all s.body ≤ 255
  pub parts : parts_all s.body ≤ 1024

pub at_most : (s : Source) → size_faults s ≡ [] → AtMost s
at_most s e =
    let z = sized s e in
    record {
      inputs = omega (arith, dropped_none 6 (gather input_places s.declared) z.inputs, inputs-counted s.declared);
      outputs = omega (arith, dropped_none 16 (gather output_places s.declared) z.outputs, outputs-counted s.declared);
      bits = bits_most s.declared z.bits;
      statements = omega (arith, dropped_none 255 (gather statement_place (items_all s.body)) z.statements, counted-all s.body);
      parts = omega (arith, dropped_none 1024 (map place_of (parts_of (items_all s.body))) z.parts, length-map (parts_of (items_all s.body)) place_of, parted-all s.body);
    }

-- the other sizes are looked at one by one: widths, delays, parallels
pub none_passed : (s : Source) → AtMost s → gather width_fault s.declared ≡ [] → gather item_size (items_all s.body) ≡ [] → size_faults s ≡ []
unfolding size_faults
none_passed s m w i =
    ap₂ ◌++◌ (none_dropped 6 (gather input_places s.declared) (omega (arith, m.inputs, inputs-counted s.declared)))
    (ap₂ ◌++◌ (none_dropped 16 (gather output_places s.declared) (omega (arith, m.outputs, outputs-counted s.declared)))
    (ap₂ ◌++◌ (bits_none 0 s.declared (omega (arith, m.bits)))
    (ap₂ ◌++◌ w
    (ap₂ ◌++◌ (none_dropped 255 (gather statement_place (items_all s.body)) (omega (arith, m.statements, counted-all s.body)))
    (ap₂ ◌++◌ (none_dropped 1024 (map place_of (parts_of (items_all s.body))) (omega (arith, m.parts, length-map (parts_of (items_all s.body)) place_of, parted-all s.body)))
    i)))))
