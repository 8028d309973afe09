-- There are at most as many case tests as statements, so at most 510 nodes.
-- Assumes nothing.
use mathlib.Core.Path.{◌≡◌, ◌∙◌, ap}
use mathlib.Core.List.{List, [], ◌++◌, map}
use Prim.Native.Nat.{ℕ, ◌+◌, ◌*◌, ◌≤◌}
use native.Mathlib.Omega.{arith}
use lib.ListN.{length, length-append, drop, length-drop, length-map}
use Rattle.meaning.specs.Tree.{Name, Stmt, skip, delay, change, assign, choice, while, loop, exit, break, switch, parallel, Stmts, end, ◌⨾◌, Cases, default, case, Branches, none, ◌∥◌}
use Rattle.meaning.specs.Items.{Item, items, items_all, items_cases, items_each, parts_of, place_of}
use Rattle.meaning.specs.Names.{gather}
use Rattle.meaning.specs.Sizes.{most_statements, most_parts, statement_place}
use Rattle.expr_law.proofs.Least.{gather_append}
use Rattle.formed_law.proofs.Filled.{Some, Filled, FilledAll, FilledCases, FilledEach}

abbrev count : List Item → ℕ
count is = length (gather statement_place is)

count-append : (a b : List Item) → count (a ++ b) ≡ count a + count b
count-append a b = ap length (gather_append statement_place a b) ∙ length-append (gather statement_place a) (gather statement_place b)

-- a list: at most as many tests as statements, and fewer where there is a statement
record Lean (v : Stmts Name) : Type 0 where
  any : length (items_all v) ≤ 2 * count (items_all v)
  some : Some v → length (items_all v) + 1 ≤ 2 * count (items_all v)

mutual
  unfolding items gather Filled

  lean : (v : Stmt Name) → Filled v → length (items v) + 1 ≤ 2 * count (items v)
  lean (skip h) f = omega arith
  lean (delay h p n) f = omega arith
  lean (change h c t) f = omega arith
  lean (assign h v e) f = omega arith
  lean (choice h e a b) f =
      let x = lean_all a f.0 in
      let y = lean_all b f.1 in
      omega (arith, x.any, y.any, length-append (items_all a) (items_all b), count-append (items_all a) (items_all b))
  lean (while h e b) f = let x = lean_all b f in omega (arith, x.any)
  lean (loop h b) f = let x = lean_all b f in omega (arith, x.any)
  lean (exit h) f = omega arith
  lean (break h) f = omega arith
  lean (switch h cs) f = let x = lean_cases cs f in omega arith
  lean (parallel h bs) f = let x = lean_each bs f in omega arith

  lean_all : (v : Stmts Name) → FilledAll v → Lean v
  lean_all end f = record { any = omega arith; some = λ e. absurd e }
  lean_all (s ⨾ ss) f =
      let x = lean s f.0 in
      let y = lean_all ss f.1 in
      let a = length-append (items s) (items_all ss) in
      let b = count-append (items s) (items_all ss) in
      record { any = omega (arith, y.any); some = λ e. omega (arith, y.any) }

  lean_cases : (v : Cases Name) → FilledCases v → length (items_cases v) ≤ 2 * count (items_cases v)
  lean_cases (default d) f = (lean_all d f).any
  lean_cases (case h e b cs) f =
      let x = (lean_all b f.1.0).some f.0 in
      let y = lean_cases cs f.1.1 in
      omega (arith, length-append (items_all b) (items_cases cs), count-append (items_all b) (items_cases cs))

  lean_each : (v : Branches Name) → FilledEach v → length (items_each v) ≤ 2 * count (items_each v)
  lean_each none f = omega arith
  lean_each (b ∥ bs) f =
      let x = lean_all b f.1.0 in
      let y = lean_each bs f.1.1 in
      omega (arith, x.any, length-append (items_all b) (items_each bs), count-append (items_all b) (items_each bs))

pub few-items : (v : Stmts Name) → FilledAll v → drop most_statements (gather statement_place (items_all v)) ≡ [] → length (items_all v) ≤ 510
few-items v f e = omega (arith, (lean_all v f).any, length-drop most_statements (gather statement_place (items_all v)), ap length e)

pub few-parts : (is : List Item) → drop most_parts (map place_of (parts_of is)) ≡ [] → length (parts_of is) ≤ 1024
few-parts is e = omega (arith, length-map (parts_of is) place_of, length-drop most_parts (map place_of (parts_of is)), ap length e)
