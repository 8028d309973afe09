-- The limits of statements and of expression parts, each met and passed by one, on trees that are too long to write as texts; the other sizes stand in crates/compared_sizes.
-- Assumes nothing.
use mathlib.Core.Path.{◌≡◌, refl}
use mathlib.Core.Bool.{true}
use mathlib.Core.List.{[], ◌∷◌, map}
use mathlib.Core.Option.{Option, none, some}
use Prim.Native.Nat.{ℕ, zero, suc, ◌+◌}
use Rattle.meaning.specs.Tree.{Name, plus, and, less as smaller, literal, truth, variable, bit, not, int, arithmetic, comparison, logic, Head, skip, delay, change, raise, part, assign, choice, while, loop, exit, break, switch, parallel, Stmts, end, ◌⨾◌, default, case, ◌∥◌}
use Rattle.meaning.specs.Tree as tree
use Rattle.meaning.specs.Declared.{integers, Source, same_bytes, output_count, look_from, look_up}
use Rattle.meaning.specs.Clock.{head_of, activities}
use Rattle.meaning.specs.Items.{Item, statement, test, items, items_all, within, parts_of, place_of}
use Rattle.meaning.specs.Names.{gather, among, again_from, name_faults}
use Rattle.meaning.specs.Kinds.{kind_faults}
use Rattle.meaning.specs.Jumps.{jump_in}
use Rattle.meaning.specs.Sizes.{bits_from, size_faults}
use Rattle.meaning.specs.Worst.{worst, worst_faults}
use Rattle.meaning.specs.Faults.{Fault, least, fault_of}

abbrev at : ℕ → Head
at p = record { place = p; number = 0 }

abbrev x : Name
x = record { bytes = 120 ∷ []; place = 0 }

abbrev source : Stmts Name → Source
source body = record { name = []; declared = integers x 0 1 0 ∷ []; body = body }

abbrev nine : ℕ → Option Fault
nine place = some (record { number = 9; place = place })

-- n statements `skip`, from a place on, and then the rest
unfoldable pub skips : ℕ → ℕ → Stmts Name → Stmts Name
skips zero p rest = rest
skips (suc n) p rest = skip (at p) ⨾ skips n (suc p) rest

-- a switch with two cases, a parallel, both kinds of loop and an `if`: 10 statements at 1 to 10, and two tests
abbrev compound : Stmts Name → Stmts Name
compound rest =
    switch (at 1) (case (at 1000) (truth 0 true) (parallel (at 2) ((skip (at 3) ⨾ end) ∥ (skip (at 4) ⨾ end) ∥ tree.none) ⨾ end)
    (case (at 1001) (truth 0 true) (while (at 5) (truth 0 true) (skip (at 6) ⨾ end) ⨾ end)
    (default (loop (at 7) (skip (at 8) ⨾ end) ⨾ end))))
    ⨾ choice (at 9) (truth 0 true) (skip (at 10) ⨾ end) end
    ⨾ rest

-- n times `x := 1 + 1 + 1`, which has five parts, at places from p on, and then the rest
unfoldable pub sums : ℕ → ℕ → Stmts Name → Stmts Name
sums zero p rest = rest
sums (suc n) p rest =
    assign (at p) x (arithmetic plus (p + 3) (arithmetic plus (p + 1) (literal p 1) (literal (p + 2) 1)) (literal (p + 4) 1)) ⨾ sums n (p + 5) rest

-- one of each kind of part: `x := int(!true) + x + 7`, of seven parts; the bit that is changed and its number are none
abbrev kinds : ℕ → Stmts Name → Stmts Name
kinds p rest =
    change (at p) raise (part x 0)
    ⨾ assign (at p) x (arithmetic plus (p + 5) (arithmetic plus (p + 3) (int p (not (p + 1) (truth (p + 2) true))) (variable (record { bytes = 120 ∷ []; place = p + 4 }))) (literal (p + 6) 7))
    ⨾ rest

-- every kind of statement and of part, each at its place in the text
abbrev named : ℕ → Name
named p = record { bytes = 120 ∷ []; place = p }

abbrev ordered : Stmts Name
ordered =
    choice (at 1) (logic and 3 (variable (named 2)) (not 4 (truth 5 true))) (skip (at 6) ⨾ end) (delay (at 7) 0 1 ⨾ end)
    ⨾ while (at 8) (comparison smaller 10 (literal 9 5) (bit (named 11) 0)) (change (at 12) raise (part x 0) ⨾ assign (at 13) x (arithmetic plus 16 (int 14 (truth 15 true)) (literal 17 1)) ⨾ end)
    ⨾ switch (at 18) (case (at 19) (truth 20 true) (exit (at 21) ⨾ end) (case (at 22) (truth 23 true) (break (at 24) ⨾ end) (default (loop (at 25) (skip (at 26) ⨾ end) ⨾ end))))
    ⨾ parallel (at 27) ((skip (at 28) ⨾ skip (at 29) ⨾ end) ∥ (skip (at 30) ⨾ end) ∥ tree.none)
    ⨾ end

abbrev item_place : Item → ℕ
item_place (statement s) = (head_of s).place
item_place (test h e) = h.place

pub record Limits : Type 0 where
  -- statements and case tests, and parts, in text order, each with its own place
  pub items_in_order : map item_place (items_all ordered) ≡ 1 ∷ 6 ∷ 7 ∷ 8 ∷ 12 ∷ 13 ∷ 18 ∷ 19 ∷ 21 ∷ 22 ∷ 24 ∷ 25 ∷ 26 ∷ 27 ∷ 28 ∷ 29 ∷ 30 ∷ []
  pub parts_in_order : map place_of (parts_of (items_all ordered)) ≡ 2 ∷ 3 ∷ 4 ∷ 5 ∷ 9 ∷ 10 ∷ 11 ∷ 14 ∷ 15 ∷ 16 ∷ 17 ∷ 20 ∷ 23 ∷ []
  pub statements-met : fault_of (source (compound (skips 245 11 end))) ≡ none
  pub statements-passed : fault_of (source (compound (skips 247 11 end))) ≡ nine 256
  -- the last in the list is the one too many, also inside others
  pub inside : fault_of (source (loop (at 0) (skips 254 1 (loop (at 999) (skip (at 998) ⨾ end) ⨾ end)) ⨾ end)) ≡ nine 998
  -- 1,015 parts, 7 and 2 more
  pub parts-met : fault_of (source (sums 203 0 (kinds 1015 (assign (at 1022) x (literal 1022 1) ⨾ assign (at 1023) x (literal 1023 1) ⨾ end)))) ≡ none
  pub parts-passed : fault_of (source (sums 203 0 (kinds 1015 (assign (at 1022) x (literal 1022 1) ⨾ assign (at 1023) x (arithmetic plus 1024 (literal 1023 1) (literal 1025 1)) ⨾ end)))) ≡ nine 1024

pub limits : Limits
unfolding skips sums same_bytes output_count look_from look_up activities items within parts_of gather among again_from name_faults kind_faults jump_in bits_from size_faults worst worst_faults least fault_of
limits = record { items_in_order = refl; parts_in_order = refl; statements-met = refl; statements-passed = refl; inside = refl; parts-met = refl; parts-passed = refl }
