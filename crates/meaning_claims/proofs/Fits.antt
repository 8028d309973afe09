-- Of a source without faults: no jump leaves the program, and the value word lies below 2 ^ the number of its non-input bits, 32 at most.
-- Assumes nothing.
use mathlib.Core.Path.{◌≡◌, refl, sym, subst}
use mathlib.Core.Bool.{Bool, true, false, not as opposite}
use mathlib.Core.List.{List, []}
use mathlib.Core.Option.{Option, none, some}
use Prim.Native.Nat.{ℕ, suc, ◌+◌, ◌^◌, ◌≤◌, ◌<◌}
use native.Mathlib.Omega.{arith}
use borrow.Author.Tests.{ltb-true}
use lib.Dec.{ltb}
use lib.ListN.{length}
use Rattle.meaning.specs.Tree.{Name, Target, whole, part, Head, Stmt, skip, delay, change, assign, choice, while, loop, exit, break, switch, parallel, Stmts, end, ◌⨾◌, Cases, default, case, Branches, ◌∥◌}
use Rattle.meaning.specs.Tree as tree
use Rattle.meaning.specs.Numbers.{Variable, Reads, input, boolean, integer}
use Rattle.meaning.specs.Tries.{bit_at}
use Rattle.meaning.specs.Clock.{Entry, Jump, out, off, jumps, resume_all}
use Rattle.meaning.specs.States.{State, start_state, step_state}
use Rattle.meaning.specs.Declared.{Declaration, Source, look_up}
use Rattle.meaning.specs.Items.{Item, items, items_all, items_cases, items_each}
use Rattle.meaning.specs.Checked.{known, variable_of, targeted, checked, checked_all, checked_cases, checked_each, program_of}
use Rattle.meaning.specs.Names.{gather, when}
use Rattle.meaning.specs.Kinds.{changeable, has_bit, target_kind, item_kind, kind_faults}
use Rattle.meaning.specs.Jumps.{jump_in, jump_all, jump_cases, jump_each}
use Rattle.meaning.specs.Sizes.{most_bits}
use Rattle.meaning.specs.Faults.{fault_of}
use Rattle.meaning.proofs.Tried.{Within, WithinAll, WithinCases, WithinEach, Tried, by_exit, by_break}
use Rattle.meaning_claims.proofs.Word.{ChangedBelow, AssignedBelow, Below, tried_below, word_below}
use Rattle.meaning.proofs.Declared.{bit_count, Found, found_below, initial-below, when-none, bits_most}
use Rattle.meaning.proofs.Faults.{none_exactly}
use Rattle.meaning.proofs.Sizes.{sized}
use Rattle.meaning.proofs.Lists.{not_empty, both-empty, none_both, none-cons}

opposite_false : (t : Bool) → opposite t ≡ false → t ≡ true
opposite_false true e = refl
opposite_false false e = sym e

-- ---- a target and an assigned variable, by what the name stands for

change-below : (k : ℕ) (o : Option Variable) (p : ℕ) → Found k o → when (opposite (changeable o)) p ≡ [] → bit_at (whole (known o)) < k
change-below k none p f e = absurd (not_empty e)
change-below k (some (input i)) p f e = absurd (not_empty e)
change-below k (some (boolean j)) p f e = f
change-below k (some (integer low width)) p f e = absurd (not_empty e)

part-below : (k : ℕ) (o : Option Variable) (j p : ℕ) → Found k o → when (opposite (has_bit o j)) p ≡ [] → bit_at (part (known o) j) < k
part-below k none j p f e = absurd (not_empty e)
part-below k (some (input i)) j p f e = absurd (not_empty e)
part-below k (some (boolean b)) j p f e = absurd (not_empty e)
part-below k (some (integer low width)) j p f e =
    omega (arith, ltb-true j width (opposite_false (ltb j width) (when-none (opposite (ltb j width)) p e)))

assign_below : (k : ℕ) (o : Option Variable) → Found k o → AssignedBelow k (known o)
assign_below k none f = tt
assign_below k (some (input i)) f = tt
assign_below k (some (boolean j)) f = tt
assign_below k (some (integer low width)) f = f

module _ (ds : List Declaration) where
  -- no kind fault in these statements
  abbrev Clean : List Item → Type 0
  Clean is = gather (item_kind ds) is ≡ []

  target_below : (h : Head) (t : Target Name) → target_kind ds h t ≡ [] → ChangedBelow (bit_count ds) (targeted t (variable_of ds))
  target_below h (whole v) e = change-below (bit_count ds) (look_up ds v.bytes) h.place (found_below ds v.bytes) e
  target_below h (part v j) e = part-below (bit_count ds) (look_up ds v.bytes) j v.place (found_below ds v.bytes) e

  mutual
    unfolding items checked Within jump_in

    within : (s : Stmt Name) (n : ℕ) (l k : Bool) → Clean (items s) → jump_in s l k ≡ []
        → Within (checked s (variable_of ds) n) (ChangedBelow (bit_count ds)) (AssignedBelow (bit_count ds)) l k
    within (skip h) n l k e j = tt
    within (delay h p d) n l k e j = tt
    within (change h c t) n l k e j = target_below h t (none-cons (item_kind ds) _ [] e).0
    within (assign h v x) n l k e j = assign_below (bit_count ds) (look_up ds v.bytes) (found_below ds v.bytes)
    within (choice h x a b) n l k e j =
        let (p, q) = none_both (item_kind ds) (items_all a) (items_all b) (none-cons (item_kind ds) _ _ e).1 in
        let (i, o) = both-empty (jump_all a l k) (jump_all b l k) j in
        (within_all a (suc n) l k p i, within_all b (suc n + length (items_all a)) l k q o)
    within (while h x b) n l k e j = within_all b (suc n) true k (none-cons (item_kind ds) _ _ e).1 j
    within (loop h b) n l k e j = within_all b (suc n) true k (none-cons (item_kind ds) _ _ e).1 j
    within (exit h) n l k e j = opposite_false l (when-none (opposite l) h.place j)
    within (break h) n l k e j = opposite_false k (when-none (opposite k) h.place j)
    within (switch h cs) n l k e j = within_cases cs (suc n) l true (none-cons (item_kind ds) _ _ e).1 j
    within (parallel h bs) n l k e j = within-each bs (suc n) l true (none-cons (item_kind ds) _ _ e).1 j

    within_all : (ss : Stmts Name) (n : ℕ) (l k : Bool) → Clean (items_all ss) → jump_all ss l k ≡ []
        → WithinAll (checked_all ss (variable_of ds) n) (ChangedBelow (bit_count ds)) (AssignedBelow (bit_count ds)) l k
    within_all end n l k e j = tt
    within_all (s ⨾ ss) n l k e j =
        let (p, q) = none_both (item_kind ds) (items s) (items_all ss) e in
        let (i, o) = both-empty (jump_in s l k) (jump_all ss l k) j in
        (within s n l k p i, within_all ss (n + length (items s)) l k q o)

    within_cases : (cs : Cases Name) (n : ℕ) (l k : Bool) → Clean (items_cases cs) → jump_cases cs l k ≡ []
        → WithinCases (checked_cases cs (variable_of ds) n) (ChangedBelow (bit_count ds)) (AssignedBelow (bit_count ds)) l k
    within_cases (default d) n l k e j = within_all d n l k e j
    within_cases (case h x b cs) n l k e j =
        let (p, q) = none_both (item_kind ds) (items_all b) (items_cases cs) (none-cons (item_kind ds) _ _ e).1 in
        let (i, o) = both-empty (jump_all b l k) (jump_cases cs l k) j in
        (within_all b (suc n) l k p i, within_cases cs (suc n + length (items_all b)) l k q o)

    within-each : (bs : Branches Name) (n : ℕ) (l k : Bool) → Clean (items_each bs) → jump_each bs l k ≡ []
        → WithinEach (checked_each bs (variable_of ds) n) (ChangedBelow (bit_count ds)) (AssignedBelow (bit_count ds)) l k
    within-each tree.none n l k e j = tt
    within-each (b ∥ bs) n l k e j =
        let (p, q) = none_both (item_kind ds) (items_all b) (items_each bs) e in
        let (i, o) = both-empty (jump_all b l k) (jump_each bs l k) j in
        (within_all b n l k p i, within-each bs (n + length (items_all b)) l k q o)

-- ---- a source without faults

module _ (s : Source) (good : fault_of s ≡ none) where
  body-within : WithinAll (program_of s).body (ChangedBelow (bit_count s.declared)) (AssignedBelow (bit_count s.declared)) false false
  unfolding program_of kind_faults
  body-within =
      within_all s.declared s.body 0 false false
      (both-empty (gather (item_kind s.declared) (items_all s.body)) _ ((none_exactly s).0 good).kinds).0
      ((none_exactly s).0 good).jumps

  -- no jump leaves the program
  pub never_jumps : (es : List Entry) (r : Reads) (j : Jump) → resume_all (program_of s).body es r ≡ jumps j → ⊥
  never_jumps es r j e =
      no_way j (subst (Tried (Below (bit_count s.declared)) false false) e (tried_below (bit_count s.declared) (program_of s) false false body-within es r))
    where
      no_way : (i : Jump) → Tried (Below (bit_count s.declared)) false false (jumps i) → ⊥
      no_way out (by_exit q) = let z : ◌≡◌ {A = ℕ} 0 1 = cc in omega arith
      no_way off (by_break q) = let z : ◌≡◌ {A = ℕ} 0 1 = cc in omega arith

  -- "non-input bits 32"
  pub bits_fit : bit_count s.declared ≤ most_bits
  bits_fit = bits_most s.declared (sized s ((none_exactly s).0 good).sizes).bits

  pub start_fits : (start_state (program_of s)).word < 2 ^ bit_count s.declared
  unfolding start_state program_of
  start_fits = initial-below s.declared

  pub step_fits : (t : State) (i : ℕ) → t.word < 2 ^ bit_count s.declared → (step_state (program_of s) t i).word < 2 ^ bit_count s.declared
  step_fits t i h = word_below (bit_count s.declared) (program_of s) false false body-within t i h
