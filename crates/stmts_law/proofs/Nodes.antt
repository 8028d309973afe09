-- The nodes that the walk counts are the statements and case tests in text order, at most 512.
-- Assumes nothing.
use mathlib.Core.Bool.{Bool, true}
use mathlib.Core.List.{List}
use mathlib.Core.Option.{Option}
use Prim.Native.Nat.{ℕ, ◌≤◌}
use lib.ListN.{length}
use Rattle.meaning.specs.Tree.{whole, part, Stmt, skip, delay, change, assign, choice, while, loop, exit, break, switch, parallel, Stmts, end, ◌⨾◌, Cases, default, case, Branches, none, ◌∥◌}
use Rattle.meaning.specs.Numbers.{Variable}
use Rattle.meaning.specs.Items.{items, items_all, items_cases, items_each}
use Rattle.language.specs.Trees.{Name}
use Rattle.items.specs.Walk.{Walked, walked, test_at, tested, begun, begun_at, with_acts, with_notes, cased, leaves, target_marks, assigned, assign_at, change_at, finished, branched, walk, walk_all, walk_cases, walk_each}
use Rattle.stmts_law.proofs.Numbers.{Past, delayed_nodes, together_nodes, low, one, over, first, stay, all_of}

module _ (look : List ℕ → Option Variable) where
  mutual
    unfolding walk finished begun test_at tested with_notes with_acts cased leaves change_at target_marks assign_at assigned branched items

    pub nodes_walk : (v : Stmt Name) (l b : Bool) (w : Walked) → w.marks.nodes ≤ 512 → Past w.marks.nodes (length (items v)) (walk look v l b w).marks.nodes
    nodes_walk (skip h) l b w q = one w.marks.nodes q
    nodes_walk (delay h p n) l b w q = rw (delayed_nodes (begun w.marks h.place) n p) (one w.marks.nodes q)
    nodes_walk (change h c (whole v)) l b w q = one w.marks.nodes q
    nodes_walk (change h c (part v j)) l b w q = one w.marks.nodes q
    nodes_walk (assign h v e) l b w q = one w.marks.nodes q
    nodes_walk (choice h e x y) l b w q =
        let s = one w.marks.nodes q in
        let u : Walked = (test_at look e h.place (begun_at look h.place w)).state in
        let a = nodes_all x l b u (low _ _ _ s) in
        first _ _ _ _ s (all_of _ _ (items_all x) (items_all y) (over _ (length (items_all x)) (length (items_all y)) _ _ a (nodes_all y l b (walk_all look x l b u) (low _ _ _ a))))
    nodes_walk (while h e x) l b w q = let s = one w.marks.nodes q in first _ _ _ _ s (nodes_all x true b (test_at look e h.place (begun_at look h.place w)).state (low _ _ _ s))
    nodes_walk (loop h x) l b w q = let s = one w.marks.nodes q in first _ _ _ _ s (nodes_all x true b (begun_at look h.place w) (low _ _ _ s))
    nodes_walk (exit h) l b w q = one w.marks.nodes q
    nodes_walk (break h) l b w q = one w.marks.nodes q
    nodes_walk (switch h cs) l b w q = let s = one w.marks.nodes q in first _ _ _ _ s (nodes_cases cs l true (begun_at look h.place w) (low _ _ _ s))
    nodes_walk (parallel h bs) l b w q =
        let s = one w.marks.nodes q in
        let u : Walked = walked (with_acts (begun w.marks h.place) 0) w.bytes in
        rw (together_nodes (walk_each look bs l u).marks w.marks.acts h.place) (first _ _ _ _ s (nodes_each bs l u (low _ _ _ s)))

    pub nodes_all : (v : Stmts Name) (l b : Bool) (w : Walked) → w.marks.nodes ≤ 512 → Past w.marks.nodes (length (items_all v)) (walk_all look v l b w).marks.nodes
    nodes_all end l b w q = stay w.marks.nodes q
    nodes_all (x ⨾ ss) l b w q = let a = nodes_walk x l b w q in all_of _ _ (items x) (items_all ss) (over _ (length (items x)) (length (items_all ss)) _ _ a (nodes_all ss l b (walk look x l b w) (low _ _ _ a)))

    pub nodes_cases : (v : Cases Name) (l b : Bool) (w : Walked) → w.marks.nodes ≤ 512 → Past w.marks.nodes (length (items_cases v)) (walk_cases look v l b w).marks.nodes
    nodes_cases (default d) l b w q = nodes_all d l b w q
    nodes_cases (case h e x cs) l b w q =
        let s = one w.marks.nodes q in
        let u : Walked = (test_at look e h.place (walked (cased w.marks) w.bytes)).state in
        let a = nodes_all x l b u (low _ _ _ s) in
        first _ _ _ _ s (all_of _ _ (items_all x) (items_cases cs) (over _ (length (items_all x)) (length (items_cases cs)) _ _ a (nodes_cases cs l b (finished w.marks.nodes 13 h.place (test_at look e h.place (walked (cased w.marks) w.bytes)).root (walk_all look x l b u).marks.nodes (test_at look e h.place (walked (cased w.marks) w.bytes)).looks 0 (walk_all look x l b u)) (low _ _ _ a))))

    pub nodes_each : (v : Branches Name) (l : Bool) (w : Walked) → w.marks.nodes ≤ 512 → Past w.marks.nodes (length (items_each v)) (walk_each look v l w).marks.nodes
    nodes_each none l w q = stay w.marks.nodes q
    nodes_each (x ∥ bs) l w q =
        let u : Walked = walked (with_acts w.marks 1) w.bytes in
        let a = nodes_all x l true u q in
        all_of _ _ (items_all x) (items_each bs) (over _ (length (items_all x)) (length (items_each bs)) _ _ a (nodes_each bs l (branched w.marks (walk_all look x l true u)) (low _ _ _ a)))
