-- The tree that the walk over a source's body leaves in bytes whose nodes were all zero is the program, ready for the clock.
-- Assumes nothing.
use mathlib.Core.Bool.{false}
use mathlib.Core.Path.{◌≡◌, refl, sym, ◌∙◌, ap, subst, fun_ext}
use mathlib.Core.List.{List, []}
use mathlib.Core.Option.{Option, none}
use Prim.Native.Nat.{ℕ, ◌+◌, ◌*◌, ◌%◌, ◌≤◌, ◌<◌}
use native.Mathlib.Omega.{arith}
use native.Mathlib.Decide.{dec_lt}
use lib.ListN.{length, get_or}
use Rattle.meaning.specs.Numbers.{Variable}
use Rattle.meaning.specs.Clock.{activities_all}
use Rattle.meaning.specs.Declared.{Source, look_up}
use Rattle.meaning.specs.Items.{items_all}
use Rattle.meaning.specs.Names.{gather, again_from, changed_by, unknown, name_faults}
use Rattle.meaning.specs.Kinds.{item_kind, kind_faults}
use Rattle.meaning.specs.Worst.{worst_faults}
use Rattle.meaning.specs.Faults.{fault_of}
use Rattle.meaning.specs.Checked.{variable_of, checked_all, program_of}
use Rattle.meaning.proofs.Eight.{same-all, eight-all}
use Rattle.meaning.proofs.Faults.{none_exactly}
use Rattle.meaning.proofs.Lists.{both-empty}
use Rattle.meaning.proofs.Sizes.{Sized, sized}
use Rattle.language.specs.Texts.{good, Reads}
use Rattle.language.proofs.Fits.{no_fault}
use Rattle.nodes.specs.Layout.{half_at, node_base, what_at}
use Rattle.nodes.specs.Decode.{list_at}
use Rattle.nodes.specs.Ready.{Leaves, Ready}
use Rattle.expr_law.proofs.Placed.{placed}
use Rattle.items.specs.declared.Marks.{Marks}
use Rattle.items.specs.Walk.{Walked, walked, walk_all}
use Rattle.kept_law.specs.Kept.{Every}
use Rattle.formed_law.proofs.Formed.{Formed, formed}
use Rattle.tree_law.proofs.Moved.{Room, Moved, moved_all}
use Rattle.tree_law.proofs.Held.{Leaf, HeldList}
use Rattle.tree_law.proofs.Right.{Right, all_right}
use Rattle.tree_law.proofs.Stored.{held_all}
use Rattle.tree_law.proofs.Few.{few-items, few-parts}

-- the state that a walk leaves holds the program of a source
pub record Program (s : Source) (w : Walked) : Type 0 where
  pub count : w.marks.nodes ≡ length (items_all s.body)
  pub few : w.marks.nodes ≤ 512
  pub body : (left : ℕ) → 3 * w.marks.nodes ≤ left → (program_of s).body ≡ list_at left w.bytes 0 w.marks.nodes
  pub ready : (left : ℕ) → 3 * w.marks.nodes ≤ left → Ready w.bytes w.marks.nodes left

-- no fault among the items of a body
body-right : (s : Source) → fault_of s ≡ none → Formed s → Every (Right s.declared) (items_all s.body)
unfolding name_faults kind_faults worst_faults
body-right s faultless form =
    let f = (none_exactly s).0 faultless in
    let (a, b) = both-empty (gather (item_kind s.declared) (items_all s.body)) _ f.kinds in
    let (c, d) = both-empty (again_from [] s.declared) _ f.names in
    let (i, j) = both-empty (gather (unknown s.declared) (gather changed_by (items_all s.body))) _ d in
    all_right s.declared (items_all s.body) a (sized s f.sizes).delays_and_activities j b f.worst form.small

-- a node that was never written is all zero: a skip with no end
half_zero : (u : List ℕ) (o : ℕ) → get_or u o 0 ≡ 0 → get_or u (o + 1) 0 ≡ 0 → half_at u o ≡ 0
unfolding half_at
half_zero u o a b = rw (a, b) refl

-- the number of a node counts modulo 512
leaves_all : (u : List ℕ) → ((j : ℕ) → j < 512 → Leaf u j) → Leaves u
unfolding what_at
leaves_all u f = record { leaf = λ i h. let e : node_base (i % 512) ≡ node_base i = omega arith in let z = f (i % 512) (omega arith) (rw e h) in omega (arith, subst (λ (n : ℕ). half_at u (n + 4) ≤ i % 512 + 1) e z) }

module _ (s : Source) (faultless : fault_of s ≡ none) (form : Formed s)
    (m : Marks) (t : List ℕ) (first : m.nodes ≡ 0) (none_read : m.notes.parts ≡ 0) (long : 16384 ≤ length t) (zeros : (q : ℕ) → q < 8192 → get_or t q 0 ≡ 0) where
  abbrev W : Walked
  W = walk_all (look_up s.declared) s.body false false (walked m t)

  sizes : Sized s
  sizes = sized s ((none_exactly s).0 faultless).sizes

  room : Room (walked m t) (items_all s.body)
  room = record { nodes = omega (arith, few-items s.body form.filled sizes.statements); parts = omega (arith, few-parts (items_all s.body) sizes.parts); long = long }

  went : Moved (walked m t) W (items_all s.body)
  went = moved_all (look_up s.declared) s.body false false (walked m t) form.filled room

  eight : activities_all (checked_all s.body (variable_of s.declared) 0) ≤ 8
  eight = rw (same-all (variable_of s.declared) s.body 0) (eight-all s.body sizes.delays_and_activities)

  -- in whatever bytes the tree lies
  module _ (u : List ℕ) (agrees : (q : ℕ) → q < 16384 → get_or u q 0 ≡ get_or W.bytes q 0) where
    stored : HeldList u (checked_all s.body (variable_of s.declared) 0) 0 W.marks.nodes
    stored =
        subst (λ (n : ℕ). HeldList u (checked_all s.body (variable_of s.declared) n) n W.marks.nodes) first
        (held_all s.declared (placed s.declared sizes.inputs sizes.bits sizes.widths) s.body false false (walked m t) u form.filled (body-right s faultless form) room
        (record { nodes = λ q a b c d e. agrees q (omega (arith, went.nodes, room.nodes)); parts = λ q a b. agrees q (omega (arith, went.parts, room.parts)) }))

    leaf : (j : ℕ) → j < 512 → Leaf u j
    leaf j h = go (dec_lt j W.marks.nodes)
      where
        zero_at_lem : (q : ℕ) → W.marks.nodes * 16 ≤ q → q < 8192 → get_or u q 0 ≡ 0
        zero_at_lem q a b = agrees q (omega arith) ∙ went.bytes.middle q a (omega arith) ∙ zeros q b

        go : Dec (j < W.marks.nodes) → Leaf u j
        go (yes k) = stored.leaves j (omega arith) k
        go (no k) = λ z. let e : node_base j + 4 ≡ j * 16 + 4 = omega arith in omega (arith, ap (half_at u) e, half_zero u (j * 16 + 4) (zero_at_lem (j * 16 + 4) (omega arith) (omega arith)) (zero_at_lem (j * 16 + 4 + 1) (omega arith) (omega arith)))

    by_definition : Program s (walked W.marks u)
    unfolding program_of
    by_definition =
        record {
          count = omega (arith, went.nodes);
          few = omega (arith, went.nodes, room.nodes);
          body = λ left h. stored.reads left (omega arith);
          ready = λ left h. record {
            leaves = leaves_all u leaf;
            fuel = h;
            good = rw (← stored.reads left (omega arith)) stored.good;
            wide = rw (← stored.reads left (omega arith)) eight;
          };
        }

  -- .. where names are looked up in any way that comes to the same
  pub holds-program : (look : List ℕ → Option Variable) → ((x : List ℕ) → look x ≡ look_up s.declared x) → (u : List ℕ) → ((q : ℕ) → q < 16384 → get_or u q 0 ≡ get_or (walk_all look s.body false false (walked m t)).bytes q 0)
      → Program s (walked (walk_all look s.body false false (walked m t)).marks u)
  holds-program look same =
      subst (λ (f : List ℕ → Option Variable). (u : List ℕ) → ((q : ℕ) → q < 16384 → get_or u q 0 ≡ get_or (walk_all f s.body false false (walked m t)).bytes q 0) → Program s (walked (walk_all f s.body false false (walked m t)).marks u))
      (sym (fun_ext same)) by_definition

-- .. of a text that says a source
pub text-program : {text : List ℕ} {s : Source} → Reads text (good s) → (m : Marks) (t : List ℕ) → m.nodes ≡ 0 → m.notes.parts ≡ 0 → 16384 ≤ length t → ((q : ℕ) → q < 8192 → get_or t q 0 ≡ 0)
    → (look : List ℕ → Option Variable) → ((x : List ℕ) → look x ≡ look_up s.declared x) → Program s (walk_all look s.body false false (walked m t))
text-program {s = s} r m t first none_read long zeros look same = holds-program s (no_fault r) (formed r) m t first none_read long zeros look same (walk_all look s.body false false (walked m t)).bytes (λ q h. refl)
