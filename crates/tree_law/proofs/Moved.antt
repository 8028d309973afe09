-- How far the walk over statements gets: it counts its nodes and parts one by one while they fit, and writes no others.
-- Assumes nothing.
use mathlib.Core.Bool.{Bool, true, false, cond}
use mathlib.Core.Path.{◌≡◌, refl, ◌∙◌, ap}
use mathlib.Core.List.{List, [], ◌∷◌, ◌++◌, append-nil}
use mathlib.Core.Option.{Option}
use Prim.Native.Nat.{ℕ, ◌+◌, ◌≤◌, ◌<◌}
use native.Mathlib.Omega.{arith}
use lib.Dec.{ltb, leb}
use lib.ListN.{length, length-append}
use borrow.Author.Tests.{lt-ltb}
use Rattle.meaning.specs.Tree.{Expr, whole, part, Head, Stmt, skip, delay, change, assign, choice, while, loop, exit, break, switch, parallel, Stmts, end, ◌⨾◌, Cases, default, case, Branches, none, ◌∥◌}
use Rattle.meaning.specs.Numbers.{Variable}
use Rattle.meaning.specs.Items.{Item, statement, test, items, items_all, items_cases, items_each, own, parts_of, within}
use Rattle.meaning.specs.Sizes.{most_delay, most_statements}
use Rattle.meaning.specs.States.{most_activities}
use Rattle.language.specs.Trees.{Name}
use Rattle.parts.specs.declared.Notes.{Notes}
use Rattle.parts.specs.Sum.{sum, at_six, at_seven}
use Rattle.expr_law.proofs.Decoded.{kept}
use Rattle.items.specs.declared.Marks.{Marks}
use Rattle.items.specs.Walk.{Walked, walked, test_at, tested, begun, begun_at, more, with_acts, with_notes, at_nine, cased, leaves, delayed, target_marks, assigned, assign_at, change_at, together, finished, branched, walk, walk_all, walk_cases, walk_each}
use Rattle.tree_law.proofs.Same.{Grown, stays, both}
use Rattle.tree_law.proofs.Node.{node_grown, branch_grown}
use Rattle.formed_law.proofs.Filled.{Filled, FilledAll, FilledCases, FilledEach, some-items}

-- there is room for these items
pub record Room (w : Walked) (is : List Item) : Type 0 where
  pub nodes : w.marks.nodes + length is ≤ 512
  pub parts : w.marks.notes.parts + length (parts_of is) ≤ 1024
  pub long : 16384 ≤ length w.bytes

pub record Moved (w v : Walked) (is : List Item) : Type 0 where
  pub nodes : v.marks.nodes ≡ w.marks.nodes + length is
  pub parts : v.marks.notes.parts ≡ w.marks.notes.parts + length (parts_of is)
  pub bytes : Grown w.marks.nodes v.marks.nodes w.marks.notes.parts v.marks.notes.parts w.bytes v.bytes

pub parts-append : (a b : List Item) → length (parts_of (a ++ b)) ≡ length (parts_of a) + length (parts_of b)
unfolding parts_of
parts-append [] b = omega arith
parts-append (i ∷ a) b = let x = length-append (own i) (parts_of (a ++ b)) in let y = length-append (own i) (parts_of a) in let z = parts-append a b in omega arith

pub room-left : (w : Walked) (a b : List Item) → Room w (a ++ b) → Room w a
room-left w a b r =
    record { nodes = omega (arith, r.nodes, length-append a b); parts = omega (arith, r.parts, parts-append a b); long = r.long }

pub room-right : (w v : Walked) (a b : List Item) → Room w (a ++ b) → Moved w v a → Room v b
room-right w v a b r m =
    record { nodes = omega (arith, r.nodes, length-append a b, m.nodes); parts = omega (arith, r.parts, parts-append a b, m.parts); long = omega (arith, r.long, m.bytes.long) }

pub then : (w v x : Walked) (a b : List Item) → Moved w v a → Moved v x b → Moved w x (a ++ b)
then w v x a b f g =
    record {
      nodes = omega (arith, f.nodes, g.nodes, length-append a b);
      parts = omega (arith, f.parts, g.parts, parts-append a b);
      bytes = both (omega (arith, f.nodes)) (omega (arith, g.nodes)) (omega (arith, f.parts)) (omega (arith, g.parts)) f.bytes g.bytes;
    }

-- the same counts and bytes
alike : (w v x : Walked) (is : List Item) → x.marks.nodes ≡ v.marks.nodes → x.marks.notes.parts ≡ v.marks.notes.parts → x.bytes ≡ v.bytes → Moved w v is → Moved w x is
alike w v x is a b c m =
    record {
      nodes = a ∙ m.nodes;
      parts = b ∙ m.parts;
      bytes = rw (a, b, c) m.bytes;
    }

pub stands : (w : Walked) → Moved w w []
unfolding parts_of
stands w = record { nodes = omega arith; parts = omega arith; bytes = stays _ _ _ _ _ }

-- a node or a branch is written behind
pub behind : {i j a b : ℕ} {t u v : List ℕ} → i < j → j ≤ 512 → Grown i j a b t u → Grown i (i + 1) a b u v → Grown i j a b t v
behind h k f g =
    record {
      long = g.long ∙ f.long;
      low = λ q e. g.low q e ∙ f.low q e;
      middle = λ q e l. g.middle q (omega arith) l ∙ f.middle q e l;
      high = λ q e. g.high q e ∙ f.high q e;
    }

pub ended : (w v : Walked) (k p a b c d : ℕ) (x : Item) (is : List Item) → Room w (x ∷ is) → Moved w v (x ∷ is) → Moved w (finished w.marks.nodes k p a b c d v) (x ∷ is)
unfolding finished
ended w v k p a b c d x is r m =
    record {
      nodes = m.nodes;
      parts = m.parts;
      bytes = behind (omega (arith, m.nodes)) (omega (arith, m.nodes, r.nodes)) m.bytes (node_grown v.bytes w.marks.nodes k p _ a b c d (omega (arith, r.nodes)) (omega (arith, r.long, m.bytes.long)) _ _);
    }

pub branch_ended : (w v : Walked) (is : List Item) → 1 ≤ length is → Room w is → Moved (walked (with_acts w.marks 1) w.bytes) v is → Moved w (branched w.marks v) is
unfolding branched with_acts
branch_ended w v is h r m =
    record {
      nodes = m.nodes;
      parts = m.parts;
      bytes = behind (omega (arith, m.nodes)) (omega (arith, m.nodes, r.nodes)) m.bytes (branch_grown v.bytes w.marks.nodes _ _ (omega (arith, r.nodes)) (omega (arith, r.long, m.bytes.long)) _ _);
    }

-- ---- what a node begins with

more_is : (n : ℕ) → n < 512 → more n ≡ n + 1
unfolding more
more_is n h = rw (lt-ltb n 512 h) refl

either : (b : Bool) (x y : Notes) → y.parts ≡ x.parts → (cond b x y).parts ≡ x.parts
either true x y e = refl
either false x y e = e

either-marks : (b : Bool) (x y : Marks) → y.nodes ≡ x.nodes → y.notes.parts ≡ x.notes.parts → ((cond b x y).nodes ≡ x.nodes) × ((cond b x y).notes.parts ≡ x.notes.parts)
either-marks true x y e f = (refl, refl)
either-marks false x y e f = (e, f)

pub begun-parts : (m : Marks) (p : ℕ) → (begun m p).notes.parts ≡ m.notes.parts
unfolding begun at_nine
begun-parts m p = either (ltb m.statements most_statements) m.notes _ refl

begun_nodes : (m : Marks) (p : ℕ) → m.nodes < 512 → (begun m p).nodes ≡ m.nodes + 1
unfolding begun
begun_nodes m p h = more_is m.nodes h

cased_nodes : (m : Marks) → m.nodes < 512 → (cased m).nodes ≡ m.nodes + 1
unfolding cased
cased_nodes m h = more_is m.nodes h

pub one-part : (x : Item) → length (parts_of (x ∷ [])) ≡ length (own x)
unfolding parts_of
one-part x = ap length (append-nil (own x))

module _ (look : List ℕ → Option Variable) where
  pub begins : (w : Walked) (p : ℕ) (x : Item) (is : List Item) → own x ≡ [] → Room w (x ∷ is) → Moved w (begun_at look p w) (x ∷ [])
  begins w p x is e r =
      let a = begun-parts w.marks p in
      let b = ap length e in
      record { nodes = begun_nodes w.marks p (omega (arith, r.nodes)); parts = omega (arith, a, b, one-part x); bytes = stays _ _ _ _ _ }

  -- an expression is read behind what the node begins with
  reads : (w w₀ v : Walked) (e : Expr Name) (x : Item) (is : List Item) → own x ≡ within e → Room w (x ∷ is)
      → w₀.marks.nodes ≡ w.marks.nodes + 1 → w₀.marks.notes.parts ≡ w.marks.notes.parts → w₀.bytes ≡ w.bytes
      → v.marks.nodes ≡ w₀.marks.nodes → v.marks.notes.parts ≡ (sum look e w₀.marks.notes w₀.bytes).notes.parts → v.bytes ≡ (sum look e w₀.marks.notes w₀.bytes).bytes
      → Moved w v (x ∷ [])
  reads w w₀ v e x is o r a b c f g h =
      let z = ap length o in
      let s : w.marks.notes.parts + length (own x) ≤ 1024 = omega (arith, r.parts, one-part x, parts-append (x ∷ []) is) in
      let k = kept look e w₀.marks.notes w₀.bytes (omega arith) in
      record {
        nodes = f ∙ a;
        parts = g ∙ k.parts ∙ omega (arith, b, z, one-part x);
        bytes = rw (h, c) record {
          long = rw (← c) k.long;
          low = λ q y. rw (← c) (k.low q (omega (arith, r.nodes, b)));
          middle = λ q y l. rw (← c) (k.low q (omega (arith, b)));
          high = λ q y. rw (← c) (k.high q (omega (arith, g, k.parts)));
        };
      }

  pub test-moved : (w : Walked) (e : Expr Name) (p : ℕ) (x : Item) (is : List Item) → own x ≡ within e → Room w (x ∷ is) → Moved w (test_at look e p (begun_at look p w)).state (x ∷ [])
  unfolding test_at tested with_notes at_seven
  test-moved w e p x is o r = reads w (begun_at look p w) _ e x is o r (begun_nodes w.marks p (omega (arith, r.nodes))) (begun-parts w.marks p) refl refl refl refl

  pub case-moved : (w : Walked) (e : Expr Name) (p : ℕ) (x : Item) (is : List Item) → own x ≡ within e → Room w (x ∷ is) → Moved w (test_at look e p (walked (cased w.marks) w.bytes)).state (x ∷ [])
  unfolding test_at tested with_notes at_seven cased
  case-moved w e p x is o r = reads w (walked (cased w.marks) w.bytes) _ e x is o r (cased_nodes w.marks (omega (arith, r.nodes))) refl refl refl refl refl

  pub assign-moved : (w : Walked) (h : Head) (v : Name) (e : Expr Name) → Room w (statement (assign h v e) ∷ [])
      → Moved w (walked (assigned (begun w.marks h.place) (sum look e (begun w.marks h.place).notes w.bytes) (look v.bytes) v.place) (sum look e (begun w.marks h.place).notes w.bytes).bytes) (statement (assign h v e) ∷ [])
  unfolding assigned target_marks with_notes at_six at_seven
  assign-moved w h v e r = reads w (begun_at look h.place w) _ e (statement (assign h v e)) [] refl r (begun_nodes w.marks h.place (omega (arith, r.nodes))) (begun-parts w.marks h.place) refl refl refl refl

  pub delay-moved : (w : Walked) (h : Head) (p n : ℕ) → Room w (statement (delay h p n) ∷ []) → Moved w (walked (delayed (begun w.marks h.place) n p) w.bytes) (statement (delay h p n) ∷ [])
  unfolding delayed with_notes at_nine
  delay-moved w h p n r =
      let (a, b) = either-marks (leb n most_delay) (begun w.marks h.place) (with_notes (begun w.marks h.place) (at_nine (begun w.marks h.place).notes p)) refl refl in
      alike w (begun_at look h.place w) _ (statement (delay h p n) ∷ []) a b refl (begins w h.place (statement (delay h p n)) [] refl r)

  -- side by side
  pub together-moved : (w v : Walked) (a p : ℕ) (is : List Item) → Moved w v is → Moved w (walked (together v.marks a p) v.bytes) is
  unfolding together with_acts with_notes at_nine
  together-moved w v a p is m =
      let (x, y) = either-marks (leb v.marks.acts most_activities) v.marks (with_notes v.marks (at_nine v.marks.notes p)) refl refl in
      alike w v _ is x y refl m

  pub first-room : (w : Walked) (is : List Item) → Room w is → Room (walked (with_acts w.marks 1) w.bytes) is
  unfolding with_acts
  first-room w is r = record { nodes = r.nodes; parts = r.parts; long = r.long }

  pub side_moved : (w : Walked) (p : ℕ) (x : Item) (is : List Item) → own x ≡ [] → Room w (x ∷ is) → Moved w (walked (with_acts (begun w.marks p) 0) w.bytes) (x ∷ [])
  unfolding with_acts
  side_moved w p x is e r = alike w (begun_at look p w) _ (x ∷ []) refl refl refl (begins w p x is e r)

  mutual
    unfolding walk with_notes leaves change_at target_marks assign_at at_six at_seven items Filled

    pub moved : (v : Stmt Name) (l b : Bool) (w : Walked) → Filled v → Room w (items v) → Moved w (walk look v l b w) (items v)
    moved (skip h) l b w f r = ended w _ 0 h.place 0 0 0 0 (statement (skip h)) [] r (begins w h.place (statement (skip h)) [] refl r)
    moved (delay h p n) l b w f r = ended w _ 1 h.place p n 0 0 (statement (delay h p n)) [] r (delay-moved w h p n r)
    moved (change h c (whole v)) l b w f r = ended w _ _ h.place _ _ 0 0 (statement (change h c (whole v))) [] r (alike w (begun_at look h.place w) _ (statement (change h c (whole v)) ∷ []) refl refl refl (begins w h.place (statement (change h c (whole v))) [] refl r))
    moved (change h c (part v j)) l b w f r = ended w _ _ h.place _ _ j 0 (statement (change h c (part v j))) [] r (alike w (begun_at look h.place w) _ (statement (change h c (part v j)) ∷ []) refl refl refl (begins w h.place (statement (change h c (part v j))) [] refl r))
    moved (assign h v e) l b w f r = ended w _ 5 h.place _ _ _ _ (statement (assign h v e)) [] r (assign-moved w h v e r)
    moved (choice h e x y) l b w f r =
        let i : Item = statement (choice h e x y) in
        let w₁ : Walked = (test_at look e h.place (begun_at look h.place w)).state in
        let m₁ = test-moved w e h.place i (items_all x ++ items_all y) refl r in
        let r₁ = room-right w w₁ (i ∷ []) (items_all x ++ items_all y) r m₁ in
        let m₂ = moved_all x l b w₁ f.0 (room-left w₁ (items_all x) (items_all y) r₁) in
        let w₂ : Walked = walk_all look x l b w₁ in
        let m₃ = moved_all y l b w₂ f.1 (room-right w₁ w₂ (items_all x) (items_all y) r₁ m₂) in
        let w₃ : Walked = walk_all look y l b w₂ in
        ended w w₃ 6 h.place _ _ _ 0 i (items_all x ++ items_all y) r (then w w₁ w₃ (i ∷ []) (items_all x ++ items_all y) m₁ (then w₁ w₂ w₃ (items_all x) (items_all y) m₂ m₃))
    moved (while h e x) l b w f r =
        let i : Item = statement (while h e x) in
        let w₁ : Walked = (test_at look e h.place (begun_at look h.place w)).state in
        let m₁ = test-moved w e h.place i (items_all x) refl r in
        let m₂ = moved_all x true b w₁ f (room-right w w₁ (i ∷ []) (items_all x) r m₁) in
        let w₂ : Walked = walk_all look x true b w₁ in
        ended w w₂ 7 h.place _ 0 _ 0 i (items_all x) r (then w w₁ w₂ (i ∷ []) (items_all x) m₁ m₂)
    moved (loop h x) l b w f r =
        let i : Item = statement (loop h x) in
        let w₁ : Walked = begun_at look h.place w in
        let m₁ = begins w h.place i (items_all x) refl r in
        let m₂ = moved_all x true b w₁ f (room-right w w₁ (i ∷ []) (items_all x) r m₁) in
        let w₂ : Walked = walk_all look x true b w₁ in
        ended w w₂ 8 h.place 0 0 0 0 i (items_all x) r (then w w₁ w₂ (i ∷ []) (items_all x) m₁ m₂)
    moved (exit h) l b w f r = ended w _ 9 h.place 0 0 0 0 (statement (exit h)) [] r (alike w (begun_at look h.place w) _ (statement (exit h) ∷ []) refl refl refl (begins w h.place (statement (exit h)) [] refl r))
    moved (break h) l b w f r = ended w _ 10 h.place 0 0 0 0 (statement (break h)) [] r (alike w (begun_at look h.place w) _ (statement (break h) ∷ []) refl refl refl (begins w h.place (statement (break h)) [] refl r))
    moved (switch h cs) l b w f r =
        let i : Item = statement (switch h cs) in
        let w₁ : Walked = begun_at look h.place w in
        let m₁ = begins w h.place i (items_cases cs) refl r in
        let m₂ = moved_cases cs l true w₁ f (room-right w w₁ (i ∷ []) (items_cases cs) r m₁) in
        let w₂ : Walked = walk_cases look cs l true w₁ in
        ended w w₂ 11 h.place 0 0 0 0 i (items_cases cs) r (then w w₁ w₂ (i ∷ []) (items_cases cs) m₁ m₂)
    moved (parallel h bs) l b w f r =
        let i : Item = statement (parallel h bs) in
        let w₁ : Walked = walked (with_acts (begun w.marks h.place) 0) w.bytes in
        let m₁ = side_moved w h.place i (items_each bs) refl r in
        let m₂ = moved-each bs l w₁ f (room-right w w₁ (i ∷ []) (items_each bs) r m₁) in
        let w₂ : Walked = walk_each look bs l w₁ in
        let w₃ : Walked = walked (together w₂.marks w.marks.acts h.place) w₂.bytes in
        ended w w₃ 12 h.place 0 0 0 0 i (items_each bs) r (then w w₁ w₃ (i ∷ []) (items_each bs) m₁ (together-moved w₁ w₂ w.marks.acts h.place (items_each bs) m₂))

    pub moved_all : (v : Stmts Name) (l b : Bool) (w : Walked) → FilledAll v → Room w (items_all v) → Moved w (walk_all look v l b w) (items_all v)
    moved_all end l b w f r = stands w
    moved_all (x ⨾ ss) l b w f r =
        let m₁ = moved x l b w f.0 (room-left w (items x) (items_all ss) r) in
        let w₁ : Walked = walk look x l b w in
        then w w₁ _ (items x) (items_all ss) m₁ (moved_all ss l b w₁ f.1 (room-right w w₁ (items x) (items_all ss) r m₁))

    pub moved_cases : (v : Cases Name) (l b : Bool) (w : Walked) → FilledCases v → Room w (items_cases v) → Moved w (walk_cases look v l b w) (items_cases v)
    moved_cases (default d) l b w f r = moved_all d l b w f r
    moved_cases (case h e x cs) l b w f r =
        let i : Item = test h e in
        let w₀ : Walked = walked (cased w.marks) w.bytes in
        let w₁ : Walked = (test_at look e h.place w₀).state in
        let r₀ = room-left w (i ∷ items_all x) (items_cases cs) r in
        let m₁ = case-moved w e h.place i (items_all x) refl r₀ in
        let m₂ = moved_all x l b w₁ f.1.0 (room-right w w₁ (i ∷ []) (items_all x) r₀ m₁) in
        let w₂ : Walked = walk_all look x l b w₁ in
        let w₃ : Walked = finished w.marks.nodes 13 h.place (test_at look e h.place w₀).root w₂.marks.nodes (test_at look e h.place w₀).looks 0 w₂ in
        let m₃ = ended w w₂ 13 h.place (test_at look e h.place w₀).root w₂.marks.nodes (test_at look e h.place w₀).looks 0 i (items_all x) r₀ (then w w₁ w₂ (i ∷ []) (items_all x) m₁ m₂) in
        then w w₃ _ (i ∷ items_all x) (items_cases cs) m₃ (moved_cases cs l b w₃ f.1.1 (room-right w w₃ (i ∷ items_all x) (items_cases cs) r m₃))

    pub moved-each : (v : Branches Name) (l : Bool) (w : Walked) → FilledEach v → Room w (items_each v) → Moved w (walk_each look v l w) (items_each v)
    moved-each none l w f r = stands w
    moved-each (x ∥ bs) l w f r =
        let r₀ = room-left w (items_all x) (items_each bs) r in
        let w₁ : Walked = walked (with_acts w.marks 1) w.bytes in
        let w₂ : Walked = walk_all look x l true w₁ in
        let m₁ = branch_ended w w₂ (items_all x) (some-items x f.0) r₀ (moved_all x l true w₁ f.1.0 (first-room w (items_all x) r₀)) in
        let w₃ : Walked = branched w.marks w₂ in
        then w w₃ _ (items_all x) (items_each bs) m₁ (moved-each bs l w₃ f.1.1 (room-right w w₃ (items_all x) (items_each bs) r m₁))
