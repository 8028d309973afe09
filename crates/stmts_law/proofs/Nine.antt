-- The least place of 9 that the walk has is the definition's: statements and parts too many, long delays, wide parallels.
-- Assumes nothing.
use mathlib.Core.Bool.{Bool, true, false, cond}
use mathlib.Core.Path.{◌≡◌, refl, sym, ◌∙◌, ap}
use mathlib.Core.List.{List, [], ◌∷◌, ◌++◌, map, append-nil, append_assoc}
use mathlib.Core.Option.{Option}
use Prim.Native.Nat.{ℕ, ◌+◌, ◌-◌, ◌≤◌, ◌<◌, min}
use native.Mathlib.Omega.{arith}
use lib.Dec.{ltb, leb}
use lib.ListN.{length, drop}
use borrow.Author.Tests.{ltb-true, ltb-false, lt-ltb, le-ltb, le-leb, lt-leb}
use native.Mathlib.Decide.{dec_le}
use Rattle.meaning.specs.Tree.{Expr, whole, part, Stmt, skip, delay, change, assign, choice, while, loop, exit, break, switch, parallel, Stmts, end, ◌⨾◌, Cases, default, case, Branches, none, ◌∥◌}
use Rattle.meaning.specs.Numbers.{Variable}
use Rattle.meaning.specs.Clock.{activities_sum}
use Rattle.meaning.specs.Items.{Item, statement, test, items, items_all, items_cases, items_each, own, parts_of, within, place_of}
use Rattle.meaning.specs.Names.{gather, when}
use Rattle.meaning.specs.Sizes.{most_statements, most_parts, most_delay, statement_place, item_size}
use Rattle.meaning.specs.States.{most_activities}
use Rattle.meaning.specs.Faults.{least}
use Rattle.language.specs.Trees.{Name}
use Rattle.parts.specs.declared.Notes.{Notes}
use Rattle.parts.specs.Sum.{sum, at_six, at_seven}
use Rattle.items.specs.declared.Marks.{Marks}
use Rattle.items.specs.Walk.{Walked, walked, test_at, tested, begun, begun_at, with_acts, with_notes, at_nine, cased, leaves, delayed, target_marks, assigned, assign_at, change_at, together, finished, branched, walk, walk_all, walk_cases, walk_each}
use Rattle.expr_law.proofs.Least.{gather_append}
use Rattle.expr_law.proofs.Counted.{parts_all, parts_are, nine_is}
use Rattle.stmts_law.proofs.Counts.{Counts, both, turned, only, step, drop-nil}
use Rattle.stmts_law.proofs.Acts.{acts-each}

-- ---- what an expression counts

parts-room : (c : ℕ) (l : List ℕ) → c ≤ 1024 → (parts_all c l ≤ 1024) × (1024 - parts_all c l ≡ 1024 - c - length l)
unfolding parts_all
parts-room c [] h = (h, omega arith)
parts-room c (p ∷ l) h = go (ltb c 1024) refl (λ k. parts-room (c + 1) l k) (parts-room c l h)
  where
    on : (d x : ℕ) → 1024 - d ≡ 1024 - c - 1 → (x ≤ 1024) × (1024 - x ≡ 1024 - d - length l) → (x ≤ 1024) × (1024 - x ≡ 1024 - c - length (p ∷ l))
    on d x e (a, b) = (a, omega (arith, b, e))

    go : (b : Bool) → ltb c 1024 ≡ b → (c + 1 ≤ 1024 → (parts_all (c + 1) l ≤ 1024) × (1024 - parts_all (c + 1) l ≡ 1024 - (c + 1) - length l)) → (parts_all c l ≤ 1024) × (1024 - parts_all c l ≡ 1024 - c - length l)
        → (parts_all (cond b (c + 1) c) l ≤ 1024) × (1024 - parts_all (cond b (c + 1) c) l ≡ 1024 - c - length (p ∷ l))
    go true e f g = let k = ltb-true c 1024 e in on (c + 1) _ (omega arith) (f (omega arith))
    go false e f g = let k = ltb-false c 1024 e in on c _ (omega arith) g

abbrev places : Expr Name → List ℕ
places e = map place_of (within e)

-- ---- states

abbrev Moves : Walked → Walked → List ℕ → List ℕ → List ℕ → Type 0
Moves w v = Counts w.marks.statements w.marks.notes.parts w.marks.notes.nine v.marks.statements v.marks.notes.parts v.marks.notes.nine

abbrev Few : Walked → Type 0
Few w = w.marks.notes.parts ≤ 1024

abbrev Over : Walked → Walked → List Item → Type 0
Over w v is = Moves w v (gather statement_place is) (map place_of (parts_of is)) (gather item_size is)

parts-append : (a b : List Item) → map place_of (parts_of (a ++ b)) ≡ map place_of (parts_of a) ++ map place_of (parts_of b)
unfolding parts_of
parts-append [] b = refl
parts-append (i ∷ a) b = mapped (own i) (parts_of (a ++ b)) ∙ ap (λ (k : List ℕ). map place_of (own i) ++ k) (parts-append a b) ∙ sym (append_assoc (map place_of (own i)) (map place_of (parts_of a)) (map place_of (parts_of b))) ∙ ap (λ (k : List ℕ). k ++ map place_of (parts_of b)) (sym (mapped (own i) (parts_of a)))
  where
    mapped : (x y : List (Expr Name)) → map place_of (x ++ y) ≡ map place_of x ++ map place_of y
    mapped [] y = refl
    mapped (e ∷ x) y = ap (λ (k : List ℕ). place_of e ∷ k) (mapped x y)

by_lists : {s p n s₁ p₁ n₁ : ℕ} {a b c a₁ b₁ c₁ : List ℕ} → a ≡ a₁ → b ≡ b₁ → c ≡ c₁ → Counts s p n s₁ p₁ n₁ a b c → Counts s p n s₁ p₁ n₁ a₁ b₁ c₁
by_lists x y z m = rw (← x, ← y, ← z) m

abbrev Goes : ℕ → ℕ → ℕ → ℕ → ℕ → ℕ → List Item → Type 0
Goes s p n s₁ p₁ n₁ is = Counts s p n s₁ p₁ n₁ (gather statement_place is) (map place_of (parts_of is)) (gather item_size is)

then : {s p n s₁ p₁ n₁ s₂ p₂ n₂ : ℕ} (a b : List Item) → Goes s p n s₁ p₁ n₁ a → Goes s₁ p₁ n₁ s₂ p₂ n₂ b → Goes s p n s₂ p₂ n₂ (a ++ b)
then a b x y = by_lists (sym (gather_append statement_place a b)) (sym (parts-append a b)) (sym (gather_append item_size a b)) (both x y)

either : (b : Bool) (x y : Notes) → y.parts ≡ x.parts → (cond b x y).parts ≡ x.parts
either true x y e = refl
either false x y e = e

nine_of_lem : (b : Bool) (x : Notes) (p : ℕ) → (cond b x (at_nine x p)).nine ≡ cond b x.nine (min x.nine p)
unfolding at_nine
nine_of_lem true x p = refl
nine_of_lem false x p = refl

parts-apart : (n : Notes) (p : ℕ) → (at_nine n p).parts ≡ n.parts
unfolding at_nine
parts-apart n p = refl

-- a statement begins
begins : (look : List ℕ → Option Variable) (w : Walked) (p : ℕ) → Few w → Moves w (begun_at look p w) (p ∷ []) [] []
unfolding begun
begins look w p h =
    let e = either (ltb w.marks.statements 255) w.marks.notes (at_nine w.marks.notes p) (parts-apart w.marks.notes p) in
    let f = nine_of_lem (ltb w.marks.statements 255) w.marks.notes p in
    rw (e, f) (step w.marks.statements w.marks.notes.parts w.marks.notes.nine p h)

-- an expression is read
reads : (look : List ℕ → Option Variable) (w : Walked) (e : Expr Name) {s₁ p₁ n₁ : ℕ} → Few w → s₁ ≡ w.marks.statements → p₁ ≡ (sum look e w.marks.notes w.bytes).notes.parts → n₁ ≡ (sum look e w.marks.notes w.bytes).notes.nine
    → Counts w.marks.statements w.marks.notes.parts w.marks.notes.nine s₁ p₁ n₁ [] (places e) []
reads look w e {s₁} {p₁} {n₁} h a b c =
    let (few, room) = parts-room w.marks.notes.parts (places e) h in
    let q : p₁ ≡ parts_all w.marks.notes.parts (places e) = b ∙ parts_are look e w.marks.notes w.bytes in
    record {
      few = rw q few;
      statements = ap (λ (k : ℕ). 255 - k) a ∙ (omega arith);
      parts = ap (λ (k : ℕ). 1024 - k) q ∙ room;
      nine = c ∙ nine_is look e w.marks.notes w.bytes h ∙ ap (least w.marks.notes.nine) (sym (ap (λ (k : List ℕ). k ++ (drop (1024 - w.marks.notes.parts) (places e) ++ [])) (drop-nil (255 - w.marks.statements)) ∙ append-nil (drop (1024 - w.marks.notes.parts) (places e))));
    }

-- a fault of another kind is noted
notes_only : (w : Walked) (c : List ℕ) {s₁ p₁ n₁ : ℕ} → Few w → s₁ ≡ w.marks.statements → p₁ ≡ w.marks.notes.parts → n₁ ≡ least w.marks.notes.nine c → Counts w.marks.statements w.marks.notes.parts w.marks.notes.nine s₁ p₁ n₁ [] [] c
notes_only w c h a b e = rw (a, b) (only c h e)

marks-either : (b : Bool) (m k : Marks) → k.statements ≡ m.statements → k.notes.parts ≡ m.notes.parts → ((cond b m k).statements ≡ m.statements) × ((cond b m k).notes.parts ≡ m.notes.parts)
marks-either true m k e f = (refl, refl)
marks-either false m k e f = (e, f)

delay_note : (w : Walked) (n p : ℕ) → Few w → Moves w (walked (delayed w.marks n p) w.bytes) [] [] (when (ltb most_delay n) p ++ [])
unfolding delayed with_notes at_nine least
delay_note w n p h =
    let (a, b) = marks-either (leb n most_delay) w.marks (with_notes w.marks (at_nine w.marks.notes p)) refl refl in
    notes_only w (when (ltb most_delay n) p ++ []) h a b (go (dec_le n 255))
  where
    go : Dec (n ≤ 255) → (delayed w.marks n p).notes.nine ≡ least w.marks.notes.nine (when (ltb most_delay n) p ++ [])
    go (yes q) = rw (le-leb n 255 q, le-ltb 255 n q) refl
    go (no q) = let z : 255 < n = omega arith in rw (lt-leb n 255 z, lt-ltb 255 n z) refl

together_note : (w : Walked) (a p x : ℕ) → Few w → w.marks.acts ≡ min 9 (0 + x) → Moves w (walked (together w.marks a p) w.bytes) [] [] (when (ltb most_activities x) p)
unfolding together with_acts with_notes at_nine least
together_note w a p x h e =
    let (c, b) = marks-either (leb w.marks.acts most_activities) w.marks (with_notes w.marks (at_nine w.marks.notes p)) refl refl in
    notes_only w (when (ltb most_activities x) p) h c b (go (dec_le x 8))
  where
    go : Dec (x ≤ 8) → (together w.marks a p).notes.nine ≡ least w.marks.notes.nine (when (ltb most_activities x) p)
    go (yes q) = let z : w.marks.acts ≤ 8 = omega arith in rw (le-leb w.marks.acts 8 z, le-ltb 8 x q) refl
    go (no q) = let y : 8 < x = omega arith in let z : 8 < w.marks.acts = omega arith in rw (lt-leb w.marks.acts 8 z, lt-ltb 8 x y) refl

module _ (look : List ℕ → Option Variable) where
  some-parts : (e : Expr Name) → places e ≡ map place_of (within e ++ [])
  some-parts e = ap (map place_of) (sym (append-nil (within e)))

  test_moves : (w : Walked) (e : Expr Name) (p : ℕ) → Few w → Moves w (test_at look e p (begun_at look p w)).state (p ∷ []) (map place_of (within e ++ [])) []
  unfolding test_at tested with_notes at_seven
  test_moves w e p h =
      let x = begins look w p h in
      by_lists refl (some-parts e) refl (both x (reads look (begun_at look p w) e x.few refl refl refl))

  case_moves : (w : Walked) (e : Expr Name) (p : ℕ) → Few w → Moves w (test_at look e p (walked (cased w.marks) w.bytes)).state [] (map place_of (within e ++ [])) []
  unfolding test_at tested with_notes at_seven cased
  case_moves w e p h = by_lists refl (some-parts e) refl (reads look (walked (cased w.marks) w.bytes) e h refl refl refl)

  mutual
    unfolding walk finished with_notes with_acts leaves change_at target_marks assign_at assigned branched at_six at_seven items gather parts_of least

    pub nine-walk : (v : Stmt Name) (l b : Bool) (w : Walked) → Few w → Over w (walk look v l b w) (items v)
    nine-walk (skip h) l b w q = begins look w h.place q
    nine-walk (delay h p n) l b w q = let x = begins look w h.place q in both x (delay_note (begun_at look h.place w) n p x.few)
    nine-walk (change h c (whole v)) l b w q = begins look w h.place q
    nine-walk (change h c (part v j)) l b w q = begins look w h.place q
    nine-walk (assign h v e) l b w q =
        let x = begins look w h.place q in
        by_lists refl (some-parts e) refl (both x (reads look (begun_at look h.place w) e x.few refl refl refl))
    nine-walk (choice h e x y) l b w q =
        let t = test_moves w e h.place q in
        let a = nine-all x l b (test_at look e h.place (begun_at look h.place w)).state t.few in
        let c = nine-all y l b (walk_all look x l b (test_at look e h.place (begun_at look h.place w)).state) a.few in
        then (statement (choice h e x y) ∷ []) (items_all x ++ items_all y) t (then (items_all x) (items_all y) a c)
    nine-walk (while h e x) l b w q =
        let t = test_moves w e h.place q in
        then (statement (while h e x) ∷ []) (items_all x) t (nine-all x true b (test_at look e h.place (begun_at look h.place w)).state t.few)
    nine-walk (loop h x) l b w q = let t = begins look w h.place q in then (statement (loop h x) ∷ []) (items_all x) t (nine-all x true b (begun_at look h.place w) t.few)
    nine-walk (exit h) l b w q = begins look w h.place q
    nine-walk (break h) l b w q = begins look w h.place q
    nine-walk (switch h cs) l b w q = let t = begins look w h.place q in then (statement (switch h cs) ∷ []) (items_cases cs) t (nine_cases cs l true (begun_at look h.place w) t.few)
    nine-walk (parallel h bs) l b w q =
        let w₀ : Walked = walked (with_acts (begun w.marks h.place) 0) w.bytes in
        let t = begins look w h.place q in
        let a = nine-each bs l w₀ t.few in
        let c = together_note (walk_each look bs l w₀) w.marks.acts h.place (activities_sum bs) a.few (acts-each look bs l w₀ (omega arith)) in
        by_lists (append-nil _) (append-nil _) refl (turned (gather item_size (items_each bs)) (when (ltb most_activities (activities_sum bs)) h.place) (both (both t a) c))

    pub nine-all : (v : Stmts Name) (l b : Bool) (w : Walked) → Few w → Over w (walk_all look v l b w) (items_all v)
    nine-all end l b w q = notes_only w [] q refl refl refl
    nine-all (x ⨾ ss) l b w q = let a = nine-walk x l b w q in then (items x) (items_all ss) a (nine-all ss l b (walk look x l b w) a.few)

    pub nine_cases : (v : Cases Name) (l b : Bool) (w : Walked) → Few w → Over w (walk_cases look v l b w) (items_cases v)
    nine_cases (default d) l b w q = nine-all d l b w q
    nine_cases (case h e x cs) l b w q =
        let u : Walked = (test_at look e h.place (walked (cased w.marks) w.bytes)).state in
        let t = case_moves w e h.place q in
        let a = nine-all x l b u t.few in
        then (test h e ∷ []) (items_all x ++ items_cases cs) t (then (items_all x) (items_cases cs) a (nine_cases cs l b _ a.few))

    pub nine-each : (v : Branches Name) (l : Bool) (w : Walked) → Few w → Over w (walk_each look v l w) (items_each v)
    nine-each none l w q = notes_only w [] q refl refl refl
    nine-each (x ∥ bs) l w q =
        let u : Walked = walked (with_acts w.marks 1) w.bytes in
        let a = nine-all x l true u q in
        then (items_all x) (items_each bs) a (nine-each bs l _ a.few)

  -- 9 of a body, from nothing on, in the definition's own words
  pub nine-body : (v : Stmts Name) (l b : Bool) (w : Walked) → w.marks.statements ≡ 0 → w.marks.notes.parts ≡ 0
      → (walk_all look v l b w).marks.notes.nine ≡ least w.marks.notes.nine (drop most_statements (gather statement_place (items_all v)) ++ (drop most_parts (map place_of (parts_of (items_all v))) ++ gather item_size (items_all v)))
  nine-body v l b w e f =
      (nine-all v l b w (omega arith)).nine
      ∙ ap (λ (k : ℕ). least w.marks.notes.nine (drop (255 - k) (gather statement_place (items_all v)) ++ (drop (1024 - w.marks.notes.parts) (map place_of (parts_of (items_all v))) ++ gather item_size (items_all v)))) e
      ∙ ap (λ (k : ℕ). least w.marks.notes.nine (drop most_statements (gather statement_place (items_all v)) ++ (drop (1024 - k) (map place_of (parts_of (items_all v))) ++ gather item_size (items_all v)))) f
