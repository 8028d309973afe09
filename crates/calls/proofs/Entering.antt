-- A call entered, by what its parts tell.
-- Assumes nothing.
use mathlib.Core.Bool.{Bool, true, false, cond}
use mathlib.Core.Path.{◌≡◌, refl, sym, ◌∙◌, ap, ap₂, subst}
use mathlib.Core.List.{List, [], ◌∷◌, map}
use mathlib.Core.Option.{none, some}
use Rattle.std.specs.Prelude.{Option, Some, None}
use Prim.Native.Nat.{ℕ, suc, ◌+◌, ◌-◌, ◌*◌, ◌≤◌, ◌<◌}
use native.Mathlib.Omega.{arith}
use lib.Dec.{ltb, leb}
use lib.ListN.{length, take}
use borrow.Author.Tests.{lt-ltb, le-leb, ltb-true, leb-true}
use Rattle.meaning.specs.Tree.{Name}
use Rattle.meaning.specs.Declared.{same_bytes}
use Rattle.meaning.specs.Unexpanded.{Term, Commands, call}
use Rattle.meaning.specs.Unexpanded as unexpanded
use Rattle.meaning.specs.Expansion.{Bound, bind, replaced, moved, allowed_by, same_count, alone, expand_all, called}
use Rattle.language.specs.Words.{Word}
use Rattle.language.specs.Grammar.{Actuals, Statements, most_levels}
use Rattle.language.specs.Trees.{name_at}
use Rattle.words.specs.Runs.{part}
use Rattle.descent_law.specs.Told.{Told}
use Rattle.descent_law.proofs.Statements.{statements-told}
use Rattle.hand.specs.declared.Here.{Here}
use Rattle.hand.specs.Along.{Along, Stands, Near, Begins}
use Rattle.hand.proofs.Chosen.{called_by_lem}
use Rattle.names.specs.Look.{look_in}
use Rattle.parts.specs.Beside.{tree_bytes, Beside, beside}
use Rattle.frames_law.specs.Frames.{no_place, told_at, NamedAt}
use Rattle.frames.specs.declared.Under.{Under}
use Rattle.frames.specs.Layout.{procedure_at, formals_at, body_from, frame_bytes}
use Rattle.frames.specs.Open.{Open, Handed, called_under}
use Rattle.frames.specs.Put.{Puts, frame_in, wiped, zero_from, Over}
use Rattle.frames.specs.Row.{row_in}
use Rattle.frames.proofs.Formal.{none-some}
use Rattle.frames.proofs.Heads.{Head, head_of, word_moves}
use Rattle.frames.proofs.Putting.{puts_size, puts_names, puts_on, zeros_clean, wiped-back, frame_caller, frame_procedure, frame_other, over_start, over_frame}
use Rattle.frames.proofs.Stays.{Same, places_stay, all-parts_stay, all-levels_stay, nested-few, chain_has, look_stays}
use Rattle.frames.proofs.Rowed.{row_less, Calls, calls-none, calls-row}
use Rattle.frames.proofs.Pushing.{as_many_lem, open_push}
use Rattle.allow.specs.Allowed.{Allows}
use Rattle.calls.specs.declared.actuals.Handing.{Handing}
use Rattle.calls.specs.declared.Entered.{Entered}
use Rattle.calls.specs.declared.Expanded.{Expanded}
use Rattle.calls.specs.Room.{frame_end, BodyAt}
use Rattle.calls.specs.Hands.{Known, stand_for, Hands}
use Rattle.calls.specs.Settles.{frame_under, framed, is_expanded, Leaves, Settles}
use Rattle.calls.specs.Enters.{Body, Outcome, Wrote, Enters}

-- ---- where the frame ends

-- a frame can be written up to a place
pub record Ends (z : List ℕ) (u : Under) (row count to : ℕ) : Type 0 where
  pub found : row < 65535
  pub few : u.depth < 65535
  pub end : to ≡ u.top + 4 + count * 4
  pub fits : to ≤ 16384
  pub clean : zero_from z u.top (to - u.top) ≡ true

some_is : {a b : ℕ} → some a ≡ some b → a ≡ b
some_is e = cc

pub end_known : {z : List ℕ} {u : Under} {row count to : ℕ} → some to ≡ frame_end z u row count → Ends z u row count to
unfolding frame_end
end_known {z} {u} {row} {count} {to} e = go (ltb row no_place) (ltb u.depth no_place) (leb here 16384) (zero_from z u.top (here - u.top)) refl refl refl refl (sym e)
  where
    here : ℕ
    here = u.top + 4 + count * 4

    go : (a b c d : Bool) → ltb row no_place ≡ a → ltb u.depth no_place ≡ b → leb here 16384 ≡ c → zero_from z u.top (here - u.top) ≡ d
        → cond a (cond b (cond c (cond d (some here) none) none) none) none ≡ some to → Ends z u row count to
    go true true true true a b c d q =
        let same : here ≡ to = some_is q in
        record { found = ltb-true row no_place a; few = ltb-true u.depth no_place b; end = sym same; fits = rw (← same) (leb-true here 16384 c); clean = rw (← same) d }
    go true true true false a b c d q = none-some q
    go true true false x a b c d q = none-some q
    go true false y x a b c d q = none-some q
    go false w y x a b c d q = none-some q

-- under what is known of the area there is room for every procedure that can be called
end_there : {s z : List ℕ} {ps : List unexpanded.Procedure} {bound : List (Bound Term)} {u : Under} (r : ℕ) → Open s z ps bound u → r < u.seen → r < 65535
    → frame_end z u r (length (formals_at s (procedure_at z r))) ≡ some (u.top + 4 + length (formals_at s (procedure_at z r)) * 4)
unfolding frame_end
end_there {s} {z} {ps} {bound} {u} r o h g =
    let n = length (formals_at s (procedure_at z r)) in
    let fits : u.top + 4 + length (formals_at s (procedure_at z r)) * 4 ≤ 16384 - o.all * 4 = omega (arith, o.room, chain_has s z u.seen r h) in
    let zeros : zero_from z u.top (u.top + 4 + length (formals_at s (procedure_at z r)) * 4 - u.top) ≡ true = zeros_clean z (u.top + 4 + length (formals_at s (procedure_at z r)) * 4 - u.top) u.top (λ i a b. o.zeros i a (omega (arith, o.room))) in
    rw (lt-ltb r no_place g, lt-ltb u.depth no_place (omega (arith, nested-few s z z u.depth u.frame u.top o.nested, o.room)), le-leb (u.top + 4 + length (formals_at s (procedure_at z r)) * 4) 16384 (omega (arith, fits)), zeros) refl

-- ---- as many actuals as formals

same_count_lem : (ns : List Name) (es : List Term) → length ns ≡ length es → same_count ns es ≡ true
unfolding same_count
same_count_lem [] [] h = refl
same_count_lem [] (e ∷ es) h = absurd (omega arith)
same_count_lem (n ∷ ns) [] h = absurd (omega arith)
same_count_lem (n ∷ ns) (e ∷ es) h = same_count_lem ns es (omega arith)

other-count : (ns : List Name) (es : List Term) → ¬ (length ns ≡ length es) → same_count ns es ≡ false
unfolding same_count
other-count [] [] h = absurd (h refl)
other-count [] (e ∷ es) h = refl
other-count (n ∷ ns) [] h = refl
other-count (n ∷ ns) (e ∷ es) h = other-count ns es (λ q. h (ap suc q))

map-length : (f : Term → Term) (ts : List Term) → length (map f ts) ≡ length ts
map-length f [] = refl
map-length f (t ∷ ts) = ap suc (map-length f ts)

-- ---- what a call of the first of these procedures comes to

module _ (p : unexpanded.Procedure) (qs : List unexpanded.Procedure) (at : ℕ) (n : Name) (es : List Term) (name : same_bytes p.name.bytes n.bytes ≡ true) where
  call-counts : same_count p.formals es ≡ false → called (p ∷ qs) at n es ≡ alone (call n es)
  unfolding called
  call-counts e = rw (name, e) refl

  call-refused : same_count p.formals es ≡ true → allowed_by (bind p.formals es) p.body ≡ false → called (p ∷ qs) at n es ≡ alone (call n es)
  unfolding called
  call-refused e a = rw (name, e, a) refl

  call_expands : same_count p.formals es ≡ true → allowed_by (bind p.formals es) p.body ≡ true → called (p ∷ qs) at n es ≡ expand_all (called qs at) (λ q. at) (bind p.formals es) p.body
  unfolding called
  call_expands e a = rw (name, e, a) refl

-- ---- what stays where the frame's head is written

handed_stays : (s z : List ℕ) (top caller p n : ℕ) (ts es : List Term) → Handed s z (top + 4) n ts es → Handed s (frame_in z top caller p) (top + 4) n ts es
handed_stays s z top caller p n ts es x =
    let same : Same z (frame_in z top caller p) (top + 4) (top + 4 + n * 4) = λ i a b. frame_other z top caller p i (λ g. absurd (omega (arith, g.1))) in
    record {
      texts = rw (places_stay z (frame_in z top caller p) n (top + 4) same) x.texts;
      parts = rw (all-parts_stay z (frame_in z top caller p) n (top + 4) same) x.parts;
      levels = rw (all-levels_stay z (frame_in z top caller p) n (top + 4) same) x.levels;
    }

-- all is as it was
back : (t v₁ v : List ℕ) (top to : ℕ) (y : List ℕ) → length v₁ ≡ length t → Over (beside t).names y top to → Puts v₁ v (wiped y top (to - top)) → beside v ≡ beside t
unfolding beside
back t v₁ v top to y size o p = p.behind ∙ ap₂ (λ (n : ℕ) (l : List ℕ). record { size = n; names = l }) size (wiped-back (beside t).names y top to o)

-- ---- the parts of it

pub settled_ok : {s t v : List ℕ} {u : Under} {row p to : ℕ} {body word : Here} {b : Bool} → Puts t v (framed t u p) → Allows s (beside v).names (frame_under u row to) body b → b ≡ true
    → Settles s t v u row p to body word (record { word = word; expanded = Some (record { under = frame_under u row to; body = body }) })
settled_ok q a e = record { behind = refl; allows = rw (e, puts_names q) at a; leaves = (q, refl, refl) }

pub settled_not : {s t v₁ v : List ℕ} {u : Under} {row p to : ℕ} {body word : Here} {b : Bool} → Puts t v₁ (framed t u p) → Allows s (beside v₁).names (frame_under u row to) body b → b ≡ false
    → Puts v₁ v (wiped (beside v₁).names u.top (to - u.top)) → Settles s t v u row p to body word (record { word = word; expanded = None })
settled_not {u = u} {to = to} q a e w = record { behind = refl; allows = rw (e, puts_names q) at a; leaves = puts_on (λ (z : List ℕ). wiped z u.top (to - u.top)) q w }

-- ---- the whole

module _ (s t : List ℕ) (u : Under) (first opener : Here) (near : Near s first) (opens : Begins s first.next opener) where
  abbrev z : List ℕ
  z = (beside t).names

  -- the words of the call
  module _ (v : List ℕ) (room : ℕ) (h : Handing) (hands : Hands s t v u opener.next room h) (word : Here) (follows : Begins s h.word.next word) where
    abbrev Read : List Word → List Term → Type 0
    Read rest ts = Stands s word rest × (h.count ≡ length ts)
        × ((bound : List (Bound Term)) → Known s z u bound → h.count ≡ room → u.top + 4 + room * 4 ≤ length z → Handed s (beside v).names (u.top + 4) room ts (stand_for u bound ts))

    read : (w o c : Word) (tail rest : List Word) → Stands s first (w ∷ o ∷ tail) → (f m : ℕ) (ts : List Term) → m ≤ most_levels → Told f Actuals m tail ts (c ∷ rest) → Read rest ts
    read w o c tail rest (same, along) f m ts few told =
        let (x, behind) = opens.stands (o ∷ tail) along in
        let (stands, count, given) = hands.told tail behind f m ts c rest few told in
        (follows.stands rest stands.1, count, given)

    past : first.next ≤ word.place
    past = omega (arith, opens.later, opens.near.on, hands.later, hands.near.on, follows.later)

  named : (w : Word) (ws : List Word) → Stands s first (w ∷ ws) → (moved (told_at u.at) (name_at w)).bytes ≡ part s first.place first.next
  named w ws st = sym st.0.bytes

  -- nothing is written, and the call stays
  module _ (v : List ℕ) (h : Handing) (hands : Hands s t v u opener.next 0 h) (word : Here) (follows : Begins s h.word.next word) where
    abbrev still : Entered
    still = record { word = word; expanded = None }

    enters_still : ((n : Name) → n.bytes ≡ part s first.place first.next → (es : List Term) (ps : List unexpanded.Procedure) (bound : List (Bound Term)) → Open s z ps bound u → called ps u.at n es ≡ alone (call n es)) → Enters s t v u first still
    enters_still stays =
        record {
          near = follows.near;
          past = past v 0 h hands word follows;
          tree = hands.beyond.tree;
          size = hands.beyond.size;
          wrote = hands.beyond.kept refl;
          told = λ w o c tail rest st f m ts few y. ((read v 0 h hands word follows w o c tail rest st f m ts few y).0, λ ps bound op. stays (moved (told_at u.at) (name_at w)) (named w (o ∷ tail) st) (stand_for u bound ts) ps bound op);
        }

    -- there is no such procedure
    pub enters_none : none ≡ row_in s z u.seen (part s first.place first.next) → Enters s t v u first still
    enters_none e = enters_still (λ n bytes es ps bound op. calls-none s z n u.seen ps op.rows (ap (row_in s z u.seen) bytes ∙ sym e) u.at es)

    -- no frame can be written: under what is known of the area that is not so
    pub enters_full : {row p count : ℕ} → some row ≡ row_in s z u.seen (part s first.place first.next) → p ≡ procedure_at z row → count ≡ length (formals_at s p) → none ≡ frame_end z u row count → Enters s t v u first still
    enters_full {row} {p} {count} rowed at counted full = enters_still stays
      where
        stays : (n : Name) → n.bytes ≡ part s first.place first.next → (es : List Term) (ps : List unexpanded.Procedure) (bound : List (Bound Term)) → Open s z ps bound u → called ps u.at n es ≡ alone (call n es)
        stays n bytes es ps bound op =
            let less = row_less s z (part s first.place first.next) u.seen row (sym rowed) in
            none-some (full ∙ ap (frame_end z u row) (counted ∙ ap (λ (l : ℕ). length (formals_at s l)) at) ∙ end_there {ps = ps} {bound = bound} row op less (omega (arith, less, op.some, op.room)))

  -- a frame is written
  module _ (row p count to : ℕ) (rowed : some row ≡ row_in s z u.seen (part s first.place first.next)) (at : p ≡ procedure_at z row) (counted : count ≡ length (formals_at s p)) (ends : Ends z u row count to) (v₁ : List ℕ) (h : Handing) (hands : Hands s t v₁ u opener.next count h) (word : Here) (follows : Begins s h.word.next word) where
    abbrev place : ℕ
    place = procedure_at z row

    found : row_in s z u.seen (part s first.place first.next) ≡ some row
    found = sym rowed

    calls : (n : Name) → n.bytes ≡ part s first.place first.next → (ps : List unexpanded.Procedure) (bound : List (Bound Term)) → Open s z ps bound u → Calls s z n ps u.seen row
    calls n bytes ps bound op = calls-row s z n u.seen ps row op.rows (ap (row_in s z u.seen) bytes ∙ found)

    over : Over z (beside v₁).names u.top to
    over = hands.beyond.over z to (omega (arith, ends.end)) (over_start z u.top to ends.clean)

    many : count ≡ length (formals_at s place)
    many = counted ∙ ap (λ (l : ℕ). length (formals_at s l)) at

    formals : (n : Name) (ps : List unexpanded.Procedure) (c : Calls s z n ps u.seen row) → count ≡ length c.procedure.formals
    formals n ps c = many ∙ as_many_lem (NamedAt s) (formals_at s place) c.procedure.formals (head_of s place c.procedure near.short c.stands).formals

    -- P7: another count of actuals
    pub enters_other : (v : List ℕ) → ¬ (h.count ≡ count) → Puts v₁ v (wiped (beside v₁).names u.top (to - u.top)) → Enters s t v u first (record { word = word; expanded = None })
    enters_other v differ puts =
        record {
          near = follows.near;
          past = past v₁ count h hands word follows;
          tree = puts.tree ∙ hands.beyond.tree;
          size = puts_size puts ∙ hands.beyond.size;
          wrote = back t v₁ v u.top to (beside v₁).names hands.beyond.size over puts;
          told = λ w o c tail rest st f m ts few y. let (a, b, g) = read v₁ count h hands word follows w o c tail rest st f m ts few y in (a, λ ps bound op. stays (moved (told_at u.at) (name_at w)) (named w (o ∷ tail) st) ts b ps bound op);
        }
      where
        stays : (n : Name) → n.bytes ≡ part s first.place first.next → (ts : List Term) → h.count ≡ length ts → (ps : List unexpanded.Procedure) (bound : List (Bound Term)) → Open s z ps bound u → called ps u.at n (stand_for u bound ts) ≡ alone (call n (stand_for u bound ts))
        stays n bytes ts b ps bound op =
            let c = calls n bytes ps bound op in
            let other : same_count c.procedure.formals (stand_for u bound ts) ≡ false = other-count c.procedure.formals (stand_for u bound ts) (λ q. differ (b ∙ sym (map-length (replaced (told_at u.at) bound) ts) ∙ sym q ∙ sym (formals n ps c))) in
            c.expands u.at (stand_for u bound ts) ∙ call-counts c.procedure c.before u.at n (stand_for u bound ts) c.name other

    -- P7 is asked under the frame
    module _ (body : Here) (begins : BodyAt s (body_from s p) body) (just : h.count ≡ count) where
      abbrev y : List ℕ
      y = framed v₁ u p

      wide : u.top + 4 + count * 4 ≤ length z → u.top + 4 ≤ length (beside v₁).names
      wide l = omega (arith, over.size)

      over_all_lem : Over z y u.top to
      over_all_lem = over_frame z (beside v₁).names to u.top u.frame p over (omega (arith, ends.end))

      under_is : frame_under u row to ≡ called_under s place row u
      under_is = ap (λ (l : ℕ). record { at = u.at; frame = u.top; depth = u.depth + 1; seen = row; top = l }) (ends.end ∙ ap (λ (l : ℕ). u.top + 4 + l * 4) many ∙ (let e : u.top + 4 + length (formals_at s place) * 4 ≡ u.top + frame_bytes s place = omega arith in e))

      -- what is known under it
      module _ (n : Name) (bytes : n.bytes ≡ part s first.place first.next) (ts : List Term) (as-ts : h.count ≡ length ts)
          (given : (bound : List (Bound Term)) → Known s z u bound → h.count ≡ count → u.top + 4 + count * 4 ≤ length z → Handed s (beside v₁).names (u.top + 4) count ts (stand_for u bound ts))
          (ps : List unexpanded.Procedure) (bound : List (Bound Term)) (op : Open s z ps bound u) where
        abbrev es : List Term
        es = stand_for u bound ts

        c : Calls s z n ps u.seen row
        c = calls n bytes ps bound op

        abbrev bound₂ : List (Bound Term)
        bound₂ = bind c.procedure.formals es

        long : u.top + 4 + count * 4 ≤ length z
        long = omega (arith, ends.end, ends.fits, op.long)

        pushed : Open s y c.before bound₂ (frame_under u row to)
        pushed =
            subst (Open s y c.before bound₂) (sym under_is)
            (open_push s z y u ps c.before bound row c.procedure near.short op c.stands c.rows c.less
            (let e : to ≡ u.top + frame_bytes s place = ap (λ (v : Under). v.top) under_is in rw (← e) over_all_lem) (frame_caller (beside v₁).names u.top u.frame p (wide long))
            (frame_procedure (beside v₁).names u.top u.frame p (wide long) ∙ at) ts
            (rw (← many) (handed_stays s (beside v₁).names u.top u.frame p count ts es (given bound (record { framed = op.framed; sized = op.sized; nested = op.nested }) just long))))

        head : Head s place c.procedure
        head = head_of s place c.procedure near.short c.stands

        inside : body_from s p ≤ length s
        inside =
            let (f, i, k, row) = statements-told head.depth head.levels head.words c.procedure.body (head.last ∷ head.rest) head.body in
            let (w, tail, e) = called_by_lem Statements head.words i k in
            let (a, b) : Along s (body_from s place) (w ∷ tail) = rw e at head.along in
            let (g₁, g₂) = word_moves s (body_from s place) w a in
            rw at (omega arith)

        its : Body s body c.procedure.body
        its =
            record {
              words = head.words;
              rest = head.rest;
              last = head.last;
              depth = head.depth;
              levels = head.levels;
              few = head.few;
              stands = (begins.begins inside).stands head.words (subst (λ (l : ℕ). Along s (body_from s l) head.words) (sym at) head.along);
              told = head.body;
              ends = head.ends;
            }

        counts : same_count c.procedure.formals es ≡ true
        counts = same_count_lem c.procedure.formals es (sym (formals n ps c) ∙ sym just ∙ as-ts ∙ sym (map-length (replaced (told_at u.at) bound) ts))

        allowed : {b : Bool} → Allows s y (frame_under u row to) body b → b ≡ allowed_by bound₂ c.procedure.body
        allowed a = a.told bound₂ pushed.framed its.words its.stands its.depth its.levels c.procedure.body its.last its.rest its.told its.ends

        outcome : (v : List ℕ) (r : Option Expanded) → Leaves v₁ v u row p to body r → Allows s y (frame_under u row to) body (is_expanded r) → Outcome s (beside v).names ps u.at n es r
        outcome v (Some r) (puts, under, first_word) a =
            record {
              before = c.before;
              bound = bound₂;
              body = c.procedure.body;
              opened = rw (puts_names puts, under) pushed;
              read = rw first_word its;
              same = rw under (c.expands u.at es ∙ call_expands c.procedure c.before u.at n es c.name counts (sym (allowed a)));
            }
        outcome v None puts a = c.expands u.at es ∙ call-refused c.procedure c.before u.at n es c.name counts (sym (allowed a))

      wrote : (v : List ℕ) (r : Option Expanded) → Leaves v₁ v u row p to body r → Wrote s t v u r
      wrote v (Some r) (puts, under, first_word) =
          (rw (puts_names puts, under) over_all_lem, rw first_word begins.near, rw under refl, rw under (row_less s z (part s first.place first.next) u.seen row found), rw under (omega (arith, ends.end)))
      wrote v None puts = back t v₁ v u.top to y hands.beyond.size over_all_lem puts

      leaves-tree : (v : List ℕ) (r : Option Expanded) → Leaves v₁ v u row p to body r → (take tree_bytes v ≡ take tree_bytes v₁) × (length v ≡ length v₁)
      leaves-tree v (Some r) (puts, under, first_word) = (puts.tree, puts_size puts)
      leaves-tree v None puts = (puts.tree, puts_size puts)

      pub enters_settled : (v : List ℕ) (r : Entered) → Settles s v₁ v u row p to body word r → Enters s t v u first r
      enters_settled v r x =
          let (tree, size) = leaves-tree v r.expanded x.leaves in
          record {
            near = rw x.behind follows.near;
            past = rw x.behind (past v₁ count h hands word follows);
            tree = tree ∙ hands.beyond.tree;
            size = size ∙ hands.beyond.size;
            wrote = wrote v r.expanded x.leaves;
            told = λ w o c tail rest st f m ts few q.
                let (a, b, g) = read v₁ count h hands word follows w o c tail rest st f m ts few q in
                (rw x.behind a, λ ps bound op. outcome (moved (told_at u.at) (name_at w)) (named w (o ∷ tail) st) ts b g ps bound op v r.expanded x.leaves x.allows);
          }

-- ---- left again

-- a body was read under the frame, which is made zero: all is as it was
pub left : (t t₁ t₂ v : List ℕ) (top to : ℕ) → Over (beside t).names (beside t₁).names top to → length t₁ ≡ length t → beside t₂ ≡ beside t₁ → Puts t₂ v (wiped (beside t₂).names top (to - top)) → beside v ≡ beside t
unfolding beside
left t t₁ t₂ v top to o size kept p =
    let n : (beside t₂).names ≡ (beside t₁).names = ap (λ (b : Beside). b.names) kept in
    let l : length t₂ ≡ length t = ap (λ (b : Beside). b.size) kept ∙ size in
    back t t₂ v top to (beside t₂).names l (rw n o) p

-- the declared names are the same under the frame
pub names_stay : (s t v : List ℕ) (top to count : ℕ) → Over (beside t).names (beside v).names top to → count * 4 ≤ top → (x : List ℕ) → look_in s (beside v).names count x ≡ look_in s (beside t).names count x
names_stay s t v top to count o h x = look_stays s (beside t).names (beside v).names count top x h (λ i a b. o.low i b)
