-- The laws of the reader of a call: one for each way on.
-- Assumes nothing.
use mathlib.Core.Bool.{Bool, true, false, cond}
use mathlib.Core.Path.{◌≡◌, refl, sym, ◌∙◌, ap, subst}
use mathlib.Core.List.{List, [], ◌∷◌, ◌++◌, map}
use mathlib.Core.Option.{Option}
use Prim.Native.Nat.{ℕ, ◌+◌, ◌-◌, ◌*◌, ◌≤◌, ◌<◌}
use native.Mathlib.Omega.{arith}
use lib.Dec.{ltb}
use lib.ListN.{length, take, length-drop}
use borrow.Author.Tests.{eq-eqb, le-ltb}
use Rattle.meaning.specs.Tree.{Name}
use Rattle.meaning.specs.Numbers.{Variable}
use Rattle.meaning.specs.Unexpanded.{Term, Command, call, Commands, Procedure}
use Rattle.meaning.specs.Expansion.{Bound, moved, replaced, expand, called, outermost, alone}
use Rattle.meaning.specs.Base.{head_at, idle}
use Rattle.meaning.proofs.Unchanged.{same_term}
use Rattle.meaning.specs.Levels.{most_levels}
use Rattle.meaning.specs.Tree as tree
use Rattle.language.specs.Words.{Word}
use Rattle.language.specs.Grammar.{AfterName, Statements}
use Rattle.descent_law.proofs.Deeper.{deeper}
use Rattle.language.specs.Trees.{name_at}
use Rattle.descent_law.specs.Told.{Told}
use Rattle.descent_law.specs.Rows.{StatementRow, AfterNameRow}
use Rattle.descent_law.proofs.Statements.{after-name-told}
use Rattle.hand.specs.declared.Here.{Here}
use Rattle.hand.specs.Along.{Stands, Near, Begins}
use Rattle.names.specs.Look.{look_in}
use Rattle.parts.specs.Beside.{tree_bytes, Beside, beside}
use Rattle.parts.proofs.Beside.{same_size, whole-area, same_area}
use Rattle.frames_law.specs.Frames.{no_place, told_at, Framed}
use Rattle.frames.specs.declared.Under.{Under}
use Rattle.frames.specs.Layout.{frames_of}
use Rattle.frames.specs.Open.{Open}
use Rattle.frames.specs.Open as frame
use Rattle.frames.specs.Put.{Puts, wiped}
use Rattle.frames.proofs.Putting.{wiped-back}
use Rattle.frames_law.proofs.Frames.{told-call}
use Rattle.std.specs.Prelude.{Option as Optional, Some, None}
use Rattle.calls.specs.declared.Entered.{Entered}
use Rattle.calls.specs.declared.Expanded.{Expanded}
use Rattle.calls.specs.Enters.{Expands, Outcome, Wrote, Enters}
use Rattle.own_law.proofs.Noted.{read-refused}
use Rattle.own_law.specs.Own.{nothing, own_all}
use Rattle.own_law.proofs.Calls.{kept}
use Rattle.own_law.proofs.Early.{read-outermost}
use Rattle.expand_law.proofs.Places.{faults_at_call}
use Rattle.gauge.specs.declared.Gauged.{Gauged}
use Rattle.gauge.specs.Measures.{Sized, Measures}
use Rattle.order_law.proofs.Senses.{own-bound}
use Rattle.order_law.proofs.Outermost.{read-levels}
use Rattle.tiers.proofs.Laws.{first_is}
use Rattle.tiers.proofs.Rows.{call_only, one_there}
use Rattle.items.specs.declared.Marks.{Marks}
use Rattle.items.specs.declared.Read.{Read}
use Rattle.items.specs.Walk.{Walked, walked, walked_of, walk, walk_all}
use Rattle.items.specs.Under.{six_at, nine_at, nine_in, read, inside_at, Scope, sense_of, one_in, all_in}
use Rattle.items.specs.Came.{around, RowCame, CallAt, CallCame, OutermostCame, All}
use Rattle.order_law.proofs.Inside.{any-levels, call_in, body_in, read-apart, behind_by, behind-apart, look-alike}
use Rattle.plain.specs.Stays.{Refuses, Passes}

-- ---- a name with a `(` behind it

module _ {s : List ℕ} {h a : Here} {k : ℕ} (few : k ≤ most_levels) (second : Begins s h.next a) (opens : a.kind ≡ 14) where
  -- is a call
  called_at : (ws : List Word) → Stands s h ws → (f : ℕ) (v : Command) (rest : List Word) → StatementRow f k ws v rest 5 → (w : Name) × (ts : List Term) × CallAt s h w ts rest × (v ≡ call w ts)
  called_at ws st f v rest (w, tail, g, e, y, d) =
      let (same, along) = first_is st e in
      let st₁ = second.stands tail along in
      let (f₁, i, p, row) = after-name-told f k tail g rest y in
      go (subst (Stands s h) e st) f₁ (subst (AfterNameRow f₁ k tail g rest) (one_there AfterName 14 call_only s a tail i st₁ p opens) row)
    where
      go : Stands s h (w ∷ tail) → (f₁ : ℕ) → AfterNameRow f₁ k tail g rest 1 → (w : Name) × (ts : List Term) × CallAt s h w ts rest × (v ≡ call w ts)
      go st₂ f₁ (o, c, m, tail₁, ts, q, lev, told, is) =
          (name_at w, ts, record { fuel = f₁; levels = m; few = omega (arith, few, lev); word = w; opens = o; closes = c; tail = tail₁; stands = subst (λ (l : List Word). Stands s h (w ∷ l)) q st₂; told = told; named = refl; row-fuel = f; row-levels = k; row-few = few; row = (w, o ∷ tail₁, g, refl, subst (λ (l : List Word). Told f AfterName k l g rest) q y, sym (ap (λ (n : Name → Command). n (name_at w)) is)) }, d ∙ ap (λ (n : Name → Command). n (name_at w)) is)

  module _ {z : List ℕ} {count : ℕ} {under : Under} {l b : Bool} {m : Marks} {t u : List ℕ} {r : Read} where
    pub call-named : under.at < no_place → CallCame s z count under l b h m t u r → RowCame s z count under k l b 5 h m t u r
    call-named inside came =
        record {
          on = came.on;
          told = λ o ws st f v rest x.
              let (w, ts, at, is) = called_at ws st f v rest x in
              let i = came.told o inside (around k) w ts rest at in
              record { word = i.word; walks = i.walks ∙ ap (λ (y : Command). one_in (sense_of count o) (around k) y l b (walked m t)) (sym is) };
        }

    pub outermost-named : ¬ (under.at < no_place) → OutermostCame s z count under k l b h m t u r → RowCame s z count under k l b 5 h m t u r
    outermost-named outside came =
        record {
          on = came.on;
          told = λ o ws st f v rest x.
              let (w, ts, at, is) = called_at ws st f v rest x in
              let i = came.told o outside w ts rest at in
              record { word = i.word; walks = i.walks ∙ ap (λ (y : Command). one_in (sense_of count o) (around k) y l b (walked m t)) (sym is) };
        }

-- ---- a call inside another

-- what the call comes to, whatever levels are open around
abbrev reading : (s z : List ℕ) (count n : ℕ) → Commands → Bool → Bool → Walked → Walked
reading s z count n x l b w = read (look_in s z count) true n x l b w

module _ {s : List ℕ} {under : Under} {h : Here} {t t₁ : List ℕ} {e : Entered} (enters : Enters s t t₁ under h e) where
  behind-call : {v : Name} {ts : List Term} {rest : List Word} → CallAt s h v ts rest → Stands s e.word rest
  behind-call {v} {ts} {rest} at = (enters.told at.word at.opens at.closes at.tail rest at.stands at.fuel at.levels ts at.few at.told).0

  -- nothing is written
  pub wrote_none : e.expanded ≡ None → t₁ ≡ t
  wrote_none no_call = same_area t t₁ enters.tree (subst (Wrote s t t₁ under) no_call enters.wrote)

  pub wrote_frame : {d : Expanded} → e.expanded ≡ Some d → Wrote s t t₁ under (Some d)
  wrote_frame yes-call = subst (Wrote s t t₁ under) yes-call enters.wrote

  module _ {count : ℕ} (o : Scope s (beside t).names count under) (inside : under.at < no_place) {v : Name} {ts : List Term} {rest : List Word} (at : CallAt s h v ts rest) where
    -- what the call stands for, by whether it is expanded
    outcome : (c : Optional Expanded) → e.expanded ≡ c → Outcome s (beside t₁).names o.procedures under.at (record { bytes = v.bytes; place = under.at }) (map (replaced (λ q. under.at) o.bound) ts) c
    outcome c is =
        subst (λ (n : Name). Outcome s (beside t₁).names o.procedures under.at (record { bytes = n.bytes; place = under.at }) (map (replaced (λ q. under.at) o.bound) ts) c) (sym at.named)
        (subst (λ (f : ℕ → ℕ). Outcome s (beside t₁).names o.procedures under.at (moved f (name_at at.word)) (map (replaced f o.bound) ts) c) (told-call under.at inside)
        (subst (Outcome s (beside t₁).names o.procedures under.at (moved (told_at under.at) (name_at at.word)) (map (replaced (told_at under.at) o.bound) ts)) is
        ((enters.told at.word at.opens at.closes at.tail rest at.stands at.fuel at.levels ts at.few at.told).1 o.procedures o.bound o.opened)))

-- P7: refused
refused-read : (look : List ℕ → Option Variable) (n : ℕ) (v : Name) (ts : List Term) (l b : Bool) (w : Walked) → six_at v.place (walk look (tree.skip (head_at v.place)) l b w) ≡ read look true n (alone (call v ts)) l b w
unfolding walk
refused-read look n v ts l b w = sym (read-refused six_at (nine_in true) (λ x. walk_all look x l b) n v ts w)

pub call-refused : {s : List ℕ} {count : ℕ} {under : Under} {l b : Bool} {h : Here} {m : Marks} {t t₁ u : List ℕ} {e : Entered} {r : Read} → Near s h → Enters s t t₁ under h e → e.expanded ≡ None → Refuses under.at e.word m t₁ u r
    → CallCame s (beside t).names count under l b h m t u r
call-refused {s} {count} {under} {l} {b} {h} {m} {t} {t₁} {u} {e} {r} near enters no_call fin =
    record {
      on = record { near = rw fin.word enters.near; later = rw fin.word (omega (arith, enters.past, near.on)); kept = fin.kept ∙ ap beside (wrote_none enters no_call) };
      told = λ o inside n v ts rest at.
          record {
            word = rw fin.word (behind-call enters at);
            walks = fin.walks (look_in s (beside t).names count) l b
                ∙ ap (λ (y : List ℕ). six_at under.at (walk (look_in s (beside t).names count) (tree.skip (head_at under.at)) l b (walked m y))) (wrote_none enters no_call)
                ∙ refused-read (look_in s (beside t).names count) n (record { bytes = v.bytes; place = under.at }) (map (replaced (λ q. under.at) o.bound) ts) l b (walked m t)
                ∙ ap (λ (y : Commands). reading s (beside t).names count n y l b (walked m t)) (sym (outcome enters o inside at None no_call)) ∙ sym (call_in o inside n l b (walked m t) v ts);
          };
    }

-- ---- the frame is made zero again

behind_is : (z t u : List ℕ) (n : ℕ) → length t ≡ n → take tree_bytes u ≡ take tree_bytes t → (beside u).names ≡ z → behind_by z n t ≡ u
behind_is z t u n e tree names =
    ap (λ (k : Bool). cond k (take tree_bytes t ++ z) t) (eq-eqb (length t) n e) ∙ ap (λ (y : List ℕ). y ++ z) (sym tree) ∙ ap (λ (y : List ℕ). take tree_bytes u ++ y) (sym names) ∙ whole-area u

module _ {s : List ℕ} {under : Under} {h : Here} {t t₁ t₂ t₃ : List ℕ} {e : Entered} {d : Expanded} (enters : Enters s t t₁ under h e) (yes-call : e.expanded ≡ Some d) (kept : beside t₂ ≡ beside t₁) (clears : Puts t₂ t₃ (wiped (beside t₂).names under.top (d.under.top - under.top))) where
  names-back : (beside t₃).names ≡ (beside t).names
  names-back =
      ap (λ (b : Beside). b.names) clears.behind ∙ ap (λ (b : Beside). wiped b.names under.top (d.under.top - under.top)) kept
      ∙ wiped-back (beside t).names (beside t₁).names under.top d.under.top (wrote_frame enters yes-call).0

  long-one : length t₁ ≡ length t
  long-one = enters.size

  long-two : length t₂ ≡ length t
  unfolding beside
  long-two = same_size kept ∙ long-one

  long_three : length t₃ ≡ length t
  unfolding beside
  long_three = same_size clears.behind ∙ long-two

  all_back : beside t₃ ≡ beside t
  unfolding beside
  all_back = ap (λ (n : ℕ). record { size = n; names = (beside t₃).names }) long_three ∙ ap (λ (z : List ℕ). record { size = length t; names = z }) names-back

  back-two : behind_by (beside t).names (length t) t₂ ≡ t₃
  back-two = behind_is (beside t).names t₂ t₃ (length t) long-two clears.tree names-back

  back_one : behind_by (beside t).names (length t) t₁ ≡ t
  back_one = behind_is (beside t).names t₁ t (length t) long-one (sym enters.tree) refl

pub still-listed : {s : List ℕ} {under : Under} {h : Here} {t t₁ : List ℕ} {e : Entered} {k : ℕ} → Enters s t t₁ under h e → k ≤ (beside t).size → k ≤ (beside t₁).size
unfolding beside
still-listed enters h = omega (arith, h, enters.size)

-- how long an area is, by what lies behind its tree
area-size : (t : List ℕ) (k : ℕ) → tree_bytes + k ≤ (beside t).size → length t ≡ tree_bytes + length (beside t).names
unfolding beside
area-size t k h = omega (arith, h, length-drop tree_bytes t)

-- ---- P4: read in the call's stead

abbrev inner : {s : List ℕ} {count : ℕ} {under : Under} {h : Here} {t t₁ : List ℕ} {e : Entered} {d : Expanded} → Enters s t t₁ under h e → Scope s (beside t).names count under → under.at < no_place → e.expanded ≡ Some d → {ps : List Procedure} {v : Name} {ts : List Term} → Expands s (beside t₁).names ps v ts d → Scope s (beside t₁).names count d.under
inner enters o inside yes-call y =
    record {
      procedures = y.before;
      bound = y.bound;
      opened = y.opened;
      behind = omega (arith, o.behind, (wrote_frame enters yes-call).4);
      own = λ out. absurd (out (subst (λ (p : ℕ). p < no_place) (sym (wrote_frame enters yes-call).2) inside));
    }

body-read : {s : List ℕ} {count : ℕ} {under : Under} {h : Here} {t t₁ : List ℕ} {e : Entered} {d : Expanded} (enters : Enters s t t₁ under h e) (o : Scope s (beside t).names count under) (inside : under.at < no_place) (yes-call : e.expanded ≡ Some d)
    {ps : List Procedure} {v : Name} {ts : List Term} (y : Expands s (beside t₁).names ps v ts d) (n k : ℕ) (l b : Bool) (w : Walked)
    → all_in (sense_of count (inner enters o inside yes-call y)) k y.body l b w ≡ reading s (beside t).names count n (called ps under.at v ts) l b w
body-read {s} {count} {under} {h} {t} {t₁} {e} {d} enters o inside yes-call {ps} {v} {ts} y n k l b w =
    let same_at = (wrote_frame enters yes-call).2 in
    body_in (inner enters o inside yes-call y) (subst (λ (p : ℕ). p < no_place) (sym same_at) inside) k l b w y.body
    ∙ ap (λ (z : Commands). reading s (beside t₁).names count k z l b w) (sym y.same)
    ∙ ap (λ (p : ℕ). reading s (beside t₁).names count k (called ps p v ts) l b w) same_at
    ∙ ap (λ (look : List ℕ → Option Variable). read look true k (called ps under.at v ts) l b w) (look-alike s (beside t₁).names (beside t).names under.top (wrote_frame enters yes-call).0.low count o.behind)
    ∙ any-levels (look_in s (beside t).names count) k n (called ps under.at v ts) l b w

pub call-expanded : {s : List ℕ} {count : ℕ} {under : Under} {l b : Bool} {h : Here} {m : Marks} {t t₁ t₂ t₃ : List ℕ} {e : Entered} {d : Expanded} {r₁ r : Read} → Near s h → tree_bytes + count * 4 ≤ (beside t).size → Enters s t t₁ under h e → e.expanded ≡ Some d
    → All s (beside t₁).names count d.under 32 l b d.body m t₁ t₂ r₁ → Puts t₂ t₃ (wiped (beside t₂).names under.top (d.under.top - under.top)) → r.word ≡ e.word → r.marks ≡ r₁.marks
    → CallCame s (beside t).names count under l b h m t t₃ r
call-expanded {s} {count} {under} {l} {b} {h} {m} {t} {t₁} {t₂} {t₃} {e} {d} {r₁} {r} near long enters yes-call all clears word marks =
    record {
      on = record { near = rw word enters.near; later = rw word (omega (arith, enters.past, near.on)); kept = all_back enters yes-call all.on.kept clears };
      told = λ o inside n v ts rest at.
          let y = outcome enters o inside at (Some d) yes-call in
          let x = y.read in
          let i = all.told (inner enters o inside yes-call y) x.words x.stands x.depth y.body (x.last ∷ x.rest) (deeper x.depth Statements x.levels 32 x.words y.body (x.last ∷ x.rest) x.few x.told) in
          record { word = rw word (behind-call enters at); walks = go o inside n v ts (i.walks ∙ body-read enters o inside yes-call y n (around 32) l b (walked m t₁)) };
    }
  where
    go : (o : Scope s (beside t).names count under) (inside : under.at < no_place) (n : ℕ) (v : Name) (ts : List Term)
        → walked_of r₁ t₂ ≡ read (look_in s (beside t).names count) true n (called o.procedures under.at (record { bytes = v.bytes; place = under.at }) (map (replaced (λ q. under.at) o.bound) ts)) l b (walked m t₁)
        → walked_of r t₃ ≡ one_in (sense_of count o) n (call v ts) l b (walked m t)
    go o inside n v ts is =
        let x = called o.procedures under.at (record { bytes = v.bytes; place = under.at }) (map (replaced (λ q. under.at) o.bound) ts) in
        ap (λ (k : Marks). walked k t₃) marks
        ∙ ap (walked r₁.marks) (sym (back-two enters yes-call all.on.kept clears))
        ∙ ap (λ (w : Walked). walked w.marks (behind_by (beside t).names (length t) w.bytes)) is
        ∙ sym (read-apart (look_in s (beside t).names count) true (behind-apart (beside t).names (length t) (area-size t (count * 4) long)) n x l b (walked m t₁))
        ∙ ap (λ (z : List ℕ). read (look_in s (beside t).names count) true n x l b (walked m z)) (back_one enters yes-call all.on.kept clears)
        ∙ sym (call_in o inside n l b (walked m t) v ts)

-- ---- a call in the program's own text

same_terms : (ts : List Term) → map (replaced (λ q. q) []) ts ≡ ts
same_terms [] = refl
same_terms (t ∷ ts) = ap (λ (x : Term). x ∷ map (replaced (λ q. q) []) ts) (same_term t) ∙ ap (λ (l : List Term). t ∷ l) (same_terms ts)

module _ {s z : List ℕ} {count : ℕ} {u : Under} (o : Scope s z count u) (outside : ¬ (u.at < no_place)) where
  own-places : ltb u.at no_place ≡ false
  own-places = le-ltb u.at no_place (omega (arith, outside))

  own-call : (n : ℕ) (v : Name) (ts : List Term) (l b : Bool) (w : Walked) → one_in (sense_of count o) n (call v ts) l b w ≡ read (look_in s z count) false n (outermost o.procedures v ts) l b w
  unfolding expand told_at
  own-call n v ts l b w =
      ap (λ (k : Bool). read (look_in s z count) k n (cond k (called o.procedures u.at) (outermost o.procedures) (moved (λ q. cond k u.at q) v) (map (replaced (λ q. cond k u.at q) o.bound) ts)) l b w) own-places
      ∙ ap (λ (y : List (Bound Term)). read (look_in s z count) false n (outermost o.procedures v (map (replaced (λ q. q) y) ts)) l b w) (own-bound count o own-places)
      ∙ ap (λ (y : List Term). read (look_in s z count) false n (outermost o.procedures v y) l b w) (same_terms ts)

  -- the same procedures, and no formals, where all places are the call's
  module _ (p : ℕ) where
    own-told : told_at u.at p ≡ p
    unfolding told_at
    own-told = ap (λ (k : Bool). cond k u.at p) own-places

    own_open : Open s z o.procedures [] (inside_at u p)
    unfolding Framed
    own_open =
        record {
          framed = subst (λ (d : ℕ). Framed s (frames_of s z) (told_at u.at p) d u.frame []) (sym (o.own outside)) ((subst (λ (d : ℕ). Framed s (frames_of s z) u.at d u.frame o.bound) (o.own outside) o.opened.framed).0, refl);
          sized = subst (λ (y : List (Bound Term)). frame.Sized s z u.depth u.frame y) (own-bound count o own-places) o.opened.sized;
          nested = o.opened.nested;
          rows = o.opened.rows;
          long = o.opened.long;
          all = o.opened.all;
          some = o.opened.some;
          room = o.opened.room;
          zeros = o.opened.zeros;
        }

    abbrev own_scope : Scope s z count (inside_at u p)
    own_scope = record { procedures = o.procedures; bound = []; opened = own_open; behind = o.behind; own = λ out. o.own outside }

-- P13: what the outermost call comes to, by whether its own count is over
outermost_by : (look : List ℕ → Option Variable) (ps : List Procedure) (v : Name) (ts : List Term) (n : ℕ) (l b : Bool) (w : Walked) (c : Bool) → c ≡ (own_all true (called ps v.place v (map (replaced (λ q. v.place) []) ts)) nothing).over
    → read look false n (outermost ps v ts) l b w ≡ cond c (nine_at v.place (walk look (tree.parallel (head_at v.place) (idle v.place (kept ps v ts))) l b w)) (read look false n (called ps v.place v (map (replaced (λ q. v.place) []) ts)) l b w)
unfolding walk
outermost_by look ps v ts n l b w c e =
    read-outermost six_at (nine_in false) (λ x. walk_all look x l b) ps v ts n w
    ∙ ap (λ (k : Bool). cond k (nine_at v.place (walk look (tree.parallel (head_at v.place) (idle v.place (kept ps v ts))) l b w)) (read look false n (called ps v.place v (map (replaced (λ q. v.place) []) ts)) l b w)) (sym e)

module _ {s : List ℕ} {count : ℕ} {under : Under} {h : Here} {t t₁ : List ℕ} {n : ℕ} {q : Gauged} (near : Near s h) (measures : Measures s (inside_at under h.place) n h t t₁ q) (o : Scope s (beside t).names count under) (outside : ¬ (under.at < no_place)) {v : Name} {ts : List Term} {rest : List Word} (at : CallAt s h v ts rest) where
  abbrev place : ℕ
  place = told_at under.at h.place

  -- the call's name, at the place told
  abbrev called-name : Name
  called-name = record { bytes = at.word.bytes; place = place }

  place_is : place ≡ at.word.place
  place_is = own-told o outside h.place ∙ at.stands.0.place

  name_is : v ≡ called-name
  name_is = at.named ∙ ap (λ (p : ℕ). record { bytes = at.word.bytes; place = p }) (sym place_is)

  told-inside : place < no_place
  told-inside = let e : place ≡ h.place = own-told o outside h.place in omega (arith, e, near.on, near.inside, near.short)

  sized : Sized s o.procedures place n at.word ts rest q
  sized = measures.told o.procedures (own_open o outside h.place) (o.own outside) (own-told o outside h.place) at

  named-call : (k : ℕ) (l b : Bool) (w : Walked) → one_in (sense_of count o) k (call v ts) l b w ≡ read (look_in s (beside t).names count) false k (outermost o.procedures called-name ts) l b w
  named-call k l b w = own-call o outside k v ts l b w ∙ ap (λ (x : Name). read (look_in s (beside t).names count) false k (outermost o.procedures x ts) l b w) name_is

  -- it passes a size
  over_walk : (k : ℕ) (l b : Bool) (w : Walked) → q.over ≡ true → nine_at place (walk (look_in s (beside t).names count) (tree.parallel (head_at place) (idle place q.acts)) l b w) ≡ one_in (sense_of count o) k (call v ts) l b w
  over_walk k l b w e =
      ap (λ (j : ℕ). nine_at place (walk (look_in s (beside t).names count) (tree.parallel (head_at place) (idle place j)) l b w)) (sized.acts e)
      ∙ sym (outermost_by (look_in s (beside t).names count) o.procedures called-name ts k l b w true (sym e ∙ sized.over)) ∙ sym (named-call k l b w)

  -- it passes none
  within-walk : (l b : Bool) (w : Walked) → n ≤ most_levels → q.over ≡ false
      → cond q.deep (nine_at place (one_in (sense_of count (own_scope o outside h.place)) n (call v ts) l b w)) (one_in (sense_of count (own_scope o outside h.place)) n (call v ts) l b w) ≡ one_in (sense_of count o) n (call v ts) l b w
  within-walk l b w few e =
      let x = called o.procedures place called-name (map (replaced (λ p. place) []) ts) in
      ap (λ (y : Walked). cond q.deep (nine_at place y) y) (call_in (own_scope o outside h.place) told-inside n l b w v ts ∙ ap (λ (y : Name). read (look_in s (beside t).names count) true n (called o.procedures place (record { bytes = y.bytes; place = place }) (map (replaced (λ p. place) []) ts)) l b w) name_is)
      ∙ ap (λ (k : Bool). cond k (nine_at place (read (look_in s (beside t).names count) true n x l b w)) (read (look_in s (beside t).names count) true n x l b w)) (sized.deep e)
      ∙ sym (read-levels n x place ((faults_at_call [] o.procedures called-name ts).levels n) few sized.none (look_in s (beside t).names count) l b w)
      ∙ sym (outermost_by (look_in s (beside t).names count) o.procedures called-name ts n l b w false (sym e ∙ sized.over)) ∙ sym (named-call n l b w)

-- all that it stands for is told at its place
module _ {s : List ℕ} {v : Under} {h : Here} {t t₁ : List ℕ} (under : Under) (inside_is : v ≡ inside_at under h.place) where
  measured_inside : {n : ℕ} {q : Gauged} (k : ℕ) → n ≡ around k → Measures s v n h t t₁ q → Measures s (inside_at under h.place) (around k) h t t₁ q
  measured_inside k open-are gauges = rw (inside_is, open-are) at gauges

  called-inside : {count : ℕ} {l b : Bool} {m : Marks} {u : List ℕ} {r : Read} → t₁ ≡ t → CallCame s (beside t₁).names count v l b h m t₁ u r → CallCame s (beside t).names count (inside_at under h.place) l b h m t u r
  called-inside still calls = rw (inside_is, still) at calls

module _ {s : List ℕ} {count : ℕ} {under v : Under} {n k : ℕ} {l b : Bool} {h : Here} {m : Marks} {t t₁ : List ℕ} {q : Gauged} (near : Near s h) (inside_is : v ≡ inside_at under h.place) (gauges : Measures s v n h t t₁ q) (open-are : n ≡ around k) where
  pub outermost_over : {u : List ℕ} {r : Read} → q.over ≡ true → Passes v.at q.acts q.word m t₁ u r → OutermostCame s (beside t).names count under k l b h m t u r
  outermost_over {u} {r} over passes =
      let fin : Passes (told_at under.at h.place) q.acts q.word m t u r = rw (inside_is, gauges.still) at passes in
      let measures = measured_inside under inside_is k open-are gauges in
      record {
        on = record { near = rw fin.word measures.near; later = rw fin.word measures.later; kept = fin.kept };
        told = λ o outside v ts rest at.
            record {
              word = rw fin.word (sized near measures o outside at).word;
              walks = fin.walks (look_in s (beside t).names count) l b ∙ over_walk near measures o outside at (around k) l b (walked m t) over;
            };
      }

  module _ {u : List ℕ} {r : Read} (within : q.over ≡ false) (calls : CallCame s (beside t₁).names count v l b h m t₁ u r) where
    pub outermost-flat : q.deep ≡ false → OutermostCame s (beside t).names count under k l b h m t u r
    outermost-flat flat =
        let measures = measured_inside under inside_is k open-are gauges in
        let came = called-inside under inside_is gauges.still calls in
        record {
          on = came.on;
          told = λ o outside v ts rest at.
              let i = came.told (own_scope o outside h.place) (told-inside near measures o outside at) (around k) v ts rest at in
              record {
                word = i.word;
                walks = i.walks
                    ∙ ap (λ (d : Bool). cond d (nine_at (told_at under.at h.place) (one_in (sense_of count (own_scope o outside h.place)) (around k) (call v ts) l b (walked m t))) (one_in (sense_of count (own_scope o outside h.place)) (around k) (call v ts) l b (walked m t))) (sym flat)
                    ∙ within-walk near measures o outside at l b (walked m t) (omega arith) within;
              };
        }

    pub outermost-deep : {m₂ : Marks} {r₂ : Read} → q.deep ≡ true → ((c : List ℕ) → walked m₂ c ≡ nine_at v.at (walked r.marks c)) → r₂.word ≡ q.word → r₂.marks ≡ m₂ → OutermostCame s (beside t).names count under k l b h m t u r₂
    outermost-deep {m₂} {r₂} deep notes word marks =
        let measures = measured_inside under inside_is k open-are gauges in
        let came = called-inside under inside_is gauges.still calls in
        record {
          on = record { near = rw word measures.near; later = rw word measures.later; kept = came.on.kept };
          told = λ o outside v ts rest at.
              let i = came.told (own_scope o outside h.place) (told-inside near measures o outside at) (around k) v ts rest at in
              record {
                word = rw word (sized near measures o outside at).word;
                walks = ap (λ (j : Marks). walked j u) marks ∙ notes u ∙ ap (λ (j : Under). nine_at j.at (walked r.marks u)) inside_is ∙ ap (nine_at (told_at under.at h.place)) i.walks
                    ∙ ap (λ (d : Bool). cond d (nine_at (told_at under.at h.place) (one_in (sense_of count (own_scope o outside h.place)) (around k) (call v ts) l b (walked m t))) (one_in (sense_of count (own_scope o outside h.place)) (around k) (call v ts) l b (walked m t))) (sym deep)
                    ∙ within-walk near measures o outside at l b (walked m t) (omega arith) within;
              };
        }
