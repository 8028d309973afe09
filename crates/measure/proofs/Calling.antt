-- The laws of a call that is counted: it stays, it is not entered since one statement more is too many, or its body is counted.
-- Assumes nothing.
use mathlib.Core.Bool.{Bool, true, false, cond}
use mathlib.Core.Path.{◌≡◌, refl, sym, ◌∙◌, ap, subst}
use mathlib.Core.List.{List, ◌∷◌, map}
use Prim.Native.Nat.{ℕ, zero, suc, ◌-◌, ◌≤◌}
use native.Mathlib.Omega.{arith}
use lib.ListN.{length}
use Rattle.meaning.specs.Tree.{Name}
use Rattle.meaning.specs.Declared.{same_bytes}
use Rattle.meaning.specs.Unexpanded.{Term, Command, skip, delay, change, assign, choice, while, loop, exit, break, switch, parallel, call, passing, Commands, end, ◌⨾◌, Procedure}
use Rattle.meaning.specs.Expansion.{Bound, bind, moved, replaced, followed_by, alone, expand, expand_all, called, same_count, allowed_by}
use Rattle.language.specs.Words.{Word}
use Rattle.language.specs.Grammar.{Statements, AfterName, Actuals, most_levels}
use Rattle.language.specs.Trees.{name_at}
use Rattle.descent_law.specs.Told.{Told}
use Rattle.descent_law.specs.Rows.{AfterNameRow, StatementRow}
use Rattle.descent_law.proofs.Deeper.{deeper}
use Rattle.descent_law.proofs.Declarations.{procedure-told}
use Rattle.descent_law.proofs.Statements.{statements-told, after-name-told}
use Rattle.hand.specs.declared.Here.{Here}
use Rattle.hand.specs.Along.{Stands, Near, Begins}
use Rattle.tiers.proofs.Laws.{first_is}
use Rattle.tiers.proofs.Rows.{call_only, one_there}
use Rattle.parts.specs.Beside.{Beside, beside}
use Rattle.frames_law.specs.Frames.{told_at}
use Rattle.frames_law.proofs.Frames.{told-call}
use Rattle.frames.specs.declared.Under.{Under}
use Rattle.frames.specs.Open.{Rows}
use Rattle.frames.specs.Put.{Puts, Over, wiped}
use Rattle.frames.proofs.Putting.{wiped-back}
use Rattle.tally.specs.declared.Tally.{Tally}
use Rattle.tally.specs.Tally.{full_tally, none_left, begun_tally}
use Rattle.tally.specs.Holds.{over_all}
use Rattle.tally.proofs.Steps.{alike, begun-holds}
use Rattle.tally.proofs.Ends.{none_left_lem}
use Rattle.measure.specs.declared.Counted.{Counted}
use Rattle.measure.specs.Counted.{Known, one_of, all_of, Measures, Tells, RowCame, All}
use Rattle.std.specs.Prelude as optional
use Rattle.calls.specs.declared.Entered.{Entered}
use Rattle.calls.specs.declared.Expanded.{Expanded}
use Rattle.calls.specs.declared.actuals.Handing.{Handing}
use Rattle.calls.specs.Hands.{Hands}
use Rattle.calls.specs.Enters.{Expands, Outcome, Wrote, Enters}
use Rattle.measure.proofs.States.{call-state}
use Rattle.measure.proofs.Laws.{counted}

-- ---- what a call stands for has a statement

abbrev Some : Commands → Type 0
Some x = (l : Command) × (ls : Commands) × (x ≡ l ⨾ ls)

either : (b : Bool) (x y : Commands) → Some x → Some y → Some (cond b x y)
either true x y a b = a
either false x y a b = b

module _ (calls : Name → List Term → Commands) (to : ℕ → ℕ) (bound : List (Bound Term)) (each : (v : Name) (ts : List Term) → Some (calls v ts)) where
  some_one : (l : Command) → Some (expand calls to bound l)
  unfolding expand
  some_one (skip p) = (_, end, refl)
  some_one (delay p q n) = (_, end, refl)
  some_one (change p c t) = (_, end, refl)
  some_one (assign v e) = (_, end, refl)
  some_one (choice p e a b) = (_, end, refl)
  some_one (while p e b) = (_, end, refl)
  some_one (loop p b) = (_, end, refl)
  some_one (exit p) = (_, end, refl)
  some_one (break p) = (_, end, refl)
  some_one (switch p ts) = (_, end, refl)
  some_one (parallel p bs) = (_, end, refl)
  some_one (call v ts) = each (moved to v) (map (replaced to bound) ts)
  some_one (passing p k) = (_, end, refl)

  some-all : (x : Commands) → Some x → Some (expand_all calls to bound x)
  unfolding expand followed_by
  some-all x (l, ls, e) = let (m, ms, f) = some_one l in (m, followed_by ms (expand_all calls to bound ls), ap (expand_all calls to bound) e ∙ ap (λ (y : Commands). followed_by y (expand_all calls to bound ls)) f)

some-called : (s z : List ℕ) (n : ℕ) (ps : List Procedure) → Rows s z n ps → (at : ℕ) (v : Name) (ts : List Term) → Some (called ps at v ts)
unfolding Rows called
some-called s z zero ps rows at v ts = rw rows (call v ts, end, refl)
some-called s z (suc n) ps (p, qs, e, (f, k, ws, rest, few, along, told), wide, rows) at v ts =
    let (f₁, i, c, (w, x, tail, mid, fs, b, is, named, formals, body, same)) = procedure-told f k ws p rest told in
    let (f₂, i₂, c₂, (mid₂, l, ls, a, d, lists)) = statements-told f₁ k mid b (x ∷ rest) body in
    let has : Some p.body = (l, ls, ap (λ (q : Procedure). q.body) same ∙ lists) in
    rw e
    (either (same_bytes p.name.bytes v.bytes) _ (called qs at v ts)
    (either (same_count p.formals ts) _ _
    (either (allowed_by (bind p.formals ts) p.body) _ _ (some-all (called qs at) _ (bind p.formals ts) (λ v ts. some-called s z n qs rows at v ts) p.body has) (call v ts, end, refl))
    (call v ts, end, refl))
    (some-called s z n qs rows at v ts))

-- ---- from tally to tally

module _ {s z : List ℕ} {u : Under} (S : Known s z u) (v : Name) (ts : List Term) where
  abbrev standing : Commands
  standing = called S.procedures u.at (moved (told_at u.at) v) (map (replaced (told_at u.at) S.bound) ts)

module _ {s z : List ℕ} {u : Under} (S : Known s z u) {n : ℕ} {m : Tally} (v : Name) (ts : List Term) where
  stays_measures : standing S v ts ≡ alone (call (moved (told_at u.at) v) (map (replaced (told_at u.at) S.bound) ts)) → Measures 1 n m (begun_tally m) (over_all (one_of S (call v ts)))
  unfolding expand
  stays_measures e = record { holds = λ k is x some h. alike (call-state x some _ _ ∙ ap (λ (y : Commands). over_all y x) (sym e)) (begun-holds h) }

  full_measures : none_left m ≡ true → Measures 1 n m (full_tally m) (over_all (one_of S (call v ts)))
  unfolding expand
  full_measures e =
      let (l, ls, is) = some-called s z u.seen S.procedures S.is.rows u.at (moved (told_at u.at) v) (map (replaced (told_at u.at) S.bound) ts) in
      record { holds = λ k q x some h. alike (ap (λ (y : Commands). over_all y x) (sym is)) (none_left_lem h e l ls) }

  body_measures : {r : Tally} (x : Commands) → standing S v ts ≡ x → Measures 1 n m r (over_all x) → Measures 1 n m r (over_all (one_of S (call v ts)))
  unfolding expand
  body_measures x e does = record { holds = λ k is y some h. alike (ap (λ (c : Commands). over_all c y) (sym e)) (does.holds k is y some h) }

-- ---- a call in the text

-- the words of a call, and what they come to
pub record Words (s : List ℕ) (h : Here) (v : Command) (rest : List Word) : Type 0 where
  pub word : Word
  pub opens : Word
  pub closes : Word
  pub tail : List Word
  pub fuel : ℕ
  pub levels : ℕ
  pub actuals : List Term
  pub few : levels ≤ most_levels
  pub stands : Stands s h (word ∷ opens ∷ tail)
  pub told : Told fuel Actuals levels tail actuals (closes ∷ rest)
  pub is : v ≡ call (name_at word) actuals

pub words : {s : List ℕ} {h a : Here} {k : ℕ} → Begins s h.next a → a.kind ≡ 14 → k ≤ 32 → (ws : List Word) → Stands s h ws → (f : ℕ) (v : Command) (rest : List Word) → StatementRow f k ws v rest 5 → Words s h v rest
words {s} {h} {a} {k} second opens few ws st f v rest (w, tail, g, y, x, d) =
    let (same, along) = first_is st y in
    let (e, i, p, row) = after-name-told f k tail g rest x in
    let st₁ = second.stands tail along in
    ends e i (one_there AfterName 14 call_only s a tail i st₁ p opens) row
  where
    ends : (e i : ℕ) → i ≡ 1 → AfterNameRow e k tail g rest i → Words s h v rest
    ends e i q row =
        let (o, c, m, on, ts, z, lev, told, b) = subst (AfterNameRow e k tail g rest) q row in
        record { word = w; opens = o; closes = c; tail = on; fuel = e; levels = m; actuals = ts; few = omega (arith, lev, few); stands = subst (Stands s h) (y ∙ ap (λ (l : List Word). w ∷ l) z) st; told = told; is = d ∙ ap (λ (f : Name → Command). f (name_at w)) b }

-- it is not entered: one statement more is too many
pub call_full : {s t t₁ : List ℕ} {u : Under} {n : ℕ} {h a a₁ : Here} {m q : Tally} {b : Bool} {g : Handing} {r : Counted} → Near s h → Begins s h.next a → a.kind ≡ 14 → b ≡ none_left m → b ≡ true → Hands s t t₁ u a.next 0 g → Begins s g.word.next a₁
    → q ≡ full_tally m → r ≡ counted a₁ q → (k : ℕ) → k ≤ 32 → RowCame s (beside t).names u k n 5 h m t t₁ r
call_full {s} {t} {t₁} {u} {n} {h} {a} {a₁} {m} {q} {b} {g} {r} near second opens left none hands after is made k few =
    record { on = rw made (record { near = after.near; later = omega (arith, near.on, second.later, second.near.on, hands.later, hands.near.on, after.later); tree = hands.beyond.tree; kept = hands.beyond.kept refl }); told = go }
  where
    go : (S : Known s (beside t).names u) (ws : List Word) → Stands s h ws → (f : ℕ) (v : Command) (rest : List Word) → StatementRow f k ws v rest 5 → Tells s r.word rest (Measures 1 n m r.tally (over_all (one_of S v)))
    go S ws st f v rest x =
        let w = words second opens few ws st f v rest x in
        let (same, along) = second.stands (w.opens ∷ w.tail) w.stands.1 in
        let (behind, counts, so) = hands.told w.tail along w.fuel w.levels w.actuals w.closes rest w.few w.told in
        rw (made, is, w.is) (record { word = after.stands rest behind.1; so = full_measures S (name_at w.word) w.actuals (sym left ∙ none) })

-- the frame is made zero again, and all is as it was
cleared : (t t₁ t₂ t₃ : List ℕ) (from to : ℕ) → Over (beside t).names (beside t₁).names from to → length t₁ ≡ length t → beside t₂ ≡ beside t₁ → Puts t₂ t₃ (wiped (beside t₂).names from (to - from)) → beside t₃ ≡ beside t
unfolding beside
cleared t t₁ t₂ t₃ from to over size kept puts =
    puts.behind
    ∙ ap (λ (b : Beside). record { size = b.size; names = wiped b.names from (to - from) }) kept
    ∙ ap (λ (n : ℕ). record { size = n; names = wiped (beside t₁).names from (to - from) }) size
    ∙ ap (λ (l : List ℕ). record { size = length t; names = l }) (wiped-back (beside t).names (beside t₁).names from to over)

later : {s t t₁ : List ℕ} {u : Under} {h : Here} {e : Entered} → Near s h → Enters s t t₁ u h e → h.place ≤ e.word.place
later near entered = omega (arith, near.on, entered.past)

-- a frame is written, and the procedures that its body can call are fewer
pub wrote_frame : {s t t₁ : List ℕ} {u : Under} {h : Here} {e : Entered} {x : Expanded} → Enters s t t₁ u h e → e.expanded ≡ optional.Some x → Wrote s t t₁ u (optional.Some x)
wrote_frame {s} {t} {t₁} {u} entered framed = subst (Wrote s t t₁ u) framed entered.wrote

module _ {s t t₁ : List ℕ} {u : Under} {n : ℕ} {h a : Here} {m : Tally} {e : Entered} (near : Near s h) (second : Begins s h.next a) (opens : a.kind ≡ 14) (entered : Enters s t t₁ u h e) where
  -- P7: it stays
  pub call_stays : {q : Tally} {r : Counted} → e.expanded ≡ optional.None → q ≡ begun_tally m → r ≡ counted e.word q → (k : ℕ) → k ≤ 32 → RowCame s (beside t).names u k n 5 h m t t₁ r
  call_stays {q} {r} no-frame is made k few =
      record { on = rw made (record { near = entered.near; later = later near entered; tree = entered.tree; kept = subst (Wrote s t t₁ u) no-frame entered.wrote }); told = go }
    where
      go : (S : Known s (beside t).names u) (ws : List Word) → Stands s h ws → (f : ℕ) (v : Command) (rest : List Word) → StatementRow f k ws v rest 5 → Tells s r.word rest (Measures 1 n m r.tally (over_all (one_of S v)))
      go S ws st f v rest x =
          let w = words second opens few ws st f v rest x in
          let (behind, so) = entered.told w.word w.opens w.closes w.tail rest w.stands w.fuel w.levels w.actuals w.few w.told in
          let outcome = subst (Outcome s (beside t₁).names S.procedures u.at _ _) no-frame (so S.procedures S.bound S.is) in
          rw (made, is, w.is) (record { word = behind; so = stays_measures S (name_at w.word) w.actuals outcome })

  -- its body is counted
  pub call-body : {t₂ t₃ : List ℕ} {g r : Counted} {d : Expanded} → e.expanded ≡ optional.Some d → All s (beside t₁).names d.under 32 n d.body m t₁ t₂ g → Puts t₂ t₃ (wiped (beside t₂).names u.top (d.under.top - u.top)) → r ≡ counted e.word g.tally
      → (k : ℕ) → k ≤ 32 → RowCame s (beside t).names u k n 5 h m t t₃ r
  call-body {t₂} {t₃} {g} {r} {d} framed came puts made k few =
      record { on = rw made (record { near = entered.near; later = later near entered; tree = puts.tree ∙ came.on.tree ∙ entered.tree; kept = cleared t t₁ t₂ t₃ u.top d.under.top wrote.0 entered.size came.on.kept puts }); told = go }
    where
      wrote : Wrote s t t₁ u (optional.Some d)
      wrote = wrote_frame entered framed

      body : (S : Known s (beside t).names u) (w : Name) (ts : List Term) → Expands s (beside t₁).names S.procedures (moved (told_at u.at) w) (map (replaced (told_at u.at) S.bound) ts) d → Measures 1 n m g.tally (over_all (one_of S (call w ts)))
      body S w ts x =
          let at : d.under.at ≡ u.at = wrote.2 in
          let inner : Known s (beside t₁).names d.under = record { placed = rw at S.placed; procedures = x.before; bound = x.bound; is = x.opened } in
          let i = came.told inner x.read.words x.read.stands x.read.depth x.body (x.read.last ∷ x.read.rest) (deeper x.read.depth Statements x.read.levels 32 x.read.words x.body (x.read.last ∷ x.read.rest) x.read.few x.read.told) in
          body_measures S w ts (all_of inner x.body)
          (ap (λ (p : ℕ). called S.procedures p (moved (told_at u.at) w) (map (replaced (told_at u.at) S.bound) ts)) (sym at) ∙ x.same ∙ ap (λ (f : ℕ → ℕ). expand_all (called x.before d.under.at) f x.bound x.body) (sym (told-call d.under.at inner.placed))) i.so

      go : (S : Known s (beside t).names u) (ws : List Word) → Stands s h ws → (f : ℕ) (v : Command) (rest : List Word) → StatementRow f k ws v rest 5 → Tells s r.word rest (Measures 1 n m r.tally (over_all (one_of S v)))
      go S ws st f v rest x =
          let w = words second opens few ws st f v rest x in
          let (behind, so) = entered.told w.word w.opens w.closes w.tail rest w.stands w.fuel w.levels w.actuals w.few w.told in
          let outcome = subst (Outcome s (beside t₁).names S.procedures u.at _ _) framed (so S.procedures S.bound S.is) in
          rw (made, w.is) (record { word = behind; so = body S (name_at w.word) w.actuals outcome })
