-- The law of an outermost call that is measured.
-- Assumes nothing.
use mathlib.Core.Bool.{Bool, true, false, not}
use mathlib.Core.Path.{◌≡◌, refl, sym, ◌∙◌, ap, subst}
use mathlib.Core.List.{List, [], map}
use Prim.Native.Nat.{ℕ, zero, suc, ◌≤◌, ◌<◌}
use native.Mathlib.Omega.{arith}
use Rattle.std.specs.Prelude.{Option, MatchOption}
use Rattle.std.specs.Bool.{then_some}
use Rattle.meaning.specs.Tree.{Name}
use Rattle.meaning.specs.Unexpanded.{Term, call, Commands, Procedure}
use Rattle.meaning.specs.Expansion.{Bound, moved, replaced, expand, called}
use Rattle.language.specs.Words.{Word}
use Rattle.language.specs.Trees.{name_at}
use Rattle.descent_law.specs.Rows.{StatementRow}
use Rattle.hand.specs.declared.Here.{Here}
use Rattle.hand.specs.Along.{Stands, Near, Begins}
use Rattle.own_law.proofs.Calls.{expansion}
use Rattle.frames_law.specs.Frames.{no_place, told_at, Framed}
use Rattle.frames_law.proofs.Frames.{told-call}
use Rattle.frames.specs.declared.Under.{Under}
use Rattle.frames.specs.Layout.{frames_of}
use Rattle.frames.specs.Open.{Open}
use Rattle.tally.specs.declared.Tally.{Tally}
use Rattle.tally.specs.Tally.{start_tally, over_tally}
use Rattle.tally.specs.Holds.{at_start, over_all, Holds}
use Rattle.tally.proofs.Steps.{start-holds}
use Rattle.tally.proofs.Ends.{told-counts, told-every, exact-acts}
use Rattle.measure.specs.declared.Counted.{Counted}
use Rattle.measure.specs.declared.Measured.{Measured}
use Rattle.measure.specs.Counted.{Known, Tells, RowCame, under_call, MeasuredIs, MeasuredCame}
use Rattle.measure.proofs.Calling.{words}

-- with no call open, the place told is of no account
framed-own : (s z : List ℕ) (at p d frame : ℕ) (bound : List (Bound Term)) → d ≡ 0 → Framed s (frames_of s z) at d frame bound → Framed s (frames_of s z) p d frame bound
unfolding Framed
framed-own s z at p zero frame bound e x = x
framed-own s z at p (suc d) frame bound e x = absurd (omega arith)

own_open : {s z : List ℕ} {ps : List Procedure} {u : Under} (p : ℕ) → u.depth ≡ 0 → Open s z ps [] u → Open s z ps [] (under_call u p)
own_open {s} {z} {ps} {u} p none o =
    record { framed = framed-own s z u.at p u.depth u.frame [] none o.framed; sized = o.sized; nested = o.nested; rows = o.rows; long = o.long; all = o.all; some = o.some; room = o.room; zeros = o.zeros }

-- what is counted is the expansion of own_law
own_expansion : (ps : List Procedure) (v : Name) (ts : List Term) (p : ℕ) → p < no_place → v.place ≡ p → called ps p (moved (told_at p) v) (map (replaced (told_at p) []) ts) ≡ expansion ps v ts
own_expansion ps v ts p h e =
    ap (λ (f : ℕ → ℕ). called ps p (moved f v) (map (replaced f []) ts)) (told-call p h)
    ∙ ap (λ (q : ℕ). called ps q (record { bytes = v.bytes; place = q }) (map (replaced (λ x. q) []) ts)) (sym e)

-- the activities, unless a statement or a part is too many
known_acts : (o : Option ℕ) {b c : Bool} {a m : ℕ} → o ≡ then_some (not b) a → b ≡ c → (b ≡ false → a ≡ m) → MatchOption o (c ≡ true) (λ x. (c ≡ false) × (x ≡ m))
known_acts o {b = true} is e f = rw is (sym e)
known_acts o {b = false} is e f = rw is (sym e, f refl)

call-name : {v w : Name} {ts us : List Term} → call v ts ≡ call w us → v ≡ w
call-name e = cc

outermost_under : {s z : List ℕ} {u : Under} {n : ℕ} {h a : Here} {t t₁ : List ℕ} {m : Tally} {c : Counted} {r : Measured} {b : Bool} → n ≤ 32 → Near s h → Begins s h.next a → a.kind ≡ 14 → m ≡ start_tally
    → ((k : ℕ) → k ≤ 32 → RowCame s z (under_call u h.place) k n 5 h m t t₁ c) → b ≡ over_tally c.tally → {k : Option ℕ} → k ≡ then_some (not c.tally.passed) c.tally.acts → r ≡ record { word = c.word; over = b; acts = k } → MeasuredCame s z u n h t t₁ r
unfolding expand
outermost_under {s} {z} {u} {n} {h} {a} {t} {t₁} {m} {c} {r} {b} high near second opens start came over known made = record { on = rw made (came 0 (omega arith)).on; told = go }
  where
    low : h.place < no_place
    low = omega (arith, near.on, near.inside, near.short)

    go : (ps : List Procedure) → Open s z ps [] u → u.depth ≡ 0 → (ws : List Word) → Stands s h ws → (f k : ℕ) (v : Name) (ts : List Term) (rest : List Word) → k ≤ 32 → StatementRow f k ws (call v ts) rest 5 → Tells s r.word rest (MeasuredIs ps v ts n r)
    go ps o none ws st f k v ts rest few x =
        let w = words second opens few ws st f (call v ts) rest x in
        let named : v ≡ name_at w.word = call-name w.is in
        let at : v.place ≡ h.place = ap (λ (y : Name). y.place) named ∙ sym w.stands.0.place in
        let S : Known s z (under_call u h.place) = record { placed = low; procedures = ps; bound = []; is = own_open h.place none o } in
        let i = (came k few).told S ws st f (call v ts) rest x in
        let holds = subst (λ (y : Commands). Holds n c.tally (over_all y (at_start n))) (own_expansion ps v ts h.place low at) (i.so.holds n (omega (arith, high)) (at_start n) (omega arith) (rw start (start-holds n high))) in
        rw made (record { word = i.word; so = record { over = over ∙ told-every (expansion ps v ts) n holds high; acts = known_acts _ known (told-counts (expansion ps v ts) n holds) (λ e. exact-acts (expansion ps v ts) n holds e) } })

-- ---- as the code has it

pub outermost-came : {s z : List ℕ} {u v : Under} {n : ℕ} {h a : Here} {t t₁ : List ℕ} {m : Tally} {c : Counted} {b : Bool} {r : Measured} → n ≤ 32 → Near s h → Begins s h.next a → a.kind ≡ 14 → m ≡ start_tally → v ≡ under_call u h.place → b ≡ over_tally c.tally
    → ((k : ℕ) → k ≤ 32 → RowCame s z v k n 5 h m t t₁ c) → {k : Option ℕ} → k ≡ then_some (not c.tally.passed) c.tally.acts → r ≡ record { word = c.word; over = b; acts = k } → MeasuredCame s z u n h t t₁ r
outermost-came {s} {z} {n = n} {h = h} {t = t} {t₁ = t₁} {m = m} {c = c} high near second opens start inside over came known made = outermost_under high near second opens start (subst (λ (w : Under). (k : ℕ) → k ≤ 32 → RowCame s z w k n 5 h m t t₁ c) inside came) over known made
