-- The laws of a call in the program's own text that is measured: one for each way that it ends.
-- Assumes nothing.
use mathlib.Core.Bool.{true, false}
use mathlib.Core.Path.{◌≡◌, refl, sym, ◌∙◌, ap, ap₂, subst}
use mathlib.Core.List.{List, [], ◌∷◌}
use mathlib.Core.Option as option
use Prim.Native.Nat.{ℕ, ◌≤◌}
use Rattle.std.specs.Prelude.{Some, None}
use native.Mathlib.Omega.{arith}
use Rattle.meaning.specs.Tree.{Name}
use Rattle.meaning.specs.Levels.{most_levels}
use Rattle.meaning.specs.Unexpanded.{Term, Command, call, Procedure}
use Rattle.meaning.specs.Procedures.{calls_passing}
use Rattle.language.specs.Words.{Word}
use Rattle.language.specs.Grammar.{AfterName}
use Rattle.language.specs.Trees.{name_at}
use Rattle.descent_law.specs.Rows.{AfterNameRow, StatementRow}
use Rattle.descent_law.proofs.Statements.{after-name-told}
use Rattle.words.specs.Runs.{part}
use Rattle.hand.specs.declared.Here.{Here}
use Rattle.hand.specs.Along.{Near, Begins}
use Rattle.tiers.proofs.Laws.{first_is}
use Rattle.tiers.proofs.Rows.{call_only, none_there}
use Rattle.own_law.specs.Own.{nothing, own_all}
use Rattle.own_law.proofs.Calls.{expansion}
use Rattle.own_law.proofs.Around.{within-around, deep-around, counts-around}
use Rattle.parts.specs.Beside.{Beside, beside}
use Rattle.parts.proofs.Beside.{same_area}
use Rattle.frames.specs.declared.Under.{Under}
use Rattle.frames.specs.Layout.{wide_at}
use Rattle.frames.proofs.Formal.{none-some}
use Rattle.frames.specs.Open.{Open}
use Rattle.frames.specs.Row.{row_in}
use Rattle.items.specs.Came.{CallAt}
use Rattle.measure.specs.declared.Measured.{Measured}
use Rattle.measure.specs.Counted.{Tells, MeasuredIs, MeasuredCame}
use Rattle.gauge.specs.declared.Gauged.{Gauged}
use Rattle.gauge.specs.Measures.{name_of, Measures}
use Rattle.gauge.proofs.Acts.{none_inside, exact-kept, row_kept}

module _ {s : List ℕ} {h a : Here} (second : Begins s h.next a) where
  -- ---- no `(` behind the name: no call

  no_call : ¬ (a.kind ≡ 14) → {v : Name} {ts : List Term} {rest : List Word} → CallAt s h v ts rest → ⊥
  no_call other {v} {ts} {rest} c = go c.row
    where
      assigned : (w : Word) (f : ℕ) (tail : List Word) (g : Name → Command) → AfterNameRow f c.row-levels tail g rest 0 → call v ts ≡ g (name_at w) → ⊥
      assigned w f tail g (x, tail₁, e, q, told, is) d =
          let k = d ∙ ap (λ (g : Name → Command). g (name_at w)) is in
          let z : ◌≡◌ {A = ℕ} 0 1 = cc in omega arith

      go : StatementRow c.row-fuel c.row-levels (c.word ∷ c.opens ∷ c.tail) (call v ts) rest 5 → ⊥
      go (w, tail, g, e, y, d) =
          let (same, along) = first_is c.stands e in
          let (f, i, p, row) = after-name-told c.row-fuel c.row-levels tail g rest y in
          assigned w f tail g (subst (AfterNameRow f c.row-levels tail g rest) (none_there AfterName 14 call_only s a tail i (second.stands tail along) p other) row) d

  pub measured_none : {u : Under} {n : ℕ} {t : List ℕ} {r : Gauged} → Near s h → ¬ (a.kind ≡ 14) → r ≡ record { word = h; over = false; acts = 0; deep = false } → Measures s u n h t t r
  measured_none near other made = rw made (record { near = near; later = omega arith; still = refl; told = λ ps o none at c. absurd (no_call other c) })

-- ---- a call

-- P13: no call in it passes a size by itself
passes_none : {s z : List ℕ} {ps : List Procedure} {u : Under} → Open s z ps [] u → (w : Word) (ts : List Term) → calls_passing (expansion ps (name_of w u.at) ts) ≡ []
passes_none {s} {z} {ps} {u} o w ts = none_inside s z u.seen ps o.rows (name_of w u.at) ts

-- what is told of it, by the name at the place told
tells : {s : List ℕ} {u : Under} {n : ℕ} {h : Here} {t t₁ : List ℕ} {m : Measured} → MeasuredCame s (beside t).names u n h t t₁ m → {ps : List Procedure} → Open s (beside t).names ps [] u → u.depth ≡ 0 → u.at ≡ h.place
    → {v : Name} {ts : List Term} {rest : List Word} (c : CallAt s h v ts rest) → Tells s m.word rest (MeasuredIs ps (name_of c.word u.at) ts n m)
tells {s} {u} {n} {m = m} came {ps} o none at {v} {ts} {rest} c =
    let name_is : v ≡ name_of c.word u.at = c.named ∙ ap (name_of c.word) (sym (at ∙ c.stands.0.place)) in
    subst (λ (x : Name). Tells s m.word rest (MeasuredIs ps x ts n m)) name_is (came.told ps o none (c.word ∷ c.opens ∷ c.tail) c.stands c.row-fuel c.row-levels v ts rest c.row-few c.row)

module _ {s : List ℕ} {u : Under} {n : ℕ} {h : Here} {t t₁ : List ℕ} {m : Measured} (came : MeasuredCame s (beside t).names u n h t t₁ m) where
  same_after : t₁ ≡ t
  same_after = same_area t t₁ came.on.tree came.on.kept

  -- a statement or a part too many
  measured_passed : {r : Gauged} {o : option.Option ℕ} {w : ℕ} → m.acts ≡ None → o ≡ row_in s (beside t₁).names u.seen (part s h.place h.next) → ((row : ℕ) → o ≡ option.some row → w ≡ wide_at (beside t₁).names row) → r ≡ record { word = m.word; over = true; acts = w; deep = false } → Measures s u n h t t₁ r
  measured_passed passed found wide made =
      rw made
      (record {
        near = came.on.near;
        later = came.on.later;
        still = same_after;
        told = λ ps o none at {v} {ts} {rest} c.
            let i = tells came o none at c in
            let x = name_of c.word u.at in
            let counts = rw passed at i.so.acts in
            record {
              word = i.word;
              over = sym (counts-around (expansion ps x ts) 0 (omega arith) counts);
              acts = λ e. row_kept s (beside t).names u.seen ps o.rows x ts (found ∙ ap₂ (λ (d : Beside) (b : List ℕ). row_in s d.names u.seen b) came.on.kept c.stands.0.bytes) (λ row q. wide row q ∙ ap (λ (d : Beside). wide_at d.names row) came.on.kept) counts;
              deep = λ e. absurd (let z : ◌≡◌ {A = ℕ} 0 1 = cc in omega arith);
              none = passes_none o c.word ts;
            };
      })

  pub measured_row : {r : Gauged} {row w : ℕ} → m.acts ≡ None → option.some row ≡ row_in s (beside t₁).names u.seen (part s h.place h.next) → w ≡ wide_at (beside t₁).names row → r ≡ record { word = m.word; over = true; acts = w; deep = false } → Measures s u n h t t₁ r
  measured_row {row = row} passed found wide made = measured_passed passed found (λ i q. let e : row ≡ i = cc in wide ∙ ap (wide_at (beside t₁).names) e) made

  -- .. of no procedure: none is
  pub measured_missing : {r : Gauged} {w : ℕ} → m.acts ≡ None → option.none ≡ row_in s (beside t₁).names u.seen (part s h.place h.next) → r ≡ record { word = m.word; over = true; acts = w; deep = false } → Measures s u n h t t₁ r
  measured_missing passed found made = measured_passed passed found (λ i q. none-some q) made

  -- another size: by itself, or by the levels around
  pub measured_again : {t₂ : List ℕ} {k : Measured} {r : Gauged} {q : ℕ} → n ≤ most_levels → m.acts ≡ Some q → m.over ≡ true → MeasuredCame s (beside t₁).names u 0 h t₁ t₂ k → r ≡ record { word = m.word; over = k.over; acts = q; deep = true } → Measures s u n h t t₂ r
  measured_again {t₂} {k} few counts over again made =
      rw made
      (record {
        near = came.on.near;
        later = came.on.later;
        still = same_area t₁ t₂ again.on.tree again.on.kept ∙ same_after;
        told = λ ps o none at {v} {ts} {rest} c.
            let i = tells came o none at c in
            let x = name_of c.word u.at in
            record {
              word = i.word;
              over = own ps o none at c;
              acts = λ e. let known = rw counts at i.so.acts in known.1 ∙ exact-kept s (beside t).names u.seen ps o.rows x ts known.0;
              deep = λ e. sym (deep-around (expansion ps x ts) n few (sym (own ps o none at c) ∙ e) (sym i.so.over ∙ over));
              none = passes_none o c.word ts;
            };
      })
    where
      own : (ps : List Procedure) (o : Open s (beside t).names ps [] u) → u.depth ≡ 0 → u.at ≡ h.place → {v : Name} {ts : List Term} {rest : List Word} (c : CallAt s h v ts rest) → k.over ≡ (own_all true (expansion ps (name_of c.word u.at) ts) nothing).over
      own ps o none at c = (tells again (subst (λ (d : Beside). Open s d.names ps [] u) (sym came.on.kept) o) none at c).so.over

  -- none
  pub measured_within : {r : Gauged} → n ≤ most_levels → m.over ≡ false → r ≡ record { word = m.word; over = false; acts = 0; deep = false } → Measures s u n h t t₁ r
  measured_within few within made =
      rw made
      (record {
        near = came.on.near;
        later = came.on.later;
        still = same_after;
        told = λ ps o none at {v} {ts} {rest} c.
            let i = tells came o none at c in
            let (over, deep) = within-around (expansion ps (name_of c.word u.at) ts) n few (sym i.so.over ∙ within) in
            record {
              word = i.word;
              over = sym over;
              acts = λ e. absurd (let z : ◌≡◌ {A = ℕ} 0 1 = cc in omega arith);
              deep = λ e. sym deep;
              none = passes_none o c.word ts;
            };
      })
