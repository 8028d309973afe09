-- What an outermost call that passes a size keeps of its activities (P14), and that no call in it passes one by itself.
-- Assumes nothing.
use mathlib.Core.Bool.{Bool, true, false, cond}
use mathlib.Core.Path.{◌≡◌, refl, sym, ◌∙◌, ap}
use mathlib.Core.List.{List, [], map, map-id}
use mathlib.Core.Option.{Option, none, some}
use Prim.Native.Nat.{ℕ, zero, suc, ◌+◌, ◌≤◌, min}
use native.Mathlib.Omega.{arith}
use lib.Dec.{leb}
use borrow.Author.Tests.{leb-true}
use Rattle.meaning.specs.Tree.{Name}
use Rattle.meaning.specs.Kinds.{both}
use Rattle.meaning.specs.Clock.{activities_all}
use Rattle.meaning.specs.Declared.{same_bytes}
use Rattle.meaning.specs.Items.{items_all}
use Rattle.meaning.specs.Sizes.{most_statements, most_parts}
use Rattle.meaning.specs.Unexpanded.{Term, Commands, call, Procedure}
use Rattle.meaning.specs.Base.{base_all}
use Rattle.meaning.specs.Expansion.{bind, replaced, allowed_by, same_count, alone, expand_all, called, wide_call, wide_all, wides}
use Rattle.meaning.specs.Procedures.{calls_passing}
use Rattle.meaning.proofs.Actuals.{as_many, as_many_lem}
use Rattle.own_law.specs.Own.{Own, nothing, past, begun, own_all}
use Rattle.own_law.proofs.Borne.{bears, made}
use Rattle.own_law.proofs.Own.{statements_in, parts_in, all-adds, nothing-sound}
use Rattle.own_law.proofs.Calls.{own-refused, kept}
use Rattle.kept_law.specs.Kept.{Every}
use Rattle.kept_law.specs.Written.{WrittenAll, WrittenProcedure}
use Rattle.kept_law.proofs.Written.{procedure-written, called-written, none-passing}
use Rattle.kept_law.proofs.Few.{all-few}
use Rattle.frames.specs.Layout.{wide_at}
use Rattle.frames.specs.Open.{Rows}
use Rattle.frames.specs.Row.{row_in}
use Rattle.frames.proofs.Rowed.{Calls, calls-none, calls-row}
use Rattle.tally.specs.Tally.{most_counted}

-- ---- statements as a text can have them

rows_written : (s z : List ℕ) (n : ℕ) (ps : List Procedure) → Rows s z n ps → Every WrittenProcedure ps
unfolding Rows
rows_written s z zero ps e = rw e tt
rows_written s z (suc n) ps (p, qs, e, (f, k, ws, rest, few, along, told), wide, more) = rw e (procedure-written f k ws p rest told, rows_written s z n qs more)

module _ (s z : List ℕ) (n : ℕ) (ps : List Procedure) (rows : Rows s z n ps) (v : Name) (ts : List Term) where
  abbrev actuals : List Term
  actuals = map (replaced (λ q. v.place) []) ts

  abbrev whole : Commands
  whole = called ps v.place v actuals

  written : WrittenAll whole
  written = (called-written ps (rows_written s z n ps rows) v.place v actuals).1

  pub none_inside : calls_passing whole ≡ []
  none_inside = none-passing whole written

  -- ---- not too many statements or parts: no more activities than statements

  few-statements : (own_all false whole nothing).over ≡ false → statements_in (items_all (base_all whole)) ≤ most_statements
  unfolding bears
  few-statements e = by (leb (0 + count) most_statements) (leb (0 + parts) most_parts) refl (sym (ap (λ (o : Own). o.over) ((all-adds false whole).to nothing (nothing-sound false))) ∙ e)
    where
      count : ℕ
      count = statements_in (items_all (base_all whole))

      parts : ℕ
      parts = parts_in (items_all (base_all whole))

      by : (a b : Bool) → leb (0 + count) most_statements ≡ a → (cond (both (both a b) true) (made (0 + count) (0 + parts) 0 false) past).over ≡ false → count ≤ most_statements
      by true b i f = omega (arith, leb-true (0 + count) most_statements i)
      by false b i f = absurd (let z : ◌≡◌ {A = ℕ} 0 1 = cc in omega arith)

  pub exact-kept : (own_all false whole nothing).over ≡ false → min (activities_all (base_all whole)) most_counted ≡ kept ps v ts
  exact-kept e =
      let few = few-statements e in
      let less = all-few whole written in
      let same : min (activities_all (base_all whole)) most_counted ≡ activities_all (base_all whole) = omega (arith, few, less) in
      same ∙ sym (ap (λ (b : Bool). cond b (wide_call (wides ps) v ts) (activities_all (base_all whole))) e)

  -- ---- too many: what its procedure can have

  -- a call that stays is one statement
  stays_few : whole ≡ alone (call v actuals) → (own_all false whole nothing).over ≡ true → ⊥
  unfolding begun
  stays_few is e =
      let few : false ≡ true = sym (ap (λ (o : Own). o.over) (ap (λ (x : Commands). own_all false x nothing) is ∙ own-refused false v actuals nothing)) ∙ e in
      let z : ◌≡◌ {A = ℕ} 0 1 = cc in omega arith

  row-wide : (i : ℕ) → Calls s z v ps n i → (own_all false whole nothing).over ≡ true → wide_at z i ≡ wide_call (wides ps) v ts
  unfolding called wide_call wides
  row-wide i c e = c.wide ∙ by (same_count c.procedure.formals ts) refl ∙ sym (c.widens ts)
    where
      p : Procedure
      p = c.procedure

      -- P7: too few actuals, or too many
      other : same_count p.formals ts ≡ false → whole ≡ alone (call v actuals)
      other q =
          c.expands v.place actuals
          ∙ ap (λ (b : Bool). cond b (cond (same_count p.formals actuals) (cond (allowed_by (bind p.formals actuals) p.body) (expand_all (called c.before v.place) (λ q. v.place) (bind p.formals actuals) p.body) (alone (call v actuals))) (alone (call v actuals))) (called c.before v.place v actuals)) c.name
          ∙ ap (λ (b : Bool). cond b (cond (allowed_by (bind p.formals actuals) p.body) (expand_all (called c.before v.place) (λ q. v.place) (bind p.formals actuals) p.body) (alone (call v actuals))) (alone (call v actuals))) (as_many_lem (λ x. x) p.formals actuals ∙ ap (as_many p.formals) (map-id actuals) ∙ sym (as_many_lem (replaced (λ q. v.place) []) p.formals ts) ∙ q)

      by : (b : Bool) → same_count p.formals ts ≡ b → wide_all (wides c.before) p.body ≡ cond (same_bytes p.name.bytes v.bytes) (cond b (wide_all (wides c.before) p.body) 1) (wide_call (wides c.before) v ts)
      by true q = sym (ap (λ (b : Bool). cond b (wide_all (wides c.before) p.body) (wide_call (wides c.before) v ts)) c.name)
      by false q = absurd (stays_few (other q) e)

  pub row_kept : {w : ℕ} {o : Option ℕ} → o ≡ row_in s z n v.bytes → ((r : ℕ) → o ≡ some r → w ≡ wide_at z r) → (own_all false whole nothing).over ≡ true → w ≡ kept ps v ts
  row_kept {w} {o} found wide e = by o (sym found) wide ∙ sym (ap (λ (b : Bool). cond b (wide_call (wides ps) v ts) (activities_all (base_all whole))) e)
    where
      by : (o : Option ℕ) → row_in s z n v.bytes ≡ o → ((r : ℕ) → o ≡ some r → w ≡ wide_at z r) → w ≡ wide_call (wides ps) v ts
      by none q f = absurd (stays_few (calls-none s z v n ps rows q v.place actuals) e)
      by (some i) q f = f i refl ∙ row-wide i (calls-row s z v n ps i rows q) e
