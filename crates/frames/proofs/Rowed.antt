-- The laws of the search for a procedure.
-- Assumes nothing.
use mathlib.Core.Bool.{Bool, true, false, cond}
use mathlib.Core.Path.{◌≡◌, refl, sym}
use mathlib.Core.List.{List, ◌∷◌}
use mathlib.Core.Option.{Option, none, some}
use Prim.Native.Nat.{ℕ, zero, suc, ◌-◌, ◌≤◌, ◌<◌}
use native.Mathlib.Omega.{arith}
use Rattle.meaning.specs.Tree.{Name}
use Rattle.meaning.specs.Declared.{same_bytes}
use Rattle.meaning.specs.Unexpanded.{Term, call}
use Rattle.meaning.specs.Unexpanded as unexpanded
use Rattle.meaning.specs.Expansion.{bind, allowed_by, same_count, alone, expand_all, called, wide_call, wide_all, wides}
use Rattle.frames_law.specs.Frames.{bytes_at}
use Rattle.frames.specs.Layout.{procedure_at, wide_at}
use Rattle.frames.specs.Open.{ProcedureAt, Rows}
use Rattle.frames.specs.Row.{row_in}
use Rattle.frames.proofs.Formal.{none-some}
use Rattle.frames.proofs.Heads.{named}

module _ (s z x : List ℕ) (n : ℕ) (o : Option ℕ) where
  pub row_here : 0 < n → same_bytes (bytes_at s (procedure_at z (n - 1))) x ≡ true → row_in s z n x ≡ o → some (n - 1) ≡ o
  unfolding row_in
  row_here h e q = go n h e q
    where
      go : (n : ℕ) → 0 < n → same_bytes (bytes_at s (procedure_at z (n - 1))) x ≡ true → row_in s z n x ≡ o → some (n - 1) ≡ o
      go zero h e q = absurd (omega arith)
      go (suc n) h e q = let k : suc n - 1 ≡ n = omega arith in rw k (rw (rw k at e) at q)

  pub row_on : 0 < n → same_bytes (bytes_at s (procedure_at z (n - 1))) x ≡ false → row_in s z n x ≡ o → row_in s z (n - 1) x ≡ o
  unfolding row_in
  row_on h e q = go n h e q
    where
      go : (n : ℕ) → 0 < n → same_bytes (bytes_at s (procedure_at z (n - 1))) x ≡ false → row_in s z n x ≡ o → row_in s z (n - 1) x ≡ o
      go zero h e q = absurd (omega arith)
      go (suc n) h e q = let k : suc n - 1 ≡ n = omega arith in rw k (rw (rw k at e) at q)

  pub row_over : n ≤ 0 → row_in s z n x ≡ o → none ≡ o
  unfolding row_in
  row_over h q = go n h q
    where
      go : (n : ℕ) → n ≤ 0 → row_in s z n x ≡ o → none ≡ o
      go zero h q = q
      go (suc n) h q = absurd (omega arith)

pub row_less : (s z x : List ℕ) (n r : ℕ) → row_in s z n x ≡ some r → r < n
unfolding row_in
row_less s z x zero r e = none-some e
row_less s z x (suc n) r e = go (same_bytes (bytes_at s (procedure_at z n)) x) (row_less s z x n r) e
  where
    go : (b : Bool) → (row_in s z n x ≡ some r → r < n) → cond b (some n) (row_in s z n x) ≡ some r → r < suc n
    go true more e = let i : n ≡ r = cc in omega arith
    go false more e = omega (arith, more e)

-- ---- what a name calls

module _ (s z : List ℕ) (v : Name) where
  -- the procedure of row r, and those that its body can call
  pub record Calls (ps : List unexpanded.Procedure) (n r : ℕ) : Type 0 where
    pub procedure : unexpanded.Procedure
    pub before : List unexpanded.Procedure
    pub stands : ProcedureAt s (procedure_at z r) procedure
    pub wide : wide_at z r ≡ wide_all (wides before) procedure.body
    pub rows : Rows s z r before
    pub less : r < n
    pub name : same_bytes procedure.name.bytes v.bytes ≡ true
    pub expands : (at : ℕ) (ts : List Term) → called ps at v ts ≡ called (procedure ∷ before) at v ts
    pub widens : (ts : List Term) → wide_call (wides ps) v ts ≡ wide_call (wides (procedure ∷ before)) v ts

  pub calls-none : (n : ℕ) (ps : List unexpanded.Procedure) → Rows s z n ps → row_in s z n v.bytes ≡ none → (at : ℕ) (ts : List Term) → called ps at v ts ≡ alone (call v ts)
  unfolding Rows row_in called
  calls-none zero ps e q at ts = rw e refl
  calls-none (suc n) ps (p, qs, e, stands, w, more) q at ts = rw e (go (same_bytes p.name.bytes v.bytes) (rw (named s (procedure_at z n) p stands) at q) (calls-none n qs more))
    where
      go : (b : Bool) → cond b (some n) (row_in s z n v.bytes) ≡ none → (row_in s z n v.bytes ≡ none → (at : ℕ) (ts : List Term) → called qs at v ts ≡ alone (call v ts))
          → cond b (cond (same_count p.formals ts) (cond (allowed_by (bind p.formals ts) p.body) (expand_all (called qs at) (λ q. at) (bind p.formals ts) p.body) (alone (call v ts))) (alone (call v ts))) (called qs at v ts) ≡ alone (call v ts)
      go true q less = none-some (sym q)
      go false q less = less q at ts

  pub calls-row : (n : ℕ) (ps : List unexpanded.Procedure) (r : ℕ) → Rows s z n ps → row_in s z n v.bytes ≡ some r → Calls ps n r
  unfolding Rows row_in called wide_call wides
  calls-row zero ps r e q = none-some q
  calls-row (suc n) ps r (p, qs, e, stands, w, more) q = go (same_bytes p.name.bytes v.bytes) refl (rw (named s (procedure_at z n) p stands) at q) (calls-row n qs r more)
    where
      here : same_bytes p.name.bytes v.bytes ≡ true → n ≡ r → Calls ps (suc n) r
      here b i = record { procedure = p; before = qs; stands = rw (← i) stands; wide = rw (← i) w; rows = rw (← i) more; less = omega arith; name = b; expands = λ at ts. rw e refl; widens = λ ts. rw e refl }

      later : same_bytes p.name.bytes v.bytes ≡ false → Calls qs n r → Calls ps (suc n) r
      later b c =
          record {
            procedure = c.procedure;
            before = c.before;
            stands = c.stands;
            wide = c.wide;
            rows = c.rows;
            less = omega (arith, c.less);
            name = c.name;
            expands = λ at ts. rw (e, b) (c.expands at ts);
            widens = λ ts. rw (e, b) (c.widens ts);
          }

      go : (b : Bool) → same_bytes p.name.bytes v.bytes ≡ b → cond b (some n) (row_in s z n v.bytes) ≡ some r → (row_in s z n v.bytes ≡ some r → Calls qs n r) → Calls ps (suc n) r
      go true b q less = here b (let i : n ≡ r = cc in i)
      go false b q less = later b (less q)
