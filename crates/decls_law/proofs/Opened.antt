-- Behind the declarations of a program no call is open: every procedure has its row, there is room for every frame, and it is zero if it was.
-- Assumes nothing.
use mathlib.Core.Path.{◌≡◌, refl, sym, ◌∙◌, ap, subst}
use mathlib.Core.List.{List, [], ◌∷◌}
use Prim.Native.Nat.{ℕ, zero, suc, ◌+◌, ◌-◌, ◌*◌, ◌≤◌, ◌<◌}
use native.Mathlib.Omega.{arith}
use native.Mathlib.Numerals.{add-one}
use lib.ListN.{length, get_or}
use Rattle.meaning.specs.Declared.{Declaration, output_count, look_up}
use Rattle.meaning.specs.Unexpanded.{Procedure, DeclaredName, a_variable, a_procedure}
use Rattle.meaning.specs.Expansion.{variables_of, procedures_from}
use Rattle.names.specs.declared.Marks.{Marks}
use Rattle.names.specs.Look.{look_in}
use Rattle.names.specs.Enter.{cap, enter_all, start_marks}
use Rattle.decls.specs.Held.{with_six, Held, put_row, enter_variable, enter_procedure, enter_each, asked}
use Rattle.decls.specs.Came.{Lasts, EachLies, held_of}
use Rattle.frames_law.specs.Frames.{NamedAt, Each, Framed}
use Rattle.frames.specs.Layout.{half_at, procedure_at, formals_at, chain_bytes}
use Rattle.frames.specs.Open.{ProcedureAt, Rows, Sized, Nested, Open}
use Rattle.frames.proofs.Heads.{head_of}
use Rattle.decls_law.specs.Rows.{Placed, Filled, Fills, Alike}
use Rattle.decls_law.proofs.Looked.{capped_of, looked}
use Rattle.decls_law.proofs.Both.{Fits, row_low, row-high, variable-rows, procedure-rows, procedure-bytes, procedure-room, variable-names, procedure-names, rows_stay, rows_above, fits_on, fits_all, between, Beside, beside-start, beside-all, beside-looks, each_variables}

pub each-length : {A : Type 0} (R : ℕ → A → Type 0) (ps : List ℕ) (xs : List A) → Each R ps xs → length ps ≡ length xs
each-length R [] [] e = refl
each-length R [] (x ∷ xs) e = absurd e
each-length R (p ∷ ps) [] e = absurd e
each-length R (p ∷ ps) (x ∷ xs) (r, e) = omega (arith, each-length R ps xs e)

-- ---- rows

module _ (s : List ℕ) where
  pub placed_stays : (z u : List ℕ) (n : ℕ) (ps : List Procedure) → ((i : ℕ) → i < n → procedure_at u i ≡ procedure_at z i) → Placed s z n ps → Placed s u n ps
  unfolding Placed
  placed_stays z u zero ps f x = x
  placed_stays z u (suc n) ps f (p, qs, e, a, x) =
      (p, qs, e, subst (λ (k : ℕ). ProcedureAt s k p) (sym (f n (omega arith))) a, placed_stays z u n qs (λ i h. f i (omega (arith, h))) x)

  -- .. with the activities filled in
  pub rows_are : (z : List ℕ) (n : ℕ) (ps : List Procedure) → Placed s z n ps → Filled z n ps → Rows s z n ps
  unfolding Placed Filled Rows
  rows_are z zero ps x f = x
  rows_are z (suc n) ps (p, qs, e, a, x) f = let g = subst (Filled z (suc n)) e f in (p, qs, e, a, g.0, rows_are z n qs x g.1)

  half_same : (z u : List ℕ) (n : ℕ) → n ≤ 4096 → ((j : ℕ) → 16384 ≤ j + n * 4 → get_or u j 0 ≡ get_or z j 0) → (i : ℕ) → i < n → procedure_at u i ≡ procedure_at z i
  unfolding procedure_at half_at
  half_same z u n m f i h = rw (f (16380 - i * 4) (omega arith), f (16380 - i * 4 + 1) (omega arith)) refl

  row-place : (t : List ℕ) (n p l : ℕ) → n < 4096 → 16384 ≤ length t → procedure_at (put_row t n p l) n ≡ p
  unfolding procedure_at half_at
  row-place t n p l h m = rw (row_low t n p l h m, row-high t n p l h m) (omega arith)

  module _ (g : Held) (ds : List DeclaredName) (ps : List Procedure) (x : Placed s g.bytes g.procedures ps) where
    placed-variable : (d : Declaration) → Fits g (a_variable d ∷ ds) → Placed s (enter_variable s d g).bytes (enter_variable s d g).procedures ps
    unfolding asked
    placed-variable d f =
        subst (λ (k : ℕ). Placed s (enter_variable s d g).bytes k ps) (sym (variable-rows s d g))
        (placed_stays g.bytes (enter_variable s d g).bytes g.procedures ps (half_same g.bytes (enter_variable s d g).bytes g.procedures (omega (arith, f.room)) (rows_stay s g ds d f)) x)

    placed-procedure : (p : Procedure) → Lasts s p → Fits g (a_procedure p ∷ ds) → Placed s (enter_procedure s p g).bytes (enter_procedure s p g).procedures (p ∷ ps)
    unfolding Placed
    placed-procedure p l f = subst (λ (k : ℕ). Placed s u k (p ∷ ps)) (sym (procedure-rows s p g ∙ add-one g.procedures)) (cons placed)
      where
        u : List ℕ
        u = (enter_procedure s p g).bytes

        r : (g.procedures < 4096) × (g.marks.names * 4 + g.procedures * 4 + 4 ≤ 16384)
        r = procedure-room s g ds p f

        placed : Placed s u g.procedures ps
        placed = placed_stays g.bytes u g.procedures ps (half_same g.bytes u g.procedures (omega (arith, r.0)) (rows_above s g ds p f)) x

        at : procedure_at u g.procedures ≡ p.name.place
        at = ap (λ (y : List ℕ). procedure_at y g.procedures) (procedure-bytes s p g) ∙ row-place g.bytes g.procedures p.name.place (length p.name.bytes) r.0 f.long

        cons : Placed s u g.procedures ps → Placed s u (suc g.procedures) (p ∷ ps)
        cons y = (p, ps, refl, subst (λ (k : ℕ). ProcedureAt s k p) (sym at) l.stands, y)

  pub placed-all : (ds : List DeclaredName) (g : Held) (ps : List Procedure) → EachLies s ds → Fits g ds → Placed s g.bytes g.procedures ps → Placed s (enter_each s ds g).bytes (enter_each s ds g).procedures (procedures_from ps ds)
  unfolding enter_each procedures_from
  placed-all [] g ps l f x = x
  placed-all (a_variable d ∷ ds) g ps (l, ls) f x = placed-all ds (enter_variable s d g) ps ls (fits_on s g ds (a_variable d) f) (placed-variable g ds ps x d f)
  placed-all (a_procedure p ∷ ds) g ps (l, ls) f x = placed-all ds (enter_procedure s p g) (p ∷ ps) ls (fits_on s g ds (a_procedure p) f) (placed-procedure g ds ps x p l f)

  -- ---- room

  -- what the frames of these ask for, one in the other
  unfoldable owed : List Procedure → ℕ
  owed [] = 0
  owed (p ∷ ps) = 4 + length p.formals * 4 + owed ps

  chain_is : (z : List ℕ) (n : ℕ) (ps : List Procedure) → length s ≤ 8192 → Placed s z n ps → chain_bytes s z n ≡ owed ps
  unfolding chain_bytes Placed owed
  chain_is z zero ps h x = rw x refl
  chain_is z (suc n) ps h (p, qs, e, a, x) = omega (arith, each-length (NamedAt s) (formals_at s (procedure_at z n)) p.formals (head_of s (procedure_at z n) p h a).formals, chain_is z n qs h x, ap owed e)

  owes_all : (ds : List DeclaredName) (g : Held) (ps : List Procedure) → (enter_each s ds g).marks.names * 4 + (enter_each s ds g).procedures * 4 + owed (procedures_from ps ds) ≡ g.marks.names * 4 + g.procedures * 4 + owed ps + asked ds
  unfolding enter_each procedures_from asked owed
  owes_all [] g ps = omega arith
  owes_all (a_variable d ∷ ds) g ps = omega (arith, owes_all ds (enter_variable s d g) ps, variable-names s d g, variable-rows s d g)
  owes_all (a_procedure p ∷ ds) g ps = omega (arith, owes_all ds (enter_procedure s p g) (p ∷ ps), procedure-names s p g, procedure-rows s p g)

  -- ---- behind the declarations of a program

  module _ (ds : List DeclaredName) (low : ℕ) (t : List ℕ) (lie : EachLies s ds) (long : 16384 ≤ length t) (room : 4 + asked ds ≤ 16384) where
    abbrev end : Held
    end = enter_each s ds (held_of (start_marks low) 0 t)

    start_fits : Fits (held_of (start_marks low) 0 t) ds
    unfolding start_marks
    start_fits = record { long = long; room = omega (arith, room) }

    start-placed : Placed s t 0 []
    unfolding Placed
    start-placed = refl

    -- every procedure has its row
    pub placed-each : Placed s end.bytes end.procedures (procedures_from [] ds)
    placed-each = placed-all ds (held_of (start_marks low) 0 t) [] lie start_fits start-placed

    -- the bytes between names and rows are as they were
    pub between-each : (j : ℕ) → end.marks.names * 4 ≤ j → j + end.procedures * 4 < 16384 → get_or end.bytes j 0 ≡ get_or t j 0
    between-each = between s ds (held_of (start_marks low) 0 t) start_fits

    room-each : end.marks.names * 4 + 4 + owed (procedures_from [] ds) + end.procedures * 4 ≤ 16384
    unfolding start_marks owed
    room-each = omega (arith, owes_all ds (held_of (start_marks low) 0 t) [], room)

    -- no call is open: where the area was zero and the activities are filled in
    pub open_each : (z : List ℕ) → length s ≤ 8192 → ((j : ℕ) → j < 16384 → get_or t j 0 ≡ 0) → Fills end.bytes z end.procedures → Filled z end.procedures (procedures_from [] ds)
        → Open s z (procedures_from [] ds) [] (record { at = 65535; frame = 0; depth = 0; seen = end.procedures; top = end.marks.names * 4 + 4 })
    unfolding Framed Sized Nested
    open_each z short clear fills filled =
        let x : Placed s z end.procedures (procedures_from [] ds) = placed_stays end.bytes z end.procedures (procedures_from [] ds) fills.places placed-each in
        record {
          framed = (refl, refl);
          sized = refl;
          nested = tt;
          rows = rows_are z end.procedures (procedures_from [] ds) x filled;
          long = omega (arith, fills.long, (fits_all s ds (held_of (start_marks low) 0 t) start_fits).long);
          all = end.procedures;
          some = omega arith;
          room = omega (arith, room-each, chain_is z end.procedures (procedures_from [] ds) short x);
          zeros = λ i h m. fills.others i m ∙ between-each i (omega (arith, h)) m ∙ clear i (omega (arith, m));
        }

    -- ---- the variables are as they would be alone

    beside-each : Beside s end (enter_all s (variables_of ds) (start_marks low) t).marks (enter_all s (variables_of ds) (start_marks low) t).bytes
    beside-each = beside-all s ds (held_of (start_marks low) 0 t) (start_marks low) t start_fits (beside-start s (start_marks low) t)

    six_alike : (m : Marks) (k : ℕ) → Alike (with_six m k) m
    unfolding with_six
    six_alike m k = record { nine = refl; names = refl; inputs = refl; outputs = refl; low = refl; bits = refl; word = refl }

    pub alike-each : Alike end.marks (enter_all s (variables_of ds) (start_marks low) t).marks
    alike-each = let m = (enter_all s (variables_of ds) (start_marks low) t).marks in subst (λ (y : Marks). Alike y m) (sym beside-each.marks) (six_alike m end.marks.six)

    pub looks-each : (x : List ℕ) → look_in s end.bytes end.marks.names x ≡ look_in s (enter_all s (variables_of ds) (start_marks low) t).bytes (enter_all s (variables_of ds) (start_marks low) t).marks.names x
    looks-each x = beside-looks s end (enter_all s (variables_of ds) (start_marks low) t).marks (enter_all s (variables_of ds) (start_marks low) t).bytes x beside-each

  few-asked : (ds : List DeclaredName) → length (variables_of ds) * 4 ≤ asked ds
  unfolding variables_of asked
  few-asked [] = omega arith
  few-asked (a_variable d ∷ ds) = omega (arith, few-asked ds)
  few-asked (a_procedure p ∷ ds) = omega (arith, few-asked ds)

  -- S5: what a name stands for by the entries, with numbers above 255 as 255
  pub looked_each : (ds : List DeclaredName) (t : List ℕ) → EachLies s ds → 16384 ≤ length t → 4 + asked ds ≤ 16384 → (x : List ℕ)
      → look_in s (enter_each s ds (held_of (start_marks (cap (output_count (variables_of ds)))) 0 t)).bytes (enter_each s ds (held_of (start_marks (cap (output_count (variables_of ds)))) 0 t)).marks.names x ≡ capped_of (look_up (variables_of ds) x)
  looked_each ds t l h r x = looks-each ds (cap (output_count (variables_of ds))) t l h r x ∙ looked s (variables_of ds) t (each_variables s ds l) (omega (arith, few-asked ds, h, r)) x
