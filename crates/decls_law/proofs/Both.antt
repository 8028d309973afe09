-- Names and procedures in one area: neither changes what the other says, and what is between them stays as it was.
-- Assumes nothing.
use mathlib.Core.Bool.{true, cond}
use mathlib.Core.Path.{◌≡◌, refl, sym, ◌∙◌, ap}
use mathlib.Core.List.{List, [], ◌∷◌}
use Prim.Native.Nat.{ℕ, zero, suc, ◌+◌, ◌-◌, ◌*◌, ◌/◌, ◌%◌, ◌≤◌, ◌<◌}
use native.Mathlib.Omega.{arith}
use native.Mathlib.Decide.{dec_lt}
use native.Mathlib.Numerals.{add-one}
use lib.ListN.{length, get_or}
use Rattle.meaning.specs.Declared.{Declaration, name_of}
use Rattle.meaning.specs.Unexpanded.{Procedure, DeclaredName, a_variable, a_procedure}
use Rattle.meaning.specs.Expansion.{variables_of}
use Rattle.language.specs.Words.{same}
use Rattle.words.specs.Runs.{part}
use Rattle.names.specs.declared.Marks.{Marks}
use Rattle.names.specs.Look.{place_at, look_in, put_entry}
use Rattle.names.specs.Enter.{tag_of, number_for, sizes_at, put, enter, enter_all}
use Rattle.decls.specs.Held.{row_of, row_end, row_in, put_row, with_six, Held, rowed, enter_variable, enter_procedure, enter_one, enter_each, asked}
use Rattle.decls.specs.Came.{EachLies, AllLie}
use Rattle.decls_law.proofs.Looked.{put-below, put-above, put_0, put_1, put_2, put_3, put-length, place-back, look_frame}

-- ---- the same entry in two areas

put_agree : (t u : List ℕ) (n p k l v : ℕ) → n * 4 + 4 ≤ length t → n * 4 + 4 ≤ length u → ((j : ℕ) → j < n * 4 → get_or t j 0 ≡ get_or u j 0)
    → (j : ℕ) → j < n * 4 + 4 → get_or (put_entry t n p k l v) j 0 ≡ get_or (put_entry u n p k l v) j 0
put_agree t u n p k l v a b f j h = go (dec_lt j (n * 4))
  where
    at : (e : ℕ) → j ≡ n * 4 + e → e < 4 → get_or (put_entry t n p k l v) j 0 ≡ get_or (put_entry u n p k l v) j 0
    at zero q m = let z : j ≡ n * 4 = omega arith in rw z (put_0 t n p k l v a ∙ sym (put_0 u n p k l v b))
    at (suc zero) q m = rw q (put_1 t n p k l v a ∙ sym (put_1 u n p k l v b))
    at (suc (suc zero)) q m = rw q (put_2 t n p k l v a ∙ sym (put_2 u n p k l v b))
    at (suc (suc (suc zero))) q m = rw q (put_3 t n p k l v a ∙ sym (put_3 u n p k l v b))
    at (suc (suc (suc (suc e)))) q m = absurd (omega arith)

    go : Dec (j < n * 4) → get_or (put_entry t n p k l v) j 0 ≡ get_or (put_entry u n p k l v) j 0
    go (yes m) = put-below t n p k l v a j m ∙ f j m ∙ sym (put-below u n p k l v b j m)
    go (no m) = at (j - n * 4) (omega arith) (omega arith)

-- ---- rows

-- rows that are left alone
pub row_frame : (s t u x : List ℕ) (n : ℕ) → n ≤ 4096 → ((j : ℕ) → 16384 ≤ j + n * 4 → get_or u j 0 ≡ get_or t j 0) → row_in s u n x ≡ row_in s t n x
unfolding row_in row_end place_at
row_frame s t u x zero h f = refl
row_frame s t u x (suc n) h f =
    rw (f ((4095 - n) * 4) (omega arith), f ((4095 - n) * 4 + 1) (omega arith), f ((4095 - n) * 4 + 3) (omega arith), row_frame s t u x n (omega arith) (λ j g. f j (omega arith))) refl

module _ (t : List ℕ) (n p l : ℕ) (low : n < 4096) (long : 16384 ≤ length t) where
  room_row : row_of n * 4 + 4 ≤ length t
  room_row = omega arith

  pub row_below : (j : ℕ) → j + n * 4 + 4 ≤ 16383 → get_or (put_row t n p l) j 0 ≡ get_or t j 0
  unfolding put_row
  row_below j h = put-below t (row_of n) p 0 0 l room_row j (omega arith)

  pub row-above : (j : ℕ) → 16384 ≤ j + n * 4 → get_or (put_row t n p l) j 0 ≡ get_or t j 0
  unfolding put_row
  row-above j h = put-above t (row_of n) p 0 0 l room_row j (omega arith)

  pub row_low : get_or (put_row t n p l) (16380 - n * 4) 0 ≡ p % 256
  unfolding put_row
  row_low = let e : 16380 - n * 4 ≡ row_of n * 4 = omega arith in rw e (put_0 t (row_of n) p 0 0 l room_row)

  pub row-high : get_or (put_row t n p l) (16380 - n * 4 + 1) 0 ≡ p / 256
  unfolding put_row
  row-high = let e : 16380 - n * 4 + 1 ≡ row_of n * 4 + 1 = omega arith in let z = put_1 t (row_of n) p 0 0 l room_row in rw e (omega (arith, z))

  pub row-length : length (put_row t n p l) ≡ length t
  unfolding put_row
  row-length = put-length t (row_of n) p 0 0 l room_row

  row-end : p < 8192 → row_end (put_row t n p l) (row_of n) ≡ p + l
  unfolding row_end put_row
  row-end h = rw (place-back t (row_of n) p 0 0 l room_row h, put_3 t (row_of n) p 0 0 l room_row) refl

  row-place : p < 8192 → place_at (put_row t n p l) (row_of n) ≡ p
  unfolding put_row
  row-place h = place-back t (row_of n) p 0 0 l room_row h

  -- .. the last one is found by its name
  pub row_last : (s x : List ℕ) → p < 8192 → row_in s (put_row t n p l) (n + 1) x ≡ cond (same (part s p (p + l)) x) true (row_in s t n x)
  unfolding row_in
  row_last s x h =
      ap (λ (k : ℕ). row_in s (put_row t n p l) k x) (add-one n)
      ∙ rw (row-place h, row-end h, row_frame s t (put_row t n p l) x n (omega arith) row-above) refl

-- ---- one after the other

-- what is left to be entered finds its room
pub record Fits (g : Held) (ds : List DeclaredName) : Type 0 where
  pub long : 16384 ≤ length g.bytes
  pub room : g.marks.names * 4 + g.procedures * 4 + asked ds ≤ 16384

module _ (s : List ℕ) where
  -- what a variable adds
  pub variable-names : (d : Declaration) (g : Held) → (enter_variable s d g).marks.names ≡ g.marks.names + 1
  unfolding enter_variable with_six put
  variable-names d g = refl

  pub variable-rows : (d : Declaration) (g : Held) → (enter_variable s d g).procedures ≡ g.procedures
  unfolding enter_variable
  variable-rows d g = refl

  pub variable-bytes : (d : Declaration) (g : Held) → (enter_variable s d g).bytes ≡ put_entry g.bytes g.marks.names (name_of d).place (tag_of d) (length (name_of d).bytes) (number_for (tag_of d) g.marks)
  unfolding enter_variable put
  variable-bytes d g = refl

  -- .. and a procedure
  pub procedure-names : (p : Procedure) (g : Held) → (enter_procedure s p g).marks.names ≡ g.marks.names
  unfolding enter_procedure with_six
  procedure-names p g = refl

  pub procedure-rows : (p : Procedure) (g : Held) → (enter_procedure s p g).procedures ≡ g.procedures + 1
  unfolding enter_procedure
  procedure-rows p g = refl

  pub procedure-bytes : (p : Procedure) (g : Held) → (enter_procedure s p g).bytes ≡ put_row g.bytes g.procedures p.name.place (length p.name.bytes)
  unfolding enter_procedure rowed
  procedure-bytes p g = refl

  module _ (g : Held) (ds : List DeclaredName) where
    -- the room that each finds
    pub variable-room : (d : Declaration) → Fits g (a_variable d ∷ ds) → (g.marks.names * 4 + 4 ≤ length g.bytes) × (g.marks.names * 4 + 4 + g.procedures * 4 ≤ 16384)
    unfolding asked
    variable-room d f = (omega (arith, f.long, f.room), omega (arith, f.room))

    pub procedure-room : (p : Procedure) → Fits g (a_procedure p ∷ ds) → (g.procedures < 4096) × (g.marks.names * 4 + g.procedures * 4 + 4 ≤ 16384)
    unfolding asked
    procedure-room p f = (omega (arith, f.room), omega (arith, f.room))

    pub fits_on : (d : DeclaredName) → Fits g (d ∷ ds) → Fits (enter_one s d g) ds
    unfolding asked
    fits_on (a_variable d) f =
        let r = variable-room d f in
        record {
          long = rw (variable-bytes d g, put-length g.bytes g.marks.names (name_of d).place (tag_of d) (length (name_of d).bytes) (number_for (tag_of d) g.marks) r.0) f.long;
          room = omega (arith, f.room, variable-names d g, variable-rows d g);
        }
    fits_on (a_procedure p) f =
        let r = procedure-room p f in
        record {
          long = rw (procedure-bytes p g, row-length g.bytes g.procedures p.name.place (length p.name.bytes) r.0 f.long) f.long;
          room = omega (arith, f.room, procedure-names p g, procedure-rows p g);
        }

    -- neither moves a byte between the names and the rows that are there behind it
    pub between-one : (d : DeclaredName) → Fits g (d ∷ ds) → (j : ℕ) → (enter_one s d g).marks.names * 4 ≤ j → j + (enter_one s d g).procedures * 4 < 16384 → get_or (enter_one s d g).bytes j 0 ≡ get_or g.bytes j 0
    between-one (a_variable d) f j a b =
        let r = variable-room d f in
        ap (λ (y : List ℕ). get_or y j 0) (variable-bytes d g) ∙ put-above g.bytes g.marks.names (name_of d).place (tag_of d) (length (name_of d).bytes) (number_for (tag_of d) g.marks) r.0 j (omega (arith, a, variable-names d g))
    between-one (a_procedure p) f j a b =
        let r = procedure-room p f in
        ap (λ (y : List ℕ). get_or y j 0) (procedure-bytes p g) ∙ row_below g.bytes g.procedures p.name.place (length p.name.bytes) r.0 f.long j (omega (arith, b, procedure-rows p g))

    -- a variable moves no row, and a procedure no name
    pub rows_stay : (d : Declaration) → Fits g (a_variable d ∷ ds) → (j : ℕ) → 16384 ≤ j + g.procedures * 4 → get_or (enter_variable s d g).bytes j 0 ≡ get_or g.bytes j 0
    rows_stay d f j h =
        let r = variable-room d f in
        ap (λ (y : List ℕ). get_or y j 0) (variable-bytes d g) ∙ put-above g.bytes g.marks.names (name_of d).place (tag_of d) (length (name_of d).bytes) (number_for (tag_of d) g.marks) r.0 j (omega (arith, r.1, h))

    pub names_stay : (p : Procedure) → Fits g (a_procedure p ∷ ds) → (j : ℕ) → j < g.marks.names * 4 → get_or (enter_procedure s p g).bytes j 0 ≡ get_or g.bytes j 0
    names_stay p f j h =
        let r = procedure-room p f in
        ap (λ (y : List ℕ). get_or y j 0) (procedure-bytes p g) ∙ row_below g.bytes g.procedures p.name.place (length p.name.bytes) r.0 f.long j (omega (arith, h, r.1))

    pub rows_above : (p : Procedure) → Fits g (a_procedure p ∷ ds) → (j : ℕ) → 16384 ≤ j + g.procedures * 4 → get_or (enter_procedure s p g).bytes j 0 ≡ get_or g.bytes j 0
    rows_above p f j h =
        let r = procedure-room p f in
        ap (λ (y : List ℕ). get_or y j 0) (procedure-bytes p g) ∙ row-above g.bytes g.procedures p.name.place (length p.name.bytes) r.0 f.long j h

  -- ---- all of them

  grows_one : (d : DeclaredName) (g : Held) → (g.marks.names ≤ (enter_one s d g).marks.names) × (g.procedures ≤ (enter_one s d g).procedures)
  grows_one (a_variable d) g = (omega (arith, variable-names d g), omega (arith, variable-rows d g))
  grows_one (a_procedure p) g = (omega (arith, procedure-names p g), omega (arith, procedure-rows p g))

  pub grows : (ds : List DeclaredName) (g : Held) → (g.marks.names ≤ (enter_each s ds g).marks.names) × (g.procedures ≤ (enter_each s ds g).procedures)
  unfolding enter_each
  grows [] g = (omega arith, omega arith)
  grows (d ∷ ds) g = let (a, b) = grows_one d g in let (e, f) = grows ds (enter_one s d g) in (omega (arith, a, e), omega (arith, b, f))

  pub fits_all : (ds : List DeclaredName) (g : Held) → Fits g ds → Fits (enter_each s ds g) []
  unfolding enter_each
  fits_all [] g f = f
  fits_all (d ∷ ds) g f = fits_all ds (enter_one s d g) (fits_on g ds d f)

  -- the bytes between the names and the rows stay as they were
  pub between : (ds : List DeclaredName) (g : Held) → Fits g ds → (j : ℕ) → (enter_each s ds g).marks.names * 4 ≤ j → j + (enter_each s ds g).procedures * 4 < 16384 → get_or (enter_each s ds g).bytes j 0 ≡ get_or g.bytes j 0
  unfolding enter_each
  between [] g f j a b = refl
  between (d ∷ ds) g f j a b =
      let (e, h) = grows ds (enter_one s d g) in
      between ds (enter_one s d g) (fits_on g ds d f) j a b ∙ between-one g ds d f j (omega (arith, a, e)) (omega (arith, b, h))

  -- ---- the variables alone

  -- all marks but the place of fault 6, and the entries, are those of the variables alone
  pub record Beside (g : Held) (m : Marks) (t : List ℕ) : Type 0 where
    pub marks : g.marks ≡ with_six m g.marks.six
    pub long : length t ≡ length g.bytes
    pub below : (j : ℕ) → j < m.names * 4 → get_or g.bytes j 0 ≡ get_or t j 0

  pub beside-start : (m : Marks) (t : List ℕ) → Beside (record { marks = m; procedures = 0; bytes = t }) m t
  unfolding with_six
  beside-start m t = record { marks = refl; long = refl; below = λ j h. refl }

  six_names : (m : Marks) (k : ℕ) → (with_six m k).names ≡ m.names
  unfolding with_six
  six_names m k = refl

  -- a name is entered alike, whatever the place of fault 6
  enter_six : (d : Declaration) (m : Marks) (k x : ℕ) (t u : List ℕ) → with_six (enter s d (with_six m k) t).marks x ≡ with_six (enter s d m u).marks x
  unfolding with_six put sizes_at number_for
  enter_six d m k x t u = refl

  number_six : (d : Declaration) (m : Marks) (k : ℕ) → number_for (tag_of d) (with_six m k) ≡ number_for (tag_of d) m
  unfolding with_six number_for
  number_six d m k = refl

  variable-marks : (d : Declaration) (g : Held) → (enter_variable s d g).marks ≡ with_six (enter s d g.marks g.bytes).marks (enter_variable s d g).marks.six
  unfolding enter_variable with_six
  variable-marks d g = refl

  procedure-marks : (p : Procedure) (g : Held) → (enter_procedure s p g).marks ≡ with_six g.marks (enter_procedure s p g).marks.six
  unfolding enter_procedure with_six
  procedure-marks p g = refl

  six_twice : (m : Marks) (k x : ℕ) → with_six (with_six m k) x ≡ with_six m x
  unfolding with_six
  six_twice m k x = refl

  enter-bytes : (d : Declaration) (m : Marks) (t : List ℕ) → (enter s d m t).bytes ≡ put_entry t m.names (name_of d).place (tag_of d) (length (name_of d).bytes) (number_for (tag_of d) m)
  unfolding put
  enter-bytes d m t = refl

  enter-names : (d : Declaration) (m : Marks) (t : List ℕ) → (enter s d m t).marks.names ≡ m.names + 1
  unfolding put
  enter-names d m t = refl

  beside-variable : (d : Declaration) (ds : List DeclaredName) (g : Held) (m : Marks) (t : List ℕ) → Fits g (a_variable d ∷ ds) → Beside g m t → Beside (enter_variable s d g) (enter s d m t).marks (enter s d m t).bytes
  beside-variable d ds g m t f b =
      let r = variable-room g ds d f in
      let n : g.marks.names ≡ m.names = ap (λ (y : Marks). y.names) b.marks ∙ six_names m g.marks.six in
      let v : number_for (tag_of d) g.marks ≡ number_for (tag_of d) m = ap (number_for (tag_of d)) b.marks ∙ number_six d m g.marks.six in
      let p = (name_of d).place in
      let l = length (name_of d).bytes in
      let q : (enter_variable s d g).bytes ≡ put_entry g.bytes m.names p (tag_of d) l (number_for (tag_of d) m) = variable-bytes d g ∙ ap (λ (k : ℕ). put_entry g.bytes k p (tag_of d) l (number_for (tag_of d) g.marks)) n ∙ ap (put_entry g.bytes m.names p (tag_of d) l) v in
      let room : m.names * 4 + 4 ≤ length g.bytes = omega (arith, r.0, n) in
      record {
        marks = variable-marks d g ∙ ap (λ (y : Marks). with_six (enter s d y g.bytes).marks (enter_variable s d g).marks.six) b.marks ∙ enter_six d m g.marks.six (enter_variable s d g).marks.six g.bytes t;
        long = ap length (enter-bytes d m t) ∙ put-length t m.names p (tag_of d) l (number_for (tag_of d) m) (omega (arith, room, b.long)) ∙ b.long ∙ sym (ap length q ∙ put-length g.bytes m.names p (tag_of d) l (number_for (tag_of d) m) room);
        below = λ j h. ap (λ (y : List ℕ). get_or y j 0) q ∙ put_agree g.bytes t m.names p (tag_of d) l (number_for (tag_of d) m) room (omega (arith, room, b.long)) b.below j (omega (arith, h, enter-names d m t)) ∙ ap (λ (y : List ℕ). get_or y j 0) (sym (enter-bytes d m t));
      }

  beside-procedure : (p : Procedure) (ds : List DeclaredName) (g : Held) (m : Marks) (t : List ℕ) → Fits g (a_procedure p ∷ ds) → Beside g m t → Beside (enter_procedure s p g) m t
  beside-procedure p ds g m t f b =
      let r = procedure-room g ds p f in
      let n : g.marks.names ≡ m.names = ap (λ (y : Marks). y.names) b.marks ∙ six_names m g.marks.six in
      let k = (enter_procedure s p g).marks.six in
      record {
        marks = procedure-marks p g ∙ ap (λ (y : Marks). with_six y k) b.marks ∙ six_twice m g.marks.six k;
        long = b.long ∙ sym (ap length (procedure-bytes p g) ∙ row-length g.bytes g.procedures p.name.place (length p.name.bytes) r.0 f.long);
        below = λ j h. names_stay g ds p f j (omega (arith, h, n)) ∙ b.below j h;
      }

  pub beside-all : (ds : List DeclaredName) (g : Held) (m : Marks) (t : List ℕ) → Fits g ds → Beside g m t → Beside (enter_each s ds g) (enter_all s (variables_of ds) m t).marks (enter_all s (variables_of ds) m t).bytes
  unfolding enter_each enter_all variables_of
  beside-all [] g m t f b = b
  beside-all (a_variable d ∷ ds) g m t f b = beside-all ds (enter_variable s d g) (enter s d m t).marks (enter s d m t).bytes (fits_on g ds (a_variable d) f) (beside-variable d ds g m t f b)
  beside-all (a_procedure p ∷ ds) g m t f b = beside-all ds (enter_procedure s p g) m t (fits_on g ds (a_procedure p) f) (beside-procedure p ds g m t f b)

  -- the entries say the same of every name
  pub beside-looks : (g : Held) (m : Marks) (t x : List ℕ) → Beside g m t → look_in s g.bytes g.marks.names x ≡ look_in s t m.names x
  unfolding look_in
  beside-looks g m t x b =
      let n : g.marks.names ≡ m.names = ap (λ (y : Marks). y.names) b.marks ∙ six_names m g.marks.six in
      ap (λ (k : ℕ). look_in s g.bytes k x) n ∙ look_frame s t g.bytes x m.names b.below m.names 0 (omega arith)

  pub each_variables : (ds : List DeclaredName) → EachLies s ds → AllLie s (variables_of ds)
  unfolding variables_of
  each_variables [] x = tt
  each_variables (a_variable d ∷ ds) (l, x) = (l, each_variables ds x)
  each_variables (a_procedure p ∷ ds) (l, x) = each_variables ds x
