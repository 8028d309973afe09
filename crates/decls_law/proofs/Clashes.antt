-- Refusal 6 among declarations, where procedures stand among them: the definitions' places, the least of all.
-- Assumes nothing.
use mathlib.Core.Bool.{Bool, true, false, cond, not as opposite}
use mathlib.Core.Path.{◌≡◌, refl, sym, ◌∙◌, ap}
use mathlib.Core.List.{List, [], ◌∷◌, ◌++◌}
use Prim.Native.Nat.{ℕ, ◌+◌, ◌≤◌, min}
use native.Mathlib.Omega.{arith}
use lib.ListN.{length}
use Rattle.meaning.specs.Tree.{Name}
use Rattle.meaning.specs.Declared.{Declaration, name_of, same_bytes}
use Rattle.meaning.specs.Names.{when, missing, among, again_from}
use Rattle.meaning.specs.Faults.{least}
use Rattle.meaning.specs.Procedures.{has_name, formals_again, clashes}
use Rattle.meaning.specs.Unexpanded.{Procedure, DeclaredName, a_variable, a_procedure}
use Rattle.meaning.specs.Expansion.{variables_of}
use Rattle.language.specs.Words.{same}
use Rattle.names.specs.declared.Marks.{Marks}
use Rattle.names.specs.Look.{look_from, look_in}
use Rattle.names.specs.Enter.{noted, enter, start_marks}
use Rattle.names.proofs.Same.{same_bytes_lem}
use Rattle.decls.specs.Held.{row_in, known_in, formals_noted, with_six, Held, enter_variable, enter_procedure, enter_each, asked}
use Rattle.decls.specs.Came.{Lies, Lasts, EachLies, held_of}
use Rattle.decls_law.proofs.Least.{least-append, least-min, least-noted, least-when}
use Rattle.decls_law.proofs.Looked.{look_frame, look_entered, known_else, six_entered, written}
use Rattle.decls_law.proofs.Both.{Fits, row_frame, row_last, variable-room, procedure-room, procedure-bytes, rows_stay, names_stay, fits_on}

-- ---- either of two

first_of : (a b c : Bool) → cond a true (cond b true c) ≡ cond (cond a true b) true c
first_of true b c = refl
first_of false b c = refl

either : (a b c : Bool) → cond a true (cond b true c) ≡ cond b true (cond a true c)
either true true c = refl
either true false c = refl
either false true c = refl
either false false c = refl

-- ---- the formals

has_last : (a : List (List ℕ)) (y x : List ℕ) → has_name (a ++ (y ∷ [])) x ≡ cond (has_name a x) true (same_bytes y x)
unfolding has_name
has_last [] y x = go (same_bytes y x)
  where
    go : (b : Bool) → cond b true false ≡ b
    go true = refl
    go false = refl
has_last (z ∷ a) y x = ap (cond (same_bytes z x) true) (has_last a y x) ∙ first_of (same_bytes z x) (has_name a x) (same_bytes y x)

-- the names, those of the list before among them
last_moves : (a b c : Bool) → cond (cond a true b) true c ≡ cond b true (cond a true c)
last_moves true true c = refl
last_moves true false c = refl
last_moves false true c = refl
last_moves false false c = refl

formals-noted : (known : List ℕ → Bool) (fs : List Name) (before names : List (List ℕ)) (six : ℕ) → ((x : List ℕ) → has_name names x ≡ cond (has_name before x) true (known x))
    → formals_noted known before fs six ≡ least six (formals_again names fs)
unfolding formals_noted formals_again least has_name
formals-noted known [] before names six k = refl
formals-noted known (f ∷ fs) before names six k =
    formals-noted known fs (before ++ (f.bytes ∷ [])) (f.bytes ∷ names) (noted (cond (has_name before f.bytes) true (known f.bytes)) f.place six) next
    ∙ ap (λ (b : Bool). least (noted b f.place six) (formals_again (f.bytes ∷ names) fs)) (sym (k f.bytes))
    ∙ sym (least-when (has_name names f.bytes) f.place six (formals_again (f.bytes ∷ names) fs))
  where
    next : (x : List ℕ) → has_name (f.bytes ∷ names) x ≡ cond (has_name (before ++ (f.bytes ∷ [])) x) true (known x)
    next x = ap (cond (same_bytes f.bytes x) true) (k x) ∙ sym (ap (λ (b : Bool). cond b true (known x)) (has_last before f.bytes x) ∙ last_moves (has_name before x) (same_bytes f.bytes x) (known x))

-- ---- places noted in another order

least-swap : (y : ℕ) (a b : List ℕ) → least (least y a) b ≡ least (least y b) a
unfolding least
least-swap y a [] = refl
least-swap y a (q ∷ b) = ap (λ (k : ℕ). least k b) (sym (least-min y q a)) ∙ least-swap (min y q) a b

two-push : (y p : ℕ) (i j : Bool) (a b : List ℕ) → least y ((when i p ++ a) ++ (when j p ++ b)) ≡ least (noted j p (noted i p y)) (a ++ b)
two-push y p i j a b =
    least-append y (when i p ++ a) (when j p ++ b)
    ∙ ap (λ (k : ℕ). least k (when j p ++ b)) (least-when i p y a)
    ∙ least-when j p (least (noted i p y) a) b
    ∙ ap (λ (k : ℕ). least k b) (least-noted j p (noted i p y) a)
    ∙ sym (least-append (noted j p (noted i p y)) a b)

one-push : (y p : ℕ) (j : Bool) (a f b : List ℕ) → least y (a ++ (when j p ++ (f ++ b))) ≡ least (least (noted j p y) f) (a ++ b)
one-push y p j a f b =
    least-append y a (when j p ++ (f ++ b))
    ∙ least-when j p (least y a) (f ++ b)
    ∙ least-append (noted j p (least y a)) f b
    ∙ ap (λ (k : ℕ). least (least k f) b) (least-noted j p y a)
    ∙ ap (λ (k : ℕ). least k b) (least-swap (noted j p y) a f)
    ∙ sym (least-append (least (noted j p y) f) a b)

-- ---- what is known so far

-- these variables, these procedures, and all their names
pub record Knows (s : List ℕ) (g : Held) (earlier : List Declaration) (procedures names : List (List ℕ)) : Type 0 where
  pub variables : (x : List ℕ) → opposite (missing (look_in s g.bytes g.marks.names x)) ≡ among x earlier
  pub rows : (x : List ℕ) → row_in s g.bytes g.procedures x ≡ has_name procedures x
  pub both : (x : List ℕ) → has_name names x ≡ cond (among x earlier) true (has_name procedures x)

module _ (s : List ℕ) where
  variable-look : (d : Declaration) (g : Held) (x : List ℕ) → look_in s (enter_variable s d g).bytes (enter_variable s d g).marks.names x ≡ look_in s (enter s d g.marks g.bytes).bytes (enter s d g.marks g.bytes).marks.names x
  unfolding enter_variable with_six
  variable-look d g x = refl

  variable_six : (d : Declaration) (g : Held) → (enter_variable s d g).marks.six ≡ noted (row_in s g.bytes g.procedures (name_of d).bytes) (name_of d).place (enter s d g.marks g.bytes).marks.six
  unfolding enter_variable with_six
  variable_six d g = refl

  procedure_six : (p : Procedure) (g : Held) → (enter_procedure s p g).marks.six ≡ formals_noted (known_in s (enter_procedure s p g).bytes g.marks.names (g.procedures + 1)) [] p.formals (noted (known_in s g.bytes g.marks.names g.procedures p.name.bytes) p.name.place g.marks.six)
  unfolding enter_procedure with_six
  procedure_six p g = refl

  variable-row : (d : Declaration) (g : Held) (x : List ℕ) → row_in s (enter_variable s d g).bytes (enter_variable s d g).procedures x ≡ row_in s (enter_variable s d g).bytes g.procedures x
  unfolding enter_variable
  variable-row d g x = refl

  module _ (g : Held) (ds : List DeclaredName) (earlier : List Declaration) (procedures names : List (List ℕ)) (w : Knows s g earlier procedures names) where
    knows_variable : (d : Declaration) → Lies s d → Fits g (a_variable d ∷ ds) → Knows s (enter_variable s d g) (d ∷ earlier) procedures ((name_of d).bytes ∷ names)
    unfolding among has_name
    knows_variable d l f =
        let r = variable-room s g ds d f in
        record {
          variables = λ x. ap (λ o. opposite (missing o)) (variable-look d g x ∙ look_entered s d g.marks g.bytes x l r.0) ∙ known_else s (look_in s g.bytes g.marks.names x) (same_bytes (name_of d).bytes x) (written s d g.marks) ∙ ap (cond (same_bytes (name_of d).bytes x) true) (w.variables x);
          rows = λ x. variable-row d g x ∙ row_frame s g.bytes (enter_variable s d g).bytes x g.procedures (omega (arith, r.1)) (rows_stay s g ds d f) ∙ w.rows x;
          both = λ x. ap (cond (same_bytes (name_of d).bytes x) true) (w.both x) ∙ first_of (same_bytes (name_of d).bytes x) (among x earlier) (has_name procedures x);
        }

    procedure-look : (p : Procedure) → Fits g (a_procedure p ∷ ds) → (x : List ℕ) → look_in s (enter_procedure s p g).bytes g.marks.names x ≡ look_in s g.bytes g.marks.names x
    unfolding look_in
    procedure-look p f x = look_frame s g.bytes (enter_procedure s p g).bytes x g.marks.names (names_stay s g ds p f) g.marks.names 0 (omega arith)

    procedure-row : (p : Procedure) → Lasts s p → Fits g (a_procedure p ∷ ds) → (x : List ℕ) → row_in s (enter_procedure s p g).bytes (g.procedures + 1) x ≡ has_name (p.name.bytes ∷ procedures) x
    unfolding has_name
    procedure-row p l f x =
        let r = procedure-room s g ds p f in
        let n = length p.name.bytes in
        ap (λ (y : List ℕ). row_in s y (g.procedures + 1) x) (procedure-bytes s p g)
        ∙ row_last g.bytes g.procedures p.name.place n r.0 f.long s x l.inside
        ∙ ap (λ (b : Bool). cond b true (row_in s g.bytes g.procedures x)) (ap (λ (y : List ℕ). same y x) l.bytes ∙ same_bytes_lem p.name.bytes x)
        ∙ ap (cond (same_bytes p.name.bytes x) true) (w.rows x)

    knows_procedure : (p : Procedure) → Lasts s p → Fits g (a_procedure p ∷ ds) → Knows s (enter_procedure s p g) earlier (p.name.bytes ∷ procedures) (p.name.bytes ∷ names)
    unfolding has_name enter_procedure with_six
    knows_procedure p l f =
        record {
          variables = λ x. ap (λ o. opposite (missing o)) (procedure-look p f x) ∙ w.variables x;
          rows = procedure-row p l f;
          both = λ x. ap (cond (same_bytes p.name.bytes x) true) (w.both x) ∙ either (same_bytes p.name.bytes x) (among x earlier) (has_name procedures x);
        }

    known_is : (x : List ℕ) → known_in s g.bytes g.marks.names g.procedures x ≡ has_name names x
    unfolding known_in
    known_is x = rw (w.variables x, w.rows x) (sym (w.both x))

    six_variable : (d : Declaration) → (enter_variable s d g).marks.six ≡ noted (has_name procedures (name_of d).bytes) (name_of d).place (noted (among (name_of d).bytes earlier) (name_of d).place g.marks.six)
    six_variable d =
        let x = (name_of d).bytes in
        variable_six d g
        ∙ ap (λ (b : Bool). noted b (name_of d).place (enter s d g.marks g.bytes).marks.six) (w.rows x)
        ∙ ap (noted (has_name procedures x) (name_of d).place) (six_entered s d g.marks g.bytes ∙ ap (λ (b : Bool). noted b (name_of d).place g.marks.six) (w.variables x))

    formal-known : (p : Procedure) → Lasts s p → Fits g (a_procedure p ∷ ds) → (x : List ℕ) → has_name (p.name.bytes ∷ names) x ≡ cond (has_name [] x) true (known_in s (enter_procedure s p g).bytes g.marks.names (g.procedures + 1) x)
    unfolding has_name known_in
    formal-known p l f x =
        ap (cond (same_bytes p.name.bytes x) true) (w.both x)
        ∙ either (same_bytes p.name.bytes x) (among x earlier) (has_name procedures x)
        ∙ sym (rw (procedure-look p f x, w.variables x, procedure-row p l f x) refl)

    six_procedure : (p : Procedure) → Lasts s p → Fits g (a_procedure p ∷ ds) → (enter_procedure s p g).marks.six ≡ least (noted (has_name names p.name.bytes) p.name.place g.marks.six) (formals_again (p.name.bytes ∷ names) p.formals)
    six_procedure p l f =
        procedure_six p g
        ∙ formals-noted (known_in s (enter_procedure s p g).bytes g.marks.names (g.procedures + 1)) p.formals [] (p.name.bytes ∷ names) (noted (known_in s g.bytes g.marks.names g.procedures p.name.bytes) p.name.place g.marks.six) (formal-known p l f)
        ∙ ap (λ (b : Bool). least (noted b p.name.place g.marks.six) (formals_again (p.name.bytes ∷ names) p.formals)) (known_is p.name.bytes)

  six_from : (ds : List DeclaredName) (g : Held) (earlier : List Declaration) (procedures names : List (List ℕ)) → EachLies s ds → Fits g ds → Knows s g earlier procedures names
      → (enter_each s ds g).marks.six ≡ least g.marks.six (again_from earlier (variables_of ds) ++ clashes names procedures ds)
  unfolding enter_each again_from variables_of clashes least
  six_from [] g earlier procedures names l f w = refl
  six_from (a_variable d ∷ ds) g earlier procedures names (l, ls) f w =
      let x = (name_of d).bytes in
      let a = again_from (d ∷ earlier) (variables_of ds) in
      let b = clashes (x ∷ names) procedures ds in
      six_from ds (enter_variable s d g) (d ∷ earlier) procedures (x ∷ names) ls (fits_on s g ds (a_variable d) f) (knows_variable g ds earlier procedures names w d l f)
      ∙ ap (λ (k : ℕ). least k (a ++ b)) (six_variable g ds earlier procedures names w d)
      ∙ sym (two-push g.marks.six (name_of d).place (among x earlier) (has_name procedures x) a b)
  six_from (a_procedure p ∷ ds) g earlier procedures names (l, ls) f w =
      let x = p.name.bytes in
      let a = again_from earlier (variables_of ds) in
      let b = clashes (x ∷ names) (x ∷ procedures) ds in
      six_from ds (enter_procedure s p g) earlier (x ∷ procedures) (x ∷ names) ls (fits_on s g ds (a_procedure p) f) (knows_procedure g ds earlier procedures names w p l f)
      ∙ ap (λ (k : ℕ). least k (a ++ b)) (six_procedure g ds earlier procedures names w p l f)
      ∙ sym (one-push g.marks.six p.name.place (has_name names x) a (formals_again (x ∷ names) p.formals) b)

  knows_start : (m : Marks) (t : List ℕ) → m.names ≡ 0 → Knows s (held_of m 0 t) [] [] []
  unfolding look_in look_from row_in among has_name
  knows_start m t e = record { variables = λ x. rw e refl; rows = λ x. refl; both = λ x. refl }

  -- N2, P3: two variables of one name, or a name again where a procedure is one of the two
  pub six_each : (ds : List DeclaredName) (low : ℕ) (t : List ℕ) → EachLies s ds → 16384 ≤ length t → 4 + asked ds ≤ 16384
      → (enter_each s ds (held_of (start_marks low) 0 t)).marks.six ≡ least 65535 (again_from [] (variables_of ds) ++ clashes [] [] ds)
  unfolding start_marks
  six_each ds low t l h r = six_from ds (held_of (start_marks low) 0 t) [] [] [] l (record { long = h; room = omega (arith, r) }) (knows_start (start_marks low) t refl)
