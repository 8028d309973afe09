-- Expansion keeps what a text's tree has.
-- Assumes nothing.
use mathlib.Core.Bool.{Bool, true, false, cond}
use mathlib.Core.List.{List, [], ◌∷◌, map}
use mathlib.Core.Option.{Option, none, some}
use Prim.Native.Nat.{ℕ}
use Rattle.meaning.specs.Tree.{Name, Target, whole, part}
use Rattle.meaning.specs.Declared.{same_bytes}
use Rattle.meaning.specs.Unexpanded.{Term, literal, truth, variable, bit, not, int, arithmetic, comparison, logic, parens, instead, no_name, Command, skip, delay, change, assign, choice, while, loop, exit, break, switch, parallel, call, passing, Commands, end, ◌⨾◌, Tests, default, case, Strands, ◌∥◌, Procedure, DeclaredName, a_variable, a_procedure, Unexpanded}
use Rattle.meaning.specs.Unexpanded as unexpanded
use Rattle.meaning.specs.Expansion.{Bound, actual_of, bind, Form, one_name, one_bit, neither, form_of, moved, read_name, bit_of_form, read_bit, name_of_form, changed_name, target_of_form, changed_whole, replaced, target_replaced, allowed_by, same_count, followed_by, alone, expand, expand_all, expand_tests, expand_each, called, sizes_passed, if_within, outermost, procedures_from, variables_of, expanded_body}
use Rattle.kept_law.specs.Kept.{Every, Near, LowName, LowTerm, LowTarget, Some, Kept, KeptAll, KeptTests, KeptEach, LowDeclared, KeptProcedure, KeptDeclared, KeptProgram, LowBound}

-- ---- terms

abbrev LowForm : Form → Type 0
LowForm (one_name v) = LowName v
LowForm (one_bit v j) = LowName v
LowForm neither = Unit {0}

abbrev LowOption : Option Term → Type 0
LowOption none = Unit {0}
LowOption (some t) = LowTerm t

form-low : (e : Term) → LowTerm e → LowForm (form_of e)
unfolding form_of LowTerm
form-low (literal p n) x = tt
form-low (truth p b) x = tt
form-low (variable v) x = x
form-low (bit v j) x = x
form-low (not p e) x = tt
form-low (int p e) x = tt
form-low (arithmetic o p a b) x = tt
form-low (comparison o p a b) x = tt
form-low (logic o p a b) x = tt
form-low (parens e) x = tt
form-low (instead e) x = form-low e x
form-low (no_name p) x = tt

either : (t : Bool) (a b : Option Term) → LowOption a → LowOption b → LowOption (cond t a b)
either true a b x y = x
either false a b x y = y

actual-low : (bound : List (Bound Term)) (x : List ℕ) → Every LowBound bound → LowOption (actual_of bound x)
unfolding actual_of
actual-low [] x q = tt
actual-low (b ∷ bs) x (l, q) = either (same_bytes b.formal x) (some b.actual) (actual_of bs x) l (actual-low bs x q)

module _ (to : ℕ → ℕ) (near : (p : ℕ) → Near p → Near (to p)) where
  read_low : (v : Name) (o : Option Term) → LowName v → LowOption o → LowTerm (read_name to v o)
  unfolding LowTerm
  read_low v none h x = near v.place h
  read_low v (some t) h x = x

  bit-low : (v : Name) (j : ℕ) (o : Option Term) → LowName v → LowOption o → LowTerm (read_bit to v j o)
  unfolding LowTerm
  bit-low v j none h x = near v.place h
  bit-low v j (some t) h x = by (form_of t) (form-low t x)
    where
      by : (f : Form) → LowForm f → LowTerm (bit_of_form to (to v.place) j f)
      by (one_name w) l = l
      by (one_bit w i) l = near v.place h
      by neither l = near v.place h

  changed-low : (v : Name) (o : Option Term) → LowName v → LowOption o → LowName (changed_name to v o)
  changed-low v none h x = near v.place h
  changed-low v (some t) h x = by (form_of t) (form-low t x)
    where
      by : (f : Form) → LowForm f → LowName (name_of_form to (to v.place) f)
      by (one_name w) l = l
      by (one_bit w i) l = near v.place h
      by neither l = near v.place h

  whole-low : (v : Name) (o : Option Term) → LowName v → LowOption o → LowTarget (changed_whole to v o)
  whole-low v none h x = near v.place h
  whole-low v (some t) h x = by (form_of t) (form-low t x)
    where
      by : (f : Form) → LowForm f → LowTarget (target_of_form to (to v.place) f)
      by (one_name w) l = l
      by (one_bit w i) l = l
      by neither l = near v.place h

  module _ (bound : List (Bound Term)) (actuals : Every LowBound bound) where
    replaced-low : (e : Term) → LowTerm e → LowTerm (replaced to bound e)
    unfolding replaced LowTerm
    replaced-low (literal p n) (h, x) = (near p h, x)
    replaced-low (truth p b) h = near p h
    replaced-low (variable v) h = read_low v (actual_of bound v.bytes) h (actual-low bound v.bytes actuals)
    replaced-low (bit v j) h = bit-low v j (actual_of bound v.bytes) h (actual-low bound v.bytes actuals)
    replaced-low (not p e) (h, x) = (near p h, replaced-low e x)
    replaced-low (int p e) (h, x) = (near p h, replaced-low e x)
    replaced-low (arithmetic o p a b) (h, (x, y)) = (near p h, (replaced-low a x, replaced-low b y))
    replaced-low (comparison o p a b) (h, (x, y)) = (near p h, (replaced-low a x, replaced-low b y))
    replaced-low (logic o p a b) (h, (x, y)) = (near p h, (replaced-low a x, replaced-low b y))
    replaced-low (parens e) x = replaced-low e x
    replaced-low (instead e) x = replaced-low e x
    replaced-low (no_name p) h = near p h

    each-replaced : (ts : List Term) → Every LowTerm ts → Every LowTerm (map (replaced to bound) ts)
    each-replaced [] x = tt
    each-replaced (t ∷ ts) (h, x) = (replaced-low t h, each-replaced ts x)

    target-low : (t : Target Name) → LowTarget t → LowTarget (target_replaced to bound t)
    target-low (whole v) h = whole-low v (actual_of bound v.bytes) h (actual-low bound v.bytes actuals)
    target-low (part v j) h = changed-low v (actual_of bound v.bytes) h (actual-low bound v.bytes actuals)

bind-low : (ns : List Name) (ts : List Term) → Every LowTerm ts → Every LowBound (bind ns ts)
unfolding bind
bind-low [] ts x = tt
bind-low (n ∷ ns) [] x = tt
bind-low (n ∷ ns) (t ∷ ts) (h, x) = (h, bind-low ns ts x)

-- ---- statements

-- a list of one or more, kept
abbrev pub Stands : Commands → Type 0
Stands x = Some x × KeptAll x

followed : (x y : Commands) → KeptAll x → KeptAll y → KeptAll (followed_by x y)
unfolding followed_by Kept
followed end y a b = b
followed (l ⨾ ls) y (h, a) b = (h, followed ls y a b)

some_followed : (x y : Commands) → Some x → Some (followed_by x y)
unfolding followed_by
some_followed end y e = absurd e
some_followed (l ⨾ ls) y e = tt

module _ (calls : Name → List Term → Commands) (keeps : (v : Name) (ts : List Term) → LowName v → Every LowTerm ts → Stands (calls v ts))
    (to : ℕ → ℕ) (near : (p : ℕ) → Near p → Near (to p)) (bound : List (Bound Term)) (actuals : Every LowBound bound) where
  abbrev low : (e : Term) → LowTerm e → LowTerm (replaced to bound e)
  low = replaced-low to near bound actuals

  mutual
    unfolding expand Kept

    pub command_kept : (c : Command) → Kept c → Stands (expand calls to bound c)
    command_kept (skip p) h = (tt, (near p h, tt))
    command_kept (delay p q n) (h, i) = (tt, ((near p h, near q i), tt))
    command_kept (change p c t) (h, x) = (tt, ((near p h, target-low to near bound actuals t x), tt))
    command_kept (assign v e) (h, x) = (tt, ((changed-low to near v (actual_of bound v.bytes) h (actual-low bound v.bytes actuals), low e x), tt))
    command_kept (choice p e a b) (h, (x, (y, z))) = (tt, ((near p h, (low e x, (all-kept a y, all-kept b z))), tt))
    command_kept (while p e b) (h, (x, y)) = (tt, ((near p h, (low e x, all-kept b y)), tt))
    command_kept (loop p b) (h, x) = (tt, ((near p h, all-kept b x), tt))
    command_kept (exit p) h = (tt, (near p h, tt))
    command_kept (break p) h = (tt, (near p h, tt))
    command_kept (switch p ts) (h, x) = (tt, ((near p h, tests-kept ts x), tt))
    command_kept (parallel p bs) (h, x) = (tt, ((near p h, each-kept bs x), tt))
    command_kept (call v ts) (h, x) = keeps (moved to v) (map (replaced to bound) ts) (near v.place h) (each-replaced to near bound actuals ts x)
    command_kept (passing p k) h = (tt, (near p h, tt))

    pub all-kept : (x : Commands) → KeptAll x → KeptAll (expand_all calls to bound x)
    all-kept end h = tt
    all-kept (l ⨾ ls) (h, x) = followed (expand calls to bound l) (expand_all calls to bound ls) (command_kept l h).1 (all-kept ls x)

    tests-kept : (ts : Tests) → KeptTests ts → KeptTests (expand_tests calls to bound ts)
    tests-kept (default d) x = all-kept d x
    tests-kept (case p e b ts) (h, (x, (s, (y, z)))) = (near p h, (low e x, (some-kept b s y, (all-kept b y, tests-kept ts z))))

    each-kept : (bs : Strands) → KeptEach bs → KeptEach (expand_each calls to bound bs)
    each-kept unexpanded.none x = tt
    each-kept (b ∥ bs) (s, (x, y)) = (some-kept b s x, (all-kept b x, each-kept bs y))

    pub some-kept : (x : Commands) → Some x → KeptAll x → Some (expand_all calls to bound x)
    some-kept end e h = absurd e
    some-kept (l ⨾ ls) e (h, x) = some_followed (expand calls to bound l) (expand_all calls to bound ls) (command_kept l h).0

-- ---- calls

one_kept : (v : Name) (ts : List Term) → LowName v → Every LowTerm ts → Stands (alone (call v ts))
unfolding Kept
one_kept v ts h x = (tt, ((h, x), tt))

one_of : (a b c : Bool) (x y z : Commands) → Stands x → Stands y → Stands z → Stands (cond a (cond b (cond c x y) y) z)
one_of true true true x y z h i j = h
one_of true true false x y z h i j = i
one_of true false c x y z h i j = i
one_of false b c x y z h i j = j

pub called-kept : (ps : List Procedure) → Every KeptProcedure ps → (at : ℕ) → Near at → (v : Name) (ts : List Term) → LowName v → Every LowTerm ts → Stands (called ps at v ts)
unfolding called
called-kept [] k at near v ts h x = one_kept v ts h x
called-kept (p ∷ ps) (l, k) at near v ts h x =
    let bound = bind p.formals ts in
    let actuals = bind-low p.formals ts x in
    one_of (same_bytes p.name.bytes v.bytes) (same_count p.formals ts) (allowed_by bound p.body)
    (expand_all (called ps at) (λ q. at) bound p.body)
    (alone (call v ts))
    (called ps at v ts)
    (some-kept (called ps at) (called-kept ps k at near) (λ q. at) (λ q n. near) bound actuals p.body l.some l.body, all-kept (called ps at) (called-kept ps k at near) (λ q. at) (λ q n. near) bound actuals p.body l.body)
    (one_kept v ts h x)
    (called-kept ps k at near v ts h x)

within-kept : (ps : List Procedure) (v : Name) (ts : List Term) (y : Commands) (l : List ℕ) → LowName v → Stands y → Stands (if_within ps v ts y l)
unfolding Kept
within-kept ps v ts y [] h s = s
within-kept ps v ts y (q ∷ l) h s = (tt, (h, tt))

pub outermost-kept : (ps : List Procedure) → Every KeptProcedure ps → (v : Name) (ts : List Term) → LowName v → Every LowTerm ts → Stands (outermost ps v ts)
unfolding outermost
outermost-kept ps k v ts h x =
    let us = map (replaced (λ q. v.place) []) ts in
    let y = called ps v.place v us in
    within-kept ps v ts y (sizes_passed y) h (called-kept ps k v.place h v us h (each-replaced (λ q. v.place) (λ q n. h) [] tt ts x))

-- ---- the program

procedures-kept : (ps : List Procedure) (ds : List DeclaredName) → Every KeptProcedure ps → Every KeptDeclared ds → Every KeptProcedure (procedures_from ps ds)
unfolding procedures_from
procedures-kept ps [] k x = k
procedures-kept ps (a_variable d ∷ ds) k (h, x) = procedures-kept ps ds k x
procedures-kept ps (a_procedure p ∷ ds) k (h, x) = procedures-kept (p ∷ ps) ds (h, k) x

pub variables_kept : (ds : List DeclaredName) → Every KeptDeclared ds → Every LowDeclared (variables_of ds)
unfolding variables_of
variables_kept [] x = tt
variables_kept (a_variable d ∷ ds) (h, x) = (h, variables_kept ds x)
variables_kept (a_procedure p ∷ ds) (h, x) = variables_kept ds x

pub expanded-kept : (w : Unexpanded) → KeptProgram w → KeptAll (expanded_body w)
unfolding expanded_body
expanded-kept w k =
    let ps = procedures_from [] w.declared in
    let q = procedures-kept [] w.declared tt k.declared in
    all-kept (outermost ps) (λ v ts h x. outermost-kept ps q v ts h x) (λ p. p) (λ p n. n) [] tt w.body k.body
