-- What a name stands for by the entries is what the definition says, and refusal 6 among declarations.
-- Assumes nothing.
use mathlib.Core.Bool.{Bool, true, false, cond, not as opposite}
use mathlib.Core.Path.{◌≡◌, refl, sym, ◌∙◌, ap, ap₂, subst}
use mathlib.Core.List.{List, [], ◌∷◌, ◌++◌, append-nil, append_assoc}
use mathlib.Core.Option.{Option, none, some}
use Prim.Native.Nat.{ℕ, zero, suc, ◌+◌, ◌*◌, ◌/◌, ◌%◌, ◌≤◌, ◌<◌}
use native.Mathlib.Omega.{arith}
use native.Mathlib.Numerals.{add-one}
use native.Mathlib.Nat.{zero-add}
use lib.ListN.{length, get_or, set, length-set}
use lib.Seq.{get_or-set_same, get_or-set_other}
use Rattle.meaning.specs.Numbers.{Variable, input, boolean, integer}
use Rattle.meaning.specs.Declared as declared
use Rattle.meaning.specs.Declared.{Declaration, inputs, outputs, internals, integers, name_of, same_bytes, one, input_count, an_output, output_count, other_bits, stands_for, look_up}
use Rattle.meaning.specs.Names.{missing, among, again_from}
use Rattle.meaning.specs.Faults.{least}
use Rattle.meaning.proofs.Declared.{other_count}
use Rattle.language.specs.Words.{same}
use Rattle.words.specs.Runs.{part}
use Rattle.names.specs.declared.Marks.{Marks}
use Rattle.names.specs.Look.{width_at, place_at, end_at, kind_at, variable_by, entry_at, look_from, look_in, put_entry}
use Rattle.names.specs.Enter.{cap, tag_of, noted, number_for, put, enter, enter_all, start_marks}
use Rattle.names.proofs.Same.{same_bytes_lem}
use Rattle.decls.specs.Came.{Lies, AllLie}
use Rattle.decls_law.proofs.Least.{least-when}

-- ---- an entry written

module _ (t : List ℕ) (n p k l v : ℕ) (room : n * 4 + 4 ≤ length t) where
  abbrev u : List ℕ
  u = put_entry t n p k l v

  pub put-below : (j : ℕ) → j < n * 4 → get_or u j 0 ≡ get_or t j 0
  unfolding put_entry
  put-below j h =
      get_or-set_other (set (set (set t (n * 4) (p % 256)) (n * 4 + 1) (p / 256 + k * 32)) (n * 4 + 2) l) (n * 4 + 3) j v 0 (λ e. omega arith)
      ∙ get_or-set_other (set (set t (n * 4) (p % 256)) (n * 4 + 1) (p / 256 + k * 32)) (n * 4 + 2) j l 0 (λ e. omega arith)
      ∙ get_or-set_other (set t (n * 4) (p % 256)) (n * 4 + 1) j (p / 256 + k * 32) 0 (λ e. omega arith)
      ∙ get_or-set_other t (n * 4) j (p % 256) 0 (λ e. omega arith)

  pub put-above : (j : ℕ) → n * 4 + 4 ≤ j → get_or u j 0 ≡ get_or t j 0
  unfolding put_entry
  put-above j h =
      get_or-set_other (set (set (set t (n * 4) (p % 256)) (n * 4 + 1) (p / 256 + k * 32)) (n * 4 + 2) l) (n * 4 + 3) j v 0 (λ e. omega arith)
      ∙ get_or-set_other (set (set t (n * 4) (p % 256)) (n * 4 + 1) (p / 256 + k * 32)) (n * 4 + 2) j l 0 (λ e. omega arith)
      ∙ get_or-set_other (set t (n * 4) (p % 256)) (n * 4 + 1) j (p / 256 + k * 32) 0 (λ e. omega arith)
      ∙ get_or-set_other t (n * 4) j (p % 256) 0 (λ e. omega arith)

  pub put_0 : get_or u (n * 4) 0 ≡ p % 256
  unfolding put_entry
  put_0 =
      get_or-set_other (set (set (set t (n * 4) (p % 256)) (n * 4 + 1) (p / 256 + k * 32)) (n * 4 + 2) l) (n * 4 + 3) (n * 4) v 0 (λ e. omega arith)
      ∙ get_or-set_other (set (set t (n * 4) (p % 256)) (n * 4 + 1) (p / 256 + k * 32)) (n * 4 + 2) (n * 4) l 0 (λ e. omega arith)
      ∙ get_or-set_other (set t (n * 4) (p % 256)) (n * 4 + 1) (n * 4) (p / 256 + k * 32) 0 (λ e. omega arith)
      ∙ get_or-set_same t (n * 4) (p % 256) 0 (omega arith)

  pub put_1 : get_or u (n * 4 + 1) 0 ≡ p / 256 + k * 32
  unfolding put_entry
  put_1 =
      get_or-set_other (set (set (set t (n * 4) (p % 256)) (n * 4 + 1) (p / 256 + k * 32)) (n * 4 + 2) l) (n * 4 + 3) (n * 4 + 1) v 0 (λ e. omega arith)
      ∙ get_or-set_other (set (set t (n * 4) (p % 256)) (n * 4 + 1) (p / 256 + k * 32)) (n * 4 + 2) (n * 4 + 1) l 0 (λ e. omega arith)
      ∙ get_or-set_same (set t (n * 4) (p % 256)) (n * 4 + 1) (p / 256 + k * 32) 0 (simp length-set (omega arith))

  pub put_2 : get_or u (n * 4 + 2) 0 ≡ l
  unfolding put_entry
  put_2 =
      get_or-set_other (set (set (set t (n * 4) (p % 256)) (n * 4 + 1) (p / 256 + k * 32)) (n * 4 + 2) l) (n * 4 + 3) (n * 4 + 2) v 0 (λ e. omega arith)
      ∙ get_or-set_same (set (set t (n * 4) (p % 256)) (n * 4 + 1) (p / 256 + k * 32)) (n * 4 + 2) l 0 (simp length-set (omega arith))

  pub put_3 : get_or u (n * 4 + 3) 0 ≡ v
  unfolding put_entry
  put_3 = get_or-set_same (set (set (set t (n * 4) (p % 256)) (n * 4 + 1) (p / 256 + k * 32)) (n * 4 + 2) l) (n * 4 + 3) v 0 (simp length-set (omega arith))

  pub put-length : length u ≡ length t
  unfolding put_entry
  put-length = simp length-set

  module _ (low : p < 8192) where
    pub place-back : place_at u n ≡ p
    unfolding place_at
    place-back = rw (put_0, put_1) (omega arith)

    kind-back : kind_at u n ≡ k
    unfolding kind_at
    kind-back = rw put_1 (omega arith)

    end_back : end_at u n ≡ p + l
    unfolding end_at
    end_back = rw (put_2, place-back) refl

    pub entry_back : (s : List ℕ) → entry_at s u n ≡ variable_by k v (width_at s (p + l))
    unfolding entry_at
    entry_back s = rw (kind-back, put_3, end_back) refl

    pub look-back : (s x : List ℕ) → look_from s u x 1 n ≡ cond (same (part s p (p + l)) x) (some (variable_by k v (width_at s (p + l)))) none
    unfolding look_from
    look-back s x = rw (place-back, end_back, entry_back s) refl

-- entries that are left alone
pub look_frame : (s t u x : List ℕ) (n : ℕ) → ((j : ℕ) → j < n * 4 → get_or u j 0 ≡ get_or t j 0) → (k i : ℕ) → i + k ≤ n → look_from s u x k i ≡ look_from s t x k i
unfolding look_from entry_at end_at place_at kind_at
look_frame s t u x n f zero i h = refl
look_frame s t u x n f (suc k) i h =
    rw (f (i * 4) (omega arith), f (i * 4 + 1) (omega arith), f (i * 4 + 2) (omega arith), f (i * 4 + 3) (omega arith), look_frame s t u x n f k (i + 1) (omega arith)) refl

-- ---- the first of two

abbrev pub or_else : Option Variable → Option Variable → Option Variable
or_else none b = b
or_else (some v) b = some v

else_cond : (t : Bool) (v : Variable) (a b : Option Variable) → or_else (cond t (some v) a) b ≡ cond t (some v) (or_else a b)
else_cond true v a b = refl
else_cond false v a b = refl

look-last : (s t x : List ℕ) (k i : ℕ) → look_from s t x (suc k) i ≡ or_else (look_from s t x k i) (look_from s t x 1 (i + k))
unfolding look_from
look-last s t x zero i = let e : i ≡ i + 0 = omega arith in ap (λ (j : ℕ). look_from s t x 1 j) e
look-last s t x (suc k) i =
    let e : i + 1 + k ≡ i + suc k = omega arith in
    ap (cond (same (part s (place_at t i) (end_at t i)) x) (some (entry_at s t i))) (look-last s t x k (i + 1) ∙ ap (λ (j : ℕ). or_else (look_from s t x k (i + 1)) (look_from s t x 1 j)) e)
    ∙ sym (else_cond (same (part s (place_at t i) (end_at t i)) x) (entry_at s t i) (look_from s t x k (i + 1)) (look_from s t x 1 (i + suc k)))

-- ---- numbers up to 255

abbrev pub capped : Variable → Variable
capped (input i) = input (cap i)
capped (boolean j) = boolean (cap j)
capped (integer low width) = integer (cap low) width

abbrev pub capped_of : Option Variable → Option Variable
capped_of none = none
capped_of (some v) = some (capped v)

capped_else : (a b : Option Variable) → capped_of (or_else a b) ≡ or_else (capped_of a) (capped_of b)
capped_else none b = refl
capped_else (some v) b = refl

capped_cond : (t : Bool) (v : Variable) → capped_of (cond t (some v) none) ≡ cond t (some (capped v)) none
capped_cond true v = refl
capped_cond false v = refl

-- ---- one declaration more

found-last : (pre : List Declaration) (d : Declaration) (x : List ℕ) (i o b : ℕ)
    → declared.look_from (pre ++ (d ∷ [])) x i o b ≡ or_else (declared.look_from pre x i o b) (cond (same_bytes (name_of d).bytes x) (some (stands_for d (input_count pre + i) (output_count pre + o) (other_count pre + b))) none)
unfolding declared.look_from input_count output_count other_count
found-last [] d x i o b =
    let e : i ≡ 0 + i = omega arith in
    let f : o ≡ 0 + o = omega arith in
    let g : b ≡ 0 + b = omega arith in
    ap (λ (j : ℕ). cond (same_bytes (name_of d).bytes x) (some (stands_for d j o b)) none) e
    ∙ ap (λ (j : ℕ). cond (same_bytes (name_of d).bytes x) (some (stands_for d (0 + i) j b)) none) f
    ∙ ap (λ (j : ℕ). cond (same_bytes (name_of d).bytes x) (some (stands_for d (0 + i) (0 + o) j)) none) g
found-last (c ∷ pre) d x i o b =
    let e : input_count pre + (one c + i) ≡ one c + input_count pre + i = omega arith in
    let f : output_count pre + (an_output c + o) ≡ an_output c + output_count pre + o = omega arith in
    let g : other_count pre + (other_bits c + b) ≡ other_bits c + other_count pre + b = omega arith in
    ap (cond (same_bytes (name_of c).bytes x) (some (stands_for c i o b)))
    (found-last pre d x (one c + i) (an_output c + o) (other_bits c + b)
    ∙ ap (λ (j : ℕ). or_else (declared.look_from pre x (one c + i) (an_output c + o) (other_bits c + b)) (cond (same_bytes (name_of d).bytes x) (some (stands_for d j (output_count pre + (an_output c + o)) (other_count pre + (other_bits c + b)))) none)) e
    ∙ ap (λ (j : ℕ). or_else (declared.look_from pre x (one c + i) (an_output c + o) (other_bits c + b)) (cond (same_bytes (name_of d).bytes x) (some (stands_for d (one c + input_count pre + i) j (other_count pre + (other_bits c + b)))) none)) f
    ∙ ap (λ (j : ℕ). or_else (declared.look_from pre x (one c + i) (an_output c + o) (other_bits c + b)) (cond (same_bytes (name_of d).bytes x) (some (stands_for d (one c + input_count pre + i) (an_output c + output_count pre + o) j)) none)) g)
    ∙ sym (else_cond (same_bytes (name_of c).bytes x) (stands_for c i o b) (declared.look_from pre x (one c + i) (an_output c + o) (other_bits c + b)) _)

inputs-last : (pre : List Declaration) (d : Declaration) → input_count (pre ++ (d ∷ [])) ≡ input_count pre + one d
unfolding input_count
inputs-last [] d = omega arith
inputs-last (c ∷ pre) d = omega (arith, inputs-last pre d)

outputs-last : (pre : List Declaration) (d : Declaration) → output_count (pre ++ (d ∷ [])) ≡ output_count pre + an_output d
unfolding output_count
outputs-last [] d = omega arith
outputs-last (c ∷ pre) d = omega (arith, outputs-last pre d)

others-last : (pre : List Declaration) (d : Declaration) → other_count (pre ++ (d ∷ [])) ≡ other_count pre + other_bits d
unfolding other_count
others-last [] d = omega arith
others-last (c ∷ pre) d = omega (arith, others-last pre d)

module _ (s : List ℕ) where
  abbrev pub written : Declaration → Marks → Variable
  written d m = variable_by (tag_of d) (number_for (tag_of d) m) (width_at s ((name_of d).place + length (name_of d).bytes))

  pub look_entered : (d : Declaration) (m : Marks) (t x : List ℕ) → Lies s d → m.names * 4 + 4 ≤ length t
      → look_in s (enter s d m t).bytes (enter s d m t).marks.names x ≡ or_else (look_in s t m.names x) (cond (same_bytes (name_of d).bytes x) (some (written d m)) none)
  unfolding put look_in
  look_entered d m t x l h =
      let p = (name_of d).place in
      let z = length (name_of d).bytes in
      let v = number_for (tag_of d) m in
      let u = put_entry t m.names p (tag_of d) z v in
      ap (λ (k : ℕ). look_from s u x k 0) (add-one m.names)
      ∙ look-last s u x m.names 0
      ∙ ap (λ (o : Option Variable). or_else o (look_from s u x 1 (0 + m.names))) (look_frame s t u x m.names (put-below t m.names p (tag_of d) z v h) m.names 0 (omega arith))
      ∙ ap (λ (k : ℕ). or_else (look_from s t x m.names 0) (look_from s u x 1 k)) (zero-add m.names)
      ∙ ap (or_else (look_from s t x m.names 0)) (look-back t m.names p (tag_of d) z v h l.inside s x
      ∙ ap (λ (b : Bool). cond b (some (written d m)) none) (ap (λ (y : List ℕ). same y x) l.bytes ∙ same_bytes_lem (name_of d).bytes x))

  pub long_entered : (d : Declaration) (m : Marks) (t : List ℕ) → m.names * 4 + 4 ≤ length t → length (enter s d m t).bytes ≡ length t
  unfolding put
  long_entered d m t h = put-length t m.names (name_of d).place (tag_of d) (length (name_of d).bytes) (number_for (tag_of d) m) h

  pub names_entered : (d : Declaration) (m : Marks) (t : List ℕ) → (enter s d m t).marks.names ≡ m.names + 1
  unfolding put
  names_entered d m t = refl

  -- the entries say what the declarations so far say, with the others' bits from a place on
  record Says (pre : List Declaration) (low : ℕ) (m : Marks) (t : List ℕ) : Type 0 where
    looks : (x : List ℕ) → look_in s t m.names x ≡ capped_of (declared.look_from pre x 0 0 low)
    ins : m.inputs ≡ cap (input_count pre)
    outs : m.outputs ≡ cap (output_count pre)
    others : m.low ≡ cap (other_count pre + low)

  written_is : (d : Declaration) (m : Marks) (i o b : ℕ) → Lies s d → m.inputs ≡ cap i → m.outputs ≡ cap o → m.low ≡ cap b → written d m ≡ capped (stands_for d i o b)
  unfolding variable_by number_for
  written_is (inputs n e) m i o b l p q r = ap input p
  written_is (outputs n e v) m i o b l p q r = ap boolean q
  written_is (internals n e v) m i o b l p q r = ap boolean r
  written_is (integers n h w v) m i o b l p q r = ap₂ integer r l.width

  counts_entered : (d : Declaration) (m : Marks) (t : List ℕ) (i o b : ℕ) → m.inputs ≡ cap i → m.outputs ≡ cap o → m.low ≡ cap b
      → ((enter s d m t).marks.inputs ≡ cap (i + one d)) × ((enter s d m t).marks.outputs ≡ cap (o + an_output d)) × ((enter s d m t).marks.low ≡ cap (b + other_bits d))
  unfolding put
  counts_entered (inputs n e) m t i o b p q r = (omega (arith, p), omega (arith, q), omega (arith, r))
  counts_entered (outputs n e v) m t i o b p q r = (omega (arith, p), omega (arith, q), omega (arith, r))
  counts_entered (internals n e v) m t i o b p q r = (omega (arith, p), omega (arith, q), omega (arith, r))
  counts_entered (integers n h w v) m t i o b p q r = (omega (arith, p), omega (arith, q), omega (arith, r))

  says-one : (pre : List Declaration) (d : Declaration) (low : ℕ) (m : Marks) (t : List ℕ) → Lies s d → m.names * 4 + 4 ≤ length t → Says pre low m t → Says (pre ++ (d ∷ [])) low (enter s d m t).marks (enter s d m t).bytes
  says-one pre d low m t l h g =
      let (p, q, r) = counts_entered d m t (input_count pre) (output_count pre) (other_count pre + low) g.ins g.outs g.others in
      record {
        looks = looks;
        ins = p ∙ ap cap (sym (inputs-last pre d));
        outs = q ∙ ap cap (sym (outputs-last pre d));
        others = omega (arith, r, others-last pre d);
      }
    where
      looks : (x : List ℕ) → look_in s (enter s d m t).bytes (enter s d m t).marks.names x ≡ capped_of (declared.look_from (pre ++ (d ∷ [])) x 0 0 low)
      looks x =
          let b = same_bytes (name_of d).bytes x in
          let e : input_count pre ≡ input_count pre + 0 = omega arith in
          let f : output_count pre ≡ output_count pre + 0 = omega arith in
          let v = stands_for d (input_count pre + 0) (output_count pre + 0) (other_count pre + low) in
          look_entered d m t x l h
          ∙ ap (λ (o : Option Variable). or_else o (cond b (some (written d m)) none)) (g.looks x)
          ∙ ap (λ (y : Variable). or_else (capped_of (declared.look_from pre x 0 0 low)) (cond b (some y) none)) (written_is d m (input_count pre + 0) (output_count pre + 0) (other_count pre + low) l (g.ins ∙ ap cap e) (g.outs ∙ ap cap f) g.others)
          ∙ ap (or_else (capped_of (declared.look_from pre x 0 0 low))) (sym (capped_cond b v))
          ∙ sym (capped_else (declared.look_from pre x 0 0 low) (cond b (some v) none))
          ∙ ap capped_of (sym (found-last pre d x 0 0 low))

  says_all : (ds pre : List Declaration) (low : ℕ) (m : Marks) (t : List ℕ) → AllLie s ds → (m.names + length ds) * 4 ≤ length t → Says pre low m t → Says (pre ++ ds) low (enter_all s ds m t).marks (enter_all s ds m t).bytes
  unfolding enter_all
  says_all [] pre low m t l h g = subst (λ (d : List Declaration). Says d low m t) (sym (append-nil pre)) g
  says_all (d ∷ ds) pre low m t l h g =
      let r : m.names * 4 + 4 ≤ length t = omega arith in
      let e = names_entered d m t in
      subst (λ (c : List Declaration). Says c low (enter_all s ds (enter s d m t).marks (enter s d m t).bytes).marks (enter_all s ds (enter s d m t).marks (enter s d m t).bytes).bytes) (append_assoc pre (d ∷ []) ds)
      (says_all ds (pre ++ (d ∷ [])) low (enter s d m t).marks (enter s d m t).bytes l.1 (omega (arith, e, long_entered d m t r)) (says-one pre d low m t l.0 r g))

  says-start : (low : ℕ) (t : List ℕ) → Says [] low (start_marks (cap low)) t
  unfolding start_marks look_in look_from declared.look_from input_count output_count other_count
  says-start low t = record { looks = λ x. refl; ins = refl; outs = refl; others = ap cap (sym (zero-add low)) }

  -- the look-up among the entries of all declarations is the definition's, with numbers above 255 as 255
  pub looked : (ds : List Declaration) (t : List ℕ) → AllLie s ds → length ds * 4 ≤ length t → (x : List ℕ)
      → look_in s (enter_all s ds (start_marks (cap (output_count ds))) t).bytes (enter_all s ds (start_marks (cap (output_count ds))) t).marks.names x ≡ capped_of (look_up ds x)
  unfolding look_up start_marks
  looked ds t l h x = (says_all ds [] (output_count ds) (start_marks (cap (output_count ds))) t l (omega arith) (says-start (output_count ds) t)).looks x

  -- ---- refusal 6

  pub known_else : (a : Option Variable) (b : Bool) (v : Variable) → opposite (missing (or_else a (cond b (some v) none))) ≡ cond b true (opposite (missing a))
  known_else none true v = refl
  known_else none false v = refl
  known_else (some w) true v = refl
  known_else (some w) false v = refl

  pub six_entered : (d : Declaration) (m : Marks) (t : List ℕ) → (enter s d m t).marks.six ≡ noted (opposite (missing (look_in s t m.names (name_of d).bytes))) (name_of d).place m.six
  unfolding put
  six_entered d m t = refl

  six_from : (ds earlier : List Declaration) (m : Marks) (t : List ℕ) → AllLie s ds → (m.names + length ds) * 4 ≤ length t → ((x : List ℕ) → opposite (missing (look_in s t m.names x)) ≡ among x earlier)
      → (enter_all s ds m t).marks.six ≡ least m.six (again_from earlier ds)
  unfolding enter_all again_from least among
  six_from [] earlier m t l h g = refl
  six_from (d ∷ ds) earlier m t l h g =
      let r : m.names * 4 + 4 ≤ length t = omega arith in
      let e = names_entered d m t in
      six_from ds (d ∷ earlier) (enter s d m t).marks (enter s d m t).bytes l.1 (omega (arith, e, long_entered d m t r))
      (λ x. ap (λ (o : Option Variable). opposite (missing o)) (look_entered d m t x l.0 r) ∙ known_else (look_in s t m.names x) (same_bytes (name_of d).bytes x) (written d m) ∙ ap (cond (same_bytes (name_of d).bytes x) true) (g x))
      ∙ ap (λ (y : ℕ). least y (again_from (d ∷ earlier) ds)) (six_entered d m t ∙ ap (λ (b : Bool). noted b (name_of d).place m.six) (g (name_of d).bytes))
      ∙ sym (least-when (among (name_of d).bytes earlier) (name_of d).place m.six (again_from (d ∷ earlier) ds))

  pub six_is : (ds : List Declaration) (low : ℕ) (t : List ℕ) → AllLie s ds → length ds * 4 ≤ length t → (enter_all s ds (start_marks low) t).marks.six ≡ least 65535 (again_from [] ds)
  unfolding start_marks look_in look_from among
  six_is ds low t l h = six_from ds [] (start_marks low) t l (omega arith) (λ x. refl)
