-- The laws of names and procedures that are entered.
-- Assumes nothing.
use mathlib.Core.Bool.{Bool, true, false, cond}
use mathlib.Core.Path.{◌≡◌, refl, sym, ◌∙◌, ap, subst}
use mathlib.Core.List.{List, [], ◌∷◌, ◌++◌}
use Prim.Native.Nat.{ℕ, suc, ◌+◌, ◌-◌, ◌≤◌, ◌<◌, min}
use native.Mathlib.Omega.{arith}
use lib.Dec.{eqb}
use lib.ListN.{length, length-set}
use borrow.Author.Tests.{ne_eqb}
use Rattle.meaning.specs.Tree.{Name}
use Rattle.meaning.specs.Declared.{Declaration, name_of, same_bytes}
use Rattle.meaning.specs.Procedures.{has_name}
use Rattle.meaning.specs.Unexpanded.{Procedure}
use Rattle.language.specs.Words.{name, Word, same, signs, reserved}
use Rattle.language.specs.Scan.{found, next_word, behind}
use Rattle.language.specs.Grammar.{FormalNames, MoreFormals, binding, csml}
use Rattle.language.specs.Trees.{name_at}
use Rattle.language.proofs.Claims.{claims, first, empty, follow}
use Rattle.ll1.proofs.Tests.{has, begin_row, pick}
use Rattle.words.specs.Kinds.{numbered, spellings}
use Rattle.words.specs.Runs.{part}
use Rattle.words.proofs.Only.{number_of}
use Rattle.descent_law.specs.Told.{Told}
use Rattle.descent_law.specs.Declarations.{FormalNamesRow, MoreFormalsRow}
use Rattle.descent_law.proofs.Declarations.{formals-told, formal-names-told, more-formals-told}
use Rattle.hand.specs.declared.Here.{Here}
use Rattle.hand.specs.Along.{Along, Stands, Begins}
use Rattle.hand.proofs.Chosen.{up_to, agrees, Decides, called-row}
use Rattle.names.specs.declared.Item.{Item}
use Rattle.names.specs.declared.Marks.{Marks}
use Rattle.names.specs.Look.{place_at, put_entry}
use Rattle.names.specs.Enter.{kind_number, noted, Kept, put, enter}
use Rattle.names.specs.Came.{kept_of}
use Rattle.names.proofs.Same.{same_bytes_lem}
use Rattle.decls.specs.Held.{row_of, row_end, row_in, put_row, known_in, formals_noted, with_six, Held, rowed, enter_variable, enter_procedure}
use Rattle.decls.specs.Came.{Is, IsProcedure, Row, bytes_of, EarlierCame, AgainCame, FormalsCame, held_of, VariableCame, ProcedureCame}
use Rattle.decls.proofs.Laws.{more_row, word_end, kind-back}

abbrev Text : Type 0
Text = List Word

-- ---- one row after the other

module _ (s t x : List ℕ) where
  pub row_over : (i : ℕ) (o : Bool) → i ≡ 0 → row_in s t i x ≡ o → false ≡ o
  unfolding row_in
  row_over i o e q = rw e at q

  pub row_here : (i : ℕ) (o : Bool) → ¬ (i ≡ 0) → same (part s (place_at t (row_of (i - 1))) (row_end t (row_of (i - 1)))) x ≡ true → row_in s t i x ≡ o → true ≡ o
  unfolding row_in
  row_here i o h e q = go i (i - 1) (omega arith) e q
    where
      go : (i j : ℕ) → i ≡ suc j → same (part s (place_at t (row_of j)) (row_end t (row_of j))) x ≡ true → row_in s t i x ≡ o → true ≡ o
      go i j h e q = rw (h, e) at q

  pub row_on : (i : ℕ) (o : Bool) → ¬ (i ≡ 0) → same (part s (place_at t (row_of (i - 1))) (row_end t (row_of (i - 1)))) x ≡ false → row_in s t i x ≡ o → row_in s t (i - 1) x ≡ o
  unfolding row_in
  row_on i o h e q = go i (i - 1) (omega arith) e q
    where
      go : (i j : ℕ) → i ≡ suc j → same (part s (place_at t (row_of j)) (row_end t (row_of j))) x ≡ false → row_in s t i x ≡ o → row_in s t j x ≡ o
      go i j h e q = rw (h, e) at q

-- ---- the formals before one

pub record Seeking (s : List ℕ) (first to : ℕ) (x : List ℕ) (from : ℕ) : Type 0 where
  pub inside : from ≤ length s
  pub told : (ns : List Name) → Row s first ns to → (ms : List Name) × Row s from ms to × (has_name (bytes_of ns) x ≡ has_name (bytes_of ms) x)

module _ {s : List ℕ} {first to : ℕ} {x : List ℕ} {from : ℕ} (g : Seeking s first to x from) where
  pub seek_over : to ≤ from → EarlierCame s first to x false
  unfolding has_name
  seek_over h = record { told = λ ns r. let (ms, r₁, e) = g.told ns r in sym (e ∙ go ms r₁) }
    where
      go : (ms : List Name) → Row s from ms to → has_name (bytes_of ms) x ≡ false
      go [] r = refl
      go (n ∷ ms) (w, c, l, e, q, q₁, r) = absurd (omega (arith, l, h))

  module _ (more : from < to) {w : Here} (b : Begins s from w) where
    pub seek_none : 62 < w.kind → EarlierCame s first to x false
    seek_none h = record { told = λ ns r. let (ms, r₁, e) = g.told ns r in absurd (go ms r₁) }
      where
        go : (ms : List Name) → Row s from ms to → ⊥
        go [] r = omega (arith, r, more)
        go (n ∷ ms) (v, c, l, e, q, q₁, r) = let st : Stands s w (v ∷ []) = b.stands (v ∷ []) (q, tt) in omega (arith, st.0.known, h)

    pub seek_here : same (part s w.place w.next) x ≡ true → EarlierCame s first to x true
    unfolding has_name
    seek_here h = record { told = λ ns r. let (ms, r₁, e) = g.told ns r in sym (e ∙ go ms r₁) }
      where
        go : (ms : List Name) → Row s from ms to → has_name (bytes_of ms) x ≡ true
        go [] r = absurd (omega (arith, r, more))
        go (n ∷ ms) (v, c, l, e, q, q₁, r) =
            let st : Stands s w (v ∷ []) = b.stands (v ∷ []) (q, tt) in
            let z : same_bytes n.bytes x ≡ true = ap (λ (m : Name). same_bytes m.bytes x) e ∙ sym (same_bytes_lem v.bytes x) ∙ ap (λ (y : List ℕ). same y x) (sym st.0.bytes) ∙ h in
            rw z refl

    pub seek_on : {c : Here} → same (part s w.place w.next) x ≡ false → Begins s w.next c → Seeking s first to x c.next
    unfolding has_name
    seek_on {c} h b₁ = record { inside = b₁.near.inside; told = λ ns r. let (ms, r₁, e) = g.told ns r in let (os, r₂, e₁) = go ms r₁ in (os, r₂, e ∙ e₁) }
      where
        go : (ms : List Name) → Row s from ms to → (os : List Name) × Row s c.next os to × (has_name (bytes_of ms) x ≡ has_name (bytes_of os) x)
        go [] r = absurd (omega (arith, r, more))
        go (n ∷ ms) (v, u, l, e, q, q₁, r) =
            let st : Stands s w (v ∷ []) = b.stands (v ∷ []) (q, tt) in
            let k : w.next ≡ behind v = word_end b.near st.0 in
            let st₁ : Stands s c (u ∷ []) = b₁.stands (u ∷ []) (rw k q₁, tt) in
            let k₁ : c.next ≡ behind u = word_end b₁.near st₁.0 in
            let z : same_bytes n.bytes x ≡ false = ap (λ (m : Name). same_bytes m.bytes x) e ∙ sym (same_bytes_lem v.bytes x) ∙ ap (λ (y : List ℕ). same y x) (sym st.0.bytes) ∙ h in
            (ms, subst (λ (p : ℕ). Row s p ms to) (sym k₁) r, rw z refl)

-- ---- the formals

abbrev name_row : ℕ → ℕ
name_row k = cond (eqb k 0) 1 0

all-names : Decides FormalNames name_row
unfolding has begin_row pick csml binding claims first empty follow agrees up_to numbered spellings signs reserved
all-names = refl

all_more : Decides MoreFormals more_row
unfolding has begin_row pick csml binding claims first empty follow agrees up_to numbered spellings signs reserved
all_more = refl

-- the formals that are left, by the kind of the word in hand
abbrev NamesLeft : List ℕ → Text → List Name → Text → Type 0
NamesLeft s ws fs rest = (g : ℕ) × (k : ℕ) × (i : ℕ) × FormalNamesRow g k ws fs rest i × ((h : Here) → Stands s h ws → name_row h.kind ≡ i)

bytes-last : (ns : List Name) (n : Name) → bytes_of (ns ++ (n ∷ [])) ≡ bytes_of ns ++ (n.bytes ∷ [])
bytes-last [] n = refl
bytes-last (m ∷ ns) n = ap (λ (l : List (List ℕ)). m.bytes ∷ l) (bytes-last ns n)

row_last : (s : List ℕ) (first : ℕ) (ns : List Name) (from : ℕ) (w c : Word) → Row s first ns from → next_word s from ≡ found w → next_word s (behind w) ≡ found c → from < behind c → Row s first (ns ++ (name_at w ∷ [])) (behind c)
row_last s first [] from w c r e q l = (w, c, omega (arith, r, l), refl, rw r e, q, refl)
row_last s first (n ∷ ns) from w c (v, u, k, a, b, d, r) e q l = (v, u, omega (arith, k, l), a, b, d, row_last s (behind u) ns from w c r e q l)

noted-cons : (known : List ℕ → Bool) (before : List (List ℕ)) (f : Name) (fs : List Name) (six : ℕ)
    → formals_noted known before (f ∷ fs) six ≡ formals_noted known (before ++ (f.bytes ∷ [])) fs (noted (cond (has_name before f.bytes) true (known f.bytes)) f.place six)
unfolding formals_noted
noted-cons known before f fs six = refl

noted-none : (known : List ℕ → Bool) (before : List (List ℕ)) (six : ℕ) → formals_noted known before [] six ≡ six
unfolding formals_noted
noted-none known before six = refl

pub record Noting (s t : List ℕ) (names n first old from six : ℕ) : Type 0 where
  pub inside : from ≤ length s
  pub told : (ws : Text) → Along s first ws → (f k : ℕ) (fs : List Name) (rest : Text) → Told f FormalNames k ws fs rest
      → (ns : List Name) × (es : List Name) × (vs : Text) × Row s first ns from × Along s from vs × NamesLeft s vs es rest × (formals_noted (known_in s t names n) [] fs old ≡ formals_noted (known_in s t names n) (bytes_of ns) es six)

pub note_start : {s t : List ℕ} {names n first old : ℕ} → first ≤ length s → Noting s t names n first old first old
note_start {s} h = record { inside = h; told = λ ws a f k fs rest x. let (g, i, p, row) = formal-names-told f k ws fs rest x in ([], fs, ws, refl, a, (g, k, i, row, λ h st. called-row s FormalNames name_row all-names h ws i st p), refl) }

module _ {s t : List ℕ} {names n first old from six : ℕ} (g : Noting s t names n first old from six) {w : Here} (b : Begins s from w) where
  abbrev known : List ℕ → Bool
  known = known_in s t names n

  pub note_none : ¬ (w.kind ≡ 0) → FormalsCame s t names n first old six
  note_none h = record { told = told }
    where
      go : (vs : Text) (es : List Name) (rest : Text) (g k i : ℕ) → name_row w.kind ≡ i → FormalNamesRow g k vs es rest i → es ≡ []
      go vs es rest g k i p row = let z : name_row w.kind ≡ 0 = rw (ne_eqb w.kind 0 h) refl in (subst (FormalNamesRow g k vs es rest) (sym p ∙ z) row).0

      told : (ws : Text) → Along s first ws → (f k : ℕ) (fs : List Name) (rest : Text) → Told f FormalNames k ws fs rest → six ≡ formals_noted known [] fs old
      told ws a f k fs rest x =
          let (ns, es, vs, r, al, (g₁, k₁, i, row, p), q) = g.told ws a f k fs rest x in
          let e : es ≡ [] = go vs es rest g₁ k₁ i (p w (b.stands vs al)) row in
          sym (q ∙ ap (λ (l : List Name). formals_noted known (bytes_of ns) l six) e ∙ noted-none known (bytes_of ns) six)

  -- a formal was looked at
  record Looked (ws : Text) (fs : List Name) (rest : Text) (now : ℕ) : Type 0 where
    before : List Name
    one : Word
    tail : Text
    on : List Name
    fuel : ℕ
    level : ℕ
    row : Row s first before from
    here : next_word s from ≡ found one
    words : Along s w.next tail
    end : w.next ≡ behind one
    more : Told fuel MoreFormals level tail on rest
    all : formals_noted known [] fs old ≡ formals_noted known (bytes_of (before ++ (name_at one ∷ []))) on now

  module _ (kd : w.kind ≡ 0) {r : Bool} (ag : AgainCame s t names n first from (part s w.place w.next) r) {now : ℕ} (new : now ≡ noted r w.place six) {c : Here} (bc : Begins s w.next c) where
    looked : (ws : Text) → Along s first ws → (f k : ℕ) (fs : List Name) (rest : Text) → Told f FormalNames k ws fs rest → Looked ws fs rest now
    looked ws a f k fs rest x =
        let (ns, es, vs, r₁, al, (g₁, k₁, i, row, p), q) = g.told ws a f k fs rest x in
        let z : i ≡ 1 = sym (p w (b.stands vs al)) ∙ ap name_row kd in
        let (v, tail, on, e, kv, y, eq) = subst (FormalNamesRow g₁ k₁ vs es rest) z row in
        let al₁ : Along s from (v ∷ tail) = subst (Along s from) e al in
        let st : Stands s w (v ∷ tail) = b.stands (v ∷ tail) al₁ in
        let m : r ≡ cond (has_name (bytes_of ns) v.bytes) true (known v.bytes) = ag.told ns r₁ ∙ ap (λ (y : List ℕ). cond (has_name (bytes_of ns) y) true (known y)) st.0.bytes in
        let o : now ≡ noted (cond (has_name (bytes_of ns) v.bytes) true (known v.bytes)) v.place six = new ∙ ap (λ (b : Bool). noted b w.place six) m ∙ ap (λ (p : ℕ). noted (cond (has_name (bytes_of ns) v.bytes) true (known v.bytes)) p six) st.0.place in
        record {
          before = ns;
          one = v;
          tail = tail;
          on = on;
          fuel = g₁;
          level = k₁;
          row = r₁;
          here = al₁.0;
          words = st.1;
          end = word_end b.near st.0;
          more = y;
          all = q
              ∙ ap (λ (l : List Name). formals_noted known (bytes_of ns) l six) eq
              ∙ noted-cons known (bytes_of ns) (name_at v) on six
              ∙ ap (λ (m : ℕ). formals_noted known (bytes_of ns ++ (v.bytes ∷ [])) on m) (sym o)
              ∙ ap (λ (l : List (List ℕ)). formals_noted known l on now) (sym (bytes-last ns (name_at v)));
        }

    pub note_last : ¬ (c.kind ≡ 13) → FormalsCame s t names n first old now
    note_last h = record { told = told }
      where
        told : (ws : Text) → Along s first ws → (f k : ℕ) (fs : List Name) (rest : Text) → Told f FormalNames k ws fs rest → now ≡ formals_noted known [] fs old
        told ws a f k fs rest x =
            let z = looked ws a f k fs rest x in
            let (g₁, i, p, row) = more-formals-told z.fuel z.level z.tail z.on rest z.more in
            let m : more_row c.kind ≡ 0 = rw (ne_eqb c.kind 13 h) refl in
            let q : i ≡ 0 = sym (called-row s MoreFormals more_row all_more c z.tail i (bc.stands z.tail z.words) p) ∙ m in
            let (e, u) = subst (MoreFormalsRow g₁ z.level z.tail z.on rest) q row in
            let bs = bytes_of (z.before ++ (name_at z.one ∷ [])) in
            sym (z.all ∙ ap (λ (l : List Name). formals_noted known bs l now) e ∙ noted-none known bs now)

    pub note_on : c.kind ≡ 13 → Noting s t names n first old c.next now
    unfolding number_of
    note_on h = record { inside = bc.near.inside; told = told }
      where
        named : (v : Word) (tail : Text) → v.kind ≡ name → (h : Here) → Stands s h (v ∷ tail) → name_row h.kind ≡ 1
        named v tail k h st = let e : h.kind ≡ 0 = sym (kind-back st.0) ∙ ap number_of k in ap name_row e

        told : (ws : Text) → Along s first ws → (f k : ℕ) (fs : List Name) (rest : Text) → Told f FormalNames k ws fs rest
            → (ns : List Name) × (es : List Name) × (vs : Text) × Row s first ns c.next × Along s c.next vs × NamesLeft s vs es rest × (formals_noted known [] fs old ≡ formals_noted known (bytes_of ns) es now)
        told ws a f k fs rest x =
            let z = looked ws a f k fs rest x in
            let (g₁, i, p, row) = more-formals-told z.fuel z.level z.tail z.on rest z.more in
            let q : i ≡ 1 = sym (called-row s MoreFormals more_row all_more c z.tail i (bc.stands z.tail z.words) p) ∙ ap more_row h in
            let (u, v, tail, ms, e, kv, y, eq) = subst (MoreFormalsRow g₁ z.level z.tail z.on rest) q row in
            let al : Along s w.next (u ∷ v ∷ tail) = subst (Along s w.next) e z.words in
            let st : Stands s c (u ∷ v ∷ tail) = bc.stands (u ∷ v ∷ tail) al in
            let k₁ : c.next ≡ behind u = word_end bc.near st.0 in
            let r : Row s first (z.before ++ (name_at z.one ∷ [])) (behind u) = row_last s first z.before from z.one u z.row z.here (rw (← z.end) al.0) (omega (arith, b.later, b.near.on, bc.later, bc.near.more st.0.known, k₁)) in
            (z.before ++ (name_at z.one ∷ []), z.on, v ∷ tail, subst (Row s first (z.before ++ (name_at z.one ∷ []))) (sym k₁) r, st.1, (g₁, z.level, 1, (v, tail, ms, refl, kv, y, eq), named v tail kv), z.all)

-- ---- a name entered

-- what was read is entered as the declaration
enter_is : {s : List ℕ} {d : Declaration} {i : Item} → Is s d i → (m : Marks) (t : List ℕ)
    → put s (kind_number i.kind) i.place (min (i.next - i.place) 255) (part s i.place i.next) i.width i.number i.value m t ≡ enter s d m t
enter_is {s} {d} {i} x m t =
    let l : min (i.next - i.place) 255 ≡ length (name_of d).bytes = omega (arith, x.place, x.next, x.lies.short) in
    let b : part s i.place i.next ≡ (name_of d).bytes = rw (x.place, x.next) x.lies.bytes in
    rw (l, b, x.kind, x.place, x.width, x.number, x.value) refl

long_on : (s : List ℕ) (k p l : ℕ) (x : List ℕ) (w q v : ℕ) (m : Marks) (t : List ℕ) → length (put s k p l x w q v m t).bytes ≡ length t
unfolding put put_entry
long_on s k p l x w q v m t = simp length-set

names_on : (s : List ℕ) (k p l : ℕ) (x : List ℕ) (w q v : ℕ) (m : Marks) (t : List ℕ) → (put s k p l x w q v m t).marks.names ≡ m.names + 1
unfolding put
names_on s k p l x w q v m t = refl

six_names : (m : Marks) (six : ℕ) → (with_six m six).names ≡ m.names
unfolding with_six
six_names m six = refl

pub variable-came : {s t u : List ℕ} {m k r : Marks} {n : ℕ} {i : Item} {clash : Bool} {six : ℕ} → clash ≡ row_in s t n (part s i.place i.next)
    → kept_of k u ≡ put s (kind_number i.kind) i.place (min (i.next - i.place) 255) (part s i.place i.next) i.width i.number i.value m t
    → six ≡ noted clash i.place k.six → r ≡ with_six k six → VariableCame s t u m n i r
unfolding enter_variable
variable-came {s} {t} {u} {m} {k} {r} {n} {i} {clash} {six} a q e f =
    record {
      long = ap (λ (y : Kept). length y.bytes) q ∙ long_on s (kind_number i.kind) i.place (min (i.next - i.place) 255) (part s i.place i.next) i.width i.number i.value m t;
      names = ap (λ (y : Marks). y.names) f ∙ six_names k six ∙ ap (λ (y : Kept). y.marks.names) q ∙ names_on s (kind_number i.kind) i.place (min (i.next - i.place) 255) (part s i.place i.next) i.width i.number i.value m t;
      told = told;
    }
  where
    made : Declaration → Kept → Held
    made d y = record { marks = with_six y.marks (noted (row_in s t n (name_of d).bytes) (name_of d).place y.marks.six); procedures = n; bytes = y.bytes }

    told : (d : Declaration) → Is s d i → held_of r n u ≡ enter_variable s d (held_of m n t)
    told d x =
        let b : part s i.place i.next ≡ (name_of d).bytes = rw (x.place, x.next) x.lies.bytes in
        let z : six ≡ noted (row_in s t n (name_of d).bytes) (name_of d).place k.six = e ∙ ap (λ (y : Bool). noted y i.place k.six) (a ∙ ap (row_in s t n) b) ∙ ap (λ (p : ℕ). noted (row_in s t n (name_of d).bytes) p k.six) x.place in
        ap (λ (y : Marks). held_of y n u) (f ∙ ap (with_six k) z) ∙ ap (made d) (q ∙ enter_is x m t)

long-row : (t : List ℕ) (i p k l n : ℕ) → length (put_entry t i p k l n) ≡ length t
unfolding put_entry
long-row t i p k l n = simp length-set

pub procedure-came : {s t u : List ℕ} {m r : Marks} {n : ℕ} {i : Item} {again : Bool} {six now len : ℕ} {o : Here} → again ≡ known_in s t m.names n (part s i.place i.next) → six ≡ noted again i.place m.six
    → len ≡ min (i.next - i.place) 255 → u ≡ put_entry t (4095 - n) i.place 0 0 len → Begins s i.next o → FormalsCame s u m.names (n + 1) o.next six now → r ≡ with_six m now → ProcedureCame s t u m n i r
unfolding enter_procedure rowed put_row
procedure-came {s} {t} {u} {m} {r} {n} {i} {again} {six} {now} {len} {o} a e l q b c f =
    record {
      long = ap length q ∙ long-row t (4095 - n) i.place 0 0 len;
      names = ap (λ (y : Marks). y.names) f ∙ six_names m now;
      told = told;
    }
  where
    told : (p : Procedure) → IsProcedure s p i → held_of r (n + 1) u ≡ enter_procedure s p (held_of m n t)
    told p x =
        let (f₁, k, ws, rest, al, y) = x.formals in
        let (g, j, called, row) = formals-told f₁ k ws p.formals rest y in let (w, v, d, tail, eq, kd, z) = row in
        let st : Stands s o (w ∷ tail) = b.stands (w ∷ tail) (subst (Along s i.next) eq al) in
        let w₁ : now ≡ formals_noted (known_in s u m.names (n + 1)) [] p.formals six = c.told tail st.1 g d p.formals (v ∷ rest) z in
        let bs : part s i.place i.next ≡ p.name.bytes = rw (x.place, x.next) x.lasts.bytes in
        let six_is : six ≡ noted (known_in s t m.names n p.name.bytes) p.name.place m.six = e ∙ ap (λ (y : Bool). noted y i.place m.six) (a ∙ ap (known_in s t m.names n) bs) ∙ ap (λ (k : ℕ). noted (known_in s t m.names n p.name.bytes) k m.six) x.place in
        let len_is : len ≡ length p.name.bytes = omega (arith, l, x.place, x.next, x.lasts.short) in
        let u-is : u ≡ put_entry t (4095 - n) p.name.place 0 0 (length p.name.bytes) = q ∙ ap (λ (k : ℕ). put_entry t (4095 - n) k 0 0 len) x.place ∙ ap (put_entry t (4095 - n) p.name.place 0 0) len_is in
        let now-is : now ≡ formals_noted (known_in s (put_entry t (4095 - n) p.name.place 0 0 (length p.name.bytes)) m.names (n + 1)) [] p.formals (noted (known_in s t m.names n p.name.bytes) p.name.place m.six) = w₁ ∙ ap (formals_noted (known_in s u m.names (n + 1)) [] p.formals) six_is ∙ ap (λ (y : List ℕ). formals_noted (known_in s y m.names (n + 1)) [] p.formals (noted (known_in s t m.names n p.name.bytes) p.name.place m.six)) u-is in
        ap (λ (y : Marks). held_of y (n + 1) u) (f ∙ ap (with_six m) now-is) ∙ ap (λ (y : List ℕ). held_of (with_six m (formals_noted (known_in s (put_entry t (4095 - n) p.name.place 0 0 (length p.name.bytes)) m.names (n + 1)) [] p.formals (noted (known_in s t m.names n p.name.bytes) p.name.place m.six))) (n + 1) y) u-is
