-- The laws of the two loops over declared names.
-- Assumes nothing.
use mathlib.Core.Bool.{Bool, true, false, cond}
use Rattle.std.specs.Prelude.{None}
use mathlib.Core.Path.{◌≡◌, refl, sym, ◌∙◌, ap, subst}
use mathlib.Core.List.{List, [], ◌∷◌}
use Prim.Native.Nat.{ℕ, ◌+◌, ◌*◌, ◌≤◌, ◌<◌, min}
use native.Mathlib.Omega.{arith}
use native.Mathlib.Nat.{min-le_right}
use lib.Dec.{eqb}
use lib.ListN.{length}
use Rattle.meaning.specs.Declared.{Declaration, inputs, outputs, internals, integers, output_count, an_output}
use Rattle.meaning.specs.Unexpanded.{Procedure, DeclaredName, a_variable, a_procedure, Unexpanded}
use Rattle.meaning.specs.Expansion.{variables_of}
use Rattle.language.specs.Words.{Word}
use Rattle.language.specs.Grammar.{Program, most_levels}
use Rattle.descent_law.specs.Told.{Told}
use Rattle.hand.specs.declared.Here.{Here}
use Rattle.hand.specs.Along.{Along, Stands}
use Rattle.names.specs.declared.Item.{Item}
use Rattle.names.specs.declared.Marks.{Marks}
use Rattle.names.specs.declared.Kind.{Kind}
use Rattle.names.specs.declared.Kind.TheVariants as kinds
use Rattle.names.specs.Enter.{kind_number, cap, tag_of, start_marks}
use Rattle.decls.specs.declared.At.{At}
use Rattle.decls.specs.declared.Turn.{Turn}
use Rattle.decls.specs.declared.Read.{Read}
use Rattle.decls.specs.Left.{Several, list_number, LeftBy, Left}
use Rattle.decls.specs.Held.{Held, enter_one, enter_each, asked_by, asked}
use Rattle.decls.specs.Came.{EachLies, LiesOne, Is, IsProcedure, IsOne, StepCame, Ready, BeginCame, OutputsCame, VariableCame, ProcedureCame, held_of, Entered, EnterCame, Tells, Came}
use Rattle.decls.proofs.Laws.{left-name}

abbrev Text : Type 0
Text = List Word

-- nothing is left
left-none : (s : List ℕ) (l : ℕ) (h : Here) (ds : Several) (rest : Text) → l ≡ 0 → LeftBy s l h ds rest → (ds ≡ []) × Stands s h rest
left-none s l h ds rest e x = rw e at x

-- ---- what was read

tag_low : (d : Declaration) → tag_of d ≤ 3
tag_low (inputs n e) = omega arith
tag_low (outputs n e b) = omega arith
tag_low (internals n e b) = omega arith
tag_low (integers n p w v) = omega arith

-- what is no procedure is a variable
pub only_procedure : (k : Kind) → (k ≡ kinds.Procedure → ⊥) → kind_number k < 4
only_procedure kinds.Input e = omega arith
only_procedure kinds.Output e = omega arith
only_procedure kinds.Internal e = omega arith
only_procedure kinds.Integer e = omega arith
only_procedure kinds.Procedure e = absurd (e refl)

variable_is : (s : List ℕ) (d : DeclaredName) (i : Item) → IsOne s d i → ¬ (kind_number i.kind ≡ 4) → (v : Declaration) × (d ≡ a_variable v) × Is s v i
variable_is s (a_variable v) i x k = (v, refl, x)
variable_is s (a_procedure p) i x k = absurd (k x.kind)

procedure_is : (s : List ℕ) (d : DeclaredName) (i : Item) → IsOne s d i → kind_number i.kind ≡ 4 → (p : Procedure) × (d ≡ a_procedure p) × IsProcedure s p i
procedure_is s (a_variable v) i x k = absurd (omega (arith, tag_low v, x.kind, k))
procedure_is s (a_procedure p) i x k = (p, refl, x)

lies_is : (s : List ℕ) (d : DeclaredName) (i : Item) → IsOne s d i → LiesOne s d
lies_is s (a_variable v) i x = x.lies
lies_is s (a_procedure p) i x = x.lasts

-- ---- how many outputs

abbrev outputs_of : Several → ℕ
outputs_of ds = output_count (variables_of ds)

pub record Counting (s : List ℕ) (a₀ a : At) (n : ℕ) : Type 0 where
  pub ready : Ready s a
  pub small : n ≤ 255
  pub told : (ds : Several) (rest : Text) → Left s a₀ ds rest → (es : Several) × Left s a es rest × (cap (outputs_of ds) ≡ cap (n + outputs_of es))

count-variable : (d : Declaration) (k n m : ℕ) → k ≡ tag_of d → m ≡ cond (eqb k 1) (cap (n + 1)) n → n ≤ 255 → (o : ℕ) → cap (n + (an_output d + o)) ≡ cap (m + o)
count-variable (inputs x e) k n m q r h o = let z : m ≡ n = rw q at r in omega (arith, z)
count-variable (outputs x e b) k n m q r h o = let z : m ≡ min (n + 1) 255 = rw q at r in omega (arith, z)
count-variable (internals x e b) k n m q r h o = let z : m ≡ n = rw q at r in omega (arith, z)
count-variable (integers x p w v) k n m q r h o = let z : m ≡ n = rw q at r in omega (arith, z)

count-one : (s : List ℕ) (d : DeclaredName) (i : Item) (n m : ℕ) → IsOne s d i → m ≡ cond (eqb (kind_number i.kind) 1) (cap (n + 1)) n → n ≤ 255 → (ds : Several) → cap (n + outputs_of (d ∷ ds)) ≡ cap (m + outputs_of ds)
unfolding output_count variables_of
count-one s (a_variable d) i n m x r h ds = count-variable d (kind_number i.kind) n m x.kind r h (outputs_of ds)
count-one s (a_procedure p) i n m x r h ds = let z : m ≡ n = rw x.kind at r in omega (arith, z)

counted-small : (k n m : ℕ) (t : Bool) → m ≡ cond t (cap (n + 1)) n → n ≤ 255 → m ≤ 255
counted-small k n m true e h = omega (arith, e, min-le_right (n + 1) 255)
counted-small k n m false e h = omega (arith, e)

module _ {s : List ℕ} {a₀ a : At} {n : ℕ} (g : Counting s a₀ a n) where
  pub count_on : {t : Turn} {m : ℕ} → StepCame s a t → m ≡ cond (eqb (kind_number t.item.kind) 1) (cap (n + 1)) n → Counting s a₀ t.at m
  count_on {t} {m} c e = record { ready = record { near = c.near; list = c.list }; small = counted-small (kind_number t.item.kind) n m (eqb (kind_number t.item.kind) 1) e g.small; told = told }
    where
      told : (ds : Several) (rest : Text) → Left s a₀ ds rest → (es : Several) × Left s t.at es rest × (cap (outputs_of ds) ≡ cap (m + outputs_of es))
      told ds rest x =
          let (es, y, q) = g.told ds rest x in
          let z = c.told es rest y in
          (z.on, z.left, q ∙ ap (λ (d : Several). cap (n + outputs_of d)) z.all ∙ count-one s z.one t.item n m z.is e g.small z.on)

  pub count-ends : a.list ≡ None → OutputsCame s a₀ n
  unfolding output_count variables_of
  count-ends e = record { told = λ ds rest x. let (es, y, q) = g.told ds rest x in let (p, z) = left-none s (list_number a.list) a.word es rest (ap list_number e) y in let w : cap (outputs_of ds) ≡ cap (n + 0) = q ∙ ap (λ (d : Several). cap (n + outputs_of d)) p in omega (arith, w, g.small) }

  pub count_never : 1 ≤ list_number a.list → ¬ (a.word.kind ≡ 0) → OutputsCame s a₀ n
  count_never e f = record { told = λ ds rest x. let (es, y, q) = g.told ds rest x in absurd (f (left-name s a es rest e g.ready.list y)) }

-- ---- all entered

pub record Going (s : List ℕ) (a₀ : At) (m₀ : Marks) (t₀ : List ℕ) (a : At) (m : Marks) (n : ℕ) (t : List ℕ) : Type 0 where
  pub ready : Ready s a
  pub long : length t ≡ length t₀
  pub most : m.names + n ≤ 4096
  pub few : 1 ≤ list_number a.list → (m.names + n) * 2 ≤ a.word.place
  pub told : (ds : Several) (rest : Text) → Left s a₀ ds rest
      → (es : Several) × Left s a es rest × (EachLies s es → EachLies s ds) × (enter_each s ds (held_of m₀ 0 t₀) ≡ enter_each s es (held_of m n t)) × (a₀.word.place * 2 + asked ds ≤ a.word.place * 2 + asked es)

enter-cons : (s : List ℕ) (d : DeclaredName) (ds : Several) (g h : Held) → h ≡ enter_one s d g → enter_each s (d ∷ ds) g ≡ enter_each s ds h
unfolding enter_each
enter-cons s d ds g h e = rw e refl

asked-cons : (d : DeclaredName) (ds : Several) → asked (d ∷ ds) ≡ asked_by d + asked ds
unfolding asked
asked-cons d ds = refl

module _ {s : List ℕ} {a₀ : At} {m₀ : Marks} {t₀ : List ℕ} {a : At} {m : Marks} {n : ℕ} {t : List ℕ} (g : Going s a₀ m₀ t₀ a m n t) where
  going-one : {x : Turn} {r : Marks} {o : ℕ} {u : List ℕ} → 1 ≤ list_number a.list → a.word.kind ≡ 0 → 16384 ≤ length t₀ → StepCame s a x → length u ≡ length t → r.names + o ≡ m.names + n + 1
      → ((d : DeclaredName) → IsOne s d x.item → held_of r o u ≡ enter_one s d (held_of m n t)) → Going s a₀ m₀ t₀ x.at r o u
  going-one {x} {r} {o} {u} e k h c l z q =
      let w = g.ready.near in
      let p = w.more (omega (arith, k)) in
      let f = g.few e in
      record {
        ready = record { near = c.near; list = c.list };
        long = l ∙ g.long;
        most = omega (arith, p, f, z, w.inside, w.short);
        few = λ y. omega (arith, c.later y, f, z);
        told = told;
      }
    where
      told : (ds : Several) (rest : Text) → Left s a₀ ds rest
          → (es : Several) × Left s x.at es rest × (EachLies s es → EachLies s ds) × (enter_each s ds (held_of m₀ 0 t₀) ≡ enter_each s es (held_of r o u)) × (a₀.word.place * 2 + asked ds ≤ x.at.word.place * 2 + asked es)
      told ds rest y =
          let (es, l, lie, all, ask) = g.told ds rest y in
          let z = c.told es rest l in
          let f : EachLies s z.on → EachLies s es = λ o. subst (EachLies s) (sym z.all) (lies_is s z.one x.item z.is, o) in
          let v : asked es ≡ asked_by z.one + asked z.on = ap asked z.all ∙ asked-cons z.one z.on in
          (z.on, z.left, λ o. lie (f o), all ∙ ap (λ (d : Several). enter_each s d (held_of m n t)) z.all ∙ enter-cons s z.one z.on (held_of m n t) (held_of r o u) (q z.one z.is), omega (arith, ask, v, z.far))

  pub going-variable : {x : Turn} {r : Marks} {u : List ℕ} → 1 ≤ list_number a.list → a.word.kind ≡ 0 → 16384 ≤ length t₀ → StepCame s a x → (x.item.kind ≡ kinds.Procedure → ⊥) → VariableCame s t u m n x.item r → Going s a₀ m₀ t₀ x.at r n u
  going-variable {x} {r} {u} e k h c v w =
      going-one {x = x} {r = r} {o = n} {u = u} e k h c w.long (omega (arith, w.names)) (λ d i. let (y, q, z) = variable_is s d x.item i (λ g. omega (arith, only_procedure x.item.kind v, g)) in w.told y z ∙ ap (λ (d : DeclaredName). enter_one s d (held_of m n t)) (sym q))

  pub going-procedure : {x : Turn} {r : Marks} {u : List ℕ} → 1 ≤ list_number a.list → a.word.kind ≡ 0 → 16384 ≤ length t₀ → StepCame s a x → x.item.kind ≡ kinds.Procedure → ProcedureCame s t u m n x.item r → Going s a₀ m₀ t₀ x.at r (n + 1) u
  going-procedure {x} {r} {u} e k h c v w =
      going-one {x = x} {r = r} {o = n + 1} {u = u} e k h c w.long (omega (arith, w.names)) (λ d i. let (y, q, z) = procedure_is s d x.item i (ap kind_number v) in w.told y z ∙ ap (λ (d : DeclaredName). enter_one s d (held_of m n t)) (sym q))

  pub going-ends : a.list ≡ None → EnterCame s a₀ m₀ t₀ t (record { marks = m; procedures = n; word = a.word })
  unfolding enter_each asked
  going-ends e = record { near = g.ready.near; long = g.long; few = omega (arith, g.most); rows = omega (arith, g.most); told = told }
    where
      told : (ds : Several) (rest : Text) → Left s a₀ ds rest → Entered s a₀ ds rest m₀ t₀ t (record { marks = m; procedures = n; word = a.word })
      told ds rest y =
          let (es, l, lie, all, ask) = g.told ds rest y in
          let (p, z) = left-none s (list_number a.list) a.word es rest (ap list_number e) l in
          let w = g.ready.near in
          record { lie = lie (subst (EachLies s) (sym p) tt); stands = z; kept = sym (all ∙ ap (λ (d : Several). enter_each s d (held_of m n t)) p); room = omega (arith, ask, ap asked p, w.on, w.inside, w.short) }

  pub going_never : 1 ≤ list_number a.list → ¬ (a.word.kind ≡ 0) → EnterCame s a₀ m₀ t₀ t (record { marks = m; procedures = n; word = a.word })
  going_never e f = record { near = g.ready.near; long = g.long; few = omega (arith, g.most); rows = omega (arith, g.most); told = λ ds rest y. let (es, l, lie, all, ask) = g.told ds rest y in absurd (f (left-name s a es rest e g.ready.list l)) }

-- ---- the whole

pub declared-came : {s t u : List ℕ} {a : At} {low : ℕ} {m : Marks} {r : Read} → BeginCame s a → OutputsCame s a low → m ≡ start_marks low → EnterCame s a m t u r → Came s t u r
declared-came {s} {t} {u} {a} {low} {m} {r} b o e x = record { near = x.near; long = x.long; few = x.few; rows = x.rows; told = told }
  where
    told : (ws : Text) → Along s 0 ws → (f k : ℕ) → k ≤ most_levels → (p : Unexpanded) (rest : Text) → Told f Program k ws p rest → Tells s k p rest t u r
    told ws al f k few p rest y =
        let z = b.told ws al f k few p rest y in
        let i = x.told p.declared z.mid z.left in
        let q : low ≡ cap (outputs_of p.declared) = o.told p.declared z.mid z.left in
        record { mid = z.mid; close = z.close; fuel = z.fuel; lie = i.lie; stands = i.stands; body = z.body; kept = i.kept ∙ ap (λ (n : Marks). enter_each s p.declared (held_of n 0 t)) (e ∙ ap start_marks q); room = omega (arith, i.room, z.far) }
