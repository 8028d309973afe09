-- The laws of tests and of statements with none inside: one for each way on.
-- Assumes nothing.
use mathlib.Core.Bool.{Bool}
use mathlib.Core.Path.{◌≡◌, refl, sym, ◌∙◌, ap, subst}
use mathlib.Core.List.{List, ◌∷◌}
use mathlib.Core.Option.{Option}
use Prim.Native.Nat.{ℕ, zero, suc, ◌≤◌, ◌<◌}
use native.Mathlib.Omega.{arith}
use Rattle.meaning.specs.Numbers.{Variable}
use Rattle.meaning.specs.Kinds.{changeable, has_bit}
use Rattle.meaning.specs.Tree.{Name, Expr, Change, raise, lower, invert, Target, part}
use Rattle.meaning.specs.Unexpanded.{Term, Command, skip, delay, change, assign, exit, break}
use Rattle.meaning.specs.Levels.{levels_in}
use Rattle.meaning.specs.Base.{head_at, base_term}
use Rattle.meaning.specs.Expansion.{actual_of, replaced, changed_name, changed_whole, target_replaced}
use Rattle.language.specs.Words.{Word}
use Rattle.language.specs.Grammar.{Expression, Index, AfterName}
use Rattle.language.specs.Trees.{name_at, number_at, whole_or_part}
use Rattle.words.specs.Runs as words
use Rattle.names.specs.Look.{look_in}
use Rattle.descent_law.specs.Told.{Told, IndexRow}
use Rattle.descent_law.specs.Rows.{ChangeRow, StatementRow, AfterNameRow}
use Rattle.descent_law.proofs.Statements.{target_told, after-name-told}
use Rattle.descent_law.proofs.Expressions.{index_told}
use Rattle.descent_law.proofs.Leveled.{told-levels}
use Rattle.hand.specs.declared.Here.{Here}
use Rattle.parts.specs.declared.Notes.{Notes}
use Rattle.parts.specs.declared.Got.{Got}
use Rattle.hand.specs.Along.{Same, Stands, Near, Begins}
use Rattle.parts.specs.Sum.{Sum, sum_of, sum, number_of, width_of}
use Rattle.parts.specs.Beside.{beside}
use Rattle.frames_law.specs.Frames.{told_at}
use Rattle.frames.specs.declared.Under.{Under}
use Rattle.frames.specs.declared.Meant.{Meant}
use Rattle.frames.specs.Meant.{span_name, MeantBy}
use Rattle.exprs.specs.Came as expression
use Rattle.std.specs.Prelude.{Some, None}
use Rattle.tiers.proofs.Laws.{first_is}
use Rattle.tiers.proofs.Rows.{index_only, call_only, one_there, none_there}
use Rattle.items.specs.declared.Marks.{Marks}
use Rattle.items.specs.declared.Read.{Read}
use Rattle.items.specs.declared.Tried.{Tried}
use Rattle.items.specs.Walk.{Walked, begun, leaves, delayed, target_marks, assigned, assign_at, change_at, change_kind, tested, walked, walked_of, test_of, test_at, finished}
use Rattle.items.specs.Under.{Scope, sense_of, test_in, one_in}
use Rattle.items.specs.Came.{Finished, On, Tells, TestTells, around, TestCame, RowCame}
use Rattle.order_law.proofs.Senses.{quiet_text, quiet_term, skip_in, exit_in, break_in, delay_in, change_in, assign_in}
use Rattle.plain.specs.declared.aim.Aim.{Aim}
use Rattle.plain.specs.Aim.{name_to, aimed, name_aim, whole_aim, part_aim, Changes}
use Rattle.plain.proofs.Aims.{name_aim_lem, whole_aim_lem, part_aim_lem}

-- ---- expressions

-- what an expression comes to under open calls
pub record Summed (s z : List ℕ) (count : ℕ) (under : Under) (k : ℕ) (h : Here) (n : Notes) (t u : List ℕ) (g : Got) : Type 0 where
  pub on : On s h t u g.word
  pub told : (o : Scope s z count under) (ws : List Word) → Stands s h ws → (f : ℕ) (e : Term) (rest : List Word) → Told f Expression k ws e rest
      → Stands s g.word rest × (sum_of g u ≡ sum (look_in s z count) (base_term (replaced (told_at under.at) o.bound e)) n t)

pub summed : {s z : List ℕ} {count : ℕ} {under : Under} {k : ℕ} {h : Here} {n : Notes} {t u : List ℕ} {g : Got} → expression.CameUnder s z count under 0 k h n t u g → Summed s z count under k h n t u g
summed came =
    record {
      on = record { near = came.near; later = came.later; kept = came.kept };
      told = λ o ws st f e rest x. let i = came.told ws st f e rest x in (i.word, i.sums o.bound o.opened.framed);
    }

-- ---- tests

test_sum : (look : List ℕ → Option Variable) (e : Expr Name) (p : ℕ) (m m₁ : Marks) (t : List ℕ) (x : Sum) → x ≡ sum look e m.notes t → m₁ ≡ tested m x p → record { state = walked m₁ x.bytes; root = x.root; looks = x.looks } ≡ test_at look e p (walked m t)
unfolding test_at
test_sum look e p m m₁ t x q r = rw (r, q) refl

pub test-came : {s z : List ℕ} {count : ℕ} {under : Under} {k : ℕ} {h : Here} {m : Marks} {p : ℕ} {t u : List ℕ} {g : Got} {a : Here} {m₁ : Marks} {r : Tried}
    → Near s h → Summed s z count under k h m.notes t u g → Begins s g.word.next a → ((z : List ℕ) → m₁ ≡ tested m (sum_of g z) p) → r ≡ record { word = a; marks = m₁; root = g.root; looks = g.looks } → TestCame s z count under k h m p t u r
test-came {s} {z} {count} {under} {k} {h} {m} {p} {t} {u} {g} {a} {m₁} {r} near came after e w =
    record { on = record { near = rw w after.near; later = rw w (omega (arith, came.on.later, came.on.near.on, after.later)); kept = came.on.kept }; told = go }
  where
    go : (o : Scope s z count under) (ws : List Word) → Stands s h ws → (f : ℕ) (x : Term) (c : Word) (rest : List Word) → Told f Expression k ws x (c ∷ rest) → TestTells s rest (test_in (sense_of count o) x p (walked m t)) u r
    go o ws st f x c rest y =
        let (stands, sums) = came.told o ws st f x (c ∷ rest) y in
        record { word = rw w (after.stands rest stands.1); sums = ap (λ (z : Tried). test_of z u) w ∙ test_sum (look_in s z count) (base_term (replaced (told_at under.at) o.bound x)) p m m₁ t (sum_of g u) sums (e u) }

-- ---- what is walked

module _ {s z : List ℕ} {under : Under} (count : ℕ) (o : Scope s z count under) (n : ℕ) (l b : Bool) (m : Marks) (t : List ℕ) (w : Word) (p : ℕ) (m₁ : Marks) (e : m₁ ≡ begun m p) (q : p ≡ told_at under.at w.place) where
  skip-walk : finished m.nodes 0 p 0 0 0 0 (walked m₁ t) ≡ one_in (sense_of count o) n (skip w.place) l b (walked m t)
  skip-walk = rw (e, q) (skip_in (sense_of count o) n l b (walked m t) w.place)

  exit-walk : (m₂ : Marks) → m₂ ≡ leaves m₁ l p → finished m.nodes 9 p 0 0 0 0 (walked m₂ t) ≡ one_in (sense_of count o) n (exit w.place) l b (walked m t)
  exit-walk m₂ r = rw (r, e, q) (exit_in (sense_of count o) n l b (walked m t) w.place)

  break-walk : (m₂ : Marks) → m₂ ≡ leaves m₁ b p → finished m.nodes 10 p 0 0 0 0 (walked m₂ t) ≡ one_in (sense_of count o) n (break w.place) l b (walked m t)
  break-walk m₂ r = rw (r, e, q) (break_in (sense_of count o) n l b (walked m t) w.place)

  delay-walk : (m₂ : Marks) (k j : ℕ) (y : Word) → m₂ ≡ delayed m₁ k j → j ≡ told_at under.at y.place → k ≡ number_at y
      → finished m.nodes 1 p j k 0 0 (walked m₂ t) ≡ one_in (sense_of count o) n (delay w.place y.place (number_at y)) l b (walked m t)
  delay-walk m₂ k j y r a c = rw (r, e, q, a, c) (delay_in (sense_of count o) n l b (walked m t) w.place y.place (number_at y))

-- an assignment to the name v
assign-sum : (look : List ℕ → Option Variable) (v : Name) (i low width : ℕ) (m₁ m₂ : Marks) (x y : Sum) (o : Option Variable) → x ≡ y → o ≡ look v.bytes → low ≡ number_of o → width ≡ width_of o → m₂ ≡ assigned m₁ x o v.place
    → finished i 5 v.place low width x.looks x.root (walked m₂ x.bytes) ≡ assign_at look (head_at v.place) v m₁ y i
unfolding assign_at
assign-sum look v i low width m₁ m₂ x y o r a c d f = rw (f, c, d, r, a) refl

-- ---- statements

-- `raise`, `lower`, `invert`
change-rows : (f k : ℕ) (ws : List Word) (v : Command) (rest : List Word) (i : ℕ) → 2 ≤ i → i < 5 → StatementRow f k ws v rest i → (c : Change) × (i ≡ change_kind c) × ChangeRow f k ws v rest c
change-rows f k ws v rest zero a b x = absurd (omega arith)
change-rows f k ws v rest (suc zero) a b x = absurd (omega arith)
change-rows f k ws v rest (suc (suc zero)) a b x = (raise, refl, x)
change-rows f k ws v rest (suc (suc (suc zero))) a b x = (lower, refl, x)
change-rows f k ws v rest (suc (suc (suc (suc zero)))) a b x = (invert, refl, x)
change-rows f k ws v rest (suc (suc (suc (suc (suc i))))) a b x = absurd (omega arith)

second-later : {s : List ℕ} {h a : Here} → Near s h → Begins s h.next a → h.place ≤ a.place
second-later near second = omega (arith, near.on, second.later)

on_of : {s : List ℕ} {h : Here} {t u : List ℕ} {w : Here} (t₁ : List ℕ) (r : Read) → r.word ≡ w → beside u ≡ beside t₁ → beside t₁ ≡ beside t → Near s w → h.place ≤ w.place → On s h t u r.word
on_of t₁ r word kept₁ kept n later = record { near = rw word n; later = rw word later; kept = kept₁ ∙ kept }

-- what is said of row i
abbrev Says : (s z : List ℕ) (count : ℕ) (under : Under) (k : ℕ) (l b : Bool) → Here → Marks → List ℕ → List ℕ → Read → ℕ → Type 0
Says s z count under k l b h m t u r i = (o : Scope s z count under) (ws : List Word) → Stands s h ws → (f : ℕ) (v : Command) (rest : List Word) → StatementRow f k ws v rest i → Tells s rest (one_in (sense_of count o) (around k) v l b (walked m t)) u r

is_one_lem : {s z : List ℕ} {under : Under} (count : ℕ) (o : Scope s z count under) (n : ℕ) (l b : Bool) (w : Walked) {v x : Command} → v ≡ x → one_in (sense_of count o) n x l b w ≡ one_in (sense_of count o) n v l b w
is_one_lem count o n l b w e = ap (λ (y : Command). one_in (sense_of count o) n y l b w) (sym e)

told-place : {s : List ℕ} {h : Here} {x : Word} (at : ℕ) {p : ℕ} → p ≡ told_at at h.place → Same s h x → p ≡ told_at at x.place
told-place at place same = place ∙ ap (told_at at) same.place

-- the name in hand is the name of its word
same_name : {s : List ℕ} {h : Here} {w : Word} → Same s h w → span_name s h.place h.next ≡ name_at w
same_name {s} {h} {w} same = ap (λ (x : List ℕ). record { bytes = x; place = h.place }) same.bytes ∙ ap (λ (q : ℕ). record { bytes = w.bytes; place = q }) same.place

-- a target that is changed
change-walk : {s z : List ℕ} {under : Under} {row p q : ℕ} {g : Aim} {e : Here} {m₁ : Marks} {t u : List ℕ} {r : Read} (count : ℕ) (o : Scope s z count under) (k : ℕ) (l b : Bool) (m : Marks) (w : Word) (ch : Change) (x : Target Name)
    → p ≡ told_at under.at w.place → m₁ ≡ begun m p → row ≡ change_kind ch → 1 ≤ k → Changes s z count row m.nodes p q g e m₁ t u r → aimed s q g ≡ target_replaced (told_at under.at) o.bound x
    → walked_of r u ≡ one_in (sense_of count o) (around k) (change w.place ch x) l b (walked m t)
change-walk {s} {z} {under} {row} {p} {q} {g} {e} {m₁} {t} {u} {r} count o k l b m w ch x place counts kind more fin is =
    fin.walks m ch counts refl kind
    ∙ ap (λ (y : ℕ). change_at (look_in s z count) (head_at y) ch (aimed s q g) (walked m t)) place
    ∙ ap (λ (y : Target Name). change_at (look_in s z count) (head_at (told_at under.at w.place)) ch y (walked m t)) is
    ∙ change_in (sense_of count o) (around k) l b (walked m t) w.place ch x (quiet_text count o (suc (around k)) (omega (arith, more)))

module _ {s z : List ℕ} {count : ℕ} {under : Under} {k : ℕ} {l b : Bool} {h : Here} {m m₁ : Marks} {row p : ℕ} {a : Here} (near : Near s h) (place : p ≡ told_at under.at h.place) (counts : m₁ ≡ begun m p) (second : Begins s h.next a) where
  -- a statement of one word
  one_word : {t u : List ℕ} {r : Read} {m₂ : Marks} {κ : ℕ} (of : ℕ → Command)
      → ((o : Scope s z count under) (x : Word) → p ≡ told_at under.at x.place → finished m.nodes κ p 0 0 0 0 (walked m₂ t) ≡ one_in (sense_of count o) (around k) (of x.place) l b (walked m t))
      → ((f : ℕ) (ws : List Word) (v : Command) (rest : List Word) → StatementRow f k ws v rest row → (x : Word) × (ws ≡ x ∷ rest) × (v ≡ of x.place)) → Finished m.nodes κ p 0 0 0 0 a m₂ t u r → RowCame s z count under k l b row h m t u r
  one_word {t} {u} {r} {m₂} {κ} of walks takes fin = record { on = on_of t r fin.word fin.kept refl second.near (second-later near second); told = go }
    where
      go : Says s z count under k l b h m t u r row
      go o ws st f v rest y =
          let (x, e, is) = takes f ws v rest y in
          let (same, along) = first_is st e in
          record { word = rw fin.word (second.stands rest along); walks = fin.walks ∙ walks o x (told-place under.at place same) ∙ is_one_lem count o (around k) l b (walked m t) is }

  pub plain_skip : {t u : List ℕ} {r : Read} → row ≡ 0 → Finished m.nodes 0 p 0 0 0 0 a m₁ t u r → RowCame s z count under k l b row h m t u r
  plain_skip {t} q = one_word (λ x. skip x) (λ o x e. skip-walk count o (around k) l b m t x p m₁ counts e) (λ f ws v rest y. rw q at y)

  pub plain_exit : {t u : List ℕ} {r : Read} {m₂ : Marks} → row ≡ 9 → m₂ ≡ leaves m₁ l p → Finished m.nodes 9 p 0 0 0 0 a m₂ t u r → RowCame s z count under k l b row h m t u r
  plain_exit {t} {u} {r} {m₂} q n = one_word (λ x. exit x) (λ o x e. exit-walk count o (around k) l b m t x p m₁ counts e m₂ n) (λ f ws v rest y. rw q at y)

  pub plain_break : {t u : List ℕ} {r : Read} {m₂ : Marks} → row ≡ 11 → m₂ ≡ leaves m₁ b p → Finished m.nodes 10 p 0 0 0 0 a m₂ t u r → RowCame s z count under k l b row h m t u r
  plain_break {t} {u} {r} {m₂} q n = one_word (λ x. break x) (λ o x e. break-walk count o (around k) l b m t x p m₁ counts e m₂ n) (λ f ws v rest y. rw q at y)

  pub plain_delay : {t u : List ℕ} {r : Read} {m₂ : Marks} {a₁ : Here} {j : ℕ} → row ≡ 1 → Begins s a.next a₁ → j ≡ told_at under.at a.place → m₂ ≡ delayed m₁ a.value j → Finished m.nodes 1 p j a.value 0 0 a₁ m₂ t u r → RowCame s z count under k l b row h m t u r
  plain_delay {t} {u} {r} {m₂} {a₁} {j} q third at e fin =
      record { on = on_of t r fin.word fin.kept refl third.near (omega (arith, (second-later near second), second.near.on, third.later)); told = λ o ws st f v rest x. go o ws st f v rest (rw q at x) }
    where
      go : Says s z count under k l b h m t u r 1
      go o ws st f v rest (x, n, y, c, d) =
          let (same, along) = first_is st y in
          let (same₁, along₁) = second.stands (n ∷ rest) along in
          let val : a.value ≡ number_at n = rw c at same₁.value in
          record {
            word = rw fin.word (third.stands rest along₁);
            walks = fin.walks ∙ delay-walk count o (around k) l b m t x p m₁ counts (told-place under.at place same) m₂ a.value j n e (at ∙ ap (told_at under.at) same₁.place) val ∙ is_one_lem count o (around k) l b (walked m t) d;
          }

  -- ---- an assignment

  pub plain_assign : {t u₁ u : List ℕ} {r : Read} {g : Got} {a₁ : Here} {x : Aim} {m₂ : Marks} {y : Option Variable} {low width : ℕ} (v : Meant) → k ≤ 32 → row ≡ 5 → ¬ (a.kind ≡ 14) → MeantBy s z under h.place h.next v → x ≡ name_aim v → Begins s a.next a₁
      → Summed s z count under k a₁ m₁.notes t u₁ g → y ≡ look_in s z count (words.part s x.a x.b) → low ≡ number_of y → width ≡ width_of y → ((c : List ℕ) → m₂ ≡ assigned m₁ (sum_of g c) y p)
      → Finished m.nodes 5 p low width g.looks g.root g.word m₂ u₁ u r → RowCame s z count under k l b row h m t u r
  plain_assign {t} {u₁} {u} {r} {g} {a₁} {x} {m₂} {y} {low} {width} v few q no_call means aim third came seen e₁ e₂ e₃ fin =
      record { on = on_of u₁ r fin.word fin.kept came.on.kept came.on.near (omega (arith, (second-later near second), second.near.on, third.later, came.on.later)); told = λ o ws st f w rest c. go o ws st f w rest (rw q at c) }
    where
      walks : (o : Scope s z count under) (w : Word) (ex : Term) → Same s h w → levels_in ex ≤ k → sum_of g u₁ ≡ sum (look_in s z count) (base_term (replaced (told_at under.at) o.bound ex)) m₁.notes t
          → finished m.nodes 5 p low width g.looks g.root (walked m₂ u₁) ≡ one_in (sense_of count o) (around k) (assign (name_at w) ex) l b (walked m t)
      walks o w ex same shallow sums =
          let is : name_to s p x ≡ changed_name (told_at under.at) (name_at w) (actual_of o.bound w.bytes) =
          ap (λ (c : Aim). name_to s p c) aim ∙ ap (λ (c : ℕ). name_to s c (name_aim v)) place ∙ name_aim_lem o h.place h.next v means ∙ ap (λ (c : Name). changed_name (told_at under.at) c (actual_of o.bound c.bytes)) (same_name same) in
          assign-sum (look_in s z count) (name_to s p x) m.nodes low width m₁ m₂ (sum_of g u₁) (sum (look_in s z count) (base_term (replaced (told_at under.at) o.bound ex)) m₁.notes t) y sums seen e₁ e₂ (e₃ u₁)
          ∙ ap (λ (c : Marks). assign_at (look_in s z count) (head_at p) (name_to s p x) c (sum (look_in s z count) (base_term (replaced (told_at under.at) o.bound ex)) c.notes t) m.nodes) counts
          ∙ assign_in (sense_of count o) (around k) l b (walked m t) (name_at w) (name_to s p x) ex is (quiet_term count o (around k) ex (omega (arith, few, shallow)))

      after : (o : Scope s z count under) (w : Word) (tail rest : List Word) (c : Name → Command) (e : ℕ) → Same s h w → Stands s a tail → AfterNameRow e k tail c rest 0 → Tells s rest (one_in (sense_of count o) (around k) (c (name_at w)) l b (walked m t)) u r
      after o w tail rest c e same st (eq, mid, ex, d, y₁, f) =
          let (same₁, along₁) = first_is st d in
          let (stands, sums) = came.told o mid (third.stands mid along₁) e ex rest y₁ in
          record { word = rw fin.word stands; walks = fin.walks ∙ walks o w ex same (told-levels e k mid ex rest y₁) sums ∙ ap (λ (n : Name → Command). one_in (sense_of count o) (around k) (n (name_at w)) l b (walked m t)) (sym f) }

      go : Says s z count under k l b h m t u r 5
      go o ws st f w rest (x₁, tail, c, y₁, z₁, d) =
          let (same, along) = first_is st y₁ in
          let st₁ = second.stands tail along in
          let (f₁, i, p₁, row₁) = after-name-told f k tail c rest z₁ in
          let i-is : i ≡ 0 = none_there AfterName 14 call_only s a tail i st₁ p₁ no_call in
          let z₂ = after o x₁ tail rest c f₁ same st₁ (subst (AfterNameRow f₁ k tail c rest) i-is row₁) in
          record { word = z₂.word; walks = z₂.walks ∙ is_one_lem count o (around k) l b (walked m t) d }

  -- ---- a target

  module _ {n c d : Here} {q : ℕ} (v : Meant) (name : Begins s a.next n) (at : q ≡ told_at under.at n.place) (means : MeantBy s z under n.place n.next v) (after : Begins s n.next c) (next : Begins s c.next d) (low-row : 2 ≤ row) (high-row : row < 5) where
    pub change-whole : {t u : List ℕ} {r : Read} {g : Aim} → ¬ (c.kind ≡ 16) → g ≡ whole_aim v → Changes s z count row m.nodes p q g d m₁ t u r → RowCame s z count under k l b row h m t u r
    change-whole {t} {u} {r} {g} index aim fin =
        record { on = on_of t r fin.word fin.kept refl next.near (omega (arith, (second-later near second), second.near.on, name.later, name.near.on, after.later, after.near.on, next.later)); told = λ o ws st f x rest y. let (ch, i, e) = change-rows f k ws x rest row low-row high-row y in go o ws st f x rest ch i e }
      where
        go : (o : Scope s z count under) (ws : List Word) → Stands s h ws → (f : ℕ) (x : Command) (rest : List Word) (ch : Change) → row ≡ change_kind ch → ChangeRow f k ws x rest ch → Tells s rest (one_in (sense_of count o) (around k) x l b (walked m t)) u r
        go o ws st f x rest ch i (w, op, cl, j, tail, tg, y, lev, e, dd) =
            let (same, along) = first_is st y in
            let (same₁, along₁) = second.stands (op ∷ tail) along in
            let (f₁, i₁, p₁, (w₁, tail₁, ix, y₁, z₁, d₁)) = target_told f j tail tg (cl ∷ rest) e in
            let (same₂, along₂) = first_is (name.stands tail along₁) y₁ in
            let st₃ = after.stands tail₁ along₂ in
            let (i₂, p₂, row₂) = index_told f₁ j tail₁ ix (cl ∷ rest) z₁ in
            let not_there : i₂ ≡ 0 = none_there Index 16 index_only s c tail₁ i₂ st₃ p₂ index in
            let (ixn, ends) = subst (IndexRow tail₁ ix (cl ∷ rest)) not_there row₂ in
            let (same₄, along₄) = first_is st₃ ends in
            let aims : aimed s q g ≡ target_replaced (told_at under.at) o.bound tg =
            ap (λ (y : Aim). aimed s q y) aim ∙ ap (λ (y : ℕ). aimed s y (whole_aim v)) at ∙ whole_aim_lem o n.place n.next v means
            ∙ ap (λ (y : Name). changed_whole (told_at under.at) y (actual_of o.bound y.bytes)) (same_name same₂) ∙ ap (target_replaced (told_at under.at) o.bound) (sym (d₁ ∙ ap (whole_or_part (name_at w₁)) ixn)) in
            record { word = rw fin.word (next.stands rest along₄); walks = change-walk count o k l b m w ch tg (told-place under.at place same) counts i (omega (arith, lev)) fin aims ∙ is_one_lem count o (around k) l b (walked m t) dd }

    pub change-part : {t u : List ℕ} {r : Read} {g : Aim} {a₂ a₃ a₄ : Here} → c.kind ≡ 16 → Begins s d.next a₂ → Begins s a₂.next a₃ → Begins s a₃.next a₄ → g ≡ part_aim v d.value → Changes s z count row m.nodes p q g a₄ m₁ t u r → RowCame s z count under k l b row h m t u r
    change-part {t} {u} {r} {g} {a₂} {a₃} {a₄} index b₂ b₃ b₄ aim fin =
        record {
          on = on_of t r fin.word fin.kept refl b₄.near (omega (arith, (second-later near second), second.near.on, name.later, name.near.on, after.later, after.near.on, next.later, next.near.on, b₂.later, b₂.near.on, b₃.later, b₃.near.on, b₄.later));
          told = λ o ws st f x rest y. let (ch, i, e) = change-rows f k ws x rest row low-row high-row y in go o ws st f x rest ch i e;
        }
      where
        go : (o : Scope s z count under) (ws : List Word) → Stands s h ws → (f : ℕ) (x : Command) (rest : List Word) (ch : Change) → row ≡ change_kind ch → ChangeRow f k ws x rest ch → Tells s rest (one_in (sense_of count o) (around k) x l b (walked m t)) u r
        go o ws st f x rest ch i (w, op, cl, j, tail, tg, y, lev, e, dd) =
            let (same, along) = first_is st y in
            let (same₁, along₁) = second.stands (op ∷ tail) along in
            let (f₁, i₁, p₁, (w₁, tail₁, ix, y₁, z₁, d₁)) = target_told f j tail tg (cl ∷ rest) e in
            let (same₂, along₂) = first_is (name.stands tail along₁) y₁ in
            let st₃ = after.stands tail₁ along₂ in
            let (i₂, p₂, row₂) = index_told f₁ j tail₁ ix (cl ∷ rest) z₁ in
            let is-there : i₂ ≡ 1 = one_there Index 16 index_only s c tail₁ i₂ st₃ p₂ index in
            let (aa, bb, cc₁, ends, num, ixn) = subst (IndexRow tail₁ ix (cl ∷ rest)) is-there row₂ in
            let (same₄, along₄) = first_is st₃ ends in
            let (same₅, along₅) = next.stands (bb ∷ cc₁ ∷ cl ∷ rest) along₄ in
            let (same₆, along₆) = b₂.stands (cc₁ ∷ cl ∷ rest) along₅ in
            let (same₇, along₇) = b₃.stands (cl ∷ rest) along₆ in
            let val : d.value ≡ number_at bb = rw num at same₅.value in
            let aims : aimed s q g ≡ target_replaced (told_at under.at) o.bound tg =
            ap (λ (y : Aim). aimed s q y) aim ∙ ap (λ (y : ℕ). aimed s y (part_aim v d.value)) at ∙ part_aim_lem o n.place n.next v means d.value
            ∙ ap (λ (y : Name). part (changed_name (told_at under.at) y (actual_of o.bound y.bytes)) d.value) (same_name same₂) ∙ ap (λ (y : ℕ). part (changed_name (told_at under.at) (name_at w₁) (actual_of o.bound w₁.bytes)) y) val
            ∙ ap (target_replaced (told_at under.at) o.bound) (sym (d₁ ∙ ap (whole_or_part (name_at w₁)) ixn)) in
            record { word = rw fin.word (b₄.stands rest along₇); walks = change-walk count o k l b m w ch tg (told-place under.at place same) counts i (omega (arith, lev)) fin aims ∙ is_one_lem count o (around k) l b (walked m t) dd }

-- ---- what is changed

module _ {s z : List ℕ} {count row i p q : ℕ} {g : Aim} {w : Here} {m m₂ : Marks} {t u : List ℕ} {r : Read} {o : Option Variable} {low width : ℕ} (seen : o ≡ look_in s z count (words.part s g.a g.b)) (e₁ : low ≡ number_of o) (e₂ : width ≡ width_of o) where
  pub changes_bit : {j : ℕ} → g.bit ≡ Some j → m₂ ≡ target_marks m o q (has_bit o j) q → Finished i row p low width j 0 w m₂ t u r → Changes s z count row i p q g w m t u r
  unfolding change_at
  changes_bit {j} one e fin = record { word = fin.word; kept = fin.kept; walks = λ m₀ c f n k. fin.walks ∙ go m₀ c f n k }
    where
      go : (m₀ : Marks) (c : Change) → m ≡ begun m₀ p → i ≡ m₀.nodes → row ≡ change_kind c → finished i row p low width j 0 (walked m₂ t) ≡ change_at (look_in s z count) (head_at p) c (aimed s q g) (walked m₀ t)
      go m₀ c f n k = rw (one, e, f, n, k, e₁, e₂, seen) refl

  pub changes_whole : g.bit ≡ None → m₂ ≡ target_marks m o q (changeable o) p → Finished i row p low width 0 0 w m₂ t u r → Changes s z count row i p q g w m t u r
  unfolding change_at
  changes_whole one e fin = record { word = fin.word; kept = fin.kept; walks = λ m₀ c f n k. fin.walks ∙ go m₀ c f n k }
    where
      go : (m₀ : Marks) (c : Change) → m ≡ begun m₀ p → i ≡ m₀.nodes → row ≡ change_kind c → finished i row p low width 0 0 (walked m₂ t) ≡ change_at (look_in s z count) (head_at p) c (aimed s q g) (walked m₀ t)
      go m₀ c f n k = rw (one, e, f, n, k, e₁, e₂, seen) refl
