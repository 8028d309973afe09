-- The laws of the reader of a statement: one for each way on.
-- Assumes nothing.
use mathlib.Core.Bool.{Bool, true, false}
use mathlib.Core.Path.{◌≡◌, refl, sym, ◌∙◌, ap, subst}
use mathlib.Core.List.{List, ◌∷◌}
use Prim.Native.Nat.{ℕ, suc, ◌-◌, ◌≤◌}
use native.Mathlib.Omega.{arith}
use Rattle.meaning.specs.Unexpanded.{Term, Command, choice, while, loop, switch, parallel, Commands, Tests, case, Strands, ◌∥◌}
use Rattle.meaning.specs.Levels.{levels_in}
use Rattle.language.specs.Words.{Word}
use Rattle.language.specs.Grammar.{Else}
use Rattle.descent_law.specs.Rows.{ElseRow, StatementRow}
use Rattle.descent_law.proofs.Statements.{else_told}
use Rattle.descent_law.proofs.Leveled.{told-levels}
use Rattle.hand.specs.declared.Here.{Here}
use Rattle.hand.specs.Along.{Stands, Near, Begins}
use Rattle.frames_law.specs.Frames.{told_at}
use Rattle.frames.specs.declared.Under.{Under}
use Rattle.tiers.specs.Choose.{statement_row, is_plain}
use Rattle.tiers.proofs.Laws.{first_is}
use Rattle.tiers.proofs.Rows.{row_told, row-none, else_only, one_there, none_there}
use Rattle.items.specs.declared.Marks.{Marks}
use Rattle.items.specs.declared.Read.{Read}
use Rattle.items.specs.declared.Tried.{Tried}
use Rattle.items.specs.Walk.{begun, with_acts, together, walked, walked_of, test_of, Test, finished, Walked}
use Rattle.items.specs.Under.{Scope, sense_of, test_in, one_in, all_in, tests_in, each_in}
use Rattle.items.specs.Came.{Finished, On, Tells, around, TestCame, RowCame, One, All, CaseCame, CasesCame, BranchCame, BranchesCame}
use Rattle.order_law.proofs.Senses.{quiet_text, quiet_term, loop_in, while_in, choice_in, switch_in, parallel_in, end_in}

-- ---- what is walked

-- one level less is left, and one more is open around
one_more : (k : ℕ) → 1 ≤ k → k ≤ 32 → around (k - 1) ≡ suc (around k)
one_more k low few = omega arith

module _ {s z : List ℕ} {under : Under} (count : ℕ) (o : Scope s z count under) (k : ℕ) (low : 1 ≤ k) (few : k ≤ 32) (l b : Bool) (m : Marks) (t : List ℕ) (w : Word) (p : ℕ) (m₁ : Marks) (e : m₁ ≡ begun m p) (q : p ≡ told_at under.at w.place) where
  begins : m₁ ≡ begun m (told_at under.at w.place)
  begins = e ∙ ap (begun m) q

  loop-walk : (x : Commands) (y : Walked) → y ≡ all_in (sense_of count o) (around (k - 1)) x true b (walked m₁ t) → finished m.nodes 8 p 0 0 0 0 y ≡ one_in (sense_of count o) (around k) (loop w.place x) l b (walked m t)
  loop-walk x y r =
      rw q (loop_in (sense_of count o) (around k) (around (k - 1)) (one_more k low few) l b (walked m t) w.place x y (quiet_text count o (suc (around k)) (omega (arith, low)))
      (r ∙ ap (λ (n : Marks). all_in (sense_of count o) (around (k - 1)) x true b (walked n t)) begins))

  test-begins : (x : Term) (g : Test) → g ≡ test_in (sense_of count o) x p (walked m₁ t) → g ≡ test_in (sense_of count o) x (told_at under.at w.place) (walked (begun m (told_at under.at w.place)) t)
  test-begins x g r = r ∙ ap (λ (n : Marks). test_in (sense_of count o) x p (walked n t)) begins ∙ ap (λ (j : ℕ). test_in (sense_of count o) x j (walked (begun m (told_at under.at w.place)) t)) q

  while-walk : (x : Term) (y : Commands) (g : Test) (v : Walked) → levels_in x ≤ k - 1 → g ≡ test_in (sense_of count o) x p (walked m₁ t) → v ≡ all_in (sense_of count o) (around (k - 1)) y true b g.state
      → finished m.nodes 7 p g.root 0 g.looks 0 v ≡ one_in (sense_of count o) (around k) (while w.place x y) l b (walked m t)
  while-walk x y g v shallow r a =
      rw q (while_in (sense_of count o) (around k) (around (k - 1)) (one_more k low few) l b (walked m t) w.place x y g v (quiet_term count o (suc (around k)) x (omega (arith, low, few, shallow))) (test-begins x g r) a)

  choice-walk : (x : Term) (y y₁ : Commands) (g : Test) (v v₁ : Walked) → levels_in x ≤ k - 1 → g ≡ test_in (sense_of count o) x p (walked m₁ t) → v ≡ all_in (sense_of count o) (around (k - 1)) y l b g.state → v₁ ≡ all_in (sense_of count o) (around (k - 1)) y₁ l b v
      → finished m.nodes 6 p g.root v.marks.nodes g.looks 0 v₁ ≡ one_in (sense_of count o) (around k) (choice w.place x y y₁) l b (walked m t)
  choice-walk x y y₁ g v v₁ shallow r a c =
      rw q (choice_in (sense_of count o) (around k) (around (k - 1)) (one_more k low few) l b (walked m t) w.place x y y₁ g v v₁ (quiet_term count o (suc (around k)) x (omega (arith, low, few, shallow))) (test-begins x g r) a c)

  switch-walk : (ts : Tests) (y : Walked) → y ≡ tests_in (sense_of count o) (around (k - 1)) ts l true (walked m₁ t) → finished m.nodes 11 p 0 0 0 0 y ≡ one_in (sense_of count o) (around k) (switch w.place ts) l b (walked m t)
  switch-walk ts y r =
      rw q (switch_in (sense_of count o) (around k) (around (k - 1)) (one_more k low few) l b (walked m t) w.place ts y (quiet_text count o (suc (around k)) (omega (arith, low)))
      (r ∙ ap (λ (n : Marks). tests_in (sense_of count o) (around (k - 1)) ts l true (walked n t)) begins))

  parallel-walk : (bs : Strands) (m₀ m₂ : Marks) (y : Walked) → m₀ ≡ with_acts m₁ 0 → y ≡ each_in (sense_of count o) (around (k - 1)) bs l (walked m₀ t) → m₂ ≡ together y.marks m.acts p
      → finished m.nodes 12 p 0 0 0 0 (walked m₂ y.bytes) ≡ one_in (sense_of count o) (around k) (parallel w.place bs) l b (walked m t)
  parallel-walk bs m₀ m₂ y r a c =
      rw (c, q) (parallel_in (sense_of count o) (around k) (around (k - 1)) (one_more k low few) l b (walked m t) w.place bs y (quiet_text count o (suc (around k)) (omega (arith, low)))
      (a ∙ ap (λ (n : Marks). each_in (sense_of count o) (around (k - 1)) bs l (walked n t)) (r ∙ ap (λ (n : Marks). with_acts n 0) begins)))

-- ---- a statement

-- what is said of row i of the first word
abbrev Rest : (s z : List ℕ) (count : ℕ) (under : Under) (k : ℕ) (l b : Bool) → Here → Marks → List ℕ → List ℕ → Read → ℕ → Type 0
Rest s z count under k l b h m t u r i = (o : Scope s z count under) (ws : List Word) → Stands s h ws → (e : ℕ) (v : Command) (rest : List Word) → StatementRow e k ws v rest i → Tells s rest (one_in (sense_of count o) (around k) v l b (walked m t)) u r

is_one_lem : {s z : List ℕ} {under : Under} (count : ℕ) (o : Scope s z count under) (n : ℕ) (l b : Bool) (w : Walked) {v x : Command} → v ≡ x → one_in (sense_of count o) n x l b w ≡ one_in (sense_of count o) n v l b w
is_one_lem count o n l b w e = ap (λ (y : Command). one_in (sense_of count o) n y l b w) (sym e)

-- one reader after the other
pub and_on : {s : List ℕ} {h a b : Here} {t u v : List ℕ} → On s h t u a → On s a u v b → On s h t v b
and_on x y = record { near = y.near; later = omega (arith, x.later, y.later); kept = y.kept ∙ x.kept }

pub on_word : {s : List ℕ} {h a b : Here} {t u : List ℕ} → On s h t u a → Begins s a.next b → On s h t u b
on_word x y = record { near = y.near; later = omega (arith, x.later, x.near.on, y.later); kept = x.kept }

pub on_here : {s : List ℕ} {h : Here} {t : List ℕ} → Near s h → On s h t t h
on_here near = record { near = near; later = omega arith; kept = refl }

pub on_fin : {s : List ℕ} {h : Here} {i κ p x y z d : ℕ} {w : Here} {m : Marks} {t t₁ u : List ℕ} {r : Read} → Finished i κ p x y z d w m t₁ u r → On s h t t₁ w → On s h t u r.word
on_fin {s} {h} fin on = record { near = rw fin.word on.near; later = rw fin.word on.later; kept = fin.kept ∙ on.kept }

module _ {s z : List ℕ} {count : ℕ} {under : Under} {k : ℕ} {l b : Bool} {h : Here} {m : Marks} {row : ℕ} (at : row ≡ statement_row h.kind) where
  one : {t u : List ℕ} {r : Read} → On s h t u r.word → Rest s z count under k l b h m t u r row → One s z count under k l b h m t u r
  one on go = record { on = on; told = λ o ws st f v rest x. let (e, y) = row_told s k h ws f v rest st x in go o ws st e v rest (subst (StatementRow e k ws v rest) (sym at) y) }

  pub one-row : {t u : List ℕ} {r : Read} {i : ℕ} → row ≡ i → RowCame s z count under k l b i h m t u r → One s z count under k l b h m t u r
  one-row q came = one came.on (λ o ws st e v rest y. came.told o ws st e v rest (subst (StatementRow e k ws v rest) q y))

  -- no level is left for a statement inside
  pub one_none : {t : List ℕ} {r : Read} → Near s h → is_plain row ≡ false → ¬ (row ≡ 5) → k ≡ 0 → r.word ≡ h → One s z count under k l b h m t t r
  one_none near p no_name no-level w = one (record { near = rw w near; later = rw w (omega arith); kept = refl }) (λ o ws st e v rest y. row-none e k ws v rest row no-level p no_name y)

  -- no statement begins with such a word
  pub one_other : {t : List ℕ} {r : Read} → row ≡ 13 → Near s h → r.word ≡ h → One s z count under k l b h m t t r
  one_other last near w = one (record { near = rw w near; later = rw w (omega arith); kept = refl }) (λ o ws st e v rest y. absurd (rw last at y))

-- ---- a statement with statements inside

module _ {s z : List ℕ} {count : ℕ} {under : Under} {k : ℕ} {l b : Bool} {h : Here} {m m₁ : Marks} {p : ℕ} {a : Here} (few : k ≤ 32) (near : Near s h) (place : p ≡ told_at under.at h.place) (counts : m₁ ≡ begun m p) (second : Begins s h.next a) where
  pub loop-came : {t u v : List ℕ} {r g : Read} {a₁ : Here} → All s z count under (k - 1) true b a m₁ t u g → Begins s g.word.next a₁ → Finished m.nodes 8 p 0 0 0 0 a₁ g.marks u v r → RowCame s z count under k l b 8 h m t v r
  loop-came {t} {u} {v} {r} {g} {a₁} came after fin = record { on = on_fin fin (on_word (and_on (on_word (on_here near) second) came.on) after); told = go }
    where
      go : Rest s z count under k l b h m t v r 8
      go o ws st f x rest (w, c, j, tail, body, y, lev, z, d) =
          let (same, along) = first_is st y in
          let at = place ∙ ap (told_at under.at) same.place in
          let less : j ≡ k - 1 = omega arith in
          let i = came.told o tail (second.stands tail along) f body (c ∷ rest) (rw less at z) in
          record { word = rw fin.word (after.stands rest i.word.1); walks = fin.walks ∙ loop-walk count o k (omega (arith, lev)) few l b m t w p m₁ counts at body (walked_of g u) i.walks ∙ is_one_lem count o (around k) l b (walked m t) d }

  pub switch-came : {t t₁ t₂ t₃ u : List ℕ} {r g c d : Read} {e₁ e₂ e₃ : Here} → CaseCame s z count under (k - 1) l true a m₁ t t₁ g → CasesCame s z count under (k - 1) l true g.word g.marks t₁ t₂ c → Begins s c.word.next e₁ → Begins s e₁.next e₂
      → All s z count under (k - 1) l true e₂ c.marks t₂ t₃ d → Begins s d.word.next e₃ → Finished m.nodes 11 p 0 0 0 0 e₃ d.marks t₃ u r → RowCame s z count under k l b 10 h m t u r
  switch-came {t} {t₁} {t₂} {t₃} {u} {r} {g} {c} {d} {e₁} {e₂} {e₃} case₁ more colon body last after fin =
      record { on = on_fin fin (on_word (and_on (on_word (on_word (and_on (and_on (on_word (on_here near) second) case₁.on) more.on) colon) body) last.on) after); told = go }
    where
      go : Rest s z count under k l b h m t u r 10
      go o ws st f x rest (w, cw, ow, dw, pw, xw, j, tail, m₁', m₂', m₃', ex, bb, gg, zz, y, lev, te, tb, tc, tz, is) =
          let (same, along) = first_is st y in
          let at = place ∙ ap (told_at under.at) same.place in
          let less : j ≡ k - 1 = omega arith in
          let (st₁, is₁) = case₁.told o (cw ∷ tail) (second.stands (cw ∷ tail) along) f cw ow tail m₁' m₂' ex bb refl (rw less at te) (rw less at tb) (gg zz) in
          let (st₂, is₂) = more.told o m₂' st₁ f gg (dw ∷ pw ∷ m₃') (rw less at tc) zz in
          let (same₃, along₃) = colon.stands (pw ∷ m₃') st₂.1 in
          let i = last.told o m₃' (body.stands m₃' along₃) f zz (xw ∷ rest) (rw less at tz) in
          record {
            word = rw fin.word (after.stands rest i.word.1);
            walks = fin.walks ∙ switch-walk count o k (omega (arith, lev)) few l b m t w p m₁ counts at (case cw.place ex bb (gg zz)) (walked_of d t₃) (i.walks ∙ is₂ ∙ is₁) ∙ is_one_lem count o (around k) l b (walked m t) is;
          }

  pub parallel-came : {t t₁ t₂ t₃ u : List ℕ} {r g g₁ c : Read} {e₁ e₂ : Here} {m₀ m₂ : Marks} → m₀ ≡ with_acts m₁ 0 → BranchCame s z count under (k - 1) l a m₀ t t₁ g → Begins s g.word.next e₁ → BranchCame s z count under (k - 1) l e₁ g.marks t₁ t₂ g₁
      → BranchesCame s z count under (k - 1) l g₁.word g₁.marks t₂ t₃ c → Begins s c.word.next e₂ → m₂ ≡ together c.marks m.acts p → Finished m.nodes 12 p 0 0 0 0 e₂ m₂ t₃ u r → RowCame s z count under k l b 12 h m t u r
  parallel-came {t} {t₁} {t₂} {t₃} {u} {r} {g} {g₁} {c} {e₁} {e₂} {m₀} {m₂} zero-acts first_branch bar second-branch more after joined fin =
      record { on = on_fin fin (on_word (and_on (and_on (on_word (and_on (on_word (on_here near) second) first_branch.on) bar) second-branch.on) more.on) after); told = go }
    where
      go : Rest s z count under k l b h m t u r 12
      go o ws st f x rest (w, ow, xw, j, tail, m₁', m₂', aa, bb, cs, y, lev, ta, tb, tc, d) =
          let (same, along) = first_is st y in
          let at = place ∙ ap (told_at under.at) same.place in
          let less : j ≡ k - 1 = omega arith in
          let (st₁, is₁) = first_branch.told o tail (second.stands tail along) f aa (ow ∷ m₁') (rw less at ta) (bb ∥ cs) in
          let (st₂, is₂) = second-branch.told o m₁' (bar.stands m₁' st₁.1) f bb m₂' (rw less at tb) cs in
          let i = more.told o m₂' st₂ f cs (xw ∷ rest) (rw less at tc) in
          record {
            word = rw fin.word (after.stands rest i.word.1);
            walks = fin.walks ∙ parallel-walk count o k (omega (arith, lev)) few l b m t w p m₁ counts at (aa ∥ bb ∥ cs) m₀ m₂ (walked_of c t₃) zero-acts (i.walks ∙ is₂ ∙ is₁) joined ∙ is_one_lem count o (around k) l b (walked m t) d;
          }

  module _ {t t₁ : List ℕ} {g : Tried} (test : TestCame s z count under (k - 1) a m₁ p t t₁ g) where
    pub while-came : {t₂ u : List ℕ} {r x : Read} {e₁ e₂ : Here} → Begins s g.word.next e₁ → All s z count under (k - 1) true b e₁ g.marks t₁ t₂ x → Begins s x.word.next e₂
        → Finished m.nodes 7 p g.root 0 g.looks 0 e₂ x.marks t₂ u r → RowCame s z count under k l b 7 h m t u r
    while-came {t₂} {u} {r} {x} {e₁} {e₂} word came after fin = record { on = on_fin fin (on_word (and_on (on_word (and_on (on_word (on_here near) second) test.on) word) came.on) after); told = go }
      where
        go : Rest s z count under k l b h m t u r 7
        go o ws st f v rest (w, dw, lw, xw, j, tail, mid, ex, bb, y, lev, te, tb, d) =
            let (same, along) = first_is st y in
            let at = place ∙ ap (told_at under.at) same.place in
            let less : j ≡ k - 1 = omega arith in
            let i₁ = test.told o tail (second.stands tail along) f ex dw (lw ∷ mid) (rw less at te) in
            let shallow = told-levels f (k - 1) tail ex (dw ∷ (lw ∷ mid)) (rw less at te) in
            let i₂ = came.told o mid (word.stands mid i₁.word.1) f bb (xw ∷ rest) (rw less at tb) in
            record { word = rw fin.word (after.stands rest i₂.word.1); walks = fin.walks ∙ while-walk count o k (omega (arith, lev)) few l b m t w p m₁ counts at ex bb (test_of g t₁) (walked_of x t₂) shallow i₁.sums i₂.walks ∙ is_one_lem count o (around k) l b (walked m t) d }

    module _ {t₂ : List ℕ} {x : Read} {e₁ : Here} (then : All s z count under (k - 1) l b g.word g.marks t₁ t₂ x) (after : Begins s x.word.next e₁) where
      pub if_came : {u : List ℕ} {r : Read} → ¬ (x.word.kind ≡ 42) → Finished m.nodes 6 p g.root x.marks.nodes g.looks 0 e₁ x.marks t₂ u r → RowCame s z count under k l b 6 h m t u r
      if_came {u} {r} no-else fin = record { on = on_fin fin (on_word (and_on (and_on (on_word (on_here near) second) test.on) then.on) after); told = go }
        where
          go : Rest s z count under k l b h m t u r 6
          go o ws st f v rest (w, c, z, j, tail, mid, low, ex, aa, bb, y, lev, te, ta, tb, d) =
              let (same, along) = first_is st y in
              let at = place ∙ ap (told_at under.at) same.place in
              let less : j ≡ k - 1 = omega arith in
              let i₁ = test.told o tail (second.stands tail along) f ex c mid (rw less at te) in
              let shallow = told-levels f (k - 1) tail ex (c ∷ mid) (rw less at te) in
              let i₂ = then.told o mid i₁.word f aa low (rw less at ta) in
              let (f₂, i, cl, row₂) = else_told f (k - 1) low bb (z ∷ rest) (rw less at tb) in
              let not_there : i ≡ 0 = none_there Else 42 else_only s x.word low i i₂.word cl no-else in
              let (no-list, ends) = subst (ElseRow f₂ (k - 1) low bb (z ∷ rest)) not_there row₂ in
              let (same₃, along₃) = first_is i₂.word ends in
              record {
                word = rw fin.word (after.stands rest along₃);
                walks = fin.walks ∙ choice-walk count o k (omega (arith, lev)) few l b m t w p m₁ counts at ex aa bb (test_of g t₁) (walked_of x t₂) (walked_of x t₂) shallow i₁.sums i₂.walks (end_in (sense_of count o) (around (k - 1)) l b (walked_of x t₂) ∙ ap (λ (n : Commands). all_in (sense_of count o) (around (k - 1)) n l b (walked_of x t₂)) (sym no-list))
                    ∙ is_one_lem count o (around k) l b (walked m t) d;
              }

      pub else_came : {t₃ u : List ℕ} {r x₁ : Read} {e₂ : Here} → x.word.kind ≡ 42 → All s z count under (k - 1) l b e₁ x.marks t₂ t₃ x₁ → Begins s x₁.word.next e₂ → Finished m.nodes 6 p g.root x.marks.nodes g.looks 0 e₂ x₁.marks t₃ u r → RowCame s z count under k l b 6 h m t u r
      else_came {t₃} {u} {r} {x₁} {e₂} yes-else other last fin = record { on = on_fin fin (on_word (and_on (on_word (and_on (and_on (on_word (on_here near) second) test.on) then.on) after) other.on) last); told = go }
        where
          go : Rest s z count under k l b h m t u r 6
          go o ws st f v rest (w, c, z, j, tail, mid, low, ex, aa, bb, y, lev, te, ta, tb, d) =
              let (same, along) = first_is st y in
              let at = place ∙ ap (told_at under.at) same.place in
              let less : j ≡ k - 1 = omega arith in
              let i₁ = test.told o tail (second.stands tail along) f ex c mid (rw less at te) in
              let shallow = told-levels f (k - 1) tail ex (c ∷ mid) (rw less at te) in
              let i₂ = then.told o mid i₁.word f aa low (rw less at ta) in
              let (f₂, i, cl, row₂) = else_told f (k - 1) low bb (z ∷ rest) (rw less at tb) in
              let is-there : i ≡ 1 = one_there Else 42 else_only s x.word low i i₂.word cl yes-else in
              let (w₂, tail₂, q₂, told₂) = subst (ElseRow f₂ (k - 1) low bb (z ∷ rest)) is-there row₂ in
              let (same₃, along₃) = first_is i₂.word q₂ in
              let i₃ = other.told o tail₂ (after.stands tail₂ along₃) f₂ bb (z ∷ rest) told₂ in
              record {
                word = rw fin.word (last.stands rest i₃.word.1);
                walks = fin.walks ∙ choice-walk count o k (omega (arith, lev)) few l b m t w p m₁ counts at ex aa bb (test_of g t₁) (walked_of x t₂) (walked_of x₁ t₃) shallow i₁.sums i₂.walks i₃.walks ∙ is_one_lem count o (around k) l b (walked m t) d;
              }
