-- The laws of the readers of lists, cases and branches that count: one for each way on.
-- Assumes nothing.
use mathlib.Core.Bool.{false}
use mathlib.Core.Path.{◌≡◌, refl, sym, ◌∙◌, ap, subst}
use mathlib.Core.List.{List}
use Prim.Native.Nat.{ℕ, ◌+◌, ◌≤◌, min, max}
use native.Mathlib.Omega.{arith}
use Rattle.meaning.specs.Unexpanded.{Command, Commands, end, ◌⨾◌, Tests, Strands}
use Rattle.meaning.specs.Clock.{activities_all}
use Rattle.meaning.specs.Base.{base_all}
use Rattle.meaning.specs.Expansion.{expand}
use Rattle.language.specs.Words.{Word}
use Rattle.language.specs.Grammar.{AfterStatement, Cases, Branches}
use Rattle.descent_law.specs.Told.{Told}
use Rattle.descent_law.specs.Rows.{AfterRow, NextRow, CasesRow, BranchesRow}
use Rattle.descent_law.proofs.Statements.{statements-told, after-told, next-told, cases_told, branches_told}
use Rattle.hand.specs.declared.Here.{Here}
use Rattle.hand.specs.Along.{Stands, Near, Begins}
use Rattle.tiers.specs.Choose.{statement_row}
use Rattle.tiers.proofs.Laws.{first_is}
use Rattle.tiers.proofs.Rows.{after_only, cases_only, branches_only, one_there, none_there, next_one, next-none}
use Rattle.own_law.proofs.Early.{all_stay}
use Rattle.frames.specs.declared.Under.{Under}
use Rattle.tally.specs.declared.Tally.{Tally}
use Rattle.tally.specs.Tally.{acts_tally, summed_tally}
use Rattle.tally.specs.Holds.{State, with_acts, over_all, over_tests, over_branch, over_each, Holds}
use Rattle.tally.proofs.Steps.{over_on, alike, branch_starts, branch_ends}
use Rattle.tally.proofs.Ends.{acts-some, end-state}
use Rattle.measure.specs.declared.Counted.{Counted}
use Rattle.measure.specs.Counted.{Known, term_of, one_of, all_of, tests_of, each_of, Measures, Leads, On, Tells, TestCame, One, All, CaseCame, CasesCame, BranchCame, BranchesCame}
use Rattle.measure.proofs.States.{term, default-state, case-state, none-state, branch_state, more-state}
use Rattle.measure.proofs.Laws.{counted, and_on, on_word, on_here}

-- ---- a list

abbrev Only : (State → State) → Unit {0} → State → State
Only f a x = f x

-- nothing is read yet
here-leads : {A : Type 0} {low n : ℕ} {m : Tally} {f : A → State → State} → Leads low n m m f f
here-leads = record { leads = λ k is x low h. record { state = x; enough = low; holds = h; same = λ a. refl } }

-- one step more
then_leads : {A : Type 0} {low n : ℕ} {m r q : Tally} {whole left next : A → State → State} (step : State → State) → Leads low n m r left whole → Measures low n r q step → ((x : State) → low ≤ x.acts → low ≤ (step x).acts)
    → ((a : A) (x : State) → next a (step x) ≡ left a x) → Leads low n m q next whole
then_leads step l does enough same =
    record {
      leads = λ k is x low h.
          let y = l.leads k is x low h in
          record { state = step y.state; enough = enough y.state y.enough; holds = does.holds k is y.state y.enough y.holds; same = λ a. same a y.state ∙ y.same a };
    }

-- the words that are left, and the statements that are still to come
pub record Reached {s z : List ℕ} {u : Under} (S : Known s z u) (k n : ℕ) (m : Tally) (r : Counted) (ss : Commands) (rest : List Word) : Type 0 where
  pub mid : List Word
  pub left : Commands
  pub fuel : ℕ
  pub word : Stands s r.word mid
  pub told : Told fuel AfterStatement k mid left rest
  pub on : Leads 1 n m r.tally (Only (over_all (all_of S left))) (Only (over_all (all_of S ss)))

pub record Going (s z : List ℕ) (u : Under) (k n : ℕ) (r₀ : Counted) (t₀ : List ℕ) (r : Counted) (t : List ℕ) : Type 0 where
  pub on : On s r₀.word t₀ t r.word
  pub going : (S : Known s z u) (mid : List Word) → Stands s r₀.word mid → (f : ℕ) (ss : Commands) (rest : List Word) → Told f AfterStatement k mid ss rest → Reached S k n r₀.tally r ss rest

module _ {s z : List ℕ} {u : Under} {k n : ℕ} where
  pub list-start : {h : Here} {m : Tally} {t t₀ : List ℕ} {r₀ : Counted} → One s z u k n h m t t₀ r₀ → Going s z u k n r₀ t₀ r₀ t₀
  list-start came = record { on = on_here came.on.near; going = λ S mid st f ss rest x. record { mid = mid; left = ss; fuel = f; word = st; told = x; on = here-leads } }

  module _ {h : Here} {m : Tally} {t t₀ t₁ : List ℕ} {r₀ r : Counted} (came : One s z u k n h m t t₀ r₀) (going : Going s z u k n r₀ t₀ r t₁) where
    -- what is left is nothing: the list has ended
    list_all : {q : Counted} → On s r.word t₁ t₁ q.word → q.tally ≡ r.tally
        → ((mid : List Word) → Stands s r.word mid → (f : ℕ) (ss : Commands) (rest : List Word) → Told f AfterStatement k mid ss rest → (ss ≡ end) × Stands s q.word rest) → All s z u k n h m t t₁ q
    unfolding expand
    list_all {q} on e ends =
        record {
          on = and_on (and_on came.on going.on) on;
          told = λ S ws st f v rest x.
              let (f₁, i, p, row) = statements-told f k ws v rest x in
              let (mid, y, ss, a, c, d) = row in
              let i₁ = came.told S ws st f₁ y mid a in
              let g = going.going S mid i₁.word f₁ ss rest c in
              let (none_left, stands) = ends g.mid g.word g.fuel g.left rest g.told in
              record { word = stands; so = done S v y ss g.left d none_left i₁.so g.on };
        }
      where
        done : (S : Known s z u) (v : Commands) (y : Command) (ss left : Commands) → v ≡ y ⨾ ss → left ≡ end → Measures 1 n m r₀.tally (over_all (one_of S y)) → Leads 1 n r₀.tally r.tally (Only (over_all (all_of S left))) (Only (over_all (all_of S ss)))
            → Measures 1 n m q.tally (over_all (all_of S v))
        done S v y ss left d none_left a b =
            record {
              holds = λ k is x some h.
                  let l = b.leads k is (over_all (one_of S y) x) (omega arith) (a.holds k is x some h) in
                  let ended : l.state ≡ over_all (all_of S left) l.state = end-state l.state l.enough ∙ ap (λ (c : Commands). over_all (all_of S c) l.state) (sym none_left) in
                  rw (e, d) (alike (ended ∙ l.same tt ∙ more-state S y ss x) l.holds);
            }

    -- no `;` follows
    pub list-ends : ¬ (r.word.kind ≡ 12) → All s z u k n h m t t₁ r
    list-ends other = list_all (on_here going.on.near) refl (λ mid st f ss rest x. let (e, i, p, row) = after-told f k mid ss rest x in go mid st ss rest e (subst (AfterRow e k mid ss rest) (none_there AfterStatement 12 after_only s r.word mid i st p other) row))
      where
        go : (mid : List Word) → Stands s r.word mid → (ss : Commands) (rest : List Word) (e : ℕ) → AfterRow e k mid ss rest 0 → (ss ≡ end) × Stands s r.word rest
        go mid st ss rest e (a, c) = (a, rw c at st)

    -- a `;` follows, and no statement
    pub list_spare : {q : Counted} {v : Here} → r.word.kind ≡ 12 → Begins s r.word.next v → statement_row v.kind ≡ 13 → q ≡ counted v r.tally → All s z u k n h m t t₁ q
    list_spare {q} {v} semi begins no_row made =
        list_all (rw made (on_word (on_here going.on.near) begins)) (ap (λ (c : Counted). c.tally) made) (λ mid st f ss rest x. let (f₁, i, p, row) = after-told f k mid ss rest x in go mid st ss rest f₁ (subst (AfterRow f₁ k mid ss rest) (one_there AfterStatement 12 after_only s r.word mid i st p semi) row))
      where
        next : (tail : List Word) → Stands s v tail → (ss : Commands) (rest : List Word) (e : ℕ) → NextRow e k tail ss rest 0 → (ss ≡ end) × Stands s q.word rest
        next tail st ss rest e (a, c) = (a, rw (made, ← c) st)

        go : (mid : List Word) → Stands s r.word mid → (ss : Commands) (rest : List Word) (e : ℕ) → AfterRow e k mid ss rest 1 → (ss ≡ end) × Stands s q.word rest
        go mid st ss rest e (x, tail, a, c) =
            let (same, along) = first_is st a in
            let (f₂, i₂, p₂, row₂) = next-told e k tail ss rest c in
            let st₂ = begins.stands tail along in
            next tail st₂ ss rest f₂ (subst (NextRow f₂ k tail ss rest) (next-none s v tail i₂ st₂ p₂ no_row) row₂)

  -- a `;` follows, and a statement
  pub list_on : {t₀ t₁ t₂ : List ℕ} {r₀ r q : Counted} {v : Here} → r.word.kind ≡ 12 → Begins s r.word.next v → ¬ (statement_row v.kind ≡ 13) → One s z u k n v r.tally t₁ t₂ q → Going s z u k n r₀ t₀ r t₁ → Going s z u k n r₀ t₀ q t₂
  list_on {t₀} {t₁} {t₂} {r₀} {r} {q} {v} semi begins there came going = record { on = and_on (on_word going.on begins) came.on; going = goes }
    where
      next : (S : Known s z u) (tail : List Word) → Stands s v tail → (ss left : Commands) (rest : List Word) (e : ℕ) → Leads 1 n r₀.tally r.tally (Only (over_all (all_of S left))) (Only (over_all (all_of S ss))) → NextRow e k tail left rest 1 → Reached S k n r₀.tally q ss rest
      next S tail st ss left rest e led row =
          let (f₁, i₁, p₁, (mid, y, more, a, c, d)) = statements-told e k tail left rest row in
          let g = came.told S tail st f₁ y mid a in
          record {
            mid = mid;
            left = more;
            fuel = f₁;
            word = g.word;
            told = c;
            on = then_leads (over_all (one_of S y)) led g.so (λ x h. omega arith) (λ a x. more-state S y more x ∙ ap (λ (c : Commands). over_all (all_of S c) x) (sym d));
          }

      after : (S : Known s z u) (mid : List Word) → Stands s r.word mid → (ss left : Commands) (rest : List Word) (e : ℕ) → Leads 1 n r₀.tally r.tally (Only (over_all (all_of S left))) (Only (over_all (all_of S ss))) → AfterRow e k mid left rest 1 → Reached S k n r₀.tally q ss rest
      after S mid st ss left rest e led (x, tail, a, c) =
          let (w, along) = first_is st a in
          let (f₂, i₂, p₂, row₂) = next-told e k tail left rest c in
          let st₂ = begins.stands tail along in
          next S tail st₂ ss left rest f₂ led (subst (NextRow f₂ k tail left rest) (next_one s v tail i₂ st₂ p₂ there) row₂)

      goes : (S : Known s z u) (mid : List Word) → Stands s r₀.word mid → (f : ℕ) (ss : Commands) (rest : List Word) → Told f AfterStatement k mid ss rest → Reached S k n r₀.tally q ss rest
      goes S mid st f ss rest x =
          let g = going.going S mid st f ss rest x in
          let (e, i, p, row) = after-told g.fuel k g.mid g.left rest g.told in
          after S g.mid g.word ss g.left rest e g.on (subst (AfterRow e k g.mid g.left rest) (one_there AfterStatement 12 after_only s r.word g.mid i g.word p semi) row)

-- ---- cases

-- the cases that are still to come, whatever default follows
pub record CasesReached {s z : List ℕ} {u : Under} (S : Known s z u) (k n : ℕ) (m : Tally) (r : Counted) (g : Commands → Tests) (rest : List Word) : Type 0 where
  pub mid : List Word
  pub left : Commands → Tests
  pub fuel : ℕ
  pub word : Stands s r.word mid
  pub told : Told fuel Cases k mid left rest
  pub on : Leads 1 n m r.tally (λ d. over_tests (tests_of S (left d))) (λ d. over_tests (tests_of S (g d)))

pub record CasesGoing (s z : List ℕ) (u : Under) (k n : ℕ) (r₀ : Counted) (t₀ : List ℕ) (r : Counted) (t : List ℕ) : Type 0 where
  pub on : On s r₀.word t₀ t r.word
  pub going : (S : Known s z u) (mid : List Word) → Stands s r₀.word mid → (f : ℕ) (g : Commands → Tests) (rest : List Word) → Told f Cases k mid g rest → CasesReached S k n r₀.tally r g rest

module _ {s z : List ℕ} {u : Under} {k n : ℕ} where
  pub case-came : {h a : Here} {m : Tally} {t t₁ : List ℕ} {g r : Counted} → Near s h → Begins s h.next a → TestCame s z u k n a m g → All s z u k n g.word g.tally t t₁ r → CaseCame s z u k n h m t t₁ r
  case-came {h} {a} {m} {t} {t₁} {g} {r} near second test came =
      record {
        on = record { near = came.on.near; later = omega (arith, near.on, second.later, test.later, came.on.later); tree = came.on.tree; kept = came.on.kept };
        past = omega (arith, second.later, test.later, came.on.later);
        told = λ S ws st f w c tail mid rest e b q te tb.
            let (same, along) = first_is st q in
            let i₁ = test.told S tail (second.stands tail along) f e c mid te in
            let i₂ = came.told S mid i₁.word f b rest tb in
            record { word = i₂.word; so = record { holds = λ k is x some h. i₂.so.holds k is (term (term_of S e) x) some (i₁.so.holds k is x (omega arith) h) } };
      }

  pub cases_start : {h : Here} {m : Tally} {t : List ℕ} {r : Counted} → Near s h → r ≡ counted h m → CasesGoing s z u k n r t r t
  cases_start near made = record { on = on_here (rw made near); going = λ S mid st f g rest x. record { mid = mid; left = g; fuel = f; word = st; told = x; on = here-leads } }

  pub cases_end : {h : Here} {m : Tally} {t t₁ : List ℕ} {r₀ r : Counted} → r₀ ≡ counted h m → ¬ (r.word.kind ≡ 50) → CasesGoing s z u k n r₀ t r t₁ → CasesCame s z u k n h m t t₁ r
  unfolding expand
  cases_end {h} {m} {t} {t₁} {r₀} {r} made other going =
      record { on = subst (λ (c : Counted). On s c.word t t₁ r.word) made going.on; told = go }
    where
      ends : (S : Known s z u) (g left : Commands → Tests) (mid rest : List Word) (e : ℕ) → Stands s r.word mid → Leads 1 n r₀.tally r.tally (λ d. over_tests (tests_of S (left d))) (λ d. over_tests (tests_of S (g d))) → CasesRow e k mid left rest 0
          → Tells s r.word rest (Leads 1 n m r.tally (λ d. over_all (all_of S d)) (λ d. over_tests (tests_of S (g d))))
      ends S g left mid rest e st led (a, c) =
          record {
            word = rw c at st;
            so = record {
              leads = λ k is x some h.
                  let y = led.leads k is x some (subst (λ (q : Counted). Holds k q.tally x) (sym made) h) in
                  record { state = y.state; enough = y.enough; holds = y.holds; same = λ d. default-state (all_of S d) y.state ∙ ap (λ (f : Commands → Tests). over_tests (tests_of S (f d)) y.state) (sym a) ∙ y.same d };
            };
          }

      go : (S : Known s z u) (ws : List Word) → Stands s h ws → (f : ℕ) (g : Commands → Tests) (rest : List Word) → Told f Cases k ws g rest → Tells s r.word rest (Leads 1 n m r.tally (λ d. over_all (all_of S d)) (λ d. over_tests (tests_of S (g d))))
      go S ws st f g rest x =
          let l = going.going S ws (subst (λ (c : Counted). Stands s c.word ws) (sym made) st) f g rest x in
          let (e, i, p, row) = cases_told l.fuel k l.mid l.left rest l.told in
          ends S g l.left l.mid rest e l.word l.on (subst (CasesRow e k l.mid l.left rest) (none_there Cases 50 cases_only s r.word l.mid i l.word p other) row)

  pub cases_on : {t t₁ t₂ : List ℕ} {r₀ r q : Counted} → r.word.kind ≡ 50 → CaseCame s z u k n r.word r.tally t₁ t₂ q → CasesGoing s z u k n r₀ t r t₁ → CasesGoing s z u k n r₀ t q t₂
  unfolding expand
  cases_on {t} {t₁} {t₂} {r₀} {r} {q} is-case came going = record { on = and_on going.on came.on; going = goes }
    where
      step : (S : Known s z u) (g left : Commands → Tests) (mid rest : List Word) (e : ℕ) → Stands s r.word mid → Leads 1 n r₀.tally r.tally (λ d. over_tests (tests_of S (left d))) (λ d. over_tests (tests_of S (g d))) → CasesRow e k mid left rest 1 → CasesReached S k n r₀.tally q g rest
      step S g left mid rest e st led (w, c, tail, mid₁, low, ex, bb, h, y, te, tb, tc, d) =
          let i = came.told S mid st e w c tail mid₁ low ex bb y te tb in
          record {
            mid = low;
            left = h;
            fuel = e;
            word = i.word;
            told = tc;
            on = then_leads (λ x. over_all (all_of S bb) (term (term_of S ex) x)) led i.so (λ x l. omega arith)
                (λ a x. case-state _ (term_of S ex) (all_of S bb) (tests_of S (h a)) x ∙ ap (λ (f : Commands → Tests). over_tests (tests_of S (f a)) x) (sym d));
          }

      goes : (S : Known s z u) (mid : List Word) → Stands s r₀.word mid → (f : ℕ) (g : Commands → Tests) (rest : List Word) → Told f Cases k mid g rest → CasesReached S k n r₀.tally q g rest
      goes S mid st f g rest x =
          let l = going.going S mid st f g rest x in
          let (e, i, p, row) = cases_told l.fuel k l.mid l.left rest l.told in
          step S g l.left l.mid rest e l.word l.on (subst (CasesRow e k l.mid l.left rest) (one_there Cases 50 cases_only s r.word l.mid i l.word p is-case) row)

-- ---- branches

pub record BranchesReached {s z : List ℕ} {u : Under} (S : Known s z u) (k n : ℕ) (m : Tally) (r : Counted) (bs : Strands) (rest : List Word) : Type 0 where
  pub mid : List Word
  pub left : Strands
  pub fuel : ℕ
  pub word : Stands s r.word mid
  pub told : Told fuel Branches k mid left rest
  pub on : Leads 0 n m r.tally (Only (over_each (each_of S left))) (Only (over_each (each_of S bs)))

pub record BranchesGoing (s z : List ℕ) (u : Under) (k n : ℕ) (r₀ : Counted) (t₀ : List ℕ) (r : Counted) (t : List ℕ) : Type 0 where
  pub on : On s r₀.word t₀ t r.word
  pub going : (S : Known s z u) (mid : List Word) → Stands s r₀.word mid → (f : ℕ) (bs : Strands) (rest : List Word) → Told f Branches k mid bs rest → BranchesReached S k n r₀.tally r bs rest

module _ {s z : List ℕ} {u : Under} {k n : ℕ} where
  pub branch_came : {h : Here} {m m₁ q : Tally} {t t₁ : List ℕ} {g r : Counted} → m₁ ≡ acts_tally m 1 → All s z u k n h m₁ t t₁ g → q ≡ summed_tally g.tally m.acts → r ≡ counted g.word q → BranchCame s z u k n h m t t₁ r
  branch_came {h} {m} {m₁} {q} {t} {t₁} {g} {r} one_act came sum made =
      record {
        on = rw made came.on;
        told = λ S ws st f v rest x.
            let i = came.told S ws st f v rest x in
            rw (made, sum) (record { word = i.word; so = record { holds = λ k is y low h. counts S v k is y h i.so } });
      }
    where
      from_one : (a x : ℕ) → 1 ≤ x → a + max 1 x ≡ a + x
      from_one a x h = omega arith

      counts : (S : Known s z u) (v : Commands) (k : ℕ) → n ≡ min k 33 → (y : State) → Holds k m y → Measures 1 n m₁ g.tally (over_all (all_of S v)) → Holds k (summed_tally g.tally m.acts) (over_branch (all_of S v) y)
      counts S v k is y h does =
          alike (ap (with_acts (over_all (all_of S v) y)) (from_one y.acts (activities_all (base_all (all_of S v))) (acts-some (all_of S v))))
          (branch_ends h (does.holds k is (with_acts y 1) (omega arith) (rw one_act (branch_starts h))) (λ e. over_on (all_stay false (all_of S v)) y.counts e))

  pub branches_start : {h : Here} {m : Tally} {t : List ℕ} {r : Counted} → Near s h → r ≡ counted h m → BranchesGoing s z u k n r t r t
  branches_start near made = record { on = on_here (rw made near); going = λ S mid st f g rest x. record { mid = mid; left = g; fuel = f; word = st; told = x; on = here-leads } }

  pub branches_end : {h : Here} {m : Tally} {t t₁ : List ℕ} {r₀ r : Counted} → r₀ ≡ counted h m → ¬ (r.word.kind ≡ 2) → BranchesGoing s z u k n r₀ t r t₁ → BranchesCame s z u k n h m t t₁ r
  unfolding expand
  branches_end {h} {m} {t} {t₁} {r₀} {r} made other going =
      record { on = subst (λ (c : Counted). On s c.word t t₁ r.word) made going.on; told = go }
    where
      ends : (S : Known s z u) (bs left : Strands) (mid rest : List Word) (e : ℕ) → Stands s r.word mid → Leads 0 n r₀.tally r.tally (Only (over_each (each_of S left))) (Only (over_each (each_of S bs))) → BranchesRow e k mid left rest 0
          → Tells s r.word rest (Measures 0 n m r.tally (over_each (each_of S bs)))
      ends S bs left mid rest e st led (a, c) =
          record {
            word = rw c at st;
            so = record {
              holds = λ k is x low h.
                  let y = led.leads k is x low (subst (λ (q : Counted). Holds k q.tally x) (sym made) h) in
                  alike (none-state y.state ∙ ap (λ (f : Strands). over_each (each_of S f) y.state) (sym a) ∙ y.same tt) y.holds;
            };
          }

      go : (S : Known s z u) (ws : List Word) → Stands s h ws → (f : ℕ) (v : Strands) (rest : List Word) → Told f Branches k ws v rest → Tells s r.word rest (Measures 0 n m r.tally (over_each (each_of S v)))
      go S ws st f g rest x =
          let l = going.going S ws (subst (λ (c : Counted). Stands s c.word ws) (sym made) st) f g rest x in
          let (e, i, p, row) = branches_told l.fuel k l.mid l.left rest l.told in
          ends S g l.left l.mid rest e l.word l.on (subst (BranchesRow e k l.mid l.left rest) (none_there Branches 2 branches_only s r.word l.mid i l.word p other) row)

  pub branches_on : {t t₁ t₂ : List ℕ} {r₀ r q : Counted} {v : Here} → r.word.kind ≡ 2 → Begins s r.word.next v → BranchCame s z u k n v r.tally t₁ t₂ q → BranchesGoing s z u k n r₀ t r t₁ → BranchesGoing s z u k n r₀ t q t₂
  unfolding expand
  branches_on {t} {t₁} {t₂} {r₀} {r} {q} {v} is-bar begins came going = record { on = and_on (on_word going.on begins) came.on; going = goes }
    where
      step : (S : Known s z u) (bs left : Strands) (mid rest : List Word) (e : ℕ) → Stands s r.word mid → Leads 0 n r₀.tally r.tally (Only (over_each (each_of S left))) (Only (over_each (each_of S bs))) → BranchesRow e k mid left rest 1 → BranchesReached S k n r₀.tally q bs rest
      step S bs left mid rest e st led (w, tail, mid₁, b, more, y, tb, tc, d) =
          let (same, along) = first_is st y in
          let i = came.told S tail (begins.stands tail along) e b mid₁ tb in
          record {
            mid = mid₁;
            left = more;
            fuel = e;
            word = i.word;
            told = tc;
            on = then_leads (over_branch (all_of S b)) led i.so (λ x l. omega arith) (λ a x. branch_state (all_of S b) (each_of S more) x ∙ ap (λ (f : Strands). over_each (each_of S f) x) (sym d));
          }

      goes : (S : Known s z u) (mid : List Word) → Stands s r₀.word mid → (f : ℕ) (bs : Strands) (rest : List Word) → Told f Branches k mid bs rest → BranchesReached S k n r₀.tally q bs rest
      goes S mid st f g rest x =
          let l = going.going S mid st f g rest x in
          let (e, i, p, row) = branches_told l.fuel k l.mid l.left rest l.told in
          step S g l.left l.mid rest e l.word l.on (subst (BranchesRow e k l.mid l.left rest) (one_there Branches 2 branches_only s r.word l.mid i l.word p is-bar) row)
