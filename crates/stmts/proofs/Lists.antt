-- The laws of the readers of lists, cases and branches: one for each way on.
-- Assumes nothing.
use mathlib.Core.Bool.{Bool, true}
use mathlib.Core.Path.{◌≡◌, refl, sym, ◌∙◌, ap, subst}
use mathlib.Core.List.{List, ◌∷◌}
use Prim.Native.Nat.{ℕ, ◌≤◌}
use native.Mathlib.Omega.{arith}
use Rattle.meaning.specs.Unexpanded.{Term, Commands, end, Tests, default, case, Strands, ◌∥◌}
use Rattle.meaning.specs.Levels.{levels_in}
use Rattle.language.specs.Words.{Word}
use Rattle.language.specs.Grammar.{AfterStatement, Cases, Branches}
use Rattle.descent_law.specs.Told.{Told}
use Rattle.descent_law.specs.Rows.{AfterRow, NextRow, CasesRow, BranchesRow}
use Rattle.descent_law.proofs.Statements.{statements-told, after-told, next-told, cases_told, branches_told}
use Rattle.descent_law.proofs.Leveled.{told-levels}
use Rattle.hand.specs.declared.Here.{Here}
use Rattle.hand.specs.Along.{Stands, Near, Begins}
use Rattle.frames_law.specs.Frames.{told_at}
use Rattle.frames.specs.declared.Under.{Under}
use Rattle.tiers.specs.Choose.{statement_row}
use Rattle.tiers.proofs.Laws.{first_is}
use Rattle.tiers.proofs.Rows.{after_only, cases_only, branches_only, one_there, none_there, next_one, next-none}
use Rattle.items.specs.declared.Marks.{Marks}
use Rattle.items.specs.declared.Read.{Read}
use Rattle.items.specs.declared.Tried.{Tried}
use Rattle.items.specs.Walk.{cased, with_acts, walked, walked_of, test_of, Test, finished, branched, Walked}
use Rattle.items.specs.Under.{Scope, sense_of, test_in, all_in, tests_in, each_in}
use Rattle.items.specs.Came.{Finished, Branched, On, around, TestCame, One, All, CaseCame, CasesCame, BranchCame, BranchesCame}
use Rattle.order_law.proofs.Senses.{quiet_term, end_in, more_in, default_in, case_in, none_in, strand_in}
use Rattle.stmts.proofs.Laws.{and_on, on_word, on_here, on_fin}

-- ---- what is walked

module _ {s z : List ℕ} {under : Under} (count : ℕ) (o : Scope s z count under) where
  case-walk : (k : ℕ) → k ≤ 32 → (l b : Bool) (m m₁ : Marks) (t : List ℕ) (w : Word) (p : ℕ) (e : Term) (x : Commands) (ts : Tests) (g : Test) (y v : Walked) → levels_in e ≤ k → m₁ ≡ cased m → p ≡ told_at under.at w.place
      → g ≡ test_in (sense_of count o) e p (walked m₁ t) → y ≡ all_in (sense_of count o) (around k) x l b g.state → v ≡ finished m.nodes 13 p g.root y.marks.nodes g.looks 0 y
      → tests_in (sense_of count o) (around k) ts l b v ≡ tests_in (sense_of count o) (around k) (case w.place e x ts) l b (walked m t)
  case-walk k few l b m m₁ t w p e x ts g y v shallow a c d f h =
      ap (tests_in (sense_of count o) (around k) ts l b) (h ∙ ap (λ (j : ℕ). finished m.nodes 13 j g.root y.marks.nodes g.looks 0 y) c)
      ∙ case_in (sense_of count o) (around k) l b (walked m t) w.place e x ts g y (quiet_term count o (around k) e (omega (arith, few, shallow)))
      (d ∙ ap (λ (n : Marks). test_in (sense_of count o) e p (walked n t)) a ∙ ap (λ (j : ℕ). test_in (sense_of count o) e j (walked (cased m) t)) c) f

  branch_walk : (n : ℕ) (l : Bool) (m m₁ : Marks) (t : List ℕ) (x : Commands) (bs : Strands) (y v : Walked) → m₁ ≡ with_acts m 1 → y ≡ all_in (sense_of count o) n x l true (walked m₁ t) → v ≡ branched m y
      → each_in (sense_of count o) n bs l v ≡ each_in (sense_of count o) n (x ∥ bs) l (walked m t)
  branch_walk n l m m₁ t x bs y v a c d =
      ap (each_in (sense_of count o) n bs l) d ∙ strand_in (sense_of count o) n l (walked m t) x bs y (c ∙ ap (λ (i : Marks). all_in (sense_of count o) n x l true (walked i t)) a)

-- ---- a list

-- the words that are left, and the statements that are still to come
pub record Reached (s z : List ℕ) (count : ℕ) (under : Under) (o : Scope s z count under) (k : ℕ) (l b : Bool) (w : Walked) (r : Read) (u : List ℕ) (ss : Commands) (rest : List Word) : Type 0 where
  pub mid : List Word
  pub left : Commands
  pub fuel : ℕ
  pub word : Stands s r.word mid
  pub told : Told fuel AfterStatement k mid left rest
  pub same : all_in (sense_of count o) (around k) ss l b w ≡ all_in (sense_of count o) (around k) left l b (walked_of r u)

pub record Going (s z : List ℕ) (count : ℕ) (under : Under) (k : ℕ) (l b : Bool) (r₀ : Read) (t₀ : List ℕ) (r : Read) (u : List ℕ) : Type 0 where
  pub on : On s r₀.word t₀ u r.word
  pub going : (o : Scope s z count under) (mid : List Word) → Stands s r₀.word mid → (f : ℕ) (ss : Commands) (rest : List Word) → Told f AfterStatement k mid ss rest → Reached s z count under o k l b (walked_of r₀ t₀) r u ss rest

module _ {s z : List ℕ} {count : ℕ} {under : Under} {k : ℕ} {l b : Bool} where
  pub list-start : {h : Here} {m : Marks} {t t₀ : List ℕ} {r₀ : Read} → One s z count under k l b h m t t₀ r₀ → Going s z count under k l b r₀ t₀ r₀ t₀
  list-start came = record { on = on_here came.on.near; going = λ o mid st f ss rest x. record { mid = mid; left = ss; fuel = f; word = st; told = x; same = refl } }

  module _ {h : Here} {m : Marks} {t t₀ u : List ℕ} {r₀ r : Read} (came : One s z count under k l b h m t t₀ r₀) (going : Going s z count under k l b r₀ t₀ r u) where
    -- what is left is nothing: the list has ended
    list_all : {q : Read} → On s r.word u u q.word → q.marks ≡ r.marks
        → ((mid : List Word) → Stands s r.word mid → (f : ℕ) (ss : Commands) (rest : List Word) → Told f AfterStatement k mid ss rest → (ss ≡ end) × Stands s q.word rest) → All s z count under k l b h m t u q
    list_all {q} on e ends =
        record {
          on = and_on (and_on came.on going.on) on;
          told = λ o ws st f v rest x.
              let (f₁, i, p, row) = statements-told f k ws v rest x in
              let (mid, y, ss, a, c, d) = row in
              let i₁ = came.told o ws st f₁ y mid a in
              let y₀ = going.going o mid i₁.word f₁ ss rest c in
              let (none_left, stands) = ends y₀.mid y₀.word y₀.fuel y₀.left rest y₀.told in
              record {
                word = stands;
                walks = ap (λ (n : Marks). walked n u) e ∙ end_in (sense_of count o) (around k) l b (walked_of r u) ∙ ap (λ (n : Commands). all_in (sense_of count o) (around k) n l b (walked_of r u)) (sym none_left) ∙ sym y₀.same
                    ∙ more_in (sense_of count o) (around k) l b (walked m t) y ss (walked_of r₀ t₀) i₁.walks ∙ ap (λ (n : Commands). all_in (sense_of count o) (around k) n l b (walked m t)) (sym d);
              };
        }

    -- no `;` follows
    pub list-ends : ¬ (r.word.kind ≡ 12) → All s z count under k l b h m t u r
    list-ends other = list_all (on_here going.on.near) refl (λ mid st f ss rest x. let (e, i, p, row) = after-told f k mid ss rest x in go mid st ss rest e (subst (AfterRow e k mid ss rest) (none_there AfterStatement 12 after_only s r.word mid i st p other) row))
      where
        go : (mid : List Word) → Stands s r.word mid → (ss : Commands) (rest : List Word) (e : ℕ) → AfterRow e k mid ss rest 0 → (ss ≡ end) × Stands s r.word rest
        go mid st ss rest e (a, c) = (a, rw c at st)

    -- a `;` follows, and no statement
    pub list_spare : {q : Read} {v : Here} → r.word.kind ≡ 12 → Begins s r.word.next v → statement_row v.kind ≡ 13 → q.word ≡ v → q.marks ≡ r.marks → All s z count under k l b h m t u q
    list_spare {q} {v} semi begins none_there w e =
        list_all (rw w (on_word (on_here going.on.near) begins)) e (λ mid st f ss rest x. let (f₁, i, p, row) = after-told f k mid ss rest x in go mid st ss rest f₁ (subst (AfterRow f₁ k mid ss rest) (one_there AfterStatement 12 after_only s r.word mid i st p semi) row))
      where
        next : (tail : List Word) → Stands s v tail → (ss : Commands) (rest : List Word) (e : ℕ) → NextRow e k tail ss rest 0 → (ss ≡ end) × Stands s q.word rest
        next tail st ss rest e (a, c) = (a, rw (w, ← c) st)

        go : (mid : List Word) → Stands s r.word mid → (ss : Commands) (rest : List Word) (e : ℕ) → AfterRow e k mid ss rest 1 → (ss ≡ end) × Stands s q.word rest
        go mid st ss rest e (x, tail, a, c) =
            let (same, along) = first_is st a in
            let (f₂, i₂, p₂, row₂) = next-told e k tail ss rest c in
            let st₂ = begins.stands tail along in
            next tail st₂ ss rest f₂ (subst (NextRow f₂ k tail ss rest) (next-none s v tail i₂ st₂ p₂ none_there) row₂)

  -- a `;` follows, and a statement
  pub list_on : {t₀ u u₁ : List ℕ} {r₀ r q : Read} {v : Here} → r.word.kind ≡ 12 → Begins s r.word.next v → ¬ (statement_row v.kind ≡ 13) → One s z count under k l b v r.marks u u₁ q → Going s z count under k l b r₀ t₀ r u → Going s z count under k l b r₀ t₀ q u₁
  list_on {t₀} {u} {u₁} {r₀} {r} {q} {v} semi begins there came going = record { on = and_on (on_word going.on begins) came.on; going = goes }
    where
      next : (o : Scope s z count under) (tail : List Word) → Stands s v tail → (ss left : Commands) (rest : List Word) (e : ℕ) → all_in (sense_of count o) (around k) ss l b (walked_of r₀ t₀) ≡ all_in (sense_of count o) (around k) left l b (walked_of r u) → NextRow e k tail left rest 1 → Reached s z count under o k l b (walked_of r₀ t₀) q u₁ ss rest
      next o tail st ss left rest e same row =
          let (f₁, i₁, p₁, (mid, y, more, a, c, d)) = statements-told e k tail left rest row in
          let y₀ = came.told o tail st f₁ y mid a in
          record { mid = mid; left = more; fuel = f₁; word = y₀.word; told = c; same = same ∙ ap (λ (n : Commands). all_in (sense_of count o) (around k) n l b (walked_of r u)) d ∙ sym (more_in (sense_of count o) (around k) l b (walked_of r u) y more (walked_of q u₁) y₀.walks) }

      after : (o : Scope s z count under) (mid : List Word) → Stands s r.word mid → (ss left : Commands) (rest : List Word) (e : ℕ) → all_in (sense_of count o) (around k) ss l b (walked_of r₀ t₀) ≡ all_in (sense_of count o) (around k) left l b (walked_of r u) → AfterRow e k mid left rest 1 → Reached s z count under o k l b (walked_of r₀ t₀) q u₁ ss rest
      after o mid st ss left rest e same (x, tail, a, c) =
          let (w, along) = first_is st a in
          let (f₂, i₂, p₂, row₂) = next-told e k tail left rest c in
          let st₂ = begins.stands tail along in
          next o tail st₂ ss left rest f₂ same (subst (NextRow f₂ k tail left rest) (next_one s v tail i₂ st₂ p₂ there) row₂)

      goes : (o : Scope s z count under) (mid : List Word) → Stands s r₀.word mid → (f : ℕ) (ss : Commands) (rest : List Word) → Told f AfterStatement k mid ss rest → Reached s z count under o k l b (walked_of r₀ t₀) q u₁ ss rest
      goes o mid st f ss rest x =
          let y₀ = going.going o mid st f ss rest x in
          let (e, i, p, row) = after-told y₀.fuel k y₀.mid y₀.left rest y₀.told in
          after o y₀.mid y₀.word ss y₀.left rest e y₀.same (subst (AfterRow e k y₀.mid y₀.left rest) (one_there AfterStatement 12 after_only s r.word y₀.mid i y₀.word p semi) row)

-- ---- cases

module _ {s z : List ℕ} {count : ℕ} {under : Under} {k : ℕ} {l b : Bool} where
  pub case-came : {h a : Here} {m m₁ : Marks} {t t₁ t₂ u : List ℕ} {g : Tried} {x r : Read} {p : ℕ} → k ≤ 32 → Near s h → p ≡ told_at under.at h.place → m₁ ≡ cased m → Begins s h.next a → TestCame s z count under k a m₁ p t t₁ g → All s z count under k l b g.word g.marks t₁ t₂ x
      → Finished m.nodes 13 p g.root x.marks.nodes g.looks 0 x.word x.marks t₂ u r → CaseCame s z count under k l b h m t u r
  case-came {h} {a} {m} {m₁} {t} {t₁} {t₂} {u} {g} {x} {r} {p} few near place counts second test came fin =
      record {
        on = on_fin fin (and_on (and_on (on_word (on_here near) second) test.on) came.on);
        past = rw fin.word (omega (arith, second.later, test.on.later, came.on.later));
        told = λ o ws st f w c tail mid rest e y q te ty cs.
            let (same, along) = first_is st q in
            let i₁ = test.told o tail (second.stands tail along) f e c mid te in
            let i₂ = came.told o mid i₁.word f y rest ty in
            (rw fin.word i₂.word, case-walk count o k few l b m m₁ t w p e y cs (test_of g t₁) (walked_of x t₂) (walked_of r u) (told-levels f k tail e (c ∷ mid) te) counts (place ∙ ap (told_at under.at) same.place) i₁.sums i₂.walks fin.walks);
      }

pub record CasesReached (s z : List ℕ) (count : ℕ) (under : Under) (o : Scope s z count under) (k : ℕ) (l b : Bool) (w : Walked) (r : Read) (u : List ℕ) (g : Commands → Tests) (rest : List Word) : Type 0 where
  pub mid : List Word
  pub left : Commands → Tests
  pub fuel : ℕ
  pub word : Stands s r.word mid
  pub told : Told fuel Cases k mid left rest
  pub same : (d : Commands) → tests_in (sense_of count o) (around k) (left d) l b (walked_of r u) ≡ tests_in (sense_of count o) (around k) (g d) l b w

pub record CasesGoing (s z : List ℕ) (count : ℕ) (under : Under) (k : ℕ) (l b : Bool) (r₀ : Read) (t₀ : List ℕ) (r : Read) (u : List ℕ) : Type 0 where
  pub on : On s r₀.word t₀ u r.word
  pub going : (o : Scope s z count under) (mid : List Word) → Stands s r₀.word mid → (f : ℕ) (g : Commands → Tests) (rest : List Word) → Told f Cases k mid g rest → CasesReached s z count under o k l b (walked_of r₀ t₀) r u g rest

module _ {s z : List ℕ} {count : ℕ} {under : Under} {k : ℕ} {l b : Bool} where
  pub cases_start : {t₀ : List ℕ} {r₀ : Read} → Near s r₀.word → CasesGoing s z count under k l b r₀ t₀ r₀ t₀
  cases_start near = record { on = on_here near; going = λ o mid st f g rest x. record { mid = mid; left = g; fuel = f; word = st; told = x; same = λ d. refl } }

  pub cases_end : {h : Here} {m : Marks} {t u : List ℕ} {r₀ r : Read} → r₀.word ≡ h → r₀.marks ≡ m → ¬ (r.word.kind ≡ 50) → CasesGoing s z count under k l b r₀ t r u → CasesCame s z count under k l b h m t u r
  cases_end {h} {m} {t} {u} {r₀} {r} w e other going =
      record {
        on = subst (λ (n : Here). On s n t u r.word) w going.on;
        told = λ o ws st f g rest x d.
            let y₀ = going.going o ws (rw w st) f g rest x in
            let (f₁, i, p, row) = cases_told y₀.fuel k y₀.mid y₀.left rest y₀.told in
            let (is, ends) = subst (CasesRow f₁ k y₀.mid y₀.left rest) (none_there Cases 50 cases_only s r.word y₀.mid i y₀.word p other) row in
            (rw ends at y₀.word, default_in (sense_of count o) (around k) l b (walked_of r u) d ∙ ap (λ (n : Commands → Tests). tests_in (sense_of count o) (around k) (n d) l b (walked_of r u)) (sym is) ∙ y₀.same d ∙ ap (λ (n : Marks). tests_in (sense_of count o) (around k) (g d) l b (walked n t)) e);
      }

  pub cases_on : {t₀ u u₁ : List ℕ} {r₀ r q : Read} → r.word.kind ≡ 50 → CaseCame s z count under k l b r.word r.marks u u₁ q → CasesGoing s z count under k l b r₀ t₀ r u → CasesGoing s z count under k l b r₀ t₀ q u₁
  cases_on {t₀} {u} {u₁} {r₀} {r} {q} here came going = record { on = and_on going.on came.on; going = goes }
    where
      goes : (o : Scope s z count under) (mid : List Word) → Stands s r₀.word mid → (f : ℕ) (g : Commands → Tests) (rest : List Word) → Told f Cases k mid g rest → CasesReached s z count under o k l b (walked_of r₀ t₀) q u₁ g rest
      goes o mid st f g rest x =
          let y₀ = going.going o mid st f g rest x in
          let (f₁, i, p, row) = cases_told y₀.fuel k y₀.mid y₀.left rest y₀.told in
          let (w, c, tail, mid₁, low, e, y, more, eq, te, ty, tm, is) = subst (CasesRow f₁ k y₀.mid y₀.left rest) (one_there Cases 50 cases_only s r.word y₀.mid i y₀.word p here) row in
          record {
            mid = low;
            left = more;
            fuel = f₁;
            word = (came.told o y₀.mid y₀.word f₁ w c tail mid₁ low e y eq te ty (default end)).0;
            told = tm;
            same = λ d. (came.told o y₀.mid y₀.word f₁ w c tail mid₁ low e y eq te ty (more d)).1 ∙ ap (λ (n : Commands → Tests). tests_in (sense_of count o) (around k) (n d) l b (walked_of r u)) (sym is) ∙ y₀.same d;
          }

-- ---- branches

pub record BranchesReached (s z : List ℕ) (count : ℕ) (under : Under) (o : Scope s z count under) (k : ℕ) (l : Bool) (w : Walked) (r : Read) (u : List ℕ) (bs : Strands) (rest : List Word) : Type 0 where
  pub mid : List Word
  pub left : Strands
  pub fuel : ℕ
  pub word : Stands s r.word mid
  pub told : Told fuel Branches k mid left rest
  pub same : each_in (sense_of count o) (around k) left l (walked_of r u) ≡ each_in (sense_of count o) (around k) bs l w

pub record BranchesGoing (s z : List ℕ) (count : ℕ) (under : Under) (k : ℕ) (l : Bool) (r₀ : Read) (t₀ : List ℕ) (r : Read) (u : List ℕ) : Type 0 where
  pub on : On s r₀.word t₀ u r.word
  pub going : (o : Scope s z count under) (mid : List Word) → Stands s r₀.word mid → (f : ℕ) (bs : Strands) (rest : List Word) → Told f Branches k mid bs rest → BranchesReached s z count under o k l (walked_of r₀ t₀) r u bs rest

module _ {s z : List ℕ} {count : ℕ} {under : Under} {k : ℕ} {l : Bool} where
  pub branch_came : {h : Here} {m m₁ : Marks} {t t₁ u : List ℕ} {a r : Read} → m₁ ≡ with_acts m 1 → All s z count under k l true h m₁ t t₁ a → Branched m a t₁ u r → BranchCame s z count under k l h m t u r
  branch_came {h} {m} {m₁} {t} {t₁} {u} {a} {r} counts came fin =
      record {
        on = record { near = rw fin.word came.on.near; later = rw fin.word came.on.later; kept = fin.kept ∙ came.on.kept };
        told = λ o ws st f x rest y bs. let i = came.told o ws st f x rest y in (rw fin.word i.word, branch_walk count o (around k) l m m₁ t x bs (walked_of a t₁) (walked_of r u) counts i.walks fin.walks);
      }

  pub branches_start : {t₀ : List ℕ} {r₀ : Read} → Near s r₀.word → BranchesGoing s z count under k l r₀ t₀ r₀ t₀
  branches_start near = record { on = on_here near; going = λ o mid st f bs rest x. record { mid = mid; left = bs; fuel = f; word = st; told = x; same = refl } }

  pub branches_end : {h : Here} {m : Marks} {t u : List ℕ} {r₀ r : Read} → r₀.word ≡ h → r₀.marks ≡ m → ¬ (r.word.kind ≡ 2) → BranchesGoing s z count under k l r₀ t r u → BranchesCame s z count under k l h m t u r
  branches_end {h} {m} {t} {u} {r₀} {r} w e other going =
      record {
        on = subst (λ (n : Here). On s n t u r.word) w going.on;
        told = λ o ws st f bs rest x.
            let y₀ = going.going o ws (rw w st) f bs rest x in
            let (f₁, i, p, row) = branches_told y₀.fuel k y₀.mid y₀.left rest y₀.told in
            let (is, ends) = subst (BranchesRow f₁ k y₀.mid y₀.left rest) (none_there Branches 2 branches_only s r.word y₀.mid i y₀.word p other) row in
            record { word = rw ends at y₀.word; walks = none_in (sense_of count o) (around k) l (walked_of r u) ∙ ap (λ (n : Strands). each_in (sense_of count o) (around k) n l (walked_of r u)) (sym is) ∙ y₀.same ∙ ap (λ (n : Marks). each_in (sense_of count o) (around k) bs l (walked n t)) e };
      }

  pub branches_on : {t₀ u u₁ : List ℕ} {r₀ r q : Read} {v : Here} → r.word.kind ≡ 2 → Begins s r.word.next v → BranchCame s z count under k l v r.marks u u₁ q → BranchesGoing s z count under k l r₀ t₀ r u → BranchesGoing s z count under k l r₀ t₀ q u₁
  branches_on {t₀} {u} {u₁} {r₀} {r} {q} {v} here begins came going = record { on = and_on (on_word going.on begins) came.on; going = goes }
    where
      goes : (o : Scope s z count under) (mid : List Word) → Stands s r₀.word mid → (f : ℕ) (bs : Strands) (rest : List Word) → Told f Branches k mid bs rest → BranchesReached s z count under o k l (walked_of r₀ t₀) q u₁ bs rest
      goes o mid st f bs rest x =
          let y₀ = going.going o mid st f bs rest x in
          let (f₁, i, p, row) = branches_told y₀.fuel k y₀.mid y₀.left rest y₀.told in
          let (w, tail, low, y, more, eq, ty, tm, is) = subst (BranchesRow f₁ k y₀.mid y₀.left rest) (one_there Branches 2 branches_only s r.word y₀.mid i y₀.word p here) row in
          let (same, along) = first_is y₀.word eq in
          let (stands, walks) = came.told o tail (begins.stands tail along) f₁ y low ty more in
          record { mid = low; left = more; fuel = f₁; word = stands; told = tm; same = walks ∙ ap (λ (n : Strands). each_in (sense_of count o) (around k) n l (walked_of r u)) (sym is) ∙ y₀.same }
