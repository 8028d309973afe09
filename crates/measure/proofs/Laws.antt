-- The laws of the readers that count: one for each way on.
-- Assumes nothing.
use mathlib.Core.Bool.{true, false}
use mathlib.Core.Path.{◌≡◌, refl, sym, ◌∙◌, ap, subst}
use mathlib.Core.Logic.{◌⊎◌, inl, inr}
use mathlib.Core.List.{List, ◌∷◌}
use mathlib.Core.Option.{Option}
use Prim.Native.Nat.{ℕ, zero, suc, ◌+◌, ◌-◌, ◌<◌, ◌≤◌, min}
use native.Mathlib.Omega.{arith}
use lib.Dec.{ltb}
use lib.ListN.{length}
use Rattle.ll1.proofs.Sets.{clash}
use Rattle.meaning.specs.Tree.{Name, Change, raise, lower, invert, Target}
use Rattle.meaning.specs.Sizes.{most_delay}
use Rattle.meaning.specs.Unexpanded.{Term, Command, skip, delay, change, assign, choice, while, loop, exit, break, switch, parallel, Commands, end, Tests, case, Strands, ◌∥◌}
use Rattle.meaning.specs.Expansion.{expand}
use Rattle.language.specs.Words.{Word}
use Rattle.language.specs.Grammar.{Index, AfterName, Else}
use Rattle.language.specs.Trees.{name_at, number_at}
use Rattle.descent_law.specs.Told.{IndexRow}
use Rattle.descent_law.specs.Rows.{ChangeRow, ElseRow, AfterNameRow, StatementRow}
use Rattle.descent_law.proofs.Expressions.{index_told}
use Rattle.descent_law.proofs.Statements.{target_told, else_told, after-name-told}
use Rattle.hand.specs.declared.Here.{Here}
use Rattle.hand.specs.Along.{Stands, Near, Begins}
use Rattle.tiers.specs.Comes.{Comes}
use Rattle.tiers.specs.declared.PlainRow.{PlainRow}
use Rattle.tiers.specs.declared.PlainRow.TheVariants as plain
use Rattle.tiers.specs.Choose.{statement_row, plain_number, is_plain}
use Rattle.tiers.proofs.Laws.{first_is}
use Rattle.tiers.proofs.Rows.{row_told, row-none, else_only, index_only, call_only, one_there, none_there}
use Rattle.own_law.proofs.Early.{each_stay, closed_stays, opened_stays, begun_stays}
use Rattle.tally.proofs.Steps.{over_on}
use Rattle.tally.proofs.Ends.{end-state}
use Rattle.parts.specs.Beside.{beside}
use Rattle.parts.proofs.Beside.{same_size}
use Rattle.frames.specs.declared.Under.{Under}
use Rattle.sizes.specs.declared.Extent.{Extent}
use Rattle.sizes.specs.Counts.{CountsUnder}
use Rattle.tally.specs.declared.Tally.{Tally}
use Rattle.tally.specs.Tally.{begun_tally, marked_tally, deep_tally, term_tally, acts_tally, together_tally}
use Rattle.tally.specs.Holds.{with_acts, over_all, over_tests, over_branch, over_each}
use Rattle.tally.proofs.Steps.{alike, begun-holds, opened-holds, closed-holds, marked_holds, term_holds, branches_start, together-holds}
use Rattle.measure.specs.declared.Counted.{Counted}
use Rattle.measure.specs.Counted.{Known, term_of, one_of, all_of, tests_of, each_of, Measures, Leads, On, Tells, TestCame, BareCame, PastChange, RowCame, One, All, CaseCame, CasesCame, BranchCame, BranchesCame}
use Rattle.measure.proofs.States.{beginning, inside, term, skip-state, exit-state, break-state, delay-state, change-state, assign-state, loop-state, while-state, choice-state, switch-state, parallel-state, case-state, branch_state}

abbrev pub counted : Here → Tally → Counted
counted w m = record { word = w; tally = m }

-- ---- one reader after the other

pub and_on : {s : List ℕ} {h a b : Here} {t u v : List ℕ} → On s h t u a → On s a u v b → On s h t v b
and_on x y = record { near = y.near; later = omega (arith, x.later, y.later); tree = y.tree ∙ x.tree; kept = y.kept ∙ x.kept }

pub on_word : {s : List ℕ} {h a b : Here} {t u : List ℕ} → On s h t u a → Begins s a.next b → On s h t u b
on_word x y = record { near = y.near; later = omega (arith, x.later, x.near.on, y.later); tree = x.tree; kept = x.kept }

pub on_here : {s : List ℕ} {h : Here} {t : List ℕ} → Near s h → On s h t t h
on_here near = record { near = near; later = omega arith; tree = refl; kept = refl }

-- the number of bytes stays
pub on_long : {s : List ℕ} {h w : Here} {t t₁ : List ℕ} → On s h t t₁ w → length t₁ ≡ length t
unfolding beside
on_long on = same_size on.kept

on_made : {s : List ℕ} {h w : Here} {t u : List ℕ} {m : Tally} {r : Counted} → r ≡ counted w m → On s h t u w → On s h t u r.word
on_made e on = rw e on

on_test : {s z : List ℕ} {u : Under} {k n : ℕ} {h a : Here} {m : Tally} {t : List ℕ} {g : Counted} → On s h t t a → TestCame s z u k n a m g → On s h t t g.word
on_test x y = record { near = y.near; later = omega (arith, x.later, y.later); tree = refl; kept = refl }

-- ---- from tally to tally

-- with one level more open
deeper_is : (n k n₁ : ℕ) → n ≡ min k 33 → n₁ ≡ min (n + 1) 33 → n₁ ≡ min (suc k) 33
deeper_is n k n₁ e f = omega arith

module _ {s z : List ℕ} {u : Under} (S : Known s z u) {n : ℕ} {m : Tally} where
  term_measures : {g : Extent} (e : Term) → CountsUnder s z u g e → Measures 0 n m (term_tally m n g.parts g.levels) (term (term_of S e))
  term_measures e c = record { holds = λ k is x low h. let d = c.counts S.bound S.is.framed S.is.sized in term_holds (term_of S e) is d.parts d.levels h }

  skip_measures : (p : ℕ) → Measures 1 n m (begun_tally m) (over_all (one_of S (skip p)))
  unfolding expand
  skip_measures p = record { holds = λ k is x some h. alike (skip-state x some _) (begun-holds h) }

  exit_measures : (p : ℕ) → Measures 1 n m (begun_tally m) (over_all (one_of S (exit p)))
  unfolding expand
  exit_measures p = record { holds = λ k is x some h. alike (exit-state x some _) (begun-holds h) }

  break_measures : (p : ℕ) → Measures 1 n m (begun_tally m) (over_all (one_of S (break p)))
  unfolding expand
  break_measures p = record { holds = λ k is x some h. alike (break-state x some _) (begun-holds h) }

  delay_measures : (p q d : ℕ) → Measures 1 n m (marked_tally (begun_tally m) (ltb most_delay d)) (over_all (one_of S (delay p q d)))
  unfolding expand
  delay_measures p q d = record { holds = λ k is x some h. alike (delay-state x some _ _ d) (marked_holds (ltb most_delay d) (begun-holds h)) }

  change_measures : {n₁ : ℕ} (p : ℕ) (c : Change) (t : Target Name) → n₁ ≡ min (n + 1) 33 → Measures 1 n m (deep_tally (begun_tally m) n₁ 0) (over_all (one_of S (change p c t)))
  unfolding expand
  change_measures {n₁} p c t more = record { holds = λ k is x some h. alike (change-state x some _ c _) (closed-holds (opened-holds (deeper_is n k n₁ is more) (begun-holds h))) }

  assign_measures : {r : Tally} (v : Name) (e : Term) → Measures 0 n (begun_tally m) r (term (term_of S e)) → Measures 1 n m r (over_all (one_of S (assign v e)))
  unfolding expand
  assign_measures v e c = record { holds = λ k is x some h. alike (assign-state x some _ (term_of S e)) (c.holds k is (beginning x) (omega arith) (begun-holds h)) }

  module _ {n₁ : ℕ} (more : n₁ ≡ min (n + 1) 33) where
    loop_measures : {r : Tally} (p : ℕ) (b : Commands) → Measures 1 n₁ (deep_tally (begun_tally m) n₁ 0) r (over_all (all_of S b)) → Measures 1 n m r (over_all (one_of S (loop p b)))
    unfolding expand
    loop_measures p b c =
        record { holds = λ k is x some h. let is₁ = deeper_is n k n₁ is more in alike (loop-state x some _ (all_of S b)) (closed-holds (c.holds (suc k) is₁ (inside x) some (opened-holds is₁ (begun-holds h)))) }

    while_measures : {q r : Tally} (p : ℕ) (e : Term) (b : Commands) → Measures 0 n₁ (deep_tally (begun_tally m) n₁ 0) q (term (term_of S e)) → Measures 1 n₁ q r (over_all (all_of S b)) → Measures 1 n m r (over_all (one_of S (while p e b)))
    unfolding expand
    while_measures p e b c d =
        record {
          holds = λ k is x some h.
              let is₁ = deeper_is n k n₁ is more in
              alike (while-state x some _ (term_of S e) (all_of S b)) (closed-holds (d.holds (suc k) is₁ (term (term_of S e) (inside x)) some (c.holds (suc k) is₁ (inside x) (omega arith) (opened-holds is₁ (begun-holds h)))));
        }

    choice_measures : {q y r : Tally} (p : ℕ) (e : Term) (a b : Commands) → Measures 0 n₁ (deep_tally (begun_tally m) n₁ 0) q (term (term_of S e)) → Measures 1 n₁ q y (over_all (all_of S a)) → Measures 1 n₁ y r (over_all (all_of S b)) → Measures 1 n m r (over_all (one_of S (choice p e a b)))
    unfolding expand
    choice_measures p e a b c d f =
        record {
          holds = λ k is x some h.
              let is₁ = deeper_is n k n₁ is more in
              alike (choice-state x some _ (term_of S e) (all_of S a) (all_of S b))
              (closed-holds (f.holds (suc k) is₁ (over_all (all_of S a) (term (term_of S e) (inside x))) (omega arith) (d.holds (suc k) is₁ (term (term_of S e) (inside x)) some (c.holds (suc k) is₁ (inside x) (omega arith) (opened-holds is₁ (begun-holds h))))));
        }

    switch_measures : {r : Tally} (p : ℕ) (ts : Tests) → Measures 1 n₁ (deep_tally (begun_tally m) n₁ 0) r (over_tests (tests_of S ts)) → Measures 1 n m r (over_all (one_of S (switch p ts)))
    unfolding expand
    switch_measures p ts c =
        record { holds = λ k is x some h. let is₁ = deeper_is n k n₁ is more in alike (switch-state x some _ (tests_of S ts)) (closed-holds (c.holds (suc k) is₁ (inside x) some (opened-holds is₁ (begun-holds h)))) }

    parallel_measures : {r : Tally} (p : ℕ) (bs : Strands) → Measures 0 n₁ (acts_tally (deep_tally (begun_tally m) n₁ 0) 0) r (over_each (each_of S bs)) → Measures 1 n m (together_tally r m.acts) (over_all (one_of S (parallel p bs)))
    unfolding expand
    parallel_measures p bs c =
        record {
          holds = λ k is x some h.
              let is₁ = deeper_is n k n₁ is more in
              alike (parallel-state x some _ (each_of S bs))
              (together-holds h (closed-holds (c.holds (suc k) is₁ (with_acts (inside x) 0) (omega arith) (branches_start (opened-holds is₁ (begun-holds h)))))
              (λ e. over_on closed_stays _ (over_on (each_stay false (each_of S bs)) _ (over_on (opened_stays false) _ (over_on begun_stays _ e)))));
        }

-- ---- tests

module _ {s z : List ℕ} {u : Under} {k n : ℕ} {h : Here} {m : Tally} {g : Extent} {r : Counted} where
  pub test-came : {a : Here} {q : Tally} → Comes s 0 k h g.word (CountsUnder s z u g) → Begins s g.word.next a → q ≡ term_tally m n g.parts g.levels → r ≡ counted a q → TestCame s z u k n h m r
  test-came {a} {q} came after e made =
      record {
        near = rw made after.near;
        later = rw made (omega (arith, came.later, came.near.on, after.later));
        told = λ S ws st f x c rest y.
            let z = came.told ws st f x (c ∷ rest) y in
            rw (made, e) (record { word = after.stands rest z.word.1; so = term_measures S x z.holds });
      }

-- ---- statements with none inside

module _ {s : List ℕ} {k n : ℕ} {h a : Here} {m : Tally} {r : Counted} {row : ℕ} (near : Near s h) (second : Begins s h.next a) where
  -- of one word
  one_word : {z : List ℕ} {u : Under} {q : Tally} → r ≡ counted a q
      → ((f : ℕ) (ws : List Word) (v : Command) (rest : List Word) → StatementRow f k ws v rest row → (x : Word) × (ws ≡ x ∷ rest) × ((S : Known s z u) → Measures 1 n m q (over_all (one_of S v)))) → BareCame s z u k n row h m r
  one_word {z} {u} {q} made takes =
      record {
        near = rw made second.near;
        later = rw made (omega (arith, near.on, second.later));
        told = λ S ws st f v rest x.
            let (y, is, does) = takes f ws v rest x in
            let (same, along) = first_is st is in
            rw made (record { word = second.stands rest along; so = does S });
      }

  -- `skip`, `exit`, `break`
  pub bare_one : {z : List ℕ} {u : Under} {q : Tally} → is_plain row ≡ true → ¬ (row ≡ 1) → (2 ≤ row → 4 < row) → q ≡ begun_tally m → r ≡ counted a q → BareCame s z u k n row h m r
  unfolding is_plain
  bare_one {z} {u} {q} plain not-delay high is made = one_word made (λ f ws v rest x. go row plain not-delay high f ws v rest x)
    where
      go : (i : ℕ) → is_plain i ≡ true → ¬ (i ≡ 1) → (2 ≤ i → 4 < i) → (f : ℕ) (ws : List Word) (v : Command) (rest : List Word) → StatementRow f k ws v rest i → (x : Word) × (ws ≡ x ∷ rest) × ((S : Known s z u) → Measures 1 n m q (over_all (one_of S v)))
      go zero p o l f ws v rest (x, y, d) = (x, y, λ S. rw (is, d) (skip_measures S x.place))
      go (suc zero) p o l f ws v rest x = absurd (o refl)
      go (suc (suc zero)) p o l f ws v rest x = absurd (omega (arith, l (omega arith)))
      go (suc (suc (suc zero))) p o l f ws v rest x = absurd (omega (arith, l (omega arith)))
      go (suc (suc (suc (suc zero)))) p o l f ws v rest x = absurd (omega (arith, l (omega arith)))
      go (suc (suc (suc (suc (suc zero))))) p o l f ws v rest x = clash (sym p)
      go (suc (suc (suc (suc (suc (suc zero)))))) p o l f ws v rest x = clash (sym p)
      go (suc (suc (suc (suc (suc (suc (suc zero))))))) p o l f ws v rest x = clash (sym p)
      go (suc (suc (suc (suc (suc (suc (suc (suc zero)))))))) p o l f ws v rest x = clash (sym p)
      go (suc (suc (suc (suc (suc (suc (suc (suc (suc zero))))))))) p o l f ws v rest (x, y, d) = (x, y, λ S. rw (is, d) (exit_measures S x.place))
      go (suc (suc (suc (suc (suc (suc (suc (suc (suc (suc zero)))))))))) p o l f ws v rest x = clash (sym p)
      go (suc (suc (suc (suc (suc (suc (suc (suc (suc (suc (suc zero))))))))))) p o l f ws v rest (x, y, d) = (x, y, λ S. rw (is, d) (break_measures S x.place))
      go (suc (suc (suc (suc (suc (suc (suc (suc (suc (suc (suc (suc zero)))))))))))) p o l f ws v rest x = clash (sym p)
      go (suc (suc (suc (suc (suc (suc (suc (suc (suc (suc (suc (suc (suc i))))))))))))) p o l f ws v rest x = absurd x

  pub bare_delay : {z : List ℕ} {u : Under} {a₁ : Here} {q : Tally} → row ≡ 1 → Begins s a.next a₁ → q ≡ marked_tally (begun_tally m) (ltb most_delay a.value) → r ≡ counted a₁ q → BareCame s z u k n row h m r
  bare_delay {z} {u} {a₁} {q} e third is made =
      record {
        near = rw made third.near;
        later = rw made (omega (arith, near.on, second.later, second.near.on, third.later));
        told = λ S ws st f v rest x. go S ws st f v rest (rw e at x);
      }
    where
      go : (S : Known s z u) (ws : List Word) → Stands s h ws → (f : ℕ) (v : Command) (rest : List Word) → StatementRow f k ws v rest 1 → Tells s r.word rest (Measures 1 n m r.tally (over_all (one_of S v)))
      go S ws st f v rest (x, y, c, number, d) =
          let (same, along) = first_is st c in
          let (same₁, along₁) = second.stands (y ∷ rest) along in
          let val : a.value ≡ number_at y = rw number at same₁.value in
          rw (made, is, d) (record { word = third.stands rest along₁; so = rw val (delay_measures S x.place y.place (number_at y)) })

  -- `raise`, `lower`, `invert`
  pub bare_change : {z : List ℕ} {u : Under} {w : Here} {q : Tally} {n₁ : ℕ} → 2 ≤ row → row ≤ 4 → n₁ ≡ min (n + 1) 33 → PastChange s h w → q ≡ deep_tally (begun_tally m) n₁ 0 → r ≡ counted w q → BareCame s z u k n row h m r
  bare_change {z} {u} {w} {q} {n₁} low high more came is made =
      record { near = rw made came.near; later = rw made came.later; told = λ S ws st f v rest x. let (c, y) = rows row low high f ws v rest x in go S ws st f v rest c y }
    where
      rows : (i : ℕ) → 2 ≤ i → i ≤ 4 → (f : ℕ) (ws : List Word) (v : Command) (rest : List Word) → StatementRow f k ws v rest i → (c : Change) × ChangeRow f k ws v rest c
      rows zero l g f ws v rest x = absurd (omega arith)
      rows (suc zero) l g f ws v rest x = absurd (omega arith)
      rows (suc (suc zero)) l g f ws v rest x = (raise, x)
      rows (suc (suc (suc zero))) l g f ws v rest x = (lower, x)
      rows (suc (suc (suc (suc zero)))) l g f ws v rest x = (invert, x)
      rows (suc (suc (suc (suc (suc i))))) l g f ws v rest x = absurd (omega arith)

      go : (S : Known s z u) (ws : List Word) → Stands s h ws → (f : ℕ) (v : Command) (rest : List Word) (c : Change) → ChangeRow f k ws v rest c → Tells s r.word rest (Measures 1 n m r.tally (over_all (one_of S v)))
      go S ws st f v rest c x =
          let y = came.told ws st f k v rest c x in
          let (p, t, d) = y.so in
          rw (made, is) (record { word = y.word; so = rw d (change_measures S p c t more) })

-- the word behind what is raised, lowered or inverted
module _ {s : List ℕ} {h a : Here} (near : Near s h) (second : Begins s h.next a) where
  module _ {a₂ a₃ a₄ : Here} (b₂ : Begins s a.next a₂) (b₃ : Begins s a₂.next a₃) (b₄ : Begins s a₃.next a₄) where
    pub past-name : ¬ (a₃.kind ≡ 16) → PastChange s h a₄
    past-name no_index =
        record { near = b₄.near; later = omega (arith, near.on, second.later, second.near.on, b₂.later, b₂.near.on, b₃.later, b₃.near.on, b₄.later); told = go }
      where
        ends : (tail : List Word) → Stands s a₃ tail → (j : Option ℕ) (c : Word) (rest : List Word) (i : ℕ) → i ≡ 0 → IndexRow tail j (c ∷ rest) i → Stands s a₄ rest
        ends tail st j c rest i e row = let (x, y) = subst (IndexRow tail j (c ∷ rest)) e row in b₄.stands rest (first_is st y).1

        go : (ws : List Word) → Stands s h ws → (f k : ℕ) (v : Command) (rest : List Word) (ch : Change) → ChangeRow f k ws v rest ch → Tells s a₄ rest ((p : ℕ) × (t : Target Name) × (v ≡ change p ch t))
        go ws st f k v rest ch (w, o, c, l, tail, t, y, lev, x, d) =
            let (same, along) = first_is st y in
            let (same₁, along₁) = second.stands (o ∷ tail) along in
            let (e, i, p, (w₂, tail₂, j, y₂, x₂, d₂)) = target_told f l tail t (c ∷ rest) x in
            let (same₂, along₂) = first_is (b₂.stands tail along₁) y₂ in
            let (i₃, p₃, row₃) = index_told e l tail₂ j (c ∷ rest) x₂ in
            let st₃ = b₃.stands tail₂ along₂ in
            record { word = ends tail₂ st₃ j c rest i₃ (none_there Index 16 index_only s a₃ tail₂ i₃ st₃ p₃ no_index) row₃; so = (w.place, t, d) }

    pub past-bit : {a₅ a₆ a₇ : Here} → a₃.kind ≡ 16 → Begins s a₄.next a₅ → Begins s a₅.next a₆ → Begins s a₆.next a₇ → PastChange s h a₇
    past-bit {a₅} {a₆} {a₇} index b₅ b₆ b₇ =
        record {
          near = b₇.near;
          later = omega (arith, near.on, second.later, second.near.on, b₂.later, b₂.near.on, b₃.later, b₃.near.on, b₄.later, b₄.near.on, b₅.later, b₅.near.on, b₆.later, b₆.near.on, b₇.later);
          told = go;
        }
      where
        ends : (tail : List Word) → Stands s a₃ tail → (j : Option ℕ) (c : Word) (rest : List Word) (i : ℕ) → i ≡ 1 → IndexRow tail j (c ∷ rest) i → Stands s a₇ rest
        ends tail st j c rest i e row =
            let (x, y, w, q, number, z) = subst (IndexRow tail j (c ∷ rest)) e row in
            let (s₁, l₁) = first_is st q in
            let (s₂, l₂) = b₄.stands (y ∷ w ∷ c ∷ rest) l₁ in
            let (s₃, l₃) = b₅.stands (w ∷ c ∷ rest) l₂ in
            let (s₄, l₄) = b₆.stands (c ∷ rest) l₃ in
            b₇.stands rest l₄

        go : (ws : List Word) → Stands s h ws → (f k : ℕ) (v : Command) (rest : List Word) (ch : Change) → ChangeRow f k ws v rest ch → Tells s a₇ rest ((p : ℕ) × (t : Target Name) × (v ≡ change p ch t))
        go ws st f k v rest ch (w, o, c, l, tail, t, y, lev, x, d) =
            let (same, along) = first_is st y in
            let (same₁, along₁) = second.stands (o ∷ tail) along in
            let (e, i, p, (w₂, tail₂, j, y₂, x₂, d₂)) = target_told f l tail t (c ∷ rest) x in
            let (same₂, along₂) = first_is (b₂.stands tail along₁) y₂ in
            let (i₃, p₃, row₃) = index_told e l tail₂ j (c ∷ rest) x₂ in
            let st₃ = b₃.stands tail₂ along₂ in
            record { word = ends tail₂ st₃ j c rest i₃ (one_there Index 16 index_only s a₃ tail₂ i₃ st₃ p₃ index) row₃; so = (w.place, t, d) }

pub assign-came : {s z : List ℕ} {u : Under} {k n : ℕ} {h a a₁ : Here} {m m₁ q : Tally} {g : Extent} {r : Counted} → Near s h → Begins s h.next a → ¬ (a.kind ≡ 14) → Begins s a.next a₁ → Comes s 0 k a₁ g.word (CountsUnder s z u g)
    → m₁ ≡ begun_tally m → q ≡ term_tally m₁ n g.parts g.levels → r ≡ counted g.word q → BareCame s z u k n 5 h m r
assign-came {s} {z} {u} {k} {n} {h} {a} {a₁} {m} {m₁} {q} {g} {r} near second no_call third came begun-is is made =
    record { near = rw made came.near; later = rw made (omega (arith, near.on, second.later, second.near.on, third.later, came.later)); told = go }
  where
    ends : (S : Known s z u) (v : Command) (w : Word) (o : Name → Command) (f : ℕ) (tail : List Word) (rest : List Word) (i : ℕ) → Stands s a tail → v ≡ o (name_at w) → i ≡ 0 → AfterNameRow f k tail o rest i
        → Tells s g.word rest (Measures 1 n m q (over_all (one_of S v)))
    ends S v w o f tail rest i st d e row =
        let (x, on, y, c, z, b) = subst (AfterNameRow f k tail o rest) e row in
        let (same, along) = first_is st c in
        let i₁ = came.told on (third.stands on along) f y rest z in
        let is-assign : v ≡ assign (name_at w) y = d ∙ ap (λ (f : Name → Command). f (name_at w)) b in
        record { word = i₁.word; so = rw (is-assign, is, begun-is) (assign_measures S (name_at w) y (term_measures S y i₁.holds)) }

    go : (S : Known s z u) (ws : List Word) → Stands s h ws → (f : ℕ) (v : Command) (rest : List Word) → StatementRow f k ws v rest 5 → Tells s r.word rest (Measures 1 n m r.tally (over_all (one_of S v)))
    go S ws st f v rest (w, tail, o, y, x, d) =
        let (same, along) = first_is st y in
        let (e, i, p, row) = after-name-told f k tail o rest x in
        let st₁ = second.stands tail along in
        rw made (ends S v w o e tail rest i st₁ d (none_there AfterName 14 call_only s a tail i st₁ p no_call) row)

-- ---- a statement

-- what is said of row i of the first word
abbrev Rest : List ℕ → List ℕ → Under → ℕ → ℕ → Here → Tally → Counted → ℕ → Type 0
Rest s z u k n h m r i = (S : Known s z u) (ws : List Word) → Stands s h ws → (f : ℕ) (v : Command) (rest : List Word) → StatementRow f k ws v rest i → Tells s r.word rest (Measures 1 n m r.tally (over_all (one_of S v)))

module _ {s z : List ℕ} {u : Under} {k n : ℕ} {h : Here} {m : Tally} {row : ℕ} (at : row ≡ statement_row h.kind) where
  one : {t t₁ : List ℕ} {r : Counted} → On s h t t₁ r.word → Rest s z u k n h m r row → One s z u k n h m t t₁ r
  one on go = record { on = on; told = λ S ws st f v rest x. let (e, y) = row_told s k h ws f v rest st x in go S ws st e v rest (subst (StatementRow e k ws v rest) (sym at) y) }

  pub one-row : {t t₁ : List ℕ} {r : Counted} {i : ℕ} → row ≡ i → RowCame s z u k n i h m t t₁ r → One s z u k n h m t t₁ r
  one-row q came = one came.on (λ S ws st e v rest y. came.told S ws st e v rest (subst (StatementRow e k ws v rest) q y))

  pub one_bare : {t : List ℕ} {r : Counted} → BareCame s z u k n row h m r → One s z u k n h m t t r
  one_bare came = one (record { near = came.near; later = came.later; tree = refl; kept = refl }) came.told

  -- no level is left for a statement inside
  pub one_none : {t : List ℕ} {r : Counted} → Near s h → is_plain row ≡ false → ¬ (row ≡ 5) → k ≡ 0 → r ≡ counted h m → One s z u k n h m t t r
  one_none near p o q made = one (on_made made (on_here near)) (λ S ws st e v rest y. row-none e k ws v rest row q p o y)

  -- no statement begins with such a word
  pub one_other : {t : List ℕ} {r : Counted} → row ≡ 13 → Near s h → r ≡ counted h m → One s z u k n h m t t r
  one_other last near made = one (on_made made (on_here near)) (λ S ws st e v rest y. absurd (rw last at y))

-- the rows of `raise`, `lower` and `invert`
pub change_rows : (p : PlainRow) → (p ≡ plain.Raise) ⊎ ((p ≡ plain.Lower) ⊎ (p ≡ plain.Invert)) → (2 ≤ plain_number p) × (plain_number p ≤ 4)
change_rows p (inl e) = rw e (omega arith, omega arith)
change_rows p (inr (inl e)) = rw e (omega arith, omega arith)
change_rows p (inr (inr e)) = rw e (omega arith, omega arith)

-- .. and of `skip`, `exit` and `break`, which are one word
pub word_rows : (p : PlainRow) → (p ≡ plain.Skip) ⊎ ((p ≡ plain.Exit) ⊎ (p ≡ plain.Break)) → ¬ (plain_number p ≡ 1) × (2 ≤ plain_number p → 4 < plain_number p)
word_rows p (inl e) = rw e (λ z. omega arith, λ z. omega arith)
word_rows p (inr (inl e)) = rw e (λ z. omega arith, λ z. omega arith)
word_rows p (inr (inr e)) = rw e (λ z. omega arith, λ z. omega arith)

pub row_bare : {s z : List ℕ} {u : Under} {k n row : ℕ} {h : Here} {m : Tally} {t : List ℕ} {r : Counted} → BareCame s z u k n row h m r → RowCame s z u k n row h m t t r
row_bare came = record { on = record { near = came.near; later = came.later; tree = refl; kept = refl }; told = came.told }

-- ---- a statement with statements inside

starts : (n₁ : ℕ) (m m₁ m₂ : Tally) → m₁ ≡ begun_tally m → m₂ ≡ deep_tally m₁ n₁ 0 → m₂ ≡ deep_tally (begun_tally m) n₁ 0
starts n₁ m m₁ m₂ e f = f ∙ ap (λ (y : Tally). deep_tally y n₁ 0) e

module _ {s z : List ℕ} {u : Under} {k n n₁ : ℕ} {h a : Here} {m m₁ m₂ : Tally} (near : Near s h) (more : n₁ ≡ min (n + 1) 33) (begun-is : m₁ ≡ begun_tally m) (deep_is : m₂ ≡ deep_tally m₁ n₁ 0) (second : Begins s h.next a) where
  pub loop-came : {t t₁ : List ℕ} {r g : Counted} {a₁ : Here} → All s z u (k - 1) n₁ a m₂ t t₁ g → Begins s g.word.next a₁ → r ≡ counted a₁ g.tally → RowCame s z u k n 8 h m t t₁ r
  loop-came {t} {t₁} {r} {g} {a₁} came after made = record { on = on_made made (on_word (and_on (on_word (on_here near) second) came.on) after); told = go }
    where
      go : Rest s z u k n h m r 8
      go S ws st f x rest (w, c, j, tail, body, y, lev, q, d) =
          let (same, along) = first_is st y in
          let less : j ≡ k - 1 = omega arith in
          let i = came.told S tail (second.stands tail along) f body (c ∷ rest) (rw less at q) in
          rw (made, d) (record { word = after.stands rest i.word.1; so = loop_measures S more w.place body (rw (starts n₁ m m₁ m₂ begun-is deep_is) at i.so) })

  module _ {t : List ℕ} {g : Counted} (test : TestCame s z u (k - 1) n₁ a m₂ g) where
    pub while-came : {t₁ : List ℕ} {r x : Counted} {e₁ e₂ : Here} → Begins s g.word.next e₁ → All s z u (k - 1) n₁ e₁ g.tally t t₁ x → Begins s x.word.next e₂ → r ≡ counted e₂ x.tally → RowCame s z u k n 7 h m t t₁ r
    while-came {t₁} {r} {x} {e₁} {e₂} word came after made = record { on = on_made made (on_word (and_on (on_word (on_test (on_word (on_here near) second) test) word) came.on) after); told = go }
      where
        go : Rest s z u k n h m r 7
        go S ws st f v rest (w, dw, lw, xw, j, tail, mid, ex, bb, y, lev, te, tb, d) =
            let (same, along) = first_is st y in
            let less : j ≡ k - 1 = omega arith in
            let i₁ = test.told S tail (second.stands tail along) f ex dw (lw ∷ mid) (rw less at te) in
            let i₂ = came.told S mid (word.stands mid i₁.word.1) f bb (xw ∷ rest) (rw less at tb) in
            rw (made, d) (record { word = after.stands rest i₂.word.1; so = while_measures S more w.place ex bb (rw (starts n₁ m m₁ m₂ begun-is deep_is) at i₁.so) i₂.so })

    module _ {t₁ : List ℕ} {x : Counted} {e₁ : Here} (then : All s z u (k - 1) n₁ g.word g.tally t t₁ x) (after : Begins s x.word.next e₁) where
      pub if_came : {r : Counted} → ¬ (x.word.kind ≡ 42) → r ≡ counted e₁ x.tally → RowCame s z u k n 6 h m t t₁ r
      unfolding expand
      if_came {r} no-else made = record { on = on_made made (on_word (and_on (on_test (on_word (on_here near) second) test) then.on) after); told = go }
        where
          none_left_lem : (S : Known s z u) (bb : Commands) → bb ≡ end → Measures 1 n₁ x.tally x.tally (over_all (all_of S bb))
          none_left_lem S bb e = record { holds = λ k is y some h. rw e (alike (end-state y some) h) }

          go : Rest s z u k n h m r 6
          go S ws st f v rest (w, c, xw, j, tail, mid, low, ex, aa, bb, y, lev, te, ta, tb, d) =
              let (same, along) = first_is st y in
              let less : j ≡ k - 1 = omega arith in
              let i₁ = test.told S tail (second.stands tail along) f ex c mid (rw less at te) in
              let i₂ = then.told S mid i₁.word f aa low (rw less at ta) in
              let (f₂, i, cl, row₂) = else_told f (k - 1) low bb (xw ∷ rest) (rw less at tb) in
              let not_there : i ≡ 0 = none_there Else 42 else_only s x.word low i i₂.word cl no-else in
              let (no-list, ends) = subst (ElseRow f₂ (k - 1) low bb (xw ∷ rest)) not_there row₂ in
              let st₂ = first_is i₂.word ends in
              rw (made, d) (record { word = after.stands rest st₂.1; so = choice_measures S more w.place ex aa bb (rw (starts n₁ m m₁ m₂ begun-is deep_is) at i₁.so) i₂.so (none_left_lem S bb no-list) })

      pub else_came : {t₂ : List ℕ} {r y : Counted} {e₂ : Here} → x.word.kind ≡ 42 → All s z u (k - 1) n₁ e₁ x.tally t₁ t₂ y → Begins s y.word.next e₂ → r ≡ counted e₂ y.tally → RowCame s z u k n 6 h m t t₂ r
      else_came {t₂} {r} {y} {e₂} is-else other last made = record { on = on_made made (on_word (and_on (on_word (and_on (on_test (on_word (on_here near) second) test) then.on) after) other.on) last); told = go }
        where
          go : Rest s z u k n h m r 6
          go S ws st f v rest (w, c, xw, j, tail, mid, low, ex, aa, bb, q, lev, te, ta, tb, d) =
              let (same, along) = first_is st q in
              let less : j ≡ k - 1 = omega arith in
              let i₁ = test.told S tail (second.stands tail along) f ex c mid (rw less at te) in
              let i₂ = then.told S mid i₁.word f aa low (rw less at ta) in
              let (f₂, i, cl, row₂) = else_told f (k - 1) low bb (xw ∷ rest) (rw less at tb) in
              let there : i ≡ 1 = one_there Else 42 else_only s x.word low i i₂.word cl is-else in
              let (ew, tail₂, y₂, list₂) = subst (ElseRow f₂ (k - 1) low bb (xw ∷ rest)) there row₂ in
              let st₂ = first_is i₂.word y₂ in
              let i₃ = other.told S tail₂ (after.stands tail₂ st₂.1) f₂ bb (xw ∷ rest) list₂ in
              rw (made, d) (record { word = last.stands rest i₃.word.1; so = choice_measures S more w.place ex aa bb (rw (starts n₁ m m₁ m₂ begun-is deep_is) at i₁.so) i₂.so i₃.so })

  pub switch-came : {t t₁ t₂ t₃ : List ℕ} {r g c y : Counted} {e₁ e₂ e₃ : Here} → CaseCame s z u (k - 1) n₁ a m₂ t t₁ g → CasesCame s z u (k - 1) n₁ g.word g.tally t₁ t₂ c → Begins s c.word.next e₁ → Begins s e₁.next e₂
      → All s z u (k - 1) n₁ e₂ c.tally t₂ t₃ y → Begins s y.word.next e₃ → r ≡ counted e₃ y.tally → RowCame s z u k n 10 h m t t₃ r
  unfolding expand
  switch-came {t} {t₁} {t₂} {t₃} {r} {g} {c} {y} {e₁} {e₂} {e₃} case₁ others colon body last after made =
      record { on = on_made made (on_word (and_on (on_word (on_word (and_on (and_on (on_word (on_here near) second) case₁.on) others.on) colon) body) last.on) after); told = go }
    where
      through : (S : Known s z u) (p : ℕ) (ex : Term) (bb : Commands) (gg : Commands → Tests) (zz : Commands) → Measures 1 n₁ m₂ g.tally (λ x. over_all (all_of S bb) (term (term_of S ex) x))
          → Leads 1 n₁ g.tally c.tally (λ d. over_all (all_of S d)) (λ d. over_tests (tests_of S (gg d))) → Measures 1 n₁ c.tally y.tally (over_all (all_of S zz)) → Measures 1 n₁ m₂ y.tally (over_tests (tests_of S (case p ex bb (gg zz))))
      through S p ex bb gg zz a b d =
          record {
            holds = λ k is x some h.
                let led = b.leads k is (over_all (all_of S bb) (term (term_of S ex) x)) (omega arith) (a.holds k is x some h) in
                alike (led.same zz ∙ case-state _ (term_of S ex) (all_of S bb) (tests_of S (gg zz)) x) (d.holds k is led.state led.enough led.holds);
          }

      go : Rest s z u k n h m r 10
      go S ws st f x rest (w, cw, o, dw, pw, xw, j, tail, m₁', m₂', m₃', ex, bb, gg, zz, q, lev, te, tb, tc, tz, d) =
          let (same, along) = first_is st q in
          let less : j ≡ k - 1 = omega arith in
          let i₁ = case₁.told S (cw ∷ tail) (second.stands (cw ∷ tail) along) f cw o tail m₁' m₂' ex bb refl (rw less at te) (rw less at tb) in
          let i₂ = others.told S m₂' i₁.word f gg (dw ∷ pw ∷ m₃') (rw less at tc) in
          let (same₃, along₃) = colon.stands (pw ∷ m₃') i₂.word.1 in
          let i = last.told S m₃' (body.stands m₃' along₃) f zz (xw ∷ rest) (rw less at tz) in
          rw (made, d) (record { word = after.stands rest i.word.1; so = switch_measures S more w.place (case cw.place ex bb (gg zz)) (rw (starts n₁ m m₁ m₂ begun-is deep_is) at (through S cw.place ex bb gg zz i₁.so i₂.so i.so)) })

  pub parallel-came : {t t₁ t₂ t₃ : List ℕ} {r g g₁ c : Counted} {e₁ e₂ : Here} {m₀ q : Tally} → m₀ ≡ acts_tally m₂ 0 → BranchCame s z u (k - 1) n₁ a m₀ t t₁ g → Begins s g.word.next e₁ → BranchCame s z u (k - 1) n₁ e₁ g.tally t₁ t₂ g₁
      → BranchesCame s z u (k - 1) n₁ g₁.word g₁.tally t₂ t₃ c → Begins s c.word.next e₂ → q ≡ together_tally c.tally m.acts → r ≡ counted e₂ q → RowCame s z u k n 12 h m t t₃ r
  unfolding expand
  parallel-came {t} {t₁} {t₂} {t₃} {r} {g} {g₁} {c} {e₁} {e₂} {m₀} {q} zero-acts first_branch bar second-branch others after joined made =
      record { on = on_made made (on_word (and_on (and_on (on_word (and_on (on_word (on_here near) second) first_branch.on) bar) second-branch.on) others.on) after); told = go }
    where
      through : (S : Known s z u) (aa bb : Commands) (cs : Strands) → Measures 0 n₁ m₀ g.tally (over_branch (all_of S aa)) → Measures 0 n₁ g.tally g₁.tally (over_branch (all_of S bb)) → Measures 0 n₁ g₁.tally c.tally (over_each (each_of S cs))
          → Measures 0 n₁ m₀ c.tally (over_each (each_of S (aa ∥ bb ∥ cs)))
      through S aa bb cs a b d =
          record {
            holds = λ k is x low h.
                alike (branch_state (all_of S bb) (each_of S cs) (over_branch (all_of S aa) x) ∙ branch_state (all_of S aa) (each_of S (bb ∥ cs)) x)
                (d.holds k is (over_branch (all_of S bb) (over_branch (all_of S aa) x)) (omega arith) (b.holds k is (over_branch (all_of S aa) x) (omega arith) (a.holds k is x (omega arith) h)));
          }

      go : Rest s z u k n h m r 12
      go S ws st f x rest (w, o, xw, j, tail, m₁', m₂', aa, bb, cs, y, lev, ta, tb, tc, d) =
          let (same, along) = first_is st y in
          let less : j ≡ k - 1 = omega arith in
          let i₁ = first_branch.told S tail (second.stands tail along) f aa (o ∷ m₁') (rw less at ta) in
          let i₂ = second-branch.told S m₁' (bar.stands m₁' i₁.word.1) f bb m₂' (rw less at tb) in
          let i = others.told S m₂' i₂.word f cs (xw ∷ rest) (rw less at tc) in
          rw (made, d) (record { word = after.stands rest i.word.1; so = rw joined (parallel_measures S more w.place (aa ∥ bb ∥ cs) (rw (zero-acts ∙ ap (λ (y : Tally). acts_tally y 0) (starts n₁ m m₁ m₂ begun-is deep_is)) at (through S aa bb cs i₁.so i₂.so i.so))) })
