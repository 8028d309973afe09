-- A program without calls is its own expansion, and without procedures it has the faults of the base language.
-- Assumes nothing.
use mathlib.Core.Path.{◌≡◌, refl, ap, ap₂, ◌∙◌}
use mathlib.Core.List.{List, [], ◌∷◌, ◌++◌, map}
use Prim.Native.Nat.{ℕ}
use Rattle.meaning.specs.Tree.{Name, Target, whole, part}
use Rattle.meaning.specs.Declared.{Declaration}
use Rattle.meaning.specs.Faults.{fault_of, fault_with}
use Rattle.meaning.specs.Unexpanded.{Term, literal, truth, variable, bit, not, int, arithmetic, comparison, logic, parens, instead, no_name, Command, skip, delay, change, assign, choice, while, loop, exit, break, switch, parallel, call, passing, Commands, end, ◌⨾◌, Tests, default, case, Strands, ◌∥◌, a_variable, Unexpanded}
use Rattle.meaning.specs.Unexpanded as unexpanded
use Rattle.meaning.specs.Levels.{level_faults}
use Rattle.meaning.specs.Expansion.{actual_of, replaced, target_replaced, followed_by, expand, expand_all, expand_tests, expand_each, outermost, procedures_from, expanded_body, expanded}
use Rattle.meaning.specs.Procedures.{clashes, has_name, found_in, found_all, found_tests, found_each, calls_refused, calls_passing, fault_in}

-- no call stands in it, nor what only an expansion leaves
unfoldable mutual
  pub CallFree : Command → Type 0
  CallFree (skip p) = Unit
  CallFree (delay p q n) = Unit
  CallFree (change p c t) = Unit
  CallFree (assign v e) = Unit
  CallFree (choice p e a b) = CallFreeAll a × CallFreeAll b
  CallFree (while p e b) = CallFreeAll b
  CallFree (loop p b) = CallFreeAll b
  CallFree (exit p) = Unit
  CallFree (break p) = Unit
  CallFree (switch p ts) = CallFreeTests ts
  CallFree (parallel p bs) = CallFreeEach bs
  CallFree (call v ts) = ⊥
  CallFree (passing p k) = ⊥

  pub CallFreeAll : Commands → Type 0
  CallFreeAll end = Unit
  CallFreeAll (l ⨾ ls) = CallFree l × CallFreeAll ls

  pub CallFreeTests : Tests → Type 0
  CallFreeTests (default d) = CallFreeAll d
  CallFreeTests (case p e b ts) = CallFreeAll b × CallFreeTests ts

  pub CallFreeEach : Strands → Type 0
  CallFreeEach unexpanded.none = Unit
  CallFreeEach (b ∥ bs) = CallFreeAll b × CallFreeEach bs

-- nothing to replace
pub same_term : (t : Term) → replaced (λ p. p) [] t ≡ t
unfolding replaced actual_of
same_term (literal p n) = refl
same_term (truth p b) = refl
same_term (variable v) = refl
same_term (bit v j) = refl
same_term (not p e) = ap (not p) (same_term e)
same_term (int p e) = ap (int p) (same_term e)
same_term (arithmetic o p a b) = ap₂ (arithmetic o p) (same_term a) (same_term b)
same_term (comparison o p a b) = ap₂ (comparison o p) (same_term a) (same_term b)
same_term (logic o p a b) = ap₂ (logic o p) (same_term a) (same_term b)
same_term (parens e) = ap parens (same_term e)
same_term (instead e) = ap instead (same_term e)
same_term (no_name p) = refl

same_target : (t : Target Name) → target_replaced (λ p. p) [] t ≡ t
unfolding actual_of
same_target (whole v) = refl
same_target (part v j) = refl

module _ (calls : Name → List Term → Commands) where
  mutual
    unfolding expand followed_by actual_of CallFree

    same_line : (l : Command) → CallFree l → (ls : Commands) → followed_by (expand calls (λ p. p) [] l) ls ≡ l ⨾ ls
    same_line (skip p) x ls = refl
    same_line (delay p q n) x ls = refl
    same_line (change p c t) x ls = ap (λ (u : Target Name). change p c u ⨾ ls) (same_target t)
    same_line (assign v e) x ls = ap (λ (u : Term). assign v u ⨾ ls) (same_term e)
    same_line (choice p e a b) x ls =
        ap (λ (u : Term). choice p u (expand_all calls (λ p. p) [] a) (expand_all calls (λ p. p) [] b) ⨾ ls) (same_term e) ∙ ap₂ (λ (u v : Commands). choice p e u v ⨾ ls) (same-all a x.0) (same-all b x.1)
    same_line (while p e b) x ls = ap₂ (λ (u : Term) (v : Commands). while p u v ⨾ ls) (same_term e) (same-all b x)
    same_line (loop p b) x ls = ap (λ (u : Commands). loop p u ⨾ ls) (same-all b x)
    same_line (exit p) x ls = refl
    same_line (break p) x ls = refl
    same_line (switch p ts) x ls = ap (λ (u : Tests). switch p u ⨾ ls) (same_tests ts x)
    same_line (parallel p bs) x ls = ap (λ (u : Strands). parallel p u ⨾ ls) (same-each bs x)
    same_line (call v ts) x ls = absurd x
    same_line (passing p k) x ls = absurd x

    pub same-all : (ls : Commands) → CallFreeAll ls → expand_all calls (λ p. p) [] ls ≡ ls
    same-all end x = refl
    same-all (l ⨾ ls) x = same_line l x.0 (expand_all calls (λ p. p) [] ls) ∙ ap (λ (u : Commands). l ⨾ u) (same-all ls x.1)

    same_tests : (ts : Tests) → CallFreeTests ts → expand_tests calls (λ p. p) [] ts ≡ ts
    same_tests (default d) x = ap default (same-all d x)
    same_tests (case p e b ts) x =
        ap (λ (u : Term). case p u (expand_all calls (λ p. p) [] b) (expand_tests calls (λ p. p) [] ts)) (same_term e) ∙ ap₂ (case p e) (same-all b x.0) (same_tests ts x.1)

    same-each : (bs : Strands) → CallFreeEach bs → expand_each calls (λ p. p) [] bs ≡ bs
    same-each unexpanded.none x = refl
    same-each (b ∥ bs) x = ap₂ ◌∥◌ (same-all b x.0) (same-each bs x.1)

pub same_body : (w : Unexpanded) → CallFreeAll w.body → expanded_body w ≡ w.body
unfolding expanded_body
same_body w x = same-all (outermost (procedures_from [] w.declared)) w.body x

-- ---- no further fault

module _ (of_call : Name → List ℕ) (of_passing : ℕ → List ℕ) where
  mutual
    unfolding found_in CallFree

    none_left_lem : (l : Command) → CallFree l → found_in of_call of_passing l ≡ []
    none_left_lem (skip p) x = refl
    none_left_lem (delay p q n) x = refl
    none_left_lem (change p c t) x = refl
    none_left_lem (assign v e) x = refl
    none_left_lem (choice p e a b) x = ap₂ ◌++◌ (none-all a x.0) (none-all b x.1)
    none_left_lem (while p e b) x = none-all b x
    none_left_lem (loop p b) x = none-all b x
    none_left_lem (exit p) x = refl
    none_left_lem (break p) x = refl
    none_left_lem (switch p ts) x = none-tests ts x
    none_left_lem (parallel p bs) x = none_each bs x
    none_left_lem (call v ts) x = absurd x
    none_left_lem (passing p k) x = absurd x

    none-all : (ls : Commands) → CallFreeAll ls → found_all of_call of_passing ls ≡ []
    none-all end x = refl
    none-all (l ⨾ ls) x = ap₂ ◌++◌ (none_left_lem l x.0) (none-all ls x.1)

    none-tests : (ts : Tests) → CallFreeTests ts → found_tests of_call of_passing ts ≡ []
    none-tests (default d) x = none-all d x
    none-tests (case p e b ts) x = ap₂ ◌++◌ (none-all b x.0) (none-tests ts x.1)

    none_each : (bs : Strands) → CallFreeEach bs → found_each of_call of_passing bs ≡ []
    none_each unexpanded.none x = refl
    none_each (b ∥ bs) x = ap₂ ◌++◌ (none-all b x.0) (none_each bs x.1)

no_clash : (names : List (List ℕ)) (ds : List Declaration) → clashes names [] (map a_variable ds) ≡ []
unfolding clashes has_name
no_clash names [] = refl
no_clash names (d ∷ ds) = no_clash _ ds

-- without procedures and calls a program has the faults that the base language gives it; its text opens no level too many, or it is refused with 5
pub same-fault : (w : Unexpanded) (ds : List Declaration) → w.declared ≡ map a_variable ds → CallFreeAll w.body → level_faults 0 w.body ≡ [] → fault_in w ≡ fault_of (expanded w)
unfolding fault_in fault_of
same-fault w ds e x f =
    ap₂ (λ (a b : List ℕ). fault_with a b (expanded w))
    (ap₂ ◌++◌ (ap (clashes [] []) e ∙ no_clash [] ds) (ap calls_refused (same_body w x) ∙ none-all (λ v. v.place ∷ []) (λ p. []) w.body x))
    (ap₂ ◌++◌ (ap calls_passing (same_body w x) ∙ none-all (λ v. []) (λ p. p ∷ []) w.body x) (ap (level_faults 0) (same_body w x) ∙ f))
