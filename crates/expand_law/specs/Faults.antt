-- The accounts and walks that tell an expansion's faults 6, 7 and 10, level by level of the tree.
-- Assumes nothing.
use Rattle.std.specs.Prelude.{ℕ, not as opposite, List, [], ◌∷◌, ◌++◌, ltb}
use Rattle.meaning.specs.Tree.{Name, Target}
use Rattle.meaning.specs.Declared.{Declaration, look_up}
use Rattle.meaning.specs.Names.{when, unknown, target_name}
use Rattle.meaning.specs.Kinds.{Kind, truths, wholes, is_truth, is_whole, both, kind_of_variable, has_bit, comparable, assignable, target_kind}
use Rattle.meaning.specs.Worst.{most_size, variable_worst, combined}
use Rattle.meaning.specs.Base.{head_at}
use Rattle.expand_law.specs.Accounts.{Account, Known}
use Rattle.expand_law.specs.Walks.{Walk}

-- places of faults that single statements have: of a changed target, of an assignment and of a test at its word
pub record Marks (A : Type 0) : Type 0 where
  pub of_target : ℕ → Target Name → List ℕ
  pub of_assigned : Name → Known A → List ℕ
  pub of_test : ℕ → Known A → List ℕ

-- .. and of all statements, one after the other; a call that is refused has those of `refused`, one that passes a size none
abbrev pub marking_with : {A : Type 0} → (ℕ → List ℕ) → Marks A → Walk A (List ℕ)
marking_with refused m =
    record {
      at_end = [];
      and_then = λ a b. a ++ b;
      of_skip = λ p. [];
      of_delay = λ p q n. [];
      of_change = λ p c t. m.of_target p t;
      of_assign = λ v k. m.of_assigned v k;
      of_choice = λ p k a b. m.of_test p k ++ (a ++ b);
      of_while = λ p k b. m.of_test p k ++ b;
      of_loop = λ p b. b;
      of_exit = λ p. [];
      of_break = λ p. [];
      of_switch = λ p ts. ts;
      of_default = λ d. d;
      of_case = λ p k b ts. m.of_test p k ++ (b ++ ts);
      of_parallel = λ p bs. bs;
      of_none = [];
      of_branch = λ b bs. b ++ bs;
      of_call = λ p. refused p;
      of_passing = λ p k. [];
    }

abbrev pub marking : {A : Type 0} → Marks A → Walk A (List ℕ)
marking m = marking_with (λ p. []) m

-- P7: the refused calls alone
abbrev pub no_marks : {A : Type 0} → Marks A
no_marks = record { of_target = λ p t. []; of_assigned = λ v k. []; of_test = λ p k. [] }

abbrev pub refused_walk : {A : Type 0} → Walk A (List ℕ)
refused_walk = marking_with (λ p. p ∷ []) no_marks

-- what is told of an expression, with the places of its parts' faults
pub record Told (X : Type 0) : Type 0 where
  pub is : X
  pub places : List ℕ

-- N3, N4, N7: kinds
abbrev pub kind_account : List Declaration → Account (Told Kind)
kind_account ds =
    record {
      of_literal = λ p n. record { is = wholes; places = [] };
      of_truth = λ p b. record { is = truths; places = [] };
      of_variable = λ v. record { is = kind_of_variable (look_up ds v.bytes); places = [] };
      of_bit = λ v j. record { is = truths; places = when (opposite (has_bit (look_up ds v.bytes) j)) v.place ++ [] };
      of_not = λ p a. record { is = truths; places = when (is_whole a.is) p ++ a.places };
      of_int = λ p a. record { is = wholes; places = when (is_whole a.is) p ++ a.places };
      of_arithmetic = λ o p a b. record { is = wholes; places = a.places ++ (when (opposite (both (is_whole a.is) (is_whole b.is))) p ++ b.places) };
      of_comparison = λ o p a b. record { is = truths; places = a.places ++ (when (opposite (comparable o a.is b.is)) p ++ b.places) };
      of_logic = λ o p a b. record { is = truths; places = a.places ++ (when (opposite (both (is_truth a.is) (is_truth b.is))) p ++ b.places) };
    }

-- N5, N6, N7, N8
abbrev pub kind_marks : List Declaration → Marks (Told Kind)
kind_marks ds =
    record {
      of_target = λ p t. target_kind ds (head_at p) t;
      of_assigned = λ v k. when (opposite (both (assignable (look_up ds v.bytes)) (is_whole k.account.is))) v.place;
      of_test = λ p k. when (is_whole k.account.is) p;
    }

-- V5: worst sizes
abbrev pub worst_account : List Declaration → Account (Told ℕ)
worst_account ds =
    record {
      of_literal = λ p n. record { is = n; places = [] };
      of_truth = λ p b. record { is = 0; places = [] };
      of_variable = λ v. record { is = variable_worst (look_up ds v.bytes); places = [] };
      of_bit = λ v j. record { is = 0; places = [] };
      of_not = λ p a. record { is = 0; places = a.places };
      of_int = λ p a. record { is = 1; places = a.places };
      of_arithmetic = λ o p a b. record { is = combined o a.is b.is; places = a.places ++ (when (ltb most_size (combined o a.is b.is)) p ++ b.places) };
      of_comparison = λ o p a b. record { is = 0; places = a.places ++ b.places };
      of_logic = λ o p a b. record { is = 0; places = a.places ++ b.places };
    }

-- N2: unknown names
abbrev pub name_account : List Declaration → Account (Told Unit)
name_account ds =
    record {
      of_literal = λ p n. record { is = tt; places = [] };
      of_truth = λ p b. record { is = tt; places = [] };
      of_variable = λ v. record { is = tt; places = unknown ds v ++ [] };
      of_bit = λ v j. record { is = tt; places = unknown ds v ++ [] };
      of_not = λ p a. a;
      of_int = λ p a. a;
      of_arithmetic = λ o p a b. record { is = tt; places = a.places ++ b.places };
      of_comparison = λ o p a b. record { is = tt; places = a.places ++ b.places };
      of_logic = λ o p a b. record { is = tt; places = a.places ++ b.places };
    }

abbrev pub name_marks : {A : Type 0} → List Declaration → Marks A
name_marks ds = record { of_target = λ p t. unknown ds (target_name t) ++ []; of_assigned = λ v k. unknown ds v ++ []; of_test = λ p k. [] }

-- the faults of parts, wherever an expression stands
abbrev pub part_marks : {X : Type 0} → Marks (Told X)
part_marks = record { of_target = λ p t. []; of_assigned = λ v k. k.account.places; of_test = λ p k. k.account.places }
