-- The walks that tell an expansion's levels, its activities with the delays and parallels that are too large, its jumps, and where its statements and parts stand.
-- Assumes nothing.
use Rattle.std.specs.Prelude.{ℕ, suc, ◌+◌, max, Bool, true, not as opposite, List, [], ◌∷◌, ◌++◌, ltb, replicate}
use Rattle.meaning.specs.Names.{when}
use Rattle.meaning.specs.Sizes.{most_delay}
use Rattle.meaning.specs.States.{most_activities}
use Rattle.meaning.specs.Levels.{too_deep}
use Rattle.expand_law.specs.Accounts.{Account}
use Rattle.expand_law.specs.Walks.{Walk}
use Rattle.expand_law.specs.Faults.{Told}

-- G9: the most levels that are open at once
abbrev pub level_walk : {A : Type 0} → Walk A ℕ
level_walk =
    record {
      at_end = 0;
      and_then = λ a b. max a b;
      of_skip = λ p. 0;
      of_delay = λ p q n. 0;
      of_change = λ p c t. 1;
      of_assign = λ v k. k.levels;
      of_choice = λ p k a b. suc (max k.levels (max a b));
      of_while = λ p k b. suc (max k.levels b);
      of_loop = λ p b. suc b;
      of_exit = λ p. 0;
      of_break = λ p. 0;
      of_switch = λ p ts. suc ts;
      of_default = λ d. d;
      of_case = λ p k b ts. max k.levels (max b ts);
      of_parallel = λ p bs. suc bs;
      of_none = 0;
      of_branch = λ b bs. max b bs;
      of_call = λ p. 0;
      of_passing = λ p k. 0;
    }

-- so many activities, and nothing too large
abbrev pub none_over : ℕ → Told ℕ
none_over n = record { is = n; places = [] }

abbrev pub together : Told ℕ → Told ℕ → Told ℕ
together a b = record { is = max a.is b.is; places = a.places ++ b.places }

-- Z8: at least one; a list that is empty has none yet
abbrev pub at_least_one : Told ℕ → Told ℕ
at_least_one a = record { is = max 1 a.is; places = a.places }

-- Z7, Z8
abbrev pub size_walk : {A : Type 0} → Walk A (Told ℕ)
size_walk =
    record {
      at_end = none_over 0;
      and_then = λ a b. together a b;
      of_skip = λ p. none_over 1;
      of_delay = λ p q n. record { is = 1; places = when (ltb most_delay n) q };
      of_change = λ p c t. none_over 1;
      of_assign = λ v k. none_over 1;
      of_choice = λ p k a b. at_least_one (together a b);
      of_while = λ p k b. at_least_one b;
      of_loop = λ p b. at_least_one b;
      of_exit = λ p. none_over 1;
      of_break = λ p. none_over 1;
      of_switch = λ p ts. at_least_one ts;
      of_default = λ d. at_least_one d;
      of_case = λ p k b ts. together (at_least_one b) ts;
      of_parallel = λ p bs. record { is = max 1 bs.is; places = when (ltb most_activities bs.is) p ++ bs.places };
      of_none = none_over 0;
      of_branch = λ b bs. record { is = max 1 b.is + bs.is; places = b.places ++ bs.places };
      of_call = λ p. none_over 1;
      of_passing = λ p k. record { is = max 1 k; places = when (ltb most_activities k) p };
    }

-- N9: inside a loop, inside a switch or a parallel
abbrev pub jump_walk : {A : Type 0} → Walk A (Bool → Bool → List ℕ)
jump_walk =
    record {
      at_end = λ l b. [];
      and_then = λ x y l b. x l b ++ y l b;
      of_skip = λ p l b. [];
      of_delay = λ p q n l b. [];
      of_change = λ p c t l b. [];
      of_assign = λ v k l b. [];
      of_choice = λ p k x y l b. x l b ++ y l b;
      of_while = λ p k x l b. x true b;
      of_loop = λ p x l b. x true b;
      of_exit = λ p l b. when (opposite l) p;
      of_break = λ p l b. when (opposite b) p;
      of_switch = λ p ts l b. ts l true;
      of_default = λ d l b. d l b;
      of_case = λ p k x ts l b. x l b ++ ts l b;
      of_parallel = λ p bs l b. bs l true;
      of_none = λ l b. [];
      of_branch = λ x bs l b. x l b ++ bs l b;
      of_call = λ p l b. [];
      of_passing = λ p k l b. [];
    }

-- P12: where a level too many opens, by the levels open around
abbrev pub deep_walk : {A : Type 0} → Walk A (ℕ → List ℕ)
deep_walk =
    record {
      at_end = λ n. [];
      and_then = λ x y n. x n ++ y n;
      of_skip = λ p n. [];
      of_delay = λ p q d n. [];
      of_change = λ p c t n. too_deep (suc n) p;
      of_assign = λ v k n. too_deep (n + k.levels) v.place;
      of_choice = λ p k x y n. too_deep (suc n + k.levels) p ++ (x (suc n) ++ y (suc n));
      of_while = λ p k x n. too_deep (suc n + k.levels) p ++ x (suc n);
      of_loop = λ p x n. too_deep (suc n) p ++ x (suc n);
      of_exit = λ p n. [];
      of_break = λ p n. [];
      of_switch = λ p ts n. too_deep (suc n) p ++ ts (suc n);
      of_default = λ d n. d n;
      of_case = λ p k x ts n. too_deep (n + k.levels) p ++ (x n ++ ts n);
      of_parallel = λ p bs n. too_deep (suc n) p ++ bs (suc n);
      of_none = λ n. [];
      of_branch = λ x bs n. x n ++ bs n;
      of_call = λ p n. [];
      of_passing = λ p k n. [];
    }

-- Z5: the places of all statements
abbrev pub statement_walk : {A : Type 0} → Walk A (List ℕ)
statement_walk =
    record {
      at_end = [];
      and_then = λ a b. a ++ b;
      of_skip = λ p. p ∷ [];
      of_delay = λ p q n. p ∷ [];
      of_change = λ p c t. p ∷ [];
      of_assign = λ v k. v.place ∷ [];
      of_choice = λ p k a b. p ∷ (a ++ b);
      of_while = λ p k b. p ∷ b;
      of_loop = λ p b. p ∷ b;
      of_exit = λ p. p ∷ [];
      of_break = λ p. p ∷ [];
      of_switch = λ p ts. p ∷ ts;
      of_default = λ d. d;
      of_case = λ p k b ts. b ++ ts;
      of_parallel = λ p bs. p ∷ bs;
      of_none = [];
      of_branch = λ b bs. b ++ bs;
      of_call = λ p. p ∷ [];
      of_passing = λ p k. p ∷ replicate k p;
    }

-- Z6: the places of all parts
abbrev pub part_account : Account (Told Unit)
part_account =
    record {
      of_literal = λ p n. record { is = tt; places = p ∷ [] };
      of_truth = λ p b. record { is = tt; places = p ∷ [] };
      of_variable = λ v. record { is = tt; places = v.place ∷ [] };
      of_bit = λ v j. record { is = tt; places = v.place ∷ [] };
      of_not = λ p a. record { is = tt; places = p ∷ a.places };
      of_int = λ p a. record { is = tt; places = p ∷ a.places };
      of_arithmetic = λ o p a b. record { is = tt; places = a.places ++ (p ∷ b.places) };
      of_comparison = λ o p a b. record { is = tt; places = a.places ++ (p ∷ b.places) };
      of_logic = λ o p a b. record { is = tt; places = a.places ++ (p ∷ b.places) };
    }
