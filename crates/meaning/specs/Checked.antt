-- The checked program of a source: each name is its variable, and each statement and case test has its number in text order.
-- Assumes nothing.
use Rattle.std.specs.Prelude.{ℕ, suc, ◌+◌, List, length}
use Rattle.std.proofs.Math.Option.{Option, none, some}
use Rattle.meaning.specs.Tree.{Name, Expr, literal, truth, variable, bit, not, int, arithmetic, comparison, logic, Target, whole, part, Head, Stmt, skip, delay, change, assign, choice, while, loop, exit, break, switch, parallel, Stmts, end, ◌⨾◌, Cases, default, case, Branches, ◌∥◌}
use Rattle.meaning.specs.Tree as tree
use Rattle.meaning.specs.Numbers.{Variable, input}
use Rattle.meaning.specs.States.{Program}
use Rattle.meaning.specs.Declared.{Declaration, Source, input_count, output_count, initial_word, look_up}
use Rattle.meaning.specs.Items.{items, items_all}

-- what a name stands for; a source with an unknown name is refused
abbrev pub known : Option Variable → Variable
known none = input 0
known (some v) = v

abbrev pub variable_of : List Declaration → Name → Variable
variable_of ds n = known (look_up ds n.bytes)

unfoldable pub resolved : Expr Name → (Name → Variable) → Expr Variable
resolved (literal p n) look = literal p n
resolved (truth p b) look = truth p b
resolved (variable v) look = variable (look v)
resolved (bit v j) look = bit (look v) j
resolved (not p e) look = not p (resolved e look)
resolved (int p e) look = int p (resolved e look)
resolved (arithmetic o p a b) look = arithmetic o p (resolved a look) (resolved b look)
resolved (comparison o p a b) look = comparison o p (resolved a look) (resolved b look)
resolved (logic o p a b) look = logic o p (resolved a look) (resolved b look)

abbrev pub targeted : Target Name → (Name → Variable) → Target Variable
targeted (whole v) look = whole (look v)
targeted (part v j) look = part (look v) j

abbrev pub numbered : Head → ℕ → Head
numbered h n = record { place = h.place; number = n }

-- from the number n on; a compound comes before its parts, and a case test before its list
unfoldable mutual
  pub checked : Stmt Name → (Name → Variable) → ℕ → Stmt Variable
  checked (skip h) look n = skip (numbered h n)
  checked (delay h p d) look n = delay (numbered h n) p d
  checked (change h c t) look n = change (numbered h n) c (targeted t look)
  checked (assign h v e) look n = assign (numbered h n) (look v) (resolved e look)
  checked (choice h e a b) look n =
      choice (numbered h n) (resolved e look) (checked_all a look (suc n)) (checked_all b look (suc n + length (items_all a)))
  checked (while h e b) look n = while (numbered h n) (resolved e look) (checked_all b look (suc n))
  checked (loop h b) look n = loop (numbered h n) (checked_all b look (suc n))
  checked (exit h) look n = exit (numbered h n)
  checked (break h) look n = break (numbered h n)
  checked (switch h cs) look n = switch (numbered h n) (checked_cases cs look (suc n))
  checked (parallel h bs) look n = parallel (numbered h n) (checked_each bs look (suc n))

  pub checked_all : Stmts Name → (Name → Variable) → ℕ → Stmts Variable
  checked_all end look n = end
  checked_all (s ⨾ ss) look n = checked s look n ⨾ checked_all ss look (n + length (items s))

  pub checked_cases : Cases Name → (Name → Variable) → ℕ → Cases Variable
  checked_cases (default d) look n = default (checked_all d look n)
  checked_cases (case h e b cs) look n =
      case (numbered h n) (resolved e look) (checked_all b look (suc n)) (checked_cases cs look (suc n + length (items_all b)))

  pub checked_each : Branches Name → (Name → Variable) → ℕ → Branches Variable
  checked_each tree.none look n = tree.none
  checked_each (b ∥ bs) look n = checked_all b look n ∥ checked_each bs look (n + length (items_all b))

unfoldable pub program_of : Source → Program
program_of s =
    record {
      inputs = input_count s.declared;
      outputs = output_count s.declared;
      initial = initial_word s.declared;
      body = checked_all s.body (variable_of s.declared) 0;
    }
