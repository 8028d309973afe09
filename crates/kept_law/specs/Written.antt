-- Statements as a text can have them: one or more in each case, branch and procedure, and none that expansion alone makes of a call that passes a size.
-- Assumes nothing.
use Rattle.meaning.specs.Unexpanded.{Command, skip, delay, change, assign, choice, while, loop, exit, break, switch, parallel, call, passing, Commands, end, ◌⨾◌, Tests, default, case, Strands, none, ◌∥◌, Procedure}
use Rattle.kept_law.specs.Kept.{Some}

unfoldable mutual
  pub Written : Command → Type 0
  Written (skip p) = Unit {0}
  Written (delay p q n) = Unit {0}
  Written (change p c t) = Unit {0}
  Written (assign v e) = Unit {0}
  Written (choice p e a b) = WrittenAll a × WrittenAll b
  Written (while p e b) = WrittenAll b
  Written (loop p b) = WrittenAll b
  Written (exit p) = Unit {0}
  Written (break p) = Unit {0}
  Written (switch p ts) = WrittenTests ts
  Written (parallel p bs) = WrittenEach bs
  Written (call v ts) = Unit {0}
  Written (passing p k) = ⊥

  pub WrittenAll : Commands → Type 0
  WrittenAll end = Unit {0}
  WrittenAll (l ⨾ ls) = Written l × WrittenAll ls

  pub WrittenTests : Tests → Type 0
  WrittenTests (default d) = WrittenAll d
  WrittenTests (case p e b ts) = Some b × (WrittenAll b × WrittenTests ts)

  pub WrittenEach : Strands → Type 0
  WrittenEach none = Unit {0}
  WrittenEach (b ∥ bs) = Some b × (WrittenAll b × WrittenEach bs)

abbrev pub WrittenProcedure : Procedure → Type 0
WrittenProcedure p = Some p.body × WrittenAll p.body
