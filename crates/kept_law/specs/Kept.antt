-- What the tree of a short text has before its calls are expanded, and after: places of the text, numbers that a text can have, and no empty list in a case, a branch or a procedure.
-- Assumes nothing.
use Rattle.std.specs.Prelude.{◌≡◌, List, [], ◌∷◌, ℕ, ◌≤◌}
use Rattle.meaning.specs.Tree.{Name, Target, whole, part}
use Rattle.meaning.specs.Declared.{Declaration, inputs, outputs, internals, integers}
use Rattle.meaning.specs.Unexpanded.{Term, literal, truth, variable, bit, not, int, arithmetic, comparison, logic, parens, instead, no_name, Command, skip, delay, change, assign, choice, while, loop, exit, break, switch, parallel, call, passing, Commands, end, ◌⨾◌, Tests, default, case, Strands, none, ◌∥◌, Procedure, DeclaredName, a_variable, a_procedure, Unexpanded}
use Rattle.meaning.specs.Expansion.{Bound}
use Rattle.language.specs.Words.{Word, number, largest_number}
use Rattle.language.specs.Trees.{number_at}
use Rattle.language.specs.Texts.{most_bytes}

abbrev pub Every : {A : Type 0} → (A → Type 0) → List A → Type 0
Every P [] = Unit
Every P (x ∷ l) = P x × Every P l

-- a place of a short text, or its end
abbrev pub Near : ℕ → Type 0
Near p = p ≤ most_bytes

-- a word of a short text
abbrev pub LowWord : Word → Type 0
LowWord w = Near w.place × (w.kind ≡ number → number_at w ≤ largest_number)

abbrev pub LowName : Name → Type 0
LowName v = Near v.place

unfoldable pub LowTerm : Term → Type 0
LowTerm (literal p n) = Near p × (n ≤ largest_number)
LowTerm (truth p b) = Near p
LowTerm (variable v) = LowName v
LowTerm (bit v j) = LowName v
LowTerm (not p e) = Near p × LowTerm e
LowTerm (int p e) = Near p × LowTerm e
LowTerm (arithmetic o p a b) = Near p × (LowTerm a × LowTerm b)
LowTerm (comparison o p a b) = Near p × (LowTerm a × LowTerm b)
LowTerm (logic o p a b) = Near p × (LowTerm a × LowTerm b)
LowTerm (parens e) = LowTerm e
LowTerm (instead e) = LowTerm e
LowTerm (no_name p) = Near p

abbrev pub LowTarget : Target Name → Type 0
LowTarget (whole v) = LowName v
LowTarget (part v j) = LowName v

-- one statement or more
abbrev pub Some : Commands → Type 0
Some end = ⊥
Some (l ⨾ ls) = Unit {0}

unfoldable mutual
  pub Kept : Command → Type 0
  Kept (skip p) = Near p
  Kept (delay p q n) = Near p × Near q
  Kept (change p c t) = Near p × LowTarget t
  Kept (assign v e) = LowName v × LowTerm e
  Kept (choice p e a b) = Near p × (LowTerm e × (KeptAll a × KeptAll b))
  Kept (while p e b) = Near p × (LowTerm e × KeptAll b)
  Kept (loop p b) = Near p × KeptAll b
  Kept (exit p) = Near p
  Kept (break p) = Near p
  Kept (switch p ts) = Near p × KeptTests ts
  Kept (parallel p bs) = Near p × KeptEach bs
  Kept (call v ts) = LowName v × Every LowTerm ts
  Kept (passing p k) = Near p

  pub KeptAll : Commands → Type 0
  KeptAll end = Unit {0}
  KeptAll (l ⨾ ls) = Kept l × KeptAll ls

  pub KeptTests : Tests → Type 0
  KeptTests (default d) = KeptAll d
  KeptTests (case p e b ts) = Near p × (LowTerm e × (Some b × (KeptAll b × KeptTests ts)))

  pub KeptEach : Strands → Type 0
  KeptEach none = Unit {0}
  KeptEach (b ∥ bs) = Some b × (KeptAll b × KeptEach bs)

-- the place of a declared name, and of an integer's width
abbrev pub LowDeclared : Declaration → Type 0
LowDeclared (inputs n e) = LowName n
LowDeclared (outputs n e b) = LowName n
LowDeclared (internals n e b) = LowName n
LowDeclared (integers n p w v) = LowName n × Near p

pub record KeptProcedure (p : Procedure) : Type 0 where
  pub name : LowName p.name
  pub formals : Every LowName p.formals
  pub some : Some p.body
  pub body : KeptAll p.body

abbrev pub KeptDeclared : DeclaredName → Type 0
KeptDeclared (a_variable d) = LowDeclared d
KeptDeclared (a_procedure p) = KeptProcedure p

pub record KeptProgram (w : Unexpanded) : Type 0 where
  pub declared : Every KeptDeclared w.declared
  pub body : KeptAll w.body

-- what formals stand for
abbrev pub LowBound : Bound Term → Type 0
LowBound b = LowTerm b.actual
