-- The tree of a program: declarations, statements and expressions, each with its place in the text.
-- Names stand for what N says: in the tree of a text for a name, in a checked program for a variable.
-- Assumes nothing.
use Rattle.std.specs.Prelude.{ℕ, Bool, List}

-- a name where it stands
pub record Name : Type 0 where
  pub bytes : List ℕ
  pub place : ℕ

-- G7
pub data Arithmetic : Type 0 where
  plus minus times quotient remainder : Arithmetic

-- G7
pub data Comparison : Type 0 where
  equal unequal greater less : Comparison

-- G7
pub data Logic : Type 0 where
  and or : Logic

-- an operator's place is its own, a literal's its first byte; parentheses leave no trace
pub data Expr (N : Type 0) : Type 0 where
  literal : ℕ → ℕ → Expr N
  truth : ℕ → Bool → Expr N
  variable : N → Expr N
  bit : N → ℕ → Expr N
  not : ℕ → Expr N → Expr N
  int : ℕ → Expr N → Expr N
  arithmetic : Arithmetic → ℕ → Expr N → Expr N → Expr N
  comparison : Comparison → ℕ → Expr N → Expr N → Expr N
  logic : Logic → ℕ → Expr N → Expr N → Expr N

-- G6: what changes a boolean or a bit
pub data Change : Type 0 where
  raise lower invert : Change

pub data Target (N : Type 0) : Type 0 where
  whole : N → Target N
  part : N → ℕ → Target N

-- the place of a statement is that of its first word, and its number the one among all statements and case tests in text order
pub record Head : Type 0 where
  pub place : ℕ
  pub number : ℕ

infixr 20 ◌⨾◌
infixr 20 ◌∥◌
mutual
  pub data Stmt (N : Type 0) : Type 0 where
    skip : Head → Stmt N
    delay : Head → ℕ → ℕ → Stmt N
    change : Head → Change → Target N → Stmt N
    assign : Head → N → Expr N → Stmt N
    choice : Head → Expr N → Stmts N → Stmts N → Stmt N
    while : Head → Expr N → Stmts N → Stmt N
    loop : Head → Stmts N → Stmt N
    exit : Head → Stmt N
    break : Head → Stmt N
    switch : Head → Cases N → Stmt N
    parallel : Head → Branches N → Stmt N

  -- G5: a list; an `if` without `else` has an empty one there
  pub data Stmts (N : Type 0) : Type 0 where
    end : Stmts N
    ◌⨾◌ : Stmt N → Stmts N → Stmts N

  -- G6: cases, and the default last
  pub data Cases (N : Type 0) : Type 0 where
    default : Stmts N → Cases N
    case : Head → Expr N → Stmts N → Cases N → Cases N

  pub data Branches (N : Type 0) : Type 0 where
    none : Branches N
    ◌∥◌ : Stmts N → Branches N → Branches N
