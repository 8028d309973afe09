-- The tree of a program before its calls are expanded: with procedures, calls and parentheses. What it means stands in Expansion.
-- Assumes nothing.
use Rattle.std.specs.Prelude.{ℕ, Bool, List, []}
use Rattle.meaning.specs.Tree.{Name, Arithmetic, Comparison, Logic, Change, Target}
use Rattle.meaning.specs.Declared.{Declaration}

-- P8: a name that none can have, so it is unknown
abbrev pub nameless : ℕ → Name
nameless p = record { bytes = []; place = p }

-- an expression as in Tree, with its parentheses, which are levels (G9)
pub data Term : Type 0 where
  literal : ℕ → ℕ → Term
  truth : ℕ → Bool → Term
  variable : Name → Term
  bit : Name → ℕ → Term
  not : ℕ → Term → Term
  int : ℕ → Term → Term
  arithmetic : Arithmetic → ℕ → Term → Term → Term
  comparison : Comparison → ℕ → Term → Term → Term
  logic : Logic → ℕ → Term → Term → Term
  parens : Term → Term
  -- made by expansion alone: an actual in a formal's stead (P5), and a bit of an actual that is no name (P8)
  instead : Term → Term
  no_name : ℕ → Term

infixr 20 ◌⨾◌
infixr 20 ◌∥◌
mutual
  -- a statement as in Tree, by its place; or a call (P2). In an expansion the calls that still stand are those that are refused (P7)
  pub data Command : Type 0 where
    skip : ℕ → Command
    delay : ℕ → ℕ → ℕ → Command
    change : ℕ → Change → Target Name → Command
    assign : Name → Term → Command
    choice : ℕ → Term → Commands → Commands → Command
    while : ℕ → Term → Commands → Command
    loop : ℕ → Commands → Command
    exit : ℕ → Command
    break : ℕ → Command
    switch : ℕ → Tests → Command
    parallel : ℕ → Strands → Command
    call : Name → List Term → Command
    -- made by expansion alone: an outermost call that passes a size by itself (P13), with its activities (P14)
    passing : ℕ → ℕ → Command

  pub data Commands : Type 0 where
    end : Commands
    ◌⨾◌ : Command → Commands → Commands

  pub data Tests : Type 0 where
    default : Commands → Tests
    case : ℕ → Term → Commands → Tests → Tests

  pub data Strands : Type 0 where
    none : Strands
    ◌∥◌ : Commands → Strands → Strands

-- P1
pub record Procedure : Type 0 where
  pub name : Name
  pub formals : List Name
  pub body : Commands

-- G1: what stands among the declarations
pub data DeclaredName : Type 0 where
  a_variable : Declaration → DeclaredName
  a_procedure : Procedure → DeclaredName

pub record Unexpanded : Type 0 where
  pub name : List ℕ
  pub declared : List DeclaredName
  pub body : Commands
