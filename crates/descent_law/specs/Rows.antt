-- What each row of a statement, and of the lists around it, says of what its words come to.
-- Assumes nothing.
use Rattle.std.specs.Prelude.{◌≡◌, List, [], ◌∷◌, ℕ, zero, suc}
use Rattle.std.proofs.Math.Option.{Option}
use Rattle.meaning.specs.Tree.{Change, raise, lower, invert, Target}
use Rattle.meaning.specs.Unexpanded.{Term, Command, skip, delay, change, assign, choice, while, loop, exit, break, switch, parallel, call, Commands, end, ◌⨾◌, Tests, default, case, Strands, ◌∥◌}
use Rattle.meaning.specs.Unexpanded as unexpanded
use Rattle.language.specs.Words.{number, Word}
use Rattle.language.specs.Grammar.{Expression, Statements, AfterStatement, NextStatement, Statement, Else, Cases, Branches, Index, AfterName, Actuals, MoreActuals}
use Rattle.language.specs.Grammar as grammar
use Rattle.language.specs.Trees.{Name, name_at, number_at, whole_or_part}
use Rattle.descent_law.specs.Told.{Told}

abbrev Text : Type 0
Text = List Word

-- a statement, and what follows it
abbrev pub StatementsRow : ℕ → ℕ → Text → Commands → Text → Type 0
StatementsRow f k ws v rest = (mid : Text) × (x : Command) × (ss : Commands) × Told f Statement k ws x mid × Told f AfterStatement k mid ss rest × (v ≡ x ⨾ ss)

-- the end of the list; or a `;`
abbrev pub AfterRow : ℕ → ℕ → Text → Commands → Text → ℕ → Type 0
AfterRow f k ws v rest zero = (v ≡ end) × (ws ≡ rest)
AfterRow f k ws v rest (suc i) = (w : Word) × (tail : Text) × (ws ≡ w ∷ tail) × Told f NextStatement k tail v rest

-- nothing behind a spare `;`; or further statements
abbrev pub NextRow : ℕ → ℕ → Text → Commands → Text → ℕ → Type 0
NextRow f k ws v rest zero = (v ≡ end) × (ws ≡ rest)
NextRow f k ws v rest (suc i) = Told f Statements k ws v rest

-- no `else`; or one with its statements
abbrev pub ElseRow : ℕ → ℕ → Text → Commands → Text → ℕ → Type 0
ElseRow f k ws v rest zero = (v ≡ end) × (ws ≡ rest)
ElseRow f k ws v rest (suc i) = (w : Word) × (tail : Text) × (ws ≡ w ∷ tail) × Told f Statements k tail v rest

-- no case more; or one, and those behind it, up to a default that is told later
abbrev pub CasesRow : ℕ → ℕ → Text → (Commands → Tests) → Text → ℕ → Type 0
CasesRow f k ws g rest zero = (g ≡ (λ last. default last)) × (ws ≡ rest)
CasesRow f k ws g rest (suc i) =
    (w : Word) × (c : Word) × (tail : Text) × (mid : Text) × (low : Text) × (e : Term) × (b : Commands) × (h : Commands → Tests)
    × (ws ≡ w ∷ tail) × Told f Expression k tail e (c ∷ mid) × Told f Statements k mid b low × Told f Cases k low h rest × (g ≡ (λ last. case w.place e b (h last)))

-- no branch more; or `||`, one, and those behind it
abbrev pub BranchesRow : ℕ → ℕ → Text → Strands → Text → ℕ → Type 0
BranchesRow f k ws v rest zero = (v ≡ unexpanded.none) × (ws ≡ rest)
BranchesRow f k ws v rest (suc i) =
    (w : Word) × (tail : Text) × (mid : Text) × (b : Commands) × (bs : Strands) × (ws ≡ w ∷ tail) × Told f Statements k tail b mid × Told f Branches k mid bs rest × (v ≡ b ∥ bs)

-- a name, with a bit or without
abbrev pub TargetRow : ℕ → ℕ → Text → Target Name → Text → Type 0
TargetRow f k ws v rest = (w : Word) × (tail : Text) × (j : Option ℕ) × (ws ≡ w ∷ tail) × Told f Index k tail j rest × (v ≡ whole_or_part (name_at w) j)

-- `raise`, `lower` or `invert`, and in parentheses, one level down, what it changes
abbrev pub ChangeRow : ℕ → ℕ → Text → Command → Text → Change → Type 0
ChangeRow f k ws v rest ch =
    (w : Word) × (o : Word) × (c : Word) × (m : ℕ) × (tail : Text) × (t : Target Name) × (ws ≡ w ∷ o ∷ tail) × (k ≡ suc m) × Told f grammar.Target m tail t (c ∷ rest) × (v ≡ change w.place ch t)

-- behind a name, `:=` and an expression; or in parentheses, one level down, what is handed to a procedure
abbrev pub AfterNameRow : ℕ → ℕ → Text → (Name → Command) → Text → ℕ → Type 0
AfterNameRow f k ws g rest zero = (w : Word) × (tail : Text) × (e : Term) × (ws ≡ w ∷ tail) × Told f Expression k tail e rest × (g ≡ (λ n. assign n e))
AfterNameRow f k ws g rest (suc i) =
    (o : Word) × (c : Word) × (m : ℕ) × (tail : Text) × (ts : List Term) × (ws ≡ o ∷ tail) × (k ≡ suc m) × Told f Actuals m tail ts (c ∷ rest) × (g ≡ (λ n. call n ts))

-- no actual; or one, and those behind it
abbrev pub ActualsRow : ℕ → ℕ → Text → List Term → Text → ℕ → Type 0
ActualsRow f k ws v rest zero = (v ≡ []) × (ws ≡ rest)
ActualsRow f k ws v rest (suc i) = (mid : Text) × (e : Term) × (ts : List Term) × Told f Expression k ws e mid × Told f MoreActuals k mid ts rest × (v ≡ e ∷ ts)

-- no actual more; or a `,`, one, and those behind it
abbrev pub MoreActualsRow : ℕ → ℕ → Text → List Term → Text → ℕ → Type 0
MoreActualsRow f k ws v rest zero = (v ≡ []) × (ws ≡ rest)
MoreActualsRow f k ws v rest (suc i) =
    (w : Word) × (tail : Text) × (mid : Text) × (e : Term) × (ts : List Term) × (ws ≡ w ∷ tail) × Told f Expression k tail e mid × Told f MoreActuals k mid ts rest × (v ≡ e ∷ ts)

-- row i of a statement
abbrev pub StatementRow : ℕ → ℕ → Text → Command → Text → ℕ → Type 0
StatementRow f k ws v rest zero = (w : Word) × (ws ≡ w ∷ rest) × (v ≡ skip w.place)
StatementRow f k ws v rest (suc zero) = (w : Word) × (n : Word) × (ws ≡ w ∷ n ∷ rest) × (n.kind ≡ number) × (v ≡ delay w.place n.place (number_at n))
StatementRow f k ws v rest (suc (suc zero)) = ChangeRow f k ws v rest raise
StatementRow f k ws v rest (suc (suc (suc zero))) = ChangeRow f k ws v rest lower
StatementRow f k ws v rest (suc (suc (suc (suc zero)))) = ChangeRow f k ws v rest invert
StatementRow f k ws v rest (suc (suc (suc (suc (suc zero))))) =
    (w : Word) × (tail : Text) × (g : Name → Command) × (ws ≡ w ∷ tail) × Told f AfterName k tail g rest × (v ≡ g (name_at w))
StatementRow f k ws v rest (suc (suc (suc (suc (suc (suc zero)))))) =
    (w : Word) × (t : Word) × (x : Word) × (m : ℕ) × (tail : Text) × (mid : Text) × (low : Text) × (e : Term) × (a : Commands) × (b : Commands)
    × (ws ≡ w ∷ tail) × (k ≡ suc m) × Told f Expression m tail e (t ∷ mid) × Told f Statements m mid a low × Told f Else m low b (x ∷ rest) × (v ≡ choice w.place e a b)
StatementRow f k ws v rest (suc (suc (suc (suc (suc (suc (suc zero))))))) =
    (w : Word) × (d : Word) × (l : Word) × (x : Word) × (m : ℕ) × (tail : Text) × (mid : Text) × (e : Term) × (b : Commands)
    × (ws ≡ w ∷ tail) × (k ≡ suc m) × Told f Expression m tail e (d ∷ l ∷ mid) × Told f Statements m mid b (x ∷ rest) × (v ≡ while w.place e b)
StatementRow f k ws v rest (suc (suc (suc (suc (suc (suc (suc (suc zero)))))))) =
    (w : Word) × (x : Word) × (m : ℕ) × (tail : Text) × (b : Commands) × (ws ≡ w ∷ tail) × (k ≡ suc m) × Told f Statements m tail b (x ∷ rest) × (v ≡ loop w.place b)
StatementRow f k ws v rest (suc (suc (suc (suc (suc (suc (suc (suc (suc zero))))))))) = (w : Word) × (ws ≡ w ∷ rest) × (v ≡ exit w.place)
StatementRow f k ws v rest (suc (suc (suc (suc (suc (suc (suc (suc (suc (suc zero)))))))))) =
    (w : Word) × (c : Word) × (o : Word) × (d : Word) × (p : Word) × (x : Word) × (m : ℕ) × (tail : Text) × (m₁ : Text) × (m₂ : Text) × (m₃ : Text) × (e : Term) × (b : Commands) × (g : Commands → Tests) × (z : Commands)
    × (ws ≡ w ∷ c ∷ tail) × (k ≡ suc m) × Told f Expression m tail e (o ∷ m₁) × Told f Statements m m₁ b m₂ × Told f Cases m m₂ g (d ∷ p ∷ m₃) × Told f Statements m m₃ z (x ∷ rest) × (v ≡ switch w.place (case c.place e b (g z)))
StatementRow f k ws v rest (suc (suc (suc (suc (suc (suc (suc (suc (suc (suc (suc zero))))))))))) = (w : Word) × (ws ≡ w ∷ rest) × (v ≡ break w.place)
StatementRow f k ws v rest (suc (suc (suc (suc (suc (suc (suc (suc (suc (suc (suc (suc zero)))))))))))) =
    (w : Word) × (o : Word) × (x : Word) × (m : ℕ) × (tail : Text) × (m₁ : Text) × (m₂ : Text) × (a : Commands) × (b : Commands) × (c : Strands)
    × (ws ≡ w ∷ tail) × (k ≡ suc m) × Told f Statements m tail a (o ∷ m₁) × Told f Statements m m₁ b m₂ × Told f Branches m m₂ c (x ∷ rest) × (v ≡ parallel w.place (a ∥ b ∥ c))
StatementRow f k ws v rest (suc (suc (suc (suc (suc (suc (suc (suc (suc (suc (suc (suc (suc i))))))))))))) = ⊥
