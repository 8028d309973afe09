-- N2: unknown names and names declared again, fault 6 at the name.
-- Assumes nothing.
use Rattle.std.specs.Prelude.{ℕ, Bool, true, false, cond, List, [], ◌∷◌, ◌++◌}
use Rattle.std.proofs.Math.Option.{Option, none, some}
use Rattle.meaning.specs.Tree.{Name, Expr, literal, truth, variable, bit, not, int, arithmetic, comparison, logic, Target, whole, part, Stmt, skip, delay, change, assign, choice, while, loop, exit, break, switch, parallel}
use Rattle.meaning.specs.Declared.{Declaration, Source, name_of, same_bytes, look_up}
use Rattle.meaning.specs.Items.{Item, statement, test, items_all, parts_of}

-- what f gives for each element, one after the other
unfoldable pub gather : {A B : Type 0} → (A → List B) → List A → List B
gather f [] = []
gather f (a ∷ l) = f a ++ gather f l

-- a place where the test holds, and none where not
abbrev pub when : Bool → ℕ → List ℕ
when true p = p ∷ []
when false p = []

abbrev pub missing : {A : Type 0} → Option A → Bool
missing none = true
missing (some a) = false

unfoldable pub among : List ℕ → List Declaration → Bool
among x [] = false
among x (d ∷ ds) = cond (same_bytes (name_of d).bytes x) true (among x ds)

-- N1, N2: a name that a declaration before it has; the program's own name is not looked at
unfoldable pub again_from : List Declaration → List Declaration → List ℕ
again_from earlier [] = []
again_from earlier (d ∷ ds) = when (among (name_of d).bytes earlier) (name_of d).place ++ again_from (d ∷ earlier) ds

-- the names that a part, or a statement itself, uses
abbrev pub names_in : Expr Name → List Name
names_in (literal p n) = []
names_in (truth p b) = []
names_in (variable v) = v ∷ []
names_in (bit v j) = v ∷ []
names_in (not p e) = []
names_in (int p e) = []
names_in (arithmetic o p a b) = []
names_in (comparison o p a b) = []
names_in (logic o p a b) = []

abbrev pub target_name : Target Name → Name
target_name (whole v) = v
target_name (part v j) = v

abbrev pub changed_in : Stmt Name → List Name
changed_in (skip h) = []
changed_in (delay h p n) = []
changed_in (change h c t) = target_name t ∷ []
changed_in (assign h v e) = v ∷ []
changed_in (choice h e a b) = []
changed_in (while h e b) = []
changed_in (loop h b) = []
changed_in (exit h) = []
changed_in (break h) = []
changed_in (switch h cs) = []
changed_in (parallel h bs) = []

abbrev pub changed_by : Item → List Name
changed_by (statement s) = changed_in s
changed_by (test h e) = []

abbrev pub unknown : List Declaration → Name → List ℕ
unknown ds n = when (missing (look_up ds n.bytes)) n.place

unfoldable pub name_faults : Source → List ℕ
name_faults s =
    again_from [] s.declared
    ++ (gather (unknown s.declared) (gather changed_by (items_all s.body))
    ++ gather (unknown s.declared) (gather names_in (parts_of (items_all s.body))))
