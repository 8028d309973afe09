-- All that is faulted in such a body stands at places of the text.
-- Assumes nothing.
use mathlib.Core.Bool.{Bool, true, false, not as opposite}
use mathlib.Core.List.{List, [], ◌∷◌, ◌++◌, map}
use Prim.Native.Nat.{ℕ, zero, suc}
use lib.Dec.{ltb}
use lib.ListN.{drop}
use Rattle.meaning.specs.Tree.{Name, Expr, literal, truth, variable, bit, not, int, arithmetic, comparison, logic, whole, part, Stmt, skip, delay, change, assign, choice, while, loop, exit, break, switch, parallel, Stmts, end, ◌⨾◌, Cases, default, case, Branches, none, ◌∥◌}
use Rattle.meaning.specs.Clock.{activities_sum}
use Rattle.meaning.specs.States.{most_activities}
use Rattle.meaning.specs.Declared.{Declaration, Source, look_up}
use Rattle.meaning.specs.Items.{Item, statement, test, items, items_all, items_cases, items_each, within, own, parts_of, place_of}
use Rattle.meaning.specs.Names.{gather, when, missing, names_in, changed_by, unknown}
use Rattle.meaning.specs.Kinds.{is_truth, is_whole, both, kind_of, has_bit, comparable, changeable, assignable, part_kind, item_kind, kind_faults}
use Rattle.meaning.specs.Jumps.{jump_in, jump_all, jump_cases, jump_each, jump_faults}
use Rattle.meaning.specs.Sizes.{most_statements, most_parts, most_delay, statement_place, item_size}
use Rattle.meaning.specs.Worst.{most_size, combined, worst, part_worst, worst_faults}
use Rattle.kept_law.specs.Kept.{Every, Near, LowName}
use Rattle.places_law.specs.Places.{Low, LowExpr, LowStmt, LowAll, LowCases, LowEach, LowItem}

-- ---- lists of places

pub low-append : (a b : List ℕ) → Low a → Low b → Low (a ++ b)
low-append [] b x y = y
low-append (p ∷ a) b (h, x) y = (h, low-append a b x y)

pub low-when : (t : Bool) (p : ℕ) → Near p → Low (when t p)
low-when true p h = (h, tt)
low-when false p h = tt

pub low-drop : (k : ℕ) (l : List ℕ) → Low l → Low (drop k l)
low-drop zero [] x = tt
low-drop zero (p ∷ l) x = x
low-drop (suc k) [] x = tt
low-drop (suc k) (p ∷ l) (h, x) = low-drop k l x

every_append : {A : Type 0} (P : A → Type 0) (a b : List A) → Every P a → Every P b → Every P (a ++ b)
every_append P [] b x y = y
every_append P (p ∷ a) b (h, x) y = (h, every_append P a b x y)

module _ {A : Type 0} (P : A → Type 0) where
  pub gather-low : (f : A → List ℕ) → ((a : A) → P a → Low (f a)) → (l : List A) → Every P l → Low (gather f l)
  unfolding gather
  gather-low f g [] x = tt
  gather-low f g (a ∷ l) (h, x) = low-append (f a) (gather f l) (g a h) (gather-low f g l x)

  gather-every : {B : Type 0} (Q : B → Type 0) (f : A → List B) → ((a : A) → P a → Every Q (f a)) → (l : List A) → Every P l → Every Q (gather f l)
  unfolding gather
  gather-every Q f g [] x = tt
  gather-every Q f g (a ∷ l) (h, x) = every_append Q (f a) (gather f l) (g a h) (gather-every Q f g l x)

  map-low : (f : A → ℕ) → ((a : A) → P a → Near (f a)) → (l : List A) → Every P l → Low (map f l)
  map-low f g [] x = tt
  map-low f g (a ∷ l) (h, x) = (g a h, map-low f g l x)

-- ---- the items of a body, and their parts

mutual
  unfolding items LowStmt

  items-low : (v : Stmt Name) → LowStmt v → Every LowItem (items v)
  items-low (skip h) x = (x, tt)
  items-low (delay h p n) x = (x, tt)
  items-low (change h c t) x = (x, tt)
  items-low (assign h v e) x = (x, tt)
  items-low (choice h e a b) x = (x, every_append LowItem (items_all a) (items_all b) (all-low a x.1.1.0) (all-low b x.1.1.1))
  items-low (while h e b) x = (x, all-low b x.1.1)
  items-low (loop h b) x = (x, all-low b x.1)
  items-low (exit h) x = (x, tt)
  items-low (break h) x = (x, tt)
  items-low (switch h cs) x = (x, cases_low cs x.1)
  items-low (parallel h bs) x = (x, each-low bs x.1)

  pub all-low : (v : Stmts Name) → LowAll v → Every LowItem (items_all v)
  all-low end x = tt
  all-low (s ⨾ ss) (x, y) = every_append LowItem (items s) (items_all ss) (items-low s x) (all-low ss y)

  cases_low : (v : Cases Name) → LowCases v → Every LowItem (items_cases v)
  cases_low (default d) x = all-low d x
  cases_low (case h e b cs) (p, (x, (y, z))) = ((p, x), every_append LowItem (items_all b) (items_cases cs) (all-low b y) (cases_low cs z))

  each-low : (v : Branches Name) → LowEach v → Every LowItem (items_each v)
  each-low none x = tt
  each-low (b ∥ bs) (x, y) = every_append LowItem (items_all b) (items_each bs) (all-low b x) (each-low bs y)

within_low : (e : Expr Name) → LowExpr e → Every LowExpr (within e)
unfolding within LowExpr
within_low (literal p n) x = (x, tt)
within_low (truth p b) x = (x, tt)
within_low (variable v) x = (x, tt)
within_low (bit v j) x = (x, tt)
within_low (not p e) x = (x, within_low e x.1)
within_low (int p e) x = (x, within_low e x.1)
within_low (arithmetic o p a b) x = every_append LowExpr (within a) (arithmetic o p a b ∷ within b) (within_low a x.1.0) (x, within_low b x.1.1)
within_low (comparison o p a b) x = every_append LowExpr (within a) (comparison o p a b ∷ within b) (within_low a x.1.0) (x, within_low b x.1.1)
within_low (logic o p a b) x = every_append LowExpr (within a) (logic o p a b ∷ within b) (within_low a x.1.0) (x, within_low b x.1.1)

own-low : (i : Item) → LowItem i → Every LowExpr (own i)
unfolding LowStmt
own-low (statement (skip h)) x = tt
own-low (statement (delay h p n)) x = tt
own-low (statement (change h c t)) x = tt
own-low (statement (assign h v e)) x = within_low e x.1.1
own-low (statement (choice h e a b)) x = within_low e x.1.0
own-low (statement (while h e b)) x = within_low e x.1.0
own-low (statement (loop h b)) x = tt
own-low (statement (exit h)) x = tt
own-low (statement (break h)) x = tt
own-low (statement (switch h cs)) x = tt
own-low (statement (parallel h bs)) x = tt
own-low (test h e) x = within_low e x.1

pub parts_low : (l : List Item) → Every LowItem l → Every LowExpr (parts_of l)
unfolding parts_of
parts_low [] x = tt
parts_low (i ∷ l) (h, x) = every_append LowExpr (own i) (parts_of l) (own-low i h) (parts_low l x)

-- ---- the faults of one item, and of one part

names-low : (e : Expr Name) → LowExpr e → Every LowName (names_in e)
unfolding LowExpr
names-low (literal p n) x = tt
names-low (truth p b) x = tt
names-low (variable v) x = (x, tt)
names-low (bit v j) x = (x, tt)
names-low (not p e) x = tt
names-low (int p e) x = tt
names-low (arithmetic o p a b) x = tt
names-low (comparison o p a b) x = tt
names-low (logic o p a b) x = tt

changed-low : (i : Item) → LowItem i → Every LowName (changed_by i)
unfolding LowStmt
changed-low (statement (skip h)) x = tt
changed-low (statement (delay h p n)) x = tt
changed-low (statement (change h c (whole v))) x = (x.1, tt)
changed-low (statement (change h c (part v j))) x = (x.1, tt)
changed-low (statement (assign h v e)) x = (x.1.0, tt)
changed-low (statement (choice h e a b)) x = tt
changed-low (statement (while h e b)) x = tt
changed-low (statement (loop h b)) x = tt
changed-low (statement (exit h)) x = tt
changed-low (statement (break h)) x = tt
changed-low (statement (switch h cs)) x = tt
changed-low (statement (parallel h bs)) x = tt
changed-low (test h e) x = tt

place-low : (e : Expr Name) → LowExpr e → Near (place_of e)
unfolding LowExpr
place-low (literal p n) x = x.0
place-low (truth p b) x = x
place-low (variable v) x = x
place-low (bit v j) x = x
place-low (not p e) x = x.0
place-low (int p e) x = x.0
place-low (arithmetic o p a b) x = x.0
place-low (comparison o p a b) x = x.0
place-low (logic o p a b) x = x.0

statement-low : (i : Item) → LowItem i → Low (statement_place i)
unfolding LowStmt
statement-low (statement (skip h)) x = (x, tt)
statement-low (statement (delay h p n)) x = (x.0, tt)
statement-low (statement (change h c t)) x = (x.0, tt)
statement-low (statement (assign h v e)) x = (x.0, tt)
statement-low (statement (choice h e a b)) x = (x.0, tt)
statement-low (statement (while h e b)) x = (x.0, tt)
statement-low (statement (loop h b)) x = (x.0, tt)
statement-low (statement (exit h)) x = (x, tt)
statement-low (statement (break h)) x = (x, tt)
statement-low (statement (switch h cs)) x = (x.0, tt)
statement-low (statement (parallel h bs)) x = (x.0, tt)
statement-low (test h e) x = tt

size_low : (i : Item) → LowItem i → Low (item_size i)
unfolding LowStmt
size_low (statement (skip h)) x = tt
size_low (statement (delay h p n)) x = low-when (ltb most_delay n) p x.1
size_low (statement (change h c t)) x = tt
size_low (statement (assign h v e)) x = tt
size_low (statement (choice h e a b)) x = tt
size_low (statement (while h e b)) x = tt
size_low (statement (loop h b)) x = tt
size_low (statement (exit h)) x = tt
size_low (statement (break h)) x = tt
size_low (statement (switch h cs)) x = tt
size_low (statement (parallel h bs)) x = low-when (ltb most_activities (activities_sum bs)) h.place x.0
size_low (test h e) x = tt

module _ (ds : List Declaration) where
  unknown-low : (v : Name) → LowName v → Low (unknown ds v)
  unknown-low v h = low-when (missing (look_up ds v.bytes)) v.place h

  kind-low : (i : Item) → LowItem i → Low (item_kind ds i)
  unfolding LowStmt
  kind-low (statement (skip h)) x = tt
  kind-low (statement (delay h p n)) x = tt
  kind-low (statement (change h c (whole v))) x = low-when (opposite (changeable (look_up ds v.bytes))) h.place x.0
  kind-low (statement (change h c (part v j))) x = low-when (opposite (has_bit (look_up ds v.bytes) j)) v.place x.1
  kind-low (statement (assign h v e)) x = low-when (opposite (both (assignable (look_up ds v.bytes)) (is_whole (kind_of ds e)))) v.place x.1.0
  kind-low (statement (choice h e a b)) x = low-when (is_whole (kind_of ds e)) h.place x.0
  kind-low (statement (while h e b)) x = low-when (is_whole (kind_of ds e)) h.place x.0
  kind-low (statement (loop h b)) x = tt
  kind-low (statement (exit h)) x = tt
  kind-low (statement (break h)) x = tt
  kind-low (statement (switch h cs)) x = tt
  kind-low (statement (parallel h bs)) x = tt
  kind-low (test h e) x = low-when (is_whole (kind_of ds e)) h.place x.0

  part_low : (e : Expr Name) → LowExpr e → Low (part_kind ds e)
  unfolding LowExpr
  part_low (literal p n) x = tt
  part_low (truth p b) x = tt
  part_low (variable v) x = tt
  part_low (bit v j) x = low-when (opposite (has_bit (look_up ds v.bytes) j)) v.place x
  part_low (not p e) x = low-when (is_whole (kind_of ds e)) p x.0
  part_low (int p e) x = low-when (is_whole (kind_of ds e)) p x.0
  part_low (arithmetic o p a b) x = low-when (opposite (both (is_whole (kind_of ds a)) (is_whole (kind_of ds b)))) p x.0
  part_low (comparison o p a b) x = low-when (opposite (comparable o (kind_of ds a) (kind_of ds b))) p x.0
  part_low (logic o p a b) x = low-when (opposite (both (is_truth (kind_of ds a)) (is_truth (kind_of ds b)))) p x.0

  worst-low : (e : Expr Name) → LowExpr e → Low (part_worst ds e)
  unfolding LowExpr
  worst-low (literal p n) x = tt
  worst-low (truth p b) x = tt
  worst-low (variable v) x = tt
  worst-low (bit v j) x = tt
  worst-low (not p e) x = tt
  worst-low (int p e) x = tt
  worst-low (arithmetic o p a b) x = low-when (ltb most_size (combined o (worst (λ v. look_up ds v.bytes) a) (worst (λ v. look_up ds v.bytes) b))) p x.0
  worst-low (comparison o p a b) x = tt
  worst-low (logic o p a b) x = tt

mutual
  unfolding jump_in LowStmt

  jump_low : (v : Stmt Name) (l b : Bool) → LowStmt v → Low (jump_in v l b)
  jump_low (skip h) l b x = tt
  jump_low (delay h p n) l b x = tt
  jump_low (change h c t) l b x = tt
  jump_low (assign h v e) l b x = tt
  jump_low (choice h e y z) l b x = low-append (jump_all y l b) (jump_all z l b) (jumps-low y l b x.1.1.0) (jumps-low z l b x.1.1.1)
  jump_low (while h e y) l b x = jumps-low y true b x.1.1
  jump_low (loop h y) l b x = jumps-low y true b x.1
  jump_low (exit h) l b x = low-when (opposite l) h.place x
  jump_low (break h) l b x = low-when (opposite b) h.place x
  jump_low (switch h cs) l b x = jump_cases_low cs l true x.1
  jump_low (parallel h bs) l b x = jump_each-low bs l true x.1

  jumps-low : (v : Stmts Name) (l b : Bool) → LowAll v → Low (jump_all v l b)
  jumps-low end l b x = tt
  jumps-low (s ⨾ ss) l b (x, y) = low-append (jump_in s l b) (jump_all ss l b) (jump_low s l b x) (jumps-low ss l b y)

  jump_cases_low : (v : Cases Name) (l b : Bool) → LowCases v → Low (jump_cases v l b)
  jump_cases_low (default d) l b x = jumps-low d l b x
  jump_cases_low (case h e y cs) l b x = low-append (jump_all y l b) (jump_cases cs l b) (jumps-low y l b x.1.1.0) (jump_cases_low cs l b x.1.1.1)

  jump_each-low : (v : Branches Name) (l b : Bool) → LowEach v → Low (jump_each v l b)
  jump_each-low none l b x = tt
  jump_each-low (y ∥ bs) l b (x, z) = low-append (jump_all y l b) (jump_each bs l b) (jumps-low y l b x) (jump_each-low bs l b z)

-- ---- the faults of a body

module _ (p : Source) (x : LowAll p.body) where
  abbrev body : List Item
  body = items_all p.body

  its : Every LowItem body
  its = all-low p.body x

  pub six_low : Low (gather (unknown p.declared) (gather changed_by body) ++ gather (unknown p.declared) (gather names_in (parts_of body)))
  six_low =
      low-append (gather (unknown p.declared) (gather changed_by body)) (gather (unknown p.declared) (gather names_in (parts_of body)))
      (gather-low LowName (unknown p.declared) (unknown-low p.declared) (gather changed_by body) (gather-every LowItem LowName changed_by changed-low body its))
      (gather-low LowName (unknown p.declared) (unknown-low p.declared) (gather names_in (parts_of body)) (gather-every LowExpr LowName names_in names-low (parts_of body) (parts_low body its)))

  pub seven_low : Low (kind_faults p)
  unfolding kind_faults
  seven_low =
      low-append (gather (item_kind p.declared) body) (gather (part_kind p.declared) (parts_of body))
      (gather-low LowItem (item_kind p.declared) (kind-low p.declared) body its)
      (gather-low LowExpr (part_kind p.declared) (part_low p.declared) (parts_of body) (parts_low body its))

  pub eight-low : Low (jump_faults p)
  eight-low = jumps-low p.body false false x

  pub nine-low : Low (drop most_statements (gather statement_place body) ++ (drop most_parts (map place_of (parts_of body)) ++ gather item_size body))
  nine-low =
      low-append (drop most_statements (gather statement_place body)) (drop most_parts (map place_of (parts_of body)) ++ gather item_size body)
      (low-drop most_statements (gather statement_place body) (gather-low LowItem statement_place statement-low body its))
      (low-append (drop most_parts (map place_of (parts_of body))) (gather item_size body)
      (low-drop most_parts (map place_of (parts_of body)) (map-low LowExpr place_of place-low (parts_of body) (parts_low body its)))
      (gather-low LowItem item_size size_low body its))

  pub ten_low : Low (worst_faults p)
  unfolding worst_faults
  ten_low = gather-low LowExpr (part_worst p.declared) (worst-low p.declared) (parts_of body) (parts_low body its)
