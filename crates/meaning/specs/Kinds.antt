-- N3 to N8: wrong kinds, fault 7.
-- Assumes nothing.
use Rattle.std.specs.Prelude.{ℕ, Bool, true, false, cond, not as opposite, List, [], ◌++◌, ltb}
use Rattle.std.proofs.Math.Option.{Option, none, some}
use Rattle.meaning.specs.Tree.{Name, Comparison, equal, unequal, greater, less, Expr, literal, truth, variable, bit, not, int, arithmetic, comparison, logic, Target, whole, part, Head, Stmt, skip, delay, change, assign, choice, while, loop, exit, break, switch, parallel}
use Rattle.meaning.specs.Numbers.{Variable, input, boolean, integer}
use Rattle.meaning.specs.Declared.{Declaration, Source, look_up}
use Rattle.meaning.specs.Items.{Item, statement, test, items_all, parts_of}
use Rattle.meaning.specs.Names.{gather, when}

pub data Kind : Type 0 where
  truths wholes : Kind

abbrev pub is_truth : Kind → Bool
is_truth truths = true
is_truth wholes = false

abbrev pub is_whole : Kind → Bool
is_whole truths = false
is_whole wholes = true

abbrev pub same_kind : Kind → Kind → Bool
same_kind truths k = is_truth k
same_kind wholes k = is_whole k

abbrev pub both : Bool → Bool → Bool
both a b = cond a b false

-- a name's kind; one that is unknown is refused before this counts
abbrev pub kind_of_variable : Option Variable → Kind
kind_of_variable none = wholes
kind_of_variable (some (input i)) = truths
kind_of_variable (some (boolean j)) = truths
kind_of_variable (some (integer low width)) = wholes

-- N3: the kind of an expression, by its outermost operator alone
abbrev pub kind_of : List Declaration → Expr Name → Kind
kind_of ds (literal p n) = wholes
kind_of ds (truth p b) = truths
kind_of ds (variable v) = kind_of_variable (look_up ds v.bytes)
kind_of ds (bit v j) = truths
kind_of ds (not p e) = truths
kind_of ds (int p e) = wholes
kind_of ds (arithmetic o p a b) = wholes
kind_of ds (comparison o p a b) = truths
kind_of ds (logic o p a b) = truths

-- the bit is one of an integer, inside its written width
abbrev pub has_bit : Option Variable → ℕ → Bool
has_bit none j = false
has_bit (some (input i)) j = false
has_bit (some (boolean b)) j = false
has_bit (some (integer low width)) j = ltb j width

-- N4: what a comparison wants
abbrev pub comparable : Comparison → Kind → Kind → Bool
comparable equal a b = same_kind a b
comparable unequal a b = same_kind a b
comparable greater a b = both (is_whole a) (is_whole b)
comparable less a b = both (is_whole a) (is_whole b)

-- of a part by itself: the place is the operator's, the `int`'s or the indexed name's
abbrev pub part_kind : List Declaration → Expr Name → List ℕ
part_kind ds (literal p n) = []
part_kind ds (truth p b) = []
part_kind ds (variable v) = []
part_kind ds (bit v j) = when (opposite (has_bit (look_up ds v.bytes) j)) v.place
part_kind ds (not p e) = when (is_whole (kind_of ds e)) p
part_kind ds (int p e) = when (is_whole (kind_of ds e)) p
part_kind ds (arithmetic o p a b) = when (opposite (both (is_whole (kind_of ds a)) (is_whole (kind_of ds b)))) p
part_kind ds (comparison o p a b) = when (opposite (comparable o (kind_of ds a) (kind_of ds b))) p
part_kind ds (logic o p a b) = when (opposite (both (is_truth (kind_of ds a)) (is_truth (kind_of ds b)))) p

-- a boolean that is no input
abbrev pub changeable : Option Variable → Bool
changeable none = false
changeable (some (input i)) = false
changeable (some (boolean j)) = true
changeable (some (integer low width)) = false

abbrev pub assignable : Option Variable → Bool
assignable none = false
assignable (some (input i)) = false
assignable (some (boolean j)) = false
assignable (some (integer low width)) = true

-- N6, N7: at the word for a whole name, at the indexed name for a bit
abbrev pub target_kind : List Declaration → Head → Target Name → List ℕ
target_kind ds h (whole v) = when (opposite (changeable (look_up ds v.bytes))) h.place
target_kind ds h (part v j) = when (opposite (has_bit (look_up ds v.bytes) j)) v.place

-- a test at `if`, `while` or `case`
abbrev pub test_kind : List Declaration → Head → Expr Name → List ℕ
test_kind ds h e = when (is_whole (kind_of ds e)) h.place

abbrev pub stmt_kind : List Declaration → Stmt Name → List ℕ
stmt_kind ds (skip h) = []
stmt_kind ds (delay h p n) = []
stmt_kind ds (change h c t) = target_kind ds h t
stmt_kind ds (assign h v e) = when (opposite (both (assignable (look_up ds v.bytes)) (is_whole (kind_of ds e)))) v.place
stmt_kind ds (choice h e a b) = test_kind ds h e
stmt_kind ds (while h e b) = test_kind ds h e
stmt_kind ds (loop h b) = []
stmt_kind ds (exit h) = []
stmt_kind ds (break h) = []
stmt_kind ds (switch h cs) = []
stmt_kind ds (parallel h bs) = []

abbrev pub item_kind : List Declaration → Item → List ℕ
item_kind ds (statement s) = stmt_kind ds s
item_kind ds (test h e) = test_kind ds h e

unfoldable pub kind_faults : Source → List ℕ
kind_faults s =
    gather (item_kind s.declared) (items_all s.body)
    ++ gather (part_kind s.declared) (parts_of (items_all s.body))
