use Rattle.std.proofs.Common.{rules, inl, inr}
use mathlib.Core.Path.{◌≡◌, refl, ap, sym, ◌∙◌}
use Prim.Native.Nat.{◌-◌, ◌+◌, ◌≤◌}
use native.Mathlib.Omega.{arith}
use Rattle.meaning.specs.Tree.{Stmt}
use Rattle.meaning.specs.Numbers.{Variable, Reads}
use Rattle.meaning.specs.Clock as meaning
use Rattle.nodes.specs.Layout.{width_at, looks_at}
use Rattle.nodes.specs.Decode.{most_deep, head_at, expr_at, stmt_of, stmt_at, list_at, cases_at, branches_at}
use Rattle.nodes.specs.declared.Node.{Node}
use Rattle.nodes.specs.declared.What.{What}
use Rattle.nodes.specs.declared.What.TheVariants.{While, Loop, Switch, Parallel}
use Rattle.nodes.specs.Good.{Good}
use Rattle.nodes.proofs.Laws.{stmt_opened}
use Rattle.runs.specs.declared.Buffer.{Buffer}
use Rattle.runs.specs.declared.How.{How}
use Rattle.runs.specs.Buffer.{Comes}
use Rattle.runs.specs.Seen.{start_seen}
use Rattle.runs.proofs.Steps.{exits_now, breaks_now}
use Rattle.runs.proofs.Comes.{looked_open, still_open, comes_then, comes_on, joins-none, joins_jump, joins-next}
use Rattle.start.proofs.Laws.{Listed, listed, list-good, list-first-wide, list-rest-wide, list_then, list-none, some-list, some-case, cases_none, Defaulted, defaulted, default-good, default_wide, default_is, Tested, tested, test_good, test-first-wide, test-rest-wide, test_then, test-true, test-false, Branched, branched, branch_good, branch_wide, branch_open, branch_beside, no_branches, one_is, Chosen, chosen, choice-good, choice-first-wide, choice-rest-wide, choice-true, choice-false, IsWhile, while-good, while-wide, while-true, while-false, IsLoop, loop-good, loop-wide, loop_is, IsSwitch, switch-good, switch-wide, switch_is, IsParallel, parallel-good, parallel-wide, parallel_is}
use Prim.Native.Nat.{ℕ}
use Rattle.start.proofs.+branches_cases_choice_list_one.Goals as goal
use Rattle.start.proofs.+branches_cases_choice_list_one.Goals.{branches-After-branch_end_at-m, cases-After-kept-k, cases-In-Default, choice-After-kept-k, list-After-end_at-m, one-After-node_at-n}

module _ (t : ℕ) (c : branches-After-branch_end_at-m t) where
  br : Branched c.args.left c.args.t.now c.args.i c.args.e c.branch_end_at-m.result
  br = branched c.args.left c.args.t.now c.args.i c.args.e _ c.if-e-i.false c.requires.1.0 c.branch_end_at-m.ensures

module _ (t : ℕ) (c : choice-After-kept-k t) where
  ch : Chosen c.args.left c.args.t.now c.args.i c.args.e c.args.x c.kept-k.result
  ch = chosen c.args.left c.args.t.now c.args.i c.args.e _ c.args.m _ c.requires.1.1.0 c.kept-k.ensures (stmt_opened c.args.left c.args.t.now c.args.i c.args.e (λ z. omega arith) refl c.requires.0)

module _ (t : ℕ) (c : list-After-end_at-m t) where
  ls : Listed c.args.left c.args.t.now c.args.i c.args.e c.end_at-m.result
  ls = listed c.args.left c.args.t.now c.args.i c.args.e _ c.if-e-i.false c.requires.1.0 c.end_at-m.ensures

module _ (t : ℕ) (c : cases-In-Default t) where
  df : Defaulted c.args.left c.args.t.now c.args.i c.args.e
  df = defaulted c.args.left c.args.t.now c.args.i c.args.e c.if-e-i.false c.requires.1.0 c.among_at.ensures c.in-Default.is

module _ (t : ℕ) (c : cases-After-kept-k t) where
  ts : Tested c.args.left c.args.t.now c.args.i c.args.e c.in-Test.x c.kept-k.result
  ts = tested c.args.left c.args.t.now c.args.i c.args.e _ c.in-Test.m _ c.if-e-i.false c.requires.1.0 c.among_at.ensures c.in-Test.is c.kept-k.ensures

module _ (t : ℕ) (c : one-After-node_at-n t) where
  abbrev kindly : What → Stmt Variable
  kindly k = stmt_of (expr_at most_deep c.args.t.now) (list_at (c.args.left - 1) c.args.t.now) (cases_at (c.args.left - 1) c.args.t.now) (branches_at (c.args.left - 1) c.args.t.now) (head_at c.args.t.now c.args.i) c.args.i c.args.e k

  opens : {k : What} → c.node_at-n.result.what ≡ k → stmt_at c.args.left c.args.t.now c.args.i c.args.e ≡ kindly k
  opens e = stmt_opened c.args.left c.args.t.now c.args.i c.args.e (λ z. omega arith) (ap (λ (x : Node). x.what) c.node_at-n.ensures) e

  good : {k : What} → c.node_at-n.result.what ≡ k → Good (width_at c.args.t.now) (looks_at c.args.t.now) (kindly k)
  good e = rw (opens e) at c.requires.0

  wide : {k : What} → c.node_at-n.result.what ≡ k → c.args.b + meaning.activities (kindly k) ≤ 8
  wide e = rw (opens e) at c.requires.1.1.1.0

  abbrev reads : Reads
  reads = record { word = c.args.r.word; inputs = c.args.r.inputs }

  is_as : {k : What} → c.node_at-n.result.what ≡ k → {b : ℕ} {h : How} {l m : Buffer} → Comes (meaning.start (kindly k) reads) (start_seen (kindly k) reads) b l m h
      → Comes (meaning.start (stmt_at c.args.left c.args.t.now c.args.i c.args.e) reads) (start_seen (stmt_at c.args.left c.args.t.now c.args.i c.args.e) reads) b l m h
  is_as e C = one_is c.args.left c.args.t.now c.args.i c.args.e _ (opens e) reads C

  wh : {a : ℕ} → c.node_at-n.result.what ≡ While a → IsWhile c.args.left c.args.t.now c.args.i c.args.e a
  wh e = record { is = opens e }

  lo : c.node_at-n.result.what ≡ Loop → IsLoop c.args.left c.args.t.now c.args.i c.args.e
  lo e = record { is = opens e }

  sw : c.node_at-n.result.what ≡ Switch → IsSwitch c.args.left c.args.t.now c.args.i c.args.e
  sw e = record { is = opens e }

  pa : c.node_at-n.result.what ≡ Parallel → IsParallel c.args.left c.args.t.now c.args.i c.args.e
  pa e = record { is = opens e }

pub branches-closed-requires : goal.branches-closed-requires
unfolding meaning.start start_seen Good meaning.activities
branches-closed-requires t c = c.requires.1.1.1.1.long

pub branches-returns-then-e-i : goal.branches-returns-then-e-i
unfolding meaning.start start_seen Good meaning.activities
branches-returns-then-e-i t c = no_branches c.args.left c.args.t.now c.args.i c.args.e (record { word = c.args.r.word; inputs = c.args.r.inputs }) c.if-e-i.true (joins-none c.closed.ensures)

pub branches-list-h-requires : goal.branches-list-h-requires
unfolding meaning.start start_seen Good meaning.activities
branches-list-h-requires t c = let x = br t (goal.at.branches-list-h-requires t c).After-branch_end_at-m in (omega arith, ((branch_good x c.requires.0).1.0, (omega arith, (omega (arith, branch_wide x), (c.requires.1.1.1.1)))))

pub branches-wipe-requires : goal.branches-wipe-requires
unfolding meaning.start start_seen Good meaning.activities
branches-wipe-requires t c = (omega (arith, c.requires.1.1.1.0), c.list-h.ensures.holds.long)

pub branches-returns-then-is_jump : goal.branches-returns-then-is_jump
unfolding meaning.start start_seen Good meaning.activities
branches-returns-then-is_jump t c = joins_jump c.list-h.ensures c.is_jump.ensures c.requires.1.1.1.0 (branch_beside (br t (goal.at.branches-returns-then-is_jump t c).After-branch_end_at-m) (record { word = c.args.r.word; inputs = c.args.r.inputs }) refl) c.if-is_jump.true c.wipe.ensures

pub branches-overflow_add-a : goal.branches-overflow_add-a
unfolding meaning.start start_seen Good meaning.activities
branches-overflow_add-a t c = omega (arith, branch_wide (br t (goal.at.branches-overflow_add-a t c).After-branch_end_at-m), (c.from.ensures ∙ c.width_at.ensures ∙ (branch_good (br t (goal.at.branches-overflow_add-a t c).After-branch_end_at-m) c.requires.0).0))

pub branches-branches-requires : goal.branches-branches-requires
unfolding meaning.start start_seen Good meaning.activities
branches-branches-requires t c = let x = br t (goal.at.branches-branches-requires t c).After-branch_end_at-m in (omega arith, ((branch_good x c.requires.0).1.1, (omega arith, (omega (arith, branch_wide x, (c.from.ensures ∙ c.width_at.ensures ∙ (branch_good (br t (goal.at.branches-branches-requires t c).After-branch_end_at-m) c.requires.0).0)), (omega arith, (rw (c.from.ensures ∙ c.width_at.ensures ∙ (branch_good (br t (goal.at.branches-branches-requires t c).After-branch_end_at-m) c.requires.0).0) (branch_open x (record { word = c.args.r.word; inputs = c.args.r.inputs }) c.list-h.ensures c.requires.1.1.1.1)))))))

pub branches-returns : goal.branches-returns
unfolding meaning.start start_seen Good meaning.activities
branches-returns t c = joins-next c.list-h.ensures c.is_jump.ensures c.requires.1.1.1.0 (branch_beside (br t (goal.at.branches-returns t c).After-branch_end_at-m) (record { word = c.args.r.word; inputs = c.args.r.inputs }) (c.from.ensures ∙ c.width_at.ensures ∙ (branch_good (br t (goal.at.branches-returns t c).After-branch_end_at-m) c.requires.0).0)) c.if-is_jump.false c.later-so.ensures c.gathered-on.ensures c.gathered-off.ensures c.branches.ensures

pub cases-returns-then-e-i : goal.cases-returns-then-e-i
unfolding meaning.start start_seen Good meaning.activities
cases-returns-then-e-i t c = cases_none c.args.left c.args.t.now c.args.i c.args.e (record { word = c.args.r.word; inputs = c.args.r.inputs }) c.args.b c.args.o.now c.requires.1.1.1.long c.if-e-i.true

pub cases-list-requires : goal.cases-list-requires
unfolding meaning.start start_seen Good meaning.activities
cases-list-requires t c = let x = df t (goal.at.cases-list-requires t c).In-Default in (omega arith, (default-good x c.requires.0, (omega arith, (omega (arith, default_wide x), (c.requires.1.1.1)))))

pub cases-holds-requires : goal.cases-holds-requires
unfolding meaning.start start_seen Good meaning.activities
cases-holds-requires t c = let g = test_good (ts t (goal.at.cases-holds-requires t c).After-kept-k) c.requires.0 in (c.requires.1.1.1.long, (g.0, g.1.0))

pub cases-list-requires-in-Test : goal.cases-list-requires-in-Test
unfolding meaning.start start_seen Good meaning.activities
cases-list-requires-in-Test t c = let x = ts t (goal.at.cases-list-requires-in-Test t c).After-kept-k in (omega arith, ((test_good x c.requires.0).1.1.0, (omega arith, (omega (arith, test-first-wide x), (looked_open c.holds.ensures.1 c.requires.1.1.1)))))

pub cases-cases-requires-in-Finished : goal.cases-cases-requires-in-Finished
unfolding meaning.start start_seen Good meaning.activities
cases-cases-requires-in-Finished t c = let x = ts t (goal.at.cases-cases-requires-in-Finished t c).After-kept-k in (omega arith, ((test_good x c.requires.0).1.1.1, (omega arith, (omega (arith, test-rest-wide x), (still_open c.list-in-Test.ensures c.in-Finished.is (looked_open c.holds.ensures.1 c.requires.1.1.1))))))

pub cases-returns-in-Finished : goal.cases-returns-in-Finished
unfolding meaning.start start_seen Good meaning.activities
cases-returns-in-Finished t c = test-true (ts t (goal.at.cases-returns-in-Finished t c).After-kept-k) (record { word = c.args.r.word; inputs = c.args.r.inputs }) (sym c.holds.ensures.0 ∙ c.if-not-holds.false) c.holds.ensures.1 (comes_then c.list-in-Test.ensures (test_then (ts t (goal.at.cases-returns-in-Finished t c).After-kept-k) (record { word = c.args.r.word; inputs = c.args.r.inputs }) (sym c.holds.ensures.0 ∙ c.if-not-holds.false)) c.in-Finished.is c.cases-in-Finished.ensures)

pub cases-then_at-requires : goal.cases-then_at-requires
unfolding meaning.start start_seen Good meaning.activities
cases-then_at-requires t c = omega (arith, some-case (cases_at c.args.left c.args.t.now c.args.i c.args.e))

pub cases-returns-in_default : goal.cases-returns-in_default
unfolding meaning.start start_seen Good meaning.activities
cases-returns-in_default t c = test-true (ts t (goal.at.cases-returns-in_default t c).After-kept-k) (record { word = c.args.r.word; inputs = c.args.r.inputs }) (sym c.holds.ensures.0 ∙ c.if-not-holds.false) c.holds.ensures.1 (comes_on c.list-in-Test.ensures (test_then (ts t (goal.at.cases-returns-in_default t c).After-kept-k) (record { word = c.args.r.word; inputs = c.args.r.inputs }) (sym c.holds.ensures.0 ∙ c.if-not-holds.false)) (search rules) c.then_at.ensures)

pub cases-cases-requires : goal.cases-cases-requires
unfolding meaning.start start_seen Good meaning.activities
cases-cases-requires t c = let x = ts t (goal.at.cases-cases-requires t c).After-kept-k in (omega arith, ((test_good x c.requires.0).1.1.1, (omega arith, (omega (arith, test-rest-wide x), (looked_open c.holds.ensures.1 c.requires.1.1.1)))))

pub cases-returns-in-Default : goal.cases-returns-in-Default
unfolding meaning.start start_seen Good meaning.activities
cases-returns-in-Default t c = default_is (df t (goal.at.cases-returns-in-Default t c).In-Default) (record { word = c.args.r.word; inputs = c.args.r.inputs }) c.list.ensures

pub cases-returns-then-not-holds : goal.cases-returns-then-not-holds
unfolding meaning.start start_seen Good meaning.activities
cases-returns-then-not-holds t c = test-false (ts t (goal.at.cases-returns-then-not-holds t c).After-kept-k) (record { word = c.args.r.word; inputs = c.args.r.inputs }) (sym c.holds.ensures.0 ∙ c.if-not-holds.true) c.holds.ensures.1 c.cases.ensures

pub choice-holds-requires : goal.choice-holds-requires
unfolding meaning.start start_seen Good meaning.activities
choice-holds-requires t c = let g = choice-good (ch t (goal.at.choice-holds-requires t c).After-kept-k) c.requires.1.0 in (c.requires.1.1.1.1.1.long, (g.0, g.1.0))

pub choice-list-requires : goal.choice-list-requires
unfolding meaning.start start_seen Good meaning.activities
choice-list-requires t c = let x = ch t (goal.at.choice-list-requires t c).After-kept-k in (omega arith, ((choice-good x c.requires.1.0).1.1.0, (omega arith, (omega (arith, choice-first-wide x), looked_open c.holds.ensures.1 c.requires.1.1.1.1.1))))

pub choice-returns-then-holds : goal.choice-returns-then-holds
unfolding meaning.start start_seen Good meaning.activities
choice-returns-then-holds t c = choice-true (ch t (goal.at.choice-returns-then-holds t c).After-kept-k) (record { word = c.args.r.word; inputs = c.args.r.inputs }) c.holds.ensures.1 (sym c.holds.ensures.0 ∙ c.if-holds.true) c.list.ensures

pub choice-list-requires-else-holds : goal.choice-list-requires-else-holds
unfolding meaning.start start_seen Good meaning.activities
choice-list-requires-else-holds t c = let x = ch t (goal.at.choice-list-requires-else-holds t c).After-kept-k in (omega arith, ((choice-good x c.requires.1.0).1.1.1, (omega arith, (omega (arith, choice-rest-wide x), looked_open c.holds.ensures.1 c.requires.1.1.1.1.1))))

pub choice-returns-else-holds : goal.choice-returns-else-holds
unfolding meaning.start start_seen Good meaning.activities
choice-returns-else-holds t c = choice-false (ch t (goal.at.choice-returns-else-holds t c).After-kept-k) (record { word = c.args.r.word; inputs = c.args.r.inputs }) c.holds.ensures.1 (sym c.holds.ensures.0 ∙ c.if-holds.false) c.list-else-holds.ensures

pub list-returns-then-e-i : goal.list-returns-then-e-i
unfolding meaning.start start_seen Good meaning.activities
list-returns-then-e-i t c = list-none c.args.left c.args.t.now c.args.i c.args.e (record { word = c.args.r.word; inputs = c.args.r.inputs }) c.args.b c.args.o.now c.requires.1.1.1.long c.if-e-i.true

pub list-one-requires : goal.list-one-requires
unfolding meaning.start start_seen Good meaning.activities
list-one-requires t c = let x = ls t (goal.at.list-one-requires t c).After-end_at-m in (omega arith, ((list-good x c.requires.0).0, (x.more, (omega arith, (omega (arith, list-first-wide x), (c.requires.1.1.1))))))

pub list-list-requires : goal.list-list-requires
unfolding meaning.start start_seen Good meaning.activities
list-list-requires t c = let x = ls t (goal.at.list-list-requires t c).After-end_at-m in (omega arith, ((list-good x c.requires.0).1, (omega arith, (omega (arith, list-rest-wide x), (still_open c.one.ensures c.in-Finished.is c.requires.1.1.1)))))

pub list-returns-in-Finished : goal.list-returns-in-Finished
unfolding meaning.start start_seen Good meaning.activities
list-returns-in-Finished t c = comes_then c.one.ensures (list_then (ls t (goal.at.list-returns-in-Finished t c).After-end_at-m) (record { word = c.args.r.word; inputs = c.args.r.inputs })) c.in-Finished.is c.list.ensures

pub list-then_at-requires : goal.list-then_at-requires
unfolding meaning.start start_seen Good meaning.activities
list-then_at-requires t c = omega (arith, some-list (list_at c.args.left c.args.t.now c.args.i c.args.e))

pub list-returns-in_default : goal.list-returns-in_default
unfolding meaning.start start_seen Good meaning.activities
list-returns-in_default t c = comes_on c.one.ensures (list_then (ls t (goal.at.list-returns-in_default t c).After-end_at-m) (record { word = c.args.r.word; inputs = c.args.r.inputs })) (search rules) c.then_at.ensures

pub one-tried-requires : goal.one-tried-requires
unfolding meaning.start start_seen Good meaning.activities
one-tried-requires t c = c.requires.1.1.1.1.long

pub one-overflow_cast-d : goal.one-overflow_cast-d
unfolding meaning.start start_seen Good meaning.activities
one-overflow_cast-d t c = record { fits = omega (arith, good t (goal.at.one-overflow_cast-d t c).After-node_at-n c.in-Delay.is) }

pub one-delay-requires : goal.one-delay-requires
unfolding meaning.start start_seen Good meaning.activities
one-delay-requires t c = (c.requires.1.1.1.1.long, (omega arith, omega (arith, wide t (goal.at.one-delay-requires t c).After-node_at-n c.in-Delay.is)))

pub one-change_bit-requires : goal.one-change_bit-requires
unfolding meaning.start start_seen Good meaning.activities
one-change_bit-requires t c = (c.requires.1.1.1.1.long, good t (goal.at.one-change_bit-requires t c).After-node_at-n c.in-Change.is)

pub one-assign-requires : goal.one-assign-requires
unfolding meaning.start start_seen Good meaning.activities
one-assign-requires t c = let g = good t (goal.at.one-assign-requires t c).After-node_at-n c.in-Assign.is in (c.requires.1.1.1.1.long, (g.0, g.1))

pub one-choice-requires : goal.one-choice-requires
unfolding meaning.start start_seen Good meaning.activities
one-choice-requires t c = (omega arith, (sym (ap (λ (x : Node). x.what) c.node_at-n.ensures) ∙ c.in-Choice.is, c.requires))

pub one-holds-requires : goal.one-holds-requires
unfolding meaning.start start_seen Good meaning.activities
one-holds-requires t c = let g = while-good (wh t (goal.at.one-holds-requires t c).After-node_at-n c.in-While.is) c.requires.0 in (c.requires.1.1.1.1.long, (g.0, g.1.0))

pub one-list-h-requires : goal.one-list-h-requires
unfolding meaning.start start_seen Good meaning.activities
one-list-h-requires t c = let x = wh t (goal.at.one-list-h-requires t c).After-node_at-n c.in-While.is in (omega arith, ((while-good x c.requires.0).1.1, (omega arith, (omega (arith, while-wide x), (looked_open c.holds.ensures.1 c.requires.1.1.1.1)))))

pub one-looped-requires : goal.one-looped-requires
unfolding meaning.start start_seen Good meaning.activities
one-looped-requires t c = (omega arith, (omega (arith, while-wide (wh t (goal.at.one-looped-requires t c).After-node_at-n c.in-While.is), some-list (list_at (c.args.left - 1) c.args.t.now (c.args.i + 1) c.args.e)), c.list-h.ensures.holds.long))

pub one-returns-then-holds : goal.one-returns-then-holds
unfolding meaning.start start_seen Good meaning.activities
one-returns-then-holds t c = while-true (wh t (goal.at.one-returns-then-holds t c).After-node_at-n c.in-While.is) (record { word = c.args.r.word; inputs = c.args.r.inputs }) c.holds.ensures.1 (sym c.holds.ensures.0 ∙ c.if-holds.true) c.list-h.ensures c.looped.ensures

pub one-list-h-requires-in-Loop : goal.one-list-h-requires-in-Loop
unfolding meaning.start start_seen Good meaning.activities
one-list-h-requires-in-Loop t c = let x = lo t (goal.at.one-list-h-requires-in-Loop t c).After-node_at-n c.in-Loop.is in (omega arith, (loop-good x c.requires.0, (omega arith, (omega (arith, loop-wide x), (c.requires.1.1.1.1)))))

pub one-looped-requires-in-Loop : goal.one-looped-requires-in-Loop
unfolding meaning.start start_seen Good meaning.activities
one-looped-requires-in-Loop t c = (omega arith, (omega (arith, loop-wide (lo t (goal.at.one-looped-requires-in-Loop t c).After-node_at-n c.in-Loop.is), some-list (list_at (c.args.left - 1) c.args.t.now (c.args.i + 1) c.args.e)), c.list-h-in-Loop.ensures.holds.long))

pub one-cases-requires : goal.one-cases-requires
unfolding meaning.start start_seen Good meaning.activities
one-cases-requires t c = let x = sw t (goal.at.one-cases-requires t c).After-node_at-n c.in-Switch.is in (omega arith, (switch-good x c.requires.0, (omega arith, (omega (arith, switch-wide x), (c.requires.1.1.1.1)))))

pub one-branches-requires : goal.one-branches-requires
unfolding meaning.start start_seen Good meaning.activities
one-branches-requires t c = let x = pa t (goal.at.one-branches-requires t c).After-node_at-n c.in-Parallel.is in (omega arith, (parallel-good x c.requires.0, (omega arith, (omega (arith, parallel-wide x), (omega arith, (c.requires.1.1.1.1))))))

pub one-returns-in-Skip : goal.one-returns-in-Skip
unfolding meaning.start start_seen Good meaning.activities
one-returns-in-Skip t c =
    let n = (goal.at.one-returns-in-Skip t c).After-node_at-n in
    elim c.in-Skip.is [ inl e ↦ is_as t n e (c.tried.ensures c.args.b) | inr (x, y, e) ↦ is_as t n e (c.tried.ensures c.args.b) ]

pub one-returns-in-Delay : goal.one-returns-in-Delay
unfolding meaning.start start_seen Good meaning.activities
one-returns-in-Delay t c = is_as t (goal.at.one-returns-in-Delay t c).After-node_at-n c.in-Delay.is (c.delay.ensures (head_at c.args.t.now c.args.i).place)

pub one-returns-in-Change : goal.one-returns-in-Change
unfolding meaning.start start_seen Good meaning.activities
one-returns-in-Change t c = is_as t (goal.at.one-returns-in-Change t c).After-node_at-n c.in-Change.is (c.change_bit.ensures c.args.b c.args.r.inputs)

pub one-returns-in-Assign : goal.one-returns-in-Assign
unfolding meaning.start start_seen Good meaning.activities
one-returns-in-Assign t c = is_as t (goal.at.one-returns-in-Assign t c).After-node_at-n c.in-Assign.is (c.assign.ensures c.args.b)

pub one-returns-in-Choice : goal.one-returns-in-Choice
unfolding meaning.start start_seen Good meaning.activities
one-returns-in-Choice t c = c.choice.ensures

pub one-returns-else-holds : goal.one-returns-else-holds
unfolding meaning.start start_seen Good meaning.activities
one-returns-else-holds t c = while-false (wh t (goal.at.one-returns-else-holds t c).After-node_at-n c.in-While.is) (record { word = c.args.r.word; inputs = c.args.r.inputs }) c.holds.ensures.1 (sym c.holds.ensures.0 ∙ c.if-holds.false)

pub one-returns-in-Loop : goal.one-returns-in-Loop
unfolding meaning.start start_seen Good meaning.activities
one-returns-in-Loop t c = loop_is (lo t (goal.at.one-returns-in-Loop t c).After-node_at-n c.in-Loop.is) (record { word = c.args.r.word; inputs = c.args.r.inputs }) c.list-h-in-Loop.ensures c.looped-in-Loop.ensures

pub one-returns-in-Exit : goal.one-returns-in-Exit
unfolding meaning.start start_seen Good meaning.activities
one-returns-in-Exit t c = is_as t (goal.at.one-returns-in-Exit t c).After-node_at-n c.in-Exit.is (exits_now c.args.o.now c.args.b c.requires.1.1.1.1.long)

pub one-returns-in-Break : goal.one-returns-in-Break
unfolding meaning.start start_seen Good meaning.activities
one-returns-in-Break t c = is_as t (goal.at.one-returns-in-Break t c).After-node_at-n c.in-Break.is (breaks_now c.args.o.now c.args.b c.requires.1.1.1.1.long)

pub one-returns-in-Switch : goal.one-returns-in-Switch
unfolding meaning.start start_seen Good meaning.activities
one-returns-in-Switch t c = switch_is (sw t (goal.at.one-returns-in-Switch t c).After-node_at-n c.in-Switch.is) (record { word = c.args.r.word; inputs = c.args.r.inputs }) c.cases.ensures c.caught.ensures

pub one-returns-in-Parallel : goal.one-returns-in-Parallel
unfolding meaning.start start_seen Good meaning.activities
one-returns-in-Parallel t c = parallel_is (pa t (goal.at.one-returns-in-Parallel t c).After-node_at-n c.in-Parallel.is) (record { word = c.args.r.word; inputs = c.args.r.inputs }) c.requires.1.1.1.1 c.branches.ensures c.caught-in-Parallel.ensures
