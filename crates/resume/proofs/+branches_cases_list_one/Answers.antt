use Rattle.std.proofs.Common.{rules}
use mathlib.Core.Path.{◌≡◌, refl, ap, sym, ◌∙◌}
use Prim.Native.Nat.{◌-◌, ◌+◌, ◌≤◌}
use native.Mathlib.Omega.{arith}
use Rattle.meaning.specs.Clock as meaning
use mathlib.Core.Bool.{false}
use lib.Dec.{eqb}
use borrow.Author.Tests.{eqb-false}
use Rattle.nodes.specs.declared.Shape.{Shape}
use Rattle.nodes.specs.declared.Shape.TheVariants.{Waiting, Either, Repeat, Tests, Together}
use Rattle.nodes.specs.Layout.{within, what_at, shape_of}
use Rattle.nodes.specs.Decode.{head_at, list_at, cases_at}
use Rattle.runs.specs.Run.{window}
use Rattle.runs.proofs.Comes.{still_open, comes_as, comes_then, comes_on, comes_again, comes_round, joins-none, joins_jump, joins-next}
use Rattle.start.proofs.Laws.{Listed, listed, list-good, list-first-wide, list-rest-wide, some-list, some-case, Defaulted, defaulted, default-good, default_wide, Tested, tested, test_good, test-first-wide, test-rest-wide, Branched, branched, branch_good, branch_wide}
use Rattle.resume.proofs.Laws.{from, deeper, further, fewer, list-outside, list_then, list-later, default_is, case-head, case_then, case-later, no_branches, branch_open, branch_beside, wait_is, wait_wide, wait_short, repeat_is, tests_is, together_is, shape_number, waiting_as, inner_as, starts, Eithered, eithered, either-good, either-first-wide, either-rest-wide, either_first, either_second, Repeated, repeat_again, Switched, switch-good, switch-wide, switch_in, Paralleled, parallel-good, parallel-wide, parallel_in}
use Prim.Native.Nat.{ℕ}
use Rattle.resume.proofs.+branches_cases_list_one.Goals as goal
use Rattle.resume.proofs.+branches_cases_list_one.Goals.{branches-After-branch_end_at-k, cases-After-kept-k, cases-In-Default, cases-In-Test, cases-Start, list-After-end_at-k, list-Start, one-After-kept-k, one-After-shape_from, one-In-Repeat, one-In-Tests, one-In-Together, one-Start}

cases_lt : (t : ℕ) (c : cases-Start t) → c.args.i ≤ c.args.m
cases_lt t c = from c.requires.1.1.1 (omega arith)

list-lt : (t : ℕ) (c : list-Start t) → c.args.i ≤ c.args.m
list-lt t c = from c.requires.1.1 (omega arith)

one-lt : (t : ℕ) (c : one-Start t) → c.args.i ≤ c.args.m
one-lt t c = from c.requires.1.1.1 (omega arith)

module _ (t : ℕ) (c : branches-After-branch_end_at-k t) where
  br : Branched c.args.left c.args.t.now c.args.i c.args.e c.branch_end_at-k.result
  br = branched c.args.left c.args.t.now c.args.i c.args.e _ c.if-e-i.false c.requires.1.0 c.branch_end_at-k.ensures

module _ (t : ℕ) (c : list-After-end_at-k t) where
  ls : Listed c.args.left c.args.t.now c.args.i c.args.e c.end_at-k.result
  ls = listed c.args.left c.args.t.now c.args.i c.args.e _ (let z : c.args.i ≤ c.args.m = from c.requires.1.1 (omega arith) in omega arith) c.requires.1.0 c.end_at-k.ensures

module _ (t : ℕ) (c : cases-In-Default t) where
  df : Defaulted c.args.left c.args.t.now c.args.i c.args.e
  df = defaulted c.args.left c.args.t.now c.args.i c.args.e (let z : c.args.i ≤ c.args.m = from c.requires.1.1.1 (omega arith) in omega arith) c.requires.1.1.0 c.among_at.ensures c.in-Default.is

module _ (t : ℕ) (c : cases-In-Test t) where
  th : Tested c.args.left c.args.t.now c.args.i c.args.e c.in-Test.field-0 (within c.in-Test.n c.args.i c.args.e)
  th = tested c.args.left c.args.t.now c.args.i c.args.e _ c.in-Test.n _ (let z : c.args.i ≤ c.args.m = from c.requires.1.1.1 (omega arith) in omega arith) c.requires.1.1.0 c.among_at.ensures c.in-Test.is refl

module _ (t : ℕ) (c : cases-After-kept-k t) where
  ts : Tested c.args.left c.args.t.now c.args.i c.args.e c.in-Test.field-0 c.kept-k.result
  ts = tested c.args.left c.args.t.now c.args.i c.args.e _ c.in-Test.n _ (let z : c.args.i ≤ c.args.m = from c.requires.1.1.1 (omega arith) in omega arith) c.requires.1.1.0 c.among_at.ensures c.in-Test.is c.kept-k.ensures

module _ (t : ℕ) (c : one-After-shape_from t) where
  -- an activity stands in a part of the statement
  inner : (y : Shape) → c.shape_from.result ≡ y → 2 ≤ shape_number y → (eqb c.args.m c.args.i ≡ false) × (shape_of (what_at c.args.t.now c.args.i) ≡ y)
  inner y e h = inner_as (eqb c.args.m c.args.i) _ y (sym c.shape_from.ensures ∙ e) h

  waits_for : (d : ℕ) → c.shape_from.result ≡ Waiting d → shape_of (what_at c.args.t.now c.args.i) ≡ Waiting d
  waits_for d e = waiting_as (eqb c.args.m c.args.i) _ d (sym c.shape_from.ensures ∙ e)

module _ (t : ℕ) (c : one-After-kept-k t) where
  eio : (eqb c.args.m c.args.i ≡ false) × (shape_of (what_at c.args.t.now c.args.i) ≡ Either c.in-Either.a)
  eio = inner_as (eqb c.args.m c.args.i) _ (Either c.in-Either.a) (sym c.shape_from.ensures ∙ c.in-Either.is) (omega arith)

  ei : Eithered c.args.left c.args.t.now c.args.i c.args.e c.kept-k.result
  ei = eithered c.args.left c.args.t.now c.args.i c.args.e c.in-Either.a _ (let z : c.args.i ≤ c.args.m = from c.requires.1.1.1 (omega arith) in omega arith) c.requires.1.1.0 refl eio.1 c.kept-k.ensures

module _ (t : ℕ) (c : one-In-Repeat t) where
  reo : (eqb c.args.m c.args.i ≡ false) × (shape_of (what_at c.args.t.now c.args.i) ≡ Repeat)
  reo = inner_as (eqb c.args.m c.args.i) _ Repeat (sym c.shape_from.ensures ∙ c.in-Repeat.is) (omega arith)

  re : Repeated c.args.left c.args.t.now c.args.i c.args.e
  re = record { small = let z : c.args.i ≤ c.args.m = from c.requires.1.1.1 (omega arith) in omega arith; is = repeat_is c.args.left c.args.t.now c.args.i c.args.e (let z : c.args.i ≤ c.args.m = from c.requires.1.1.1 (omega arith) in omega arith) c.requires.1.1.0 refl reo.1 }

module _ (t : ℕ) (c : one-In-Tests t) where
  swo : (eqb c.args.m c.args.i ≡ false) × (shape_of (what_at c.args.t.now c.args.i) ≡ Tests)
  swo = inner_as (eqb c.args.m c.args.i) _ Tests (sym c.shape_from.ensures ∙ c.in-Tests.is) (omega arith)

  sw : Switched c.args.left c.args.t.now c.args.i c.args.e
  sw = record { small = let z : c.args.i ≤ c.args.m = from c.requires.1.1.1 (omega arith) in omega arith; is = tests_is c.args.left c.args.t.now c.args.i c.args.e (let z : c.args.i ≤ c.args.m = from c.requires.1.1.1 (omega arith) in omega arith) c.requires.1.1.0 refl swo.1 }

module _ (t : ℕ) (c : one-In-Together t) where
  pao : (eqb c.args.m c.args.i ≡ false) × (shape_of (what_at c.args.t.now c.args.i) ≡ Together)
  pao = inner_as (eqb c.args.m c.args.i) _ Together (sym c.shape_from.ensures ∙ c.in-Together.is) (omega arith)

  pa : Paralleled c.args.left c.args.t.now c.args.i c.args.e
  pa = record { small = let z : c.args.i ≤ c.args.m = from c.requires.1.1.1 (omega arith) in omega arith; is = together_is c.args.left c.args.t.now c.args.i c.args.e (let z : c.args.i ≤ c.args.m = from c.requires.1.1.1 (omega arith) in omega arith) c.requires.1.1.0 refl pao.1 }

pub branches-closed-requires : goal.branches-closed-requires
branches-closed-requires t c = c.requires.1.1.1.1.1.0.long

pub branches-returns-then-e-i : goal.branches-returns-then-e-i
branches-returns-then-e-i t c = no_branches c.args.left c.args.t.now c.args.i c.args.e (window c.args.old.now c.args.b c.args.w) (record { word = c.args.r.word; inputs = c.args.r.inputs }) c.if-e-i.true (joins-none c.closed.ensures)

pub branches-least_at-m-requires : goal.branches-least_at-m-requires
branches-least_at-m-requires t c = ((omega (arith, branch_wide (br t (goal.at.branches-least_at-m-requires t c).After-branch_end_at-k), (c.from-wide.ensures ∙ c.width_at.ensures ∙ (branch_good (br t (goal.at.branches-least_at-m-requires t c).After-branch_end_at-k) c.requires.0).0), c.requires.1.1.1.0, c.requires.1.1.0)), c.requires.1.1.1.1.1.1.1)

pub branches-list-h-requires : goal.branches-list-h-requires
branches-list-h-requires t c = let x = (br t (goal.at.branches-list-h-requires t c).After-branch_end_at-k) in (omega arith, ((branch_good x c.requires.0).1.0, (omega arith, (record { leaves = c.requires.1.1.1.1.1.1.0; room = (omega (arith, branch_wide (br t (goal.at.branches-list-h-requires t c).After-branch_end_at-k), (c.from-wide.ensures ∙ c.width_at.ensures ∙ (branch_good (br t (goal.at.branches-list-h-requires t c).After-branch_end_at-k) c.requires.0).0), c.requires.1.1.1.0, c.requires.1.1.0)); wide = omega (arith, (c.from-wide.ensures ∙ c.width_at.ensures ∙ (branch_good (br t (goal.at.branches-list-h-requires t c).After-branch_end_at-k) c.requires.0).0)); kept = c.requires.1.1.1.1.1.1.1; free = c.requires.1.1.1.1.1.0; is_least = c.least_at-m.ensures }))))

pub branches-wipe-requires : goal.branches-wipe-requires
branches-wipe-requires t c = (omega (arith, c.requires.1.1.0, c.requires.1.1.1.1.0), c.list-h.ensures.holds.long)

pub branches-returns-then-is_jump : goal.branches-returns-then-is_jump
branches-returns-then-is_jump t c = joins_jump c.list-h.ensures c.is_jump.ensures c.requires.1.1.1.1.0 (branch_beside (br t (goal.at.branches-returns-then-is_jump t c).After-branch_end_at-k) c.args.old.now c.args.b c.args.w (record { word = c.args.r.word; inputs = c.args.r.inputs }) (c.from-wide.ensures ∙ c.width_at.ensures ∙ (branch_good (br t (goal.at.branches-returns-then-is_jump t c).After-branch_end_at-k) c.requires.0).0) (omega (arith, branch_wide (br t (goal.at.branches-returns-then-is_jump t c).After-branch_end_at-k), (c.from-wide.ensures ∙ c.width_at.ensures ∙ (branch_good (br t (goal.at.branches-returns-then-is_jump t c).After-branch_end_at-k) c.requires.0).0), c.requires.1.1.1.0, c.requires.1.1.0))) c.if-is_jump.true c.wipe.ensures

pub branches-overflow_add-a : goal.branches-overflow_add-a
branches-overflow_add-a t c = omega (arith, branch_wide (br t (goal.at.branches-overflow_add-a t c).After-branch_end_at-k), (c.from-wide.ensures ∙ c.width_at.ensures ∙ (branch_good (br t (goal.at.branches-overflow_add-a t c).After-branch_end_at-k) c.requires.0).0), c.requires.1.1.1.0, c.requires.1.1.0)

pub branches-overflow_sub-v : goal.branches-overflow_sub-v
branches-overflow_sub-v t c = omega (arith, branch_wide (br t (goal.at.branches-overflow_sub-v t c).After-branch_end_at-k), (c.from-wide.ensures ∙ c.width_at.ensures ∙ (branch_good (br t (goal.at.branches-overflow_sub-v t c).After-branch_end_at-k) c.requires.0).0), c.requires.1.1.1.0, c.requires.1.1.0)

pub branches-branches-requires : goal.branches-branches-requires
branches-branches-requires t c = let x = (br t (goal.at.branches-branches-requires t c).After-branch_end_at-k) in (omega arith, ((branch_good x c.requires.0).1.1, (omega arith, ((omega (arith, branch_wide (br t (goal.at.branches-branches-requires t c).After-branch_end_at-k), (c.from-wide.ensures ∙ c.width_at.ensures ∙ (branch_good (br t (goal.at.branches-branches-requires t c).After-branch_end_at-k) c.requires.0).0), c.requires.1.1.1.0, c.requires.1.1.0)), ((omega (arith, branch_wide (br t (goal.at.branches-branches-requires t c).After-branch_end_at-k), (c.from-wide.ensures ∙ c.width_at.ensures ∙ (branch_good (br t (goal.at.branches-branches-requires t c).After-branch_end_at-k) c.requires.0).0), c.requires.1.1.1.0, c.requires.1.1.0)), (omega (arith, c.requires.1.1.1.1.0), (branch_open x c.args.old.now c.args.b c.args.w (record { word = c.args.r.word; inputs = c.args.r.inputs }) (c.from-wide.ensures ∙ c.width_at.ensures ∙ (branch_good (br t (goal.at.branches-branches-requires t c).After-branch_end_at-k) c.requires.0).0) c.list-h.ensures c.requires.1.1.1.1.1.0, (c.requires.1.1.1.1.1.1.0, (c.requires.1.1.1.1.1.1.1)))))))))

pub branches-returns : goal.branches-returns
branches-returns t c = joins-next c.list-h.ensures c.is_jump.ensures c.requires.1.1.1.1.0 (branch_beside (br t (goal.at.branches-returns t c).After-branch_end_at-k) c.args.old.now c.args.b c.args.w (record { word = c.args.r.word; inputs = c.args.r.inputs }) (c.from-wide.ensures ∙ c.width_at.ensures ∙ (branch_good (br t (goal.at.branches-returns t c).After-branch_end_at-k) c.requires.0).0) (omega (arith, branch_wide (br t (goal.at.branches-returns t c).After-branch_end_at-k), (c.from-wide.ensures ∙ c.width_at.ensures ∙ (branch_good (br t (goal.at.branches-returns t c).After-branch_end_at-k) c.requires.0).0), c.requires.1.1.1.0, c.requires.1.1.0))) c.if-is_jump.false c.later-so.ensures c.gathered-on.ensures c.gathered-off.ensures c.branches.ensures

pub cases-list-requires : goal.cases-list-requires
cases-list-requires t c = let z = cases_lt t (goal.at.cases-list-requires t c).Start in let x = df t (goal.at.cases-list-requires t c).In-Default in let y = c.requires.1.1.1 in (omega arith, (default-good x c.requires.0, (omega arith, (fewer y (omega arith) _ (omega (arith, default_wide x))))))

pub cases-cases-requires : goal.cases-cases-requires
cases-cases-requires t c = let y = c.requires.1.1.1 in (c.requires.0, (omega arith, (omega arith, y.free)))

pub cases-returns-then-m-i : goal.cases-returns-then-m-i
cases-returns-then-m-i t c = case-head (th t (goal.at.cases-returns-then-m-i t c).In-Test) (omega arith) c.requires.1.1.1 (record { word = c.args.r.word; inputs = c.args.r.inputs }) c.if-m-i.true c.cases.ensures

pub cases-kept-k-requires : goal.cases-kept-k-requires
cases-kept-k-requires t c = let z = cases_lt t (goal.at.cases-kept-k-requires t c).Start in omega arith

pub cases-overflow_add-i : goal.cases-overflow_add-i
cases-overflow_add-i t c = let z = cases_lt t (goal.at.cases-overflow_add-i t c).Start in omega arith

pub cases-list-requires-in-Test : goal.cases-list-requires-in-Test
cases-list-requires-in-Test t c = let z = cases_lt t (goal.at.cases-list-requires-in-Test t c).Start in let x = (ts t (goal.at.cases-list-requires-in-Test t c).After-kept-k) in let y = c.requires.1.1.1 in (omega arith, ((test_good x c.requires.0).1.1.0, (omega arith, (deeper y (omega arith) c.if-m-i.false _ (omega (arith, test-first-wide x))))))

pub cases-cases-requires-in-Finished : goal.cases-cases-requires-in-Finished
cases-cases-requires-in-Finished t c = let z = cases_lt t (goal.at.cases-cases-requires-in-Finished t c).Start in let x = (ts t (goal.at.cases-cases-requires-in-Finished t c).After-kept-k) in let y = c.requires.1.1.1 in ((test_good x c.requires.0).1.1.1, (omega arith, (omega (arith, test-rest-wide x), still_open c.list-in-Test.ensures c.in-Finished.is y.free)))

pub cases-returns-in-Finished : goal.cases-returns-in-Finished
cases-returns-in-Finished t c = comes_then c.list-in-Test.ensures (case_then (ts t (goal.at.cases-returns-in-Finished t c).After-kept-k) (omega arith) c.requires.1.1.1 (record { word = c.args.r.word; inputs = c.args.r.inputs }) c.if-m-i.false c.if-k-m.false) c.in-Finished.is c.cases-in-Finished.ensures

pub cases-then_at-requires : goal.cases-then_at-requires
cases-then_at-requires t c = let y = c.requires.1.1.1 in omega (arith, some-case (cases_at c.args.left c.args.t.now c.args.i c.args.e))

pub cases-returns-in_default : goal.cases-returns-in_default
cases-returns-in_default t c = comes_on c.list-in-Test.ensures (case_then (ts t (goal.at.cases-returns-in_default t c).After-kept-k) (omega arith) c.requires.1.1.1 (record { word = c.args.r.word; inputs = c.args.r.inputs }) c.if-m-i.false c.if-k-m.false) (search rules) c.then_at.ensures

pub cases-cases-requires-then-k-m : goal.cases-cases-requires-then-k-m
cases-cases-requires-then-k-m t c = let z = cases_lt t (goal.at.cases-cases-requires-then-k-m t c).Start in let x = (ts t (goal.at.cases-cases-requires-then-k-m t c).After-kept-k) in let y = c.requires.1.1.1 in (omega arith, ((test_good x c.requires.0).1.1.1, (omega arith, (omega arith, (further y (omega arith) _ (omega arith) c.if-k-m.true _ (omega (arith, test-rest-wide x)))))))

pub cases-returns-in-Default : goal.cases-returns-in-Default
cases-returns-in-Default t c = default_is (df t (goal.at.cases-returns-in-Default t c).In-Default) (window c.args.old.now c.args.b c.args.w) (record { word = c.args.r.word; inputs = c.args.r.inputs }) c.list.ensures

pub cases-returns-then-k-m : goal.cases-returns-then-k-m
cases-returns-then-k-m t c = case-later (ts t (goal.at.cases-returns-then-k-m t c).After-kept-k) (omega arith) c.requires.1.1.1 (record { word = c.args.r.word; inputs = c.args.r.inputs }) c.if-m-i.false c.if-k-m.true c.cases-then-k-m.ensures

pub list-returns-then-e-m : goal.list-returns-then-e-m
list-returns-then-e-m t c = list-outside c.args.left c.args.t.now c.args.i c.args.e (record { word = c.args.r.word; inputs = c.args.r.inputs }) c.requires.1.1 (omega arith) (omega arith) c.requires.1.0 c.if-e-m.true

pub list-overflow_sub-less : goal.list-overflow_sub-less
list-overflow_sub-less t c = let z = list-lt t (goal.at.list-overflow_sub-less t c).Start in omega arith

pub list-end_at-k-requires : goal.list-end_at-k-requires
list-end_at-k-requires t c = let z = list-lt t (goal.at.list-end_at-k-requires t c).Start in omega arith

pub list-one-requires : goal.list-one-requires
list-one-requires t c = let z = list-lt t (goal.at.list-one-requires t c).Start in let x = (ls t (goal.at.list-one-requires t c).After-end_at-k) in let y = c.requires.1.1 in (omega arith, ((list-good x c.requires.0).0, (c.if-k-m.false, (omega arith, (fewer y (omega arith) _ (omega (arith, list-first-wide x)))))))

pub list-list-requires-in-Finished : goal.list-list-requires-in-Finished
list-list-requires-in-Finished t c = let z = list-lt t (goal.at.list-list-requires-in-Finished t c).Start in let x = (ls t (goal.at.list-list-requires-in-Finished t c).After-end_at-k) in let y = c.requires.1.1 in ((list-good x c.requires.0).1, (omega arith, (omega (arith, list-rest-wide x), still_open c.one.ensures c.in-Finished.is y.free)))

pub list-returns-in-Finished : goal.list-returns-in-Finished
list-returns-in-Finished t c = comes_then c.one.ensures (list_then (ls t (goal.at.list-returns-in-Finished t c).After-end_at-k) c.end_at-k.ensures (omega arith) c.requires.1.1 (record { word = c.args.r.word; inputs = c.args.r.inputs }) c.if-k-m.false) c.in-Finished.is c.list-in-Finished.ensures

pub list-then_at-requires : goal.list-then_at-requires
list-then_at-requires t c = let y = c.requires.1.1 in omega (arith, some-list (list_at c.args.left c.args.t.now c.args.i c.args.e))

pub list-returns-in_default : goal.list-returns-in_default
list-returns-in_default t c = comes_on c.one.ensures (list_then (ls t (goal.at.list-returns-in_default t c).After-end_at-k) c.end_at-k.ensures (omega arith) c.requires.1.1 (record { word = c.args.r.word; inputs = c.args.r.inputs }) c.if-k-m.false) (search rules) c.then_at.ensures

pub list-list-requires : goal.list-list-requires
list-list-requires t c = let z = list-lt t (goal.at.list-list-requires t c).Start in let x = (ls t (goal.at.list-list-requires t c).After-end_at-k) in let y = c.requires.1.1 in (omega arith, ((list-good x c.requires.0).1, (omega arith, (further y (omega arith) _ (omega arith) c.if-k-m.true _ (omega (arith, list-rest-wide x))))))

pub list-returns-then-k-m : goal.list-returns-then-k-m
list-returns-then-k-m t c = list-later (ls t (goal.at.list-returns-then-k-m t c).After-end_at-k) c.end_at-k.ensures (omega arith) c.requires.1.1 (record { word = c.args.r.word; inputs = c.args.r.inputs }) c.if-k-m.true c.list.ensures

pub one-overflow_sub-less : goal.one-overflow_sub-less
one-overflow_sub-less t c = let z = one-lt t ((goal.at.one-overflow_sub-less t c).Start) in omega arith

pub one-one-requires : goal.one-one-requires
one-one-requires t c = let z = one-lt t (goal.at.one-one-requires t c).Start in let y = c.requires.1.1.1 in (c.requires.0, (omega arith, (c.requires.1.1.0, (omega arith, y.free))))

pub one-overflow_cast-d : goal.one-overflow_cast-d
one-overflow_cast-d t c = record { fits = omega (arith, wait_short c.args.left c.args.t.now c.args.i c.args.e (let z = one-lt t (goal.at.one-overflow_cast-d t c).Start in omega arith) c.requires.1.1.0 refl _ (waits_for t (goal.at.one-overflow_cast-d t c).After-shape_from _ c.in-Waiting.is) c.requires.0) }

pub one-left_of-requires : goal.one-left_of-requires
one-left_of-requires t c = let y = c.requires.1.1.1 in (omega (arith, wait_wide c.args.left c.args.t.now c.args.i c.args.e (let z = one-lt t (goal.at.one-left_of-requires t c).Start in omega arith) c.requires.1.1.0 refl _ (waits_for t (goal.at.one-left_of-requires t c).After-shape_from _ c.in-Waiting.is)), y.kept)

pub one-delay-requires : goal.one-delay-requires
one-delay-requires t c = let z = one-lt t (goal.at.one-delay-requires t c).Start in let y = c.requires.1.1.1 in (y.free.long, (omega arith, omega (arith, wait_wide c.args.left c.args.t.now c.args.i c.args.e (let z = one-lt t (goal.at.one-delay-requires t c).Start in omega arith) c.requires.1.1.0 refl _ (waits_for t (goal.at.one-delay-requires t c).After-shape_from _ c.in-Waiting.is))))

pub one-kept-k-requires : goal.one-kept-k-requires
one-kept-k-requires t c = let z = one-lt t (goal.at.one-kept-k-requires t c).Start in omega arith

pub one-overflow_add-i : goal.one-overflow_add-i
one-overflow_add-i t c = let z = one-lt t (goal.at.one-overflow_add-i t c).Start in omega arith

pub one-list-requires : goal.one-list-requires
one-list-requires t c = let z = one-lt t (goal.at.one-list-requires t c).Start in let x = (ei t (goal.at.one-list-requires t c).After-kept-k) in let y = c.requires.1.1.1 in (omega arith, ((either-good x c.requires.0).0, (omega arith, (deeper y (omega arith) (eqb-false _ _ (eio t (goal.at.one-list-requires t c).After-kept-k).0) _ (omega (arith, either-first-wide x))))))

pub one-returns-then-m-k : goal.one-returns-then-m-k
one-returns-then-m-k t c = either_first (ei t (goal.at.one-returns-then-m-k t c).After-kept-k) (omega arith) c.requires.1.1.1 (record { word = c.args.r.word; inputs = c.args.r.inputs }) (eqb-false _ _ (eio t (goal.at.one-returns-then-m-k t c).After-kept-k).0) c.if-m-k.true c.list.ensures

pub one-list-requires-else-m-k : goal.one-list-requires-else-m-k
one-list-requires-else-m-k t c = let z = one-lt t (goal.at.one-list-requires-else-m-k t c).Start in let x = (ei t (goal.at.one-list-requires-else-m-k t c).After-kept-k) in let y = c.requires.1.1.1 in (omega arith, ((either-good x c.requires.0).1, (omega arith, (further y (omega arith) _ (omega arith) c.if-m-k.false _ (omega (arith, either-rest-wide x))))))

pub one-overflow_add-i-in-Repeat : goal.one-overflow_add-i-in-Repeat
one-overflow_add-i-in-Repeat t c = let z = one-lt t (goal.at.one-overflow_add-i-in-Repeat t c).Start in omega arith

pub one-list-requires-in-Repeat : goal.one-list-requires-in-Repeat
one-list-requires-in-Repeat t c = let z = one-lt t (goal.at.one-list-requires-in-Repeat t c).Start in let x = (re t (goal.at.one-list-requires-in-Repeat t c).In-Repeat) in let y = c.requires.1.1.1 in (omega arith, (x.is.good _ _ c.requires.0, (omega arith, (deeper y (omega arith) (eqb-false _ _ (reo t (goal.at.one-list-requires-in-Repeat t c).In-Repeat).0) _ (omega (arith, x.is.wide))))))

pub one-looped-requires : goal.one-looped-requires
one-looped-requires t c = let z = one-lt t (goal.at.one-looped-requires t c).Start in let y = c.requires.1.1.1 in (omega arith, (omega (arith, (re t (goal.at.one-looped-requires t c).In-Repeat).is.wide, some-list (list_at (c.args.left - 1) c.args.t.now (c.args.i + 1) c.args.e)), c.list-in-Repeat.ensures.holds.long))

pub one-returns-in_default : goal.one-returns-in_default
one-returns-in_default t c = comes_round c.list-in-Repeat.ensures (repeat_again (re t (goal.at.one-returns-in_default t c).In-Repeat) c.requires.1.1.1 (record { word = c.args.r.word; inputs = c.args.r.inputs }) (eqb-false _ _ (reo t (goal.at.one-returns-in_default t c).In-Repeat).0)) (search rules) c.looped.ensures

pub one-one-requires-in-Finished : goal.one-one-requires-in-Finished
one-one-requires-in-Finished t c = let z = one-lt t (goal.at.one-one-requires-in-Finished t c).Start in let y = c.requires.1.1.1 in (c.requires.0, (omega arith, (c.requires.1.1.0, (omega arith, still_open c.list-in-Repeat.ensures c.in-Finished.is y.free))))

pub one-overflow_add-i-in-Tests : goal.one-overflow_add-i-in-Tests
one-overflow_add-i-in-Tests t c = let z = one-lt t (goal.at.one-overflow_add-i-in-Tests t c).Start in omega arith

pub one-cases-requires : goal.one-cases-requires
one-cases-requires t c = let z = one-lt t (goal.at.one-cases-requires t c).Start in let x = (sw t (goal.at.one-cases-requires t c).In-Tests) in let y = c.requires.1.1.1 in (omega arith, (switch-good x c.requires.0, (c.requires.1.0, (omega arith, (deeper y (omega arith) (eqb-false _ _ (swo t (goal.at.one-cases-requires t c).In-Tests).0) _ (omega (arith, switch-wide x)))))))

pub one-overflow_add-i-in-Together : goal.one-overflow_add-i-in-Together
one-overflow_add-i-in-Together t c = let z = one-lt t (goal.at.one-overflow_add-i-in-Together t c).Start in omega arith

pub one-branches-requires : goal.one-branches-requires
one-branches-requires t c = let z = one-lt t (goal.at.one-branches-requires t c).Start in let x = (pa t (goal.at.one-branches-requires t c).In-Together) in let y = c.requires.1.1.1 in (omega arith, (parallel-good x c.requires.0, (omega arith, (y.room, (omega (arith, parallel-wide x), (omega arith, (y.free, (y.leaves, y.kept))))))))

pub one-returns-in-Plain : goal.one-returns-in-Plain
one-returns-in-Plain t c = starts c.args.left c.args.t.now c.args.i c.args.e (let z = one-lt t (goal.at.one-returns-in-Plain t c).Start in omega arith) c.requires.1.1.0 (omega arith) c.requires.1.1.1 (record { word = c.args.r.word; inputs = c.args.r.inputs }) c.shape_from.ensures c.in-Plain.is c.one.ensures

pub one-returns-in-Waiting : goal.one-returns-in-Waiting
one-returns-in-Waiting t c = let y = c.requires.1.1.1 in let v = wait_wide c.args.left c.args.t.now c.args.i c.args.e (let z = one-lt t (goal.at.one-returns-in-Waiting t c).Start in omega arith) c.requires.1.1.0 refl _ (waits_for t (goal.at.one-returns-in-Waiting t c).After-shape_from _ c.in-Waiting.is) in wait_is c.args.left c.args.t.now c.args.i c.args.e (let z = one-lt t (goal.at.one-returns-in-Waiting t c).Start in omega arith) c.requires.1.1.0 refl _ (waits_for t (goal.at.one-returns-in-Waiting t c).After-shape_from _ c.in-Waiting.is) (window c.args.old.now c.args.b c.args.w) (record { word = c.args.r.word; inputs = c.args.r.inputs }) (comes_as (ap (meaning.delayed (head_at c.args.t.now c.args.i)) (sym (c.left_of.ensures c.args.w (omega arith)))) refl (c.delay.ensures (head_at c.args.t.now c.args.i).place))

pub one-returns-else-m-k : goal.one-returns-else-m-k
one-returns-else-m-k t c = either_second (ei t (goal.at.one-returns-else-m-k t c).After-kept-k) (omega arith) c.requires.1.1.1 (record { word = c.args.r.word; inputs = c.args.r.inputs }) (eqb-false _ _ (eio t (goal.at.one-returns-else-m-k t c).After-kept-k).0) c.if-m-k.false c.list-else-m-k.ensures

pub one-returns-in-Finished : goal.one-returns-in-Finished
one-returns-in-Finished t c = comes_again c.list-in-Repeat.ensures (repeat_again (re t (goal.at.one-returns-in-Finished t c).In-Repeat) c.requires.1.1.1 (record { word = c.args.r.word; inputs = c.args.r.inputs }) (eqb-false _ _ (reo t (goal.at.one-returns-in-Finished t c).In-Repeat).0)) c.in-Finished.is c.one-in-Finished.ensures

pub one-returns-in-Tests : goal.one-returns-in-Tests
one-returns-in-Tests t c = switch_in (sw t (goal.at.one-returns-in-Tests t c).In-Tests) c.requires.1.1.1 (record { word = c.args.r.word; inputs = c.args.r.inputs }) (eqb-false _ _ (swo t (goal.at.one-returns-in-Tests t c).In-Tests).0) c.cases.ensures c.caught.ensures

pub one-returns-in-Together : goal.one-returns-in-Together
one-returns-in-Together t c = parallel_in (pa t (goal.at.one-returns-in-Together t c).In-Together) c.requires.1.1.1 (record { word = c.args.r.word; inputs = c.args.r.inputs }) (eqb-false _ _ (pao t (goal.at.one-returns-in-Together t c).In-Together).0) c.branches.ensures c.caught-in-Together.ensures
