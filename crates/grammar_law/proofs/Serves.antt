-- The tables serve the grammar, by computation.
-- Assumes nothing.
use mathlib.Core.Bool.{Bool, true, false}
use mathlib.Core.Path.{◌≡◌, refl, sym, ◌∙◌, ap}
use mathlib.Core.Option.{Option, none, some}
use Prim.Native.Nat.{ℕ, ◌*◌, ◌≤◌, ◌<◌}
use native.Mathlib.Omega.{arith}
use lib.Dec.{leb, ltb}
use lib.ListN.{length, get_or}
use borrow.Author.Tests.{ltb-true}
use Rattle.ll1.specs.Rows.{columns, most_deep, most_bytes, sym_of, row_of, row, closes, larger, deep, idle, Tables}
use Rattle.ll1.proofs.Tests.{has, begin_row, pick}
use Rattle.ll1.proofs.Sets.{clash}
use Rattle.ll1.proofs.Served.{every, same_symbol, same_row, agrees, kept_at, last_at, entry, in_range, served}
use Rattle.language.specs.Numbers.{no_kind, kind_at}
use Rattle.language.specs.Grammar.{Part, binding, csml, whole_program}
use Rattle.language.proofs.EveryPart.{every-part}
use Rattle.language.proofs.Numbered.{kind-high}
use Rattle.language.proofs.Claims.{claims, first, empty, follow}
use Rattle.grammar_law.specs.Tables.{parts, rows, calls, depth, turn}
use Rattle.grammar_law.specs.Starts.{among, called, across, laid, starts}
use Rattle.grammar_law.specs.Codes.{part_at, codes, choice}
use Rattle.grammar_law.proofs.Parts.{same_part, part-true}

-- ---- what the tests leave

abbrev is_none : Option ℕ → Bool
is_none none = true
is_none (some i) = false

is_none_lem : (o : Option ℕ) → is_none o ≡ true → o ≡ none
is_none_lem none e = refl
is_none_lem (some i) e = clash (sym e)

no_rule : (n : Part) → pick claims n (some no_kind) 0 (csml n) ≡ none
unfolding has begin_row pick csml binding claims first empty follow
no_rule n = is_none_lem (pick claims n (some no_kind) 0 (csml n)) (every-part (λ m. is_none (pick claims m (some no_kind) 0 (csml m))) refl (λ i. refl) (λ i. refl) n)

no_rule_at_end : (n : Part) → pick claims n none 0 (csml n) ≡ none
unfolding has begin_row pick csml binding claims first empty follow
no_rule_at_end n = is_none_lem (pick claims n none 0 (csml n)) (every-part (λ m. is_none (pick claims m none 0 (csml m))) refl (λ i. refl) (λ i. refl) n)

low : (n : Part) → depth n < most_deep
unfolding depth
low n = ltb-true (depth n) most_deep (every-part (λ m. ltb (depth m) most_deep) refl (λ i. refl) (λ i. refl) n)

few : (n : Part) → turn n < most_deep
unfolding turn
few n = ltb-true (turn n) most_deep (every-part (λ m. ltb (turn m) most_deep) refl (λ i. refl) (λ i. refl) n)

far : (n : Part) (t : ℕ) → columns ≤ t → pick claims n (some (codes.kind t)) 0 (csml n) ≡ none
unfolding codes
far n t h = ap (λ k. pick claims n (some k) 0 (csml n)) (kind-high t (omega arith)) ∙ no_rule n

-- ---- the tests

how-many : length starts ≡ length parts * columns
unfolding starts laid across called among calls parts
how-many = refl

short : leb (length rows) most_bytes ≡ true
unfolding rows
short = refl

row_0 : get_or rows 0 0 ≡ 0
unfolding rows
row_0 = refl

some-kinds : ltb 0 codes.used ≡ true
unfolding codes
some-kinds = refl

all-bytes : every (in_range codes.used (length parts)) 0 rows ≡ true
unfolding every in_range rows parts codes
all-bytes = refl

all-entries : every (entry claims csml same_part codes depth turn rows) 0 starts ≡ true
unfolding every entry last_at kept_at agrees same_row same_symbol same_part part_at kind_at sym_of row_of closes larger deep idle depth turn codes has begin_row pick csml claims first empty follow rows starts laid across called among calls
all-entries = refl

pub tables : Tables codes choice depth turn rows starts
tables = served claims csml same_part codes depth turn rows part-true starts (length parts) how-many short row_0 some-kinds all-bytes all-entries far no_rule_at_end low few

-- row 1 is the start, and whole
pub start-row : row codes rows 1 ≡ whole_program
unfolding row_of sym_of codes part_at rows
start-row = refl

pub start-closed : closes 0 (row codes rows 1) ≡ true
unfolding closes row_of sym_of codes part_at rows
start-closed = refl
