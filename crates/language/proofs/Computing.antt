-- What a text that is written out comes to. A proof that unfolds `yield_in` computes it, through every definition: they are named here and nowhere else.
-- Assumes nothing.
use mathlib.Core.Path.{◌≡◌, subst}
use Prim.Native.Nat.{ℕ}
use Prim.Native.String.{String}
use Rattle.ll1.specs.Values as values
use Rattle.ll1.proofs.Tests as tests
use Rattle.ll1.proofs.Parser as parser
use Rattle.ll1.proofs.Ends as ends
use Rattle.ll1.proofs.Derived as derived
use Rattle.ll1.proofs.Parsed as parsed
use Rattle.reach_law.specs.Search as search
use Rattle.file_law.specs.Answer as answer
use Rattle.file_law.specs.Answer.{Answer}
use Rattle.file_law.specs.Table.{Table}
use Rattle.meaning.specs.Numbers as numbers
use Rattle.meaning.specs.Tries as tries
use Rattle.meaning.specs.Clock as clock
use Rattle.meaning.specs.States as states
use Rattle.meaning.specs.Declared as declared
use Rattle.meaning.specs.Declared.{Source}
use Rattle.meaning.specs.Items as items
use Rattle.meaning.specs.Checked as checked
use Rattle.meaning.specs.Names as names
use Rattle.meaning.specs.Kinds as kinds
use Rattle.meaning.specs.Jumps as jumps
use Rattle.meaning.specs.Sizes as sizes
use Rattle.meaning.specs.Worst as worst
use Rattle.meaning.specs.Faults as faults
use Rattle.meaning.specs.Base as base
use Rattle.meaning.specs.Levels as levels
use Rattle.meaning.specs.Expansion as expansion
use Rattle.meaning.specs.Procedures as procedures
use Rattle.meaning.proofs.Equal as equal
use Rattle.language.specs.Words.{bytes}
use Rattle.language.specs.Grammar as grammar
use Rattle.language.specs.Trees as trees
use Rattle.language.specs.Tables as tables
use Rattle.language.specs.Printed as printing
use Rattle.language.specs.Listings.{printed, PrintsIn}
use Rattle.language.proofs.Texts as texts
use Rattle.language.proofs.Claims as claims
use Rattle.language.proofs.Readings as readings
use Rattle.language.proofs.Tables as tabled
use Rattle.language.proofs.Listing as listing

unfoldable pub yield_in : ℕ → String → Answer (Source × Table)
unfolding
    texts.words_in grammar.binding grammar.csml claims.first claims.empty claims.follow claims.rank claims.claims
    tests.has tests.begin_row tests.pick parser.barred parser.run
    ends.finds_word ends.finds_into ends.finds_out ends.finds_rule ends.finds_row ends.finds_low ends.finds_any ends.finds
    derived.after-word derived.after-rule derived.by_rule derived.after-into derived.after-out derived.derived
    parsed.refused_by parsed.parsed_by parsed.parsed
    values.make values.front values.back values.nothing values.values_of trees.operators trees.joined_by trees.makes_operators trees.makes
    declared.same_bytes declared.input_count declared.output_count declared.look_from declared.look_up declared.initial_from declared.initial_word
    items.items items.within items.parts_of names.gather names.among names.again_from names.name_faults kinds.kind_faults jumps.jump_in
    sizes.bits_from sizes.size_faults worst.worst worst.worst_faults faults.least faults.fault_of checked.resolved checked.checked checked.program_of
    base.base_term base.idle base.base levels.levels_in levels.level_fault
    expansion.actual_of expansion.bind expansion.form_of expansion.replaced expansion.allows_term expansion.allows expansion.same_count expansion.followed_by expansion.expand expansion.called
    expansion.wide_call expansion.wide expansion.wides expansion.outermost expansion.procedures_from expansion.variables_of expansion.expanded_body expansion.expanded
    procedures.has_name procedures.formals_again procedures.clashes procedures.found_in procedures.fault_in
    numbers.value tries.all_ones tries.all_zeros clock.activities clock.some_at clock.inside clock.first_jump clock.each clock.entries_of clock.start clock.resume
    states.start_state states.step_state states.outputs_of equal.dec_eq equal.same_entry equal.same_entries equal.same_state
    tables.machine_of search.number_of search.next_number search.meet search.row search.rows search.find answer.listed
    printing.decimal_by printing.spaced printing.row_lines printing.listing_of printing.refusal_line
    readings.words_reading readings.reading_of tabled.table_of listing.yield_of
yield_in room s = listing.yield_of room (bytes s)

-- for the source this is printed, in the room, and nothing else is (one-print)
pub record Lists (room : ℕ) (source print : String) : Type 0 where
  pub prints : PrintsIn room (bytes source) (bytes print)

pub lists : {room : ℕ} {source print : String} → printed (yield_in room source) ≡ bytes print → Lists room source print
unfolding yield_in
lists {room} {source} e = record { prints = subst (PrintsIn room (bytes source)) e (listing.prints_in room (bytes source)) }
