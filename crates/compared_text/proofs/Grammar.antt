-- Texts that are no program: 5, at the word or the length.
-- Assumes nothing.
use mathlib.Core.Path.{refl}
use Rattle.language.proofs.Computing.{yield_in, Lists, lists}

pub record Grammar : Type 0 where
  pub empty : Lists 256 "" "refused 5 at 0\n"
  pub no_name_lem : Lists 256 "program" "refused 5 at 7\n"
  pub no_end : Lists 256 "program p; skip" "refused 5 at 15\n"
  pub end_with_blanks : Lists 256 "program p; raise(Q) \t\n\r" "refused 5 at 23\n"
  pub more : Lists 256 "program p; skip endprog x" "refused 5 at 24\n"
  pub two-words : Lists 256 "program p; 5x endprog" "refused 5 at 11\n"
  pub word : Lists 256 "program p; raise(Q); skip skip endif endprog" "refused 5 at 26\n"
  pub no_statement : Lists 256 "program p; input I; endprog" "refused 5 at 20\n"
  pub no_declaration : Lists 256 "program p; input ; skip endprog" "refused 5 at 17\n"
  pub input-starts : Lists 256 "program p; input I = true; skip endprog" "refused 5 at 19\n"
  pub output_number : Lists 256 "program p; output A = 1; skip endprog" "refused 5 at 22\n"
  pub integer-truth : Lists 256 "program p; integer x[2] = true; skip endprog" "refused 5 at 26\n"
  pub integer_ending : Lists 256 "program p; integer x[2].H; skip endprog" "refused 5 at 23\n"
  pub integer_bare : Lists 256 "program p; integer x; skip endprog" "refused 5 at 20\n"
  pub bit-assigned : Lists 256 "program p; integer x[3]; x[1] := 1 endprog" "refused 5 at 26\n"
  pub not_after_plus : Lists 256 "program p; integer x[3]; x := x + !x endprog" "refused 5 at 34\n"
  pub two_spares : Lists 256 "program p; skip;; endprog" "refused 5 at 16\n"
  pub no_default : Lists 256 "program p; switch case true: skip endswitch endprog" "refused 5 at 34\n"
  pub no_case : Lists 256 "program p; switch default: skip endswitch endprog" "refused 5 at 18\n"
  pub default-first : Lists 256 "program p; switch case true: skip default: skip case true: skip endswitch endprog" "refused 5 at 48\n"
  pub one_branch : Lists 256 "program p; parallel skip endparallel endprog" "refused 5 at 25\n"
  pub bar_at_end : Lists 256 "program p; parallel skip || skip || endparallel endprog" "refused 5 at 36\n"
  pub empty_else : Lists 256 "program p; if true then skip else endif endprog" "refused 5 at 34\n"
  pub while-alone : Lists 256 "program p; while true loop skip endloop endprog" "refused 5 at 22\n"
  pub greater_equal : Lists 256 "program p; integer x[2]; if x >= 1 then skip endif endprog" "refused 5 at 31\n"
  pub raise_expression : Lists 256 "program p; output A; raise((A)) endprog" "refused 5 at 27\n"
  pub delay-name : Lists 256 "program p; integer x[2]; delay x endprog" "refused 5 at 31\n"
  pub level_lower : Lists 256 "program p; output A; loop loop loop loop loop loop loop loop loop loop loop loop loop loop loop loop loop loop loop loop loop loop loop loop loop loop loop loop loop loop loop loop lower(A) endloop endloop endloop endloop endloop endloop endloop endloop endloop endloop endloop endloop endloop endloop endloop endloop endloop endloop endloop endloop endloop endloop endloop endloop endloop endloop endloop endloop endloop endloop endloop endloop endprog" "refused 5 at 186\n"
  pub level_invert : Lists 256 "program p; output A; loop loop loop loop loop loop loop loop loop loop loop loop loop loop loop loop loop loop loop loop loop loop loop loop loop loop loop loop loop loop loop loop invert(A) endloop endloop endloop endloop endloop endloop endloop endloop endloop endloop endloop endloop endloop endloop endloop endloop endloop endloop endloop endloop endloop endloop endloop endloop endloop endloop endloop endloop endloop endloop endloop endloop endprog" "refused 5 at 187\n"
  pub level_not_closed : Lists 256 "program p; output A; loop loop loop loop loop loop loop loop loop loop loop loop loop loop loop loop loop loop loop loop loop loop loop loop loop loop loop loop loop loop if !true & !true then skip endif; raise(Q) endloop endloop endloop endloop endloop endloop endloop endloop endloop endloop endloop endloop endloop endloop endloop endloop endloop endloop endloop endloop endloop endloop endloop endloop endloop endloop endloop endloop endloop endloop endprog" "refused 6 at 211\n"
  pub level-closed : Lists 256 "program p; output A; loop loop loop loop loop loop loop loop loop loop loop loop loop loop loop loop loop loop loop loop loop loop loop loop loop loop loop loop loop loop loop raise(A); lower(A); invert(A); if true then skip endif; while true do loop skip endloop; loop skip endloop; switch case true: skip default: skip endswitch; parallel skip || skip endparallel; x := (1) + int(true) endloop endloop endloop endloop endloop endloop endloop endloop endloop endloop endloop endloop endloop endloop endloop endloop endloop endloop endloop endloop endloop endloop endloop endloop endloop endloop endloop endloop endloop endloop endloop endprog" "refused 6 at 367\n"

pub grammar : Grammar
unfolding yield_in
grammar =
    record {
      empty = lists refl;
      no_name_lem = lists refl;
      no_end = lists refl;
      end_with_blanks = lists refl;
      more = lists refl;
      two-words = lists refl;
      word = lists refl;
      no_statement = lists refl;
      no_declaration = lists refl;
      input-starts = lists refl;
      output_number = lists refl;
      integer-truth = lists refl;
      integer_ending = lists refl;
      integer_bare = lists refl;
      bit-assigned = lists refl;
      not_after_plus = lists refl;
      two_spares = lists refl;
      no_default = lists refl;
      no_case = lists refl;
      default-first = lists refl;
      one_branch = lists refl;
      bar_at_end = lists refl;
      empty_else = lists refl;
      while-alone = lists refl;
      greater_equal = lists refl;
      raise_expression = lists refl;
      delay-name = lists refl;
      level_lower = lists refl;
      level_invert = lists refl;
      level_not_closed = lists refl;
      level-closed = lists refl;
    }
