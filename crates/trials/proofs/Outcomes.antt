-- Document 01's program, and the texts that it leaves open, each with its outcome, by computation: another rule, order or level is refused here.
-- Assumes nothing.
use Rattle.ll1.proofs.Tests.{has, begin_row, pick}
use Rattle.ll1.proofs.Parser.{barred, run}
use Rattle.language.specs.Grammar.{binding, csml}
use Rattle.language.proofs.Texts.{words_in}
use Rattle.language.proofs.Claims as claimed
use Rattle.language.proofs.Checking.{shows}
use Rattle.language.proofs.GrammarExamples.{Good, Five, Four}

pub record Outcomes : Type 0 where
  -- "Blink, complete", and the declarations of 000
  pub blink : Good "program blink; input GO; output LAMP; loop if GO then invert(LAMP) endif endloop endprog"
  pub declared : Good "program p; input A.H, B.L, C; output D = true, E.L, F; internal G.H = false; integer X[3] = 5, Y[2] = 7, Z[5]; skip endprog"
  -- "then zero or more declarations each closed by `;`, then a statement list, then `endprog`; only blanks .. may follow"
  pub nothing : Five "" 0
  pub no_name_lem : Five "program process; skip endprog" 8
  pub no_declaration : Five "program p; ; skip endprog" 11
  pub declaration_after : Five "program p; skip; input A endprog" 17
  pub not_closed : Five "program p; input A skip endprog" 19
  pub blanks_after : Good "program p; skip endprog \n"
  pub more-after : Five "program p; skip endprog skip" 24
  pub no_end : Five "program p; skip  " 17
  -- an input has no initialiser, a boolean is `true` or `false`, an integer has its width and no ending
  pub input-start : Five "program p; input A = true; skip endprog" 19
  pub boolean-number : Five "program p; output A = 1; skip endprog" 22
  pub ending_late : Five "program p; output A = true.H; skip endprog" 26
  pub no_width : Five "program p; integer X; skip endprog" 20
  pub integer_ending : Five "program p; integer X[3].H; skip endprog" 23
  pub integer-boolean : Five "program p; integer X[3] = true; skip endprog" 26
  pub comma-last : Five "program p; input A, ; skip endprog" 20
  -- "one or more statements parted by `;`, with one spare `;` allowed at its end"
  pub spare : Good "program p; if a then skip; else skip; endif; while a do loop skip; endloop; loop skip; endloop; switch case a: skip; default: skip; endswitch; parallel skip; || skip; endparallel; endprog"
  pub two_spare : Five "program p; skip;; endprog" 16
  pub no_statement : Five "program p; endprog" 11
  pub no_body : Five "program p; if a then endif endprog" 21
  pub not_parted : Five "program p; skip skip endprog" 16
  -- targets
  pub targets : Good "program p; raise(a); lower(x[1]); invert(a); x := x[1] endprog"
  pub delayed : Good "program p; delay 0; delay 65535 endprog"
  pub bit-assigned : Five "program p; x[1] := 1 endprog" 12
  pub raised-number : Five "program p; raise(1) endprog" 17
  pub raised_twice : Five "program p; raise((a)) endprog" 17
  pub no_parenthesis : Five "program p; raise a endprog" 17
  pub bit_by_name : Five "program p; raise(x[y]) endprog" 19
  pub delay-name : Five "program p; delay x endprog" 17
  -- compound statements
  pub while_no_loop : Five "program p; while a do skip endloop endprog" 22
  pub two_else : Five "program p; if a then skip else skip else skip endif endprog" 36
  pub no_semicolon : Good "program p; switch case a: skip case b: skip default: skip endswitch endprog"
  pub no_case : Five "program p; switch default: skip endswitch endprog" 18
  pub no_default : Five "program p; switch case a: skip endswitch endprog" 31
  pub default-first : Five "program p; switch case a: skip default: skip case b: skip endswitch endprog" 45
  pub one_branch : Five "program p; parallel skip endparallel endprog" 25
  pub three_branches : Good "program p; parallel skip || exit || break endparallel endprog"
  pub compress_later : Five "program p; compress skip endcompress endprog" 11
  -- expressions: "An arithmetic operator's operand can't begin with `!`"
  pub no_kinds : Good "program p; x := true; if 5 then x := int(5) endif endprog"
  pub printed_order : Good "program p; if newcard > 10 & newcard < 14 then skip endif endprog"
  pub not_sum : Good "program p; x := !x + 1 endprog"
  pub plus_not : Five "program p; x := x + !a endprog" 20
  pub plus_parenthesis : Good "program p; x := x + (!a) endprog"
  pub or_not : Good "program p; x := a | !b & !!c == !d endprog"
  pub less_than_not : Five "program p; x := a * !b endprog" 20
  pub minus_alone : Five "program p; x := -1 endprog" 16
  pub no_int_parenthesis : Five "program p; x := int a endprog" 20
  pub bit_of_number : Five "program p; x := 5[0] endprog" 17
  pub greater_equal : Five "program p; if a >= b then skip endif endprog" 17
  pub two_ands : Five "program p; if a && b then skip endif endprog" 17
  pub three_equals : Five "program p; if a === b then skip endif endprog" 18
  -- "The lowest number wins": a 4 anywhere
  pub strange-later : Four "program program _" 16
  pub strange-after : Four "program p; skip endprog \0" 24

pub outcomes : Outcomes
unfolding words_in has begin_row pick barred run binding csml claimed.claims claimed.first claimed.empty claimed.follow
outcomes =
    record {
      blink = (_, shows 400 _ tt);
      declared = (_, shows 400 _ tt);
      nothing = shows 400 _ tt;
      no_name_lem = shows 400 _ tt;
      no_declaration = shows 400 _ tt;
      declaration_after = shows 400 _ tt;
      not_closed = shows 400 _ tt;
      blanks_after = (_, shows 400 _ tt);
      more-after = shows 400 _ tt;
      no_end = shows 400 _ tt;
      input-start = shows 400 _ tt;
      boolean-number = shows 400 _ tt;
      ending_late = shows 400 _ tt;
      no_width = shows 400 _ tt;
      integer_ending = shows 400 _ tt;
      integer-boolean = shows 400 _ tt;
      comma-last = shows 400 _ tt;
      spare = (_, shows 400 _ tt);
      two_spare = shows 400 _ tt;
      no_statement = shows 400 _ tt;
      no_body = shows 400 _ tt;
      not_parted = shows 400 _ tt;
      targets = (_, shows 400 _ tt);
      delayed = (_, shows 400 _ tt);
      bit-assigned = shows 400 _ tt;
      raised-number = shows 400 _ tt;
      raised_twice = shows 400 _ tt;
      no_parenthesis = shows 400 _ tt;
      bit_by_name = shows 400 _ tt;
      delay-name = shows 400 _ tt;
      while_no_loop = shows 400 _ tt;
      two_else = shows 400 _ tt;
      no_semicolon = (_, shows 400 _ tt);
      no_case = shows 400 _ tt;
      no_default = shows 400 _ tt;
      default-first = shows 400 _ tt;
      one_branch = shows 400 _ tt;
      three_branches = (_, shows 400 _ tt);
      compress_later = shows 400 _ tt;
      no_kinds = (_, shows 400 _ tt);
      printed_order = (_, shows 400 _ tt);
      not_sum = (_, shows 400 _ tt);
      plus_not = shows 400 _ tt;
      plus_parenthesis = (_, shows 400 _ tt);
      or_not = (_, shows 400 _ tt);
      less_than_not = shows 400 _ tt;
      minus_alone = shows 400 _ tt;
      no_int_parenthesis = shows 400 _ tt;
      bit_of_number = shows 400 _ tt;
      greater_equal = shows 400 _ tt;
      two_ands = shows 400 _ tt;
      three_equals = shows 400 _ tt;
      strange-later = shows 400 _ tt;
      strange-after = shows 400 _ tt;
    }
