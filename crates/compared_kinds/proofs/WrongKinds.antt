-- Kinds: 7, at the word.
-- Assumes nothing.
use mathlib.Core.Path.{refl}
use Rattle.language.proofs.Computing.{yield_in, Lists, lists}

pub record WrongKinds : Type 0 where
  pub plus_left : Lists 256 "program p; output A; integer x[2]; break; x := true + 1; x := A endprog" "refused 7 at 52\n"
  pub minus_right : Lists 256 "program p; output A; integer x[2]; x := 1 - A endprog" "refused 7 at 42\n"
  pub over_right : Lists 256 "program p; integer x[2]; x := 1 / x[0] endprog" "refused 7 at 32\n"
  pub rest-left : Lists 256 "program p; integer x[2]; x := (x == 1) % 2 endprog" "refused 7 at 39\n"
  pub plus_not : Lists 256 "program p; output A; integer x[2]; x := (!A) + 1 endprog" "refused 7 at 45\n"
  pub plus_and : Lists 256 "program p; output A; internal B; integer x[2]; x := 1 + (A & B) endprog" "refused 7 at 54\n"
  pub greater_left : Lists 256 "program p; if true > 1 then skip endif endprog" "refused 7 at 19\n"
  pub greater_right : Lists 256 "program p; output A; if 1 > A then skip endif endprog" "refused 7 at 26\n"
  pub less_left : Lists 256 "program p; input I; integer x[2]; if I < x then skip endif endprog" "refused 7 at 39\n"
  pub less_right : Lists 256 "program p; internal B; integer x[2]; if x < B then skip endif endprog" "refused 7 at 42\n"
  pub less_both : Lists 256 "program p; output A; internal B; if A < B then skip endif endprog" "refused 7 at 38\n"
  pub greater_both : Lists 256 "program p; output A; internal B; if A > B then skip endif endprog" "refused 7 at 38\n"
  pub equal_mixed : Lists 256 "program p; output A; integer x[2]; break; if x == A then skip endif; x := A endprog" "refused 7 at 47\n"
  pub equal_mixed_back : Lists 256 "program p; output A; if A == int(A) then skip endif endprog" "refused 7 at 26\n"
  pub unequal_mixed : Lists 256 "program p; input I; if 5 != I then skip endif endprog" "refused 7 at 25\n"
  pub unequal_mixed_back : Lists 256 "program p; integer x[2]; if x[1] != x then skip endif endprog" "refused 7 at 33\n"
  pub and_left : Lists 256 "program p; output A; integer x[2]; break; if 1 & A then skip endif; x := A endprog" "refused 7 at 47\n"
  pub and_right : Lists 256 "program p; output A; integer x[2]; if A & x then skip endif endprog" "refused 7 at 40\n"
  pub or_left : Lists 256 "program p; output A; if 1 | A then skip endif endprog" "refused 7 at 26\n"
  pub or_right : Lists 256 "program p; output A; integer x[2]; if A | (x + 1) then skip endif endprog" "refused 7 at 40\n"
  pub or_numbers : Lists 256 "program p; if 1 | 2 then skip endif endprog" "refused 7 at 16\n"
  pub not_number : Lists 256 "program p; output A; integer x[2]; break; if !5 then skip endif; x := A endprog" "refused 7 at 45\n"
  pub not_integer : Lists 256 "program p; integer x[2]; if !x then skip endif endprog" "refused 7 at 28\n"
  pub int_number : Lists 256 "program p; output A; integer x[2]; break; x := int(5); x := A endprog" "refused 7 at 47\n"
  pub int-integer : Lists 256 "program p; integer x[2]; x := 1 + int(x) endprog" "refused 7 at 34\n"
  pub if_number : Lists 256 "program p; output A; integer x[2]; break; if 5 then skip endif; x := A endprog" "refused 7 at 42\n"
  pub if_sum : Lists 256 "program p; integer x[2]; if x + 1 then skip endif endprog" "refused 7 at 25\n"
  pub if_int : Lists 256 "program p; output A; if int(A) then skip endif endprog" "refused 7 at 21\n"
  pub while-integer : Lists 256 "program p; output A; integer x[2]; break; while x do loop skip endloop; x := A endprog" "refused 7 at 42\n"
  pub case-integer : Lists 256 "program p; output A; integer x[2]; break; switch case A: skip case x: skip default: skip endswitch; x := A endprog" "refused 7 at 62\n"
  pub raise_input : Lists 256 "program p; input I; output A; integer x[2]; break; raise(I); x := A endprog" "refused 7 at 51\n"
  pub lower_input : Lists 256 "program p; input I; output A; integer x[2]; break; lower(I); x := A endprog" "refused 7 at 51\n"
  pub invert_integer : Lists 256 "program p; output A; integer x[2]; break; invert(x); x := A endprog" "refused 7 at 42\n"
  pub input-assigned : Lists 256 "program p; input I; output A; integer x[2]; break; I := 1; x := A endprog" "refused 7 at 51\n"
  pub output_assigned : Lists 256 "program p; output A; A := 1 endprog" "refused 7 at 21\n"
  pub internal_assigned : Lists 256 "program p; internal B; integer x[2]; B := x endprog" "refused 7 at 37\n"
  pub truth-assigned : Lists 256 "program p; output A; integer x[2]; break; x := A; x := A endprog" "refused 7 at 42\n"
  pub bit_of_input : Lists 256 "program p; input I; output A; integer x[2]; break; raise(I[0]); x := A endprog" "refused 7 at 57\n"
  pub bit_of_output : Lists 256 "program p; output A; raise(A[0]) endprog" "refused 7 at 27\n"
  pub bit_past : Lists 256 "program p; output A; integer x[2]; break; lower(x[2]); x := A endprog" "refused 7 at 48\n"
  pub bit-read-input : Lists 256 "program p; input I; integer x[2]; x := int(I[0]) endprog" "refused 7 at 43\n"
  pub bit-read_output : Lists 256 "program p; output A; integer x[2]; x := int(A[0]) endprog" "refused 7 at 44\n"
  pub bit-read-past : Lists 256 "program p; output A; integer x[2]; break; x := 1 + int(x[2]); x := A endprog" "refused 7 at 55\n"
  pub bit_of_none : Lists 256 "program p; integer y[0]; exit; raise(y[0]) endprog" "refused 7 at 37\n"
  pub bit_of_wide : Lists 256 "program p; integer y[17]; delay 256; raise(y[16]); raise(y[17]) endprog" "refused 7 at 57\n"
  pub under_not : Lists 256 "program p; output A; if !(1 & A) then skip endif endprog" "refused 7 at 28\n"
  pub left-first : Lists 256 "program p; output A; if 1 & A == !2 then skip endif endprog" "refused 7 at 26\n"
  pub chain : Lists 256 "program p; integer newcard[4]; if 10 < newcard < 14 then skip endif endprog" "refused 7 at 47\n"
  pub two_in_one : Lists 256 "program p; output b; if 1 + b[0] then skip endif endprog" "refused 7 at 21\n"
  pub all_well : Lists 256 "program p; input I; output A; internal B; integer x[3]; break; raise(A); lower(B); invert(x[2]); x := int(x[2]) + int(I) - int(!A) * 3 / x % 2; while A == B do loop skip endloop; if (x != 1) & A | I then skip endif; switch case x[0]: skip case x > 1: skip default: skip endswitch; if true == (x < 2) & (I != false) then skip endif endprog" "refused 8 at 56\n"

pub wrong_kinds : WrongKinds
unfolding yield_in
wrong_kinds =
    record {
      plus_left = lists refl;
      minus_right = lists refl;
      over_right = lists refl;
      rest-left = lists refl;
      plus_not = lists refl;
      plus_and = lists refl;
      greater_left = lists refl;
      greater_right = lists refl;
      less_left = lists refl;
      less_right = lists refl;
      less_both = lists refl;
      greater_both = lists refl;
      equal_mixed = lists refl;
      equal_mixed_back = lists refl;
      unequal_mixed = lists refl;
      unequal_mixed_back = lists refl;
      and_left = lists refl;
      and_right = lists refl;
      or_left = lists refl;
      or_right = lists refl;
      or_numbers = lists refl;
      not_number = lists refl;
      not_integer = lists refl;
      int_number = lists refl;
      int-integer = lists refl;
      if_number = lists refl;
      if_sum = lists refl;
      if_int = lists refl;
      while-integer = lists refl;
      case-integer = lists refl;
      raise_input = lists refl;
      lower_input = lists refl;
      invert_integer = lists refl;
      input-assigned = lists refl;
      output_assigned = lists refl;
      internal_assigned = lists refl;
      truth-assigned = lists refl;
      bit_of_input = lists refl;
      bit_of_output = lists refl;
      bit_past = lists refl;
      bit-read-input = lists refl;
      bit-read_output = lists refl;
      bit-read-past = lists refl;
      bit_of_none = lists refl;
      bit_of_wide = lists refl;
      under_not = lists refl;
      left-first = lists refl;
      chain = lists refl;
      two_in_one = lists refl;
      all_well = lists refl;
    }
