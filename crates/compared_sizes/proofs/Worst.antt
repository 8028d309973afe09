-- Worst sizes: 10, at the operator.
-- Assumes nothing.
use mathlib.Core.Path.{refl}
use Rattle.language.proofs.Computing.{yield_in, Lists, lists}

pub record Worst : Type 0 where
  pub product : Lists 256 "program p; integer x[16], y[2]; output A; internal B; x := x * 32769 + x * 32769 endprog" "refused 10 at 61\n"
  pub product_full : Lists 256 "program p; integer x[16], y[2]; output A; internal B; x := x * 32768 endprog" "machine p\ninputs -\noutputs A\nstates 2\n0 0 1\n1 0 1\n"
  pub sum : Lists 256 "program p; integer x[16], y[2]; output A; internal B; x := 1 + x * 32769 endprog" "refused 10 at 61\n"
  pub sum_over : Lists 256 "program p; integer x[16], y[2]; output A; internal B; x := x * 32768 + 32768 endprog" "refused 10 at 69\n"
  pub sum_full : Lists 256 "program p; integer x[16], y[2]; output A; internal B; x := x * 32768 + 32767 endprog" "machine p\ninputs -\noutputs A\nstates 2\n0 0 1\n1 0 1\n"
  pub difference : Lists 256 "program p; integer x[16], y[2]; output A; internal B; x := x * 32768 - 32767 - 1 endprog" "refused 10 at 77\n"
  pub int-counts : Lists 256 "program p; integer x[16], y[2]; output A; internal B; x := x * 32768 + 32767 + int(A) endprog" "refused 10 at 77\n"
  pub small-variable : Lists 256 "program p; integer x[16], y[2]; output A; internal B; x := x * 32768 + 32764 + y + y * 0 - 1 endprog" "refused 10 at 89\n"
  pub small_full : Lists 256 "program p; integer x[16], y[2]; output A; internal B; x := x * 32768 + 32764 + y endprog" "machine p\ninputs -\noutputs A\nstates 2\n0 0 1\n1 0 1\n"
  pub left_only : Lists 256 "program p; integer x[16], y[2]; output A; internal B; x := x * 32768 / 32769 % x + 32768 endprog" "refused 10 at 81\n"
  pub left_only_full : Lists 256 "program p; integer x[16], y[2]; output A; internal B; x := x * 32768 / 32769 % x + 32767 endprog" "machine p\ninputs -\noutputs A\nstates 2\n0 0 1\n1 0 1\n"
  pub right_not : Lists 256 "program p; integer x[16], y[2]; output A; internal B; x := 1 / (x * 32768) * x * 32768 + 5 % (x * 32768) endprog" "machine p\ninputs -\noutputs A\nstates 2\n0 0 1\n1 0 1\n"
  pub over_right : Lists 256 "program p; integer x[16]; x := 1 / (x * 32769) endprog" "refused 10 at 38\n"
  pub rest-right : Lists 256 "program p; integer x[16]; x := 5 % (x * 32769) endprog" "refused 10 at 38\n"
  pub zero_factor : Lists 256 "program p; integer x[16], y[2]; output A; internal B; x := 0 * (x * 32769) endprog" "refused 10 at 66\n"
  pub in_comparison : Lists 256 "program p; integer x[16]; if x == x * 32769 then skip endif; if 1 < x * 32769 then skip endif endprog" "refused 10 at 36\n"
  pub in_int : Lists 256 "program p; integer x[16]; x := int(x > x * 32769) + x * 32769 endprog" "refused 10 at 41\n"
  pub in_and : Lists 256 "program p; integer x[16]; if (x > x * 32769) & true then skip endif endprog" "refused 10 at 36\n"
  pub under_not : Lists 256 "program p; integer x[16]; if !(x > x * 32769) then skip endif endprog" "refused 10 at 37\n"
  pub in_while : Lists 256 "program p; integer x[16]; while x > x * 32769 do loop skip endloop endprog" "refused 10 at 38\n"
  pub in_case : Lists 256 "program p; integer x[16]; switch case x > x * 32769: skip default: x := x * 32769 endswitch endprog" "refused 10 at 44\n"

pub worst : Worst
unfolding yield_in
worst =
    record {
      product = lists refl;
      product_full = lists refl;
      sum = lists refl;
      sum_over = lists refl;
      sum_full = lists refl;
      difference = lists refl;
      int-counts = lists refl;
      small-variable = lists refl;
      small_full = lists refl;
      left_only = lists refl;
      left_only_full = lists refl;
      right_not = lists refl;
      over_right = lists refl;
      rest-right = lists refl;
      zero_factor = lists refl;
      in_comparison = lists refl;
      in_int = lists refl;
      in_and = lists refl;
      under_not = lists refl;
      in_while = lists refl;
      in_case = lists refl;
    }
