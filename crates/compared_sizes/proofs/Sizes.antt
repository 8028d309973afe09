-- Sizes: 9, at the first too many.
-- Assumes nothing.
use mathlib.Core.Path.{refl}
use Rattle.language.proofs.Computing.{yield_in, Lists, lists}

pub record Sizes : Type 0 where
  pub inputs : Lists 256 "program p; input A, B, C, D, E, F, G, H; delay 256 endprog" "refused 9 at 35\n"
  pub inputs_full : Lists 256 "program p; input A, B, C; output O; input D, E, F; integer x[16]; x := x * 32769 endprog" "refused 10 at 73\n"
  pub outputs : Lists 256 "program p; output A, B, C, D, E, F, G, H, I, J, K, L, M, N, O, P, Q, R; delay 256 endprog" "refused 9 at 66\n"
  pub outputs_full : Lists 256 "program p; output A, B, C, D, E, F, G, H; input Z; output I, J, K, L, M, N, O, P; integer x[16]; x := x * 32769 endprog" "refused 10 at 104\n"
  pub bits-integer : Lists 256 "program p; integer x[16], y[15]; internal A; integer z[1], w[1]; delay 256 endprog" "refused 9 at 53\n"
  pub bits_internal : Lists 256 "program p; input I; integer x[16], y[16]; internal A, B; delay 256 endprog" "refused 9 at 51\n"
  pub bits_output : Lists 256 "program p; integer x[16], y[16]; output A, B; delay 256 endprog" "refused 9 at 40\n"
  pub bits_full : Lists 256 "program p; input I, J; integer x[16], y[14]; internal A; output B; x := x * 32769 endprog" "refused 10 at 74\n"
  pub bits-wide : Lists 256 "program p; integer x[40], y[0]; delay 256 endprog" "refused 9 at 19\n"
  pub width-none : Lists 256 "program p; integer x[1], y[0], z[17]; delay 256 endprog" "refused 9 at 27\n"
  pub width_over : Lists 256 "program p; integer x[14], y[1], z[17]; delay 256 endprog" "refused 9 at 34\n"
  pub delay : Lists 256 "program p; integer x[16]; x := x * 32769; delay 255; delay 256; delay 300 endprog" "refused 9 at 59\n"
  pub delay_full : Lists 256 "program p; integer x[16]; delay 255; x := x * 32769 endprog" "refused 10 at 44\n"
  pub activities : Lists 256 "program p; integer x[16]; x := x * 32769; parallel skip || parallel skip || skip || skip || skip endparallel || if true then skip else parallel skip || skip || skip || skip endparallel endif endparallel; delay 256 endprog" "refused 9 at 42\n"
  pub activities_inner : Lists 256 "program p; integer x[16]; x := x * 32769; parallel skip || parallel skip || skip || skip || skip || skip || skip || skip || skip || skip endparallel endparallel endprog" "refused 9 at 42\n"
  pub activities_full : Lists 256 "program p; integer x[16]; parallel skip; parallel skip || skip || skip endparallel || switch case true: skip default: parallel skip || skip endparallel endswitch || while true do loop parallel skip || skip endparallel endloop || loop skip endloop endparallel; x := x * 32769 endprog" "refused 10 at 267\n"
  pub activities-each : Lists 256 "program p; output A; integer x[16]; parallel delay 1 || raise(A) || x := 1 || loop exit endloop || break || skip || if true then skip endif || loop skip endloop || while true do loop skip endloop endparallel endprog" "refused 9 at 36\n"
  pub activities-each_full : Lists 256 "program p; output A; integer x[16]; loop parallel delay 1 || raise(A) || x := 1 || exit || break || skip || if true then skip endif || loop skip endloop endparallel endloop; x := x * 32769 endprog" "refused 10 at 181\n"
  pub activities-case : Lists 256 "program p; parallel switch case true: parallel skip || skip || skip || skip endparallel default: skip endswitch || parallel skip || skip || skip || skip || skip endparallel endparallel endprog" "refused 9 at 11\n"
  pub activities-default : Lists 256 "program p; parallel switch case true: skip default: parallel skip || skip || skip || skip endparallel endswitch || loop parallel skip || skip || skip || skip || skip endparallel endloop endparallel endprog" "refused 9 at 11\n"
  pub activities_then : Lists 256 "program p; parallel if true then parallel skip || skip || skip || skip endparallel endif || while true do loop parallel skip || skip || skip || skip || skip endparallel endloop endparallel endprog" "refused 9 at 11\n"
  pub activities-first : Lists 256 "program p; parallel parallel skip || skip || skip || skip endparallel; skip || parallel skip || skip || skip || skip || skip endparallel; skip endparallel endprog" "refused 9 at 11\n"

pub sizes : Sizes
unfolding yield_in
sizes =
    record {
      inputs = lists refl;
      inputs_full = lists refl;
      outputs = lists refl;
      outputs_full = lists refl;
      bits-integer = lists refl;
      bits_internal = lists refl;
      bits_output = lists refl;
      bits_full = lists refl;
      bits-wide = lists refl;
      width-none = lists refl;
      width_over = lists refl;
      delay = lists refl;
      delay_full = lists refl;
      activities = lists refl;
      activities_inner = lists refl;
      activities_full = lists refl;
      activities-each = lists refl;
      activities-each_full = lists refl;
      activities-case = lists refl;
      activities-default = lists refl;
      activities_then = lists refl;
      activities-first = lists refl;
    }
