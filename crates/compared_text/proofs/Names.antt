-- Names: 6, at the name.
-- Assumes nothing.
use mathlib.Core.Path.{refl}
use Rattle.language.proofs.Computing.{yield_in, Lists, lists}

pub record Names : Type 0 where
  pub only_read : Lists 256 "program p; integer x[2]; if x then x := Q endif; raise(R) endprog" "refused 6 at 40\n"
  pub bit-read : Lists 256 "program p; integer x[2]; if x then x := int(Q[0]) endif; raise(R) endprog" "refused 6 at 44\n"
  pub changed : Lists 256 "program p; integer x[2]; if x then raise(Q) endif; raise(R) endprog" "refused 6 at 41\n"
  pub bit-changed : Lists 256 "program p; integer x[2]; if x then lower(Q[1]) endif; raise(R) endprog" "refused 6 at 41\n"
  pub assigned : Lists 256 "program p; integer x[2]; if x then Q := 1 endif; raise(R) endprog" "refused 6 at 35\n"
  pub in_if : Lists 256 "program p; integer x[2]; exit; if Q then skip else raise(R) endif endprog" "refused 6 at 34\n"
  pub in_while : Lists 256 "program p; exit; while Q do loop raise(R) endloop endprog" "refused 6 at 23\n"
  pub in_case : Lists 256 "program p; exit; switch case true: skip case Q: raise(R) default: skip endswitch endprog" "refused 6 at 45\n"
  pub in_default : Lists 256 "program p; exit; switch case true: skip default: raise(Q); raise(R) endswitch endprog" "refused 6 at 55\n"
  pub in_else : Lists 256 "program p; exit; if true then skip else raise(Q); raise(R) endif endprog" "refused 6 at 46\n"
  pub in_branch : Lists 256 "program p; exit; parallel skip || skip || raise(Q) || raise(R) endparallel endprog" "refused 6 at 48\n"
  pub under_not : Lists 256 "program p; exit; if !Q then skip endif endprog" "refused 6 at 21\n"
  pub right_of_and : Lists 256 "program p; exit; if true & Q then skip endif endprog" "refused 6 at 27\n"
  pub right_of_less : Lists 256 "program p; exit; if 1 < Q then skip endif endprog" "refused 6 at 24\n"
  pub left_then_changed : Lists 256 "program p; exit; Q := R; raise(S) endprog" "refused 6 at 17\n"
  pub used-before-changed : Lists 256 "program p; integer x[2]; exit; if Q then raise(R) endif endprog" "refused 6 at 34\n"
  pub again-input : Lists 256 "program p; integer x[0]; input I, J, I; raise(Q) endprog" "refused 6 at 37\n"
  pub again-kinds : Lists 256 "program p; integer x[0]; internal b; output b, x; raise(Q) endprog" "refused 6 at 44\n"
  pub again-integer : Lists 256 "program p; integer x[0], y[3], x[2]; raise(Q) endprog" "refused 6 at 31\n"
  pub again_third : Lists 256 "program p; output a, b, c; input b, c; skip endprog" "refused 6 at 33\n"
  pub unknown-before-again : Lists 256 "program p; output a; input b; integer b[1]; raise(a); raise(c) endprog" "refused 6 at 38\n"
  pub prefix : Lists 256 "program p; output ab; raise(a) endprog" "refused 6 at 28\n"
  pub longer : Lists 256 "program p; output ab; raise(abc) endprog" "refused 6 at 28\n"
  pub other-case : Lists 256 "program p; output ab; raise(aB) endprog" "refused 6 at 28\n"

pub names : Names
unfolding yield_in
names =
    record {
      only_read = lists refl;
      bit-read = lists refl;
      changed = lists refl;
      bit-changed = lists refl;
      assigned = lists refl;
      in_if = lists refl;
      in_while = lists refl;
      in_case = lists refl;
      in_default = lists refl;
      in_else = lists refl;
      in_branch = lists refl;
      under_not = lists refl;
      right_of_and = lists refl;
      right_of_less = lists refl;
      left_then_changed = lists refl;
      used-before-changed = lists refl;
      again-input = lists refl;
      again-kinds = lists refl;
      again-integer = lists refl;
      again_third = lists refl;
      unknown-before-again = lists refl;
      prefix = lists refl;
      longer = lists refl;
      other-case = lists refl;
    }
