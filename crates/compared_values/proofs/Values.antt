-- Programs over values, bits and their order, with their tables.
-- Assumes nothing.
use mathlib.Core.Path.{refl}
use Rattle.language.proofs.Computing.{yield_in, Lists, lists}

pub record Values : Type 0 where
  pub assigned : Lists 256 "program p; output A, B, C; integer x[3] = 3; x := x - 5; if x == 6 then raise(A) endif endprog" "machine p\ninputs -\noutputs A B C\nstates 3\n0 0 0 0 1\n1 0 0 0 2\n2 1 0 0 2\n"
  pub counted : Lists 256 "program p; input I; integer x[2]; output A; loop x := x + int(I); if x > 2 then raise(A) else lower(A) endif endloop endprog" "machine p\ninputs I\noutputs A\nstates 10\n0 0 1 2\n1 0 0 0\n2 0 3 3\n3 0 2 4\n4 0 5 5\n5 0 4 6\n6 0 7 7\n7 1 8 9\n8 1 7 7\n9 1 0 0\n"
  pub odd : Lists 256 "program p; output A; integer x[4] = 9; loop if (x / 2 * 2) != x then raise(A) else lower(A) endif; x := (x * 3 + 1) % 7 endloop endprog" "machine p\ninputs -\noutputs A\nstates 15\n0 0 1\n1 1 2\n2 1 3\n3 0 4\n4 0 5\n5 1 6\n6 1 7\n7 0 8\n8 0 9\n9 0 10\n10 0 11\n11 1 12\n12 1 13\n13 0 14\n14 0 3\n"
  pub hyphens : Lists 256 "program p; input a-b, c_d; output e-1; integer n[2]; loop parallel n := n + 1 || if a-b | c_d & n[0] then raise(e-1) else lower(e-1) endif endparallel endloop endprog" "machine p\ninputs a-b c_d\noutputs e-1\nstates 6\n0 0 1 1 1 1\n1 0 2 3 3 3\n2 0 4 4 4 4\n3 1 4 4 4 4\n4 0 0 5 5 5\n5 1 1 1 1 1\n"
  pub initial : Lists 256 "program p; input I; output A = true, B; internal C.L = true; loop if !I & C then lower(A) else invert(B); invert(C) endif endloop endprog" "machine p\ninputs I\noutputs A B\nstates 8\n0 1 0 1 2\n1 0 0 1 3\n2 1 1 4 4\n3 0 1 5 5\n4 1 1 6 6\n5 0 1 7 7\n6 1 0 0 0\n7 0 0 1 1\n"
  pub bits_of_integer : Lists 256 "program p; input I; output A; integer x[3]; loop switch case x == 0: x := 1 case x == 1: raise(x[1]); lower(x[0]) case I: exit default: skip; endswitch; if x[1] then raise(A) endif endloop; lower(A) endprog" "machine p\ninputs I\noutputs A\nstates 8\n0 0 1 1\n1 0 2 2\n2 0 3 3\n3 0 4 5\n4 0 6 6\n5 0 5 5\n6 1 7 5\n7 1 6 6\n"
  pub grouped : Lists 256 "program p; output L; if 8 - 4 - 2 == 2 then raise(L) endif endprog" "machine p\ninputs -\noutputs L\nstates 2\n0 0 1\n1 1 1\n"
  pub bits : Lists 256 "program p; output A.L; integer x[2]; internal C.H = true; raise(x[1]); lower(x[0]); invert(C); if (x == 2) & !C then raise(A) endif endprog" "machine p\ninputs -\noutputs A\nstates 5\n0 0 1\n1 0 2\n2 0 3\n3 0 4\n4 1 4\n"
  pub starts_in_order : Lists 256 "program p; integer Y[2] = 7; output L; if Y == 3 then raise(L) endif endprog" "machine p\ninputs -\noutputs L\nstates 2\n0 0 1\n1 1 1\n"
  pub signs : Lists 256 "program p; output A, B, C, D; integer x[3]; parallel if (0 - 7) / (0 - 2) == 3 then raise(A) endif || if (0 - 7) % (0 - 2) == 0 - 1 then raise(B) endif || if 7 / (0 - 2) == 0 - 3 then raise(C) endif || if 7 % (0 - 2) == 1 then raise(D) endif endparallel endprog" "machine p\ninputs -\noutputs A B C D\nstates 2\n0 0 0 0 0 1\n1 1 1 1 1 1\n"
  pub zero_divisor : Lists 256 "program p; output A, B, C; integer x[3]; parallel if 7 / x == 0 then raise(A) endif || if 7 % x == 7 then raise(B) endif || if (0 - 7) % x == 0 - 7 then raise(C) endif endparallel endprog" "machine p\ninputs -\noutputs A B C\nstates 2\n0 0 0 0 1\n1 1 1 1 1\n"
  pub truths_equal : Lists 256 "program p; input I, J; output A, B; parallel if I == J then raise(A) endif || if I != J then raise(B) endif endparallel endprog" "machine p\ninputs I J\noutputs A B\nstates 3\n0 0 0 1 2 2 1\n1 1 0 1 1 1 1\n2 0 1 2 2 2 2\n"
  pub ordered : Lists 256 "program p; output A, B, C, D; integer x[2] = 2; parallel if x < 3 then raise(A) endif || if x < 2 then raise(B) endif || if x > 1 then raise(C) endif || if 0 - 3 < 0 - x then raise(D) endif endparallel endprog" "machine p\ninputs -\noutputs A B C D\nstates 2\n0 0 0 0 0 1\n1 1 0 1 1 1\n"
  pub and_or : Lists 256 "program p; input I, J; output A, B, C; parallel if I & J then raise(A) endif || if I | J then raise(B) endif || if !I then raise(C) endif endparallel endprog" "machine p\ninputs I J\noutputs A B C\nstates 5\n0 0 0 0 1 2 3 4\n1 0 0 1 1 1 1 1\n2 0 1 0 2 2 2 2\n3 0 1 1 3 3 3 3\n4 1 1 0 4 4 4 4\n"
  pub fields : Lists 256 "program p; input I; internal C = true; output A, B; integer x[3] = 1, y[2] = 2; internal D; parallel if x == 1 then raise(A) endif || if y == 2 then raise(B) endif || invert(x[2]) || lower(y[1]) || invert(C) || raise(D) endparallel; if (x == 5) & (y == 0) & D & !C then invert(A) endif endprog" "machine p\ninputs I\noutputs A B\nstates 3\n0 0 0 1 1\n1 1 1 2 2\n2 0 1 2 2\n"
  pub field-assigned : Lists 256 "program p; output A; integer x[3] = 7, y[3] = 5, z[2] = 3; y := y + z + 10; if (x == 7) & (y == 2) & (z == 3) & !x[0] == x[0] then skip else raise(A) endif; if y[1] & x[2] & z[1] then lower(A) else skip endif endprog" "machine p\ninputs -\noutputs A\nstates 4\n0 0 1\n1 0 2\n2 1 3\n3 0 3\n"
  pub order : Lists 256 "program p; input I; output A; input J; output B; internal C, D = true; integer x[2] = 1; integer y[1]; if I then raise(A); lower(D) endif; if J & D then raise(B) endif endprog" "machine p\ninputs I J\noutputs A B\nstates 6\n0 0 0 1 2 3 2\n1 0 0 1 1 1 1\n2 1 0 4 4 4 4\n3 0 1 3 3 3 3\n4 1 0 5 5 5 5\n5 1 0 5 5 5 5\n"
  pub initial-bits : Lists 256 "program p; output A, B = true, C, D = true; internal E, F = true; integer x[3] = 5, y[3] = 14; if (x == 5) & (y == 6) & F & !E then raise(A) endif endprog" "machine p\ninputs -\noutputs A B C D\nstates 2\n0 0 1 0 1 1\n1 1 1 0 1 1\n"
  pub initial_truths : Lists 256 "program p; output A = false, B = true; skip endprog" "machine p\ninputs -\noutputs A B\nstates 2\n0 0 1 1\n1 0 1 1\n"

pub values : Values
unfolding yield_in
values =
    record {
      assigned = lists refl;
      counted = lists refl;
      odd = lists refl;
      hyphens = lists refl;
      initial = lists refl;
      bits_of_integer = lists refl;
      grouped = lists refl;
      bits = lists refl;
      starts_in_order = lists refl;
      signs = lists refl;
      zero_divisor = lists refl;
      truths_equal = lists refl;
      ordered = lists refl;
      and_or = lists refl;
      fields = lists refl;
      field-assigned = lists refl;
      order = lists refl;
      initial-bits = lists refl;
      initial_truths = lists refl;
    }
