-- Calls that are expanded: by name, as if in parentheses, each with its own places.
-- Assumes nothing.
use mathlib.Core.Path.{refl}
use Rattle.language.proofs.Computing.{yield_in, Lists, lists}

pub record Expanded : Type 0 where
  pub without_end : Lists 256 "program p; procedure q() skip endproc q() endprog" "machine p\ninputs -\noutputs -\nstates 2\n0 - 1\n1 - 1\n"
  pub with_end : Lists 256 "program p; procedure q() skip endproc; q() endprog" "machine p\ninputs -\noutputs -\nstates 2\n0 - 1\n1 - 1\n"
  pub wait : Lists 256 "program p; input I; output A; procedure wait(exp) loop if exp then exit endif endloop endproc loop wait(I); invert(A); wait(!I) endloop endprog" "machine p\ninputs I\noutputs A\nstates 5\n0 0 1 2\n1 0 1 2\n2 1 3 2\n3 1 3 4\n4 0 1 4\n"
  pub bit_handed : Lists 256 "program p; integer x[3]; procedure q(a) raise(a); lower(a) endproc q(x[1]); q(x[2]) endprog" "machine p\ninputs -\noutputs -\nstates 5\n0 - 1\n1 - 2\n2 - 3\n3 - 4\n4 - 4\n"
  pub in_parentheses : Lists 256 "program p; integer x[3] = 3; output L; procedure q(e) if e * 2 == 10 then raise(L) endif endproc q(x + 2) endprog" "machine p\ninputs -\noutputs L\nstates 2\n0 0 1\n1 1 1\n"
  pub under_not : Lists 256 "program p; input A, B; output L; procedure q(e) if !e then raise(L) endif endproc q(A | B) endprog" "machine p\ninputs A B\noutputs L\nstates 3\n0 0 1 2 2 2\n1 1 1 1 1 1\n2 0 2 2 2 2\n"
  pub assigned : Lists 256 "program p; integer x[2], y[2]; output L; procedure set(v, e) v := e endproc set(x, 3); set(y, x + 1); if y == 0 then raise(L) endif endprog" "machine p\ninputs -\noutputs L\nstates 4\n0 0 1\n1 0 2\n2 0 3\n3 1 3\n"
  pub exits : Lists 256 "program p; input I; output A; procedure q() raise(A); if I then exit endif endproc loop q() endloop endprog" "machine p\ninputs I\noutputs A\nstates 3\n0 0 1 1\n1 1 1 2\n2 1 2 2\n"
  pub declared-later : Lists 256 "program p; procedure q() raise(L) endproc output L; q() endprog" "machine p\ninputs -\noutputs L\nstates 2\n0 0 1\n1 1 1\n"
  pub formal-declared-later : Lists 256 "program p; procedure q(A) skip endproc input A; q(A) endprog" "machine p\ninputs A\noutputs -\nstates 2\n0 - 1 1\n1 - 1 1\n"
  pub dropped_unknown : Lists 256 "program p; procedure q(A) skip endproc input A; q(nosuch); q(A) endprog" "machine p\ninputs A\noutputs -\nstates 3\n0 - 1 1\n1 - 2 2\n2 - 2 2\n"
  pub dropped_in_sum : Lists 256 "program p; integer x[2]; procedure q(e) x := 1 endproc skip; q(1 + nosuch) endprog" "machine p\ninputs -\noutputs -\nstates 3\n0 - 1\n1 - 2\n2 - 2\n"
  pub never_called : Lists 256 "program p; procedure q() exit; raise(nosuch); delay 999 endproc skip endprog" "machine p\ninputs -\noutputs -\nstates 2\n0 - 1\n1 - 1\n"
  pub calls_itself_never : Lists 256 "program p; procedure q() q() endproc skip endprog" "machine p\ninputs -\noutputs -\nstates 2\n0 - 1\n1 - 1\n"
  pub later_never_called : Lists 256 "program p; procedure q() r() endproc procedure r() skip endproc r() endprog" "machine p\ninputs -\noutputs -\nstates 2\n0 - 1\n1 - 1\n"
  pub bit_of_no_name_dropped : Lists 256 "program p; procedure r(x) skip endproc procedure q(a) r(a[0]) endproc q(1 + 1) endprog" "machine p\ninputs -\noutputs -\nstates 2\n0 - 1\n1 - 1\n"
  pub indexed : Lists 256 "program p; integer x[4]; output L; procedure q(a) if a[2] then raise(L) else x := x + 1 endif endproc loop q(x) endloop endprog" "machine p\ninputs -\noutputs L\nstates 6\n0 0 1\n1 0 2\n2 0 3\n3 0 4\n4 0 5\n5 1 5\n"
  pub own-places : Lists 256 "program p; output A; procedure q() skip; raise(A) endproc q(); q() endprog" "machine p\ninputs -\noutputs A\nstates 5\n0 0 1\n1 0 2\n2 1 3\n3 1 4\n4 1 4\n"
  pub chains_of_calls : Lists 256 "program p; output L; procedure q() raise(L) endproc procedure r() q(); q(); q() endproc procedure s() r(); lower(L) endproc s(); s() endprog" "machine p\ninputs -\noutputs L\nstates 9\n0 0 1\n1 1 2\n2 1 3\n3 1 4\n4 0 5\n5 1 6\n6 1 7\n7 1 8\n8 0 8\n"
  pub thirty_two-levels : Lists 256 "program p; input A; integer x[2]; procedure q(e) x := int(((((((((((((((((((((((((((((((e))))))))))))))))))))))))))))))) endproc q(A) endprog" "machine p\ninputs A\noutputs -\nstates 3\n0 - 1 2\n1 - 1 1\n2 - 2 2\n"
  pub handed_on_levels : Lists 256 "program p; input A; integer x[2]; procedure q(e) x := int((((((((((((((((((((((((((((((e)))))))))))))))))))))))))))))) endproc procedure r(f) q(f) endproc r(A) endprog" "machine p\ninputs A\noutputs -\nstates 3\n0 - 1 2\n1 - 1 1\n2 - 2 2\n"
  pub actual_of_thirty_two : Lists 256 "program p; input A; procedure q(e) skip endproc skip; q((((((((((((((((((((((((((((((((A)))))))))))))))))))))))))))))))) endprog" "machine p\ninputs A\noutputs -\nstates 3\n0 - 1 1\n1 - 2 2\n2 - 2 2\n"
  pub program-name : Lists 256 "program p; procedure p() skip endproc p() endprog" "machine p\ninputs -\noutputs -\nstates 2\n0 - 1\n1 - 1\n"
  pub bit_of_formal : Lists 256 "program p; integer x[3]; procedure r(b) raise(b) endproc procedure q(a) r(a[2]); skip endproc q(x) endprog" "machine p\ninputs -\noutputs -\nstates 3\n0 - 1\n1 - 2\n2 - 2\n"
  pub dropped_worst : Lists 256 "program p; integer x[16]; procedure q(a) skip endproc q(x * 65535 * 65535) endprog" "machine p\ninputs -\noutputs -\nstates 2\n0 - 1\n1 - 1\n"
  pub eight-activities : Lists 256 "program p; procedure q() parallel skip || skip || skip || skip endparallel endproc parallel q() || q() endparallel endprog" "machine p\ninputs -\noutputs -\nstates 2\n0 - 1\n1 - 1\n"
  pub three_formals : Lists 256 "program p; output A; procedure q(x, y, z) if x == y then z := z + 1 else invert(A) endif endproc integer n[2]; loop q(n, 1 + 1, n) endloop endprog" "machine p\ninputs -\noutputs A\nstates 2\n0 0 1\n1 1 0\n"

pub expanded : Expanded
unfolding yield_in
expanded =
    record {
      without_end = lists refl;
      with_end = lists refl;
      wait = lists refl;
      bit_handed = lists refl;
      in_parentheses = lists refl;
      under_not = lists refl;
      assigned = lists refl;
      exits = lists refl;
      declared-later = lists refl;
      formal-declared-later = lists refl;
      dropped_unknown = lists refl;
      dropped_in_sum = lists refl;
      never_called = lists refl;
      calls_itself_never = lists refl;
      later_never_called = lists refl;
      bit_of_no_name_dropped = lists refl;
      indexed = lists refl;
      own-places = lists refl;
      chains_of_calls = lists refl;
      thirty_two-levels = lists refl;
      handed_on_levels = lists refl;
      actual_of_thirty_two = lists refl;
      program-name = lists refl;
      bit_of_formal = lists refl;
      dropped_worst = lists refl;
      eight-activities = lists refl;
      three_formals = lists refl;
    }
