-- Programs whose tables show one clock, the states and their numbers.
-- Assumes nothing.
use mathlib.Core.Path.{refl}
use Rattle.language.proofs.Computing.{yield_in, Lists, lists}

pub record Clocks : Type 0 where
  pub exit-first : Lists 256 "program p; output A, B; loop parallel exit || break endparallel; raise(A) endloop; raise(B) endprog" "machine p\ninputs -\noutputs A B\nstates 2\n0 0 0 1\n1 0 1 1\n"
  pub break-first : Lists 256 "program p; output A, B; loop parallel break || exit endparallel; raise(A) endloop; raise(B) endprog" "machine p\ninputs -\noutputs A B\nstates 2\n0 0 0 1\n1 1 0 1\n"
  pub four_branches : Lists 256 "program p; output A, B, C; parallel raise(A) || raise(B) || lower(A) || raise(A) endparallel; raise(C) endprog" "machine p\ninputs -\noutputs A B C\nstates 3\n0 0 0 0 1\n1 0 1 0 2\n2 0 1 1 2\n"
  pub cases : Lists 256 "program p; input I, J; output A, B; loop switch case I: raise(A) case J: raise(B); break default: lower(A); lower(B) endswitch endloop endprog" "machine p\ninputs I J\noutputs A B\nstates 7\n0 0 0 1 2 3 2\n1 0 0 0 0 0 0\n2 1 0 1 1 4 4\n3 0 1 5 6 3 6\n4 1 1 5 6 4 6\n5 0 1 0 0 0 0\n6 1 1 5 5 4 4\n"
  pub tested-input : Lists 256 "program p; input I; output A; while I do loop invert(A) endloop; raise(A) endprog" "machine p\ninputs I\noutputs A\nstates 3\n0 0 1 2\n1 1 1 1\n2 1 1 0\n"
  pub numbered : Lists 256 "program p; input R; output A, B; loop parallel loop if R then break endif endloop || loop raise(A); lower(A) endloop endparallel; invert(B) endloop endprog" "machine p\ninputs R\noutputs A B\nstates 8\n0 0 0 1 2\n1 1 0 3 4\n2 0 1 5 0\n3 0 0 1 2\n4 1 1 5 6\n5 1 1 7 6\n6 1 0 1 4\n7 0 1 5 0\n"
  pub waits_for_both : Lists 256 "program p; input I; output A; parallel delay 2 || loop if I then exit endif endloop; raise(A) endparallel; lower(A) endprog" "machine p\ninputs I\noutputs A\nstates 6\n0 0 1 2\n1 0 3 4\n2 1 4 4\n3 0 3 4\n4 1 5 5\n5 0 5 5\n"
  pub inner_left : Lists 256 "program p; output A; loop loop skip; exit endloop; invert(A) endloop endprog" "machine p\ninputs -\noutputs A\nstates 4\n0 0 1\n1 0 2\n2 1 3\n3 1 0\n"
  pub tested_anew : Lists 256 "program p; output A; integer x[2] = 3; while x > 0 do loop x := x - 1 endloop; raise(A) endprog" "machine p\ninputs -\noutputs A\nstates 5\n0 0 1\n1 0 2\n2 0 3\n3 0 4\n4 1 4\n"
  pub joined : Lists 256 "program p; input I, J; output A; parallel loop if I then exit endif endloop || loop if J then exit endif endloop endparallel; raise(A) endprog" "machine p\ninputs I J\noutputs A\nstates 5\n0 0 1 2 3 4\n1 0 1 2 3 4\n2 0 2 2 4 4\n3 0 3 4 3 4\n4 1 4 4 4 4\n"
  pub smallest : Lists 256 "program p; output A, B; switch case true: switch case true: break; raise(A) default: raise(A) endswitch; raise(B) default: invert(A) endswitch endprog" "machine p\ninputs -\noutputs A B\nstates 3\n0 0 0 1\n1 0 1 2\n2 1 1 2\n"
  pub delays : Lists 256 "program p; output A, B; parallel parallel skip || delay 2 endparallel || delay 1; raise(A) || raise(B); lower(B) endparallel; delay 1 endprog" "machine p\ninputs -\noutputs A B\nstates 4\n0 0 0 1\n1 0 1 2\n2 1 0 3\n3 1 0 3\n"
  pub exchanged : Lists 256 "program p; output A = true, B; loop parallel if A then raise(B) else lower(B) endif || if B then raise(A) else lower(A) endif endparallel endloop endprog" "machine p\ninputs -\noutputs A B\nstates 2\n0 1 0 1\n1 0 1 0\n"
  pub three_ways : Lists 256 "program p; output A, B; parallel raise(A) || lower(A) || raise(A) || raise(B) endparallel endprog" "machine p\ninputs -\noutputs A B\nstates 2\n0 0 0 1\n1 0 1 1\n"
  pub after_jump : Lists 256 "program p; output A, B; parallel break; raise(A) || raise(A) endparallel; raise(B) endprog" "machine p\ninputs -\noutputs A B\nstates 2\n0 0 0 1\n1 0 1 1\n"
  pub if_middle : Lists 256 "program p; input I; output A, B; if I then raise(A); lower(A) else raise(B); lower(B) endif; raise(A) endprog" "machine p\ninputs I\noutputs A B\nstates 5\n0 0 0 1 2\n1 0 1 3 3\n2 1 0 3 3\n3 0 0 4 4\n4 1 0 4 4\n"
  pub while-middle : Lists 256 "program p; input I; output A; while I do loop raise(A); lower(A); skip endloop; raise(A) endprog" "machine p\ninputs I\noutputs A\nstates 4\n0 0 1 2\n1 1 1 1\n2 1 3 3\n3 0 0 0\n"
  pub switch-middle : Lists 256 "program p; input I; output A; switch case I: raise(A); lower(A) case true: skip; invert(A) default: skip; raise(A); lower(A) endswitch; skip endprog" "machine p\ninputs I\noutputs A\nstates 9\n0 0 1 2\n1 0 3 3\n2 1 4 4\n3 1 5 5\n4 0 1 1\n5 1 6 6\n6 1 7 7\n7 0 8 8\n8 0 8 8\n"
  pub break-later : Lists 256 "program p; output A; switch case true: skip; break default: raise(A) endswitch; parallel skip; break || delay 3; raise(A) endparallel; invert(A) endprog" "machine p\ninputs -\noutputs A\nstates 4\n0 0 1\n1 0 2\n2 0 3\n3 1 3\n"
  pub exit-later : Lists 256 "program p; output A; loop skip; parallel skip; exit || loop raise(A); lower(A) endloop endparallel endloop; raise(A) endprog" "machine p\ninputs -\noutputs A\nstates 4\n0 0 1\n1 0 2\n2 1 3\n3 1 3\n"
  pub deep-places : Lists 256 "program p; input I; output A; parallel if I then parallel skip || delay 2; raise(A) endparallel; skip else skip endif || switch case I: delay 2 default: parallel skip; skip || raise(A); lower(A) endparallel endswitch endparallel; raise(A) endprog" "machine p\ninputs I\noutputs A\nstates 7\n0 0 1 2\n1 1 3 3\n2 0 4 4\n3 0 5 5\n4 0 6 6\n5 1 5 5\n6 1 3 3\n"
  pub loop_in_branch : Lists 256 "program p; input I; output A; loop parallel while I do loop skip endloop || if I then skip endif || skip endparallel; invert(A) endloop endprog" "machine p\ninputs I\noutputs A\nstates 6\n0 0 1 2\n1 0 3 3\n2 0 3 2\n3 1 4 5\n4 1 0 0\n5 1 0 5\n"
  pub delay-again : Lists 256 "program p; output A; loop delay 2; invert(A) endloop endprog" "machine p\ninputs -\noutputs A\nstates 6\n0 0 1\n1 0 2\n2 0 3\n3 1 4\n4 1 5\n5 1 0\n"
  pub many-places : Lists 256 "program p; parallel skip || delay 2 || parallel delay 1; skip || skip endparallel || delay 3 || skip; skip || delay 4 || delay 0 endparallel; skip endprog" "machine p\ninputs -\noutputs -\nstates 6\n0 - 1\n1 - 2\n2 - 3\n3 - 4\n4 - 5\n5 - 5\n"
  pub case-waits : Lists 256 "program p; input I; output A, B; loop switch case I: delay 2 case I: raise(A) default: lower(A) endswitch; raise(B) endloop endprog" "machine p\ninputs I\noutputs A B\nstates 10\n0 0 0 1 2\n1 0 0 3 3\n2 0 0 4 4\n3 0 1 5 6\n4 0 0 1 7\n5 0 1 3 3\n6 0 1 8 8\n7 1 0 1 1\n8 0 1 5 9\n9 1 1 5 5\n"
  pub no_delay : Lists 256 "program p; output A; delay 0; raise(A) endprog" "machine p\ninputs -\noutputs A\nstates 2\n0 0 1\n1 1 1\n"
  pub agree : Lists 256 "program p; output A = true, B; parallel lower(A) || lower(A) || raise(B) || raise(B) endparallel endprog" "machine p\ninputs -\noutputs A B\nstates 2\n0 1 0 1\n1 0 1 1\n"

pub clocks : Clocks
unfolding yield_in
clocks =
    record {
      exit-first = lists refl;
      break-first = lists refl;
      four_branches = lists refl;
      cases = lists refl;
      tested-input = lists refl;
      numbered = lists refl;
      waits_for_both = lists refl;
      inner_left = lists refl;
      tested_anew = lists refl;
      joined = lists refl;
      smallest = lists refl;
      delays = lists refl;
      exchanged = lists refl;
      three_ways = lists refl;
      after_jump = lists refl;
      if_middle = lists refl;
      while-middle = lists refl;
      switch-middle = lists refl;
      break-later = lists refl;
      exit-later = lists refl;
      deep-places = lists refl;
      loop_in_branch = lists refl;
      delay-again = lists refl;
      many-places = lists refl;
      case-waits = lists refl;
      no_delay = lists refl;
      agree = lists refl;
    }
