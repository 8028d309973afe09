-- Sizes passed after expansion: 9, at the call, which is then not searched, or at the parallel around it.
-- Assumes nothing.
use mathlib.Core.Path.{refl}
use Rattle.language.proofs.Computing.{yield_in, Lists, lists}

pub record Passing : Type 0 where
  pub delay : Lists 256 "program p; procedure q() delay 256 endproc skip; q() endprog" "refused 9 at 49\n"
  pub unknown_not_told : Lists 256 "program p; procedure q() delay 256; raise(nosuch) endproc q() endprog" "refused 9 at 58\n"
  pub unknown-before : Lists 256 "program p; procedure q() delay 256 endproc raise(nosuch); q() endprog" "refused 6 at 49\n"
  pub kind_not_told : Lists 256 "program p; procedure q() delay 256; if 5 then skip endif endproc q() endprog" "refused 9 at 65\n"
  pub jump_beside : Lists 256 "program p; procedure q() delay 256; if 5 then skip endif endproc q(); exit endprog" "refused 8 at 70\n"
  pub nine : Lists 256 "program p; procedure q() parallel skip || skip || skip || skip || skip || skip || skip || skip || skip endparallel endproc skip; q() endprog" "refused 9 at 129\n"
  pub nine-around : Lists 256 "program p; procedure q() parallel skip || skip || skip || skip || skip || skip || skip || skip endparallel endproc parallel q() || skip endparallel endprog" "refused 9 at 115\n"
  pub level : Lists 256 "program p; input A; integer x[2]; procedure q(e) x := int((((((((((((((((((((((((((((((((e)))))))))))))))))))))))))))))))) endproc skip; q(A) endprog" "refused 9 at 137\n"
  pub level_handed_on : Lists 256 "program p; input A; integer x[2]; procedure q(e) x := int(((((((((((((((((((((((((((((((e))))))))))))))))))))))))))))))) endproc procedure r(f) q(f) endproc skip; r(A) endprog" "refused 9 at 163\n"
  pub level_by_itself : Lists 256 "program p; input A; procedure q(e) if e then raise(nosuch) endif endproc skip; q((((((((((((((((((((((((((((((((A)))))))))))))))))))))))))))))))) endprog" "refused 9 at 79\n"
  pub level_in_text : Lists 256 "program p; input A; procedure q(e) skip endproc skip; q(((((((((((((((((((((((((((((((((A))))))))))))))))))))))))))))))))) endprog" "refused 5 at 87\n"
  pub statements : Lists 256 "program p; procedure p0() skip endproc procedure p1() p0(); p0() endproc procedure p2() p1(); p1() endproc procedure p3() p2(); p2() endproc procedure p4() p3(); p3() endproc procedure p5() p4(); p4() endproc procedure p6() p5(); p5() endproc procedure p7() p6(); p6() endproc procedure p8() p7(); p7() endproc skip; p8() endprog" "refused 9 at 317\n"
  pub statements_by_call : Lists 256 "program p; procedure p0() skip endproc procedure p1() p0(); p0() endproc procedure p2() p1(); p1() endproc procedure p3() p2(); p2() endproc procedure p4() p3(); p3() endproc procedure p5() p4(); p4() endproc procedure p6() p5(); p5() endproc procedure p7() p6(); p6() endproc p7(); p6(); p5(); p5() endprog" "refused 9 at 295\n"
  pub searched : Lists 256 "program p; procedure p0() raise(nosuch) endproc procedure p1() p0(); p0() endproc procedure p2() p1(); p1() endproc procedure p3() p2(); p2() endproc procedure p4() p3(); p3() endproc procedure p5() p4(); p4() endproc procedure p6() p5(); p5() endproc procedure p7() p6(); p6() endproc p7(); p6(); p5(); p5() endprog" "refused 6 at 286\n"
  pub refused_are_statements : Lists 256 "program p; procedure p0() zz() endproc procedure p1() p0(); p0() endproc procedure p2() p1(); p1() endproc procedure p3() p2(); p2() endproc procedure p4() p3(); p3() endproc procedure p5() p4(); p4() endproc procedure p6() p5(); p5() endproc procedure p7() p6(); p6() endproc p7() endprog" "refused 6 at 277\n"
  pub refused_too_many : Lists 256 "program p; procedure p0() zz() endproc procedure p1() p0(); p0() endproc procedure p2() p1(); p1() endproc procedure p3() p2(); p2() endproc procedure p4() p3(); p3() endproc procedure p5() p4(); p4() endproc procedure p6() p5(); p5() endproc procedure p7() p6(); p6() endproc procedure p8() p7(); p7() endproc p8() endprog" "refused 9 at 311\n"
  pub refused-inside : Lists 256 "program p; output L; procedure w(a) parallel raise(a) || skip || skip || skip || skip || skip || skip || skip endparallel endproc procedure q() w(1); delay 256 endproc parallel q() || skip endparallel endprog" "refused 9 at 177\n"
  pub activities-exact : Lists 256 "program p; output L; procedure w(a) parallel raise(a) || skip || skip || skip || skip || skip || skip || skip endparallel endproc procedure q() w(L); delay 256 endproc parallel q() || skip endparallel endprog" "refused 9 at 168\n"
  pub activities_of_procedure : Lists 256 "program p; output L; procedure w(a) parallel raise(a) || skip || skip || skip || skip || skip || skip || skip endparallel endproc procedure p0() skip endproc procedure p1() p0(); p0() endproc procedure p2() p1(); p1() endproc procedure p3() p2(); p2() endproc procedure p4() p3(); p3() endproc procedure p5() p4(); p4() endproc procedure p6() p5(); p5() endproc procedure p7() p6(); p6() endproc procedure p8() p7(); p7() endproc procedure q() w(L); p8() endproc parallel q() || skip endparallel endprog" "refused 9 at 463\n"

pub passing : Passing
unfolding yield_in
passing =
    record {
      delay = lists refl;
      unknown_not_told = lists refl;
      unknown-before = lists refl;
      kind_not_told = lists refl;
      jump_beside = lists refl;
      nine = lists refl;
      nine-around = lists refl;
      level = lists refl;
      level_handed_on = lists refl;
      level_by_itself = lists refl;
      level_in_text = lists refl;
      statements = lists refl;
      statements_by_call = lists refl;
      searched = lists refl;
      refused_are_statements = lists refl;
      refused_too_many = lists refl;
      refused-inside = lists refl;
      activities-exact = lists refl;
      activities_of_procedure = lists refl;
    }
