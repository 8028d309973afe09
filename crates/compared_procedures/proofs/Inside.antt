-- Faults of an expansion, at the outermost call: 6, 7, 8 and 10; and what is read of procedures: 4 and 5.
-- Assumes nothing.
use mathlib.Core.Path.{refl}
use Rattle.language.proofs.Computing.{yield_in, Lists, lists}

pub record Inside : Type 0 where
  pub unknown : Lists 256 "program p; procedure q() raise(nosuch) endproc skip; loop q() endloop endprog" "refused 6 at 58\n"
  pub unknown-actual : Lists 256 "program p; integer x[2]; procedure q(e) x := e endproc skip; q(1 + nosuch) endprog" "refused 6 at 61\n"
  pub input-raised : Lists 256 "program p; input I; procedure q(a) raise(a) endproc skip; q(I) endprog" "refused 7 at 58\n"
  pub exit_of_nothing : Lists 256 "program p; procedure q() exit endproc q(); loop q() endloop endprog" "refused 8 at 38\n"
  pub worst_in_body : Lists 256 "program p; integer x[16]; procedure q(e) x := x * e endproc skip; q(32769) endprog" "refused 10 at 66\n"
  pub worst_of_actual : Lists 256 "program p; integer x[16]; procedure q(e) x := e * 4 endproc skip; q(x * 16384) endprog" "refused 10 at 66\n"
  pub call-among_declarations : Lists 256 "program p; q(); procedure q() skip endproc endprog" "refused 5 at 16\n"
  pub no_formals : Lists 256 "program p; procedure q skip endproc q() endprog" "refused 5 at 23\n"
  pub two_ends : Lists 256 "program p; procedure q() skip endproc;; q() endprog" "refused 5 at 38\n"
  pub no_statement : Lists 256 "program p; procedure q() endproc q() endprog" "refused 5 at 25\n"
  pub comma-last : Lists 256 "program p; procedure q(a,) skip endproc q() endprog" "refused 5 at 25\n"
  pub comma-last-actual : Lists 256 "program p; procedure q(a) skip endproc q(1,) endprog" "refused 5 at 43\n"
  pub after-statement : Lists 256 "program p; skip; procedure q() skip endproc q() endprog" "refused 5 at 17\n"
  pub procedure-inside : Lists 256 "program p; procedure q() procedure r() skip endproc skip endproc q() endprog" "refused 5 at 25\n"
  pub indexed-formal : Lists 256 "program p; procedure q(a[1]) skip endproc skip endprog" "refused 5 at 24\n"
  pub name-alone : Lists 256 "program p; output L; procedure q() skip endproc q; skip endprog" "refused 5 at 49\n"
  pub word_in_unused_body : Lists 256 "program p; procedure q() skip $ endproc skip endprog" "refused 4 at 30\n"

pub inside : Inside
unfolding yield_in
inside =
    record {
      unknown = lists refl;
      unknown-actual = lists refl;
      input-raised = lists refl;
      exit_of_nothing = lists refl;
      worst_in_body = lists refl;
      worst_of_actual = lists refl;
      call-among_declarations = lists refl;
      no_formals = lists refl;
      two_ends = lists refl;
      no_statement = lists refl;
      comma-last = lists refl;
      comma-last-actual = lists refl;
      after-statement = lists refl;
      procedure-inside = lists refl;
      indexed-formal = lists refl;
      name-alone = lists refl;
      word_in_unused_body = lists refl;
    }
