-- Calls that are refused and names that clash: 6, at the call or the formal.
-- Assumes nothing.
use mathlib.Core.Path.{refl}
use Rattle.language.proofs.Computing.{yield_in, Lists, lists}

pub record Refused : Type 0 where
  pub itself : Lists 256 "program p; procedure q() q() endproc q() endprog" "refused 6 at 37\n"
  pub unknown : Lists 256 "program p; nosuch() endprog" "refused 6 at 11\n"
  pub later : Lists 256 "program p; procedure q() r() endproc procedure r() skip endproc q() endprog" "refused 6 at 64\n"
  pub too_few : Lists 256 "program p; procedure q(a) skip endproc q() endprog" "refused 6 at 39\n"
  pub too_many : Lists 256 "program p; procedure q() skip endproc skip; q(1) endprog" "refused 6 at 44\n"
  pub too_few-inside : Lists 256 "program p; procedure q(a, b) skip endproc procedure r() skip; q(1) endproc skip; r() endprog" "refused 6 at 81\n"
  pub parentheses : Lists 256 "program p; output L; procedure q(a) raise(a) endproc q((L)) endprog" "refused 6 at 53\n"
  pub assigned-bit : Lists 256 "program p; integer x[2]; procedure q(a) a := 1 endproc q(x[0]) endprog" "refused 6 at 55\n"
  pub changed-bit_of_bit : Lists 256 "program p; integer x[2]; procedure q(a) raise(a[0]) endproc q(x[0]) endprog" "refused 6 at 60\n"
  pub read-bit_of_bit : Lists 256 "program p; integer x[2]; procedure q(a) if a[0] then skip endif endproc q(x[0]) endprog" "refused 6 at 72\n"
  pub formal-input : Lists 256 "program p; input A; procedure q(A) skip endproc skip endprog" "refused 6 at 32\n"
  pub formal_twice : Lists 256 "program p; procedure q(a, a) skip endproc skip endprog" "refused 6 at 26\n"
  pub formal-own-name : Lists 256 "program p; procedure q(q) skip endproc skip endprog" "refused 6 at 23\n"
  pub formal-procedure : Lists 256 "program p; procedure q(a) skip endproc procedure r(q) skip endproc skip endprog" "refused 6 at 51\n"
  pub after-variable : Lists 256 "program p; output q; procedure q() skip endproc skip endprog" "refused 6 at 31\n"
  pub before-variable : Lists 256 "program p; procedure q() skip endproc output q; skip endprog" "refused 6 at 45\n"
  pub procedure_twice : Lists 256 "program p; procedure q() skip endproc procedure q() skip endproc q() endprog" "refused 6 at 48\n"
  pub procedure-read : Lists 256 "program p; procedure q() skip endproc integer x[2]; x := q endprog" "refused 6 at 57\n"
  pub variable-called : Lists 256 "program p; output L; L() endprog" "refused 6 at 21\n"
  pub formal-called : Lists 256 "program p; procedure r() skip endproc procedure q(f) f() endproc q(r) endprog" "refused 6 at 65\n"
  pub bit_of_no_name : Lists 256 "program p; output L; procedure r(x) if x then skip endif endproc procedure q(a) r(a[0]) endproc q(1 + 1) endprog" "refused 6 at 96\n"
  pub handed_on_bit : Lists 256 "program p; integer x[3]; procedure r(b) raise(b[0]) endproc procedure q(a) r(a); skip endproc skip; q(x[2]) endprog" "refused 6 at 100\n"
  pub handed_on_in_parentheses : Lists 256 "program p; integer x[3]; procedure r(b) raise(b) endproc procedure q(a) skip; r((a)) endproc skip; q(x[2]) endprog" "refused 6 at 99\n"
  pub handed_on_of_parentheses : Lists 256 "program p; output L; procedure r(b) raise(b) endproc procedure q(a) skip; r(a) endproc skip; q((L)) endprog" "refused 6 at 93\n"
  pub caller-formal : Lists 256 "program p; output L; procedure r() raise(a) endproc procedure q(a) r() endproc q(L) endprog" "refused 6 at 79\n"

pub refused : Refused
unfolding yield_in
refused =
    record {
      itself = lists refl;
      unknown = lists refl;
      later = lists refl;
      too_few = lists refl;
      too_many = lists refl;
      too_few-inside = lists refl;
      parentheses = lists refl;
      assigned-bit = lists refl;
      changed-bit_of_bit = lists refl;
      read-bit_of_bit = lists refl;
      formal-input = lists refl;
      formal_twice = lists refl;
      formal-own-name = lists refl;
      formal-procedure = lists refl;
      after-variable = lists refl;
      before-variable = lists refl;
      procedure_twice = lists refl;
      procedure-read = lists refl;
      variable-called = lists refl;
      formal-called = lists refl;
      bit_of_no_name = lists refl;
      handed_on_bit = lists refl;
      handed_on_in_parentheses = lists refl;
      handed_on_of_parentheses = lists refl;
      caller-formal = lists refl;
    }
