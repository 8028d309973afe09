-- Texts that are cut wrong: 4, at the byte or word.
-- Assumes nothing.
use mathlib.Core.Path.{refl}
use Rattle.language.proofs.Computing.{yield_in, Lists, lists}

pub record Words : Type 0 where
  pub no_word : Lists 256 "program p; ; ? skip ? endprog" "refused 4 at 13\n"
  pub long-name : Lists 256 "program p; ; abcdefghijklmnopq := 1; ? endprog" "refused 4 at 13\n"
  pub large-number : Lists 256 "program p; ; delay 65536; ? endprog" "refused 4 at 19\n"
  pub after_the_end : Lists 256 "program p; skip endprog ?" "refused 4 at 24\n"
  pub underscore-first : Lists 256 "program p; _a := 1 endprog" "refused 4 at 11\n"
  pub small_ending : Lists 256 "program p; input I.h; skip endprog" "refused 4 at 18\n"
  pub hyphen-underscore : Lists 256 "program p; a-_b := 1 endprog" "refused 4 at 13\n"
  pub longest_name_lem : Lists 256 "program p; integer abcdefghijklmnop[1]; abcdefghijklmnop := 0000065535 + 65536 endprog" "refused 4 at 73\n"
  pub longer_number : Lists 256 "program p; integer abcdefghijklmnop[1]; abcdefghijklmnop := 0000065535 + abcdefghijklmno endprog" "refused 6 at 73\n"
  pub two_hyphens : Lists 256 "program p; integer a[2]; a := a--a endprog" "refused 5 at 32\n"
  pub hyphen-name : Lists 256 "program p; integer a[2]; a := a-1 endprog" "refused 6 at 30\n"
  pub tabs : Lists 256 "program\tp;\n\rskip\tskip endprog" "refused 5 at 17\n"

pub words : Words
unfolding yield_in
words =
    record {
      no_word = lists refl;
      long-name = lists refl;
      large-number = lists refl;
      after_the_end = lists refl;
      underscore-first = lists refl;
      small_ending = lists refl;
      hyphen-underscore = lists refl;
      longest_name_lem = lists refl;
      longer_number = lists refl;
      two_hyphens = lists refl;
      hyphen-name = lists refl;
      tabs = lists refl;
    }
