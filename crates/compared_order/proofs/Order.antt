-- The binding order, from text to table: each two neighbouring strengths, both ways round, with parentheses and with `!`.
-- Assumes nothing.
use mathlib.Core.Path.{refl}
use Rattle.language.proofs.Computing.{yield_in, Lists, lists}

pub record Order : Type 0 where
  -- T-03's own line: both comparisons, inside and outside
  pub newcard : Lists 256 "program p; integer newcard[4]; if newcard > 10 & newcard < 14 then skip endif endprog" "machine p\ninputs -\noutputs -\nstates 2\n0 - 1\n1 - 1\n"
  pub newcard_face : Lists 256 "program p; output A; integer newcard[4] = 12; if newcard > 10 & newcard < 14 then raise(A) endif endprog" "machine p\ninputs -\noutputs A\nstates 2\n0 0 1\n1 1 1\n"
  pub newcard_above : Lists 256 "program p; output A; integer newcard[4] = 14; if newcard > 10 & newcard < 14 then raise(A) endif endprog" "machine p\ninputs -\noutputs A\nstates 2\n0 0 1\n1 0 1\n"
  -- `&` below `|`: both ways round, with parentheses and with `!`
  pub and_or : Lists 256 "program p; input I, J, K; output A; if I & J | K then raise(A) endif endprog" "machine p\ninputs I J K\noutputs A\nstates 3\n0 0 1 1 1 2 1 2 1 2\n1 0 1 1 1 1 1 1 1 1\n2 1 2 2 2 2 2 2 2 2\n"
  pub or_and : Lists 256 "program p; input I, J, K; output A; if I | J & K then raise(A) endif endprog" "machine p\ninputs I J K\noutputs A\nstates 3\n0 0 1 1 1 1 1 2 2 2\n1 0 1 1 1 1 1 1 1 1\n2 1 2 2 2 2 2 2 2 2\n"
  pub and_in_or : Lists 256 "program p; input I, J, K; output A; if (I & J) | K then raise(A) endif endprog" "machine p\ninputs I J K\noutputs A\nstates 3\n0 0 1 1 1 2 2 2 2 2\n1 0 1 1 1 1 1 1 1 1\n2 1 2 2 2 2 2 2 2 2\n"
  pub or_of_and : Lists 256 "program p; input I, J, K; output A; if I | (J & K) then raise(A) endif endprog" "machine p\ninputs I J K\noutputs A\nstates 3\n0 0 1 2 1 2 1 2 2 2\n1 0 1 1 1 1 1 1 1 1\n2 1 2 2 2 2 2 2 2 2\n"
  pub not_and_or : Lists 256 "program p; input I, J, K; output A; if !I & J | !K then raise(A) endif endprog" "machine p\ninputs I J K\noutputs A\nstates 3\n0 0 1 2 1 2 2 2 1 2\n1 1 1 1 1 1 1 1 1 1\n2 0 2 2 2 2 2 2 2 2\n"
  pub not_around_or : Lists 256 "program p; input I, J, K; output A; if !(I | J) & K then raise(A) endif endprog" "machine p\ninputs I J K\noutputs A\nstates 3\n0 0 1 1 1 1 2 1 1 1\n1 0 1 1 1 1 1 1 1 1\n2 1 2 2 2 2 2 2 2 2\n"
  -- `|` below `== != > <`
  pub or_equal : Lists 256 "program p; input I, J, K; output A; if I | J == K then raise(A) endif endprog" "machine p\ninputs I J K\noutputs A\nstates 3\n0 0 1 1 2 1 2 1 1 1\n1 1 1 1 1 1 1 1 1 1\n2 0 2 2 2 2 2 2 2 2\n"
  pub equal_or : Lists 256 "program p; input I, J, K; output A; if I == J | K then raise(A) endif endprog" "machine p\ninputs I J K\noutputs A\nstates 3\n0 0 1 2 2 1 1 1 1 1\n1 1 1 1 1 1 1 1 1 1\n2 0 2 2 2 2 2 2 2 2\n"
  pub or_in_equal : Lists 256 "program p; input I, J, K; output A; if (I | J) == K then raise(A) endif endprog" "machine p\ninputs I J K\noutputs A\nstates 3\n0 0 1 2 2 2 2 1 1 1\n1 1 1 1 1 1 1 1 1 1\n2 0 2 2 2 2 2 2 2 2\n"
  pub equal_of_or : Lists 256 "program p; input I, J, K; output A; if I == (J | K) then raise(A) endif endprog" "machine p\ninputs I J K\noutputs A\nstates 3\n0 0 1 2 2 1 2 1 2 1\n1 1 1 1 1 1 1 1 1 1\n2 0 2 2 2 2 2 2 2 2\n"
  pub not_or_unequal : Lists 256 "program p; input I, J, K; output A; if !I | J != !K then raise(A) endif endprog" "machine p\ninputs I J K\noutputs A\nstates 3\n0 0 1 1 1 2 1 2 1 1\n1 1 1 1 1 1 1 1 1 1\n2 0 2 2 2 2 2 2 2 2\n"
  pub not_around-equal : Lists 256 "program p; input I, J, K; output A; if !(I == J) | K then raise(A) endif endprog" "machine p\ninputs I J K\noutputs A\nstates 3\n0 0 1 2 2 1 2 2 2 2\n1 0 1 1 1 1 1 1 1 1\n2 1 2 2 2 2 2 2 2 2\n"
  pub or_greater : Lists 256 "program p; input I; output A; integer x[2]; if I | x < 2 then raise(A) endif endprog" "machine p\ninputs I\noutputs A\nstates 2\n0 0 1 1\n1 1 1 1\n"
  pub less_or : Lists 256 "program p; input I; output A; integer x[2]; if x > 1 | I then raise(A) endif endprog" "machine p\ninputs I\noutputs A\nstates 3\n0 0 1 2\n1 0 1 1\n2 1 2 2\n"
  pub and_equal : Lists 256 "program p; input I, J, K; output A; if I & J == K then raise(A) endif endprog" "machine p\ninputs I J K\noutputs A\nstates 3\n0 0 1 2 1 1 1 1 1 2\n1 0 1 1 1 1 1 1 1 1\n2 1 2 2 2 2 2 2 2 2\n"
  pub equal_and : Lists 256 "program p; input I, J, K; output A; if I == J & K then raise(A) endif endprog" "machine p\ninputs I J K\noutputs A\nstates 3\n0 0 1 1 1 1 2 1 1 2\n1 0 1 1 1 1 1 1 1 1\n2 1 2 2 2 2 2 2 2 2\n"
  -- `== != > <` below `!`: `!x > 1` is `(!x) > 1`
  pub equal_not : Lists 256 "program p; input I, J, K; output A; if I == !J then raise(A) endif endprog" "machine p\ninputs I J K\noutputs A\nstates 3\n0 0 1 2 2 1 1 2 2 1\n1 0 1 1 1 1 1 1 1 1\n2 1 2 2 2 2 2 2 2 2\n"
  pub not_equal : Lists 256 "program p; input I, J, K; output A; if !I == J & K then raise(A) endif endprog" "machine p\ninputs I J K\noutputs A\nstates 3\n0 0 1 1 1 1 1 2 2 1\n1 0 1 1 1 1 1 1 1 1\n2 1 2 2 2 2 2 2 2 2\n"
  pub not_greater : Lists 256 "program p; output A; integer x[4] = 0; if !x > 1 then raise(A) endif endprog" "refused 7 at 42\n"
  pub not_around_greater : Lists 256 "program p; output A; integer x[4] = 0; if !(x > 1) then raise(A) endif endprog" "machine p\ninputs -\noutputs A\nstates 2\n0 0 1\n1 1 1\n"
  pub greater_not : Lists 256 "program p; output A; integer x[4] = 0; if x > !1 then raise(A) endif endprog" "refused 7 at 44\n"
  -- `!` below `+ -`: `!I + 1` is `!(I + 1)`
  pub not_sum : Lists 256 "program p; input I, J, K; output A; if !I + 1 then raise(A) endif endprog" "refused 7 at 39\n"
  pub not_in_sum : Lists 256 "program p; input I, J, K; output A; if (!I) + 1 then raise(A) endif endprog" "refused 7 at 36\n"
  pub not_around-sum : Lists 256 "program p; output A; integer x[4] = 0; if !(x + 1) then raise(A) endif endprog" "refused 7 at 42\n"
  pub sum_not : Lists 256 "program p; input I; integer x[2]; x := x + !I endprog" "refused 5 at 43\n"
  pub sum_of_not : Lists 256 "program p; input I; integer x[2]; x := x + int(!I) endprog" "machine p\ninputs I\noutputs -\nstates 3\n0 - 1 2\n1 - 1 1\n2 - 2 2\n"
  -- `+ -` below `* / %`
  pub sum_product : Lists 256 "program p; output A, B, C, D, E; integer x[4] = 5; parallel if 1 + x * 2 == 11 then raise(A) endif || if x * 2 + 1 == 11 then raise(B) endif || if (1 + x) * 2 == 12 then raise(C) endif || if 2 * (x - 1) == 8 then raise(D) endif || if !(x - 1 * 2 == 8) then raise(E) endif endparallel endprog" "machine p\ninputs -\noutputs A B C D E\nstates 2\n0 0 0 0 0 0 1\n1 1 1 1 1 1 1\n"
  pub difference_quotient : Lists 256 "program p; output A, B, C, D, E, F; integer x[4] = 5; parallel if 9 - x / 2 == 7 then raise(A) endif || if x / 2 - 1 == 1 then raise(B) endif || if (9 - x) / 2 == 2 then raise(C) endif || if 7 - x % 3 == 5 then raise(D) endif || if x % 3 - 7 < 0 then raise(E) endif || if (7 - x) % 3 == 2 then raise(F) endif endparallel endprog" "machine p\ninputs -\noutputs A B C D E F\nstates 2\n0 0 0 0 0 0 0 1\n1 1 1 1 1 1 1 1\n"
  -- all of them at once
  pub every : Lists 256 "program p; input I, J; output A; integer x[3] = 3; if !I & x - 1 * 2 == 2 | J & !J == I | x + 2 / 2 > 4 then raise(A) endif endprog" "machine p\ninputs I J\noutputs A\nstates 3\n0 0 1 1 2 1\n1 0 1 1 1 1\n2 1 2 2 2 2\n"

pub order : Order
unfolding yield_in
order =
    record {
      newcard = lists refl;
      newcard_face = lists refl;
      newcard_above = lists refl;
      and_or = lists refl;
      or_and = lists refl;
      and_in_or = lists refl;
      or_of_and = lists refl;
      not_and_or = lists refl;
      not_around_or = lists refl;
      or_equal = lists refl;
      equal_or = lists refl;
      or_in_equal = lists refl;
      equal_of_or = lists refl;
      not_or_unequal = lists refl;
      not_around-equal = lists refl;
      or_greater = lists refl;
      less_or = lists refl;
      and_equal = lists refl;
      equal_and = lists refl;
      equal_not = lists refl;
      not_equal = lists refl;
      not_greater = lists refl;
      not_around_greater = lists refl;
      greater_not = lists refl;
      not_sum = lists refl;
      not_in_sum = lists refl;
      not_around-sum = lists refl;
      sum_not = lists refl;
      sum_of_not = lists refl;
      sum_product = lists refl;
      difference_quotient = lists refl;
      every = lists refl;
    }
