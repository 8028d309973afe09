-- Jumps: 8, at the word.
-- Assumes nothing.
use mathlib.Core.Path.{refl}
use Rattle.language.proofs.Computing.{yield_in, Lists, lists}

pub record Jumps : Type 0 where
  pub exit : Lists 256 "program p; delay 256; exit; exit endprog" "refused 8 at 22\n"
  pub break : Lists 256 "program p; delay 256; break; break endprog" "refused 8 at 22\n"
  pub break_in_loop : Lists 256 "program p; delay 256; loop break; break endloop endprog" "refused 8 at 27\n"
  pub break_in_while : Lists 256 "program p; delay 256; while true do loop break endloop endprog" "refused 8 at 41\n"
  pub exit_in_case : Lists 256 "program p; delay 256; switch case true: exit default: exit endswitch endprog" "refused 8 at 40\n"
  pub exit_in_later-case : Lists 256 "program p; delay 256; switch case true: skip case true: exit default: exit endswitch endprog" "refused 8 at 56\n"
  pub exit_in_default : Lists 256 "program p; delay 256; switch case true: skip default: exit endswitch; exit endprog" "refused 8 at 54\n"
  pub exit_in_branch : Lists 256 "program p; delay 256; parallel skip || exit || break endparallel; exit endprog" "refused 8 at 39\n"
  pub exit_in_then : Lists 256 "program p; delay 256; if true then exit else exit endif endprog" "refused 8 at 35\n"
  pub exit_in_else : Lists 256 "program p; delay 256; if true then skip else break endif endprog" "refused 8 at 45\n"
  pub exit-behind : Lists 256 "program p; delay 256; loop exit endloop; exit endprog" "refused 8 at 41\n"
  pub break-behind : Lists 256 "program p; delay 256; parallel break || skip endparallel; switch case true: break default: break endswitch; break endprog" "refused 8 at 108\n"
  pub all_well : Lists 256 "program p; loop if true then exit else exit endif; parallel exit || loop break endloop endparallel; switch case true: while true do loop exit; break endloop default: exit endswitch endloop; delay 256 endprog" "refused 9 at 196\n"

pub jumps : Jumps
unfolding yield_in
jumps =
    record {
      exit = lists refl;
      break = lists refl;
      break_in_loop = lists refl;
      break_in_while = lists refl;
      exit_in_case = lists refl;
      exit_in_later-case = lists refl;
      exit_in_default = lists refl;
      exit_in_branch = lists refl;
      exit_in_then = lists refl;
      exit_in_else = lists refl;
      exit-behind = lists refl;
      break-behind = lists refl;
      all_well = lists refl;
    }
