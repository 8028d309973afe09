-- Levels, up to the last that may open and one more, by computation.
-- Assumes nothing.
use mathlib.Core.List.{List, [], ◌++◌}
use Prim.Native.Nat.{ℕ, zero, suc}
use Prim.Native.String.{String}
use Rattle.ll1.specs.Grammar.{Read, sentence, refused, Answers}
use Rattle.ll1.proofs.Answered.{answer_of, computed}
use Rattle.ll1.proofs.Ends.{Done}
use Rattle.ll1.proofs.Tests.{has, begin_row, pick}
use Rattle.ll1.proofs.Parser.{barred, run}
use Rattle.language.specs.Words.{Kind}
use Rattle.language.specs.Grammar.{binding, csml, most_levels, whole_program}
use Rattle.language.proofs.Texts.{words_in, kinds_in}
use Rattle.language.proofs.Claims as claimed

abbrev pub times : ℕ → List Kind → List Kind
times zero ks = []
times (suc n) ks = ks ++ times n ks

-- a program of n statements, each inside the one before
abbrev pub nested : ℕ → String → String → String → List Kind
nested n opens inside closes = kinds_in "program p;" ++ (times n (kinds_in opens) ++ (kinds_in inside ++ (times n (kinds_in closes) ++ kinds_in "endprog")))

pub record Reads (ks : List Kind) (r : Read) : Type 0 where
  pub says : Answers csml most_levels whole_program ks r

reads : (ks : List Kind) → Done (run claimed.claims csml 2000 most_levels whole_program ks)
    → Reads ks (answer_of claimed.claims csml claimed.passes most_levels whole_program ks (run claimed.claims csml 2000 most_levels whole_program ks))
reads ks d = record { says = computed claimed.claims csml claimed.passes most_levels whole_program 2000 ks claimed.program-good d }

-- "levels 32 (each open compound statement, each open `(` of any use, and each `!` with its operand is one level)"; the numbers count the words before
pub record Levels : Type 0 where
  pub loops : Reads (nested 32 "loop" "skip" "endloop") sentence
  pub loop_33 : Reads (nested 33 "loop" "skip" "endloop") (refused 35)
  pub while_33 : Reads (nested 33 "while a do loop" "skip" "endloop") (refused 131)
  pub if_33 : Reads (nested 33 "if a then" "skip" "endif") (refused 99)
  pub switch_33 : Reads (nested 33 "switch case a:" "skip" "default: skip endswitch") (refused 131)
  pub parallel_33 : Reads (nested 33 "parallel" "skip" "|| skip endparallel") (refused 35)
  pub raised : Reads (nested 31 "loop" "raise(a)" "endloop") sentence
  pub raise_33 : Reads (nested 32 "loop" "raise(a)" "endloop") (refused 36)
  pub int_33 : Reads (nested 32 "loop" "x := int(a)" "endloop") (refused 38)
  pub while-inside : Reads (nested 31 "loop" "while (a) do loop skip endloop" "endloop") (refused 35)
  pub if_inside : Reads (nested 31 "loop" "if (a) then skip endif" "endloop") (refused 35)
  pub case-inside : Reads (nested 31 "loop" "switch case (a): skip default: skip endswitch" "endloop") (refused 36)
  pub closed-again : Reads (nested 30 "loop" "if a then raise(a) else x := (1) endif; x := !(a) | !(b)" "endloop") sentence
  pub parentheses : Reads (nested 0 "" "x := ((((((((((((((((((((((((((((((((a))))))))))))))))))))))))))))))))" "") sentence
  pub parenthesis_33 : Reads (nested 0 "" "x := (((((((((((((((((((((((((((((((((a)))))))))))))))))))))))))))))))))" "") (refused 37)
  pub nots : Reads (nested 0 "" "x := !!!!!!!!!!!!!!!!!!!!!!!!!!!!!!!!a & !b" "") sentence
  pub not_33 : Reads (nested 0 "" "x := !!!!!!!!!!!!!!!!!!!!!!!!!!!!!!!!!a" "") (refused 37)
  pub not_open : Reads (nested 0 "" "x := !!!!!!!!!!!!!!!!!!!!!!!!!!!!!!!(a + (b))" "") (refused 39)

pub levels : Levels
unfolding words_in has begin_row pick barred run binding csml claimed.claims claimed.first claimed.empty claimed.follow
levels =
    record {
      loops = reads _ tt;
      loop_33 = reads _ tt;
      while_33 = reads _ tt;
      if_33 = reads _ tt;
      switch_33 = reads _ tt;
      parallel_33 = reads _ tt;
      raised = reads _ tt;
      raise_33 = reads _ tt;
      int_33 = reads _ tt;
      while-inside = reads _ tt;
      if_inside = reads _ tt;
      case-inside = reads _ tt;
      closed-again = reads _ tt;
      parentheses = reads _ tt;
      parenthesis_33 = reads _ tt;
      nots = reads _ tt;
      not_33 = reads _ tt;
      not_open = reads _ tt;
    }
