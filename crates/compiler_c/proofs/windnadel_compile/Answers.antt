-- `compiler_c::windnadel_compile` meets its contract: the number of the answer.
-- Assumes nothing.
use Rattle.std.proofs.Common.{sym, ap, ◌∙◌, refl}
use Rattle.code_law.specs.Code.{code_of}
use Rattle.compiler.specs.Answered.{Compiled, meaning}
use Rattle.compiler_c.proofs.windnadel_compile.Goals as goal

pub returns-in-Ok : goal.returns-in-Ok
returns-in-Ok c = record {
  answer = meaning c.compile.result;
  compiles = c.compile.ensures;
  is = rw (c.from.ensures, c.from-in-Ok.ensures) (sym (ap (λ (x : Compiled). code_of (meaning x)) c.in-Ok.is));
}

pub returns-in-Err : goal.returns-in-Err
returns-in-Err c = record {
  answer = meaning c.compile.result;
  compiles = c.compile.ensures;
  is = c.from-in-Err.ensures ∙ sym (ap (λ (x : Compiled). code_of (meaning x)) c.in-Err.is);
}
