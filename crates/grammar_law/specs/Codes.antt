-- What the bytes of the tables stand for, and the rule that a word calls for.
-- Assumes nothing.
use Rattle.std.specs.Prelude.{ℕ, get_or}
use Rattle.ll1.specs.Goes.{Choice}
use Rattle.ll1.specs.Rows.{Codes}
use Rattle.ll1.proofs.Then.{picks}
use Rattle.language.specs.Words.{Kind}
use Rattle.language.specs.Numbers.{kind_at, used_kinds}
use Rattle.language.specs.Grammar.{Part, Program, csml}
use Rattle.language.proofs.Numbered.{told}
use Rattle.language.proofs.Claims.{claims}
use Rattle.grammar_law.specs.Tables.{parts}

unfoldable pub part_at : ℕ → Part
unfolding parts
part_at n = get_or parts n Program

unfoldable pub codes : Codes Kind Part
codes = record { kind = kind_at; part = part_at; used = used_kinds; told = told }

abbrev pub choice : Choice Kind Part
choice = picks claims csml
