-- A text with its outcome, by computation. The document's texts are in `trials`; here stand those that refuse an edit of the grammar.
-- Assumes nothing.
use mathlib.Core.List.{List}
use Prim.Native.Nat.{ℕ}
use Prim.Native.String.{String}
use Rattle.ll1.proofs.Tests.{has, begin_row, pick}
use Rattle.ll1.proofs.Parser.{barred, run}
use Rattle.language.specs.Words.{bytes, Word}
use Rattle.language.specs.Grammar.{binding, csml, program, refuses, Checks}
use Rattle.language.proofs.Texts.{words_in}
use Rattle.language.proofs.Claims as claimed
use Rattle.language.proofs.Checking.{shows}

-- the text is a program; or it is refused at a place
abbrev pub Fine : List ℕ → Type 0
Fine s = (ws : List Word) × Checks s (program ws)

abbrev pub Good : String → Type 0
Good s = Fine (bytes s)

abbrev pub Five : String → ℕ → Type 0
Five s e = Checks (bytes s) (refuses 5 e)

abbrev pub Four : String → ℕ → Type 0
Four s e = Checks (bytes s) (refuses 4 e)

pub record Examples : Type 0 where
  -- "one or more statements parted by `;`, with one spare `;` allowed at its end"
  pub spare : Good "program p; skip; endprog"
  pub bars_last : Five "program p; parallel skip || skip || endparallel endprog" 36

pub examples : Examples
unfolding words_in has begin_row pick barred run binding csml claimed.claims claimed.first claimed.empty claimed.follow
examples = record { spare = (_, shows 400 _ tt); bars_last = shows 400 _ tt }
