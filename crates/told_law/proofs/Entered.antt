-- A text that passes the grammar, with its declarations entered.
-- Assumes nothing.
use mathlib.Core.Path.{◌≡◌, refl, sym}
use mathlib.Core.Logic.{inl, inr}
use mathlib.Core.List.{List, []}
use Prim.Native.Nat.{ℕ, ◌≤◌}
use native.Mathlib.Omega.{arith}
use lib.ListN.{length}
use Rattle.std.specs.Prelude.{Ok, Err}
use Rattle.refusals.specs.declared.Refusal.{Refusal}
use Rattle.refusals.specs.Number.{number_of}
use Rattle.ll1.specs.Grammar.{Sentence}
use Rattle.language.specs.Words.{Word, words, Cut}
use Rattle.language.specs.Grammar.{csml, most_levels, whole_program, kinds, Outcome, program, Checks, four, five, fine}
use Rattle.language.specs.Trees.{source_of}
use Rattle.language.specs.Texts.{most_bytes, Reads, long, text, refused}
use Rattle.language.proofs.Cutting.{words_only}
use Rattle.grammar.specs.Meaning.{Says}
use Rattle.hand.specs.Along.{Near}
use Rattle.descent_law.proofs.Program.{program-told}
use Rattle.decls.specs.declared.Read.{Read}
use Rattle.decls.specs.Came.{Tells, Came}
use Rattle.told_law.proofs.Text.{text_along}

-- u is what lies in the entries' bytes then, and t what lay there before
pub record Entered (s t u : List ℕ) (r : Read) : Type 0 where
  pub short : length s ≤ most_bytes
  pub all : List Word
  pub cut : Cut 0 s (words all)
  pub derived : Sentence csml most_levels whole_program (kinds all)
  pub near : Near s r.word
  pub room : 16384 ≤ length t
  pub long : length u ≡ length t
  pub few : r.marks.names ≤ 4096
  pub tells : Tells s most_levels (source_of all derived) [] t u r

pub refused-reads : (s : List ℕ) (r : Refusal ℕ) → Says s (Err r) → Reads s (refused (number_of r.cause) r.place)
refused-reads s r (inl (h, e, f)) = rw (e, f) (long h)
refused-reads s r (inr (h, x)) = text h x

derivation : (s : List ℕ) (o : Outcome) (ws : List Word) → o ≡ program ws → Checks s o → Cut 0 s (words ws) × Sentence csml most_levels whole_program (kinds ws)
derivation s o ws e (four x) = absurd (let z : ◌≡◌ {A = ℕ} 0 1 = cc in omega arith)
derivation s o ws e (five x y) = absurd (let z : ◌≡◌ {A = ℕ} 0 1 = cc in omega arith)
derivation s o ws e (fine {ws = vs} x y) = let q : vs ≡ ws = cc in rw (← q) (x, y)

pub program_entered : {s t u : List ℕ} {r : Read} → 16384 ≤ length t → Says s (Ok tt) → Came s t u r → Entered s t u r
program_entered {s} {t} {u} {r} room (short, (ws, x)) c =
    let (cut, d) = derivation s (program ws) ws refl x in
    let (f, y) = program-told ws d in
    record { short = short; all = ws; cut = cut; derived = d; near = c.near; room = room; long = c.long; few = c.few; tells = c.told ws (text_along s ws (sym (words_only s (words ws) cut))) f most_levels (omega arith) (source_of ws d) [] y }
