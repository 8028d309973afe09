-- As the code goes through declarations and body: the fault that is told is the text's, and where there is none its program is stored.
-- Assumes nothing.
use mathlib.Core.Bool.{false}
use mathlib.Core.Path.{◌≡◌, refl, sym, ◌∙◌, ap, subst}
use mathlib.Core.List.{List, []}
use Prim.Native.Nat.{ℕ, ◌≤◌, min}
use native.Mathlib.Omega.{arith}
use lib.ListN.{length}
use Rattle.std.specs.Prelude.{Result, Ok, Err}
use Rattle.refusals.specs.declared.Refusal.{Refusal}
use Rattle.refusals.specs.Number.{number_of}
use Rattle.meaning.specs.Expansion.{procedures_from}
use Rattle.language.specs.Texts.{refused, Reads}
use Rattle.grammar.specs.Meaning.{Says}
use Rattle.stored.specs.Stored.{Stored}
use Rattle.own_law.specs.Noted.{tell_by}
use Rattle.frames_law.specs.Frames.{no_place}
use Rattle.frames.specs.declared.Under.{Under}
use Rattle.parts.specs.Beside.{beside}
use Rattle.decls.specs.declared.Read as declared
use Rattle.decls_law.specs.Rows.{Filled}
use Rattle.items.specs.declared.Read.{Read}
use Rattle.items.specs.Walk.{start_marks}
use Rattle.items.specs.Came.{All}
use Rattle.told_law.proofs.Entered.{Entered}
use Rattle.told_law.proofs.Declared.{text, placed}
use Rattle.told_law.proofs.Whole.{own, settled, refused-read, good-read}
use Rattle.source.specs.Settled.{fault_in}
use Rattle.source.specs.Area.{tree_of, Prepared}
use Rattle.source.proofs.Lent.{area_entered}

module _ {s t u : List ℕ} {r : declared.Read} (says : Says s (Ok tt)) (p : Prepared s t u r) {v : Under} (own_is : v ≡ own r) {y : List ℕ} {b : Read} (a : All s (beside u).names r.marks.names v 32 false false r.word start_marks u y b)
    (o : Result (Unit {0}) (Refusal ℕ)) {six nine : ℕ} (q : fault_in o ≡ tell_by no_place six b.marks.notes.seven b.marks.eight nine b.marks.notes.ten) (e₆ : six ≡ min r.marks.six b.marks.notes.six) (e₉ : nine ≡ min r.marks.nine b.marks.notes.nine) where
  abbrev x : Entered s p.before p.listed r
  x = area_entered says p

  filled : Filled (beside u).names r.procedures (procedures_from [] (text x).declared)
  filled = p.filled (procedures_from [] (text x).declared) (placed x)

  all : All s (beside u).names r.marks.names (own r) 32 false false r.word start_marks u y b
  all = subst (λ (w : Under). All s (beside u).names r.marks.names w 32 false false r.word start_marks u y b) own_is a

  told : settled x p.clear p.fills filled all ≡ fault_in o
  told = sym (q ∙ rw (e₆, e₉) refl)

  pub refused-told : (q : Refusal ℕ) → o ≡ Err q → Reads s (refused (number_of q.cause) q.place)
  refused-told q e = refused-read x p.clear p.fills filled all (told ∙ ap fault_in e)

  pub good-told : o ≡ Ok tt → 32768 ≤ length t → Stored s (tree_of y) b.marks.nodes r.marks.inputs r.marks.outputs r.marks.word
  unfolding tree_of
  good-told e long = good-read x p.clear p.fills filled all (told ∙ ap fault_in e) (omega (arith, long, p.long)) p.zeros
