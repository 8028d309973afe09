-- Declarations and body together: the fault that is told is the text's, and where there is none its program is stored.
-- Assumes nothing.
use mathlib.Core.Bool.{false}
use mathlib.Core.Path.{◌≡◌, refl, sym, ◌∙◌, ap, subst}
use mathlib.Core.List.{List, [], ◌∷◌}
use mathlib.Core.Option.{Option, none, some}
use Prim.Native.Nat.{ℕ, ◌+◌, ◌*◌, ◌≤◌, ◌<◌, min}
use native.Mathlib.Omega.{arith}
use lib.ListN.{length, get_or, take}
use lib.Seq.{get_or-take}
use Rattle.meaning.specs.Numbers.{Variable, input, boolean, integer}
use Rattle.meaning.specs.Declared.{look_up}
use Rattle.meaning.specs.Kinds.{changeable, assignable}
use Rattle.meaning.specs.Checked.{program_of}
use Rattle.meaning.specs.Faults.{Fault}
use Rattle.meaning.specs.Expansion.{procedures_from, expanded_body, expanded}
use Rattle.meaning.specs.Procedures.{fault_in}
use Rattle.meaning.proofs.Faults.{none_exactly}
use Rattle.meaning.proofs.Sizes.{sized}
use Rattle.meaning.proofs.Procedures.{expanded-good}
use Rattle.language.specs.Texts.{refused, Reads, tree, fine}
use Rattle.language.specs.Grammar.{most_levels}
use Rattle.stored.specs.Stored.{Stored}
use Rattle.names.specs.Look.{look_in}
use Rattle.frames_law.specs.Frames.{no_place, told_at}
use Rattle.frames.specs.declared.Under.{Under}
use Rattle.decls.specs.declared.Read as declared
use Rattle.decls_law.specs.Rows.{Filled, Fills}
use Rattle.decls_law.proofs.Looked.{capped_of}
use Rattle.decls_law.proofs.Capped.{capped_missing, capped_kind, capped_bit, capped_worst}
use Rattle.own_law.specs.Noted.{tell_by}
use Rattle.items.specs.declared.Read.{Read}
use Rattle.items.specs.Walk.{start_marks, Walked, walked, walked_of}
use Rattle.items.specs.Under.{Scope}
use Rattle.items.specs.Came.{All}
use Rattle.alike_law.proofs.Alike.{Alike}
use Rattle.formed_law.proofs.Formed.{formed_kept}
use Rattle.tree_law.proofs.Program.{Program}
use Rattle.told_law.proofs.Entered.{Entered}
use Rattle.told_law.proofs.Declared.{text, ds, kept, declared_six, declared-nine, opened, look_is, look-whole, inputs_are, outputs_are, word_are}
use Rattle.told_law.proofs.Told.{of_all, fault_is, holds}

-- ---- a number that stops at 255 is no fault

capped_changes : (v : Option Variable) → changeable (capped_of v) ≡ changeable v
capped_changes none = refl
capped_changes (some (input i)) = refl
capped_changes (some (boolean j)) = refl
capped_changes (some (integer low width)) = refl

capped_assigns : (v : Option Variable) → assignable (capped_of v) ≡ assignable v
capped_assigns none = refl
capped_assigns (some (input i)) = refl
capped_assigns (some (boolean j)) = refl
capped_assigns (some (integer low width)) = refl

alike : (a v : Option Variable) → a ≡ capped_of v → Alike a v
alike a v e =
    record {
      unknown = rw e (capped_missing v);
      kind = rw e (capped_kind v);
      has = λ j. rw e (capped_bit v j);
      worst = rw e (capped_worst v);
      changes = rw e (capped_changes v);
      assigns = rw e (capped_assigns v);
    }

-- ---- the whole

-- where the program's own text is read
abbrev pub own : declared.Read → Under
own r = record { at = 65535; frame = 0; depth = 0; seen = r.procedures; top = r.marks.names * 4 + 4 }

module _ {s t u : List ℕ} {r : declared.Read} (x : Entered s t u r) (clear : (j : ℕ) → j < 16384 → get_or t j 0 ≡ 0)
    {z : List ℕ} (fills : Fills u z r.procedures) (filled : Filled z r.procedures (procedures_from [] (text x).declared))
    {before after : List ℕ} {b : Read} (a : All s z r.marks.names (own r) most_levels false false r.word start_marks before after b) where
  scope : Scope s z r.marks.names (own r)
  scope = record { procedures = procedures_from [] (text x).declared; bound = []; opened = opened x clear fills filled; behind = omega arith; own = λ h. refl }

  abbrev look : List ℕ → Option Variable
  look = look_in s z r.marks.names

  abbrev done : Walked
  done = of_all (text x) (kept x) (formed_kept (text x) (kept x)) look before

  walk_is : walked_of b after ≡ done
  unfolding told_at expanded_body scope
  walk_is = (a.told scope x.tells.mid x.tells.stands x.tells.fuel (text x).body (x.tells.close ∷ []) x.tells.body).walks

  abbrev pub settled : Option Fault
  settled = tell_by no_place (min r.marks.six b.marks.notes.six) b.marks.notes.seven b.marks.eight (min r.marks.nine b.marks.notes.nine) b.marks.notes.ten

  pub fault-read : fault_in (text x) ≡ settled
  fault-read =
      fault_is (text x) (kept x) (formed_kept (text x) (kept x)) look before (λ y. alike (look y) (look_up (ds x) y) (look_is x clear fills filled y)) r.marks.six r.marks.nine (declared_six x) (declared-nine x)
      ∙ ap (λ (w : Walked). tell_by no_place (min r.marks.six w.marks.notes.six) w.marks.notes.seven w.marks.eight (min r.marks.nine w.marks.notes.nine) w.marks.notes.ten) (sym walk_is)

  pub refused-read : {number place : ℕ} → settled ≡ some (record { number = number; place = place }) → Reads s (refused number place)
  refused-read e = tree x.short x.cut x.derived (fault-read ∙ e)

  pub good-read : settled ≡ none → 16384 ≤ length before → ((q : ℕ) → q < 8192 → get_or before q 0 ≡ 0) → Stored s (take 16384 after) b.marks.nodes r.marks.inputs r.marks.outputs r.marks.word
  unfolding program_of expanded
  good-read e long zeros =
      let f : fault_in (text x) ≡ none = fault-read ∙ e in
      let n = sized (expanded (text x)) ((none_exactly (expanded (text x))).0 (expanded-good (text x) f)).sizes in
      let k = holds (text x) (kept x) (formed_kept (text x) (kept x)) look before f long zeros (λ y. look-whole x n.inputs n.bits (look y) y (look_is x clear fills filled y)) (take 16384 after) (λ q h. get_or-take 16384 after q 0 h ∙ ap (λ (w : Walked). get_or w.bytes q 0) walk_is) in
      let q : Program (expanded (text x)) (walked b.marks (take 16384 after)) = subst (λ (w : Walked). Program (expanded (text x)) (walked w.marks (take 16384 after))) (sym walk_is) k in
      record {
        says = expanded (text x);
        reads = fine x.short x.cut x.derived f;
        few = q.few;
        inputs = inputs_are x n.inputs n.bits;
        outputs = outputs_are x n.inputs n.bits;
        initial = word_are x n.inputs n.bits;
        body = q.body;
        ready = q.ready;
      }
