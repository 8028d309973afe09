-- What is noted of the declarations is the first half of what is faulted, and what they come to.
-- Assumes nothing.
use mathlib.Core.Path.{◌≡◌, sym, ◌∙◌, ap, subst}
use mathlib.Core.List.{List, [], ◌++◌, append-nil}
use mathlib.Core.Option.{Option}
use Prim.Native.Nat.{ℕ, ◌+◌, ◌*◌, ◌<◌}
use native.Mathlib.Omega.{arith}
use lib.ListN.{get_or, drop}
use Rattle.file_law.specs.Table.{most_inputs, most_outputs}
use Rattle.meaning.specs.Numbers.{Variable}
use Rattle.meaning.specs.Declared.{Declaration, input_count, output_count, initial_word, look_up}
use Rattle.meaning.specs.Names.{gather, again_from}
use Rattle.meaning.specs.Sizes.{input_places, output_places, bits_from, width_fault}
use Rattle.meaning.specs.Unexpanded.{Unexpanded}
use Rattle.meaning.specs.Expansion.{procedures_from, variables_of}
use Rattle.meaning.specs.Procedures.{clashes}
use Rattle.meaning.proofs.Declared.{bits_most}
use Rattle.language.specs.Trees.{source_of}
use Rattle.names.specs.Look.{look_in}
use Rattle.names.specs.Enter.{cap, Kept, enter_all, start_marks}
use Rattle.frames.specs.Open.{Open}
use Rattle.decls.specs.declared.Read.{Read}
use Rattle.decls.specs.Held.{Held, enter_each}
use Rattle.decls.specs.Came.{held_of}
use Rattle.decls_law.specs.Rows.{Placed, Filled, Fills, Alike}
use Rattle.decls_law.proofs.Sizes.{inputs-all, outputs-all, nine_is}
use Rattle.decls_law.proofs.Looked.{capped_of, look_frame}
use Rattle.decls_law.proofs.Word.{word_is}
use Rattle.decls_law.proofs.Capped.{few-inputs, look-small}
use Rattle.decls_law.proofs.Clashes.{six_each}
use Rattle.decls_law.proofs.Opened.{placed-each, open_each, alike-each, looked_each}
use Rattle.kept_law.specs.Kept.{KeptProgram}
use Rattle.kept_law.proofs.Words.{words-low}
use Rattle.kept_law.proofs.Texts.{program-kept}
use Rattle.kept_law.proofs.Expanded.{variables_kept}
use Rattle.places_law.specs.Places.{Low}
use Rattle.places_law.proofs.Lists.{low-append}
use Rattle.places_law.proofs.Added.{clashes-low}
use Rattle.places_law.proofs.Declared.{low_again, low-sizes}
use Rattle.told_law.proofs.Entered.{Entered}
use Rattle.told_law.proofs.Notes.{Noted, noted_turned}

module _ {s t u : List ℕ} {r : Read} (x : Entered s t u r) where
  -- what the text says, before expansion
  abbrev pub text : Unexpanded
  text = source_of x.all x.derived

  abbrev pub ds : List Declaration
  ds = variables_of text.declared

  pub kept : KeptProgram text
  kept = program-kept x.all x.derived (words-low s x.all x.short x.cut)

  abbrev low : ℕ
  low = cap (output_count ds)

  abbrev held : Held
  held = enter_each s text.declared (held_of (start_marks low) 0 t)

  abbrev alone : Kept
  alone = enter_all s ds (start_marks low) t

  alike : Alike held.marks alone.marks
  alike = alike-each s text.declared low t x.tells.lie x.room x.tells.room

  pub declared_six : Noted (clashes [] [] text.declared ++ again_from [] ds) r.marks.six
  declared_six =
      noted_turned (again_from [] ds) (clashes [] [] text.declared) r.marks.six
      (record {
        least_is = ap (λ (k : Held). k.marks.six) x.tells.kept ∙ six_each s text.declared low t x.tells.lie x.room x.tells.room;
        low = low-append (again_from [] ds) (clashes [] [] text.declared) (low_again [] ds (variables_kept text.declared kept.declared)) (clashes-low [] [] text.declared kept.declared);
      })

  abbrev sizes : List ℕ
  sizes = drop most_inputs (gather input_places ds) ++ (drop most_outputs (gather output_places ds) ++ (bits_from 0 ds ++ gather width_fault ds))

  pub declared-nine : Noted sizes r.marks.nine
  declared-nine = record { least_is = ap (λ (k : Held). k.marks.nine) x.tells.kept ∙ alike.nine ∙ nine_is s ds low t; low = subst (λ (l : List ℕ). Low (drop most_inputs (gather input_places ds) ++ (drop most_outputs (gather output_places ds) ++ (bits_from 0 ds ++ l)))) (append-nil (gather width_fault ds)) (low-sizes ds (variables_kept text.declared kept.declared) [] tt) }

  -- every procedure has its row
  pub placed : Placed s u r.procedures (procedures_from [] text.declared)
  placed = subst (λ (g : Held). Placed s g.bytes g.procedures (procedures_from [] text.declared)) (sym x.tells.kept) (placed-each s text.declared low t x.tells.lie x.room x.tells.room)

  -- ---- behind the declarations, with the activities of procedures filled in

  module _ (clear : (j : ℕ) → j < 16384 → get_or t j 0 ≡ 0) {z : List ℕ} (fills : Fills u z r.procedures) (filled : Filled z r.procedures (procedures_from [] text.declared)) where
    here : held_of r.marks r.procedures u ≡ held
    here = x.tells.kept

    -- no call is open
    pub opened : Open s z (procedures_from [] text.declared) [] (record { at = 65535; frame = 0; depth = 0; seen = r.procedures; top = r.marks.names * 4 + 4 })
    opened =
        subst (λ (g : Held). Fills g.bytes z g.procedures → Filled z g.procedures (procedures_from [] text.declared) → Open s z (procedures_from [] text.declared) [] (record { at = 65535; frame = 0; depth = 0; seen = g.procedures; top = g.marks.names * 4 + 4 })) (sym here)
        (open_each s text.declared low t x.tells.lie x.room x.tells.room z x.short clear) fills filled

    -- names lie in front of the rows, so they are looked up as before
    pub look_is : (y : List ℕ) → look_in s z r.marks.names y ≡ capped_of (look_up ds y)
    unfolding look_in
    look_is y =
        let room = opened.room in
        look_frame s u z y r.marks.names (λ j h. fills.others j (omega (arith, room, opened.some, h))) r.marks.names 0 (omega arith)
        ∙ ap (λ (g : Held). look_in s g.bytes g.marks.names y) here
        ∙ looked_each s text.declared t x.tells.lie x.room x.tells.room y

  -- where no size is passed, they are the definition's, and so are the counts and the value word
  module _ (i : drop most_inputs (gather input_places ds) ≡ []) (b : bits_from 0 ds ≡ []) where
    pub look-whole : (v : Option Variable) (y : List ℕ) → v ≡ capped_of (look_up ds y) → v ≡ look_up ds y
    look-whole v y e = e ∙ look-small ds y i b

    pub inputs_are : input_count ds ≡ r.marks.inputs
    unfolding start_marks
    inputs_are = omega (arith, ap (λ (k : Held). k.marks.inputs) x.tells.kept, alike.inputs, inputs-all s ds (start_marks low) t (omega arith), few-inputs ds i)

    pub outputs_are : output_count ds ≡ r.marks.outputs
    unfolding start_marks
    outputs_are = omega (arith, ap (λ (k : Held). k.marks.outputs) x.tells.kept, alike.outputs, outputs-all s ds (start_marks low) t (omega arith), bits_most ds b)

    pub word_are : initial_word ds ≡ r.marks.word
    word_are = sym (ap (λ (k : Held). k.marks.word) x.tells.kept ∙ alike.word ∙ word_is s ds t b)
