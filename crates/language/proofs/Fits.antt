-- A source without a fault has a table within the sizes of a file.
-- Assumes nothing.
use mathlib.Core.Path.{◌≡◌, refl, sym, ◌∙◌, ap, ap₂}
use mathlib.Core.List.{List, [], ◌∷◌, append-eq-nil_iff}
use mathlib.Core.Option.{Option, none, some-ne-none}
use Prim.Native.Nat.{ℕ, ◌+◌, ◌^◌, ◌≤◌, ◌<◌}
use native.Mathlib.Nat.{mod-lt}
use native.Mathlib.Omega.{arith}
use lib.ListN.{length, get_or, drop, length-append, length-drop}
use lib.Pow.{pow_pos}
use Rattle.reach_law.specs.Numbering.{Numbering}
use Rattle.file_law.specs.Table.{most_inputs, most_outputs, most_states, Table, row_of, RowFits, Fits}
use Rattle.meaning.specs.States.{Program, State, start_state, outputs_of}
use Rattle.meaning.specs.Declared.{Declaration, inputs, outputs, internals, integers, Source, one, input_count, an_output, output_count}
use Rattle.meaning.specs.Names.{gather, name_faults}
use Rattle.meaning.specs.Kinds.{kind_faults}
use Rattle.meaning.specs.Jumps.{jump_faults}
use Rattle.meaning.specs.Sizes.{input_places, output_places, size_faults}
use Rattle.meaning.specs.Worst.{worst_faults}
use Rattle.meaning.specs.Faults.{Fault, least, earliest, fault_of}
use Rattle.meaning.specs.Checked.{program_of}
use Rattle.meaning.proofs.Procedures.{expanded-good}
use Rattle.language.specs.Trees.{source_of}
use Rattle.language.specs.Texts.{good, Reads, fine}
use Rattle.language.specs.Tables.{machine_of, Tabled}

-- ---- no fault

pub no_fault : {text : List ℕ} {s : Source} → Reads text (good s) → fault_of s ≡ none
no_fault (fine {ws = ws} h x d e) = expanded-good (source_of ws d) e

none_told : (number : ℕ) (places : List ℕ) (next : Option Fault) → earliest number places next ≡ none → (places ≡ []) × (next ≡ none)
none_told number [] next e = (refl, e)
none_told number (p ∷ ps) next e = absurd (some-ne-none (record { number = number; place = least p ps }) e)

no_size-fault : (s : Source) → fault_of s ≡ none → size_faults s ≡ []
unfolding fault_of
no_size-fault s e =
    let worst = earliest 10 (worst_faults s) none in
    let size = earliest 9 (size_faults s) worst in
    let jump = earliest 8 (jump_faults s) size in
    let kind = earliest 7 (kind_faults s) jump in
    let a = none_told 6 (name_faults s) kind e in
    let b = none_told 7 (kind_faults s) jump a.1 in
    let c = none_told 8 (jump_faults s) size b.1 in
    (none_told 9 (size_faults s) worst c.1).0

-- ---- inputs and outputs are few

-- the places of some declarations are as many as the declarations
count-places : (places : Declaration → List ℕ) (each : Declaration → ℕ) (count : List Declaration → ℕ) → count [] ≡ 0 → ((d : Declaration) (ds : List Declaration) → count (d ∷ ds) ≡ each d + count ds)
    → ((d : Declaration) → length (places d) ≡ each d) → (ds : List Declaration) → length (gather places ds) ≡ count ds
unfolding gather
count-places places each count empty more size [] = sym empty
count-places places each count empty more size (d ∷ ds) =
    length-append (places d) (gather places ds) ∙ ap₂ ◌+◌ (size d) (count-places places each count empty more size ds) ∙ sym (more d ds)

an_input : (d : Declaration) → length (input_places d) ≡ one d
an_input (inputs n e) = refl
an_input (outputs n e b) = refl
an_input (internals n e b) = refl
an_input (integers n p w v) = refl

an_output_lem : (d : Declaration) → length (output_places d) ≡ an_output d
an_output_lem (inputs n e) = refl
an_output_lem (outputs n e b) = refl
an_output_lem (internals n e b) = refl
an_output_lem (integers n p w v) = refl

input-places : (ds : List Declaration) → length (gather input_places ds) ≡ input_count ds
unfolding input_count
input-places = count-places input_places one input_count refl (λ d ds. refl) an_input

output_places_lem : (ds : List Declaration) → length (gather output_places ds) ≡ output_count ds
unfolding output_count
output_places_lem = count-places output_places an_output output_count refl (λ d ds. refl) an_output_lem

none-past : (most : ℕ) (places : List ℕ) → drop most places ≡ [] → length places ≤ most
none-past most places e = omega (arith, length-drop most places, ap length e)

pub few-inputs : (s : Source) → fault_of s ≡ none → (program_of s).inputs ≤ most_inputs
unfolding size_faults program_of
few-inputs s e =
    let places = gather input_places s.declared in
    omega (arith, input-places s.declared, none-past most_inputs places ((append-eq-nil_iff {p = drop most_inputs places}).0 (no_size-fault s e)).0)

pub few-outputs : (s : Source) → fault_of s ≡ none → (program_of s).outputs ≤ most_outputs
unfolding size_faults program_of
few-outputs s e =
    let first = drop most_inputs (gather input_places s.declared) in
    let places = gather output_places s.declared in
    let later = ((append-eq-nil_iff {p = first}).0 (no_size-fault s e)).1 in
    omega (arith, output_places_lem s.declared, none-past most_outputs places ((append-eq-nil_iff {p = drop most_outputs places}).0 later).0)

-- ---- the table

-- "no spare output bit"
clear : (p : Program) (s : State) → outputs_of p s < 2 ^ p.outputs
unfolding outputs_of
clear p s = mod-lt s.word (pow_pos p.outputs)

module _ (s : Source) (None-found : fault_of s ≡ none) {states : List State} {t : Table} (u : Numbering (machine_of (program_of s)) states) (few : length states ≤ most_states) (a : Tabled (program_of s) states t) where
  row_fits : (i : ℕ) → i < length states → RowFits t (row_of t i)
  row_fits i h =
      record {
        clear = rw (a.shows i h, a.outputs) (clear (program_of s) (get_or states i (start_state (program_of s))));
        wide = a.wide i h ∙ ap (λ (k : ℕ). 2 ^ k) (sym a.inputs);
        inside = λ x k. rw a.size (a.leads i x h (rw a.inputs at k)).inside;
      }

  pub table_fits : Fits t
  table_fits =
      record {
        inputs = rw a.inputs (few-inputs s None-found);
        outputs = rw a.outputs (few-outputs s None-found);
        some = omega (arith, a.size, ap length u.begins.1);
        states = omega (arith, a.size);
        each = λ i h. row_fits i (omega (arith, a.size));
      }
