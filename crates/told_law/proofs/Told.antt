-- What is noted of a program, of its declarations and of its expanded body, tells its fault; and where there is none, what is written holds it.
-- Assumes nothing.
use mathlib.Core.Bool.{false}
use mathlib.Core.Path.{◌≡◌, refl, sym, ◌∙◌, ap, subst}
use mathlib.Core.List.{List, [], ◌++◌, map, append_assoc}
use mathlib.Core.Option.{Option, none}
use Prim.Native.Nat.{ℕ, ◌≤◌, ◌<◌, min}
use native.Mathlib.Omega.{arith}
use lib.ListN.{length, get_or, drop}
use Rattle.file_law.specs.Table.{most_inputs, most_outputs}
use Rattle.meaning.specs.Numbers.{Variable}
use Rattle.meaning.specs.Declared.{Source, look_up, Declaration}
use Rattle.meaning.specs.Items.{Item, items_all, parts_of, place_of}
use Rattle.meaning.specs.Names.{gather, again_from, changed_by, names_in, unknown, name_faults}
use Rattle.meaning.specs.Kinds.{kind_faults}
use Rattle.meaning.specs.Jumps.{jump_faults}
use Rattle.meaning.specs.Sizes.{input_places, output_places, bits_from, width_fault, most_statements, most_parts, statement_place, item_size, size_faults}
use Rattle.meaning.specs.Worst.{worst_faults}
use Rattle.meaning.specs.Checked.{program_of}
use Rattle.meaning.specs.Unexpanded.{Unexpanded}
use Rattle.meaning.specs.Base.{base_all}
use Rattle.meaning.specs.Expansion.{variables_of, expanded_body, expanded}
use Rattle.meaning.specs.Procedures.{clashes, calls_refused, added_names, added_sizes, fault_in}
use Rattle.meaning.proofs.Procedures.{expanded-good}
use Rattle.nodes.specs.Decode.{list_at}
use Rattle.nodes.specs.Ready.{Ready}
use Rattle.kept_law.specs.Kept.{KeptProgram}
use Rattle.kept_law.proofs.Expanded.{expanded-kept}
use Rattle.own_law.specs.Noted.{Places, tell_by}
use Rattle.own_law.proofs.Noted.{noted_six, noted_seven, noted-eight, noted-nine, noted_ten, noted-keeps, fault-told}
use Rattle.frames_law.specs.Frames.{no_place}
use Rattle.items.specs.declared.Marks.{Marks}
use Rattle.items.specs.Walk.{start_marks, Walked, walked, walk_all}
use Rattle.items.specs.Under.{six_at, nine_in, read}
use Rattle.alike_law.proofs.Alike.{Alike, marks-alike}
use Rattle.stmts_law.proofs.Faults.{six_all, seven_all, ten_all}
use Rattle.stmts_law.proofs.Jumps.{eight-all}
use Rattle.stmts_law.proofs.Nine.{nine-body}
use Rattle.formed_law.proofs.Formed.{Formed}
use Rattle.places_law.specs.Places.{LowAll}
use Rattle.places_law.proofs.Lists.{six_low, seven_low, eight-low, nine-low, ten_low}
use Rattle.places_law.proofs.Trees.{base-low}
use Rattle.places_law.proofs.Added.{refused-low, sizes-low}
use Rattle.tree_law.proofs.Program.{Program, holds-program}
use Rattle.told_law.proofs.Notes.{Noted, noted-least, noted-append, noted-behind, noted_turned, noted_crossed}

-- the least places in the marks
abbrev places : Places six_at (nine_in false)
places =
    record {
      six_of = λ w. w.marks.notes.six;
      seven_of = λ w. w.marks.notes.seven;
      eight_of = λ w. w.marks.eight;
      nine_of = λ w. w.marks.notes.nine;
      ten_of = λ w. w.marks.notes.ten;
      six_at_lem = λ p w. refl;
      nine_at_lem = λ p w. refl;
      nine_by_six = λ p w. refl;
      six_by_nine = λ p w. refl;
      others_by_six = λ p w. (refl, (refl, refl));
      others_by_nine = λ p w. (refl, (refl, refl));
    }

-- a program of a short text, read with names looked up in a way that tells the same faults, into bytes
module _ (w : Unexpanded) (kept : KeptProgram w) (form : Formed (expanded w)) (look : List ℕ → Option Variable) (z : List ℕ) where
  abbrev said : Source
  said = expanded w

  abbrev ds : List Declaration
  ds = variables_of w.declared

  -- with what is noted of its base tree, and of all
  abbrev of_base : (List ℕ → Option Variable) → Walked
  of_base view = walk_all view (base_all (expanded_body w)) false false (walked start_marks z)

  abbrev pub of_all : Walked
  of_all = read look false 0 (expanded_body w) false false (walked start_marks z)

  abbrev items : List Item
  items = items_all (base_all (expanded_body w))

  low : LowAll (base_all (expanded_body w))
  low = base-low (expanded_body w) (expanded-kept w kept)

  module _ (same : (x : List ℕ) → Alike (look x) (look_up ds x)) where
    alike : (of_base look).marks ≡ (of_base (look_up ds)).marks
    alike = marks-alike look (look_up ds) same (base_all (expanded_body w)) false false (walked start_marks z) (walked start_marks z) refl

    abbrev unknowns : List ℕ
    unknowns = gather (unknown ds) (gather changed_by items) ++ gather (unknown ds) (gather names_in (parts_of items))

    abbrev large : List ℕ
    large = drop most_statements (gather statement_place items) ++ (drop most_parts (map place_of (parts_of items)) ++ gather item_size items)

    body_six : Noted (unknowns ++ calls_refused (expanded_body w)) of_all.marks.notes.six
    unfolding expanded
    body_six =
        noted-behind unknowns (calls_refused (expanded_body w)) (of_base look).marks.notes.six of_all.marks.notes.six
        (record { least_is = ap (λ (m : Marks). m.notes.six) alike ∙ six_all ds (base_all (expanded_body w)) false false (walked start_marks z); low = six_low said low })
        (refused-low (expanded_body w) (expanded-kept w kept))
        (noted_six six_at (nine_in false) places 0 (expanded_body w) (of_base look))

    body_seven : Noted (kind_faults said) of_all.marks.notes.seven
    unfolding kind_faults expanded
    body_seven =
        record {
          least_is = noted_seven six_at (nine_in false) places 0 (expanded_body w) (of_base look) ∙ ap (λ (m : Marks). m.notes.seven) alike ∙ seven_all ds (base_all (expanded_body w)) false false (walked start_marks z);
          low = seven_low said low;
        }

    body-eight : Noted (jump_faults said) of_all.marks.eight
    unfolding expanded
    body-eight =
        record {
          least_is = noted-eight six_at (nine_in false) places 0 (expanded_body w) (of_base look) ∙ ap (λ (m : Marks). m.eight) alike ∙ eight-all (look_up ds) (base_all (expanded_body w)) false false (walked start_marks z);
          low = eight-low said low;
        }

    body-nine : Noted (large ++ added_sizes w) of_all.marks.notes.nine
    unfolding expanded
    body-nine =
        noted-behind large (added_sizes w) (of_base look).marks.notes.nine of_all.marks.notes.nine
        (record { least_is = ap (λ (m : Marks). m.notes.nine) alike ∙ nine-body (look_up ds) (base_all (expanded_body w)) false false (walked start_marks z) refl refl; low = nine-low said low })
        (sizes-low w kept)
        (noted-nine six_at (nine_in false) places 0 (expanded_body w) (of_base look))

    body_ten : Noted (worst_faults said) of_all.marks.notes.ten
    unfolding worst_faults expanded
    body_ten =
        record {
          least_is = noted_ten six_at (nine_in false) places 0 (expanded_body w) (of_base look) ∙ ap (λ (m : Marks). m.notes.ten) alike ∙ ten_all ds (base_all (expanded_body w)) false false (walked start_marks z) form.small;
          low = ten_low said low;
        }

    -- what is noted of the declarations
    abbrev pub sizes : List ℕ
    sizes = drop most_inputs (gather input_places ds) ++ (drop most_outputs (gather output_places ds) ++ (bits_from 0 ds ++ gather width_fault ds))

    pub fault_is : (six nine : ℕ) → Noted (clashes [] [] w.declared ++ again_from [] ds) six → Noted sizes nine
        → fault_in w ≡ tell_by no_place (min six of_all.marks.notes.six) of_all.marks.notes.seven of_all.marks.eight (min nine of_all.marks.notes.nine) of_all.marks.notes.ten
    unfolding fault_in name_faults size_faults expanded
    fault_is six nine n₆ n₉ =
        let j = drop most_inputs (gather input_places ds) in
        let o = drop most_outputs (gather output_places ds) in
        let c = bits_from 0 ds in
        let v = gather width_fault ds in
        let e : (j ++ (o ++ (c ++ v))) ++ large ≡ j ++ (o ++ (c ++ (v ++ large))) =
        append_assoc j (o ++ (c ++ v)) large ∙ ap (λ (l : List ℕ). j ++ l) (append_assoc o (c ++ v) large ∙ ap (λ (l : List ℕ). o ++ l) (append_assoc c v large)) in
        let names = noted_crossed (clashes [] [] w.declared) (again_from [] ds) (calls_refused (expanded_body w)) unknowns _ (noted-append _ _ six of_all.marks.notes.six n₆ (noted_turned unknowns (calls_refused (expanded_body w)) _ body_six)) in
        let all = noted_crossed [] sizes (added_sizes w) large _ (noted-append sizes _ nine of_all.marks.notes.nine n₉ (noted_turned large (added_sizes w) _ body-nine)) in
        fault-told no_place (added_names w) (added_sizes w) said _ _ _ _ _ (noted-least _ _ names) (noted-least _ _ body_seven) (noted-least _ _ body-eight)
        (noted-least _ _ (subst (λ (l : List ℕ). Noted (added_sizes w ++ l) (min nine of_all.marks.notes.nine)) e all)) (noted-least _ _ body_ten)

  -- ---- what is written

  alike_nodes : (s : Source) (u : List ℕ) (m k : Marks) → k.nodes ≡ m.nodes → Program s (walked m u) → Program s (walked k u)
  alike_nodes s u m k e x =
      record {
        count = e ∙ x.count;
        few = omega (arith, e, x.few);
        body = λ left h. subst (λ (n : ℕ). (program_of s).body ≡ list_at left u 0 n) (sym e) (x.body left (omega (arith, e, h)));
        ready = λ left h. subst (λ (n : ℕ). Ready u n left) (sym e) (x.ready left (omega (arith, e, h)));
      }

  abbrev keeps : {T : Type 0} (h : Walked → T) → ((p : ℕ) (v : Walked) → h (six_at p v) ≡ h v) → ((p : ℕ) (v : Walked) → h (nine_in false p v) ≡ h v) → h of_all ≡ h (of_base look)
  keeps h a b = noted-keeps six_at (nine_in false) h a b 0 (expanded_body w) (of_base look)

  pub holds : fault_in w ≡ none → 16384 ≤ length z → ((q : ℕ) → q < 8192 → get_or z q 0 ≡ 0) → ((x : List ℕ) → look x ≡ look_up ds x)
      → (u : List ℕ) → ((q : ℕ) → q < 16384 → get_or u q 0 ≡ get_or of_all.bytes q 0) → Program (expanded w) (walked of_all.marks u)
  unfolding expanded
  holds f long zeros same u agrees =
      alike_nodes said u (of_base look).marks of_all.marks (keeps (λ (v : Walked). v.marks.nodes) (λ p v. refl) (λ p v. refl))
      (holds-program said (expanded-good w f) form start_marks z refl refl long zeros look same u (λ q h. agrees q h ∙ ap (λ (l : List ℕ). get_or l q 0) (keeps (λ (v : Walked). v.bytes) (λ p v. refl) (λ p v. refl))))
