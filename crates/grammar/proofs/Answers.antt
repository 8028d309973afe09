-- From what the reader says to the definition's answer.
-- Assumes nothing.
use mathlib.Core.Bool.{true}
use mathlib.Core.Path.{◌≡◌, refl, sym, ◌∙◌, ap, subst}
use mathlib.Core.List.{List, [], ◌∷◌, map}
use Prim.Native.Nat.{ℕ, zero, suc, ◌≤◌, ◌<◌}
use native.Mathlib.Decide.{ℕ_discrete}
use native.Mathlib.Omega.{arith}
use lib.Dec.{leb}
use borrow.Author.Tests.{leb-true}
use lib.ListN.{length, get_or, length-map, get_or-eq_default}
use Rattle.ll1.specs.Grammar.{Read, sentence, refused, Answers}
use Rattle.ll1.specs.Rows as rows
use Rattle.ll1.specs.Rows.{ReadTo, StopsAt}
use Rattle.ll1.proofs.Steps.{inside}
use Rattle.language.specs.Words as cut
use Rattle.language.specs.Words.{Kind, Word, Words, words, Cut}
use Rattle.language.specs.Scan.{words_of}
use Rattle.language.specs.Grammar.{Line, csml, most_levels, whole_program, kinds, program, refuses, Checks, four, five, fine}
use Rattle.language.specs.Texts.{most_bytes}
use Rattle.language.proofs.Cutting.{words_cut}
use Rattle.words.specs.Meaning.{stop_of}
use Rattle.words.specs.Met as met
use Rattle.words.proofs.Meeting.{end_met, is_met, end_is, met-words}
use Rattle.std.specs.Prelude.{Option, Some, None, Result, Ok, Err}
use Rattle.grammar_law.specs.Tables as tables
use Rattle.grammar_law.specs.Codes.{codes, choice}
use Rattle.grammar_law.specs.Starts.{among, called, across, laid, starts}
use Rattle.grammar_law.proofs.Serves as serves
use Rattle.grammar_law.proofs.Serves.{start-row, start-closed}
use Rattle.grammar_law.proofs.Whole.{all_read, some_read, stops_there}
use Rattle.grammar.specs.Reading.{code_of, listed, words_in, ends_at, codes_in, Left, Stands, Ready, left_at, Said, Meets}
use Rattle.grammar.specs.Meaning.{Fault}
use Rattle.grammar.specs.declared.Here.{Here}
use Rattle.grammar.proofs.Codes.{kinds_cut}
use Rattle.grammar.proofs.Along.{stop-inside}

-- ---- a row

module _ (a : Line) (s : List ℕ) (i k : ℕ) {r : Result Here Here} {w : Here} where
  pub is_read : r ≡ Ok w → Said a s i k r → ReadTo codes choice a (codes_in s) i k w.number
  is_read q x = subst (Said a s i k) q x

  pub is_stopped : r ≡ Err w → Said a s i k r → StopsAt codes choice a (codes_in s) i k w.number
  is_stopped q x = subst (Said a s i k) q x

-- ---- the first pass

refused_at_lem : (q : Words) (e : ℕ) → stop_of q ≡ Some e → q ≡ cut.refused e
refused_at_lem (words ws) e p = absurd (let z : ◌≡◌ {A = ℕ} 0 1 = cc p in omega arith)
refused_at_lem (cut.refused o) e p = let same : o ≡ e = cc p in ap cut.refused same

module _ (s : List ℕ) {n : Option ℕ} (x : n ≡ stop_of (words_of s)) where
  pub four-inside : {e : ℕ} → n ≡ Some e → e < length s
  four-inside {e} f = stop-inside s e (refused_at_lem (words_of s) e (sym x ∙ f))

  pub is_four : {e : ℕ} → n ≡ Some e → Checks s (refuses 4 e)
  is_four {e} f = four (subst (Cut 0 s) (refused_at_lem (words_of s) e (sym x ∙ f)) (words_cut s))

-- ---- the whole text

-- codes are from 1 on
ended : (ws : List Word) (i : ℕ) → get_or (map code_of ws) i 0 ≡ 0 → length (map code_of ws) ≤ i
ended [] i e = omega arith
ended (w ∷ ws) zero e = absurd (omega (arith, e))
ended (w ∷ ws) (suc i) e = omega (arith, ended ws i e)

pub at_start_lem : (s : List ℕ) → Left s 0 0
at_start_lem s = record { fits = omega arith; count = omega arith; rest = is_met s }

rows_fit : leb (length tables.rows) tables.row_bytes ≡ true
unfolding tables.rows
rows_fit = refl

starts_fit : leb (length starts) tables.cell_count ≡ true
unfolding starts laid across called among tables.calls
starts_fit = refl

-- the two tables serve from the start row on
pub ready : (s : List ℕ) {t u : List ℕ} {w : Here} → t ≡ tables.rows → u ≡ starts → length s ≤ most_bytes → Stands s w → Ready t u s 1 w most_levels
ready s {u = u} {w = w} q r h x =
    subst (λ (l : List ℕ). Ready l u s 1 w most_levels) (sym q)
    (subst (λ (l : List ℕ). Ready tables.rows l s 1 w most_levels) (sym r)
    (record {
      rows_fit = leb-true (length tables.rows) tables.row_bytes rows_fit;
      starts_fit = leb-true (length starts) tables.cell_count starts_fit;
      tables = serves.tables;
      closed = start-closed;
      short = h;
      word = x;
      few = omega arith;
    }))

module _ (s : List ℕ) where
  -- the end of the words that are met is the place of the 4, if there is one
  ends_so : stop_of (words_of s) ≡ end_met s
  ends_so = ap stop_of (met-words (is_met s) (omega arith)) ∙ end_is (end_met s) (words_in s)

  -- where there is none, they are the words of the text
  module _ (q : end_met s ≡ None) where
    all-met : words_of s ≡ words (words_in s)
    all-met = met-words (is_met s) (omega arith) ∙ ap (λ (n : Option ℕ). met.ended n (words_in s)) q

    cut_words : Cut 0 s (words (words_in s))
    cut_words = subst (Cut 0 s) all-met (words_cut s)

    known : (r : Read) → Answers csml most_levels whole_program (rows.words codes (codes_in s)) r → Answers csml most_levels whole_program (kinds (words_in s)) r
    known r y =
        subst (λ (l : List Kind). Answers csml most_levels whole_program l r)
        (subst (λ (l : List Word). rows.words codes (map code_of l) ≡ kinds l) (ap listed all-met) (kinds_cut (words_cut s))) y

    five_at : {w : Here} → Stands s w → Answers csml most_levels whole_program (rows.words codes (codes_in s)) (refused w.number) → Checks s (refuses 5 w.place)
    five_at {w} x y =
        subst (λ (p : ℕ). Checks s (refuses 5 p)) (sym (x.place ∙ ap (λ (n : Option ℕ). get_or (map (λ v. v.place) (words_in s)) w.number (ends_at n (length s))) q))
        (five cut_words (known (refused w.number) y))

  -- what the reader says from the start row on, of the first word on
  module _ {t : List ℕ} (r : t ≡ tables.rows) {f : Here} {g : Result Here Here} (x : Meets (rows.row codes t 1) s f most_levels g) (i : f.number ≡ 0) where
    says : Said whole_program s 0 most_levels g
    says =
        subst (λ (n : ℕ). Said whole_program s n most_levels g) i
        (subst (λ (a : Line). Said a s f.number most_levels g) (ap (λ (l : List ℕ). rows.row codes l 1) r ∙ start-row) x.said)

    fault : {w : Here} → Stands s w → length s ≤ most_bytes → (end_met s ≡ None → Checks s (refuses 5 w.place)) → Fault s w.place w.next
    fault {w} v h y =
        record {
          short = h;
          inside = v.inside;
          rest = ap stop_of (met-words v.rest v.ahead) ∙ end_is (end_met s) _ ∙ sym ends_so;
          five = λ z. y (sym ends_so ∙ z);
        }

    pub not_read : {w : Here} → length s ≤ most_bytes → g ≡ Err w → Fault s w.place w.next
    not_read {w} h q =
        let v : Stands s w = subst (λ (o : Result Here Here). Stands s (left_at o)) q x.word in
        fault v h (λ z. five_at z v (stops_there (codes_in s) w.number (is_stopped whole_program s 0 most_levels q says)))

    module _ {w : Here} (q : g ≡ Ok w) where
      stands : Stands s w
      stands = subst (λ (o : Result Here Here). Stands s (left_at o)) q x.word

      read_to : ReadTo codes choice whole_program (codes_in s) 0 most_levels w.number
      read_to = is_read whole_program s 0 most_levels q says

      pub words-behind : length s ≤ most_bytes → ¬ (w.place ≡ length s) → Fault s w.place w.next
      words-behind h n = fault stands h (λ z. five_at z stands (some_read (codes_in s) w.number read_to (inside (codes_in s) w.number (λ e. n (at_end_lem z (sym e))))))
        where
          at_end_lem : end_met s ≡ None → 0 ≡ get_or (codes_in s) w.number 0 → w.place ≡ length s
          at_end_lem z e =
              stands.place
              ∙ get_or-eq_default (map (λ v. v.place) (words_in s)) (ends_at (end_met s) (length s)) (omega (arith, ended (words_in s) w.number (sym e), length-map (words_in s) code_of, length-map (words_in s) (λ v. v.place)))
              ∙ ap (λ (n : Option ℕ). ends_at n (length s)) z

      pub is_program : w.place ≡ length s → Checks s (program (words_in s))
      is_program p = go (ℕ_discrete w.kind 0)
        where
          at_end_lem : w.kind ≡ 0 → length (codes_in s) ≤ w.number
          at_end_lem z = ended (words_in s) w.number (sym stands.kind ∙ z)

          none : (n : Option ℕ) → end_met s ≡ n → ends_at n (length s) ≡ length s → end_met s ≡ None
          none None e z = e
          none (Some o) e z = let f = stop-inside s o (met-words (is_met s) (omega arith) ∙ ap (λ (n : Option ℕ). met.ended n (words_in s)) e) in absurd (omega arith)

          go : Dec (w.kind ≡ 0) → Checks s (program (words_in s))
          go (no n) = absurd (omega (arith, stands.low n, p))
          go (yes z) =
              let i : length (words_in s) ≤ w.number = omega (arith, at_end_lem z, length-map (words_in s) code_of) in
              let o = none (end_met s) refl (sym (stands.place ∙ get_or-eq_default (map (λ v. v.place) (words_in s)) (ends_at (end_met s) (length s)) (omega (arith, i, length-map (words_in s) (λ v. v.place)))) ∙ p) in
              fine (cut_words o) (known o sentence (all_read (codes_in s) w.number read_to (at_end_lem z)))
