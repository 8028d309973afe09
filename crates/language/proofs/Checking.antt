-- Every text is a program or is refused with 4 or 5 at a place, and there is one such outcome; it can be computed.
-- Assumes nothing.
use mathlib.Core.Path.{◌≡◌, sym, ◌∙◌, ap, subst}
use mathlib.Core.List.{List, []}
use Prim.Native.Nat.{ℕ, suc, ◌<◌}
use native.Mathlib.Omega.{arith}
use lib.ListN.{length, take}
use mathlib.Core.Logic.{◌⊎◌}
use Rattle.ll1.specs.Grammar.{Read, sentence, refused, Reads, Continues, TooDeep, Answers}
use Rattle.ll1.proofs.Parser.{Answer, run}
use Rattle.ll1.proofs.Ends.{Done}
use Rattle.ll1.proofs.Whole.{continues}
use Rattle.ll1.proofs.Answered.{answer_of, computed, answered, one_answer, one_derivation}
use Rattle.language.specs.Words.{Kind, Word, Words, words, Cut}
use Rattle.language.specs.Words as cut
use Rattle.language.specs.Scan.{words_of}
use Rattle.language.specs.Grammar.{csml, most_levels, whole_program, kinds, place_of, Outcome, program, refuses, Checks, four, five, fine}
use Rattle.language.proofs.Cutting.{one_cut, words_cut}
use Rattle.language.proofs.Claims.{claims, passes, program-good}

-- the language's own: each list of kinds of words has one answer, and a program one derivation
pub reading : (ks : List Kind) → (r : Read) × Answers csml most_levels whole_program ks r
reading ks = answered claims csml passes most_levels whole_program ks program-good

pub one-reading : (ks : List Kind) (r q : Read) → Answers csml most_levels whole_program ks r → Answers csml most_levels whole_program ks q → r ≡ q
one-reading = one_answer claims csml passes most_levels whole_program

-- what stands before a refusal can be continued to a program, and with what stands there none can be, or it opens level 33
pub before_continues : (ks : List Kind) (e : ℕ) → Answers csml most_levels whole_program ks (refused e) → Continues csml whole_program (take e ks)
before_continues ks e x = continues csml claims passes most_levels whole_program (take e ks) x.before

pub here_not : (ks : List Kind) (e : ℕ) → Answers csml most_levels whole_program ks (refused e) → e < length ks
    → (¬ (Continues csml whole_program (take (suc e) ks))) ⊎ TooDeep csml most_levels whole_program (take (suc e) ks)
here_not ks e x h = x.here h

pub one-tree : (j l : ℕ) (ks : List Kind) (d e : List ℕ) → Reads csml j [] most_levels whole_program ks d → Reads csml l [] most_levels whole_program ks e → d ≡ e
one-tree j l ks d e x y = one_derivation claims csml passes j l program-good x y

-- ---- one outcome

apart : {A : Type 0} (e : ℕ) (ws : List Word) → words ws ≡ cut.refused e → A
apart e ws p = let z : ◌≡◌ {A = ℕ} 0 1 = cc in absurd (omega arith)

pub same-words : (ws vs : List Word) → words ws ≡ words vs → ws ≡ vs
same-words ws vs p = cc

same_place : (e f : ℕ) → cut.refused e ≡ cut.refused f → e ≡ f
same_place e f p = cc

not_refused : {A : Type 0} (e : ℕ) → sentence ≡ refused e → A
not_refused e p = let z : ◌≡◌ {A = ℕ} 0 1 = cc in absurd (omega arith)

same_number : (e f : ℕ) → refused e ≡ refused f → e ≡ f
same_number e f p = cc

pub one-outcome : (s : List ℕ) {o q : Outcome} → Checks s o → Checks s q → o ≡ q
one-outcome s (four {e = e} x) (four {e = f} y) = ap (refuses 4) (same_place e f (one_cut x y))
one-outcome s (four {e = e} x) (five {ws = ws} y b) = apart e ws (one_cut y x)
one-outcome s (four {e = e} x) (fine {ws = ws} y b) = apart e ws (one_cut y x)
one-outcome s (five {ws = ws} x a) (four {e = e} y) = apart e ws (one_cut x y)
one-outcome s (five {ws = ws} {e = e} x a) (five {ws = vs} {e = f} y b) =
    let same : vs ≡ ws = same-words vs ws (one_cut y x) in
    let b₁ : Answers csml most_levels whole_program (kinds ws) (refused f) = subst (λ (l : List Word). Answers csml most_levels whole_program (kinds l) (refused f)) same b in
    let number : e ≡ f = same_number e f (one-reading (kinds ws) (refused e) (refused f) a b₁) in
    ap (λ (i : ℕ). refuses 5 (place_of s ws i)) number ∙ ap (λ (l : List Word). refuses 5 (place_of s l f)) (sym same)
one-outcome s (five {ws = ws} {e = e} x a) (fine {ws = vs} y b) =
    not_refused e (one-reading (kinds ws) sentence (refused e) (subst (λ (l : List Word). Answers csml most_levels whole_program (kinds l) sentence) (same-words vs ws (one_cut y x)) b) a)
one-outcome s (fine {ws = ws} x a) (four {e = e} y) = apart e ws (one_cut x y)
one-outcome s (fine {ws = ws} x a) (five {ws = vs} {e = f} y b) =
    not_refused f (one-reading (kinds ws) sentence (refused f) a (subst (λ (l : List Word). Answers csml most_levels whole_program (kinds l) (refused f)) (same-words vs ws (one_cut y x)) b))
one-outcome s (fine {ws = ws} x a) (fine {ws = vs} y b) = ap program (same-words ws vs (one_cut x y))

-- ---- there is one

abbrev outcome_of : List ℕ → List Word → Read → Outcome
outcome_of s ws sentence = program ws
outcome_of s ws (refused e) = refuses 5 (place_of s ws e)

checked : (s : List ℕ) (ws : List Word) → Cut 0 s (words ws) → (r : Read) → Answers csml most_levels whole_program (kinds ws) r → Checks s (outcome_of s ws r)
checked s ws x sentence a = fine x a
checked s ws x (refused e) a = five x a

pub some-outcome : (s : List ℕ) → (o : Outcome) × Checks s o
some-outcome s = go (words_of s) (words_cut s)
  where
    go : (r : Words) → Cut 0 s r → (o : Outcome) × Checks s o
    go (words ws) x = let (r, a) = reading (kinds ws) in (outcome_of s ws r, checked s ws x r a)
    go (cut.refused e) x = (refuses 4 e, four x)

-- ---- computed, with f steps for the grammar

abbrev pub runs : ℕ → List Word → Answer Kind
runs f ws = run claims csml f most_levels whole_program (kinds ws)

abbrev pub outcome_by : ℕ → List ℕ → Words → Outcome
outcome_by f s (words ws) = outcome_of s ws (answer_of claims csml passes most_levels whole_program (kinds ws) (runs f ws))
outcome_by f s (cut.refused e) = refuses 4 e

abbrev pub Enough : ℕ → Words → Type 0
Enough f (words ws) = Done (runs f ws)
Enough f (cut.refused e) = Unit

pub shows : (f : ℕ) (s : List ℕ) → Enough f (words_of s) → Checks s (outcome_by f s (words_of s))
shows f s d = go (words_of s) (words_cut s) d
  where
    go : (r : Words) → Cut 0 s r → Enough f r → Checks s (outcome_by f s r)
    go (words ws) x d = checked s ws x (answer_of claims csml passes most_levels whole_program (kinds ws) (runs f ws)) (computed claims csml passes most_levels whole_program f (kinds ws) program-good d)
    go (cut.refused e) x d = four x
