-- What a text says, computed, and that it is what the text says; and that a text says one thing.
-- Assumes nothing.
use mathlib.Core.Bool.{Bool, true, false, cond}
use mathlib.Core.Path.{◌≡◌, refl, ap, subst}
use mathlib.Core.Logic.{inl, inr}
use mathlib.Core.List.{List}
use mathlib.Core.Option.{Option, none, some}
use Prim.Native.Nat.{ℕ, ◌≤◌}
use native.Mathlib.Omega.{arith}
use lib.Dec.{ltb}
use lib.ListN.{length, get_or}
use borrow.Author.Tests.{ltb-true, ltb-false}
use Rattle.ll1.specs.Grammar.{Sentence}
use Rattle.ll1.proofs.Parsed.{Parsed, parsed}
use Rattle.ll1.proofs.OneValue.{one_value}
use Rattle.meaning.specs.Unexpanded.{Unexpanded}
use Rattle.meaning.specs.Expansion.{expanded}
use Rattle.meaning.specs.Procedures.{fault_in}
use Rattle.meaning.specs.Faults.{Fault}
use Rattle.language.specs.Words.{Word, Words, words, Cut}
use Rattle.language.specs.Words as cut
use Rattle.language.specs.Scan.{words_of}
use Rattle.language.specs.Grammar.{csml, most_levels, whole_program, kinds, place_of, program, refuses, Checks, four, five}
use Rattle.language.specs.Grammar as grammar
use Rattle.language.specs.Trees.{Val, makes, no_word, source_of}
use Rattle.language.specs.Texts.{most_bytes, Reading, good, refused, Reads, long, text, tree, fine}
use Rattle.language.proofs.Cutting.{one_cut, words_cut}
use Rattle.language.proofs.Claims.{claims, passes, program-good}
use Rattle.language.proofs.Checking.{one-outcome, same-words}

-- ---- computed

-- the words of a program, with its tree; or where they are refused
abbrev pub ParsedWords : List Word → Type 0
ParsedWords ws = Parsed claims csml passes most_levels whole_program (kinds ws)

abbrev pub faulted : Unexpanded → Option Fault → Reading
faulted s none = good (expanded s)
faulted s (some f) = refused f.number f.place

abbrev pub parsed_reading : List ℕ → (ws : List Word) → ParsedWords ws → Reading
parsed_reading s ws (inl d) = faulted (source_of ws d) (fault_in (source_of ws d))
parsed_reading s ws (inr x) = refused 5 (place_of s ws x.0)

unfoldable pub words_reading : List ℕ → Words → Reading
words_reading s (cut.refused e) = refused 4 e
words_reading s (words ws) = parsed_reading s ws (parsed claims csml passes most_levels whole_program (kinds ws) program-good)

unfoldable pub reading_of : List ℕ → Reading
reading_of s = cond (ltb most_bytes (length s)) (refused 3 0) (words_reading s (words_of s))

-- ---- it is what the text says

faulted_right : (s : List ℕ) (ws : List Word) → length s ≤ most_bytes → Cut 0 s (words ws) → (d : Sentence csml most_levels whole_program (kinds ws)) (o : Option Fault) → fault_in (source_of ws d) ≡ o
    → Reads s (faulted (source_of ws d) o)
faulted_right s ws h x d none e = fine h x d e
faulted_right s ws h x d (some f) e = tree h x d e

parsed_right : (s : List ℕ) (ws : List Word) → length s ≤ most_bytes → Cut 0 s (words ws) → (p : ParsedWords ws) → Reads s (parsed_reading s ws p)
parsed_right s ws h x (inl d) = faulted_right s ws h x d (fault_in (source_of ws d)) refl
parsed_right s ws h x (inr y) = text h (five x y.1)

words_right : (s : List ℕ) (r : Words) → length s ≤ most_bytes → Cut 0 s r → Reads s (words_reading s r)
unfolding words_reading
words_right s (cut.refused e) h x = text h (four x)
words_right s (words ws) h x = parsed_right s ws h x (parsed claims csml passes most_levels whole_program (kinds ws) program-good)

pub reading-right : (s : List ℕ) → Reads s (reading_of s)
unfolding reading_of
reading-right s = go (ltb most_bytes (length s)) refl
  where
    go : (b : Bool) → ltb most_bytes (length s) ≡ b → Reads s (cond b (refused 3 0) (words_reading s (words_of s)))
    go true e = long (ltb-true most_bytes (length s) e)
    go false e = words_right s (words_of s) (ltb-false most_bytes (length s) e) (words_cut s)

-- ---- a text says one thing

-- any derivation gives the same tree
pub one-source : (ws vs : List Word) (d : Sentence csml most_levels whole_program (kinds ws)) (e : Sentence csml most_levels whole_program (kinds vs)) → ws ≡ vs → source_of ws d ≡ source_of vs e
one-source ws vs d e same = subst (λ (l : List Word). (x : Sentence csml most_levels whole_program (kinds l)) → source_of ws d ≡ source_of l x) same alike e
  where
    alike : (x : Sentence csml most_levels whole_program (kinds ws)) → source_of ws d ≡ source_of ws x
    alike x = ap (λ v. v.0) (one_value Word Val claims csml passes makes (λ m. get_or ws m no_word) d.1 x.1 program-good d.2 x.2 0)

not_program : {A : Type 0} (s : List ℕ) (ws : List Word) (number place : ℕ) → Checks s (refuses number place) → Cut 0 s (words ws) → Sentence csml most_levels whole_program (kinds ws) → A
not_program s ws number place c x d =
    let e : refuses number place ≡ program ws = one-outcome s c (grammar.fine x d) in
    let z : ◌≡◌ {A = ℕ} 0 1 = cc in
    absurd (omega arith)

same-fault : (s t : Unexpanded) (f g : Fault) → s ≡ t → fault_in s ≡ some f → fault_in t ≡ some g → f ≡ g
same-fault s t f g e p q = cc

no_fault : {A : Type 0} (s t : Unexpanded) (f : Fault) → s ≡ t → fault_in s ≡ some f → fault_in t ≡ none → A
no_fault s t f e p q = let z : ◌≡◌ {A = ℕ} 0 1 = cc in absurd (omega arith)

same-refusal : (m n p q : ℕ) → refuses m p ≡ refuses n q → refused m p ≡ refused n q
same-refusal m n p q e = cc

pub one-reads : (s : List ℕ) {r q : Reading} → Reads s r → Reads s q → r ≡ q
one-reads s (long h) (long g) = refl
one-reads s (long h) (text g c) = absurd (omega arith)
one-reads s (long h) (tree g x d e) = absurd (omega arith)
one-reads s (long h) (fine g x d e) = absurd (omega arith)
one-reads s (text h c) (long g) = absurd (omega arith)
one-reads s (text {number = m} {place = p} h c) (text {number = n} {place = q} g b) = same-refusal m n p q (one-outcome s c b)
one-reads s (text {number = m} {place = p} h c) (tree {ws = ws} g x d e) = not_program s ws m p c x d
one-reads s (text {number = m} {place = p} h c) (fine {ws = ws} g x d e) = not_program s ws m p c x d
one-reads s (tree h x d e) (long g) = absurd (omega arith)
one-reads s (tree {ws = ws} h x d e) (text {number = m} {place = p} g c) = not_program s ws m p c x d
one-reads s (tree {ws = ws} {f = f} h x d e) (tree {ws = vs} {f = g} k y b a) =
    ap (λ (v : Fault). refused v.number v.place) (same-fault (source_of ws d) (source_of vs b) f g (one-source ws vs d b (same-words ws vs (one_cut x y))) e a)
one-reads s (tree {ws = ws} {f = f} h x d e) (fine {ws = vs} k y b a) = no_fault (source_of ws d) (source_of vs b) f (one-source ws vs d b (same-words ws vs (one_cut x y))) e a
one-reads s (fine h x d e) (long g) = absurd (omega arith)
one-reads s (fine {ws = ws} h x d e) (text {number = m} {place = p} g c) = not_program s ws m p c x d
one-reads s (fine {ws = ws} h x d e) (tree {ws = vs} {f = f} k y b a) = no_fault (source_of vs b) (source_of ws d) f (one-source vs ws b d (same-words vs ws (one_cut y x))) a e
one-reads s (fine {ws = ws} h x d e) (fine {ws = vs} k y b a) = ap (λ (v : Unexpanded). good (expanded v)) (one-source ws vs d b (same-words ws vs (one_cut x y)))
