-- Every refusal of a text stands at a place of the text, or at its end.
-- Assumes nothing.
use mathlib.Core.Path.{◌≡◌, ap, subst}
use mathlib.Core.List.{List, [], ◌∷◌, ◌++◌, map}
use mathlib.Core.Option.{Option, none, some, some-injective, none-ne-some}
use Prim.Native.Nat.{ℕ, zero, suc, ◌+◌, ◌≤◌, min}
use native.Mathlib.Omega.{arith}
use lib.ListN.{length, get_or, length-drop}
use Rattle.meaning.specs.Faults.{Fault, least, earliest}
use Rattle.meaning.specs.Names.{again_from, name_faults}
use Rattle.meaning.specs.Kinds.{kind_faults}
use Rattle.meaning.specs.Jumps.{jump_faults}
use Rattle.meaning.specs.Sizes.{size_faults}
use Rattle.meaning.specs.Worst.{worst_faults}
use Rattle.meaning.specs.Unexpanded.{Unexpanded}
use Rattle.meaning.specs.Expansion.{expanded_body, expanded}
use Rattle.meaning.specs.Procedures.{added_names, added_sizes, fault_in}
use Rattle.language.specs.Words.{Word, Words, words, refused as stopped, before, Cut, ends, skips, takes, large, strange}
use Rattle.language.specs.Grammar.{refuses, Checks, four, five}
use Rattle.language.specs.Trees.{source_of}
use Rattle.language.specs.Texts.{most_bytes, refused, Reads, long, text, tree}
use Rattle.kept_law.specs.Kept.{Every, Near, LowWord, KeptProgram}
use Rattle.kept_law.proofs.Words.{words-low}
use Rattle.kept_law.proofs.Texts.{program-kept}
use Rattle.kept_law.proofs.Expanded.{expanded-kept, variables_kept}
use Rattle.places_law.specs.Places.{Low, LowAll}
use Rattle.places_law.proofs.Trees.{base-low}
use Rattle.places_law.proofs.Lists.{low-append, six_low, seven_low, eight-low, nine-low, ten_low}
use Rattle.places_law.proofs.Added.{names-low, sizes-low}
use Rattle.places_law.proofs.Declared.{low_again, low-sizes}

-- ---- 4 and 5

abbrev Within : ℕ → Words → Type 0
Within m (words ws) = Unit
Within m (stopped e) = e ≤ m

put : (m : ℕ) (w : Word) (q : Words) → Within m q → Within m (before w q)
put m w (words ws) x = tt
put m w (stopped e) x = x

cut_near : {at : ℕ} {l : List ℕ} {r : Words} → Cut at l r → (m : ℕ) → at + length l ≤ m → Within m r
cut_near ends m h = tt
cut_near (skips e x) m h = cut_near x m (omega arith)
cut_near (takes {l = l} {q = q} n x f y e) m h = rw e (put m _ q (cut_near y m (omega (arith, x.inside, length-drop n l))))
cut_near (large n x f) m h = omega arith
cut_near (strange b x) m h = omega arith

word-near : (ws : List Word) → Every LowWord ws → (e n : ℕ) → Near n → Near (get_or (map (λ (w : Word). w.place) ws) e n)
word-near [] x e n h = h
word-near (w ∷ ws) (l, x) zero n h = l.0
word-near (w ∷ ws) (l, x) (suc e) n h = word-near ws x e n h

text-near : {s : List ℕ} {number place : ℕ} → length s ≤ most_bytes → Checks s (refuses number place) → Near place
text-near h (four x) = cut_near x most_bytes (omega arith)
text-near {s} h (five {ws = ws} {e = e} x a) = word-near ws (words-low s ws h x) e (length s) h

-- ---- 6 to 10

least-near : (p : ℕ) (ps : List ℕ) → Near p → Near (least p ps)
unfolding least
least-near p [] h = h
least-near p (q ∷ ps) h = least-near (min p q) ps (omega arith)

near : (number : ℕ) (places : List ℕ) → Low places → (next : Option Fault) (f : Fault) → (next ≡ some f → Near f.place) → earliest number places next ≡ some f → Near f.place
near number [] l next f k e = k e
near number (p ∷ ps) (h, l) next f k e =
    subst Near (ap (λ (g : Fault). g.place) (some-injective (record { number = number; place = least p ps }) f e)) (least-near p ps h)

tree-near : (w : Unexpanded) (f : Fault) → KeptProgram w → fault_in w ≡ some f → Near f.place
unfolding fault_in name_faults size_faults expanded
tree-near w f k e =
    let s = expanded w in
    let d = variables_kept w.declared k.declared in
    let b : LowAll s.body = base-low (expanded_body w) (expanded-kept w k) in
    let worst = earliest 10 (worst_faults s) none in
    let size = earliest 9 (added_sizes w ++ size_faults s) worst in
    let jump = earliest 8 (jump_faults s) size in
    let kind = earliest 7 (kind_faults s) jump in
    near 6 (added_names w ++ name_faults s) (low-append (added_names w) _ (names-low w k) (low-append (again_from [] s.declared) _ (low_again [] s.declared d) (six_low s b))) kind f (
    near 7 (kind_faults s) (seven_low s b) jump f (
    near 8 (jump_faults s) (eight-low s b) size f (
    near 9 (added_sizes w ++ size_faults s) (low-append (added_sizes w) _ (sizes-low w k) (low-sizes s.declared d _ (nine-low s b))) worst f (
    near 10 (worst_faults s) (ten_low s b) none f (λ x. absurd (none-ne-some f x))
    )))) e

-- the place of a refusal of any text
pub place-near : {s : List ℕ} {number place : ℕ} → Reads s (refused number place) → place ≤ most_bytes
place-near (long h) = omega arith
place-near (text h c) = text-near h c
place-near {s} (tree {ws = ws} {f = f} h x d e) =
    tree-near (source_of ws d) f (program-kept ws d (words-low s ws h x)) e
