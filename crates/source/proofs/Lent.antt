-- The lent area: a part of it given back, and what stays of the tree.
-- Assumes nothing.
use mathlib.Core.Path.{◌≡◌, sym, ◌∙◌, ap, subst}
use mathlib.Core.Bool.{Bool}
use mathlib.Core.List.{List, [], ◌++◌, append-nil}
use Prim.Native.Nat.{ℕ, ◌+◌, ◌-◌, ◌≤◌, ◌<◌}
use native.Mathlib.Omega.{arith}
use Rattle.std.specs.Prelude.{Result, Ok}
use Rattle.refusals.specs.declared.Refusal.{Refusal}
use lib.ListN.{length, get_or, take, drop, replicate, length-drop, length-append, get_or-append, drop_of_length-le}
use Rattle.std.proofs.lemmas.List.{length-replicate, get_or-replicate}
use lib.Seq.{take_at, drop_at, get_or-take, get_or-drop, length-take-le}
use Rattle.decls.specs.declared.Read.{Read}
use Rattle.decls.specs.Came.{Came}
use Rattle.parts.specs.Beside.{tree_bytes, beside}
use Rattle.parts.proofs.Beside.{same_size, whole-rest}
use Rattle.hand.specs.declared.Here.{Here}
use Rattle.grammar.specs.Meaning.{Says}
use Rattle.items.specs.declared.Marks.{Marks}
use Rattle.items.specs.declared.Read as items
use Rattle.items.specs.Came.{All}
use Rattle.stored.specs.Stored.{Stored}
use Rattle.frames.specs.declared.Under.{Under}
use Rattle.wides.specs.Fill.{FilledBehind}
use Rattle.source.specs.Area.{tree_of, Listed, Prepared}
use Rattle.source.specs.Says.{ReadDone}
use Rattle.source.specs.declared.Program.{Program}
use Rattle.told_law.proofs.Entered.{Entered, program_entered}

-- a part from n on comes back as ys
module _ (n : ℕ) (xs ys : List ℕ) (h : n ≤ length xs) where
  abbrev pub back : List ℕ
  back = take n xs ++ (ys ++ drop (length xs - n) (drop n xs))

  back_is : back ≡ take n xs ++ ys
  back_is =
      let none_left : drop (length xs - n) (drop n xs) ≡ [] = drop_of_length-le (drop n xs) {i = length xs - n} (omega (arith, length-drop n xs)) in
      ap (λ (l : List ℕ). take n xs ++ (ys ++ l)) none_left ∙ ap (λ (l : List ℕ). take n xs ++ l) (append-nil ys)

  pub back-rest : drop n back ≡ ys
  back-rest = ap (drop n) back_is ∙ drop_at (take n xs) ys n (length-take-le n xs h)

  back-front : take n back ≡ take n xs
  back-front = ap (take n) back_is ∙ take_at (take n xs) ys n (length-take-le n xs h)

  pub back_long : length ys ≡ length (drop n xs) → length back ≡ length xs
  back_long e = ap length back_is ∙ omega (arith, length-append (take n xs) ys, length-take-le n xs h, e, length-drop n xs)

  pub listed_back : {s : List ℕ} {r : Read} → Came s (take (length xs - n) (drop n xs)) ys r → Listed n s xs back r
  listed_back {s} {r} c = let whole : Came s (drop n xs) ys r = rw (whole-rest n xs) at c in record { came = rw back-rest whole; front = back-front; long = back_long whole.long }

-- the first 32,768 bytes cleared
pub cleared : (t x : List ℕ) → 32768 ≤ length t → x ≡ replicate (length (take 32768 t)) 0 → (length (x ++ drop 32768 t) ≡ length t) × ((i : ℕ) → i < 32768 → get_or (x ++ drop 32768 t) i 0 ≡ 0)
cleared t x h e =
    let long : length (take 32768 t) ≡ 32768 = length-take-le 32768 t h in
    let all : length x ≡ 32768 = ap length e ∙ length-replicate (length (take 32768 t)) 0 ∙ long in
    (omega (arith, length-append x (drop 32768 t), length-drop 32768 t), λ i g. get_or-append x (drop 32768 t) 0 i (omega arith) ∙ ap (λ (l : List ℕ). get_or l i 0) e ∙ get_or-replicate (length (take 32768 t)) i 0 0 (omega arith))

pub tree_at : (t : List ℕ) (q : ℕ) → q < tree_bytes → get_or (tree_of t) q 0 ≡ get_or t q 0
unfolding tree_of
tree_at t q h = get_or-take tree_bytes t q 0 h

names-long : (t : List ℕ) → length (beside t).names ≡ length t - tree_bytes
unfolding beside
names-long t = length-drop tree_bytes t

name_at_lem : (t : List ℕ) (j : ℕ) → get_or (beside t).names j 0 ≡ get_or t (tree_bytes + j) 0
unfolding beside
name_at_lem t j = get_or-drop tree_bytes t j 0

-- the area cleared, the names listed, the activities filled in
pub prepared : {s t a b u : List ℕ} {r : Read} → 32768 ≤ length t → length a ≡ length t → ((i : ℕ) → i < 32768 → get_or a i 0 ≡ 0) → Listed tree_bytes s a b r
    → FilledBehind s b u r.procedures → Prepared s t u r
unfolding tree_of beside
prepared {s} {t} {a} {b} {u} {r} room same zeros x y =
    record {
      before = (beside a).names;
      listed = (beside b).names;
      room = omega (arith, names-long a, room, same);
      clear = λ j h. name_at_lem a j ∙ zeros (tree_bytes + j) (omega (arith, h));
      came = x.came;
      fills = y.rows.fills;
      filled = y.rows.filled;
      zeros = λ q h. sym (tree_at u q (omega (arith, h))) ∙ ap (λ (l : List ℕ). get_or l q 0) (y.tree ∙ x.front) ∙ tree_at a q (omega (arith, h)) ∙ zeros q (omega (arith, h));
      long = y.long ∙ x.long ∙ same;
    }

pub area_entered : {s t u : List ℕ} {r : Read} → Says s (Ok tt) → (x : Prepared s t u r) → Entered s x.before x.listed r
area_entered says x = program_entered x.room says x.came

-- the number of bytes stays
pub all-long : {s z : List ℕ} {count : ℕ} {under : Under} {k : ℕ} {l b : Bool} {h : Here} {m : Marks} {t u : List ℕ} {r : items.Read} → All s z count under k l b h m t u r → length u ≡ length t
unfolding beside
all-long x = same_size x.on.kept

-- ---- a program that was read

pub good-stored : (source area : List ℕ) (t : Result Program (Refusal ℕ)) {p : Program} → ReadDone source area t → t ≡ Ok p → Stored source (tree_of area) p.n p.inputs p.outputs p.word
good-stored source area t d e = subst (ReadDone source area) e d

-- .. its tree copied
pub good_copied : (source area : List ℕ) (t : Result Program (Refusal ℕ)) {tree : List ℕ} {p : Program} → ReadDone source area t → t ≡ Ok p → tree ≡ tree_of area → Stored source tree p.n p.inputs p.outputs p.word
good_copied source area t {p = p} d e q = subst (λ (x : List ℕ). Stored source x p.n p.inputs p.outputs p.word) (sym q) (good-stored source area t d e)
