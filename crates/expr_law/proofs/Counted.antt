-- The parts that the sum of an expression counts are those of the definition, and its 9 stands at the least of those too many.
-- Assumes nothing.
use mathlib.Core.Bool.{Bool, true, false, cond}
use mathlib.Core.Path.{◌≡◌, refl, sym, ◌∙◌, ap}
use mathlib.Core.List.{List, [], ◌∷◌, ◌++◌, map}
use mathlib.Core.Option.{Option}
use Prim.Native.Nat.{ℕ, zero, suc, ◌+◌, ◌-◌, ◌≤◌, min}
use native.Mathlib.Omega.{arith}
use lib.Dec.{ltb}
use lib.ListN.{length, length-map, drop}
use borrow.Author.Tests.{lt-ltb, ltb-true, ltb-false}
use Rattle.meaning.specs.Tree.{Expr, literal, truth, variable, bit, not, int, arithmetic, comparison, logic}
use Rattle.meaning.specs.Numbers.{Variable}
use Rattle.meaning.specs.Items.{within, place_of}
use Rattle.meaning.specs.Sizes.{most_parts}
use Rattle.meaning.specs.Faults.{least}
use Rattle.language.specs.Trees.{Name}
use Rattle.parts.specs.declared.Notes.{Notes}
use Rattle.parts.specs.Sum.{sum, counted, at_six, at_seven, at_ten, leaf_sum, around_sum, join_sum}

abbrev pub up : ℕ → ℕ
up c = cond (ltb c most_parts) (c + 1) c

unfoldable pub parts_all : ℕ → List ℕ → ℕ
parts_all c [] = c
parts_all c (p ∷ l) = parts_all (up c) l

unfoldable pub nine_all : ℕ → ℕ → List ℕ → ℕ
nine_all c x [] = x
nine_all c x (p ∷ l) = nine_all (up c) (cond (ltb c most_parts) x (min x p)) l

pub up_more : (c : ℕ) → c ≤ up c
up_more c = go (ltb c most_parts)
  where
    go : (b : Bool) → c ≤ cond b (c + 1) c
    go true = omega arith
    go false = omega arith

pub up_most : (c : ℕ) → up c ≤ c + 1
up_most c = go (ltb c most_parts)
  where
    go : (b : Bool) → cond b (c + 1) c ≤ c + 1
    go true = omega arith
    go false = omega arith

all_more : (c : ℕ) (l : List ℕ) → c ≤ parts_all c l
unfolding parts_all
all_more c [] = omega arith
all_more c (p ∷ l) = omega (arith, up_more c, all_more (up c) l)

all_most : (c : ℕ) (l : List ℕ) → parts_all c l ≤ c + length l
unfolding parts_all
all_most c [] = omega arith
all_most c (p ∷ l) = omega (arith, up_most c, all_most (up c) l)

all_fit : (c : ℕ) (l : List ℕ) → c + length l ≤ most_parts → parts_all c l ≡ c + length l
unfolding parts_all
all_fit c [] h = omega arith
all_fit c (p ∷ l) h = ap (λ (k : ℕ). parts_all k l) (ap (λ (b : Bool). cond b (c + 1) c) (lt-ltb c most_parts (omega arith))) ∙ all_fit (c + 1) l (omega arith) ∙ omega arith

parts-append : (c : ℕ) (a b : List ℕ) → parts_all c (a ++ b) ≡ parts_all (parts_all c a) b
unfolding parts_all
parts-append c [] b = refl
parts-append c (p ∷ a) b = parts-append (up c) a b

nine-append : (c x : ℕ) (a b : List ℕ) → nine_all c x (a ++ b) ≡ nine_all (parts_all c a) (nine_all c x a) b
unfolding parts_all nine_all
nine-append c x [] b = refl
nine-append c x (p ∷ a) b = nine-append (up c) (cond (ltb c most_parts) x (min x p)) a b

map-between : (a : List (Expr Name)) (x : Expr Name) (b : List (Expr Name)) → map place_of (a ++ (x ∷ b)) ≡ map place_of a ++ (place_of x ∷ map place_of b)
map-between [] x b = refl
map-between (y ∷ a) x b = ap (λ (l : List ℕ). place_of y ∷ l) (map-between a x b)

abbrev places : Expr Name → List ℕ
places e = map place_of (within e)

-- nothing is written past the parts that there may be
pub nine-least : (c x : ℕ) (l : List ℕ) → c ≤ most_parts → nine_all c x l ≡ least x (drop (most_parts - c) l)
unfolding nine_all least
nine-least c x [] h = go (most_parts - c)
  where
    go : (k : ℕ) → x ≡ least x (drop k [])
    go zero = refl
    go (suc k) = refl
nine-least c x (p ∷ l) h = go (ltb c most_parts) refl (λ g. nine-least (c + 1) x l g) (nine-least c (min x p) l h)
  where
    dropped : (k j : ℕ) → k ≡ suc j → least x (drop j l) ≡ least x (drop k (p ∷ l))
    dropped zero j e = absurd (omega arith)
    dropped (suc k) j e = let q : k ≡ j = omega arith in rw q refl

    none_left_lem : (k : ℕ) → k ≡ 0 → least (min x p) (drop k l) ≡ least x (drop k (p ∷ l))
    none_left_lem zero e = refl
    none_left_lem (suc k) e = absurd (omega arith)

    go : (b : Bool) → ltb c most_parts ≡ b → (c + 1 ≤ most_parts → nine_all (c + 1) x l ≡ least x (drop (most_parts - (c + 1)) l)) → nine_all c (min x p) l ≡ least (min x p) (drop (most_parts - c) l)
        → nine_all (cond b (c + 1) c) (cond b x (min x p)) l ≡ least x (drop (most_parts - c) (p ∷ l))
    go true e f g = let k = ltb-true c most_parts e in f (omega arith) ∙ dropped (most_parts - c) (most_parts - (c + 1)) (omega arith)
    go false e f g = let k = ltb-false c most_parts e in g ∙ none_left_lem (most_parts - c) (omega arith)

module _ (look : List ℕ → Option Variable) where
  parts-joined : (x a b : Expr Name) (c i j : ℕ) → i ≡ parts_all c (places a) → j ≡ parts_all (up i) (places b) → j ≡ parts_all c (map place_of (within a ++ (x ∷ within b)))
  unfolding parts_all
  parts-joined x a b c i j e f = f ∙ ap (λ (k : ℕ). parts_all (up k) (places b)) e ∙ sym (parts-append c (places a) (place_of x ∷ places b)) ∙ ap (parts_all c) (sym (map-between (within a) x (within b)))

  nine-joined : (x a b : Expr Name) (c n i k j : ℕ) → i ≡ parts_all c (places a) → k ≡ nine_all c n (places a) → j ≡ nine_all (up i) (cond (ltb i most_parts) k (min k (place_of x))) (places b)
      → j ≡ nine_all c n (map place_of (within a ++ (x ∷ within b)))
  unfolding nine_all
  nine-joined x a b c n i k j e g f =
      f ∙ ap (λ (q : ℕ). nine_all (up q) (cond (ltb q most_parts) k (min k (place_of x))) (places b)) e ∙ ap (λ (q : ℕ). nine_all (parts_all c (places a)) q (place_of x ∷ places b)) g
      ∙ sym (nine-append c n (places a) (place_of x ∷ places b)) ∙ ap (nine_all c n) (sym (map-between (within a) x (within b)))

  pub parts_are : (e : Expr Name) (n : Notes) (t : List ℕ) → (sum look e n t).notes.parts ≡ parts_all n.parts (places e)
  unfolding sum leaf_sum around_sum join_sum counted at_six at_seven at_ten within parts_all
  parts_are (literal p x) n t = refl
  parts_are (truth p b) n t = refl
  parts_are (variable v) n t = refl
  parts_are (bit v j) n t = refl
  parts_are (not p e) n t = parts_are e (counted n p) t
  parts_are (int p e) n t = parts_are e (counted n p) t
  parts_are (arithmetic o p a b) n t = parts-joined (arithmetic o p a b) a b n.parts _ _ (parts_are a n t) (parts_are b (counted (sum look a n t).notes p) (sum look a n t).bytes)
  parts_are (comparison o p a b) n t = parts-joined (comparison o p a b) a b n.parts _ _ (parts_are a n t) (parts_are b (counted (sum look a n t).notes p) (sum look a n t).bytes)
  parts_are (logic o p a b) n t = parts-joined (logic o p a b) a b n.parts _ _ (parts_are a n t) (parts_are b (counted (sum look a n t).notes p) (sum look a n t).bytes)

  -- the parts are counted one by one while they fit, and never more than there are
  pub parts_more : (e : Expr Name) (n : Notes) (t : List ℕ) → n.parts ≤ (sum look e n t).notes.parts
  parts_more e n t = omega (arith, parts_are e n t, all_more n.parts (places e))

  pub parts-most : (e : Expr Name) (n : Notes) (t : List ℕ) → (sum look e n t).notes.parts ≤ n.parts + length (within e)
  parts-most e n t = omega (arith, parts_are e n t, all_most n.parts (places e), length-map (within e) place_of)

  pub parts_fit : (e : Expr Name) (n : Notes) (t : List ℕ) → n.parts + length (within e) ≤ most_parts → (sum look e n t).notes.parts ≡ n.parts + length (within e)
  parts_fit e n t h = let l = length-map (within e) place_of in parts_are e n t ∙ all_fit n.parts (places e) (omega arith) ∙ omega arith

  pub nine_are : (e : Expr Name) (n : Notes) (t : List ℕ) → (sum look e n t).notes.nine ≡ nine_all n.parts n.nine (places e)
  unfolding sum leaf_sum around_sum join_sum counted at_six at_seven at_ten within nine_all
  nine_are (literal p x) n t = refl
  nine_are (truth p b) n t = refl
  nine_are (variable v) n t = refl
  nine_are (bit v j) n t = refl
  nine_are (not p e) n t = nine_are e (counted n p) t
  nine_are (int p e) n t = nine_are e (counted n p) t
  nine_are (arithmetic o p a b) n t = nine-joined (arithmetic o p a b) a b n.parts n.nine _ _ _ (parts_are a n t) (nine_are a n t) (nine_are b (counted (sum look a n t).notes p) (sum look a n t).bytes)
  nine_are (comparison o p a b) n t = nine-joined (comparison o p a b) a b n.parts n.nine _ _ _ (parts_are a n t) (nine_are a n t) (nine_are b (counted (sum look a n t).notes p) (sum look a n t).bytes)
  nine_are (logic o p a b) n t = nine-joined (logic o p a b) a b n.parts n.nine _ _ _ (parts_are a n t) (nine_are a n t) (nine_are b (counted (sum look a n t).notes p) (sum look a n t).bytes)

  -- "the first .. part too many"
  pub nine_is : (e : Expr Name) (n : Notes) (t : List ℕ) → n.parts ≤ most_parts → (sum look e n t).notes.nine ≡ least n.nine (drop (most_parts - n.parts) (places e))
  nine_is e n t h = nine_are e n t ∙ nine-least n.parts n.nine (places e) h
