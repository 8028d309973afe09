-- Which row of a part the word in hand calls for: by one computed test over the kinds of words.
-- Assumes nothing.
use mathlib.Core.Bool.{Bool, true, false, ◌&&◌}
use mathlib.Core.Path.{◌≡◌, refl, sym, ◌∙◌, ap}
use mathlib.Core.List.{List, [], ◌∷◌, cons≢nil}
use mathlib.Core.Option.{Option, none, some}
use Prim.Native.Nat.{ℕ, zero, suc, ◌<◌}
use native.Mathlib.Omega.{arith}
use native.Mathlib.Decide.{dec_lt}
use lib.Dec.{eqb}
use borrow.Author.Tests.{eqb-true}
use Rattle.ll1.proofs.Tests.{has, begin_row, pick}
use Rattle.ll1.proofs.Sets.{clash, and_left, and_right}
use Rattle.language.specs.Words.{Word}
use Rattle.language.specs.Grammar.{Part, binding, csml}
use Rattle.language.proofs.EveryPart.{every-part}
use Rattle.language.proofs.Claims.{claims, first, empty, follow}
use Rattle.words.specs.Kinds.{numbered, kind_count}
use Rattle.descent_law.specs.Told.{Called}
use Rattle.hand.specs.declared.Here.{Here}
use Rattle.hand.specs.Along.{Stands}

unfoldable pub up_to : (ℕ → Bool) → ℕ → Bool
up_to f zero = true
up_to f (suc n) = f n && up_to f n

pub up_to_lem : (f : ℕ → Bool) (n k : ℕ) → up_to f n ≡ true → k < n → f k ≡ true
unfolding up_to
up_to_lem f zero k e h = absurd (omega arith)
up_to_lem f (suc n) k e h = go (λ g. up_to_lem f n k (and_right (f n) (up_to f n) e) g) (dec_lt k n)
  where
    go : (k < n → f k ≡ true) → Dec (k < n) → f k ≡ true
    go q (yes g) = q g
    go p (no g) = let q : k ≡ n = omega arith in rw q (and_left (f n) (up_to f n) e)

is_none : Option ℕ → Bool
is_none none = true
is_none (some i) = false

at_end_lem : (n : Part) → is_none (pick claims n none 0 (csml n)) ≡ true
unfolding has begin_row pick csml binding claims first empty follow is_none
at_end_lem n = every-part (λ m. is_none (pick claims m none 0 (csml m))) refl (λ i. refl) (λ i. refl) n

-- a row is called for by a word
pub called_by_lem : (n : Part) (ws : List Word) (i : ℕ) → Called n ws i → (w : Word) × (tail : List Word) × (ws ≡ w ∷ tail)
unfolding is_none
called_by_lem n [] i e = clash (sym (at_end_lem n) ∙ ap is_none e)
called_by_lem n (w ∷ tail) i e = (w, tail, refl)

abbrev pub Pick : Part → ℕ → Option ℕ
Pick n k = pick claims n (some (numbered k)) 0 (csml n)

unfoldable pub agrees : Option ℕ → ℕ → Bool
agrees none d = true
agrees (some i) d = eqb d i

-- the function d tells the row from the number of the kind
abbrev pub Decides : Part → (ℕ → ℕ) → Type 0
Decides n d = up_to (λ k. agrees (Pick n k) (d k)) kind_count ≡ true

decides : (n : Part) (d : ℕ → ℕ) → Decides n d → (k i : ℕ) → k < kind_count → Pick n k ≡ some i → d k ≡ i
unfolding agrees
decides n d test k i h e =
    let t : agrees (Pick n k) (d k) ≡ true = up_to_lem (λ k. agrees (Pick n k) (d k)) kind_count k test h in
    eqb-true (d k) i (rw e at t)

pub called-row : (s : List ℕ) (n : Part) (d : ℕ → ℕ) → Decides n d → (h : Here) (ws : List Word) (i : ℕ) → Stands s h ws → Called n ws i → d h.kind ≡ i
called-row s n d test h [] i st p = let (w, tail, e) = called_by_lem n [] i p in absurd (cons≢nil (sym e))
called-row s n d test h (w ∷ ws) i st p = let q : Pick n h.kind ≡ some i = rw st.0.kind p in decides n d test h.kind i st.0.known q
