-- The first n states: what they are by number, that they stay, and one more.
-- Assumes nothing.
use mathlib.Core.Path.{◌≡◌, sym, ap, ◌∙◌}
use mathlib.Core.Logic.{◌⊎◌, inl, inr}
use mathlib.Core.List.{List, [], ◌∷◌, ◌++◌, Memᴰ}
use Prim.Native.Nat.{ℕ, ◌+◌, ◌<◌}
use lib.ListN.{length, get_or, length-append, get_or-append}
use lib.Seq.{ext_get_or, get_or_at}
use native.Mathlib.Omega.{arith}
use native.Mathlib.Nat.{eq-or-lt_of_le}
use Rattle.file_law.proofs.Every.{length-listed, get_or-listed}
use Rattle.reach_law.proofs.Lists.{mem_get_or}
use Rattle.meaning.specs.States.{State}
use Rattle.clock.specs.Step.{state_from, Canon}
use Rattle.clock.proofs.Canon.{one_struct}
use Rattle.clock.specs.declared.State as code
use Rattle.rows.specs.Area.{row_in}
use Rattle.search.specs.Going.{states_in}

pub states-length : (l : List ℕ) (n : ℕ) → length (states_in l n) ≡ n
unfolding states_in
states-length l n = length-listed (λ (i : ℕ). state_from (row_in l i)) n 0

pub states_at : (l : List ℕ) (n i : ℕ) (d : State) → i < n → get_or (states_in l n) i d ≡ state_from (row_in l i)
unfolding states_in
states_at l n i d h =
    let z : 0 + i ≡ i = omega arith in
    get_or-listed (λ (j : ℕ). state_from (row_in l j)) n 0 d i h ∙ ap (λ (j : ℕ). state_from (row_in l j)) z

pub states-kept : (l k : List ℕ) (n : ℕ) (d : State) → ((i : ℕ) → i < n → row_in k i ≡ row_in l i) → states_in k n ≡ states_in l n
states-kept l k n d same =
    ext_get_or d (states_in k n) (states_in l n) (states-length k n ∙ sym (states-length l n))
    (λ i h. let b : i < n = omega (arith, states-length k n) in states_at k n i d b ∙ ap state_from (same i b) ∙ sym (states_at l n i d b))

pub states_grown : (l k : List ℕ) (n : ℕ) (d : State) (t : code.State) → ((i : ℕ) → i < n → row_in k i ≡ row_in l i) → row_in k n ≡ t
    → states_in k (n + 1) ≡ states_in l n ++ (state_from t ∷ [])
states_grown l k n d t same new =
    ext_get_or d (states_in k (n + 1)) (states_in l n ++ (state_from t ∷ []))
    (states-length k (n + 1) ∙ sym (length-append (states_in l n) (state_from t ∷ []) ∙ ap (λ (m : ℕ). m + 1) (states-length l n)))
    (λ i h. let b : i < n + 1 = omega (arith, states-length k (n + 1)) in states_at k (n + 1) i d b ∙ go i (eq-or-lt_of_le (omega arith)))
  where
    go : (i : ℕ) → (i ≡ n) ⊎ (i < n) → state_from (row_in k i) ≡ get_or (states_in l n ++ (state_from t ∷ [])) i d
    go i (inl e) = ap (λ (j : ℕ). state_from (row_in k j)) e ∙ ap state_from new ∙ sym (get_or_at (states_in l n) (state_from t) [] d i (states-length l n ∙ sym e))
    go i (inr b) =
        ap state_from (same i b) ∙ sym (states_at l n i d b)
        ∙ sym (get_or-append (states_in l n) (state_from t ∷ []) d i (omega (arith, states-length l n)))

-- a state that no row holds is none of them
pub not_one : (l : List ℕ) (n : ℕ) (d a : State) (t : code.State) → Canon t → ((i : ℕ) → i < n → Canon (row_in l i)) → ((i : ℕ) → i < n → ¬ (row_in l i ≡ t))
    → state_from t ≡ a → ¬ Memᴰ a (states_in l n)
not_one l n d a t c canon absent e m =
    let (i, h, q) = mem_get_or d m in
    let b : i < n = omega (arith, states-length l n) in
    absent i b (one_struct (row_in l i) t (canon i b) c (sym (states_at l n i d b) ∙ q ∙ sym e))
