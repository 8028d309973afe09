-- A machine with states of any kind, where its inputs lead, and what it shows on the way.
-- Assumes nothing.
use Rattle.std.specs.Prelude.{◌≡◌, List, [], ◌∷◌, ℕ, ◌<◌}

-- an input sequence: each of its inputs is one of 0 .. k - 1
abbrev pub Inputs : ℕ → List ℕ → Type 0
Inputs k [] = Unit
Inputs k (x ∷ w) = (x < k) × Inputs k w

-- "The start is the first statement with the initial values"; for each state and each of the inputs 0 .. inputs - 1 a next state
pub record Machine (S : Type 0) : Type 0 where
  pub start : S
  pub step : S → ℕ → S
  pub inputs : ℕ

module _ {S : Type 0} where
  -- the state that an input sequence leads to from s
  abbrev pub run : Machine S → S → List ℕ → S
  run m s [] = s
  run m s (x ∷ w) = run m (m.step s x) w

  -- "reachability by input sequences": one of them leads from the start to s
  pub record Reach (m : Machine S) (s : S) : Type 0 where
    pub by : List ℕ
    pub inputs : Inputs m.inputs by
    pub leads : run m m.start by ≡ s

  -- "every sequence": what the states show, at s and after each input
  abbrev pub shown : {B : Type 0} → Machine S → (S → B) → S → List ℕ → List B
  shown m shows s [] = shows s ∷ []
  shown m shows s (x ∷ w) = shows s ∷ shown m shows (m.step s x) w

  -- two machines that behave alike, wherever inputs lead
  pub record Same (m n : Machine S) : Type 0 where
    pub start : m.start ≡ n.start
    pub inputs : m.inputs ≡ n.inputs
    pub step : (s : S) → Reach m s → (x : ℕ) → x < m.inputs → m.step s x ≡ n.step s x
