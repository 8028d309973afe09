-- The fields of KISS texts, in order.
-- Assumes nothing.
use Rattle.std.specs.Prelude.{◌≡◌, [], ◌∷◌, ◌++◌, ℕ, zero, suc, ◌+◌, ◌-◌, ◌*◌, ◌^◌, ◌≤◌, length}
use Prim.Native.Char.{code}
use Rattle.file_law.specs.Table.{Table}
use Rattle.kiss_law.specs.Text.{ascii, decimal, bits, size_line, row_head}
use Rattle.kiss_law.specs.Fields.{Form, over, field, fixed}

-- a size that is one of the first m multiples of a number
abbrev pub size_field : ℕ → ℕ → ℕ → (ℕ → Form) → Form
size_field letter unit m rest = field m (λ a. size_line letter ((a + 1) * unit)) rest

-- a next state below n, and the blank behind it
abbrev pub next_field : ℕ → (ℕ → Form) → Form
next_field n rest = field n (λ v. decimal v ++ (32 ∷ [])) rest

-- the rows of a state that shows w, from an input on
unfoldable pub rest_form : ℕ → ℕ → ℕ → ℕ → ℕ → ℕ → ℕ → Form → Form
rest_form k o n state w zero input f = f
rest_form k o n state w (suc left) input f =
    fixed (row_head k state input) (next_field n (λ v. fixed (bits o w) (fixed (10 ∷ []) (rest_form k o n state w left (suc input) f))))

-- the rows of a state: the first may show any outputs, the others show the same
unfoldable pub state_form : ℕ → ℕ → ℕ → ℕ → Form → Form
state_form k o n state f =
    fixed (row_head k state 0) (next_field n (λ v. field (2 ^ o) (bits o) (λ w. fixed (10 ∷ []) (rest_form k o n state w (2 ^ k - 1) 1 f))))

-- the rows of all states from one on, and the end
unfoldable pub states_form : ℕ → ℕ → ℕ → ℕ → ℕ → Form
states_form k o n zero state = fixed (ascii ".e\n") over
states_form k o n (suc left) state = state_form k o n state (states_form k o n left (suc state))

unfoldable pub kiss_form : Form
kiss_form =
    size_field (code "i") 1 6 (λ a. size_field (code "o") 1 16 (λ b. size_field (code "p") (2 ^ (a + 1)) 256 (λ c. size_field (code "s") (c + 1) 1 (λ d.
    fixed (ascii ".r s0\n") (states_form (a + 1) (b + 1) (c + 1) (c + 1) 0)))))

-- sizes that a text can have
pub record TextSizes (k o n : ℕ) : Type 0 where
  pub inputs : 1 ≤ k
  pub most_inputs : k ≤ 6
  pub outputs : 1 ≤ o
  pub most_outputs : o ≤ 16
  pub states : 1 ≤ n
  pub most_states : n ≤ 256

-- a table with these sizes
pub record SizedSo (t : Table) (k o n : ℕ) : Type 0 where
  pub inputs : t.inputs ≡ k
  pub outputs : t.outputs ≡ o
  pub states : length t.rows ≡ n
