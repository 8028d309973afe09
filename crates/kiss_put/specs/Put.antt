-- What writing a piece of text into a lent buffer leaves.
-- Assumes nothing.
use Rattle.std.specs.Prelude.{◌≡◌, List, ◌++◌, ℕ, ◌+◌, length}
use Rattle.file_law.specs.Bytes.{patch}

-- l with w from `at` on is m, and r is the place behind w
pub record Put (l : List ℕ) (at : ℕ) (w : List ℕ) (r : ℕ) (m : List ℕ) : Type 0 where
  pub end : r ≡ at + length w
  pub bytes : m ≡ patch l at w
  pub long : length m ≡ length l

-- part of a whole is put: e is the place behind it, and the rest is still to come
pub record Under (l : List ℕ) (at : ℕ) (whole rest : List ℕ) (e : ℕ) (m : List ℕ) : Type 0 where
  pub done : List ℕ
  pub put : Put l at done e m
  pub split : done ++ rest ≡ whole
