-- One lent area: a tree in its first 16,384 bytes, and the names behind it.
-- Assumes nothing.
use Rattle.std.specs.Prelude.{List, ℕ, length, drop}

-- the bytes of a tree: 512 nodes of 16, and 1,024 parts of 8
abbrev pub tree_bytes : ℕ
tree_bytes = 16384

-- how long an area is, and what lies behind the tree
pub record Beside : Type 0 where
  pub size : ℕ
  pub names : List ℕ

-- what stays as it is while a tree is written
unfoldable pub beside : List ℕ → Beside
beside t = record { size = length t; names = drop tree_bytes t }
