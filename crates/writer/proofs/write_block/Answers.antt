-- `writer::write_block` meets its contract: the lent part comes back as the block, and the bytes beside it as they were.
-- Assumes nothing.
use mathlib.Core.Path.{◌≡◌, sym, ap, ap₂, ◌∙◌}
use Prim.Native.Nat.{ℕ, ◌+◌, ◌-◌, ◌*◌, ◌≤◌, ◌<◌}
use native.Mathlib.Omega.{arith}
use mathlib.Core.List.{List, ◌++◌}
use lib.ListN.{length, take, drop}
use lib.Seq.{drop-drop}
use borrow.Rule.Slice.PartMut.{put_mid}
use Rattle.file_law.specs.Bytes.{patch}
use Rattle.file_law.specs.File.{block_of}
use Rattle.file_law.proofs.Blocks.{length_block}
use Rattle.file_law.proofs.Lent.{with_room, without-room}
use Rattle.writer.proofs.write_block.Goals as goal

-- 512 bytes put back at a are a patch there
back : (l v b : List ℕ) (a : ℕ) → v ≡ b → length b ≡ 512 → put_mid a (a + 512 - a) l v ≡ patch l a b
unfolding patch
back l v b a e n =
    let m : a + 512 - a ≡ length b = omega arith in
    ap₂ (λ (x : List ℕ) (k : ℕ). take a l ++ (x ++ drop k (drop a l))) e m
    ∙ ap (λ (r : List ℕ). take a l ++ (b ++ r)) (drop-drop (length b) a l)

pub returns-then-file-end : goal.returns-then-file-end
returns-then-file-end c =
    let a = c.args in
    let short : length a.file.now < 512 * a.number + 512 = omega arith in
    sym (without-room a.file.now a.number a.total a.rest.now short)

pub returns : goal.returns
returns c =
    let a = c.args in
    let room : 512 * a.number + 512 ≤ length a.file.now = omega arith in
    let block = block_of a.number a.total a.rest.now in
    ap (λ (n : ℕ). put_mid (512 * n) (512 * n + 512 - 512 * n) a.file.now c.fill_block.new.block) c.from-start.ensures
    ∙ back a.file.now c.fill_block.new.block block (512 * a.number) c.fill_block.ensures (length_block a.number a.total a.rest.now)
    ∙ sym (with_room a.file.now a.number a.total a.rest.now room)
