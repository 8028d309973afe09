-- `kiss_read::fill_piece` meets its contract. The loop's invariant: the first e words of the piece are the stream's.
-- Assumes nothing.
use native.Mathlib.Omega.{arith}
use native.Mathlib.Nat.{add_assoc}
use Prim.Native.Nat.{ℕ, ◌+◌, ◌*◌, ◌/◌, ◌%◌}
use mathlib.Core.Path.{◌≡◌, sym, ap, ◌∙◌, subst}
use Rattle.file_law.specs.Bytes.{low2}
use Rattle.file_law.specs.File.{stream_of}
use Rattle.kiss_put.proofs.Puts.{put_part}
use Rattle.kiss_read.specs.Cursor.{Ahead}
use Rattle.kiss_read.proofs.Blocks.{piece_put}
use Rattle.kiss_read.proofs.Words.{stream_low, stream_high}
use Rattle.kiss_read.proofs.fill_piece.Goals as goal

pub loop-e-init : goal.loop-e-init
loop-e-init c =
    let a = c.args in
    let n : a.w ≡ a.w + 0 = omega arith in
    (c.requires.0, c.requires.2, λ t T b. (λ j h. absurd (omega arith), subst (λ (i : ℕ). Ahead t a.text.now a.shape.sizes.inputs a.shape.sizes.outputs a.shape.sizes.states i a.at) n b))

pub word-got-requires : goal.word-got-requires
word-got-requires c = (c.loop-e.invariant.0, omega (arith, c.requires.1, c.loop-e-test.true))

pub loop-e-preserved : goal.loop-e-preserved
loop-e-preserved c =
    let a = c.args in
    let l = c.loop-e in
    let v = c.word-got.result.value in
    let s = c.copy_from_slice.new.self in
    let e = c.copy_from_slice.ensures.after ∙ c.to_le_bytes.ensures in
    let p = put_part l.piece (low2 v) s (2 * l.e) (omega (arith, l.invariant.1)) e in (
      c.word-got.ensures.inside,
      p.long ∙ l.invariant.1,
      λ t T b.
          let u = l.invariant.2 t T b in
          let g = c.word-got.ensures.is t T u.1 in (
            piece_put (stream_of t) l.piece s a.w l.e v l.invariant.1 c.loop-e-test.true e u.0
                (stream_low t T.writable.fits (a.w + l.e) ∙ ap (λ (i : ℕ). i % 256) (sym g.0))
                (stream_high t T.writable.fits (a.w + l.e) ∙ ap (λ (i : ℕ). i / 256 % 256) (sym g.0)),
            subst (λ (i : ℕ). Ahead t a.text.now a.shape.sizes.inputs a.shape.sizes.outputs a.shape.sizes.states i c.word-got.result.at) (add_assoc a.w l.e 1) g.1,
          ),
    )

pub returns : goal.returns
returns c =
    let a = c.args in
    let l = c.loop-e in
    let e : l.e ≡ 252 = omega arith in
    record {
      inside = l.invariant.0;
      long = l.invariant.1;
      is = λ t T b.
          let u = l.invariant.2 t T b in
          (λ j h. u.0 j (omega arith), subst (λ (i : ℕ). Ahead t a.text.now a.shape.sizes.inputs a.shape.sizes.outputs a.shape.sizes.states (a.w + i) l.end) e u.1);
    }
