-- A node that was written is read back, and every other byte stays.
-- Assumes nothing.
use mathlib.Core.Path.{◌≡◌, refl, ◌∙◌}
use mathlib.Core.List.{List}
use Prim.Native.Nat.{ℕ, ◌+◌, ◌*◌, ◌/◌, ◌%◌, ◌≤◌, ◌<◌}
use native.Mathlib.Omega.{arith}
use lib.ListN.{length, get_or, set, length-set}
use lib.Seq.{get_or-set_same, get_or-set_other}
use borrow.Author.Tests.{lt-ltb, le-leb}
use Rattle.nodes.specs.Layout.{half_at}
use Rattle.items.specs.Walk.{set_half, put_node, put_branch}
use Rattle.written.proofs.Long.{half_long}

pub byte-kept : (t : List ℕ) (o x q : ℕ) → ¬ (q ≡ o) → ¬ (q ≡ o + 1) → get_or (set_half t o x) q 0 ≡ get_or t q 0
unfolding set_half
byte-kept t o x q a b = get_or-set_other (set t o (x % 256)) (o + 1) q (x / 256) 0 b ∙ get_or-set_other t o q (x % 256) 0 a

pub low_same : (t : List ℕ) (o x : ℕ) → o + 1 < length t → get_or (set_half t o x) o 0 ≡ x % 256
unfolding set_half
low_same t o x h = get_or-set_other (set t o (x % 256)) (o + 1) o (x / 256) 0 (omega arith) ∙ get_or-set_same t o (x % 256) 0 (omega arith)

pub half_same : (t : List ℕ) (o x : ℕ) → o + 1 < length t → half_at (set_half t o x) o ≡ x
unfolding half_at set_half
half_same t o x h =
    let a : get_or (set (set t o (x % 256)) (o + 1) (x / 256)) o 0 ≡ x % 256 = get_or-set_other (set t o (x % 256)) (o + 1) o (x / 256) 0 (omega arith) ∙ get_or-set_same t o (x % 256) 0 (omega arith) in
    let b : get_or (set (set t o (x % 256)) (o + 1) (x / 256)) (o + 1) 0 ≡ x / 256 = get_or-set_same (set t o (x % 256)) (o + 1) (x / 256) 0 (simp length-set (omega arith)) in
    omega (arith, a, b)

pub half_kept : (t : List ℕ) (o x q : ℕ) → ¬ (q ≡ o) → ¬ (q ≡ o + 1) → ¬ (q + 1 ≡ o) → half_at (set_half t o x) q ≡ half_at t q
unfolding half_at
half_kept t o x q a b c = rw (byte-kept t o x q a b, byte-kept t o x (q + 1) c (omega arith)) refl

module _ (t : List ℕ) (i k p e a b c d : ℕ) (fits : i * 16 + 16 ≤ length t) where
  abbrev o : ℕ
  o = i * 16

  abbrev t0 : List ℕ
  t0 = set t o k

  abbrev t1 : List ℕ
  t1 = set_half t0 (o + 2) p

  abbrev t2 : List ℕ
  t2 = set_half t1 (o + 4) e

  abbrev t3 : List ℕ
  t3 = set_half t2 (o + 8) a

  abbrev t4 : List ℕ
  t4 = set_half t3 (o + 10) b

  abbrev t5 : List ℕ
  t5 = set_half t4 (o + 12) c

  abbrev t6 : List ℕ
  t6 = set_half t5 (o + 14) d

  pub node_is : i < 512 → put_node t i k p e a b c d ≡ t6
  unfolding put_node
  node_is h = rw (lt-ltb i 512 h, le-leb (i * 16 + 16) (length t) fits) refl

  long0 : length t0 ≡ length t
  long0 = simp length-set

  pub node_place : half_at t6 (o + 2) ≡ p
  node_place =
      half_kept t5 (o + 14) d (o + 2) (omega arith) (omega arith) (omega arith) ∙ half_kept t4 (o + 12) c (o + 2) (omega arith) (omega arith) (omega arith) ∙ half_kept t3 (o + 10) b (o + 2) (omega arith) (omega arith) (omega arith)
      ∙ half_kept t2 (o + 8) a (o + 2) (omega arith) (omega arith) (omega arith) ∙ half_kept t1 (o + 4) e (o + 2) (omega arith) (omega arith) (omega arith) ∙ half_same t0 (o + 2) p (omega (arith, long0))

  pub node_end : half_at t6 (o + 4) ≡ e
  node_end =
      half_kept t5 (o + 14) d (o + 4) (omega arith) (omega arith) (omega arith) ∙ half_kept t4 (o + 12) c (o + 4) (omega arith) (omega arith) (omega arith) ∙ half_kept t3 (o + 10) b (o + 4) (omega arith) (omega arith) (omega arith)
      ∙ half_kept t2 (o + 8) a (o + 4) (omega arith) (omega arith) (omega arith) ∙ half_same t1 (o + 4) e (omega (arith, half_long t0 (o + 2) p, long0))

  pub node_kept : (q : ℕ) → ((x : ℕ) → i * 16 ≤ x → x < i * 16 + 16 → ¬ (q ≡ x)) → get_or t6 q 0 ≡ get_or t q 0
  node_kept q far =
      byte-kept t5 (o + 14) d q (far (o + 14) (omega arith) (omega arith)) (far (o + 14 + 1) (omega arith) (omega arith)) ∙ byte-kept t4 (o + 12) c q (far (o + 12) (omega arith) (omega arith)) (far (o + 12 + 1) (omega arith) (omega arith))
      ∙ byte-kept t3 (o + 10) b q (far (o + 10) (omega arith) (omega arith)) (far (o + 10 + 1) (omega arith) (omega arith)) ∙ byte-kept t2 (o + 8) a q (far (o + 8) (omega arith) (omega arith)) (far (o + 8 + 1) (omega arith) (omega arith))
      ∙ byte-kept t1 (o + 4) e q (far (o + 4) (omega arith) (omega arith)) (far (o + 4 + 1) (omega arith) (omega arith)) ∙ byte-kept t0 (o + 2) p q (far (o + 2) (omega arith) (omega arith)) (far (o + 2 + 1) (omega arith) (omega arith))
      ∙ get_or-set_other t o q k 0 (far o (omega arith) (omega arith))

  pub node_first : half_at t6 (o + 8) ≡ a
  node_first = half_kept t5 (o + 14) d (o + 8) (omega arith) (omega arith) (omega arith) ∙ half_kept t4 (o + 12) c (o + 8) (omega arith) (omega arith) (omega arith) ∙ half_kept t3 (o + 10) b (o + 8) (omega arith) (omega arith) (omega arith) ∙ half_same t2 (o + 8) a (omega (arith, long0, half_long t0 (o + 2) p, half_long t1 (o + 4) e))

  pub node_second : half_at t6 (o + 10) ≡ b
  node_second = half_kept t5 (o + 14) d (o + 10) (omega arith) (omega arith) (omega arith) ∙ half_kept t4 (o + 12) c (o + 10) (omega arith) (omega arith) (omega arith) ∙ half_same t3 (o + 10) b (omega (arith, long0, half_long t0 (o + 2) p, half_long t1 (o + 4) e, half_long t2 (o + 8) a))

  pub node_third : half_at t6 (o + 12) ≡ c
  node_third = half_kept t5 (o + 14) d (o + 12) (omega arith) (omega arith) (omega arith) ∙ half_same t4 (o + 12) c (omega (arith, long0, half_long t0 (o + 2) p, half_long t1 (o + 4) e, half_long t2 (o + 8) a, half_long t3 (o + 10) b))

  pub node_inputs : get_or t6 (o + 12) 0 ≡ c % 256
  node_inputs = byte-kept t5 (o + 14) d (o + 12) (omega arith) (omega arith) ∙ low_same t4 (o + 12) c (omega (arith, long0, half_long t0 (o + 2) p, half_long t1 (o + 4) e, half_long t2 (o + 8) a, half_long t3 (o + 10) b))

  pub node_fourth : half_at t6 (o + 14) ≡ d
  node_fourth = half_same t5 (o + 14) d (omega (arith, long0, half_long t0 (o + 2) p, half_long t1 (o + 4) e, half_long t2 (o + 8) a, half_long t3 (o + 10) b, half_long t4 (o + 12) c))

  pub node_kind : get_or t6 o 0 ≡ k
  node_kind = byte-kept t5 (o + 14) d o (omega arith) (omega arith) ∙ byte-kept t4 (o + 12) c o (omega arith) (omega arith) ∙ byte-kept t3 (o + 10) b o (omega arith) (omega arith) ∙ byte-kept t2 (o + 8) a o (omega arith) (omega arith) ∙ byte-kept t1 (o + 4) e o (omega arith) (omega arith) ∙ byte-kept t0 (o + 2) p o (omega arith) (omega arith) ∙ get_or-set_same t o k 0 (omega arith)

-- the branch that begins with a node

module _ (t : List ℕ) (i a e : ℕ) (fits : i * 16 + 16 ≤ length t) where
  pub branch_is : i < 512 → put_branch t i a e ≡ set_half (set t (i * 16 + 1) a) (i * 16 + 6) e
  unfolding put_branch
  branch_is h = rw (lt-ltb i 512 h, le-leb (i * 16 + 16) (length t) fits) refl

  pub branch_width : get_or (set_half (set t (i * 16 + 1) a) (i * 16 + 6) e) (i * 16 + 1) 0 ≡ a
  branch_width = byte-kept (set t (i * 16 + 1) a) (i * 16 + 6) e (i * 16 + 1) (omega arith) (omega arith) ∙ get_or-set_same t (i * 16 + 1) a 0 (omega arith)

  pub branch_end : half_at (set_half (set t (i * 16 + 1) a) (i * 16 + 6) e) (i * 16 + 6) ≡ e
  branch_end = half_same (set t (i * 16 + 1) a) (i * 16 + 6) e (simp length-set (omega arith))

  pub branch_kept : (q : ℕ) → ((x : ℕ) → i * 16 ≤ x → x < i * 16 + 16 → ¬ (q ≡ x)) → get_or (set_half (set t (i * 16 + 1) a) (i * 16 + 6) e) q 0 ≡ get_or t q 0
  branch_kept q far =
      byte-kept (set t (i * 16 + 1) a) (i * 16 + 6) e q (far (i * 16 + 6) (omega arith) (omega arith)) (far (i * 16 + 6 + 1) (omega arith) (omega arith)) ∙ get_or-set_other t (i * 16 + 1) q a 0 (far (i * 16 + 1) (omega arith) (omega arith))

  -- the rest of the node
  pub branch_others : (q : ℕ) → ¬ (q ≡ i * 16 + 1) → ¬ (q ≡ i * 16 + 6) → ¬ (q ≡ i * 16 + 7) → get_or (set_half (set t (i * 16 + 1) a) (i * 16 + 6) e) q 0 ≡ get_or t q 0
  branch_others q x y z = byte-kept (set t (i * 16 + 1) a) (i * 16 + 6) e q y (λ s. z (omega arith)) ∙ get_or-set_other t (i * 16 + 1) q a 0 x
