-- How a write ends, and the heading in its parts.
-- Assumes nothing.
use mathlib.Core.Path.{◌≡◌, sym, ap, ◌∙◌, subst}
use mathlib.Core.List.{List, [], ◌++◌}
use Prim.Native.Nat.{ℕ, ◌+◌, ◌*◌, ◌^◌, ◌≤◌, ◌<◌}
use native.Mathlib.Omega.{arith}
use lib.ListN.{length}
use Rattle.file_law.specs.Answer.{gives, refuses}
use Rattle.file_law.specs.Reading.{stream_in, open_answer}
use Rattle.file_law.proofs.Patch.{front}
use Rattle.kiss_law.specs.Text.{ascii, size_line, heading}
use Rattle.kiss_law.specs.Kiss.{short_buffer, laid, text_in, Wired, KissWrites}
use Rattle.kiss_law.specs.Kiss as kiss
use Rattle.kiss_put.specs.Put.{Put}
use Rattle.kiss_put.proofs.Puts.{under_start, under_on, under_as, under_end}
use Rattle.kiss_write.specs.Held.{held_rows, held_text}
use Rattle.kiss_write.proofs.Held.{text-held}

pub heading-put : {l m₁ m₂ m₃ m₄ m₅ : List ℕ} {e₁ e₂ e₃ e₄ e₅ : ℕ} (k o n r : ℕ) → r ≡ 2 ^ k → length (heading k o n) ≤ length l
    → Put l 0 (size_line 105 k) e₁ m₁ → Put m₁ e₁ (size_line 111 o) e₂ m₂ → Put m₂ e₂ (size_line 112 (n * r)) e₃ m₃ → Put m₃ e₃ (size_line 115 n) e₄ m₄ → Put m₄ e₄ (ascii ".r s0\n") e₅ m₅
    → Put l 0 (heading k o n) e₅ m₅
unfolding heading
heading-put {l} k o n r e h a b c d f =
    let s : heading k o n ≡ size_line 105 k ++ (size_line 111 o ++ (size_line 112 (n * r) ++ (size_line 115 n ++ ascii ".r s0\n"))) =
    ap (λ (x : ℕ). size_line 105 k ++ (size_line 111 o ++ (size_line 112 (n * x) ++ (size_line 115 n ++ ascii ".r s0\n")))) (sym e) in
    let room : 0 + length (heading k o n) ≤ length l = omega arith in
    let u = under_as s (under_start l 0 (heading k o n) room) in
    let u₁ = under_on (size_line 105 k) (size_line 111 o ++ (size_line 112 (n * r) ++ (size_line 115 n ++ ascii ".r s0\n"))) room u a in
    let u₂ = under_on (size_line 111 o) (size_line 112 (n * r) ++ (size_line 115 n ++ ascii ".r s0\n")) room u₁ b in
    let u₃ = under_on (size_line 112 (n * r)) (size_line 115 n ++ ascii ".r s0\n") room u₂ c in
    let u₄ = under_on (size_line 115 n) (ascii ".r s0\n") room u₃ d in
    under_end (under_on (ascii ".r s0\n") [] room u₄ f)

pub text-put : {l m₁ m₂ m₃ : List ℕ} {e₁ e₂ e₃ : ℕ} (b : ℕ → ℕ) (k o n : ℕ) → length (held_text b k o n) ≤ length l
    → Put l 0 (heading k o n) e₁ m₁ → Put m₁ e₁ (held_rows b k o n 0) e₂ m₂ → Put m₂ e₂ (ascii ".e\n") e₃ m₃ → Put l 0 (held_text b k o n) (length (held_text b k o n)) m₃
unfolding held_text
text-put {l} {m₁} {m₂} {m₃} {e₁} {e₂} {e₃} b k o n h a c d =
    let room : 0 + length (held_text b k o n) ≤ length l = omega arith in
    let u = under_on (heading k o n) (held_rows b k o n 0 ++ ascii ".e\n") room (under_start l 0 (held_text b k o n) room) a in
    let p = under_end (under_on (ascii ".e\n") [] room (under_on (held_rows b k o n 0) (ascii ".e\n") room u c) d) in
    let z : e₃ ≡ length (held_text b k o n) = p.end ∙ omega arith in
    subst (λ (x : ℕ). Put l 0 (held_text b k o n) x m₃) z p

module _ (f l : List ℕ) (k o n : ℕ) (e : open_answer f ≡ gives (record { inputs = k; outputs = o; states = n })) where
  wired : ¬ (k ≡ 0) → ¬ (o ≡ 0) → Wired (record { inputs = k; outputs = o; states = n })
  wired p q = record { inputs = omega arith; outputs = omega arith }

  pub short : ¬ (k ≡ 0) → ¬ (o ≡ 0) → length l < length (held_text (stream_in f) k o n) → KissWrites f l (refuses short_buffer 0) l
  short p q h = kiss.KissWrites.twelve e (wired p q) (subst (λ (t : List ℕ). length l < length t) (sym (text-held f k o n e)) h)

  pub made : {m : List ℕ} (r : ℕ) → ¬ (k ≡ 0) → ¬ (o ≡ 0) → r ≡ length (held_text (stream_in f) k o n) → length (held_text (stream_in f) k o n) ≤ length l
      → Put l 0 (held_text (stream_in f) k o n) (length (held_text (stream_in f) k o n)) m → KissWrites f l (gives r) m
  made {m} r p q i h u =
      let t = text-held f k o n e in
      let a : length (text_in f) ≡ r = ap length t ∙ sym i in
      let z : laid (text_in f) l ≡ m = ap (λ (x : List ℕ). laid x l) t ∙ sym (front l (held_text (stream_in f) k o n)) ∙ sym u.bytes in
      subst (λ (x : ℕ). KissWrites f l (gives x) m) a
      (subst (λ (x : List ℕ). KissWrites f l (gives (length (text_in f))) x) z
      (kiss.KissWrites.made e (wired p q) (subst (λ (x : List ℕ). length x ≤ length l) (sym t) h)))
