-- A procedure's text from its name on: its formals, and where its body begins.
-- Assumes nothing.
use mathlib.Core.Bool.{Bool, true, false, cond}
use mathlib.Core.Path.{◌≡◌, refl, sym, ◌∙◌, ap, subst}
use mathlib.Core.List.{List, [], ◌∷◌}
use Prim.Native.Nat.{ℕ, zero, suc, ◌+◌, ◌≤◌, ◌<◌}
use native.Mathlib.Omega.{arith}
use lib.Dec.{eqb}
use lib.ListN.{length, take, drop, length-take, length-drop}
use Rattle.meaning.specs.Unexpanded as unexpanded
use Rattle.ll1.specs.Values.{make}
use Rattle.language.specs.Words.{name, the, Word, bytes, same, word_at, kind_of, too_large}
use Rattle.language.specs.Scan.{Next, found, stops, over, next_at, next_word, word_length, past_blanks, behind}
use Rattle.language.specs.Grammar.{csml, Formals, FormalNames, MoreFormals, Statements, most_levels}
use Rattle.language.specs.Trees.{Name, name_at, makes}
use Rattle.descent_law.specs.Told.{Told}
use Rattle.descent_law.proofs.Statements.{Row, by_rows}
use Rattle.uses_law.proofs.Body.{procedure-ends}
use Rattle.hand.specs.Along.{Along}
use Rattle.frames_law.specs.Frames.{bytes_of, bytes_at, NamedAt, Each}
use Rattle.frames.specs.Layout.{name_next, comma_next, past_next, past_word, formals_from, formals_at, close_from, body_from}
use Rattle.frames.specs.Open.{ProcedureAt}

-- ---- a word lies behind the place from which it is the next

abbrev Moves : ℕ → ℕ → Next → Type 0
Moves at n (found w) = (at < behind w) × (behind w ≤ at + n)
Moves at n (stops e) = Unit {0}
Moves at n over = Unit {0}

next_moves : (at : ℕ) (l : List ℕ) → Moves at (length l) (next_at at l)
unfolding next_at
next_moves at [] = tt
next_moves at (c ∷ l) = go (eqb n 0) refl (too_large (kind_of (take n (c ∷ l))) (take n (c ∷ l)))
  where
    n : ℕ
    n = word_length (c ∷ l)

    some : eqb n 0 ≡ false → 0 < n
    some e = other n e
      where
        other : (m : ℕ) → eqb m 0 ≡ false → 0 < m
        other zero e = absurd (let z : ◌≡◌ {A = ℕ} 0 1 = cc in omega arith)
        other (suc m) e = omega arith

    go : (z : Bool) → eqb n 0 ≡ z → (t : Bool) → Moves at (length (c ∷ l)) (cond z (stops at) (cond t (stops at) (found (word_at at (take n (c ∷ l))))))
    go true e t = tt
    go false e true = tt
    go false e false = (omega (arith, some e, length-take n (c ∷ l)), omega (arith, length-take n (c ∷ l)))

pub word_moves : (s : List ℕ) (from : ℕ) (w : Word) → next_word s from ≡ found w → (from < behind w) × (behind w ≤ length s)
unfolding next_word past_blanks
word_moves s from w e =
    let (a, b) : Moves (past_blanks s from) (length (drop (past_blanks s from) s)) (found w) = subst (Moves (past_blanks s from) (length (drop (past_blanks s from) s))) e (next_moves (past_blanks s from) (drop (past_blanks s from) s)) in
    (omega arith, omega (arith, length-drop (past_blanks s from) s))

-- ---- the rows, with the kinds of their words

abbrev Text : Type 0
Text = List Word

abbrev FormalsEnd : ℕ → ℕ → Text → List Name → Text → ℕ → Type 0
FormalsEnd f k ws v rest i = (o : Word) × (c : Word) × (m : ℕ) × (tail : Text) × (ws ≡ o ∷ tail) × (c.kind ≡ the ")") × Told f FormalNames m tail v (c ∷ rest)

formals-end : Row Formals FormalsEnd
unfolding make csml makes
formals-end f k ws v rest zero h vs e (m, q, (tail, a, b, (mid, y, (t₁, a₁, b₁, z)))) = (vs.0, vs.1.1.0, m, tail, a, b₁, rw e (rw (a₁, z) at y))
formals-end f k ws v rest (suc i) h vs e x = absurd (omega arith)

abbrev NamesRow : ℕ → ℕ → Text → List Name → Text → ℕ → Type 0
NamesRow f k ws v rest zero = (v ≡ []) × (ws ≡ rest)
NamesRow f k ws v rest (suc i) = (w : Word) × (tail : Text) × (ns : List Name) × (ws ≡ w ∷ tail) × (w.kind ≡ name) × Told f MoreFormals k tail ns rest × (v ≡ name_at w ∷ ns)

names-row : Row FormalNames NamesRow
unfolding make csml makes
names-row f k ws v rest zero h vs e x = (e, x)
names-row f k ws v rest (suc zero) h vs e (tail, a, b, (mid, y, z)) = (vs.0, tail, vs.1.0, a, b, rw z at y, e)
names-row f k ws v rest (suc (suc i)) h vs e x = absurd (omega arith)

abbrev MoreRow : ℕ → ℕ → Text → List Name → Text → ℕ → Type 0
MoreRow f k ws v rest zero = (v ≡ []) × (ws ≡ rest)
MoreRow f k ws v rest (suc i) =
    (c : Word) × (w : Word) × (tail : Text) × (ns : List Name) × (ws ≡ c ∷ w ∷ tail) × (c.kind ≡ the ",") × (w.kind ≡ name) × Told f MoreFormals k tail ns rest × (v ≡ name_at w ∷ ns)

more-row : Row MoreFormals MoreRow
unfolding make csml makes
more-row f k ws v rest zero h vs e x = (e, x)
more-row f k ws v rest (suc zero) h vs e (tail, a, b, (t₁, a₁, b₁, (mid, y, z))) = (vs.0, vs.1.0, t₁, vs.1.1.0, rw a₁ at a, b, b₁, rw z at y, e)
more-row f k ws v rest (suc (suc i)) h vs e x = absurd (omega arith)

-- ---- the formals

is_name_lem : {x : Next} {w : Word} → x ≡ found w → w.kind ≡ name → name_next x ≡ true
unfolding name_next
is_name_lem e k = rw (e, k) refl

no_name_lem : {x : Next} {w : Word} → x ≡ found w → w.kind ≡ the ")" → name_next x ≡ false
unfolding name_next
no_name_lem e k = rw (e, k) refl

is_comma_lem : {x : Next} {w : Word} → x ≡ found w → w.kind ≡ the "," → comma_next x ≡ true
unfolding comma_next bytes same
is_comma_lem e k = rw (e, k) refl

no_comma : {x : Next} {w : Word} → x ≡ found w → w.kind ≡ the ")" → comma_next x ≡ false
unfolding comma_next bytes same
no_comma e k = rw (e, k) refl

past_is : {x : Next} {w : Word} → x ≡ found w → past_next x ≡ behind w
unfolding past_next
past_is e = rw e refl

module _ (s : List ℕ) (c : Word) (rest : Text) (closes : c.kind ≡ the ")") where
  abbrev Names : ℕ → ℕ → List Name → Type 0
  Names k from ns = Each (NamedAt s) (formals_from k s from) ns × Along s (close_from k s from) (c ∷ rest)

  names_from : (k from f m : ℕ) (w : Word) (tail : Text) (ns : List Name) → length s < from + k → Along s from (w ∷ tail) → w.kind ≡ name → Told f MoreFormals m tail ns (c ∷ rest) → Names k from (name_at w ∷ ns)
  unfolding formals_from close_from
  names_from zero from f m w tail ns h a n y = let (e, b) = a in let (p, q) = word_moves s from w e in absurd (omega arith)
  names_from (suc k) from f m w tail ns h a n y =
      let (f₁, i, p, row) = by_rows MoreFormals MoreRow more-row f m tail ns (c ∷ rest) y in
      rw (is_name_lem a.0 n) (go a.0 a.1 f₁ i row (names_from k))
    where
      go : next_word s from ≡ found w → Along s (behind w) tail → (f₁ i : ℕ) → MoreRow f₁ m tail ns (c ∷ rest) i
          → ((from f m : ℕ) (w : Word) (tail : Text) (ns : List Name) → length s < from + k → Along s from (w ∷ tail) → w.kind ≡ name → Told f MoreFormals m tail ns (c ∷ rest) → Names k from (name_at w ∷ ns))
          → Each (NamedAt s) (from ∷ cond (comma_next (next_word s (past_word s from))) (formals_from k s (past_word s (past_word s from))) []) (name_at w ∷ ns)
          × Along s (cond (comma_next (next_word s (past_word s from))) (close_from k s (past_word s (past_word s from))) (past_word s from)) (c ∷ rest)
      go e a f₁ zero (q, r) more =
          let b : Along s (behind w) (c ∷ rest) = rw r at a in
          rw (past_is e, no_comma b.0 closes, q) (((w, e, refl), tt), b)
      go e a f₁ (suc i) (d, w₂, t₂, ns₂, q, kind, n₂, y₂, r) more =
          let (e₂, b) : Along s (behind w) (d ∷ w₂ ∷ t₂) = rw q at a in
          let (x₁, x₂) = word_moves s from w e in
          let (z₁, z₂) = word_moves s (behind w) d e₂ in
          let (each, along) = more (behind d) f₁ m w₂ t₂ ns₂ (omega arith) b n₂ y₂ in
          rw (past_is e, is_comma_lem e₂ kind, past_is e₂, r) (((w, e, refl), each), along)

  formals_from_lem : (k from f m : ℕ) (ws : Text) (ns : List Name) → length s < from + k → Along s from ws → Told f FormalNames m ws ns (c ∷ rest) → Names k from ns
  unfolding formals_from close_from
  formals_from_lem k from f m ws ns h a y = let (f₁, i, p, row) = by_rows FormalNames NamesRow names-row f m ws ns (c ∷ rest) y in go f₁ i row
    where
      empty : (k : ℕ) → Along s from (c ∷ rest) → Names k from []
      empty zero b = (tt, b)
      empty (suc k) b = rw (no_name_lem b.0 closes) (tt, b)

      go : (f₁ i : ℕ) → NamesRow f₁ m ws ns (c ∷ rest) i → Names k from ns
      go f₁ zero (q, r) = rw q (empty k (rw r at a))
      go f₁ (suc i) (w, tail, ns₂, q, n, y₂, r) = rw r (names_from k from f₁ m w tail ns₂ h (rw q at a) n y₂)

-- ---- the whole

pub record Head (s : List ℕ) (p : ℕ) (q : unexpanded.Procedure) : Type 0 where
  pub name : bytes_at s p ≡ q.name.bytes
  pub formals : Each (NamedAt s) (formals_at s p) q.formals
  pub words : Text
  pub rest : Text
  pub last : Word
  pub depth : ℕ
  pub levels : ℕ
  pub few : levels ≤ most_levels
  pub along : Along s (body_from s p) words
  pub body : Told depth Statements levels words q.body (last ∷ rest)
  pub ends : last.kind ≡ the "endproc"

pub named : (s : List ℕ) (p : ℕ) (q : unexpanded.Procedure) → ProcedureAt s p q → bytes_at s p ≡ q.name.bytes
unfolding bytes_of
named s p q (f, k, ws, rest, few, along, told) =
    let (f₁, i, c, (n, x, tail, mid, fs, b, e, kind, y₁, y₂, z, v)) = procedure-ends f k ws q rest told in
    let (a, more) : Along s p (n ∷ tail) = rw e at along in
    ap bytes_of a ∙ sym (ap (λ (r : unexpanded.Procedure). r.name.bytes) v)

pub head_of : (s : List ℕ) (p : ℕ) (q : unexpanded.Procedure) → length s ≤ 8192 → ProcedureAt s p q → Head s p q
unfolding formals_at body_from
head_of s p q short (f, k, ws, rest, few, along, told) =
    let (f₁, i, c, (n, x, tail, mid, fs, b, e, kind, y₁, y₂, z, v)) = procedure-ends f k ws q rest told in
    let (a, more) : Along s p (n ∷ tail) = rw e at along in
    let (f₂, i₂, c₂, (o, d, m, t₂, e₂, closes, y₃)) = by_rows Formals FormalsEnd formals-end f₁ k tail fs mid y₁ in
    let (a₂, more₂) : Along s (behind n) (o ∷ t₂) = rw e₂ at more in
    let (l₁, l₂) = word_moves s p n a in
    let at : past_word s (past_word s p) ≡ behind o = ap (past_word s) (past_is a) ∙ past_is a₂ in
    let (each, close) = formals_from_lem s d mid closes 8192 (behind o) f₂ m t₂ fs (let (g₁, g₂) = word_moves s (behind n) o a₂ in omega arith) more₂ y₃ in
    record {
      name = named s p q (f, k, ws, rest, few, along, told);
      formals = subst (λ (r : unexpanded.Procedure). Each (NamedAt s) (formals_from 8192 s (past_word s (past_word s p))) r.formals) (sym v) (rw at each);
      words = mid;
      rest = rest;
      last = x;
      depth = f₁;
      levels = k;
      few = few;
      along = rw (at, past_is close.0) close.1;
      body = subst (λ (r : unexpanded.Procedure). Told f₁ Statements k mid r.body (x ∷ rest)) (sym v) y₂;
      ends = z;
    }
