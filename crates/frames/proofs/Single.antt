-- What an actual's text is by itself, by the words that are met.
-- Assumes nothing.
use mathlib.Core.Bool.{true, false}
use mathlib.Core.Path.{◌≡◌, sym, ◌∙◌, ap, ap₂}
use mathlib.Core.Logic.{◌⊎◌, inl, inr}
use mathlib.Core.List.{List, ◌∷◌}
use Prim.Native.Nat.{ℕ, suc, ◌+◌, ◌<◌}
use native.Mathlib.Omega.{arith}
use lib.ListN.{length, drop}
use Rattle.meaning.specs.Unexpanded.{Term, variable, bit}
use Rattle.meaning.specs.Expansion.{one_name, one_bit, neither, form_of, moved}
use Rattle.ll1.proofs.Sets.{clash}
use Rattle.language.specs.Words.{name, number, the, Word, signs, reserved}
use Rattle.language.specs.Scan.{found, over, span, past_blanks, next_word}
use Rattle.language.specs.Words as words
use Rattle.language.specs.Grammar.{Tier, Index, most_levels}
use Rattle.language.specs.Trees.{name_at, number_at}
use Rattle.language.proofs.ScanLaws.{next_over}
use Rattle.words.specs.Kinds.{spellings, numbered}
use Rattle.descent_law.specs.Told.{Told}
use Rattle.descent_law.proofs.Expressions.{tier-told}
use Rattle.hand.specs.declared.Here.{Here}
use Rattle.hand.specs.Along.{Along, Same, Begins}
use Rattle.hand.proofs.Chosen.{called_by_lem}
use Rattle.frames_law.specs.Frames.{TermAt}
use Rattle.frames_law.specs.Operators.{operator_kind}
use Rattle.frames_law.proofs.Single.{For, same_row_lem, opens, no_bit, kind-ends, name-operand, bit-operand, one_name_lem, one_bit_lem}
use Rattle.frames_law.proofs.Apart.{no_name-first, operator_apart, behind-name}
use Rattle.frames.specs.Meant.{span_name}

-- no term stands past the end
pub past_end : (s : List ℕ) (q : ℕ) → length s < q → (e : Term) → TermAt s q e → neither ≡ form_of e
unfolding next_word past_blanks
past_end s q h e (f, ws, rest, along, told) =
    let (f₁, i, p, row) = tier-told f 0 most_levels ws e rest told in
    let (w, tail, eq) = called_by_lem (Tier 0) ws i p in
    let (n, more) = rw eq at along in
    let z : over ≡ found w = sym (next_over s (q + span words.in_blanks (drop q s)) (omega arith)) ∙ n in
    absurd (let y : ◌≡◌ {A = ℕ} 0 1 = cc in omega arith)

pub joins-apart : (k : ℕ) → operator_kind k ≡ true → ¬ (k ≡ 16)
unfolding operator_kind
joins-apart k e q = clash (sym e ∙ ap operator_kind q)

-- the words of a term from its first on
abbrev Opened : List ℕ → Here → Term → Type 0
Opened s h e = (w : Word) × (tail : List Word) × (f : ℕ) × (rest : List Word) × Same s h w × Along s h.next tail × Told f (Tier 0) most_levels (w ∷ tail) e rest

opened : {s : List ℕ} {q : ℕ} {h : Here} → Begins s q h → (e : Term) → TermAt s q e → Opened s h e
opened {s} {q} {h} b e (f, ws, rest, along, told) =
    let (f₁, i, p, row) = tier-told f 0 most_levels ws e rest told in
    let (w, tail, eq) = called_by_lem (Tier 0) ws i p in
    let (same, more) = b.stands (w ∷ tail) (rw eq at along) in
    (w, tail, f, rest, same, more, rw eq at told)

-- the word in hand as a name
named_at : {s : List ℕ} {h : Here} {w : Word} → Same s h w → name_at w ≡ moved (λ p. p) (span_name s h.place h.next)
named_at {s} {h} {w} x = sym (ap₂ (λ (l : List ℕ) (p : ℕ). record { bytes = l; place = p }) x.bytes x.place)

is_name_lem : {s : List ℕ} {h : Here} {w : Word} → Same s h w → h.kind ≡ 0 → w.kind ≡ name
unfolding numbered
is_name_lem x e = sym x.kind ∙ ap numbered e

is_index : {s : List ℕ} {h : Here} {w : Word} → Same s h w → h.kind ≡ 16 → w.kind ≡ the "["
unfolding numbered spellings signs reserved
is_index x e = sym x.kind ∙ ap numbered e

module _ {s : List ℕ} {q : ℕ} {h : Here} (b : Begins s q h) where
  pub single_not : ¬ (h.kind ≡ 0) → (e : Term) → TermAt s q e → neither ≡ form_of e
  single_not n e t =
      let (w, tail, f, rest, same, more, told) = opened b e t in
      sym (no_name-first h.kind same.known n w same.kind f most_levels tail e rest told)

  -- no `[` behind the name
  module _ {g : Here} (first : h.kind ≡ 0) (b₂ : Begins s h.next g) (plain : ¬ (g.kind ≡ 16)) where
    abbrev One : Term → Type 0
    One e = (w : Word) × (c : Word) × (ws : List Word) × (f : ℕ) × (rest : List Word) × Same s h w × Same s g c × (w.kind ≡ name) × ((i : ℕ) → For Index c.kind i → i ≡ 0) × Told f (Tier 0) most_levels (w ∷ c ∷ ws) e rest

    unindexed : {c : Word} → Same s g c → (i : ℕ) → For Index c.kind i → i ≡ 0
    unindexed x i p = no_bit g.kind x.known plain i (rw x.kind p)

    one : (e : Term) → TermAt s q e → One e
    one e t =
        let (w, tail, f, rest, same, more, told) = opened b e t in
        go w tail f rest same more told (behind-name w tail (is_name_lem same first) f most_levels e rest told)
      where
        go : (w : Word) (tail : List Word) (f : ℕ) (rest : List Word) → Same s h w → Along s h.next tail → Told f (Tier 0) most_levels (w ∷ tail) e rest
            → (((c : Word) × (ws : List Word) × (tail ≡ c ∷ ws) × For Index c.kind 0) ⊎ ((o : Word) × (m : Word) × (d : Word) × (c : Word) × (ws : List Word) × (i : ℕ) × (tail ≡ o ∷ m ∷ d ∷ c ∷ ws) × (m.kind ≡ number) × For Index o.kind (suc i))) → One e
        go w tail f rest same more told (inl (c, ws, eq, p)) =
            let (x, y) = b₂.stands (c ∷ ws) (rw eq at more) in
            (w, c, ws, f, rest, same, x, is_name_lem same first, unindexed x, rw eq at told)
        go w tail f rest same more told (inr (o, m, d, c, ws, i, eq, n, p)) =
            let (x, y) = b₂.stands (o ∷ m ∷ d ∷ c ∷ ws) (rw eq at more) in
            absurd (let z : suc i ≡ 0 = unindexed x (suc i) p in omega arith)

    pub single_joined : operator_kind g.kind ≡ true → (e : Term) → TermAt s q e → neither ≡ form_of e
    single_joined op e t =
        let (w, c, ws, f, rest, x, y, n, p, told) = one e t in
        sym (operator_apart w c (c ∷ ws) ws (variable (name_at w)) g.kind y.known op y.kind (name-operand w c ws p) f most_levels e rest told)

    pub single_name : operator_kind g.kind ≡ false → (e : Term) → TermAt s q e → one_name (moved (λ p. p) (span_name s h.place h.next)) ≡ form_of e
    unfolding form_of
    single_name op e t =
        let (w, c, ws, f, rest, x, y, n, p, told) = one e t in
        let (v, r) = one_name_lem w c ws n (rw (← y.kind) (kind-ends g.kind y.known op)) p f most_levels e rest told in
        sym (ap form_of v ∙ ap one_name (named_at x))

  -- `[`, a number and `]` behind it
  module _ {g m d k : Here} (first : h.kind ≡ 0) (b₂ : Begins s h.next g) (index : g.kind ≡ 16) (b₃ : Begins s g.next m) (b₄ : Begins s m.next d) (b₅ : Begins s d.next k) where
    abbrev Bit : Term → Type 0
    Bit e = (w : Word) × (o : Word) × (n : Word) × (l : Word) × (c : Word) × (ws : List Word) × (f : ℕ) × (rest : List Word) × Same s h w × Same s m n × Same s k c
        × (w.kind ≡ name) × (o.kind ≡ the "[") × (n.kind ≡ number) × Told f (Tier 0) most_levels (w ∷ o ∷ n ∷ l ∷ c ∷ ws) e rest

    one-bit_at : (e : Term) → TermAt s q e → Bit e
    one-bit_at e t =
        let (w, tail, f, rest, same, more, told) = opened b e t in
        go w tail f rest same more told (behind-name w tail (is_name_lem same first) f most_levels e rest told)
      where
        go : (w : Word) (tail : List Word) (f : ℕ) (rest : List Word) → Same s h w → Along s h.next tail → Told f (Tier 0) most_levels (w ∷ tail) e rest
            → (((c : Word) × (ws : List Word) × (tail ≡ c ∷ ws) × For Index c.kind 0) ⊎ ((o : Word) × (m : Word) × (d : Word) × (c : Word) × (ws : List Word) × (i : ℕ) × (tail ≡ o ∷ m ∷ d ∷ c ∷ ws) × (m.kind ≡ number) × For Index o.kind (suc i))) → Bit e
        go w tail f rest same more told (inl (c, ws, eq, p)) =
            let (x, y) = b₂.stands (c ∷ ws) (rw eq at more) in
            absurd (let z : 1 ≡ 0 = same_row_lem opens (rw (is_index x index) at p) in omega arith)
        go w tail f rest same more told (inr (o, n, l, c, ws, i, eq, num, p)) =
            let (x₂, y₂) = b₂.stands (o ∷ n ∷ l ∷ c ∷ ws) (rw eq at more) in
            let (x₃, y₃) = b₃.stands (n ∷ l ∷ c ∷ ws) y₂ in
            let (x₄, y₄) = b₄.stands (l ∷ c ∷ ws) y₃ in
            let (x₅, y₅) = b₅.stands (c ∷ ws) y₄ in
            (w, o, n, l, c, ws, f, rest, same, x₃, x₅, is_name_lem same first, is_index x₂ index, num, rw eq at told)

    pub single_bit-joined : operator_kind k.kind ≡ true → (e : Term) → TermAt s q e → neither ≡ form_of e
    single_bit-joined op e t =
        let (w, o, n, l, c, ws, f, rest, x, y, z, named, i, num, told) = one-bit_at e t in
        sym (operator_apart w c (o ∷ n ∷ l ∷ c ∷ ws) ws (bit (name_at w) (number_at n)) k.kind z.known op z.kind (bit-operand w o n l c ws i) f most_levels e rest told)

    pub single_bit : operator_kind k.kind ≡ false → (e : Term) → TermAt s q e → one_bit (moved (λ p. p) (span_name s h.place h.next)) m.value ≡ form_of e
    unfolding form_of
    single_bit op e t =
        let (w, o, n, l, c, ws, f, rest, x, y, z, named, i, num, told) = one-bit_at e t in
        let (v, r) = one_bit_lem w o n l c ws named i (rw (← z.kind) (kind-ends k.kind z.known op)) f most_levels e rest told in
        let worthy : m.value ≡ number_at n = rw num at y.value in
        sym (ap form_of v ∙ ap₂ one_bit (named_at x) (sym worthy))
