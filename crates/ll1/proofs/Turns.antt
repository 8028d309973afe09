-- The laws of a reader's turns in the terms of its code: s is the byte at p of the rows, t the kind of the word at i (0 past the end).
-- Assumes nothing.
use mathlib.Core.Bool.{true}
use mathlib.Core.Path.{◌≡◌, sym, ◌∙◌, ap, subst}
use mathlib.Core.List.{List, [], ◌∷◌}
use Prim.Native.Nat.{ℕ, suc, ◌+◌, ◌-◌, ◌*◌, ◌≤◌, ◌<◌}
use native.Mathlib.Omega.{arith}
use lib.ListN.{length, get_or}
use Rattle.ll1.specs.Grammar.{Symbol, word, part, In, Out, Row}
use Rattle.ll1.specs.Goes.{Choice}
use Rattle.ll1.specs.Rows.{opening, closing, first_part, most_deep, Codes, sym_of, row, start_of, closes, deep, idle, Kept, Tables, ReadTo, StopsAt}
use Rattle.ll1.proofs.Steps.{row-end, row_word, row-into, row_out, row-part, row_next, inside, Going, go_end, go_word, stop-word, go_into, stop-into, out-fits, go_out, stop-none, go_last, go_on, stop_on, call-falls, weight, left, idle-small, turn-word, turn-into, turn-out, turn_last, turn_on}

-- at the head of the loop, with the byte read
pub record At {K P : Type 0} (D : Codes K P) (choose : Choice K P) (depth turn : P → ℕ) (rows starts w : List ℕ) (a₀ : Row K P) (i₀ k₀ p i k s : ℕ) : Type 0 where
  pub tables : Tables D choose depth turn rows starts
  pub going : Going D choose depth w a₀ i₀ k₀ (row D rows p) i k
  pub byte : s ≡ get_or rows p 0

module _ {K P : Type 0} {D : Codes K P} {choose : Choice K P} {depth turn : P → ℕ} {rows starts w : List ℕ} {a₀ : Row K P} {i₀ k₀ p i k s : ℕ} (h : At D choose depth turn rows starts w a₀ i₀ k₀ p i k s) where
  small : (p : ℕ) → idle turn (row D rows p) < weight
  small p = idle-small turn h.tables.few D rows p h.tables.short

  -- what the row at p is
  seen : (a : Row K P) → row D rows p ≡ a → Going D choose depth w a₀ i₀ k₀ a i k
  seen a e = subst (λ (x : Row K P). Going D choose depth w a₀ i₀ k₀ x i k) e h.going

  pub byte_inside : ¬ (s ≡ 0) → p < length rows
  byte_inside n = inside rows p (λ z. n (h.byte ∙ z))

  pub finish : s ≡ 0 → ReadTo D choose a₀ w i₀ k₀ i
  finish e = go_end D choose depth w a₀ i₀ k₀ i k (seen [] (row-end D rows p (sym h.byte ∙ e)))

  -- a word
  module _ (n : ¬ (s ≡ 0)) (b : s < opening) where
    here : row D rows p ≡ word (D.kind s) ∷ row D rows (p + 1)
    here = row_word D rows p s h.byte n b

    coded : s < D.used
    coded = rw h.byte (h.tables.coded p (rw h.byte at b))

    pub word-stops : (t : ℕ) → t ≡ get_or w i 0 → ¬ (t ≡ s) → StopsAt D choose a₀ w i₀ k₀ i
    word-stops t e d = stop-word D choose depth w a₀ i₀ k₀ s (row D rows (p + 1)) i k (seen _ here) n coded (λ z. d (e ∙ z))

    module _ (t : ℕ) (e : t ≡ get_or w i 0) (d : t ≡ s) where
      pub word-inside : i < length w
      word-inside = inside w i (λ z. n (sym d ∙ e ∙ z))

      pub word-again : Going D choose depth w a₀ i₀ k₀ (row D rows (p + 1)) (i + 1) k
      word-again = go_word D choose depth w a₀ i₀ k₀ s (row D rows (p + 1)) i k (seen _ here) n (sym e ∙ d)

      pub word_less : left turn w (i + 1) (row D rows (p + 1)) < left turn w i (row D rows p)
      word_less = rw here (turn-word turn h.tables.few w i (D.kind s) (row D rows (p + 1)) word-inside (small (p + 1)))

  -- a level opens
  module _ (b : s ≡ opening) where
    opens : row D rows p ≡ In ∷ row D rows (p + 1)
    opens = row-into D rows p s h.byte b

    pub into-stops : k ≡ 0 → StopsAt D choose a₀ w i₀ k₀ i
    into-stops z = stop-into D choose depth w a₀ i₀ k₀ (row D rows (p + 1)) i k (seen _ opens) z

    pub into-again : ¬ (k ≡ 0) → Going D choose depth w a₀ i₀ k₀ (row D rows (p + 1)) i (k - 1)
    into-again z = go_into D choose depth w a₀ i₀ k₀ (row D rows (p + 1)) i k (seen _ opens) z

    pub into_less : left turn w i (row D rows (p + 1)) < left turn w i (row D rows p)
    into_less = rw opens (turn-into turn h.tables.few w i (row D rows (p + 1)))

  -- a level closes
  module _ (b : s ≡ closing) where
    shuts : row D rows p ≡ Out ∷ row D rows (p + 1)
    shuts = row_out D rows p s h.byte b

    pub out-small : k < k₀
    out-small = out-fits D choose depth w a₀ i₀ k₀ (row D rows (p + 1)) i k (seen _ shuts)

    pub out-again : Going D choose depth w a₀ i₀ k₀ (row D rows (p + 1)) i (k + 1)
    out-again = go_out D choose depth w a₀ i₀ k₀ (row D rows (p + 1)) i k (seen _ shuts)

    pub out_less : left turn w i (row D rows (p + 1)) < left turn w i (row D rows p)
    out_less = rw shuts (turn-out turn h.tables.few w i (row D rows (p + 1)))

  -- a part: its row begins at q
  module _ (b : first_part ≤ s) {t : ℕ} (e : t ≡ get_or w i 0) {q : ℕ} (f : q ≡ start_of starts (s - first_part) t) where
    known : s - first_part < h.tables.count
    known = omega (arith, h.byte, h.tables.known p)

    named : row D rows p ≡ part (D.part (s - first_part)) ∷ row D rows (p + 1)
    named = row-part D rows p s h.byte b

    kept : Kept D choose depth turn rows starts (s - first_part) (get_or w i 0)
    kept = h.tables.at (s - first_part) (get_or w i 0) known

    at_q : start_of starts (s - first_part) (get_or w i 0) ≡ q
    at_q = ap (start_of starts (s - first_part)) (sym e) ∙ sym f

    pub none-stops : q ≡ 0 → StopsAt D choose a₀ w i₀ k₀ i
    none-stops z = stop-none D choose depth w a₀ i₀ k₀ turn rows starts (s - first_part) i k kept (h.tables.last _ known) (h.tables.over _ known) (row D rows (p + 1)) (seen _ named) (at_q ∙ z)

    pub called : closes 0 (row D rows q) ≡ true
    called = rw at_q at kept.closed

    module _ (z : ¬ (q ≡ 0)) where
      found : ¬ (start_of starts (s - first_part) (get_or w i 0) ≡ 0)
      found y = z (sym at_q ∙ y)

      -- the last of its row
      module _ (s' : ℕ) (e' : s' ≡ get_or rows (p + 1) 0) (y : s' ≡ 0) where
        last : row D rows p ≡ part (D.part (s - first_part)) ∷ []
        last = named ∙ ap (λ (r : Row K P). part (D.part (s - first_part)) ∷ r) (row-end D rows (p + 1) (sym e' ∙ y))

        pub last-again : Going D choose depth w a₀ i₀ k₀ (row D rows q) i k
        last-again =
            subst (λ (x : ℕ). Going D choose depth w a₀ i₀ k₀ (row D rows x) i k) at_q
            (go_last D choose depth w a₀ i₀ k₀ turn rows starts (s - first_part) i k kept (h.tables.last _ known) (h.tables.over _ known) (seen _ last) found)

        pub last_less : left turn w i (row D rows q) < left turn w i (row D rows p)
        last_less = rw (last, ← at_q) (turn_last turn h.tables.few w i (D.part (s - first_part)) (row D rows (start_of starts (s - first_part) (get_or w i 0))) kept.turns)

      -- not the last: a call
      module _ (s' : ℕ) (e' : s' ≡ get_or rows (p + 1) 0) (y : ¬ (s' ≡ 0)) where
        more : row D rows (p + 1) ≡ sym_of D (get_or rows (p + 1) 0) ∷ row D rows (suc (p + 1))
        more = row_next D rows (p + 1) (λ x. y (e' ∙ x))

        pub call_less : k * most_deep + deep depth 0 (row D rows q) < k₀ * most_deep + deep depth 0 a₀
        call_less =
            rw (← at_q)
            (call-falls D choose depth w a₀ i₀ k₀ turn rows starts (s - first_part) i k kept (h.tables.last _ known) (h.tables.over _ known) (h.tables.low _) _ _
            (seen _ (named ∙ ap (λ (r : Row K P). part (D.part (s - first_part)) ∷ r) more)))

        pub call-stops : (e : ℕ) → StopsAt D choose (row D rows q) w i k e → StopsAt D choose a₀ w i₀ k₀ e
        call-stops e x = stop_on D choose depth w a₀ i₀ k₀ turn rows starts (s - first_part) i k kept (h.tables.last _ known) (h.tables.over _ known) (row D rows (p + 1)) e (seen _ named) found (rw at_q x)

        pub call-again : (e : ℕ) → ReadTo D choose (row D rows q) w i k e → Going D choose depth w a₀ i₀ k₀ (row D rows (p + 1)) e k
        call-again e x = go_on D choose depth w a₀ i₀ k₀ turn rows starts (s - first_part) i k kept (h.tables.last _ known) (h.tables.over _ known) (row D rows (p + 1)) e (seen _ named) found (rw at_q x)

        on_less : (a r : Row K P) (e : ℕ) (x : Symbol K P) (r' : Row K P) → r ≡ x ∷ r' → a ≡ part (D.part (s - first_part)) ∷ r → i ≤ e → e ≤ length w → idle turn r < weight → left turn w e r < left turn w i a
        on_less a r e x r' f g u v o = rw (g, f) (turn_on turn h.tables.few w i e (D.part (s - first_part)) x r' u v (rw f at o))

        pub call-again_less : (e : ℕ) → ReadTo D choose (row D rows q) w i k e → left turn w e (row D rows (p + 1)) < left turn w i (row D rows p)
        call-again_less e x = on_less (row D rows p) (row D rows (p + 1)) e _ _ more named x.on x.fits (small (p + 1))
