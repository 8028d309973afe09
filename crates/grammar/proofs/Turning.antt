-- What each turn of the reader comes to, by the symbol that it meets.
-- Assumes nothing.
use mathlib.Core.Bool.{true}
use mathlib.Core.Path.{◌≡◌, refl, sym, ◌∙◌, subst}
use mathlib.Core.Logic.{inl, inr}
use mathlib.Core.List.{List}
use Prim.Native.Nat.{ℕ, ◌+◌, ◌*◌, ◌<◌}
use native.Mathlib.Omega.{arith}
use lib.ListN.{get_or}
use Rattle.ll1.specs.Rows.{most_deep, row, closes, deep, ReadTo, StopsAt}
use Rattle.ll1.proofs.Steps.{Going, left, inside}
use Rattle.ll1.proofs.Turns.{At, finish, word-stops, word-again, word_less, into-stops, into-again, into_less, out-again, out_less, none-stops, called, last-again, last_less, call_less, call-stops, call-again, call-again_less}
use Rattle.language.specs.Grammar.{Line}
use Rattle.language.specs.Texts.{most_bytes}
use Rattle.grammar_law.specs.Tables.{depth, turn}
use Rattle.grammar_law.specs.Codes.{codes, choice}
use Rattle.grammar.specs.Reading.{Turned}
use Rattle.grammar.specs.declared.Turn.{Turn}
use Rattle.grammar.specs.declared.Turn.TheVariants.{End, Stop, Word, Level, Last, Call}

module _ {rows starts w : List ℕ} {a₀ : Line} {i₀ k₀ p i k : ℕ} (h : At codes choice depth turn rows starts w a₀ i₀ k₀ p i k (get_or rows p 0)) where
  -- p is in the rows
  pub low : ¬ (get_or rows p 0 ≡ 0) → p < most_bytes
  low n = omega (arith, inside rows p n, h.tables.short)

  module _ {t : ℕ} (e : t ≡ get_or w i 0) {r : Turn} (x : Turned rows starts p t k r) where
    pub ends : r ≡ End → ReadTo codes choice a₀ w i₀ k₀ i
    ends f = finish h (subst (Turned rows starts p t k) f x)

    pub stops : r ≡ Stop → StopsAt codes choice a₀ w i₀ k₀ i
    stops f = go (subst (Turned rows starts p t k) f x)
      where
        go : Turned rows starts p t k Stop → StopsAt codes choice a₀ w i₀ k₀ i
        go (inl (n, b, d)) = word-stops h n b t e d
        go (inr (inl (b, z))) = into-stops h b z
        go (inr (inr (b, z))) = none-stops h b e z refl

    -- a word is read
    module _ (f : r ≡ Word) where
      met : Turned rows starts p t k Word
      met = subst (Turned rows starts p t k) f x

      pub word-here : ¬ (t ≡ 0)
      word-here z = met.0 (sym met.2 ∙ z)

      pub word_low : p < most_bytes
      word_low = low met.0

      pub word_on : Going codes choice depth w a₀ i₀ k₀ (row codes rows (p + 1)) (i + 1) k
      word_on = word-again h met.0 met.1 t e met.2

      pub word-falls : left turn w (i + 1) (row codes rows (p + 1)) < left turn w i (row codes rows p)
      word-falls = word_less h met.0 met.1 t e met.2

    -- a level opens or closes
    module _ {j : ℕ} (f : r ≡ Level j) where
      pub level-low : p < most_bytes
      level-low = go (subst (Turned rows starts p t k) f x)
        where
          go : Turned rows starts p t k (Level j) → p < most_bytes
          go (inl (b, n, q)) = low (λ z. omega (arith, b, z))
          go (inr (b, q)) = low (λ z. omega (arith, b, z))

      pub level_on : Going codes choice depth w a₀ i₀ k₀ (row codes rows (p + 1)) i j
      level_on = go (subst (Turned rows starts p t k) f x)
        where
          go : Turned rows starts p t k (Level j) → Going codes choice depth w a₀ i₀ k₀ (row codes rows (p + 1)) i j
          go (inl (b, n, q)) = rw q (into-again h b n)
          go (inr (b, q)) = rw q (out-again h b)

      pub level-falls : left turn w i (row codes rows (p + 1)) < left turn w i (row codes rows p)
      level-falls = go (subst (Turned rows starts p t k) f x)
        where
          go : Turned rows starts p t k (Level j) → left turn w i (row codes rows (p + 1)) < left turn w i (row codes rows p)
          go (inl (b, n, q)) = into_less h b
          go (inr (b, q)) = out_less h b

    -- the last part of a row
    module _ {q : ℕ} (f : r ≡ Last q) where
      last-met : Turned rows starts p t k (Last q)
      last-met = subst (Turned rows starts p t k) f x

      pub last_on : Going codes choice depth w a₀ i₀ k₀ (row codes rows q) i k
      last_on = last-again h last-met.0.part e last-met.0.start last-met.0.found (get_or rows (p + 1) 0) refl last-met.1

      pub last-falls : left turn w i (row codes rows q) < left turn w i (row codes rows p)
      last-falls = last_less h last-met.0.part e last-met.0.start last-met.0.found (get_or rows (p + 1) 0) refl last-met.1

    -- another part
    module _ {q : ℕ} (f : r ≡ Call q) where
      call_met : Turned rows starts p t k (Call q)
      call_met = subst (Turned rows starts p t k) f x

      pub call-low : p < most_bytes
      call-low = low (λ z. omega (arith, call_met.0.part, z))

      pub call-closed : closes 0 (row codes rows q) ≡ true
      call-closed = called h call_met.0.part e call_met.0.start

      pub call-falls : k * most_deep + deep depth 0 (row codes rows q) < k₀ * most_deep + deep depth 0 a₀
      call-falls = call_less h call_met.0.part e call_met.0.start call_met.0.found (get_or rows (p + 1) 0) refl call_met.1

      module _ {o : ℕ} where
        pub call-stopped : StopsAt codes choice (row codes rows q) w i k o → StopsAt codes choice a₀ w i₀ k₀ o
        call-stopped = call-stops h call_met.0.part e call_met.0.start call_met.0.found (get_or rows (p + 1) 0) refl call_met.1 o

        pub call_on : ReadTo codes choice (row codes rows q) w i k o → Going codes choice depth w a₀ i₀ k₀ (row codes rows (p + 1)) o k
        call_on = call-again h call_met.0.part e call_met.0.start call_met.0.found (get_or rows (p + 1) 0) refl call_met.1 o

        pub call_on_falls : ReadTo codes choice (row codes rows q) w i k o → left turn w o (row codes rows (p + 1)) < left turn w i (row codes rows p)
        call_on_falls = call-again_less h call_met.0.part e call_met.0.start call_met.0.found (get_or rows (p + 1) 0) refl call_met.1 o
