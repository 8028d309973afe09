-- Each turn of a reader that goes along a row: what holds after it, and what falls.
-- Assumes nothing.
use mathlib.Core.Bool.{Bool, true, false}
use mathlib.Core.Path.{◌≡◌, refl, sym, ◌∙◌, ap, subst}
use mathlib.Core.List.{List, [], ◌∷◌, ◌++◌, append_assoc, append-nil}
use mathlib.Core.Option.{none}
use Prim.Native.Nat.{ℕ, zero, suc, ◌+◌, ◌-◌, ◌*◌, ◌≤◌, ◌<◌}
use native.Mathlib.Numerals.{add-one}
use native.Mathlib.Decide.{dec_lt}
use native.Mathlib.Omega.{arith}
use lib.ListN.{length, get_or, drop}
use lib.Dec.{ltb}
use borrow.Author.Tests.{ne_eqb, lt-ltb, le-ltb, ltb-true, ltb-false}
use Rattle.ll1.specs.Grammar.{Symbol, word, part, In, Out, Row}
use Rattle.ll1.specs.Goes.{Result, done, stopped, with_rule, look, Choice, Goes, end, shift, other, over, take, stuck, into, deep, out}
use Rattle.ll1.specs.Rows.{opening, closing, first_part, most_deep, most_bytes, Codes, sym_of, row_of, row, words, start_of, closes, larger, idle, Kept, ReadTo, StopsAt}
use Rattle.ll1.specs.Rows as rows
use Rattle.ll1.proofs.Sets.{clash}
use Rattle.ll1.proofs.Then.{rules, follow}

-- ---- bytes and symbols

module _ {K P : Type 0} (D : Codes K P) where
  pub row-end : (l : List ℕ) (p : ℕ) → get_or l p 0 ≡ 0 → row D l p ≡ []
  unfolding row_of
  row-end [] zero e = refl
  row-end [] (suc p) e = refl
  row-end (zero ∷ l) zero e = refl
  row-end (suc x ∷ l) zero e = absurd (omega arith)
  row-end (x ∷ l) (suc p) e = row-end l p e

  pub row_next : (l : List ℕ) (p : ℕ) → ¬ (get_or l p 0 ≡ 0) → row D l p ≡ sym_of D (get_or l p 0) ∷ row D l (suc p)
  unfolding row_of
  row_next [] p e = absurd (e refl)
  row_next (zero ∷ l) zero e = absurd (e refl)
  row_next (suc x ∷ l) zero e = refl
  row_next (x ∷ l) (suc p) e = row_next l p e

  row_step : (l : List ℕ) (p s : ℕ) (x : Symbol K P) → s ≡ get_or l p 0 → ¬ (s ≡ 0) → sym_of D s ≡ x → row D l p ≡ x ∷ row D l (p + 1)
  row_step l p s x e n f = row_next l p (λ z. n (e ∙ z)) ∙ ap (λ (y : Symbol K P). y ∷ row D l (suc p)) (ap (sym_of D) (sym e) ∙ f) ∙ ap (λ (q : ℕ). x ∷ row D l q) (sym (add-one p))

  pub row_word : (l : List ℕ) (p s : ℕ) → s ≡ get_or l p 0 → ¬ (s ≡ 0) → s < opening → row D l p ≡ word (D.kind s) ∷ row D l (p + 1)
  unfolding sym_of
  row_word l p s e n h = row_step l p s (word (D.kind s)) e n (rw (lt-ltb s opening h, sym_of))

  pub row-into : (l : List ℕ) (p s : ℕ) → s ≡ get_or l p 0 → s ≡ opening → row D l p ≡ In ∷ row D l (p + 1)
  unfolding sym_of
  row-into l p s e h = row_step l p s In e (omega arith) (ap (sym_of D) h)

  pub row_out : (l : List ℕ) (p s : ℕ) → s ≡ get_or l p 0 → s ≡ closing → row D l p ≡ Out ∷ row D l (p + 1)
  unfolding sym_of
  row_out l p s e h = row_step l p s Out e (omega arith) (ap (sym_of D) h)

  pub row-part : (l : List ℕ) (p s : ℕ) → s ≡ get_or l p 0 → first_part ≤ s → row D l p ≡ part (D.part (s - first_part)) ∷ row D l (p + 1)
  unfolding sym_of
  row-part l p s e h =
      row_step l p s (part (D.part (s - first_part))) e (omega arith) (rw (le-ltb s opening (omega arith), sym_of) (rw (ne_eqb s opening (omega arith)) (rw (ne_eqb s closing (omega arith)))))

  row-length : (l : List ℕ) (p : ℕ) → length (row D l p) ≤ length l
  unfolding row_of
  row-length [] zero = omega arith
  row-length [] (suc p) = omega arith
  row-length (zero ∷ l) zero = omega arith
  row-length (suc x ∷ l) zero = omega (arith, row-length l 0)
  row-length (x ∷ l) (suc p) = omega (arith, row-length l p)

  -- ---- words

  words-here : (w : List ℕ) (i : ℕ) → i < length w → drop i (words D w) ≡ D.kind (get_or w i 0) ∷ drop (suc i) (words D w)
  words-here [] i h = absurd (omega arith)
  words-here (x ∷ w) zero h = refl
  words-here (x ∷ w) (suc i) h = words-here w i (omega arith)

  words_over : (w : List ℕ) (i : ℕ) → length w ≤ i → drop i (words D w) ≡ []
  words_over [] zero h = refl
  words_over [] (suc i) h = refl
  words_over (x ∷ w) zero h = absurd (omega arith)
  words_over (x ∷ w) (suc i) h = words_over w i (omega arith)

pub inside : (t : List ℕ) (e : ℕ) → ¬ (get_or t e 0 ≡ 0) → e < length t
inside [] e q = absurd (q refl)
inside (x ∷ t) zero q = omega arith
inside (x ∷ t) (suc e) q = omega (arith, inside t e q)

outside : (t : List ℕ) (e : ℕ) → length t ≤ e → get_or t e 0 ≡ 0
outside [] e h = refl
outside (x ∷ t) zero h = absurd (omega arith)
outside (x ∷ t) (suc e) h = outside t e (omega arith)

-- ---- the larger of two, and rows that close

larger-left : (a b : ℕ) → a ≤ larger a b
unfolding larger
larger-left a b = go (ltb a b) refl
  where
    go : (t : Bool) → ltb a b ≡ t → a ≤ elim t [ true ↦ b | false ↦ a ]
    go true e = omega (arith, ltb-true a b e)
    go false e = omega arith

larger-right : (a b : ℕ) → b ≤ larger a b
unfolding larger
larger-right a b = go (ltb a b) refl
  where
    go : (t : Bool) → ltb a b ≡ t → b ≤ elim t [ true ↦ b | false ↦ a ]
    go true e = omega arith
    go false e = omega (arith, ltb-false a b e)

module _ {K P : Type 0} where
  deep-rest : (depth : P → ℕ) (o : ℕ) (n : P) (r : Row K P) → rows.deep depth o r ≤ rows.deep depth o (part n ∷ r)
  unfolding rows.deep
  deep-rest depth zero n [] = omega arith
  deep-rest depth zero n (x ∷ r) = larger-right (suc (depth n)) (rows.deep depth zero (x ∷ r))
  deep-rest depth (suc o) n r = omega arith

  closed_open : (o : ℕ) (r : Row K P) → closes o (Out ∷ r) ≡ true → 0 < o
  unfolding closes
  closed_open zero r e = clash (sym e)
  closed_open (suc o) r e = omega arith

  closed-end : (o : ℕ) (a : Row K P) → a ≡ [] → closes o a ≡ true → o ≡ 0
  unfolding closes
  closed-end zero a q e = refl
  closed-end (suc o) a q e = clash (sym (subst (λ (r : Row K P). closes (suc o) r ≡ true) q e))

rules-rules : {K : Type 0} (b d : List ℕ) (o : Result K) → rules b (rules d o) ≡ rules (b ++ d) o
rules-rules b d (done j l w) = ap (λ (x : List ℕ). done j x w) (sym (append_assoc b d l))
rules-rules b d (stopped w) = refl

with_rules : {K : Type 0} (i : ℕ) (d : List ℕ) (o : Result K) → with_rule i (rules d o) ≡ rules (i ∷ d) o
with_rules i d (done j l w) = refl
with_rules i d (stopped w) = refl

-- ---- what holds along a row

module _ {K P : Type 0} (D : Codes K P) (choose : Choice K P) (depth : P → ℕ) where
  pub record Going (w : List ℕ) (a₀ : Row K P) (i₀ k₀ : ℕ) (a : Row K P) (i k : ℕ) : Type 0 where
    pub fits : i ≤ length w
    pub on : i₀ ≤ i
    pub within : k ≤ k₀
    pub closed : closes (k₀ - k) a ≡ true
    pub lower : rows.deep depth (k₀ - k) a ≤ rows.deep depth 0 a₀
    pub past : List ℕ
    pub goes : (o : Result K) → Goes choose k a (drop i (words D w)) o → Goes choose k₀ a₀ (drop i₀ (words D w)) (rules past o)

  module _ (w : List ℕ) (a₀ : Row K P) (i₀ k₀ : ℕ) where
    pub go_start : closes 0 a₀ ≡ true → i₀ ≤ length w → Going w a₀ i₀ k₀ a₀ i₀ k₀
    go_start c h =
        let z : k₀ - k₀ ≡ 0 = omega arith in
        record { fits = h; on = omega arith; within = omega arith; closed = rw z c; lower = rw z (omega arith); past = []; goes = λ o x. rw (no_rules o) x }
      where
        no_rules : (o : Result K) → rules [] o ≡ o
        no_rules (done j l w) = refl
        no_rules (stopped w) = refl

    pub go_end : (i k : ℕ) → Going w a₀ i₀ k₀ [] i k → ReadTo D choose a₀ w i₀ k₀ i
    go_end i k g =
        let z : k₀ - k ≡ 0 = closed-end (k₀ - k) [] refl g.closed in
        let y : k ≡ k₀ = omega (arith, g.within) in
        record { on = g.on; fits = g.fits; rules = g.past ++ []; goes = rw y at (g.goes (done k [] (drop i (words D w))) end) }

    stops : (a : Row K P) (i k : ℕ) → Going w a₀ i₀ k₀ a i k → (e : ℕ) → e ≤ length w → Goes choose k a (drop i (words D w)) (stopped (drop e (words D w))) → StopsAt D choose a₀ w i₀ k₀ e
    stops a i k g e h x = record { fits = h; goes = g.goes (stopped (drop e (words D w))) x }

    pub go_word : (s : ℕ) (r : Row K P) (i k : ℕ) → Going w a₀ i₀ k₀ (word (D.kind s) ∷ r) i k → ¬ (s ≡ 0) → get_or w i 0 ≡ s → Going w a₀ i₀ k₀ r (i + 1) k
    unfolding closes rows.deep
    go_word s r i k g n e =
        let h : i < length w = inside w i (λ z. n (sym e ∙ z)) in
        record {
          fits = omega arith;
          on = omega (arith, g.on);
          within = g.within;
          closed = g.closed;
          lower = g.lower;
          past = g.past;
          goes = λ o x. g.goes o (rw (words-here D w i h) (shift (ap D.kind (sym e)) (rw add-one at x)));
        }

    pub stop-word : (s : ℕ) (r : Row K P) (i k : ℕ) → Going w a₀ i₀ k₀ (word (D.kind s) ∷ r) i k → ¬ (s ≡ 0) → s < D.used → ¬ (get_or w i 0 ≡ s) → StopsAt D choose a₀ w i₀ k₀ i
    stop-word s r i k g m b n = stops (word (D.kind s) ∷ r) i k g i g.fits (go (dec_lt i (length w)))
      where
        go : Dec (i < length w) → Goes choose k (word (D.kind s) ∷ r) (drop i (words D w)) (stopped (drop i (words D w)))
        go (yes h) = rw (words-here D w i h) (other (λ z. n (sym (D.told s (get_or w i 0) m b z))))
        go (no h) = rw (words_over D w i (omega arith)) over

    pub go_into : (r : Row K P) (i k : ℕ) → Going w a₀ i₀ k₀ (In ∷ r) i k → ¬ (k ≡ 0) → Going w a₀ i₀ k₀ r i (k - 1)
    unfolding closes rows.deep
    go_into r i k g n =
        let z : k₀ - (k - 1) ≡ suc (k₀ - k) = omega (arith, g.within) in
        let y : k ≡ suc (k - 1) = omega arith in
        record {
          fits = g.fits;
          on = g.on;
          within = omega (arith, g.within);
          closed = rw z g.closed;
          lower = rw z g.lower;
          past = g.past;
          goes = λ o x. g.goes o (subst (λ (m : ℕ). Goes choose m (In ∷ r) (drop i (words D w)) o) (sym y) (into x));
        }

    pub stop-into : (r : Row K P) (i k : ℕ) → Going w a₀ i₀ k₀ (In ∷ r) i k → k ≡ 0 → StopsAt D choose a₀ w i₀ k₀ i
    stop-into r i k g e = stops (In ∷ r) i k g i g.fits (rw e deep)

    pub out-fits : (r : Row K P) (i k : ℕ) → Going w a₀ i₀ k₀ (Out ∷ r) i k → k < k₀
    out-fits r i k g = omega (arith, closed_open (k₀ - k) r g.closed)

    pub go_out : (r : Row K P) (i k : ℕ) → Going w a₀ i₀ k₀ (Out ∷ r) i k → Going w a₀ i₀ k₀ r i (k + 1)
    unfolding closes rows.deep
    go_out r i k g =
        let h : k < k₀ = out-fits r i k g in
        let z : k₀ - k ≡ suc (k₀ - (k + 1)) = omega arith in
        record {
          fits = g.fits;
          on = g.on;
          within = omega arith;
          closed = subst (λ (m : ℕ). closes m (Out ∷ r) ≡ true) z g.closed;
          lower = subst (λ (m : ℕ). rows.deep depth m (Out ∷ r) ≤ rows.deep depth 0 a₀) z g.lower;
          past = g.past;
          goes = λ o x. g.goes o (out (rw add-one at x));
        }

    module _ (turn : P → ℕ) (bytes starts : List ℕ) (n : ℕ) (i k : ℕ) (kept : Kept D choose depth turn bytes starts n (get_or w i 0)) (last : start_of starts n 0 ≡ 0) (at_end_lem : choose (D.part n) none ≡ none) where
      abbrev q : ℕ
      q = start_of starts n (get_or w i 0)

      pub stop-none : (r : Row K P) → Going w a₀ i₀ k₀ (part (D.part n) ∷ r) i k → q ≡ 0 → StopsAt D choose a₀ w i₀ k₀ i
      stop-none r g e = stops (part (D.part n) ∷ r) i k g i g.fits (stuck (go (dec_lt i (length w))))
        where
          go : Dec (i < length w) → choose (D.part n) (look (drop i (words D w))) ≡ none
          go (yes h) = rw (words-here D w i h) (kept.none e)
          go (no h) = rw (words_over D w i (omega arith)) at_end_lem

      -- where a rule is called for, a word stands there
      stands : ¬ (q ≡ 0) → i < length w
      stands z = go (dec_lt i (length w))
        where
          go : Dec (i < length w) → i < length w
          go (yes h) = h
          go (no h) = absurd (z (ap (start_of starts n) (outside w i (omega arith)) ∙ last))

      taken : (r : Row K P) (o : Result K) (z : ¬ (q ≡ 0)) → Goes choose k (row D bytes q ++ r) (drop i (words D w)) o → Goes choose k (part (D.part n) ∷ r) (drop i (words D w)) (with_rule (kept.rule z).0 o)
      taken r o z x = take (kept.rule z).0 (row D bytes q) o (ap (λ (v : List K). choose (D.part n) (look v)) (words-here D w i (stands z)) ∙ (kept.rule z).1) x refl

      -- the last symbol of a row: the reader goes on in the row that it calls for
      pub go_last : Going w a₀ i₀ k₀ (part (D.part n) ∷ []) i k → ¬ (q ≡ 0) → Going w a₀ i₀ k₀ (row D bytes q) i k
      unfolding closes rows.deep
      go_last g z =
          let e : k₀ - k ≡ 0 = closed-end {K = K} {P = P} (k₀ - k) [] refl g.closed in
          let h : depth (D.part n) ≤ rows.deep depth 0 a₀ = rw e at g.lower in
          record {
            fits = g.fits;
            on = g.on;
            within = g.within;
            closed = rw e kept.closed;
            lower = rw e (omega (arith, kept.deeper));
            past = g.past ++ ((kept.rule z).0 ∷ []);
            goes = λ o x. rw (← rules-rules g.past ((kept.rule z).0 ∷ []) o, one o) (g.goes (with_rule (kept.rule z).0 o) (taken [] o z (rw append-nil x)));
          }
        where
          one : (o : Result K) → rules ((kept.rule z).0 ∷ []) o ≡ with_rule (kept.rule z).0 o
          one (done j l v) = refl
          one (stopped v) = refl

      pub go_on : (r : Row K P) (e : ℕ) → Going w a₀ i₀ k₀ (part (D.part n) ∷ r) i k → ¬ (q ≡ 0) → ReadTo D choose (row D bytes q) w i k e → Going w a₀ i₀ k₀ r e k
      unfolding closes
      go_on r e g z x =
          record {
            fits = x.fits;
            on = omega (arith, g.on, x.on);
            within = g.within;
            closed = g.closed;
            lower = omega (arith, g.lower, deep-rest depth (k₀ - k) (D.part n) r);
            past = g.past ++ ((kept.rule z).0 ∷ x.rules);
            goes = λ o y. rw (← rules-rules g.past ((kept.rule z).0 ∷ x.rules) o, ← with_rules (kept.rule z).0 x.rules o)
                (g.goes (with_rule (kept.rule z).0 (rules x.rules o)) (taken r (rules x.rules o) z (follow choose x.goes r o y)));
          }

      pub stop_on : (r : Row K P) (e : ℕ) → Going w a₀ i₀ k₀ (part (D.part n) ∷ r) i k → ¬ (q ≡ 0) → StopsAt D choose (row D bytes q) w i k e → StopsAt D choose a₀ w i₀ k₀ e
      stop_on r e g z x = stops (part (D.part n) ∷ r) i k g e x.fits (taken r (stopped (drop e (words D w))) z (follow choose x.goes r))

      -- a call goes less deep
      pub call-falls : depth (D.part n) < most_deep → (x : Symbol K P) (r : Row K P) → Going w a₀ i₀ k₀ (part (D.part n) ∷ (x ∷ r)) i k
          → k * most_deep + rows.deep depth 0 (row D bytes q) < k₀ * most_deep + rows.deep depth 0 a₀
      unfolding rows.deep
      call-falls low x r g = go (k₀ - k) refl g.lower
        where
          go : (o : ℕ) → k₀ - k ≡ o → rows.deep depth o (part (D.part n) ∷ (x ∷ r)) ≤ rows.deep depth 0 a₀ → k * most_deep + rows.deep depth 0 (row D bytes q) < k₀ * most_deep + rows.deep depth 0 a₀
          go zero e h = let y : k ≡ k₀ = omega (arith, g.within) in omega (arith, larger-left (suc (depth (D.part n))) (rows.deep depth zero (x ∷ r)), kept.deeper)
          go (suc o) e h = omega (arith, kept.deeper)

-- ---- what falls with each turn

-- more than the turns that read no word
abbrev pub weight : ℕ
weight = most_bytes + most_deep + 1

-- the words left and the row left
abbrev pub left : {K P : Type 0} → (P → ℕ) → List ℕ → ℕ → Row K P → ℕ
left turn w i a = (length w - i) * weight + idle turn a

module _ {K P : Type 0} (turn : P → ℕ) (few : (n : P) → turn n < most_deep) where
  idle-least : (a : Row K P) → idle turn a ≤ length a + most_deep
  unfolding idle
  idle-least [] = omega arith
  idle-least (word t ∷ r) = omega arith
  idle-least (In ∷ r) = omega (arith, idle-least r)
  idle-least (Out ∷ r) = omega (arith, idle-least r)
  idle-least (part n ∷ []) = omega (arith, few n)
  idle-least (part n ∷ (x ∷ r)) = omega (arith, idle-least (x ∷ r))

  pub idle-small : (D : Codes K P) (l : List ℕ) (p : ℕ) → length l ≤ most_bytes → idle turn (row D l p) < weight
  idle-small D l p h = omega (arith, idle-least (row D l p), row-length D l p)

  pub turn-word : (w : List ℕ) (i : ℕ) (t : K) (r : Row K P) → i < length w → idle turn r < weight → left turn w (i + 1) r < left turn w i (word t ∷ r)
  unfolding idle
  turn-word w i t r h b = omega arith

  pub turn-into : (w : List ℕ) (i : ℕ) (r : Row K P) → left turn w i r < left turn w i (In ∷ r)
  unfolding idle
  turn-into w i r = omega arith

  pub turn-out : (w : List ℕ) (i : ℕ) (r : Row K P) → left turn w i r < left turn w i (Out ∷ r)
  unfolding idle
  turn-out w i r = omega arith

  pub turn_last : (w : List ℕ) (i : ℕ) (n : P) (a : Row K P) → idle turn a ≤ turn n → left turn w i a < left {K = K} turn w i (part n ∷ [])
  unfolding idle
  turn_last w i n a h = omega arith

  pub turn_on : (w : List ℕ) (i e : ℕ) (n : P) (x : Symbol K P) (r : Row K P) → i ≤ e → e ≤ length w → idle turn (x ∷ r) < weight → left turn w e (x ∷ r) < left turn w i (part n ∷ (x ∷ r))
  unfolding idle
  turn_on w i e n x r h f b = omega arith
