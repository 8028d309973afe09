-- Every list of words has an answer, and one only; and a sentence has one derivation.
-- Assumes nothing.
use mathlib.Core.Path.{◌≡◌, refl, sym, ◌∙◌, ap, ap₂, subst}
use mathlib.Core.Logic.{◌⊎◌, inl, inr}
use mathlib.Core.List.{List, [], ◌∷◌, ◌++◌, append-nil}
use Prim.Native.Nat.{ℕ, zero, suc, ◌-◌, ◌≤◌, ◌<◌}
use native.Mathlib.Decide.{dec_lt}
use native.Mathlib.Omega.{arith}
use lib.ListN.{length, take, drop, take-append-drop, length-append}
use lib.Seq.{take_at}
use Rattle.ll1.specs.Grammar.{Row, Grammar, Reads, stop, reads, rule, into, out, Sentence, Begins, Continues, TooDeep, Refused, Read, sentence, refused, Answers}
use Rattle.ll1.proofs.Tests.{Claims, Passes}
use Rattle.ll1.proofs.Forced.{Good, live_end, same-rule, good-rule}
use Rattle.ll1.proofs.Parser.{Answer, ok, bad, deep, tired, run, Never, Over, Right, run-right, at_rule, at_word, at_into, at_out, empty-row}
use Rattle.ll1.proofs.Ends.{Done, finds}
use Rattle.ll1.proofs.Whole.{shorter, beginning, continues, begun}

-- ---- lists cut in two

take_next : {K : Type 0} (u v : List K) (t : K) → take (suc (length u)) (u ++ (t ∷ v)) ≡ u ++ (t ∷ [])
take_next [] v t = refl
take_next (x ∷ u) v t = ap (λ (l : List _). x ∷ l) (take_next u v t)

-- the first m of the first n
take_more : {K : Type 0} (m n : ℕ) (w : List K) → m ≤ n → (v : List K) × (take n w ≡ take m w ++ v)
take_more zero n w h = (take n w, refl)
take_more (suc m) zero w h = absurd (omega arith)
take_more (suc m) (suc n) [] h = ([], refl)
take_more (suc m) (suc n) (x ∷ w) h = let (v, e) = take_more m n w (omega arith) in (v, ap (λ (l : List _). x ∷ l) e)

module _ {K P : Type 0} (C : Claims K P) (G : Grammar K P) (test : Passes C G) (most : ℕ) (a : Row K P) where
  -- ---- there is an answer

  -- why reading stops behind the words u
  abbrev Fault : List K → List K → Type 0
  Fault u [] = (k : ℕ) → ¬ (Sentence G k a u)
  Fault u (t ∷ v) = (¬ (Continues G a (u ++ (t ∷ [])))) ⊎ TooDeep G most a (u ++ (t ∷ []))

  never_fault : (u rest : List K) → Never C G test a u rest → Fault u rest
  never_fault u [] n = n
  never_fault u (t ∷ v) n = inl (λ c. let (k, x) = begun G a (u ++ (t ∷ [])) c in n k x)

  over_fault : (u rest : List K) → Over C G test most (suc most) a u rest → Fault u rest
  over_fault u [] x = absurd x
  over_fault u (t ∷ v) x = inr x

  refusal : (w u rest : List K) → w ≡ u ++ rest → Begins G most a u → Fault u rest → Refused G most a w (length u)
  refusal w u rest e x f =
      record {
        inside = omega (arith, ap length e, length-append u rest);
        before = subst (Begins G most a) (sym (ap (take (length u)) e ∙ take_at u rest (length u) refl)) x;
        here = here rest e f;
        short = short rest e f;
      }
    where
      here : (v : List K) → w ≡ u ++ v → Fault u v → length u < length w → (¬ (Continues G a (take (suc (length u)) w))) ⊎ TooDeep G most a (take (suc (length u)) w)
      here [] e f h = absurd (omega (arith, ap length e, length-append u []))
      here (t ∷ v) e f h = subst (λ (l : List K). (¬ (Continues G a l)) ⊎ TooDeep G most a l) (sym (ap (take (suc (length u))) e ∙ take_next u v t)) f

      short : (v : List K) → w ≡ u ++ v → Fault u v → length u ≡ length w → (k : ℕ) → ¬ (Sentence G k a w)
      short [] e f h = λ k s. f k (subst (Sentence G k a) (e ∙ append-nil u) s)
      short (t ∷ v) e f h = absurd (omega (arith, ap length e, length-append u (t ∷ v)))

  -- what the parser's answer says of the words
  abbrev pub answer_of : List K → Answer K → Read
  answer_of w (ok d) = sentence
  answer_of w (bad rest) = refused (length w - length rest)
  answer_of w (deep rest) = refused (length w - length rest)
  answer_of w tired = sentence

  place : (w u v : List K) → w ≡ u ++ v → length u ≡ length w - length v
  place w u v e = omega (arith, ap length e, length-append u v)

  right-answers : (w : List K) (o : Answer K) → Done o → Right C G test most a w o → Answers G most a w (answer_of w o)
  right-answers w (ok d) f x = (d, x.0, x.1)
  right-answers w (bad rest) f x = rw (← place w x.read rest x.parts) (refusal w x.read rest x.parts x.begins (never_fault x.read rest x.why))
  right-answers w (deep rest) f x = rw (← place w x.read rest x.parts) (refusal w x.read rest x.parts x.begins (over_fault x.read rest x.why))
  right-answers w tired f x = absurd f

  -- computing the answer: f steps, which were enough
  pub computed : (f : ℕ) (w : List K) → Good C a → Done (run C G f most a w) → Answers G most a w (answer_of w (run C G f most a w))
  computed f w g e = right-answers w (run C G f most a w) e (run-right C G test f most a w g)

  pub answered : (w : List K) → Good C a → (r : Read) × Answers G most a w r
  answered w g = let (f, e) = finds C G test w a most in (answer_of w (run C G f most a w), computed f w g e)

  -- ---- there is one

  no_fault : (w : List K) (e : ℕ) → Refused G most a w e → e < length w → ¬ (Begins G most a (take (suc e) w))
  no_fault w e x h b = go (x.here h)
    where
      go : (¬ (Continues G a (take (suc e) w))) ⊎ TooDeep G most a (take (suc e) w) → ⊥
      go (inl n) = n (continues G C test most a (take (suc e) w) b)
      go (inr n) = n.1 b

  not_both : (w : List K) (e : ℕ) → Sentence G most a w → Refused G most a w e → ⊥
  not_both w e s x = go (dec_lt e (length w))
    where
      go : Dec (e < length w) → ⊥
      go (yes h) = no_fault w e x h (beginning G most a (take (suc e) w) (drop (suc e) w) (rw (take-append-drop (suc e) w) s))
      go (no h) = x.short (omega (arith, x.inside)) most s

  not_before : (w : List K) (e f : ℕ) → Refused G most a w e → Refused G most a w f → e < f → ⊥
  not_before w e f x y h =
      let (v, q) = take_more (suc e) f w (omega arith) in
      no_fault w e x (omega (arith, y.inside)) (shorter G most a (take (suc e) w) v (subst (Begins G most a) q y.before))

  one_place : (w : List K) (e f : ℕ) → Refused G most a w e → Refused G most a w f → e ≡ f
  one_place w e f x y = go (dec_lt e f) (dec_lt f e)
    where
      go : Dec (e < f) → Dec (f < e) → e ≡ f
      go (yes h) g = absurd (not_before w e f x y h)
      go (no h) (yes g) = absurd (not_before w f e y x g)
      go (no h) (no g) = omega arith

  pub one_answer : (w : List K) (r q : Read) → Answers G most a w r → Answers G most a w q → r ≡ q
  one_answer w sentence sentence x y = refl
  one_answer w sentence (refused e) x y = absurd (not_both w e x y)
  one_answer w (refused e) sentence x y = absurd (not_both w e y x)
  one_answer w (refused e) (refused f) x y = ap refused (one_place w e f x y)

module _ {K P : Type 0} (C : Claims K P) (G : Grammar K P) (test : Passes C G) where
  -- a sentence has one derivation, and so one tree
  pub one_derivation : (j l : ℕ) {k : ℕ} {a : Row K P} {w : List K} {d e : List ℕ} → Good C a → Reads G j [] k a w d → Reads G l [] k a w e → d ≡ e
  one_derivation j l g (stop e f) y = sym (empty-row C G test l [] y f).1
  one_derivation j l g (reads e x) y = one_derivation j l g x (at_word C G test l [] y).1
  one_derivation j l g (rule {k = k} {n = n} {r = r} {w = w} {d = d} i h x) y =
      let (i₁, e₁, s, h₁, y₁) = at_rule C G test l [] y (live_end C G test w) in
      let same : i ≡ i₁ = same-rule C G test j l k n i i₁ r w d e₁ g h h₁ x y₁ in
      let ih : d ≡ e₁ = one_derivation j l (good-rule C G test n i r h g) x (rw (sym same) at y₁) in
      ap₂ (λ (a : ℕ) (b : List ℕ). a ∷ b) same ih ∙ sym s
  one_derivation j l {w = w} g (into x) y = one_derivation j l g.1 x (at_into C G test l [] y (live_end C G test w))
  one_derivation j l {w = w} g (out x) y = one_derivation j l g x (at_out C G test l [] y (live_end C G test w))
