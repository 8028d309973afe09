-- A parser that looks one word ahead answers rightly: the rules of a derivation, the first word with which no sentence goes on, or the first that opens a level too many.
-- Assumes nothing.
use mathlib.Core.Bool.{Bool, true, false}
use mathlib.Core.Path.{◌≡◌, refl, sym, ◌∙◌, ap, subst}
use mathlib.Core.List.{List, [], ◌∷◌, ◌++◌, append-nil, cons≢nil}
use mathlib.Core.Option.{Option, none, some}
use Prim.Native.Nat.{ℕ, zero, suc, ◌<◌}
use native.Mathlib.Omega.{arith}
use lib.ListN.{length}
use Rattle.ll1.specs.Grammar.{word, part, In, Out, Row, Grammar, row_at, Reads, stop, reads, rule, into, out, Sentence, Begins}
use Rattle.ll1.specs.Goes.{look}
use Rattle.ll1.proofs.Tests.{Claims, pick, Passes, opens_word}
use Rattle.ll1.proofs.Sets.{clash}
use Rattle.ll1.proofs.Forced.{Good, Live, live_end, injective, good-rule, forced, picked_at}

-- the rules; the words from the first with which no sentence goes on; those from the first that opens a level too many; or that the steps did not do
pub data Answer (K : Type 0) : Type 0 where
  ok : List ℕ → Answer K
  bad : List K → Answer K
  deep : List K → Answer K
  tired : Answer K

abbrev pub after : {K : Type 0} → ℕ → Answer K → Answer K
after i (ok d) = ok (i ∷ d)
after i (bad w) = bad w
after i (deep w) = deep w
after i tired = tired

module _ {K P : Type 0} (C : Claims K P) (G : Grammar K P) where
  -- a level opens before row r, and none is left
  unfoldable pub barred : Row K P → List K → Answer K
  barred [] w = bad w
  barred (word t ∷ r) [] = bad []
  barred (word t ∷ r) (s ∷ w) = elim (C.same t s) [ true ↦ deep (s ∷ w) | false ↦ bad (s ∷ w) ]
  barred (part n ∷ r) w = bad w
  barred (In ∷ r) w = bad w
  barred (Out ∷ r) w = bad w

  -- with f steps and k levels left: the row still to be read, and the words
  unfoldable pub run : ℕ → ℕ → Row K P → List K → Answer K
  run zero k a w = tired
  run (suc f) k [] [] = ok []
  run (suc f) k [] (t ∷ w) = bad (t ∷ w)
  run (suc f) k (word t ∷ r) [] = bad []
  run (suc f) k (word t ∷ r) (s ∷ w) = elim (C.same t s) [ true ↦ run f k r w | false ↦ bad (s ∷ w) ]
  run (suc f) k (part n ∷ r) w = elim (pick C n (look w) 0 (G n)) [ none ↦ bad w | some i ↦ after i (run f k (row_at G n i ++ r) w) ]
  run (suc f) zero (In ∷ r) w = barred r w
  run (suc f) (suc k) (In ∷ r) w = run f k r w
  run (suc f) k (Out ∷ r) w = run f (suc k) r w

module _ {K P : Type 0} (G : Grammar K P) where
  -- a level more is no harm
  pub deeper : (j : ℕ) (b : Row K P) {k : ℕ} {a : Row K P} {w : List K} {d : List ℕ} → Reads G j b k a w d → Reads G (suc j) b (suc k) a w d
  deeper j b (stop e f) = stop (ap suc e) f
  deeper j b (reads e x) = reads e (deeper j b x)
  deeper j b (rule i h x) = rule i h (deeper j b x)
  deeper j b (into x) = into (deeper j b x)
  deeper j b (out x) = out (deeper j b x)

module _ {K P : Type 0} (C : Claims K P) (G : Grammar K P) (test : Passes C G) where
  -- ---- what a derivation does at each head of the row

  pub at_rule : (j : ℕ) (b : Row K P) {k : ℕ} {n : P} {r : Row K P} {w : List K} {d : List ℕ} → Reads G j b k (part n ∷ r) w d → Live C G test b w
      → (i : ℕ) × (e : List ℕ) × (d ≡ i ∷ e) × (i < length (G n)) × Reads G j b k (row_at G n i ++ r) w e
  at_rule j b (stop e f) l = absurd (cons≢nil (f ∙ l))
  at_rule j b (rule {d = e} i h x) l = (i, e, refl, h, x)

  pub at_word : (j : ℕ) (b : Row K P) {k : ℕ} {t s : K} {r : Row K P} {w : List K} {d : List ℕ} → Reads G j b k (word t ∷ r) (s ∷ w) d → (t ≡ s) × Reads G j b k r w d
  at_word j b (reads e x) = (e, x)

  pub at_into : (j : ℕ) (b : Row K P) {k : ℕ} {r : Row K P} {w : List K} {d : List ℕ} → Reads G j b (suc k) (In ∷ r) w d → Live C G test b w → Reads G j b k r w d
  at_into j b (stop e f) l = absurd (cons≢nil (f ∙ l))
  at_into j b (into x) l = x

  at_deep : (j : ℕ) (b : Row K P) {r : Row K P} {w : List K} {d : List ℕ} → Reads G j b zero (In ∷ r) w d → Live C G test b w → ⊥
  at_deep j b (stop e f) l = cons≢nil (f ∙ l)

  pub at_out : (j : ℕ) (b : Row K P) {k : ℕ} {r : Row K P} {w : List K} {d : List ℕ} → Reads G j b k (Out ∷ r) w d → Live C G test b w → Reads G j b (suc k) r w d
  at_out j b (stop e f) l = absurd (cons≢nil (f ∙ l))
  at_out j b (out x) l = x

  pub empty-row : (j : ℕ) (b : Row K P) {k : ℕ} {a : Row K P} {w : List K} {d : List ℕ} → Reads G j b k a w d → a ≡ [] → (w ≡ []) × (d ≡ [])
  empty-row j b (stop e f) q = (refl, refl)
  empty-row j b (reads e x) q = absurd (cons≢nil q)
  empty-row j b (rule i h x) q = absurd (cons≢nil q)
  empty-row j b (into x) q = absurd (cons≢nil q)
  empty-row j b (out x) q = absurd (cons≢nil q)

  at_none : (j : ℕ) {k : ℕ} {t : K} {r : Row K P} {d : List ℕ} → Reads G j [] k (word t ∷ r) [] d → ⊥
  at_none j (stop e f) = cons≢nil f

  -- ---- what an answer says

  -- with the next word no sentence goes on, in any number of levels; where the words end, they are none
  abbrev pub Never : Row K P → List K → List K → Type 0
  Never a u [] = (k : ℕ) → ¬ (Sentence G k a u)
  Never a u (t ∷ v) = (k : ℕ) → ¬ (Begins G k a (u ++ (t ∷ [])))

  -- the next word can be read with m levels, and not with k
  abbrev pub Over : ℕ → ℕ → Row K P → List K → List K → Type 0
  Over k m a u [] = ⊥
  Over k m a u (t ∷ v) = Begins G m a (u ++ (t ∷ [])) × ¬ (Begins G k a (u ++ (t ∷ [])))

  -- the words before the rest are read, and why the rest is not
  pub record Stop (Why : List K → List K → Type 0) (k : ℕ) (a : Row K P) (w rest : List K) : Type 0 where
    pub read : List K
    pub parts : w ≡ read ++ rest
    pub begins : Begins G k a read
    pub why : Why read rest

  abbrev pub Right : ℕ → Row K P → List K → Answer K → Type 0
  Right k a w (ok d) = (j : ℕ) × Reads G j [] k a w d
  Right k a w (bad rest) = Stop (Never a) k a w rest
  Right k a w (deep rest) = Stop (Over k (suc k) a) k a w rest
  Right k a w tired = Unit

  at_once : (Why : List K → List K → Type 0) (k : ℕ) (a : Row K P) (w : List K) → Why [] w → Stop Why k a w w
  at_once Why k a w y = record { read = []; parts = refl; begins = ([], k, a, stop refl refl); why = y }

  -- ---- a step that reads no word, from row a to row c; its levels are l and m of one number

  record Step (a c : Row K P) (w : List K) (l m : ℕ → ℕ) : Type 0 where
    to : (k j : ℕ) (b : Row K P) (u : List K) (d : List ℕ) → Reads G j b (m k) c u d → (e : List ℕ) × Reads G j b (l k) a u e
    from : (k j : ℕ) (b : Row K P) (u : List K) (d : List ℕ) → look u ≡ look w → Live C G test b u → Reads G j b (l k) a u d → (e : List ℕ) × Reads G j b (m k) c u e
    covers : (k j : ℕ) (b : Row K P) (u : List K) (d : List ℕ) → Reads G j b k a u d → (i : ℕ) × (o : ℕ) × Reads G o b (l i) a u d

  module _ {a c : Row K P} {w : List K} {l m : ℕ → ℕ} (s : Step a c w l m) where
    looks : (u v : List K) (t : K) → w ≡ u ++ (t ∷ v) → look (u ++ (t ∷ [])) ≡ look w
    looks [] v t e = ap look (sym e)
    looks (x ∷ u) v t e = ap look (sym e)

    live : (b : Row K P) (u : List K) (t : K) → Live C G test b (u ++ (t ∷ []))
    live b [] t = tt
    live b (x ∷ u) t = tt

    step-begins : (k : ℕ) (u : List K) → Begins G (m k) c u → Begins G (l k) a u
    step-begins k u (d, j, b, x) = let (e, y) = s.to k j b u d x in (e, j, b, y)

    back : (k : ℕ) (u v : List K) (t : K) → w ≡ u ++ (t ∷ v) → Begins G (l k) a (u ++ (t ∷ [])) → Begins G (m k) c (u ++ (t ∷ []))
    back k u v t e (d, j, b, x) = let (f, y) = s.from k j b (u ++ (t ∷ [])) d (looks u v t e) (live b u t) x in (f, j, b, y)

    never : (u v : List K) → w ≡ u ++ v → Never c u v → Never a u v
    never u [] e n = λ k g. let (d, j, x) = g in
        let (i, o, y) = s.covers k j [] u d x in
        let (f, z) = s.from i o [] u d (ap look (sym (append-nil u) ∙ sym e)) (live_end C G test u) y in
        n (m i) (f, o, z)
    never u (t ∷ v) e n = λ k g. let (d, j, b, x) = g in let (i, o, y) = s.covers k j b (u ++ (t ∷ [])) d x in n (m i) (back i u v t e (d, o, b, y))

    over : (k h : ℕ) (u v : List K) → w ≡ u ++ v → Over (m k) (m h) c u v → Over (l k) (l h) a u v
    over k h u [] e x = x
    over k h u (t ∷ v) e x = (step-begins h (u ++ (t ∷ [])) x.0, λ y. x.1 (back k u v t e y))

    step_bad : (k : ℕ) (rest : List K) → Stop (Never c) (m k) c w rest → Stop (Never a) (l k) a w rest
    step_bad k rest x = record { read = x.read; parts = x.parts; begins = step-begins k x.read x.begins; why = never x.read rest x.parts x.why }

    step-deep : (k h : ℕ) (rest : List K) → Stop (Over (m k) (m h) c) (m k) c w rest → Stop (Over (l k) (l h) a) (l k) a w rest
    step-deep k h rest x = record { read = x.read; parts = x.parts; begins = step-begins k x.read x.begins; why = over k h x.read rest x.parts x.why }

  abbrev same : ℕ → ℕ
  same k = k

  into-step : (r : Row K P) (w : List K) → Step (In ∷ r) r w suc same
  into-step r w =
      record {
        to = λ k j b u d x. (d, into x);
        from = λ k j b u d e l x. (d, at_into j b x l);
        covers = λ k j b u d x. (k, suc j, deeper G j b x);
      }

  out_step : (r : Row K P) (w : List K) → Step (Out ∷ r) r w same suc
  out_step r w =
      record {
        to = λ k j b u d x. (d, out x);
        from = λ k j b u d e l x. (d, at_out j b x l);
        covers = λ k j b u d x. (k, j, x);
      }

  rule-step : (n : P) (i : ℕ) (r : Row K P) (w : List K) → Good C (part n ∷ r) → pick C n (look w) 0 (G n) ≡ some i → Step (part n ∷ r) (row_at G n i ++ r) w same same
  rule-step n i r w g p =
      record {
        to = λ k j b u d x. (i ∷ d, rule i (picked_at C G test n (look w) i p) x);
        from = λ k j b u d e l x.
            let (h, f, q, o, y) = at_rule j b x l in
            let only : h ≡ i = injective h i (sym (forced C G test j b k n h r u f g o y l) ∙ ap (λ (v : Option K). pick C n v 0 (G n)) e ∙ p) in
            (f, subst (λ (v : ℕ). Reads G j b k (row_at G n v ++ r) u f) only y);
        covers = λ k j b u d x. (k, j, x);
      }

  -- ---- the parser is right

  not_same : (t s : K) → C.same t s ≡ false → t ≡ s → ⊥
  not_same t s e f = clash (sym (C.same_self s) ∙ ap (λ (v : K). C.same v s) (sym f) ∙ e)

  barred_right : (r : Row K P) (w : List K) → opens_word C r ≡ true → Right zero (In ∷ r) w (barred C G r w)
  unfolding barred
  barred_right [] w o = clash (sym o)
  barred_right (part n ∷ r) w o = clash (sym o)
  barred_right (In ∷ r) w o = clash (sym o)
  barred_right (Out ∷ r) w o = clash (sym o)
  barred_right (word t ∷ r) [] o = at_once (Never (In ∷ word t ∷ r)) zero (In ∷ word t ∷ r) [] none_of
    where
      none_of : (k : ℕ) → ¬ (Sentence G k (In ∷ word t ∷ r) [])
      none_of zero (d, j, x) = at_deep j [] x refl
      none_of (suc k) (d, j, x) = at_none j (at_into j [] x refl)
  barred_right (word t ∷ r) (s ∷ w) o = go (C.same t s) refl
    where
      a : Row K P
      a = In ∷ word t ∷ r

      none_of : C.same t s ≡ false → (k : ℕ) → ¬ (Begins G k a (s ∷ []))
      none_of e zero (d, j, b, x) = at_deep j b x tt
      none_of e (suc k) (d, j, b, x) = not_same t s e (at_word j b (at_into j b x tt)).0

      go : (q : Bool) → C.same t s ≡ q → Right zero a (s ∷ w) (elim q [ true ↦ deep (s ∷ w) | false ↦ bad (s ∷ w) ])
      go true q = at_once (Over zero 1 a) zero a (s ∷ w) (([], 0, r, into (reads (C.same_true t s q) (stop refl refl))), λ x. let (d, j, b, y) = x in at_deep j b y tt)
      go false q = at_once (Never a) zero a (s ∷ w) (none_of q)

  word-right : (k : ℕ) (t s : K) (r : Row K P) (w : List K) → t ≡ s → (o : Answer K) → Right k r w o → Right k (word t ∷ r) (s ∷ w) o
  word-right k t s r w e (ok d) x = (x.0, reads e x.1)
  word-right k t s r w e (bad rest) x =
      record { read = s ∷ x.read; parts = ap (λ (l : List K). s ∷ l) x.parts; begins = let (d, j, b, z) = x.begins in (d, j, b, reads e z); why = never x.read rest x.why }
    where
      never : (u v : List K) → Never r u v → Never (word t ∷ r) (s ∷ u) v
      never u [] n = λ k y. let (d, j, z) = y in n k (d, j, (at_word j [] z).1)
      never u (y ∷ v) n = λ k y. let (d, j, b, z) = y in n k (d, j, b, (at_word j b z).1)
  word-right k t s r w e (deep rest) x =
      record { read = s ∷ x.read; parts = ap (λ (l : List K). s ∷ l) x.parts; begins = let (d, j, b, z) = x.begins in (d, j, b, reads e z); why = over x.read rest x.why }
    where
      over : (u v : List K) → Over k (suc k) r u v → Over k (suc k) (word t ∷ r) (s ∷ u) v
      over u [] n = n
      over u (y ∷ v) n = (let (d, j, b, z) = n.0 in (d, j, b, reads e z), λ y. let (d, j, b, z) = y in n.1 (d, j, b, (at_word j b z).1))
  word-right k t s r w e tired x = tt

  into-right : (k : ℕ) (r : Row K P) (w : List K) (o : Answer K) → Right k r w o → Right (suc k) (In ∷ r) w o
  into-right k r w (ok d) x = (x.0, into x.1)
  into-right k r w (bad rest) x = step_bad (into-step r w) k rest x
  into-right k r w (deep rest) x = step-deep (into-step r w) k (suc k) rest x
  into-right k r w tired x = tt

  out-right : (k : ℕ) (r : Row K P) (w : List K) (o : Answer K) → Right (suc k) r w o → Right k (Out ∷ r) w o
  out-right k r w (ok d) x = (x.0, out x.1)
  out-right k r w (bad rest) x = step_bad (out_step r w) k rest x
  out-right k r w (deep rest) x = step-deep (out_step r w) k (suc k) rest x
  out-right k r w tired x = tt

  rule-right : (k : ℕ) (n : P) (i : ℕ) (r : Row K P) (w : List K) → Good C (part n ∷ r) → pick C n (look w) 0 (G n) ≡ some i → (o : Answer K) → Right k (row_at G n i ++ r) w o → Right k (part n ∷ r) w (after i o)
  rule-right k n i r w g p (ok d) x = (x.0, rule i (picked_at C G test n (look w) i p) x.1)
  rule-right k n i r w g p (bad rest) x = step_bad (rule-step n i r w g p) k rest x
  rule-right k n i r w g p (deep rest) x = step-deep (rule-step n i r w g p) k (suc k) rest x
  rule-right k n i r w g p tired x = tt

  -- no rule is called for
  no_rule : (k : ℕ) (n : P) (r : Row K P) (w : List K) → Good C (part n ∷ r) → pick C n (look w) 0 (G n) ≡ none → Right k (part n ∷ r) w (bad w)
  no_rule k n r w g p = at_once (Never (part n ∷ r)) k (part n ∷ r) w (none_of w p)
    where
      clashes : {A : Type 0} (i : ℕ) (o : Option ℕ) → o ≡ none → o ≡ some i → A
      clashes i o e f = let z : ◌≡◌ {A = ℕ} 0 1 = cc in absurd (omega arith)

      none_of : (w : List K) → pick C n (look w) 0 (G n) ≡ none → Never (part n ∷ r) [] w
      none_of [] p = λ k y. let (d, j, x) = y in let (i, f, q, h, z) = at_rule j [] x refl in clashes i _ p (forced C G test j [] k n i r [] f g h z refl)
      none_of (t ∷ v) p = λ k y. let (d, j, b, x) = y in let (i, f, q, h, z) = at_rule j b x tt in clashes i _ p (forced C G test j b k n i r (t ∷ []) f g h z tt)

  pub run-right : (f k : ℕ) (a : Row K P) (w : List K) → Good C a → Right k a w (run C G f k a w)
  unfolding run
  run-right zero k a w g = tt
  run-right (suc f) k [] [] g = (k, stop refl refl)
  run-right (suc f) k [] (t ∷ w) g = at_once (Never []) k [] (t ∷ w) (λ k y. let (d, j, b, x) = y in cons≢nil (empty-row j b x refl).0)
  run-right (suc f) k (word t ∷ r) [] g = at_once (Never (word t ∷ r)) k (word t ∷ r) [] (λ k y. let (d, j, x) = y in at_none j x)
  run-right (suc f) k (word t ∷ r) (s ∷ w) g = go (C.same t s) refl (run-right f k r w g)
    where
      go : (q : Bool) → C.same t s ≡ q → Right k r w (run C G f k r w) → Right k (word t ∷ r) (s ∷ w) (elim q [ true ↦ run C G f k r w | false ↦ bad (s ∷ w) ])
      go true q x = word-right k t s r w (C.same_true t s q) (run C G f k r w) x
      go false q x = at_once (Never (word t ∷ r)) k (word t ∷ r) (s ∷ w) (λ k y. let (d, j, b, z) = y in not_same t s q (at_word j b z).0)
  run-right (suc f) k (part n ∷ r) w g = go (pick C n (look w) 0 (G n)) refl (λ i h. run-right f k (row_at G n i ++ r) w (good-rule C G test n i r h g))
    where
      go : (o : Option ℕ) → pick C n (look w) 0 (G n) ≡ o → ((i : ℕ) → i < length (G n) → Right k (row_at G n i ++ r) w (run C G f k (row_at G n i ++ r) w))
          → Right k (part n ∷ r) w (elim o [ none ↦ bad w | some i ↦ after i (run C G f k (row_at G n i ++ r) w) ])
      go none q x = no_rule k n r w g q
      go (some i) q x = rule-right k n i r w g q (run C G f k (row_at G n i ++ r) w) (x i (picked_at C G test n (look w) i q))
  run-right (suc f) zero (In ∷ r) w g = barred_right r w g.0
  run-right (suc f) (suc k) (In ∷ r) w g = into-right k r w (run C G f k r w) (run-right f k r w g.1)
  run-right (suc f) k (Out ∷ r) w g = out-right k r w (run C G f (suc k) r w) (run-right f (suc k) r w g)
