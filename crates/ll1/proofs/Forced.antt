-- Where a grammar passes the tests, the next word forces the rule.
-- Assumes nothing.
use mathlib.Core.Bool.{Bool, true, false, ◌&&◌}
use mathlib.Core.Path.{◌≡◌, refl, sym, ◌∙◌}
use mathlib.Core.Logic.{◌⊎◌, inl, inr}
use mathlib.Core.List.{List, [], ◌∷◌, ◌++◌}
use mathlib.Core.Option.{Option, none, some}
use Prim.Native.Nat.{ℕ, zero, suc, ◌+◌, ◌<◌}
use native.Mathlib.Nat.{add-zero, add-suc, suc-add, zero-add}
use native.Mathlib.Omega.{arith}
use lib.ListN.{length, get_or}
use Rattle.ll1.specs.Grammar.{word, part, In, Out, Row, Grammar, row_at, Reads, stop, reads, rule, into, out}
use Rattle.ll1.specs.Goes.{look}
use Rattle.ll1.proofs.Tests.{◌implies◌, Claims, has, within, apart, firsts, empty_row, begin_row, opens_word, follows, falls, keeps, differs, all_differ, pick, Passes}
use Rattle.ll1.proofs.Sets.{clash, and_left, and_right, has_self, has_left, has_right, within_has, apart_not, begin_append, begin_mono, begin_cases}

-- what a test of a row says
pub record Keeps {K P : Type 0} (C : Claims K P) (n : P) (p : Row K P) : Type 0 where
  pub begins : within C (begin_row C [] p) (firsts C n) ≡ true
  pub vanishes : empty_row C p implies C.empty n ≡ true
  pub followed : follows C n p ≡ true
  pub lower : falls C n p ≡ true

pub injective : (i j : ℕ) → some i ≡ some j → i ≡ j
injective i j e = cc

module _ {K P : Type 0} (C : Claims K P) where
  kept : (n : P) (p : Row K P) → keeps C n p ≡ true → Keeps C n p
  unfolding keeps
  kept n p e =
      let a = within C (begin_row C [] p) (firsts C n) in
      let b = empty_row C p implies C.empty n in
      let e₁ = and_right a (b && (follows C n p && falls C n p)) e in
      let e₂ = and_right b (follows C n p && falls C n p) e₁ in
      record { begins = and_left a _ e; vanishes = and_left b _ e₁; followed = and_left (follows C n p) (falls C n p) e₂; lower = and_right (follows C n p) (falls C n p) e₂ }

  keeps_in : (n : P) (ps : List (Row K P)) (i : ℕ) → all_differ C n ps ≡ true → i < length ps → keeps C n (get_or ps i []) ≡ true
  unfolding all_differ
  keeps_in n [] i a h = absurd (omega arith)
  keeps_in n (q ∷ ps) zero a h = and_left (keeps C n q) (differs C n q ps && all_differ C n ps) a
  keeps_in n (q ∷ ps) (suc i) a h = keeps_in n ps i (and_right (differs C n q ps) (all_differ C n ps) (and_right (keeps C n q) (differs C n q ps && all_differ C n ps) a)) (omega arith)

  differs_not : (n : P) (p : Row K P) (ps : List (Row K P)) (i : ℕ) (x : Option K) → differs C n p ps ≡ true → i < length ps
      → has C (begin_row C (C.follow n) (get_or ps i [])) x ≡ true → has C (begin_row C (C.follow n) p) x ≡ false
  unfolding differs
  differs_not n p [] i x a h e = absurd (omega arith)
  differs_not n p (q ∷ ps) zero x a h e =
      apart_not C (begin_row C (C.follow n) p) (begin_row C (C.follow n) q) x (and_left (apart C (begin_row C (C.follow n) p) (begin_row C (C.follow n) q)) (differs C n p ps) a) e
  differs_not n p (q ∷ ps) (suc i) x a h e =
      differs_not n p ps i x (and_right (apart C (begin_row C (C.follow n) p) (begin_row C (C.follow n) q)) (differs C n p ps) a) (omega arith) e

  -- a rule that can begin with the word is the one that is picked
  pick_in : (n : P) (x : Option K) (j : ℕ) (ps : List (Row K P)) (i : ℕ) → all_differ C n ps ≡ true → i < length ps
      → has C (begin_row C (C.follow n) (get_or ps i [])) x ≡ true → pick C n x j ps ≡ some (j + i)
  unfolding all_differ pick
  pick_in n x j [] i a h e = absurd (omega arith)
  pick_in n x j (q ∷ ps) zero a h e = rw (e, pick, add-zero)
  pick_in n x j (q ∷ ps) (suc i) a h e =
      let rest = and_right (keeps C n q) (differs C n q ps && all_differ C n ps) a in
      let no-q : has C (begin_row C (C.follow n) q) x ≡ false = differs_not n q ps i x (and_left (differs C n q ps) (all_differ C n ps) rest) (omega arith) e in
      rw (no-q, pick, add-suc, ← suc-add) (pick_in n x (suc j) ps i (and_right (differs C n q ps) (all_differ C n ps) rest) (omega arith) e)

  -- what is picked is a rule
  picked_in : (n : P) (x : Option K) (j : ℕ) (ps : List (Row K P)) (c : ℕ) → pick C n x j ps ≡ some c → (i : ℕ) × (c ≡ j + i) × (i < length ps)
  unfolding pick
  picked_in n x j [] c e = let z : ◌≡◌ {A = ℕ} 0 1 = cc in absurd (omega arith)
  picked_in n x j (q ∷ ps) c e = go (has C (begin_row C (C.follow n) q) x) (picked_in n x (suc j) ps c) e
    where
      go : (u : Bool) → (pick C n x (suc j) ps ≡ some c → (i : ℕ) × (c ≡ suc j + i) × (i < length ps))
          → elim u [ true ↦ some j | false ↦ pick C n x (suc j) ps ] ≡ some c → (i : ℕ) × (c ≡ j + i) × (i < suc (length ps))
      go true k f = let g : j ≡ c = cc in (0, omega arith, omega arith)
      go false k f = let (i, a, b) = k f in (suc i, omega arith, omega arith)

  -- what can follow each part of a row can follow it by the claims, and each level opens at a word
  abbrev pub Good : Row K P → Type 0
  Good [] = Unit
  Good (word t ∷ r) = Good r
  Good (part n ∷ r) = ((x : Option K) → has C (begin_row C (none ∷ []) r) x ≡ true → has C (C.follow n) x ≡ true) × Good r
  Good (In ∷ r) = (opens_word C r ≡ true) × Good r
  Good (Out ∷ r) = Good r

  opens-append : (p r : Row K P) → opens_word C p ≡ true → opens_word C (p ++ r) ≡ true
  opens-append [] r e = clash (sym e)
  opens-append (word t ∷ p) r e = refl
  opens-append (part n ∷ p) r e = clash (sym e)
  opens-append (In ∷ p) r e = clash (sym e)
  opens-append (Out ∷ p) r e = clash (sym e)

  good-follows : (n : P) (p r : Row K P) → follows C n p ≡ true → Good (part n ∷ r) → Good (p ++ r)
  unfolding follows
  good-follows n [] r e g = g.1
  good-follows n (word t ∷ p) r e g = good-follows n p r e g
  good-follows n (part m ∷ p) r e g = (
    λ x h.
        within_has C (begin_row C (C.follow n) p) (C.follow m) x (and_left (within C (begin_row C (C.follow n) p) (C.follow m)) (follows C n p) e)
        (begin_mono C (begin_row C (none ∷ []) r) (C.follow n) p x (g.0 x) (rw (begin_append C (none ∷ []) p r) at h)),
    good-follows n p r (and_right (within C (begin_row C (C.follow n) p) (C.follow m)) (follows C n p) e) g,
  )
  good-follows n (In ∷ p) r e g = (opens-append p r (and_left (opens_word C p) (follows C n p) e), good-follows n p r (and_right (opens_word C p) (follows C n p) e) g)
  good-follows n (Out ∷ p) r e g = good-follows n p r e g

  module _ (G : Grammar K P) (test : Passes C G) where
    pub keeps_at : (n : P) (i : ℕ) → i < length (G n) → Keeps C n (row_at G n i)
    keeps_at n i h = kept n (row_at G n i) (keeps_in n (G n) i (test.parted n) h)

    pub pick_at : (n : P) (x : Option K) (i : ℕ) → i < length (G n) → has C (begin_row C (C.follow n) (row_at G n i)) x ≡ true → pick C n x 0 (G n) ≡ some i
    pick_at n x i h e = rw zero-add at (pick_in n x 0 (G n) i (test.parted n) h e)

    pub picked_at : (n : P) (x : Option K) (i : ℕ) → pick C n x 0 (G n) ≡ some i → i < length (G n)
    picked_at n x i e = let (j, a, b) = picked_in n x 0 (G n) i e in omega arith

    pub good-rule : (n : P) (i : ℕ) (r : Row K P) → i < length (G n) → Good (part n ∷ r) → Good (row_at G n i ++ r)
    good-rule n i r h g = good-follows n (row_at G n i) r (keeps_at n i h).followed g

    -- what a rule's row begins with before r, its part begins with before r
    begin_rule : (z : List (Option K)) (n : P) (i : ℕ) (r : Row K P) (x : Option K) → i < length (G n) → has C (begin_row C z (row_at G n i ++ r)) x ≡ true → has C (begin_row C z (part n ∷ r)) x ≡ true
    unfolding begin_row
    begin_rule z n i r x h e = two (begin_cases C (begin_row C z r) (row_at G n i) x (rw (begin_append C z (row_at G n i) r) at e))
      where
        F : List (Option K)
        F = firsts C n

        vanish : (a b : Bool) → a implies b ≡ true → a ≡ true → b ≡ true
        vanish true b e f = e
        vanish false b e f = clash (sym f)

        two : (has C (begin_row C [] (row_at G n i)) x ≡ true) ⊎ ((empty_row C (row_at G n i) ≡ true) × (has C (begin_row C z r) x ≡ true))
            → has C (F ++ elim (C.empty n) [ true ↦ begin_row C z r | false ↦ [] ]) x ≡ true
        two (inl f) = has_left C F (elim (C.empty n) [ true ↦ begin_row C z r | false ↦ [] ]) x (within_has C (begin_row C [] (row_at G n i)) F x (keeps_at n i h).begins f)
        two (inr f) = rw (vanish (empty_row C (row_at G n i)) (C.empty n) (keeps_at n i h).vanishes f.0) (has_right C F (begin_row C z r) x f.1)

    -- the words go on, or the row comes to its end
    abbrev pub Live : Row K P → List K → Type 0
    Live b [] = b ≡ []
    Live b (t ∷ w) = Unit

    pub live_end : (w : List K) → Live [] w
    live_end [] = refl
    live_end (t ∷ w) = tt

    -- the next word is one that the row can begin with
    begins : (j : ℕ) (b : Row K P) {k : ℕ} {a : Row K P} {w : List K} {d : List ℕ} → Reads G j b k a w d → Live b w → has C (begin_row C (none ∷ []) a) (look w) ≡ true
    unfolding begin_row
    begins j b (stop e f) l = rw (f, l) (has_self C none [])
    begins j b (reads {s = s} e r) l = rw e (has_self C (some s) [])
    begins j b (rule {n = n} {r = r} i h x) l = begin_rule (none ∷ []) n i r _ h (begins j b x l)
    begins j b (into x) l = begins j b x l
    begins j b (out x) l = begins j b x l

    -- and it forces the rule
    pub forced : (j : ℕ) (b : Row K P) (k : ℕ) (n : P) (i : ℕ) (r : Row K P) (w : List K) (d : List ℕ) → Good (part n ∷ r) → i < length (G n) → Reads G j b k (row_at G n i ++ r) w d → Live b w
        → pick C n (look w) 0 (G n) ≡ some i
    forced j b k n i r w d g h x l =
        pick_at n (look w) i h
        (begin_mono C (begin_row C (none ∷ []) r) (C.follow n) (row_at G n i) (look w) (g.0 (look w)) (rw (begin_append C (none ∷ []) (row_at G n i) r) at (begins j b x l)))

    -- two derivations of one sentence take the same rule
    pub same-rule : (j l : ℕ) (k : ℕ) (n : P) (i o : ℕ) (r : Row K P) (w : List K) (d e : List ℕ) → Good (part n ∷ r) → i < length (G n) → o < length (G n)
        → Reads G j [] k (row_at G n i ++ r) w d → Reads G l [] k (row_at G n o ++ r) w e → i ≡ o
    same-rule j l k n i o r w d e g h h₁ x y = injective i o (sym (forced j [] k n i r w d g h x (live_end w)) ∙ forced l [] k n o r w e g h₁ y (live_end w))
