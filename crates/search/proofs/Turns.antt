-- The search keeps what it says, input by input.
-- Assumes nothing.
use mathlib.Core.Path.{◌≡◌, refl, sym, ap, ◌∙◌, subst}
use mathlib.Core.Logic.{◌⊎◌, inl, inr}
use mathlib.Core.List.Memᴰ
use mathlib.Core.List.{List, [], ◌∷◌, ◌++◌, Memᴰ}
use Prim.Native.Nat.{ℕ, ◌+◌, ◌<◌, ◌≤◌}
use lib.ListN.{length, get_or}
use native.Mathlib.Omega.{arith}
use native.Mathlib.Nat.{eq-or-lt_of_le}
use Rattle.file_law.specs.Answer.{listed}
use Rattle.reach_law.specs.Machine.{Machine}
use Rattle.reach_law.specs.Count.{TooMany}
use Rattle.reach_law.specs.Numbering.{Before, Next}
use Rattle.reach_law.proofs.Lists.{get_or_mem}
use Rattle.reach_law.proofs.Order.{before-low, none_before, before-next, before-row}
use Rattle.reach_law.proofs.Next.{next_known, next-new, next-kept}
use Rattle.reach_law.proofs.Part.{Part, Row, part-start, row-known, row_new, row_over, row_done, part-done}
use Rattle.meaning.specs.States.{State}
use Rattle.clock.specs.Step.{state_from, Canon}
use Rattle.clock.specs.declared.State as code
use Rattle.rows.specs.Area.{homes, slot_in, row_in, next_in, hash_of}
use Rattle.index.specs.Indexed.{Indexed, Free, Added}
use Rattle.rows.specs.Nexts.{NextPut}
use Rattle.rows.proofs.Nexts.{row_same}
use Rattle.index.proofs.Kept.{indexed-same}
use Rattle.search.specs.Going.{states_in, Sized, Going, InRow, Found}
use Rattle.search.proofs.States.{states-length, states_at, states-kept, states_grown, not_one}

module _ {m : Machine State} {room : ℕ} {l : List ℕ} {n i x : ℕ} {s : code.State} (r : InRow m room l n i x s) where
  abbrev L : List State
  L = states_in l n

  g : Going m room l n i x
  g = r.going

  long : length L ≡ n
  long = states-length l n

  row : Row m L i x (state_from s)
  row = record { part = g.part; here = omega (arith, long, r.here); stands = states_at l n i m.start r.here ∙ ap state_from r.stands }

  -- an input leads to state j
  module _ (j : ℕ) (h : j < n) (stands_at : get_or L j m.start ≡ m.step (state_from s) x) {k : List ℕ} (p : NextPut l i x j k) where
    same_rows : (e : ℕ) → e < n → row_in k e ≡ row_in l e
    same_rows e b = row_same p.low e (omega (arith, g.fits, g.sized.few))

    same : states_in k n ≡ L
    same = states-kept l k n m.start same_rows

    known-row : Row m L i (x + 1) (state_from s)
    known-row = row-known row (Memᴰ.cast (sym stands_at) (get_or_mem L j m.start (omega (arith, long))))

    next_at_lem : (e y : ℕ) → y < m.inputs → ((e ≡ i) × (y ≡ x)) ⊎ Before e y i x → Next m L e y (next_in k e y)
    next_at_lem e y b (inl (a, d)) = rw (a, d, p.here) (next_known j row (omega (arith, long)) stands_at)
    next_at_lem e y b (inr q) = rw (p.others e y (omega (arith, g.sized.inputs)) q) (g.nexts e y b q)

    pub met-done : InRow m room k n i (x + 1) s
    met-done =
        record {
          going =
              record {
                sized = record { few = g.sized.few; inputs = g.sized.inputs; area = omega (arith, g.sized.area, p.low.long) };
                fits = g.fits;
                indexed = indexed-same p.low g.indexed;
                canon = λ e b. subst Canon (sym (same_rows e b)) (g.canon e b);
                part = subst (λ (M : List State). Part m M i (x + 1)) (sym same) known-row.part;
                nexts = λ e y b q. subst (λ (M : List State). Next m M e y (next_in k e y)) (sym same) (next_at_lem e y b (before-next q));
              };
          here = r.here;
          stands = same_rows i r.here ∙ r.stands;
        }

  -- an earlier input of this state led there
  pub as_before : (y : ℕ) → y < x → x < m.inputs → m.step (state_from s) x ≡ m.step (state_from s) y → {k : List ℕ} → NextPut l i x (next_in l i y) k → InRow m room k n i (x + 1) s
  as_before y h input e p =
      let q : Next m L i y (next_in l i y) = g.nexts i y (omega arith) (inr (refl, h)) in
      let at : get_or L (next_in l i y) m.start ≡ m.step (state_from s) x = sym q.leads ∙ ap (λ (z : State). m.step z y) row.stands ∙ sym e in
      met-done (next_in l i y) (omega (arith, q.inside, long)) at p

  -- an input leads to a state
  module _ (t : code.State) (input : x < m.inputs) (leads : state_from t ≡ m.step (state_from s) x) where
    -- .. that is known
    pub known-done : (j : ℕ) → j < n → row_in l j ≡ t → {k : List ℕ} → NextPut l i x j k → InRow m room k n i (x + 1) s
    known-done j h is p = met-done j h (states_at l n j m.start h ∙ ap state_from is ∙ leads) p

    -- .. that is new
    module _ (canon : Canon t) {slot : ℕ} (f : Free l n t slot) where
      absent : ¬ Memᴰ (m.step (state_from s) x) L
      absent = not_one l n m.start (m.step (state_from s) x) t canon g.canon f.absent leads

      -- one too many
      pub over_done : room ≤ n → TooMany m room
      over_done h = row_over row input absent (omega (arith, long))

      module _ {k q : List ℕ} (a : Added l n t k) (p : NextPut k i x n q) (fits : n < room) where
        old : (e : ℕ) → e < n → row_in q e ≡ row_in l e
        old e b = row_same p.low e (omega (arith, g.sized.few)) ∙ a.old e b

        new : row_in q n ≡ t
        new = row_same p.low n (omega (arith, g.sized.few)) ∙ a.new

        abbrev M : List State
        M = L ++ (m.step (state_from s) x ∷ [])

        grown : states_in q (n + 1) ≡ M
        grown = states_grown l q n m.start t old new ∙ ap (λ (z : State). L ++ (z ∷ [])) leads

        new_row : Row m M i (x + 1) (state_from s)
        new_row = row_new row input absent

        next_in_lem : (e y : ℕ) → y < m.inputs → ((e ≡ i) × (y ≡ x)) ⊎ Before e y i x → Next m M e y (next_in q e y)
        next_in_lem e y b (inl (d, z)) = rw (d, z, p.here) (subst (λ (v : ℕ). Next m M i x v) long (next-new row))
        next_in_lem e y b (inr z) =
            rw (p.others e y (omega (arith, g.sized.inputs)) z, a.nexts e y)
            (next-kept (m.step (state_from s) x ∷ []) (omega (arith, long, before-low z, r.here)) (g.nexts e y b z))

        canon-all : (e : ℕ) → (e ≡ n) ⊎ (e < n) → Canon (row_in q e)
        canon-all e (inl z) = subst Canon (sym (ap (row_in q) z ∙ new)) canon
        canon-all e (inr b) = subst Canon (sym (old e b)) (g.canon e b)

        pub new-done : InRow m room q (n + 1) i (x + 1) s
        new-done =
            record {
              going =
                  record {
                    sized = record { few = g.sized.few; inputs = g.sized.inputs; area = omega (arith, g.sized.area, p.low.long, a.long) };
                    fits = omega arith;
                    indexed = indexed-same p.low a.indexed;
                    canon = λ e b. canon-all e (eq-or-lt_of_le (omega arith));
                    part = subst (λ (N : List State). Part m N i (x + 1)) (sym grown) new_row.part;
                    nexts = λ e y b z. subst (λ (N : List State). Next m N e y (next_in q e y)) (sym grown) (next_in_lem e y b (before-next z));
                  };
              here = omega (arith, r.here);
              stands = old i r.here ∙ r.stands;
            }

  -- all inputs are done
  pub row_over_next : m.inputs ≤ x → Going m room l n (i + 1) 0
  row_over_next h =
      record {
        sized = g.sized;
        fits = g.fits;
        indexed = g.indexed;
        canon = g.canon;
        part = row_done row h;
        nexts = λ e y b q. g.nexts e y b (before-row (omega arith) q);
      }

module _ {m : Machine State} {room : ℕ} {l : List ℕ} {n i : ℕ} (g : Going m room l n i 0) where
  pub row-begins : i < n → {s : code.State} → s ≡ row_in l i → InRow m room l n i 0 s
  row-begins h e = record { going = g; here = h; stands = sym e }

  -- all states are done
  pub all_done : n ≤ i → Found m room l n
  all_done h =
      record {
        fits = g.fits;
        numbers = part-done g.part (omega (arith, states-length l n));
        follows = λ e y b k. g.nexts e y k (inl (omega (arith, states-length l n)));
      }

-- ---- the start

no_states : (l : List ℕ) → states_in l 0 ≡ []
unfolding states_in listed
no_states l = refl

-- the start's own slot
pub start-free : {l : List ℕ} {s : code.State} {h : ℕ} → Indexed l 0 → h ≡ hash_of s → h < homes → Free l 0 s h
start-free {l} {s} {h} x e b =
    record {
      absent = λ i k. absurd (omega arith);
      from = omega arith;
      below = omega arith;
      free = let z : slot_in l h ≤ 0 = x.sound h (omega arith) in omega arith;
      filled = λ j p q. absurd (omega arith);
    }

pub start-going : {m : Machine State} {room : ℕ} {l k : List ℕ} {s : code.State} → Sized m room l → 0 < room → Canon s → state_from s ≡ m.start → Added l 0 s k
    → Going m room k 1 0 0
start-going {m} {room} {l} {k} {s} z h c e a =
    record {
      sized = record { few = z.few; inputs = z.inputs; area = omega (arith, z.area, a.long) };
      fits = omega arith;
      indexed = a.indexed;
      canon = λ j b. let q : j ≡ 0 = omega arith in subst Canon (sym (ap (row_in k) q ∙ a.new)) c;
      part = subst (λ (M : List State). Part m M 0 0) (sym one) part-start;
      nexts = λ j y b q. absurd (none_before q);
    }
  where
    one : states_in k 1 ≡ m.start ∷ []
    one = states_grown l k 0 m.start s (λ i b. absurd (omega arith)) a.new ∙ ap (λ (x : State). states_in l 0 ++ (x ∷ [])) e ∙ ap (λ (M : List State). M ++ (m.start ∷ [])) (no_states l)
