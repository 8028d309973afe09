-- A part of the numbering: what holds of the states that are found before state i is looked at with input x.
-- Assumes nothing.
use mathlib.Core.Path.{◌≡◌, refl, ap, sym, ◌∙◌, subst}
use mathlib.Core.Logic.{◌⊎◌, inl, inr}
use mathlib.Core.List.{List, [], ◌∷◌, ◌++◌, Memᴰ}
use Prim.Native.Nat.{ℕ, ◌+◌, ◌<◌, ◌≤◌}
use lib.ListN.{take, length, get_or, length-append, get_or-append}
use lib.Seq.{take-append-le, take-append_seam, get_or-append_seam}
use native.Mathlib.Nat.{eq-or-lt_of_le}
use native.Mathlib.Omega.{arith}
use Rattle.reach_law.specs.Machine.{Machine, Inputs, run, Reach}
use Rattle.reach_law.specs.Count.{Apart, TooMany}
use Rattle.reach_law.specs.Numbering.{Before, FirstMet, Numbering}
use Rattle.reach_law.proofs.Reached.{reach_start, reach_step}
use Rattle.reach_law.proofs.Order.{before-low, none_before, before-next, before-row}
use Rattle.reach_law.proofs.Lists.{apart_snoc, get_or_mem, mem_get_or}

module _ {S : Type 0} where
  -- the numbering so far, closed under each state and input before state i with input x
  pub record Part (m : Machine S) (L : List S) (i x : ℕ) : Type 0 where
    pub apart : Apart L
    pub sound : (s : S) → Memᴰ s L → Reach m s
    pub begins : (rest : List S) × (L ≡ m.start ∷ rest)
    pub met : (j : ℕ) → 0 < j → j < length L → FirstMet m L j
    pub closed : (j y : ℕ) → y < m.inputs → Before j y i x → Memᴰ (m.step (get_or L j m.start) y) L

  -- while state i, which is s, is looked at: the inputs below x are done
  pub record Row (m : Machine S) (L : List S) (i x : ℕ) (s : S) : Type 0 where
    pub part : Part m L i x
    pub here : i < length L
    pub stands : get_or L i m.start ≡ s

  module _ {m : Machine S} where
    -- ---- the start

    start_reached : (s : S) → Memᴰ s (m.start ∷ []) → Reach m s
    start_reached s h = rw (mathlib.Core.List.Memᴰ.eq_of_singleton h) (reach_start m)

    pub part-start : Part m (m.start ∷ []) 0 0
    part-start =
        record {
          apart = (mathlib.Core.List.Memᴰ.not-nil, tt);
          sound = start_reached;
          begins = ([], refl);
          met = λ j h k. absurd (omega arith);
          closed = λ j y h b. absurd (none_before b);
        }

    -- a room of no state is too small for the start
    pub no_room : TooMany m 0
    no_room = record { states = m.start ∷ []; apart = (mathlib.Core.List.Memᴰ.not-nil, tt); sound = start_reached; above = omega arith }

    -- ---- state i is looked at

    pub row-start : {L : List S} {i : ℕ} → Part m L i 0 → i < length L → Row m L i 0 (get_or L i m.start)
    row-start p h = record { part = p; here = h; stands = refl }

    -- the state that is met is known already
    pub row-known : {L : List S} {i x : ℕ} {s : S} → Row m L i x s → Memᴰ (m.step s x) L → Row m L i (x + 1) s
    row-known {L} {i} {x} {s} r k =
        record {
          part = record { apart = p.apart; sound = p.sound; begins = p.begins; met = p.met; closed = λ j y h b. closed j y h (before-next b) };
          here = r.here;
          stands = r.stands;
        }
      where
        p : Part m L i x
        p = r.part

        closed : (j y : ℕ) → y < m.inputs → ((j ≡ i) × (y ≡ x)) ⊎ Before j y i x → Memᴰ (m.step (get_or L j m.start) y) L
        closed j y h (inl (e, d)) = rw (e, d, r.stands) k
        closed j y h (inr b) = p.closed j y h b

    -- .. or new: it is put at the end
    module _ {L : List S} {i x : ℕ} {s : S} (r : Row m L i x s) (input : x < m.inputs) (new : ¬ Memᴰ (m.step s x) L) where
      abbrev grown : List S
      grown = L ++ (m.step s x ∷ [])

      old : (j : ℕ) → j < length L → get_or grown j m.start ≡ get_or L j m.start
      old j h = get_or-append L (m.step s x ∷ []) m.start j h

      grown_length : length grown ≡ length L + 1
      grown_length = length-append L (m.step s x ∷ [])

      grown_sound : (a : S) → Memᴰ a L ⊎ Memᴰ a (m.step s x ∷ []) → Reach m a
      grown_sound a (inl h) = r.part.sound a h
      grown_sound a (inr h) =
          let is : Memᴰ s L = mathlib.Core.List.Memᴰ.cast (sym r.stands) (get_or_mem L i m.start r.here) in
          rw (mathlib.Core.List.Memᴰ.eq_of_singleton h) (reach_step m x input (r.part.sound s is))

      grown_met : (j : ℕ) → 0 < j → (j ≡ length L) ⊎ (j < length L) → FirstMet m grown j
      grown_met j pos (inl e) =
          record {
            from = i;
            by = x;
            earlier = omega (arith, r.here);
            input = input;
            meets = rw (old i r.here, r.stands, e, get_or-append_seam L (m.step s x) [] m.start);
            first = λ a y h b.
                subst (λ (l : List S). Memᴰ (m.step (get_or grown a m.start) y) l) (sym (ap (λ (n : ℕ). take n grown) e ∙ take-append_seam L (m.step s x ∷ [])))
                (rw (old a (omega (arith, r.here, before-low b))) (r.part.closed a y h b));
          }
      grown_met j pos (inr k) =
          let f = r.part.met j pos k in
          record {
            from = f.from;
            by = f.by;
            earlier = f.earlier;
            input = f.input;
            meets = rw (old f.from (omega (arith, f.earlier)), old j k) f.meets;
            first = λ a y h b.
                rw (old a (omega (arith, f.earlier, before-low b)), take-append-le j L (m.step s x ∷ []) (omega arith)) (f.first a y h b);
          }

      grown_closed : (j y : ℕ) → y < m.inputs → ((j ≡ i) × (y ≡ x)) ⊎ Before j y i x → Memᴰ (m.step (get_or grown j m.start) y) grown
      grown_closed j y h (inl (e, d)) = mathlib.Core.List.Memᴰ.append_right L (mathlib.Core.List.Memᴰ.head (rw (e, d, old i r.here, r.stands)))
      grown_closed j y h (inr b) =
          let k : j < length L = omega (arith, r.here, before-low b) in
          rw (old j k) (mathlib.Core.List.Memᴰ.append_left (m.step s x ∷ []) (r.part.closed j y h b))

      pub row_new : Row m (L ++ (m.step s x ∷ [])) i (x + 1) s
      row_new =
          record {
            part =
                record {
                  apart = apart_snoc L (m.step s x) r.part.apart new;
                  sound = λ a h. grown_sound a (mathlib.Core.List.Memᴰ.append_cases L h);
                  begins = (r.part.begins.0 ++ (m.step s x ∷ []), ap (λ (l : List S). l ++ (m.step s x ∷ [])) r.part.begins.1);
                  met = λ j pos h. grown_met j pos (eq-or-lt_of_le (omega (arith, grown_length)));
                  closed = λ j y h b. grown_closed j y h (before-next b);
                };
            here = omega (arith, grown_length, r.here);
            stands = old i r.here ∙ r.stands;
          }

      -- .. or one too many
      pub row_over : {room : ℕ} → room ≤ length L → TooMany m room
      row_over h =
          record { states = grown; apart = row_new.part.apart; sound = row_new.part.sound; above = omega (arith, grown_length) }

    -- all inputs are done
    pub row_done : {L : List S} {i x : ℕ} {s : S} → Row m L i x s → m.inputs ≤ x → Part m L (i + 1) 0
    row_done r h =
        record {
          apart = r.part.apart;
          sound = r.part.sound;
          begins = r.part.begins;
          met = r.part.met;
          closed = λ j y k b. r.part.closed j y k (before-row (omega arith) b);
        }

    -- ---- all states are done

    module _ {L : List S} {i : ℕ} (p : Part m L i 0) (h : length L ≤ i) where
      stays : (s : S) (w : List ℕ) → Inputs m.inputs w → Memᴰ s L → Memᴰ (run m s w) L
      stays s [] b k = k
      stays s (x ∷ w) b k =
          let (j, inside, e) = mem_get_or m.start k in
          let next : Memᴰ (m.step (get_or L j m.start) x) L = p.closed j x b.0 (inl (omega arith)) in
          stays (m.step s x) w b.1 (rw e at next)

      whole : (s : S) → Reach m s → Memᴰ s L
      whole s r = rw r.leads at (stays m.start r.by r.inputs (rw p.begins.1 (mathlib.Core.List.Memᴰ.head refl)))

      pub part-done : Numbering m L
      part-done = record { lists = record { apart = p.apart; sound = p.sound; whole = whole }; begins = p.begins; met = p.met }
