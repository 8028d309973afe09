-- The next numbers: one for each state and input, found while the search goes on, and a table of them runs as the machine does.
-- Assumes nothing.
use mathlib.Core.Path.{◌≡◌, refl, sym, ap, ap₂, ◌∙◌}
use mathlib.Core.List.{List, [], ◌∷◌, ◌++◌, Memᴰ}
use Prim.Native.Nat.{ℕ, ◌<◌}
use lib.ListN.{length, get_or, length-append, get_or-append}
use lib.Seq.{get_or-append_seam}
use native.Mathlib.Omega.{arith}
use Rattle.reach_law.specs.Machine.{Machine, Inputs, run, shown}
use Rattle.reach_law.specs.Numbering.{Numbering, Next, Follows, numbered}
use Rattle.reach_law.specs.Search.{next_number}
use Rattle.reach_law.proofs.Lists.{get_or_mem, mem_get_or, one_place}
use Rattle.reach_law.proofs.Number.{number-below, number_is}
use Rattle.reach_law.proofs.Part.{Row}
use Rattle.reach_law.proofs.Reached.{reach_step}

module _ {S : Type 0} {m : Machine S} where
  -- ---- while the search goes on

  -- the state that is met stands at j already
  pub next_known : {L : List S} {i x : ℕ} {s : S} (j : ℕ) → Row m L i x s → j < length L → get_or L j m.start ≡ m.step s x → Next m L i x j
  next_known {x = x} j r h e = record { inside = h; leads = ap (λ (t : S). m.step t x) r.stands ∙ sym e }

  -- .. or is put at the end
  pub next-new : {L : List S} {i x : ℕ} {s : S} → Row m L i x s → Next m (L ++ (m.step s x ∷ [])) i x (length L)
  next-new {L} {i} {x} {s} r =
      record {
        inside = omega (arith, length-append L (m.step s x ∷ []));
        leads = rw (get_or-append L (m.step s x ∷ []) m.start i r.here, r.stands, get_or-append_seam L (m.step s x) [] m.start);
      }

  -- a next number stays when states are put at the end
  pub next-kept : {L : List S} {i x j : ℕ} (M : List S) → i < length L → Next m L i x j → Next m (L ++ M) i x j
  next-kept {L} {i} {x} {j} M h e =
      record {
        inside = omega (arith, e.inside, length-append L M);
        leads = rw (get_or-append L M m.start i h, get_or-append L M m.start j e.inside) e.leads;
      }

  -- ---- in a numbering

  module _ {L : List S} (u : Numbering m L) where
    pub one-next : {i x j k : ℕ} → Next m L i x j → Next m L i x k → j ≡ k
    one-next {j = j} {k = k} e f = one_place L j k m.start u.lists.apart e.inside f.inside (sym e.leads ∙ f.leads)

    next_mem : {i x : ℕ} → i < length L → x < m.inputs → Memᴰ (m.step (get_or L i m.start) x) L
    next_mem {i} {x} h k = u.lists.whole (m.step (get_or L i m.start) x) (reach_step m x k (u.lists.sound (get_or L i m.start) (get_or_mem L i m.start h)))

    pub some_next : {i x : ℕ} → i < length L → x < m.inputs → (j : ℕ) × Next m L i x j
    some_next h k = let (j, inside, e) = mem_get_or m.start (next_mem h k) in (j, record { inside = inside; leads = sym e })

    module _ (dec : (a b : S) → Dec (a ≡ b)) where
      pub next-number : Follows m L (next_number dec m L)
      unfolding next_number
      next-number i x h k =
          let b : next_number dec m L i x < length L = number-below dec L (m.step (get_or L i m.start) x) (next_mem h k) in
          record { inside = b; leads = sym (number_is dec L (m.step (get_or L i m.start) x) m.start b) }

      pub only_next : {i x j : ℕ} → i < length L → x < m.inputs → Next m L i x j → next_number dec m L i x ≡ j
      only_next {i} {x} h k e = one-next (next-number i x h k) e

    -- ---- next numbers run as the states do

    module _ (next : ℕ → ℕ → ℕ) (follows : Follows m L next) where
      pub run-number : (w : List ℕ) (i : ℕ) → i < length L → Inputs m.inputs w
          → (run (numbered m next) i w < length L) × (get_or L (run (numbered m next) i w) m.start ≡ run m (get_or L i m.start) w)
      run-number [] i h k = (h, refl)
      run-number (x ∷ w) i h k =
          let e : Next m L i x (next i x) = follows i x h k.0 in
          let (inside, is) = run-number w (next i x) e.inside k.1 in
          (inside, is ∙ ap (λ (s : S). run m s w) (sym e.leads))

      module _ {B : Type 0} (shows : S → B) (outputs : ℕ → B) (right : (i : ℕ) → i < length L → outputs i ≡ shows (get_or L i m.start)) where
        shown_from : (w : List ℕ) (i : ℕ) → i < length L → Inputs m.inputs w
            → shown (numbered m next) outputs i w ≡ shown m shows (get_or L i m.start) w
        shown_from [] i h k = ap (λ (b : B). b ∷ []) (right i h)
        shown_from (x ∷ w) i h k =
            let e : Next m L i x (next i x) = follows i x h k.0 in
            ap₂ ◌∷◌ (right i h) (shown_from w (next i x) e.inside k.1 ∙ ap (λ (s : S). shown m shows s w) (sym e.leads))

        -- from state 0 they show what the machine shows from its start, along every input sequence
        pub shown-same : (w : List ℕ) → Inputs m.inputs w → shown (numbered m next) outputs 0 w ≡ shown m shows m.start w
        shown-same w k =
            let z : get_or L 0 m.start ≡ m.start = rw u.begins.1 in
            shown_from w 0 (rw u.begins.1 (omega arith)) k ∙ ap (λ (s : S). shown m shows s w) z
