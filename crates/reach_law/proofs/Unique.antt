-- One count, one numbering, one answer for a room: a padded or made-up count breaks the promise.
-- Assumes nothing.
use mathlib.Core.Path.{◌≡◌, refl, ap, sym, ◌∙◌}
use mathlib.Core.Option.{Option, none, some}
use mathlib.Core.List.{List, Memᴰ}
use Prim.Native.Nat.{ℕ, zero, suc, ◌<◌, ◌≤◌}
use lib.ListN.{length, get_or, take}
use lib.Seq.{take-suc, take-length, get_or-take}
use native.Mathlib.Omega.{arith}
use Rattle.reach_law.specs.Machine.{Machine}
use Rattle.reach_law.specs.Count.{Apart, Lists, Counted, TooMany}
use Rattle.reach_law.specs.Numbering.{Before, FirstMet, Numbering, Answers}
use Rattle.reach_law.proofs.Lists.{no_longer, not_before}
use Rattle.reach_law.proofs.Order.{Compared, earlier, later, one, compared}

-- lists with one beginning have one element at each place of it
agree : {S : Type 0} (L M : List S) (j : ℕ) (d : S) → take j L ≡ take j M → (i : ℕ) → i < j → get_or L i d ≡ get_or M i d
agree {S} L M j d same i h = sym (get_or-take j L i d h) ∙ ap (λ (l : List S). get_or l i d) same ∙ get_or-take j M i d h

module _ {S : Type 0} {m : Machine S} where
  -- ---- the count

  one-length : {L M : List S} → Lists m L → Lists m M → length L ≡ length M
  one-length {L} {M} l k =
      let p : length L ≤ length M = no_longer L M l.apart (λ s h. k.whole s (l.sound s h)) in
      let q : length M ≤ length L = no_longer M L k.apart (λ s h. l.whole s (k.sound s h)) in
      omega arith

  pub one-count : {a b : ℕ} → Counted m a → Counted m b → a ≡ b
  one-count c d = sym c.size ∙ one-length c.lists d.lists ∙ d.size

  -- a numbering's length is the count
  pub numbering_counts : {L : List S} → Numbering m L → Counted m (length L)
  numbering_counts {L} u = record { states = L; lists = u.lists; size = refl }

  -- the states are too many exactly where their count is above the room
  pub count-above : {room n : ℕ} → TooMany m room → Counted m n → room < n
  count-above {room} {n} t c =
      let h : length t.states ≤ length c.states = no_longer t.states c.states t.apart (λ s k. c.lists.whole s (t.sound s k)) in
      omega (arith, t.above, c.size)

  pub above-count : {room n : ℕ} → Counted m n → room < n → TooMany m room
  above-count c h = record { states = c.states; apart = c.lists.apart; sound = c.lists.sound; above = omega (arith, c.size) }

  -- a numbering that fits rules "too many" out
  pub not_both : {L : List S} {room : ℕ} → Numbering m L → length L ≤ room → TooMany m room → ⊥
  not_both u h t = omega (arith, count-above t (numbering_counts u))

  -- ---- the numbering

  -- of two lists that agree below j, the first meets its state j no earlier than the second
  not_earlier : {L M : List S} {j : ℕ} → Apart L → j < length L → take j L ≡ take j M → (f : FirstMet m L j) (g : FirstMet m M j)
      → Before f.from f.by g.from g.by → ⊥
  not_earlier {L} {M} {j} uniq h same f g b =
      let known : Memᴰ (m.step (get_or M f.from m.start) f.by) (take j M) = g.first f.from f.by f.input b in
      let is : get_or L j m.start ≡ m.step (get_or M f.from m.start) f.by = cc (f.meets, agree L M j m.start same f.from f.earlier) in
      not_before L j m.start uniq h (rw same (mathlib.Core.List.Memᴰ.cast is known))

  module _ {L M : List S} (u : Numbering m L) (v : Numbering m M) where
    same_at : (j : ℕ) → j < length L → j < length M → take j L ≡ take j M → get_or L j m.start ≡ get_or M j m.start
    same_at zero jl jm same = rw (u.begins.1, v.begins.1)
    same_at (suc j) jl jm same = cases (compared f.from f.by g.from g.by)
      where
        f : FirstMet m L (suc j)
        f = u.met (suc j) (omega arith) jl

        g : FirstMet m M (suc j)
        g = v.met (suc j) (omega arith) jm

        cases : Compared f.from f.by g.from g.by → get_or L (suc j) m.start ≡ get_or M (suc j) m.start
        cases (earlier b) = absurd (not_earlier u.lists.apart jl same f g b)
        cases (later b) = absurd (not_earlier v.lists.apart jm (sym same) g f b)
        cases (one e d) = cc (f.meets, g.meets, agree L M (suc j) m.start same f.from f.earlier)

    same-below : (j : ℕ) → j ≤ length L → j ≤ length M → take j L ≡ take j M
    same-below zero h k = refl
    same-below (suc j) h k =
        let ih : take j L ≡ take j M = same-below j (omega arith) (omega arith) in
        let here : get_or L j m.start ≡ get_or M j m.start = same_at j h k ih in
        rw (take-suc L j m.start h, take-suc M j m.start k, ih, here)

    pub one_numbering : L ≡ M
    one_numbering =
        let n : length L ≡ length M = one-length u.lists v.lists in
        sym (take-length L) ∙ same-below (length L) (omega arith) (omega arith) ∙ ap (λ (k : ℕ). take k M) n ∙ take-length M

-- ---- the answer for a room

pub one_answer : {S : Type 0} (m : Machine S) (room : ℕ) (a b : Option (List S)) → Answers m room a → Answers m room b → a ≡ b
one_answer m room none none t k = refl
one_answer m room none (some M) t (v, h) = absurd (not_both v h t)
one_answer m room (some L) none (u, h) t = absurd (not_both u h t)
one_answer m room (some L) (some M) (u, h) (v, k) = ap some (one_numbering u v)
