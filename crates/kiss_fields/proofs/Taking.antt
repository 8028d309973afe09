-- A field taken: what agreeing, a nearest text, digits and bits come to.
-- Assumes nothing.
use mathlib.Core.Path.{◌≡◌, refl, sym, ap, ap₂, ◌∙◌, subst}
use mathlib.Core.List.{List, [], ◌∷◌, ◌++◌, append_assoc}
use Prim.Native.Nat.{ℕ, suc, ◌+◌, ◌-◌, ◌*◌, ◌/◌, ◌%◌, ◌^◌, ◌≤◌, ◌<◌, max}
use native.Mathlib.Nat.{mul-le-mul_right}
use native.Mathlib.Numerals.{add-one}
use native.Mathlib.Omega.{arith}
use native.Mathlib.Decide.{dec_lt}
use lib.ListN.{length, get_or, take, drop, length-append, length-drop, take-append-drop, get_or-append}
use lib.Seq.{take-suc, drop-cons, take_at, drop-drop, take-take, length-take-le, get_or-drop, get_or-take, take_all}
use lib.Pow.{pow_mono}
use Rattle.file_law.specs.Answer.{listed}
use Rattle.file_law.proofs.Patch.{front}
use Rattle.kiss_law.specs.Text.{decimal, bits}
use Rattle.kiss_put.specs.Put.{Put}
use Rattle.kiss_law.proofs.Decimal.{few, digits_decimal, decimal-more, decimal-begins, first-digit, digits_on}
use Rattle.kiss_law.proofs.Bits.{length-bits, bits_at, bits_on, take-bits}
use Rattle.kiss_fields.specs.Took.{Agrees, Stood, Left, Nearest, ReadSo}

-- byte r of a text that begins with so many bytes of another
byte_of : (y w z : List ℕ) (r e : ℕ) → r < e → e ≤ length y → w ≡ take e y ++ z → get_or w r 0 ≡ get_or y r 0
byte_of y w z r e h l s =
    ap (λ (t : List ℕ). get_or t r 0) s
    ∙ get_or-append (take e y) z 0 r (omega (arith, length-take-le e y l))
    ∙ get_or-take e y r 0 h

-- what stands from `at` on, r bytes further
further : (x : List ℕ) (at r : ℕ) → get_or (drop at x) r 0 ≡ get_or x (at + r) 0
further x at r = get_or-drop at x r 0

-- ---- agreeing

pub agrees_on : (x : List ℕ) (at : ℕ) (w : List ℕ) (i : ℕ) → i < length w → at + i < length x → take i (drop at x) ≡ take i w → get_or x (at + i) 0 ≡ get_or w i 0
    → take (i + 1) (drop at x) ≡ take (i + 1) w
agrees_on x at w i h l e s =
    let d : i < length (drop at x) = omega (arith, length-drop at x) in
    ap (λ (j : ℕ). take j (drop at x)) (add-one i) ∙ take-suc (drop at x) i 0 d
    ∙ ap₂ (λ (t : List ℕ) (b : ℕ). t ++ (b ∷ [])) e (further x at i ∙ s)
    ∙ sym (ap (λ (j : ℕ). take j w) (add-one i) ∙ take-suc w i 0 h)

-- all of it stands here
pub stood-fixed : (x : List ℕ) (at : ℕ) (w : List ℕ) (r : ℕ) → Agrees x at w r → length w ≤ r → drop at x ≡ w ++ drop (at + r) x
stood-fixed x at w r a h =
    sym (take-append-drop r (drop at x)) ∙ ap₂ ◌++◌ (a.same ∙ take_all r w h) (drop-drop r at x)

-- what has the first r bytes, and no more
begun : (x : List ℕ) (at : ℕ) (w : List ℕ) (r : ℕ) → Agrees x at w r → w ≡ take r (drop at x) ++ drop r w
begun x at w r a = sym (take-append-drop r w) ∙ ap (λ (t : List ℕ). t ++ drop r w) (sym a.same)

not_further : (x : List ℕ) (at : ℕ) (w : List ℕ) (r : ℕ) → Agrees x at w r → r < length w → (e : ℕ) → r ≤ e → e < length (drop at x) → (z : List ℕ) → w ≡ take (suc e) (drop at x) ++ z → ⊥
not_further x at w r a h e l b z s =
    a.ends h (omega (arith, length-drop at x)) (sym (byte_of (drop at x) w z r (suc e) (omega arith) (omega arith) s ∙ further x at r))

pub left-fixed : (x : List ℕ) (at : ℕ) (w : List ℕ) (r : ℕ) → at ≤ length x → Agrees x at w r → r < length w → Left 1 (λ (a : ℕ). w) x at (at + r)
left-fixed x at w r hx a h =
    let z : at + r - at ≡ r = omega arith in
    record {
      from = omega arith;
      stops = rw z (record {
        inside = omega (arith, length-drop at x, a.inside);
        near = 0;
        one = omega arith;
        more = drop r w;
        begins = begun x at w r a;
        short = omega (arith, length-drop r w);
        first = λ b i c t s. not_further x at w r a h r (omega arith) b t s;
      });
    }

-- ---- the nearest of many

module _ (m : ℕ) (enc : ℕ → List ℕ) (x : List ℕ) (at : ℕ) where
  pub nearest_start : 1 ≤ m → 1 ≤ length (enc 0) → Nearest 0 m enc (drop at x) 0
  nearest_start h l = record { inside = omega arith; near = 0; one = h; more = enc 0; begins = refl; short = l; first = λ b c i. absurd (omega arith) }

  pub nearest_on : (a e r : ℕ) → a < m → Nearest a m enc (drop at x) e → Agrees x at (enc a) r → r < length (enc a) → Nearest (a + 1) m enc (drop at x) (max e r)
  nearest_on a e r ha n g h = pick (dec_lt e r)
    where
      pick : Dec (e < r) → Nearest (a + 1) m enc (drop at x) (max e r)
      pick (yes l) =
          let z : max e r ≡ r = omega arith in
          rw z (record {
            inside = omega (arith, length-drop at x, g.inside);
            near = a;
            one = ha;
            more = drop r (enc a);
            begins = begun x at (enc a) r g;
            short = omega (arith, length-drop r (enc a));
            first = λ b c i t s. at_last b c i t s (dec_lt c a);
          })
        where
          at_last : r < length (drop at x) → (c : ℕ) → c < a + 1 → (t : List ℕ) → enc c ≡ take (suc r) (drop at x) ++ t → Dec (c < a) → ⊥
          at_last b c i t s (yes j) =
              n.first (omega arith) c j (drop (suc e) (take (suc r) (drop at x)) ++ t)
              (s ∙ ap (λ (u : List ℕ). u ++ t) (sym (take-append-drop (suc e) (take (suc r) (drop at x))) ∙ ap (λ (u : List ℕ). u ++ drop (suc e) (take (suc r) (drop at x))) (take-take (suc e) (suc r) (drop at x) (omega arith)))
              ∙ append_assoc (take (suc e) (drop at x)) (drop (suc e) (take (suc r) (drop at x))) t)
          at_last b c i t s (no j) = let q : c ≡ a = omega arith in not_further x at (enc a) r g h r (omega arith) b t (ap enc (sym q) ∙ s)
      pick (no l) =
          let z : max e r ≡ e = omega arith in
          rw z (record {
            inside = n.inside;
            near = n.near;
            one = n.one;
            more = n.more;
            begins = n.begins;
            short = n.short;
            first = λ b c i t s. at_last b c i t s (dec_lt c a);
          })
        where
          at_last : e < length (drop at x) → (c : ℕ) → c < a + 1 → (t : List ℕ) → enc c ≡ take (suc e) (drop at x) ++ t → Dec (c < a) → ⊥
          at_last b c i t s (yes j) = n.first b c j t s
          at_last b c i t s (no j) = let q : c ≡ a = omega arith in not_further x at (enc a) r g h e (omega arith) b t (ap enc (sym q) ∙ s)

  pub left_nearest : (a e : ℕ) → m ≤ a → Nearest a m enc (drop at x) e → Left m enc x at (at + e)
  left_nearest a e h n =
      let z : at + e - at ≡ e = omega arith in
      record {
        from = omega arith;
        stops = rw z (record { inside = n.inside; near = n.near; one = n.one; more = n.more; begins = n.begins; short = n.short; first = λ b c i t s. n.first b c (omega arith) t s });
      }

-- ---- digits of a next state

abbrev pub blanked : ℕ → List ℕ
blanked v = decimal v ++ (32 ∷ [])

-- what stands from `at` on, a byte further
step_on : (x l : List ℕ) (at e b : ℕ) → e < length x → get_or x e 0 ≡ b → drop at x ≡ l ++ drop e x → drop at x ≡ (l ++ (b ∷ [])) ++ drop (e + 1) x
step_on x l at e b h g s =
    s ∙ ap (λ (t : List ℕ). l ++ t) (drop-cons x e 0 h ∙ ap₂ (λ (c : ℕ) (j : ℕ). c ∷ drop j x) g (sym (add-one e)))
    ∙ sym (append_assoc l (b ∷ []) (drop (e + 1) x))

pub so-first : (x : List ℕ) (at d : ℕ) → at < length x → d < 10 → get_or x at 0 ≡ 48 + d → ReadSo x at d (at + 1)
so-first x at d h l g = record {
  behind = ap (λ (t : List ℕ). at + length t) (sym (few 4 d l));
  inside = omega arith;
  is = step_on x [] at at (48 + d) h g refl ∙ ap (λ (t : List ℕ). t ++ drop (at + 1) x) (sym (few 4 d l));
}

pub so_on : (x : List ℕ) (at v e d : ℕ) → ReadSo x at v e → e < length x → d < 10 → get_or x e 0 ≡ 48 + d → 1 ≤ v → 10 * v + d < 100000 → ReadSo x at (10 * v + d) (e + 1)
so_on x at v e d r h l g p b =
    let m = decimal-more v d p l b in
    record {
      behind = omega (arith, r.behind, ap length m, length-append (decimal v) ((48 + d) ∷ []));
      inside = omega arith;
      is = step_on x (decimal v) at e (48 + d) h g r.is ∙ ap (λ (t : List ℕ). t ++ drop (e + 1) x) (sym m);
    }

module _ (n : ℕ) (few-states : n ≤ 256) (x : List ℕ) (at : ℕ) where
  pub so-found : (v e : ℕ) → ReadSo x at v e → v < n → e < length x → get_or x e 0 ≡ 32 → Stood n blanked x at v (e + 1)
  so-found v e r h l g = record {
    one = h;
    is = step_on x (decimal v) at e 32 l g r.is;
    behind = omega (arith, r.behind, length-append (decimal v) (32 ∷ []));
    inside = omega arith;
  }

  -- what stands from `at` on, up to e and one byte more
  up_to_lem : (l : List ℕ) (e : ℕ) → drop at x ≡ l ++ drop e x → take (length l) (drop at x) ≡ l
  up_to_lem l e s = ap (take (length l)) s ∙ take_at l (drop e x) (length l) refl

  up_past : (l : List ℕ) (e : ℕ) → e < length x → drop at x ≡ l ++ drop e x → take (suc (length l)) (drop at x) ≡ l ++ (get_or x e 0 ∷ [])
  up_past l e h s =
      ap (take (suc (length l))) (step_on x l at e (get_or x e 0) h refl s)
      ∙ take_at (l ++ (get_or x e 0 ∷ [])) (drop (e + 1) x) (suc (length l)) (length-append l (get_or x e 0 ∷ []) ∙ add-one (length l))

  -- no next state begins with the digits of v and that byte
  not_next : (v e : ℕ) → ReadSo x at v e → v < n → e < length x → ¬ (get_or x e 0 ≡ 32) → ((d : ℕ) → d < 10 → get_or x e 0 ≡ 48 + d → 1 ≤ v → n ≤ 10 * v + d)
      → (a : ℕ) → a < n → (z : List ℕ) → blanked a ≡ take (suc (length (decimal v))) (drop at x) ++ z → ⊥
  not_next v e r h l g why a ha z s =
      let b = get_or x e 0 in
      let t : decimal v ++ (b ∷ z) ≡ decimal a ++ (32 ∷ []) = sym (append_assoc (decimal v) (b ∷ []) z) ∙ ap (λ (u : List ℕ). u ++ z) (sym (up_past (decimal v) e l r.is)) ∙ sym s in
      let q = digits_on b (decimal v) (decimal a) z g (digits_decimal 5 v) (digits_decimal 5 a) t in
      let d : b ≡ 48 + (b - 48) = omega (arith, q.0) in
      let p = decimal-begins a v (b - 48) q.2.0 (omega arith) (omega arith) (q.2.1 ∙ ap (λ (c : ℕ). decimal v ++ (c ∷ q.2.0)) d) in
      let w = why (b - 48) (omega (arith, q.1)) d p.0 in
      omega (arith, p.1)

  pub so-stop : (v e : ℕ) → ReadSo x at v e → v < n → (e < length x → (¬ (get_or x e 0 ≡ 32)) × ((d : ℕ) → d < 10 → get_or x e 0 ≡ 48 + d → 1 ≤ v → n ≤ 10 * v + d)) → Left n blanked x at e
  so-stop v e r h why =
      let z : e - at ≡ length (decimal v) = omega (arith, r.behind) in
      record {
        from = omega (arith, r.behind);
        stops = rw z (record {
          inside = omega (arith, length-drop at x, r.behind, r.inside);
          near = v;
          one = h;
          more = 32 ∷ [];
          begins = ap (λ (t : List ℕ). t ++ (32 ∷ [])) (sym (up_to_lem (decimal v) e r.is));
          short = omega arith;
          first = λ b a ha t s. let l : e < length x = omega (arith, length-drop at x, r.behind) in not_next v e r h l (why l).0 (why l).1 a ha t s;
        });
      }

  -- .. and behind a 0 no digit stands
  pub so_zero : (v e : ℕ) → ReadSo x at v e → v < n → ¬ (get_or x e 0 ≡ 32) → v ≡ 0 → Left n blanked x at e
  so_zero v e r h b z = so-stop v e r h (λ l. (b, λ d g p o. absurd (omega (arith, z))))

  -- no next state begins with that byte
  pub first-stop : 1 ≤ n → at ≤ length x → (at < length x → (d : ℕ) → d < 10 → get_or x at 0 ≡ 48 + d → n ≤ d) → Left n blanked x at at
  first-stop h hx why =
      let z : at - at ≡ 0 = omega arith in
      record {
        from = omega arith;
        stops = rw z (record {
          inside = omega arith;
          near = 0;
          one = h;
          more = blanked 0;
          begins = refl;
          short = omega (arith, length-append (decimal 0) (32 ∷ []));
          first = λ b a ha t s.
              let l : at < length x = omega (arith, length-drop at x) in
              let y : take 1 (drop at x) ≡ get_or x at 0 ∷ [] = ap (take 1) (drop-cons x at 0 l) in
              let q = first-digit a (get_or x at 0) t (omega arith) (s ∙ ap (λ (u : List ℕ). u ++ t) y) in
              let w = why l (get_or x at 0 - 48) (omega (arith, q.1)) (omega (arith, q.0)) in
              omega (arith, q.2);
        });
      }

-- ---- bits

-- the bits of a word stand from `at` on, up to `end`
pub record BitsSo (x : List ℕ) (at j word end : ℕ) : Type 0 where
  pub small : word < 2 ^ j
  pub behind : end ≡ at + j
  pub inside : end ≤ length x
  pub is : drop at x ≡ bits j word ++ drop end x

pub bits-start : (x : List ℕ) (at : ℕ) → at ≤ length x → BitsSo x at 0 0 at
unfolding bits listed
bits-start x at h = record { small = omega arith; behind = omega arith; inside = h; is = refl }

pub bits_go : (x : List ℕ) (at j word end d : ℕ) → BitsSo x at j word end → end < length x → d < 2 → get_or x end 0 ≡ 48 + d → BitsSo x at (j + 1) (word + d * 2 ^ j) (end + 1)
bits_go x at j word end d s h l g =
    let m = bits_on word d j s.small l in
    record {
      small = m.1;
      behind = omega (arith, s.behind);
      inside = omega arith;
      is = step_on x (bits j word) at end (48 + d) h g s.is ∙ ap (λ (t : List ℕ). t ++ drop (end + 1) x) (sym m.0);
    }

pub bits-found : (x : List ℕ) (at o j word end : ℕ) → j ≡ o → BitsSo x at j word end → Stood (2 ^ o) (bits o) x at word end
bits-found x at o j word end e s = subst (λ (i : ℕ). Stood (2 ^ i) (bits i) x at word end) e (record {
  one = s.small;
  is = s.is;
  behind = omega (arith, s.behind, length-bits j word);
  inside = s.inside;
})

pub bits-stop : (x : List ℕ) (at o j word end : ℕ) → j < o → BitsSo x at j word end → (end < length x → (d : ℕ) → d < 2 → get_or x end 0 ≡ 48 + d → ⊥) → Left (2 ^ o) (bits o) x at end
bits-stop x at o j word end h s why =
    let z : end - at ≡ j = omega (arith, s.behind) in
    let p : 2 ^ j ≤ 2 ^ o = pow_mono (omega arith) in
    let l = length-bits o word in
    let u : take j (drop at x) ≡ bits j word = ap (take j) s.is ∙ take_at (bits j word) (drop end x) j (length-bits j word) in
    record {
      from = omega (arith, s.behind);
      stops = rw z (record {
        inside = omega (arith, length-drop at x, s.behind, s.inside);
        near = word;
        one = omega (arith, s.small);
        more = drop j (bits o word);
        begins = sym (take-append-drop j (bits o word)) ∙ ap (λ (t : List ℕ). t ++ drop j (bits o word)) (take-bits j o word (omega arith) ∙ sym u);
        short = omega (arith, length-drop j (bits o word));
        first = λ b a ha t q.
            let e : end < length x = omega (arith, length-drop at x, s.behind) in
            let v : get_or (drop at x) j 0 ≡ get_or x end 0 = further x at j ∙ ap (λ (i : ℕ). get_or x i 0) (sym s.behind) in
            why e (a / 2 ^ j % 2) (omega arith) (sym v ∙ sym (byte_of (drop at x) (bits o a) t j (suc j) (omega arith) (omega arith) q) ∙ bits_at o a j h);
      });
    }

-- ---- texts put together to compare with

pub put_front : {l m : List ℕ} {r : ℕ} (w : List ℕ) → Put l 0 w r m → take r m ≡ w
put_front {l} {m} {r} w p = ap (take r) (p.bytes ∙ front l w) ∙ take_at w (drop (length w) l) r (sym (p.end ∙ omega arith))

pub stood-near : (m : ℕ) (enc : ℕ → List ℕ) (x : List ℕ) (at a r l : ℕ) → a < m → Agrees x at (enc a) r → length (enc a) ≤ r → l ≡ length (enc a) → Stood m enc x at a (at + l)
stood-near m enc x at a r l h g b e =
    let z : l ≡ r = omega (arith, g.within) in
    record {
      one = h;
      is = subst (λ (i : ℕ). drop at x ≡ enc a ++ drop (at + i) x) (sym z) (stood-fixed x at (enc a) r g b);
      behind = ap (λ (i : ℕ). at + i) e;
      inside = omega (arith, g.inside);
    }

pub bit-room : (d p : ℕ) → d < 2 → p ≤ 65536 → d * p ≤ 65536
bit-room d p h l = let q : d * p ≤ 1 * p = mul-le-mul_right p (omega arith) in omega arith

pub unit_room : (a unit most : ℕ) → a < most → (a + 1) * unit ≤ most * unit
unit_room a unit most h = mul-le-mul_right unit (omega arith)
