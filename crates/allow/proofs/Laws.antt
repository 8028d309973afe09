-- The laws of the loop over a body's words, and of what is asked of a name.
-- Assumes nothing.
use mathlib.Core.Bool.{Bool, true, false}
use mathlib.Core.Path.{◌≡◌, refl, sym, ◌∙◌, ap, subst}
use mathlib.Core.List.{List, [], ◌∷◌}
use mathlib.Core.Option.{Option, none, some}
use Prim.Native.Nat.{ℕ, zero, suc, ◌+◌, ◌≤◌, ◌<◌}
use native.Mathlib.Omega.{arith}
use lib.Dec.{ltb}
use borrow.Author.Tests.{lt-ltb}
use Rattle.meaning.specs.Tree.{Name}
use Rattle.meaning.specs.Unexpanded.{Term}
use Rattle.meaning.specs.Expansion.{Bound, actual_of, name_form, bit_form, is_name, is_bit}
use Rattle.language.specs.Words.{Word}
use Rattle.words.specs.Runs.{part}
use Rattle.hand.specs.declared.Here.{Here}
use Rattle.hand.specs.Along.{Stands, Near, Begins}
use Rattle.frames_law.specs.Frames.{told_at}
use Rattle.frames.specs.declared.Under.{Under}
use Rattle.frames.specs.declared.Meant.{Meant}
use Rattle.frames.specs.declared.Meant.TheVariants as meant
use Rattle.frames.specs.Open.{BindsUnder}
use Rattle.frames.specs.Meant.{form_for, form_in, span_name, MeantBy}
use Rattle.uses_law.specs.Uses.{calm, sort_of, held, onward, walk}
use Rattle.uses_law.proofs.Walked.{walked}
use Rattle.allow.specs.declared.Sort as coded
use Rattle.allow.specs.declared.Sort.TheVariants as sort
use Rattle.allow.specs.Steps.{sort_number, sort_code, sort_at, state_at, ask_code, next_code, asks}
use Rattle.allow.specs.Allowed.{name_by, bit_by, Fits, Allows}
use Rattle.allow.proofs.Numbers.{sort_told, sort_low, next_small, walk_on, goes_on}

-- ---- what is asked of a name

name-form : (to : ℕ → ℕ) (v : Name) (o : Option Term) → is_name o ≡ name_form (form_for to v o)
name-form to v none = refl
name-form to v (some t) = refl

bit-form : (to : ℕ → ℕ) (v : Name) (o : Option Term) → is_bit o ≡ bit_form (form_for to v o)
bit-form to v none = refl
bit-form to v (some t) = refl

-- where what a name means is a name or none, and a bit or none, so is all that is asked of it
fits_by : (s z : List ℕ) (u : Under) (a b : ℕ) (r : Meant) → MeantBy s z u a b r → (x y : Bool) → name_form (form_in s (told_at u.at) r) ≡ x → bit_form (form_in s (told_at u.at) r) ≡ y
    → (bound : List (Bound Term)) → BindsUnder s z u bound → (k : ℕ) → asks (λ l. x) (λ l. y) k (part s a b) ≡ asks (name_by bound) (bit_by bound) k (part s a b)
unfolding asks
fits_by s z u a b r m x y e f bound g zero = refl
fits_by s z u a b r m x y e f bound g (suc zero) = sym (name-form (told_at u.at) (span_name s a b) (actual_of bound (part s a b)) ∙ ap name_form (sym (m bound g)) ∙ e)
fits_by s z u a b r m x y e f bound g (suc (suc k)) = sym (bit-form (told_at u.at) (span_name s a b) (actual_of bound (part s a b)) ∙ ap bit_form (sym (m bound g)) ∙ f)

always : (k : ℕ) (l : List ℕ) → true ≡ asks (λ l. true) (λ l. true) k l
unfolding asks
always zero l = refl
always (suc zero) l = refl
always (suc (suc k)) l = refl

only_bit : (k : ℕ) (l : List ℕ) → ¬ (k ≡ 0) → ltb 1 k ≡ asks (λ l. false) (λ l. true) k l
unfolding asks
only_bit zero l h = absurd (h refl)
only_bit (suc zero) l h = refl
only_bit (suc (suc k)) l h = lt-ltb 1 (suc (suc k)) (omega arith)

never : (k : ℕ) (l : List ℕ) → ¬ (k ≡ 0) → false ≡ asks (λ l. false) (λ l. false) k l
unfolding asks
never zero l h = absurd (h refl)
never (suc zero) l h = refl
never (suc (suc k)) l h = refl

module _ {s z : List ℕ} {u : Under} {n a b : ℕ} where
  pub nothing-asked : n ≡ 0 → Fits s z u n a b true
  unfolding asks
  nothing-asked e = record { told = λ bound x. rw e refl }

  pub asked-name : {r : Meant} {i j : ℕ} → r ≡ meant.Name i j → MeantBy s z u a b r → Fits s z u n a b true
  asked-name {r} e m = record { told = λ bound x. always n (part s a b) ∙ fits_by s z u a b r m true true (rw e refl) (rw e refl) bound x n }

  asked-bit : {r : Meant} {i j k : ℕ} → ¬ (n ≡ 0) → r ≡ meant.Bit i j k → MeantBy s z u a b r → Fits s z u n a b (ltb 1 n)
  asked-bit {r} h e m = record { told = λ bound x. only_bit n (part s a b) h ∙ fits_by s z u a b r m false true (rw e refl) (rw e refl) bound x n }

  pub asked-neither : {r : Meant} → ¬ (n ≡ 0) → r ≡ meant.Neither → MeantBy s z u a b r → Fits s z u n a b false
  asked-neither {r} h e m = record { told = λ bound x. never n (part s a b) h ∙ fits_by s z u a b r m false false (rw e refl) (rw e refl) bound x n }

  -- asked for a name, and none was found
  pub asked-other : {r : Meant} → n ≡ 1 → ((i j : ℕ) → r ≡ meant.Name i j → ⊥) → MeantBy s z u a b r → Fits s z u n a b false
  asked-other {r} e other m = go r refl
    where
      go : (q : Meant) → r ≡ q → Fits s z u n a b false
      go (meant.Name i j) is = absurd (other i j is)
      go (meant.Bit i j k) is = let f : ltb 1 n ≡ false = rw e refl in subst (Fits s z u n a b) f (asked-bit (omega arith) is m)
      go meant.Neither is = asked-neither (omega arith) is m

  pub asked-either : {r : Meant} {i j k : ℕ} → n ≡ 2 → r ≡ meant.Bit i j k → MeantBy s z u a b r → Fits s z u n a b true
  asked-either e is m = let f : ltb 1 n ≡ true = rw e refl in subst (Fits s z u n a b) f (asked-bit (omega arith) is m)

-- ---- one word

-- `endproc` alone has the last number
pub only_last : (c : coded.Sort) → (c ≡ sort.Last → ⊥) → ¬ (sort_number c ≡ 7)
only_last sort.Other other e = absurd (omega arith)
only_last sort.Name other e = absurd (omega arith)
only_last sort.Changes other e = absurd (omega arith)
only_last sort.Becomes other e = absurd (omega arith)
only_last sort.Index other e = absurd (omega arith)
only_last sort.Opens other e = absurd (omega arith)
only_last sort.Closes other e = absurd (omega arith)
only_last sort.Last other e = other refl

some_same : {x y : Bool} → some x ≡ some y → x ≡ y
some_same e = cc

held_not : (t : Bool) (o : Option Bool) (r : Bool) → t ≡ false → held t o ≡ some r → false ≡ r
held_not t o r e q = some_same (rw e at q)

held-last : (t : Bool) (c : ℕ) (o : Option Bool) (r : Bool) → t ≡ true → c ≡ 7 → held t (onward (sort_at c) o) ≡ some r → true ≡ r
unfolding onward sort_at
held-last t c o r e f q = some_same (rw (e, f) at q)

held_on : (t : Bool) (c : ℕ) (o : Option Bool) (r : Bool) → t ≡ true → c < 7 → held t (onward (sort_at c) o) ≡ some r → o ≡ some r
held_on t c o r e h q = sym (goes_on c o h) ∙ (rw e at q)

-- ---- the loop

-- from the word in hand on, the walk comes to what it comes to from the first
pub record Going (s z : List ℕ) (u : Under) (first h : Here) (m a b : ℕ) : Type 0 where
  pub near : Near s h
  pub small : m ≤ h.place + 5
  pub goes : (bound : List (Bound Term)) → BindsUnder s z u bound → (ws : List Word) (r : Bool) → Stands s first ws → walk (name_by bound) (bit_by bound) calm ws ≡ some r
      → (vs : List Word) × Stands s h vs × (walk (name_by bound) (bit_by bound) (state_at m (part s a b)) vs ≡ some r)

module _ {s z : List ℕ} {u : Under} where
  pub begun : {h : Here} → Near s h → Going s z u h h 0 0 0
  unfolding state_at
  begun near = record { near = near; small = omega arith; goes = λ bound x ws r st e. (ws, st, e) }

  module _ {first h : Here} {m a b : ℕ} (g : Going s z u first h m a b) where
    -- what every end of the walk from here on is
    ends : (r : Bool) → ((bound : List (Bound Term)) → BindsUnder s z u bound → (vs : List Word) (o : Bool) → Stands s h vs → walk (name_by bound) (bit_by bound) (state_at m (part s a b)) vs ≡ some o → r ≡ o) → Allows s z u first r
    ends r f = record { told = λ bound x ws st n k body v rest told e. let (vs, sv, w) = g.goes bound x ws _ st (walked (name_by bound) (bit_by bound) n k ws body v rest told e) in f bound x vs _ sv w }

    pub words-end : 62 < h.kind → Allows s z u first true
    unfolding walk
    words-end over = ends true last
      where
        last : (bound : List (Bound Term)) → BindsUnder s z u bound → (vs : List Word) (o : Bool) → Stands s h vs → walk (name_by bound) (bit_by bound) (state_at m (part s a b)) vs ≡ some o → true ≡ o
        last bound x [] o st e = let q : ◌≡◌ {A = ℕ} 0 1 = cc in absurd (omega arith)
        last bound x (w ∷ ws) o (same, along) e = absurd (omega (arith, same.known))

    module _ {c : ℕ} (is : c ≡ sort_code h.kind) where
      -- the walk over the word in hand
      over : (bound : List (Bound Term)) (vs : List Word) (o : Bool) → Stands s h vs → walk (name_by bound) (bit_by bound) (state_at m (part s a b)) vs ≡ some o
          → (w : Word) × (ws : List Word) × Stands s h (w ∷ ws)
          × (held (asks (name_by bound) (bit_by bound) (ask_code m c) (part s a b)) (onward (sort_at c) (walk (name_by bound) (bit_by bound) (state_at (next_code m c) w.bytes) ws)) ≡ some o)
      unfolding walk
      over bound [] o st e = let q : ◌≡◌ {A = ℕ} 0 1 = cc in absurd (omega arith)
      over bound (w ∷ ws) o (same, along) e =
          let low : c < 8 = rw is (sort_low h.kind) in
          let sort : sort_of w.kind ≡ sort_at c = ap sort_of (sym same.kind) ∙ sort_told h.kind same.known ∙ ap sort_at (sym is) in
          (w, ws, (same, along), sym (walk_on (name_by bound) (bit_by bound) m c (part s a b) w ws low sort) ∙ e)

      pub refused : {k : ℕ} {r : Bool} → k ≡ ask_code m c → Fits s z u k a b r → r ≡ false → Allows s z u first false
      refused {k} {r} ask fits not = ends false last
        where
          last : (bound : List (Bound Term)) → BindsUnder s z u bound → (vs : List Word) (o : Bool) → Stands s h vs → walk (name_by bound) (bit_by bound) (state_at m (part s a b)) vs ≡ some o → false ≡ o
          last bound x vs o st e =
              let (w, ws, sv, q) = over bound vs o st e in
              held_not _ _ o (rw ask at (sym (fits.told bound x) ∙ not)) q

      module _ {k : ℕ} {r : Bool} (ask : k ≡ ask_code m c) (fits : Fits s z u k a b r) (is-so : r ≡ true) where
        passes : (bound : List (Bound Term)) → BindsUnder s z u bound → asks (name_by bound) (bit_by bound) (ask_code m c) (part s a b) ≡ true
        passes bound x = rw ask at (sym (fits.told bound x) ∙ is-so)

        pub all_allowed : c ≡ 7 → Allows s z u first true
        all_allowed seven = ends true last
          where
            last : (bound : List (Bound Term)) → BindsUnder s z u bound → (vs : List Word) (o : Bool) → Stands s h vs → walk (name_by bound) (bit_by bound) (state_at m (part s a b)) vs ≡ some o → true ≡ o
            last bound x vs o st e = let (w, ws, sv, q) = over bound vs o st e in held-last _ c _ o (passes bound x) seven q

        pub goes_further : {h₁ : Here} → h.kind ≤ 62 → ¬ (c ≡ 7) → Begins s h.next h₁ → Going s z u first h₁ (next_code m c) h.place h.next
        goes_further {h₁} known on next =
            record {
              near = next.near;
              small = next_small m c h.place h₁.place g.small (omega (arith, g.near.more (omega arith), next.later));
              goes = λ bound x ws o st e. let (vs, sv, w) = g.goes bound x ws o st e in on_from bound x vs o sv w;
            }
          where
            on_from : (bound : List (Bound Term)) → BindsUnder s z u bound → (vs : List Word) (o : Bool) → Stands s h vs → walk (name_by bound) (bit_by bound) (state_at m (part s a b)) vs ≡ some o
                → (ws : List Word) × Stands s h₁ ws × (walk (name_by bound) (bit_by bound) (state_at (next_code m c) (part s h.place h.next)) ws ≡ some o)
            on_from bound x vs o st e =
                let (w, ws, (same, along), q) = over bound vs o st e in
                let low : c < 7 = omega (arith, sort_low h.kind) in
                (ws, next.stands ws along, ap (λ (l : List ℕ). walk (name_by bound) (bit_by bound) (state_at (next_code m c) l) ws) same.bytes ∙ held_on _ c _ o (passes bound x) low q)
