-- One word of the walk, in code terms: where the walk goes on from the next word.
-- Assumes nothing.
use mathlib.Core.Bool.{false}
use mathlib.Core.Path.{◌≡◌, refl, sym, ◌∙◌, ap}
use mathlib.Core.List.{List, [], ◌∷◌}
use mathlib.Core.Option.{Option, none, some}
use Prim.Native.Nat.{ℕ, ◌+◌, ◌<◌, max, min}
use native.Mathlib.Omega.{arith}
use native.Mathlib.Decide.{ℕ_discrete}
use Rattle.language.specs.Words.{Word}
use Rattle.words.specs.Runs.{part}
use Rattle.hand.specs.declared.Here.{Here}
use Rattle.hand.specs.Along.{Stands, Begins}
use Rattle.wides_law.specs.Wides.{Sort, a_name, opens, closes, comma, begins, parts, ends, last, other, sort_of, State, calm, named, calling, from_calm, from_name, from_calling, next, Around, Acts, parted, ended, raised, at_close, step, onward, walk}
use Rattle.wides_law.proofs.Walked.{harmless, end-named}
use Rattle.wides.specs.Fill.{Leads, acts, calls_by, closes_by, open_by, begun_by}
use Rattle.wides.proofs.Sorts.{sort_by, sort_told, is_name_lem, is_opens, is_closes, is_begins, is_parts, is_ends, is_last, is_harmless, Within, each_quiet, calls_not, Closes, inside}

pub none-some : {A : Type 0} {m : ℕ} → none ≡ some m → A
none-some e = let q : ◌≡◌ {A = ℕ} 0 1 = cc in absurd (omega arith)

module _ (wide_of : List ℕ → ℕ → ℕ) (s : List ℕ) where
  -- `endproc`: what is around does not matter
  last_is : (h : Here) (n : ℕ) (os : List Around) → h.kind ≡ 57 → (ws : List Word) → Stands s h ws → (m : ℕ) → walk wide_of calm (acts n os) ws ≡ some m → (some n ≡ some m) × (w : Word) × (tail : List Word) × (ws ≡ w ∷ tail) × (sort_of w.kind ≡ last)
  unfolding walk onward
  last_is h n os e [] t m q = none-some q
  last_is h n os e (w ∷ ws) (same, along) m q =
      let sort : sort_of w.kind ≡ last = ap sort_of (sym same.kind) ∙ sort_told h.kind same.known ∙ is_last e in
      (sym (ap (λ (k : Sort). onward wide_of calm k n (walk wide_of (next calm k w.bytes) (step wide_of calm k (acts n os)) ws)) sort) ∙ q, w, ws, refl, sort)

  pub last-count : (h : Here) (n : ℕ) (os : List Around) → h.kind ≡ 57 → (ws : List Word) → Stands s h ws → (m : ℕ) → walk wide_of calm (acts n os) ws ≡ some m → n ≡ m
  last-count h n os e ws t m q = let x : some n ≡ some m = (last_is h n os e ws t m q).0 in cc

  -- in the parentheses of a call every word is passed
  inside-onward : (y : List ℕ) (d n : ℕ) (c : Sort) (m : ℕ) (o : Option ℕ) → onward wide_of (calling y d n) c m o ≡ o
  unfolding onward
  inside-onward y d n a_name m o = refl
  inside-onward y d n opens m o = refl
  inside-onward y d n closes m o = refl
  inside-onward y d n comma m o = refl
  inside-onward y d n begins m o = refl
  inside-onward y d n parts m o = refl
  inside-onward y d n ends m o = refl
  inside-onward y d n last m o = refl
  inside-onward y d n other m o = refl

module _ {wide_of : List ℕ → ℕ → ℕ} {s : List ℕ} where
  -- nowhere else yet
  pub leads-here : {st : State} {a : Acts} {h : Here} → Leads wide_of s st a h st a h
  leads-here = record { goes = λ ws t m e. (ws, t, e) }

  pub leads_then : {st st₁ st₂ : State} {a a₁ a₂ : Acts} {h h₁ h₂ : Here} → Leads wide_of s st a h st₁ a₁ h₁ → Leads wide_of s st₁ a₁ h₁ st₂ a₂ h₂ → Leads wide_of s st a h st₂ a₂ h₂
  leads_then p q = record { goes = λ ws t m e. let (rest, t₁, e₁) = p.goes ws t m e in q.goes rest t₁ m e₁ }

  -- a word that is passed
  word_on : {h v : Here} (st : State) (a : Acts) (c : Sort) → sort_by h.kind ≡ c → Begins s h.next v → ((n : ℕ) (o : Option ℕ) → onward wide_of st c n o ≡ o)
      → Leads wide_of s st a h (next st c (part s h.place h.next)) (step wide_of st c a) v
  unfolding walk
  word_on {h} {v} st a c e b f = record { goes = go }
    where
      go : (ws : List Word) → Stands s h ws → (m : ℕ) → walk wide_of st a ws ≡ some m → (rest : List Word) × Stands s v rest × (walk wide_of (next st c (part s h.place h.next)) (step wide_of st c a) rest ≡ some m)
      go [] t m q = none-some q
      go (w ∷ ws) (same, along) m q =
          let sort : sort_of w.kind ≡ c = ap sort_of (sym same.kind) ∙ sort_told h.kind same.known ∙ e in (
            ws,
            b.stands ws along,
            ap (λ (x : List ℕ). walk wide_of (next st c x) (step wide_of st c a) ws) same.bytes ∙ sym (f a.here (walk wide_of (next st c w.bytes) (step wide_of st c a) ws))
                ∙ sym (ap (λ (k : Sort). onward wide_of st k a.here (walk wide_of (next st k w.bytes) (step wide_of st k a) ws)) sort) ∙ q,
          )

  -- behind the last word nothing comes to an end
  pub past_on : {h : Here} {st st₁ : State} {a a₁ : Acts} → 62 < h.kind → Leads wide_of s st a h st₁ a₁ h
  unfolding walk
  past_on {h} {st} {st₁} {a} {a₁} over = record { goes = go }
    where
      go : (ws : List Word) → Stands s h ws → (m : ℕ) → walk wide_of st a ws ≡ some m → (rest : List Word) × Stands s h rest × (walk wide_of st₁ a₁ rest ≡ some m)
      go [] t m q = none-some q
      go (w ∷ ws) (same, along) m q = absurd (omega (arith, same.known))

  pub last_on : {h : Here} {n : ℕ} {os os₁ : List Around} → h.kind ≡ 57 → Leads wide_of s calm (acts n os) h calm (acts n os₁) h
  unfolding walk onward
  last_on {h} {n} {os} {os₁} e = record { goes = go }
    where
      go : (ws : List Word) → Stands s h ws → (m : ℕ) → walk wide_of calm (acts n os) ws ≡ some m → (rest : List Word) × Stands s h rest × (walk wide_of calm (acts n os₁) rest ≡ some m)
      go ws t m q =
          let (x, w, tail, f, sort) = last_is wide_of s h n os e ws t m q in
          (ws, t, ap (walk wide_of calm (acts n os₁)) f ∙ ap (λ (k : Sort). onward wide_of calm k n (walk wide_of (next calm k w.bytes) (step wide_of calm k (acts n os₁)) tail)) sort ∙ x)

  -- a name before any word but `(`
  named_on : {h : Here} (x : List ℕ) (a : Acts) → ¬ (h.kind ≡ 14) → Leads wide_of s (named x) a h calm a h
  unfolding walk
  named_on {h} x a e = record { goes = go }
    where
      go : (ws : List Word) → Stands s h ws → (m : ℕ) → walk wide_of (named x) a ws ≡ some m → (rest : List Word) × Stands s h rest × (walk wide_of calm a rest ≡ some m)
      go [] t m q = none-some q
      go (w ∷ ws) (same, along) m q =
          let sort : sort_of w.kind ≡ sort_by h.kind = ap sort_of (sym same.kind) ∙ sort_told h.kind same.known in
          (w ∷ ws, (same, along), sym (end-named wide_of (sort_of w.kind) x w.bytes a ws (ap harmless sort ∙ is_harmless e)) ∙ q)

  module _ {h v : Here} (b : Begins s h.next v) where
    pub begins_on : {n : ℕ} {os : List Around} → h.kind ≡ 54 → Leads wide_of s calm (acts n os) h calm (acts 1 (record { before = n; sum = 0 } ∷ os)) v
    unfolding onward next from_calm step
    begins_on {n} {os} e = word_on calm (acts n os) begins (is_begins e) b (λ n o. refl)

    pub parts_on : {n : ℕ} {o : Around} {os : List Around} → h.kind ≡ 2 → Leads wide_of s calm (acts n (o ∷ os)) h calm (acts 1 (record { before = o.before; sum = min (o.sum + n) 9 } ∷ os)) v
    unfolding onward next from_calm step parted
    parts_on {n} {o} {os} e = word_on calm (acts n (o ∷ os)) parts (is_parts e) b (λ n o. refl)

    pub ends_on : {n : ℕ} {o : Around} {os : List Around} → h.kind ≡ 55 → Leads wide_of s calm (acts n (o ∷ os)) h calm (acts (max o.before (min (o.sum + n) 9)) os) v
    unfolding onward next from_calm step ended
    ends_on {n} {o} {os} e = word_on calm (acts n (o ∷ os)) ends (is_ends e) b (λ n o. refl)

    -- .. where no parallel is open
    pub parts-alone : {n : ℕ} → h.kind ≡ 2 → Leads wide_of s calm (acts n []) h calm (acts n []) v
    unfolding onward next from_calm step parted
    parts-alone {n} e = word_on calm (acts n []) parts (is_parts e) b (λ n o. refl)

    pub ends-alone : {n : ℕ} → h.kind ≡ 55 → Leads wide_of s calm (acts n []) h calm (acts n []) v
    unfolding onward next from_calm step ended
    ends-alone {n} e = word_on calm (acts n []) ends (is_ends e) b (λ n o. refl)

    pub name_on : {a : Acts} → h.kind ≡ 0 → Leads wide_of s calm a h (named (part s h.place h.next)) a v
    unfolding onward next from_calm step
    name_on {a} e = word_on calm a a_name (is_name_lem e) b (λ n o. refl)

    pub open_on : {x : List ℕ} {a : Acts} → h.kind ≡ 14 → Leads wide_of s (named x) a h (calling x 0 0) a v
    unfolding onward next from_name step
    open_on {x} {a} e = word_on (named x) a opens (is_opens e) b (λ n o. refl)

    quiet_on : {a : Acts} → Within h.kind → ¬ (h.kind ≡ 0) → ¬ (h.kind ≡ 54) → Leads wide_of s calm a h calm a v
    unfolding onward next from_calm step at_close
    quiet_on {a} w f g =
        each_quiet (λ c. sort_by h.kind ≡ c → Leads wide_of s calm a h calm a v) (λ e. word_on calm a opens e b (λ n o. refl)) (λ e. word_on calm a closes e b (λ n o. refl)) (λ e. word_on calm a comma e b (λ n o. refl)) (λ e. word_on calm a other e b (λ n o. refl)) w f g refl

    -- a word that begins and ends nothing, and is not called
    pub plain_on : {a : Acts} → Within h.kind → ¬ (h.kind ≡ 54) → calls_by h.kind v.kind ≡ false → Leads wide_of s calm a h calm a v
    plain_on {a} w g c = go (ℕ_discrete h.kind 0)
      where
        go : Dec (h.kind ≡ 0) → Leads wide_of s calm a h calm a v
        go (yes f) = leads_then (name_on f) (named_on (part s h.place h.next) a (calls_not c f))
        go (no f) = quiet_on w f g

    pub close_on : {y : List ℕ} {d n : ℕ} {a : Acts} → Closes h.kind d → Leads wide_of s (calling y d n) a h calm (raised (wide_of y n) a) v
    unfolding onward next from_calling step at_close
    close_on {y} {d} {n} {a} c = rw c.last (word_on (calling y 0 n) a closes (is_closes c.kind) b (λ n o. refl))

    pub inside_on : {y : List ℕ} {d n : ℕ} {a : Acts} → closes_by h.kind d ≡ false → Leads wide_of s (calling y d n) a h (calling y (open_by h.kind d) (begun_by h.kind d n)) a v
    inside_on {y} {d} {n} {a} e =
        let x = part s h.place h.next in
        let i = inside wide_of y x a h.kind d n e in
        rw (← i.state) (at_acts i.acts (word_on (calling y d n) a (sort_by h.kind) refl b (inside-onward wide_of s y d n (sort_by h.kind))))
      where
        at_acts : {st : State} {a₁ a₂ : Acts} → a₁ ≡ a₂ → Leads wide_of s (calling y d n) a h st a₁ v → Leads wide_of s (calling y d n) a h st a₂ v
        at_acts e l = rw (← e) l
