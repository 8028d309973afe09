-- The actuals of a call, one after the other.
-- Assumes nothing.
use mathlib.Core.Bool.{Bool, true, false, cond}
use mathlib.Core.Path.{◌≡◌, refl, sym, ◌∙◌, ap, subst}
use mathlib.Core.List.{List, [], ◌∷◌, ◌++◌, map}
use Prim.Native.Nat.{ℕ, zero, suc, ◌+◌, ◌*◌, ◌≤◌, ◌<◌}
use native.Mathlib.Numerals.{add-one}
use native.Mathlib.Omega.{arith}
use lib.Dec.{eqb, ltb}
use lib.ListN.{length, get_or, length-drop}
use borrow.Author.Tests.{lt-ltb, eq-eqb, ne_eqb, ltb-true}
use Rattle.meaning.specs.Unexpanded.{Term}
use Rattle.meaning.specs.Expansion.{Bound, replaced}
use Rattle.ll1.proofs.Tests.{has, begin_row, pick}
use Rattle.language.specs.Words.{Word, signs, reserved}
use Rattle.language.specs.Grammar.{Actuals, MoreActuals, Expression, Tier, binding, csml, most_levels}
use Rattle.language.proofs.Claims.{claims, first, empty, follow}
use Rattle.words.specs.Kinds.{spellings, numbered}
use Rattle.descent_law.specs.Told.{Told, Called}
use Rattle.descent_law.specs.Rows.{ActualsRow, MoreActualsRow}
use Rattle.descent_law.proofs.Expressions.{tier-told}
use Rattle.descent_law.proofs.Statements.{actuals-told, more-actuals-told}
use Rattle.descent_law.proofs.Deeper.{deeper}
use Rattle.hand.specs.declared.Here.{Here}
use Rattle.hand.specs.Along.{Along, Stands, Begins}
use Rattle.hand.proofs.Chosen.{up_to, agrees, Decides, called-row, called_by_lem}
use Rattle.tiers.specs.Comes.{Tells}
use Rattle.parts.specs.Beside.{beside}
use Rattle.frames_law.specs.Frames.{told_at, TermAt, Each}
use Rattle.frames_law.proofs.Frames.{framed_stays}
use Rattle.frames.specs.declared.Under.{Under}
use Rattle.frames.specs.Layout.{place_at, parts_at, levels_at, each_from, frames_of}
use Rattle.frames.specs.Open.{parts_of, levels_of, Handed}
use Rattle.frames.specs.Put.{Puts, actual_in}
use Rattle.frames.proofs.Putting.{puts_size, puts_names, actual-other, actual-place, actual-parts, actual-levels, over_actual}
use Rattle.frames.proofs.Stays.{Same, places_stay, all-parts_stay, all-levels_stay, nested-alike, sized_stays}
use Rattle.frames.proofs.Heads.{word_moves}
use Rattle.sizes.specs.declared.Extent.{Extent}
use Rattle.sizes.specs.Counts.{Counts, CountsUnder, Sizes}
use Rattle.calls.specs.Hands.{hand_in, Known, stand_for, Beyond, Hands}

-- ---- one actual more

each_more : {A : Type 0} (R : ℕ → A → Type 0) (read : List ℕ → ℕ → ℕ) (z : List ℕ) (n o : ℕ) (xs : List A) (x : A) → Each R (each_from read z o n) xs → R (read z (o + n * 4)) x → Each R (each_from read z o (suc n)) (xs ++ (x ∷ []))
unfolding each_from
each_more R read z zero o [] x e r = (let k : o ≡ o + 0 * 4 = omega arith in subst (λ (p : ℕ). R (read z p) x) (sym k) r, tt)
each_more R read z zero o (y ∷ xs) x e r = absurd e
each_more R read z (suc n) o [] x e r = absurd e
each_more R read z (suc n) o (y ∷ xs) x (a, e) r = (a, each_more R read z n (o + 4) xs x e (let k : o + 4 + n * 4 ≡ o + suc n * 4 = omega arith in subst (λ (p : ℕ). R (read z p) x) (sym k) r))

map_more : (f : Term → Term) (xs : List Term) (x : Term) → map f (xs ++ (x ∷ [])) ≡ map f xs ++ (f x ∷ [])
map_more f [] x = refl
map_more f (y ∷ xs) x = ap (λ (l : List Term). f y ∷ l) (map_more f xs x)

length_more : (xs : List Term) (x : Term) → length (xs ++ (x ∷ [])) ≡ suc (length xs)
length_more [] x = refl
length_more (y ∷ xs) x = ap suc (length_more xs x)

split-more : (xs : List Term) (x : Term) (ys : List Term) → xs ++ (x ∷ ys) ≡ (xs ++ (x ∷ [])) ++ ys
split-more [] x ys = refl
split-more (y ∷ xs) x ys = ap (λ (l : List Term). y ∷ l) (split-more xs x ys)

nothing-more : (xs : List Term) → xs ++ [] ≡ xs
nothing-more [] = refl
nothing-more (y ∷ xs) = ap (λ (l : List Term). y ∷ l) (nothing-more xs)

module _ (s z : List ℕ) (o i place parts levels : ℕ) (ts es : List Term) (t e : Term) where
  abbrev written : List ℕ
  written = actual_in z (o + i * 4) place parts levels

  handed_more : Handed s z o i ts es → o + i * 4 + 4 ≤ length z → place < 8192 → parts < 2048 → TermAt s place t → parts ≡ parts_of e → levels ≡ levels_of e → Handed s written o (suc i) (ts ++ (t ∷ [])) (es ++ (e ∷ []))
  handed_more x long p q at a b =
      let low : Same z written o (o + i * 4) = λ j c d. actual-other z (o + i * 4) place parts levels j (λ g. absurd (omega (arith, g.0))) in
      record {
        texts = each_more (TermAt s) place_at written i o ts t (rw (places_stay z written i o low) x.texts) (rw (actual-place z (o + i * 4) place parts levels long p) at);
        parts = each_more (λ n e. n ≡ parts_of e) parts_at written i o es e (rw (all-parts_stay z written i o low) x.parts) (actual-parts z (o + i * 4) place parts levels long q ∙ a);
        levels = each_more (λ n e. n ≡ levels_of e) levels_at written i o es e (rw (all-levels_stay z written i o low) x.levels) (actual-levels z (o + i * 4) place parts levels long ∙ b);
      }

handed_none : (s z : List ℕ) (o : ℕ) → Handed s z o 0 [] []
unfolding each_from
handed_none s z o = record { texts = tt; parts = tt; levels = tt }

-- ---- what lies outside of the frame

beside_is : (t : List ℕ) → record { size = length t; names = (beside t).names } ≡ beside t
unfolding beside
beside_is t = refl

names-size : (t v : List ℕ) → length v ≡ length t → length (beside v).names ≡ length (beside t).names
unfolding beside
names-size t v e = omega (arith, length-drop 16384 t, length-drop 16384 v)

pub beyond-none : (t : List ℕ) (top room : ℕ) → Beyond t t top room
beyond-none t top room = record { tree = refl; size = refl; kept = λ e. refl; low = λ i h. refl; over = λ z to h x. x }

beyond_on : (t₀ t v : List ℕ) (top room i place parts levels : ℕ) → Beyond t₀ t top room → Puts t v (hand_in (beside t).names room top i place parts levels) → Beyond t₀ v top room
unfolding hand_in
beyond_on t₀ t v top room i place parts levels b p = go (ltb i room) refl p.behind (puts_names p)
  where
    y : List ℕ
    y = (beside t).names

    one : List ℕ
    one = actual_in y (top + 4 + i * 4) place parts levels

    go : (d : Bool) → ltb i room ≡ d → beside v ≡ record { size = length t; names = cond d one y } → (beside v).names ≡ cond d one y → Beyond t₀ v top room
    go true h e n =
        record {
          tree = p.tree ∙ b.tree;
          size = puts_size p ∙ b.size;
          kept = λ k. absurd (omega (arith, ltb-true i room h));
          low = λ j g. ap (λ (l : List ℕ). get_or l j 0) n ∙ actual-other y (top + 4 + i * 4) place parts levels j (λ k. absurd (omega (arith, k.0))) ∙ b.low j g;
          over = λ z to g x. rw n (over_actual z y top to (top + 4 + i * 4) place parts levels (b.over z to g x) (omega arith) (omega (arith, ltb-true i room h)));
        }
    go false h e n =
        record {
          tree = p.tree ∙ b.tree;
          size = puts_size p ∙ b.size;
          kept = λ k. e ∙ beside_is t ∙ b.kept k;
          low = λ j g. ap (λ (l : List ℕ). get_or l j 0) n ∙ b.low j g;
          over = λ z to g x. rw n (b.over z to g x);
        }

-- ---- which row a word calls for

first-actual : Decides Actuals (λ k. cond (eqb k 15) 0 1)
unfolding up_to agrees has begin_row pick csml binding claims first empty follow numbered spellings signs reserved
first-actual = refl

next-actual : Decides MoreActuals (λ k. cond (eqb k 13) 1 0)
unfolding up_to agrees has begin_row pick csml binding claims first empty follow numbered spellings signs reserved
next-actual = refl

none-called : (s : List ℕ) (h : Here) (ws : List Word) (i : ℕ) → Stands s h ws → Called Actuals ws i → h.kind ≡ 15 → 0 ≡ i
none-called s h ws i st p e = let q : cond (eqb h.kind 15) 0 1 ≡ i = called-row s Actuals (λ k. cond (eqb k 15) 0 1) first-actual h ws i st p in rw (eq-eqb h.kind 15 e) at q

some-called : (s : List ℕ) (h : Here) (ws : List Word) (i : ℕ) → Stands s h ws → Called Actuals ws i → ¬ (h.kind ≡ 15) → 1 ≡ i
some-called s h ws i st p e = let q : cond (eqb h.kind 15) 0 1 ≡ i = called-row s Actuals (λ k. cond (eqb k 15) 0 1) first-actual h ws i st p in rw (ne_eqb h.kind 15 e) at q

more-called : (s : List ℕ) (h : Here) (ws : List Word) (i : ℕ) → Stands s h ws → Called MoreActuals ws i → h.kind ≡ 13 → 1 ≡ i
more-called s h ws i st p e = let q : cond (eqb h.kind 13) 1 0 ≡ i = called-row s MoreActuals (λ k. cond (eqb k 13) 1 0) next-actual h ws i st p in rw (eq-eqb h.kind 13 e) at q

last-called : (s : List ℕ) (h : Here) (ws : List Word) (i : ℕ) → Stands s h ws → Called MoreActuals ws i → ¬ (h.kind ≡ 13) → 0 ≡ i
last-called s h ws i st p e = let q : cond (eqb h.kind 13) 1 0 ≡ i = called-row s MoreActuals (λ k. cond (eqb k 13) 1 0) next-actual h ws i st p in rw (ne_eqb h.kind 13 e) at q

-- ---- the loop

module _ (s t₀ : List ℕ) (u : Under) (from room : ℕ) where
  -- so many of the actuals ts are handed over, into the area y
  abbrev pub Given : List ℕ → ℕ → List Term → Type 0
  Given y i done = (bound : List (Bound Term)) → Known s (beside t₀).names u bound → i ≤ room → u.top + 4 + room * 4 ≤ length (beside t₀).names → Handed s y (u.top + 4) i done (stand_for u bound done)

  -- one is to be read at a place, and those behind it
  pub record Left (y : List ℕ) (m at i : ℕ) (ts : List Term) (c : Word) (rest : List Word) : Type 0 where
    pub done : List Term
    pub one : Term
    pub more : List Term
    pub words : List Word
    pub mid : List Word
    pub depth : ℕ
    pub along : Along s at words
    pub reads : Told depth Expression m words one mid
    pub others : Told depth MoreActuals m mid more (c ∷ rest)
    pub split : ts ≡ done ++ (one ∷ more)
    pub count : length done ≡ i
    pub given : Given y i done

  pub record Going (t : List ℕ) (at i : ℕ) : Type 0 where
    pub inside : at ≤ length s
    pub later : from ≤ at
    pub few : i ≤ at
    pub beyond : Beyond t₀ t u.top room
    pub told : (ws : List Word) → Along s from ws → (f m : ℕ) (ts : List Term) (c : Word) (rest : List Word) → m ≤ most_levels → Told f Actuals m ws ts (c ∷ rest) → Left (beside t).names m at i ts c rest

  module _ {h : Here} (b : Begins s from h) where
    pub hands_none : h.kind ≡ 15 → Hands s t₀ t₀ u from room (record { word = h; count = 0 })
    hands_none k =
        record {
          near = b.near;
          later = b.later;
          beyond = beyond-none t₀ u.top room;
          told = λ ws a f m ts c rest g y. let (f₁, i, p, row) = actuals-told f m ws ts (c ∷ rest) y in go ws a m ts c rest f₁ i (none-called s h ws i (b.stands ws a) p k) row;
        }
      where
        go : (ws : List Word) → Along s from ws → (m : ℕ) (ts : List Term) (c : Word) (rest : List Word) (f i : ℕ) → 0 ≡ i → ActualsRow f m ws ts (c ∷ rest) i
            → Stands s h (c ∷ rest) × (0 ≡ length ts)
            × ((bound : List (Bound Term)) → Known s (beside t₀).names u bound → 0 ≡ room → u.top + 4 + room * 4 ≤ length (beside t₀).names → Handed s (beside t₀).names (u.top + 4) room ts (stand_for u bound ts))
        go ws a m ts c rest f zero q (e, r) = (rw r at (b.stands ws a), rw e refl, λ bound x n l. rw (← n, e) (handed_none s (beside t₀).names (u.top + 4)))
        go ws a m ts c rest f (suc i) q row = absurd (omega arith)

    pub hands_start : from ≤ length s → ¬ (h.kind ≡ 15) → Going t₀ from 0
    hands_start l k =
        record {
          inside = l;
          later = omega arith;
          few = omega arith;
          beyond = beyond-none t₀ u.top room;
          told = λ ws a f m ts c rest g y. let (f₁, i, p, row) = actuals-told f m ws ts (c ∷ rest) y in go ws a m ts c rest f₁ i (some-called s h ws i (b.stands ws a) p k) row;
        }
      where
        go : (ws : List Word) → Along s from ws → (m : ℕ) (ts : List Term) (c : Word) (rest : List Word) (f i : ℕ) → 1 ≡ i → ActualsRow f m ws ts (c ∷ rest) i → Left (beside t₀).names m from 0 ts c rest
        go ws a m ts c rest f zero q row = absurd (omega arith)
        go ws a m ts c rest f (suc i) q (mid, e, more, y₁, y₂, r) =
            record { done = []; one = e; more = more; words = ws; mid = mid; depth = f; along = a; reads = y₁; others = y₂; split = r; count = refl; given = λ bound x n l. handed_none s (beside t₀).names (u.top + 4) }

  module _ {t v : List ℕ} {at i : ℕ} {h : Here} {e : Extent} (short : length s ≤ 8192) (x : Going t at i) (b : Begins s at h) (r : Sizes s t u 0 32 h e) (p : Puts t v (hand_in (beside t).names room u.top i at e.parts e.levels)) where
    abbrev z : List ℕ
    z = (beside t₀).names

    abbrev y : List ℕ
    y = (beside t).names

    low : Same z y 0 u.top
    low j c d = x.beyond.low j d

    known : (bound : List (Bound Term)) → Known s z u bound → (term : Term) → CountsUnder s y u e term → Counts e (replaced (told_at u.at) bound term)
    known bound k term q =
        q.counts bound (framed_stays s (frames_of s z) (frames_of s y) u.at u.depth u.frame bound (nested-alike s z y u.depth u.frame u.top low k.nested) k.framed)
        (sized_stays s z y u.depth u.frame u.top bound low k.nested k.sized)

    -- a word stands there
    lies : (words : List Word) (f m : ℕ) (one : Term) (mid : List Word) → Along s at words → Told f Expression m words one mid → at < 8192
    lies words f m one mid a q =
        let (f₁, j, c, row) = tier-told f 0 m words one mid q in
        let (w, tail, eq) = called_by_lem (Tier 0) words j c in
        let (n, more) : Along s at (w ∷ tail) = rw eq at a in
        let (g₁, g₂) = word_moves s at w n in
        omega arith

    given_more : (m : ℕ) (ts : List Term) (c : Word) (rest : List Word) → m ≤ most_levels → (l : Left y m at i ts c rest) → CountsUnder s y u e l.one → Given (beside v).names (i + 1) (l.done ++ (l.one ∷ []))
    unfolding hand_in
    given_more m ts c rest few l q bound k n long =
        let counts = known bound k l.one q in
        let size : length y ≡ length z = names-size t₀ t x.beyond.size in
        rw (puts_names p, lt-ltb i room (omega arith), add-one i, map_more (replaced (told_at u.at) bound) l.done l.one)
        (handed_more s y (u.top + 4) i at e.parts e.levels l.done (stand_for u bound l.done) l.one (replaced (told_at u.at) bound l.one) (l.given bound k (omega arith) long) (omega arith)
        (lies l.words l.depth m l.one l.mid l.along l.reads) (omega (arith, counts.parts))
        (l.depth, l.words, l.mid, l.along, deeper l.depth Expression m most_levels l.words l.one l.mid few l.reads) counts.parts counts.levels)

    beyond-after : Beyond t₀ v u.top room
    beyond-after = beyond_on t₀ t v u.top room i at e.parts e.levels x.beyond p

    -- it is read, and the words behind it stand
    tells : (m : ℕ) (ts : List Term) (c : Word) (rest : List Word) → m ≤ most_levels → (l : Left y m at i ts c rest) → Tells s e.word (CountsUnder s y u e) l.one l.mid
    tells m ts c rest few l = r.told l.words (b.stands l.words l.along) l.depth l.one l.mid (deeper l.depth Expression m most_levels l.words l.one l.mid few l.reads)

    pub hands_last : ¬ (e.word.kind ≡ 13) → Hands s t₀ v u from room (record { word = e.word; count = i + 1 })
    hands_last k =
        record {
          near = r.near;
          later = omega (arith, x.later, b.later, r.later);
          beyond = beyond-after;
          told = λ ws a f m ts c rest g q. after m ts c rest g (x.told ws a f m ts c rest g q);
        }
      where
        go : (m : ℕ) (ts : List Term) (c : Word) (rest : List Word) (done more : List Term) (mid : List Word) (f j : ℕ) → 0 ≡ j → Stands s e.word mid → ts ≡ done ++ more → length done ≡ i + 1 → Given (beside v).names (i + 1) done → MoreActualsRow f m mid more (c ∷ rest) j
            → Stands s e.word (c ∷ rest) × (i + 1 ≡ length ts) × ((bound : List (Bound Term)) → Known s z u bound → i + 1 ≡ room → u.top + 4 + room * 4 ≤ length z → Handed s (beside v).names (u.top + 4) room ts (stand_for u bound ts))
        go m ts c rest done more mid f zero o st split count given (q₁, q₂) =
            let all : ts ≡ done = split ∙ ap (λ (l : List Term). done ++ l) q₁ ∙ nothing-more done in
            (rw q₂ at st, sym count ∙ ap (λ (l : List Term). length l) (sym all), λ bound kn n long. rw (← n, all) (given bound kn (omega arith) long))
        go m ts c rest done more mid f (suc j) o st split count given row = absurd (omega arith)

        after : (m : ℕ) (ts : List Term) (c : Word) (rest : List Word) → m ≤ most_levels → Left y m at i ts c rest
            → Stands s e.word (c ∷ rest) × (i + 1 ≡ length ts) × ((bound : List (Bound Term)) → Known s z u bound → i + 1 ≡ room → u.top + 4 + room * 4 ≤ length z → Handed s (beside v).names (u.top + 4) room ts (stand_for u bound ts))
        after m ts c rest few l =
            let q = tells m ts c rest few l in
            let (f₁, j, call, row) = more-actuals-told l.depth m l.mid l.more (c ∷ rest) l.others in
            go m ts c rest (l.done ++ (l.one ∷ [])) l.more l.mid f₁ j (last-called s e.word l.mid j q.word call k) q.word (l.split ∙ split-more l.done l.one l.more) (length_more l.done l.one ∙ ap suc l.count ∙ sym (add-one i))
            (given_more m ts c rest few l q.holds) row

    pub hands_on : e.word.kind ≡ 13 → Going v e.word.next (i + 1)
    hands_on k =
        record {
          inside = r.near.inside;
          later = omega (arith, x.later, b.later, r.later, r.near.on);
          few = omega (arith, x.few, b.later, r.later, r.near.more (omega (arith, k)));
          beyond = beyond-after;
          told = λ ws a f m ts c rest g q. after m ts c rest g (x.told ws a f m ts c rest g q);
        }
      where
        go : (m : ℕ) (ts : List Term) (c : Word) (rest : List Word) (done more : List Term) (mid : List Word) (f j : ℕ) → 1 ≡ j → Stands s e.word mid → ts ≡ done ++ more → length done ≡ i + 1 → Given (beside v).names (i + 1) done → MoreActualsRow f m mid more (c ∷ rest) j
            → Left (beside v).names m e.word.next (i + 1) ts c rest
        go m ts c rest done more mid f zero o st split count given row = absurd (omega arith)
        go m ts c rest done more mid f (suc j) o st split count given (w, tail, mid₂, one, more₂, q₁, y₁, y₂, q₂) =
            let (same, along) : Stands s e.word (w ∷ tail) = rw q₁ at st in
            record { done = done; one = one; more = more₂; words = tail; mid = mid₂; depth = f; along = along; reads = y₁; others = y₂; split = split ∙ ap (λ (l : List Term). done ++ l) q₂; count = count; given = given }

        after : (m : ℕ) (ts : List Term) (c : Word) (rest : List Word) → m ≤ most_levels → Left y m at i ts c rest → Left (beside v).names m e.word.next (i + 1) ts c rest
        after m ts c rest few l =
            let q = tells m ts c rest few l in
            let (f₁, j, call, row) = more-actuals-told l.depth m l.mid l.more (c ∷ rest) l.others in
            go m ts c rest (l.done ++ (l.one ∷ [])) l.more l.mid f₁ j (more-called s e.word l.mid j q.word call k) q.word (l.split ∙ split-more l.done l.one l.more) (length_more l.done l.one ∙ ap suc l.count ∙ sym (add-one i))
            (given_more m ts c rest few l q.holds) row
