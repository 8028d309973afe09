-- A name in an expression, under open calls: a formal is read from the text of its actual, as its caller has it.
-- Assumes nothing.
use mathlib.Core.Path.{◌≡◌, refl, sym, ◌∙◌, subst}
use mathlib.Core.List.{List}
use mathlib.Core.Option.{Option, none, some}
use Prim.Native.Nat.{ℕ, zero, suc, ◌+◌, ◌-◌, ◌<◌}
use native.Mathlib.Omega.{arith}
use lib.ListN.{length, drop}
use Rattle.meaning.specs.Unexpanded.{Term}
use Rattle.meaning.specs.Base.{base_term}
use Rattle.meaning.specs.Expansion.{Bound, actual_of, replaced}
use Rattle.language.specs.Words.{in_blanks}
use Rattle.language.specs.Scan.{found, over, span, past_blanks, next_word}
use Rattle.language.specs.Grammar.{Tier, most_levels}
use Rattle.language.proofs.ScanLaws.{next_over}
use Rattle.words.specs.Runs.{part}
use Rattle.descent_law.proofs.Expressions.{tier-told}
use Rattle.hand.specs.declared.Here.{Here}
use Rattle.hand.specs.Along.{Near, Begins}
use Rattle.hand.proofs.Chosen.{called_by_lem}
use Rattle.frames_law.specs.Frames.{Frames, told_at, TermAt, Framed, Stood, formal_in}
use Rattle.frames_law.proofs.Frames.{formal-stands, no_formal_in}
use Rattle.frames.specs.declared.Under.{Under}
use Rattle.frames.specs.Layout.{frames_of}
use Rattle.frames.specs.Open.{BindsUnder}
use Rattle.frames.specs.Meant.{formal_under, caller_of}
use Rattle.names.specs.Look.{look_in}
use Rattle.parts.specs.declared.Notes.{Notes}
use Rattle.parts.specs.declared.Got.{Got}
use Rattle.parts.specs.Sum.{sum_of, sum}
use Rattle.exprs.specs.Came.{CameUnder, PlainUnder}
use Rattle.exprs.proofs.Laws.{plain_formal}

-- no term begins past the end of the text
inside : (s : List ℕ) (q : ℕ) (e : Term) → TermAt s q e → ¬ (length s < q)
unfolding next_word past_blanks
inside s q e (f, ws, rest, along, told) h =
    let (f₁, i, p, row) = tier-told f 0 most_levels ws e rest told in
    let (w, tail, eq) = called_by_lem (Tier 0) ws i p in
    let (n, more) = rw eq at along in
    let z : over ≡ found w = sym (next_over s (q + span in_blanks (drop q s)) (omega arith)) ∙ n in
    absurd (let y : ◌≡◌ {A = ℕ} 0 1 = cc in omega arith)

-- ---- by the frames

module _ (s : List ℕ) (l : Frames) (at frame : ℕ) (bound : List (Bound Term)) (x : List ℕ) (q : ℕ) where
  -- what a formal stands for: a term of the caller's text
  abbrev Actual : ℕ → Type 0
  Actual d = (outer : List (Bound Term)) × (e : Term) × Framed s l at d (l.caller frame) outer × TermAt s q e × (actual_of bound x ≡ some (replaced (told_at at) outer e))

  a_formal : (d : ℕ) → Framed s l at d frame bound → formal_in s l d frame x ≡ some q → Actual (d - 1)
  a_formal zero f e = let z : ◌≡◌ {A = ℕ} 0 1 = cc in absurd (omega arith)
  a_formal (suc d) f e =
      let (outer, up, z) = formal-stands s l at d frame bound x f in
      let (t, at_q, is) = go outer (formal_in s l (suc d) frame x) e z in
      let less : d ≡ suc d - 1 = omega arith in
      (outer, t, subst (λ (n : ℕ). Framed s l at n (l.caller frame) outer) less up, at_q, is)
    where
      go : (outer : List (Bound Term)) (o : Option ℕ) → o ≡ some q → Stood s at outer o (actual_of bound x) → Stood s at outer (some q) (actual_of bound x)
      go outer o e z = rw e at z

-- ---- by what is found

module _ (s z : List ℕ) (under : Under) (x : List ℕ) where
  pub own_name : none ≡ formal_under s z under x → (bound : List (Bound Term)) → BindsUnder s z under bound → actual_of bound x ≡ none
  own_name e bound f = no_formal_in s (frames_of s z) under.at under.frame bound under.depth x f (sym e)

  actual : (q : ℕ) → some q ≡ formal_under s z under x → (bound : List (Bound Term)) → BindsUnder s z under bound
      → (outer : List (Bound Term)) × (e : Term) × BindsUnder s z (caller_of z under) outer × TermAt s q e × (actual_of bound x ≡ some (replaced (told_at under.at) outer e))
  unfolding frames_of
  actual q e bound f = a_formal s (frames_of s z) under.at under.frame bound x q under.depth f (sym e)

-- ---- a formal that is read

module _ {s : List ℕ} (z : List ℕ) (count : ℕ) (under : Under) {h a : Here} {m : Notes} {t : List ℕ} {r : Got} {q : ℕ} (near : Near s h) (b : Begins s h.next a) (not-index : ¬ (a.kind ≡ 16))
    (found_at : some q ≡ formal_under s z under (part s h.place h.next)) (w : r.word ≡ a) where
  pub formal-read : {around : Under} {k : ℕ} {h₁ : Here} {g : Got} {u : List ℕ} → Begins s q h₁ → around ≡ caller_of z under → CameUnder s z count around 0 k h₁ m t u g → k ≡ most_levels → ((x : List ℕ) → sum_of r x ≡ sum_of g x) → PlainUnder s z count under 0 h m t u r
  formal-read {around} {k} {h₁} {g} {u} b₁ e came whole same = plain_formal near b is not-index w came.kept
    where
      went : CameUnder s z count (caller_of z under) 0 most_levels h₁ m t u g
      went = subst (λ (v : Under). CameUnder s z count v 0 most_levels h₁ m t u g) e (subst (λ (n : ℕ). CameUnder s z count around 0 n h₁ m t u g) whole came)

      is : (bound : List (Bound Term)) → BindsUnder s z under bound → (x : Term) × (actual_of bound (part s h.place h.next) ≡ some x) × (sum_of r u ≡ sum (look_in s z count) (base_term x) m t)
      is bound f =
          let (outer, x, up, (n, ws, rest, along, told), stands) = actual s z under (part s h.place h.next) q found_at bound f in
          (replaced (told_at under.at) outer x, stands, same u ∙ (went.told ws (b₁.stands ws along) n x rest told).sums outer up)

  -- no actual begins past the end of the text
  pub formal-past : length s < q → PlainUnder s z count under 0 h m t t r
  formal-past past = plain_formal near b is not-index w refl
    where
      is : (bound : List (Bound Term)) → BindsUnder s z under bound → (x : Term) × (actual_of bound (part s h.place h.next) ≡ some x) × (sum_of r t ≡ sum (look_in s z count) (base_term x) m t)
      is bound f =
          let (outer, x, up, at_q, stands) = actual s z under (part s h.place h.next) q found_at bound f in
          absurd (inside s q x at_q past)
