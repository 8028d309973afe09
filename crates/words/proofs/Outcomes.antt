-- One law for each outcome at a place, by the word's length, bytes and kind; and after blanks.
-- Assumes nothing.
use mathlib.Core.Bool.{true, false}
use mathlib.Core.Path.{◌≡◌, sym, ◌∙◌, ap}
use mathlib.Core.List.{List}
use Prim.Native.Nat.{ℕ, ◌-◌, ◌<◌, ◌≤◌}
use native.Mathlib.Omega.{arith}
use lib.ListN.{length, drop}
use Rattle.language.specs.Words.{in_blanks, kind_of, too_large, Kind}
use Rattle.language.specs.Scan.{word_length, found, stops, next_at, past_blanks, next_word}
use Rattle.language.proofs.ScanLaws.{next_over, next-stops, next-large, next-found}
use Rattle.words.specs.Kinds.{numbered, kind_count}
use Rattle.words.specs.Runs.{part, run_end}
use Rattle.words.specs.Meaning.{worth, Holds, Stands, Answers}
use Rattle.words.specs.declared.Next.{Next}
use Rattle.words.specs.declared.Next.TheVariants.{Found, Stops, Over}

module _ (s : List ℕ) (at : ℕ) (h : at < length s) where
  halts : next_at at (drop at s) ≡ stops at → Stands s at (Stops at)
  halts e = record { says = sym e; holds = (omega arith, h) }

  pub no_word : word_length (drop at s) ≡ 0 → Stands s at (Stops at)
  no_word e = halts (next-stops s at h e)

  -- a word of kind k that ends at e
  module _ (e : ℕ) (k : Kind) (n : word_length (drop at s) ≡ e - at) (g : at < e) (q : kind_of (part s at e) ≡ k) where
    pub large-word : too_large k (part s at e) ≡ true → Stands s at (Stops at)
    unfolding part
    large-word z = halts (next-large s at h (e - at) n (λ x. omega arith) (rw q z))

    pub word-here : (m v : ℕ) → numbered m ≡ k → m < kind_count → e ≤ length s → v ≡ worth k (part s at e) → v < 65536 → too_large k (part s at e) ≡ false
        → Stands s at (Found (record { kind = m; start = at; end = e; value = v }))
    unfolding part
    word-here m v f d i w u z =
        record {
          says = ap (λ (x : Kind). found (record { kind = x; place = at; bytes = part s at e })) (f ∙ sym q) ∙ sym (next-found s at h (e - at) n (λ x. omega arith) (rw q z));
          holds = record { later = omega arith; some = g; inside = i; known = d; value = w ∙ ap (λ (x : Kind). worth x (part s at e)) (sym f); small = u };
        }

pub all_over : (s : List ℕ) (at : ℕ) → length s ≤ at → Stands s at Over
all_over s at h = record { says = sym (next_over s at h); holds = tt }

-- ---- after blanks

holds-earlier : (s : List ℕ) (from at : ℕ) (r : Next) → from ≤ at → Holds s at r → Holds s from r
holds-earlier s from at (Found w) h x = record { later = omega (arith, x.later); some = x.some; inside = x.inside; known = x.known; value = x.value; small = x.small }
holds-earlier s from at (Stops e) h x = (omega arith, x.1)
holds-earlier s from at Over h x = tt

pub after_blanks : (s : List ℕ) (from at : ℕ) (r : Next) → at ≡ run_end in_blanks s from → Stands s at r → Answers s from r
unfolding next_word past_blanks
after_blanks s from at r e x =
    record {
      says = x.says ∙ ap (λ (i : ℕ). next_at i (drop i s)) e;
      holds = holds-earlier s from at r (omega (arith, e)) x.holds;
    }
