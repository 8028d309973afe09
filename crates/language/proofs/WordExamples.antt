-- Document 01's examples of words, and the texts that it leaves open, each cut by computation: another list, order or size is refused here.
-- Assumes nothing.
use mathlib.Core.Path.{◌≡◌, refl}
use mathlib.Core.List.{List, [], ◌∷◌}
use Prim.Native.Nat.{ℕ}
use Prim.Native.String.{String}
use Rattle.language.specs.Words.{bytes, Kind, name, number, the, Word, Words, words, refused}
use Rattle.language.specs.Scan.{words_of}
use Rattle.language.proofs.Texts.{words_in}

-- what an example shows: each word's kind and place, or the place of a 4
pub data Seen : Type 0 where
  ◌at◌ : Kind → ℕ → Seen

infix 90 ◌at◌
pub data Shown : Type 0 where
  cut : List Seen → Shown
  four : ℕ → Shown

abbrev pub seen : List Word → List Seen
seen [] = []
seen (w ∷ ws) = w.kind at w.place ∷ seen ws

abbrev pub shown : Words → Shown
shown (words ws) = cut (seen ws)
shown (refused e) = four e

abbrev pub of : String → Shown
of s = shown (words_of (bytes s))

pub record Examples : Type 0 where
  -- "`sum-5` is one name and `sum - 5` three words"
  pub hyphen : of "sum-5" ≡ cut (name at 0 ∷ [])
  pub apart : of "sum - 5" ≡ cut (name at 0 ∷ the "-" at 4 ∷ number at 6 ∷ [])
  pub letters : of "a_b1-2 _" ≡ four 7
  -- a hyphen with neither letter nor digit behind it
  pub underscore : of "a-_b" ≡ four 2
  pub two_hyphens : of "a--b" ≡ cut (name at 0 ∷ the "-" at 1 ∷ the "-" at 2 ∷ name at 3 ∷ [])
  pub last-hyphen : of "a-" ≡ cut (name at 0 ∷ the "-" at 1 ∷ [])
  -- a reserved word is one only if the whole word is
  pub longer : of "skip-1 endif-x int-3 endwhile Loop" ≡ cut (name at 0 ∷ name at 7 ∷ name at 15 ∷ name at 21 ∷ name at 30 ∷ [])
  pub later : of "procedure endproc process processtype endtype compress endcompress"
      ≡ cut (the "procedure" at 0 ∷ the "endproc" at 10 ∷ the "process" at 18 ∷ the "processtype" at 26 ∷ the "endtype" at 38 ∷ the "compress" at 46 ∷ the "endcompress" at 55 ∷ [])
  pub never_names : of "true false int" ≡ cut (the "true" at 0 ∷ the "false" at 5 ∷ the "int" at 11 ∷ [])
  -- "The longest word is taken"
  pub number-first : of "5x" ≡ cut (number at 0 ∷ name at 1 ∷ [])
  pub ending : of ".Hi" ≡ cut (the ".H" at 0 ∷ name at 2 ∷ [])
  pub no_ending : of "a.h" ≡ four 1
  pub bars : of "|||" ≡ cut (the "||" at 0 ∷ the "|" at 2 ∷ [])
  pub equals : of "===" ≡ cut (the "==" at 0 ∷ the "=" at 2 ∷ [])
  pub compared : of ">=<=!=:=" ≡ cut (the ">" at 0 ∷ the "=" at 1 ∷ the "<" at 2 ∷ the "=" at 3 ∷ the "!=" at 4 ∷ the ":=" at 6 ∷ [])
  pub ands : of "&&!:" ≡ cut (the "&" at 0 ∷ the "&" at 1 ∷ the "!" at 2 ∷ the ":" at 3 ∷ [])
  -- "1 to 16 bytes", "at most 65,535"
  pub sixteen : of "abcdefghijklmnop" ≡ cut (name at 0 ∷ [])
  pub seventeen : of " abcdefghijklmnopq" ≡ four 1
  pub most : of "65535 0065535" ≡ cut (number at 0 ∷ number at 6 ∷ [])
  pub one_more : of "1 65536" ≡ four 2
  -- bytes that start no word
  pub nul : of "a \0" ≡ four 2
  pub form_feed : of "\u{c}" ≡ four 0
  pub high : shown (words_of (97 ∷ 128 ∷ [])) ≡ four 1
  pub blanks : of " \t\n\r" ≡ cut []
  -- letters end at `A`, `Z`, `a` and `z`, digits at 0 and 9
  pub letters_end : of "AZaz09" ≡ cut (name at 0 ∷ [])
  pub digits_end : of "09" ≡ cut (number at 0 ∷ [])
  pub before_A : of "a@" ≡ four 1
  pub after_Z : of "a[" ≡ cut (name at 0 ∷ the "[" at 1 ∷ [])
  pub before_a : of "a`" ≡ four 1
  pub after_z : of "a{" ≡ four 1
  pub before_0 : of "1/" ≡ cut (number at 0 ∷ the "/" at 1 ∷ [])
  pub after_9 : of "1:" ≡ cut (number at 0 ∷ the ":" at 1 ∷ [])

pub examples : Examples
unfolding words_in
examples =
    record {
      hyphen = refl;
      apart = refl;
      letters = refl;
      underscore = refl;
      two_hyphens = refl;
      last-hyphen = refl;
      longer = refl;
      later = refl;
      never_names = refl;
      number-first = refl;
      ending = refl;
      no_ending = refl;
      bars = refl;
      equals = refl;
      compared = refl;
      ands = refl;
      sixteen = refl;
      seventeen = refl;
      most = refl;
      one_more = refl;
      nul = refl;
      form_feed = refl;
      high = refl;
      blanks = refl;
      letters_end = refl;
      digits_end = refl;
      before_A = refl;
      after_Z = refl;
      before_a = refl;
      after_z = refl;
      before_0 = refl;
      after_9 = refl;
    }
