-- A few texts, each computed through all definitions, so that this crate by itself refuses another tree, level, listing or limit; crates/trials, compared and compared_ .. have the many.
-- Assumes nothing.
use mathlib.Core.Path.{◌≡◌, refl}
use mathlib.Core.Bool.{true, false}
use mathlib.Core.List.{List, [], ◌∷◌}
use Prim.Native.Nat.{ℕ}
use lib.ListN.{replicate}
use Rattle.file_law.specs.Answer.{Answer, gives, refuses}
use Rattle.file_law.specs.Table.{Table}
use Rattle.meaning.specs.Tree.{Name, literal, truth, Head, skip, assign, choice, end, ◌⨾◌}
use Rattle.meaning.specs.Declared.{high, low, inputs, outputs, internals, integers, Source}
use Rattle.language.specs.Words.{bytes}
use Rattle.language.specs.Listings.{Prints}
use Rattle.language.proofs.Listing.{listing_right}
use Rattle.language.proofs.Computing.{yield_in, Lists, lists}

-- the source that a text says
abbrev source_in : Answer (Source × Table) → List Source
source_in (gives x) = x.0 ∷ []
source_in (refuses number place) = []

-- a name of one byte, and a head that is not numbered yet, at a place
abbrev letter_at : ℕ → ℕ → Name
letter_at c p = record { bytes = c ∷ []; place = p }

abbrev head_at : ℕ → Head
head_at p = record { place = p; number = 0 }

pub record Samples : Type 0 where
  -- a whole tree, with every place and ending
  pub tree : source_in (yield_in 256 "program p; input A.H, B.L; output C.L = true; internal D; integer x[3] = 5; if true then x := 7; skip endif endprog")
      ≡ record {
        name = 112 ∷ [];
        declared = inputs (letter_at 65 17) high ∷ inputs (letter_at 66 22) low ∷ outputs (letter_at 67 34) low true ∷ internals (letter_at 68 55) high false ∷ integers (letter_at 120 66) 68 3 5 ∷ [];
        body = choice (head_at 76) (truth 79 true) (assign (head_at 89) (letter_at 120 89) (literal 94 7) ⨾ skip (head_at 97) ⨾ end) end ⨾ end;
      } ∷ []
  -- both lists of an `if`, outputs in declared order, one input: two next states
  pub chosen : Lists 256 "program p; input I; output A, B; if I then raise(A) else raise(B) endif endprog" "machine p\ninputs I\noutputs A B\nstates 3\n0 0 0 1 2\n1 0 1 1 1\n2 1 0 2 2\n"
  -- operators of one strength group from the left, and stand at their places
  pub grouped : Lists 256 "program p; output L; if 8 / 2 - 1 - 2 == 1 then raise(L) endif endprog" "machine p\ninputs -\noutputs L\nstates 2\n0 0 1\n1 1 1\n"
  pub at_operator : Lists 256 "program p; output L; if L > 1 then skip endif endprog" "refused 7 at 26\n"
  -- the first branch in the text decides
  pub first_branch : Lists 256 "program p; output A; loop parallel exit || break endparallel; raise(A) endloop endprog" "machine p\ninputs -\noutputs A\nstates 2\n0 0 1\n1 0 1\n"
  -- neither inputs nor outputs
  pub dashes : Lists 256 "program p; skip endprog" "machine p\ninputs -\noutputs -\nstates 2\n0 - 1\n1 - 1\n"
  -- a procedure's formals in their order, each call expanded where it stands; the `;` behind it may be missing
  pub two-formals : Lists 256 "program p; output A; procedure q(a, e) if e then raise(a) endif endproc procedure r() q(A, true) endproc; r() endprog" "machine p\ninputs -\noutputs A\nstates 2\n0 0 1\n1 1 1\n"
  -- what stands in parentheses is no name; a fault of the body is at the call
  pub no_name_lem : Lists 256 "program p; output A; procedure q(a) raise(a) endproc q((A)) endprog" "refused 6 at 53\n"
  pub at_call : Lists 256 "program p; procedure q() exit endproc skip; q() endprog" "refused 8 at 44\n"
  -- the end of the text
  pub cut_short : Lists 256 "program p; skip  " "refused 5 at 17\n"
  -- 32 levels are read, and one more is not
  pub deep : Lists 256 "program p; x := !!!!!!!!!!!!!!!!!!!!!!!!!!!!!!!!true endprog" "refused 6 at 11\n"
  pub too_deep_lem : Lists 256 "program p; x := !!!!!!!!!!!!!!!!!!!!!!!!!!!!!!!!!true endprog" "refused 5 at 48\n"
  -- the longest text, and one byte more
  pub longest : Prints (replicate 8192 95) (bytes "refused 4 at 0\n")
  pub longer : Prints (replicate 8193 95) (bytes "refused 3 at 0\n")

pub samples : Samples
unfolding yield_in
samples =
    record {
      tree = refl;
      chosen = lists refl;
      grouped = lists refl;
      at_operator = lists refl;
      first_branch = lists refl;
      dashes = lists refl;
      two-formals = lists refl;
      no_name_lem = lists refl;
      at_call = lists refl;
      cut_short = lists refl;
      deep = lists refl;
      too_deep_lem = lists refl;
      longest = listing_right (replicate 8192 95);
      longer = listing_right (replicate 8193 95);
    }
