-- A cause by its number: no two have one number.
-- Assumes nothing.
use Rattle.std.specs.Prelude.{◌≡◌, ℕ, cond, eqb, List, [], ◌∷◌}
use Rattle.std.proofs.Common.{refl, sym, ap, ◌∙◌}
use Rattle.refusals.specs.declared.Cause.{Cause}
use Rattle.refusals.specs.declared.Cause.TheVariants as cause
use Rattle.refusals.specs.declared.Refusal.{Refusal}
use Rattle.refusals.specs.Number.{number_of}

causes : List Cause
causes = cause.Room ∷ cause.WorkArea ∷ cause.TooLong ∷ cause.NoWord ∷ cause.NoProgram ∷ cause.Name ∷ cause.Kind ∷ cause.Jump ∷ cause.Size ∷ cause.WorstSize ∷ cause.States ∷ cause.Buffer ∷ cause.NotInTable ∷ cause.NoKiss ∷ cause.Length ∷ cause.BlockNumber ∷ cause.Check ∷ cause.Content ∷ []

first_with : ℕ → List Cause → Cause
first_with n [] = cause.Room
first_with n (c ∷ cs) = cond (eqb (number_of c) n) c (first_with n cs)

back : (c : Cause) → first_with (number_of c) causes ≡ c
unfolding first_with causes
back cause.Room = refl
back cause.WorkArea = refl
back cause.TooLong = refl
back cause.NoWord = refl
back cause.NoProgram = refl
back cause.Name = refl
back cause.Kind = refl
back cause.Jump = refl
back cause.Size = refl
back cause.WorstSize = refl
back cause.States = refl
back cause.Buffer = refl
back cause.NotInTable = refl
back cause.NoKiss = refl
back cause.Length = refl
back cause.BlockNumber = refl
back cause.Check = refl
back cause.Content = refl

pub same_cause : (a b : Cause) → number_of a ≡ number_of b → a ≡ b
same_cause a b e = sym (back a) ∙ ap (λ (n : ℕ). first_with n causes) e ∙ back b

pub same_refusal : (r q : Refusal ℕ) → number_of r.cause ≡ number_of q.cause → r.place ≡ q.place → r ≡ q
same_refusal r q e f = let g = same_cause r.cause q.cause e in λ i. record { cause = g i; place = f i }
