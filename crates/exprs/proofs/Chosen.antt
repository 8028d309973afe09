-- What an operator's sum is, by the number of its kind.
-- Assumes nothing.
use mathlib.Core.Path.{◌≡◌, refl, ap}
use mathlib.Core.List.{List}
use mathlib.Core.Option.{Option}
use Prim.Native.Nat.{ℕ, zero, suc}
use Prim.Native.String.{String}
use native.Mathlib.Omega.{arith}
use Rattle.meaning.specs.Numbers.{Variable}
use Rattle.meaning.specs.Unexpanded.{Term}
use Rattle.meaning.specs.Base.{base_term}
use Rattle.meaning.specs.Expansion.{Bound, replaced}
use Rattle.language.specs.Words.{the, signs, reserved, bytes, same}
use Rattle.language.specs.Trees.{operators, joined_by}
use Rattle.words.specs.Kinds.{numbered, spellings}
use Rattle.parts.specs.declared.Notes.{Notes}
use Rattle.parts.specs.Sum.{sum, counted, join_sum}
use Rattle.tiers.specs.Choose.{strength_of}
use Rattle.tiers.proofs.Chosen.{strength_past}
use Rattle.exprs.specs.Came.{sum_under}

module _ (look : List ℕ → Option Variable) (to : ℕ → ℕ) (bound : List (Bound Term)) where
  pub join_op : (k : ℕ) (op : String) (p : ℕ) (a b : Term) (n : Notes) (t : List ℕ) → numbered k ≡ the op → ¬ (strength_of k ≡ 255)
      → sum_under look to bound (joined_by operators op p a b) n t ≡ join_sum k (to p) (sum_under look to bound a n t) (sum_under look to bound b (counted (sum_under look to bound a n t).notes (to p)) (sum_under look to bound a n t).bytes)
  unfolding numbered spellings signs reserved operators joined_by bytes same strength_of sum base_term replaced
  join_op zero op p a b n t e g = absurd (g refl)
  join_op (suc zero) op p a b n t e g = absurd (g refl)
  join_op (suc (suc zero)) op p a b n t e g = absurd (g refl)
  join_op (suc (suc (suc zero))) op p a b n t e g = let q : op ≡ "|" = cc in ap (λ (o : String). sum_under look to bound (joined_by operators o p a b) n t) q
  join_op (suc (suc (suc (suc zero)))) op p a b n t e g = let q : op ≡ "!=" = cc in ap (λ (o : String). sum_under look to bound (joined_by operators o p a b) n t) q
  join_op (suc (suc (suc (suc (suc zero))))) op p a b n t e g = absurd (g refl)
  join_op (suc (suc (suc (suc (suc (suc zero)))))) op p a b n t e g = let q : op ≡ "==" = cc in ap (λ (o : String). sum_under look to bound (joined_by operators o p a b) n t) q
  join_op (suc (suc (suc (suc (suc (suc (suc zero))))))) op p a b n t e g = absurd (g refl)
  join_op (suc (suc (suc (suc (suc (suc (suc (suc zero)))))))) op p a b n t e g = absurd (g refl)
  join_op (suc (suc (suc (suc (suc (suc (suc (suc (suc zero))))))))) op p a b n t e g = absurd (g refl)
  join_op (suc (suc (suc (suc (suc (suc (suc (suc (suc (suc zero)))))))))) op p a b n t e g = absurd (g refl)
  join_op (suc (suc (suc (suc (suc (suc (suc (suc (suc (suc (suc zero))))))))))) op p a b n t e g = absurd (g refl)
  join_op (suc (suc (suc (suc (suc (suc (suc (suc (suc (suc (suc (suc zero)))))))))))) op p a b n t e g = absurd (g refl)
  join_op (suc (suc (suc (suc (suc (suc (suc (suc (suc (suc (suc (suc (suc zero))))))))))))) op p a b n t e g = absurd (g refl)
  join_op (suc (suc (suc (suc (suc (suc (suc (suc (suc (suc (suc (suc (suc (suc zero)))))))))))))) op p a b n t e g = absurd (g refl)
  join_op (suc (suc (suc (suc (suc (suc (suc (suc (suc (suc (suc (suc (suc (suc (suc zero))))))))))))))) op p a b n t e g = absurd (g refl)
  join_op (suc (suc (suc (suc (suc (suc (suc (suc (suc (suc (suc (suc (suc (suc (suc (suc zero)))))))))))))))) op p a b n t e g = absurd (g refl)
  join_op (suc (suc (suc (suc (suc (suc (suc (suc (suc (suc (suc (suc (suc (suc (suc (suc (suc zero))))))))))))))))) op p a b n t e g = absurd (g refl)
  join_op (suc (suc (suc (suc (suc (suc (suc (suc (suc (suc (suc (suc (suc (suc (suc (suc (suc (suc zero)))))))))))))))))) op p a b n t e g = let q : op ≡ ">" = cc in ap (λ (o : String). sum_under look to bound (joined_by operators o p a b) n t) q
  join_op (suc (suc (suc (suc (suc (suc (suc (suc (suc (suc (suc (suc (suc (suc (suc (suc (suc (suc (suc zero))))))))))))))))))) op p a b n t e g = let q : op ≡ "<" = cc in ap (λ (o : String). sum_under look to bound (joined_by operators o p a b) n t) q
  join_op (suc (suc (suc (suc (suc (suc (suc (suc (suc (suc (suc (suc (suc (suc (suc (suc (suc (suc (suc (suc zero)))))))))))))))))))) op p a b n t e g = let q : op ≡ "&" = cc in ap (λ (o : String). sum_under look to bound (joined_by operators o p a b) n t) q
  join_op (suc (suc (suc (suc (suc (suc (suc (suc (suc (suc (suc (suc (suc (suc (suc (suc (suc (suc (suc (suc (suc zero))))))))))))))))))))) op p a b n t e g = let q : op ≡ "+" = cc in ap (λ (o : String). sum_under look to bound (joined_by operators o p a b) n t) q
  join_op (suc (suc (suc (suc (suc (suc (suc (suc (suc (suc (suc (suc (suc (suc (suc (suc (suc (suc (suc (suc (suc (suc zero)))))))))))))))))))))) op p a b n t e g = let q : op ≡ "-" = cc in ap (λ (o : String). sum_under look to bound (joined_by operators o p a b) n t) q
  join_op (suc (suc (suc (suc (suc (suc (suc (suc (suc (suc (suc (suc (suc (suc (suc (suc (suc (suc (suc (suc (suc (suc (suc zero))))))))))))))))))))))) op p a b n t e g = let q : op ≡ "*" = cc in ap (λ (o : String). sum_under look to bound (joined_by operators o p a b) n t) q
  join_op (suc (suc (suc (suc (suc (suc (suc (suc (suc (suc (suc (suc (suc (suc (suc (suc (suc (suc (suc (suc (suc (suc (suc (suc zero)))))))))))))))))))))))) op p a b n t e g = let q : op ≡ "/" = cc in ap (λ (o : String). sum_under look to bound (joined_by operators o p a b) n t) q
  join_op (suc (suc (suc (suc (suc (suc (suc (suc (suc (suc (suc (suc (suc (suc (suc (suc (suc (suc (suc (suc (suc (suc (suc (suc (suc zero))))))))))))))))))))))))) op p a b n t e g = let q : op ≡ "%" = cc in ap (λ (o : String). sum_under look to bound (joined_by operators o p a b) n t) q
  join_op (suc (suc (suc (suc (suc (suc (suc (suc (suc (suc (suc (suc (suc (suc (suc (suc (suc (suc (suc (suc (suc (suc (suc (suc (suc (suc k)))))))))))))))))))))))))) op p a b n t e g = absurd (g (strength_past (suc (suc (suc (suc (suc (suc (suc (suc (suc (suc (suc (suc (suc (suc (suc (suc (suc (suc (suc (suc (suc (suc (suc (suc (suc (suc k)))))))))))))))))))))))))) (omega arith)))
