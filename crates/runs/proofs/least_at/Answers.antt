use Rattle.std.proofs.Common.{rules, arith, ◌≡◌, ap, ◌∙◌, ℕ, ◌+◌, ◌-◌, map, take, drop}
use Rattle.std.specs.Prelude.{reverse}
use Rattle.std.specs.List.{fold, between}
use Rattle.runs.specs.Run.{entry_from, least_from, least_of}
use Rattle.runs.proofs.Laws.{least_fold}
use Rattle.runs.proofs.least_at.Goals as goal

pub returns : goal.returns
returns c =
    let e : c.fold.result ≡ fold (λ a x. least_of (entry_from x) c.args.i a) c.args.m (reverse (between c.args.b (c.args.b + c.args.w) c.args.old.now)) = search rules in
    let f : c.args.b + c.args.w - c.args.b ≡ c.args.w = omega arith in
    e ∙ least_fold _ _ _ ∙ ap (λ (n : ℕ). least_from (map entry_from (take n (drop c.args.b c.args.old.now))) c.args.i c.args.m) f
