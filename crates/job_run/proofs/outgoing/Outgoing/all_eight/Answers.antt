use Rattle.std.proofs.Common.{rules, ◌≡◌, ◌-◌, ◌≤◌, length, take, drop, replicate, sym, ap, ◌∙◌}
use Rattle.job_types.specs.Own.{eight}
use Rattle.job_run.proofs.Giving.{all_eight}
use Rattle.job_run.proofs.outgoing.Outgoing.all_eight.Goals as goal

pub returns : goal.returns
returns c =
    let view : c.args.self.now ≡ take c.self.inside.count c.self.inside.numbers = search rules in
    let within : c.self.inside.count ≤ length c.self.inside.numbers = search rules in
    let zeros : drop c.self.inside.count c.self.inside.numbers ≡ replicate (8 - c.self.inside.count) 0 = search rules in
    all_eight c.self.inside.numbers c.self.inside.count within zeros ∙ ap (λ l. eight l) (sym view)
