use Rattle.std.proofs.Common.{rules, ◌≡◌, length}
use Rattle.job_run.proofs.Keeping.{in_parts}
use Rattle.job_run.proofs.locals.Kept.put_away_all.Goals as goal

pub returns-clause-kept : goal.returns-clause-kept
returns-clause-kept c =
    let long : length c.args.locals.now ≡ 50 = search rules in
    in_parts c.args.locals.now long c.part_at-self.ensures c.part_at-self-2.ensures c.part_at-self-3.ensures c.part_at-self-4.ensures c.part_at-self-5.ensures
