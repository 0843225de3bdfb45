use Rattle.std.proofs.Common.{rules, ◌≡◌, length}
use Rattle.job_run.proofs.Keeping.{in_few}
use Rattle.job_run.proofs.locals.Kept.put_away_few.Goals as goal

pub returns-clause-kept : goal.returns-clause-kept
returns-clause-kept c =
    let long : length c.args.locals.now ≡ 50 = search rules in
    in_few c.args.locals.now long c.requires c.part_at-self.ensures c.part_at-self-2.ensures c.part_at-self-3.ensures
