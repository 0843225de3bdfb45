use Rattle.std.proofs.Common.{◌≡◌, ◌∙◌, length}
use Rattle.job_run.proofs.Keeping.{filled}
use Rattle.job_run.proofs.locals.fill.Goals as goal

pub returns : goal.returns
returns c =
    let long : length c.set_part-5.new.values ≡ 50 = c.set_part-5.ensures.long ∙ c.set_part-4.ensures.long
    ∙ c.set_part-3.ensures.long ∙ c.set_part-2.ensures.long ∙ c.set_part.ensures.long ∙ c.requires in
    filled c.args.first c.args.temporaries c.args.loops c.args.inner c.args.results c.set_part.new.values
    c.set_part-2.new.values c.set_part-3.new.values c.set_part-4.new.values c.set_part-5.new.values
    c.set_part.ensures.before c.set_part-2.ensures.before c.set_part-3.ensures.before c.set_part-4.ensures.before
    c.set_part-5.ensures.before long
