use Rattle.std.proofs.Common.{◌≡◌, ◌∙◌, length}
use Rattle.job_run.proofs.Keeping.{few_cleared}
use Rattle.job_run.proofs.locals.clear_few.Goals as goal

pub returns : goal.returns
returns c =
    let long : length c.set_part-3.new.values ≡ 50 = c.set_part-3.ensures.long ∙ c.set_part-2.ensures.long ∙ c.set_part.ensures.long ∙ c.requires.long in
    few_cleared c.args.values.now c.set_part.new.values c.set_part-2.new.values c.set_part-3.new.values c.requires.few
    c.set_part.ensures.before c.set_part.ensures.behind c.set_part-2.ensures.before c.set_part-2.ensures.behind
    c.set_part-3.ensures.before long
