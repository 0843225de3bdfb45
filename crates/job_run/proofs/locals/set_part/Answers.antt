use Rattle.std.proofs.Common.{rules, ◌≡◌, ◌+◌, length, arith}
use Rattle.std.proofs.lemmas.Simd.{take_more_put_chunk, length-put_chunk}
use Rattle.job_run.proofs.Keeping.{behind_part}
use Rattle.job_run.proofs.locals.set_part.Goals as goal

pub returns-clause-before : goal.returns-clause-before
returns-clause-before g c =
    let long : length c.args.part ≡ g.row.N = search rules in
    take_more_put_chunk c.args.at c.args.values.now c.args.part (c.args.at + g.row.N) (omega (arith, long)) c.requires

pub returns-clause-behind : goal.returns-clause-behind
returns-clause-behind g c =
    let long : length c.args.part ≡ g.row.N = search rules in
    behind_part c.args.at g.row.N c.args.values.now c.args.part long c.requires

pub returns-clause-long : goal.returns-clause-long
returns-clause-long g c = length-put_chunk c.args.at c.args.values.now _
