use Rattle.job_table.proofs.Turns.{turned_more}
use Rattle.job_table.proofs.merging.push_period.Goals as goal

pub loop-turn-preserved : goal.loop-turn-preserved
loop-turn-preserved c =
    turned_more c.args.period.now c.args.all.now c.loop-turn.all c.push.new.self c.loop-turn.turn c.line_at.result
    c.loop-turn.invariant c.line_at.ensures c.in_ok-push.ensures
