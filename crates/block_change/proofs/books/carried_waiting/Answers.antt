use Rattle.block_change.specs.Renamed.{waiting_with}
use Rattle.block_change.proofs.Moving.{moves_levels, moves_more}
use Rattle.block_change.proofs.books.carried_waiting.Goals as goal

pub jobs-preserved : goal.jobs-preserved
jobs-preserved c =
    let levels = c.jobs.invariant.levels in
    record {
      levels = moves_levels c.args.entries.now c.jobs.left.waiting c.take.new.self.waiting c.in-Some.job levels c.in-Some.ensures.job c.in-Some.ensures.left;
      all = moves_more c.args.entries.now (waiting_with c.args.entries.now c.args.buffers.waiting)
          c.jobs.carried.waiting c.push.new.self.waiting c.jobs.left.waiting c.take.new.self.waiting c.in-Some.job
          c.carried_job.result levels c.in-Some.ensures.job c.in-Some.ensures.left c.carried_job.ensures
          c.in_ok-push.ensures.waiting c.jobs.invariant.all;
    }
