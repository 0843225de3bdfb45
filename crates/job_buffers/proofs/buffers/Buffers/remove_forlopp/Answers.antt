use Rattle.std.proofs.Common.{ap, ◌∙◌}
use Rattle.job_types.specs.Waiting.{count_of, others}
use Rattle.job_buffers.specs.Room.{Buffered}
use Rattle.job_buffers.proofs.Sound.{sound_removed, waiting_removed}
use Rattle.job_buffers.proofs.buffers.Buffers.remove_forlopp.Goals as goal

pub invariant_of-self : goal.invariant_of-self
invariant_of-self c =
    let tidied = rw c.end-gone.ensures.stays at c.tidy.ensures.tidied in
    rw (c.end-gone.ensures.stays, c.end-gone.ensures.count, c.tidy.ensures.room)
    (sound_removed _ _ _ _ _ _ _ _ c.args.forlopp c.self.invariant c.end-gone.ensures.room tidied)

pub returns-clause-count : goal.returns-clause-count
returns-clause-count c =
    c.end-gone.ensures.count ∙ c.self.invariant.jobs c.args.forlopp
    ∙ ap (λ (v : Buffered). count_of c.args.forlopp v.waiting) c.self.view_is

pub returns-clause-left : goal.returns-clause-left
returns-clause-left c =
    rw c.end-gone.ensures.stays (waiting_removed _ c.args.forlopp _ _ (rw c.end-gone.ensures.stays at c.tidy.ensures.tidied))
    ∙ ap (λ (v : Buffered). others c.args.forlopp v.waiting) c.self.view_is
