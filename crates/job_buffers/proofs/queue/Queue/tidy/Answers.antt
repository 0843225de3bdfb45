use Rattle.job_buffers.proofs.Counting.{tidied_all, tidied_front}
use Rattle.job_buffers.proofs.queue.Queue.tidy.Goals as goal

-- all that wait no longer went
pub returns-then-len-waiting-clause-tidied : goal.returns-then-len-waiting-clause-tidied
returns-then-len-waiting-clause-tidied c = rw (← c.self.view_is) (tidied_all _ _ _ c.keep_waiting.ensures.items)

-- those in front went
pub returns-else-len-waiting-clause-tidied : goal.returns-else-len-waiting-clause-tidied
returns-else-len-waiting-clause-tidied c = rw (← c.self.view_is) (tidied_front _ _ _ _ c.ended_in_front-gone.ensures c.drop_front.ensures.items)
