use Rattle.job_buffers.proofs.queues.Queues.tidy.Goals as goal

pub returns-clause-tidied : goal.returns-clause-tidied
returns-clause-tidied c = rw (← c.self.view_is) (record {
  a = c.tidy.ensures.tidied;
  b = c.tidy-2.ensures.tidied;
  c = c.tidy-3.ensures.tidied;
  d = c.tidy-4.ensures.tidied;
})
