use Rattle.worker_answers.proofs.timing.perform_timed.Goals as goal

pub merged_in-requires-clause-few : goal.merged_in-requires-clause-few
merged_in-requires-clause-few g c = c.in_ok-lines.ensures.read.few
