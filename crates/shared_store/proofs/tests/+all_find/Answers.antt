use Rattle.std.proofs.Common.{ap, ◌∙◌}
use Rattle.shared_store.proofs.Sampled.{reading_reads, taken_reading}
use Rattle.shared_store.proofs.tests.+all_find.Goals as goal

pub load-before-requires-clause-permit : goal.load-before-requires-clause-permit
load-before-requires-clause-permit t c =
    reading_reads _ 0 (ap (λ s. s.1.lent.permit) c.lend-seat.ensures.seat ∙ c.in_ok-permit.ensures)

pub load-after-requires-clause-permit : goal.load-after-requires-clause-permit
load-after-requires-clause-permit t c = reading_reads _ 0 (ap (λ s. s.1.lent.permit) c.load-before.ensures.seat
    ∙ (ap (λ s. s.1.lent.permit) c.lend-seat.ensures.seat ∙ c.in_ok-permit.ensures))

pub returns-clause-reading : goal.returns-clause-reading
returns-clause-reading t c = taken_reading _ c.all_find.new.root.1 c.load-after.new.seat.1 0
    (ap (λ r. r.1.loans) c.take_back.ensures) c.in_ok-others.ensures.reading
