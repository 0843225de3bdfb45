use Rattle.std.proofs.Common.{ap, ◌∙◌}
use Rattle.job_types.specs.declared.touch.Touch.TheVariants.{Load}
use Rattle.shared_store.specs.Loans.{current}
use Rattle.shared_store.proofs.Touched.{stored-snoc}
use Rattle.job_runner.proofs.loan_words.LoanWordsWords.read.Goals as goal

pub returns-clause-values : goal.returns-clause-values
returns-clause-values c = let h = c.args.self.now.seat.1 in ap (λ s. current s.1) c.load.ensures.seat
    ∙ stored-snoc h.touches h.lent.base (Load c.args.word c.load.result)
