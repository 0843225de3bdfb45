use Rattle.machine_code.proofs.Spanned.{spans_in, spans_out}
use Rattle.machine_code.proofs.laws.span_has_its_words_alone.Goals as goal

pub returns-clause-each : goal.returns-clause-each
returns-clause-each c = spans_in c.args.span.now

pub returns-clause-alone : goal.returns-clause-alone
returns-clause-alone c = spans_out c.args.span.now
