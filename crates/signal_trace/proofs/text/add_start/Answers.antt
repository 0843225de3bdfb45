use Rattle.std.proofs.Common.{◌++◌, ap, ◌∙◌}
use Rattle.std.specs.Prelude.{codes}
use Rattle.std.specs.Fmt.{decimal}
use Rattle.report_text.specs.Report.{value_words}
use Rattle.signal_trace.specs.Text.{outcome_word}
use Rattle.exchange_model.specs.Names.{name_of_entry}
use Rattle.signal_trace.proofs.Written.{job_written}
use Rattle.signal_trace.proofs.text.add_start.Goals as goal

pub returns : goal.returns
returns c =
    let x = c.args.exchange.now in
    let job = c.args.job.now in
    let values = c.in_ok-add_values.ensures ∙ ap (λ vs. c.add_entry.new.text ++ value_words vs) c.as_slice.ensures.items in
    let outcome = c.in_ok-append-3.ensures ∙ ap (λ w. c.append-2.new.self ++ w) c.outcome_word.ensures in
    job_written c.args.text.now c.add_number.new.text c.append.new.self c.add_entry.new.text c.add_values.new.text
    c.add_number-2.new.text c.append-2.new.self c.append-3.new.self c.append-4.new.self (codes "JOB ")
    (decimal job.number) (name_of_entry x job.start.job.entry) (value_words job.start.job.values) (codes " F")
    (decimal job.start.job.forlopp) (outcome_word job.outcome) c.in_ok-add_number.ensures c.in_ok-append.ensures
    c.in_ok-add_entry.ensures values c.in_ok-add_number-2.ensures c.in_ok-append-2.ensures outcome
    c.in_ok-append-4.ensures
