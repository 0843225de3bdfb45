use Rattle.std.proofs.Common.{◌++◌, map, ap, ◌∙◌}
use Rattle.source_meaning.specs.State.{State}
use Rattle.run_books.specs.Accounts.{Account, with_words}
use Rattle.run_books.specs.Events.{ending_of}
use Rattle.report_text.specs.Report.{event_line, field_lines, held_lines, jobs_line, text_of}
use Rattle.report_text.specs.Report.{variable_lines, written}
use Rattle.report_text.proofs.Joined.{whole}
use Rattle.report_text.proofs.whole.add_report.Goals as goal

pub returns : goal.returns
returns c =
    let x = c.args.exchange.now in
    let s : State = with_words c.args.books.now.state c.args.words.now in
    let events = c.in_ok-add_events.ensures ∙ ap (λ es. c.args.text.now ++ text_of (map (event_line x) es)) c.take_events.ensures.events in
    let jobs = c.in_ok-add_counted.ensures ∙ ap (λ n. c.add_events.new.text ++ written (jobs_line n))
    (c.ended.ensures ∙ ap (λ (b : Account). b.state.ended) c.take_events.ensures.left) in
    let variables = c.in_ok-add_variables.ensures ∙ ap (λ ws. c.add_counted.new.text ++ text_of (variable_lines x.blocks ws)) c.as_slice.ensures in
    let fields = c.in_ok-add_fields.ensures ∙ ap (λ ws. c.add_variables.new.text ++ text_of (field_lines x.blocks ws)) c.as_slice-2.ensures in
    let holders = c.in_ok-add_holders.ensures ∙ ap (λ m. c.add_fields.new.text ++ text_of (held_lines x.blocks m))
    (c.chains.ensures.chains ∙ ap (λ (b : Account). b.state.chains) c.take_events.ensures.left) in
    whole x s (ending_of c.args.ending) c.args.text.now c.add_events.new.text c.add_counted.new.text
    c.add_variables.new.text c.add_fields.new.text c.add_holders.new.text c.add_ending.new.text events jobs
    variables fields holders c.in_ok-add_ending.ensures
