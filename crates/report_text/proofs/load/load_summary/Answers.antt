use Rattle.std.proofs.Common.{◌++◌, ap, ◌∙◌, map}
use Rattle.std.specs.Fmt.{decimal}
use Rattle.std.specs.List.{count_by}
use Rattle.std.specs.Prelude.{codes}
use Rattle.run_books.specs.Events.{ending_of}
use Rattle.report_text.specs.Load.{is_lost, is_out, is_release}
use Rattle.report_text.specs.Report.{jobs_line, written}
use Rattle.report_text.proofs.Joined.{summed}
use Rattle.report_text.proofs.load.load_summary.Goals as goal

pub returns : goal.returns
returns c =
    let s = c.args.books.now.state in
    let calls = c.in_ok-add_counted.ensures ∙ ap (λ n. c.new-text.result ++ written (codes "LOAD " ++ decimal n)) c.from.ensures in
    let jobs = c.in_ok-add_counted-2.ensures ∙ ap (λ n. c.add_counted.new.text ++ written (jobs_line n)) c.ended.ensures in
    let outs = c.in_ok-add_counted-3.ensures ∙ ap
    (λ n. c.add_counted-2.new.text ++ written (codes "OUTS " ++ decimal n))
    (c.tally_of-tally.ensures.outs ∙ ap (count_by is_out) c.take_events.ensures.events) in
    let releases = c.in_ok-add_counted-4.ensures
    ∙ ap (λ n. c.add_counted-3.new.text ++ written (codes "RELEASES " ++ decimal n))
    (c.tally_of-tally.ensures.releases ∙ ap (count_by is_release) c.take_events.ensures.events) in
    let lost = c.in_ok-add_counted-5.ensures ∙ ap
    (λ n. c.add_counted-4.new.text ++ written (codes "LOST " ++ decimal n))
    (c.tally_of-tally.ensures.lost ∙ ap (count_by is_lost) c.take_events.ensures.events) in
    summed c.args.calls s (ending_of c.args.ending) c.new-text.result c.add_counted.new.text c.add_counted-2.new.text
    c.add_counted-3.new.text c.add_counted-4.new.text c.add_counted-5.new.text c.add_ending.new.text
    c.new-text.ensures calls jobs outs releases lost c.in_ok-add_ending.ensures
