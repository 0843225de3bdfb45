use Rattle.std.proofs.Common.{◌++◌, ap, ◌∙◌}
use Rattle.std.specs.Prelude.{codes}
use Rattle.std.specs.Fmt.{decimal}
use Rattle.report_text.specs.Report.{value_words}
use Rattle.signal_trace.specs.Text.{forlopp_word, place_words}
use Rattle.signal_trace.proofs.Written.{send_written}
use Rattle.signal_trace.proofs.text.add_sent.Goals as goal

pub returns : goal.returns
returns c =
    let sent = c.args.sent.now in
    let values = c.in_ok-add_values.ensures ∙ ap (λ vs. c.add_place.new.text ++ value_words vs) c.as_slice.ensures.items in
    send_written c.args.text.now c.add_number.new.text c.append.new.self c.add_place.new.text c.add_values.new.text
    c.append-2.new.self c.add_forlopp.new.text c.append-3.new.self (codes "SEND ") (decimal c.args.number)
    (place_words c.args.exchange.now sent.to) (value_words sent.values) (forlopp_word c.args.forlopp sent.to)
    c.in_ok-add_number.ensures c.in_ok-append.ensures c.in_ok-add_place.ensures values c.in_ok-append-2.ensures
    c.in_ok-add_forlopp.ensures c.in_ok-append-3.ensures
