use Rattle.std.proofs.Common.{◌≡◌, None, rules}
use Rattle.certificate_text.proofs.Numbers.{number_here, number_uncut, number_unsaid}
use Rattle.certificate_text.proofs.parts.number.Goals as goal

pub returns-in_err-word : goal.returns-in_err-word
returns-in_err-word c =
    let gave : c.from_residual.result ≡ None = search rules in
    rw gave (number_uncut c.args.text.now c.args.end c.requires c.in_err-word.ensures)

pub returns-in_err-n : goal.returns-in_err-n
returns-in_err-n c =
    let gave : c.from_residual-in_err-n.result ≡ None = search rules in
    rw gave (number_unsaid c.args.text.now c.in_ok-word.word.now c.in_ok-word.rest.now c.args.end c.requires c.in_ok-word.ensures c.in_err-n.ensures)

pub returns : goal.returns
returns c = number_here c.args.text.now c.in_ok-word.word.now c.in_ok-word.rest.now c.in_ok-n.n c.args.end c.in_ok-word.ensures c.in_ok-n.ensures
