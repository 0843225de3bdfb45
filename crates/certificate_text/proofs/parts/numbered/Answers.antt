use Rattle.std.proofs.Common.{◌≡◌, None, rules}
use Rattle.certificate_text.proofs.Numbers.{behind, other_label, unsaid_behind}
use Rattle.certificate_text.proofs.parts.numbered.Goals as goal

pub returns-in_err-rest : goal.returns-in_err-rest
returns-in_err-rest c =
    let gave : c.from_residual.result ≡ None = search rules in
    rw gave (other_label c.args.label.now c.args.text.now c.args.end c.in_err-rest.ensures)

pub returns-in_err-n : goal.returns-in_err-n
returns-in_err-n c =
    let gave : c.from_residual-in_err-n.result ≡ None = search rules in
    rw gave (unsaid_behind c.args.label.now c.args.text.now c.in_ok-rest.rest.now c.args.end c.in_ok-rest.ensures c.in_err-n.ensures)

pub returns : goal.returns
returns c = behind c.args.label.now c.args.text.now c.in_ok-rest.rest.now c.in_ok-n.rest.now c.in_ok-n.n c.args.end c.in_ok-rest.ensures c.in_ok-n.ensures
