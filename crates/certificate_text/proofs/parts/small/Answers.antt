use Rattle.std.proofs.Common.{◌≡◌, None, rules, arith}
use Rattle.certificate_text.proofs.Numbers.{small_none, small_large}
use Rattle.certificate_text.proofs.parts.small.Goals as goal

pub returns-in_err-n : goal.returns-in_err-n
returns-in_err-n c =
    let gave : c.from_residual.result ≡ None = search rules in
    rw gave (small_none c.args.label.now c.args.text.now c.args.below c.args.end c.in_err-n.ensures)

pub returns-else-n-from : goal.returns-else-n-from
returns-else-n-from c = small_large c.args.label.now c.args.text.now c.in_ok-n.rest.now c.in_ok-n.n c.args.below
    c.args.end c.requires c.in_ok-n.ensures (omega arith)
