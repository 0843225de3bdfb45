use Rattle.std.proofs.Common.{◌≡◌, None, rules}
use Rattle.certificate_text.proofs.Heads.{no_references}
use Rattle.certificate_text.proofs.read_head.last_counts.Goals as goal

pub returns-in_err-references-in-Two : goal.returns-in_err-references-in-Two
returns-in_err-references-in-Two c =
    let gave : c.from_residual-in_err-references-in-Two.result ≡ None = search rules in
    rw gave (no_references c.args.version c.args.text.now c.in_ok-entries-in-Two.rest.now c.in_ok-entries-in-Two.entries
    c.in-Two.is c.in_ok-entries-in-Two.ensures c.in_err-references-in-Two.ensures)
