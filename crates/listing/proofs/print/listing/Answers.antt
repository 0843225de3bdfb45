use Rattle.std.proofs.Common.{◌++◌, List, ℕ, codes, ap, ◌∙◌}
use Rattle.machine_code.specs.Coded.{Code}
use Rattle.listing.proofs.Printed.{code_text-parts}
use Rattle.listing.proofs.print.listing.Goals as goal

pub returns-clause-told : goal.returns-clause-told
returns-clause-told c =
    let code : Code = record { ops = c.args.ops.now; entries = c.args.entries.now } in
    code_text-parts code c.append.new.self c.add_entries.new.text c.add_ops.new.text c.append-2.new.self
    (c.in_ok-append.ensures ∙ ap (λ (t : List ℕ). t ++ codes "PLEX CODE 1\n") c.new-text.ensures)
    c.in_ok-add_entries.ensures.told c.in_ok-add_ops.ensures c.in_ok-append-2.ensures
