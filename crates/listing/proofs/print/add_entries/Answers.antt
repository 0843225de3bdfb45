use Rattle.std.proofs.Common.{Fits, w32, arith, get_or}
use Rattle.std.proofs.lemmas.List.Elements.{All-from_get_or}
use Rattle.machine_code.specs.Operands.{IsNumber}
use Rattle.listing.proofs.print.add_entries.Goals as goal

pub returns-clause-numbers : goal.returns-clause-numbers
returns-clause-numbers c =
    All-from_get_or IsNumber c.args.entries.now 0
    (λ i within. (let fits : Fits w32 (get_or c.args.entries.now i 0) = c.type_inv.entries i in omega
    (arith, fits)))
