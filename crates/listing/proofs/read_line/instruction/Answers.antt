use Rattle.std.proofs.Common.{List, ℕ, ap, sym, ◌∙◌}
use Rattle.name_tables.specs.Rows.{place_of}
use Rattle.listing.proofs.Named.{named_none}
use Rattle.listing.proofs.read_line.instruction.Goals as goal

pub returns-in-None : goal.returns-in-None
returns-in-None c =
    let name = c.args.name.now in
    named_none name c.args.operands.now (ap (λ (names : List (List ℕ)). place_of names name) (sym c.requires) ∙ sym c.in-None.ensures.first)
