use Rattle.std.proofs.Common.{map}
use Rattle.fact_rows.specs.Known.{Knows}
use Rattle.flow_table.specs.Texts.{seen}
use Rattle.access_summary.proofs.Summed.{reached_in}
use Rattle.entry_additions.proofs.Exact.{are_added, are_cells}
use Rattle.entry_additions.proofs.added.added_of.Goals as goal

pub given_in-requires-clause-places : goal.given_in-requires-clause-places
given_in-requires-clause-places c =
    reached_in c.args.of.now.exchange.now (Knows c.args.of.now.known.now) c.args.of.now.entry c.args.places.now
    c.in_ok-there.there c.as_slice-reached.result.now
    c.requires.places c.in_ok-there.ensures c.as_slice-reached.ensures

pub returns : goal.returns
returns c =
    are_added c.args.of.now.exchange.now (Knows c.args.of.now.known.now) c.args.of.now.entry
    (map seen c.args.places.now) c.in_ok-cells.cells c.in_ok-rows.rows c.as_slice-given.result.now
    c.as_slice-accesses.result.now
    c.in_ok-variables.variables c.in_ok-fields.fields c.requires.places
    (are_cells c.args.of.now.exchange.now (Knows c.args.of.now.known.now) c.args.of.now.entry c.args.summary.now
    c.in_ok-cells.cells c.requires.summary c.in_ok-cells.ensures)
    c.in_ok-rows.ensures c.as_slice-accesses.ensures c.as_slice-given.ensures c.in_ok-variables.ensures c.in_ok-fields.ensures
