use Rattle.std.proofs.Common.{◌∙◌, ap, filter, sym, subst}
use Rattle.std.specs.List.Sorted.{IsStrictlySortedBy}
use Rattle.fact_rows.proofs.Listing.{sorted_none}
use Rattle.entry_summary.specs.Orders.{level_order}
use Rattle.entry_additions.specs.Cells.{is_cell_access}
use Rattle.entry_additions.proofs.Exact.{has_cells, cells_rising}
use Rattle.entry_additions.proofs.cells.cells_in.Goals as goal

pub invariant_of-result : goal.invariant_of-result
invariant_of-result c = record {
  rising = cells_rising c.args.summary.now.accesses c.from_vec-accesses.result c.args.summary.now.rising
      (c.from_vec-accesses.ensures ∙ c.in-Ok.ensures ∙ ap (filter is_cell_access) c.as_slice.ensures);
  levels_rising = subst (IsStrictlySortedBy level_order) (sym c.new.ensures) (sorted_none level_order);
}

pub returns : goal.returns
returns c = has_cells c.args.summary.now.accesses c.from_vec-accesses.result
    (c.from_vec-accesses.ensures ∙ c.in-Ok.ensures ∙ ap (filter is_cell_access) c.as_slice.ensures)
