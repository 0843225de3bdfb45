use Rattle.std.proofs.Common.{map, sym, subst}
use Rattle.flow_table.specs.Texts.{ArePlaces, seen}
use Rattle.conflicts_text.proofs.Telling.{slice_within}
use Rattle.additions_text.proofs.Asking.{slice_asked}
use Rattle.additions_text.proofs.Turns.{whole}
use Rattle.additions_text.proofs.whole.add_additions.Goals as goal

pub lists_of-requires-clause-of : goal.lists_of-requires-clause-of
lists_of-requires-clause-of c = record {
  rows = c.in_ok-table.ensures;
  places_are = subst (λ l. ArePlaces c.args.exchange.now (map seen l)) (sym c.as_slice-stands.ensures) c.in_ok-places.ensures;
  numbers_are = c.in_ok-numbers.ensures;
  summaries_are = c.requires;
}

pub add_sections-requires-clause-within : goal.add_sections-requires-clause-within
add_sections-requires-clause-within c = slice_within c.args.summaries.now c.args.asked c.len.result c.in_ok-made.made
    c.as_slice-sections.result.now c.len.ensures c.in_ok-made.ensures c.as_slice-sections.ensures

pub add_sections-requires-clause-asked : goal.add_sections-requires-clause-asked
add_sections-requires-clause-asked c = slice_asked c.len.result c.args.asked c.in_ok-made.made
    c.as_slice-sections.result.now c.in_ok-made.ensures c.as_slice-sections.ensures

pub returns : goal.returns
returns c =
    whole c.args.exchange.now c.args.asked c.args.summaries.now c.len.result c.in_ok-made.made
    c.as_slice-sections.result.now c.args.text.now c.append.new.self c.add_sections.new.text c.append-2.new.self
    c.requires c.len.ensures c.in_ok-made.ensures c.as_slice-sections.ensures c.in_ok-append.ensures c.in_ok-add_sections.ensures c.in_ok-append-2.ensures
