use Rattle.std.proofs.Common.{map, sym, subst}
use Rattle.flow_table.specs.Texts.{ArePlaces, seen}
use Rattle.conflicts_text.proofs.Telling.{slice_within, whole}
use Rattle.conflicts_text.proofs.whole.conflicts.Goals as goal

pub add_sections-requires-clause-of : goal.add_sections-requires-clause-of
add_sections-requires-clause-of c = record {
  rows = c.in_ok-table.ensures;
  places_are = subst (λ l. ArePlaces c.args.exchange.now (map seen l)) (sym c.as_slice-stands.ensures) c.in_ok-places.ensures;
  numbers_are = c.in_ok-numbers.ensures;
  summaries_are = c.requires;
}

pub add_sections-requires-clause-within : goal.add_sections-requires-clause-within
add_sections-requires-clause-within c = slice_within c.args.summaries.now c.args.asked c.len.result c.in_ok-made.made
    c.as_slice-told.result.now c.len.ensures c.in_ok-made.ensures c.as_slice-told.ensures

pub returns : goal.returns
returns c =
    whole c.args.exchange.now c.args.asked c.args.summaries.now c.len.result c.in_ok-made.made
    c.as_slice-told.result.now c.in_ok-text.text c.append.new.self c.add_sections.new.text
    c.requires c.len.ensures c.in_ok-made.ensures c.as_slice-told.ensures c.in_ok-text.ensures c.in_ok-append.ensures c.in_ok-add_sections.ensures
