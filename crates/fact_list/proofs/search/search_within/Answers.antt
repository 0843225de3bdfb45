use Rattle.fact_list.proofs.Searching.{before_above, part_fits, part_rises, span_within}
use Rattle.fact_list.proofs.search.search_within.Goals as goal

pub between-requires-clause-rising : goal.between-requires-clause-rising
between-requires-clause-rising c = before_above c.args.facts.now c.args.fact c.args.hint.from c.args.hint.to c.requires.below c.requires.above

pub between-requires-clause-within : goal.between-requires-clause-within
between-requires-clause-within c = c.requires.above.there

pub search-span-requires : goal.search-span-requires
search-span-requires c = part_rises c.args.facts.now c.args.fact c.args.hint c.between.result.now c.requires.below
    c.requires.above c.between.ensures c.requires.rising

pub shifted-requires-clause-within : goal.shifted-requires-clause-within
shifted-requires-clause-within c = part_fits c.args.facts.now c.args.fact c.args.hint c.between.result.now
    c.requires.below c.requires.above c.between.ensures c.search-span.result c.search-span.ensures

pub returns : goal.returns
returns c = span_within c.args.facts.now c.args.fact c.args.hint c.between.result.now c.requires.below c.requires.above
    c.between.ensures c.search-span.result c.shifted.result c.search-span.ensures c.shifted.ensures
