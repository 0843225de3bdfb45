use Rattle.std.proofs.Common.{◌∙◌, sym}
use Rattle.plex_num.proofs.Lists.{got_map}
use Rattle.flow_table.specs.Texts.{seen}
use Rattle.flow_table.proofs.Rowing.{place_fits}
use Rattle.entry_additions.proofs.Pushing.{is_added, other_pushed}
use Rattle.entry_additions.proofs.added.push_other.Goals as goal

pub adds_to-adds-requires-clause-of_block : goal.adds_to-adds-requires-clause-of_block
adds_to-adds-requires-clause-of_block c =
    place_fits c.args.exchange.now (seen c.in-Some-place_at.at) c.kept.ensures
    (c.requires.places.stands c.args.row.now.point (seen c.in-Some-place_at.at)
    (got_map seen c.args.places.now c.args.row.now.point c.in-Some-place_at.at
    (sym c.place_at.ensures ∙ c.in-Some-place_at.is))).place

pub returns-then-adds : goal.returns-then-adds
returns-then-adds c =
    is_added c.args.exchange.now c.args.places.now c.args.accesses.now c.args.kind c.args.row.now c.number_at.result
    c.args.others.now c.number_at.ensures c.in-Some.number c.in-Some.is c.place_at.result c.place_at.ensures
    c.in-Some-place_at.at
    c.in-Some-place_at.is c.adds_to-adds.result c.adds_to-adds.ensures c.if-adds.true

pub returns : goal.returns
returns c =
    other_pushed c.args.exchange.now c.args.places.now c.args.accesses.now c.args.kind c.args.row.now c.number_at.result
    c.args.others.now c.number_at.ensures c.in-Some.number c.in-Some.is c.place_at.result c.place_at.ensures
    c.in-Some-place_at.at
    c.in-Some-place_at.is c.adds_to-adds.result c.adds_to-adds.ensures c.push.new.self c.if-adds.false c.in_ok-push.ensures
