use Rattle.std.proofs.Common.{refl}
use Rattle.analysis_text.proofs.Listing.{bodies_behind, bodies_more, summary_written}
use Rattle.analysis_text.proofs.entries.add_entry.Goals as goal

pub add_body-requires-clause-bodies : goal.add_body-requires-clause-bodies
add_body-requires-clause-bodies c =
    bodies_behind c.args.names.now c.args.summaries.now c.args.number c.args.parts.now c.add.new.self c.in_ok-head.head
    c.args.places.now c.as_slice.result.now c.as_slice.ensures c.in_ok-add.ensures c.requires.bodies

pub returns-clause-bodies : goal.returns-clause-bodies
returns-clause-bodies c =
    bodies_more c.args.names.now c.args.summaries.now c.args.number c.add.new.self c.add_body.new.parts
    c.args.places.now c.push.new.self c.in_ok-place.place c.at.result.now c.at.ensures
    (bodies_behind c.args.names.now c.args.summaries.now c.args.number c.args.parts.now c.add.new.self c.in_ok-head.head
    c.args.places.now c.args.places.now refl c.in_ok-add.ensures c.requires.bodies)
    (c.in_ok-place.ensures c.at.result.now c.at.ensures) c.in_ok-push.ensures

pub returns-clause-text : goal.returns-clause-text
returns-clause-text c = λ s here.
    summary_written c.args.exchange.now c.args.names.now c.args.summaries.now c.args.number c.in_ok-place.place
    c.at.result.now c.args.parts.now c.add.new.self c.add_body.new.parts c.in_ok-head.head
    c.at.ensures c.in_ok-head.ensures c.in_ok-add.ensures c.in_ok-place.ensures s here
