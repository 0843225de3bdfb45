use Rattle.std.proofs.Common.{sym, ◌∙◌}
use Rattle.analysis_text.proofs.Listing.{body_again, body_new}
use Rattle.analysis_text.proofs.entries.add_body.Goals as goal

pub returns-in-Some : goal.returns-in-Some
returns-in-Some c =
    body_again c.args.names.now c.args.summaries.now c.args.number c.first_like-like.result c.in-Some.place
    c.args.parts.now c.again.new.self c.args.places.now c.requires.bodies
    (sym c.place_of_body.ensures ∙ c.in-Some.is)
    c.first_like-like.ensures.same c.in_ok-again.ensures

pub returns : goal.returns
returns c =
    body_new c.args.names.now c.args.summaries.now c.args.number c.len-place.result c.at.result.now c.in_ok-body.body
    c.args.parts.now c.add.new.self c.at.ensures c.in_ok-body.ensures c.len-place.ensures c.in_ok-add.ensures
