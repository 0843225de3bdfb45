use Rattle.std.proofs.Common.{◌∷◌, ◌++◌, [], map, sym, ap, ◌∙◌, subst}
use Rattle.fact_rows.specs.Known.{KnowsAt}
use Rattle.flow_table.specs.Texts.{AreReachedAmong, seen}
use Rattle.conflict_rows.proofs.Rowing.{place_written}
use Rattle.conflict_rows.proofs.given.push_place.Goals as goal

pub accesses_at-requires-clause-places : goal.accesses_at-requires-clause-places
accesses_at-requires-clause-places c =
    subst (λ l. AreReachedAmong c.args.of.now.exchange.now (KnowsAt c.args.of.now.known.now c.args.at.now.point) c.args.of.now.entry (map seen l))
    (sym (c.as_slice-places.ensures ∙ c.in_ok-push.ensures ∙ ap (λ l. l ++ c.args.at.now ∷ []) c.new-only.ensures)) c.requires.alone

pub levels_of-requires : goal.levels_of-requires
levels_of-requires c =
    subst (λ l. AreReachedAmong c.args.of.now.exchange.now (KnowsAt c.args.of.now.known.now c.args.at.now.point) c.args.of.now.entry (map seen l))
    (sym (c.as_slice-places.ensures ∙ c.in_ok-push.ensures ∙ ap (λ l. l ++ c.args.at.now ∷ []) c.new-only.ensures)) c.requires.alone

pub returns : goal.returns
returns c =
    place_written c.args.of.now.exchange.now c.args.of.now.known.now c.args.of.now.entry c.args.summary.now
    c.args.at.now c.as_slice-all.result.now c.in_ok-accesses.accesses c.as_slice-given.result.now
    c.as_slice-levels.result.now c.in_ok-sent.sent c.as_slice-listed.result.now c.args.rows.now c.push_accesses.new.rows c.push_levels.new.rows
    c.as_slice-all.ensures c.as_slice-given.ensures c.as_slice-levels.ensures c.as_slice-listed.ensures
    c.in_ok-accesses.ensures.exact c.in_ok-sent.ensures.exact c.in_ok-push_accesses.ensures
    c.in_ok-push_levels.ensures
