use Rattle.std.proofs.Common.{ap, refl}
use Rattle.std.specs.List.{flat_map}
use Rattle.access_summary.proofs.Summed.{reached_in}
use Rattle.fact_rows.specs.Known.{Knows}
use Rattle.least_facts.specs.Giving.{IsOwnLeast}
use Rattle.least_facts.proofs.Growing.{found_always}
use Rattle.conflicts_meaning.specs.Lines.{point_text}
use Rattle.conflicts_meaning.specs.Points.{AreGiven, AreSomeGiven}
use Rattle.conflicts_meaning.specs.Told.{HasEntryLines, IsEntryText}
use Rattle.conflicts_text.proofs.Alike.{given_of_least, some_of_least}
use Rattle.conflicts_text.proofs.Fitting.{entry_lines, rows_are_all, rows_are_more, whole_within}
use Rattle.conflicts_text.proofs.told.entry_text.Goals as goal

pub points_within-requires-clause-places : goal.points_within-requires-clause-places
points_within-requires-clause-places c =
    reached_in c.args.means.now.exchange.now (Knows c.known-facts.result.now) c.args.number c.args.means.now.places.now
    c.in_ok-there.there c.as_slice-reached.result.now
    c.requires.of.places_are c.in_ok-there.ensures c.as_slice-reached.ensures

pub returns-in_default-clause-text : goal.returns-in_default-clause-text
returns-in_default-clause-text c =
    let more = rows_are_more (AreGiven c.args.means.now.exchange.now (Knows c.known-facts.result.now) c.args.number
    c.at-summary.result.now) (AreSomeGiven c.args.means.now.exchange.now (Knows c.known-facts.result.now)
    c.args.number c.at-summary.result.now)
    (flat_map (point_text c.args.means.now.exchange.now c.args.number)) c.args.room c.in_ok-found.found c.in_ok-found.ensures c.in_default.is in (
      flat_map (point_text c.args.means.now.exchange.now c.args.number) more.0,
      record {
        summary = c.at-summary.result.now;
        there = c.at-summary.ensures;
        rows = more.0;
        given = some_of_least c.args.means.now.exchange.now c.args.number c.known-facts.result.now c.at-summary.result.now more.0
            (c.known-facts.ensures c.args.means.now.exchange.now c.args.number
            (found_always (IsOwnLeast c.args.means.now.exchange.now c.args.number) _ c.in_ok-learn.ensures.learned))
            more.1;
        are = refl;
      },
      more.2,
    )

pub returns-clause-text : goal.returns-clause-text
returns-clause-text c =
    whole_within (IsEntryText c.args.means.now.exchange.now c.args.means.now.summaries.now c.args.number)
    (HasEntryLines c.args.means.now.exchange.now c.args.means.now.summaries.now c.args.number) c.args.room
    (flat_map (point_text c.args.means.now.exchange.now c.args.number) c.as_slice-lines.result.now)
    c.in_ok-text.text
    (record {
      summary = c.at-summary.result.now;
      there = c.at-summary.ensures;
      rows = c.in-Some.rows;
      given = given_of_least c.args.means.now.exchange.now c.args.number c.known-facts.result.now c.at-summary.result.now c.in-Some.rows
          (c.known-facts.ensures c.args.means.now.exchange.now c.args.number
          (found_always (IsOwnLeast c.args.means.now.exchange.now c.args.number) _ c.in_ok-learn.ensures.learned))
          (rows_are_all (AreGiven c.args.means.now.exchange.now (Knows c.known-facts.result.now) c.args.number
          c.at-summary.result.now) (AreSomeGiven c.args.means.now.exchange.now (Knows c.known-facts.result.now)
          c.args.number c.at-summary.result.now)
          (flat_map (point_text c.args.means.now.exchange.now c.args.number)) c.args.room c.in_ok-found.found
          c.in_ok-found.ensures c.in-Some.rows c.in-Some.is);
      is = ap (flat_map (point_text c.args.means.now.exchange.now c.args.number)) c.as_slice-lines.ensures;
    })
    (entry_lines c.args.means.now.exchange.now c.args.means.now.summaries.now c.args.number) c.in_ok-text.ensures
