use Rattle.std.proofs.Common.{ap}
use Rattle.std.specs.List.{flat_map}
use Rattle.conflicts_meaning.specs.Lines.{clash_text}
use Rattle.conflicts_meaning.specs.Told.{HasPairLines, IsPairText}
use Rattle.conflicts_text.proofs.Fitting.{pair_lines, whole_within}
use Rattle.conflicts_text.proofs.told.pair_text.Goals as goal

pub returns : goal.returns
returns c =
    whole_within (IsPairText c.args.summaries.now c.args.pair) (HasPairLines c.args.summaries.now c.args.pair)
    c.args.room (flat_map (clash_text c.args.pair) c.as_slice-lines.result.now) c.in_ok-text.text
    (record {
      first = c.at-first.result.now;
      later = c.at-later.result.now;
      of_first = c.at-first.ensures;
      of_later = c.at-later.ensures;
      rows = c.in_ok-rows.rows;
      clash = c.in_ok-rows.ensures;
      is = ap (flat_map (clash_text c.args.pair)) c.as_slice-lines.ensures;
    })
    (pair_lines c.args.summaries.now c.args.pair) c.in_ok-text.ensures
