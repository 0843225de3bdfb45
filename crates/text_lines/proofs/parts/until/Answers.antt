use Rattle.text_lines.proofs.Cuts.{HasNo-before, StartsWith-from}
use Rattle.text_lines.proofs.parts.until.Goals as goal

pub returns-clause-apart : goal.returns-clause-apart
returns-clause-apart c = HasNo-before c.args.end c.args.bytes.now c.place.result c.unwrap_or-at.result
    c.split_at.result.0.now c.place.ensures.first c.unwrap_or-at.ensures c.split_at.ensures.front

pub returns-clause-starts : goal.returns-clause-starts
returns-clause-starts c = StartsWith-from c.args.end c.args.bytes.now c.place.result c.unwrap_or-at.result
    c.split_at.result.1.now c.place.ensures.first c.unwrap_or-at.ensures c.split_at.ensures.back
