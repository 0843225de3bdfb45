use Rattle.fact_rows.specs.Known.{Knows}
use Rattle.least_facts.proofs.Telling.{facts_as}
use Rattle.least_facts.proofs.counting.looks_for_facts.Goals as goal

pub returns : goal.returns
returns c = facts_as (Knows c.args.rows.now) (Knows c.args.rows.now) c.in_ok-room.room c.lesser.result c.lesser.ensures (λ f g. g) c.in_ok-room.ensures
