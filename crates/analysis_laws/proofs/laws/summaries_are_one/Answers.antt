use Rattle.std.proofs.Common.{Contains}
use Rattle.flow_points.specs.Facts.{IsLeast}
use Rattle.analysis_laws.proofs.Summing.{all_summaries_once, summary_once}
use Rattle.analysis_laws.proofs.laws.summaries_are_one.Goals as goal

pub returns-clause-entry : goal.returns-clause-entry
returns-clause-entry c = λ x facts. summary_once x (Contains facts)

pub returns-clause-least : goal.returns-clause-least
returns-clause-least c = λ x. summary_once x (IsLeast x)

pub returns-clause-all : goal.returns-clause-all
returns-clause-all c = all_summaries_once
