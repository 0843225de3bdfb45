use Rattle.analysis_existence.proofs.Summaries.{all_summaries, summary}
use Rattle.analysis_existence.proofs.laws.summaries_come.Goals as goal

pub returns-clause-entry : goal.returns-clause-entry
returns-clause-entry c = summary

pub returns-clause-all : goal.returns-clause-all
returns-clause-all c = all_summaries
