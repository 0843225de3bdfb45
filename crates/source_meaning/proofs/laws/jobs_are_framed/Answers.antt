use Rattle.source_meaning.proofs.Agreeing.{job_agrees, stores_agree, job_after, job_keeps}
use Rattle.source_meaning.proofs.Agreeing.{job_length}
use Rattle.source_meaning.proofs.Frame.{begun_framed, job_framed}
use Rattle.source_meaning.proofs.laws.jobs_are_framed.Goals as goal

pub returns-clause-steps : goal.returns-clause-steps
returns-clause-steps c = begun_framed

pub returns-clause-answered : goal.returns-clause-answered
returns-clause-answered c = job_framed

pub returns-clause-agreed : goal.returns-clause-agreed
returns-clause-agreed c = job_agrees

pub returns-clause-after : goal.returns-clause-after
returns-clause-after c = stores_agree

pub returns-clause-alone : goal.returns-clause-alone
returns-clause-alone c = job_after

pub returns-clause-others : goal.returns-clause-others
returns-clause-others c = job_keeps

pub returns-clause-long : goal.returns-clause-long
returns-clause-long c = job_length
