use Rattle.std.proofs.Common.{◌∙◌, ap, cond, true, ◌&&◌, nat_eq}
use Rattle.std.specs.Str.{bytes_eq}
use Rattle.text_rules.specs.Received.{has_pair}
use Rattle.text_rules.proofs.SurveySteps.{pair_more}
use Rattle.text_rules.proofs.surveys.Received.add_pair.Goals as goal

pub returns-clause-pairs : goal.returns-clause-pairs
returns-clause-pairs c = λ b s.
    c.in-Ok.ensures.updates.0 (b, s) ∙ ap (λ n. cond (nat_eq c.args.block b && bytes_eq n s) true (has_pair c.args.self.now b s)) c.copy.ensures
    ∙ pair_more c.args.block b (bytes_eq c.args.signal.now s) (has_pair c.args.self.now b s)
