use Rattle.std.proofs.lemmas.Result.{on_ok_weaker}
use Rattle.interleave_core.proofs.Changing.{made_issue, made_retire, made_step}
use Rattle.interleave_core.proofs.window.RunningCore.make.Goals as goal

pub returns-in-Issue : goal.returns-in-Issue
returns-in-Issue c = on_ok_weaker c.issue.result
    (made_issue c.args.exchange.now c.args.code.now c.args.self.now c.issue.new.self c.args.event c.in-Issue.is
    c.requires.running) c.issue.ensures

pub returns-in-Step : goal.returns-in-Step
returns-in-Step c = made_step c.args.exchange.now c.args.code.now c.args.self.now c.step.new.self c.args.event c.in-Step.job c.in-Step.is c.step.ensures

pub returns-in-Retire : goal.returns-in-Retire
returns-in-Retire c = on_ok_weaker c.retire.result
    (made_retire c.args.exchange.now c.args.code.now c.args.self.now c.retire.new.self c.args.event c.in-Retire.is)
    c.retire.ensures
