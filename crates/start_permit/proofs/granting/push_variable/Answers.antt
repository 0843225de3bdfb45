use Rattle.std.proofs.Common.{sym, ◌∙◌}
use Rattle.start_permit.proofs.Rowing.{no_variable, variable_gained}
use Rattle.start_permit.proofs.granting.push_variable.Goals as goal

pub returns-in_default : goal.returns-in_default
returns-in_default c = no_variable c.args.exchange.now c.args.table.now c.args.number c.args.spans.now c.requires (sym c.in_default.is ∙ c.variable.ensures)

pub returns : goal.returns
returns c = variable_gained c.args.exchange.now c.args.table.now c.args.number c.in-Some.word c.args.spans.now
    c.push.new.self c.requires (sym c.in-Some.is ∙ c.variable.ensures) c.in_ok-push.ensures
