use Rattle.start_permit.proofs.Rowing.{does_not, does_so}
use Rattle.start_permit.proofs.granting.push_access.Goals as goal

pub returns-then-not-does : goal.returns-then-not-does
returns-then-not-does c = λ chains all.
    does_not c.args.by.now.exchange.now c.args.by.now.all.now c.args.by.now.start.now chains c.args.write c.args.access
    c.does.result c.args.spans.now c.does.ensures c.if-not-does.true

pub returns : goal.returns
returns c = λ chains all.
    does_so c.args.by.now.exchange.now c.args.by.now.all.now c.args.by.now.start.now chains c.args.write c.args.access
    c.does.result c.args.spans.now c.push_words.new.spans c.does.ensures c.if-not-does.false
    (c.in_ok-push_words.ensures chains all)
