use Rattle.std.proofs.Common.{[]}
use Rattle.start_permit.specs.Granted.{Lets}
use Rattle.start_permit.proofs.Gaining.{all_words, go_end, go_more, go_new}
use Rattle.start_permit.proofs.granting.words_of.Goals as goal

pub loop-access-init : goal.loop-access-init
loop-access-init c = λ chains are. go_new (Lets c.args.by.now.exchange.now c.args.by.now.all.now c.args.by.now.start.now
    chains c.args.write) c.new-spans.result c.new-spans.ensures

pub loop-access-preserved : goal.loop-access-preserved
loop-access-preserved c = λ chains are.
    go_more (Lets c.args.by.now.exchange.now c.args.by.now.all.now c.args.by.now.start.now chains c.args.write)
    c.args.by.now.all.now c.loop-access.access-index _ [] c.loop-access.spans c.push_access.new.spans
    c.loop-access-test.true (c.in_ok-push_access.ensures chains are) (c.loop-access.invariant chains are)

pub returns : goal.returns
returns c = λ chains are.
    all_words (Lets c.args.by.now.exchange.now c.args.by.now.all.now c.args.by.now.start.now chains c.args.write) c.args.by.now.all.now c.loop-access.spans
    (go_end (Lets c.args.by.now.exchange.now c.args.by.now.all.now c.args.by.now.start.now chains c.args.write)
    c.args.by.now.all.now c.loop-access.access-index [] c.loop-access.spans c.loop-access-test.false
    (c.loop-access.invariant chains are))
