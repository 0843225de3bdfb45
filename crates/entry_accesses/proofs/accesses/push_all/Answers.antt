use Rattle.entry_accesses.specs.Uses.{UseGives}
use Rattle.entry_accesses.proofs.Adding.{go_begin, go_item, go_end}
use Rattle.entry_accesses.proofs.accesses.push_all.Goals as goal

pub loop-used-init : goal.loop-used-init
loop-used-init g c = go_begin (UseGives (g.K.KnownFacts.knows c.args.known.now) c.args.entry c.args.point) c.args.uses.now c.args.accesses.now

pub loop-used-preserved : goal.loop-used-preserved
loop-used-preserved g c =
    go_item (UseGives (g.K.KnownFacts.knows c.args.known.now) c.args.entry c.args.point) c.args.uses.now
    c.loop-used.used-index _ c.args.accesses.now c.loop-used.accesses c.push_one.new.accesses c.loop-used-test.true
    c.in_ok-push_one.ensures c.loop-used.invariant

pub returns : goal.returns
returns g c =
    go_end (UseGives (g.K.KnownFacts.knows c.args.known.now) c.args.entry c.args.point) c.args.uses.now
    c.loop-used.used-index c.args.accesses.now c.loop-used.accesses c.loop-used-test.false c.loop-used.invariant
