use Rattle.std.proofs.Common.{◌≡◌, Ok, take, true, false, rules}
use Rattle.std.proofs.lemmas.Grind.{common_steps}
use Rattle.std.proofs.lemmas.List.{get_or_default}
use Rattle.interleave_core.specs.Runs.{setting}
use Rattle.interleave_core.proofs.Interleaved.{interleaves, stays_safe}
use Rattle.interleave_core.proofs.Leading.{gone_begin, gone_end, gone_more, gone_refused}
use Rattle.interleave_core.proofs.interleaving.run_events.Goals as goal

pub loop-at-init : goal.loop-at-init
loop-at-init c = gone_begin (setting c.args.exchange.now c.args.code.now c.args.checked.now c.args.workers) c.args.books
    c.args.words c.args.events.now c.new-core.result c.requires.nobody c.new-core.ensures.core c.new-core.ensures.books
    c.new-core.ensures.window

pub happen-requires-clause-safe : goal.happen-requires-clause-safe
happen-requires-clause-safe c =
    stays_safe c.args.exchange.now c.args.code.now c.args.checked.now c.args.workers c.args.books c.args.words
    c.kept.ensures c.requires.faithful c.requires.checked c.requires.valid c.requires.quiet
    (take c.loop-at.at c.args.events.now) _ c.loop-at.invariant.runs

pub returns-then-not-branch : goal.returns-then-not-branch
returns-then-not-branch c =
    let was : c.in_ok-happen.field-0 ≡ false = search (rules, common_steps) in
    gone_refused (setting c.args.exchange.now c.args.code.now c.args.checked.now c.args.workers) c.args.books
    c.args.words c.args.events.now c.loop-at.at _ c.loop-at.core c.happen.new.core c.in_ok-happen.field-0
    c.loop-at-test.true (get_or_default _ _ _ _ c.loop-at-test.true) c.loop-at.invariant was c.in_ok-happen.ensures

pub loop-at-preserved : goal.loop-at-preserved
loop-at-preserved c =
    let was : c.in_ok-happen.field-0 ≡ true = search (rules, common_steps) in
    gone_more (setting c.args.exchange.now c.args.code.now c.args.checked.now c.args.workers) c.args.books c.args.words
    c.args.events.now c.loop-at.at _ c.loop-at.core c.happen.new.core c.in_ok-happen.field-0 c.loop-at-test.true
    (get_or_default _ _ _ _ c.loop-at-test.true) c.loop-at.invariant was c.in_ok-happen.ensures

pub returns : goal.returns
returns c =
    let leads = gone_end (setting c.args.exchange.now c.args.code.now c.args.checked.now c.args.workers) c.args.books
    c.args.words c.args.events.now c.loop-at.at c.loop-at.core c.into_state.result c.loop-at-test.false
    c.loop-at.invariant c.into_state.ensures.core c.into_state.ensures.books c.into_state.ensures.window in
    interleaves c.args.exchange.now c.args.code.now c.args.checked.now c.args.workers c.args.books c.args.words
    c.kept.ensures c.requires.faithful c.requires.checked c.requires.valid c.requires.quiet c.args.events.now
    (Ok c.into_state.result) leads
