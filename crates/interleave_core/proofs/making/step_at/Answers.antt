use Rattle.interleave_core.proofs.Changing.{has_moved, it_may}
use Rattle.interleave_core.proofs.making.step_at.Goals as goal

pub step-requires-clause-runs : goal.step-requires-clause-runs
step-requires-clause-runs c = (it_may c.args.code.now.ops c.args.words.now c.args.window.now c.args.place
    c.index-window-place.result c.requires.within c.requires.may).runs

pub step-requires-clause-within : goal.step-requires-clause-within
step-requires-clause-within c = (it_may c.args.code.now.ops c.args.words.now c.args.window.now c.args.place
    c.index-window-place.result c.requires.within c.requires.may).may.within

pub step-requires-clause-operands : goal.step-requires-clause-operands
step-requires-clause-operands c = (it_may c.args.code.now.ops c.args.words.now c.args.window.now c.args.place
    c.index-window-place.result c.requires.within c.requires.may).may.allowed.0

pub step-requires-clause-room : goal.step-requires-clause-room
step-requires-clause-room c = (it_may c.args.code.now.ops c.args.words.now c.args.window.now c.args.place
    c.index-window-place.result c.requires.within c.requires.may).may.allowed.1

pub step-requires-clause-words : goal.step-requires-clause-words
step-requires-clause-words c = (it_may c.args.code.now.ops c.args.words.now c.args.window.now c.args.place
    c.index-window-place.result c.requires.within c.requires.may).may.word

pub returns : goal.returns
returns c = λ own there. has_moved c.args.code.now.ops c.args.window.now c.args.place c.index-window-place.result own
    c.args.words.now c.step.new.words c.step.new.run there c.step.ensures.run c.step.ensures.values
