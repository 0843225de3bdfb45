use Rattle.std.proofs.Common.{◌≡◌, take}
use Rattle.parallel_dispatch.proofs.dispatcher_state.words_of.Given as goal

abbrev pub invariant-loop-word : goal.invariant-loop-word
invariant-loop-word l = record { root : l.root ≡ l.initial.root; words : l.words ≡ take l.word l.root.1.values }
