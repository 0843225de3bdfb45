use Rattle.std.proofs.Common.{◌≡◌, ◌++◌, drop, map}
use Rattle.stmt_code.specs.StmtCode.{codes, stmt_code, when_code}
use Rattle.code_gen.specs.Choices.{chosen, behind_choices}
use Rattle.code_gen.specs.Settings.{places_in}
use Rattle.code_gen.proofs.TextSteps.{ChoicesLeft}
use Rattle.code_gen.proofs.text.+emit.Given as goal

abbrev pub invariant-list_code-loop-statement : goal.invariant-list_code-loop-statement
invariant-list_code-loop-statement l =
    l.ops ++ codes (map stmt_code (drop l.statement-index l.statement-items)) (places_in l.at) l.loops l.next
    ≡ codes (map stmt_code l.list) (places_in l.at) l.loops l.start

abbrev pub invariant-choices_of-loop-when : goal.invariant-choices_of-loop-when
invariant-choices_of-loop-when l =
    ChoicesLeft (places_in l.at) l.loops l.list l.next (drop l.when-index l.when-items)
    (chosen (map when_code l.whens) (places_in l.at) l.loops l.start)
    (behind_choices (map when_code l.whens) (places_in l.at) l.loops l.start)
