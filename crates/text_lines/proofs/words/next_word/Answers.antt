use Rattle.std.proofs.Common.{◌≡◌, ◌<◌, Some, length, position, rules}
use Rattle.std.proofs.lemmas.Grind.{common_steps}
use Rattle.text_lines.specs.Words.{is_blank, words}
use Rattle.text_lines.proofs.Worded.{word_ended}
use Rattle.text_lines.proofs.words.next_word.Goals as goal

pub returns-then-at-gt0-clause-cases : goal.returns-then-at-gt0-clause-cases
returns-then-at-gt0-clause-cases c =
    let rest = c.loop-at.rest.now in
    let place : position is_blank rest ≡ Some c.in-Some.at = search (rules, common_steps) in
    let within : c.in-Some.at < length rest = search (rules, common_steps) in
    word_ended rest c.front.result.now c.back.result.now c.in-Some.at (words c.args.line.now) place c.if-at-gt0.true
    within c.front.ensures c.back.ensures c.loop-at.invariant.same
