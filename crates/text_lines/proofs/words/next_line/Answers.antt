use Rattle.std.proofs.Common.{◌≡◌, ◌∙◌, Some, ap, position, rules}
use Rattle.std.proofs.lemmas.Grind.{common_steps}
use Rattle.std.specs.Str.Lines.{strip_carriage_return}
use Rattle.text_lines.specs.Words.{is_line_end}
use Rattle.text_lines.proofs.Lined.{line_ended}
use Rattle.text_lines.proofs.words.next_line.Goals as goal

pub returns-in-Some-clause-cases : goal.returns-in-Some-clause-cases
returns-in-Some-clause-cases c =
    let t = c.args.text.now in
    let place : position is_line_end t ≡ Some c.in-Some.at = search (rules, common_steps) in
    line_ended t c.without_return.result.now c.back.result.now c.in-Some.at place
    (c.without_return.ensures ∙ ap strip_carriage_return c.front.ensures) c.back.ensures
