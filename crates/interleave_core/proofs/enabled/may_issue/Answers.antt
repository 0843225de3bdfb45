use Rattle.std.proofs.Common.{◌≡◌, length, true, rules, arith}
use Rattle.std.proofs.lemmas.Grind.{common_steps}
use Rattle.interleave_core.proofs.Enabling.{tested}
use Rattle.interleave_core.proofs.enabled.may_issue.Goals as goal

pub returns : goal.returns
returns c =
    let core = c.args.core.now in
    let long : c.len-running.result ≡ length core.window.items = grind (arith, common_steps) in
    let before : c.is_before.result ≡ true = search (rules, common_steps) in
    tested c.args.checked.now c.args.workers core.books core.words core.window.items core.retired c.requires.running
    c.in-Some.start c.may_follow_all.result c.lines_wait.result c.ended.result c.len-running.result c.deref.result.now
    c.in-Some.ensures c.lines_wait.ensures c.ended.ensures long c.deref.ensures.value
    c.if-workers-running.false (c.is_before.ensures.0 before) c.may_follow_all.ensures
