use Rattle.std.proofs.Common.{◌∙◌, ap}
use Rattle.text_events.specs.Walk.{add, kind_walk}
use Rattle.text_events.specs.Kept.{item_line_at}
use Rattle.text_events.specs.Seen.{begins_at, item_heads}
use Rattle.text_walk.proofs.BlockSteps.{stmt_item_in}
use Rattle.text_walk.proofs.block.walk_item.Goals as goal

pub returns-in_ok-walk_kind-in-Stmt : goal.returns-in_ok-walk_kind-in-Stmt
returns-in_ok-walk_kind-in-Stmt c =
    stmt_item_in _ _ _ _ _ _ _ _ c.requires.inside c.requires.there c.in-Stmt.is
    (c.in_ok-push-in-Stmt.ensures ∙ ap (λ n. add (item_line_at c.args.items.now n)
    (begins_at (item_heads c.args.items.now) n) c.args.out.now) c.in_ok-number.ensures)
    (c.in_ok-walk_kind-in-Stmt.ensures ∙ ap (λ o. (kind_walk c.in-Stmt.s.kind).walk o c.push-in-Stmt.new.out) (c.in_ok-owner-in-Stmt.ensures ∙ c.len.ensures))
