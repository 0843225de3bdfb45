use Rattle.std.proofs.Common.{◌-◌, ◌∙◌, get_or, refl}
use Rattle.signal_trace.proofs.Tabling.{none_reaches, one_tells}
use Rattle.signal_trace.proofs.table.some_reaches.Goals as goal

pub returns-then-count-eq0 : goal.returns-then-count-eq0
returns-then-count-eq0 c = none_reaches c.args.rows.now c.args.key c.args.number c.count_upto-count.result
    c.requires.rising c.count_upto-count.ensures c.if-count-eq0.true

pub returns : goal.returns
returns c =
    c.is_of.ensures
    ∙ one_tells c.args.rows.now c.args.key c.args.number c.count_upto-count.result c.requires.rising
    c.count_upto-count.ensures c.args.lasts.now c.row_at.result
    (get_or c.args.lasts.now (c.count_upto-count.result - 1) 0) c.if-count-eq0.false c.requires.lasts
    c.row_at.ensures refl
