use Rattle.std.proofs.Common.{◌∙◌, subst}
use Rattle.std.specs.Prelude.{IfOk}
use Rattle.fact_rows.specs.Grids.{IsJoinedAt}
use Rattle.fact_rows.specs.Spread.{row_of}
use Rattle.fact_rows.proofs.Joining.{apart_numbers, same_joined}
use Rattle.fact_rows.proofs.Spreading.{keeps_then}
use Rattle.fact_rows.proofs.planes.Planes.join.Goals as goal

pub join_laid-requires-clause-apart : goal.join_laid-requires-clause-apart
join_laid-requires-clause-apart c = λ e. apart_numbers c.put_away.new.self.set_numbers c.args.from c.args.to
    c.number-more.result c.number-own.result c.number-more.ensures c.number-own.ensures c.if-own-more.false
    (e ∙ c.take_out.ensures.own)

pub returns-then-own-more-clause-ok : goal.returns-then-own-more-clause-ok
returns-then-own-more-clause-ok c = same_joined c.args.self.now c.put_away.new.self c.args.from c.args.to
    c.number-more.result c.number-own.result c.put_away.ensures.alike c.in_ok-put_away.ensures.none c.requires.from
    c.requires.to c.number-more.ensures c.number-own.ensures c.if-own-more.true

pub returns-clause-ok : goal.returns-clause-ok
returns-clause-ok c =
    subst (λ r. IsJoinedAt r c.args.from c.args.to c.join_laid.result (row_of c.join_laid.new.self))
    (c.take_out.ensures.alike.same ∙ c.put_away.ensures.alike.same)
    (subst (λ j. IsJoinedAt (row_of c.take_out.new.self) c.args.from j c.join_laid.result (row_of c.join_laid.new.self))
    c.take_out.ensures.own c.join_laid.ensures.joined)

pub returns-then-own-self-clause-ok : goal.returns-then-own-self-clause-ok
returns-then-own-self-clause-ok c = subst (λ r. IfOk c.share.result
    (λ grown. IsJoinedAt r c.args.from c.args.to grown (row_of c.share.new.self))) c.put_away.ensures.alike.same
    c.share.ensures.ok

pub returns-then-own-self-clause-keeps : goal.returns-then-own-self-clause-keeps
returns-then-own-self-clause-keeps c = keeps_then c.args.self.now c.put_away.new.self c.share.new.self c.put_away.ensures.alike.keeps c.share.ensures.keeps

pub returns-clause-keeps : goal.returns-clause-keeps
returns-clause-keeps c =
    keeps_then c.args.self.now c.take_out.new.self c.join_laid.new.self
    (keeps_then c.args.self.now c.put_away.new.self c.take_out.new.self c.put_away.ensures.alike.keeps c.take_out.ensures.alike.keeps) c.join_laid.ensures.keeps
