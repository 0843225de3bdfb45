use Rattle.std.proofs.Common.{length, subst, sym, ap}
use Rattle.std.proofs.lemmas.Bool.{eqb-false, eqb-true}
use Rattle.std.proofs.lemmas.List.{nil_from_length}
use Rattle.certificate_text.proofs.Orders.{Rise}
use Rattle.certificate_text.proofs.Stated.{line_shorter, read_begin, read_fall, read_last}
use Rattle.certificate_text.proofs.Stated.{read_more, read_past, read_strange}
use Rattle.certificate_text.proofs.read.read_facts.Goals as goal

pub loop-fact-init : goal.loop-fact-init
loop-fact-init c = read_begin c.args.version c.args.shape c.args.text.now c.args.rest.now c.new-facts.result c.requires.begun c.new-facts.ensures

pub rises-requires : goal.rises-requires
rises-requires c = subst Rise (sym c.as_slice.ensures) c.loop-fact.invariant.fits.rises

pub returns-then-not-rises : goal.returns-then-not-rises
returns-then-not-rises c = read_fall c.args.version c.args.shape c.args.text.now c.loop-fact.rest.now
    c.in-Some.after.now c.loop-fact.facts c.as_slice.result.now c.in-Some.fact c.loop-fact.number c.rises.result
    c.loop-fact.invariant c.in-Some.ensures c.as_slice.ensures c.rises.ensures c.if-not-rises.true

pub loop-fact-preserved : goal.loop-fact-preserved
loop-fact-preserved c = read_more c.args.version c.args.shape c.args.text.now c.loop-fact.rest.now c.in-Some.after.now
    c.loop-fact.facts c.as_slice.result.now c.push.new.self c.in-Some.fact c.loop-fact.number c.rises.result
    c.loop-fact.invariant c.in-Some.ensures c.as_slice.ensures c.rises.ensures c.if-not-rises.false c.in_ok-push.ensures

pub loop-fact-smaller : goal.loop-fact-smaller
loop-fact-smaller c = line_shorter c.loop-fact.rest.now c.in-Some.after.now c.in-Some.fact c.in-Some.ensures

pub returns-in_default-after : goal.returns-in_default-after
returns-in_default-after c = read_strange c.args.version c.args.shape c.args.text.now c.loop-fact.rest.now
    c.loop-fact.facts c.loop-fact.number c.loop-fact.invariant c.in_default.ensures c.in_default-after.ensures

pub returns-then-is_empty : goal.returns-then-is_empty
returns-then-is_empty c = read_last c.args.version c.args.shape c.args.text.now c.loop-fact.rest.now
    c.in-Some-after.behind.now c.loop-fact.facts c.loop-fact.number c.loop-fact.invariant c.in-Some-after.ensures
    (nil_from_length c.in-Some-after.behind.now
    (eqb-true (length c.in-Some-after.behind.now) 0 (sym c.if-is_empty.ensures)))

pub returns-else-is_empty : goal.returns-else-is_empty
returns-else-is_empty c = read_past c.args.version c.args.shape c.args.text.now c.loop-fact.rest.now
    c.in-Some-after.behind.now c.loop-fact.facts c.loop-fact.number c.loop-fact.invariant c.in-Some-after.ensures
    (λ e. eqb-false (length c.in-Some-after.behind.now) 0 (sym c.if-is_empty.ensures) (ap length e))
