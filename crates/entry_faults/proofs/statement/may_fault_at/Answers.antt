use Rattle.std.proofs.Common.{◌≡◌, true, map, ap, subst, sym, ◌∙◌}
use Rattle.std.specs.Prelude.{◌↔◌}
use Rattle.exchange_model.specs.declared.stmt.StmtKind.{out-StmtKind}
use Rattle.entry_faults.specs.Asking.{MayAnswer}
use Rattle.entry_faults.specs.Exprs.{expr_seen}
use Rattle.entry_faults.specs.Statements.{AnyMisses}
use Rattle.entry_faults.proofs.Faulting.{faults_is}
use Rattle.entry_faults.proofs.statement.may_fault_at.Goals as goal

pub returns : goal.returns
returns g c =
    let x = c.args.exchange.now in
    let P = g.K.KnownFacts.knows c.args.known.now in
    let e = c.args.entry in
    let p = c.args.at.now.point in
    faults_is x P e c.args.at.now.block p (out-StmtKind c.args.at.now.kind.now) c.as_slice-pointing.result.now c.as_slice-expressions.result.now
    c.is_seize-seizes.result c.any_divides-divides.result c.any_forlopp-forlopp.result c.in_ok-misses.misses
    c.in_ok-lost.lost c.in_ok-wide.wide c.in_ok-waits.waits c.in_ok-other.other c.in_ok-deep.deep
    (record {
      exprs_are = ap (map expr_seen) c.as_slice-expressions.ensures ∙ c.in_ok-exprs.ensures;
      pointers_are = c.as_slice-pointing.ensures ∙ c.in_ok-pointers.ensures;
      seizing = c.is_seize-seizes.ensures;
      dividing = c.any_divides-divides.ensures;
      forlopp = c.any_forlopp-forlopp.ensures;
      missing = subst (λ ps. (c.in_ok-misses.misses ≡ true) ↔ AnyMisses x P e p ps) (sym c.as_slice-pointing.ensures) c.in_ok-misses.ensures;
      lost = subst (λ o. (c.in_ok-lost.lost ≡ true) ↔ MayAnswer x P e p o) c.receiver_question-receiver.ensures c.in_ok-lost.ensures;
      wide = subst (λ o. (c.in_ok-wide.wide ≡ true) ↔ MayAnswer x P e p o) c.width_question-width.ensures c.in_ok-wide.ensures;
      ending = subst (λ o. (c.in_ok-waits.waits ≡ true) ↔ MayAnswer x P e p o) c.end_question-end.ensures c.in_ok-waits.ensures;
      awaiting = subst (λ o. (c.in_ok-other.other ≡ true) ↔ MayAnswer x P e p o) c.awaits_question-awaited.ensures c.in_ok-other.ensures;
      deep = subst (λ o. (c.in_ok-deep.deep ≡ true) ↔ MayAnswer x P e p o) c.depth_question-depth.ensures c.in_ok-deep.ensures;
    })
