use Rattle.std.proofs.lemmas.Result.{IfOk-weaker}
use Rattle.std.specs.Prelude.{◌≡◌}
use Rattle.std.specs.List.{Contains}
use Rattle.job_types.specs.Forlopps.{ChainMap, all_records}
use Rattle.entry_summary.specs.declared.summary.Access.TheVariants.{Seizes}
use Rattle.start_permit.specs.Granted.{IsFree}
use Rattle.start_permit.specs.Recorded.{AreRuns}
use Rattle.start_permit.proofs.Choosing.{none_below, seized_free, seized_none}
use Rattle.start_permit.proofs.runs.seized_runs.Goals as goal

pub returns-then-may_seize-clause-exact : goal.returns-then-may_seize-clause-exact
returns-then-may_seize-clause-exact c =
    IfOk-weaker c.free_runs.result (λ runs. (chains : ChainMap) → c.args.held.now ≡ all_records chains → AreRuns c.args.size (IsFree chains c.args.file) runs)
    (λ runs. (chains : ChainMap) → c.args.held.now ≡ all_records chains
    → AreRuns c.args.size (λ n. Contains c.args.accesses.now (Seizes c.args.file) × IsFree chains c.args.file n)
    runs)
    (λ runs are chains all. seized_free c.args.accesses.now chains c.args.file c.args.size runs c.may_seize.result
    c.if-may_seize.true c.may_seize.ensures (are chains all))
    c.free_runs.ensures.exact

pub returns-else-may_seize-clause-exact : goal.returns-else-may_seize-clause-exact
returns-else-may_seize-clause-exact c = λ chains all.
    seized_none c.args.accesses.now chains c.args.file c.args.size c.new.result c.may_seize.result c.if-may_seize.false c.may_seize.ensures c.new.ensures

pub returns-else-may_seize-clause-below : goal.returns-else-may_seize-clause-below
returns-else-may_seize-clause-below c = none_below c.args.size c.new.result c.new.ensures
