use Rattle.std.proofs.lemmas.Result.{IfOk-weaker}
use Rattle.std.specs.Prelude.{◌≡◌}
use Rattle.std.specs.List.{Contains}
use Rattle.job_types.specs.Forlopps.{ChainMap, all_records}
use Rattle.start_permit.specs.Granted.{IsFree}
use Rattle.start_permit.specs.Recorded.{AreBelow, AreRuns}
use Rattle.start_permit.proofs.Choosing.{free_are, numbers_below, read_rises}
use Rattle.start_permit.proofs.runs.free_runs.Goals as goal

pub gaps-requires-clause-rising : goal.gaps-requires-clause-rising
gaps-requires-clause-rising c = read_rises c.in_ok-numbers.numbers c.as_slice.result.now c.in_ok-numbers.ensures.rising c.as_slice.ensures

pub gaps-requires-clause-below : goal.gaps-requires-clause-below
gaps-requires-clause-below c = numbers_below c.args.held.now c.args.file c.args.size c.in_ok-numbers.numbers
    c.as_slice.result.now c.in_ok-numbers.ensures.same c.as_slice.ensures

pub returns-clause-exact : goal.returns-clause-exact
returns-clause-exact c =
    IfOk-weaker c.gaps.result (λ runs. AreRuns c.args.size (λ n. Contains c.as_slice.result.now n → ⊥) runs)
    (λ runs. (chains : ChainMap) → c.args.held.now ≡ all_records chains → AreRuns c.args.size (IsFree chains c.args.file) runs)
    (λ runs are chains all. free_are chains c.args.held.now c.args.file c.args.size c.in_ok-numbers.numbers
    c.as_slice.result.now runs all c.in_ok-numbers.ensures.same c.as_slice.ensures are)
    c.gaps.ensures

pub returns-clause-below : goal.returns-clause-below
returns-clause-below c =
    IfOk-weaker c.gaps.result (λ runs. AreRuns c.args.size (λ n. Contains c.as_slice.result.now n → ⊥) runs) (AreBelow c.args.size)
    (λ runs are. record { below = λ n o. (are.each n o).0 }) c.gaps.ensures
