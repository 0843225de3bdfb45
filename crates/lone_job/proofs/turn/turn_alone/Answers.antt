use Rattle.std.proofs.Common.{◌∙◌, refl, sym, ap, subst}
use Rattle.std.specs.Prelude.{IsSome}
use Rattle.exchange_run.specs.Runs.{left_by}
use Rattle.shared_store.specs.declared.view.Top.{Top}
use Rattle.lone_job.proofs.Words.{done_alone}
use Rattle.lone_job.proofs.Turning.{done_is, entry_here, has_turned, may_be_here, may_run_here}
use Rattle.lone_job.proofs.Turning.{number_fits, one_runs, stores_here}
use Rattle.lone_job.proofs.turn.turn_alone.Goals as goal

pub number_of_next-job-requires : goal.number_of_next-job-requires
number_of_next-job-requires g c = number_fits c.args.context.now.exchange.now c.args.books.now c.args.root.1 c.requires.may

pub begin-requires : goal.begin-requires
begin-requires g c = entry_here c.args.context.now.exchange.now c.kept.ensures c.args.books.now c.args.root.1
    c.requires.may c.in-Some.start c.in-Some.ensures.start c.args.context.now.code.now c.requires.context.faithful

pub run_on_root-root-requires-clause-start : goal.run_on_root-root-requires-clause-start
run_on_root-root-requires-clause-start g c = may_run_here c.args.context.now.exchange.now c.kept.ensures
    c.args.books.now c.args.root.1 c.requires.may c.in-Some.start c.in-Some.ensures.start

pub done-done-requires : goal.done-done-requires
done-done-requires g c = subst (λ o. IsSome o) (sym c.run_on_root-root.ensures.ran.leaves.over) refl

pub retire_on_root-requires-clause-running : goal.retire_on_root-requires-clause-running
retire_on_root-requires-clause-running g c = one_runs c.args.context.now.exchange.now c.kept.ensures c.args.books.now
    c.args.root.1 c.requires.may c.in-Some.start c.in-Some.ensures.start c.next_job.new.self c.in-Some.ensures.left

pub retire_on_root-requires-clause-forlopp : goal.retire_on_root-requires-clause-forlopp
retire_on_root-requires-clause-forlopp g c = may_be_here c.args.context.now.exchange.now c.kept.ensures c.args.books.now
    c.args.root.1 c.requires.may c.in-Some.start c.in-Some.ensures.start c.next_job.new.self c.in-Some.ensures.left

pub retire_on_root-requires-clause-words : goal.retire_on_root-requires-clause-words
retire_on_root-requires-clause-words g c =
    let ran = c.run_on_root-root.ensures.ran in
    stores_here c.args.context.now.exchange.now c.kept.ensures c.args.books.now c.args.root.1 c.requires.may
    c.in-Some.start c.in-Some.ensures.start c.next_job.new.self c.in-Some.ensures.left
    c.done-done.result.now (done_alone c.run_on_root-root.new.run c.done-done.result.now
    (left_by c.args.context.now.exchange.now c.in-Some.start c.args.root.1.values) ran.leaves
    c.done-done.ensures.sends c.done-done.ensures.chain c.done-done.ensures.outcome)
    c.run_on_root-root.result.1 ran.root_is

pub returns-in-Ok-clause-turned : goal.returns-in-Ok-clause-turned
returns-in-Ok-clause-turned g c =
    let ran = c.run_on_root-root.ensures.ran in
    let run = c.run_on_root-root.new.run in
    let done = c.done-done.result.now in
    has_turned c.args.context.now.exchange.now c.kept.ensures c.args.books.now c.args.root.1 c.requires.may
    c.in-Some.start c.in-Some.ensures.start c.next_job.new.self c.in-Some.ensures.left
    done (done_alone run done (left_by c.args.context.now.exchange.now c.in-Some.start c.args.root.1.values) ran.leaves
    c.done-done.ensures.sends c.done-done.ensures.chain c.done-done.ensures.outcome)
    c.run_on_root-root.result.1 ran.root_is
    c.retire_on_root.new.books c.in-Ok.root.1 c.in-Ok.ensures.retired
    c.args.context.now.code.now run c.steps-steps.result ran.comes
    (done_is run.own run.over done c.done-done.ensures.sends c.done-done.ensures.chain c.done-done.ensures.outcome)
    c.steps-steps.ensures

pub returns-in-Err-clause-left : goal.returns-in-Err-clause-left
returns-in-Err-clause-left g c = record {
  home = c.in-Err.ensures.left.home ∙ c.run_on_root-root.ensures.root;
  bare = c.in-Err.ensures.left.loans ∙ ap (λ (t : Top). t.loans) c.run_on_root-root.ensures.ran.root_is;
}
