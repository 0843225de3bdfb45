use Rattle.std.proofs.Common.{sym, ap, subst}
use Rattle.shared_store.specs.Seats.{RootView}
use Rattle.lone_job.specs.Turns.{HasRunAlone}
use Rattle.lone_job.proofs.Words.{begins_alone, has_run_alone}
use Rattle.lone_job.proofs.turn.run_on_root.Goals as goal

pub run_to_end-requires-clause-begins : goal.run_to_end-requires-clause-begins
run_to_end-requires-clause-begins c =
    (begins_alone c.args.exchange.now c.args.code.now c.kept.ensures c.args.start.now c.args.root.1 c.requires.bare c.requires.start
    c.args.run.now c.new-words.result.root.1 (ap (λ (r : RootView). r.1) c.new-words.ensures.root) c.requires.run).0

pub returns-clause-ran : goal.returns-clause-ran
returns-clause-ran c =
    subst (HasRunAlone c.args.exchange.now c.args.code.now c.args.start.now c.args.root.1.values c.run_to_end.new.run)
    (ap (λ (r : RootView). r.1) (sym c.into_root.ensures))
    (has_run_alone c.args.exchange.now c.args.code.now c.kept.ensures c.args.start.now c.args.root.1 c.requires.bare c.requires.start
    c.args.run.now c.run_to_end.new.run c.new-words.result.root.1 c.run_to_end.new.words.root.1 _ _
    (ap (λ (r : RootView). r.1) c.new-words.ensures.root) c.requires.run
    c.run_to_end.ensures.end c.run_to_end.ensures.meaning (sym c.run_to_end.ensures.like.1))
