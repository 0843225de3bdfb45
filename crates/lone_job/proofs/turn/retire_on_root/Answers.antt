use Rattle.std.proofs.Common.{ℕ, List, None, ◌∙◌, sym, ap, subst}
use Rattle.run_books.specs.Retired.{HasRetired, retired_trace}
use Rattle.run_books.specs.Stores.{MayStore}
use Rattle.job_runner.specs.Seen.{free_to_write}
use Rattle.shared_store.specs.Seats.{RootView}
use Rattle.lone_job.proofs.turn.retire_on_root.Goals as goal

pub retire-retired-requires-clause-words : goal.retire-retired-requires-clause-words
retire-retired-requires-clause-words c =
    subst (λ (r : RootView). MayStore (free_to_write r.1)
    (retired_trace c.args.context.now.exchange.now c.args.start.now c.args.done.now c.args.books.now.state
    r.1.values)) (sym c.new-words.ensures.root) c.requires.words

pub returns-clause-retired : goal.returns-clause-retired
returns-clause-retired c = record {
  settled = c.retire-retired.new.self;
  retired =
      subst (λ (z : RootView × List ℕ). HasRetired c.args.context.now.exchange.now c.args.start.now c.args.done.now
      c.args.books.now c.retire-retired.new.self z.0.1.values z.1 None None)
      (λ i. (c.new-words.ensures.root i, sym (ap (λ (r : RootView). r.1.values) c.into_root-root.ensures) i)) c.in-Ok.ensures.retired;
  next_is = c.in-Ok-arrive.ensures;
  loans = ap (λ (r : RootView). r.1.loans) c.into_root-root.ensures ∙ sym c.in-Ok.ensures.like.1 ∙ ap (λ (r : RootView). r.1.loans) c.new-words.ensures.root;
}

pub returns-clause-home : goal.returns-clause-home
returns-clause-home c = ap (λ (r : RootView). r.0) c.into_root-root.ensures ∙ sym c.in-Ok.ensures.like.0 ∙ ap (λ (r : RootView). r.0) c.new-words.ensures.root

pub returns-in_default-clause-left : goal.returns-in_default-clause-left
returns-in_default-clause-left c = record {
  home = ap (λ (r : RootView). r.0) c.into_root-root.ensures ∙ sym c.in_default.ensures.like.0 ∙ ap (λ (r : RootView). r.0) c.new-words.ensures.root;
  loans = ap (λ (r : RootView). r.1.loans) c.into_root-root.ensures ∙ sym c.in_default.ensures.like.1
      ∙ ap (λ (r : RootView). r.1.loans) c.new-words.ensures.root;
}

pub returns-in_default-arrive-clause-left : goal.returns-in_default-arrive-clause-left
returns-in_default-arrive-clause-left c = record {
  home = ap (λ (r : RootView). r.0) c.into_root-root.ensures ∙ sym c.in-Ok.ensures.like.0 ∙ ap (λ (r : RootView). r.0) c.new-words.ensures.root;
  loans = ap (λ (r : RootView). r.1.loans) c.into_root-root.ensures ∙ sym c.in-Ok.ensures.like.1 ∙ ap (λ (r : RootView). r.1.loans) c.new-words.ensures.root;
}
