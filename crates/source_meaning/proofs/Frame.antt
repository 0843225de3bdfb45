-- A step, and a job, depends on the words that it loads and on no others.
use Rattle.std.proofs.Common.{◌≡◌, ℕ, zero, suc, ◌+◌, List, [], ◌∷◌, ◌++◌, map, Option, Some, None}
use Rattle.std.proofs.Common.{refl, sym, ap, ◌∙◌, subst, slice_get}
use Rattle.std.specs.Prelude.{nat_lt, slice_index, take}
use Rattle.job_types.specs.declared.fault.Fault.TheVariants as fault
use Rattle.job_types.specs.declared.job.JobStart.{JobStart}
use Rattle.job_types.specs.declared.outcome.Outcome.{Outcome}
use Rattle.job_types.specs.Own.{counted, budget}
use Rattle.job_types.specs.Chain.{without}
use Rattle.job_types.specs.Touches.{stored}
use Rattle.job_types.specs.Truth.{at_zero}
use Rattle.exchange_model.specs.declared.exchange.Exchange.{Exchange}
use Rattle.exchange_model.specs.declared.stmt.StmtKind.{out-StmtKind}
use Rattle.exchange_model.specs.declared.stmt.StmtKind.TheOpen as stmt
use Rattle.exchange_model.specs.Cells.{field_cell}
use Rattle.source_meaning.specs.Named.{Layer}
use Rattle.source_meaning.specs.Value.{expr_value}
use Rattle.source_meaning.specs.Config.{Item, Do, Start, Turns, Config, base_of, files_of, sight}
use Rattle.source_meaning.specs.Config.{next_counted}
use Rattle.source_meaning.specs.Changes.{fails, on_value, on_values, where_fits, goes, to_label}
use Rattle.source_meaning.specs.Changes.{sets_temp, sets_cell, takes, variable_width, field_width}
use Rattle.source_meaning.specs.Changes.{at_record, sets_field, for_first, frees, activates, sends}
use Rattle.source_meaning.specs.Changes.{returns, value_count, chosen}
use Rattle.source_meaning.specs.Step.{does, starts, count, does_first, step}
use Rattle.source_meaning.specs.Job.{unless_over, begins, job, after_steps}
use Rattle.source_meaning.specs.Traces.{Answers, over_words, trace_of, with_store}
use Rattle.source_meaning.proofs.FramedParts.{framed_expr, framed_cond, framed_values}
use Rattle.source_meaning.proofs.FramedParts.{framed_record, framed_receiver, framed_ends}
use Rattle.source_meaning.proofs.FramedParts.{framed_cell, framed_first, framed_seize, framed_sends}
use Rattle.source_meaning.proofs.FramedParts.{framed_returns}
use Rattle.source_meaning.proofs.Framed.{Framed, framed_pure, framed_then, looked, framed_if}
use Rattle.source_meaning.proofs.Framed.{framed_zero, framed_fits, framed_opens}

module _ (x : Exchange) where
  does_framed : (rest : List Item) (p : ℕ) (l : Layer) (c : Config) → Framed c.world (λ t. does x p l rest (with_store t c))
  does_framed rest p (stmt.Enter signal temps) c = framed_pure c.world (goes rest c) refl
  does_framed rest p (stmt.SetTemp temp e) c = framed_expr x e c (λ v d. goes rest (sets_temp temp v d))
      (λ loads v. framed_pure (looked loads c).world (goes rest (sets_temp temp v (looked loads c))) refl)
  does_framed rest p (stmt.SetVariable variable e) c =
      let width = variable_width x c.block variable in
      let cell = base_of x c.block + variable in
      framed_expr x e c (λ v d. where_fits v width d (λ d. goes rest (sets_cell cell v d)))
      (λ loads v. framed_fits v width (looked loads c) (λ d. goes rest (sets_cell cell v d))
      (framed_cell x cell v (looked loads c) (goes rest (sets_cell cell v (looked loads c))) refl))
  does_framed rest p (stmt.SetField file field pointer e) c =
      framed_expr x e c (λ v d. at_record (slice_get (files_of x) file) file (slice_index d.temps pointer) (goes rest d)
      (sets_field (slice_index d.temps pointer) field v))
      (λ loads v.
      let d = goes rest (looked loads c) in
      let number = slice_index c.temps pointer in
      framed_record x (slice_get (files_of x) file) file number d (sets_field number field v)
      (λ placed. framed_fits v (field_width placed field) d (sets_cell (field_cell placed number field) v)
      (framed_cell x (field_cell placed number field) v d (sets_cell (field_cell placed number field) v d) refl)))
  does_framed rest p (stmt.Goto label) c = framed_pure c.world (to_label x label c) refl
  does_framed rest p (stmt.IfGoto cond label) c =
      framed_cond x cond c (λ v d. at_zero v (goes rest d) (to_label x label d))
      (λ loads v. let d = looked loads c in
      framed_zero d.world v (λ t. goes rest (with_store t d)) (λ t. to_label x label (with_store t d))
      (framed_pure d.world (goes rest d) refl) (framed_pure d.world (to_label x label d) refl))
  does_framed rest p (stmt.If cond yes_part no_part) c =
      framed_cond x cond c (λ v d. at_zero v (goes (map Do no_part ++ rest) d) (goes (map Do yes_part ++ rest) d))
      (λ loads v. let d = looked loads c in
      framed_zero d.world v (λ t. goes (map Do no_part ++ rest) (with_store t d))
      (λ t. goes (map Do yes_part ++ rest) (with_store t d))
      (framed_pure d.world (goes (map Do no_part ++ rest) d) refl)
      (framed_pure d.world (goes (map Do yes_part ++ rest) d) refl))
  does_framed rest p (stmt.Case e whens otherwise) c =
      framed_expr x e c (λ v d. goes (map Do (chosen whens v otherwise) ++ rest) d)
      (λ loads v. framed_pure (looked loads c).world
      (goes (map Do (chosen whens v otherwise) ++ rest) (looked loads c)) refl)
  does_framed rest p (stmt.On temp from upto body) c =
      let last = λ (a b : ℕ) (d : Config). goes (Turns p temp a b body ∷ rest) d in
      framed_expr x from c (λ a d. on_value (expr_value upto (sight x d)) d (last a))
      (λ loads a. framed_expr x upto (looked loads c) (last a)
      (λ more b. framed_pure (looked more (looked loads c)).world (last a b (looked more (looked loads c))) refl))
  does_framed rest p (stmt.ForFirst temp file field rel e label) c =
      framed_expr x e c (λ v d. for_first x (slice_get (files_of x) file) temp field rel v label rest d)
      (λ loads v. framed_first x (slice_get (files_of x) file) temp field rel v label rest (looked loads c))
  does_framed rest p (stmt.Send signal to values fresh) c =
      framed_receiver x signal to c (λ b d. on_values x values [] d (sends x (slice_get x.signals signal) signal b fresh rest))
      (λ d b. framed_values x values [] d (sends x (slice_get x.signals signal) signal b fresh rest)
      (λ e vs. framed_sends x (slice_get x.signals signal) signal b fresh rest vs e))
  does_framed rest p (stmt.Retrieve answer temps) c = framed_pure c.world (record c { todo = rest; temps = takes 0 temps c.own.answers c.temps }) refl
  does_framed rest p (stmt.Return answer values) c = framed_values x values [] c (λ vs d. returns d.callers answer vs d)
      (λ d vs. framed_returns x d.callers answer vs d)
  does_framed rest p (stmt.Transfer signal to) c =
      framed_receiver x signal to c (λ b d. activates x b signal (take (value_count x signal) d.own.given) d)
      (λ d b. framed_pure d.world (activates x b signal (take (value_count x signal) d.own.given) d) refl)
  does_framed rest p (stmt.Seize temp file label) c = framed_seize x (slice_get (files_of x) file) file temp label rest c
  does_framed rest p (stmt.Free temp file) c =
      let number = slice_index c.temps temp in
      framed_record x (slice_get (files_of x) file) file number (goes rest c) (frees file number)
      (λ placed. framed_opens placed number c.world (goes rest (record c { own = record c.own { chain = without c.own.chain file number } })))
  does_framed rest p stmt.Exit c = framed_ends x c.callers c
  does_framed rest p stmt.Finish c = framed_ends x c.callers c

  starts_framed : (rest : List Item) (l : Layer) (c : Config) → Framed c.world (λ t. starts l rest (with_store t c))
  starts_framed rest (stmt.Enter signal temps) c = framed_pure c.world (record c { todo = rest; temps = takes 0 temps c.own.given c.temps }) refl
  starts_framed rest (stmt.SetTemp temp e) c = framed_pure c.world (goes rest c) refl
  starts_framed rest l c = framed_pure c.world (goes rest c) refl

  count_framed : (p : ℕ) (c : Config) (go : Config → Config)
      → ((d : Config) → Framed d.world (λ t. go (with_store t d))) → Framed c.world (λ t. count p (with_store t c) go)
  count_framed p c go more =
      let d : Config = record c { own = counted p c.own } in
      framed_if c.world (nat_lt c.own.count budget) (λ t. go (with_store t d))
      (λ t. fails fault.Budget (with_store t d)) (more d) (framed_pure c.world (fails fault.Budget d) refl)

  first_framed : (items : List Item) (c : Config) → Framed c.world (λ t. does_first x items (with_store t c))
  first_framed [] c = framed_ends x c.callers c
  first_framed (Do s ∷ rest) c = count_framed s.point c (does x s.point (out-StmtKind s.kind) rest) (does_framed rest s.point (out-StmtKind s.kind))
  first_framed (Start s ∷ rest) c = count_framed s.point c (starts (out-StmtKind s.kind) rest) (starts_framed rest (out-StmtKind s.kind))
  first_framed (Turns p temp this end body ∷ rest) c =
      let go = λ (d : Config). goes (map Do body ++ (Turns p temp (this + 1) end body ∷ rest)) (sets_temp temp this d) in
      count_framed p c go (λ d. framed_pure d.world (go d) refl)

  pub step_framed : (c : Config) → Framed c.world (λ t. step x (with_store t c))
  unfolding step
  step_framed c = first_framed (next_counted c.todo) c

  pub steps_framed : (n : ℕ) (c : Config) → Framed c.world (λ t. after_steps n x (with_store t c))
  unfolding after_steps
  steps_framed zero c = framed_pure c.world c refl
  steps_framed (suc n) c = by c.over (framed_then c.world (λ t. step x (with_store t c)) (after_steps n x) (step_framed c) (steps_framed n (step x c)))
    where
      by : (over : Option Outcome) → Framed c.world (λ t. after_steps n x (step x (with_store t c)))
          → Framed c.world (λ t. unless_over over (with_store t c) (after_steps n x (step x (with_store t c))))
      by None more = more
      by (Some o) more = framed_pure c.world c refl

-- words that answer the trace of so many steps of a job give the same steps, and those of a whole
-- job the same job
pub begun_framed : (n : ℕ) (x : Exchange) (start : JobStart) (store words : List ℕ) → Answers words (after_steps n x (begins x start store)).world.trace
    → after_steps n x (begins x start words) ≡ over_words words (after_steps n x (begins x start store))
begun_framed n x start store words h =
    let c = after_steps n x (begins x start store) in
    let f = steps_framed x n (begins x start store) in
    f.same words (subst (Answers words) f.grows.trace h) ∙ ap (λ ts. with_store (stored words ts) c) (sym f.grows.trace)

pub job_framed : (x : Exchange) (start : JobStart) (store words : List ℕ) → Answers words (trace_of x start store)
    → job x start words ≡ over_words words (job x start store)
unfolding job
job_framed x start store words h = begun_framed (budget + 1) x start store words h
