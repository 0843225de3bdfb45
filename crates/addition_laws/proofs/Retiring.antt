-- The retirement of a job of a forlopp stores to no added word: what it opens are records of
-- forlopp files.
use Rattle.std.proofs.Common.{List, [], ◌∷◌, sym, subst}
use Rattle.std.proofs.lemmas.Option.{slice_get_within}
use Rattle.std.specs.List.{AllByRecursion}
use Rattle.std.specs.Option.{option_map_or}
use Rattle.job_types.specs.declared.chain.Held.{Held}
use Rattle.job_types.specs.declared.outcome.JobDone.{JobDone}
use Rattle.job_types.specs.declared.outcome.Outcome.{Outcome}
use Rattle.job_types.specs.declared.outcome.Outcome.TheVariants.{Ended, Faulted}
use Rattle.job_types.specs.declared.touch.Touch.{Touch}
use Rattle.job_types.specs.Own.{World, untouched}
use Rattle.exchange_model.specs.declared.exchange.Exchange.{Exchange}
use Rattle.exchange_model.specs.Cells.{Placed}
use Rattle.source_meaning.specs.Changes.{opens_record}
use Rattle.source_meaning.specs.Config.{files_of}
use Rattle.source_meaning.specs.Retirement.{all_opened, opened}
use Rattle.source_meaning.specs.Valid.{IsRecord}
use Rattle.source_meaning.proofs.Touching.{record_all}
use Rattle.pair_laws.specs.Orders.{ended_touches, retirement_touches}
use Rattle.additions_meaning.specs.Additions.{Targets}
use Rattle.addition_laws.proofs.Outside.{AllPlain, Outs, mark_out, own_out}

module _ (x : Exchange) (d : Targets) (plain : AllPlain x d.fields) where
  abbrev OutsSo : Touch → Type 0
  OutsSo = Outs x d

  one_out : (r : Held) (world : World) → IsRecord x r → AllByRecursion OutsSo world.trace → AllByRecursion OutsSo (opened (files_of x) r world).trace
  one_out r world i all =
      subst (λ o. AllByRecursion OutsSo (option_map_or (λ (p : Placed). opens_record p r.number world) o world).trace) (sym i.here.there)
      (record_all OutsSo i.placed r.number world
      (λ field e at. own_out x d plain r.file r.number field i.placed i.here.there i.here.within (slice_get_within i.placed.file.fields field e at) i.kind)
      (mark_out x d r.file r.number i.placed i.here.there i.here.within i.kind) all)

  each_out : (held : List Held) (world : World) → AllByRecursion (IsRecord x) held → AllByRecursion OutsSo world.trace
      → AllByRecursion OutsSo (all_opened (files_of x) held world).trace
  each_out [] world records all = all
  each_out (r ∷ rest) world records all = each_out rest (opened (files_of x) r world) records.1 (one_out r world records.0 all)

  ended_out : (o : Outcome) (held : List Held) → AllByRecursion (IsRecord x) held → AllByRecursion OutsSo (ended_touches x o held)
  ended_out Ended held records = tt
  ended_out (Faulted f point) held records = each_out held (untouched []) records tt

  pub retirement_out : (done : JobDone) → AllByRecursion (IsRecord x) done.chain → AllByRecursion OutsSo (retirement_touches x done)
  retirement_out done records = ended_out done.outcome done.chain records
