-- Closed facts cover a job as it begins.
use Rattle.std.proofs.Common.{◌≡◌, inl, ℕ, Bool, true, false, List, [], length, Option, Some, None}
use Rattle.std.proofs.Common.{refl, sym, ap, ◌∙◌, subst, slice_get, arith}
use Rattle.std.proofs.lemmas.Bool.{ltb-false}
use Rattle.std.proofs.lemmas.Option.{same_Some}
use Rattle.std.specs.Prelude.{nat_lt, slice_index, if◌then◌else◌}
use Rattle.std.specs.Option.{option_map_or}
use Rattle.plex_num.proofs.Lists.{some_at}
use Rattle.job_types.specs.Own.{eight}
use Rattle.job_types.specs.declared.job.JobStart.{JobStart}
use Rattle.exchange_model.specs.declared.exchange.Exchange.{Exchange}
use Rattle.exchange_model.specs.declared.entry.Entry.{Entry}
use Rattle.exchange_model.specs.Kept.{IsExchange, signal_count}
use Rattle.source_meaning.specs.Config.{blank, from_signal}
use Rattle.source_meaning.specs.Changes.{value_count}
use Rattle.source_meaning.specs.Job.{begins, place_of, todo_of}
use Rattle.source_meaning.specs.Rests.{BeginsAs, IsRetrieveOf, head_point}
use Rattle.source_meaning.specs.Valid.{IsJob}
use Rattle.source_meaning.proofs.Activating.{entry_begins}
use Rattle.flow_points.specs.declared.fact.Slot.{Slot}
use Rattle.flow_points.specs.declared.fact.Slot.TheVariants.{Temp, Given, Depth, Awaits}
use Rattle.flow_points.specs.declared.fact.Value.{Value}
use Rattle.flow_points.specs.declared.fact.Value.TheVariants.{Arg, Const}
use Rattle.flow_points.specs.declared.flow.Source.TheVariants.{Is}
use Rattle.flow_points.specs.Slots.{HasSlot}
use Rattle.flow_points.specs.Sources.{start_source}
use Rattle.flow_points.specs.Facts.{Facts, fact, Known, SourceGives, IsClosed}
use Rattle.fact_laws.specs.Covers.{Activation, KnownBefore, Covered}
use Rattle.fact_laws.proofs.Lists.{index_blank, index_eight, index_past}
use Rattle.fact_laws.proofs.Carrying.{Gets, Target, has_slot, temp_slot, given_slot}
use Rattle.fact_laws.proofs.Rows.{enter_fits}
use Rattle.fact_laws.proofs.Standing.{row_target}

module _ (x : Exchange) (kept : IsExchange x) (P : Facts) (closed : IsClosed x P) (n : ℕ) (entry : Entry)
    (there : slice_get x.entries n ≡ Some entry) (values : List ℕ)
    (count : length values ≡ value_count x entry.signal) where
  as_begun : BeginsAs x entry
  as_begun = entry_begins x kept n entry there

  entry_target : Target x entry.block entry.point
  entry_target = subst (Target x entry.block) as_begun.point (row_target as_begun.begins.row)

  start_gives : (s : Slot) (v : Value) → HasSlot x entry.point s
      → SourceGives P n entry.point (start_source (value_count x entry.signal) s) v → Known P n entry.point s v
  start_gives s v slot g = closed (fact n entry.point s v) (inl (record { entry = entry; there = there; lands = refl; slot = slot; gives = g }))

  -- an entry value is one that the job started with, or 0
  given_gets : (k : ℕ) (b : Bool) → nat_lt k (value_count x entry.signal) ≡ b
      → Gets P n values entry.point (if b then Is (Arg k) else Is (Const 0)) (slice_index (eight values) k)
  given_gets k true is = (Arg k, refl, index_eight values k)
  given_gets k false is = (
    Const 0,
    refl,
    index_eight values k
        ∙ index_past values k (let le = ltb-false k (value_count x entry.signal) is in omega (arith, le, count)),
  )

  pub entry_known : Activation x P n values entry.block entry.point blank (eight values) []
  entry_known = record {
    temp = λ t l. (Const 0, start_gives (Temp t) (Const 0) (temp_slot x P closed n values entry.block entry.point t entry_target l) refl, index_blank t);
    gave = λ k l. (let g = given_gets k (nat_lt k (value_count x entry.signal)) refl in (
      g.0,
      start_gives (Given k) g.0 (given_slot x P closed n values entry.block entry.point k entry_target l) g.1,
      g.2,
    ));
    past = λ k le.
        (let few = enter_fits x kept entry.block entry.signal as_begun.begins.stmt as_begun.begins.rest None as_begun.begins.row as_begun.begins.enters in
        index_eight values k ∙ index_past values k (omega (arith, le, few, count)));
    depth = start_gives Depth (Const 0) (has_slot x P closed n values entry.block entry.point Depth entry_target tt) refl;
    awaits = start_gives Awaits (Const 0) (has_slot x P closed n values entry.block entry.point Awaits entry_target tt) refl;
  }

  signal_known : KnownBefore x P n values entry.block (from_signal x entry.block entry.signal) blank (eight values) []
  signal_known p is =
      let head : Some as_begun.begins.stmt.point ≡ Some p = sym (ap head_point as_begun.begins.is) ∙ is in
      subst (λ q. Activation x P n values entry.block q blank (eight values) []) (sym as_begun.point ∙ same_Some as_begun.begins.stmt.point p head) entry_known

  no_retrieve : (m : ℕ) → IsRetrieveOf m (from_signal x entry.block entry.signal) → ⊥
  no_retrieve m is = subst (IsRetrieveOf m) as_begun.begins.is is

  pub found_covered : (found : Option Entry) → found ≡ Some entry → KnownBefore x P n values (place_of found) (todo_of x found) blank (eight values) []
  found_covered found is = subst (λ o. KnownBefore x P n values (place_of o) (todo_of x o) blank (eight values) []) (sym is) signal_known

  pub found_plain : (found : Option Entry) → found ≡ Some entry → (m : ℕ) → IsRetrieveOf m (todo_of x found) → ⊥
  found_plain found is m h = no_retrieve m (subst (λ o. IsRetrieveOf m (todo_of x o)) is h)

pub start_covered : (x : Exchange) → IsExchange x → (P : Facts) → IsClosed x P → (start : JobStart) (store : List ℕ)
    → IsJob x start.job → Covered x P start.job.entry start.job.values (begins x start store)
start_covered x kept P closed start store job =
    let e = some_at x.entries start.job.entry job.entry in
    let count : length start.job.values ≡ value_count x e.0.signal = job.values
    ∙ ap (λ o. option_map_or (λ (e : Entry). option_map_or signal_count (slice_get x.signals e.signal) 0) o 0) e.1
    in
    record {
      here = found_covered x kept P closed start.job.entry e.0 e.1 start.job.values count (slice_get x.entries start.job.entry) e.1;
      answers = λ m p k is at lt. absurd (found_plain x kept P closed start.job.entry e.0 e.1 start.job.values count
          (slice_get x.entries start.job.entry) e.1 m is);
      waiting = tt;
    }
