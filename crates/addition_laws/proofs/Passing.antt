-- What two jobs that pass but for additions have in common with two that pass: by their summaries
-- without the accesses to what both only add to they share no word.
use Rattle.std.proofs.Common.{◌≡◌, ℕ, List, [], ◌∷◌, refl, sym, ◌∙◌, subst}
use Rattle.std.specs.List.{Contains}
use Rattle.plex_num.specs.declared.level.Level.{Level}
use Rattle.plex_num.proofs.Members.{none_in}
use Rattle.job_types.specs.declared.job.JobStart.{JobStart}
use Rattle.job_types.specs.declared.outbox.Sent.{Sent}
use Rattle.job_types.specs.declared.outbox.SendTo.{SendTo}
use Rattle.job_types.specs.declared.outbox.SendTo.TheVariants.{Queue, Outside}
use Rattle.exchange_model.specs.declared.exchange.Exchange.{Exchange}
use Rattle.exchange_model.specs.Kept.{IsExchange}
use Rattle.source_meaning.specs.Job.{job}
use Rattle.source_meaning.specs.State.{State}
use Rattle.source_meaning.specs.Valid.{IsFitting, IsJob, IsValid}
use Rattle.flow_points.specs.declared.fact.Fact.{Fact}
use Rattle.flow_points.specs.Facts.{Facts, IsClosed}
use Rattle.entry_summary.specs.declared.summary.Access.{Access}
use Rattle.entry_summary.specs.declared.summary.Access.TheVariants.{Variable, Field, Own, Seizes}
use Rattle.entry_summary.specs.declared.summary.Access.TheVariants.{Frees}
use Rattle.entry_summary.specs.declared.summary.Summary.{Summary}
use Rattle.entry_summary.specs.Summaries.{IsSummary}
use Rattle.pair_tests.specs.Pairs.{Passes}
use Rattle.permit_laws.specs.Permitted.{AreToLevels, IsToLevel}
use Rattle.permit_laws.proofs.Stepping.{job_stays}
use Rattle.order_laws.specs.Ends.{LetsStay}
use Rattle.order_laws.specs.Windows.{MakesWay, done_by}
use Rattle.pair_laws.specs.Together.{HaveOwnWords}
use Rattle.pair_laws.proofs.Beside.{AreBeside, writes_apart, reads_apart}
use Rattle.pair_laws.proofs.Cells.{AllFit}
use Rattle.pair_laws.proofs.Keeping.{lets_stay_so, may_fault}
use Rattle.pair_laws.proofs.Naming.{access_fits}
use Rattle.additions_meaning.specs.Additions.{IsAddedWord, OnlyAddsToEach, Targets}
use Rattle.addition_laws.specs.Either.{SameInEitherOrder, ShareOnly}
use Rattle.addition_laws.specs.Sparing.{PassesAdding}
use Rattle.additions_meaning.specs.Sparing.{IsSpared, IsSparing}
use Rattle.addition_laws.specs.Together.{MayAddAtOnce}
use Rattle.addition_laws.proofs.Permitting.{permitted_order}
use Rattle.addition_laws.proofs.Sparing.{share_only}

spared_fit : (x : Exchange) (kept : IsExchange x) (P : Facts) (entry : ℕ) (d : Targets) (m n : Summary) → IsSummary x P entry m → IsSparing d m n → AllFit x n
spared_fit x kept P entry d m n told sparing a there = access_fits x kept P entry a ((told.accesses a).0 ((sparing.accesses a).0 there).0)

module _ (x : Exchange) (facts : List Fact) (s : State) (first later : Summary) (a b : JobStart) (h : MayAddAtOnce x facts s first later a b) where
  pub beside : AreBeside x s h.passes.one h.passes.other a b
  beside = record {
    state = h.state;
    first_fits = h.first_fits;
    later_fits = h.later_fits;
    first_fit = spared_fit x h.exchange (Contains facts) a.job.entry h.passes.shared first h.passes.one h.first_told h.passes.of_first;
    later_fit = spared_fit x h.exchange (Contains facts) b.job.entry h.passes.shared later h.passes.other h.later_told h.passes.of_later;
    passes = h.passes.passes;
  }

  own : HaveOwnWords x s h.passes.one h.passes.other a b
  own = record {
    first_writes = λ w p q. writes_apart x s h.passes.one h.passes.other a b beside w p q;
    later_writes = λ w p q. reads_apart x s h.passes.one h.passes.other a b beside w p q;
  }

  pub shares : ShareOnly x (IsAddedWord x h.passes.shared) s first later a b
  shares = share_only x h.passes.shared s first later h.passes.one h.passes.other a b h.passes.of_first h.passes.of_later own

  -- before they retire
  pub passing_order : IsClosed x (Contains facts) → SameInEitherOrder x s.store a b []
  passing_order closed =
      permitted_order x (Contains facts) s first later a b h.passes.shared h.exchange closed h.state h.first_fits
      h.later_fits h.first_told h.later_told h.passes.first_only h.passes.later_only shares

-- sends to the levels of a summary, where another one has the same levels

level_same : (m n : Summary) (to : SendTo) → n.levels ≡ m.levels → IsToLevel m to → IsToLevel n to
level_same m n (Queue entry level fresh) is at = subst (λ (ls : List Level). Contains ls level) (sym is) at
level_same m n (Outside signal) is at = tt

levels_same : (m n : Summary) (sends : List Sent) → n.levels ≡ m.levels → AreToLevels m sends → AreToLevels n sends
levels_same m n [] is all = tt
levels_same m n (s ∷ rest) is all = (level_same m n s.to is all.0, levels_same m n rest is all.1)

-- the first lets the later one keep its turn, wherever it begins
module _ (x : Exchange) (facts : List Fact) (kept : IsExchange x) (closed : IsClosed x (Contains facts))
    (first later : Summary) (a b : JobStart) (first_told : IsSummary x (Contains facts) a.job.entry first)
    (later_told : IsSummary x (Contains facts) b.job.entry later) (is_job : IsJob x b.job) (p : PassesAdding x (Contains facts) first later a b) where
  pub stays_adding : (s : State) → IsValid x s → IsFitting x s a → LetsStay a (done_by (job x a s.store)) b.job
  stays_adding s valid fits =
      lets_stay_so p.one p.other a b (p.of_later.level ∙ later_told.level ∙ sym is_job.level) p.passes (done_by (job x a s.store))
      (levels_same first p.one (job x a s.store).own.sends p.of_first.levels (job_stays x kept (Contains facts) closed first s valid a fits first_told).2)
      (λ faulted. p.of_first.fault ∙ may_fault x facts kept closed s valid first a fits first_told faulted)

  pub makes_way : MakesWay x a b
  makes_way = record { forlopps = p.passes.forlopps; stays = stays_adding }

-- no access is one to a variable or a field of none

abbrev none : Targets
none = record { variables = []; fields = [] }

none_spared : (a : Access) → IsSpared none a → ⊥
none_spared (Variable write number) at = none_in number at
none_spared (Field write number selector) at = none_in number at
none_spared (Own write number) at = at
none_spared (Seizes file) at = at
none_spared (Frees file) at = at

spares_none : (m : Summary) → IsSparing none m m
spares_none m = record { level = refl; accesses = λ a. ((λ there. (there, none_spared a)), (λ both. both.0)); levels = refl; fault = refl }

adds_to_none : (x : Exchange) (P : Facts) (entry : ℕ) → OnlyAddsToEach x P entry none
adds_to_none x P entry = record { variables = λ n at. absurd (none_in n at); fields = λ n at. absurd (none_in n at) }

-- whatever passes passes so
pub pass_so : (x : Exchange) (P : Facts) (first later : Summary) (a b : JobStart) → Passes first later a b → PassesAdding x P first later a b
pass_so x P first later a b passes = record {
  shared = none;
  first_only = adds_to_none x P a.job.entry;
  later_only = adds_to_none x P b.job.entry;
  one = first;
  other = later;
  of_first = spares_none first;
  of_later = spares_none later;
  passes = passes;
}
