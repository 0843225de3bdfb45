-- Two jobs by whose permits they share no words but those to which both only add.
use Rattle.std.proofs.Common.{List, [], sym, subst}
use Rattle.std.proofs.lemmas.List.{append-nil}
use Rattle.job_types.specs.declared.job.JobStart.{JobStart}
use Rattle.job_types.specs.declared.touch.Touch.{Touch}
use Rattle.job_types.specs.Touches.{NoStore}
use Rattle.exchange_model.specs.declared.exchange.Exchange.{Exchange}
use Rattle.exchange_model.specs.Kept.{IsExchange}
use Rattle.source_meaning.specs.State.{State}
use Rattle.source_meaning.specs.Traces.{trace_of}
use Rattle.source_meaning.specs.Valid.{IsFitting, IsValid}
use Rattle.source_meaning.proofs.Ranged.{job_in_range}
use Rattle.flow_points.specs.Facts.{Facts, IsClosed}
use Rattle.entry_summary.specs.declared.summary.Summary.{Summary}
use Rattle.entry_summary.specs.Summaries.{IsSummary}
use Rattle.permit_laws.specs.Permitted.{ArePermitted}
use Rattle.permit_laws.proofs.Stepping.{job_stays}
use Rattle.pair_laws.proofs.Touching.{not_stored, touched_read}
use Rattle.additions_meaning.specs.Additions.{OnlyAddsToEach, IsAddedWord, Targets}
use Rattle.addition_laws.specs.Either.{AreApartBut, SameInEitherOrder, ShareOnly}
use Rattle.addition_laws.proofs.Ordering.{either_order}

pub permitted_order : (x : Exchange) (P : Facts) (s : State) (first later : Summary) (a b : JobStart) (d : Targets)
    → IsExchange x → IsClosed x P → IsValid x s → IsFitting x s a → IsFitting x s b
    → IsSummary x P a.job.entry first → IsSummary x P b.job.entry later → OnlyAddsToEach x P a.job.entry d → OnlyAddsToEach x P b.job.entry d
    → ShareOnly x (IsAddedWord x d) s first later a b → SameInEitherOrder x s.store a b []
permitted_order x P s first later a b d kept closed valid first_fits later_fits first_told later_told first_only later_only share =
    either_order x kept P closed d s.store valid.store a b [] first_fits.job later_fits.job first_only later_only apart
  where
    ts : List Touch
    ts = trace_of x a s.store

    us : List Touch
    us = trace_of x b s.store

    firsts : ArePermitted x first a s.chains ts
    firsts = (job_stays x kept P closed first s valid a first_fits first_told).0

    laters : ArePermitted x later b s.chains us
    laters = (job_stays x kept P closed later s valid b later_fits later_told).0

    apart : AreApartBut x (IsAddedWord x d) s.store a b []
    apart = record {
      first = λ w not at. subst (NoStore w) (sym (append-nil ts))
          (not_stored x first a s.chains ts w firsts
          (λ writes. not (share.first_writes w writes (touched_read x later b s.chains us w laters at))));
      later = λ w not at. not_stored x later b s.chains us w laters
          (λ writes. not (share.later_writes w (touched_read x first a s.chains ts w firsts at) writes));
      outside = tt;
      fits = (job_in_range x kept a s.store first_fits.job valid.store).store;
    }
