-- How many events of each kind a summary tells, as they are counted.
use Rattle.std.specs.Prelude.{◌≡◌, ◌+◌, cond}
use Rattle.source_meaning.specs.State.{RunEvent}
use Rattle.report_text.specs.Load.{is_lost, is_out, is_release}
use Rattle.report_text.specs.declared.load.Tally.{Tally}

-- the second tally has this event more than the first one
pub record IsTallied (e : RunEvent) (old new : Tally) : Type 0 where
  pub outs : new.outs ≡ old.outs + cond (is_out e) 1 0
  pub releases : new.releases ≡ old.releases + cond (is_release e) 1 0
  pub lost : new.lost ≡ old.lost + cond (is_lost e) 1 0
