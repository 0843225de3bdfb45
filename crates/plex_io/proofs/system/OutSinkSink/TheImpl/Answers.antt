use Rattle.std.proofs.Common.{refl}
use Rattle.plex_io.proofs.Untold.{ok_holds, err_holds, raised_at_err}
use Rattle.plex_io.proofs.system.OutSinkSink.TheImpl.Goals as goal

pub write-tells : goal.write-tells
write-tells g c = record {
  count = c.ensures.count;
  ok = ok_holds c.result _ (λ _. refl);
  err = err_holds c.result _ refl;
  failed = raised_at_err c.result _ _ _ c.ensures.after;
  full = err_holds c.result _ tt;
  size = refl;
  later = c.ensures.later;
}
