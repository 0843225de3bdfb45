use Rattle.std.proofs.Common.{refl}
use Rattle.plex_io.proofs.Untold.{ok_holds, raised_rose}
use Rattle.plex_io.proofs.system.FileShelfShelf.TheImpl.Goals as goal

pub read_file-tells : goal.read_file-tells
read_file-tells g c = record {
  bytes = ok_holds c.result _ (λ _. tt);
  absent = c.ensures.absent;
  failed = λ failed. raised_rose _ _ (c.ensures.failed failed);
  kept = refl;
  later = c.ensures.later;
}
