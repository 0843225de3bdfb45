use Rattle.std.proofs.Common.{refl, arith}
use Rattle.plex_num.proofs.Widths.{below_wide}
use Rattle.plex_num.proofs.arithmetic.fits.Goals as goal

pub returns-then-width-ge32 : goal.returns-then-width-ge32
returns-then-width-ge32 c =
    (λ _. below_wide c.args.value c.args.width (omega arith) c.if-width-ge32.true, λ _. refl)
