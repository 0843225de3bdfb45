use Rattle.std.proofs.Common.{subst, sym}
use Rattle.fact_rows.specs.Known.{ArePointsOf, Knows}
use Rattle.certificate.proofs.certified_text.add_known.Goals as goal

pub add_points-requires : goal.add_points-requires
add_points-requires c = subst (ArePointsOf (Knows c.args.known.now)) (sym c.deref.ensures.value) c.in_ok-points.ensures
