use Rattle.std.proofs.Common.{Contains}
use Rattle.flow_points.proofs.Least.{point_alike}
use Rattle.flow_points.proofs.laws.flows_look_at_their_point.Goals as goal

pub returns : goal.returns
returns c = λ x facts others p f knows reaches is. point_alike x (Contains facts) (Contains others) p f knows reaches is
