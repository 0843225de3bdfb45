-- The points of a list, wherever they stand.
use Rattle.std.specs.Prelude.{List, [], ℕ}
use Rattle.flow_table.specs.declared.points.Place.{Place}
use Rattle.flow_table.specs.declared.points.Place.TheVariants as places

abbrev pub points_at : Place → List ℕ
points_at places.Nowhere = []
points_at (places.Here points) = points
points_at (places.Away points) = points.value
