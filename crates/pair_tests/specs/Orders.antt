-- The orders in which conflicts and tests are listed.
use Rattle.std.specs.Prelude.{◌≡◌, ◌⊎◌, ◌<◌}
use Rattle.std.specs.declared.cmp.Ordering.{Ordering}
use Rattle.std.specs.declared.cmp.Ordering.TheVariants.{Less}
use Rattle.flow_points.specs.declared.fact.Value.{Value}
use Rattle.entry_summary.specs.Orders.{level_number, value_order}
use Rattle.pair_tests.specs.declared.pair.Conflict.{Conflict}
use Rattle.pair_tests.specs.declared.pair.Conflict.TheVariants.{Variable, Field, Seizing, Above}
use Rattle.pair_tests.specs.declared.pair.Test.{Test}
use Rattle.pair_tests.specs.contracts.pair.TestOrd.TheImpl as tests

-- that of tests: the variants in their order, then their numbers
abbrev pub test_order : Test → Test → Ordering
test_order = tests.ghosts.cmp

-- the first selector comes before the other one, or the later ones tell
abbrev pub SelectorsPrecede : Value → Value → Value → Value → Type 0
SelectorsPrecede u v w z = (value_order u w ≡ Less) ⊎ ((u ≡ w) × (value_order v z ≡ Less))

-- one conflict comes before another: variables, fields, files, levels; variables, fields and files
-- by their numbers, a field by the first's selector and then by the later's; levels from A on
abbrev pub Precedes : Conflict → Conflict → Type 0
Precedes (Variable n) (Variable m) = n < m
Precedes (Variable n) _ = Unit {0}
Precedes (Field n u v) (Variable m) = ⊥
Precedes (Field n u v) (Field m w z) = (n < m) ⊎ ((n ≡ m) × SelectorsPrecede u v w z)
Precedes (Field n u v) _ = Unit {0}
Precedes (Seizing f) (Seizing g) = f < g
Precedes (Seizing f) (Above l) = Unit {0}
Precedes (Seizing f) _ = ⊥
Precedes (Above l) (Above m) = level_number l < level_number m
Precedes (Above l) _ = ⊥
