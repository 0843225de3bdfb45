-- The orders in which values, accesses and levels are listed.
use Rattle.std.specs.Prelude.{ℕ}
use Rattle.std.specs.declared.cmp.Ordering.{Ordering}
use Rattle.std.specs.Ordering.{nat_cmp}
use Rattle.plex_num.specs.declared.level.Level.{Level}
use Rattle.plex_num.specs.declared.level.Level.TheVariants.{A, B, C, D}
use Rattle.flow_points.specs.declared.fact.Value.{Value}
use Rattle.entry_summary.specs.declared.summary.Access.{Access}
use Rattle.flow_points.specs.contracts.fact.ValueOrd.TheImpl as values
use Rattle.entry_summary.specs.contracts.summary.AccessOrd.TheImpl as accesses

-- those of values and accesses: the variants in their order, then their numbers
abbrev pub value_order : Value → Value → Ordering
value_order = values.ghosts.cmp

abbrev pub access_order : Access → Access → Ordering
access_order = accesses.ghosts.cmp

-- the levels from A on
abbrev pub level_number : Level → ℕ
level_number A = 0
level_number B = 1
level_number C = 2
level_number D = 3

abbrev pub level_order : Level → Level → Ordering
level_order l m = nat_cmp (level_number l) (level_number m)
