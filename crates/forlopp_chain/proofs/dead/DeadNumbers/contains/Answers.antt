use Rattle.std.proofs.Common.{◌||◌, ap, sym, ◌∙◌}
use Rattle.std.specs.Ordering.{nat_cmp}
use Rattle.std.specs.HashSet.{keys}
use Rattle.std.specs.FinSet as set
use Rattle.job_types.specs.Forlopps.{is_dead}
use Rattle.forlopp_chain.specs.Kept.{Dying}
use Rattle.forlopp_chain.proofs.Maps.{contains-from_table}
use Rattle.forlopp_chain.proofs.dead.DeadNumbers.contains.Goals as goal

pub returns-else-is_below : goal.returns-else-is_below
returns-else-is_below c =
    c.contains.ensures ∙ sym (contains-from_table (keys c.self.inside.others) c.args.number)
    ∙ ap (λ b. b || set.contains {R = nat_cmp} (set.from_list (keys c.self.inside.others)) c.args.number) (sym c.if-is_below.false ∙ c.is_below.ensures)
    ∙ ap (λ (v : Dying). is_dead v.dead c.args.number) c.self.view_is
