use Rattle.std.proofs.Common.{ℕ, ◌<◌, length, ap, arith, sym, subst, ◌∙◌}
use Rattle.std.proofs.lemmas.List.{length-replicate}
use Rattle.fact_rows.proofs.Spreading.{zeros_blank}
use Rattle.fact_rows.proofs.planes.Planes.new.Goals as goal

pub returns-clause-none : goal.returns-clause-none
returns-clause-none c =
    zeros_blank (record { set_numbers = c.in_ok-set_numbers.set_numbers; sets = c.new.result; own = c.args.count; laid = c.in_ok-laid.laid }) c.args.count
    (subst (λ n. 0 < n) (sym c.new.ensures.width) c.requires.wide) (c.new.ensures.first ∙ sym c.new.ensures.width) c.in_ok-set_numbers.ensures
    (omega (arith, ap length c.in_ok-set_numbers.ensures, length-replicate {A = ℕ} c.args.count 0))
