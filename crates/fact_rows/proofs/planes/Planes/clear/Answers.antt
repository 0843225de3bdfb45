use Rattle.std.proofs.Common.{ℕ, length, ap, arith}
use Rattle.std.proofs.lemmas.List.{length-replicate}
use Rattle.fact_rows.proofs.Spreading.{anew_blank}
use Rattle.fact_rows.proofs.planes.Planes.clear.Goals as goal

pub returns-clause-none : goal.returns-clause-none
returns-clause-none c =
    anew_blank c.args.self.now (record { set_numbers = c.clear.new.self; sets = c.restart.new.self; own = c.len-self.result; laid = c.args.self.now.laid })
    c.pass.new.self c.pass.result (length c.args.self.now.set_numbers) c.requires c.pass.ensures c.restart.ensures.width c.restart.ensures.first c.clear.ensures
    (omega (arith, c.len-self.ensures, ap length c.clear.ensures, length-replicate {A = ℕ} (length c.args.self.now.set_numbers) 0))
