use Rattle.std.proofs.Common.{arith}
use Rattle.fact_rows.proofs.Numbering.{zero_exact}
use Rattle.fact_rows.proofs.bits.are_zero.Goals as goal

pub returns : goal.returns
returns c = zero_exact c.args.words.now c.all_zero.result (λ k. omega (arith, c.type_inv.words k)) c.all_zero.ensures
