use Rattle.std.proofs.Common.{◌&&◌, refl}
use Rattle.certificate_faults.proofs.Firsts.{tests_told}
use Rattle.certificate_faults.proofs.strange.is_of_exchange.Goals as goal

pub returns : goal.returns
returns c = tests_told c.args.exchange.now c.args.fact c.has_entry.result c.has_slot.result c.is_value_of.result
    (c.has_entry.result && c.has_slot.result && c.is_value_of.result) c.has_entry.ensures c.has_slot.ensures
    c.is_value_of.ensures refl
