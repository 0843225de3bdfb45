use Rattle.std.proofs.Common.{map, refl}
use Rattle.exchange_model.specs.declared.entry.Entry.{Entry}
use Rattle.code_gen.specs.declared.setting.Setting.{Setting}
use Rattle.code_gen.specs.Addresses.{enter_in}
use Rattle.code_gen.proofs.PassSteps.{entries_at}
use Rattle.code_gen.proofs.passes.entries_of.Goals as goal

pub loop-entry-preserved : goal.loop-entry-preserved
loop-entry-preserved c =
    let at : Setting = record { exchange = c.args.exchange; layout = c.args.layout; addresses = c.args.addresses; block = 0 } in
    entries_at c.args.exchange.now c.args.addresses.now at c.entries-entry-items.result.now c.loop-entry.entry-index
    c.in_ok-enter.field-0 _ c.loop-entry.list c.push.new.self
    (map (λ (e : Entry). enter_in c.args.exchange.now c.args.addresses.now e.block e.signal)
    c.args.exchange.now.entries) c.loop-entry-test.true refl refl c.in_ok-enter.ensures c.in_ok-push.ensures
    c.loop-entry.invariant
