use Rattle.std.proofs.Common.{◌≡◌, ◌++◌, drop, map}
use Rattle.exchange_model.specs.declared.entry.Entry.{Entry}
use Rattle.code_gen.specs.Addresses.{enter_in}
use Rattle.code_gen.proofs.passes.entries_of.Given as goal

abbrev pub invariant-loop-entry : goal.invariant-loop-entry
invariant-loop-entry l =
    l.list ++ map (λ (e : Entry). enter_in l.exchange l.addresses e.block e.signal) (drop l.entry-index l.entry-items)
    ≡ map (λ (e : Entry). enter_in l.exchange l.addresses e.block e.signal) l.exchange.entries
