use Rattle.std.proofs.Common.{[]}
use Rattle.flow_table.specs.Texts.{seen}
use Rattle.flow_table.specs.declared.place.PlaceAt.{PlaceAt}
use Rattle.entry_accesses.specs.Adding.{HasAccess}
use Rattle.entry_accesses.proofs.Adding.{AddsGo}
use Rattle.entry_accesses.proofs.accesses.accesses_within.Given as goal

abbrev pub invariant-loop-at : goal.invariant-loop-at
invariant-loop-at g l = AddsGo (λ (at : PlaceAt). HasAccess l.exchange (g.K.KnownFacts.knows l.known) l.entry (seen at)) l.places l.at-index [] l.found.accesses
