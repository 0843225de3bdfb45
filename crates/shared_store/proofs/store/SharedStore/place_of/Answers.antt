use Rattle.std.proofs.Common.{◌+◌, ◌*◌, ap, ◌∙◌}
use Rattle.shared_store.specs.Places.{place}
use Rattle.shared_store.proofs.Places.{place_is}
use Rattle.shared_store.proofs.store.SharedStore.place_of.Goals as goal

pub returns : goal.returns
returns c = ap (λ s. (c.args.word + 1) * s) c.self.invariant.apart
    ∙ (place_is c.self.inside.table.shared.table_id.slots c.args.word
    ∙ ap (λ z. place z.slots c.args.word) c.self.view_is)
