use Rattle.std.proofs.Common.{◌≡◌, true, ◌↔◌, [], ◌∙◌, subst, sym, refl}
use Rattle.std.specs.Prelude.{IsTrue}
use Rattle.fact_rows.proofs.Laying.{held_at, holds_slot, no_numbers}
use Rattle.fact_rows.proofs.grid.Grid.is_empty.Goals as goal

pub is_blank-requires : goal.is_blank-requires
is_blank-requires c = holds_slot c.args.self.now.slots c.args.point c.args.slot c.spot_of.result c.in-Some.spot c.spot_of.ensures c.in-Some.is

pub returns-in-Some : goal.returns-in-Some
returns-in-Some c = subst (λ l. IsTrue c.is_blank.result ↔ (l ≡ []))
    (held_at c.args.self.now c.args.point c.args.slot c.spot_of.result c.in-Some.spot c.spot_of.ensures c.in-Some.is)
    c.is_blank.ensures

pub returns-in-None : goal.returns-in-None
returns-in-None c = subst (λ l. IsTrue true ↔ (l ≡ []))
    (no_numbers c.args.self.now c.args.point c.args.slot (sym c.spot_of.ensures ∙ c.in-None.is)) (λ t. refl, λ e. refl)
