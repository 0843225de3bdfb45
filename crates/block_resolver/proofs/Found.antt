-- A signal that the table finds or does not find.
use Rattle.std.proofs.Common.{◌≡◌, ℕ, Bool, false, List, Some, None, sym, ◌∙◌, ap}
use Rattle.exchange_model.specs.declared.signal.SignalKind.{SignalKind}
use Rattle.signal_types.specs.Found.{kind_in}
use Rattle.text_rules.specs.Links.{is_outside}

pub outside_none : (kinds : List SignalKind) (n : List ℕ) → kind_in kinds n ≡ None → false ≡ is_outside (kind_in kinds n)
outside_none kinds n is = sym (ap is_outside is)

pub outside_some : (kinds : List SignalKind) (n : List ℕ) (k : SignalKind) (b : Bool) → b ≡ is_outside (Some k)
    → kind_in kinds n ≡ Some k → b ≡ is_outside (kind_in kinds n)
outside_some kinds n k b of is = of ∙ sym (ap is_outside is)
