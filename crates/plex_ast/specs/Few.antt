-- A list that mostly is empty: where nothing stands for it, it has no items.
use Rattle.std.specs.Prelude.{List, [], Option, Some, None}

abbrev pub items_of : {T : Type 0} → Option (List T) → List T
items_of None = []
items_of (Some items) = items
