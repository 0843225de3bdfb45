-- What the table of received signals knows.
use Rattle.std.specs.Prelude.{ℕ, Bool, ◌&&◌, List, Option, Some, None, nat_eq, if◌then◌else◌}
use Rattle.std.specs.Str.{bytes_eq}
use Rattle.std.specs.List.{list_any}
use Rattle.indexmap.specs.IndexMap.{get}
use Rattle.text_rules.specs.declared.surveys.Receiving.{Receiving}
use Rattle.text_rules.specs.declared.surveys.Received.{Received}

-- the block of this number receives the signal
abbrev pub has_pair : Received → ℕ → List ℕ → Bool
has_pair r b s = list_any (λ k. nat_eq b k.0 && bytes_eq s k.1) r.pairs.keys

abbrev pub count_of : Option Receiving → ℕ
count_of None = 0
count_of (Some x) = x.count

abbrev pub first_of : Option Receiving → Option ℕ
first_of None = None
first_of (Some x) = Some x.first

-- how many blocks receive it, and the first of them

abbrev pub counted_in : Received → List ℕ → ℕ
counted_in r s = count_of (get bytes_eq r.signals s)

abbrev pub first_in : Received → List ℕ → Option ℕ
first_in r s = first_of (get bytes_eq r.signals s)

-- a number where something is so
abbrev pub chosen : Bool → ℕ → Option ℕ
chosen test b = if test then Some b else None
