-- The bytes of a name, wherever they stand.
use Rattle.std.specs.Prelude.{List, ℕ}
use Rattle.token_grammar.specs.declared.kept_name.Place.{Place}
use Rattle.token_grammar.specs.declared.kept_name.Place.TheVariants as places

abbrev pub bytes_at : Place → List ℕ
bytes_at (places.Here name) = name
bytes_at (places.Away name) = name.value
