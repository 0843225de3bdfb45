-- How many statements send or transfer to a held reference, as far as they are counted.
use Rattle.std.specs.Prelude.{◌≡◌, ℕ, ◌≤◌, List, ◌∷◌, Option}
use Rattle.plex_limits.specs.declared.limits.TheConstants.{MOST_STATEMENTS}
use Rattle.source_meaning.specs.Named.{Layer}
use Rattle.flow_points.specs.Places.{Place}
use Rattle.flow_table.specs.Texts.{Inside}
use Rattle.certificate_meaning.specs.Shapes.{referring}

-- so many refer of some places that are these, unless it is more than an exchange has statements
pub record Counts (Are : List Place → Type 0) (n : ℕ) : Type 0 where
  pub places : List Place
  pub are : Are places
  pub so : referring places ≤ MOST_STATEMENTS → n ≡ referring places

-- the places of a statement and of those in it
abbrev pub WithThose : ℕ → ℕ → Option ℕ → Layer → List Place → Type 0
WithThose b p next l places =
    (inner : List Place) × Inside b p next l inner
    × (places ≡ record { block = b; point = p; layer = l; next = next } ∷ inner)
