-- Bytes, cut at the first that is a certain one.
use Rattle.std.specs.Prelude.{◌≡◌, ℕ, true, not, nat_eq, List, [], ◌∷◌, ◌++◌}
use Rattle.std.specs.List.{list_all}

-- the byte does not stand in these
unfoldable pub HasNo : ℕ → List ℕ → Type 0
HasNo end bytes = list_all (λ b. not (nat_eq b end)) bytes ≡ true

-- these are no bytes, or begin with this one
abbrev pub StartsWith : ℕ → List ℕ → Type 0
StartsWith end [] = Unit {0}
StartsWith end (b ∷ rest) = b ≡ end

-- the word goes up to the first such byte, and rest follows that
pub record IsCut (end : ℕ) (text word rest : List ℕ) : Type 0 where
  pub apart : HasNo end word
  pub so : text ≡ word ++ end ∷ rest
