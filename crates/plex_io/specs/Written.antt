-- What a sink holds after a write.
use Rattle.std.specs.Prelude.{◌≡◌, ℕ, ◌<◌, ◌≤◌, List, ◌++◌, Option, Some, None, length, take}

-- the bytes told, with these after them
abbrev pub appended : Option (List ℕ) → List ℕ → Option (List ℕ)
appended None bytes = None
appended (Some held) bytes = Some (held ++ bytes)

-- how many bytes a write takes of so many: some, where there are some
pub record TakesSome (given taken : ℕ) : Type 0 where
  pub most : taken ≤ given
  pub some : 0 < given → 0 < taken

-- a sink that tells its size and its bytes has no room left
abbrev pub IsFull : Option ℕ → Option (List ℕ) → Type 0
IsFull None held = Unit {0}
IsFull (Some size) None = Unit {0}
IsFull (Some size) (Some held) = size ≤ length held

-- a proper prefix of the text was appended
pub record WroteLess (old new : Option (List ℕ)) (text : List ℕ) : Type 0 where
  pub count : ℕ
  pub less : count < length text
  pub bytes : new ≡ appended old (take count text)

-- no size is told
abbrev pub no_size : Option ℕ
no_size = None
