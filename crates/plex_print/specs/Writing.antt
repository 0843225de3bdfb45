-- Writing to the end of a text, and how writers are put together.
use Rattle.std.specs.Prelude.{ℕ, Bool, true, false, List, [], ◌∷◌, ◌++◌, Option, Some, None}

-- what becomes of a text
abbrev pub Writer : Type 0
Writer = List ℕ → List ℕ

-- a word, and a blank that parts it from the next
unfoldable pub say : List ℕ → Writer
say bytes text = text ++ (bytes ++ (32 ∷ []))

-- a semicolon, and an LF
unfoldable pub semi : Writer
semi text = text ++ (59 ∷ 10 ∷ [])

-- nothing
abbrev pub leave : Writer
leave text = text

-- one after the other
infixr 20 ◌▷◌
abbrev pub ◌▷◌ : Writer → Writer → Writer
(f ▷ g) text = g (f text)

-- the things one after the other
abbrev pub each_of : {X : Type 0} → (X → Writer) → List X → Writer
each_of f [] text = text
each_of f (x ∷ xs) text = each_of f xs (f x text)

-- one, or nothing
abbrev pub maybe_of : {X : Type 0} → (X → Writer) → Option X → Writer
maybe_of f None text = text
maybe_of f (Some x) text = f x text

-- this, or nothing
abbrev pub flag_of : Writer → Bool → Writer
flag_of f true text = f text
flag_of f false text = text
