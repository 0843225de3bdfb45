-- Where a list of tokens that is no sentence goes wrong.
use Rattle.std.specs.Prelude.{ℕ, ◌+◌, ◌<◌, List, ◌++◌, length, take}
use Rattle.plex_lexer.specs.declared.token.Token.{Token}
use Rattle.token_grammar.specs.Language.{Lang}

-- some sentence begins so
abbrev pub Begun : {X : Type 0} → (X → Lang) → Lang
Begun {X} L p = (x : X) × (v : List Token) × L x (p ++ v)

-- spelled within some limits
abbrev pub Within : {X : Type 0} → (ℕ → ℕ → X → Lang) → X → Lang
Within {X} L x u = (b : ℕ) × (s : ℕ) × L b s x u

-- the token at i is the first after the longest front that begins some sentence
pub record First {X : Type 0} (L : X → Lang) (tokens : List Token) (i : ℕ) : Type 0 where
  pub inside : i < length tokens
  pub front : Begun L (take i tokens)
  pub past : Begun L (take (i + 1) tokens) → ⊥

-- .. and no limits would allow it
pub record IsUnexpected {X : Type 0} (L : ℕ → ℕ → X → Lang) (b s : ℕ) (tokens : List Token)
    (i : ℕ) : Type 0 where
  pub first : First (L b s) tokens i
  pub never : Begun (Within L) (take (i + 1) tokens) → ⊥

-- .. and it would be allowed without the limits
pub record IsTooDeep {X : Type 0} (L : ℕ → ℕ → X → Lang) (b s : ℕ) (tokens : List Token)
    (i : ℕ) : Type 0 where
  pub first : First (L b s) tokens i
  pub allowed : Begun (Within L) (take (i + 1) tokens)

-- all of it begins some sentence, and it is none
pub record IsEnded {X : Type 0} (L : ℕ → ℕ → X → Lang) (b s : ℕ) (tokens : List Token) : Type
    0 where
  pub front : Begun (L b s) tokens
  pub none : (x : X) → L b s x tokens → ⊥
