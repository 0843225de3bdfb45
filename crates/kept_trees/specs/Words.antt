-- Tokens that a text may have.
use Rattle.std.specs.Prelude.{◌^◌, ◌<◌, List, [], ◌∷◌}
use Rattle.plex_lexer.specs.declared.token.Token.{Token}
use Rattle.plex_lexer.specs.declared.token.TokenKind.{TokenKind}
use Rattle.plex_lexer.specs.declared.token.TokenKind.TheVariants as kinds
use Rattle.kept_trees.specs.Keeps.{IsName}

-- a word that a text may have
abbrev pub IsTextWord : TokenKind → Type 0
IsTextWord (kinds.Name name) = IsName name
IsTextWord (kinds.Number value) = value < 2 ^ 32
IsTextWord (kinds.Keyword keyword) = Unit {0}
IsTextWord (kinds.Mark mark) = Unit {0}

-- words that a text may have
abbrev pub AreWords : List Token → Type 0
AreWords [] = Unit {0}
AreWords (token ∷ tokens) = IsTextWord token.kind × AreWords tokens
