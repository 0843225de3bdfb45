-- What a text of a tree is.
use Rattle.std.specs.Prelude.{◌≡◌, ℕ, false, List, Ok}
use Rattle.plex_limits.specs.declared.limits.TheConstants.{MOST_BRACKETS, MOST_NESTED}
use Rattle.plex_lexer.specs.declared.token.Token.{Token}
use Rattle.plex_lexer.specs.Lexed.{tokens_of}
use Rattle.plex_ast.specs.declared.tree.Tree.{Tree}
use Rattle.plex_ast.specs.Grammar.{tree}

-- the tokens of the text spell the tree, lines aside, within the limits of nesting
abbrev pub Spells : List ℕ → Tree → Type 0
Spells text t = (tokens : List Token) × (tokens_of text ≡ Ok tokens)
    × tree false MOST_BRACKETS MOST_NESTED t tokens
