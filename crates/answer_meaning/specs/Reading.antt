-- The syntax tree of an exchange text, or the first fault: its size, then its tokens, then its
-- grammar.
use Rattle.std.specs.Prelude.{◌≡◌, ℕ, ◌≤◌, ◌+◌, List, slice_get, Option, Some, None, Result, Ok}
use Rattle.std.specs.Prelude.{Err}
use Rattle.plex_num.specs.declared.seq.Memory.{Memory}
use Rattle.plex_lexer.specs.Lexed.{tokens_of}
use Rattle.plex_lexer.specs.Cursors.{lines}
use Rattle.plex_lexer.specs.Lines.{feeds}
use Rattle.plex_lexer.specs.declared.token.Token.{Token}
use Rattle.plex_lexer.specs.declared.fault.LexFault.{LexFault}
use Rattle.plex_lexer.specs.declared.fault.LexFault.TheVariants as lexing
use Rattle.plex_ast.specs.declared.tree.Tree.{Tree}
use Rattle.plex_parser.specs.Parses.{parsed}
use Rattle.plex_parser.specs.declared.parser.ParseFault.{ParseFault}
use Rattle.plex_parser.specs.declared.parser.ParseFault.TheVariants as parsing
use Rattle.plex_limits.specs.declared.limits.TheConstants.{MOST_WHENS}
use Rattle.kept_trees.specs.Keeps.{IsKept}
use Rattle.text_rules.specs.declared.rule.Rule.{Rule as TextRule}
use Rattle.text_rules.specs.declared.rule.Rule.TheVariants.{Signals, Blocks, Links}
use Rattle.text_rules.specs.Signals as signals
use Rattle.text_rules.specs.Blocks as blocks
use Rattle.resolved_block.specs.Texts.{choices_in, exchange_of_tree}
use Rattle.text_soundness.specs.declared.fault.TextFault.{TextFault}
use Rattle.text_soundness.specs.declared.fault.TextFault.TheVariants as resolving
use Rattle.text_soundness.specs.Resolved.{resolved}
use Rattle.exchange_model.specs.declared.exchange.Exchange.{Exchange}
use Rattle.answer_meaning.specs.declared.fault.SourceFault.{SourceFault}
use Rattle.answer_meaning.specs.declared.fault.Rule.{Rule}
use Rattle.answer_meaning.specs.declared.fault.Rule.TheVariants as rule

abbrev pub at_line : ℕ → Rule → SourceFault
at_line line r = record { line = line; rule = r }

-- the fault of a text that is too large has no line
abbrev pub too_large : SourceFault
too_large = at_line 0 rule.TooLarge

-- a lexical fault; out of memory is not a fault, and no definition yields it
abbrev pub lex_fault : LexFault → SourceFault
lex_fault (lexing.BadByte offset line) = at_line line rule.BadByte
lex_fault (lexing.BadNumber offset line) = at_line line rule.BadNumber
lex_fault (lexing.LongName offset line) = at_line line rule.LongName
lex_fault lexing.Memory = too_large

abbrev pub line_or_none : Option ℕ → ℕ
line_or_none None = 0
line_or_none (Some line) = line

-- the line of the token at an index
abbrev pub token_line : List Token → ℕ → ℕ
token_line tokens i = line_or_none (slice_get (lines tokens) i)

-- the line on which a text ends
abbrev pub end_line : List ℕ → ℕ
end_line text = 1 + feeds text

-- a fault of the grammar; out of memory is not a fault
abbrev pub parse_fault : List ℕ → List Token → ParseFault → SourceFault
parse_fault text tokens (parsing.Unexpected i) = at_line (token_line tokens i) rule.Unexpected
parse_fault text tokens parsing.Ended = at_line (end_line text) rule.Ended
parse_fault text tokens (parsing.TooDeep i) = at_line (token_line tokens i) rule.TooDeep
parse_fault text tokens parsing.Memory = too_large

abbrev pub tree_or_fault : List ℕ → List Token → Result Tree ParseFault → Result Tree SourceFault
tree_or_fault text tokens (Ok t) = Ok t
tree_or_fault text tokens (Err f) = Err (parse_fault text tokens f)

abbrev pub tree_of_tokens : List ℕ → List Token → Result Tree SourceFault
tree_of_tokens text tokens = tree_or_fault text tokens (parsed tokens)

abbrev pub tree_of_lexed : List ℕ → Result (List Token) LexFault → Result Tree SourceFault
tree_of_lexed text (Err f) = Err (lex_fault f)
tree_of_lexed text (Ok tokens) = tree_of_tokens text tokens

-- the syntax tree of a text, or its first fault
unfoldable pub tree_of : List ℕ → Result Tree SourceFault
tree_of text = tree_of_lexed text (tokens_of text)

-- the same where the text may be too large
abbrev pub tree_of_file : Option (List ℕ) → Result Tree SourceFault
tree_of_file None = Err too_large
tree_of_file (Some text) = tree_of text

-- a tree that can come from a text: its numbers have 32 bits, its nesting is within the limits, and
-- its CASEs have no more choices than a text has bytes
pub record IsSpelled (t : Tree) : Type 0 where
  pub keeps : IsKept t
  pub few : choices_in (exchange_of_tree t) ≤ MOST_WHENS

-- faults of the rules

-- rules of signals and blocks have a number, link rules a word
abbrev pub rule_of : TextRule → Rule
rule_of (Signals r) = rule.Numbered (signals.number_of r)
rule_of (Blocks r) = rule.Numbered (blocks.number_of r)
rule_of (Links r) = rule.Link r

-- out of memory is not a fault
abbrev pub resolve_fault : TextFault → SourceFault
resolve_fault (resolving.Rule broken line) = at_line line (rule_of broken)
resolve_fault resolving.Memory = too_large

-- the result is the one defined, or out of memory
abbrev pub Finds : {A F : Type 0} → Result A F → Result (Result A F) Memory → Type 0
Finds said (Ok found) = said ≡ found
Finds said (Err m) = Unit {0}

-- the exchange that a tree denotes, or the first rule that it breaks
abbrev pub resolved_or : Result Exchange TextFault → Result Exchange SourceFault
resolved_or (Ok x) = Ok x
resolved_or (Err f) = Err (resolve_fault f)

abbrev pub exchange_of : Result Tree SourceFault → Result Exchange SourceFault
exchange_of (Ok t) = resolved_or (resolved t)
exchange_of (Err f) = Err f

-- the exchange that a text denotes, or its first fault
abbrev pub exchange_of_text : Option (List ℕ) → Result Exchange SourceFault
exchange_of_text text = exchange_of (tree_of_file text)
