-- What the parser answers, within the limits of nesting.
use Rattle.std.specs.Prelude.{◌≡◌, ℕ, zero, suc, ◌-◌, Bool, true, false, List, length, Result, Ok}
use Rattle.std.specs.Prelude.{Err}
use Rattle.plex_limits.specs.declared.limits.TheConstants.{MOST_BRACKETS, MOST_NESTED}
use Rattle.plex_lexer.specs.declared.token.Token.{Token}
use Rattle.token_grammar.specs.Reading.{Stuck, all_read}
use Rattle.token_grammar.specs.Faults.{IsUnexpected, IsTooDeep, IsEnded}
use Rattle.plex_ast.specs.declared.tree.Tree.{Tree}
use Rattle.plex_ast.specs.Grammar.{tree, Sentence}
use Rattle.plex_parser.specs.declared.parser.ParseFault.{ParseFault}
use Rattle.plex_parser.specs.declared.parser.ParseFault.TheVariants.{Unexpected, Ended, TooDeep}
use Rattle.plex_parser.specs.declared.parser.ParseFault.TheVariants.{Memory}
use Rattle.plex_parser.specs.Blocks.{tree_read}

-- the tree that the tokens spell, or where the reading of them stops
unfoldable pub tree_of : List Token → Result Tree Stuck
tree_of w = all_read (tree_read MOST_BRACKETS MOST_NESTED w)

-- a reading of n tokens that stopped, as a fault
abbrev pub fault_of : ℕ → ℕ → Bool → ParseFault
fault_of n zero deep = Ended
fault_of n (suc k) true = TooDeep (n - suc k)
fault_of n (suc k) false = Unexpected (n - suc k)

abbrev pub told : ℕ → Result Tree Stuck → Result Tree ParseFault
told n (Ok t) = Ok t
told n (Err e) = Err (fault_of n e.left e.deep)

-- the tree that the tokens spell, or their fault
unfoldable pub parsed : List Token → Result Tree ParseFault
parsed w = told (length w) (tree_of w)

-- the three faults of tokens that are no sentence
abbrev pub UnexpectedAt : List Token → ℕ → Type 0
UnexpectedAt w i = IsUnexpected (tree true) MOST_BRACKETS MOST_NESTED w i

abbrev pub TooDeepAt : List Token → ℕ → Type 0
TooDeepAt w i = IsTooDeep (tree true) MOST_BRACKETS MOST_NESTED w i

abbrev pub EndsEarly : List Token → Type 0
EndsEarly w = IsEnded (tree true) MOST_BRACKETS MOST_NESTED w

-- a tree is spelled by the tokens, and a fault is theirs
abbrev pub Parses : Result Tree ParseFault → List Token → Type 0
Parses (Ok t) w = Sentence t w
Parses (Err (Unexpected i)) w = UnexpectedAt w i
Parses (Err Ended) w = EndsEarly w
Parses (Err (TooDeep i)) w = TooDeepAt w i
Parses (Err Memory) w = Unit {0}

-- this tree, or no memory
abbrev pub Yields : Result Tree ParseFault → Tree → Type 0
Yields (Ok t) s = t ≡ s
Yields (Err (Unexpected i)) s = ⊥
Yields (Err Ended) s = ⊥
Yields (Err (TooDeep i)) s = ⊥
Yields (Err Memory) s = Unit {0}

-- this answer, or no memory
abbrev pub Answers : Result Tree ParseFault → Result Tree ParseFault → Type 0
Answers (Ok t) answer = answer ≡ Ok t
Answers (Err (Unexpected i)) answer = answer ≡ Err (Unexpected i)
Answers (Err Ended) answer = answer ≡ Err Ended
Answers (Err (TooDeep i)) answer = answer ≡ Err (TooDeep i)
Answers (Err Memory) answer = Unit {0}
