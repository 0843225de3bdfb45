-- What begins a statement or an item, part by part.
use Rattle.std.proofs.Common.{◌≡◌, Bool, true, false, List, ◌++◌, refl, sym, ap, ◌∙◌}
use Rattle.std.specs.Prelude.{◌||◌}
use Rattle.plex_lexer.specs.declared.token.Token.{Token}
use Rattle.token_grammar.specs.Language.{NAME}
use Rattle.token_grammar.specs.Reading.{at}
use Rattle.token_grammar.proofs.Exact.{at_both}
use Rattle.plex_ast.specs.Words.{ENTER}
use Rattle.plex_parser.specs.Blocks.{ITEM}
use Rattle.plex_parser.specs.Statements.{PLAIN, HELD, STMT}

pub other_starts : (w : List Token) → at (PLAIN ++ HELD) w ≡ (at PLAIN w || at HELD w)
other_starts w = at_both PLAIN HELD w

pub stmt_starts : (w : List Token) → at STMT w ≡ (at NAME w || at (PLAIN ++ HELD) w)
stmt_starts w = at_both NAME (PLAIN ++ HELD) w

or_later : (a b c : Bool) → (a || (b || c)) ≡ ((a || c) || b)
or_later true b c = refl
or_later false true true = refl
or_later false true false = refl
or_later false false true = refl
or_later false false false = refl

pub item_starts : (w : List Token) → at ITEM w ≡ (at STMT w || at ENTER w)
item_starts w =
    at_both NAME (ENTER ++ (PLAIN ++ HELD)) w
    ∙ ap (λ t. at NAME w || t) (at_both ENTER (PLAIN ++ HELD) w)
    ∙ or_later (at NAME w) (at ENTER w) (at (PLAIN ++ HELD) w)
    ∙ ap (λ t. t || at ENTER w) (sym (stmt_starts w))
