use Rattle.std.proofs.Common.{◌≡◌, ◌∙◌, Err, ap, drop, false, rules, true}
use Rattle.std.specs.Char.{is_ascii_digit, is_ascii_uppercase}
use Rattle.plex_lexer.specs.Pieces.{token_at}
use Rattle.plex_lexer.proofs.SortedTokens.{word_piece, number_piece, number_fault}
use Rattle.plex_lexer.proofs.lexer.read_token.Goals as goal

pub returns-in_err-sort-2-clause-read : goal.returns-in_err-sort-2-clause-read
returns-in_err-sort-2-clause-read c =
    let low : is_ascii_uppercase c.args.b ≡ false = search rules in
    let digit : is_ascii_digit c.args.b ≡ true = search rules in
    let told : Err c.in_err-sort-2.field-0.0 ≡ token_at c.args.offset c.args.line c.args.b c.args.after.now =
    number_fault c.args.b c.args.bytes.now c.args.after.now c.args.offset c.args.line c.in_err-sort-2.field-0.0
    c.requires.front low digit c.in_err-sort-2.ensures.is in
    search rules

pub returns-in_ok-sort-clause-read : goal.returns-in_ok-sort-clause-read
returns-in_ok-sort-clause-read c =
    let up : is_ascii_uppercase c.args.b ≡ true = search rules in
    word_piece c.args.b c.args.bytes.now c.args.after.now c.past.result.now c.args.offset c.args.line c.in_ok-sort.sort
    c.requires.front up c.in_ok-sort.ensures.is
    (c.past.ensures.rest ∙ ap (λ n. drop n c.args.after.now) c.word_len.ensures)

pub returns-in_ok-sort-2-clause-read : goal.returns-in_ok-sort-2-clause-read
returns-in_ok-sort-2-clause-read c =
    let low : is_ascii_uppercase c.args.b ≡ false = search rules in
    let digit : is_ascii_digit c.args.b ≡ true = search rules in
    number_piece c.args.b c.args.bytes.now c.args.after.now c.past-then-is_ascii_digit.result.now c.args.offset
    c.args.line c.in_ok-sort-2.sort c.requires.front low digit c.in_ok-sort-2.ensures.is
    (c.past-then-is_ascii_digit.ensures.rest ∙ ap (λ n. drop n c.args.after.now) c.digits_len.ensures)
