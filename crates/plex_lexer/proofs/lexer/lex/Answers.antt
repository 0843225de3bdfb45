use Rattle.std.proofs.Common.{◌≡◌, ℕ, ◌-◌, ◌<◌, ◌++◌, ◌∷◌, [], List, ap, arith, length}
use Rattle.std.proofs.Common.{length-append, drop, sym, ◌∙◌, refl}
use Rattle.plex_lexer.specs.declared.spot.TheConstants.{OFFSETS}
use Rattle.plex_lexer.specs.declared.token.Token.{Token}
use Rattle.plex_lexer.specs.Lexed.{tokens_of}
use Rattle.plex_lexer.specs.Spots.{all_shown, kind_at}
use Rattle.plex_lexer.proofs.Ends.{end_begins, end_on, end_self}
use Rattle.plex_lexer.proofs.SortedTokens.{one_more}
use Rattle.plex_lexer.proofs.Steps.{begin_on, tells_err, token_bad, token_on}
use Rattle.plex_lexer.proofs.lexer.lex.Goals as goal

pub bytes-init : goal.bytes-init
bytes-init c = record {
  same = rw c.new-spots.ensures (begin_on c.args.text.now);
  end = end_self c.args.text.now;
  few = omega (arith, ap length c.new-spots.ensures);
  lines = omega arith;
  first = omega arith;
}

pub returns-in-Err-clause-tokens : goal.returns-in-Err-clause-tokens
returns-in-Err-clause-tokens c = tells_err c.in-Err.fault _
    (token_bad (all_shown c.args.text.now c.bytes.spots) (length c.args.text.now) c.bytes.line c.in-Some.b
    c.bytes.rest.now c.in-Some.after.now c.in-Err.fault (length c.args.text.now - length c.bytes.rest.now)
    (tokens_of c.args.text.now)
    c.in-Some.ensures c.if-b-eq10.false (sym c.blank.ensures ∙ c.if-blank.false) c.if-b-eq33.false refl c.in-Err.ensures.read c.bytes.invariant.same)

pub bytes-preserved : goal.bytes-preserved
bytes-preserved c =
    let text : List ℕ = c.args.text.now in
    let rest : List ℕ = c.bytes.rest.now in
    let offset : ℕ = length text - length rest in
    let within : offset < OFFSETS = omega (arith, c.requires, ap length c.in-Some.ensures) in
    let token : Token = record { kind = kind_at c.in-Ok.sort rest; line = c.bytes.line; offset = offset } in
    let here : drop offset text ≡ rest = end_begins text rest c.bytes.invariant.end in
    let shows : all_shown text c.push.new.self ≡ all_shown text c.bytes.spots ++ (token ∷ []) =
    ap (all_shown text) (c.in_default-push.ensures ∙ ap (λ s. c.bytes.spots ++ (s ∷ [])) c.new.ensures)
    ∙ one_more text c.bytes.spots c.in-Ok.sort offset c.bytes.line c.in-Ok.ensures.small within
    ∙ ap (λ z. all_shown text c.bytes.spots ++ (record { kind = kind_at c.in-Ok.sort z; line = c.bytes.line; offset = offset } ∷ [])) here in
    record {
      same = rw shows
          (token_on (all_shown text c.bytes.spots) (length text) c.bytes.line c.in-Some.b rest c.in-Some.after.now
          c.in-Ok.left.now token offset (tokens_of text)
          c.in-Some.ensures c.if-b-eq10.false (sym c.blank.ensures ∙ c.if-blank.false) c.if-b-eq33.false refl c.in-Ok.ensures.read c.bytes.invariant.same);
      end = end_on text rest c.in-Some.after.now c.in-Ok.left.now c.in-Some.b c.bytes.invariant.end c.in-Some.ensures c.in-Ok.ensures.end;
      few = omega (
        arith,
        ap length c.in_default-push.ensures,
        length-append c.bytes.spots (c.new.result ∷ []),
        ap
            length c.in-Some.ensures,
        c.in-Ok.ensures.shorter,
      );
      lines = omega (arith, ap length c.in-Some.ensures, c.in-Ok.ensures.shorter);
      first = omega arith;
    }
