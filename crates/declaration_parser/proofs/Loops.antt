-- What the loops over declarations, surveys and signals rest on, over plain variables.
use Rattle.std.proofs.Common.{◌≡◌, ◌<◌, true, false, List, [], ◌∷◌, ◌++◌, length, Ok, Err, Result}
use Rattle.plex_lexer.specs.declared.token.Token.{Token}
use Rattle.token_grammar.specs.Reading.{Stuck, at, many, with_front}
use Rattle.token_grammar.proofs.Exact.{Exact-shorter, loop_more, loop_stop, loop_fail}
use Rattle.plex_ast.specs.declared.block.Survey.{Survey}
use Rattle.plex_ast.specs.declared.block.Decl.{Decl}
use Rattle.plex_ast.specs.declared.block.Field.{Field}
use Rattle.plex_ast.specs.declared.tree.Signal.{Signal}
use Rattle.plex_ast.specs.Words.{SIGNAL, FIELD, RECEIVE, SEND}
use Rattle.declaration_parser.specs.Declarations.{DECL, field_read, decl_read, survey_read}
use Rattle.declaration_parser.specs.Signals.{signal_read}
use Rattle.declaration_parser.proofs.Declaring.{Exact-field, Exact-decl, Exact-survey}
use Rattle.declaration_parser.proofs.Signalling.{Exact-signal}

pub field_less : (w rest : List Token) (x : Field) → field_read w ≡ Ok (x, rest) → length rest < length w
field_less = Exact-shorter Exact-field

pub field_on : (front : List Field) (x : Field) (w rest : List Token) (all : Result (List Field × List Token) Stuck)
    → at FIELD w ≡ true → field_read w ≡ Ok (x, rest) → with_front front (many FIELD field_read w) ≡ all
    → with_front (front ++ (x ∷ [])) (many FIELD field_read rest) ≡ all
field_on = loop_more FIELD field_read field_less

pub field_end : (front : List Field) (w : List Token) (all : Result (List Field × List Token) Stuck)
    → at FIELD w ≡ false → with_front front (many FIELD field_read w) ≡ all → all ≡ Ok (front, w)
field_end = loop_stop FIELD field_read field_less

pub field_bad : (front : List Field) (w : List Token) (e : Stuck) (all : Result (List Field × List Token) Stuck)
    → at FIELD w ≡ true → field_read w ≡ Err e → with_front front (many FIELD field_read w) ≡ all → all ≡ Err e
field_bad = loop_fail FIELD field_read field_less

pub decl_less : (w rest : List Token) (x : Decl) → decl_read w ≡ Ok (x, rest) → length rest < length w
decl_less = Exact-shorter Exact-decl

pub decl_on : (front : List Decl) (x : Decl) (w rest : List Token) (all : Result (List Decl × List Token) Stuck)
    → at DECL w ≡ true → decl_read w ≡ Ok (x, rest) → with_front front (many DECL decl_read w) ≡ all
    → with_front (front ++ (x ∷ [])) (many DECL decl_read rest) ≡ all
decl_on = loop_more DECL decl_read decl_less

pub decl_end : (front : List Decl) (w : List Token) (all : Result (List Decl × List Token) Stuck) → at DECL w ≡ false
    → with_front front (many DECL decl_read w) ≡ all → all ≡ Ok (front, w)
decl_end = loop_stop DECL decl_read decl_less

pub decl_bad : (front : List Decl) (w : List Token) (e : Stuck) (all : Result (List Decl × List Token) Stuck)
    → at DECL w ≡ true → decl_read w ≡ Err e → with_front front (many DECL decl_read w) ≡ all → all ≡ Err e
decl_bad = loop_fail DECL decl_read decl_less

pub survey_less : (w rest : List Token) (x : Survey) → survey_read w ≡ Ok (x, rest) → length rest < length w
survey_less = Exact-shorter Exact-survey

pub survey_on : (front : List Survey) (x : Survey) (w rest : List Token) (all : Result (List Survey × List Token) Stuck)
    → at (RECEIVE ++ SEND) w ≡ true → survey_read w ≡ Ok (x, rest)
    → with_front front (many (RECEIVE ++ SEND) survey_read w) ≡ all
    → with_front (front ++ (x ∷ [])) (many (RECEIVE ++ SEND) survey_read rest) ≡ all
survey_on = loop_more (RECEIVE ++ SEND) survey_read survey_less

pub survey_end : (front : List Survey) (w : List Token) (all : Result (List Survey × List Token) Stuck)
    → at (RECEIVE ++ SEND) w ≡ false → with_front front (many (RECEIVE ++ SEND) survey_read w) ≡ all
    → all ≡ Ok (front, w)
survey_end = loop_stop (RECEIVE ++ SEND) survey_read survey_less

pub survey_bad : (front : List Survey) (w : List Token) (e : Stuck) (all : Result (List Survey × List Token) Stuck)
    → at (RECEIVE ++ SEND) w ≡ true → survey_read w ≡ Err e
    → with_front front (many (RECEIVE ++ SEND) survey_read w) ≡ all → all ≡ Err e
survey_bad = loop_fail (RECEIVE ++ SEND) survey_read survey_less

pub signal_less : (w rest : List Token) (x : Signal) → signal_read w ≡ Ok (x, rest) → length rest < length w
signal_less = Exact-shorter Exact-signal

pub signal_on : (front : List Signal) (x : Signal) (w rest : List Token) (all : Result (List Signal × List Token) Stuck)
    → at SIGNAL w ≡ true → signal_read w ≡ Ok (x, rest) → with_front front (many SIGNAL signal_read w) ≡ all
    → with_front (front ++ (x ∷ [])) (many SIGNAL signal_read rest) ≡ all
signal_on = loop_more SIGNAL signal_read signal_less

pub signal_end : (front : List Signal) (w : List Token) (all : Result (List Signal × List Token) Stuck)
    → at SIGNAL w ≡ false → with_front front (many SIGNAL signal_read w) ≡ all → all ≡ Ok (front, w)
signal_end = loop_stop SIGNAL signal_read signal_less

pub signal_bad : (front : List Signal) (w : List Token) (e : Stuck) (all : Result (List Signal × List Token) Stuck)
    → at SIGNAL w ≡ true → signal_read w ≡ Err e → with_front front (many SIGNAL signal_read w) ≡ all → all ≡ Err e
signal_bad = loop_fail SIGNAL signal_read signal_less
