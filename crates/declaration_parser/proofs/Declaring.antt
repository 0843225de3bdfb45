-- Declarations and surveys are read exactly.
use Rattle.std.proofs.Common.{Bool, true, false, List, [], ◌++◌, Option, refl, sym, subst, inl, inr}
use Rattle.plex_lexer.specs.declared.token.Token.{Token}
use Rattle.token_grammar.specs.declared.named.Named.{Named}
use Rattle.token_grammar.specs.declared.named.Numbered.{Numbered}
use Rattle.token_grammar.specs.Language.{Lang, word, ◌·◌, each, maybe, flag, named, numbered, NAME}
use Rattle.token_grammar.proofs.Exact.{Exact, Exact-word, Exact-pair, Exact-same, Exact-lined}
use Rattle.token_grammar.proofs.Exact.{Exact-branch, Exact-many, Exact-after, Exact-ended}
use Rattle.token_grammar.proofs.Exact.{Exact-optional, Exact-flag, Either, Lined}
use Rattle.token_grammar.proofs.Words.{a_keyword, a_mark, Exact-name, Exact-number}
use Rattle.plex_ast.specs.declared.block.Survey.{Survey}
use Rattle.plex_ast.specs.declared.block.SurveyKind.{SurveyKind}
use Rattle.plex_ast.specs.declared.block.SurveyKind.TheVariants as surveys
use Rattle.plex_ast.specs.declared.block.Decl.{Decl}
use Rattle.plex_ast.specs.declared.block.DeclKind.{DeclKind}
use Rattle.plex_ast.specs.declared.block.DeclKind.TheVariants as decls
use Rattle.plex_ast.specs.declared.block.Field.{Field}
use Rattle.plex_ast.specs.Words.{DECLARE, VARIABLE, TEMPORARY, FILE, FORLOPP, FIELD, WIDTH, SIZE}
use Rattle.plex_ast.specs.Words.{INIT, CLEAR, SURVEY, RECEIVE, SEND, SEMI}
use Rattle.plex_ast.specs.Grammar.{survey_at, survey, init, field, decl_at, decl}
use Rattle.declaration_parser.specs.Declarations.{survey_kind_read, survey_made, survey_read}
use Rattle.declaration_parser.specs.Declarations.{init_read, Width, width_read, field_made}
use Rattle.declaration_parser.specs.Declarations.{field_read, clear_read, variable_made}
use Rattle.declaration_parser.specs.Declarations.{variable_read, temporary_read, forlopp_read}
use Rattle.declaration_parser.specs.Declarations.{file_made, file_read, decl_kind_read, decl_made}
use Rattle.declaration_parser.specs.Declarations.{decl_read, DECL, surveys_read, decls_read}

-- declarations

Exact-init : Exact (maybe (init true)) (maybe (init true)) INIT true INIT init_read init_read
unfolding init_read
Exact-init = Exact-optional INIT (Exact-after INIT (a_keyword 17) refl Exact-number) refl

abbrev HasWidth : Width → Lang
HasWidth p = named true p.0 · (word WIDTH · (numbered true p.1.0 · (maybe (init true) p.1.1 · word SEMI)))

Exact-width : Exact HasWidth HasWidth NAME false [] width_read width_read
unfolding width_read
Exact-width = Exact-pair Exact-name (Exact-after WIDTH (a_keyword 15) refl
    (Exact-pair Exact-number (Exact-ended SEMI (a_mark 0) refl Exact-init refl) refl)) refl

pub Exact-field : Exact (field true) (field true) FIELD false [] field_read field_read
unfolding field_read
Exact-field = Exact-same (field true) (field true) to from to (Exact-lined field_made (Exact-after FIELD (a_keyword 14) refl Exact-width))
  where
    to : (x : Field) (u : List Token) → Lined field_made (λ p. word FIELD · HasWidth p) x u → field true x u
    to x u h = subst (λ y. field true y u) (sym h.1) (h.2, λ _. refl)

    from : (x : Field) (u : List Token) → field true x u → Lined field_made (λ p. word FIELD · HasWidth p) x u
    from x u h = ((x.name, (x.width, x.init)), λ i. record { line = h.1 refl i; name = x.name; width = x.width; init = x.init }, h.0)

Exact-clear : Exact (flag (word CLEAR)) (flag (word CLEAR)) CLEAR true CLEAR clear_read clear_read
unfolding clear_read
Exact-clear = Exact-flag CLEAR (word CLEAR) (λ t u h. (t, h.0, h.1)) (λ t u h. (t, h.0, h.1)) (λ u h. (h.0, (h.1, h.2)))
    (Exact-word CLEAR (a_keyword 55) refl) refl

-- a variable: its name and its width, and whether it is cleared
abbrev Variable : Named × (Numbered × (Option Numbered × Bool)) → Lang
Variable p = word VARIABLE · (named true p.0 · (word WIDTH · (numbered true p.1.0 · (maybe (init true) p.1.1.0 · (flag (word CLEAR) p.1.1.1 · word SEMI)))))

Exact-forlopp : Exact (flag (word FORLOPP)) (flag (word FORLOPP)) FORLOPP true FORLOPP forlopp_read forlopp_read
unfolding forlopp_read
Exact-forlopp = Exact-flag FORLOPP (word FORLOPP) (λ t u h. (t, h.0, h.1)) (λ t u h. (t, h.0, h.1))
    (λ u h. (h.0, (h.1, h.2))) (Exact-word FORLOPP (a_keyword 13) refl) refl

abbrev File : Type 0
File = Bool × (Named × (Numbered × List Field))

abbrev FileLang : File → Lang
FileLang p = flag (word FORLOPP) p.0 · (word FILE · (named true p.1.0 · (word SIZE · (numbered true p.1.1.0 · (word SEMI · each (field true) p.1.1.1)))))

abbrev Decls : DeclKind → Lang
Decls = Either (Lined variable_made Variable)
    (Either (Lined (λ _ (n : Named). decls.Temporary n) (λ n. word TEMPORARY · (named true n · word SEMI))) (Lined file_made FileLang))

Exact-decl-kind : Exact (decl_at true) (decl_at true) DECL false FIELD decl_kind_read decl_kind_read
unfolding decl_kind_read variable_read temporary_read file_read
Exact-decl-kind = Exact-same (decl_at true) (decl_at true) to from to
    (Exact-branch VARIABLE
    (Exact-lined variable_made (Exact-after VARIABLE (a_keyword 10) refl (Exact-pair Exact-name (Exact-after WIDTH (a_keyword 15) refl
    (Exact-pair Exact-number (Exact-pair Exact-init (Exact-ended SEMI (a_mark 0) refl Exact-clear refl) refl) refl)) refl)))
    (Exact-branch TEMPORARY (Exact-lined (λ _ (n : Named). decls.Temporary n)
    (Exact-after TEMPORARY (a_keyword 11) refl (Exact-ended SEMI (a_mark 0) refl Exact-name refl)))
    (Exact-lined file_made (Exact-pair Exact-forlopp
    (Exact-after FILE (a_keyword 12) refl (Exact-pair Exact-name
    (Exact-after SIZE (a_keyword 16) refl (Exact-pair Exact-number
    (Exact-after SEMI (a_mark 0) refl (Exact-many Exact-field refl)) refl)) refl)) refl))
    refl refl) refl refl)
  where
    to : (x : DeclKind) (u : List Token) → Decls x u → decl_at true x u
    to x u (inl h) = subst (λ y. decl_at true y u) (sym h.1) h.2
    to x u (inr (inl h)) = subst (λ y. decl_at true y u) (sym h.1) h.2
    to x u (inr (inr h)) = subst (λ y. decl_at true y u) (sym h.1) h.2

    from : (x : DeclKind) (u : List Token) → decl_at true x u → Decls x u
    from (decls.Variable n w i clear) u h = inl ((n, (w, (i, clear))), refl, h)
    from (decls.Temporary n) u h = inr (inl (n, refl, h))
    from (decls.File forlopp n size fields) u h = inr (inr ((forlopp, (n, (size, fields))), refl, h))

pub Exact-decl : Exact (decl true) (decl true) DECL false FIELD decl_read decl_read
unfolding decl_read
Exact-decl = Exact-same (decl true) (decl true) to from to (Exact-lined decl_made Exact-decl-kind)
  where
    to : (x : Decl) (u : List Token) → Lined decl_made (decl_at true) x u → decl true x u
    to x u h = subst (λ y. decl true y u) (sym h.1) (h.2, λ _. refl)

    from : (x : Decl) (u : List Token) → decl true x u → Lined decl_made (decl_at true) x u
    from x u h = (x.kind, λ i. record { line = h.1 refl i; kind = x.kind }, h.0)

abbrev pub DeclPart : List Decl → Lang
DeclPart xs = word DECLARE · (word SEMI · each (decl true) xs)

pub Exact-decls : Exact DeclPart DeclPart DECLARE false (DECL ++ FIELD) decls_read decls_read
unfolding decls_read
Exact-decls = Exact-after DECLARE (a_keyword 9) refl (Exact-after SEMI (a_mark 0) refl (Exact-many Exact-decl refl))

-- surveys

abbrev Surveys : SurveyKind → Lang
Surveys = Either (Lined (λ _ (n : Named). surveys.Receive n) (λ n. word RECEIVE · (named true n · word SEMI)))
    (Lined (λ _ (n : Named). surveys.Send n) (λ n. word SEND · (named true n · word SEMI)))

Exact-survey-kind : Exact (survey_at true) (survey_at true) (RECEIVE ++ SEND) false [] survey_kind_read survey_kind_read
unfolding survey_kind_read
Exact-survey-kind = Exact-same (survey_at true) (survey_at true) to from to
    (Exact-branch RECEIVE (Exact-lined (λ _ (n : Named). surveys.Receive n)
    (Exact-after RECEIVE (a_keyword 19) refl (Exact-ended SEMI (a_mark 0) refl Exact-name refl)))
    (Exact-lined (λ _ (n : Named). surveys.Send n) (Exact-after SEND (a_keyword 20) refl (Exact-ended SEMI (a_mark 0) refl Exact-name refl))) refl refl)
  where
    to : (x : SurveyKind) (u : List Token) → Surveys x u → survey_at true x u
    to x u (inl h) = subst (λ y. survey_at true y u) (sym h.1) h.2
    to x u (inr h) = subst (λ y. survey_at true y u) (sym h.1) h.2

    from : (x : SurveyKind) (u : List Token) → survey_at true x u → Surveys x u
    from (surveys.Receive n) u h = inl (n, refl, h)
    from (surveys.Send n) u h = inr (n, refl, h)

pub Exact-survey : Exact (survey true) (survey true) (RECEIVE ++ SEND) false [] survey_read survey_read
unfolding survey_read
Exact-survey = Exact-same (survey true) (survey true) to from to (Exact-lined survey_made Exact-survey-kind)
  where
    to : (x : Survey) (u : List Token) → Lined survey_made (survey_at true) x u → survey true x u
    to x u h = subst (λ y. survey true y u) (sym h.1) (h.2, λ _. refl)

    from : (x : Survey) (u : List Token) → survey true x u → Lined survey_made (survey_at true) x u
    from x u h = (x.kind, λ i. record { line = h.1 refl i; kind = x.kind }, h.0)

abbrev pub SurveyPart : List Survey → Lang
SurveyPart xs = word SURVEY · (word SEMI · each (survey true) xs)

pub Exact-surveys : Exact SurveyPart SurveyPart SURVEY false (RECEIVE ++ SEND) surveys_read surveys_read
unfolding surveys_read
Exact-surveys = Exact-after SURVEY (a_keyword 18) refl (Exact-after SEMI (a_mark 0) refl (Exact-many Exact-survey refl))
