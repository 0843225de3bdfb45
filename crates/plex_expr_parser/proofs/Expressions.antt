-- Expressions are read exactly.
use Rattle.std.proofs.Common.{◌≡◌, ℕ, zero, suc, ◌<◌, true, false, List, [], ◌∷◌, ◌++◌, length, Err}
use Rattle.std.proofs.Common.{Option, Some, None, refl, sym, ◌∙◌, ap, subst, inl, inr, arith}
use Rattle.std.proofs.lemmas.List.{append-nil}
use Rattle.plex_lexer.specs.declared.token.Token.{Token}
use Rattle.token_grammar.specs.declared.named.Named.{Named}
use Rattle.token_grammar.specs.declared.named.Numbered.{Numbered}
use Rattle.token_grammar.specs.Language.{Lang, word, ◌·◌, each, maybe, never, named, numbered}
use Rattle.token_grammar.specs.Language.{class, mem, NUMBER}
use Rattle.token_grammar.specs.Reading.{Reader, after, ended, at}
use Rattle.token_grammar.proofs.Exact.{Exact, Exact-both, Exact-pair, Exact-same, Exact-lined}
use Rattle.token_grammar.proofs.Exact.{Exact-branch, Exact-halt, Exact-many, Exact-after}
use Rattle.token_grammar.proofs.Exact.{Exact-ended, Exact-weak, Exact-optional, Either, Lined, Both}
use Rattle.token_grammar.proofs.Exact.{after_stops, lined_stops, reopened}
use Rattle.token_grammar.proofs.Words.{a_keyword, a_mark, a_number, Exact-name, Exact-number}
use Rattle.plex_ast.specs.declared.expr.Expr.{Expr}
use Rattle.plex_ast.specs.declared.expr.Added.{Added, Plus, Minus, out-Added, roll-Added}
use Rattle.plex_ast.specs.declared.expr.Added.{roll-out-Added, Added-F}
use Rattle.plex_ast.specs.declared.expr.Added.TheVariants.{outs-Plus, outs-Minus, rolls-Plus}
use Rattle.plex_ast.specs.declared.expr.Added.TheVariants.{rolls-Minus}
use Rattle.plex_ast.specs.declared.expr.Added.TheOpen as layer
use Rattle.plex_ast.specs.declared.expr.Term.{Term}
use Rattle.plex_ast.specs.declared.expr.Multiplied.{Multiplied, Times, Over, Mod, out-Multiplied}
use Rattle.plex_ast.specs.declared.expr.Multiplied.{roll-Multiplied, roll-out-Multiplied}
use Rattle.plex_ast.specs.declared.expr.Multiplied.{Multiplied-F}
use Rattle.plex_ast.specs.declared.expr.Multiplied.TheVariants.{outs-Times, outs-Over, outs-Mod}
use Rattle.plex_ast.specs.declared.expr.Multiplied.TheVariants.{rolls-Times, rolls-Over, rolls-Mod}
use Rattle.plex_ast.specs.declared.expr.Factor.{Factor}
use Rattle.plex_ast.specs.declared.expr.FactorKind.{FactorKind, Number, Bracket, out-FactorKind}
use Rattle.plex_ast.specs.declared.expr.FactorKind.{roll-FactorKind, roll-out-FactorKind}
use Rattle.plex_ast.specs.declared.expr.FactorKind.{FactorKind-F}
use Rattle.plex_ast.specs.declared.expr.FactorKind as factors
use Rattle.plex_ast.specs.declared.expr.FactorKind.TheVariants.{outs-Number, outs-Name, outs-Field}
use Rattle.plex_ast.specs.declared.expr.FactorKind.TheVariants.{outs-Bracket, outs-Reference}
use Rattle.plex_ast.specs.declared.expr.FactorKind.TheVariants.{rolls-Number, rolls-Name}
use Rattle.plex_ast.specs.declared.expr.FactorKind.TheVariants.{rolls-Field, rolls-Bracket}
use Rattle.plex_ast.specs.declared.expr.FactorKind.TheVariants.{rolls-Reference}
use Rattle.plex_ast.specs.Words.{REFERENCE, MOD, OPEN, CLOSE, PLUS, MINUS, TIMES, OVER}
use Rattle.plex_ast.specs.Grammar.{factor_at, factor_with, multiplied_at, term_with, added_at}
use Rattle.plex_ast.specs.Grammar.{expr_with, inside, factor, term, expr}
use Rattle.plex_expr_parser.specs.Readers.{with_pointer, pointer_read, block_read, plain_read}
use Rattle.plex_expr_parser.specs.Readers.{PLAIN, bracket_read, kind_with, factor_made, factor_by}
use Rattle.plex_expr_parser.specs.Readers.{MULTIPLY, multiplied_by, term_made, term_by, ADD}
use Rattle.plex_expr_parser.specs.Readers.{added_by, expr_made, expr_by, inside_read, factor_read}
use Rattle.plex_expr_parser.specs.Readers.{term_read, expr_read}

-- what may begin an expression, and what may go on with a factor, a term, an expression
abbrev pub FACTOR : List ℕ
FACTOR = PLAIN ++ OPEN

abbrev pub PAST_TERM : List ℕ
PAST_TERM = OPEN ++ MULTIPLY

abbrev pub PAST_EXPR : List ℕ
PAST_EXPR = OPEN ++ (MULTIPLY ++ ADD)

-- a factor but for the bracket, and the bracket
abbrev Plain : FactorKind → Lang
Plain = Either (Lined (λ _ (n : Numbered). Number n) (numbered true))
    (Either (Lined (λ _ (m : Named). factors.Reference m) (λ m. word REFERENCE · named true m))
    (Both with_pointer (named true) (maybe (λ p. word OPEN · (named true p · word CLOSE)))))

abbrev Bracketed : (Expr → Lang) → FactorKind → Lang
Bracketed inner = Lined (λ _ (e : Expr). Bracket e) (λ e. word OPEN · (inner e · word CLOSE))

abbrev Kind : (Expr → Lang) → FactorKind → Lang
Kind inner k = factor_at true inner (out-FactorKind k)

Exact-plain : Exact Plain Plain PLAIN false OPEN plain_read plain_read
unfolding plain_read block_read pointer_read
Exact-plain =
    Exact-branch NUMBER (Exact-lined (λ _ (n : Numbered). Number n) Exact-number)
    (Exact-branch REFERENCE (Exact-lined (λ _ (m : Named). factors.Reference m) (Exact-after REFERENCE (a_keyword 44) refl Exact-name))
    (Exact-both with_pointer Exact-name (Exact-optional OPEN (Exact-after OPEN (a_mark 2) refl (Exact-ended CLOSE (a_mark 3) refl Exact-name refl)) refl) refl)
    refl refl) refl refl

plain_to : (inner : Expr → Lang) (x : FactorKind) (u : List Token) → Plain x u → Kind inner x u
plain_to inner x u (inl h) = subst (λ y. factor_at true inner y u) (sym (ap out-FactorKind h.1 ∙ outs-Number h.0)) h.2
plain_to inner x u (inr (inl h)) = subst (λ y. factor_at true inner y u) (sym (ap out-FactorKind h.1 ∙ outs-Reference h.0)) h.2
plain_to inner x u (inr (inr h)) = subst (λ y. factor_at true inner (out-FactorKind y) u) (sym h.2) (ends h.0 h.1 h.3)
  where
    ends : (n : Named) (p : Option Named) → (named true n · maybe (λ p. word OPEN · (named true p · word CLOSE)) p) u → Kind inner (with_pointer n p) u
    ends n None k = subst (λ y. factor_at true inner y u) (sym (outs-Name n)) (subst (named true n) (sym (k.2 ∙ ap (λ z. k.0 ++ z) k.4 ∙ append-nil k.0)) k.3)
    ends n (Some p) k = subst (λ y. factor_at true inner y u) (sym (outs-Field n p)) k

bracket_to : (inner : Expr → Lang) (x : FactorKind) (u : List Token) → Bracketed inner x u → Kind inner x u
bracket_to inner x u h = subst (λ y. factor_at true inner y u) (sym (ap out-FactorKind h.1 ∙ outs-Bracket h.0)) h.2

either_to : (inner : Expr → Lang) (x : FactorKind) (u : List Token) → Either Plain (Bracketed inner) x u → Kind inner x u
either_to inner x u (inl h) = plain_to inner x u h
either_to inner x u (inr h) = bracket_to inner x u h

layer_from : (inner : Expr → Lang) (y : FactorKind-F Added FactorKind Multiplied Expr Factor Term) (u : List Token)
    → factor_at true inner y u → Either Plain (Bracketed inner) (roll-FactorKind y) u
layer_from inner (layer.Number n) u h = inl (inl (n, rolls-Number n, h))
layer_from inner (layer.Name n) u h = inl (inr (inr (n, None, rolls-Name n, (u, [], sym (append-nil u), h, refl))))
layer_from inner (layer.Field n p) u h = inl (inr (inr (n, Some p, rolls-Field n p, h)))
layer_from inner (layer.Bracket e) u h = inr (e, rolls-Bracket e, h)
layer_from inner (layer.Reference m) u h = inl (inr (inl (m, rolls-Reference m, h)))

either_from : (inner : Expr → Lang) (x : FactorKind) (u : List Token) → Kind inner x u → Either Plain (Bracketed inner) x u
either_from inner x u h = subst (λ y. Either Plain (Bracketed inner) y u) (roll-out-FactorKind x) (layer_from inner (out-FactorKind x) u h)

-- no bracket where none may stand
plain_from : (x : FactorKind) (u : List Token) → Kind never x u → Plain x u
plain_from x u h = elim (either_from never x u h) [ inl k ↦ k | inr k ↦ absurd (k.2.4.3) ]

-- a factor of one of these kinds
Exact-factor-by : (L M : Expr → Lang) {r q : Reader FactorKind}
    → Exact (Kind L) (Kind M) FACTOR false OPEN (kind_with r) (kind_with q)
    → Exact (factor_with true L) (factor_with true M) FACTOR false OPEN (factor_by r) (factor_by q)
unfolding factor_by
Exact-factor-by L M E = Exact-same (factor_with true L) (factor_with true M) (to L) (from L) (to M) (Exact-lined factor_made E)
  where
    to : (N : Expr → Lang) (x : Factor) (u : List Token) → Lined factor_made (Kind N) x u → factor_with true N x u
    to N x u h = subst (λ y. factor_with true N y u) (sym h.1) (h.2, λ _. refl)

    from : (N : Expr → Lang) (x : Factor) (u : List Token) → factor_with true N x u → Lined factor_made (Kind N) x u
    from N x u h = (x.kind, λ i. record { line = h.1 refl i; kind = x.kind }, h.0)

-- terms

abbrev Product : (Factor → Lang) → Multiplied → Lang
Product F = Either (Lined (λ _ (f : Factor). Times f) (λ f. word TIMES · F f))
    (Either (Lined (λ _ (f : Factor). Over f) (λ f. word OVER · F f))
    (Lined (λ _ (f : Factor). Mod f) (λ f. word MOD · F f)))

pub Exact-multiplied : {L M : Factor → Lang} {r q : Reader Factor} → Exact L M FACTOR false OPEN r q
    → Exact (λ m. multiplied_at L (out-Multiplied m)) (λ m. multiplied_at M (out-Multiplied m)) MULTIPLY false OPEN
    (multiplied_by r) (multiplied_by q)
unfolding multiplied_by
Exact-multiplied {L} {M} {r} {q} E = Exact-same (λ m. multiplied_at L (out-Multiplied m)) (λ m. multiplied_at M (out-Multiplied m)) (to L) (from L) (to M)
    (Exact-weak MULTIPLY OPEN
    (Exact-branch TIMES (Exact-lined (λ _ (f : Factor). Times f) (Exact-after TIMES (a_mark 7) refl E))
    (Exact-branch OVER (Exact-lined (λ _ (f : Factor). Over f) (Exact-after OVER (a_mark 8) refl E))
    (Exact-lined (λ _ (f : Factor). Mod f) (Exact-after MOD (a_keyword 54) refl E)) refl refl)
    refl refl) refl refl)
  where
    to : (N : Factor → Lang) (x : Multiplied) (u : List Token) → Product N x u → multiplied_at N (out-Multiplied x) u
    to N x u (inl h) = subst (λ y. multiplied_at N y u) (sym (ap out-Multiplied h.1 ∙ outs-Times h.0)) h.2
    to N x u (inr (inl h)) = subst (λ y. multiplied_at N y u) (sym (ap out-Multiplied h.1 ∙ outs-Over h.0)) h.2
    to N x u (inr (inr h)) = subst (λ y. multiplied_at N y u) (sym (ap out-Multiplied h.1 ∙ outs-Mod h.0)) h.2

    opened : (N : Factor → Lang) (y : Multiplied-F Added FactorKind Multiplied Expr Factor Term) (u : List Token)
        → multiplied_at N y u → Product N (roll-Multiplied y) u
    opened N (layer.Times f) u h = inl (f, rolls-Times f, h)
    opened N (layer.Over f) u h = inr (inl (f, rolls-Over f, h))
    opened N (layer.Mod f) u h = inr (inr (f, rolls-Mod f, h))

    from : (N : Factor → Lang) (x : Multiplied) (u : List Token) → multiplied_at N (out-Multiplied x) u → Product N x u
    from N x u h = subst (λ y. Product N y u) (roll-out-Multiplied x) (opened N (out-Multiplied x) u h)

pub Exact-term-by : {L M : Factor → Lang} {r q : Reader Factor} → Exact L M FACTOR false OPEN r q
    → Exact (term_with true L) (term_with true M) FACTOR false PAST_TERM (term_by r) (term_by q)
unfolding term_by
Exact-term-by {L} {M} {r} {q} E = Exact-same (term_with true L) (term_with true M) (to L) (from L) (to M)
    (Exact-weak FACTOR PAST_TERM (Exact-lined term_made (Exact-pair E (Exact-many (Exact-multiplied E) refl) refl)) refl refl)
  where
    to : (N : Factor → Lang) (x : Term) (u : List Token)
        → Lined term_made (λ (p : Factor × List Multiplied). N p.0 · each (λ m. multiplied_at N (out-Multiplied m)) p.1)
        x u → term_with true N x u
    to N x u h = subst (λ y. term_with true N y u) (sym h.1) (h.2, λ _. refl)

    from : (N : Factor → Lang) (x : Term) (u : List Token) → term_with true N x u
        → Lined term_made (λ (p : Factor × List Multiplied). N p.0 · each (λ m. multiplied_at N (out-Multiplied m)) p.1)
        x u
    from N x u h = ((x.first, x.rest), λ i. record { line = h.1 refl i; first = x.first; rest = x.rest }, h.0)

-- expressions

abbrev Sum : (Term → Lang) → Added → Lang
Sum T = Either (Lined (λ _ (t : Term). Plus t) (λ t. word PLUS · T t)) (Lined (λ _ (t : Term). Minus t) (λ t. word MINUS · T t))

pub Exact-added : {L M : Term → Lang} {r q : Reader Term} → Exact L M FACTOR false PAST_TERM r q
    → Exact (λ a. added_at L (out-Added a)) (λ a. added_at M (out-Added a)) ADD false PAST_TERM (added_by r)
    (added_by q)
unfolding added_by
Exact-added {L} {M} {r} {q} E = Exact-same (λ a. added_at L (out-Added a)) (λ a. added_at M (out-Added a)) (to L) (from L) (to M)
    (Exact-weak ADD PAST_TERM
    (Exact-branch PLUS (Exact-lined (λ _ (t : Term). Plus t) (Exact-after PLUS (a_mark 5) refl E))
    (Exact-lined (λ _ (t : Term). Minus t) (Exact-after MINUS (a_mark 6) refl E)) refl refl)
    refl refl)
  where
    to : (N : Term → Lang) (x : Added) (u : List Token) → Sum N x u → added_at N (out-Added x) u
    to N x u (inl h) = subst (λ y. added_at N y u) (sym (ap out-Added h.1 ∙ outs-Plus h.0)) h.2
    to N x u (inr h) = subst (λ y. added_at N y u) (sym (ap out-Added h.1 ∙ outs-Minus h.0)) h.2

    opened : (N : Term → Lang) (y : Added-F Added FactorKind Multiplied Expr Factor Term) (u : List Token) → added_at N y u → Sum N (roll-Added y) u
    opened N (layer.Plus t) u h = inl (t, rolls-Plus t, h)
    opened N (layer.Minus t) u h = inr (t, rolls-Minus t, h)

    from : (N : Term → Lang) (x : Added) (u : List Token) → added_at N (out-Added x) u → Sum N x u
    from N x u h = subst (λ y. Sum N y u) (roll-out-Added x) (opened N (out-Added x) u h)

pub Exact-expr-by : {L M : Term → Lang} {r q : Reader Term} → Exact L M FACTOR false PAST_TERM r q
    → Exact (expr_with true L) (expr_with true M) FACTOR false PAST_EXPR (expr_by r) (expr_by q)
unfolding expr_by
Exact-expr-by {L} {M} {r} {q} E = Exact-same (expr_with true L) (expr_with true M) (to L) (from L) (to M)
    (Exact-weak FACTOR PAST_EXPR (Exact-lined expr_made (Exact-pair E (Exact-many (Exact-added E) refl) refl)) refl refl)
  where
    to : (N : Term → Lang) (x : Expr) (u : List Token)
        → Lined expr_made (λ (p : Term × List Added). N p.0 · each (λ a. added_at N (out-Added a)) p.1) x u
        → expr_with true N x u
    to N x u h = subst (λ y. expr_with true N y u) (sym h.1) (h.2, λ _. refl)

    from : (N : Term → Lang) (x : Expr) (u : List Token) → expr_with true N x u
        → Lined expr_made (λ (p : Term × List Added). N p.0 · each (λ a. added_at N (out-Added a)) p.1) x u
    from N x u h = ((x.first, x.rest), λ i. record { line = h.1 refl i; first = x.first; rest = x.rest }, h.0)

-- the number 0, which is an expression within any limits
pub a_zero : Expr
a_zero = record { line = 1; first = record { line = 1; first = record { line = 1; kind = Number (record { line = 1; value = 0 }) }; rest = [] }; rest = [] }

zero_factor : (inner : Expr → Lang) → factor_with true inner (record { line = 1; kind = Number (record { line = 1; value = 0 }) }) (a_number ∷ [])
zero_factor inner = (
  subst (λ y. factor_at true inner y (a_number ∷ []))
      (sym (outs-Number (record { line = 1; value = 0 }))) (a_number, refl, refl, λ _. refl),
  λ _. refl,
)

pub zero_spelled : (b : ℕ) → expr true b a_zero (a_number ∷ [])
unfolding a_zero
zero_spelled b = ((a_number ∷ [], [], refl, ((a_number ∷ [], [], refl, zero_factor (inside true b), refl), λ _. refl), refl), λ _. refl)

-- brackets

Exact-bracket : {L M : Expr → Lang} {r q : Reader Expr} → Exact L M FACTOR false PAST_EXPR r q
    → Exact (Bracketed L) (Bracketed M) OPEN false [] (bracket_read r) (bracket_read q)
unfolding bracket_read
Exact-bracket E = Exact-lined (λ _ (e : Expr). Bracket e) (Exact-after OPEN (a_mark 2) refl (Exact-ended CLOSE (a_mark 3) refl E refl))

bracket_stops : (inner : Reader Expr) (w : List Token) → at OPEN w ≡ false → bracket_read inner w ≡ Err (record { left = length w; deep = false })
unfolding bracket_read
bracket_stops inner w h = lined_stops (λ _ (e : Expr). Bracket e) (after OPEN (ended inner CLOSE)) w _ (after_stops OPEN (ended inner CLOSE) w h)

bracket_opens : (c : ℕ) (t : Token) → mem (class t) OPEN ≡ true → (x : FactorKind) × (v : List Token) × Bracketed (expr true c) x (t ∷ v)
bracket_opens c t h = (
  Bracket a_zero,
  a_number ∷ a_mark 3 ∷ [],
  (
    a_zero,
    refl,
    reopened OPEN (λ e. expr true c e · word CLOSE) t h a_zero (a_number ∷ a_mark 3 ∷ [])
        (a_number ∷ [], a_mark 3 ∷ [], refl, zero_spelled c, (a_mark 3, refl, refl)),
  ),
)

pub Exact-factor : (b c : ℕ) → b < c → Exact (factor true b) (factor true c) FACTOR false OPEN (factor_read b) (factor_read c)
unfolding inside inside_read factor_read
Exact-factor b zero h = absurd (omega arith)
Exact-factor zero (suc c) h =
    Exact-factor-by never (expr true c) (Exact-same (Kind never) (Kind (expr true c)) (plain_to never) plain_from (either_to (expr true c))
    (Exact-weak FACTOR OPEN (Exact-halt PLAIN OPEN (Bracketed (expr true c)) (bracket_read (inside_read (suc c)))
    Exact-plain refl (bracket_stops (inside_read (suc c))) (bracket_opens c)) refl refl))
Exact-factor (suc b) (suc c) h =
    Exact-factor-by (expr true b) (expr true c)
    (Exact-same (Kind (expr true b)) (Kind (expr true c)) (either_to (expr true b)) (either_from (expr true b))
    (either_to (expr true c))
    (Exact-weak FACTOR OPEN (Exact-branch PLAIN Exact-plain
    (Exact-bracket (Exact-expr-by (Exact-term-by (Exact-factor b c (omega arith))))) refl refl) refl refl))

pub Exact-term : (b c : ℕ) → b < c → Exact (term true b) (term true c) FACTOR false PAST_TERM (term_read b) (term_read c)
unfolding term_read
Exact-term b c h = Exact-term-by (Exact-factor b c h)

pub Exact-expr : (b c : ℕ) → b < c → Exact (expr true b) (expr true c) FACTOR false PAST_EXPR (expr_read b) (expr_read c)
unfolding expr_read
Exact-expr b c h = Exact-expr-by (Exact-term b c h)
