-- Conditions, lists and receivers are read exactly.
use Rattle.std.proofs.Common.{◌≡◌, ℕ, ◌<◌, true, false, List, [], ◌++◌, refl, sym, subst, inl, inr}
use Rattle.plex_lexer.specs.declared.token.Token.{Token}
use Rattle.token_grammar.specs.declared.named.Named.{Named}
use Rattle.token_grammar.specs.Language.{Lang, word, ◌·◌, each, named, class, mem}
use Rattle.token_grammar.specs.Reading.{word_of, lined}
use Rattle.token_grammar.proofs.Exact.{Exact, Exact-word, Exact-pair, Exact-same, Exact-lined}
use Rattle.token_grammar.proofs.Exact.{Exact-branch, Exact-many, Exact-after, Exact-ended}
use Rattle.token_grammar.proofs.Exact.{Exact-weak, Either, Lined, one}
use Rattle.token_grammar.proofs.Words.{a_keyword, a_mark, Exact-name}
use Rattle.plex_ast.specs.declared.expr.Expr.{Expr}
use Rattle.plex_ast.specs.declared.expr.Rel.{Rel}
use Rattle.plex_ast.specs.declared.expr.RelKind.{RelKind}
use Rattle.plex_ast.specs.declared.expr.RelKind.TheVariants as rels
use Rattle.plex_ast.specs.declared.expr.Relation.{Relation}
use Rattle.plex_ast.specs.declared.expr.Conj.{Conj}
use Rattle.plex_ast.specs.declared.expr.Cond.{Cond}
use Rattle.plex_ast.specs.declared.expr.Exprs.{Exprs}
use Rattle.plex_ast.specs.declared.stmt.Names.{Names}
use Rattle.plex_ast.specs.declared.stmt.Reference.{Reference}
use Rattle.plex_ast.specs.declared.stmt.ReferenceKind.{ReferenceKind}
use Rattle.plex_ast.specs.declared.stmt.ReferenceKind.TheVariants as references
use Rattle.plex_ast.specs.Words.{WITH, REFERENCE, AND, OR, COMMA, OPEN, CLOSE, EQUAL, BELOW, ABOVE}
use Rattle.plex_ast.specs.Words.{AT_MOST, AT_LEAST, UNEQUAL}
use Rattle.plex_ast.specs.Grammar.{expr, rel_at, rel, relation, conj, cond_of, names, exprs}
use Rattle.plex_ast.specs.Grammar.{reference_at, reference}
use Rattle.plex_expr_parser.specs.Readers.{rel_kind_read, rel_made, rel_read, relation_made}
use Rattle.plex_expr_parser.specs.Readers.{relation_read, conj_made, and_read, conj_read, cond_made}
use Rattle.plex_expr_parser.specs.Readers.{or_read, cond_read, comma_name_read, names_made}
use Rattle.plex_expr_parser.specs.Readers.{names_read, comma_expr_read, exprs_made, exprs_read}
use Rattle.plex_expr_parser.specs.Readers.{held_read, receiver_kind_read, reference_made}
use Rattle.plex_expr_parser.specs.Readers.{reference_read}
use Rattle.plex_expr_parser.proofs.Expressions.{FACTOR, PAST_EXPR, Exact-expr}

abbrev pub REL : List ℕ
REL = EQUAL ++ (UNEQUAL ++ (BELOW ++ (AT_MOST ++ (ABOVE ++ AT_LEAST))))

-- what may go on with a list of relations, of conditions, of values
abbrev pub PAST_CONJ : List ℕ
PAST_CONJ = PAST_EXPR ++ AND

abbrev pub PAST_COND : List ℕ
PAST_COND = PAST_CONJ ++ OR

abbrev pub PAST_EXPRS : List ℕ
PAST_EXPRS = PAST_EXPR ++ COMMA

-- a word that says which
abbrev Says : RelKind → List ℕ → RelKind → Lang
Says k c = Lined (λ _ (t : Token). k) (one c)

abbrev Rels : RelKind → Lang
Rels = Either (Says rels.Equal EQUAL) (Either (Says rels.Unequal UNEQUAL)
    (Either (Says rels.Below BELOW) (Either (Says rels.AtMost AT_MOST)
    (Either (Says rels.Above ABOVE) (Says rels.AtLeast AT_LEAST)))))

Exact-rel-kind : Exact rel_at rel_at REL false [] rel_kind_read rel_kind_read
unfolding rel_kind_read
Exact-rel-kind = Exact-same rel_at rel_at to from to
    (Exact-branch EQUAL (says rels.Equal EQUAL (a_mark 4) refl)
    (Exact-branch UNEQUAL (says rels.Unequal UNEQUAL (a_mark 13) refl)
    (Exact-branch BELOW (says rels.Below BELOW (a_mark 9) refl)
    (Exact-branch AT_MOST (says rels.AtMost AT_MOST (a_mark 11) refl)
    (Exact-branch ABOVE (says rels.Above ABOVE (a_mark 10) refl)
    (says rels.AtLeast AT_LEAST (a_mark 12) refl)
    refl refl) refl refl) refl refl) refl refl) refl refl)
  where
    says : (k : RelKind) (c : List ℕ) (t : Token) → mem (class t) c ≡ true
        → Exact (Says k c) (Says k c) c false [] (lined (λ _ (t : Token). k) (word_of c))
        (lined (λ _ (t : Token). k) (word_of c))
    says k c t h = Exact-lined (λ _ (t : Token). k) (Exact-word c t h)

    to : (x : RelKind) (u : List Token) → Rels x u → rel_at x u
    to x u (inl h) = subst (λ y. rel_at y u) (sym h.1) (h.0, h.2.0, h.2.1)
    to x u (inr (inl h)) = subst (λ y. rel_at y u) (sym h.1) (h.0, h.2.0, h.2.1)
    to x u (inr (inr (inl h))) = subst (λ y. rel_at y u) (sym h.1) (h.0, h.2.0, h.2.1)
    to x u (inr (inr (inr (inl h)))) = subst (λ y. rel_at y u) (sym h.1) (h.0, h.2.0, h.2.1)
    to x u (inr (inr (inr (inr (inl h))))) = subst (λ y. rel_at y u) (sym h.1) (h.0, h.2.0, h.2.1)
    to x u (inr (inr (inr (inr (inr h))))) = subst (λ y. rel_at y u) (sym h.1) (h.0, h.2.0, h.2.1)

    from : (x : RelKind) (u : List Token) → rel_at x u → Rels x u
    from rels.Equal u h = inl (h.0, refl, (h.1, h.2))
    from rels.Unequal u h = inr (inl (h.0, refl, (h.1, h.2)))
    from rels.Below u h = inr (inr (inl (h.0, refl, (h.1, h.2))))
    from rels.AtMost u h = inr (inr (inr (inl (h.0, refl, (h.1, h.2)))))
    from rels.Above u h = inr (inr (inr (inr (inl (h.0, refl, (h.1, h.2))))))
    from rels.AtLeast u h = inr (inr (inr (inr (inr (h.0, refl, (h.1, h.2))))))

pub Exact-rel : Exact (rel true) (rel true) REL false [] rel_read rel_read
unfolding rel_read
Exact-rel = Exact-same (rel true) (rel true) to from to (Exact-lined rel_made Exact-rel-kind)
  where
    to : (x : Rel) (u : List Token) → Lined rel_made rel_at x u → rel true x u
    to x u h = subst (λ y. rel true y u) (sym h.1) (h.2, λ _. refl)

    from : (x : Rel) (u : List Token) → rel true x u → Lined rel_made rel_at x u
    from x u h = (x.kind, λ i. record { line = h.1 refl i; kind = x.kind }, h.0)

pub Exact-relation : (b c : ℕ) → b < c → Exact (relation true b) (relation true c) FACTOR false PAST_EXPR (relation_read b) (relation_read c)
unfolding relation_read
Exact-relation b c h = Exact-same (relation true b) (relation true c) (to b) from (to c)
    (Exact-lined relation_made (Exact-pair (Exact-expr b c h) (Exact-pair Exact-rel (Exact-expr b c h) refl) refl))
  where
    to : (b : ℕ) (x : Relation) (u : List Token)
        → Lined relation_made (λ (p : Expr × (Rel × Expr)). expr true b p.0 · (rel true p.1.0 · expr true b p.1.1)) x u
        → relation true b x u
    to b x u h = subst (λ y. relation true b y u) (sym h.1) (h.2, λ _. refl)

    from : (x : Relation) (u : List Token) → relation true b x u
        → Lined relation_made (λ (p : Expr × (Rel × Expr)). expr true b p.0 · (rel true p.1.0 · expr true b p.1.1)) x u
    from x u h = ((x.left, (x.rel, x.right)), λ i. record { line = h.1 refl i; left = x.left; rel = x.rel; right = x.right }, h.0)

pub Exact-and : (b c : ℕ) → b < c → Exact (λ r. word AND · relation true b r) (λ r. word AND · relation true c r) AND false PAST_EXPR (and_read b) (and_read c)
unfolding and_read
Exact-and b c h = Exact-after AND (a_keyword 52) refl (Exact-relation b c h)

pub Exact-conj : (b c : ℕ) → b < c → Exact (conj true b) (conj true c) FACTOR false PAST_CONJ (conj_read b) (conj_read c)
unfolding conj_read
Exact-conj b c h = Exact-same (conj true b) (conj true c) (to b) from (to c)
    (Exact-weak FACTOR PAST_CONJ (Exact-lined conj_made (Exact-pair (Exact-relation b c h) (Exact-many (Exact-and b c h) refl) refl)) refl refl)
  where
    to : (b : ℕ) (x : Conj) (u : List Token) → Lined conj_made
        (λ (p : Relation × List Relation). relation true b p.0 · each (λ r. word AND · relation true b r) p.1) x u
        → conj true b x u
    to b x u h = subst (λ y. conj true b y u) (sym h.1) (h.2, λ _. refl)

    from : (x : Conj) (u : List Token) → conj true b x u
        → Lined conj_made (λ (p : Relation × List Relation). relation true b p.0 · each
        (λ r. word AND · relation true b r) p.1) x u
    from x u h = ((x.first, x.rest), λ i. record { line = h.1 refl i; first = x.first; rest = x.rest }, h.0)

pub Exact-or : (b c : ℕ) → b < c → Exact (λ j. word OR · conj true b j) (λ j. word OR · conj true c j) OR false PAST_CONJ (or_read b) (or_read c)
unfolding or_read
Exact-or b c h = Exact-after OR (a_keyword 53) refl (Exact-conj b c h)

pub Exact-cond : (b c : ℕ) → b < c → Exact (cond_of true b) (cond_of true c) FACTOR false PAST_COND (cond_read b) (cond_read c)
unfolding cond_read
Exact-cond b c h = Exact-same (cond_of true b) (cond_of true c) (to b) from (to c)
    (Exact-weak FACTOR PAST_COND (Exact-lined cond_made (Exact-pair (Exact-conj b c h) (Exact-many (Exact-or b c h) refl) refl)) refl refl)
  where
    to : (b : ℕ) (x : Cond) (u : List Token) → Lined cond_made
        (λ (p : Conj × List Conj). conj true b p.0 · each (λ j. word OR · conj true b j) p.1) x u → cond_of true b x u
    to b x u h = subst (λ y. cond_of true b y u) (sym h.1) (h.2, λ _. refl)

    from : (x : Cond) (u : List Token) → cond_of true b x u
        → Lined cond_made (λ (p : Conj × List Conj). conj true b p.0 · each (λ j. word OR · conj true b j) p.1) x u
    from x u h = ((x.first, x.rest), λ i. record { line = h.1 refl i; first = x.first; rest = x.rest }, h.0)

-- lists and receivers

pub Exact-comma-name : Exact (λ n. word COMMA · named true n) (λ n. word COMMA · named true n) COMMA false [] comma_name_read comma_name_read
unfolding comma_name_read
Exact-comma-name = Exact-after COMMA (a_mark 1) refl Exact-name

pub Exact-names : Exact (names true) (names true) WITH false COMMA names_read names_read
unfolding names_read
Exact-names = Exact-same (names true) (names true) to from to
    (Exact-lined names_made (Exact-after WITH (a_keyword 43) refl (Exact-pair Exact-name (Exact-many Exact-comma-name refl) refl)))
  where
    to : (x : Names) (u : List Token) → Lined names_made
        (λ (p : Named × List Named). word WITH · (named true p.0 · each (λ n. word COMMA · named true n) p.1)) x u
        → names true x u
    to x u h = subst (λ y. names true y u) (sym h.1) (h.2, λ _. refl)

    from : (x : Names) (u : List Token) → names true x u
        → Lined names_made (λ (p : Named × List Named). word WITH ·
        (named true p.0 · each (λ n. word COMMA · named true n) p.1)) x u
    from x u h = ((x.first, x.rest), λ i. record { line = h.1 refl i; first = x.first; rest = x.rest }, h.0)

pub Exact-comma-expr : (b c : ℕ) → b < c → Exact (λ e. word COMMA · expr true b e) (λ e. word COMMA · expr true c e)
    COMMA false PAST_EXPR (comma_expr_read b) (comma_expr_read c)
unfolding comma_expr_read
Exact-comma-expr b c h = Exact-after COMMA (a_mark 1) refl (Exact-expr b c h)

pub Exact-exprs : (b c : ℕ) → b < c → Exact (exprs true b) (exprs true c) WITH false PAST_EXPRS (exprs_read b) (exprs_read c)
unfolding exprs_read
Exact-exprs b c h = Exact-same (exprs true b) (exprs true c) (to b) from (to c)
    (Exact-weak WITH PAST_EXPRS (Exact-lined exprs_made
    (Exact-after WITH (a_keyword 43) refl (Exact-pair (Exact-expr b c h) (Exact-many (Exact-comma-expr b c h) refl)
    refl))) refl refl)
  where
    to : (b : ℕ) (x : Exprs) (u : List Token) → Lined exprs_made
        (λ (p : Expr × List Expr). word WITH · (expr true b p.0 · each (λ e. word COMMA · expr true b e) p.1)) x u
        → exprs true b x u
    to b x u h = subst (λ y. exprs true b y u) (sym h.1) (h.2, λ _. refl)

    from : (x : Exprs) (u : List Token) → exprs true b x u
        → Lined exprs_made (λ (p : Expr × List Expr). word WITH ·
        (expr true b p.0 · each (λ e. word COMMA · expr true b e) p.1)) x u
    from x u h = ((x.first, x.rest), λ i. record { line = h.1 refl i; first = x.first; rest = x.rest }, h.0)

-- what names the receiver, and the word before it
abbrev Receivers : ReferenceKind → Lang
Receivers = Either (Lined (λ _ (v : Named). references.Held v) (λ v. word OPEN · (named true v · word CLOSE)))
    (Lined (λ _ (m : Named). references.Block m) (named true))

pub Exact-reference : Exact (reference true) (reference true) REFERENCE false [] reference_read reference_read
unfolding reference_read receiver_kind_read held_read
Exact-reference = Exact-same (reference true) (reference true) to from to
    (Exact-lined reference_made (Exact-after REFERENCE (a_keyword 44) refl
    (Exact-branch OPEN (Exact-lined (λ _ (v : Named). references.Held v) (Exact-after OPEN (a_mark 2) refl (Exact-ended CLOSE (a_mark 3) refl Exact-name refl)))
    (Exact-lined (λ _ (m : Named). references.Block m) Exact-name) refl refl)))
  where
    kind_to : (k : ReferenceKind) (u : List Token) → (word REFERENCE · Receivers k) u → reference_at true k u
    kind_to k u (a, b, e, w, inl h) = subst (λ y. reference_at true y u) (sym h.1) (a, b, e, w, h.2)
    kind_to k u (a, b, e, w, inr h) = subst (λ y. reference_at true y u) (sym h.1) (a, b, e, w, h.2)

    kind_from : (k : ReferenceKind) (u : List Token) → reference_at true k u → (word REFERENCE · Receivers k) u
    kind_from (references.Block m) u h = (h.0, h.1, h.2, h.3, inr (m, refl, h.4))
    kind_from (references.Held v) u h = (h.0, h.1, h.2, h.3, inl (v, refl, h.4))

    to : (x : Reference) (u : List Token) → Lined reference_made (λ k. word REFERENCE · Receivers k) x u → reference true x u
    to x u h = subst (λ y. reference true y u) (sym h.1) (kind_to h.0 u h.2, λ _. refl)

    from : (x : Reference) (u : List Token) → reference true x u → Lined reference_made (λ k. word REFERENCE · Receivers k) x u
    from x u h = (x.kind, λ i. record { line = h.1 refl i; kind = x.kind }, kind_from x.kind u h.0)
