-- Items and blocks are read exactly.
use Rattle.std.proofs.Common.{ℕ, ◌<◌, true, false, List, [], ◌++◌, Option, Some, None, refl, sym}
use Rattle.std.proofs.Common.{subst, inl, inr}
use Rattle.plex_lexer.specs.declared.token.Token.{Token}
use Rattle.token_grammar.specs.declared.named.Named.{Named}
use Rattle.token_grammar.specs.Language.{Lang, word, ◌·◌, on, each, maybe, line_at, named, NAME}
use Rattle.token_grammar.proofs.Exact.{Exact, Exact-word, Exact-pair, Exact-same, Exact-lined}
use Rattle.token_grammar.proofs.Exact.{Exact-branch, Exact-many, Exact-after, Exact-ended, Either}
use Rattle.token_grammar.proofs.Exact.{Lined, one, then_to, three_left, three_right}
use Rattle.token_grammar.proofs.Words.{a_keyword, a_mark, Exact-name}
use Rattle.plex_ast.specs.declared.expr.Expr.{Expr}
use Rattle.plex_ast.specs.declared.stmt.Names.{Names}
use Rattle.plex_ast.specs.declared.block.Item.{Item}
use Rattle.plex_ast.specs.declared.block.ItemKind.{ItemKind}
use Rattle.plex_ast.specs.declared.block.ItemKind.TheVariants as items
use Rattle.plex_ast.specs.declared.block.Survey.{Survey}
use Rattle.plex_ast.specs.declared.block.Decl.{Decl}
use Rattle.plex_ast.specs.declared.block.Block.{Block}
use Rattle.plex_ast.specs.Words.{BLOCK, DECLARE, SURVEY, PROGRAM, END, ENTER, SEMI, OPEN, CLOSE}
use Rattle.plex_ast.specs.Words.{EQUAL}
use Rattle.plex_ast.specs.Grammar.{names, body, item_at, item, survey, decl, block}
use Rattle.plex_parser.specs.Statements.{assign_made}
use Rattle.declaration_parser.proofs.Declaring.{SurveyPart, Exact-surveys, DeclPart, Exact-decls}
use Rattle.plex_parser.specs.Blocks.{name_tail_read, stmt_item, name_item, name_item_read}
use Rattle.plex_parser.specs.Blocks.{enter_read, stmt_item_read, item_kind_read, item_made}
use Rattle.plex_parser.specs.Blocks.{item_read, ITEM, end_read, program_read, Parts, block_made}
use Rattle.plex_parser.specs.Blocks.{block_read}
use Rattle.plex_parser.proofs.PlainStatements.{Assigned, Exact-assigned, Exact-taken}
use Rattle.plex_parser.proofs.Statements.{ByOther, kind_to, kind_from, Exact-other}

-- items

abbrev NameTail : ℕ → Option (Option Named × Expr) → Lang
NameTail b None = word CLOSE
NameTail b (Some p) = Assigned b p

abbrev NameTails : ℕ → Option (Option Named × Expr) → Lang
NameTails b = Either (Lined (λ _ (t : Token). None) (one CLOSE)) (Lined (λ _ (p : Option Named × Expr). Some p) (Assigned b))

Exact-name-tail : (b c : ℕ) → b < c → Exact (NameTail b) (NameTail c) (CLOSE ++ (OPEN ++ EQUAL)) false [] (name_tail_read b) (name_tail_read c)
unfolding name_tail_read
Exact-name-tail b c h = Exact-same (NameTail b) (NameTail c) (to b) from (to c)
    (Exact-branch CLOSE (Exact-lined (λ _ (t : Token). None) (Exact-word CLOSE (a_mark 3) refl))
    (Exact-lined (λ _ (p : Option Named × Expr). Some p) (Exact-assigned b c h)) refl refl)
  where
    to : (b : ℕ) (x : Option (Option Named × Expr)) (u : List Token) → NameTails b x u → NameTail b x u
    to b x u (inl h) = subst (λ y. NameTail b y u) (sym h.1) (h.0, h.2.0, h.2.1)
    to b x u (inr h) = subst (λ y. NameTail b y u) (sym h.1) h.2

    from : (x : Option (Option Named × Expr)) (u : List Token) → NameTail b x u → NameTails b x u
    from None u h = inl (h.0, refl, (h.1, h.2))
    from (Some p) u h = inr (p, refl, h)

abbrev ByNameItem : ℕ → ItemKind → Lang
ByNameItem b = Lined name_item (λ (p : Named × Option (Option Named × Expr)). named true p.0 · NameTail b p.1)

abbrev ByEnter : ItemKind → Lang
ByEnter = Lined (λ _ (p : Named × Option Names). items.Enter p.0 p.1) (λ p. word ENTER · (named true p.0 · (maybe (names true) p.1 · word SEMI)))

abbrev Items : ℕ → ℕ → ItemKind → Lang
Items b n = Either (ByNameItem b) (Either ByEnter (Lined stmt_item (ByOther b (body true b n))))

items_to : (b n : ℕ) (x : ItemKind) (u : List Token) → Items b n x u → item_at true b n x u
items_to b n x u (inl h) = subst (λ y. item_at true b n y u) (sym h.1) (ends h.0 h.2)
  where
    ends : (p : Named × Option (Option Named × Expr)) → (named true p.0 · NameTail b p.1) u → item_at true b n (name_item (line_at u) p) u
    ends (m, None) k = k
    ends (m, Some p) k = (kind_to b (body true b n) (assign_made m p) u (inl (m, p, refl, k)), λ _. refl)
items_to b n x u (inr (inl h)) = subst (λ y. item_at true b n y u) (sym h.1) h.2
items_to b n x u (inr (inr h)) = subst (λ y. item_at true b n y u) (sym h.1) (kind_to b (body true b n) h.0 u (inr h.2), λ _. refl)

items_from : (b n : ℕ) (x : ItemKind) (u : List Token) → item_at true b n x u → Items b n x u
items_from b n (items.Label m) u h = inl ((m, None), refl, h)
items_from b n (items.Enter m ns) u h = inr (inl ((m, ns), refl, h))
items_from b n (items.Stmt x) u h = elim (kind_from b (body true b n) x.kind u h.0) [
  | inl k ↦ inl ((k.0, Some k.1), λ i. items.Stmt (record { line = h.1 refl i; kind = k.2 i }), k.3)
  | inr k ↦ inr (inr (x.kind, λ i. items.Stmt (record { line = h.1 refl i; kind = x.kind }), k))
]

Exact-item-kind : (b c : ℕ) → b < c → (m n : ℕ) → m < n → Exact (item_at true b m) (item_at true c n) ITEM false [] (item_kind_read b m) (item_kind_read c n)
unfolding item_kind_read name_item_read enter_read stmt_item_read
Exact-item-kind b c h m n k = Exact-same (item_at true b m) (item_at true c n) (items_to b m) (items_from b m) (items_to c n)
    (Exact-branch NAME (Exact-lined name_item (Exact-pair Exact-name (Exact-name-tail b c h) refl))
    (Exact-branch ENTER (Exact-lined (λ _ (p : Named × Option Names). items.Enter p.0 p.1)
    (Exact-after ENTER (a_keyword 42) refl
    (Exact-pair Exact-name (Exact-ended SEMI (a_mark 0) refl Exact-taken refl) refl)))
    (Exact-lined stmt_item (Exact-other b c h m n k)) refl refl) refl refl)

pub Exact-item : (b c : ℕ) → b < c → (m n : ℕ) → m < n → Exact (item true b m) (item true c n) ITEM false [] (item_read b m) (item_read c n)
unfolding item_read
Exact-item b c h m n k = Exact-same (item true b m) (item true c n) (to b m) from (to c n) (Exact-lined item_made (Exact-item-kind b c h m n k))
  where
    to : (b m : ℕ) (x : Item) (u : List Token) → Lined item_made (item_at true b m) x u → item true b m x u
    to b m x u h = subst (λ y. item true b m y u) (sym h.1) (h.2, λ _. refl)

    from : (x : Item) (u : List Token) → item true b m x u → Lined item_made (item_at true b m) x u
    from x u h = (x.kind, λ i. record { line = h.1 refl i; kind = x.kind }, h.0)

-- blocks

abbrev Ends : ℕ → Lang
Ends line = on true line (word END · (word BLOCK · word SEMI))

Exact-end : Exact Ends Ends END false [] end_read end_read
unfolding end_read
Exact-end = Exact-same Ends Ends to from to
    (Exact-lined (λ line (t : Token). line) (Exact-after END (a_keyword 22) refl (Exact-after BLOCK (a_keyword 8) refl (Exact-word SEMI (a_mark 0) refl))))
  where
    to : (x : ℕ) (u : List Token) → Lined (λ line (t : Token). line) (λ t. word END · (word BLOCK · one SEMI t)) x u → Ends x u
    to x u h = let k = h.2 in ((k.0, k.1, k.2, k.3, (k.4.0, k.4.1, k.4.2, k.4.3, (h.0, k.4.4.0, k.4.4.1))), λ _. h.1)

    from : (x : ℕ) (u : List Token) → Ends x u → Lined (λ line (t : Token). line) (λ t. word END · (word BLOCK · one SEMI t)) x u
    from x u h = let k = h.0 in (k.4.4.0, h.1 refl, (k.0, k.1, k.2, k.3, (k.4.0, k.4.1, k.4.2, k.4.3, (k.4.4.1, k.4.4.2))))

abbrev Program : ℕ → ℕ → List Item × ℕ → Lang
Program b n p = word PROGRAM · (word SEMI · (each (item true b n) p.0 · Ends p.1))

Exact-program : (b c : ℕ) → b < c → (m n : ℕ) → m < n → Exact (Program b m) (Program c n) PROGRAM false [] (program_read b m) (program_read c n)
unfolding program_read
Exact-program b c h m n k = Exact-after PROGRAM (a_keyword 21) refl
    (Exact-after SEMI (a_mark 0) refl (Exact-pair (Exact-many (Exact-item b c h m n k) refl) Exact-end refl))

abbrev BlockLang : ℕ → ℕ → Parts → Lang
BlockLang b n p = word BLOCK · (named true p.0 · (word SEMI · (DeclPart p.1.0 · (SurveyPart p.1.1.0 · Program b n p.1.1.1))))

-- the parts of a block one after the other, as the grammar says them
module _ (b n : ℕ) (ds : List Decl) (xs : List Survey) (p : List Item × ℕ) where
  abbrev FromSurvey : Lang
  FromSurvey = word SURVEY · (word SEMI · (each (survey true) xs · Program b n p))

  abbrev FromDecls : Lang
  FromDecls = word DECLARE · (word SEMI · (each (decl true) ds · FromSurvey))

  surveys_apart : (u : List Token) → (SurveyPart xs · Program b n p) u → FromSurvey u
  surveys_apart = three_right (word SURVEY) (word SEMI) (each (survey true) xs) (Program b n p)

  surveys_joined : (u : List Token) → FromSurvey u → (SurveyPart xs · Program b n p) u
  surveys_joined = three_left (word SURVEY) (word SEMI) (each (survey true) xs) (Program b n p)

  parts_apart : (u : List Token) → (DeclPart ds · (SurveyPart xs · Program b n p)) u → FromDecls u
  parts_apart u h = three_right (word DECLARE) (word SEMI) (each (decl true) ds) FromSurvey u
      (then_to (DeclPart ds) (SurveyPart xs · Program b n p) FromSurvey surveys_apart u h)

  parts_joined : (u : List Token) → FromDecls u → (DeclPart ds · (SurveyPart xs · Program b n p)) u
  parts_joined u h = then_to (DeclPart ds) FromSurvey (SurveyPart xs · Program b n p) surveys_joined u
      (three_left (word DECLARE) (word SEMI) (each (decl true) ds) FromSurvey u h)

pub Exact-block : (b c : ℕ) → b < c → (m n : ℕ) → m < n → Exact (block true b m) (block true c n) BLOCK false [] (block_read b m) (block_read c n)
unfolding block_read
Exact-block b c h m n k = Exact-same (block true b m) (block true c n) (to b m) from (to c n)
    (Exact-lined block_made (Exact-after BLOCK (a_keyword 8) refl
    (Exact-pair Exact-name (Exact-after SEMI (a_mark 0) refl
    (Exact-pair Exact-decls (Exact-pair Exact-surveys (Exact-program b c h m n k) refl) refl)) refl)))
  where
    to : (b m : ℕ) (x : Block) (u : List Token) → Lined block_made (BlockLang b m) x u → block true b m x u
    to b m x u (p, e, h) = subst (λ y. block true b m y u) (sym e) (
      (
        h.0,
        h.1,
        h.2,
        h.3,
        (
          h.4.0,
          h.4.1,
          h.4.2,
          h.4.3,
          (h.4.4.0, h.4.4.1, h.4.4.2, h.4.4.3, parts_apart b m p.1.0 p.1.1.0 p.1.1.1 h.4.4.1 h.4.4.4),
        ),
      ),
      λ _. refl,
    )

    from : (x : Block) (u : List Token) → block true b m x u → Lined block_made (BlockLang b m) x u
    from x u (h, l) = (
      (x.name, (x.decls, (x.surveys, (x.items, x.end_line)))),
      λ i. record { line = l refl i; name = x.name; decls = x.decls; surveys = x.surveys; items = x.items; end_line = x.end_line },
      (
        h.0,
        h.1,
        h.2,
        h.3,
        (
          h.4.0,
          h.4.1,
          h.4.2,
          h.4.3,
          (
            h.4.4.0,
            h.4.4.1,
            h.4.4.2,
            h.4.4.3,
            parts_joined b m x.decls x.surveys (x.items, x.end_line) h.4.4.1
                h.4.4.4,
          ),
        ),
      ),
    )
