-- The grammar of blocks and a whole exchange, read by descent with one token of sight.
use Rattle.std.specs.Prelude.{ℕ, List, ◌++◌, Option, Some, None}
use Rattle.plex_lexer.specs.declared.token.Token.{Token}
use Rattle.token_grammar.specs.declared.named.Named.{Named}
use Rattle.token_grammar.specs.Language.{NAME}
use Rattle.token_grammar.specs.Reading.{Reader, word_of, many, branch, lined, after, ended, pair}
use Rattle.token_grammar.specs.Reading.{name_read}
use Rattle.plex_ast.specs.declared.expr.Expr.{Expr}
use Rattle.plex_ast.specs.declared.stmt.Names.{Names}
use Rattle.plex_ast.specs.declared.stmt.StmtKind.{StmtKind}
use Rattle.plex_ast.specs.declared.block.Item.{Item}
use Rattle.plex_ast.specs.declared.block.ItemKind.{ItemKind}
use Rattle.plex_ast.specs.declared.block.ItemKind.TheVariants as items
use Rattle.plex_ast.specs.declared.block.Survey.{Survey}
use Rattle.plex_ast.specs.declared.block.Decl.{Decl}
use Rattle.plex_ast.specs.declared.block.Block.{Block}
use Rattle.plex_ast.specs.declared.tree.Signal.{Signal}
use Rattle.plex_ast.specs.declared.tree.Tree.{Tree}
use Rattle.plex_ast.specs.Words.{SIGNAL, BLOCK, PROGRAM, END, ENTER, SEMI, CLOSE}
use Rattle.declaration_parser.specs.Declarations.{decls_read, surveys_read}
use Rattle.declaration_parser.specs.Signals.{signal_read}
use Rattle.plex_parser.specs.Statements.{assigned_read, assign_made, taken_read, PLAIN, HELD}
use Rattle.plex_parser.specs.Statements.{other_at, body_read}

-- items: a name may begin a label or an assignment, and what follows the name tells

unfoldable pub name_tail_read : ℕ → Reader (Option (Option Named × Expr))
name_tail_read b = branch CLOSE (lined (λ _ (t : Token). None) (word_of CLOSE))
    (lined (λ _ (p : Option Named × Expr). Some p) (assigned_read b))

abbrev pub stmt_item : ℕ → StmtKind → ItemKind
stmt_item line k = items.Stmt (record { line = line; kind = k })

abbrev pub name_item : ℕ → Named × Option (Option Named × Expr) → ItemKind
name_item line (n, None) = items.Label n
name_item line (n, Some p) = stmt_item line (assign_made n p)

-- .. with this name on this line
abbrev pub named_item : ℕ → Named → Reader (Option (Option Named × Expr)) → Reader ItemKind
named_item line n r = lined (λ _ tail. name_item line (n, tail)) r

unfoldable pub name_item_read : ℕ → Reader ItemKind
name_item_read b = lined name_item (pair name_read (name_tail_read b))

unfoldable pub enter_read : Reader ItemKind
enter_read = lined (λ _ (p : Named × Option Names). items.Enter p.0 p.1)
    (after ENTER (pair name_read (ended taken_read SEMI)))

unfoldable pub stmt_item_read : ℕ → ℕ → Reader ItemKind
stmt_item_read b n = lined stmt_item (other_at b n (body_read b n))

unfoldable pub item_kind_read : ℕ → ℕ → Reader ItemKind
item_kind_read b n = branch NAME (name_item_read b) (branch ENTER enter_read (stmt_item_read b n))

abbrev pub item_made : ℕ → ItemKind → Item
item_made line k = record { line = line; kind = k }

unfoldable pub item_read : ℕ → ℕ → Reader Item
item_read b n = lined item_made (item_kind_read b n)

abbrev pub ITEM : List ℕ
ITEM = NAME ++ (ENTER ++ (PLAIN ++ HELD))

-- blocks

unfoldable pub end_read : Reader ℕ
end_read = lined (λ line (t : Token). line) (after END (after BLOCK (word_of SEMI)))

unfoldable pub program_read : ℕ → ℕ → Reader (List Item × ℕ)
program_read b n = after PROGRAM (after SEMI (pair (many ITEM (item_read b n)) end_read))

abbrev pub Parts : Type 0
Parts = Named × (List Decl × (List Survey × (List Item × ℕ)))

abbrev pub block_made : ℕ → Parts → Block
block_made line p = record {
  line = line;
  name = p.0;
  decls = p.1.0;
  surveys = p.1.1.0;
  items = p.1.1.1.0;
  end_line = p.1.1.1.1;
}

abbrev pub parts_read : ℕ → ℕ → Reader (List Decl × (List Survey × (List Item × ℕ)))
parts_read b n = pair decls_read (pair surveys_read (program_read b n))

unfoldable pub block_read : ℕ → ℕ → Reader Block
block_read b n = lined block_made (after BLOCK (pair name_read (after SEMI (parts_read b n))))

-- an exchange, which may be empty

unfoldable pub lists_read : ℕ → ℕ → Reader (List Signal × List Block)
lists_read b n = pair (many SIGNAL signal_read) (many BLOCK (block_read b n))

abbrev pub tree_made : ℕ → List Signal × List Block → Tree
tree_made line p = record { line = line; signals = p.0; blocks = p.1 }

unfoldable pub tree_read : ℕ → ℕ → Reader Tree
tree_read b n = lined tree_made (lists_read b n)
