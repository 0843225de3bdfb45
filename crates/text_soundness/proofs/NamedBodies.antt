-- The statements of a block, at whatever depth, and its items.
use Rattle.std.proofs.Common.{◌≡◌, ℕ, ◌+◌, true, false, List, [], ◌∷◌, length, map, sym, ◌∙◌, ap}
use Rattle.std.proofs.Common.{subst, suc, zero, slice_get}
use Rattle.token_grammar.specs.declared.named.Named.{Named}
use Rattle.plex_ast.specs.declared.stmt.Stmt.{Stmt}
use Rattle.plex_ast.specs.declared.stmt.StmtKind.{out-StmtKind}
use Rattle.plex_ast.specs.declared.block.Block.{Block as TreeBlock}
use Rattle.plex_ast.specs.declared.block.Item.{Item}
use Rattle.plex_ast.specs.declared.block.ItemKind.{ItemKind}
use Rattle.plex_ast.specs.declared.block.ItemKind.TheVariants as items
use Rattle.kept_trees.specs.Keeps.{Every, KeepsStmtWith, KeepsBody, KeepsItem}
use Rattle.exchange_model.specs.declared.stmt.StmtKind.TheVariants as stmt
use Rattle.exchange_model.specs.Fits.{Scope, EnterFits}
use Rattle.text_events.specs.Note.{Event}
use Rattle.text_events.specs.Note.{Head}
use Rattle.text_events.specs.Note as note
use Rattle.text_events.specs.declared.role.Meaning.TheVariants as meaning
use Rattle.text_events.specs.Note.{Note}
use Rattle.text_events.specs.Note.{Begins, Declares, Names}
use Rattle.text_events.specs.declared.role.Role.TheVariants as role
use Rattle.text_events.specs.Walk.{EventWalk, add, first_head, list_walk, body_walk, kind_head}
use Rattle.text_events.specs.Walk.{kind_own, stmt_walk, names_of}
use Rattle.text_events.specs.Blocks.{labels_of, item_head_at, item_walk_at, first_item, items_walk}
use Rattle.text_rules.specs.Blocks.{stands, other_data}
use Rattle.signal_types.specs.Found.{number_in, kind_in}
use Rattle.resolved_block.specs.Expressions.{typed_temps}
use Rattle.resolved_block.specs.Names.{Env}
use Rattle.resolved_block.specs.Meant.{signal_of}
use Rattle.resolved_block.specs.Statements.{typed_stmt, typed_list}
use Rattle.resolved_block.specs.Blocks.{kind_made, items_made}
use Rattle.exchange_model.specs.Everywhere.{AllIn}
use Rattle.text_soundness.specs.Shares.{NamesStand}
use Rattle.text_soundness.proofs.ServedWalks.{Tells, tells_none, tells_add, tells_then, tells_so}
use Rattle.text_soundness.proofs.ServedWalks.{tells_same}
use Rattle.text_events.proofs.Layers.{opened, kind_walk-out, stmt_walk-out}
use Rattle.resolved_block.proofs.Turns.{typed_kind-out, typed_stmt-at}
use Rattle.text_soundness.proofs.NamedLists.{temps_count, names_tell}
use Rattle.text_soundness.proofs.NamedMeant.{kind_of_number, enter_fits}
use Rattle.text_soundness.proofs.NamedKinds.{Standing, made_fine, env, So, Fine, temporary_so}
use Rattle.text_soundness.proofs.NamedKinds.{kind_tells}

module _ (s : Scope) (first : ℕ) (events : List Event) (blocks : List TreeBlock) (own : TreeBlock) (st : Standing s first events blocks own) where
  abbrev Is : Note → Type 0
  Is = So s first events blocks own st

  abbrev around : Env
  around = env s first events blocks own st

  module _ (b : ℕ) (B : List Stmt → Type 0) (body : (xs : List Stmt) → B xs → (p : ℕ)
      → Tells Is (body_walk (map stmt_walk xs)) (AllIn (NamesStand s) (typed_list around xs p).0)) where
    -- the walk of a statement, by the layer of its kind
    abbrev laid : (x : Stmt) (before after : Head) → EventWalk
    laid x before after out = kind_own (opened (out-StmtKind x.kind)) (length out)
        (add x.line (Begins (kind_head (opened (out-StmtKind x.kind))) before after) out)

    laid_tells : (x : Stmt) → KeepsStmtWith b B x → (before after : Head) (p : ℕ) → Tells Is (laid x before after) (Fine s (typed_stmt around x p).0.kind)
    laid_tells x kept before after p =
        let made = ap (λ m. m.0.kind) (typed_stmt-at around x p) ∙ ap (λ g. (g (p + 1)).0) (typed_kind-out around x.kind) in
        subst (λ k. Tells Is (laid x before after) (Fine s k)) (sym made) (record {
          sound = λ out all.
              let note = Begins (kind_head (opened (out-StmtKind x.kind))) before after in
              let told = (kind_tells s first events blocks own st b B body (out-StmtKind x.kind) kept (length out) (p + 1)).sound (add x.line note out) all in
              let begun = (tells_add Is x.line note).sound out told.0 in
              (begun.0, told.1 begun.1);
        })

    pub stmt_tells : (x : Stmt) → KeepsStmtWith b B x → (before after : Head) (p : ℕ)
        → Tells Is ((stmt_walk x).walk before after) (Fine s (typed_stmt around x p).0.kind)
    stmt_tells x kept before after p =
        tells_same Is _ _ _ (λ out. ap (λ w. w.walk before after out) (stmt_walk-out x)
        ∙ ap (λ k. k.walk (length out) (add x.line (Begins k.head before after) out)) (kind_walk-out x.kind))
        (laid_tells x kept before after p)

    pub list_tells : (xs : List Stmt) → Every (KeepsStmtWith b B) xs → (before : Head) (p : ℕ)
        → Tells Is (list_walk (map stmt_walk xs) before) (AllIn (NamesStand s) (typed_list around xs p).0)
    list_tells [] kept before p = tells_none Is
    list_tells (x ∷ xs) kept before p =
        tells_then Is _ _ _ _ (stmt_tells x kept.0 before (first_head (map stmt_walk xs)) p) (list_tells xs kept.1 (stmt_walk x).head (typed_stmt around x p).1)

  pub body_tells : (b n : ℕ) (xs : List Stmt) → KeepsBody b n xs → (p : ℕ)
      → Tells Is (body_walk (map stmt_walk xs)) (AllIn (NamesStand s) (typed_list around xs p).0)
  unfolding KeepsBody
  body_tells b zero xs kept p = absurd kept
  body_tells b (suc n) xs kept p = list_tells b (KeepsBody b n) (body_tells b n) xs kept note.Nothing p

  enter_names : (n : Named) (count many : ℕ) → count ≡ many → stands role.Received (kind_in s.signals n.name) ≡ true
      → other_data count (kind_in s.signals n.name) ≡ false → EnterFits (slice_get s.signals (signal_of around n)) many
  enter_names n count many same stand carried =
      let fits = subst (EnterFits (kind_in s.signals n.name)) same (enter_fits (kind_in s.signals n.name) count stand carried) in
      subst (λ k. EnterFits k many) (sym (kind_of_number s.signals (number_in s.signals n.name) role.Received stand)) fits

  pub items_tell : (b n : ℕ) (xs : List Item) → Every (KeepsItem b n) xs → (k : ℕ) (before : Head) (p : ℕ)
      → Tells Is (items_walk xs k before) (AllIn (NamesStand s) (items_made around xs p).0)
  unfolding items_made
  items_tell b n [] kept k before p = tells_none Is
  items_tell b n (x ∷ xs) kept k before p = here x.kind kept.0 (items_tell b n xs kept.1)
    where
      here : (kind : ItemKind) → KeepsItem b n (record { line = x.line; kind = kind })
          → ((k : ℕ) (before : Head) (p : ℕ) → Tells Is (items_walk xs k before)
          (AllIn (NamesStand s) (items_made around xs p).0)) →
          Tells Is (λ out. items_walk xs (k + labels_of kind) (item_head_at kind)
          (item_walk_at kind x.line k before (first_item xs) out))
          (AllIn (NamesStand s) (kind_made around x.line kind (items_made around xs) p).0)
      here (items.Label l) kept rest = tells_so Is _ _ _ (λ y. y.1)
          (tells_then Is _ _ _ _ (tells_add Is l.line (Declares l.name (meaning.Label k))) (rest (k + 1) note.Other p))
      here (items.Enter m ns) kept rest =
          let temps = typed_temps around ns in
          let many = note.Enters m.name (length (names_of ns)) in
          tells_so Is _ _ _ (λ y. (
            made_fine s _ _ (stmt.outs-Enter _ _)
                (record {
                  names = (
                    enter_names m (length (names_of ns)) (length temps) (temps_count around ns) y.0.0.1
                        y.0.0.0,
                    y.0.1,
                  );
                  exprs = tt;
                }) tt,
            y.1,
          ))
          (tells_then Is _ _ _ _
          (tells_then Is _ _ _ _
          (tells_then Is _ _ _ _ (tells_add Is x.line (Begins many before (first_item xs))) (tells_add Is m.line (Names m.name role.Received)))
          (names_tell Is s around (temporary_so s first events blocks own st) ns))
          (rest (k + 0) many ((p + 1))))
      here (items.Stmt y) kept rest =
          tells_then Is _ _ _ _ (stmt_tells b (KeepsBody b n) (body_tells b n) y kept before (first_item xs) p)
          (rest (k + 0) (item_head_at (items.Stmt y)) (typed_stmt around y p).1)
