-- Each kind of statement, with what stands in it: made of its expressions and its lists.
use Rattle.std.proofs.Common.{◌≡◌, ℕ, ◌+◌, ◌≤◌, true, List, [], ◌∷◌, length, map, refl, ap, arith}
use Rattle.std.proofs.Common.{length-append, Some, None, Option}
use Rattle.std.proofs.Math.Nat.{max-le}
use Rattle.token_grammar.specs.declared.named.Named.{Named}
use Rattle.plex_ast.specs.declared.block.Block.{Block as TreeBlock}
use Rattle.plex_ast.specs.declared.stmt.Reference.{Reference}
use Rattle.plex_ast.specs.declared.stmt.ReferenceKind.{ReferenceKind}
use Rattle.plex_ast.specs.declared.stmt.ReferenceKind.TheVariants as references
use Rattle.plex_ast.specs.declared.stmt.Stmt.{Stmt}
use Rattle.plex_ast.specs.declared.stmt.When.{When, out-When}
use Rattle.plex_ast.specs.declared.stmt.StmtKind.{StmtKind, StmtKind-F}
use Rattle.plex_ast.specs.declared.stmt.StmtKind.TheOpen as tree
use Rattle.exchange_model.specs.declared.expr.Expr.{Expr as MExpr}
use Rattle.exchange_model.specs.declared.expr.Cond.{Cond as MCond}
use Rattle.exchange_model.specs.declared.stmt.Stmt.{Stmt as MStmt}
use Rattle.exchange_model.specs.declared.stmt.When.{When as MWhen}
use Rattle.exchange_model.specs.declared.stmt.StmtKind.{StmtKind as MKind}
use Rattle.exchange_model.specs.declared.stmt.StmtKind.{out-StmtKind as out-MKind}
use Rattle.exchange_model.specs.declared.stmt.StmtKind.TheOpen as layer
use Rattle.exchange_model.specs.declared.stmt.StmtKind.TheVariants as kind
use Rattle.exchange_model.specs.Fits.{Scope, ListsFit, awaited, retrieved, is_inner}
use Rattle.exchange_model.specs.Inside.{own_exprs, cond_exprs, spots, joined}
use Rattle.exchange_model.specs.PartCounts.{parts_depth, parts_spots, when_spots}
use Rattle.text_events.specs.Note.{Event}
use Rattle.text_events.specs.declared.role.Meaning.{Meaning}
use Rattle.text_events.specs.declared.role.Meaning.TheVariants.{Variable, Temporary, File, Field}
use Rattle.text_events.specs.declared.role.Meaning.TheVariants.{Label}
use Rattle.text_events.specs.Note.{Head}
use Rattle.text_events.specs.declared.role.Need.TheVariants as need
use Rattle.text_events.specs.declared.role.Role.TheVariants as role
use Rattle.text_events.specs.Note as note
use Rattle.text_events.specs.Walk.{OwnWalk, StmtWalk, add, in_turn, each_walk, list_walk, name_walk}
use Rattle.text_events.specs.Walk.{names_of, values_of, is_there, way_of, reference_kind_walk}
use Rattle.text_events.specs.Walk.{reference_walk, expr_walk, cond_walk, values_walk, stmt_walk}
use Rattle.text_events.specs.Walk.{when_walk, kind_head, kind_own}
use Rattle.text_rules.specs.declared.rule.BlockRule.TheVariants as rule
use Rattle.kept_trees.specs.Keeps.{KeepsKindAt, KeepsWhen}
use Rattle.resolved_block.specs.Meant.{target_in}
use Rattle.resolved_block.specs.Expressions.{typed_expr, typed_cond, typed_values}
use Rattle.resolved_block.specs.Names.{Env, Naming}
use Rattle.resolved_block.specs.Statements.{typed_list, typed_when, kind_layer}
use Rattle.resolved_block.specs.Statements.{in_turn as made_in_turn}
use Rattle.resolved_block.proofs.Turns.{opened}
use Rattle.exchange_model.specs.Everywhere.{Layer, PartsKeep}
use Rattle.text_soundness.specs.Shares.{PartsStand, ChoosesOnce}
use Rattle.text_soundness.proofs.BuiltText.{statement_in, begin_total, Begin, begin_all, begin_then}
use Rattle.text_soundness.proofs.BuiltText.{begin_add, Sound, sound_front, sound_last}
use Rattle.text_events.proofs.Layers.{opened as opened_walk}
use Rattle.text_soundness.proofs.BuiltLists.{text, KindMade, ListMade, AreMade, list_none}
use Rattle.text_soundness.proofs.Choices.{WhensMade, whens_made}
use Rattle.text_soundness.proofs.Operands.{gives_none, all_from}
use Rattle.text_soundness.proofs.OperandsLists.{ExprsGood, gives_within, gives_on, exprs_then}
use Rattle.text_soundness.proofs.OperandsLists.{expr_one, cond_good, values_good}
use Rattle.text_soundness.proofs.Pairs.{asked, retrieved_by, awaits_asked}

-- walks that only add events

pub begin_names : (ns : List Named) (out : List Event) → Begin out (in_turn (map name_walk ns) out)
begin_names [] out = begin_all out
begin_names (n ∷ ns) out = begin_then out (name_walk n out) _
    (begin_add out out n.line (note.Uses n.name need.Temporary) (begin_all out)) (begin_names ns (name_walk n out))

pub begin_reference : (r : Option Reference) (out : List Event) → Begin out (reference_walk r out)
begin_reference None out = begin_all out
begin_reference (Some r) out = here r.kind
  where
    here : (k : ReferenceKind) → Begin out (reference_kind_walk k out)
    here (references.Block m) = begin_all out
    here (references.Held v) = begin_add out out v.line (note.Uses v.name need.Value) (begin_all out)

no_exprs : (v : OwnWalk) → ((o : ℕ) (out : List Event) → Begin out (v o out)) → ExprsGood v []
no_exprs v begins = record { shallow = tt; gives = λ o out. gives_none o out (v o out) (begins o out) }

-- expressions after other events, and before others
exprs_after : (u w : OwnWalk) (es : List MExpr) → ((o : ℕ) (out : List Event) → Begin out (u o out)) → ExprsGood w es → ExprsGood (λ o out. w o (u o out)) es
exprs_after u w es begins g = record {
  shallow = g.shallow;
  gives = λ o out. gives_within o _ out (u o out) (w o (u o out)) (begins o out) (g.gives o (u o out));
}

exprs_before : (w v : OwnWalk) (es : List MExpr) → ((o : ℕ) (out : List Event) → Begin (w o out) (v o out)) → ExprsGood w es → ExprsGood v es
exprs_before w v es begins g = record { shallow = g.shallow; gives = λ o out. gives_on o _ out (w o out) (v o out) (g.gives o out) (begins o out) }

module _ (s : Scope) (whole : List Event) (blocks : List TreeBlock) where
  -- a kind in which no statement stands
  plain : (n : ℕ) (h : Head) (w : OwnWalk) (k : MKind) (l : Layer) → out-MKind k ≡ l → parts_depth l ≡ 0
      → parts_spots l ≡ [] → is_inner l ≡ true → retrieved l ≡ retrieved_by s.signals h → ChoosesOnce l → ListsFit s l
      → PartsKeep (PartsStand s) l → ((o : ℕ) (out : List Event) → Sound (text s whole blocks) (w o out)
      → awaited s.signals l ≡ asked s.signals h) → ExprsGood w (own_exprs l) → KindMade s whole blocks n h w k
  plain n h w k l is depth alone inner retrieves chosen lists parts awaits exprs = record {
    one = l;
    is = is;
    depth = omega (arith, depth);
    inner = inner;
    retrieves = retrieves;
    exprs = exprs;
    told = λ o out. omega (arith, ap length alone, begin_total statement_in out (w o out) (exprs.gives o out).begins);
    sound = λ o out sound. record { chosen = chosen; lists = lists; parts = parts; awaits = awaits o out sound };
  }

  target_made : (n : ℕ) (m : Option Meaning) (e : MExpr) (w : OwnWalk) → ExprsGood w (e ∷ []) → KindMade s whole blocks n note.Other w (target_in m e)
  target_made n (Some (Variable v)) e w g = plain n note.Other w _ (layer.SetVariable v e) (kind.outs-SetVariable v e)
      refl refl refl refl tt tt tt (λ o out sound. refl) g
  target_made n (Some (Temporary t)) e w g = plain n note.Other w _ (layer.SetTemp _ e) (kind.outs-SetTemp _ e) refl
      refl refl refl tt tt tt (λ o out sound. refl) g
  target_made n (Some (File f forlopp)) e w g = plain n note.Other w _ (layer.SetTemp 0 e) (kind.outs-SetTemp 0 e) refl
      refl refl refl tt tt tt (λ o out sound. refl) g
  target_made n (Some (Field f place)) e w g = plain n note.Other w _ (layer.SetTemp 0 e) (kind.outs-SetTemp 0 e) refl
      refl refl refl tt tt tt (λ o out sound. refl) g
  target_made n (Some (Label l)) e w g = plain n note.Other w _ (layer.SetTemp 0 e) (kind.outs-SetTemp 0 e) refl refl refl refl tt tt tt (λ o out sound. refl) g
  target_made n None e w g = plain n note.Other w _ (layer.SetTemp 0 e) (kind.outs-SetTemp 0 e) refl refl refl refl tt tt tt (λ o out sound. refl) g

  if_made : (n m : ℕ) → 1 + m ≤ n → (c : MCond) (w : OwnWalk) (first other : List StmtWalk) (xs ys : List MStmt)
      → ExprsGood w (cond_exprs c) → ListMade s whole blocks m first xs → ListMade s whole blocks m other ys
      → KindMade s whole blocks n note.Other (λ o out. list_walk other note.Nothing
      (list_walk first note.Nothing (w o out))) (kind.If c xs ys)
  if_made n m deep c w first other xs ys g a b = record {
    one = layer.If c xs ys;
    is = kind.outs-If c xs ys;
    depth = omega (arith, deep, max-le a.depth b.depth);
    inner = refl;
    retrieves = refl;
    exprs = exprs_before w _ (cond_exprs c) (λ o out. begin_then (w o out) _ _ (a.begins note.Nothing (w o out)) (b.begins note.Nothing _)) g;
    told = λ o out. omega (
      arith,
      length-append (spots xs) (spots ys),
      begin_total statement_in out (w o out)
          (g.gives o out).begins,
      a.told note.Nothing (w o out),
      b.told note.Nothing
          (list_walk first note.Nothing (w o out)),
    );
    sound = λ o out sound.
        let yes = a.sound note.Nothing (w o out) (sound_front (text s whole blocks) _ _ (b.begins note.Nothing _) sound) refl in
        let no_more = b.sound note.Nothing _ sound refl in
        record { chosen = tt; lists = ((a.inner, yes.paired), (b.inner, no_more.paired)); parts = (yes.all, no_more.all); awaits = refl };
  }

  case_made : (n m : ℕ) → 1 + m ≤ n → (e : MExpr) (w : OwnWalk) (walks : List OwnWalk) (other : List StmtWalk)
      (ws : List MWhen) (ys : List MStmt) → ExprsGood w (e ∷ []) → WhensMade s whole blocks m walks ws
      → ListMade s whole blocks m other ys → KindMade s whole blocks n note.Other
      (λ o out. list_walk other note.Nothing (each_walk walks o (w o out))) (kind.Case e ws ys)
  case_made n m deep e w walks other ws ys g a b = record {
    one = layer.Case e ws ys;
    is = kind.outs-Case e ws ys;
    depth = omega (arith, deep, max-le a.depth b.depth);
    inner = refl;
    retrieves = refl;
    exprs = exprs_before w _ (e ∷ []) (λ o out. begin_then (w o out) _ _ (a.begins o (w o out)) (b.begins note.Nothing _)) g;
    told = λ o out. omega (
      arith,
      length-append (joined (map when_spots ws)) (spots ys),
      begin_total statement_in out
          (w o out) (g.gives o out).begins,
      a.told o (w o out),
      b.told note.Nothing (each_walk walks o (w o out)),
    );
    sound = λ o out sound.
        let choices = a.sound o (w o out) (sound_front (text s whole blocks) _ _ (b.begins note.Nothing _) sound) in
        let others = b.sound note.Nothing _ sound refl in
        record { chosen = choices.once; lists = (choices.fits, (b.inner, others.paired)); parts = (choices.parts, others.all); awaits = refl };
  }

  on_made : (n m : ℕ) → 1 + m ≤ n → (temp : ℕ) (from upto : MExpr) (w : OwnWalk) (walks : List StmtWalk)
      (xs : List MStmt) → ExprsGood w (from ∷ upto ∷ []) → ListMade s whole blocks m walks xs
      → KindMade s whole blocks n note.Other (λ o out. list_walk walks note.Nothing (w o out))
      (kind.On temp from upto xs)
  on_made n m deep temp from upto w walks xs g a = record {
    one = layer.On temp from upto xs;
    is = kind.outs-On temp from upto xs;
    depth = omega (arith, deep, a.depth);
    inner = refl;
    retrieves = refl;
    exprs = exprs_before w _ (from ∷ upto ∷ []) (λ o out. a.begins note.Nothing (w o out)) g;
    told = λ o out. omega (arith, begin_total statement_in out (w o out) (g.gives o out).begins, a.told note.Nothing (w o out));
    sound = λ o out sound.
        let kept = a.sound note.Nothing (w o out) sound refl in
        record { chosen = tt; lists = (a.inner, kept.paired); parts = kept.all; awaits = refl };
  }

  module _ (names : Naming Meaning) where
    abbrev pub env : Env
    env = record { name = names; signals = s.signals; blocks = blocks }

    -- a kind of the tree, where what stands in its lists is made
    pub layer_made : (n m : ℕ) (B : List Stmt → Type 0)
        → ((xs : List Stmt) → B xs → (1 + m ≤ n) × AreMade s whole blocks env m xs)
        → (l : StmtKind-F StmtKind Stmt When) → KeepsKindAt 6 B l → (p : ℕ)
        → KindMade s whole blocks n (kind_head (opened_walk l)) (kind_own (opened_walk l))
        (kind_layer env (opened env l) p).0
    layer_made n m B inside (tree.Assign name e) k p =
        target_made n (names name.name) (typed_expr env e) _
        (exprs_after (λ o out. add name.line (note.Uses name.name need.Value) out) (expr_walk e) _
        (λ o out. begin_add out out name.line (note.Uses name.name need.Value) (begin_all out))
        (expr_one env e k.1))
    layer_made n m B inside (tree.SetField name pointer e) k p =
        plain n note.Other _ _ (layer.SetField _ _ _ (typed_expr env e)) (kind.outs-SetField _ _ _ (typed_expr env e))
        refl refl refl refl tt tt tt (λ o out sound. refl)
        (exprs_after (λ o out. add pointer.line (note.Uses pointer.name need.Temporary)
        (add name.line (note.Uses name.name need.Field) out)) (expr_walk e) _
        (λ o out. begin_add out _ pointer.line (note.Uses pointer.name need.Temporary)
        (begin_add out out name.line (note.Uses name.name need.Field) (begin_all out))) (expr_one env e k.1.1))
    layer_made n m B inside (tree.Goto l) k p =
        plain n note.Other _ _ (layer.Goto _) (kind.outs-Goto _) refl refl refl refl tt tt tt (λ o out sound. refl)
        (no_exprs _ (λ o out. begin_add out out l.line (note.Goes l.name) (begin_all out)))
    layer_made n m B inside (tree.IfGoto c l) k p =
        plain n note.Other _ _ (layer.IfGoto (typed_cond env c) _) (kind.outs-IfGoto (typed_cond env c) _) refl refl refl refl tt tt tt (λ o out sound. refl)
        (exprs_before (cond_walk c) _ _ (λ o out. begin_add _ _ l.line (note.Goes l.name) (begin_all _)) (cond_good env c k.0))
    layer_made n m B inside (tree.If c first None) k p =
        let a = inside first k.1.0 in
        if_made n m a.0 (typed_cond env c) (cond_walk c) (map stmt_walk first) [] _ [] (cond_good env c k.0) (a.1 p) (list_none s whole blocks m)
    layer_made n m B inside (tree.If c first (Some other)) k p =
        let a = inside first k.1.0 in
        let b = inside other k.1.1 in
        if_made n m a.0 (typed_cond env c) (cond_walk c) (map stmt_walk first) (map stmt_walk other) _ _
        (cond_good env c k.0) (a.1 p) (b.1 (typed_list env first p).1)
    layer_made n m B inside (tree.Case e whens other) k p =
        let b = inside other k.1.1 in
        let choices = whens_made s whole blocks env m whens p
        (all_from (KeepsWhen B) (λ w. AreMade s whole blocks env m (out-When w).body)
        (λ w h. (inside (out-When w).body h.1).1) whens k.1.0) in
        case_made n m b.0 (typed_expr env e) (expr_walk e) (map when_walk whens) (map stmt_walk other) _ _
        (expr_one env e k.0) choices (b.1 (made_in_turn (map (typed_when env) whens) p).1)
    layer_made n m B inside (tree.On name from upto body) k p =
        let a = inside body k.1.1.1 in
        on_made n m a.0 _ (typed_expr env from) (typed_expr env upto) _ (map stmt_walk body) _
        (exprs_after (λ o out. name_walk name out) _ _
        (λ o out. begin_add out out name.line (note.Uses name.name need.Temporary) (begin_all out))
        (exprs_then (expr_walk from) (expr_walk upto) (typed_expr env from ∷ []) (typed_expr env upto ∷ [])
        (expr_one env from k.1.0) (expr_one env upto k.1.1.0)))
        (a.1 p)
    layer_made n m B inside (tree.ForFirst name file field r e l) k p =
        plain n note.Other _ _ (layer.ForFirst _ _ _ _ (typed_expr env e) _)
        (kind.outs-ForFirst _ _ _ _ (typed_expr env e) _) refl refl refl refl tt tt tt (λ o out sound. refl)
        (exprs_before (λ o out. expr_walk e o (add field.line (note.Compares field.name file.name)
        (add file.line (note.Searches file.name) (name_walk name out)))) _ _
        (λ o out. begin_add _ _ l.line (note.Goes l.name) (begin_all _))
        (exprs_after (λ o out. add field.line (note.Compares field.name file.name)
        (add file.line (note.Searches file.name) (name_walk name out))) (expr_walk e) _
        (λ o out. begin_add out _ field.line (note.Compares field.name file.name)
        (begin_add out _ file.line (note.Searches file.name)
        (begin_add out out name.line (note.Uses name.name need.Temporary) (begin_all out))))
        (expr_one env e k.1.1.1.0)))
    layer_made n m B inside (tree.Send name r es fresh) k p =
        let named = λ (o : ℕ) (out : List Event). add name.line (note.Names name.name (role.Sent (is_there r))) out in
        let referred = λ (o : ℕ) (out : List Event). reference_walk r (named o out) in
        let g = values_good env es k.1.1 in
        plain n (note.Sends name.name (way_of r) (length (values_of es)) fresh) _ _
        (layer.Send _ _ (typed_values env es) fresh) (kind.outs-Send _ _ (typed_values env es) fresh) refl refl refl
        refl tt tt tt
        (λ o out sound. awaits_asked s.signals name.name (is_there r)
        (sound_last (text s whole blocks) out name.line (note.Names name.name (role.Sent (is_there r)))
        rule.WrongSignal
        (sound_front (text s whole blocks) (named o out) _
        (begin_then (named o out) (referred o out) _ (begin_reference r (named o out))
        (g.gives o (referred o out)).begins) sound)))
        (exprs_after referred (values_walk es) _
        (λ o out. begin_then out (named o out) (referred o out)
        (begin_add out out name.line (note.Names name.name (role.Sent (is_there r))) (begin_all out))
        (begin_reference r (named o out))) g)
    layer_made n m B inside (tree.Retrieve name ns) k p =
        plain n (note.Retrieves name.name (length (names_of ns))) _ _ (layer.Retrieve _ _) (kind.outs-Retrieve _ _) refl
        refl refl refl tt tt tt (λ o out sound. refl)
        (no_exprs _ (λ o out. begin_then out _ _
        (begin_add out out name.line (note.Names name.name role.Answer) (begin_all out))
        (begin_names (names_of ns) _)))
    layer_made n m B inside (tree.Return name es) k p =
        plain n (note.Returns name.name (length (values_of es))) _ _ (layer.Return _ (typed_values env es))
        (kind.outs-Return _ (typed_values env es)) refl refl refl refl tt tt tt (λ o out sound. refl)
        (exprs_after (λ o out. add name.line (note.Names name.name role.Answer) out) (values_walk es) _
        (λ o out. begin_add out out name.line (note.Names name.name role.Answer) (begin_all out))
        (values_good env es k.1))
    layer_made n m B inside (tree.Transfer name r) k p =
        plain n (note.Transfers name.name (way_of r)) _ _ (layer.Transfer _ _) (kind.outs-Transfer _ _) refl refl refl refl tt tt tt (λ o out sound. refl)
        (no_exprs _ (λ o out. begin_then out _ _ (begin_add out out name.line (note.Names name.name role.Transferred) (begin_all out)) (begin_reference r _)))
    layer_made n m B inside (tree.Seize name file l) k p =
        plain n note.Other _ _ (layer.Seize _ _ _) (kind.outs-Seize _ _ _) refl refl refl refl tt tt tt (λ o out sound. refl)
        (no_exprs _ (λ o out. begin_add out _ l.line (note.Goes l.name)
        (begin_add out _ file.line (note.Holds file.name)
        (begin_add out out name.line (note.Uses name.name need.Temporary) (begin_all out)))))
    layer_made n m B inside (tree.Free name file) k p =
        plain n note.Other _ _ (layer.Free _ _) (kind.outs-Free _ _) refl refl refl refl tt tt tt (λ o out sound. refl)
        (no_exprs _ (λ o out. begin_add out _ file.line (note.Holds file.name)
        (begin_add out out name.line (note.Uses name.name need.Temporary) (begin_all out))))
    layer_made n m B inside tree.Exit k p =
        plain n note.Other _ _ layer.Exit kind.outs-Exit refl refl refl refl tt tt tt (λ o out sound. refl) (no_exprs _ (λ o out. begin_all out))
