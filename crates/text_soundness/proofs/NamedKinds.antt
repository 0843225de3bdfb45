-- One layer of a statement of the block.
use Rattle.std.proofs.Common.{◌≡◌, ℕ, ◌<◌, Bool, true, false, List, [], ◌∷◌, length, map, Option}
use Rattle.std.proofs.Common.{Some, None, refl, sym, ◌∙◌, ap, subst, slice_get}
use Rattle.std.specs.List.{AllByRecursion, Contains}
use Rattle.token_grammar.specs.declared.named.Named.{Named}
use Rattle.plex_ast.specs.declared.expr.Expr.{Expr}
use Rattle.plex_ast.specs.declared.block.Block.{Block as TreeBlock}
use Rattle.plex_ast.specs.declared.stmt.Reference.{Reference as TreeReference}
use Rattle.plex_ast.specs.declared.stmt.ReferenceKind.{ReferenceKind}
use Rattle.plex_ast.specs.declared.stmt.ReferenceKind.TheVariants as references
use Rattle.exchange_model.specs.declared.stmt.Receiver.{Receiver}
use Rattle.exchange_model.specs.declared.stmt.Receiver.TheVariants as receiver
use Rattle.exchange_model.specs.declared.expr.Factor.TheVariants as factor
use Rattle.exchange_model.specs.PartFits.{FactorOwnFits, InsideFits}
use Rattle.exchange_model.proofs.Built.{factor_fits-built}
use Rattle.std.specs.Prelude.{unwrap_or, is_some}
use Rattle.std.specs.Option.{option_map}
use Rattle.text_rules.specs.Surveys.{receives_at, sends, block_named, has_name}
use Rattle.text_events.specs.Note as note
use Rattle.text_soundness.proofs.Receivers.{first_found, position_within}
use Rattle.plex_ast.specs.declared.stmt.Stmt.{Stmt}
use Rattle.plex_ast.specs.declared.stmt.When.{When, out-When}
use Rattle.plex_ast.specs.declared.stmt.StmtKind.{StmtKind, StmtKind-F}
use Rattle.plex_ast.specs.declared.stmt.StmtKind.TheOpen as tree
use Rattle.kept_trees.specs.Keeps.{Every, KeepsExpr, KeepsWhen, KeepsKindAt}
use Rattle.exchange_model.specs.declared.expr.Expr.{Expr as MExpr}
use Rattle.exchange_model.specs.declared.stmt.When.{out-When as mout-When, out-roll-When}
use Rattle.exchange_model.specs.declared.stmt.StmtKind.{StmtKind as MKind, out-StmtKind}
use Rattle.exchange_model.specs.declared.stmt.StmtKind.TheVariants as stmt
use Rattle.exchange_model.specs.Fits.{Scope, FactorFits, ExprFits, IsTemporary, IsLabel, IsHolder}
use Rattle.exchange_model.specs.Fits.{AnswerFits, SendFits, TransferFits, Reaches, Receives}
use Rattle.text_events.specs.Note.{Event}
use Rattle.text_events.specs.declared.role.Meaning.{Meaning}
use Rattle.text_events.specs.declared.role.Meaning.TheVariants.{Variable, Temporary, File, Field}
use Rattle.text_events.specs.declared.role.Meaning.TheVariants.{Label}
use Rattle.text_events.specs.Note.{Note}
use Rattle.text_events.specs.Note.{Uses, Goes, Searches, Compares, Holds, Names, Chooses}
use Rattle.text_events.specs.declared.role.Need.TheVariants as need
use Rattle.text_events.specs.declared.role.Role.TheVariants as role
use Rattle.text_events.specs.Named.{naming_of}
use Rattle.text_events.specs.Walk.{each_walk, body_walk, is_there, way_at, way_of}
use Rattle.text_events.specs.Walk.{reference_kind_walk, reference_walk, kind_head, kind_own}
use Rattle.text_events.specs.Walk.{stmt_walk, when_walk, expr_walk, names_of, values_of}
use Rattle.text_rules.specs.Blocks.{serves, stands, other_data}
use Rattle.signal_types.specs.Found.{number_in, kind_in}
use Rattle.resolved_block.specs.Names.{meanings_of, counted_on}
use Rattle.resolved_block.specs.Meant.{target_in, byte_of, temporary_in, label_in, holder_of}
use Rattle.resolved_block.specs.Meant.{referred, receiver_of}
use Rattle.resolved_block.specs.Expressions.{typed_expr, typed_values, typed_temps}
use Rattle.resolved_block.specs.Names.{Env}
use Rattle.resolved_block.specs.Meant.{signal_of, sent_to}
use Rattle.resolved_block.specs.Statements.{in_turn, kind_layer, typed_when, typed_list}
use Rattle.resolved_block.proofs.Turns.{opened}
use Rattle.text_soundness.specs.Blocks.{IsPlaced}
use Rattle.exchange_model.specs.Everywhere.{Layer, Everywhere, AllIn, PartsKeep}
use Rattle.exchange_model.proofs.Everywhere.{everywhere-built}
use Rattle.text_soundness.specs.Meanings.{Suits}
use Rattle.text_soundness.specs.Shares.{NamesStand}
use Rattle.text_soundness.specs.Served.{Said, HeadSaid, IsSending, IsSent, WayLeads}
use Rattle.text_soundness.proofs.ServedWalks.{Tells, tells_none, tells_add, tells_then, tells_so}
use Rattle.text_soundness.proofs.ServedWalks.{tells_same}
use Rattle.text_events.proofs.Layers.{opened as walked, when_walk-out}
use Rattle.resolved_block.proofs.Turns.{typed_when-at}
use Rattle.text_soundness.proofs.NamedExprs.{expr_tells}
use Rattle.text_soundness.proofs.NamedLists.{cond_stands, values_count, temps_count, cond_tells}
use Rattle.text_soundness.proofs.NamedLists.{values_tell, name_tells, names_tell}
use Rattle.text_soundness.proofs.NamedMeant.{Suited, temporary_fits, field_fits, value_own}
use Rattle.text_soundness.proofs.NamedMeant.{field_own, label_fits, plain_fits, forlopp_fits}
use Rattle.text_soundness.proofs.NamedMeant.{searched_fits, kind_of_number, answer_fits}
use Rattle.text_soundness.proofs.NamedMeant.{transfer_fits, send_fits, holder_fits}

-- what a kind names is of the block, with all that it holds
abbrev pub Fine : Scope → MKind → Type 0
Fine s k = Everywhere (NamesStand s) k

-- a kind of which one layer is known
pub made_fine : (s : Scope) (k : MKind) (l : Layer) → out-StmtKind k ≡ l → NamesStand s l → PartsKeep (NamesStand s) l → Fine s k
made_fine s k l is own parts = everywhere-built (NamesStand s) k (subst (NamesStand s) (sym is) own) (subst (PartsKeep (NamesStand s)) (sym is) parts)

-- what a block and its names are, before its statements are looked at, among the blocks of a text
pub record Standing (s : Scope) (first : ℕ) (events : List Event) (blocks : List TreeBlock) (own : TreeBlock) : Type 0 where
  pub placed : IsPlaced s first
  pub suits : (n : List ℕ) (m : Meaning) → naming_of events n ≡ Some m → Suits s.block m
  pub many : length blocks ≡ length s.blocks
  pub received : (b : ℕ) (n : List ℕ) → receives_at blocks b n ≡ true → Receives s b (unwrap_or (number_in s.signals n) 0)
  pub sent : (n : List ℕ) → sends n own ≡ true → Contains s.block.sends (unwrap_or (number_in s.signals n) 0)

-- a block that is found is there
found_within : (blocks : List TreeBlock) (n : List ℕ) → is_some (block_named blocks n) ≡ true → unwrap_or (block_named blocks n) 0 < length blocks
found_within blocks n h = here (block_named blocks n) refl h
  where
    here : (o : Option ℕ) → block_named blocks n ≡ o → is_some o ≡ true → unwrap_or o 0 < length blocks
    here (Some b) is t = position_within (has_name n) blocks b is
    here None is t = absurd cc

module _ (s : Scope) (first : ℕ) (events : List Event) (blocks : List TreeBlock) (own : TreeBlock) (st : Standing s first events blocks own) where
  abbrev pub env : Env
  env = record { name = meanings_of first events; signals = s.signals; blocks = blocks }

  abbrev pub So : Note → Type 0
  So = Said s.signals blocks own (naming_of events)

  block_own : (n : List ℕ) → is_some (block_named blocks n) ≡ true → FactorOwnFits s (factor.Reference (unwrap_or (block_named blocks n) 0))
  block_own n h =
      let shown = factor.outs-Reference (unwrap_or (block_named blocks n) 0) in
      factor_fits-built s _ (subst (FactorFits s) (sym shown)
      (subst (λ l. unwrap_or (block_named blocks n) 0 < l) st.many (found_within blocks n h)))
      (subst (InsideFits s) (sym shown) tt)

  pub expr_so : (b : ℕ) (e : Expr) → KeepsExpr b e → (owner : ℕ) → Tells So (expr_walk e owner) (ExprFits s (typed_expr env e))
  expr_so b e kept owner =
      expr_tells So s env (λ n o h. value_own s first st.placed (naming_of events n) (st.suits n) h)
      (λ n p o h g. field_own s first st.placed (naming_of events n) (naming_of events p) (st.suits n) (st.suits p) h g)
      (λ n o h. block_own n h) b e kept owner

  pub temporary_so : (n : List ℕ) → So (Uses n need.Temporary) → IsTemporary s (temporary_in (env.name n))
  temporary_so n h = temporary_fits s first st.placed (naming_of events n) (st.suits n) h

  label_so : (n : List ℕ) → So (Goes n) → IsLabel s (label_in (env.name n))
  label_so n h = label_fits s first st.placed (naming_of events n) h.number (st.suits n) h.stands

  target_fine : (o : Option Meaning) → Suited s o → serves need.Value o ≡ true → (e : MExpr) → ExprFits s e → Fine s (target_in (counted_on first o) e)
  target_fine (Some (Variable v)) suited h e fits = made_fine s _ _ (stmt.outs-SetVariable v e)
      (record { names = suited (Variable v) refl; exprs = (fits, tt) }) tt
  target_fine (Some (Temporary t)) suited h e fits = made_fine s _ _ (stmt.outs-SetTemp (byte_of t) e)
      (record { names = temporary_fits s first st.placed (Some (Temporary t)) suited refl; exprs = (fits, tt) }) tt
  target_fine (Some (File f a)) suited h e fits = absurd cc
  target_fine (Some (Field f g)) suited h e fits = absurd cc
  target_fine (Some (Label l)) suited h e fits = absurd cc
  target_fine None suited h e fits = absurd cc

  -- where a signal goes

  abbrev HolderAt : ReferenceKind → Type 0
  HolderAt (references.Block m) = Unit {0}
  HolderAt (references.Held v) = IsHolder s (holder_of env v)

  abbrev HolderSo : Option TreeReference → Type 0
  HolderSo None = Unit {0}
  HolderSo (Some r) = HolderAt r.kind

  abbrev to : Named → Option TreeReference → Option Receiver
  to n r = receiver_of env n r

  reaches : (n : Named) (r : Option TreeReference) → HolderSo r → sends n.name own ≡ true
      → IsSent blocks n.name (way_of r) → Reaches s (to n r) (signal_of env n)
  reaches n None held out sent =
      let found = first_found blocks n.name sent.received in
      subst (λ o. Reaches s (option_map receiver.Block o) (signal_of env n)) (sym found.is) (st.received found.block n.name found.receives, st.sent n.name out)
  reaches n (Some r) held out sent = here r.kind held sent.leads
    where
      here : (k : ReferenceKind) → HolderSo (Some (record { line = r.line; kind = k }))
          → WayLeads blocks n.name (way_at k) → Reaches s (referred env k) (signal_of env n)
      here (references.Block m) held leads = subst (λ o. Reaches s (option_map receiver.Block o) (signal_of env n))
          (sym leads.1) (st.received leads.0 n.name leads.2, st.sent n.name out)
      here (references.Held v) held leads =
          let found = first_found blocks n.name sent.received in
          ((held, found.block, st.received found.block n.name found.receives), st.sent n.name out)

  reference_tells : (r : Option TreeReference) → Tells So (reference_walk r) (HolderSo r)
  reference_tells None = tells_none So
  reference_tells (Some r) = here r.kind
    where
      here : (k : ReferenceKind) → Tells So (reference_kind_walk k) (HolderSo (Some (record { line = r.line; kind = k })))
      here (references.Block m) = tells_none So
      here (references.Held v) = tells_so So _ _ _
          (λ x. holder_fits s first st.placed (naming_of events v.name) (st.suits v.name) x)
          (tells_add So v.line (Uses v.name need.Value))

  send_names : (n : Named) (r : Option TreeReference) (count : ℕ) (values : List MExpr) (fresh : Bool)
      → count ≡ length values → stands (role.Sent (is_there r)) (kind_in s.signals n.name) ≡ true → HolderSo r
      → HeadSaid s.signals blocks own (note.Sends n.name (way_of r) count fresh)
      → SendFits s (slice_get s.signals (signal_of env n)) (signal_of env n) (sent_to env n r) (length values) fresh
  send_names n r count values fresh same stand held head =
      let fits = send_fits s (signal_of env n) (to n r) (kind_in s.signals n.name) count (is_there r) fresh stand
      head.0.0 head.0.1 (λ inside. reaches n r held head.1.sent (head.1.arrives inside))
      (st.sent n.name head.1.sent) in
      let counted = subst (λ c. SendFits s (kind_in s.signals n.name) (signal_of env n) (sent_to env n r) c fresh) same fits in
      subst (λ k. SendFits s k (signal_of env n) (sent_to env n r) (length values) fresh)
      (sym (kind_of_number s.signals (number_in s.signals n.name) (role.Sent (is_there r)) stand)) counted

  answer_names : (n : Named) (count many : ℕ) → count ≡ many → stands role.Answer (kind_in s.signals n.name) ≡ true
      → other_data count (kind_in s.signals n.name) ≡ false → AnswerFits (slice_get s.signals (signal_of env n)) many
  answer_names n count many same stand carried =
      let fits = subst (AnswerFits (kind_in s.signals n.name)) same (answer_fits (kind_in s.signals n.name) count stand carried) in
      subst (λ k. AnswerFits k many) (sym (kind_of_number s.signals (number_in s.signals n.name) role.Answer stand)) fits

  transfer_names : (n : Named) (r : Option TreeReference) → stands role.Transferred (kind_in s.signals n.name) ≡ true
      → HolderSo r → IsSending s.signals blocks own n.name (way_of r)
      → TransferFits s (slice_get s.signals (signal_of env n)) (signal_of env n) (sent_to env n r)
  transfer_names n r stand held head =
      subst (λ k. TransferFits s k (signal_of env n) (sent_to env n r)) (sym (kind_of_number s.signals (number_in s.signals n.name) role.Transferred stand))
      (transfer_fits s (signal_of env n) (to n r) (kind_in s.signals n.name) stand (λ inside. reaches n r held head.sent (head.arrives inside)))

  module _ (b : ℕ) (B : List Stmt → Type 0) (body : (xs : List Stmt) → B xs → (p : ℕ)
      → Tells So (body_walk (map stmt_walk xs)) (AllIn (NamesStand s) (typed_list env xs p).0)) where
    when_tells : (w : When) → KeepsWhen B w → (owner p : ℕ) → Tells So (when_walk w owner) (AllIn (NamesStand s) (mout-When (typed_when env w p).0).body)
    when_tells w kept owner p =
        let made : (mout-When (typed_when env w p).0).body
        ≡ (typed_list env (out-When w).body p).0 = ap (λ m. (mout-When m.0).body) (typed_when-at env w p)
        ∙ ap (λ l. l.body) (out-roll-When (record
        { number = (out-When w).number.value; body = (typed_list env (out-When w).body p).0 })) in
        subst (λ list. Tells So (when_walk w owner) (AllIn (NamesStand s) list)) (sym made)
        (tells_same So _ _ _ (λ out. when_walk-out w owner out)
        (tells_so So _ _ _ (λ x. x.1) (tells_then So _ _ _ _
        (tells_add So (out-When w).number.line (Chooses owner (out-When w).number.value))
        (body (out-When w).body kept.1 p))))

    whens_tell : (ws : List When) → Every (KeepsWhen B) ws → (owner p : ℕ)
        → Tells So (each_walk (map when_walk ws) owner)
        (AllByRecursion (λ w. AllIn (NamesStand s) (mout-When w).body) (in_turn (map (typed_when env) ws) p).0)
    whens_tell [] kept owner p = tells_none So
    whens_tell (w ∷ ws) kept owner p = tells_then So _ _ _ _ (when_tells w kept.0 owner p) (whens_tell ws kept.1 owner (typed_when env w p).1)

    pub kind_tells : (l : StmtKind-F StmtKind Stmt When) → KeepsKindAt b B l → (owner p : ℕ)
        → Tells So (kind_own (walked l) owner)
        (HeadSaid s.signals blocks own (kind_head (walked l)) → Fine s (kind_layer env (opened env l) p).0)
    kind_tells (tree.Assign n e) kept owner p =
        tells_so So _ _ _ (λ x head. target_fine (naming_of events n.name) (st.suits n.name) x.0 (typed_expr env e) x.1)
        (tells_then So _ _ _ _ (tells_add So n.line (Uses n.name need.Value)) (expr_so b e kept.1 owner))
    kind_tells (tree.SetField n q e) kept owner p =
        tells_so So _ _ _ (λ x head. made_fine s _ _ (stmt.outs-SetField _ _ _ _)
        (record {
          names = (
            field_fits s first st.placed (naming_of events n.name) (st.suits n.name) x.0.0,
            temporary_so q.name x.0.1,
          );
          exprs = (x.1, tt);
        }) tt)
        (tells_then So _ _ _ _ (tells_then So _ _ _ _ (tells_add So n.line (Uses n.name need.Field))
        (tells_add So q.line (Uses q.name need.Temporary))) (expr_so b e kept.1.1 owner))
    kind_tells (tree.Goto l) kept owner p =
        tells_so So _ _ _ (λ x head. made_fine s _ _ (stmt.outs-Goto _)
        (record { names = label_so l.name x; exprs = tt }) tt) (tells_add So l.line (Goes l.name))
    kind_tells (tree.IfGoto c l) kept owner p =
        tells_so So _ _ _ (λ x head. made_fine s _ _ (stmt.outs-IfGoto _ _) (record { names = (cond_stands env c, label_so l.name x.1); exprs = x.0 }) tt)
        (tells_then So _ _ _ _ (cond_tells So s env b (expr_so b) c kept.0 owner) (tells_add So l.line (Goes l.name)))
    kind_tells (tree.If c list None) kept owner p =
        tells_so So _ _ _ (λ x head. made_fine s _ _ (stmt.outs-If _ _ _) (record { names = cond_stands env c; exprs = x.0 }) (x.1, tt))
        (tells_then So _ _ _ _ (cond_tells So s env b (expr_so b) c kept.0 owner) (body list kept.1.0 p))
    kind_tells (tree.If c list (Some other)) kept owner p =
        tells_so So _ _ _ (λ x head. made_fine s _ _ (stmt.outs-If _ _ _) (record { names = cond_stands env c; exprs = x.0.0 }) (x.0.1, x.1))
        (tells_then So _ _ _ _ (tells_then So _ _ _ _ (cond_tells So s env b (expr_so b) c kept.0 owner)
        (body list kept.1.0 p)) (body other kept.1.1 (typed_list env list p).1))
    kind_tells (tree.Case e whens other) kept owner p =
        tells_so So _ _ _ (λ x head. made_fine s _ _ (stmt.outs-Case _ _ _) (record { names = tt; exprs = (x.0.0, tt) }) (x.0.1, x.1))
        (tells_then So _ _ _ _ (tells_then So _ _ _ _ (expr_so b e kept.0 owner) (whens_tell whens kept.1.0 owner p))
        (body other kept.1.1 (in_turn (map (typed_when env) whens) p).1))
    kind_tells (tree.On n from upto list) kept owner p =
        tells_so So _ _ _ (λ x head. made_fine s _ _ (stmt.outs-On _ _ _ _) (record { names = x.0.0.0; exprs = (x.0.0.1, (x.0.1, tt)) }) x.1)
        (tells_then So _ _ _ _ (tells_then So _ _ _ _
        (tells_then So _ _ _ _ (name_tells So s env temporary_so n) (expr_so b from kept.1.0 owner))
        (expr_so b upto kept.1.1.0 owner)) (body list kept.1.1.1 p))
    kind_tells (tree.ForFirst n file field r e l) kept owner p =
        tells_so So _ _ _ (λ x head. made_fine s _ _ (stmt.outs-ForFirst _ _ _ _ _ _)
        (record {
          names = (
            x.0.0.0.0,
            plain_fits s first st.placed (naming_of events file.name) (st.suits file.name) x.0.0.0.1,
            searched_fits s first st.placed (naming_of events file.name) (naming_of events field.name)
                (st.suits field.name) x.0.0.1,
            label_so l.name x.1,
          );
          exprs = (x.0.1, tt);
        }) tt)
        (tells_then So _ _ _ _ (tells_then So _ _ _ _
        (tells_then So _ _ _ _ (tells_then So _ _ _ _ (name_tells So s env temporary_so n)
        (tells_add So file.line (Searches file.name))) (tells_add So field.line (Compares field.name file.name)))
        (expr_so b e kept.1.1.1.0 owner)) (tells_add So l.line (Goes l.name)))
    kind_tells (tree.Send n r es fresh) kept owner p =
        tells_so So _ _ _ (λ x head. made_fine s _ _ (stmt.outs-Send _ _ _ _)
        (record {
          names = send_names n r (length (values_of es)) (typed_values env es) fresh (values_count env es)
              x.0.0 x.0.1 head;
          exprs = x.1;
        }) tt)
        (tells_then So _ _ _ _ (tells_then So _ _ _ _ (tells_add So n.line (Names n.name (role.Sent (is_there r))))
        (reference_tells r)) (values_tell So s env b (expr_so b) es kept.1.1 owner))
    kind_tells (tree.Retrieve n ns) kept owner p =
        tells_so So _ _ _ (λ x head. made_fine s _ _ (stmt.outs-Retrieve _ _)
        (record {
          names = (
            answer_names n (length (names_of ns)) (length (typed_temps env ns)) (temps_count env ns)
                x.0 head,
            x.1,
          );
          exprs = tt;
        }) tt)
        (tells_then So _ _ _ _ (tells_add So n.line (Names n.name role.Answer)) (names_tell So s env temporary_so ns))
    kind_tells (tree.Return n es) kept owner p =
        tells_so So _ _ _ (λ x head. made_fine s _ _ (stmt.outs-Return _ _)
        (record {
          names = answer_names n (length (values_of es)) (length (typed_values env es))
              (values_count env es) x.0 head;
          exprs = x.1;
        }) tt)
        (tells_then So _ _ _ _ (tells_add So n.line (Names n.name role.Answer)) (values_tell So s env b (expr_so b) es kept.1 owner))
    kind_tells (tree.Transfer n r) kept owner p =
        tells_so So _ _ _ (λ x head. made_fine s _ _ (stmt.outs-Transfer _ _) (record { names = transfer_names n r x.0 x.1 head; exprs = tt }) tt)
        (tells_then So _ _ _ _ (tells_add So n.line (Names n.name role.Transferred)) (reference_tells r))
    kind_tells (tree.Seize n file l) kept owner p =
        tells_so So _ _ _ (λ x head. made_fine s _ _ (stmt.outs-Seize _ _ _)
        (record {
          names = (
            x.0.0,
            forlopp_fits s first st.placed (naming_of events file.name) (st.suits file.name)
                x.0.1,
            label_so l.name x.1,
          );
          exprs = tt;
        }) tt)
        (tells_then So _ _ _ _ (tells_then So _ _ _ _ (name_tells So s env temporary_so n)
        (tells_add So file.line (Holds file.name))) (tells_add So l.line (Goes l.name)))
    kind_tells (tree.Free n file) kept owner p =
        tells_so So _ _ _ (λ x head. made_fine s _ _ (stmt.outs-Free _ _)
        (record {
          names = (
            x.0,
            forlopp_fits s first st.placed (naming_of events file.name) (st.suits file.name)
                x.1,
          );
          exprs = tt;
        }) tt)
        (tells_then So _ _ _ _ (name_tells So s env temporary_so n) (tells_add So file.line (Holds file.name)))
    kind_tells tree.Exit kept owner p = tells_so So _ _ _ (λ x head. made_fine s _ _ stmt.outs-Exit (record { names = tt; exprs = tt }) tt) (tells_none So)
