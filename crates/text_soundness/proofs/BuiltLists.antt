-- Statements in a list: where the events of the list break no rule, each of them stands as it must,
-- beside its neighbours too.
use Rattle.std.proofs.Common.{◌≡◌, ℕ, ◌+◌, ◌≤◌, true, List, [], ◌∷◌, length, map, refl, sym, ◌∙◌}
use Rattle.std.proofs.Common.{ap, subst, arith, length-append}
use Rattle.std.specs.List.{AllByRecursion}
use Rattle.std.proofs.Math.Nat.{max-le}
use Rattle.plex_ast.specs.declared.block.Block.{Block as TreeBlock}
use Rattle.plex_ast.specs.declared.stmt.Stmt.{Stmt}
use Rattle.exchange_model.specs.declared.stmt.Stmt.{Stmt as MStmt}
use Rattle.exchange_model.specs.declared.stmt.StmtKind.{StmtKind as MKind, out-StmtKind}
use Rattle.exchange_model.specs.Fits.{Scope, ListsFit, ArePaired, awaited, retrieved, is_inner}
use Rattle.exchange_model.specs.Inside.{kind_depth, text_depth, own_exprs, inner_spots, spots}
use Rattle.exchange_model.specs.PartCounts.{parts_depth, parts_spots, stmt_spots}
use Rattle.exchange_model.proofs.Counted.{kind_depth-out, inner_spots-out}
use Rattle.text_events.specs.Note.{Event, Head, Nothing, Begins}
use Rattle.text_events.specs.Walk.{OwnWalk, StmtWalk, add, first_head, list_walk, stmt_walk}
use Rattle.text_events.specs.Walk.{kind_walk}
use Rattle.first_fault.proofs.First.{total_push}
use Rattle.text_rules.specs.declared.rule.BlockRule.TheVariants as rule
use Rattle.text_soundness.specs.Fine.{Text}
use Rattle.resolved_block.specs.Names.{Env}
use Rattle.resolved_block.specs.Statements.{typed_kind, typed_stmt, typed_list}
use Rattle.exchange_model.specs.Everywhere.{Layer, Everywhere, AllIn, PartsKeep}
use Rattle.exchange_model.proofs.Everywhere.{everywhere-built}
use Rattle.text_soundness.specs.Shares.{PartsStand, ChoosesOnce}
use Rattle.text_soundness.proofs.BuiltText.{statement_in, statements_in, Begin, begin_all}
use Rattle.text_soundness.proofs.BuiltText.{begin_then, begin_add, Sound, sound_front, sound_last}
use Rattle.text_events.proofs.Layers.{stmt_walk-out}
use Rattle.resolved_block.proofs.Turns.{typed_stmt-at}
use Rattle.text_soundness.proofs.Operands.{gives_few}
use Rattle.text_soundness.proofs.OperandsLists.{ExprsGood}
use Rattle.text_soundness.proofs.Pairs.{asked, retrieved_by, Meet, Together, meets_next}
use Rattle.text_soundness.proofs.Pairs.{retrieves_asked, asks_nothing}

module _ (s : Scope) (whole : List Event) (blocks : List TreeBlock) where
  abbrev pub text : Text
  text = record { whole = whole; signals = s.signals; blocks = blocks }

  -- what the layer of a statement keeps, where no event of the statement breaks a rule
  pub record LayerSound (head : Head) (l : Layer) : Type 0 where
    pub chosen : ChoosesOnce l
    pub lists : ListsFit s l
    pub parts : PartsKeep (PartsStand s) l
    pub awaits : awaited s.signals l ≡ asked s.signals head

  -- a kind with its walk
  pub record KindMade (n : ℕ) (head : Head) (w : OwnWalk) (k : MKind) : Type 0 where
    pub one : Layer
    pub is : out-StmtKind k ≡ one
    pub depth : parts_depth one ≤ n
    pub inner : is_inner one ≡ true
    pub retrieves : retrieved one ≡ retrieved_by s.signals head
    pub exprs : ExprsGood w (own_exprs one)
    pub told : (o : ℕ) (out : List Event) → statements_in out + length (parts_spots one) ≤ statements_in (w o out)
    pub sound : (o : ℕ) (out : List Event) → Sound text (w o out) → LayerSound head one

  -- what a statement keeps between two neighbours, where none of its events breaks a rule
  pub record StmtSound (head : Head) (m : MStmt) (before after : Head) : Type 0 where
    pub every : Everywhere (PartsStand s) m.kind
    pub awaits : awaited s.signals (out-StmtKind m.kind) ≡ asked s.signals head
    pub together : Together s.signals head before after

  pub record StmtMade (n : ℕ) (walk : StmtWalk) (m : MStmt) : Type 0 where
    pub depth : kind_depth m.kind ≤ n
    pub inner : is_inner (out-StmtKind m.kind) ≡ true
    pub retrieves : retrieved (out-StmtKind m.kind) ≡ retrieved_by s.signals walk.head
    pub begins : (before after : Head) (out : List Event) → Begin out (walk.walk before after out)
    pub told : (before after : Head) (out : List Event) → statements_in out + length (stmt_spots m) ≤ statements_in (walk.walk before after out)
    pub sound : (before after : Head) (out : List Event) → Sound text (walk.walk before after out) → StmtSound walk.head m before after

  -- a statement is made of its kind
  pub stmt_made : (n line : ℕ) (head : Head) (w : OwnWalk) (m : MStmt) → KindMade n head w m.kind
      → StmtMade n (record {
        head = head;
        walk = λ before after out. w (length out)
            (add line (Begins head before after) out);
      }) m
  stmt_made n line head w m k = record {
    depth = subst (λ d. d ≤ n) (sym (kind_depth-out m.kind ∙ ap parts_depth k.is)) k.depth;
    inner = ap is_inner k.is ∙ k.inner;
    retrieves = ap retrieved k.is ∙ k.retrieves;
    begins = λ before after out. begin_then out (add line (Begins head before after) out) _
        (begin_add out out line (Begins head before after) (begin_all out)) (k.exprs.gives (length out) _).begins;
    told = λ before after out.
        let begun = add line (Begins head before after) out in
        let inside : length (inner_spots m.kind) ≡ length (parts_spots k.one) = ap length (inner_spots-out m.kind ∙ ap parts_spots k.is) in
        omega (arith, inside, total_push statement_in out (record { line = line; note = Begins head before after }), k.told (length out) begun);
    sound = λ before after out sound.
        let begun = add line (Begins head before after) out in
        let gives = k.exprs.gives (length out) begun in
        let kept = k.sound (length out) begun sound in
        let stand : PartsStand s k.one = record {
          chosen = kept.chosen;
          shallow = k.exprs.shallow;
          few = gives_few text (length out) _ begun _ gives sound;
          lists = kept.lists;
        } in
        record {
          every = everywhere-built (PartsStand s) m.kind (subst (PartsStand s) (sym k.is) stand) (subst (PartsKeep (PartsStand s)) (sym k.is) kept.parts);
          awaits = ap (awaited s.signals) k.is ∙ kept.awaits;
          together = sound_last text out line (Begins head before after) rule.Apart (sound_front text begun _ gives.begins sound);
        };
  }

  -- statements of a list

  pub record ListSound (before : Head) (ms : List MStmt) : Type 0 where
    pub all : AllIn (PartsStand s) ms
    pub paired : ArePaired s.signals (asked s.signals before) ms

  pub record ListMade (n : ℕ) (walks : List StmtWalk) (ms : List MStmt) : Type 0 where
    pub depth : text_depth ms ≤ n
    pub inner : AllByRecursion (λ (one : MStmt). is_inner (out-StmtKind one.kind) ≡ true) ms
    pub begins : (before : Head) (out : List Event) → Begin out (list_walk walks before out)
    pub told : (before : Head) (out : List Event) → statements_in out + length (spots ms) ≤ statements_in (list_walk walks before out)
    pub sound : (before : Head) (out : List Event) → Sound text (list_walk walks before out) → Meet s.signals before (first_head walks) → ListSound before ms

  pub list_none : (n : ℕ) → ListMade n [] []
  list_none n = record {
    depth = omega arith;
    inner = tt;
    begins = λ before out. begin_all out;
    told = λ before out. omega arith;
    sound = λ before out sound meet. record { all = tt; paired = asks_nothing s.signals before Nothing refl meet };
  }

  pub list_more : (n : ℕ) (walk : StmtWalk) (walks : List StmtWalk) (m : MStmt) (ms : List MStmt) → StmtMade n walk m
      → ListMade n walks ms → ListMade n (walk ∷ walks) (m ∷ ms)
  list_more n walk walks m ms x rest = record {
    depth = max-le x.depth rest.depth;
    inner = (x.inner, rest.inner);
    begins = λ before out. begin_then out _ _ (x.begins before (first_head walks) out) (rest.begins walk.head _);
    told = λ before out. omega (
      arith,
      length-append (stmt_spots m) (spots ms),
      x.told before (first_head walks) out,
      rest.told walk.head (walk.walk before (first_head walks) out),
    );
    sound = λ before out sound meet.
        let next = walk.walk before (first_head walks) out in
        let here = x.sound before (first_head walks) out (sound_front text next _ (rest.begins walk.head next) sound) in
        let others = rest.sound walk.head next sound (meets_next s.signals walk.head before (first_head walks) here.together) in
        record {
          all = (here.every, others.all);
          paired = (
            x.retrieves ∙ retrieves_asked s.signals walk.head before (first_head walks) here.together meet,
            subst (λ a. ArePaired s.signals a ms) (sym here.awaits) others.paired,
          );
        };
  }

  module _ (env : Env) where
    abbrev pub IsMade : ℕ → Stmt → Type 0
    IsMade n x = (p : ℕ) → StmtMade n (stmt_walk x) (typed_stmt env x p).0

    abbrev pub AreMade : ℕ → List Stmt → Type 0
    AreMade n xs = (p : ℕ) → ListMade n (map stmt_walk xs) (typed_list env xs p).0

    pub list_made : (n : ℕ) (xs : List Stmt) → AllByRecursion (IsMade n) xs → AreMade n xs
    list_made n [] all p = list_none n
    list_made n (x ∷ xs) all p = list_more n (stmt_walk x) (map stmt_walk xs) (typed_stmt env x p).0
        (typed_list env xs (typed_stmt env x p).1).0 (all.0 p) (list_made n xs all.1 (typed_stmt env x p).1)

    -- a statement is made where its kind is
    pub is_made : (n : ℕ) (x : Stmt) → ((p : ℕ) → KindMade n (kind_walk x.kind).head (kind_walk x.kind).walk (typed_kind env x.kind p).0) → IsMade n x
    is_made n x made p =
        let k = typed_kind env x.kind (p + 1) in
        let m : MStmt = record { point = p; line = x.line; kind = k.0 } in
        subst (λ w. StmtMade n w (typed_stmt env x p).0) (sym (stmt_walk-out x))
        (subst (λ (t : MStmt × ℕ). StmtMade n (record {
          head = (kind_walk x.kind).head;
          walk = λ before after out. (kind_walk x.kind).walk (length out)
              (add x.line (Begins (kind_walk x.kind).head before after) out);
        }) t.0) (sym (typed_stmt-at env x p))
        (stmt_made n x.line (kind_walk x.kind).head (kind_walk x.kind).walk m (made (p + 1))))
