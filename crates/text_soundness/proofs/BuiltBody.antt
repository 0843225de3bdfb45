-- The body of a block, and the whole: where no event of the block breaks a rule, its statements
-- stand as they must.
use Rattle.std.proofs.Common.{Option, ◌≡◌, ℕ, ◌+◌, ◌≤◌, zero, suc, true, List, [], ◌∷◌, length}
use Rattle.std.proofs.Common.{◌++◌, slice_get, refl, sym, ◌∙◌, ap, subst, arith, None, Some, map}
use Rattle.std.proofs.Common.{length-append}
use Rattle.std.proofs.Math.Nat.{max-le}
use Rattle.plex_ast.specs.declared.block.Block.{Block}
use Rattle.plex_ast.specs.declared.block.Item.{Item}
use Rattle.plex_ast.specs.declared.block.ItemKind.{ItemKind}
use Rattle.plex_ast.specs.declared.block.ItemKind.TheVariants as items
use Rattle.token_grammar.specs.declared.named.Named.{Named}
use Rattle.plex_ast.specs.declared.stmt.Names.{Names}
use Rattle.plex_ast.specs.declared.stmt.When.{When}
use Rattle.plex_ast.specs.declared.stmt.Stmt.{Stmt}
use Rattle.plex_ast.specs.declared.stmt.StmtKind.{StmtKind, StmtKind-F, out-StmtKind}
use Rattle.plex_ast.specs.declared.stmt.StmtKind.TheOpen as tree
use Rattle.exchange_model.specs.declared.signal.SignalKind.{SignalKind}
use Rattle.exchange_model.specs.declared.signal.SignalKind.TheVariants.{Buffered, Direct, Combined}
use Rattle.exchange_model.specs.declared.signal.SignalKind.TheVariants.{Answer, Outside}
use Rattle.exchange_model.specs.declared.block.Enter.{Enter as Row}
use Rattle.exchange_model.specs.declared.entry.Entry.{Entry}
use Rattle.exchange_model.specs.declared.stmt.Stmt.{Stmt as MStmt}
use Rattle.exchange_model.specs.declared.stmt.StmtKind.{StmtKind as MKind}
use Rattle.exchange_model.specs.declared.stmt.StmtKind.{out-StmtKind as out-MKind}
use Rattle.exchange_model.specs.declared.stmt.StmtKind.TheOpen as layer
use Rattle.exchange_model.specs.declared.stmt.StmtKind.TheVariants as kind
use Rattle.exchange_model.specs.Fits.{Scope, ArePaired, awaited, retrieved, is_inner}
use Rattle.exchange_model.specs.Inside.{text_depth, spots}
use Rattle.exchange_model.specs.Kept.{IsText, IsFinish, IsNotFinish, IsLabelAt, entered, row_at}
use Rattle.exchange_model.specs.Kept.{enters_from, entry_of, entry_at, entries_in}
use Rattle.std.specs.List.{AllByRecursion, cons_option}
use Rattle.std.specs.Option.{IsSomeAnd, unwrap_or}
use Rattle.exchange_model.specs.Kept.IsText.{ends, goes}
use Rattle.exchange_model.specs.PartCounts.{parts_depth, parts_spots, stmt_spots}
use Rattle.exchange_model.proofs.Counted.{kind_depth-out, inner_spots-out}
use Rattle.text_events.specs.Note.{Event}
use Rattle.text_events.specs.Note.{Head}
use Rattle.text_events.specs.declared.role.Meaning.{Meaning}
use Rattle.text_events.specs.declared.role.Meaning.TheVariants as meaning
use Rattle.text_events.specs.declared.role.Role.TheVariants as role
use Rattle.text_events.specs.Note as note
use Rattle.text_events.specs.Walk.{add, names_of, names_walk, stmt_walk, kind_head, kind_own}
use Rattle.text_events.specs.Walk.{head_of}
use Rattle.text_events.specs.Blocks.{item_walk_at, first_item, items_walk, block_body, block_events}
use Rattle.text_events.specs.Note.{begun}
use Rattle.text_rules.specs.Links.{entries_head, one_if, is_buffered}
use Rattle.signal_types.specs.Found.{number_in, kind_in}
use Rattle.first_fault.specs.First.{total}
use Rattle.first_fault.proofs.First.{total_push}
use Rattle.std.proofs.lemmas.Bool.{not-false}
use Rattle.text_soundness.proofs.NamedMeant.{kind_of_number}
use Rattle.text_rules.specs.declared.rule.BlockRule.TheVariants as rule
use Rattle.text_soundness.specs.Fine.{IsFineBlock, text_of}
use Rattle.kept_trees.specs.Keeps.{Every, KeepsStmtWith, KeepsBody, KeepsItem, KeepsItemAt}
use Rattle.kept_trees.specs.Keeps.{KeepsBlock}
use Rattle.resolved_block.specs.declared.parts.First.{First}
use Rattle.resolved_block.specs.Names.{Env, Naming, meanings_of}
use Rattle.resolved_block.specs.Expressions.{typed_temps}
use Rattle.resolved_block.specs.Meant.{signal_of}
use Rattle.resolved_block.specs.Statements.{typed_kind, typed_stmt}
use Rattle.resolved_block.specs.Blocks.{items_made, kind_made, ended, labels_from, kind_labels}
use Rattle.resolved_block.specs.Blocks.{body_of, env_of, typed_of}
use Rattle.exchange_model.specs.Everywhere.{Layer, Everywhere, AllIn, PartsKeep}
use Rattle.exchange_model.proofs.Everywhere.{everywhere-built}
use Rattle.text_soundness.specs.Shares.{PartsStand}
use Rattle.text_soundness.specs.Blocks.{IsBuilt}
use Rattle.text_soundness.proofs.BuiltText.{statement_in, statements_in, begin_total, Begin}
use Rattle.text_soundness.proofs.BuiltText.{begin_all, begin_then, begin_add, Sound, sound_front}
use Rattle.text_soundness.proofs.BuiltText.{sound_last, sound_whole}
use Rattle.text_events.proofs.Layers.{opened as opened_walk, kind_walk-out}
use Rattle.text_events.proofs.Steps.{stmt_head}
use Rattle.resolved_block.proofs.Turns.{typed_kind-out}
use Rattle.text_soundness.proofs.BuiltLists.{text, KindMade, StmtSound, StmtMade, ListSound, IsMade}
use Rattle.text_soundness.proofs.BuiltLists.{AreMade, list_made, is_made}
use Rattle.text_soundness.proofs.BuiltKinds.{env, layer_made, begin_names}
use Rattle.text_soundness.proofs.Operands.{all_from}
use Rattle.text_soundness.proofs.Pairs.{retrieved_by, Meet, meets_next, retrieves_asked}
use Rattle.text_soundness.proofs.Pairs.{asks_nothing}

-- a statement as its neighbours see it, by its layer

same_head : (l : StmtKind-F StmtKind Stmt When) → kind_head (opened_walk l) ≡ kind_head l
same_head (tree.Assign n e) = refl
same_head (tree.SetField n p e) = refl
same_head (tree.Goto l) = refl
same_head (tree.IfGoto c l) = refl
same_head (tree.If c first other) = refl
same_head (tree.Case e whens other) = refl
same_head (tree.On n from upto body) = refl
same_head (tree.ForFirst n file field r e l) = refl
same_head (tree.Send n r es fresh) = refl
same_head (tree.Retrieve n ns) = refl
same_head (tree.Return n es) = refl
same_head (tree.Transfer n r) = refl
same_head (tree.Seize n file l) = refl
same_head (tree.Free n file) = refl
same_head tree.Exit = refl

not_finish : (l : Layer) → is_inner l ≡ true → IsNotFinish l
not_finish layer.Finish h = cc
not_finish _ h = tt

module _ (s : Scope) (whole : List Event) (blocks : List Block) where
  -- a statement before others that stand as they must
  step : (here before after : Head) (m : MStmt) (ms : List MStmt) → StmtSound s whole blocks here m before after
      → retrieved (out-MKind m.kind) ≡ retrieved_by s.signals here → Meet s.signals before here
      → ListSound s whole blocks here ms → ListSound s whole blocks before (m ∷ ms)
  step here before after m ms x retrieves meet rest = record {
    all = (x.every, rest.all);
    paired = (retrieves ∙ retrieves_asked s.signals here before after x.together meet, subst (λ a. ArePaired s.signals a ms) (sym x.awaits) rest.paired);
  }

  -- a kind that has neither expressions nor statements
  bare : (k : MKind) (l : Layer) → out-MKind k ≡ l → PartsStand s l → PartsKeep (PartsStand s) l → Everywhere (PartsStand s) k
  bare k l is own parts = everywhere-built (PartsStand s) k (subst (PartsStand s) (sym is) own) (subst (PartsKeep (PartsStand s)) (sym is) parts)

  -- each label among these items is at a statement of these that is no RETRIEVE
  abbrev after_first : (List MStmt → Type 0) → List MStmt → Type 0
  after_first rest [] = Unit {0}
  after_first rest (m ∷ ms) = rest ms

  abbrev item_apart : ItemKind → (List MStmt → Type 0) → List MStmt → Type 0
  item_apart (items.Label n) rest ms = ArePaired s.signals None ms × rest ms
  item_apart (items.Enter n ns) rest ms = after_first rest ms
  item_apart (items.Stmt x) rest ms = after_first rest ms

  abbrev LabelsApart : List Item → List MStmt → Type 0
  LabelsApart [] ms = Unit {0}
  LabelsApart (x ∷ xs) ms = item_apart x.kind (LabelsApart xs) ms

  pub record BodySound (xs : List Item) (before : Head) (ms : List MStmt) : Type 0 where
    pub list : ListSound s whole blocks before ms
    pub labels : LabelsApart xs ms

  -- the numbers of the signals that items enter
  abbrev pub entered_by : ItemKind → Option ℕ
  entered_by (items.Enter n ns) = Some (unwrap_or (number_in s.signals n.name) 0)
  entered_by _ = None

  abbrev pub entered_numbers : List Item → List ℕ
  entered_numbers [] = []
  entered_numbers (x ∷ xs) = cons_option (entered_by x.kind) (entered_numbers xs)

  abbrev entry_told : Event → ℕ
  entry_told e = entries_head (kind_in s.signals) (begun e.note)

  -- how many entries are told of
  abbrev pub entries_told : List Event → ℕ
  entries_told es = total entry_told es

  not_entered : (l : Layer) → is_inner l ≡ true → entered l ≡ None
  not_entered (layer.Enter signal temps) h = cc
  not_entered layer.Finish h = cc
  not_entered _ h = refl

  row_none : (point line place : ℕ) → map (λ (r : Row). r.signal) (enters_from place (record { point = point; line = line; kind = kind.Finish } ∷ [])) ≡ []
  unfolding enters_from
  row_none point line place = ap (λ l. map (λ (r : Row). r.signal) (cons_option (row_at (entered l) place) [])) kind.outs-Finish

  row_other : (m : MStmt) (ms : List MStmt) → is_inner (out-MKind m.kind) ≡ true → (place : ℕ)
      → map (λ (r : Row). r.signal) (enters_from place (m ∷ ms))
      ≡ map (λ (r : Row). r.signal) (enters_from (place + 1) ms)
  unfolding enters_from
  row_other m ms inner place = ap (λ o. map (λ (r : Row). r.signal)
      (cons_option (row_at o place) (enters_from (place + 1) ms))) (not_entered (out-MKind m.kind) inner)

  row_enter : (point line signal : ℕ) (temps : List ℕ) (ms : List MStmt) (place : ℕ)
      → map (λ (r : Row). r.signal) (enters_from place
      (record { point = point; line = line; kind = kind.Enter signal temps } ∷ ms)) ≡ signal
      ∷ map (λ (r : Row). r.signal) (enters_from (place + 1) ms)
  unfolding enters_from
  row_enter point line signal temps ms place = ap
      (λ l. map (λ (r : Row). r.signal) (cons_option (row_at (entered l) place) (enters_from (place + 1) ms)))
      (kind.outs-Enter signal temps)

  pub record BodyMade (xs : List Item) (ms : List MStmt) : Type 0 where
    pub is_text : IsText ms
    pub depth : text_depth ms ≤ 12
    pub begins : (k : ℕ) (before : Head) (out : List Event) → Begin out (items_walk xs k before out)
    pub told : (k : ℕ) (before : Head) (out : List Event) → statements_in out + length (spots ms) ≤ statements_in (items_walk xs k before out) + 1
    pub enters : (place : ℕ) → map (λ (r : Row). r.signal) (enters_from place ms) ≡ entered_numbers xs
    pub entries : (number k : ℕ) (before : Head) (out : List Event)
        → Sound (text s whole blocks) (items_walk xs k before out)
        → entries_told out + length (entries_in s.signals number ms) ≤ entries_told (items_walk xs k before out)
    pub sound : (k : ℕ) (before : Head) (out : List Event) → Sound (text s whole blocks) (items_walk xs k before out)
        → Meet s.signals before (first_item xs) → BodySound xs before ms

  -- the end of the text
  body_none : (point line : ℕ) → BodyMade [] (record { point = point; line = line; kind = kind.Finish } ∷ [])
  body_none point line = record {
    is_text = ends (subst IsFinish (sym kind.outs-Finish) tt);
    depth = max-le (subst (λ d. d ≤ 12) (sym (kind_depth-out kind.Finish ∙ ap parts_depth kind.outs-Finish)) (omega arith)) (omega arith);
    begins = λ k before out. begin_all out;
    told = λ k before out. omega (
      arith,
      ap length (inner_spots-out kind.Finish ∙ ap parts_spots kind.outs-Finish),
      length-append (stmt_spots (record { point = point; line = line; kind = kind.Finish })) [],
    );
    enters = λ place. row_none point line place;
    entries = λ number k before out sound. omega (arith, ap length (ap (λ l. cons_option (entry_at s.signals (entered l) number point) []) kind.outs-Finish));
    sound = λ k before out sound meet. record {
      list = record {
        all = (bare kind.Finish layer.Finish kind.outs-Finish (record { chosen = tt; shallow = tt; few = omega arith; lists = tt }) tt, tt);
        paired = (ap retrieved kind.outs-Finish ∙ sym (asks_nothing s.signals before note.Nothing refl meet), ap (awaited s.signals) kind.outs-Finish);
      };
      labels = tt;
    };
  }

  module _ (names : Naming Meaning) where
    kind_made_of : (n m : ℕ) (B : List Stmt → Type 0)
        → ((xs : List Stmt) → B xs → (1 + m ≤ n) × AreMade s whole blocks (env s whole blocks names) m xs) → (x : Stmt)
        → KeepsStmtWith 6 B x → IsMade s whole blocks (env s whole blocks names) n x
    kind_made_of n m B inside x k = is_made s whole blocks (env s whole blocks names) n x (λ p.
        subst (λ w. KindMade s whole blocks n w.head w.walk (typed_kind (env s whole blocks names) x.kind p).0) (sym (kind_walk-out x.kind))
        (subst (λ t. KindMade s whole blocks n (kind_head (opened_walk (out-StmtKind x.kind)))
        (kind_own (opened_walk (out-StmtKind x.kind))) (t p).0)
        (sym (typed_kind-out (env s whole blocks names) x.kind))
        (layer_made s whole blocks names n m B inside (out-StmtKind x.kind) k p)))

    stmt_is_made : (n : ℕ) (x : Stmt) → KeepsStmtWith 6 (KeepsBody 6 n) x → IsMade s whole blocks (env s whole blocks names) n x
    unfolding KeepsBody
    stmt_is_made zero x k = kind_made_of 0 0 (KeepsBody 6 0) (λ xs h. absurd h) x k
    stmt_is_made (suc n) x k = kind_made_of (suc n) n (KeepsBody 6 (suc n))
        (λ xs h. (
          omega arith,
          list_made s whole blocks (env s whole blocks names) n xs
              (all_from (KeepsStmtWith 6 (KeepsBody 6 n)) (IsMade s whole blocks (env s whole blocks names) n)
              (stmt_is_made n) xs h),
        )) x k

    label_more : (x : Named) (line : ℕ) (xs : List Item) (ms : List MStmt) → BodyMade xs ms → BodyMade (record { line = line; kind = items.Label x } ∷ xs) ms
    label_more x line xs ms rest = record {
      is_text = rest.is_text;
      depth = rest.depth;
      begins = λ k before out. begin_then out _ _
          (begin_add out out x.line (note.Declares x.name (meaning.Label k)) (begin_all out))
          (rest.begins (k + 1) note.Other _);
      told = λ k before out. omega (
        arith,
        begin_total statement_in out
            (add x.line (note.Declares x.name (meaning.Label k)) out)
            (begin_add out out x.line (note.Declares x.name (meaning.Label k)) (begin_all out)),
        rest.told (k + 1)
            note.Other (add x.line (note.Declares x.name (meaning.Label k)) out),
      );
      enters = rest.enters;
      entries = λ number k before out sound. omega (
        arith,
        begin_total (entry_told) out (add x.line (note.Declares x.name (meaning.Label k)) out)
            (begin_add out out x.line (note.Declares x.name (meaning.Label k)) (begin_all out)),
        rest.entries number
            (k + 1) note.Other (add x.line (note.Declares x.name (meaning.Label k)) out) sound,
      );
      sound = λ k before out sound meet.
          let kept = rest.sound (k + 1) note.Other (add x.line (note.Declares x.name (meaning.Label k)) out) sound refl in
          record {
            list = record {
              all = kept.list.all;
              paired = subst (λ a. ArePaired s.signals a ms)
                  (sym (asks_nothing s.signals before note.Other refl meet)) kept.list.paired;
            };
            labels = (kept.list.paired, kept.labels);
          };
    }

    stmt_more : (x : Stmt) (line : ℕ) (xs : List Item) (m : MStmt) (ms : List MStmt)
        → StmtMade s whole blocks 12 (stmt_walk x) m → BodyMade xs ms
        → BodyMade (record { line = line; kind = items.Stmt x } ∷ xs) (m ∷ ms)
    stmt_more x line xs m ms made rest = record {
      is_text = goes (not_finish (out-MKind m.kind) made.inner) rest.is_text;
      depth = max-le made.depth rest.depth;
      begins = λ k before out. begin_then out _ _ (made.begins before (first_item xs) out) (rest.begins (k + 0) (head_of x) _);
      told = λ k before out. omega (
        arith,
        length-append (stmt_spots m) (spots ms),
        made.told before (first_item xs)
            out,
        rest.told (k + 0) (head_of x) ((stmt_walk x).walk before (first_item xs) out),
      );
      enters = λ place. row_other m ms made.inner place ∙ rest.enters (place + 1);
      entries = λ number k before out sound.
          let next = (stmt_walk x).walk before (first_item xs) out in
          let none : length (entries_in s.signals number (m ∷ ms))
          ≡ length (entries_in s.signals number ms) = ap
          (λ o. length (cons_option (entry_at s.signals o number m.point) (entries_in s.signals number ms)))
          (not_entered (out-MKind m.kind) made.inner) in
          omega (arith, none, begin_total (entry_told) out next (made.begins before (first_item xs) out), rest.entries number (k + 0) (head_of x) next sound);
      sound = λ k before out sound meet.
          let next = (stmt_walk x).walk before (first_item xs) out in
          let here = subst (λ h. StmtSound s whole blocks h m before (first_item xs)) (stmt_head x)
          (made.sound before (first_item xs) out
          (sound_front (text s whole blocks) next _ (rest.begins (k + 0) (head_of x) next) sound)) in
          let others = rest.sound (k + 0) (head_of x) next sound (meets_next s.signals (head_of x) before (first_item xs) here.together) in
          record {
            list = step (head_of x) before (first_item xs) m ms here
                (made.retrieves ∙ ap (retrieved_by s.signals) (stmt_head x)) meet others.list;
            labels = others.labels;
          };
    }

    entry_count : (o : Option SignalKind) (number signal point : ℕ) (more : List Entry)
        → length (cons_option (entry_of o number signal point) more) ≤ one_if (is_buffered o) + length more
    entry_count None number signal point more = omega arith
    entry_count (Some (Buffered name level count)) number signal point more = omega arith
    entry_count (Some (Direct name count)) number signal point more = omega arith
    entry_count (Some (Combined name count answer)) number signal point more = omega arith
    entry_count (Some (Answer name count of)) number signal point more = omega arith
    entry_count (Some (Outside name count)) number signal point more = omega arith

    enter_more : (x : Named) (ns : Option Names) (point line signal : ℕ) (temps : List ℕ) (xs : List Item)
        (ms : List MStmt) → signal ≡ unwrap_or (number_in s.signals x.name) 0 → BodyMade xs ms
        → BodyMade (record { line = line; kind = items.Enter x ns } ∷ xs)
        (record { point = point; line = line; kind = kind.Enter signal temps } ∷ ms)
    enter_more x ns point line signal temps xs ms is_signal rest = record {
      is_text = goes (subst IsNotFinish (sym (kind.outs-Enter signal temps)) tt) rest.is_text;
      depth = max-le (subst (λ d. d ≤ 12) (sym
          (kind_depth-out (kind.Enter signal temps) ∙ ap parts_depth (kind.outs-Enter signal temps))) (omega arith))
          rest.depth;
      begins = λ k before out. begin_then out _ _ (walked k before out) (rest.begins (k + 0) here _);
      told = λ k before out.
          let begun_here = add line (note.Begins here before (first_item xs)) out in
          let next = item_walk_at (items.Enter x ns) line k before (first_item xs) out in
          omega (
            arith,
            ap length (inner_spots-out (kind.Enter signal temps)
                ∙ ap parts_spots (kind.outs-Enter signal temps)),
            length-append
                (stmt_spots (record { point = point; line = line; kind = kind.Enter signal temps })) (spots ms),
            total_push statement_in out (record { line = line; note = note.Begins here before (first_item xs) }),
            begin_total statement_in begun_here next (named begun_here),
            rest.told (k + 0) here next,
          );
      enters = λ place. row_enter point line signal temps ms place
          ∙ ap (λ n. n ∷ map (λ (r : Row). r.signal) (enters_from (place + 1) ms)) is_signal
          ∙ ap (λ r. unwrap_or (number_in s.signals x.name) 0 ∷ r) (rest.enters (place + 1));
      entries = λ number k before out sound.
          let begun_here = add line (note.Begins here before (first_item xs)) out in
          let standing = add x.line (note.Names x.name role.Received) begun_here in
          let next = item_walk_at (items.Enter x ns) line k before (first_item xs) out in
          let front = sound_front (text s whole blocks) next _ (rest.begins (k + 0) here next) sound in
          let stand = not-false _ (sound_last (text s whole blocks) begun_here x.line (note.Names x.name role.Received)
          rule.WrongSignal (sound_front (text s whole blocks) standing next (begin_names (names_of ns) standing)
          front)) in
          let is_kind : slice_get s.signals signal ≡ kind_in s.signals x.name = ap (slice_get s.signals) is_signal
          ∙ kind_of_number s.signals (number_in s.signals x.name) role.Received stand in
          let typed : length (entries_in s.signals number
          (record { point = point; line = line; kind = kind.Enter signal temps } ∷ ms))
          ≡ length (cons_option (entry_of (kind_in s.signals x.name) number signal point)
          (entries_in s.signals number ms)) = ap
          (λ l. length (cons_option (entry_at s.signals (entered l) number point) (entries_in s.signals number ms)))
          (kind.outs-Enter signal temps) ∙ ap
          (λ o. length (cons_option (entry_of o number signal point) (entries_in s.signals number ms))) is_kind in
          omega (
            arith,
            typed,
            entry_count (kind_in s.signals x.name) number signal point
                (entries_in s.signals number ms),
            total_push (entry_told) out
                (record { line = line; note = note.Begins here before (first_item xs) }),
            begin_total (entry_told)
                begun_here next (named begun_here),
            rest.entries number (k + 0) here next sound,
          );
      sound = λ k before out sound meet.
          let next = item_walk_at (items.Enter x ns) line k before (first_item xs) out in
          let begun = add line (note.Begins here before (first_item xs)) out in
          let front = sound_front (text s whole blocks) next _ (rest.begins (k + 0) here next) sound in
          let own : StmtSound s whole blocks here (record { point = point; line = line; kind = kind.Enter signal temps }) before (first_item xs) = record {
            every = bare (kind.Enter signal temps) (layer.Enter signal temps) (kind.outs-Enter signal temps)
                (record { chosen = tt; shallow = tt; few = omega arith; lists = tt }) tt;
            awaits = ap (awaited s.signals) (kind.outs-Enter signal temps);
            together = sound_last (text s whole blocks) out line (note.Begins here before (first_item xs)) rule.Apart
                (sound_front (text s whole blocks) begun next (named begun) front);
          } in
          let others = rest.sound (k + 0) here next sound (meets_next s.signals here before (first_item xs) own.together) in
          record { list = step here before (first_item xs) _ ms own (ap retrieved (kind.outs-Enter signal temps)) meet others.list; labels = others.labels };
    }
      where
        here : Head
        here = note.Enters x.name (length (names_of ns))

        named : (out : List Event) → Begin out (names_walk ns (add x.line (note.Names x.name role.Received) out))
        named out = begin_then out _ _ (begin_add out out x.line (note.Names x.name role.Received) (begin_all out)) (begin_names (names_of ns) _)

        walked : (k : ℕ) (before : Head) (out : List Event) → Begin out (item_walk_at (items.Enter x ns) line k before (first_item xs) out)
        walked k before out = begin_then out _ _ (begin_add out out line (note.Begins here before (first_item xs)) (begin_all out)) (named _)

    pub body_made : (xs : List Item) → Every (KeepsItem 6 12) xs → (line : ℕ) (p : ℕ) → BodyMade xs (ended line (items_made (env s whole blocks names) xs p))
    unfolding items_made
    body_made [] all line p = body_none p line
    body_made (x ∷ xs) all line p = item_more x.kind all.0 (body_made xs all.1 line)
      where
        item_more : (i : ItemKind) → KeepsItemAt 6 12 i
            → ((q : ℕ) → BodyMade xs (ended line (items_made (env s whole blocks names) xs q)))
            → BodyMade (record { line = x.line; kind = i } ∷ xs)
            (ended line (kind_made (env s whole blocks names) x.line i (items_made (env s whole blocks names) xs) p))
        item_more (items.Label n) k rest = label_more n x.line xs _ (rest p)
        item_more (items.Enter n ns) k rest = enter_more n ns p x.line (signal_of (env s whole blocks names) n)
            (typed_temps (env s whole blocks names) ns) xs _ refl (rest ((p + 1)))
        item_more (items.Stmt y) k rest = stmt_more y x.line xs _ _ (stmt_is_made 12 y k p) (rest (typed_stmt (env s whole blocks names) y p).1)

  -- a label of an item stands at the statement that follows it, in the body from this place on
  label_here : (body : List MStmt) (place : ℕ) (ms : List MStmt) (last : MStmt)
      → slice_get body place ≡ slice_get (ms ++ last ∷ []) 0 → ArePaired s.signals None (ms ++ last ∷ [])
      → IsSomeAnd (slice_get body place) (λ (m : MStmt). retrieved (out-MKind m.kind) ≡ None)
  label_here body place [] last is paired = subst (λ o. IsSomeAnd o (λ (m : MStmt). retrieved (out-MKind m.kind) ≡ None)) (sym is) paired.0
  label_here body place (m ∷ ms) last is paired = subst (λ o. IsSomeAnd o (λ (m : MStmt). retrieved (out-MKind m.kind) ≡ None)) (sym is) paired.0

  item_at : (env : Env) (line : ℕ) (body : List MStmt) (own : ℕ) (i : ItemKind) (xs : List Item) (place p : ℕ)
      → ((n q : ℕ) → ((j : ℕ) → slice_get body (n + j) ≡ slice_get (ended line (items_made env xs q)) j)
      → LabelsApart xs (ended line (items_made env xs q)) → AllByRecursion (IsLabelAt body) (labels_from xs n))
      → ((j : ℕ) → slice_get body (place + j) ≡ slice_get (ended line (kind_made env own i (items_made env xs) p)) j)
      → item_apart i (LabelsApart xs) (ended line (kind_made env own i (items_made env xs) p))
      → AllByRecursion (IsLabelAt body) (kind_labels i place (labels_from xs))
  item_at env line body own (items.Label n) xs place p more is apart =
      let here : place + 0 ≡ place = omega arith in
      (label_here body place (items_made env xs p).0 _ (ap (slice_get body) (sym here) ∙ is 0) apart.0, more place p is apart.1)
  item_at env line body own (items.Enter n ns) xs place p more is apart = more (place + 1) (p + 1)
      (λ j. let next : place + 1 + j ≡ place + suc j = omega arith in ap (slice_get body) next ∙ is (suc j)) apart
  item_at env line body own (items.Stmt y) xs place p more is apart = more (place + 1) (typed_stmt env y p).1
      (λ j. let next : place + 1 + j ≡ place + suc j = omega arith in ap (slice_get body) next ∙ is (suc j)) apart

  labels_at : (env : Env) (line : ℕ) (body : List MStmt) (xs : List Item) (place p : ℕ)
      → ((j : ℕ) → slice_get body (place + j) ≡ slice_get (ended line (items_made env xs p)) j)
      → LabelsApart xs (ended line (items_made env xs p)) → AllByRecursion (IsLabelAt body) (labels_from xs place)
  unfolding labels_from items_made
  labels_at env line body [] place p same apart = tt
  labels_at around line body (x ∷ xs) place p same apart = item_at around line body x.line x.kind xs place p
      (λ n q. labels_at around line body xs n q) same apart

pub body_is : (signals : List SignalKind) (blocks : List Block) (first : First) (b : Block)
    → (typed_of signals blocks first b).block.body ≡ body_of (env_of signals blocks first b) first b
unfolding typed_of
body_is signals blocks first b = refl

labels_are : (signals : List SignalKind) (blocks : List Block) (first : First) (b : Block)
    → (typed_of signals blocks first b).block.labels ≡ labels_from b.items 0
unfolding typed_of
labels_are signals blocks first b = refl

-- how a block's body is made of its items
pub block_made : (s : Scope) (blocks : List Block) (first : First) (b : Block) → KeepsBlock 6 12 b
    → BodyMade s (block_events b) blocks b.items (body_of (env_of s.signals blocks first b) first b)
block_made s blocks first b keeps = body_made s (block_events b) blocks (meanings_of first.file (block_events b)) b.items keeps.1.1.1 b.end_line first.point

-- no event of a block's body breaks a rule
pub body_is_sound : (signals : List SignalKind) (blocks : List Block) (b : Block) → IsFineBlock signals blocks b
    → Sound (text_of signals blocks b) (block_body b)
body_is_sound signals blocks b fine = sound_front (text_of signals blocks b) (block_body b) (block_events b)
    (begin_add (block_body b) (block_body b) b.end_line note.Ends (begin_all (block_body b)))
    (sound_whole (text_of signals blocks b) fine.fine)

built_with : (s : Scope) (blocks : List Block) (first : First) (b : Block) → IsFineBlock s.signals blocks b
    → KeepsBlock 6 12 b → s.block.body ≡ body_of (env_of s.signals blocks first b) first b
    → s.block.labels ≡ labels_from b.items 0 → IsBuilt s
built_with s blocks first b fine keeps body labels =
    let around = env_of s.signals blocks first b in
    let made = block_made s blocks first b keeps in
    let kept = made.sound 0 note.Nothing _ (body_is_sound s.signals blocks b fine) refl in
    record {
      text = subst IsText (sym body) made.is_text;
      parts = subst (AllIn (PartsStand s)) (sym body) kept.list.all;
      paired = subst (ArePaired s.signals None) (sym body) kept.list.paired;
      shallow = subst (λ ms. text_depth ms ≤ 12) (sym body) made.depth;
      labels = subst (λ ms. AllByRecursion (IsLabelAt ms) s.block.labels) (sym body)
          (subst (AllByRecursion (IsLabelAt (body_of around first b))) (sym labels)
          (labels_at s (block_events b) blocks around b.end_line (body_of around first b) b.items 0 first.point
          (λ j. let same : 0 + j ≡ j = omega arith in ap (slice_get (body_of around first b)) same) kept.labels));
    }

pub fine_blocks : (signals : List SignalKind) (blocks : List Block) (first : First) (b : Block) (s : Scope)
    → IsFineBlock signals blocks b → KeepsBlock 6 12 b → s.signals ≡ signals
    → s.block ≡ (typed_of signals blocks first b).block → IsBuilt s
fine_blocks signals blocks first b s fine keeps same is =
    built_with s blocks first b (subst (λ x. IsFineBlock x blocks b) (sym same) fine) keeps
    (ap (λ k. k.body) is ∙ body_is signals blocks first b
    ∙ ap (λ x. body_of (env_of x blocks first b) first b) (sym same))
    (ap (λ k. k.labels) is ∙ labels_are signals blocks first b)
