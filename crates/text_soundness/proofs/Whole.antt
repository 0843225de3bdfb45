-- A text that breaks no rule means an exchange: the shares put together.
use Rattle.std.proofs.Common.{◌≡◌, ℕ, true, List, [], ◌∷◌, Option, Some, None, length, map, suc}
use Rattle.std.proofs.Common.{zero, slice_get, refl, sym, ◌∙◌, ap, subst, nat_eq}
use Rattle.std.specs.Prelude.{Contains}
use Rattle.std.specs.List.{AllByRecursion, IsDistinct}
use Rattle.std.proofs.lemmas.Option.{same_Some}
use Rattle.plex_num.proofs.Members.{found_in}
use Rattle.exchange_model.specs.declared.block.Block.{Block}
use Rattle.exchange_model.specs.declared.block.Enter.{Enter as Row}
use Rattle.exchange_model.specs.declared.stmt.Stmt.{Stmt}
use Rattle.exchange_model.specs.declared.stmt.StmtKind.TheOpen as layer
use Rattle.exchange_model.specs.declared.signal.SignalKind.{SignalKind}
use Rattle.exchange_model.specs.Fits.{Scope, LayerFits, KindNames, Receives}
use Rattle.exchange_model.specs.Kept.{BlockKept, CanBeSent, IsExchange, SignalsKept, enters_from}
use Rattle.exchange_model.specs.Kept.{scope_of}
use Rattle.plex_ast.specs.declared.block.Block.{Block as TreeBlock}
use Rattle.plex_ast.specs.declared.tree.Tree.{Tree}
use Rattle.kept_trees.specs.Keeps.{Every, KeepsBlock}
use Rattle.signal_types.specs.Signals.{signals_of}
use Rattle.text_events.specs.Blocks.{block_events}
use Rattle.text_rules.specs.Surveys.{receives, sends, is_so, receives_at}
use Rattle.resolved_block.specs.declared.parts.First.{First}
use Rattle.resolved_block.specs.Blocks.{env_of, typed_of, sends_of}
use Rattle.resolved_block.specs.Texts.{none_before, typed_from, typed_blocks, exchange_of}
use Rattle.resolved_block.specs.Texts.{exchange_of_tree}
use Rattle.text_soundness.specs.Blocks.{IsDeclared, IsBuilt, IsNamed}
use Rattle.exchange_model.specs.Everywhere.{Layer, AllIn}
use Rattle.text_soundness.specs.Fine.{IsFineBlock, IsFineTree}
use Rattle.text_soundness.specs.Meanings.{Suits}
use Rattle.text_soundness.specs.Shares.{NamesStand, NamesOf, PartsStand, ChoosesOnce}
use Rattle.text_soundness.proofs.BuiltBody.{fine_blocks, block_made, body_is}
use Rattle.text_soundness.proofs.Declared.{blocks_are_declared}
use Rattle.text_soundness.proofs.Enters.{number_of_name, numbers_entered, numbers_are, entered_once}
use Rattle.text_soundness.proofs.Enters.{entered_there, received_is_entered, sent_is_announced}
use Rattle.text_soundness.proofs.FineParts.{FineParts, fine_parts, fine_block}
use Rattle.text_soundness.proofs.Joined.{all_joined}
use Rattle.text_soundness.proofs.LimitedTexts.{signals_few, blocks_few, limited, names_apart}
use Rattle.text_soundness.proofs.Meanings.{meanings_are_suited}
use Rattle.text_soundness.proofs.NamedBlocks.{block_is_named}
use Rattle.text_soundness.proofs.NamedKinds.{Standing}
use Rattle.text_soundness.proofs.NumberedTexts.{numbered}
use Rattle.text_soundness.proofs.Placed.{IsOfTree, placed}
use Rattle.text_soundness.proofs.SignalsTexts.{signals_kept}

-- one layer

names_joined : (s : Scope) (l : Layer) → NamesOf s l → ChoosesOnce l → KindNames s l
names_joined s (layer.Enter signal temps) n c = n
names_joined s (layer.SetTemp temp value) n c = n
names_joined s (layer.SetVariable variable value) n c = n
names_joined s (layer.SetField file field pointer value) n c = n
names_joined s (layer.Goto label) n c = n
names_joined s (layer.IfGoto cond label) n c = n
names_joined s (layer.If cond yes_part no_part) n c = n
names_joined s (layer.Case value whens otherwise) n c = c
names_joined s (layer.On temp from upto body) n c = n
names_joined s (layer.ForFirst temp file field rel value label) n c = n
names_joined s (layer.Send signal to values fresh) n c = n
names_joined s (layer.Retrieve answer temps) n c = n
names_joined s (layer.Return answer values) n c = n
names_joined s (layer.Transfer signal to) n c = n
names_joined s (layer.Seize temp file label) n c = n
names_joined s (layer.Free temp file) n c = n
names_joined s layer.Exit n c = n
names_joined s layer.Finish n c = n

layer_joined : (s : Scope) (l : Layer) → NamesStand s l → PartsStand s l → LayerFits s l
layer_joined s l n p = record {
  names = names_joined s l n.names p.chosen;
  exprs = record { each = n.exprs; shallow = p.shallow; few = p.few };
  lists = p.lists;
}

body_fits : (s : Scope) (body : List Stmt) → AllIn (NamesStand s) body → AllIn (PartsStand s) body → AllIn (LayerFits s) body
body_fits s body n p = all_joined (NamesStand s) (PartsStand s) (LayerFits s) (layer_joined s) body n p

-- blocks

keeps_at : (list : List TreeBlock) (b : ℕ) (tree : TreeBlock) → Every (KeepsBlock 6 12) list → slice_get list b ≡ Some tree → KeepsBlock 6 12 tree
keeps_at [] b tree f at = cc
keeps_at (k ∷ rest) zero tree f at = subst (KeepsBlock 6 12) (same_Some k tree at) f.0
keeps_at (k ∷ rest) (suc b) tree f at = keeps_at rest b tree f.1 at

signals_are : (t : Tree) → (exchange_of_tree t).signals ≡ signals_of t
unfolding exchange_of
signals_are t = refl

blocks_are : (t : Tree) → (exchange_of_tree t).blocks ≡ typed_blocks t
unfolding exchange_of
blocks_are t = refl

entered_is : (kinds : List SignalKind) (blocks : List TreeBlock) (first : First) (tree : TreeBlock)
    → (typed_of kinds blocks first tree).block.enters ≡ enters_from 0 (typed_of kinds blocks first tree).block.body
unfolding typed_of
entered_is kinds blocks first tree = refl

sends_are : (kinds : List SignalKind) (blocks : List TreeBlock) (first : First) (tree : TreeBlock)
    → (typed_of kinds blocks first tree).block.sends ≡ sends_of (env_of kinds blocks first tree) tree
unfolding typed_of
sends_are kinds blocks first tree = refl

-- the signals that a block enters
enter_numbers : (kinds : List SignalKind) (blocks : List TreeBlock) (first : First) (tree : TreeBlock)
    → KeepsBlock 6 12 tree → map (λ (r : Row). r.signal) (typed_of kinds blocks first tree).block.enters
    ≡ numbers_entered kinds tree.items
enter_numbers kinds blocks first tree keeps =
    let k = (typed_of kinds blocks first tree).block in
    let s : Scope = record { signals = kinds; blocks = []; files = []; number = 0; block = k } in
    ap (map (λ (r : Row). r.signal)) (entered_is kinds blocks first tree ∙ ap (enters_from 0) (body_is kinds blocks first tree))
    ∙ (block_made s blocks first tree keeps).enters 0 ∙ numbers_are s (block_events tree) blocks tree.items

-- a block of the tree among those of the exchange
record TypedAt (kinds : List SignalKind) (blocks typed : List TreeBlock) (start : First) (b : ℕ) (tree : TreeBlock) : Type 0 where
  pub first : First
  pub there : slice_get (typed_from kinds blocks start typed) b ≡ Some (typed_of kinds blocks first tree).block

typed_at : (kinds : List SignalKind) (blocks list : List TreeBlock) (start : First) (b : ℕ) (tree : TreeBlock)
    → slice_get list b ≡ Some tree → TypedAt kinds blocks list start b tree
unfolding typed_from
typed_at kinds blocks [] start b tree at = cc
typed_at kinds blocks (k ∷ rest) start zero tree at = record
    { first = start; there = ap (λ (x : TreeBlock). Some (typed_of kinds blocks start x).block) (same_Some k tree at) }
typed_at kinds blocks (k ∷ rest) start (suc b) tree at = let more = typed_at kinds blocks rest
    (typed_of kinds blocks start k).next b tree at in record { first = more.first; there = more.there }

typed_length : (kinds : List SignalKind) (blocks list : List TreeBlock) (start : First) → length list ≡ length (typed_from kinds blocks start list)
unfolding typed_from
typed_length kinds blocks [] start = refl
typed_length kinds blocks (k ∷ rest) start = ap suc (typed_length kinds blocks rest (typed_of kinds blocks start k).next)

module _ (t : Tree) (spelled : Every (KeepsBlock 6 12) t.blocks) (f : FineParts t) where
  -- a block whose survey receives a signal receives it
  received : (b : ℕ) (k : Block) (c : ℕ) (n : List ℕ) → receives_at t.blocks c n ≡ true
      → Receives (scope_of (exchange_of_tree t) b k) c (number_of_name (exchange_of_tree t).signals n)
  received b k c n h = here (slice_get t.blocks c) refl h
    where
      here : (o : Option TreeBlock) → slice_get t.blocks c ≡ o → is_so (receives n) o ≡ true
          → Receives (scope_of (exchange_of_tree t) b k) c (number_of_name (exchange_of_tree t).signals n)
      here None at h = cc
      here (Some tree) at h =
          let kinds = signals_of t in
          let typed = typed_at kinds t.blocks t.blocks none_before c tree at in
          let entered = received_is_entered kinds t.blocks tree n (fine_block t f c tree at) h in
          let has = found_in (number_of_name kinds n) (numbers_entered kinds tree.items) (entered_there kinds n tree.items entered) in
          let numbers = enter_numbers kinds t.blocks typed.first tree (keeps_at t.blocks c tree spelled at) in
          record {
            receiver = (typed_of kinds t.blocks typed.first tree).block;
            there = ap (λ bs. slice_get bs c) (blocks_are t) ∙ typed.there;
            enters = subst (λ ks. Contains (map (λ (r : Row). r.signal)
                (typed_of kinds t.blocks typed.first tree).block.enters) (number_of_name ks n)) (sym (signals_are t))
                (subst (λ ns. Contains ns (number_of_name kinds n)) (sym numbers) has);
          }

  block_kept : (b : ℕ) (k : Block) → slice_get (exchange_of_tree t).blocks b ≡ Some k → BlockKept (exchange_of_tree t) b k
  block_kept b k at =
      let x : IsOfTree t b k = placed t b k at in
      let kinds = signals_of t in
      let s : Scope = scope_of (exchange_of_tree t) b k in
      let fine : IsFineBlock kinds t.blocks x.tree = fine_block t f b x.tree x.there in
      let keeps : KeepsBlock 6 12 x.tree = keeps_at t.blocks b x.tree spelled x.there in
      let declared : IsDeclared kinds k = subst (IsDeclared kinds) (sym x.same) (blocks_are_declared kinds t.blocks x.first x.tree fine) in
      let built : IsBuilt s = fine_blocks kinds t.blocks x.first x.tree s fine keeps (signals_are t) x.same in
      let announced : (n : List ℕ) → sends n x.tree ≡ true → Contains k.sends (number_of_name (exchange_of_tree t).signals n) = λ n h.
      subst (λ ks. Contains k.sends (number_of_name ks n)) (sym (signals_are t))
      (subst (λ ns. Contains ns (number_of_name kinds n))
      (sym (ap (λ (y : Block). y.sends) x.same ∙ sends_are kinds t.blocks x.first x.tree))
      (sent_is_announced (env_of kinds t.blocks x.first x.tree) x.tree n h)) in
      let standing : Standing s x.first.file (block_events x.tree) t.blocks x.tree = record {
        placed = x.placed;
        suits = λ n m stands. subst (λ y. Suits y m) (sym x.same) (meanings_are_suited kinds t.blocks x.first x.tree n m stands);
        many = typed_length kinds t.blocks t.blocks none_before ∙ ap length (sym (blocks_are t));
        received = λ c n h. received b k c n h;
        sent = announced;
      } in
      let named : IsNamed s = block_is_named kinds t.blocks x.first x.tree s fine keeps (signals_are t) x.same standing in
      record {
        names = declared.names;
        variables = declared.variables;
        temporaries = declared.temporaries;
        files = declared.files;
        sends = subst (λ g. AllByRecursion (λ signal. CanBeSent (slice_get g signal)) k.sends) (sym (signals_are t)) declared.sends;
        sends_once = declared.sends_once;
        enters = subst (λ (y : Block). y.enters ≡ enters_from 0 y.body) (sym x.same) (entered_is kinds t.blocks x.first x.tree);
        enters_once = subst (λ (y : Block). IsDistinct nat_eq (map (λ (r : Row). r.signal) y.enters)) (sym x.same)
            (subst (IsDistinct nat_eq) (sym (enter_numbers kinds t.blocks x.first x.tree keeps))
            (entered_once kinds t.blocks x.tree fine));
        labels = built.labels;
        text = built.text;
        statements = body_fits s k.body named built.parts;
        paired = built.paired;
        shallow = built.shallow;
      }

-- the exchange of a text that breaks no rule
pub is_exchange : (t : Tree) → IsFineTree t → IsExchange (exchange_of_tree t)
is_exchange t fine =
    let f = fine_parts t fine.fine in
    record {
      signals = subst SignalsKept (sym (signals_are t)) (signals_kept t f (signals_few t f));
      blocks = record { few = blocks_few t f fine.spelled.1; names = names_apart t f; each = block_kept t fine.spelled.1 f };
      numbered = numbered t;
      limited = limited t f fine.spelled.1 fine.few;
    }
