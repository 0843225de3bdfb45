-- A tree that breaks no rule means an exchange that keeps the limits.
use Rattle.std.proofs.Common.{◌≡◌, ℕ, ◌+◌, ◌≤◌, List, [], ◌∷◌, length, map, refl, sym, ◌∙◌, ap}
use Rattle.std.proofs.Common.{subst, arith}
use Rattle.std.specs.Str.{bytes_eq}
use Rattle.std.specs.List.{AllByRecursion, IsDistinct}
use Rattle.std.proofs.lemmas.List.Elements.{recursion_from_All}
use Rattle.std.proofs.lemmas.Option.{slice_get-get_or}
use Rattle.first_fault.specs.First.{total}
use Rattle.plex_limits.specs.declared.limits.TheConstants.{MOST_SIGNALS, MOST_BLOCKS, MOST_WHENS}
use Rattle.plex_num.proofs.Lists.{all_both}
use Rattle.exchange_model.specs.declared.signal.SignalKind.{SignalKind}
use Rattle.exchange_model.specs.declared.block.Block.{Block}
use Rattle.exchange_model.specs.Inside.{joined}
use Rattle.exchange_model.specs.Kept.{Limited}
use Rattle.plex_ast.specs.declared.block.Block.{Block as TreeBlock}
use Rattle.plex_ast.specs.declared.tree.Tree.{Tree}
use Rattle.kept_trees.specs.Keeps.{Every, KeepsBlock}
use Rattle.signal_types.specs.Signals.{signals_of}
use Rattle.signal_types.specs.Found.{kind_in}
use Rattle.text_events.specs.Note.{Event}
use Rattle.text_events.specs.Blocks.{block_events}
use Rattle.text_events.specs.Texts.{signal_events, text_events}
use Rattle.text_rules.specs.Links.{adds}
use Rattle.resolved_block.specs.declared.parts.First.{First}
use Rattle.resolved_block.specs.Blocks.{typed_of}
use Rattle.resolved_block.specs.Texts.{none_before, typed_from, exchange_of, exchange_of_tree}
use Rattle.resolved_block.specs.Texts.{choices_in}
use Rattle.text_soundness.proofs.BuiltText.{total_append}
use Rattle.text_soundness.proofs.FineParts.{FineParts, fine_block}
use Rattle.text_soundness.proofs.LimitedTotals.{are_within}
use Rattle.text_soundness.proofs.LimitedCounts.{Kept, all_blocks, all_cells, all_statements}
use Rattle.text_soundness.proofs.LimitedCounts.{all_entries}
use Rattle.text_soundness.proofs.SignalsOnce.{signals_total, blocks_distinct}

-- every block is fine and keeps the depths

keeps_all : (list : List TreeBlock) → Every (KeepsBlock 6 12) list → AllByRecursion (KeepsBlock 6 12) list
keeps_all [] h = tt
keeps_all (b ∷ rest) h = (h.0, keeps_all rest h.1)

pub all_kept : (t : Tree) → FineParts t → Every (KeepsBlock 6 12) t.blocks → AllByRecursion (Kept (signals_of t) t.blocks) t.blocks
all_kept t f keeps =
    all_both _ (KeepsBlock 6 12) t.blocks (recursion_from_All _ t.blocks
    (λ k d inside. fine_block t f k _ (slice_get-get_or t.blocks k d inside))) (keeps_all t.blocks keeps)

-- all events are those of the signals and those of the blocks
split : (t : Tree) (amount : Event → ℕ) → total amount (joined (text_events t)) ≡ total amount (signal_events t)
    + total amount (joined (map block_events t.blocks))
unfolding text_events
split t amount = total_append amount (signal_events t) (joined (map block_events t.blocks))

pub signals_few : (t : Tree) → FineParts t → length (signals_of t) ≤ MOST_SIGNALS
signals_few t f = omega (arith, (are_within t f).signals, split t (λ (e : Event). (adds (kind_in (signals_of t)) e.note).signals), signals_total t)

pub blocks_few : (t : Tree) → FineParts t → Every (KeepsBlock 6 12) t.blocks → length (exchange_of_tree t).blocks ≤ MOST_BLOCKS
unfolding exchange_of
blocks_few t f keeps = omega (
  arith,
  (are_within t f).blocks,
  split t
      (λ (e : Event). (adds (kind_in (signals_of t)) e.note).blocks),
  all_blocks (signals_of t) t.blocks none_before
      t.blocks (all_kept t f keeps),
)

pub limited : (t : Tree) → FineParts t → Every (KeepsBlock 6 12) t.blocks → choices_in (exchange_of_tree t) ≤ MOST_WHENS → Limited (exchange_of_tree t)
unfolding exchange_of
limited t f keeps few =
    let kept = all_kept t f keeps in
    let within = are_within t f in
    let kind = kind_in (signals_of t) in
    record {
      entries = omega (
        arith,
        within.entries,
        split t (λ (e : Event). (adds kind e.note).entries),
        all_entries
            (signals_of t) t.blocks none_before t.blocks 0 kept,
      );
      statements = omega (
        arith,
        within.statements,
        split t (λ (e : Event). (adds kind e.note).statements),
        all_statements (signals_of t) t.blocks none_before t.blocks 0 kept,
      );
      cells = omega (arith, within.cells, split t (λ (e : Event). (adds kind e.note).cells), all_cells (signals_of t) t.blocks none_before t.blocks kept);
      whens = few;
    }

-- the names of blocks

block_name : (signals : List SignalKind) (blocks : List TreeBlock) (first : First) (b : TreeBlock) → (typed_of signals blocks first b).block.name ≡ b.name.name
unfolding typed_of
block_name signals blocks first b = refl

names_same : (signals : List SignalKind) (blocks : List TreeBlock) (first : First) (list : List TreeBlock)
    → map (λ (b : TreeBlock). b.name.name) list ≡ map (λ (k : Block). k.name) (typed_from signals blocks first list)
unfolding typed_from
names_same signals blocks first [] = refl
names_same signals blocks first (b ∷ rest) =
    let t = typed_of signals blocks first b in
    ap (λ n. n ∷ map (λ (b : TreeBlock). b.name.name) rest) (sym (block_name signals blocks first b))
    ∙ ap (λ r. t.block.name ∷ r) (names_same signals blocks t.next rest)

pub names_apart : (t : Tree) → FineParts t → IsDistinct bytes_eq (map (λ (k : Block). k.name) (exchange_of_tree t).blocks)
unfolding exchange_of
names_apart t f = subst (IsDistinct bytes_eq) (names_same (signals_of t) t.blocks none_before t.blocks) (blocks_distinct t f)
