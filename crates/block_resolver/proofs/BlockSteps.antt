-- Steps of the loop over the blocks of a text.
use Rattle.std.proofs.Common.{◌≡◌, ℕ, ◌+◌, ◌<◌, ◌≤◌, List, [], ◌∷◌, ◌++◌, length, map, drop, get_or}
use Rattle.std.proofs.Common.{refl, sym, ◌∙◌, ap, add-one, append_assoc, arith}
use Rattle.std.proofs.lemmas.List.{drop_all, append-nil, get_or-map, length-map}
use Rattle.plex_num.proofs.Lists.{opens}
use Rattle.exchange_model.specs.declared.block.Block.{Block}
use Rattle.exchange_model.specs.declared.signal.SignalKind.{SignalKind}
use Rattle.plex_ast.specs.declared.block.Block.{Block as TreeBlock}
use Rattle.plex_ast.specs.declared.tree.Tree.{Tree}
use Rattle.text_events.specs.Blocks.{block_events}
use Rattle.text_events.specs.Note.{Event}
use Rattle.text_events.specs.Texts.{signal_events, text_events}
use Rattle.resolved_block.specs.Blocks.{typed_of}
use Rattle.resolved_block.specs.Texts.{none_before, typed_from}
use Rattle.resolved_block.specs.declared.parts.First.{First}
use Rattle.resolved_block.specs.declared.parts.Typed.{Typed}

-- what stands in the block of a number

next_at : {T : Type 0} (x : T) (xs : List T) (i : ℕ) (d : T) → get_or (x ∷ xs) (i + 1) d ≡ get_or xs i d
next_at x xs i d = rw (add-one i) refl

pub part_there : (t : Tree) (parts : List (List Event)) (i : ℕ) → parts ≡ text_events t → i < length t.blocks → i + 1 < length parts
unfolding text_events
part_there t parts i those inside =
    let many : length parts ≡ length (map block_events t.blocks) + 1 = ap length those ∙ sym (add-one (length (map block_events t.blocks))) in
    let each : length (map block_events t.blocks) ≡ length t.blocks = length-map t.blocks block_events in
    omega (arith, many, each, inside)

pub part_is : (t : Tree) (parts : List (List Event)) (i : ℕ) (b : TreeBlock) (own : List Event) → parts ≡ text_events t
    → i < length t.blocks → b ≡ get_or t.blocks i b → own ≡ get_or parts (i + 1) own → own ≡ block_events b
unfolding text_events
part_is t parts i b own those inside is there =
    there ∙ ap (λ l. get_or l (i + 1) own) those
    ∙ next_at (signal_events t) (map block_events t.blocks) i own
    ∙ get_or-map block_events t.blocks i b own inside
    ∙ ap block_events (sym is)

-- the blocks so far, and those that are left, are all
pub record Resolved (kinds : List SignalKind) (bs : List TreeBlock) (i : ℕ) (list : List Block) (first : First) : Type 0 where
  pub same : list ++ typed_from kinds bs first (drop i bs) ≡ typed_from kinds bs none_before bs

pub steps_begin : (kinds : List SignalKind) (bs : List TreeBlock) → Resolved kinds bs 0 [] (record { point = 0; file = 0 })
steps_begin kinds bs = record { same = refl }

pub steps_more : (kinds : List SignalKind) (bs : List TreeBlock) (i : ℕ) (list : List Block) (first : First)
    (b : TreeBlock) (t : Typed) → i < length bs → b ≡ get_or bs i b → t ≡ typed_of kinds bs first b
    → Resolved kinds bs i list first → Resolved kinds bs (i + 1) (list ++ t.block ∷ []) t.next
unfolding typed_from
steps_more kinds bs i list first b t inside is made r = record {
  same = append_assoc list (t.block ∷ []) (typed_from kinds bs t.next (drop (i + 1) bs))
      ∙ ap (λ (u : Typed). list ++ u.block ∷ typed_from kinds bs u.next (drop (i + 1) bs)) made
      ∙ ap (λ l. list ++ typed_from kinds bs first l) (sym (opens bs i b inside is))
      ∙ r.same;
}

pub steps_end : (kinds : List SignalKind) (bs : List TreeBlock) (i : ℕ) (list : List Block) (first : First)
    → length bs ≤ i → Resolved kinds bs i list first → list ≡ typed_from kinds bs none_before bs
unfolding typed_from
steps_end kinds bs i list first past r = sym (append-nil list) ∙ ap (λ l. list ++ typed_from kinds bs first l) (sym (drop_all i bs past)) ∙ r.same

pub ruleset blocks_resolved = (part_is, steps_begin, steps_more, steps_end)
