use Rattle.std.proofs.Common.{ℕ, ◌<◌, ◌^◌, List, ◌∷◌, length, get_or, flat_map, ap, ◌∙◌, subst}
use Rattle.std.proofs.lemmas.List.{length-replicate}
use Rattle.shared_store.specs.Places.{line}
use Rattle.shared_store.proofs.Opening.{opens}
use Rattle.shared_store.proofs.Kept.{begins_root}
use Rattle.shared_store.proofs.store.table_of.Goals as goal

pub new-requires : goal.new-requires
new-requires c = let same = c.as_slice-values.ensures in let is = c.in_ok-row.ensures.items in let free = c.free_words-free.result in
    let counted = ap length (c.in_ok-slots.ensures.items_if_clones_equal (λ y one. one)) ∙ length-replicate free tt in
    opens _ _ _ free (c.as_slice.ensures.value ∙ (is ∙ ap (λ vs. flat_map (line free) (0 ∷ vs)) same)) counted
    (subst (λ (vs : List ℕ). (k : ℕ) → get_or vs k 0 < 2 ^ 32) same c.in_ok-row.ensures.fit)

pub invariant_of-result-in-Ok : goal.invariant_of-result-in-Ok
invariant_of-result-in-Ok c = let same = c.as_slice-values.ensures in let is = c.in_ok-row.ensures.items in let
    free = c.free_words-free.result in let made = c.in-Ok.ensures.ok in
    let counted = ap length (c.in_ok-slots.ensures.items_if_clones_equal (λ y one. one)) ∙ length-replicate free tt in
    begins_root c.in-Ok.table.shared.table_id _ _ c.args.words.now _ _ free made.0 made.1 made.2 made.4 counted
    (c.as_slice.ensures.value ∙ (is ∙ ap (λ vs. flat_map (line free) (0 ∷ vs)) same))
