use Rattle.std.proofs.Common.{◌≡◌, ℕ, ◌<◌, false, length, sym, ap, ◌∙◌, subst, length-set}
use Rattle.shared_store.specs.declared.view.Top.{Top}
use Rattle.shared_store.specs.Loans.{seen_by}
use Rattle.shared_store.specs.Seats.{top_of}
use mathlib.Core.Option.{none}
use Rattle.atomic_table.specs.Table.{step, Allows}
use Rattle.atomic_table.specs.Seated.{TableId}
use Rattle.shared_store.specs.Places.{place}
use Rattle.shared_store.specs.Rule.{Lending, root_put}
use Rattle.shared_store.proofs.Places.{place_within}
use Rattle.shared_store.proofs.RootSteps.{root_puts}
use Rattle.shared_store.proofs.Kept.{keeps_root}
use Rattle.shared_store.proofs.store.SharedStore.root_store.Goals as goal

pub store-requires : goal.store-requires
store-requires c = let same = ap (λ p. p.1) (sym c.root.view_is) in let lt = subst (λ (t : Top). c.args.word < length t.values) same c.requires.cell in
    let home = ap (λ p. p.0) c.root.view_is ∙ (c.requires.store ∙ sym c.self.view_is) in
    let there = c.place_of-place.ensures ∙ ap (λ z. place z.slots c.args.word) (sym c.self.view_is) in
    let z = c.self.inside.table.shared.table_id in let me = c.root.inside.seat.me in
    let inside = place_within z.slots c.args.word _ z.words
    (subst (λ (y : TableId). place y.slots (length (top_of me.0).values) ≡ y.words) home c.root.invariant.cells) lt
    in
    let allowed = subst (λ (p : ℕ). (p < z.words)
    × Allows Lending z.slots c.root.inside.seat.id me p (λ _. c.args.value)
    (λ _. root_put (step z.slots p c.args.value 0 none) me c.args.value)) (sym there) (
      inside,
      root_puts _ _ _ (top_of c.root.inside.seat.me.0) c.args.word _ (ap (λ m. m.0) c.root.invariant.root)
          (subst (λ (t : Top). seen_by t.loans c.args.word ≡ false) same c.requires.free) lt c.ranges.value.fits,
    ) in (home, allowed.0, allowed.1)

pub invariant_of-root : goal.invariant_of-root
invariant_of-root c = let there = c.place_of-place.ensures
    ∙ ap (λ z. place z.slots c.args.word) (sym c.self.view_is) in let told =
    c.store.ensures.2 _ c.args.word (ap (λ m. m.0) c.root.invariant.root) there in
    keeps_root _ _ _ _ _ c.root.invariant c.store.ensures.0 told (length-set _ _ _)
