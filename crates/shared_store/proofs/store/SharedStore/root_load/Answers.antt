use Rattle.std.proofs.Common.{◌≡◌, ℕ, ◌<◌, false, length, sym, refl, ap, ◌∙◌, subst}
use Rattle.shared_store.specs.declared.view.Top.{Top}
use Rattle.shared_store.specs.Loans.{lent_out}
use Rattle.shared_store.specs.Seats.{top_of}
use mathlib.Core.Option.{none}
use Rattle.atomic_table.specs.Table.{step, Allows}
use Rattle.atomic_table.specs.Seated.{TableId}
use Rattle.shared_store.specs.Places.{place}
use Rattle.shared_store.specs.Rule.{Lending, Sat, root_looked}
use Rattle.shared_store.proofs.Places.{place_within}
use Rattle.shared_store.proofs.RootSteps.{root_looks}
use Rattle.shared_store.proofs.Kept.{keeps_root}
use Rattle.shared_store.proofs.store.SharedStore.root_load.Goals as goal

pub load-found-requires : goal.load-found-requires
load-found-requires c = let same = ap (λ p. p.1) (sym c.root.view_is) in let lt = subst (λ (t : Top). c.args.word < length t.values) same c.requires.cell in
    let home = ap (λ p. p.0) c.root.view_is ∙ (c.requires.store ∙ sym c.self.view_is) in
    let there = c.place_of-place.ensures ∙ ap (λ z. place z.slots c.args.word) (sym c.self.view_is) in
    let z = c.self.inside.table.shared.table_id in let me = c.root.inside.seat.me in
    let inside = place_within z.slots c.args.word _ z.words
    (subst (λ (y : TableId). place y.slots (length (top_of me.0).values) ≡ y.words) home c.root.invariant.cells) lt
    in
    let allowed = subst (λ (p : ℕ). (p < z.words)
    × Allows Lending z.slots c.root.inside.seat.id me p (λ n. n) (root_looked (step z.slots p 0 0 none) me))
    (sym there) (
      inside,
      root_looks _ _ _ (top_of c.root.inside.seat.me.0) c.args.word (ap (λ m. m.0) c.root.invariant.root)
          (subst (λ (t : Top). lent_out t.loans c.args.word ≡ false) same c.requires.free) lt,
    ) in (home, allowed.0, allowed.1)

pub overflow_cast-result : goal.overflow_cast-result
overflow_cast-result c = let there = c.place_of-place.ensures
    ∙ ap (λ z. place z.slots c.args.word) (sym c.self.view_is) in record
    { fits = (c.load-found.ensures.2 _ c.args.word (ap (λ m. m.0) c.root.invariant.root) there).2 }

pub invariant_of-root : goal.invariant_of-root
invariant_of-root c = let there = c.place_of-place.ensures
    ∙ ap (λ z. place z.slots c.args.word) (sym c.self.view_is) in let told =
    c.load-found.ensures.2 _ c.args.word (ap (λ m. m.0) c.root.invariant.root) there in
    keeps_root _ _ _ _ _ c.root.invariant c.load-found.ensures.0 (told.0 ∙ λ i. (ap (λ (m : Sat). m.0) c.root.invariant.root i, c.root.inside.seat.me.1)) refl

pub returns-clause-same : goal.returns-clause-same
returns-clause-same c = let there = c.place_of-place.ensures
    ∙ ap (λ z. place z.slots c.args.word) (sym c.self.view_is) in let told =
    c.load-found.ensures.2 _ c.args.word (ap (λ m. m.0) c.root.invariant.root) there in
    (λ i. (c.load-found.ensures.0 i, top_of (ap (λ (m : Sat). m.0) told.0 i))) ∙ c.root.view_is
