use Rattle.std.proofs.Common.{sym, ap, ◌∙◌, subst, ◌<◌}
use Rattle.shared_store.specs.Loans.{taken_back}
use Rattle.shared_store.specs.Seats.{top_of, hold_of}
use Rattle.shared_store.specs.Rule.{Sat, both}
use Rattle.job_types.proofs.Touched.{length-stored}
use Rattle.shared_store.proofs.Places.{place_later}
use Rattle.shared_store.proofs.Lending.{rejoins}
use Rattle.shared_store.proofs.Kept.{keeps_root}
use Rattle.shared_store.proofs.store.SharedStore.take_back.Goals as goal

pub join_seat-requires : goal.join_seat-requires
join_seat-requires c = let home = ap (λ p. p.0) c.root.view_is
    ∙ (c.requires.root ∙ sym c.self.view_is) in let words =
    ap (λ z. z.words) home in let cells = c.root.invariant.cells in (
      home,
      ap (λ p. p.0) c.seat.view_is ∙ (c.requires.seat ∙ sym c.self.view_is),
      ap (λ m. m.1) c.seat.invariant.loan,
      subst (λ n. 0 < n) (cells ∙ words) (place_later _ _),
      rejoins _ (top_of c.root.inside.seat.me.0) _ _ (hold_of c.seat.inside.seat.me.0) _
          (ap (λ m. m.0) c.root.invariant.root) (ap (λ m. m.0) c.seat.invariant.loan),
    )

pub invariant_of-root : goal.invariant_of-root
invariant_of-root c = let root = ap (λ (m : Sat). m.0) c.root.invariant.root in let loan = ap (λ (m : Sat). m.0) c.seat.invariant.loan in
    keeps_root _ _ _ _ (taken_back (top_of c.root.inside.seat.me.0) (hold_of c.seat.inside.seat.me.0)) c.root.invariant c.join_seat.ensures.0
    (c.join_seat.ensures.2 ∙ λ i. (both (root i) (loan i), c.root.inside.seat.me.1))
    (length-stored (hold_of c.seat.inside.seat.me.0).touches (top_of c.root.inside.seat.me.0).values)
