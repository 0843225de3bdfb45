use Rattle.std.proofs.Common.{sym, ap, ◌∙◌, subst, ◌<◌, List}
use Rattle.shared_store.specs.declared.view.Lent.{Lent}
use Rattle.shared_store.specs.Loans.{FitsBeside}
use Rattle.shared_store.specs.Seats.{top_of}
use Rattle.shared_store.proofs.Places.{place_later}
use Rattle.shared_store.proofs.Lending.{cuts}
use Rattle.shared_store.proofs.store.SharedStore.lend_as.Goals as goal

pub split_seat-seat-requires : goal.split_seat-seat-requires
split_seat-seat-requires g c = let home = ap (λ p. p.0) c.root.view_is
    ∙ (c.requires.store ∙ sym c.self.view_is) in let words =
    ap (λ z. z.words) home in let cells = c.root.invariant.cells in
    let same = ap (λ p. p.1.loans) (sym c.root.view_is) in (
      home,
      subst (λ n. 0 < n) (cells ∙ words) (place_later _ _),
      cuts _ (top_of c.root.inside.seat.me.0) _ _ _ (ap (λ m. m.0) c.root.invariant.root) (subst (λ (z : List Lent). FitsBeside z _) same c.requires.permit),
    )
