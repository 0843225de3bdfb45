use Rattle.std.proofs.Common.{◌≡◌, ℕ, ◌<◌, true, length, sym, refl, ap, ◌∙◌, subst, arith}
use Rattle.machine_code.specs.Permits.{may_write}
use Rattle.shared_store.specs.declared.view.Hold.{Hold}
use Rattle.shared_store.specs.Seats.{hold_of}
use mathlib.Core.Option.{none}
use Rattle.atomic_table.specs.Table.{step, Allows}
use Rattle.atomic_table.specs.Seated.{TableId}
use Rattle.shared_store.specs.Places.{place}
use Rattle.shared_store.specs.Rule.{Lending, put}
use Rattle.shared_store.proofs.Places.{place_within}
use Rattle.shared_store.proofs.Touched.{Sound-snoc}
use Rattle.job_types.proofs.Touched.{length-stored}
use Rattle.job_types.specs.declared.touch.Touch.TheVariants.{Store}
use Rattle.shared_store.proofs.LoanSteps.{puts}
use Rattle.shared_store.proofs.Kept.{keeps_job}
use Rattle.shared_store.proofs.store.SharedStore.store.Goals as goal

pub store-requires : goal.store-requires
store-requires c = let same = ap (λ p. p.1) (sym c.seat.view_is) in let lt = subst (λ (h : Hold). c.args.word < length h.lent.base) same c.requires.cell in
    let home = ap (λ p. p.0) c.seat.view_is ∙ (c.requires.store ∙ sym c.self.view_is) in
    let there = c.place_of-place.ensures ∙ ap (λ z. place z.slots c.args.word) (sym c.self.view_is) in
    let z = c.self.inside.table.shared.table_id in let me = c.seat.inside.seat.me in
    let inside = place_within z.slots c.args.word _ z.words
    (subst (λ (y : TableId). place y.slots (length (hold_of me.0).lent.base) ≡ y.words) home c.seat.invariant.cells)
    lt in
    let allowed = subst (λ (p : ℕ). (p < z.words)
    × Allows Lending z.slots c.seat.inside.seat.id me p (λ _. c.args.value)
    (λ _. put (step z.slots p c.args.value 0 none) me c.args.value)) (sym there) (
      inside,
      puts _ _ _ (hold_of c.seat.inside.seat.me.0) c.args.word _ (ap (λ m. m.0) c.seat.invariant.loan)
          (subst (λ (h : Hold). may_write h.lent.permit c.args.word ≡ true) same c.requires.permit) lt
          c.ranges.value.fits,
    ) in (home, allowed.0, allowed.1)

pub invariant_of-seat : goal.invariant_of-seat
invariant_of-seat c = let there = c.place_of-place.ensures
    ∙ ap (λ z. place z.slots c.args.word) (sym c.self.view_is) in let told = c.store.ensures.2 _ c.args.word
    (ap (λ m. m.0) c.seat.invariant.loan) there in let h = hold_of c.seat.inside.seat.me.0 in
    let same = ap (λ p. p.1) (sym c.seat.view_is) in let lt : c.args.word
    < length h.lent.base = subst (λ (h : Hold). c.args.word < length h.lent.base) same c.requires.cell in
    let wr : may_write h.lent.permit c.args.word ≡ true = subst (λ (h : Hold). may_write h.lent.permit c.args.word ≡ true) same c.requires.permit in
    let len = length-stored h.touches h.lent.base in
    keeps_job _ _ _ _ _ c.seat.invariant c.store.ensures.0 told refl
    (Sound-snoc h.lent.permit h.touches h.lent.base (Store c.args.word c.args.value) c.seat.invariant.sound (wr, omega arith, c.ranges.value.fits, tt))
