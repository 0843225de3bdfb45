use Rattle.std.proofs.Common.{◌≡◌, ℕ, ◌<◌, true, length, sym, refl, ap, ◌∙◌, subst, arith}
use Rattle.machine_code.specs.Permits.{may_read}
use Rattle.shared_store.specs.declared.view.Hold.{Hold}
use Rattle.shared_store.specs.Seats.{hold_of}
use mathlib.Core.Option.{none}
use Rattle.atomic_table.specs.Table.{step, Allows}
use Rattle.atomic_table.specs.Seated.{TableId}
use Rattle.shared_store.specs.Places.{place}
use Rattle.shared_store.specs.Rule.{Lending, looked}
use Rattle.shared_store.proofs.Places.{place_within}
use Rattle.shared_store.proofs.Touched.{Sound-snoc}
use Rattle.job_types.proofs.Touched.{length-stored}
use Rattle.job_types.specs.declared.touch.Touch.TheVariants.{Load}
use Rattle.shared_store.proofs.LoanSteps.{looks}
use Rattle.shared_store.proofs.Kept.{keeps_job}
use Rattle.shared_store.proofs.store.SharedStore.load.Goals as goal

pub load-found-requires : goal.load-found-requires
load-found-requires c = let same = ap (λ p. p.1) (sym c.seat.view_is) in let lt = subst (λ (h : Hold). c.args.word < length h.lent.base) same c.requires.cell in
    let home = ap (λ p. p.0) c.seat.view_is ∙ (c.requires.store ∙ sym c.self.view_is) in
    let there = c.place_of-place.ensures ∙ ap (λ z. place z.slots c.args.word) (sym c.self.view_is) in
    let z = c.self.inside.table.shared.table_id in let me = c.seat.inside.seat.me in
    let inside = place_within z.slots c.args.word _ z.words
    (subst (λ (y : TableId). place y.slots (length (hold_of me.0).lent.base) ≡ y.words) home c.seat.invariant.cells)
    lt in
    let allowed = subst (λ (p : ℕ). (p < z.words)
    × Allows Lending z.slots c.seat.inside.seat.id me p (λ n. n) (looked (step z.slots p 0 0 none) me)) (sym there) (
      inside,
      looks _ _ _ (hold_of c.seat.inside.seat.me.0) c.args.word (ap (λ m. m.0) c.seat.invariant.loan)
          (subst (λ (h : Hold). may_read h.lent.permit c.args.word ≡ true) same c.requires.permit) lt,
    ) in (home, allowed.0, allowed.1)

pub overflow_cast-result : goal.overflow_cast-result
overflow_cast-result c = let there = c.place_of-place.ensures
    ∙ ap (λ z. place z.slots c.args.word) (sym c.self.view_is) in record
    { fits = (c.load-found.ensures.2 _ c.args.word (ap (λ m. m.0) c.seat.invariant.loan) there).2 }

pub invariant_of-seat : goal.invariant_of-seat
invariant_of-seat c = let there = c.place_of-place.ensures
    ∙ ap (λ z. place z.slots c.args.word) (sym c.self.view_is) in let told = c.load-found.ensures.2 _ c.args.word
    (ap (λ m. m.0) c.seat.invariant.loan) there in let h = hold_of c.seat.inside.seat.me.0 in
    let same = ap (λ p. p.1) (sym c.seat.view_is) in let lt : c.args.word
    < length h.lent.base = subst (λ (h : Hold). c.args.word < length h.lent.base) same c.requires.cell in
    let touch : may_read h.lent.permit c.args.word ≡ true = subst (λ (h : Hold). may_read h.lent.permit c.args.word ≡ true) same c.requires.permit in
    let len = length-stored h.touches h.lent.base in
    keeps_job _ _ _ _ _ c.seat.invariant c.load-found.ensures.0 told.0 refl
    (Sound-snoc h.lent.permit h.touches h.lent.base (Load c.args.word c.load-found.result) c.seat.invariant.sound (touch, omega arith, told.1, tt))
