use Rattle.std.proofs.Common.{◌∙◌, ◌++◌, ◌∷◌, [], ap, refl, sym}
use Rattle.source_meaning.specs.Traces.{trace_of}
use Rattle.shared_store.specs.declared.view.Lent.{Lent}
use Rattle.shared_store.specs.Seats.{JobView, RootView}
use Rattle.parallel_dispatch.specs.Bare.{bare}
use Rattle.parallel_dispatch.specs.Windows.{View}
use Rattle.parallel_dispatch.proofs.Moving.{beside, entry_within, has_told, issued, issued_event}
use Rattle.parallel_dispatch.proofs.Moving.{number_fits, ready}
use Rattle.parallel_dispatch.proofs.Choosing.{next_flies}
use Rattle.parallel_dispatch.proofs.moves.issue.Goals as goal

pub begin-requires : goal.begin-requires
begin-requires g c =
    let set = c.requires.suits.set in
    let may = next_flies g.B.Course.kept c.args.books.now c.args.window.now c.deref-start.result.now
    c.in_ok-made.made.0.value c.in-Some.next c.requires.next c.deref-start.ensures c.in_ok-made.ensures.place
    c.in-Some.ensures.start in
    entry_within g.B.Naming.exchange g.B.Course.kept set.exchange set.checked set.true_of c.args.books.now
    c.args.root.now c.args.window.now c.deref-start.result.now may c.requires.beside.flying
    g.B.Naming.code c.args.setup.now.means.code.now set.faithful.entries c.requires.suits.means.1

pub number_of_next-job-requires : goal.number_of_next-job-requires
number_of_next-job-requires g c =
    let set = c.requires.suits.set in
    number_fits g.B.Naming.exchange g.B.Course.kept set.exchange set.checked set.true_of c.args.books.now
    c.args.root.now c.args.window.now c.requires.next.start c.requires.next.may c.requires.beside.flying
    c.requires.beside.counted

pub lend_as-seat-requires-clause-permit : goal.lend_as-seat-requires-clause-permit
lend_as-seat-requires-clause-permit g c =
    let set = c.requires.suits.set in
    let may = next_flies g.B.Course.kept c.args.books.now c.args.window.now c.deref-start.result.now
    c.in_ok-made.made.0.value c.in-Some.next c.requires.next c.deref-start.ensures c.in_ok-made.ensures.place
    c.in-Some.ensures.start in
    let told = has_told g.B.Naming.exchange g.B.Course.kept set.exchange set.checked set.true_of c.args.books.now
    c.args.root.now c.args.window.now c.deref-start.result.now may c.requires.beside.flying in
    beside g.B.Naming.exchange g.B.Course.kept set.exchange set.checked set.true_of c.args.books.now c.args.root.now
    c.args.window.now c.deref-start.result.now may c.requires.beside.flying
    told.0 told.1 (bare (trace_of g.B.Naming.exchange c.deref-start.result.now c.args.root.now.1.values)) refl

pub launch-flight-requires-clause-ready : goal.launch-flight-requires-clause-ready
launch-flight-requires-clause-ready g c =
    let set = c.requires.suits.set in
    let may = next_flies g.B.Course.kept c.args.books.now c.args.window.now c.deref-start.result.now
    c.in_ok-made.made.0.value c.in-Some.next c.requires.next c.deref-start.ensures c.in_ok-made.ensures.place
    c.in-Some.ensures.start in
    let told = has_told g.B.Naming.exchange g.B.Course.kept set.exchange set.checked set.true_of c.args.books.now
    c.args.root.now c.args.window.now c.deref-start.result.now may c.requires.beside.flying in
    ready g.B.Naming.exchange g.B.Course.kept set.exchange set.checked set.true_of c.args.books.now c.args.root.now
    c.args.window.now c.deref-start.result.now may c.requires.beside.flying
    told.0 told.1 (bare (trace_of g.B.Naming.exchange c.deref-start.result.now c.args.root.now.1.values)) refl
    g.B.Naming.code c.args.setup.now.means.code.now g.B.Naming.store c.lend_as-seat.result c.begin.new.self
    c.requires.suits.means.1 c.requires.beside.home c.lend_as-seat.ensures.seat c.begin.ensures

pub push-requires-clause-start : goal.push-requires-clause-start
push-requires-clause-start g c =
    sym c.deref-start.ensures
    ∙ sym (ap (λ (l : Lent). l.start) (c.set_out-flight.ensures ∙ c.launch-flight.ensures.flight ∙ ap (λ (j : JobView). j.1.lent) c.lend_as-seat.ensures.seat))

pub returns-clause-issued : goal.returns-clause-issued
returns-clause-issued g c =
    let set = c.requires.suits.set in
    let may = next_flies g.B.Course.kept c.args.books.now c.args.window.now c.deref-start.result.now
    c.in_ok-made.made.0.value c.in-Some.next c.requires.next c.deref-start.ensures c.in_ok-made.ensures.place
    c.in-Some.ensures.start in
    let told = has_told g.B.Naming.exchange g.B.Course.kept set.exchange set.checked set.true_of c.args.books.now
    c.args.root.now c.args.window.now c.deref-start.result.now may c.requires.beside.flying in
    record {
      fly = λ s fly.
          issued g.B.Naming.exchange g.B.Course.kept set.exchange set.checked set.true_of c.args.books.now
          c.args.root.now c.args.window.now c.deref-start.result.now may c.requires.beside.flying
          told.0 told.1 (bare (trace_of g.B.Naming.exchange c.deref-start.result.now c.args.root.now.1.values)) refl
          s _ _ _ _ fly c.in-Some.ensures.start c.in-Some.ensures.left (ap (λ (r : RootView). r.1) c.lend_as-seat.ensures.root)
          (ap (λ (v : View). v.loans) c.push.ensures
          ∙ λ i. (ap (λ (v : View). v.loans) c.launch-flight.ensures.window ∙ ap (λ (v : View). v.loans) c.with_run.ensures.window) i
          ++ (c.set_out-flight.ensures ∙ c.launch-flight.ensures.flight ∙ ap (λ (j : JobView). j.1.lent) c.lend_as-seat.ensures.seat) i ∷ []);
      event =
          issued_event g.B.Naming.exchange g.B.Course.kept set.exchange set.checked set.true_of c.args.books.now
          c.args.root.now c.args.window.now c.deref-start.result.now may c.requires.beside.flying
          told.0 told.1 (bare (trace_of g.B.Naming.exchange c.deref-start.result.now c.args.root.now.1.values)) refl
          g.B.Naming.code _ _ _ _ c.in-Some.ensures.start c.in-Some.ensures.left (ap (λ (r : RootView). r.1) c.lend_as-seat.ensures.root)
          (ap (λ (v : View). v.loans) c.push.ensures
          ∙ λ i. (ap (λ (v : View). v.loans) c.launch-flight.ensures.window ∙ ap (λ (v : View). v.loans) c.with_run.ensures.window) i
          ++ (c.set_out-flight.ensures ∙ c.launch-flight.ensures.flight ∙ ap (λ (j : JobView). j.1.lent) c.lend_as-seat.ensures.seat) i ∷ []);
    }
