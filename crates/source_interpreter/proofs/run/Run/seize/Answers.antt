use Rattle.std.proofs.Common.{rules, ◌≡◌, ℕ, ◌++◌, List, [], ◌∷◌, true, Some, None, Ok, Err, Option}
use Rattle.std.proofs.Common.{length, slice_get, refl, ap, sym, ◌∙◌}
use Rattle.std.specs.Prelude.{slice_index, slice_set, nat_eq, nat_lt, not}
use Rattle.job_types.specs.declared.fault.Fault.{Fault}
use Rattle.job_types.specs.declared.fault.Fault.TheVariants as fault
use Rattle.exchange_model.specs.declared.stmt.StmtKind.TheOpen as stmt
use Rattle.exchange_model.specs.Cells.{Placed, mark_cell}
use Rattle.source_meaning.specs.Config.{files_of, from_place, label_of}
use Rattle.source_meaning.specs.Step.{does}
use Rattle.source_meaning.specs.Changes.{least_record}
use Rattle.source_interpreter.specs.Running.{Running}
use Rattle.source_interpreter.specs.declared.stop.Stop.TheVariants as stop
use Rattle.source_interpreter.proofs.Follow.{checked, answered}
use Rattle.source_interpreter.proofs.Searching.{seize_goes, seize_full, seize_none}
use Rattle.source_interpreter.proofs.run.Run.seize.Goals as goal

-- the search among other words that are the same
found_in : (p : Placed) (found o : Option ℕ) (words s : List ℕ) → found ≡ o
    → found ≡ least_record (λ k. nat_eq (slice_index words (mark_cell p k)) 0) p.file.size → words ≡ s
    → o ≡ least_record (λ k. nat_eq (slice_index s (mark_cell p k)) 0) p.file.size
found_in p found o words s is ensures same = sym is ∙ ensures
    ∙ ap (λ (l : List ℕ). least_record (λ k. nat_eq (slice_index l (mark_cell p k)) 0) p.file.size) same

pub returns-in_err-hold-in-Some-first_free : goal.returns-in_err-hold-in-Some-first_free
returns-in_err-hold-in-Some-first_free c =
    let r : Running = c.args.self.now in
    let s : List ℕ = c.args.store.now in
    let p : Placed = c.in-Some.place in
    let n : ℕ = c.in-Some-first_free.number in
    let f : Fault = c.in_err-hold-in-Some-first_free.field-0.0 in
    let there : Some p ≡ slice_get (files_of r.exchange) c.args.file = search rules in
    let some : c.has_forlopp.result ≡ not (nat_eq r.own.forlopp 0) = search rules in
    let yes_is : c.has_forlopp.result ≡ true = search rules in
    let full : Err f ≡ checked (nat_lt (length r.own.chain) 64) fault.Chain = search rules in
    let same : c.hold.new.self ≡ r = search rules in
    let gave : c.from_residual.result ≡ Err (stop.Fault f) = search rules in
    answered (does r.exchange r.own.point (stmt.Seize c.args.temp c.args.file c.args.label) r.todo) r s
    c.from_residual.result (Err (stop.Fault f)) c.hold.new.self s gave
    (seize_full r c.hold.new.self s c.args.temp c.args.file c.args.label n p c.has_forlopp.result f (stop.Fault f) there
    some yes_is (found_in p c.first_free.result (Some n) c.as_slice.result.now s c.in-Some-first_free.is
    c.first_free.ensures.first c.as_slice.ensures) full same refl)

pub returns-in_ok-hold-in-Some-first_free : goal.returns-in_ok-hold-in-Some-first_free
returns-in_ok-hold-in-Some-first_free c =
    let r : Running = c.args.self.now in
    let s : List ℕ = c.args.store.now in
    let p : Placed = c.in-Some.place in
    let n : ℕ = c.in-Some-first_free.number in
    let r1 : Running = c.hold.new.self in
    let there : Some p ≡ slice_get (files_of r.exchange) c.args.file = search rules in
    let some : c.has_forlopp.result ≡ not (nat_eq r.own.forlopp 0) = search rules in
    let yes_is : c.has_forlopp.result ≡ true = search rules in
    let room : Ok tt ≡ checked (nat_lt (length r.own.chain) 64) fault.Chain = search rules in
    let held : r1 ≡ record r { own = record r.own { chain = r.own.chain ++ record { file = c.args.file; number = n } ∷ [] } } = search rules in
    let wrote : c.put_cell.new.store ≡ slice_set s (mark_cell p n) 1 = c.put_cell.ensures ∙ ap (λ k. slice_set s k 1) c.mark_cell.ensures in
    seize_goes r r1 c.set_temp.new.self s c.put_cell.new.store c.args.temp c.args.file c.args.label n p
    c.has_forlopp.result there some yes_is
    (found_in p c.first_free.result (Some n) c.as_slice.result.now s c.in-Some-first_free.is
    c.first_free.ensures.first c.as_slice.ensures) room held wrote c.set_temp.ensures

pub returns-in_ok-go_to-in-None : goal.returns-in_ok-go_to-in-None
returns-in_ok-go_to-in-None c =
    let r : Running = c.args.self.now in
    let s : List ℕ = c.args.store.now in
    let p : Placed = c.in-Some.place in
    let there : Some p ≡ slice_get (files_of r.exchange) c.args.file = search rules in
    let some : c.has_forlopp.result ≡ not (nat_eq r.own.forlopp 0) = search rules in
    let yes_is : c.has_forlopp.result ≡ true = search rules in
    let jumped : c.go_to.new.self ≡ record r { todo = from_place r.exchange r.block (label_of r.exchange r.block c.args.label) } = search rules in
    seize_none r c.go_to.new.self s c.args.temp c.args.file c.args.label p c.has_forlopp.result there some yes_is
    (found_in p c.first_free.result None c.as_slice.result.now s c.in-None.is c.first_free.ensures.first
    c.as_slice.ensures) jumped
