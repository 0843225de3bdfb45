use Rattle.std.proofs.Common.{rules, ◌≡◌, ℕ, List, Some, None, Ok, slice_get, ap, sym, ◌∙◌}
use Rattle.std.specs.Prelude.{slice_index}
use Rattle.exchange_model.specs.Cells.{field_cell}
use Rattle.source_meaning.specs.Value.{answer_of, expr_value, stands as stand}
use Rattle.source_meaning.specs.Config.{files_of, from_place, label_of}
use Rattle.source_meaning.specs.Changes.{least_record}
use Rattle.source_interpreter.specs.Running.{Running, sight_of}
use Rattle.source_interpreter.proofs.Searching.{first_found, first_none}
use Rattle.source_interpreter.proofs.run.Run.go_to_first.Goals as goal

pub returns-in_ok-go_to-in-Some-first_where : goal.returns-in_ok-go_to-in-Some-first_where
returns-in_ok-go_to-in-Some-first_where c =
    let r : Running = c.args.self.now in
    let r1 : Running = c.set_temp.new.self in
    let s : List ℕ = c.args.store.now in
    let p = c.in-Some.place in
    let v : ℕ = c.in_ok-value.value in
    let n : ℕ = c.in-Some-first_where.number in
    let value : Ok v ≡ answer_of (expr_value c.args.value.now (sight_of r s)) = search rules in
    let there : Some p ≡ slice_get (files_of r.exchange) c.args.file = search rules in
    let found : Some n ≡ least_record (λ k. stand c.args.rel (slice_index s (field_cell p k c.args.field)) v) p.file.size =
    sym c.in-Some-first_where.is ∙ c.first_where.ensures.first
    ∙ ap (λ (l : List ℕ). least_record (λ k. stand c.args.rel (slice_index l (field_cell p k c.args.field)) v)
    p.file.size) c.as_slice.ensures in
    let jumped : c.go_to.new.self ≡ record r1 { todo = from_place r1.exchange r1.block (label_of r1.exchange r1.block c.args.label) } = search rules in
    first_found r r1 c.go_to.new.self s c.args.temp c.args.file c.args.field c.args.label v n c.args.rel
    c.args.value.now p value there found c.set_temp.ensures jumped

pub returns-in-None : goal.returns-in-None
returns-in-None c =
    let r : Running = c.args.self.now in
    let s : List ℕ = c.args.store.now in
    let p = c.in-Some.place in
    let v : ℕ = c.in_ok-value.value in
    let value : Ok v ≡ answer_of (expr_value c.args.value.now (sight_of r s)) = search rules in
    let there : Some p ≡ slice_get (files_of r.exchange) c.args.file = search rules in
    let found : None ≡ least_record (λ k. stand c.args.rel (slice_index s (field_cell p k c.args.field)) v) p.file.size =
    sym c.in-None.is ∙ c.first_where.ensures.first
    ∙ ap (λ (l : List ℕ). least_record (λ k. stand c.args.rel (slice_index l (field_cell p k c.args.field)) v)
    p.file.size) c.as_slice.ensures in
    first_none r s c.args.temp c.args.file c.args.field c.args.label v c.args.rel c.args.value.now p value there found
