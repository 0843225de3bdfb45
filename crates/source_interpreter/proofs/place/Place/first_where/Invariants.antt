use Rattle.std.proofs.Common.{◌≡◌, ◌-◌}
use Rattle.std.specs.Prelude.{slice_index}
use Rattle.std.specs.List.{find, range_with_len}
use Rattle.exchange_model.specs.Cells.{field_cell}
use Rattle.source_meaning.specs.Value.{stands as stand}
use Rattle.source_meaning.specs.Changes.{least_record}
use Rattle.source_interpreter.proofs.place.Place.first_where.Given as goal

abbrev pub invariant-loop-number : goal.invariant-loop-number
invariant-loop-number l =
    find (λ n. stand l.rel (slice_index l.store (field_cell l.self n l.field)) l.value)
    (range_with_len l.number (l.number-end - l.number))
    ≡ least_record (λ n. stand l.rel (slice_index l.store (field_cell l.self n l.field)) l.value) l.self.file.size
