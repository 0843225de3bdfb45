use Rattle.std.proofs.Common.{◌≡◌, ◌-◌}
use Rattle.std.specs.Prelude.{slice_index, nat_eq}
use Rattle.std.specs.List.{find, range_with_len}
use Rattle.exchange_model.specs.Cells.{mark_cell}
use Rattle.source_meaning.specs.Changes.{least_record}
use Rattle.source_interpreter.proofs.place.Place.first_free.Given as goal

abbrev pub invariant-loop-number : goal.invariant-loop-number
invariant-loop-number l =
    find (λ n. nat_eq (slice_index l.store (mark_cell l.self n)) 0) (range_with_len l.number (l.number-end - l.number))
    ≡ least_record (λ n. nat_eq (slice_index l.store (mark_cell l.self n)) 0) l.self.file.size
