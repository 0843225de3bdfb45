use Rattle.std.proofs.Common.{◌≡◌, length, slice_get, Some, None, sym, ap, ◌∙◌, arith, rules}
use Rattle.exchange_model.specs.Cells.{Placed, placed_files}
use Rattle.store_layout.specs.declared.row.FileRow.{FileRow}
use Rattle.run_books.proofs.Listed.{record_listed, row_is, row_missing}
use Rattle.run_books.proofs.stores.list_record.Goals as goal

pub returns-in_default-file_of : goal.returns-in_default-file_of
returns-in_default-file_of c =
    let p : Placed = record { block = c.in-Some.place.block; file = c.in-Some.place.file.now; first = c.in-Some.place.first } in
    let there : slice_get (placed_files c.args.exchange.now.blocks) c.args.held.file ≡ Some p = c.in-Some.ensures in
    let none : slice_get c.args.layout.now.files c.args.held.file ≡ None = sym c.file_of.ensures ∙ c.in_default-file_of.is in
    absurd (row_missing c.args.exchange.now.blocks c.args.layout.now c.args.held.file p c.requires there none)

pub list_fields-requires : goal.list_fields-requires
list_fields-requires c =
    let p : Placed = record { block = c.in-Some.place.block; file = c.in-Some.place.file.now; first = c.in-Some.place.first } in
    let there : slice_get (placed_files c.args.exchange.now.blocks) c.args.held.file ≡ Some p = c.in-Some.ensures in
    let found : slice_get c.args.layout.now.files c.args.held.file ≡ Some c.in-Some-file_of.row = sym c.file_of.ensures ∙ c.in-Some-file_of.is in
    let is = row_is c.args.exchange.now.blocks c.args.layout.now c.args.held.file p c.in-Some-file_of.row c.requires there found in
    omega (arith, c.word_in-first.ensures.room, ap length c.as_slice.ensures, ap (λ (r : FileRow). r.fields) is)

pub returns : goal.returns
returns c =
    let p : Placed = record { block = c.in-Some.place.block; file = c.in-Some.place.file.now; first = c.in-Some.place.first } in
    let there : slice_get (placed_files c.args.exchange.now.blocks) c.args.held.file ≡ Some p = c.in-Some.ensures in
    let found : slice_get c.args.layout.now.files c.args.held.file ≡ Some c.in-Some-file_of.row = sym c.file_of.ensures ∙ c.in-Some-file_of.is in
    let is = row_is c.args.exchange.now.blocks c.args.layout.now c.args.held.file p c.in-Some-file_of.row c.requires there found in
    let listed = c.in_ok-list_fields.ensures in
    record_listed c.args.exchange.now.blocks c.args.held p c.in-Some-file_of.row c.args.stores.now
    c.list_fields.new.stores c.push.new.self there is (search (rules, listed)) (search (rules))
