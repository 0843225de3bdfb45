use Rattle.std.proofs.Common.{◌≡◌, ◌+◌, ◌++◌, drop}
use Rattle.stmt_code.specs.RecordCode.{inits_code}
use Rattle.code_gen.specs.Settings.{placed_of}
use Rattle.code_gen.proofs.records.push_inits.Given as goal

abbrev pub invariant-loop-field : goal.invariant-loop-field
invariant-loop-field l = record {
  word : l.word ≡ l.place.first + l.field-index;
  code : l.ops ++ inits_code (placed_of l.place) l.field-index (drop l.field-index l.field-items) ≡ l.fn.ops
      ++ inits_code (placed_of l.place) 0 l.place.file.now.fields;
}
