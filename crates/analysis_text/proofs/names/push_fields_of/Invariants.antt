use Rattle.std.proofs.Common.{◌≡◌, ◌++◌, map, take}
use Rattle.exchange_model.specs.declared.block.Variable.{Variable}
use Rattle.analysis_text.specs.Names.{own_name}
use Rattle.analysis_text.proofs.names.push_fields_of.Given as goal

abbrev pub invariant-loop-field : goal.invariant-loop-field
invariant-loop-field l = l.names ≡ l.fn.names ++ map (λ (v : Variable). own_name l.block v.name) (take l.field-index l.file.fields)
