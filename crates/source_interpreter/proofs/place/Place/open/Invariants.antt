use Rattle.std.proofs.Common.{◌≡◌, drop}
use Rattle.source_interpreter.specs.Opened.{fields_opened}
use Rattle.source_interpreter.proofs.place.Place.open.Given as goal

abbrev pub invariant-loop-place : goal.invariant-loop-place
invariant-loop-place l =
    fields_opened l.self l.number l.place (drop l.place l.self.file.fields) l.store ≡ fields_opened l.self l.number 0 l.self.file.fields l.fn.store
