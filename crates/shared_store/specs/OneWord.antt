-- One word, as a span.
use Rattle.std.specs.Prelude.{ℕ}
use Rattle.machine_code.specs.declared.permit.Span.{Span}

abbrev pub one_word : ℕ → Span
one_word w = record { first = w; count = 1; stride = 1 }
