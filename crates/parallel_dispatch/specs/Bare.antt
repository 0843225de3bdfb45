-- The permit of a trace: exactly the words that it loads and those that it stores, each as a span
-- of one word. Only proofs use it.
use Rattle.std.specs.Prelude.{List, [], ◌∷◌}
use Rattle.job_types.specs.declared.touch.Touch.{Touch}
use Rattle.job_types.specs.declared.touch.Touch.TheVariants.{Load, Store}
use Rattle.machine_code.specs.declared.permit.Span.{Span}
use Rattle.machine_code.specs.declared.permit.Permit.{Permit}
use Rattle.shared_store.specs.OneWord.{one_word}

abbrev pub loads_of : List Touch → List Span
loads_of [] = []
loads_of (Load w v ∷ ts) = one_word w ∷ loads_of ts
loads_of (Store w v ∷ ts) = loads_of ts

abbrev pub stores_of : List Touch → List Span
stores_of [] = []
stores_of (Load w v ∷ ts) = stores_of ts
stores_of (Store w v ∷ ts) = one_word w ∷ stores_of ts

abbrev pub bare : List Touch → Permit
bare ts = record { reads = loads_of ts; writes = stores_of ts }
