-- The signal file of a load: one call after the other, each in a forlopp of its own.
use Rattle.std.specs.Prelude.{ℕ, List, ◌++◌, codes}
use Rattle.std.specs.Fmt.{decimal}
use Rattle.std.specs.List.{flat_map, range_with_len}

-- `AFTER 0 S1 B1 c 0 0 NEW`: the call c begins in B1, in its round 0
unfoldable pub call_line : ℕ → List ℕ
call_line c = codes "AFTER 0 S1 B1 " ++ decimal c ++ codes " 0 0 NEW\n"

-- a line for each call, from 0 on
abbrev pub signals_text : ℕ → List ℕ
signals_text n = flat_map call_line (range_with_len 0 n)
