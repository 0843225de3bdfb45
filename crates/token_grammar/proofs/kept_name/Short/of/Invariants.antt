use Rattle.std.proofs.Common.{◌≡◌, take}
use Rattle.token_grammar.proofs.kept_name.Short.of.Given as goal

abbrev pub invariant-loop-byte : goal.invariant-loop-byte
invariant-loop-byte l = l.made ≡ take l.byte-index l.bytes
