-- What the program's tables say that names stand for.
use Rattle.std.specs.Str.{bytes_eq}
use Rattle.indexmap.specs.IndexMap.{get}
use Rattle.text_events.specs.declared.role.Meaning.{Meaning}
use Rattle.block_resolver.specs.declared.declared.Declared.{Declared}
use Rattle.block_resolver.specs.declared.names.Names.{Names}
use Rattle.resolved_block.specs.Names.{Naming, Env}

abbrev pub meanings_in : Declared → Naming Meaning
meanings_in d n = get bytes_eq d.names n

abbrev pub env_in : Names → Env
env_in x = record {
  name = meanings_in x.declared;
  signals = x.signals.now.kinds.now;
  blocks = x.blocks.now.blocks.now;
}
