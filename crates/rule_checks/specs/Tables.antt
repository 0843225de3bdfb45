-- What the tables of the passes know.
use Rattle.std.specs.Prelude.{◌≡◌, ℕ, List, Option, Some, None, is_some}
use Rattle.std.specs.Str.{bytes_eq}
use Rattle.std.specs.Borrow.{Bor}
use Rattle.indexmap.specs.IndexMap.{get}
use Rattle.indexmap.specs.IndexSet.{contains}
use Rattle.plex_ast.specs.declared.block.Block.{Block as TreeBlock}
use Rattle.signal_types.specs.Found.{number_in, kind_in}
use Rattle.text_rules.specs.declared.fault.Fault.{Fault}
use Rattle.text_rules.specs.declared.fault.Fault.TheVariants as fault
use Rattle.rule_checks.specs.declared.signals.Seen.{Seen}
use Rattle.rule_checks.specs.declared.blocks.Tables.{Tables}
use Rattle.rule_checks.specs.declared.blocks.Around.{Around}
use Rattle.rule_checks.specs.declared.amounts.Counted.{Counted}
use Rattle.rule_checks.specs.declared.links.Own.{Own}
use Rattle.rule_checks.specs.declared.links.Links.{Links}
use Rattle.rule_checks.specs.declared.links.Before.{Before}
use Rattle.text_rules.specs.Surveys.{block_named, receiver_count, receives_at, receives, sends}
use Rattle.text_rules.specs.Surveys.{enters, is_so}
use Rattle.text_rules.specs.Signals as signals
use Rattle.text_rules.specs.Blocks as blocks
use Rattle.text_rules.specs.Links as links

-- this rule and line are what is told; want of memory tells nothing of the text
abbrev pub IsTold : {R : Type 0} → Option (R × ℕ) → Fault R → Type 0
IsTold told (fault.Rule rule line) = told ≡ Some (rule, line)
IsTold told fault.Memory = Unit {0}

abbrev pub names_in : Seen → signals.KnownNames
names_in s = record {
  signal = λ n. contains bytes_eq s.signals.names n;
  block = λ n. contains bytes_eq s.blocks.names n;
}

-- the tables of a block, and what stands around them

abbrev pub AnAround : Type 0
AnAround = Around

abbrev pub known_in : Tables → Around → blocks.KnownInBlock
known_in t a = record {
  declared = λ n. get bytes_eq t.declared.names n;
  counted = blocks.count_in t.counts.of.items;
  chosen = blocks.has_choice t.chosen.numbers.keys;
  label = λ n. contains bytes_eq a.labels.names n;
  number = number_in a.signals.now.kinds.now;
  kind = kind_in a.signals.now.kinds.now;
  block = λ n. is_some (block_named a.blocks.now.blocks.now n);
}

-- the tables of the links

abbrev pub amounts_of : Counted → links.Amounts
amounts_of c = record {
  signals = c.signals;
  blocks = c.blocks;
  entries = c.entries;
  statements = c.statements;
  cells = c.cells;
}

-- a block that a reference may stand for
abbrev pub block_seen : Option (Bor TreeBlock) → Option TreeBlock
block_seen None = None
block_seen (Some b) = Some b.now

-- the sets of names that a block receives, sends and enters
pub record IsOwn (o : Own) (b : Option TreeBlock) : Type 0 where
  pub received : (s : List ℕ) → contains bytes_eq o.received.names s ≡ is_so (receives s) b
  pub sent : (s : List ℕ) → contains bytes_eq o.sent.names s ≡ is_so (sends s) b
  pub entered : (s : List ℕ) → contains bytes_eq o.entered.names s ≡ is_so (enters s) b

abbrev pub links_in : Before → Links → links.KnownForLinks
links_in t a = record {
  kind = kind_in a.signals.now.kinds.now;
  receivers = receiver_count a.blocks.now.blocks.now;
  named = block_named a.blocks.now.blocks.now;
  received_by = receives_at a.blocks.now.blocks.now;
  received = λ s. contains bytes_eq a.own.received.names s;
  sent = λ s. contains bytes_eq a.own.sent.names s;
  entered = λ s. contains bytes_eq a.own.entered.names s;
  entered_before = λ s. contains bytes_eq t.entered.names s;
  before = amounts_of t.counted;
}
