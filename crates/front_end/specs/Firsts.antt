-- The first fault of a text, as a relation: the least by phase, by place in the text, and by
-- number.
use Rattle.std.specs.Prelude.{ℕ}
use Rattle.first_fault.specs.Told.{AreFine, IsFirstOfParts}
use Rattle.plex_ast.specs.declared.tree.Tree.{Tree}
use Rattle.signal_types.specs.Signals.{signals_of}
use Rattle.text_events.specs.Note.{Event}
use Rattle.text_events.specs.Texts.{text_events}
use Rattle.text_rules.specs.declared.rule.SignalRule.{SignalRule}
use Rattle.text_rules.specs.declared.rule.BlockRule.{BlockRule}
use Rattle.text_rules.specs.declared.rule.LinkRule.{LinkRule}
use Rattle.text_rules.specs.declared.rule.Rule.{Rule}
use Rattle.text_rules.specs.declared.rule.Rule.TheVariants as rule
use Rattle.text_rules.specs.Signals as signals
use Rattle.text_rules.specs.Blocks as blocks
use Rattle.text_rules.specs.Links as links
use Rattle.text_rules.specs.Texts.{line_of}

-- a text breaks no rule of a set

abbrev pub KeepsSignals : Tree → Type 0
KeepsSignals t = AreFine (λ r k (e : Event). signals.broken r k e.note) signals.number_of line_of
    signals.known_in_part (text_events t)

abbrev pub KeepsBlocks : Tree → Type 0
KeepsBlocks t = AreFine (λ r k (e : Event). blocks.broken r k e.note) blocks.number_of line_of
    (blocks.known_in_part (signals_of t) t.blocks) (text_events t)

abbrev pub KeepsLinks : Tree → Type 0
KeepsLinks t = AreFine (λ r k (e : Event). links.broken r k e.note) links.number_of line_of
    (links.known_in_part (signals_of t) t.blocks) (text_events t)

-- the first place at which a rule of a set is broken, and the lowest rule that is broken there

abbrev pub FirstOfSignals : Tree → SignalRule → ℕ → Type 0
FirstOfSignals t = IsFirstOfParts (λ r k (e : Event). signals.broken r k e.note) signals.number_of
    line_of signals.known_in_part (text_events t)

abbrev pub FirstOfBlocks : Tree → BlockRule → ℕ → Type 0
FirstOfBlocks t = IsFirstOfParts (λ r k (e : Event). blocks.broken r k e.note) blocks.number_of
    line_of (blocks.known_in_part (signals_of t) t.blocks) (text_events t)

abbrev pub FirstOfLinks : Tree → LinkRule → ℕ → Type 0
FirstOfLinks t = IsFirstOfParts (λ r k (e : Event). links.broken r k e.note) links.number_of line_of
    (links.known_in_part (signals_of t) t.blocks) (text_events t)

-- a text that breaks no rule
pub record IsFine (t : Tree) : Type 0 where
  pub signals : KeepsSignals t
  pub blocks : KeepsBlocks t
  pub links : KeepsLinks t

-- the first fault of a text: no rule of an earlier phase is broken
abbrev pub IsFirstFault : Tree → Rule → ℕ → Type 0
IsFirstFault t (rule.Signals r) line = FirstOfSignals t r line
IsFirstFault t (rule.Blocks r) line = KeepsSignals t × FirstOfBlocks t r line
IsFirstFault t (rule.Links r) line = (KeepsSignals t × KeepsBlocks t) × FirstOfLinks t r line
