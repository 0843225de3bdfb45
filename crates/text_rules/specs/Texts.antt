-- What a text is refused with. The phases come in this order: the signals and the names of blocks;
-- the rules of blocks; the links and the limits. So a fault is the least by phase, by place in the
-- text, and by number.
use Rattle.std.specs.Prelude.{◌≡◌, ℕ, List, Option, Some, None}
use Rattle.first_fault.specs.First.{or_else}
use Rattle.first_fault.specs.Told.{told_parts}
use Rattle.exchange_model.specs.declared.signal.SignalKind.{SignalKind}
use Rattle.plex_ast.specs.declared.block.Block.{Block}
use Rattle.plex_ast.specs.declared.tree.Tree.{Tree}
use Rattle.signal_types.specs.Signals.{signals_of}
use Rattle.text_events.specs.Note.{Event}
use Rattle.text_events.specs.Texts.{text_events}
use Rattle.text_rules.specs.declared.rule.SignalRule.{SignalRule}
use Rattle.text_rules.specs.declared.rule.BlockRule.{BlockRule}
use Rattle.text_rules.specs.declared.rule.LinkRule.{LinkRule}
use Rattle.text_rules.specs.declared.rule.Rule.{Rule}
use Rattle.text_rules.specs.declared.rule.Rule.TheVariants as rule
use Rattle.text_rules.specs.Signals as signals
use Rattle.text_rules.specs.Blocks as blocks
use Rattle.text_rules.specs.Links as links

abbrev pub line_of : Event → ℕ
line_of e = e.line

-- what each phase tells of the parts of a text: a rule and its line

abbrev pub signals_told : List (List Event) → Option (SignalRule × ℕ)
signals_told parts = told_parts (λ r k e. signals.broken r k e.note) signals.all_rules line_of
    signals.known_in_part parts

abbrev pub blocks_told : List SignalKind → List Block → List (List Event) → Option (BlockRule × ℕ)
blocks_told kinds bs parts = told_parts (λ r k e. blocks.broken r k e.note) blocks.all_rules line_of
    (blocks.known_in_part kinds bs) parts

abbrev pub links_told : List SignalKind → List Block → List (List Event) → Option (LinkRule × ℕ)
links_told kinds bs parts = told_parts (λ r k e. links.broken r k e.note) links.all_rules line_of
    (links.known_in_part kinds bs) parts

-- a fault of one phase, as one of any
abbrev pub as_rule : {R : Type 0} → (R → Rule) → Option (R × ℕ) → Option (Rule × ℕ)
as_rule kind None = None
as_rule kind (Some fault) = Some (kind fault.0, fault.1)

-- one phase after the other
unfoldable pub text_told : Tree → Option (Rule × ℕ)
text_told t =
    or_else (as_rule rule.Signals (signals_told (text_events t)))
    (or_else (as_rule rule.Blocks (blocks_told (signals_of t) t.blocks (text_events t)))
    (as_rule rule.Links (links_told (signals_of t) t.blocks (text_events t))))

-- a text that breaks no rule
abbrev pub BreaksNoRule : Tree → Type 0
BreaksNoRule t = text_told t ≡ None
