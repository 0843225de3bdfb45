-- A text that breaks no rule, and what that says of each of its blocks.
use Rattle.std.specs.Prelude.{◌≤◌, Bool, List, Some, ◌++◌}
use Rattle.first_fault.specs.First.{IsFine, breaks_at}
use Rattle.plex_limits.specs.declared.limits.TheConstants.{MOST_WHENS}
use Rattle.exchange_model.specs.declared.signal.SignalKind.{SignalKind}
use Rattle.plex_ast.specs.declared.block.Block.{Block}
use Rattle.plex_ast.specs.declared.tree.Tree.{Tree}
use Rattle.kept_trees.specs.Keeps.{Keeps}
use Rattle.text_events.specs.Note.{Event}
use Rattle.text_events.specs.Blocks.{block_events}
use Rattle.text_rules.specs.declared.rule.BlockRule.{BlockRule}
use Rattle.text_rules.specs.declared.rule.LinkRule.{LinkRule}
use Rattle.text_rules.specs.Blocks as blocks
use Rattle.text_rules.specs.Links as links
use Rattle.text_rules.specs.Texts.{BreaksNoRule}
use Rattle.resolved_block.specs.Texts.{exchange_of_tree, choices_in}

-- the events of a block, the signals, and the blocks of the text
pub record Text : Type 0 where
  pub whole : List Event
  pub signals : List SignalKind
  pub blocks : List Block

abbrev pub text_of : List SignalKind → List Block → Block → Text
text_of signals others b = record { whole = block_events b; signals = signals; blocks = others }

-- the rules of a block

abbrev pub broken_at : BlockRule → blocks.KnownInBlock → Event → Bool
broken_at r k e = blocks.broken r k e.note

abbrev pub known_of : Text → List Event → blocks.KnownInBlock
known_of text before = blocks.known_of text.signals text.blocks text.whole before

abbrev pub IsFineText : Text → Type 0
IsFineText text = IsFine (breaks_at broken_at (known_of text) text.whole) text.whole

-- the link rules in a block, after these events

abbrev pub link_broken_at : LinkRule → links.KnownForLinks → Event → Bool
link_broken_at r k e = links.broken r k e.note

abbrev pub links_known : Text → Block → List Event → List Event → links.KnownForLinks
links_known text own done before =
    links.known_of text.signals text.blocks (Some own) (done ++ before) before

abbrev pub AreFineLinks : Text → Block → List Event → Type 0
AreFineLinks text own done =
    IsFine (breaks_at link_broken_at (links_known text own done) text.whole) text.whole

-- a block among these signals and blocks breaks no rule
pub record IsFineBlock (signals : List SignalKind) (others : List Block) (b : Block) : Type 0 where
  pub fine : IsFineText (text_of signals others b)
  pub before : List Event
  pub linked : AreFineLinks (text_of signals others b) b before

-- a tree that a text spells, and that breaks no rule
pub record IsFineTree (t : Tree) : Type 0 where
  pub spelled : Keeps 6 12 t
  pub few : choices_in (exchange_of_tree t) ≤ MOST_WHENS
  pub fine : BreaksNoRule t
