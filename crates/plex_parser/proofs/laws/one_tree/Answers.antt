use Rattle.plex_parser.proofs.Parsed.{one_tree_of}
use Rattle.plex_parser.proofs.laws.one_tree.Goals as goal

pub returns : goal.returns
returns c = one_tree_of
