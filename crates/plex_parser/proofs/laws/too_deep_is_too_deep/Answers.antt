use Rattle.plex_parser.proofs.Parsed.{too_deep_exactly}
use Rattle.plex_parser.proofs.laws.too_deep_is_too_deep.Goals as goal

pub returns : goal.returns
returns c = too_deep_exactly
