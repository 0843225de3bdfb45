use Rattle.plex_parser.proofs.Parsed.{unexpected_exactly}
use Rattle.plex_parser.proofs.laws.unexpected_is_unexpected.Goals as goal

pub returns : goal.returns
returns c = unexpected_exactly
