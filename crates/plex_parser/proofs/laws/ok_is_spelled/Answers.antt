use Rattle.plex_parser.proofs.Parsed.{ok_exactly}
use Rattle.plex_parser.proofs.laws.ok_is_spelled.Goals as goal

pub returns : goal.returns
returns c = ok_exactly
