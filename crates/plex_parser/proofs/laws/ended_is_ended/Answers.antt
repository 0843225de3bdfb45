use Rattle.plex_parser.proofs.Parsed.{ended_exactly}
use Rattle.plex_parser.proofs.laws.ended_is_ended.Goals as goal

pub returns : goal.returns
returns c = ended_exactly
