use Rattle.std.proofs.Common.{vec_len}
use Rattle.run_books.proofs.event_bytes.+read_number.Given as goal

abbrev pub decreases-read_number : goal.decreases-read_number
decreases-read_number l = vec_len l.bytes.now
