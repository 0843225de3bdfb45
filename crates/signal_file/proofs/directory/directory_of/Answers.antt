use Rattle.signal_file.proofs.Found.{directory}
use Rattle.signal_file.proofs.directory.directory_of.Goals as goal

pub returns : goal.returns
returns c = directory c.args.exchange.now c.in_ok-signals.signals c.in_ok-blocks.blocks c.kept.ensures c.in_ok-signals.ensures c.in_ok-blocks.ensures
