use Rattle.block_change.proofs.Fresh.{added_last}
use Rattle.block_change.proofs.names.Names.add.Goals as goal

pub returns : goal.returns
returns c = added_last c.self.inside.names.keys c.args.self.now c.insert_full.new.self.keys c.args.name.now
    c.copy.result c.self.view_is c.requires c.copy.ensures c.in-Ok.ensures.keys
