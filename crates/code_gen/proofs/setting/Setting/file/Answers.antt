use Rattle.code_gen.proofs.Files.{file_in}
use Rattle.code_gen.proofs.setting.Setting.file.Goals as goal

pub returns : goal.returns
returns c = file_in c.args.self.now c.requires c.args.number c.file.result c.file.ensures
