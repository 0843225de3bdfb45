use Rattle.code_gen.proofs.Inside.{variable_word}
use Rattle.code_gen.proofs.setting.Setting.word.Goals as goal

pub returns : goal.returns
returns c = variable_word c.args.self.now c.args.variable c.word_of.result c.requires c.word_of.ensures
