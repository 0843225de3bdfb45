use Rattle.code_gen.proofs.Inside.{field_in_place}
use Rattle.code_gen.proofs.data.store_field.Goals as goal

pub word_in-requires : goal.word_in-requires
word_in-requires c = field_in_place c.args.at.now c.args.file c.args.field c.in-Some.place c.requires c.in-Some.ensures
