use Rattle.code_gen.proofs.Inside.{field_in_place}
use Rattle.code_gen.proofs.records.push_search.Goals as goal

pub word_in-word-requires : goal.word_in-word-requires
word_in-word-requires c = field_in_place c.args.at.now c.args.file c.args.field c.in-Some.place c.requires c.in-Some.ensures
