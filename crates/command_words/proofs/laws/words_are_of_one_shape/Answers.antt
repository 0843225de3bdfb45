use Rattle.command_words.proofs.Shaped.{one_shape, shape_is}
use Rattle.command_words.proofs.laws.words_are_of_one_shape.Goals as goal

pub returns-clause-read : goal.returns-clause-read
returns-clause-read c = shape_is

pub returns-clause-one : goal.returns-clause-one
returns-clause-one c = one_shape
