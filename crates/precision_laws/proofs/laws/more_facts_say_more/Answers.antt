use Rattle.std.proofs.Common.{Contains}
use Rattle.precision_laws.proofs.Growing.{closed_say_more, says_more}
use Rattle.precision_laws.proofs.laws.more_facts_say_more.Goals as goal

pub returns-clause-facts : goal.returns-clause-facts
returns-clause-facts c = λ x facts others e less great grown is by. says_more x (Contains facts) (Contains others) grown e less great is by

pub returns-clause-least : goal.returns-clause-least
returns-clause-least c = closed_say_more
