use Rattle.order_laws.proofs.Following.{ahead_issue, ahead_live, ahead_none, ahead_retire}
use Rattle.order_laws.proofs.Following.{ahead_store, ahead_words, turn_store}
use Rattle.order_laws.proofs.laws.books_follow.Goals as goal

pub returns-clause-none : goal.returns-clause-none
returns-clause-none c = ahead_none

pub returns-clause-words : goal.returns-clause-words
returns-clause-words c = ahead_words

pub returns-clause-issued : goal.returns-clause-issued
returns-clause-issued c = ahead_issue

pub returns-clause-live : goal.returns-clause-live
returns-clause-live c = ahead_live

pub returns-clause-retired : goal.returns-clause-retired
returns-clause-retired c = λ x s oldest rest books v h. ahead_retire x s v oldest rest books h

pub returns-clause-stored : goal.returns-clause-stored
returns-clause-stored c = λ x s oldest rest books v h. ahead_store x s v oldest rest books h

pub returns-clause-turn : goal.returns-clause-turn
returns-clause-turn c = turn_store
