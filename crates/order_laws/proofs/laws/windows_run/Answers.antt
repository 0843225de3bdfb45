use Rattle.source_meaning.proofs.Retiring.{turn_valid}
use Rattle.order_laws.proofs.Moving.{window_first, window_quiet}
use Rattle.order_laws.proofs.Turning.{after_later, after_more, turns_valid, window_limit}
use Rattle.order_laws.proofs.Turning.{window_turn}
use Rattle.order_laws.proofs.laws.windows_run.Goals as goal

pub returns-clause-turn : goal.returns-clause-turn
returns-clause-turn c = λ x s starts n start kept v w at. window_turn x kept starts s n start v w at

pub returns-clause-limit : goal.returns-clause-limit
returns-clause-limit c = λ x s starts n start limit kept v w at few. window_limit x kept starts s n start limit v w at few

pub returns-clause-valid : goal.returns-clause-valid
returns-clause-valid c = λ x s n kept v. turns_valid x kept n s v

pub returns-clause-after : goal.returns-clause-after
returns-clause-after c = after_more

pub returns-clause-next : goal.returns-clause-next
returns-clause-next c = window_first

pub returns-clause-quiet : goal.returns-clause-quiet
returns-clause-quiet c = λ x s oldest next rest v w. window_quiet x s v oldest next rest w

pub returns-clause-turned : goal.returns-clause-turned
returns-clause-turned c = λ x s kept v. turn_valid x kept s v

pub returns-clause-later : goal.returns-clause-later
returns-clause-later c = after_later
