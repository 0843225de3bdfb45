use Rattle.std.proofs.Common.{sym, ap, ◌∙◌, slice_get}
use Rattle.std.proofs.lemmas.Option.{slice_get_within}
use Rattle.interleave_core.proofs.window.RunningCore.step.Goals as goal

pub step_at-requires-clause-may : goal.step_at-requires-clause-may
step_at-requires-clause-may c = λ own there. c.requires.may c.in-Some.place own c.in-Some.ensures.1
    (ap (λ js. slice_get js c.in-Some.place) (sym c.deref_mut.ensures.value) ∙ there)

pub returns-in-None : goal.returns-in-None
returns-in-None c = λ place own numbered there. absurd (c.in-None.ensures place (slice_get_within c.args.self.now.window.items place own there) numbered)
