use Rattle.run_books.specs.Events.{ending_of}
use Rattle.parallel_dispatch.proofs.dispatcher_state.DispatcherState.finish.Goals as goal

pub returns-in-Ok-clause-end : goal.returns-in-Ok-clause-end
returns-in-Ok-clause-end g c = record {
  ends = c.in-Ok.ensures.ends (ending_of c.args.ending) c.requires.over;
  led = c.in-Ok.ensures.rest.led;
  nobody = c.in-Ok.ensures.rest.way.may.nobody;
}
