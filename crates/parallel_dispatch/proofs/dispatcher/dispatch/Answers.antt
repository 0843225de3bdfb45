use Rattle.std.proofs.Common.{refl}
use Rattle.parallel_dispatch.proofs.True.{they_are_true}
use Rattle.parallel_dispatch.proofs.dispatcher.dispatch.Goals as goal

pub run_named-requires-clause-suits : goal.run_named-requires-clause-suits
run_named-requires-clause-suits g c κs within =
    let r = c.requires.context in
    record {
      exchange = refl;
      code = refl;
      kept = refl;
      workers = refl;
      some = r.some;
      means = (refl, refl, refl);
      book_is = refl;
      laid = r.laid;
      set = record {
        exchange = c.kept.ensures;
        faithful = r.faithful;
        checked = r.checked;
        true_of = they_are_true c.args.context.now.exchange.now c.args.context.now.checked.now c.kept.ensures r.checked;
      };
    }
