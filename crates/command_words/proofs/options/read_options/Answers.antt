use Rattle.std.proofs.Common.{◌≡◌, rules}
use Rattle.std.specs.Prelude.{Ok}
use Rattle.std.proofs.lemmas.Grind.{common_steps}
use Rattle.command_words.specs.Bounded.{IsTold}
use Rattle.command_words.specs.Words.{added, nothing_told, open_option, options_of}
use Rattle.command_words.proofs.Shaped.{told_on}
use Rattle.command_words.proofs.options.read_options.Goals as goal

pub loop-name-preserved : goal.loop-name-preserved
loop-name-preserved c =
    let told : Ok c.in-Ok.all ≡ added c.loop-name.told c.in-Some-split_first.value.now
    (open_option c.args.command c.loop-name.told c.in-Some.name.now) = search (rules, common_steps) in
    let range : IsTold c.in-Ok.all = search (rules, common_steps) in (
      told_on c.args.command c.loop-name.told c.in-Ok.all c.loop-name.rest.now c.in-Some.behind.now
          c.in-Some-split_first.more.now c.in-Some.name.now c.in-Some-split_first.value.now
          (options_of c.args.command nothing_told c.args.options.now) c.in-Some.ensures.cases.0
          c.in-Some-split_first.ensures.cases.0 told c.loop-name.invariant.0,
      range,
    )
