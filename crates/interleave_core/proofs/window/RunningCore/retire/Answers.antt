use Rattle.std.proofs.Common.{◌<◌, length, refl, sym, ap, ◌∙◌, arith}
use Rattle.std.proofs.lemmas.Grind.{common_steps}
use Rattle.interleave_core.specs.Cores.{settles}
use Rattle.interleave_core.proofs.Changing.{has_gone, left_running}
use Rattle.interleave_core.proofs.window.RunningCore.retire.Goals as goal

pub arrive_after-requires : goal.arrive_after-requires
arrive_after-requires c =
    let some : 0 < length c.args.self.now.window.items = grind (arith, common_steps) in
    left_running c.args.exchange.now c.args.self.now c.retire_oldest.new.self some c.in_ok-retire_oldest.ensures c.requires.running
    ∙ sym (ap length c.deref.ensures.value)

pub returns : goal.returns
returns c = λ oldest younger first.
    let mid = c.retire_oldest.new.self in
    has_gone c.args.exchange.now c.args.self.now mid
    (record { books = c.arrive_after.new.books; words = mid.words; window = mid.window; retired = mid.retired })
    oldest younger
    (c.in_ok-retire_oldest.ensures oldest younger first)
    (c.in_ok-arrive_after.ensures ∙ ap (λ js. record mid.books { state = settles c.args.exchange.now js mid.books.state }) c.deref.ensures.value)
    refl refl refl c.requires.running first
