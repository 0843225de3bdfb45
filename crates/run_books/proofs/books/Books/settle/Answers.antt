use Rattle.std.proofs.Common.{◌≡◌, ◌+◌, ◌-◌, ◌≤◌, length, refl, sym, ap, subst, arith}
use Rattle.plex_limits.specs.declared.limits.TheConstants.{MOST_SENT}
use Rattle.source_meaning.specs.Valid.{MayBe}
use Rattle.run_books.specs.Accounts.{Account, account}
use Rattle.run_books.specs.Retired.{HasSettled}
use Rattle.run_books.proofs.Keeping.{chains_gone, chains_kept, chains_released, retired_kept}
use Rattle.run_books.proofs.Settled.{are_sent, moved, settled_anew, settled_ended, settled_released}
use Rattle.run_books.proofs.books.Books.settle.Goals as goal

-- src/retire.rt:88:13
pub invariant_of-self-in_default : goal.invariant_of-self-in_default
invariant_of-self-in_default c =
    let b = c.self.inside in
    let old : Account = account b.schedule b.waiting.waiting b.chains.chains b.chains.dead b.events.events b.next b.ended b.restarts b.running b.limit in
    let f = c.args.start.now.job.forlopp in
    let d = c.deliver_all-self-inside in
    let may : MayBe old.state f = subst (λ (o : Account). MayBe o.state f) (sym c.self.view_is) c.requires.forlopp in
    let one : (b.running - 1) + 1 ≡ b.running = omega (arith, c.requires.running, ap (λ (o : Account). o.running) c.self.view_is) in
    let few : d.result ≤ b.next + MOST_SENT = omega (arith, d.ensures.few, c.as_slice-sends.ensures.room, ap length c.as_slice-sends.ensures.items) in
    let held = chains_kept old f c.args.done.now.chain c.reserve-2.new.self.chains c.keep_chain.new.chains.chains
    d.result c.self.invariant may c.reserve-2.ensures.chains c.keep_chain.ensures.chains d.ensures.up in
    retired_kept old d.new.waiting.waiting d.new.events.events d.result (b.ended + 1) b.restarts (b.running - 1)
    c.keep_chain.new.chains.chains c.keep_chain.new.chains.dead
    c.self.invariant refl one (omega arith) d.ensures.up few held.0 held.1

-- src/retire.rt:88:13
pub returns-in_default : goal.returns-in_default
returns-in_default c =
    let b = c.self.inside in
    let old : Account = account b.schedule b.waiting.waiting b.chains.chains b.chains.dead b.events.events b.next b.ended b.restarts b.running b.limit in
    let start = c.args.start.now in
    let done = c.args.done.now in
    let d = c.deliver_all-self-inside in
    let k = c.keep_chain.new.chains in
    let one : (b.running - 1) + 1 ≡ b.running = omega (arith, c.requires.running, ap (λ (o : Account). o.running) c.self.view_is) in
    let sent = are_sent start done c.as_slice-sends.result.now old.state c.reserve_each.new.waiting.waiting
    d.new.waiting.waiting c.reserve.new.self.events d.new.events.events b.next d.result (b.ended + 1)
    c.reserve-2.new.self.chains k.chains c.reserve-2.new.self.dead k.dead
    c.as_slice-sends.ensures.items c.reserve_each.ensures.waiting c.reserve.ensures.events refl
    c.reserve-2.ensures.chains c.reserve-2.ensures.dead refl d.ensures.state c.keep_chain.ensures.chains
    c.keep_chain.ensures.dead in
    subst (λ (o : Account). HasSettled c.args.exchange.now start done o
    (moved old d.new.waiting.waiting d.new.events.events d.result (b.ended + 1) b.restarts (b.running - 1) k.chains
    k.dead) c.in_ok-after.after.stores) c.self.view_is
    (settled_ended c.args.exchange.now start done old c.in_ok-after.after d.new.waiting.waiting d.new.events.events
    d.result (b.ended + 1) (b.running - 1) k.chains k.dead c.reserve-2.new.self.chains
    sent c.in_default.is c.in_ok-after.ensures one)

-- src/retire.rt:105:13
pub invariant_of-self-then-forlopp-eq0 : goal.invariant_of-self-then-forlopp-eq0
invariant_of-self-then-forlopp-eq0 c =
    let b = c.self.inside in
    let old : Account = account b.schedule b.waiting.waiting b.chains.chains b.chains.dead b.events.events b.next b.ended b.restarts b.running b.limit in
    let d = c.deliver_all-self-inside in
    let a = c.begin_anew in
    let one : (b.running - 1) + 1 ≡ b.running = omega (arith, c.requires.running, ap (λ (o : Account). o.running) c.self.view_is) in
    let few : d.result ≤ b.next + MOST_SENT = omega (arith, d.ensures.few, c.as_slice-sends.ensures.room, ap length c.as_slice-sends.ensures.items) in
    let held = chains_gone a.new.chains.chains d.result (b.ended + 1) a.ensures.chains in
    retired_kept old a.new.waiting.waiting a.new.events.events d.result (b.ended + 1) (b.restarts + 1) (b.running - 1) a.new.chains.chains a.new.chains.dead
    c.self.invariant refl one (omega arith) d.ensures.up few held.0 held.1

-- src/retire.rt:105:13
pub returns-then-forlopp-eq0 : goal.returns-then-forlopp-eq0
returns-then-forlopp-eq0 c =
    let b = c.self.inside in
    let old : Account = account b.schedule b.waiting.waiting b.chains.chains b.chains.dead b.events.events b.next b.ended b.restarts b.running b.limit in
    let start = c.args.start.now in
    let done = c.args.done.now in
    let d = c.deliver_all-self-inside in
    let k = c.keep_chain.new.chains in
    let a = c.begin_anew in
    let one : (b.running - 1) + 1 ≡ b.running = omega (arith, c.requires.running, ap (λ (o : Account). o.running) c.self.view_is) in
    let sent = are_sent start done c.as_slice-sends.result.now old.state c.reserve_each.new.waiting.waiting
    d.new.waiting.waiting c.reserve.new.self.events d.new.events.events b.next d.result (b.ended + 1)
    c.reserve-2.new.self.chains k.chains c.reserve-2.new.self.dead k.dead
    c.as_slice-sends.ensures.items c.reserve_each.ensures.waiting c.reserve.ensures.events refl
    c.reserve-2.ensures.chains c.reserve-2.ensures.dead refl d.ensures.state c.keep_chain.ensures.chains
    c.keep_chain.ensures.dead in
    subst (λ (o : Account). HasSettled c.args.exchange.now start done o
    (moved old a.new.waiting.waiting a.new.events.events d.result (b.ended + 1) (b.restarts + 1) (b.running - 1)
    a.new.chains.chains a.new.chains.dead) c.in_ok-after.after.stores) c.self.view_is
    (settled_anew c.args.exchange.now start done old c.in_ok-after.after c.in-Faulted.fault c.in-Faulted.point
    d.new.waiting.waiting a.new.waiting.waiting d.new.events.events a.new.events.events d.result (b.ended + 1)
    (b.restarts + 1) (b.running - 1)
    k.chains a.new.chains.chains k.dead a.new.chains.dead c.reserve-2.new.self.chains
    sent c.if-forlopp-eq0.true c.in-Faulted.is c.in_ok-after.ensures c.reserve-2.ensures.chains one refl
    a.ensures.waiting a.ensures.chains a.ensures.dead a.ensures.events)

-- src/retire.rt:56:5
pub invariant_of-self-2 : goal.invariant_of-self-2
invariant_of-self-2 c =
    let b = c.self.inside in
    let old : Account = account b.schedule b.waiting.waiting b.chains.chains b.chains.dead b.events.events b.next b.ended b.restarts b.running b.limit in
    let f = c.args.start.now.job.forlopp in
    let d = c.deliver_all-self-inside in
    let k = c.keep_chain.new.chains in
    let r = c.release in
    let may : MayBe old.state f = subst (λ (o : Account). MayBe o.state f) (sym c.self.view_is) c.requires.forlopp in
    let one : (b.running - 1) + 1 ≡ b.running = omega (arith, c.requires.running, ap (λ (o : Account). o.running) c.self.view_is) in
    let few : d.result ≤ b.next + MOST_SENT = omega (arith, d.ensures.few, c.as_slice-sends.ensures.room, ap length c.as_slice-sends.ensures.items) in
    let own = chains_kept old f c.args.done.now.chain c.reserve-2.new.self.chains k.chains d.result c.self.invariant may
    c.reserve-2.ensures.chains c.keep_chain.ensures.chains d.ensures.up in
    let held = chains_released old f k.chains r.new.chains.chains d.result (b.ended + 1) may c.if-forlopp-eq0.false d.ensures.up r.ensures.chains own in
    retired_kept old r.new.waiting.waiting r.new.events.events d.result (b.ended + 1) b.restarts (b.running - 1) r.new.chains.chains r.new.chains.dead
    c.self.invariant refl one (omega arith) d.ensures.up few held.0 held.1

-- src/retire.rt:56:5
pub returns : goal.returns
returns c =
    let b = c.self.inside in
    let old : Account = account b.schedule b.waiting.waiting b.chains.chains b.chains.dead b.events.events b.next b.ended b.restarts b.running b.limit in
    let start = c.args.start.now in
    let done = c.args.done.now in
    let d = c.deliver_all-self-inside in
    let k = c.keep_chain.new.chains in
    let r = c.release in
    let one : (b.running - 1) + 1 ≡ b.running = omega (arith, c.requires.running, ap (λ (o : Account). o.running) c.self.view_is) in
    let sent = are_sent start done c.as_slice-sends.result.now old.state c.reserve_each.new.waiting.waiting
    d.new.waiting.waiting c.reserve.new.self.events d.new.events.events b.next d.result (b.ended + 1)
    c.reserve-2.new.self.chains k.chains c.reserve-2.new.self.dead k.dead
    c.as_slice-sends.ensures.items c.reserve_each.ensures.waiting c.reserve.ensures.events refl
    c.reserve-2.ensures.chains c.reserve-2.ensures.dead refl d.ensures.state c.keep_chain.ensures.chains
    c.keep_chain.ensures.dead in
    subst (λ (o : Account). HasSettled c.args.exchange.now start done o
    (moved old r.new.waiting.waiting r.new.events.events d.result (b.ended + 1) b.restarts (b.running - 1)
    r.new.chains.chains r.new.chains.dead) c.in_ok-after.after.stores) c.self.view_is
    (settled_released c.args.exchange.now start done old c.in_ok-after.after c.in-Faulted.fault c.in-Faulted.point
    d.new.waiting.waiting r.new.waiting.waiting d.new.events.events r.new.events.events d.result (b.ended + 1)
    (b.running - 1)
    k.chains r.new.chains.chains k.dead r.new.chains.dead c.reserve-2.new.self.chains
    sent c.if-forlopp-eq0.false c.in-Faulted.is c.in_ok-after.ensures one r.ensures.waiting r.ensures.chains r.ensures.dead r.ensures.events)
