use Rattle.std.proofs.Common.{◌≡◌, flat_map, take}
use Rattle.job_types.specs.Forlopps.{chain_at}
use Rattle.forlopp_chain.proofs.held.HeldChains.records_of.Given as goal

-- the chains of the numbers so far
abbrev pub invariant-loop-number : goal.invariant-loop-number
invariant-loop-number l = l.records ≡ flat_map (chain_at l.self.chains) (take l.number-index l.numbers)
