use Rattle.std.proofs.Common.{◌∙◌}
use Rattle.forlopp_chain.proofs.Freed.{freed-Some, freed-None}
use Rattle.forlopp_chain.proofs.seizing.free.Goals as goal

-- the record was found
pub returns-in-Some-clause-held : goal.returns-in-Some-clause-held
returns-in-Some-clause-held c =
    (freed-Some c.args.held.file c.args.held.number c.args.chain.now c.in-Some.place (rw c.as_slice.ensures.items at c.in-Some.ensures.place)).1

pub returns-in-Some-clause-chain : goal.returns-in-Some-clause-chain
returns-in-Some-clause-chain c = c.remove.ensures.left
    ∙ (freed-Some c.args.held.file c.args.held.number c.args.chain.now c.in-Some.place (rw c.as_slice.ensures.items at c.in-Some.ensures.place)).0

-- it stands nowhere
pub returns-in-None-clause-held : goal.returns-in-None-clause-held
returns-in-None-clause-held c =
    (freed-None c.args.held.file c.args.held.number c.args.chain.now (rw c.as_slice.ensures.items at c.in-None.ensures.place)).1

pub returns-in-None-clause-chain : goal.returns-in-None-clause-chain
returns-in-None-clause-chain c =
    (freed-None c.args.held.file c.args.held.number c.args.chain.now (rw c.as_slice.ensures.items at c.in-None.ensures.place)).0
