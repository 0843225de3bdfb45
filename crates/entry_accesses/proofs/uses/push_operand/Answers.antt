use Rattle.std.proofs.Common.{subst}
use Rattle.entry_accesses.specs.Numbered.{IsNumbered}
use Rattle.entry_accesses.specs.Operands.{named}
use Rattle.entry_accesses.proofs.Numbering.{variable_has, field_has}
use Rattle.entry_accesses.proofs.uses.push_operand.Goals as goal

pub variable-number-requires : goal.variable-number-requires
variable-number-requires c =
    variable_has c.args.here.now.exchange.now c.args.here.now.numbers.now c.args.here.now.block c.in-Variable.variable
    c.requires.numbers (subst (λ o. IsNumbered c.args.here.now.exchange.now c.args.here.now.block (named o))
    c.in-Variable.is c.requires.numbered)

pub field-number-requires : goal.field-number-requires
field-number-requires c =
    field_has c.args.here.now.exchange.now c.args.here.now.numbers.now c.args.here.now.block c.in-Field.file
    c.in-Field.field c.in-Field.pointer c.requires.numbers
    (subst (λ o. IsNumbered c.args.here.now.exchange.now c.args.here.now.block (named o)) c.in-Field.is
    c.requires.numbered)
