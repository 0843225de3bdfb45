use Rattle.machine_code.specs.Operands.{OpFits}
use Rattle.std.proofs.Common.{subst}
use Rattle.std.specs.List.{AllByRecursion}
use Rattle.std.proofs.lemmas.List.Elements.{recursion_from_All}
use Rattle.stmt_code.proofs.Addresses.{texts_stand}
use Rattle.stmt_code.proofs.NarrowCode.{operands_fit}
use Rattle.stmt_code.proofs.WholeRuns.{whole_faithful}
use Rattle.stmt_code.proofs.laws.whole_code_is_faithful.Goals as goal

pub returns-clause-operands : goal.returns-clause-operands
returns-clause-operands c = operands_fit c.args.exchange.now c.args.code.now.ops c.kept.ensures
    c.files_are_numbered.ensures c.requires.ops c.numbers_are_words.ensures

pub returns-clause-faithful : goal.returns-clause-faithful
returns-clause-faithful c =
    let x = c.args.exchange.now in
    let fits = operands_fit x c.args.code.now.ops c.kept.ensures c.files_are_numbered.ensures c.requires.ops c.numbers_are_words.ensures in
    let each = recursion_from_All OpFits c.args.code.now.ops fits in
    whole_faithful x c.args.code.now c.kept.ensures (texts_stand x (subst (AllByRecursion OpFits) c.requires.ops each)) c.requires.ops c.requires.entries
