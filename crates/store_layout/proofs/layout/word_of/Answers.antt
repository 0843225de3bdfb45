use Rattle.std.proofs.Common.{◌∙◌, arith}
use Rattle.store_layout.proofs.Looking.{field_fits, field_within, field_word, mark_fits}
use Rattle.store_layout.proofs.Looking.{mark_within, mark_word, variable_fits, variable_within}
use Rattle.store_layout.proofs.Looking.{variable_word}
use Rattle.store_layout.proofs.layout.word_of.Goals as goal

-- a variable

pub block_at-requires : goal.block_at-requires
block_at-requires c = variable_within c.args.layout.now c.args.cell c.in-Variable.block c.in-Variable.index c.requires c.in-Variable.is

pub overflow_add-result : goal.overflow_add-result
overflow_add-result c =
    omega (
      arith,
      variable_fits c.args.layout.now c.args.cell c.in-Variable.block c.in-Variable.index c.block_at.result
          c.requires c.in-Variable.is c.block_at.ensures,
    )

pub returns-in-Variable : goal.returns-in-Variable
returns-in-Variable c = λ blocks laid cell. variable_word blocks c.args.layout.now c.args.cell c.in-Variable.block
    c.in-Variable.index c.block_at.result c.block_at.ensures c.in-Variable.is laid cell

-- a field

pub file_at-requires : goal.file_at-requires
file_at-requires c = field_within c.args.layout.now c.args.cell c.in-Field.file c.in-Field.number c.in-Field.field c.requires c.in-Field.is

pub word_in-requires : goal.word_in-requires
word_in-requires c =
    omega (
      arith,
      field_fits c.args.layout.now c.args.cell c.in-Field.file c.in-Field.number c.in-Field.field
          c.file_at.result c.requires c.in-Field.is c.file_at.ensures,
    )

pub returns-in-Field : goal.returns-in-Field
returns-in-Field c = λ blocks laid cell.
    c.word_in.ensures ∙ field_word blocks c.args.layout.now c.args.cell c.in-Field.file c.in-Field.number
    c.in-Field.field c.file_at.result c.file_at.ensures c.in-Field.is laid cell

-- a mark

pub file_at-row-requires : goal.file_at-row-requires
file_at-row-requires c = mark_within c.args.layout.now c.args.cell c.in-Mark.file c.in-Mark.number c.requires c.in-Mark.is

pub word_in-requires-in-Mark : goal.word_in-requires-in-Mark
word_in-requires-in-Mark c =
    omega (arith, mark_fits c.args.layout.now c.args.cell c.in-Mark.file c.in-Mark.number c.file_at-row.result c.requires c.in-Mark.is c.file_at-row.ensures)

pub returns-in-Mark : goal.returns-in-Mark
returns-in-Mark c = λ blocks laid cell.
    c.word_in-in-Mark.ensures ∙ mark_word blocks c.args.layout.now c.args.cell c.in-Mark.file c.in-Mark.number
    c.file_at-row.result c.file_at-row.ensures c.in-Mark.is laid cell
