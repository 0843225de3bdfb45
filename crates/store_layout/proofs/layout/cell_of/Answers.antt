use Rattle.store_layout.proofs.Looking.{file_cell_found, row_found, rows_short, some_block}
use Rattle.store_layout.proofs.Looking.{some_file, variable_found}
use Rattle.store_layout.proofs.layout.cell_of.Goals as goal

pub block_before-block-requires-clause-some : goal.block_before-block-requires-clause-some
block_before-block-requires-clause-some c = some_block c.args.layout.now c.args.word c.requires

pub block_before-block-requires-clause-short : goal.block_before-block-requires-clause-short
block_before-block-requires-clause-short c = rows_short c.args.layout.now c.args.word c.requires

pub returns-then-word-row-clause-cell : goal.returns-then-word-row-clause-cell
returns-then-word-row-clause-cell c = λ blocks laid.
    (variable_found blocks c.args.layout.now c.args.word c.block_before-block.result c.block_at-row.result laid
    c.block_before-block.ensures c.block_at-row.ensures c.if-word-row.true).0

pub returns-then-word-row-clause-number : goal.returns-then-word-row-clause-number
returns-then-word-row-clause-number c = λ blocks laid.
    (variable_found blocks c.args.layout.now c.args.word c.block_before-block.result c.block_at-row.result laid
    c.block_before-block.ensures c.block_at-row.ensures c.if-word-row.true).1

pub file_before-file-requires : goal.file_before-file-requires
file_before-file-requires c = some_file c.args.layout.now c.args.word c.block_before-block.result c.block_at-row.result
    c.requires c.block_before-block.ensures c.block_at-row.ensures c.if-word-row.false

pub cell_in-requires-clause-some : goal.cell_in-requires-clause-some
cell_in-requires-clause-some c =
    (row_found c.args.layout.now c.args.word c.block_before-block.result c.file_before-file.result c.block_at-row.result
    c.file_at.result c.requires c.block_before-block.ensures c.block_at-row.ensures c.if-word-row.false
    c.file_before-file.ensures c.file_at.ensures).1

pub returns-clause-cell : goal.returns-clause-cell
returns-clause-cell c = λ blocks laid.
    (file_cell_found blocks c.args.layout.now c.args.word c.block_before-block.result c.file_before-file.result
    c.block_at-row.result c.file_at.result c.cell_in.result c.requires laid c.block_before-block.ensures
    c.block_at-row.ensures c.if-word-row.false c.file_before-file.ensures c.file_at.ensures c.cell_in.ensures).0

pub returns-clause-number : goal.returns-clause-number
returns-clause-number c = λ blocks laid.
    (file_cell_found blocks c.args.layout.now c.args.word c.block_before-block.result c.file_before-file.result
    c.block_at-row.result c.file_at.result c.cell_in.result c.requires laid c.block_before-block.ensures
    c.block_at-row.ensures c.if-word-row.false c.file_before-file.ensures c.file_at.ensures c.cell_in.ensures).1
