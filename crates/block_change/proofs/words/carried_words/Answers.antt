use Rattle.std.proofs.Common.{◌≡◌, ◌<◌, ◌∙◌, arith}
use Rattle.exchange_model.specs.Cells.{cell_count}
use Rattle.block_change.proofs.Wording.{words_end, words_more}
use Rattle.block_change.proofs.words.carried_words.Goals as goal

pub cell_of-cell-requires : goal.cell_of-cell-requires
cell_of-cell-requires c =
    let below : c.loop-word.word < cell_count c.args.new.now.blocks = (let inside = c.loop-word-test.true in let
    all = c.words-count.ensures in let cells = c.requires.new_layout.cells in omega (arith, inside, all, cells)) in
    record { blocks = c.args.new.now.blocks; layout = c.requires.new_layout; below = below }

pub loop-word-preserved : goal.loop-word-preserved
loop-word-preserved c =
    let blocks = c.args.new.now.blocks in
    words_more c.args.old.now.exchange.now c.args.new.now c.args.words.now c.loop-word.carried c.push.new.self
    c.loop-word.word c.carried_value.result c.cell_of-cell.result
    (c.cell_of-cell.ensures.cell blocks c.requires.new_layout)
    (c.cell_of-cell.ensures.number blocks c.requires.new_layout) c.carried_value.ensures c.in_ok-push.ensures
    c.loop-word.invariant

pub returns : goal.returns
returns c =
    let past = c.loop-word-test.false in
    let upto = c.loop-word.auto.word-end in
    let all : c.loop-word.word ≡ c.words-count.result = omega (arith, past, upto) in
    words_end c.args.old.now.exchange.now c.args.new.now c.args.words.now c.loop-word.carried c.loop-word.word
    c.words-count.result c.kept.ensures (c.words-count.ensures ∙ c.requires.new_layout.cells) all
    c.loop-word.invariant
