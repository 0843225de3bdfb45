use Rattle.std.proofs.Common.{◌≤◌, length, get_or, rules}
use Rattle.std.proofs.lemmas.Grind.{common_steps}
use Rattle.std.proofs.lemmas.List.{get_or_default}
use Rattle.plex_num.proofs.Lists.{all_here}
use Rattle.job_types.specs.declared.chain.Held.{Held}
use Rattle.source_meaning.specs.Valid.{IsRecord}
use Rattle.block_change.proofs.Wording.{has_mark, mark_inside, mark_of, marks_end, marks_more}
use Rattle.block_change.proofs.words.mark_all.Goals as goal

pub word_of-word-requires : goal.word_of-word-requires
word_of-word-requires c =
    let h : Held = get_or c.args.records.now c.loop-held.held-index (record { file = 0; number = 0 }) in
    let fits : IsRecord c.args.new.now h = all_here (IsRecord c.args.new.now) c.args.records.now c.loop-held.held-index
    h c.requires.records c.loop-held-test.true
    (get_or_default c.args.records.now c.loop-held.held-index (record { file = 0; number = 0 }) h
    c.loop-held-test.true) in
    has_mark c.args.new.now c.args.layout.now h c.requires.layout fits

pub set-requires : goal.set-requires
set-requires c =
    let h : Held = get_or c.args.records.now c.loop-held.held-index (record { file = 0; number = 0 }) in
    let fits : IsRecord c.args.new.now h = all_here (IsRecord c.args.new.now) c.args.records.now c.loop-held.held-index
    h c.requires.records c.loop-held-test.true
    (get_or_default c.args.records.now c.loop-held.held-index (record { file = 0; number = 0 }) h
    c.loop-held-test.true) in
    let number = c.word_of-word.ensures c.args.new.now.blocks c.requires.layout (mark_of c.args.new.now h fits) in
    mark_inside c.args.new.now h c.word_of-word.result (length c.loop-held.words) c.kept.ensures fits number c.loop-held.invariant.whole

pub loop-held-preserved : goal.loop-held-preserved
loop-held-preserved c =
    let h : Held = get_or c.args.records.now c.loop-held.held-index (record { file = 0; number = 0 }) in
    let is = get_or_default c.args.records.now c.loop-held.held-index (record { file = 0; number = 0 }) h c.loop-held-test.true in
    let fits : IsRecord c.args.new.now h = all_here (IsRecord c.args.new.now) c.args.records.now c.loop-held.held-index
    h c.requires.records c.loop-held-test.true is in
    let number = c.word_of-word.ensures c.args.new.now.blocks c.requires.layout (mark_of c.args.new.now h fits) in
    marks_more c.args.new.now c.args.words.now c.loop-held.words c.set.new.self c.args.records.now
    c.loop-held.held-index c.word_of-word.result h c.kept.ensures c.loop-held-test.true is fits number c.set.ensures
    c.loop-held.invariant

pub returns : goal.returns
returns c = λ x store are.
    let past : length c.args.records.now ≤ c.loop-held.held-index = search (rules, common_steps) in
    marks_end c.args.new.now c.args.words.now c.loop-held.words c.args.records.now c.loop-held.held-index past c.loop-held.invariant x store are
