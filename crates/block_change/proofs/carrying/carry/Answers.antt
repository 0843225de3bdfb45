use Rattle.run_books.specs.Accounts.{with_words}
use Rattle.run_books.specs.Parts.{account_of}
use Rattle.block_change.proofs.Moved.{levels_there, parts_carried, parts_kept, parts_valid}
use Rattle.block_change.proofs.Moved.{records_there}
use Rattle.block_change.proofs.carrying.carry.Goals as goal

pub carried_parts-requires : goal.carried_parts-requires
carried_parts-requires c = record {
  levels = levels_there c.args.old.now
      (with_words (account_of c.args.parts).state c.args.words.now) c.requires.standing.valid;
}

pub all_words-requires-clause-records : goal.all_words-requires-clause-records
all_words-requires-clause-records c =
    records_there c.args.old.now c.args.new.now.exchange.now
    (with_words (account_of c.args.parts).state c.args.words.now) c.in_ok-moved.moved.chains.chains c.kept.ensures
    c.kept-2.ensures c.requires.fits c.requires.standing.valid c.in_ok-moved.ensures.chains

pub returns-clause-carried : goal.returns-clause-carried
returns-clause-carried c = parts_carried c.args.old.now c.args.new.now.exchange.now c.args.parts c.in_ok-moved.moved
    c.in_ok-moved.ensures c.args.words.now c.as_slice.result.now c.in_ok-carried.carried c.as_slice.ensures
    c.in_ok-carried.ensures

pub returns-clause-standing : goal.returns-clause-standing
returns-clause-standing c = record {
  are_parts = parts_kept c.args.old.now c.args.new.now.exchange.now c.args.parts c.in_ok-moved.moved c.in_ok-moved.ensures c.requires.standing.are_parts;
  valid = parts_valid c.args.old.now c.args.new.now.exchange.now c.args.parts c.in_ok-moved.moved c.in_ok-moved.ensures
      c.args.words.now c.as_slice.result.now c.in_ok-carried.carried c.as_slice.ensures c.kept.ensures c.kept-2.ensures
      c.requires.fits c.requires.standing.valid c.in_ok-carried.ensures;
}
