use Rattle.std.proofs.Common.{◌∙◌, subst}
use Rattle.block_change.specs.Carried.{AreCarriedWords}
use Rattle.block_change.proofs.words.all_words.Goals as goal

pub returns : goal.returns
returns c =
    subst (λ rs. AreCarriedWords c.args.old.now.exchange.now c.args.new.now c.args.words.now rs c.mark_all.new.words)
    (c.as_slice.ensures ∙ c.in_ok-records.ensures.records)
    (c.mark_all.ensures c.args.old.now.exchange.now c.args.words.now c.in_ok-carried.ensures)
