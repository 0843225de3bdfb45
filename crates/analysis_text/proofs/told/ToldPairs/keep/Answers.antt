use Rattle.std.proofs.Common.{rules, ◌<◌, length}
use Rattle.std.proofs.lemmas.Grind.{common_steps}
use Rattle.analysis_text.proofs.Telling.{kept_told}
use Rattle.analysis_text.proofs.told.ToldPairs.keep.Goals as goal

pub returns-then-place-len : goal.returns-then-place-len
returns-then-place-len c =
    let inside : c.place_of-place.result < length c.args.self.now.pairs.items = search (rules, common_steps) in
    λ summaries all told. kept_told summaries c.args.self.now.pairs.items c.place_of-place.result c.args.pair inside all told
