use Rattle.std.proofs.Common.{rules, ◌∙◌}
use Rattle.run_books.proofs.Written.{wrote_more}
use Rattle.run_books.proofs.stores.make_stores.Goals as goal

pub loop-store-preserved : goal.loop-store-preserved
loop-store-preserved g c = (
  wrote_more (g.W.Words.values c.args.words.now) (g.W.Words.told c.args.words.now) c.args.stores.now c.loop-store.store-index
      (g.W.Words.values c.loop-store.words) (g.W.Words.values c.make_store.new.words)
      (g.W.Words.told c.loop-store.words) (g.W.Words.told c.make_store.new.words)
      (record { word = 0; value = 0 }) c.loop-store-test.true c.make_store.ensures.values c.make_store.ensures.told c.loop-store.invariant.0,
  c.make_store.ensures.allowed.0 ∙ c.loop-store.invariant.1,
  c.make_store.ensures.allowed.1 ∙ c.loop-store.invariant.2,
  search (rules),
)
