use Rattle.std.proofs.Common.{◌≡◌}
use Rattle.run_books.proofs.Written.{Wrote}
use Rattle.run_books.proofs.stores.make_stores.Given as goal

abbrev pub invariant-loop-store : goal.invariant-loop-store
invariant-loop-store g l =
    Wrote (g.W.Words.values l.fn.words) (g.W.Words.told l.fn.words) l.stores l.store-index (g.W.Words.values l.words) (g.W.Words.told l.words)
    × (g.W.Words.may_read l.words ≡ g.W.Words.may_read l.fn.words) × (g.W.Words.may_write l.words ≡ g.W.Words.may_write l.fn.words)
    × g.W.Words.like l.fn.words l.words
