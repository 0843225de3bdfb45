-- The signals of a tree that breaks no rule are those of an exchange.
use Rattle.std.proofs.Common.{◌≤◌, List, [], ◌∷◌, length, map}
use Rattle.std.specs.List.{AllByRecursion}
use Rattle.exchange_model.specs.declared.signal.SignalKind.{SignalKind}
use Rattle.exchange_model.specs.Kept.{SignalsKept, signal_count}
use Rattle.plex_ast.specs.declared.tree.Tree.{Tree}
use Rattle.signal_types.specs.Signals.{signals_of}
use Rattle.plex_limits.specs.declared.limits.TheConstants.{MOST_SIGNALS}
use Rattle.text_soundness.proofs.FineParts.{FineParts}
use Rattle.text_soundness.proofs.SignalsOnce.{names_distinct, counts_within}
use Rattle.text_soundness.proofs.SignalsAnswered.{all_answered}

of_each : (list : List SignalKind) → AllByRecursion (λ n. n ≤ 8) (map signal_count list) → AllByRecursion (λ s. signal_count s ≤ 8) list
of_each [] h = tt
of_each (s ∷ rest) h = (h.0, of_each rest h.1)

pub signals_kept : (t : Tree) → FineParts t → length (signals_of t) ≤ MOST_SIGNALS → SignalsKept (signals_of t)
signals_kept t f few = record {
  few = few;
  names = names_distinct t f;
  values = of_each (signals_of t) (counts_within t f);
  answers = all_answered t;
}
