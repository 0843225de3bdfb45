use Rattle.std.proofs.Common.{◌≡◌, drop, map}
use Rattle.std.specs.List.{list_any}
use Rattle.entry_additions.specs.Naming.{expr_names, joined_names, named_of, term_names}
use Rattle.entry_additions.proofs.naming.+names.Given as goal

abbrev pub invariant-term_names-loop-joined : goal.invariant-term_names-loop-joined
invariant-term_names-loop-joined l = list_any (λ t. t)
    (map (joined_names (named_of l.of)) (drop l.joined-index l.joined-items)) ≡ term_names (named_of l.of) l.term

abbrev pub invariant-expr_names-loop-term : goal.invariant-expr_names-loop-term
invariant-expr_names-loop-term l = list_any (λ t. t) (map (term_names (named_of l.of)) (drop l.term-index l.term-items)) ≡ expr_names (named_of l.of) l.e
