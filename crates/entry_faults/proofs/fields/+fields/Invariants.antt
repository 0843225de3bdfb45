use Rattle.std.proofs.Common.{◌≡◌, ◌++◌, drop, map}
use Rattle.exchange_model.specs.Inside.{joined}
use Rattle.source_meaning.specs.Named.{named_in, named_in_term, named_in_joined}
use Rattle.entry_faults.specs.Fields.{pointers_named}
use Rattle.entry_faults.proofs.fields.+fields.Given as goal

abbrev pub invariant-push_fields-loop-term : goal.invariant-push_fields-loop-term
invariant-push_fields-loop-term l = l.pointers
    ++ pointers_named (joined (map named_in_term (drop l.term-index l.term-items))) ≡ l.fn.pointers
    ++ pointers_named (named_in l.e)

abbrev pub invariant-push_fields_of_term-loop-joined : goal.invariant-push_fields_of_term-loop-joined
invariant-push_fields_of_term-loop-joined l = l.pointers
    ++ pointers_named (joined (map named_in_joined (drop l.joined-index l.joined-items))) ≡ l.fn.pointers
    ++ pointers_named (named_in_term l.term)
