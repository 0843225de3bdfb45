use Rattle.std.proofs.Common.{◌∙◌, ap, rules}
use Rattle.std.proofs.lemmas.List.Sorted.{answers_always, IsNonDecreasingBy-from_sort}
use Rattle.job_table.specs.Merged.{by_count}
use Rattle.job_table.proofs.Sorting.{by_count-sorted, count_of}
use Rattle.job_table.proofs.merging.by_count.Goals as goal

pub returns-in-Ok : goal.returns-in-Ok
returns-in-Ok c =
    let keys = answers_always _ _ _ (λ f a r next called. search rules) in
    let before = c.into_vec-items.result.items in
    let after = c.sort_by_key.new.self.items in
    c.from_vec.ensures
    ∙ by_count-sorted before after (IsNonDecreasingBy-from_sort count_of after (c.in-Ok.ensures.sorted count_of keys))
    (c.sort_by_key.ensures.stable count_of keys)
    ∙ ap by_count c.into_vec-items.ensures
