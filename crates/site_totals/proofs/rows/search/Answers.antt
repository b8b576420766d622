use Rattle.std.proofs.Common.{rules}
use Rattle.std.proofs.lemmas.List.Sorted.{answers_always}
use Rattle.operations.specs.Totals.{key_cmp}
use Rattle.general_lemmas.proofs.SortedEntries.{searched_at, searched_gap}
use Rattle.operations.proofs.TotalsLaws.{keys_total, exact_keys}
use Rattle.site_totals.proofs.rows.search.Goals as goal

pub returns-clause-found : goal.returns-clause-found
returns-clause-found c =
    let facts = c.binary_search_by_key.ensures in
    searched_at key_cmp keys_total exact_keys _ _ _ facts.bound (facts.position (λ row. row.0) (answers_always _ _ _ (λ f a r g called. search rules)))

pub returns-clause-absent : goal.returns-clause-absent
returns-clause-absent c =
    let facts = c.binary_search_by_key.ensures in
    searched_gap key_cmp keys_total _ _ c.requires _ facts.bound (facts.position (λ row. row.0) (answers_always _ _ _ (λ f a r g called. search rules)))
