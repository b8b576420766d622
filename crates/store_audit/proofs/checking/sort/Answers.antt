use Rattle.std.proofs.Common.{of_calls, rules}
use Rattle.std.proofs.lemmas.List.Sorted.{IsNonDecreasingBy-from_sort_by_key}
use Rattle.store_audit.specs.Stores.{site_number}
use Rattle.store_audit.proofs.checking.sort.Goals as goal

-- each call of the closure gives the number of the site
pub returns-clause-rising : goal.returns-clause-rising
returns-clause-rising c = IsNonDecreasingBy-from_sort_by_key site_number _ c.sort_unstable_by_key.ensures.sorted (λ a r q k. search (rules, of_calls))
