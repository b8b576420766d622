use Rattle.std.proofs.Common.{◌++◌}
use Rattle.std.proofs.lemmas.List.Elements.{Contains-append_left, Contains-append_right}
use Rattle.operations.proofs.CountLaws.{queue_above, queue_grows}
use Rattle.operations.proofs.laws.totals_do_not_fall.Goals as goal

pub returns-clause-each_site : goal.returns-clause-each_site
returns-clause-each_site c = queue_above

pub returns-clause-more_after : goal.returns-clause-more_after
returns-clause-more_after c = λ k more queue calls. queue_grows k (k ++ more) (λ o. Contains-append_left k more o) queue calls

pub returns-clause-more_before : goal.returns-clause-more_before
returns-clause-more_before c = λ k more queue calls. queue_grows k (more ++ k) (λ o. Contains-append_right more k o) queue calls
