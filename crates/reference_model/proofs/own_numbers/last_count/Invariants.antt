use Rattle.std.proofs.Common.{◌≡◌, ◌≤◌, ◌^◌, max, drop}
use Rattle.replica.specs.SiteViews.{count_used, greatest}
use Rattle.reference_model.specs.Plain.{knowledge_of}
use Rattle.reference_model.proofs.own_numbers.last_count.Given as goal

-- the greatest so far, and of what is left, is that of all
abbrev pub invariant-loop-operation : goal.invariant-loop-operation
invariant-loop-operation l = record {
  greatest_is : max l.last (greatest (count_used l.site) (knowledge_of (drop l.operation-index l.operations))) ≡ greatest (count_used l.site) (knowledge_of l.operations);
  limit : l.last ≤ 2 ^ 40;
}
