use Rattle.std.proofs.Common.{◌≡◌, ◌≤◌, ◌^◌, max, drop}
use Rattle.operations.specs.Rows.{dot_view}
use Rattle.replica.specs.Changes.{time_replaced}
use Rattle.replica.specs.SiteViews.{greatest}
use Rattle.reference_model.specs.Plain.{knowledge_of, setting_of}
use Rattle.reference_model.proofs.replaced.last_replaced.Given as goal

-- the greatest so far, and of what is left, is that of all
abbrev pub invariant-loop-dot : goal.invariant-loop-dot
invariant-loop-dot l = record {
  greatest_is : max l.last (greatest (λ d. time_replaced (dot_view (knowledge_of l.operations)) (setting_of l.setting) d.0) (drop l.dot-index l.dots))
      ≡ greatest (λ d. time_replaced (dot_view (knowledge_of l.operations)) (setting_of l.setting) d.0) l.dots;
  limit : l.last ≤ 2 ^ 40;
}
