use Rattle.std.proofs.Common.{◌≡◌, ◌≤◌, take}
use Rattle.dots.specs.declared.limits.TheConstants.{MOST_COUNT}
use Rattle.member_orset.specs.Members.{dot_view_of}
use Rattle.replica.specs.Changes.{time_replaced}
use Rattle.replica.specs.Settings.{setting_of}
use Rattle.replica.specs.SiteViews.{greatest}
use Rattle.replica.proofs.setting.latest_replaced.Given as goal

-- the latest of the dots so far
abbrev pub invariant-loop-dot : goal.invariant-loop-dot
invariant-loop-dot l = record {
  value : l.latest ≡ greatest (time_replaced (dot_view_of l.members) (setting_of l.setting)) (take l.dot-index l.dots);
  limit : l.latest ≤ MOST_COUNT;
}
