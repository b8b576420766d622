-- The sites of the dots up to the one at hand lie between the two numbers.
use Rattle.std.proofs.Common.{◌≤◌, ◌<◌, take}
use Rattle.std.specs.List.{All}
use Rattle.member_orset.proofs.seen.sites_of.Given as goal

abbrev pub invariant-loop-dot : goal.invariant-loop-dot
invariant-loop-dot l = record {
  limit : l.end ≤ 64;
  first : All (λ d. l.first ≤ d.site) (take l.dot-index l.given);
  end : All (λ d. d.site < l.end) (take l.dot-index l.given);
}
